-- What is left of a page, and its next offset, as the graph tells them.
use Rattle.std.proofs.Common.{◌≡◌, inl, inr, ◌⊎◌, ℕ, zero, suc, ◌+◌, ◌-◌, ◌*◌, ◌<◌, ◌≤◌, ◌==◌, ◌&&◌, ◌||◌, Bool, true, false, cond, List, [], ◌∷◌, length, get_or, take, sum_by, Option, Some, None, refl, sym, ap, subst, ◌∙◌, arith}
use Rattle.std.specs.Prelude.{slice_get, nat_le, flat_map}
use Rattle.std.specs.List.{All, list_all}
use Rattle.std.specs.Option.{option_map, option_and_then}
use Rattle.std.specs.FinMap as fin
use Rattle.std.proofs.lemmas.Bool.{and_parts, eqb-true, eq-eqb, ne_eqb, le-leb, leb-true, false_from_ne_true, cases_lt, cases_eq}
use Rattle.std.proofs.lemmas.List.{take_all}
use Rattle.std.proofs.lemmas.List.Sums.{sum_by-cons, sum_by_more}
use Rattle.std.proofs.lemmas.Option.{slice_get_within, slice_get-get_or, get_or_from_slice_get}
use Rattle.index_sizes.specs.declared.limits.TheConstants.{MOST_BLOCKS}
use Rattle.index_sizes.specs.Sizes.{item_need, element_size, links_size, slots_of_level}
use Rattle.vec_names.specs.declared.tid.Tid.{Tid}
use Rattle.vec_names.specs.declared.params.Params.{Params}
use Rattle.vec_names.specs.Params.{IsInRange}
use Rattle.vec_names.specs.Places.{same_tid}
use Rattle.page_bytes.specs.Content.{Content, IsPage, item_at, round8, taken, free_of}
use Rattle.vec_tuples.specs.declared.element.Element.{Element}
use Rattle.vec_tuples.specs.declared.element.ElementHead.{ElementHead}
use Rattle.vec_tuples.specs.declared.links.Links.{Links}
use Rattle.vec_tuples.specs.Spelling.{head_of_element}
use Rattle.vec_tuples.specs.Reading.{element, links}
use Rattle.vec_tuples.proofs.ElementLaws.{element_field}
use Rattle.vec_tuples.proofs.LinksLaws.{links_field}
use Rattle.vec_tuples.proofs.SlotPlaces.{length-links_bytes}
use Rattle.vec_graph.specs.declared.node.Node.{Node}
use Rattle.vec_graph.specs.declared.graph.Graph.{Graph}
use Rattle.vec_graph.specs.Graph.{node_at}
use Rattle.vec_graph.specs.Places.{one_if, element_need, list_need, taken_on, room, last_off, greatest_off, next_off}
use Rattle.page_redo.specs.PageTuples.{in_whole}
use Rattle.page_redo.proofs.ItemLaws.{whole_spelled}
use Rattle.page_redo.proofs.Lengths.{length-element_bytes}
use Rattle.graph_pages.specs.Standing.{item_in, element_in, links_in, head_in, is_list_of, is_element, is_list, is_slot_below, pointer_of, pointers_on, pointers, times_in, node_with as made_of, Stands}
use Rattle.page_redo.proofs.Given.{then_is, item_bytes, got_from_all}
use Rattle.graph_pages.proofs.KindsApart.{element_is_no_list}
use Rattle.graph_pages.proofs.PagePlaces.{item_on, item_within}
use Rattle.graph_pages.proofs.Pointed.{times_both, named_once}
use Rattle.graph_pages.proofs.StandingLaws.{node_pages}
use Rattle.graph_pages.proofs.HeadEffect.{params_in_range}
use Rattle.graph_pages.proofs.RoleFits.{node_there, list_alike}
use Rattle.graph_pages.proofs.ItemAdded.{names_one, names_none}
use Rattle.graph_pages.proofs.TwoItems.{none_or_some}
use Rattle.graph_pages.proofs.PlaceTests.{place_itself, same_if_place}
use Rattle.graph_pages.proofs.EntrySums.{Entry, Has, Rises, same_sums, no_sum, sum_of_one, greatest_low, greatest_high}

-- ---- numbers

not_low : (a b : ℕ) → (a ≤ b → ⊥) → nat_le a b ≡ false
not_low a b apart = false_from_ne_true (nat_le a b) (λ is. apart (leb-true a b is))

-- what counts up to one offset more is what counts before, and what that one offset has
one_more : (w : ℕ → ℕ) (off k : ℕ) → one_if (nat_le off (k + 1)) (w off) ≡ one_if (nat_le off k) (w off) + one_if (off == k + 1) (w (k + 1))
one_more w off k = elim (cases_eq off (k + 1)) as (λ _. one_if (nat_le off (k + 1)) (w off) ≡ one_if (nat_le off k) (w off) + one_if (off == k + 1) (w (k + 1))) [
  | inl e ↦
      let same : w off ≡ w (k + 1) = ap w e in
      rw (le-leb off (k + 1) (omega (arith, e)), not_low off k (λ h. omega (arith, h, e)), eq-eqb off (k + 1) e) (omega (arith, same))
  | inr ne ↦ elim (cases_lt off (k + 1)) as (λ _. one_if (nat_le off (k + 1)) (w off) ≡ one_if (nat_le off k) (w off) + one_if (off == k + 1) (w (k + 1))) [
    | inl h ↦ rw (le-leb off (k + 1) (omega (arith, h)), le-leb off k (omega (arith, h)), ne_eqb off (k + 1) ne) (omega arith)
    | inr h ↦
        rw (not_low off (k + 1) (λ l. ne (omega (arith, h, l))), not_low off k (λ l. omega (arith, h, l)), ne_eqb off (k + 1) ne) (omega arith)
  ]
]

sum_split : (f h l : Entry → ℕ) (es : List Entry) → ((e : Entry) → f e ≡ h e + l e) → sum_by f es ≡ sum_by h es + sum_by l es
sum_split f h l [] each = refl
sum_split f h l (e ∷ es) each =
    omega (arith, sum_by-cons f e es, sum_by-cons h e es, sum_by-cons l e es, each e, sum_split f h l es each)

abbrev needs : List ℕ → ℕ
needs x = item_need (length x)

taken_need : (items : List (List ℕ)) → sum_by needs items ≡ taken items + 4 * length items
unfolding taken round8
taken_need [] = refl
taken_need (x ∷ xs) = omega (arith, sum_by-cons needs x xs, taken_need xs)

-- ---- who names a place

-- where a list names a place, one of its elements does
find_named : {X : Type 0} (f : X → List Tid) (q : Tid) (xs : List X) → 1 ≤ times_in q (flat_map f xs)
    → (i : ℕ) × (x : X) × (slice_get xs i ≡ Some x) × (1 ≤ times_in q (f x))
find_named f q [] some = let none : times_in q [] ≡ 0 = refl in absurd (omega (arith, some, none))
find_named f q (y ∷ ys) some = elim (cases_lt 0 (times_in q (f y))) [
  | inl h ↦ (0, y, refl, omega (arith, h))
  | inr h ↦
      let rest = find_named f q ys (omega (arith, some, h, times_both q (f y) (flat_map f ys))) in
      (suc rest.0, rest.1, rest.2, rest.3)
]

-- an item that names a place is an element
names_as : (p : Params) (x : List ℕ) (q : Tid) → 1 ≤ times_in q (pointer_of p x) → (e : Element) × (in_whole (element p x) ≡ Some e) × (e.list_at ≡ q)
names_as p x q some = by_item (in_whole (element p x)) refl
  where
    by_test : (e : Element) → in_whole (element p x) ≡ Some e → (test : Bool) → ((e.list_at.block == q.block) && (e.list_at.off == q.off)) ≡ test
        → (e : Element) × (in_whole (element p x) ≡ Some e) × (e.list_at ≡ q)
    by_test e is true t = (e, is, same_if_place q e.list_at t)
    by_test e is false t =
        let none : times_in q (pointer_of p x) ≡ 0 = names_one p x e q is ∙ ap (λ (b : Bool). cond b 1 0) t in
        absurd (omega (arith, some, none))

    by_item : (o : Option Element) → in_whole (element p x) ≡ o → (e : Element) × (in_whole (element p x) ≡ Some e) × (e.list_at ≡ q)
    by_item None is = absurd (omega (arith, some, names_none p x q is))
    by_item (Some e) is = by_test e is ((e.list_at.block == q.block) && (e.list_at.off == q.off)) refl

list_is : (p : Params) (h : ElementHead) (o : Option Links) → is_list_of p h o ≡ true → (l : Links) × (o ≡ Some l)
list_is p h None good = absurd cc
list_is p h (Some l) good = (l, refl)

-- ---- pages that stand for a graph

-- the element and the list of a node: what stands at its two places
record IsHeld (pages : List Content) (g : Graph) (p : Params) (q : Tid) (n : Node) : Type 0 where
  x : List ℕ
  there : item_in pages q ≡ Some x
  no_list : links_in p pages q ≡ None
  long : length x ≡ element_size g.params.bits
  u : List ℕ
  list_there : item_in pages n.list_at ≡ Some u
  l : Links
  reads : links_in p pages n.list_at ≡ Some l
  list_long : length u ≡ links_size (slots_of_level g.params.m n.level)
  named : 1 ≤ times_in n.list_at (pointer_of p x)

-- a node whose element or whose list stands at the place, and no other one's does
record IsHolder (es : List Entry) (t : Tid) : Type 0 where
  q : Tid
  n : Node
  has : Has es q n
  holds : ((q ≡ t) × (n.list_at ≡ t → ⊥)) ⊎ ((q ≡ t → ⊥) × (n.list_at ≡ t))
  alone : (r : Tid) (m : Node) → Has es r m → (r ≡ q → ⊥) → (r ≡ t → ⊥) × (m.list_at ≡ t → ⊥)

module _ (pages : List Content) (g : Graph) (few : length pages ≤ MOST_BLOCKS) (all : All IsPage pages) (s : Stands pages g) where
  abbrev p : Params
  p = s.meta.params

  abbrev es : List Entry
  es = fin.entries g.nodes

  range : IsInRange p
  range = params_in_range pages g s all

  rises : Rises es
  rises = fin.entries_sorted g.nodes

  has_node : (q : Tid) (n : Node) → Has es q n → node_at g q ≡ Some n
  has_node q n has = fin.get-entries g.nodes q ∙ has

  node_has : (q : Tid) (n : Node) → node_at g q ≡ Some n → Has es q n
  node_has q n stands = sym (fin.get-entries g.nodes q) ∙ stands

  held : (q : Tid) (n : Node) → node_at g q ≡ Some n → IsHeld pages g p q n
  held q n stands =
      let node = node_there pages g all s q n stands in
      let e = node.0 in
      let l = node.2 in
      let x = then_is (λ x. in_whole (element p x)) (item_in pages q) e node.1 in
      let c = then_is (λ (c : Content). item_at c.items q.off) (slice_get pages q.block) x.0 x.1 in
      let spelled = whole_spelled (element_field p range) x.0 e (item_bytes pages q.block q.off c.0 x.0 all c.1 c.2) x.2 in
      let points : e.list_at ≡ n.list_at = ap (λ (m : Node). m.list_at) node.4 in
      let reads : links_in p pages n.list_at ≡ Some l = ap (links_in p pages) (sym points) ∙ node.3 in
      let u = then_is (λ x. in_whole (links p x)) (item_in pages n.list_at) l reads in
      let d = then_is (λ (c : Content). item_at c.items n.list_at.off) (slice_get pages n.list_at.block) u.0 u.1 in
      let list_spelled = whole_spelled (links_field p range) u.0 l (item_bytes pages n.list_at.block n.list_at.off d.0 u.0 all d.1 d.2) u.2 in
      let alike = list_alike pages g all s q e l node.1 node.3 in
      record {
        x = x.0;
        there = x.1;
        no_list = ap (λ o. option_and_then (λ x. in_whole (links p x)) o) x.1 ∙ element_is_no_list p x.0 e x.2;
        long = ap (λ (y : List ℕ). length y) spelled.1 ∙ length-element_bytes e ∙ ap element_size (spelled.0.long ∙ ap (λ (p : Params). p.bits) (sym s.params));
        u = u.0;
        list_there = u.1;
        l = l;
        reads = reads;
        list_long = ap (λ (y : List ℕ). length y) list_spelled.1 ∙ length-links_bytes l
            ∙ ap links_size (alike.2 ∙ ap (λ (m : Node). slots_of_level p.m m.level) node.4 ∙ ap (λ (p : Params). slots_of_level p.m n.level) (sym s.params));
        named = subst (λ (z : Tid). 1 ≤ times_in z (pointer_of p x.0)) points (let one = names_one p x.0 e e.list_at x.2 ∙ ap (λ (b : Bool). cond b 1 0) (place_itself e.list_at) in omega (arith, one));
      }

  -- what stands at a place of a block is a node's element, or a node's list
  holder : (block : ℕ) (t : Tid) (x : List ℕ) → 1 ≤ block → t.block ≡ block → item_in pages t ≡ Some x → IsHolder es t
  holder block t x low same is =
      by_parts (is_element p pages (head_in p pages t)) refl
      ((node_pages pages g s block low).items t x same is)
    where
      of_element : (e : Element) → element_in p pages t ≡ Some e → is_list_of p (head_of_element e) (links_in p pages e.list_at) ≡ true → IsHolder es t
      of_element e element_is good =
          let l = list_is p (head_of_element e) (links_in p pages e.list_at) good in
          let stands : node_at g t ≡ Some (made_of e l.0) =
          s.nodes t ∙ ap (λ o. option_and_then (λ e. option_map (made_of e) (links_in p pages e.list_at)) o) element_is ∙ ap (option_map (made_of e)) l.1 in
          let here = held t (made_of e l.0) stands in
          record {
            q = t;
            n = made_of e l.0;
            has = node_has t (made_of e l.0) stands;
            holds = inl (refl, λ names. none_or_some here.l (sym here.no_list ∙ ap (links_in p pages) (sym names) ∙ here.reads));
            alone = λ r m has apart. (
              apart,
              λ names.
                  let other = held r m (has_node r m has) in
                  none_or_some other.l (sym here.no_list ∙ ap (links_in p pages) (sym names) ∙ other.reads),
            );
          }

      of_list : times_in t (pointers p pages) ≡ 1 → (l : Links) → links_in p pages t ≡ Some l → IsHolder es t
      of_list once l list_is =
          let on = find_named (pointers_on p) t pages (omega (arith, once)) in
          let at = find_named (pointer_of p) t on.1.items on.3 in
          let e = names_as p at.1 t at.3 in
          let page : IsPage on.1 = got_from_all IsPage pages on.0 on.1 all on.2 in
          let o : Tid = record {
            block = on.0;
            off = suc at.0;
            within_blocks = omega (arith, few, slice_get_within pages on.0 on.1 on.2);
            counted_from_one = omega arith;
            in_two_bytes = omega (arith, page.room, slice_get_within on.1.items at.0 at.1 at.2);
          } in
          let here : item_in pages o ≡ Some at.1 = ap (λ o. option_and_then (λ (d : Content). item_at d.items (suc at.0)) o) on.2 ∙ at.2 in
          let element_is : element_in p pages o ≡ Some e.0 = ap (λ o. option_and_then (λ x. in_whole (element p x)) o) here ∙ e.1 in
          let n = made_of e.0 l in
          let stands : node_at g o ≡ Some n =
          s.nodes o ∙ ap (λ o. option_and_then (λ e. option_map (made_of e) (links_in p pages e.list_at)) o) element_is
          ∙ ap (option_map (made_of e.0)) (ap (links_in p pages) e.2 ∙ list_is) in
          let no_element : (r : Tid) (m : Node) → node_at g r ≡ Some m → r ≡ t → ⊥ =
          (λ r m stands_there same. let other = held r m stands_there in
          none_or_some l (sym other.no_list ∙ ap (links_in p pages) same ∙ list_is)) in
          record {
            q = o;
            n = n;
            has = node_has o n stands;
            holds = inr (no_element o n stands, e.2);
            alone = λ r m has apart.
                let stands_there = has_node r m has in
                let other = held r m stands_there in (
                  no_element r m stands_there,
                  λ names. apart (named_once p pages t r o other.x at.1 once other.there here
                      (subst (λ (z : Tid). 1 ≤ times_in z (pointer_of p other.x)) names other.named) at.3),
                );
          }

      element_there : (o : Option Element) → element_in p pages t ≡ o → is_element p pages (option_map head_of_element o) ≡ true → IsHolder es t
      element_there None element_is good = absurd cc
      element_there (Some e) element_is good = of_element e element_is good

      list_there : (o : Option Links) → links_in p pages t ≡ o → is_list p pages t o ≡ true → IsHolder es t
      list_there None is good = absurd cc
      list_there (Some l) is good =
          let parts = and_parts (times_in t (pointers p pages) == 1) (list_all (is_slot_below (length pages)) l.tids) good in
          of_list (eqb-true (times_in t (pointers p pages)) 1 parts.0) l is

      by_parts : (test : Bool) → is_element p pages (head_in p pages t) ≡ test → (is_element p pages (head_in p pages t) || is_list p pages t (links_in p pages t)) ≡ true
          → IsHolder es t
      by_parts true is good = element_there (element_in p pages t) refl is
      by_parts false is good = list_there (links_in p pages t) refl (sym (ap (λ (b : Bool). b || is_list p pages t (links_in p pages t)) is) ∙ good)

  -- ---- one block

  module _ (b : ℕ) (c : Content) (low : 1 ≤ b) (there : slice_get pages b ≡ Some c) where
    abbrev n : ℕ
    n = length c.items

    -- what the item at an offset takes
    abbrev w : ℕ → ℕ
    w off = item_need (length (get_or c.items (off - 1) []))

    abbrev up_to : ℕ → Tid → ℕ
    up_to k t = one_if (t.block == b) (one_if (nat_le t.off k) (w t.off))

    abbrev at_next : ℕ → Tid → ℕ
    at_next k t = one_if (t.block == b) (one_if (t.off == k + 1) (w (k + 1)))

    abbrev both_up_to : ℕ → Entry → ℕ
    both_up_to k e = up_to k e.0 + up_to k e.1.list_at

    abbrev both_at_next : ℕ → Entry → ℕ
    both_at_next k e = at_next k e.0 + at_next k e.1.list_at

    up_to_more : (k : ℕ) (t : Tid) → up_to (k + 1) t ≡ up_to k t + at_next k t
    up_to_more k t = by_test (t.block == b)
      where
        by_test : (test : Bool) → one_if test (one_if (nat_le t.off (k + 1)) (w t.off)) ≡ one_if test (one_if (nat_le t.off k) (w t.off)) + one_if test (one_if (t.off == k + 1) (w (k + 1)))
        by_test true = one_more w t.off k
        by_test false = refl

    -- the item at a place of the block
    on_block : (t : Tid) (x : List ℕ) → t.block ≡ b → item_in pages t ≡ Some x → (t.off ≤ n) × (get_or c.items (t.off - 1) [] ≡ x)
    on_block t x same is =
        let here : item_at c.items t.off ≡ Some x = sym (item_on pages c t b there same) ∙ is in
        (item_within pages c t b x there same is, at_offset t.off here)
      where
        at_offset : (off : ℕ) → item_at c.items off ≡ Some x → get_or c.items (off - 1) [] ≡ x
        at_offset zero is = absurd cc
        at_offset (suc i) is = ap (λ j. get_or c.items j []) (let back : suc i - 1 ≡ i = omega arith in back) ∙ get_or_from_slice_get c.items i x [] is

    takes : (t : Tid) (x : List ℕ) (need : ℕ) → item_in pages t ≡ Some x → item_need (length x) ≡ need → one_if (t.block == b) need ≡ up_to n t
    takes t x need is long = by_test (t.block == b) refl
      where
        by_test : (test : Bool) → (t.block == b) ≡ test → one_if test need ≡ one_if test (one_if (nat_le t.off n) (w t.off))
        by_test false same = refl
        by_test true same =
            let here = on_block t x (eqb-true t.block b same) is in
            rw (le-leb t.off n here.0) (sym long ∙ ap (λ (y : List ℕ). item_need (length y)) (sym here.1))

    all_taken : sum_by (taken_on g b) es ≡ sum_by (both_up_to n) es
    all_taken = same_sums (taken_on g b) (both_up_to n) es rises (λ q m has.
        let h = held q m (has_node q m has) in
        let first = takes q h.x (element_need g) h.there (ap item_need h.long) in
        let second = takes m.list_at h.u (list_need g m.level) h.list_there (ap item_need h.list_long) in
        omega (arith, first, second))

    at_next_none : (k : ℕ) (t : Tid) → (t.block ≡ b → t.off ≡ k + 1 → ⊥) → at_next k t ≡ 0
    at_next_none k t apart = by_tests (t.block == b) (t.off == k + 1) refl refl
      where
        by_tests : (x y : Bool) → (t.block == b) ≡ x → (t.off == k + 1) ≡ y → one_if x (one_if y (w (k + 1))) ≡ 0
        by_tests false y e f = refl
        by_tests true false e f = refl
        by_tests true true e f = absurd (apart (eqb-true t.block b e) (eqb-true t.off (k + 1) f))

    -- the place of the next offset
    next_place : (k : ℕ) → k < n → (t : Tid) × (t.block ≡ b) × (t.off ≡ k + 1) × (item_in pages t ≡ Some (get_or c.items k []))
    next_place k h =
        let page : IsPage c = got_from_all IsPage pages b c all there in
        let t : Tid = record {
          block = b;
          off = suc k;
          within_blocks = omega (arith, few, slice_get_within pages b c there);
          counted_from_one = omega arith;
          in_two_bytes = omega (arith, page.room, h);
        } in
        (t, refl, omega arith, ap (λ o. option_and_then (λ (d : Content). item_at d.items (suc k)) o) there ∙ slice_get-get_or c.items k [] h)

    holder_next : (k : ℕ) → k < n → (t : Tid) × (t.block ≡ b) × (t.off ≡ k + 1) × IsHolder es t
    holder_next k h =
        let t = next_place k h in
        (t.0, t.1, t.2, holder b t.0 (get_or c.items k []) low t.1 t.3)

    next_once : (k : ℕ) → k < n → sum_by (both_at_next k) es ≡ w (k + 1)
    next_once k h =
        let t = holder_next k h in
        let o = t.3 in
        let full : at_next k t.0 ≡ w (k + 1) = rw (eq-eqb t.0.block b t.1, eq-eqb t.0.off (k + 1) t.2) refl in
        let none : (r : Tid) → (r ≡ t.0 → ⊥) → at_next k r ≡ 0 =
        (λ r apart. at_next_none k r (λ e f. apart (same_tid r t.0 (e ∙ sym t.1) (f ∙ sym t.2)))) in
        let one : both_at_next k (o.q, o.n) ≡ w (k + 1) = elim o.holds as (λ _. both_at_next k (o.q, o.n) ≡ w (k + 1)) [
          | inl here ↦ let a : at_next k o.q ≡ w (k + 1) = ap (at_next k) here.0 ∙ full in let z = none o.n.list_at here.1 in omega (arith, a, z)
          | inr here ↦ let a : at_next k o.n.list_at ≡ w (k + 1) = ap (at_next k) here.1 ∙ full in let z = none o.q here.0 in omega (arith, a, z)
        ] in
        sum_of_one (both_at_next k) es o.q o.n rises o.has (λ r m has apart.
        let others = o.alone r m has apart in
        let y = none r others.0 in
        let z = none m.list_at others.1 in
        omega (arith, y, z)) ∙ one

    none_first : (t : Tid) → up_to 0 t ≡ 0
    none_first t = by_test (t.block == b)
      where
        by_test : (test : Bool) → one_if test (one_if (nat_le t.off 0) (w t.off)) ≡ 0
        by_test false = refl
        by_test true = rw (not_low t.off 0 (λ l. omega (arith, l, t.counted_from_one))) refl

    first_items : (k : ℕ) → k ≤ n → sum_by (both_up_to k) es ≡ sum_by needs (take k c.items)
    first_items zero h = no_sum (both_up_to 0) es rises (λ q m has. let y = none_first q in let z = none_first m.list_at in omega (arith, y, z))
    first_items (suc k) h =
        let inside : k < n = omega (arith, h) in
        let more : sum_by (both_up_to (k + 1)) es ≡ sum_by (both_up_to k) es + sum_by (both_at_next k) es =
        sum_split (both_up_to (k + 1)) (both_up_to k) (both_at_next k) es (λ e.
        let y = up_to_more k e.0 in let z = up_to_more k e.1.list_at in omega (arith, y, z)) in
        let back : k + 1 - 1 ≡ k = omega arith in
        let item : w (k + 1) ≡ needs (get_or c.items k []) = ap (λ j. item_need (length (get_or c.items j []))) back in
        let step : sum_by (both_up_to (k + 1)) es ≡ sum_by needs (take (k + 1) c.items) =
        omega (arith, more, next_once k inside, first_items k (omega (arith, h)), sum_by_more needs c.items k [] inside, item) in
        subst (λ m. sum_by (both_up_to m) es ≡ sum_by needs (take m c.items)) (let e : k + 1 ≡ suc k = omega arith in e) step

    pub room_is : room g b ≡ free_of c
    room_is =
        let a = all_taken in
        let e = first_items n (omega arith) in
        let whole : sum_by needs (take n c.items) ≡ sum_by needs c.items = ap (sum_by needs) (take_all n c.items (omega arith)) in
        let t = taken_need c.items in
        omega (arith, a, e, whole, t)

    off_low : (t : Tid) (x : List ℕ) → item_in pages t ≡ Some x → one_if (t.block == b) t.off ≤ n
    off_low t x is = by_test (t.block == b) refl
      where
        by_test : (test : Bool) → (t.block == b) ≡ test → one_if test t.off ≤ n
        by_test false same = omega arith
        by_test true same = (on_block t x (eqb-true t.block b same) is).0

    last_high : (q t : Tid) (m : Node) (k : ℕ) → t.block ≡ b → t.off ≡ k → (q ≡ t) ⊎ (m.list_at ≡ t) → k ≤ last_off b (q, m)
    last_high q t m k same off (inl e) =
        let full : one_if (q.block == b) q.off ≡ k = rw (eq-eqb q.block b (ap (λ (t : Tid). t.block) e ∙ same)) (ap (λ (t : Tid). t.off) e ∙ off) in
        omega (arith, full)
    last_high q t m k same off (inr e) =
        let full : one_if (m.list_at.block == b) m.list_at.off ≡ k = rw (eq-eqb m.list_at.block b (ap (λ (t : Tid). t.block) e ∙ same)) (ap (λ (t : Tid). t.off) e ∙ off) in
        omega (arith, full)

    greatest_is : greatest_off b es ≡ n
    greatest_is =
        let up = greatest_low b n es rises (λ q m has.
        let h = held q m (has_node q m has) in
        let y = off_low q h.x h.there in let z = off_low m.list_at h.u h.list_there in omega (arith, y, z)) in
        let down : n ≤ greatest_off b es = reaches n refl in
        omega (arith, up, down)
      where
        reaches : (k : ℕ) → k ≡ n → k ≤ greatest_off b es
        reaches zero is = omega arith
        reaches (suc k) is =
            let t = holder_next k (omega (arith, is)) in
            let o = t.3 in
            let which : (o.q ≡ t.0) ⊎ (o.n.list_at ≡ t.0) = elim o.holds as (λ _. (o.q ≡ t.0) ⊎ (o.n.list_at ≡ t.0)) [
              | inl here ↦ inl here.0
              | inr here ↦ inr here.1
            ] in
            let high = last_high o.q t.0 o.n (suc k) t.1 (t.2 ∙ (let e : k + 1 ≡ suc k = omega arith in e)) which in
            omega (arith, high, greatest_high b es o.q o.n o.has)

    pub next_is : next_off g b ≡ n + 1
    next_is = ap (λ k. k + 1) greatest_is
