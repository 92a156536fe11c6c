-- What is counted on the pages of a graph is the number of its doomed nodes.
use Rattle.std.proofs.Common.{◌≡◌, inl, inr, ℕ, zero, suc, ◌+◌, ◌<◌, ◌≤◌, ◌==◌, Bool, true, false, List, [], ◌∷◌, ◌++◌, length, map, get_or, take, sum_by, Option, Some, None, refl, sym, ap, subst, ◌∙◌, arith}
use Rattle.std.specs.Prelude.{slice_get, nat_le, nat_lt}
use Rattle.std.specs.List.{All}
use Rattle.std.specs.Option.{option_map, option_and_then}
use Rattle.std.specs.FinMap as fin
use Rattle.std.proofs.lemmas.Bool.{eqb-true, eq-eqb, ne_eqb, le-leb, leb-true, lt-ltb, ltb-true, false_from_ne_true, cases_lt, cases_eq}
use Rattle.std.proofs.lemmas.List.{take_all, take_more}
use Rattle.std.proofs.lemmas.List.Elements.{All-same, All-push}
use Rattle.std.proofs.lemmas.List.Sums.{sum_by-cons, sum_by_more}
use Rattle.std.proofs.lemmas.Option.{slice_get_within, slice_get-get_or, get_or_from_slice_get}
use Rattle.index_sizes.specs.declared.limits.TheConstants.{MOST_BLOCKS}
use Rattle.vec_names.specs.declared.tid.Tid.{Tid}
use Rattle.vec_names.specs.declared.params.Params.{Params}
use Rattle.vec_names.specs.Places.{same_tid}
use Rattle.page_bytes.specs.Content.{Content, IsPage, item_at}
use Rattle.page_bytes.specs.declared.kind.PageKind.TheVariants.{Hnsw}
use Rattle.vec_tuples.specs.declared.element.Element.{Element}
use Rattle.vec_tuples.specs.declared.element.ElementHead.{ElementHead}
use Rattle.vec_tuples.specs.declared.links.Links.{Links}
use Rattle.vec_tuples.specs.Spelling.{head_of_element}
use Rattle.vec_tuples.specs.Reading.{element, links}
use Rattle.vec_graph.specs.declared.node.Node.{Node}
use Rattle.vec_graph.specs.declared.graph.Graph.{Graph}
use Rattle.vec_graph.specs.Graph.{node_at}
use Rattle.vec_graph.specs.Places.{one_if}
use Rattle.page_redo.specs.PageTuples.{in_whole}
use Rattle.graph_law.specs.Counting.{doomed_count}
use Rattle.graph_law.specs.Counting as nodes
use Rattle.graph_pages.specs.Standing.{item_in, element_in, links_in, head_in, is_list_of, is_element, is_list, node_with as made_of, Stands}
use Rattle.page_redo.proofs.Given.{then_is, got_from_all}
use Rattle.graph_pages.proofs.KindsApart.{element_is_no_list, meta_is_no_element}
use Rattle.graph_pages.proofs.PagePlaces.{item_within}
use Rattle.graph_pages.proofs.StandingLaws.{node_pages, node_below}
use Rattle.graph_pages.proofs.HeadEffect.{low_from}
use Rattle.graph_pages.proofs.OneItem.{not_root}
use Rattle.graph_pages.proofs.ElementEffect.{first_of_two}
use Rattle.graph_pages.proofs.RoleFits.{tuple_there, node_there}
use Rattle.graph_pages.proofs.TwoItems.{none_or_some}
use Rattle.graph_pages.proofs.EntrySums.{Entry, Has, Rises, same_sums, no_sum, sum_of_one}
use Rattle.vec_board.specs.Doomed.{one_if_doomed, doomed_item, doomed_on, doomed_in}

-- ---- numbers

not_low : (a b : ℕ) → (a ≤ b → ⊥) → nat_le a b ≡ false
not_low a b apart = false_from_ne_true (nat_le a b) (λ is. apart (leb-true a b is))

not_less : (a b : ℕ) → (a < b → ⊥) → nat_lt a b ≡ false
not_less a b apart = false_from_ne_true (nat_lt a b) (λ is. apart (ltb-true a b is))

-- what counts up to one number more is what counts before, and what that one number has
one_more : (v off k : ℕ) → one_if (nat_le off (suc k)) v ≡ one_if (nat_le off k) v + one_if (off == suc k) v
one_more v off k = elim (cases_eq off (suc k)) as (λ _. one_if (nat_le off (suc k)) v ≡ one_if (nat_le off k) v + one_if (off == suc k) v) [
  | inl e ↦ rw (le-leb off (suc k) (omega (arith, e)), not_low off k (λ h. omega (arith, h, e)), eq-eqb off (suc k) e) (omega arith)
  | inr ne ↦ elim (cases_lt off (suc k)) as (λ _. one_if (nat_le off (suc k)) v ≡ one_if (nat_le off k) v + one_if (off == suc k) v) [
    | inl h ↦ rw (le-leb off (suc k) (omega (arith, h)), le-leb off k (omega (arith, h)), ne_eqb off (suc k) ne) (omega arith)
    | inr h ↦ rw (not_low off (suc k) (λ l. ne (omega (arith, h, l))), not_low off k (λ l. omega (arith, h, l)), ne_eqb off (suc k) ne) (omega arith)
  ]
]

block_more : (v block k : ℕ) → one_if (nat_lt block (suc k)) v ≡ one_if (nat_lt block k) v + one_if (block == k) v
block_more v block k = elim (cases_eq block k) as (λ _. one_if (nat_lt block (suc k)) v ≡ one_if (nat_lt block k) v + one_if (block == k) v) [
  | inl e ↦ rw (lt-ltb block (suc k) (omega (arith, e)), not_less block k (λ h. omega (arith, h, e)), eq-eqb block k e) (omega arith)
  | inr ne ↦ elim (cases_lt block k) as (λ _. one_if (nat_lt block (suc k)) v ≡ one_if (nat_lt block k) v + one_if (block == k) v) [
    | inl h ↦ rw (lt-ltb block (suc k) (omega (arith, h)), lt-ltb block k h, ne_eqb block k ne) (omega arith)
    | inr h ↦ rw (not_less block (suc k) (λ l. ne (omega (arith, h, l))), not_less block k (λ l. omega (arith, h, l)), ne_eqb block k ne) (omega arith)
  ]
]

sum_split : (f h l : Entry → ℕ) (es : List Entry) → ((e : Entry) → f e ≡ h e + l e) → sum_by f es ≡ sum_by h es + sum_by l es
sum_split f h l [] each = refl
sum_split f h l (e ∷ es) each =
    omega (arith, sum_by-cons f e es, sum_by-cons h e es, sum_by-cons l e es, each e, sum_split f h l es each)

-- what counts of an entry
counts : Entry → ℕ
counts e = nodes.one_if_doomed e.1

sum_values : (es : List Entry) → sum_by nodes.one_if_doomed (map (λ e. e.1) es) ≡ sum_by (λ (e : Entry). nodes.one_if_doomed e.1) es
sum_values [] = refl
sum_values (e ∷ es) =
    omega (arith, sum_by-cons nodes.one_if_doomed e.1 (map (λ e. e.1) es), sum_by-cons (λ (e : Entry). nodes.one_if_doomed e.1) e es, sum_values es)

list_is : (p : Params) (h : ElementHead) (o : Option Links) → is_list_of p h o ≡ true → (l : Links) × (o ≡ Some l)
list_is p h None good = absurd cc
list_is p h (Some l) good = (l, refl)

-- of an entry at a place
abbrev at_place : ℕ → ℕ → Entry → ℕ
at_place b off e = one_if (e.0.block == b) (one_if (e.0.off == off) (nodes.one_if_doomed e.1))

at_none : (b off : ℕ) (e : Entry) → (e.0.block ≡ b → e.0.off ≡ off → ⊥) → at_place b off e ≡ 0
at_none b off e apart = by_tests (e.0.block == b) (e.0.off == off) refl refl
  where
    by_tests : (x y : Bool) → (e.0.block == b) ≡ x → (e.0.off == off) ≡ y → one_if x (one_if y (nodes.one_if_doomed e.1)) ≡ 0
    by_tests false y is is_too = refl
    by_tests true false is is_too = refl
    by_tests true true is is_too = absurd (apart (eqb-true e.0.block b is) (eqb-true e.0.off off is_too))

at_itself : (t : Tid) (n : Node) → at_place t.block t.off (t, n) ≡ nodes.one_if_doomed n
at_itself t n = rw (eq-eqb t.block t.block refl, eq-eqb t.off t.off refl) refl

-- of the entries of a block up to an offset, of a block, and of the blocks before one
abbrev up_to : ℕ → ℕ → Entry → ℕ
up_to b k e = one_if (e.0.block == b) (one_if (nat_le e.0.off k) (nodes.one_if_doomed e.1))

abbrev in_block : ℕ → Entry → ℕ
in_block b e = one_if (e.0.block == b) (nodes.one_if_doomed e.1)

abbrev before_block : ℕ → Entry → ℕ
before_block b e = one_if (nat_lt e.0.block b) (nodes.one_if_doomed e.1)

up_to_more : (b k : ℕ) (e : Entry) → up_to b (suc k) e ≡ up_to b k e + at_place b (suc k) e
up_to_more b k e = by_test (e.0.block == b)
  where
    by_test : (test : Bool) → one_if test (one_if (nat_le e.0.off (suc k)) (nodes.one_if_doomed e.1))
        ≡ one_if test (one_if (nat_le e.0.off k) (nodes.one_if_doomed e.1)) + one_if test (one_if (e.0.off == suc k) (nodes.one_if_doomed e.1))
    by_test true = one_more (nodes.one_if_doomed e.1) e.0.off k
    by_test false = refl

none_yet : (b : ℕ) (e : Entry) → up_to b 0 e ≡ 0
none_yet b e = by_test (e.0.block == b)
  where
    by_test : (test : Bool) → one_if test (one_if (nat_le e.0.off 0) (nodes.one_if_doomed e.1)) ≡ 0
    by_test false = refl
    by_test true = rw (not_low e.0.off 0 (λ l. omega (arith, l, e.0.counted_from_one))) refl

-- ---- pages that stand for a graph

module _ (pages : List Content) (g : Graph) (few : length pages ≤ MOST_BLOCKS) (all : All IsPage pages) (s : Stands pages g) where
  abbrev p : Params
  p = s.meta.params

  abbrev es : List Entry
  es = fin.entries g.nodes

  rises : Rises es
  rises = fin.entries_sorted g.nodes

  has_node : (q : Tid) (n : Node) → Has es q n → node_at g q ≡ Some n
  has_node q n has = fin.get-entries g.nodes q ∙ has

  node_has : (q : Tid) (n : Node) → node_at g q ≡ Some n → Has es q n
  node_has q n stands = sym (fin.get-entries g.nodes q) ∙ stands

  -- where an element stands, a node of its rows does
  node_of : (t : Tid) (e : Element) → element_in p pages t ≡ Some e → (n : Node) × (node_at g t ≡ Some n) × (nodes.one_if_doomed n ≡ one_if_doomed (Some e))
  node_of t e element_is =
      let x = then_is (λ x. in_whole (element p x)) (item_in pages t) e element_is in
      let there = tuple_there pages g all s (element p) t e (meta_is_no_element p s.meta) element_is in
      let page = node_pages pages g s t.block (low_from t.block (not_root pages g t.block there.0 s there.1 there.2)) in
      let as_head : head_in p pages t ≡ Some (head_of_element e) = ap (option_map head_of_element) element_is in
      let as_list : links_in p pages t ≡ None = ap (λ o. option_and_then (λ x. in_whole (links p x)) o) x.1 ∙ element_is_no_list p x.0 e x.2 in
      let good = first_of_two (is_element p pages (head_in p pages t)) (is_list p pages t (links_in p pages t)) (page.items t x.0 refl x.1) (ap (is_list p pages t) as_list) in
      let l = list_is p (head_of_element e) (links_in p pages e.list_at) (ap (is_element p pages) (sym as_head) ∙ good) in (
        made_of e l.0,
        s.nodes t ∙ ap (λ o. option_and_then (λ e. option_map (made_of e) (links_in p pages e.list_at)) o) element_is ∙ ap (option_map (made_of e)) l.1,
        refl,
      )

  -- what is counted of the entry at the place of an item is what counts of the item
  at_item : (t : Tid) (x : List ℕ) → item_in pages t ≡ Some x → sum_by (at_place t.block t.off) es ≡ doomed_item p x
  at_item t x is = by_element (in_whole (element p x)) refl
    where
      read_as : element_in p pages t ≡ in_whole (element p x)
      read_as = ap (λ o. option_and_then (λ x. in_whole (element p x)) o) is

      by_element : (o : Option Element) → in_whole (element p x) ≡ o → sum_by (at_place t.block t.off) es ≡ one_if_doomed o
      by_element None none = no_sum (at_place t.block t.off) es rises (λ q n has. at_none t.block t.off (q, n) (λ b off.
          let e = node_there pages g all s q n (has_node q n has) in
          none_or_some e.0 (sym (ap (element_in p pages) (same_tid q t b off) ∙ read_as ∙ none) ∙ e.1)))
      by_element (Some e) some =
          let n = node_of t e (read_as ∙ some) in
          sum_of_one (at_place t.block t.off) es t n.0 rises (node_has t n.0 n.1)
          (λ q m has apart. at_none t.block t.off (q, m) (λ b off. apart (same_tid q t b off))) ∙ at_itself t n.0 ∙ n.2

  module _ (b : ℕ) (c : Content) (there : slice_get pages b ≡ Some c) where
    place_of : (k : ℕ) → k < length c.items → (t : Tid) × (t.block ≡ b) × (t.off ≡ suc k) × (item_in pages t ≡ Some (get_or c.items k []))
    place_of k h =
        let page : IsPage c = got_from_all IsPage pages b c all there in
        let t : Tid = record {
          block = b;
          off = suc k;
          within_blocks = omega (arith, few, slice_get_within pages b c there);
          counted_from_one = omega arith;
          in_two_bytes = omega (arith, page.room, h);
        } in
        (t, refl, refl, ap (λ o. option_and_then (λ (d : Content). item_at d.items (suc k)) o) there ∙ slice_get-get_or c.items k [] h)

    first_items : (k : ℕ) → k ≤ length c.items → sum_by (up_to b k) es ≡ sum_by (doomed_item p) (take k c.items)
    first_items zero h = no_sum (up_to b 0) es rises (λ q n has. none_yet b (q, n))
    first_items (suc k) h =
        let inside : k < length c.items = omega (arith, h) in
        let t = place_of k inside in
        let here : sum_by (at_place b (suc k)) es ≡ doomed_item p (get_or c.items k []) =
        subst (λ o. sum_by (at_place b o) es ≡ doomed_item p (get_or c.items k [])) t.2
        (subst (λ a. sum_by (at_place a t.0.off) es ≡ doomed_item p (get_or c.items k [])) t.1 (at_item t.0 (get_or c.items k []) t.3)) in
        let more : sum_by (up_to b (suc k)) es ≡ sum_by (up_to b k) es + sum_by (at_place b (suc k)) es =
        sum_split (up_to b (suc k)) (up_to b k) (at_place b (suc k)) es (up_to_more b k) in
        let before = first_items k (omega (arith, h)) in
        let items = sum_by_more (doomed_item p) c.items k [] inside in
        let step : sum_by (up_to b (suc k)) es ≡ sum_by (doomed_item p) (take (k + 1) c.items) = omega (arith, more, here, before, items) in
        step ∙ ap (λ m. sum_by (doomed_item p) (take m c.items)) (let e : k + 1 ≡ suc k = omega arith in e)

    on_block : sum_by (in_block b) es ≡ doomed_on p c
    on_block =
        same_sums (in_block b) (up_to b (length c.items)) es rises (λ q n has. whole q n (has_node q n has))
        ∙ first_items (length c.items) (omega arith) ∙ ap (sum_by (doomed_item p)) (take_all (length c.items) c.items (omega arith))
      where
        whole : (q : Tid) (n : Node) → node_at g q ≡ Some n → in_block b (q, n) ≡ up_to b (length c.items) (q, n)
        whole q n stands = by_test (q.block == b) refl
          where
            by_test : (test : Bool) → (q.block == b) ≡ test → one_if test (nodes.one_if_doomed n) ≡ one_if test (one_if (nat_le q.off (length c.items)) (nodes.one_if_doomed n))
            by_test false same = refl
            by_test true same =
                let e = node_there pages g all s q n stands in
                let x = then_is (λ x. in_whole (element p x)) (item_in pages q) e.0 e.1 in
                rw (le-leb q.off (length c.items) (item_within pages c q b x.0 there (eqb-true q.block b same) x.1)) refl

  abbrev none_page : Content
  none_page = record { kind = Hnsw; next = None; number = 0; items = [] }

  first_blocks : (k : ℕ) → k ≤ length pages → sum_by (before_block k) es ≡ sum_by (doomed_on p) (take k pages)
  first_blocks zero h = no_sum (before_block 0) es rises (λ q n has. rw (not_less q.block 0 (λ l. omega (arith, l))) refl)
  first_blocks (suc k) h =
      let inside : k < length pages = omega (arith, h) in
      let here = on_block k (get_or pages k none_page) (slice_get-get_or pages k none_page inside) in
      let more : sum_by (before_block (suc k)) es ≡ sum_by (before_block k) es + sum_by (in_block k) es =
      sum_split (before_block (suc k)) (before_block k) (in_block k) es (λ e. block_more (nodes.one_if_doomed e.1) e.0.block k) in
      let before = first_blocks k (omega (arith, h)) in
      let blocks = sum_by_more (doomed_on p) pages k none_page inside in
      let step : sum_by (before_block (suc k)) es ≡ sum_by (doomed_on p) (take (k + 1) pages) = omega (arith, more, here, before, blocks) in
      step ∙ ap (λ m. sum_by (doomed_on p) (take m pages)) (let e : k + 1 ≡ suc k = omega arith in e)

  pub doomed_pages : doomed_count g ≡ doomed_in p pages
  doomed_pages =
      sum_values es
      ∙ same_sums (λ (e : Entry). nodes.one_if_doomed e.1) (before_block (length pages)) es rises (λ q n has.
      rw (lt-ltb q.block (length pages) (let below = node_below pages g q n s (has_node q n has) in let count = s.blocks in omega (arith, below, count))) refl)
      ∙ first_blocks (length pages) (omega arith) ∙ ap (sum_by (doomed_on p)) (take_all (length pages) pages (omega arith))

-- ---- counting

pub items_more : (p : Params) (items : List (List ℕ)) (k off sum more : ℕ) → off ≡ k + 1 → k < length items → sum ≡ sum_by (doomed_item p) (take k items)
    → ((x : List ℕ) → item_at items off ≡ Some x → more ≡ doomed_item p x) → sum + more ≡ sum_by (doomed_item p) (take (k + 1) items)
items_more p items k off sum more is inside so_far told =
    let next : off ≡ suc k = omega (arith, is) in
    let here : item_at items off ≡ Some (get_or items k []) = ap (item_at items) next ∙ slice_get-get_or items k [] inside in
    omega (arith, so_far, told (get_or items k []) here, sum_by_more (doomed_item p) items k [] inside)

pub pages_more : (p : Params) (pages : List Content) (k sum more : ℕ) (page : Content) → slice_get pages k ≡ Some page
    → sum ≡ sum_by (doomed_on p) (take k pages) → more ≡ doomed_on p page → sum + more ≡ sum_by (doomed_on p) (take (k + 1) pages)
pages_more p pages k sum more page here so_far told =
    let inside = slice_get_within pages k page here in
    let same : doomed_on p (get_or pages k page) ≡ doomed_on p page = ap (doomed_on p) (get_or_from_slice_get pages k page page here) in
    omega (arith, so_far, told, same, sum_by_more (doomed_on p) pages k page inside)

pub all_more : (P : Content → Type 0) (pages : List Content) (k : ℕ) (page : Content) → slice_get pages k ≡ Some page → All P (take k pages) → P page
    → All P (take (k + 1) pages)
all_more P pages k page here all one =
    let inside = slice_get_within pages k page here in
    let same : page ≡ get_or pages k page = sym (get_or_from_slice_get pages k page page here) in
    All-same P (take (k + 1) pages) (take k pages ++ get_or pages k page ∷ []) (take_more pages k page inside)
    (All-push P (take k pages) (get_or pages k page) all (subst P same one))
