-- Where a page has room for a new node is where the graph has it.
use Rattle.std.proofs.Common.{◌≡◌, ℕ, zero, suc, ◌+◌, ◌<◌, ◌≤◌, ◌==◌, ◌&&◌, Bool, true, false, cond, List, [], ◌∷◌, length, filter, find, get_or, drop, option_to_list, Option, Some, None, refl, sym, ap, ap₂, ◌∙◌, arith}
use Rattle.std.specs.Prelude.{slice_get, nat_le, nat_lt, if◌then◌else◌, All}
use Rattle.std.specs.Option.{option_map, option_and_then, option_or}
use Rattle.std.specs.FinMap as fin
use Rattle.std.proofs.lemmas.Bool.{le-leb, lt-ltb, ltb-true, false_from_ne_true}
use Rattle.std.proofs.lemmas.List.Folds.{find-append}
use Rattle.std.proofs.lemmas.Option.{slice_get-get_or, slice_get_within}
use Rattle.index_sizes.specs.declared.limits.TheConstants.{MOST_BLOCKS, PAGE_ROOM}
use Rattle.vec_names.specs.declared.tid.Tid.{Tid}
use Rattle.vec_names.specs.declared.params.Params.{Params}
use Rattle.vec_names.specs.Places.{tid_of}
use Rattle.vec_names.proofs.PlaceLaws.{tid_of-none, tid_of-numbers}
use Rattle.page_bytes.specs.Content.{Content, IsPage, item_at, free_of}
use Rattle.vec_tuples.specs.declared.element.Element.{Element}
use Rattle.vec_tuples.specs.declared.element.ElementHead.{ElementHead}
use Rattle.vec_tuples.specs.Spelling.{head_of_element}
use Rattle.vec_tuples.specs.Reading.{element}
use Rattle.vec_graph.specs.declared.place.Place.{Place}
use Rattle.vec_graph.specs.declared.node.Node.{Node}
use Rattle.vec_graph.specs.declared.graph.Graph.{Graph}
use Rattle.vec_graph.specs.Graph.{node_at}
use Rattle.vec_graph.specs.Places.{is_reusable, reused, room, next_off, element_need, list_need, fits_one_page, fresh_place, fresh_at, together_on, apart_on, fresh_on, place_on}
use Rattle.page_redo.specs.PageTuples.{in_whole}
use Rattle.graph_pages.specs.Standing.{element_in, node_with as made_of, Stands}
use Rattle.graph_pages.proofs.EntrySums.{Entry}
use Rattle.graph_pages.proofs.PageRoom.{room_is, next_is}
use Rattle.page_sets.specs.Telling.{items_on}
use Rattle.page_sets.proofs.NodeLooks.{node_from, no_node}
use Rattle.page_sets.proofs.PageNodes.{entry_of, entries_from, block_entries, element_there, nothing_behind}
use Rattle.page_words.specs.Placing.{need_of_element, need_of_list, reused_head, reused_item, reused_from, fresh_together, fresh_apart, place_with}

-- ---- a deleted element of the level

find_both : {X : Type 0} (here test : X → Bool) (es : List X) → find (λ e. here e && test e) es ≡ find test (filter here es)
find_both here test [] = refl
find_both here test (e ∷ es) = by_test (here e) refl (find_both here test es)
  where
    by_test : (b : Bool) → here e ≡ b → find (λ e. here e && test e) es ≡ find test (filter here es)
        → cond (here e && test e) (Some e) (find (λ e. here e && test e) es) ≡ find test (cond (here e) (e ∷ filter here es) (filter here es))
    by_test true is rest =
        ap (λ b. cond (b && test e) (Some e) (find (λ e. here e && test e) es)) is
        ∙ ap (λ o. cond (test e) (Some e) o) rest
        ∙ sym (ap (λ b. find test (cond b (e ∷ filter here es) (filter here es))) is)
    by_test false is rest =
        ap (λ b. cond (b && test e) (Some e) (find (λ e. here e && test e) es)) is
        ∙ rest ∙ sym (ap (λ b. find test (cond b (e ∷ filter here es) (filter here es))) is)

reused_or : (a b : Option Entry) → reused (option_or a b) ≡ option_or (reused a) (reused b)
reused_or None b = refl
reused_or (Some a) b = refl

module _ (pages : List Content) (g : Graph) (p : Params) (all : All IsPage pages) (s : Stands pages g) (same : g.params ≡ p) (block level : ℕ) where
  abbrev items : List (List ℕ)
  items = items_on (slice_get pages block)

  abbrev test : Entry → Bool
  test e = e.1.deleted && (e.1.level == level)

  one_reused : (off : ℕ) (x : List ℕ) → item_at items off ≡ Some x → reused (find test (entry_of g block (tid_of block off))) ≡ reused_item p block level off x
  one_reused off x is = by_place (tid_of block off) refl
    where
      none : (o : Option ElementHead) → ◌≡◌ {A = Option Place} None (option_and_then (reused_head level None) o)
      none None = refl
      none (Some h) = by_test (h.deleted && h.level == level)
        where
          by_test : (b : Bool)
              → ◌≡◌ {A = Option Place} None (if b then option_map (λ (t : Tid). record { at = t; list_at = h.list_at; version = h.version }) None else None)
          by_test true = refl
          by_test false = refl

      by_node : (q : Tid) (o : Option Element) → in_whole (element p x) ≡ o → element_in p pages q ≡ in_whole (element p x)
          → reused (find test (option_to_list (option_map (λ (n : Node). (q, n)) (node_at g q)))) ≡ option_and_then (reused_head level (Some q)) (option_map head_of_element o)
      by_node q None is there =
          ap (λ (o : Option Node). reused (find test (option_to_list (option_map (λ (n : Node). (q, n)) o)))) (no_node pages g p all s same q (there ∙ is))
      by_node q (Some e) is there =
          let n = node_from pages g p all s same q e (there ∙ is) in
          ap (λ (o : Option Node). reused (find test (option_to_list (option_map (λ (n : Node). (q, n)) o)))) n.1 ∙ by_test (e.deleted && (e.level == level))
        where
          by_test : (b : Bool) → reused (cond b (Some (q, made_of e (node_from pages g p all s same q e (there ∙ is)).0)) None)
              ≡ (if b then Some (record { at = q; list_at = e.list_at; version = e.version }) else None)
          by_test true = refl
          by_test false = refl

      by_place : (o : Option Tid) → tid_of block off ≡ o → reused (find test (entry_of g block (tid_of block off))) ≡ reused_item p block level off x
      by_place None e =
          ap (λ o. reused (find test (entry_of g block o))) e ∙ none (option_map head_of_element (in_whole (element p x)))
          ∙ sym (ap (λ o. option_and_then (reused_head level o) (option_map head_of_element (in_whole (element p x)))) e)
      by_place (Some q) e =
          let numbers = tid_of-numbers block off q e in
          ap (λ o. reused (find test (entry_of g block o))) e
          ∙ by_node q (in_whole (element p x)) refl (element_there pages g p all s same block q x numbers.0 (ap (item_at items) numbers.1 ∙ is))
          ∙ sym (ap (λ o. option_and_then (reused_head level o) (option_map head_of_element (in_whole (element p x)))) e)

  all_reused : (xs : List (List ℕ)) (off : ℕ) → ((j : ℕ) (x : List ℕ) → slice_get xs j ≡ Some x → item_at items (off + j) ≡ Some x)
      → reused (find test (entries_from g block off (length xs))) ≡ reused_from p block level off xs
  all_reused [] off are = refl
  all_reused (x ∷ xs) off are =
      let here : off + 0 ≡ off = omega arith in
      let rest = all_reused xs (off + 1) (λ j y is. let next : off + 1 + j ≡ off + suc j = omega arith in ap (item_at items) next ∙ are (suc j) y is) in
      ap reused (find-append test (entry_of g block (tid_of block off)) (entries_from g block (off + 1) (length xs)))
      ∙ reused_or (find test (entry_of g block (tid_of block off))) (find test (entries_from g block (off + 1) (length xs)))
      ∙ ap₂ (λ (a b : Option Place). option_or a b) (one_reused off x (ap (item_at items) (sym here) ∙ are 0 x refl)) rest

  pub reused_says : reused_from p block level 1 items ≡ reused (find (is_reusable block level) (fin.entries g.nodes))
  reused_says =
      sym (ap reused (find_both (λ (e : Entry). e.0.block == block) test (fin.entries g.nodes)
      ∙ ap (find test) (block_entries g block (length items) (nothing_behind pages g p all s same block)))
      ∙ all_reused items 1 (λ j x is. let next : 1 + j ≡ suc j = omega arith in ap (item_at items) next ∙ is))

-- ---- items one after the other

module _ (p : Params) (block level : ℕ) where
  reused_next : (k j : ℕ) (items : List (List ℕ)) (x : List ℕ) → slice_get items j ≡ Some x
      → reused_from p block level k (drop j items) ≡ option_or (reused_item p block level k x) (reused_from p block level (k + 1) (drop (j + 1) items))
  reused_next k j [] x is = absurd cc
  reused_next k zero (y ∷ items) x is =
      ap (λ (z : List ℕ). option_or (reused_item p block level k z) (reused_from p block level (k + 1) items)) (same_item y x is)
    where
      same_item : (a b : List ℕ) → Some a ≡ Some b → a ≡ b
      same_item a b e = cc
  reused_next k (suc j) (y ∷ items) x is =
      let next : suc j + 1 ≡ suc (j + 1) = omega arith in
      reused_next k j items x is
      ∙ ap (λ (n : ℕ). option_or (reused_item p block level k x) (reused_from p block level (k + 1) (drop n (y ∷ items)))) (sym next)

  -- the item behind so many is the first
  pub reused_here : (k j : ℕ) (items : List (List ℕ)) (o : Option Place) (all : Option Place) → j < length items
      → ((x : List ℕ) → item_at items (j + 1) ≡ Some x → o ≡ reused_item p block level k x) → reused_from p block level k (drop j items) ≡ all
      → option_or o (reused_from p block level (k + 1) (drop (j + 1) items)) ≡ all
  reused_here k j items o all low told so_far =
      let x = get_or items j [] in
      let there : slice_get items j ≡ Some x = slice_get-get_or items j [] low in
      let off : j + 1 ≡ suc j = omega arith in
      ap (λ (q : Option Place). option_or q (reused_from p block level (k + 1) (drop (j + 1) items))) (told x (ap (item_at items) off ∙ there))
      ∙ sym (reused_next k j items x there) ∙ so_far

-- ---- a fresh place

-- a block out of range has none
pub apart_out : (p : Params) (block level : ℕ) (c : Content) (o : Option Content) → MOST_BLOCKS ≤ block → None ≡ fresh_apart p block level c o
apart_out p block level c None past = refl
apart_out p block level c (Some d) past = by_test (nat_le (need_of_element p) (free_of c) && nat_le (need_of_list p level) (free_of d))
  where
    by_test : (t : Bool) → ◌≡◌ {A = Option Place} None (if t then fresh_at block (length c.items + 1) (block + 1) (length d.items + 1) else None)
    by_test true =
        sym (ap (λ (at : Option Tid). fresh_place at (tid_of (block + 1) (length d.items + 1)))
        (tid_of-none block (length c.items + 1) (λ low some few. absurd (omega (arith, low, past)))))
    by_test false = refl

module _ (pages : List Content) (g : Graph) (p : Params) (few : length pages ≤ MOST_BLOCKS) (all : All IsPage pages) (s : Stands pages g) (same : g.params ≡ p)
    (block level : ℕ) (c : Content) (there : slice_get pages block ≡ Some c) (low : 1 ≤ block) where
  abbrev of_element : ℕ
  of_element = need_of_element p

  abbrev of_list : ℕ
  of_list = need_of_list p level

  element_is : of_element ≡ element_need g
  element_is = ap need_of_element (sym same)

  list_is : of_list ≡ list_need g level
  list_is = ap (λ (q : Params). need_of_list q level) (sym same)

  here : free_of c ≡ room g block
  here = sym (room_is pages g few all s block c low there)

  next : length c.items + 1 ≡ next_off g block
  next = sym (next_is pages g few all s block c low there)

  together_says : fresh_together p block level c ≡ together_on g block level
  together_says =
      let second : length c.items + 2 ≡ next_off g block + 1 = omega (arith, next) in
      λ i. if nat_le (element_is i + list_is i) (here i) then fresh_at block (next i) block (second i) else None

  apart_says : (behind : Option Content) → behind ≡ slice_get pages (block + 1) → fresh_apart p block level c behind ≡ apart_on g block level
  apart_says None has =
      let past : nat_lt (block + 1) g.blocks ≡ false =
      false_from_ne_true (nat_lt (block + 1) g.blocks) (λ is.
      let inside : block + 1 < length pages = omega (arith, ltb-true (block + 1) g.blocks is, s.blocks) in
      let some : slice_get pages (block + 1) ≡ Some (get_or pages (block + 1) c) = slice_get-get_or pages (block + 1) c inside in
      let both : None ≡ Some (get_or pages (block + 1) c) = has ∙ some in absurd (none_some (get_or pages (block + 1) c) both)) in
      sym (ap (λ t. if t && (nat_le (element_need g) (room g block) && nat_le (list_need g level) (room g (block + 1)))
      then fresh_at block (next_off g block) (block + 1) (next_off g (block + 1)) else None) past)
    where
      none_some : (d : Content) → None ≡ Some d → ⊥
      none_some d e = absurd cc
  apart_says (Some d) has =
      let inside : block + 1 < length pages = slice_get_within pages (block + 1) d (sym has) in
      let there_too : nat_lt (block + 1) g.blocks ≡ true = lt-ltb (block + 1) g.blocks (omega (arith, inside, s.blocks)) in
      let free : free_of d ≡ room g (block + 1) = sym (room_is pages g few all s (block + 1) d (omega arith) (sym has)) in
      let off : length d.items + 1 ≡ next_off g (block + 1) = sym (next_is pages g few all s (block + 1) d (omega arith) (sym has)) in
      (λ i. if nat_le (element_is i) (here i) && nat_le (list_is i) (free i) then fresh_at block (next i) (block + 1) (off i) else None)
      ∙ sym (ap (λ t. if t && (nat_le (element_need g) (room g block) && nat_le (list_need g level) (room g (block + 1)))
      then fresh_at block (next_off g block) (block + 1) (next_off g (block + 1)) else None) there_too)

  pub place_says : (behind : Option Content) → behind ≡ slice_get pages (block + 1) → block < g.blocks → place_with p block level c behind ≡ place_on g block level
  place_says behind has inside =
      let old : reused_from p block level 1 c.items ≡ reused (find (is_reusable block level) (fin.entries g.nodes)) =
      ap (λ (o : Option Content). reused_from p block level 1 (items_on o)) (sym there) ∙ reused_says pages g p all s same block level in
      let fits : nat_le (of_element + of_list) PAGE_ROOM ≡ fits_one_page g level = λ i. nat_le (element_is i + list_is i) PAGE_ROOM in
      (λ i. option_or (old i) (if fits i then together_says i else apart_says behind has i))
      ∙ sym (ap₂ (λ a b. if a && b then option_or (reused (find (is_reusable block level) (fin.entries g.nodes))) (fresh_on g block level) else None)
      (le-leb 1 block low) (lt-ltb block g.blocks inside))
