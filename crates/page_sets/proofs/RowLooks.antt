-- What pages that stand for lists say to a look at a block of rows is what the lists say.
use Rattle.std.proofs.Common.{◌≡◌, ℕ, zero, suc, ◌+◌, ◌<◌, ◌==◌, Bool, true, false, cond, List, [], ◌∷◌, ◌++◌, map, length, option_to_list, is_some, Option, Some, None, refl, sym, ap, ap₂, subst, ◌∙◌, arith}
use Rattle.std.specs.Prelude.{slice_get, find, flat_map, filter_map, if◌then◌else◌}
use Rattle.std.specs.List.{list_all, cons_option}
use Rattle.std.specs.Option.{option_map, option_and_then, option_or}
use Rattle.std.proofs.lemmas.Bool.{eqb-true, eq-eqb, and_parts}
use Rattle.std.proofs.lemmas.List.Folds.{find-append}
use Rattle.std.proofs.lemmas.Option.{slice_get_within}
use Rattle.byte_fields.proofs.EachField.{some_is}
use Rattle.vec_names.specs.declared.params.Params.{Params}
use Rattle.page_bytes.specs.Content.{Content}
use Rattle.vec_tuples.specs.declared.entry.EntryRow.{EntryRow}
use Rattle.vec_tuples.specs.declared.centre.CentreTuple.{CentreTuple}
use Rattle.vec_tuples.specs.Reading.{entry}
use Rattle.ivf_graph.specs.declared.list.IvfList.{IvfList}
use Rattle.ivf_graph.specs.declared.graph.IvfGraph.{IvfGraph}
use Rattle.ivf_graph.specs.Graph.{Row, Part, parts, rows_on}
use Rattle.ivf_graph.specs.Looks.{RowSeen, first_block, links, all_links, next_on, seen_from, told_of}
use Rattle.ivf_graph.specs.Looks.Look.{AtRows}
use Rattle.ivf_graph.specs.Looks.Answer.{OfRows}
use Rattle.page_redo.specs.PageTuples.{in_whole, is_entries_page}
use Rattle.ivf_pages.specs.Standing.{has_entries, next_of, goes_to, followed, chain_from, chain_of, chain_in, ends_at, centre_in, is_entry, row_in, part_in, list_with, Stands}
use Rattle.ivf_pages.proofs.Chains.{among_chain, entries_there}
use Rattle.ivf_pages.proofs.Ended.{ends_among}
use Rattle.ivf_pages.proofs.Root.{entries_behind}
use Rattle.ivf_pages.proofs.RowsThere.{rows_there, tuple_of_list}
use Rattle.page_sets.specs.Telling.{entry_seen, entry_shown, all_shown, items_on, next_on as named_next}

-- ---- rows by their offsets

module _ (p : Params) where
  pub entries_are : (items : List (List ℕ)) (off : ℕ) → list_all (is_entry p) items ≡ true
      → all_shown (entry_shown p) off items ≡ seen_from off (filter_map (row_in p) items)
  entries_are [] off are = refl
  entries_are (x ∷ items) off are =
      let tests = and_parts (is_entry p x) (list_all (is_entry p) items) are in
      by_entry (in_whole (entry p x)) refl tests.0 (entries_are items (off + 1) tests.1)
    where
      by_entry : (o : Option EntryRow) → in_whole (entry p x) ≡ o → is_some (in_whole (entry p x)) ≡ true
          → all_shown (entry_shown p) (off + 1) items ≡ seen_from (off + 1) (filter_map (row_in p) items)
          → all_shown (entry_shown p) off (x ∷ items) ≡ seen_from off (filter_map (row_in p) (x ∷ items))
      by_entry None is some rest = let both : false ≡ true = ap is_some (sym is) ∙ some in absurd cc
      by_entry (Some r) is some rest =
          ap (λ (o : Option EntryRow). option_to_list (option_map (entry_seen off) o) ++ all_shown (entry_shown p) (off + 1) items) is
          ∙ ap (λ (l : List RowSeen). entry_seen off r ∷ l) rest
          ∙ sym (ap (λ (o : Option EntryRow). seen_from off (cons_option (option_map (λ (e : EntryRow). (e.id, e.bits)) o) (filter_map (row_in p) items))) is)

-- ---- the block behind a block of a chain

-- a block of a chain has a link where it stands
links_there : (block : ℕ) (chain : List Part) → is_some (find (λ (e : ℕ × Option ℕ). e.0 == block) (links chain)) ≡ is_some (find (λ (q : Part). q.0 == block) chain)
links_there block [] = refl
links_there block (q ∷ chain) = by_test (q.0 == block) refl (links_there block chain)
  where
    by_test : (b : Bool) → (q.0 == block) ≡ b
        → is_some (find (λ (e : ℕ × Option ℕ). e.0 == block) (links chain)) ≡ is_some (find (λ (r : Part). r.0 == block) chain)
        → is_some (cond (q.0 == block) (Some (q.0, first_block chain)) (find (λ (e : ℕ × Option ℕ). e.0 == block) (links chain)))
        ≡ is_some (cond (q.0 == block) (Some q) (find (λ (r : Part). r.0 == block) chain))
    by_test true e rest =
        ap (λ b. is_some (cond b (Some (q.0, first_block chain)) (find (λ (e : ℕ × Option ℕ). e.0 == block) (links chain)))) e
        ∙ sym (ap (λ b. is_some (cond b (Some q) (find (λ (r : Part). r.0 == block) chain))) e)
    by_test false e rest =
        ap (λ b. is_some (cond b (Some (q.0, first_block chain)) (find (λ (e : ℕ × Option ℕ). e.0 == block) (links chain)))) e
        ∙ rest ∙ sym (ap (λ b. is_some (cond b (Some q) (find (λ (r : Part). r.0 == block) chain))) e)

some_or : {A B : Type 0} (a c : Option A) (b d : Option B) → is_some a ≡ is_some b → is_some c ≡ is_some d → is_some (option_or a c) ≡ is_some (option_or b d)
some_or None c None d first second = second
some_or None c (Some y) d first second = absurd cc
some_or (Some x) c None d first second = absurd cc
some_or (Some x) c (Some y) d first second = refl

all_there : (block : ℕ) (xs : List IvfList) → is_some (find (λ (e : ℕ × Option ℕ). e.0 == block) (flat_map (λ (l : IvfList). links l.chain) xs))
    ≡ is_some (find (λ (q : Part). q.0 == block) (flat_map (λ (l : IvfList). l.chain) xs))
all_there block [] = refl
all_there block (x ∷ xs) =
    let here : ℕ × Option ℕ → Bool = λ e. e.0 == block in
    let stands : Part → Bool = λ q. q.0 == block in
    ap (λ (o : Option (ℕ × Option ℕ)). is_some o) (find-append here (links x.chain) (flat_map (λ (l : IvfList). links l.chain) xs))
    ∙ some_or (find here (links x.chain)) (find here (flat_map (λ (l : IvfList). links l.chain) xs)) (find stands x.chain) (find stands (flat_map (λ (l : IvfList). l.chain) xs))
    (links_there block x.chain) (all_there block xs)
    ∙ sym (ap (λ (o : Option Part). is_some o) (find-append stands x.chain (flat_map (λ (l : IvfList). l.chain) xs)))

module _ (p : Params) (pages : List Content) where
  -- a chain begins where it is said to
  pub begins : (most : ℕ) (met : List ℕ) (to : Option ℕ) (b : ℕ) (rest : List ℕ) → followed pages most met to ≡ b ∷ rest → to ≡ Some b
  begins zero met to b rest is = absurd cc
  begins (suc most) met None b rest is = absurd cc
  begins (suc most) met (Some block) b rest is = by_test (goes_to pages met block) refl
    where
      first_is : (x y : ℕ) (xs ys : List ℕ) → x ∷ xs ≡ y ∷ ys → x ≡ y
      first_is x y xs ys e = cc

      by_test : (t : Bool) → goes_to pages met block ≡ t → Some block ≡ Some b
      by_test true e =
          ap (λ (n : ℕ). Some n)
          (first_is block b (followed pages most (block ∷ met) (next_of (slice_get pages block))) rest
          (sym (ap (λ (t : Bool). if t then block ∷ followed pages most (block ∷ met) (next_of (slice_get pages block)) else []) e) ∙ is))
      by_test false e =
          let none : [] ≡ b ∷ rest = sym (ap (λ (t : Bool). if t then block ∷ followed pages most (block ∷ met) (next_of (slice_get pages block)) else []) e) ∙ is in
          absurd cc

  -- where these end they name no next block
  abbrev pub EndsWell : List ℕ → Type 0
  EndsWell bs = (b : ℕ) → ends_at b bs ≡ true → next_of (slice_get pages b) ≡ None

  next_first : (most : ℕ) (met : List ℕ) (b : ℕ) (rest : List ℕ) → followed pages most met (next_of (slice_get pages b)) ≡ rest → EndsWell (b ∷ rest)
      → first_block (map (part_in p pages) rest) ≡ next_of (slice_get pages b)
  next_first most met b [] is ends = sym (ends b (eq-eqb b b refl))
  next_first most met b (c ∷ rest) is ends = sym (begins most met (next_of (slice_get pages b)) c rest is)

  rest_ends : (b : ℕ) (rest : List ℕ) → EndsWell (b ∷ rest) → EndsWell rest
  rest_ends b [] ends x is = absurd cc
  rest_ends b (c ∷ rest) ends x is = ends x is

  module _ (block : ℕ) where
    abbrev is_here : ℕ × Option ℕ → Bool
    is_here e = e.0 == block

    -- the link of a block of a chain is what its page names
    link_is : (most : ℕ) (met : List ℕ) (to : Option ℕ) (e : ℕ × Option ℕ) → EndsWell (followed pages most met to)
        → find is_here (links (map (part_in p pages) (followed pages most met to))) ≡ Some e → e.1 ≡ next_of (slice_get pages block)
    link_is zero met to e ends is = absurd cc
    link_is (suc most) met None e ends is = absurd cc
    link_is (suc most) met (Some b) e ends is =
        by_test (goes_to pages met b) refl (λ ends found. link_is most (b ∷ met) (next_of (slice_get pages b)) e ends found)
      where
        rest : List ℕ
        rest = followed pages most (b ∷ met) (next_of (slice_get pages b))

        chain : Bool → List ℕ
        chain t = if t then b ∷ rest else []

        by_block : (EndsWell rest → find is_here (links (map (part_in p pages) rest)) ≡ Some e → e.1 ≡ next_of (slice_get pages block))
            → EndsWell (b ∷ rest) → (t : Bool) → (b == block) ≡ t
            → cond (b == block) (Some (b, first_block (map (part_in p pages) rest))) (find is_here (links (map (part_in p pages) rest))) ≡ Some e
            → e.1 ≡ next_of (slice_get pages block)
        by_block later ends true same found =
            let entry : (b, first_block (map (part_in p pages) rest)) ≡ e =
            some_is (b, first_block (map (part_in p pages) rest)) e
            (sym (ap (λ (t : Bool). cond t (Some (b, first_block (map (part_in p pages) rest))) (find is_here (links (map (part_in p pages) rest)))) same) ∙ found) in
            ap (λ (x : ℕ × Option ℕ). x.1) (sym entry)
            ∙ next_first most (b ∷ met) b rest refl ends ∙ ap (λ (n : ℕ). next_of (slice_get pages n)) (eqb-true b block same)
        by_block later ends false same found =
            later (rest_ends b rest ends)
            (sym (ap (λ (t : Bool). cond t (Some (b, first_block (map (part_in p pages) rest))) (find is_here (links (map (part_in p pages) rest)))) same) ∙ found)

        by_test : (t : Bool) → goes_to pages met b ≡ t
            → (EndsWell rest → find is_here (links (map (part_in p pages) rest)) ≡ Some e → e.1 ≡ next_of (slice_get pages block))
            → e.1 ≡ next_of (slice_get pages block)
        by_test true goes later =
            by_block later (subst EndsWell (ap chain goes) ends) (b == block) refl
            (sym (ap (λ (t : Bool). find is_here (links (map (part_in p pages) (chain t)))) goes) ∙ is)
        by_test false goes later =
            let none : None ≡ Some e = sym (ap (λ (t : Bool). find is_here (links (map (part_in p pages) (chain t)))) goes) ∙ is in absurd cc

    all_are : (xs : List IvfList) (e : ℕ × Option ℕ)
        → ((i : ℕ) (l : IvfList) → slice_get xs i ≡ Some l → (t : CentreTuple) × (list_with p pages t ≡ l) × EndsWell (chain_from pages t.first))
        → find is_here (flat_map (λ (l : IvfList). links l.chain) xs) ≡ Some e → e.1 ≡ next_of (slice_get pages block)
    all_are [] e tuples is = absurd cc
    all_are (x ∷ xs) e tuples is =
        by_find (find is_here (links x.chain)) refl (λ found. all_are xs e (λ i l got. tuples (suc i) l got) found)
        (sym (find-append is_here (links x.chain) (flat_map (λ (l : IvfList). links l.chain) xs)) ∙ is)
      where
        by_find : (o : Option (ℕ × Option ℕ)) → find is_here (links x.chain) ≡ o
            → (find is_here (flat_map (λ (l : IvfList). links l.chain) xs) ≡ Some e → e.1 ≡ next_of (slice_get pages block))
            → option_or (find is_here (links x.chain)) (find is_here (flat_map (λ (l : IvfList). links l.chain) xs)) ≡ Some e
            → e.1 ≡ next_of (slice_get pages block)
        by_find None here later found =
            later (sym (ap (λ (o : Option (ℕ × Option ℕ)). option_or o (find is_here (flat_map (λ (l : IvfList). links l.chain) xs))) here) ∙ found)
        by_find (Some f) here later found =
            let same : f ≡ e = some_is f e (sym (ap (λ (o : Option (ℕ × Option ℕ)). option_or o (find is_here (flat_map (λ (l : IvfList). links l.chain) xs))) here) ∙ found) in
            let t = tuples 0 x refl in
            link_is (length pages) [] (Some t.0.first) e t.2
            (ap (λ (l : IvfList). find is_here (links l.chain)) t.1 ∙ here ∙ ap (λ (f : ℕ × Option ℕ). Some f) same)

module _ (p : Params) (pages : List Content) (g : IvfGraph) (s : Stands p pages g) where
  ends_well : (list : ℕ) → list < p.lists → EndsWell p pages (chain_in p pages list)
  ends_well list low b ends =
      let within = ends_among b (chain_in p pages list) ends in
      let has = among_chain pages (centre_in p pages list) b within in
      let c = entries_there (slice_get pages b) has in
      let kind : is_entries_page c.0.kind ≡ true = ap has_entries (sym c.1) ∙ has in
      let page = (s.whole b).entries (entries_behind p pages g s b c.0 c.1 kind) c.0 c.1 in
      ap next_of c.1 ∙ page.ends list low ends

  each_list : (i : ℕ) (l : IvfList) → slice_get g.lists i ≡ Some l → (t : CentreTuple) × (list_with p pages t ≡ l) × EndsWell p pages (chain_from pages t.first)
  each_list i l is =
      let low : i < p.lists = omega (arith, slice_get_within g.lists i l is, s.count) in
      let t = tuple_of_list p pages g s i l is in
      (t.0, t.2, subst (EndsWell p pages) (ap (chain_of pages) t.1) (ends_well i low))

  pub next_is : (block : ℕ) (rows : List Row) → rows_on g block ≡ Some rows → next_on g block ≡ next_of (slice_get pages block)
  next_is block rows is = by_link (find (λ (e : ℕ × Option ℕ). e.0 == block) (all_links g)) refl
    where
      some_part : (o : Option Part) → option_map (λ (q : Part). q.1) o ≡ Some rows → is_some o ≡ true
      some_part None e = absurd cc
      some_part (Some q) e = refl

      by_link : (o : Option (ℕ × Option ℕ)) → find (λ (e : ℕ × Option ℕ). e.0 == block) (all_links g) ≡ o → next_on g block ≡ next_of (slice_get pages block)
      by_link None none =
          let there : is_some (find (λ (e : ℕ × Option ℕ). e.0 == block) (all_links g)) ≡ true =
          all_there block g.lists ∙ some_part (find (λ (q : Part). q.0 == block) (parts g)) is in
          let both : false ≡ true = ap (λ (o : Option (ℕ × Option ℕ)). is_some o) (sym none) ∙ there in absurd cc
      by_link (Some e) found =
          ap (option_and_then (λ (e : ℕ × Option ℕ). e.1)) found ∙ all_are p pages block g.lists e each_list found

  pub rows_say : (block : ℕ) (rows : List Row) (held : Option Content) → rows_on g block ≡ Some rows → held ≡ slice_get pages block
      → Some (OfRows (all_shown (entry_shown p) 1 (items_on held)) (named_next held)) ≡ told_of p.bits g (AtRows block)
  rows_say block rows held is has =
      let page = rows_there p pages g block rows s is in
      let here : held ≡ Some page.page = has ∙ page.there in
      let whole = (s.whole block).entries (entries_behind p pages g s block page.page page.there page.kind) page.page page.there in
      let shown : all_shown (entry_shown p) 1 page.page.items ≡ seen_from 1 rows = entries_are p page.page.items 1 whole.entries ∙ ap (seen_from 1) page.has in
      let next : page.page.next ≡ next_on g block = sym (next_is block rows is ∙ ap next_of page.there) in
      ap (λ (o : Option Content). Some (OfRows (all_shown (entry_shown p) 1 (items_on o)) (named_next o))) here
      ∙ ap₂ (λ (r : List RowSeen) (n : Option ℕ). Some (OfRows r n)) shown next
      ∙ sym (ap (option_map (λ (rows : List Row). OfRows (seen_from 1 rows) (next_on g block))) is)
