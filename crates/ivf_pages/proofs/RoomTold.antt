-- The index tells which rows stand on a block, and what is left of its page.
use Rattle.std.proofs.Common.{◌≡◌, ◌↔◌, ℕ, zero, suc, ◌+◌, ◌*◌, ◌<◌, ◌≤◌, ◌||◌, ◌==◌, Bool, true, false, cond, List, [], ◌∷◌, map, length, Option, Some, None, refl, sym, ap, subst, ◌∙◌, arith}
use Rattle.std.specs.Prelude.{slice_get, find, flat_map}
use Rattle.std.specs.List.{All, list_all}
use Rattle.std.specs.Option.{option_map, option_or}
use Rattle.std.proofs.lemmas.Bool.{eqb-true}
use Rattle.std.proofs.lemmas.List.Folds.{find-append}
use Rattle.std.proofs.lemmas.Option.{slice_get_within}
use Rattle.index_sizes.specs.declared.limits.TheConstants.{PAGE_ROOM}
use Rattle.vec_names.specs.declared.params.Params.{Params}
use Rattle.byte_fields.proofs.EachField.{some_is}
use Rattle.page_bytes.specs.Content.{Content, IsPage, taken as taken_of, free_of}
use Rattle.vec_tuples.specs.declared.centre.CentreTuple.{CentreTuple}
use Rattle.ivf_graph.specs.declared.list.IvfList.{IvfList}
use Rattle.ivf_graph.specs.declared.graph.IvfGraph.{IvfGraph}
use Rattle.ivf_graph.specs.Graph.{Row, Part, rows_on, row_need, taken, HasRoom}
use Rattle.page_redo.proofs.Given.{got_from_all}
use Rattle.ivf_pages.specs.Standing.{is_among, centre_in, chain_from, chain_of, lists_end, is_entry, rows_of, part_in, list_with, Stands}
use Rattle.ivf_pages.proofs.Root.{in_range, entries_behind}
use Rattle.ivf_pages.proofs.RowRoom.{taken_is}
use Rattle.ivf_pages.proofs.RowsThere.{rows_there, tuple_of_list}

-- ---- rows

module _ (p : Params) (pages : List Content) (block : ℕ) where
  abbrev is_here : Part → Bool
  is_here q = q.0 == block

  -- found in a chain in which the block stands
  chain_finds : (bs : List ℕ) → is_among block bs ≡ true → find is_here (map (part_in p pages) bs) ≡ Some (part_in p pages block)
  chain_finds [] is = absurd cc
  chain_finds (b ∷ bs) is = by_test (λ e. chain_finds bs e) (b == block) refl is
    where
      by_test : (is_among block bs ≡ true → find is_here (map (part_in p pages) bs) ≡ Some (part_in p pages block))
          → (t : Bool) → (b == block) ≡ t → ((b == block) || is_among block bs) ≡ true
          → find is_here (map (part_in p pages) (b ∷ bs)) ≡ Some (part_in p pages block)
      by_test later true e either =
          ap (λ (t : Bool). cond t (Some (part_in p pages b)) (find is_here (map (part_in p pages) bs))) e
          ∙ ap (λ (n : ℕ). Some (part_in p pages n)) (eqb-true b block e)
      by_test later false e either =
          ap (λ (t : Bool). cond t (Some (part_in p pages b)) (find is_here (map (part_in p pages) bs))) e
          ∙ later (ap (λ (t : Bool). t || is_among block bs) (sym e) ∙ either)

  -- a part that is found in a chain is that of the block
  found_part : (bs : List ℕ) (q : Part) → find is_here (map (part_in p pages) bs) ≡ Some q → part_in p pages block ≡ q
  found_part [] q is = absurd cc
  found_part (b ∷ bs) q is = by_test (λ e. found_part bs q e) (b == block) refl
    where
      by_test : (find is_here (map (part_in p pages) bs) ≡ Some q → part_in p pages block ≡ q) → (t : Bool) → (b == block) ≡ t → part_in p pages block ≡ q
      by_test later true e =
          ap (part_in p pages) (sym (eqb-true b block e))
          ∙ some_is (part_in p pages b) q (sym (ap (λ (t : Bool). cond t (Some (part_in p pages b)) (find is_here (map (part_in p pages) bs))) e) ∙ is)
      by_test later false e = later (sym (ap (λ (t : Bool). cond t (Some (part_in p pages b)) (find is_here (map (part_in p pages) bs))) e) ∙ is)

  -- found in the lists one of which has the block in its chain
  lists_find : (xs : List IvfList) → ((i : ℕ) (l : IvfList) → slice_get xs i ≡ Some l → (t : CentreTuple) × (list_with p pages t ≡ l))
      → (k : ℕ) (t : CentreTuple) → slice_get xs k ≡ Some (list_with p pages t) → is_among block (chain_from pages t.first) ≡ true
      → find is_here (flat_map (λ l. l.chain) xs) ≡ Some (part_in p pages block)
  lists_find [] tuples k t is within = absurd cc
  lists_find (x ∷ xs) tuples k t is within =
      find-append is_here x.chain (flat_map (λ l. l.chain) xs)
      ∙ by_find (λ j e. lists_find xs (λ i l got. tuples (suc i) l got) j t e within) (find is_here x.chain) refl k is
    where
      by_find : ((j : ℕ) → slice_get xs j ≡ Some (list_with p pages t) → find is_here (flat_map (λ l. l.chain) xs) ≡ Some (part_in p pages block))
          → (o : Option Part) → find is_here x.chain ≡ o → (k : ℕ) → slice_get (x ∷ xs) k ≡ Some (list_with p pages t)
          → option_or (find is_here x.chain) (find is_here (flat_map (λ l. l.chain) xs)) ≡ Some (part_in p pages block)
      by_find later (Some q) e k is =
          let u = tuples 0 x refl in
          let same = found_part (chain_from pages u.0.first) q (ap (λ (l : IvfList). find is_here l.chain) u.1 ∙ e) in
          ap (λ (o : Option Part). option_or o (find is_here (flat_map (λ l. l.chain) xs))) e ∙ ap (λ (r : Part). Some r) (sym same)
      by_find later None e zero is =
          let first : x ≡ list_with p pages t = some_is x (list_with p pages t) is in
          let found : find is_here x.chain ≡ Some (part_in p pages block) =
          ap (λ (l : IvfList). find is_here l.chain) first ∙ chain_finds (chain_from pages t.first) within in
          let both : None ≡ Some (part_in p pages block) = sym e ∙ found in absurd cc
      by_find later None e (suc j) is = ap (λ (o : Option Part). option_or o (find is_here (flat_map (λ l. l.chain) xs))) e ∙ later j is

module _ (p : Params) (pages : List Content) (g : IvfGraph) (s : Stands p pages g) (block : ℕ) where
  pub rows_told : (page : Content) → lists_end p < block → slice_get pages block ≡ Some page → rows_on g block ≡ Some (rows_of p (Some page))
  rows_told page past there =
      let one = ((s.whole block).entries past page there).in_one in
      let t = tuple_for (centre_in p pages one.list) one.within in
      let is : slice_get g.lists one.list ≡ Some (list_with p pages t.0) = s.lists one.list one.is_list ∙ ap (option_map (list_with p pages)) t.1 in
      ap (option_map (λ (q : Part). q.1))
      (lists_find p pages block g.lists (λ i l got. let u = tuple_of_list p pages g s i l got in (u.0, u.2)) one.list t.0 is t.2)
      ∙ ap (λ (o : Option Content). Some (rows_of p o)) there
    where
      tuple_for : (o : Option CentreTuple) → is_among block (chain_of pages o) ≡ true
          → (t : CentreTuple) × (o ≡ Some t) × (is_among block (chain_from pages t.first) ≡ true)
      tuple_for None is = absurd cc
      tuple_for (Some t) is = (t, refl, is)

  pub rows_behind : (rows : List Row) → rows_on g block ≡ Some rows → (lists_end p < block) × (block < length pages)
  rows_behind rows is =
      let page = rows_there p pages g block rows s is in
      (entries_behind p pages g s block page.page page.there page.kind, slice_get_within pages block page.page page.there)

  module _ (all : All IsPage pages) (page : Content) (rows : List Row) (there : slice_get pages block ≡ Some page) (is : rows_on g block ≡ Some rows) where
    pub taken_told : taken rows + free_of page ≡ PAGE_ROOM
    taken_told =
        let r = rows_there p pages g block rows s is in
        let same : r.page ≡ page = some_is r.page page (sym r.there ∙ there) in
        let past = entries_behind p pages g s block r.page r.there r.kind in
        let entries : list_all (is_entry p) page.items ≡ true = subst (λ (c : Content). list_all (is_entry p) c.items ≡ true) same ((s.whole block).entries past r.page r.there).entries in
        let has = got_from_all IsPage pages block page all there in
        let full : taken_of page.items + 4 * length page.items ≡ taken rows =
        taken_is p (in_range pages p all s.params) page.items has.items entries ∙ ap taken (ap (λ (c : Content). rows_of p (Some c)) (sym same) ∙ r.has) in
        omega (arith, full, has.room)

    pub room_told : (places : ℕ) → HasRoom rows places ↔ (row_need places ≤ free_of page)
    room_told places = (λ room. omega (arith, room, taken_told), λ room. omega (arith, room, taken_told))
