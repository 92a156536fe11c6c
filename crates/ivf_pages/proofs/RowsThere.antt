-- The rows of a block of a chain are those of its page.
use Rattle.std.proofs.Common.{◌≡◌, ℕ, suc, ◌<◌, ◌||◌, ◌==◌, Bool, true, false, cond, List, [], ◌∷◌, map, Option, Some, None, refl, sym, ap, ◌∙◌, arith}
use Rattle.std.specs.Prelude.{slice_get, find, flat_map}
use Rattle.std.specs.Option.{option_or}
use Rattle.std.proofs.lemmas.Bool.{eqb-true}
use Rattle.std.proofs.lemmas.List.Folds.{find-append}
use Rattle.std.proofs.lemmas.Option.{slice_get_within}
use Rattle.vec_names.specs.declared.params.Params.{Params}
use Rattle.page_bytes.specs.Content.{Content}
use Rattle.vec_tuples.specs.declared.centre.CentreTuple.{CentreTuple}
use Rattle.ivf_graph.specs.declared.list.IvfList.{IvfList}
use Rattle.ivf_graph.specs.declared.graph.IvfGraph.{IvfGraph}
use Rattle.ivf_graph.specs.Graph.{Row, Part, parts, rows_on}
use Rattle.page_redo.specs.PageTuples.{is_entries_page}
use Rattle.page_redo.proofs.Given.{map_is}
use Rattle.ivf_pages.specs.Standing.{is_among, has_entries, centre_in, chain_from, rows_of, part_in, list_with, Stands}
use Rattle.ivf_pages.proofs.Chains.{among_chain, entries_there}

module _ (p : Params) (pages : List Content) (block : ℕ) where
  abbrev is_here : Part → Bool
  is_here q = q.0 == block

  either_true : (a b : Bool) → b ≡ true → (a || b) ≡ true
  either_true true b is = refl
  either_true false b is = is

  some_part : (a q : Part) → Some a ≡ Some q → a ≡ q
  some_part a q e = cc

  found_in : (bs : List ℕ) (q : Part) → find is_here (map (part_in p pages) bs) ≡ Some q → (is_among block bs ≡ true) × (part_in p pages block ≡ q)
  found_in [] q is = absurd cc
  found_in (b ∷ bs) q is = by_test (λ e. found_in bs q e) (b == block) refl
    where
      by_test : (find is_here (map (part_in p pages) bs) ≡ Some q → (is_among block bs ≡ true) × (part_in p pages block ≡ q))
          → (t : Bool) → (b == block) ≡ t → (((b == block) || is_among block bs) ≡ true) × (part_in p pages block ≡ q)
      by_test later true e =
          let same : b ≡ block = eqb-true b block e in
          let first : part_in p pages b ≡ q =
          some_part (part_in p pages b) q (sym (ap (λ (t : Bool). cond t (Some (part_in p pages b)) (find is_here (map (part_in p pages) bs))) e) ∙ is) in
          (ap (λ (t : Bool). t || is_among block bs) e, ap (part_in p pages) (sym same) ∙ first)
      by_test later false e =
          let rest = later (sym (ap (λ (t : Bool). cond t (Some (part_in p pages b)) (find is_here (map (part_in p pages) bs))) e) ∙ is) in
          (either_true (b == block) (is_among block bs) rest.0, rest.1)

  found_among : (xs : List IvfList) (q : Part) → ((i : ℕ) (l : IvfList) → slice_get xs i ≡ Some l → (t : CentreTuple) × (list_with p pages t ≡ l))
      → find is_here (flat_map (λ l. l.chain) xs) ≡ Some q → (t : CentreTuple) × (find is_here (map (part_in p pages) (chain_from pages t.first)) ≡ Some q)
  found_among [] q tuples is = absurd cc
  found_among (x ∷ xs) q tuples is =
      by_find (λ e. found_among xs q (λ i l got. tuples (suc i) l got) e) (find is_here x.chain) refl
      (sym (find-append is_here x.chain (flat_map (λ l. l.chain) xs)) ∙ is)
    where
      by_find : (find is_here (flat_map (λ l. l.chain) xs) ≡ Some q → (t : CentreTuple) × (find is_here (map (part_in p pages) (chain_from pages t.first)) ≡ Some q))
          → (o : Option Part) → find is_here x.chain ≡ o → option_or (find is_here x.chain) (find is_here (flat_map (λ l. l.chain) xs)) ≡ Some q
          → (t : CentreTuple) × (find is_here (map (part_in p pages) (chain_from pages t.first)) ≡ Some q)
      by_find later None e got = later (sym (ap (λ (o : Option Part). option_or o (find is_here (flat_map (λ l. l.chain) xs))) e) ∙ got)
      by_find later (Some r) e got =
          let t = tuples 0 x refl in
          let same : r ≡ q = some_part r q (sym (ap (λ (o : Option Part). option_or o (find is_here (flat_map (λ l. l.chain) xs))) e) ∙ got) in
          (t.0, ap (λ (l : IvfList). find is_here l.chain) t.1 ∙ e ∙ ap (λ (r : Part). Some r) same)

-- the page of a block of a chain
pub record IsRowPage (p : Params) (pages : List Content) (block : ℕ) (rows : List Row) : Type 0 where
  pub page : Content
  pub there : slice_get pages block ≡ Some page
  pub kind : is_entries_page page.kind ≡ true
  pub has : rows_of p (Some page) ≡ rows

pub tuple_of_list : (p : Params) (pages : List Content) (g : IvfGraph) → Stands p pages g → (i : ℕ) (l : IvfList) → slice_get g.lists i ≡ Some l
    → (t : CentreTuple) × (centre_in p pages i ≡ Some t) × (list_with p pages t ≡ l)
tuple_of_list p pages g s i l is =
    let low : i < p.lists = omega (arith, slice_get_within g.lists i l is, s.count) in
    map_is (list_with p pages) (centre_in p pages i) l (sym (s.lists i low) ∙ is)

pub rows_there : (p : Params) (pages : List Content) (g : IvfGraph) (block : ℕ) (rows : List Row) → Stands p pages g → rows_on g block ≡ Some rows
    → IsRowPage p pages block rows
rows_there p pages g block rows s is =
    let q = map_is (λ (q : Part). q.1) (find (λ (q : Part). q.0 == block) (parts g)) rows is in
    let t = found_among p pages block g.lists q.0 (λ i l got. let t = tuple_of_list p pages g s i l got in (t.0, t.2)) q.1 in
    let found = found_in p pages block (chain_from pages t.0.first) q.0 t.1 in
    let has = among_chain pages (Some t.0) block found.0 in
    let c = entries_there (slice_get pages block) has in
    record {
      page = c.0;
      there = c.1;
      kind = ap has_entries (sym c.1) ∙ has;
      has = sym (ap (rows_of p) c.1) ∙ ap (λ (q : Part). q.1) found.1 ∙ q.2;
    }
