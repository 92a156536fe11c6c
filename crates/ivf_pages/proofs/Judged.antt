-- Which pages of entries break a rule, by their marks.
use Rattle.std.proofs.Common.{◌≡◌, ℕ, ◌&&◌, Bool, true, false, List, get_or, Option, Some, None, refl, sym, ap, ◌∙◌, arith}
use Rattle.std.specs.Prelude.{slice_get}
use Rattle.std.specs.List.{list_all, filter_map}
use Rattle.std.specs.Option.{is_some}
use Rattle.std.proofs.lemmas.Bool.{and_parts, both_ways}
use Rattle.std.proofs.lemmas.Option.{slice_get_within, slice_get-get_or}
use Rattle.vec_names.specs.declared.params.Params.{Params}
use Rattle.page_bytes.specs.Content.{Content}
use Rattle.ivf_graph.specs.Graph.{Row}
use Rattle.page_redo.specs.PageTuples.{is_entries_page}
use Rattle.page_redo.specs.PageChanges.{when}
use Rattle.page_redo.proofs.Given.{when_is}
use Rattle.ivf_pages.specs.declared.marks.Mark.{Mark}
use Rattle.ivf_pages.specs.declared.marks.Mark.TheVariants.{Nowhere, Once, Short, Shared}
use Rattle.ivf_pages.specs.Standing.{is_among, next_of, chain_in, ends_at, is_entry, row_in, rows_of, IsEntryPage}
use Rattle.ivf_pages.specs.Walking.{is_in_one, all_rows, IsInOneOf, IsSo, AreMarked}
use Rattle.ivf_pages.proofs.Ended.{ends_among}

one_of : (o : Option Mark) → is_in_one o ≡ true → (l : ℕ) × (o ≡ Some (Once l))
one_of None is = absurd cc
one_of (Some Nowhere) is = absurd cc
one_of (Some (Once l)) is = (l, refl)
one_of (Some (Short l)) is = absurd cc
one_of (Some Shared) is = absurd cc

none_if : (o : Option ℕ) → is_some o ≡ false → o ≡ None
none_if None is = refl
none_if (Some b) is = absurd cc

module _ (p : Params) (pages : List Content) (marks : List Mark) (marked : AreMarked p pages p.lists marks) (block : ℕ) (c : Content)
    (there : slice_get pages block ≡ Some c) where
  pub keeps_entry : is_entries_page c.kind ≡ true → is_in_one (slice_get marks block) ≡ true → list_all (is_entry p) c.items ≡ true → IsEntryPage p pages block c
  keeps_entry kind one entries =
      let m = one_of (slice_get marks block) one in
      let s : IsInOneOf p pages p.lists block m.0 false = marked.so block (Once m.0) m.1 in
      record {
        kind = kind;
        entries = entries;
        in_one = record { list = m.0; is_list = s.low; within = s.within; only = s.only };
        ends = λ list low at.
            let same : list ≡ m.0 = s.only list low (ends_among block (chain_in p pages list) at) in
            let here : ends_at block (chain_in p pages m.0) ≡ true = ap (λ (n : ℕ). ends_at block (chain_in p pages n)) (sym same) ∙ at in
            let none : is_some (next_of (slice_get pages block)) ≡ false =
            ap (λ (t : Bool). t && is_some (next_of (slice_get pages block))) (sym here) ∙ s.is_short in
            sym (ap next_of there) ∙ none_if (next_of (slice_get pages block)) none;
      }

  so_of : IsEntryPage p pages block c → (m : Mark) → IsSo p pages p.lists block m → is_in_one (Some m) ≡ true
  so_of page Nowhere so = absurd (both_ways (is_among block (chain_in p pages page.in_one.list)) (so page.in_one.list page.in_one.is_list) page.in_one.within)
  so_of page (Once l) so = refl
  so_of page (Short l) so =
      let parts = and_parts (ends_at block (chain_in p pages l)) (is_some (next_of (slice_get pages block))) so.is_short in
      let none : next_of (slice_get pages block) ≡ None = ap next_of there ∙ page.ends l so.low parts.0 in
      let no : false ≡ true = ap is_some (sym none) ∙ parts.1 in absurd cc
  so_of page Shared so =
      absurd (so.differ (page.in_one.only so.list so.low so.within ∙ sym (page.in_one.only so.other so.other_low so.other_within)))

  pub in_one_of : IsEntryPage p pages block c → is_in_one (slice_get marks block) ≡ true
  in_one_of page =
      let is = slice_get-get_or marks block Nowhere (omega (arith, slice_get_within pages block c there, marked.long)) in
      ap is_in_one is ∙ so_of page (get_or marks block Nowhere) (marked.so block (get_or marks block Nowhere) is)

  -- a page that breaks a rule, by each of the tests
  pub other_kind : is_entries_page c.kind ≡ false → ¬ IsEntryPage p pages block c
  other_kind not_so page = both_ways (is_entries_page c.kind) not_so page.kind

  pub not_in_one : is_in_one (slice_get marks block) ≡ false → ¬ IsEntryPage p pages block c
  not_in_one not_so page = both_ways (is_in_one (slice_get marks block)) not_so (in_one_of page)

  pub not_entries : None ≡ all_rows p c.items → ¬ IsEntryPage p pages block c
  not_entries none page =
      let some : all_rows p c.items ≡ Some (filter_map (row_in p) c.items) = ap (λ (t : Bool). when t (filter_map (row_in p) c.items)) page.entries in
      let both : None ≡ Some (filter_map (row_in p) c.items) = none ∙ some in absurd cc

  -- and one that breaks none, with its rows
  pub has_rows : (rows : List Row) → Some rows ≡ all_rows p c.items → is_entries_page c.kind ≡ true → is_in_one (slice_get marks block) ≡ true
      → IsEntryPage p pages block c × (rows ≡ rows_of p (Some c))
  has_rows rows are kind one =
      let w = when_is (list_all (is_entry p) c.items) (filter_map (row_in p) c.items) rows (sym are) in (keeps_entry kind one w.0, sym w.1)
