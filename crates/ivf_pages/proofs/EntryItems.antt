-- The items of a page, decoded one after the other.
use Rattle.std.proofs.Common.{◌≡◌, ℕ, suc, ◌+◌, ◌<◌, ◌&&◌, Bool, true, false, List, [], ◌∷◌, length, get_or, drop, Option, Some, None, refl, sym, ap, ◌∙◌, arith}
use Rattle.std.specs.List.{list_all, filter_map, cons_option}
use Rattle.std.specs.Option.{option_map, is_some}
use Rattle.std.proofs.lemmas.List.{drop_more}
use Rattle.std.proofs.lemmas.Option.{slice_get-get_or}
use Rattle.vec_names.specs.declared.params.Params.{Params}
use Rattle.page_bytes.specs.Content.{item_at}
use Rattle.vec_tuples.specs.declared.entry.EntryRow.{EntryRow}
use Rattle.vec_tuples.specs.Reading.{entry}
use Rattle.ivf_graph.specs.Graph.{Row}
use Rattle.page_redo.specs.PageTuples.{in_whole}
use Rattle.page_redo.specs.PageChanges.{when}
use Rattle.page_redo.proofs.Given.{map_is}
use Rattle.ivf_pages.specs.Standing.{is_entry, row_in, row_with}
use Rattle.ivf_pages.specs.Walking.{all_rows}

module _ (p : Params) (items : List (List ℕ)) (i : ℕ) (low : i < length items) (o : Option Row)
    (told : (x : List ℕ) → item_at items (i + 1) ≡ Some x → o ≡ row_in p x) where
  item : List ℕ
  item = get_or items i []

  told_here : o ≡ row_in p (get_or items i [])
  told_here = let next : i + 1 ≡ suc i = omega arith in told (get_or items i []) (ap (item_at items) next ∙ slice_get-get_or items i [] low)

  -- an item with a row
  row_entry : (r : Row) → o ≡ Some r → is_entry p (get_or items i []) ≡ true
  row_entry r is =
      let e = map_is row_with (in_whole (entry p (get_or items i []))) r (sym told_here ∙ is) in ap is_some e.1

  pub entries_more : (r : Row) → o ≡ Some r → list_all (is_entry p) (drop i items) ≡ list_all (is_entry p) (drop (i + 1) items)
  entries_more r is =
      ap (list_all (is_entry p)) (drop_more items i [] low)
      ∙ ap (λ (t : Bool). t && list_all (is_entry p) (drop (i + 1) items)) (row_entry r is)

  pub rows_more : (r : Row) → o ≡ Some r → filter_map (row_in p) (drop i items) ≡ r ∷ filter_map (row_in p) (drop (i + 1) items)
  rows_more r is =
      ap (filter_map (row_in p)) (drop_more items i [] low)
      ∙ ap (λ (q : Option Row). cons_option q (filter_map (row_in p) (drop (i + 1) items))) (sym told_here ∙ is)

  -- and one without
  no_row : (q : Option EntryRow) → None ≡ option_map row_with q → is_some q ≡ false
  no_row None is = refl
  no_row (Some e) is = absurd cc

  pub not_all : o ≡ None → list_all (is_entry p) items ≡ list_all (is_entry p) (drop i items) → None ≡ all_rows p items
  not_all is same =
      let no = no_row (in_whole (entry p (get_or items i []))) (sym is ∙ told_here) in
      let bad : list_all (is_entry p) items ≡ false =
      same ∙ ap (list_all (is_entry p)) (drop_more items i [] low) ∙ ap (λ (t : Bool). t && list_all (is_entry p) (drop (i + 1) items)) no in
      sym (ap (λ (t : Bool). when t (filter_map (row_in p) items)) bad)
