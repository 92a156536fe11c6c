-- What the rows of a page take of it, and what their tuples take.
use Rattle.std.proofs.Common.{◌≡◌, ℕ, ◌+◌, ◌*◌, ◌/◌, ◌<◌, suc, get_or, true, List, [], ◌∷◌, length, Option, Some, None, refl, ap, ◌∙◌, arith, inl, inr}
use Rattle.std.specs.List.{All, list_all, filter_map, cons_option}
use Rattle.std.specs.Option.{option_map, is_some}
use Rattle.std.proofs.lemmas.Bool.{and_parts, cases_lt}
use Rattle.std.proofs.lemmas.List.Elements.{All-head, All-tail, All-get_or}
use Rattle.std.proofs.lemmas.List.Sums.{sum_by-cons}
use Rattle.std.proofs.lemmas.List.{get_or_past}
use Rattle.index_sizes.specs.Sizes.{entry_size}
use Rattle.vec_names.specs.declared.params.Params.{Params}
use Rattle.vec_names.specs.Params.{IsInRange}
use Rattle.vec_names.specs.Pointer.{pointer_bytes}
use Rattle.byte_fields.proofs.FieldLaws.{AreBytes}
use Rattle.page_bytes.specs.Content.{IsItem, round8, taken as taken_of}
use Rattle.page_bytes.proofs.Placing.{taken-cons, taken-nil}
use Rattle.vec_tuples.specs.declared.entry.EntryRow.{EntryRow}
use Rattle.vec_tuples.specs.Spelling.{entry_bytes}
use Rattle.vec_tuples.specs.Reading.{entry}
use Rattle.vec_tuples.proofs.EachField.{packed_long}
use Rattle.vec_tuples.proofs.RowLaws.{entry_field}
use Rattle.ivf_graph.specs.Graph.{Row, row_need, taken}
use Rattle.page_redo.specs.PageTuples.{in_whole}
use Rattle.page_redo.proofs.ItemLaws.{whole_spelled}
use Rattle.ivf_pages.specs.Standing.{is_entry, row_in, row_with}

pub length-entry_bytes : (row : EntryRow) → length (entry_bytes row) ≡ entry_size (length row.bits)
unfolding entry_bytes pointer_bytes
length-entry_bytes row = omega (arith, packed_long row.bits)

-- an entry takes what its row takes
pub need_is : (row : EntryRow) → round8 (length (entry_bytes row)) + 4 ≡ row_need (length row.bits)
unfolding round8
need_is row = ap (λ (n : ℕ). (n + 7) / 8 * 8 + 4) (length-entry_bytes row)

row_there : (o : Option EntryRow) → is_some o ≡ true → (r : EntryRow) × (o ≡ Some r)
row_there None is = absurd cc
row_there (Some r) is = (r, refl)

module _ (p : Params) (range : IsInRange p) where
  -- an item that is an entry, and its row
  pub row_of : (x : List ℕ) → AreBytes x → is_entry p x ≡ true → (r : EntryRow) × (in_whole (entry p x) ≡ Some r) × (length r.bits ≡ p.bits) × (x ≡ entry_bytes r)
  row_of x bytes is =
      let r = row_there (in_whole (entry p x)) is in
      let spelled = whole_spelled (entry_field p range) x r.0 bytes r.1 in
      (r.0, r.1, spelled.0, spelled.1)

  item_is_bytes : (x : List ℕ) → IsItem x → AreBytes x
  item_is_bytes x item i = elim (cases_lt i (length x)) as (λ _. get_or x i 0 < 256) [
    | inl h ↦ All-get_or (λ b. b < 256) x i 0 h item.bytes
    | inr h ↦ rw (get_or_past x i 0 h) (omega arith)
  ]

  pub taken_is : (items : List (List ℕ)) → All IsItem items → list_all (is_entry p) items ≡ true
      → taken_of items + 4 * length items ≡ taken (filter_map (row_in p) items)
  taken_is [] all are = omega (arith, taken-nil)
  taken_is (x ∷ xs) all are =
      let parts = and_parts (is_entry p x) (list_all (is_entry p) xs) are in
      let r = row_of x (item_is_bytes x (All-head IsItem x xs all)) parts.0 in
      let rest = taken_is xs (All-tail IsItem x xs all) parts.1 in
      let long : round8 (length x) + 4 ≡ row_need (length r.0.bits) = ap (λ (y : List ℕ). round8 (length y) + 4) r.3 ∙ need_is r.0 in
      let rows : taken (filter_map (row_in p) (x ∷ xs)) ≡ row_need (length r.0.bits) + taken (filter_map (row_in p) xs) =
      ap (λ (o : Option EntryRow). taken (cons_option (option_map row_with o) (filter_map (row_in p) xs))) r.1
      ∙ sum_by-cons (λ (q : Row). row_need (length q.1)) (row_with r.0) (filter_map (row_in p) xs) in
      omega (arith, taken-cons x xs, long, rows, rest)

  pub count_is : (items : List (List ℕ)) → list_all (is_entry p) items ≡ true → length (filter_map (row_in p) items) ≡ length items
  count_is [] are = refl
  count_is (x ∷ xs) are =
      let parts = and_parts (is_entry p x) (list_all (is_entry p) xs) are in
      let r = row_there (in_whole (entry p x)) parts.0 in
      ap (λ (o : Option EntryRow). length (cons_option (option_map row_with o) (filter_map (row_in p) xs))) r.1
      ∙ ap (λ (n : ℕ). suc n) (count_is xs parts.1)
