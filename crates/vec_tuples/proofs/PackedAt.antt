-- Where the places of a value begin, by five bytes before them.
use Rattle.std.proofs.Common.{◌≡◌, ℕ, ◌+◌, ◌*◌, ◌-◌, ◌/◌, ◌%◌, ◌<◌, ◌≤◌, ◌⊎◌, inl, inr, Bool, true, false, List, [], ◌∷◌, length, take, drop, refl, sym, ap, ◌∙◌, arith}
use Rattle.std.specs.Prelude.{◌&&◌, slice_index}
use Rattle.std.proofs.lemmas.Bool.{and_parts, and_from, eqb-true, eq-eqb, cases_Bool}
use Rattle.std.proofs.lemmas.List.{length-append, length-drop, take_all}
use Rattle.std.proofs.Math.Seq.{drop-drop}
use Rattle.bit_code.specs.Places.{packed}
use Rattle.vec_names.specs.declared.tid.Tid.{Tid}
use Rattle.vec_names.specs.declared.heap_id.HeapId.{HeapId}
use Rattle.vec_names.specs.Pointer.{pointer_bytes}
use Rattle.vec_tuples.specs.declared.entry.EntryRow.{EntryRow}
use Rattle.vec_tuples.specs.declared.centre.CentreTuple.{CentreTuple}
use Rattle.vec_tuples.specs.declared.element.Element.{Element}
use Rattle.vec_tuples.specs.Spelling.{length_word, bits_bytes, rows_bytes, head_with, element_with, head_of_element, head_bytes, entry_bytes, centre_bytes, element_bytes, HasValue, OfElement, OfCentre, OfEntry}
use Rattle.vec_tuples.specs.Reading.{is_zero_at, places_at}
use Rattle.vec_tuples.proofs.ElementLaws.{length-head_bytes, value_behind}

-- ---- the tests

abbrev are_high_zero : List ℕ → Bool
are_high_zero bytes = is_zero_at bytes 10 && (is_zero_at bytes 14 && is_zero_at bytes 15)

abbrev are_low_zero : List ℕ → Bool
are_low_zero bytes = is_zero_at bytes 8 && is_zero_at bytes 9

at_80 : (bytes : List ℕ) → are_high_zero bytes ≡ false → places_at bytes ≡ 80
unfolding places_at
at_80 bytes high = rw high refl

at_16 : (bytes : List ℕ) → are_high_zero bytes ≡ true → are_low_zero bytes ≡ false → places_at bytes ≡ 16
unfolding places_at
at_16 bytes high low = rw (high, low) refl

at_20 : (bytes : List ℕ) → are_high_zero bytes ≡ true → are_low_zero bytes ≡ true → places_at bytes ≡ 20
unfolding places_at
at_20 bytes high low = rw (high, low) refl

-- these halves of two words are 0
high_of : (bytes : List ℕ) (v w : ℕ) → v < 65536 → w < 65536 → slice_index bytes 10 ≡ v / 65536 % 256 → slice_index bytes 14 ≡ w / 65536 % 256 → slice_index bytes 15 ≡ w / 16777216 % 256
    → are_high_zero bytes ≡ true
high_of bytes v w small small' ten fourteen fifteen =
    and_from _ _ (eq-eqb (slice_index bytes 10) 0 (ten ∙ omega arith)) (and_from _ _ (eq-eqb (slice_index bytes 14) 0 (fourteen ∙ omega arith)) (eq-eqb (slice_index bytes 15) 0 (fifteen ∙ omega arith)))

-- ---- what is so of a tuple with a value

pub record StandsAt (bytes : List ℕ) (bits : List Bool) : Type 0 where
  pub long : 16 ≤ length bytes
  pub inside : places_at bytes ≤ length bytes
  pub behind : drop (places_at bytes) bytes ≡ packed bits

stands : (bytes : List ℕ) (bits : List Bool) (at : ℕ) → places_at bytes ≡ at → 16 ≤ at → at ≤ length bytes → drop at bytes ≡ packed bits → StandsAt bytes bits
stands bytes bits at is least inside behind = record { long = omega (arith, least, inside); inside = omega (arith, is, inside); behind = ap (λ k. drop k bytes) is ∙ behind }

-- ---- an entry

entry_high : (row : EntryRow) → length row.bits ≤ 64000 → are_high_zero (entry_bytes row) ≡ true
unfolding entry_bytes pointer_bytes
entry_high row few = high_of (entry_bytes row) (length_word (length row.bits)) (length row.bits) (omega (arith, few)) (omega (arith, few)) refl refl refl

entry_word : (row : EntryRow) → (slice_index (entry_bytes row) 8 ≡ length_word (length row.bits) % 256) × (slice_index (entry_bytes row) 9 ≡ length_word (length row.bits) / 256 % 256)
unfolding entry_bytes pointer_bytes
entry_word row = (refl, refl)

entry_low : (row : EntryRow) → length row.bits ≤ 64000 → are_low_zero (entry_bytes row) ≡ false
entry_low row few =
    elim (cases_Bool (are_low_zero (entry_bytes row))) [
      | inl zero ↦
          let both = and_parts _ _ zero in
          let eight : length_word (length row.bits) % 256 ≡ 0 = sym (entry_word row).0 ∙ eqb-true (slice_index (entry_bytes row) 8) 0 both.0 in
          let nine : length_word (length row.bits) / 256 % 256 ≡ 0 = sym (entry_word row).1 ∙ eqb-true (slice_index (entry_bytes row) 9) 0 both.1 in
          absurd (omega (arith, eight, nine, few))
      | inr not_zero ↦ not_zero
    ]

length-entry_bytes : (row : EntryRow) → length (entry_bytes row) ≡ 16 + length (packed row.bits)
unfolding entry_bytes pointer_bytes
length-entry_bytes row = omega arith

entry_behind : (row : EntryRow) → drop 16 (entry_bytes row) ≡ packed row.bits
unfolding entry_bytes pointer_bytes
entry_behind row = refl

entry_stands : (row : EntryRow) → length row.bits ≤ 64000 → StandsAt (entry_bytes row) row.bits
entry_stands row few =
    stands (entry_bytes row) row.bits 16 (at_16 (entry_bytes row) (entry_high row few) (entry_low row few)) (omega arith) (omega (arith, length-entry_bytes row)) (entry_behind row)

-- ---- a list's tuple

centre_high : (c : CentreTuple) → length c.bits ≤ 64000 → are_high_zero (centre_bytes c) ≡ true
unfolding centre_bytes
centre_high c few = high_of (centre_bytes c) 0 (length_word (length c.bits)) (omega arith) (omega (arith, few)) refl refl refl

centre_low : (c : CentreTuple) → are_low_zero (centre_bytes c) ≡ true
unfolding centre_bytes
centre_low c = refl

length-centre_bytes : (c : CentreTuple) → length (centre_bytes c) ≡ 20 + length (packed c.bits)
unfolding centre_bytes
length-centre_bytes c = omega arith

centre_behind : (c : CentreTuple) → drop 20 (centre_bytes c) ≡ packed c.bits
unfolding centre_bytes
centre_behind c = refl

centre_stands : (c : CentreTuple) → length c.bits ≤ 64000 → StandsAt (centre_bytes c) c.bits
centre_stands c few =
    stands (centre_bytes c) c.bits 20 (at_20 (centre_bytes c) (centre_high c few) (centre_low c)) (omega arith) (omega (arith, length-centre_bytes c)) (centre_behind c)

-- ---- an element

-- the second place of rows is empty, or has an offset
second : (level : ℕ) (deleted : Bool) (version : ℕ) (ids : List HeapId) (at : Tid) (bits : List Bool)
    → let b = element_bytes (element_with (head_with level deleted version ids at) bits) in (slice_index b 10 ≡ 255) ⊎ (1 ≤ slice_index b 14 + 256 * slice_index b 15)
unfolding element_bytes head_bytes rows_bytes pointer_bytes
second level deleted version [] at bits = inl refl
second level deleted version (id ∷ []) at bits = inl refl
second level deleted version (id ∷ other ∷ ids) at bits = inr (omega (arith, other.counted_from_one, other.in_two_bytes))

not_high : (bytes : List ℕ) → (slice_index bytes 10 ≡ 255) ⊎ (1 ≤ slice_index bytes 14 + 256 * slice_index bytes 15) → are_high_zero bytes ≡ false
not_high bytes second =
    elim (cases_Bool (are_high_zero bytes)) [
      | inl zero ↦
          let three = and_parts _ _ zero in
          let two = and_parts _ _ three.1 in
          let ten : slice_index bytes 10 ≡ 0 = eqb-true (slice_index bytes 10) 0 three.0 in
          let fourteen : slice_index bytes 14 ≡ 0 = eqb-true (slice_index bytes 14) 0 two.0 in
          let fifteen : slice_index bytes 15 ≡ 0 = eqb-true (slice_index bytes 15) 0 two.1 in
          elim second [
            | inl is ↦ absurd (omega (arith, ten, is))
            | inr some ↦ absurd (omega (arith, fourteen, fifteen, some))
          ]
      | inr not_zero ↦ not_zero
    ]

length-element_bytes : (e : Element) → length (element_bytes e) ≡ 80 + length (packed e.bits)
unfolding element_bytes
length-element_bytes e = length-append (head_bytes (head_of_element e)) (bits_bytes e.bits) ∙ omega (arith, length-head_bytes (head_of_element e))

element_behind : (e : Element) → drop 80 (element_bytes e) ≡ packed e.bits
element_behind e = sym (drop-drop 8 72 (element_bytes e)) ∙ ap (λ (b : List ℕ). drop 8 b) (value_behind (element_bytes e) e refl)

element_stands : (e : Element) → StandsAt (element_bytes e) e.bits
element_stands e =
    stands (element_bytes e) e.bits 80 (at_80 (element_bytes e) (not_high (element_bytes e) (second e.level e.deleted e.version e.ids.items e.list_at e.bits))) (omega arith) (omega (arith, length-element_bytes e)) (element_behind e)

-- ---- each of them

pub value_stands : (bytes : List ℕ) (bits : List Bool) → HasValue bytes bits → StandsAt bytes bits
value_stands bytes bits (OfElement p e range fits is same) = rw (is, same) (element_stands e)
value_stands bytes bits (OfCentre p c range fits is same) = rw (is, same) (centre_stands c (omega (arith, fits.2, range.bits_high)))
value_stands bytes bits (OfEntry p row range fits is same) = rw (is, same) (entry_stands row (omega (arith, fits, range.bits_high)))

pub rest_behind : (bytes : List ℕ) (bits : List Bool) (at : ℕ) → HasValue bytes bits → at ≡ places_at bytes → take (length bytes - at) (drop at bytes) ≡ packed bits
rest_behind bytes bits at has is =
    take_all (length bytes - at) (drop at bytes) (omega (arith, length-drop at bytes)) ∙ ap (λ k. drop k bytes) is ∙ (value_stands bytes bits has).behind
