-- Each field is read as it is spelled.
use Rattle.std.specs.Prelude.{⊤}
use Rattle.std.proofs.Common.{◌≡◌, ℕ, ◌+◌, ◌/◌, ◌≤◌, Bool, true, false, eqb, slice_index_or, List, ◌∷◌, ◌++◌, length, Option, Some, None, refl, sym, ap, ◌∙◌, arith, lit≤}
use Rattle.std.specs.Prelude.{replicate}
use Rattle.std.proofs.lemmas.List.{length-replicate}
use Rattle.std.specs.Int.{w32, to_le_bytes}
use Rattle.std.specs.List.{list_all}
use Rattle.bit_code.specs.Places.{packed}
use Rattle.bit_code.proofs.ExactPacking.{length-packed}
use Rattle.vec_names.specs.declared.tid.Tid.{Tid}
use Rattle.vec_names.specs.declared.heap_id.HeapId.{HeapId}
use Rattle.vec_names.specs.Pointer.{heap_id_bytes, heap_id_option_bytes, heap_id_option_in, pointer_bytes, tid_option_bytes, block_in, off_in}
use Rattle.vec_names.proofs.Pointers.{heap_id_option_in-again, heap_id_option_of-spelled, length-pointer_bytes, pointer_bytes-back}
use Rattle.vec_tuples.specs.Spelling.{length_word, bits_bytes}
use Rattle.vec_tuples.specs.Reading.{clear_places, bit_value, value_with, value_of, optional_row, no_row}
use Rattle.vec_tuples.proofs.Clear.{all_zero, zeros_told, packed_zeros}
use Rattle.byte_fields.proofs.EachField.{told_only, allowed, IsFrom, four_bytes_field, packed_field, alone, none_told}
use Rattle.byte_fields.proofs.FieldLaws.{AreBytes, IsField, field_law, viewed_law, then_law, wider}
use Rattle.byte_fields.specs.Reading.{Reader, packed_places, only_if, none_alone}

-- six bytes taken one by one
pub option_six : (o : Option Tid) (tail : List ℕ)
    → slice_index_or (tid_option_bytes o) 0 0 ∷ slice_index_or (tid_option_bytes o) 1 0 ∷ slice_index_or (tid_option_bytes o) 2 0 ∷ slice_index_or (tid_option_bytes o) 3 0 ∷ slice_index_or (tid_option_bytes o) 4 0 ∷ slice_index_or (tid_option_bytes o) 5 0 ∷ tail
    ≡ tid_option_bytes o ++ tail
unfolding pointer_bytes
option_six None tail = refl
option_six (Some t) tail = refl

pub row_six : (id : HeapId) (tail : List ℕ)
    → slice_index_or (heap_id_bytes id) 0 0 ∷ slice_index_or (heap_id_bytes id) 1 0 ∷ slice_index_or (heap_id_bytes id) 2 0 ∷ slice_index_or (heap_id_bytes id) 3 0 ∷ slice_index_or (heap_id_bytes id) 4 0 ∷ slice_index_or (heap_id_bytes id) 5 0 ∷ tail
    ≡ heap_id_bytes id ++ tail
unfolding pointer_bytes
row_six id tail = refl

pub length-heap_id_option_bytes : (o : Option HeapId) → length (heap_id_option_bytes o) ≡ 6
length-heap_id_option_bytes None = length-pointer_bytes 0xFFFFFFFF 0
length-heap_id_option_bytes (Some id) = length-pointer_bytes id.block id.off

row_only : (bytes : List ℕ) (o : Option HeapId) → length bytes ≡ 6 → AreBytes bytes → heap_id_option_in bytes ≡ Some o → bytes ≡ heap_id_option_bytes o
row_only bytes o len bs is = sym (pointer_bytes-back bytes len bs) ∙ heap_id_option_of-spelled (block_in bytes) (off_in bytes) (Some o) (sym is)

pub optional_row_field : IsField ⊤ optional_row heap_id_option_bytes (λ _. Unit {0}) 6
unfolding optional_row
optional_row_field = field_law ⊤ 6 heap_id_option_in heap_id_option_bytes (λ _. Unit {0}) (record {
  some = lit≤ tt;
  inhabited = λ _. (None, tt);
  long = λ o _. length-heap_id_option_bytes o;
  meant_by = λ o _. heap_id_option_in-again o;
  only = λ bytes o len bs is. (row_only bytes o len bs is, tt);
})

pub no_row_field : IsField ⊤ no_row heap_id_option_bytes (λ o. o ≡ None) 6
unfolding no_row
no_row_field = field_law ⊤ 6 (λ b. none_alone (heap_id_option_in b)) heap_id_option_bytes (λ o. o ≡ None) (record {
  some = lit≤ tt;
  inhabited = λ _. (None, refl);
  long = λ o _. length-heap_id_option_bytes o;
  meant_by = λ o e. rw e (ap none_alone (heap_id_option_in-again None) ∙ none_told);
  only = λ bytes o len bs is.
      let a = alone (heap_id_option_in bytes) o is in
      (row_only bytes o len bs a.0, a.1);
})

-- ---- bit values

pub packed_long : (xs : List Bool) → length (packed xs) ≡ (length xs + 7) / 8
packed_long xs = length-packed xs

-- places none of which is set
pub clear_field : (count : ℕ) → 1 ≤ count → count ≤ 64000 → IsField ⊤ (clear_places count) packed (λ xs. xs ≡ replicate count false) ((count + 7) / 8)
unfolding clear_places
clear_field count some few =
    field_law ⊤ ((count + 7) / 8) (λ b. only_if (list_all (λ x. eqb x 0) b) (replicate count false)) packed (λ xs. xs ≡ replicate count false) (record {
      some = omega (arith, some);
      inhabited = λ _. (replicate count false, refl);
      long = λ xs is. rw is (length-packed (replicate count false) ∙ ap (λ n. (n + 7) / 8) (length-replicate count false));
      meant_by = λ xs is. rw is (allowed _ _ (ap (λ (b : List ℕ). list_all (λ x. eqb x 0) b) (packed_zeros count) ∙ zeros_told ((count + 7) / 8)));
      only = λ bytes xs len bs is.
          let t = told_only (list_all (λ x. eqb x 0) bytes) (replicate count false) xs is in
          (all_zero bytes t.0 ∙ ap (λ n. replicate n 0) len ∙ sym (packed_zeros count) ∙ ap packed t.1, sym t.1);
    })

-- the length word and the count are spelled as they were read
head_text : (count word read : ℕ) (bits : List Bool) → length bits ≡ count → IsFrom (length_word count) (length_word count) word → IsFrom count count read
    → bits_bytes bits ≡ to_le_bytes w32 word ++ (to_le_bytes w32 read ++ packed bits)
head_text count word read bits len is_word is_count =
    let w : word ≡ length_word (length bits) = ap (λ (n : ℕ). n) (omega (arith, is_word.0, is_word.1)) ∙ sym (ap (λ n. length_word n) len) in
    let n : read ≡ length bits = omega (arith, is_count.0, is_count.1, len) in
    rw (w, n) refl

-- a value whose places are read so
pub value_field : (count : ℕ) → 1 ≤ count → count ≤ 64000 → (places : Reader (List Bool)) (Fits : List Bool → Type 0) → ((xs : List Bool) → Fits xs → length xs ≡ count)
    → IsField ⊤ places packed Fits ((count + 7) / 8) → IsField ⊤ (value_with places count) bits_bytes Fits (8 + (count + 7) / 8)
value_field count some few places Fits long law =
    wider (4 + (4 + (count + 7) / 8)) (8 + (count + 7) / 8) (omega arith)
    (viewed_law _ _
    (then_law (four_bytes_field (length_word count) (length_word count) (omega arith) (omega (arith, few))) (then_law (four_bytes_field count count (omega arith) (omega (arith, few))) law))
    bits_bytes Fits
    (λ bits fits.
    ((length_word count, (count, bits)), refl, ((omega arith, omega arith), ((omega arith, omega arith), fits)), head_text count (length_word count) count bits (long bits fits) (omega arith, omega arith) (omega arith, omega arith)))
    (λ w f. (f.1.1, head_text count w.0 w.1.0 w.1.1 (long w.1.1 f.1.1) f.0 f.1.0)))

pub bits_field : (count : ℕ) → 1 ≤ count → count ≤ 64000 → IsField ⊤ (bit_value count) bits_bytes (λ xs. length xs ≡ count) (8 + (count + 7) / 8)
unfolding bit_value
bits_field count some few = value_field count some few (packed_places count) (λ xs. length xs ≡ count) (λ xs len. len) (packed_field count some few)

-- what may stand beside a head
abbrev pub IsValueOf : Bool → ℕ → List Bool → Type 0
IsValueOf false count bits = length bits ≡ count
IsValueOf true count bits = bits ≡ replicate count false

pub value_of_field : (deleted : Bool) (count : ℕ) → 1 ≤ count → count ≤ 64000 → IsField ⊤ (value_of deleted count) bits_bytes (IsValueOf deleted count) (8 + (count + 7) / 8)
unfolding value_of
value_of_field false count some few = bits_field count some few
value_of_field true count some few =
    value_field count some few (clear_places count) (λ xs. xs ≡ replicate count false) (λ xs is. ap (λ (ys : List Bool). length ys) is ∙ length-replicate count false) (clear_field count some few)
