-- How long the tuples are that are changed where they stand.
use Rattle.std.proofs.Common.{◌≡◌, ℕ, ◌≤◌, ◌+◌, ◌/◌, List, Bool, ◌∷◌, ◌++◌, length, refl, arith}
use Rattle.std.specs.Int.{w32, to_le_bytes}
use Rattle.std.proofs.lemmas.List.{length-append}
use Rattle.bit_code.specs.Places.{packed}
use Rattle.vec_names.specs.Pointer.{tid_option_bytes}
use Rattle.vec_tuples.specs.declared.element.Element.{Element}
use Rattle.vec_tuples.specs.declared.centre.CentreTuple.{CentreTuple}
use Rattle.vec_tuples.specs.declared.meta.Meta.{Meta}
use Rattle.vec_tuples.specs.Spelling.{element_bytes, bits_bytes, length_word, head_of_element, head_bytes, centre_bytes, meta_bytes}
use Rattle.byte_fields.proofs.EachField.{length-tid_option_bytes}
use Rattle.vec_tuples.proofs.EachField.{packed_long}
use Rattle.vec_tuples.proofs.ElementLaws.{length-head_bytes}

pub bits_long : (bits : List Bool) → 8 ≤ length (bits_bytes bits)
bits_long bits =
    let word : List ℕ = to_le_bytes w32 (length_word (length bits)) in
    let count : List ℕ = to_le_bytes w32 (length bits) in
    let a : length word ≡ 4 = refl in
    let b : length count ≡ 4 = refl in
    omega (arith, length-append word (count ++ packed bits), length-append count (packed bits), a, b)

pub element_long : (e : Element) → 80 ≤ length (element_bytes e)
unfolding element_bytes
element_long e = omega (arith, length-append (head_bytes (head_of_element e)) (bits_bytes e.bits), length-head_bytes (head_of_element e), bits_long e.bits)

pub centre_long : (c : CentreTuple) → 8 ≤ length (centre_bytes c)
unfolding centre_bytes
centre_long c =
    let first : List ℕ = to_le_bytes w32 c.first in
    let aim : List ℕ = to_le_bytes w32 c.aim in
    let rest : List ℕ = 0 ∷ 0 ∷ 0 ∷ 0 ∷ bits_bytes c.bits in
    let a : length first ≡ 4 = refl in
    let b : length aim ≡ 4 = refl in
    omega (arith, length-append first (aim ++ rest), length-append aim rest, a, b)

pub meta_long : (m : Meta) → length (meta_bytes m) ≡ 32
unfolding meta_bytes
meta_long m =
    let rest : List ℕ = m.level ∷ 0 ∷ to_le_bytes w32 m.hint in
    omega (arith, length-append (tid_option_bytes m.entry) rest, length-tid_option_bytes m.entry)

pub length-element_bytes : (e : Element) → length (element_bytes e) ≡ 80 + (length e.bits + 7) / 8
unfolding element_bytes
length-element_bytes e =
    let word : List ℕ = to_le_bytes w32 (length_word (length e.bits)) in
    let count : List ℕ = to_le_bytes w32 (length e.bits) in
    let a : length word ≡ 4 = refl in
    let b : length count ≡ 4 = refl in
    omega (arith, length-append (head_bytes (head_of_element e)) (bits_bytes e.bits), length-head_bytes (head_of_element e), length-append word (count ++ packed e.bits), length-append count (packed e.bits), a, b, packed_long e.bits)
