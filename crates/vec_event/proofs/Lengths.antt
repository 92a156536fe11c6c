-- How long spellings are.
use Rattle.std.proofs.Common.{◌≡◌, ℕ, ◌+◌, ◌*◌, ◌/◌, List, [], ◌∷◌, ◌++◌, length, Option, Bool, refl, ap, ◌∙◌, arith}
use Rattle.std.specs.List.{flat_map}
use Rattle.std.specs.Int.{w16, to_le_bytes}
use Rattle.std.proofs.lemmas.List.{length-append}
use Rattle.std.proofs.lemmas.List.Concat.{flat_map-cons}
use Rattle.vec_names.specs.declared.tid.Tid.{Tid}
use Rattle.vec_names.specs.Pointer.{pointer_bytes, tid_option_bytes}
use Rattle.vec_names.proofs.Pointers.{length-pointer_bytes}
use Rattle.vec_event.specs.Spelling.{bits_bytes, lists_bytes, offsets_bytes}
use Rattle.bit_code.proofs.ExactPacking.{length-packed}
use Rattle.byte_fields.proofs.EachField.{length-tid_option_bytes}

each_length : {A : Type 0} (text : A → List ℕ) (k : ℕ) → ((x : A) → length (text x) ≡ k) → (xs : List A) → length (flat_map text xs) ≡ k * length xs
each_length text k long [] = omega arith
each_length text k long (x ∷ xs) =
    ap (λ (t : List ℕ). length t) (flat_map-cons text x xs) ∙ length-append (text x) (flat_map text xs) ∙ omega (arith, long x, each_length text k long xs)

pub bits_length : (bits : List Bool) → length (bits_bytes bits) ≡ 4 + (length bits + 7) / 8
bits_length bits = omega (arith, length-packed bits)

pub lists_length : (places : List (Option Tid)) → length (lists_bytes places) ≡ 2 + 6 * length places
lists_length places = omega (arith, each_length tid_option_bytes 6 length-tid_option_bytes places)

pub offsets_length : (offsets : List ℕ) → length (offsets_bytes offsets) ≡ 2 + 2 * length offsets
offsets_length offsets = omega (arith, each_length (to_le_bytes w16) 2 (λ x. refl) offsets)

-- a place's bytes before others
pub pointer_length : (block off : ℕ) (rest : List ℕ) → length (pointer_bytes block off ++ rest) ≡ 6 + length rest
pointer_length block off rest = length-append (pointer_bytes block off) rest ∙ ap (λ n. n + length rest) (length-pointer_bytes block off)

pub option_length : (place : Option Tid) (rest : List ℕ) → length (tid_option_bytes place ++ rest) ≡ 6 + length rest
option_length place rest = length-append (tid_option_bytes place) rest ∙ ap (λ n. n + length rest) (length-tid_option_bytes place)

pub ruleset lengths = (bits_length, lists_length, offsets_length, pointer_length, option_length, length-pointer_bytes, length-append)
