-- The entry tuple and the list tuple are read as they are spelled.
use Rattle.std.specs.Prelude.{⊤}
use Rattle.std.proofs.Common.{◌≡◌, ℕ, ◌+◌, ◌/◌, List, ◌∷◌, ◌++◌, refl, arith, lit<, lit≤}
use Rattle.std.specs.Int.{w16, w32, to_le_bytes}
use Rattle.vec_names.specs.declared.heap_id.HeapId.{HeapId}
use Rattle.vec_names.specs.declared.params.Params.{Params}
use Rattle.vec_names.specs.Params.{IsInRange}
use Rattle.vec_names.specs.Pointer.{heap_id_bytes}
use Rattle.vec_tuples.specs.Spelling.{bits_bytes, entry_bytes, IsEntry, centre_bytes, IsCentre}
use Rattle.vec_tuples.specs.Reading.{entry, centre}
use Rattle.byte_fields.proofs.FieldLaws.{IsField, viewed_law, then_law, wider}
use Rattle.byte_fields.proofs.EachField.{IsFrom, four_bytes_field, two_bytes_field, heap_id_field}
use Rattle.vec_tuples.proofs.EachField.{bits_field}

zero_two : (none : ℕ) (id : HeapId) (tail : List ℕ) → IsFrom 0 0 none → heap_id_bytes id ++ (0 ∷ 0 ∷ tail) ≡ heap_id_bytes id ++ (to_le_bytes w16 none ++ tail)
zero_two none id tail is =
    let z : none ≡ 0 = omega (arith, is.1) in
    rw z refl

pub entry_field : (p : Params) → IsInRange p → IsField ⊤ (entry p) entry_bytes (IsEntry p) 8016
unfolding entry entry_bytes
entry_field p r =
    wider (6 + (2 + (8 + (p.bits + 7) / 8))) 8016 (omega (arith, r.bits_high))
    (viewed_law _ _
    (then_law heap_id_field (then_law (two_bytes_field 0 0 (lit≤ tt) (lit< tt)) (bits_field p.bits r.bits_low r.bits_high)))
    entry_bytes (IsEntry p)
    (λ row fits. ((row.id, (0, row.bits)), refl, (tt, ((lit≤ tt, lit≤ tt), fits)), zero_two 0 row.id (bits_bytes row.bits) (lit≤ tt, lit≤ tt)))
    (λ w f. (f.1.1, zero_two w.1.0 w.0 (bits_bytes w.1.1) f.1.0)))

zero_four : (none first aim : ℕ) (tail : List ℕ) → IsFrom 0 0 none
    → to_le_bytes w32 first ++ (to_le_bytes w32 aim ++ (0 ∷ 0 ∷ 0 ∷ 0 ∷ tail)) ≡ to_le_bytes w32 first ++ (to_le_bytes w32 aim ++ (to_le_bytes w32 none ++ tail))
zero_four none first aim tail is =
    let z : none ≡ 0 = omega (arith, is.1) in
    rw z refl

pub centre_field : (p : Params) → IsInRange p → IsField ⊤ (centre p) centre_bytes (IsCentre p) 8020
unfolding centre centre_bytes
centre_field p r =
    wider (4 + (4 + (4 + (8 + (p.bits + 7) / 8)))) 8020 (omega (arith, r.bits_high))
    (viewed_law _ _
    (then_law (four_bytes_field 0 4294967295 (lit≤ tt) (lit< tt)) (then_law (four_bytes_field 0 4294967295 (lit≤ tt) (lit< tt)) (then_law (four_bytes_field 0 0 (lit≤ tt) (lit< tt)) (bits_field p.bits r.bits_low r.bits_high))))
    centre_bytes (IsCentre p)
    (λ c fits.
    ((c.first, (c.aim, (0, c.bits))), refl, ((omega arith, omega (arith, fits.0)), ((omega arith, omega (arith, fits.1)), ((lit≤ tt, lit≤ tt), fits.2))), zero_four 0 c.first c.aim (bits_bytes c.bits) (lit≤ tt, lit≤ tt)))
    (λ w f. ((omega (arith, f.0.1), omega (arith, f.1.0.1), f.1.1.1), zero_four w.1.1.0 w.0 w.1.0 (bits_bytes w.1.1.1) f.1.1.0)))
