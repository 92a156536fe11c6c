-- Fields of events are read as they are spelled.
use Rattle.std.proofs.Common.{ℕ, refl, ◌<◌, ◌≤◌, ◌^◌, ltb, sym, subst, arith, lit≤, lit<}
use Rattle.std.specs.Int.{w16, w32, to_le_bytes, from_le_bytes}
use Rattle.std.proofs.lemmas.Bool.{ltb-true, lt-ltb}
use Rattle.std.proofs.lemmas.Nat.{le_bytes_2, from_le_bytes-to_le_bytes_2}
use Rattle.byte_fields.specs.Reading.{only_if}
use Rattle.byte_fields.proofs.FieldLaws.{IsField, field_law, fitting}
use Rattle.byte_fields.proofs.EachField.{told_only, allowed, IsFrom, one_byte, byte_field, two_bytes_field, four_bytes_field}
use Rattle.vec_event.specs.Reading.{byte, version, number_of_two, block, two_bytes_above}

pub any_byte_field : IsField ⊥ byte one_byte (λ v. v < 2 ^ 8) 1
any_byte_field = fitting (λ v. v < 2 ^ 8) (λ v p. omega (arith, p.1)) (λ v p. (omega arith, omega (arith, p))) (byte_field 0 255 (lit≤ tt))

pub version_field : IsField ⊥ version one_byte (λ v. (1 ≤ v) × (v < 2 ^ 8)) 1
version_field = fitting (λ v. (1 ≤ v) × (v < 2 ^ 8)) (λ v p. (p.0, omega (arith, p.1))) (λ v p. (p.0, omega (arith, p.1))) (byte_field 1 255 (lit≤ tt))

pub number_field : IsField ⊥ number_of_two (to_le_bytes w16) (λ v. v < 2 ^ 16) 2
number_field = fitting (λ v. v < 2 ^ 16) (λ v p. omega (arith, p.1)) (λ v p. (omega arith, omega (arith, p))) (two_bytes_field 0 65535 (lit≤ tt) (lit< tt))

pub block_field : IsField ⊥ block (to_le_bytes w32) (IsFrom 0 32767) 4
block_field = four_bytes_field 0 32767 (lit≤ tt) (lit< tt)

-- no number is above the greatest one, so that nothing is said of what stands before a bad one
pub above_field : (low : ℕ) → IsField ⊥ (two_bytes_above low) (to_le_bytes w16) (λ v. (low < v) × (v < 2 ^ 16)) 2
unfolding two_bytes_above
above_field low = field_law ⊥ 2 (λ b. only_if (ltb low (from_le_bytes w16 b)) (from_le_bytes w16 b)) (to_le_bytes w16) (λ v. (low < v) × (v < 2 ^ 16)) (record {
  some = lit≤ tt;
  long = λ v p. refl;
  meant_by = λ v p. rw (from_le_bytes-to_le_bytes_2 v p.1) (allowed (ltb low v) v (lt-ltb low v p.0));
  only = λ bytes v len bs is.
      let t = told_only (ltb low (from_le_bytes w16 bytes)) (from_le_bytes w16 bytes) v is in
      (sym (le_bytes_2 bytes v len bs (sym t.1)), subst (λ v. (low < v) × (v < 2 ^ 16)) t.1 (ltb-true low (from_le_bytes w16 bytes) t.0, omega (arith, bs 0, bs 1)));
  inhabited = λ live. absurd live;
})
