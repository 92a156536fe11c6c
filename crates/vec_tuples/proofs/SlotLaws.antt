-- The number of slots of a neighbour tuple is read as it is spelled.
use Rattle.std.specs.Prelude.{⊤}
use Rattle.std.proofs.Common.{◌≡◌, ◌≢◌, ℕ, zero, suc, ◌+◌, ◌*◌, ◌/◌, ◌%◌, ◌-◌, ◌≤◌, true, refl, sym, ap, subst, ◌∙◌, arith, lit≤}
use Rattle.std.specs.Prelude.{nat_le, ◌&&◌, ◌==◌}
use Rattle.std.specs.Int.{w16, to_le_bytes, from_le_bytes}
use Rattle.std.proofs.lemmas.Bool.{and_parts, and_from, leb-true, le-leb, eqb-true, eq-eqb}
use Rattle.std.proofs.lemmas.Nat.{div-mul-add, le_bytes_2, from_le_bytes-to_le_bytes_2}
use Rattle.std.proofs.Math.Nat.{div-add-mod, mul-mod_left}
use Rattle.vec_tuples.specs.Spelling.{IsSlotCount}
use Rattle.vec_tuples.specs.Reading.{is_slot_count, slot_count}
use Rattle.byte_fields.proofs.FieldLaws.{IsField, field_law}
use Rattle.byte_fields.specs.Reading.{only_if}
use Rattle.byte_fields.proofs.EachField.{told_only, allowed}

-- ---- how many slots

whole_of : (m count : ℕ) → count % m ≡ 0 → count ≡ count / m * m
whole_of m count r = sym (div-add-mod count m) ∙ ap (λ n. m * (count / m) + n) r ∙ omega arith

slots_told : (m count : ℕ) → is_slot_count m count ≡ true → IsSlotCount m count
unfolding is_slot_count
slots_told zero count t = let e = eqb-true count 0 t in (omega (arith, e), 0, omega arith, omega (arith, e))
slots_told (suc k) count t =
    let a = and_parts _ _ t in
    let b = and_parts _ _ a.1 in
    let c = and_parts _ _ b.1 in
    let q : ℕ = count / suc k in
    let low : 2 ≤ q = leb-true 2 q b.0 in
    let high : q ≤ 257 = leb-true q 257 c.0 in
    let level : q ≡ (q - 2) + 2 = omega (arith, low) in
    (leb-true count 1358 a.0, q - 2, omega (arith, high), whole_of (suc k) count (eqb-true (count % suc k) 0 c.1) ∙ ap (λ n. n * suc k) level)

slots_tell : (m count : ℕ) → IsSlotCount m count → is_slot_count m count ≡ true
unfolding is_slot_count
slots_tell zero count p = eq-eqb count 0 (p.3 ∙ omega arith)
slots_tell (suc k) count p =
    let level = p.1 in
    let whole : count ≡ (level + 2) * suc k + 0 = omega (arith, p.3) in
    let q : count / suc k ≡ level + 2 = ap (λ n. n / suc k) whole ∙ div-mul-add (level + 2) (suc k) 0 (omega arith) in
    and_from _ _ (le-leb count 1358 p.0)
    (and_from _ _ (le-leb 2 (count / suc k) (omega (arith, q)))
    (and_from _ _ (le-leb (count / suc k) 257 (omega (arith, q, p.2))) (eq-eqb (count % suc k) 0 (ap (λ n. n % suc k) p.3 ∙ mul-mod_left (level + 2) (suc k)))))

pub count_field : (m : ℕ) → m ≤ 100 → IsField ⊤ (slot_count m) (to_le_bytes w16) (IsSlotCount m) 2
unfolding slot_count
count_field m few = field_law ⊤ 2 (λ b. only_if (is_slot_count m (from_le_bytes w16 b)) (from_le_bytes w16 b)) (to_le_bytes w16) (IsSlotCount m) (record {
  some = lit≤ tt;
  inhabited = λ _. ((0 + 2) * m, (omega (arith, few), 0, omega arith, refl));
  long = λ v p. refl;
  meant_by = λ v p. rw (from_le_bytes-to_le_bytes_2 v (omega (arith, p.0))) (allowed _ v (slots_tell m v p));
  only = λ bytes v len bs is.
      let t = told_only (is_slot_count m (from_le_bytes w16 bytes)) (from_le_bytes w16 bytes) v is in
      (sym (le_bytes_2 bytes v len bs (sym t.1)), subst (IsSlotCount m) t.1 (slots_told m (from_le_bytes w16 bytes) t.0));
})

-- the test, as it is made where m is not 0
pub slot_count_at : (m count : ℕ) → m ≢ 0 → is_slot_count m count ≡ (nat_le count 1358 && (nat_le 2 (count / m) && (nat_le (count / m) 257 && (count % m == 0))))
unfolding is_slot_count
slot_count_at zero count some = absurd (some refl)
slot_count_at (suc k) count some = refl

pub slot_count_none : (m count : ℕ) → m ≡ 0 → is_slot_count m count ≡ (count == 0)
unfolding is_slot_count
slot_count_none m count none = rw none refl
