-- How many elements of a list a mask leaves, one after the other.
use Rattle.std.proofs.Common.{◌≡◌, ℕ, zero, suc, ◌+◌, ◌-◌, ◌/◌, ◌%◌, ◌<◌, ◌==◌, Bool, true, false, List, [], ◌∷◌, length, drop, refl, sym, ap, ◌∙◌, arith}
use Rattle.std.specs.Prelude.{if◌then◌else◌}
use Rattle.std.proofs.lemmas.Bool.{eqb-true}
use Rattle.std.proofs.lemmas.Nat.{mod_below}
use Rattle.list_values.specs.Masks.{kept}

drop_split : {X : Type 0} (xs : List X) (j : ℕ) → j < length xs → (x : X) × (drop j xs ≡ x ∷ drop (j + 1) xs)
drop_split [] j low = absurd (omega (arith, low))
drop_split (x ∷ xs) zero low = (x, refl)
drop_split (x ∷ xs) (suc j) low =
    let rest = drop_split xs j (omega (arith, low)) in
    let next : suc j + 1 ≡ suc (j + 1) = omega arith in
    (rest.0, rest.1 ∙ ap (λ n. rest.0 ∷ drop n (x ∷ xs)) (sym next))

pub one_kept : {X : Type 0} (xs : List X) (mask j : ℕ) → j < length xs
    → (1 - mask % 2) + length (kept (mask / 2) (drop (j + 1) xs)) ≡ length (kept mask (drop j xs))
one_kept xs mask j low =
    let d = drop_split xs j low in
    by_test d.0 (drop (j + 1) xs) (mask % 2 == 1) refl ∙ sym (ap (λ ys. length (kept mask ys)) d.1)
  where
    by_test : {X : Type 0} (x : X) (ys : List X) (b : Bool) → (mask % 2 == 1) ≡ b
        → (1 - mask % 2) + length (kept (mask / 2) ys) ≡ length (if mask % 2 == 1 then kept (mask / 2) ys else x ∷ kept (mask / 2) ys)
    by_test x ys true is =
        let odd : mask % 2 ≡ 1 = eqb-true (mask % 2) 1 is in
        let count : (1 - mask % 2) + length (kept (mask / 2) ys) ≡ length (kept (mask / 2) ys) = omega (arith, odd) in
        count ∙ sym (ap (λ (t : Bool). length (if t then kept (mask / 2) ys else x ∷ kept (mask / 2) ys)) is)
    by_test x ys false is =
        let even : mask % 2 ≡ 0 = not_one (mask % 2) (mod_below mask 2 (omega arith)) is in
        let count : (1 - mask % 2) + length (kept (mask / 2) ys) ≡ suc (length (kept (mask / 2) ys)) = omega (arith, even) in
        count ∙ sym (ap (λ (t : Bool). length (if t then kept (mask / 2) ys else x ∷ kept (mask / 2) ys)) is)
      where
        not_one : (n : ℕ) → n < 2 → (n == 1) ≡ false → n ≡ 0
        not_one zero low is = refl
        not_one (suc zero) low is = absurd cc
        not_one (suc (suc n)) low is = absurd (omega (arith, low))
