-- The levels that a word reaches are the lowest ones.
use Rattle.std.proofs.Common.{◌≡◌, ℕ, zero, suc, ◌+◌, ◌-◌, ◌*◌, ◌/◌, ◌^◌, ◌<◌, ◌≤◌, Bool, true, false, refl, sym, ap, subst, ◌∙◌, arith, inl, inr}
use Rattle.std.specs.Prelude.{nat_lt, if◌then◌else◌}
use Rattle.std.proofs.lemmas.Bool.{false_from_ne_true, ltb-true, lt-ltb, cases_lt}
use Rattle.std.proofs.Math.Nat.{div-div-eq-div-mul, div-le_self, div-one, pow-suc, pow-zero}
use Rattle.vec_names.specs.Levels.{does_reach, levels_reached}

pub next_reaching : (m level reaching : ℕ) → reaching ≡ 2 ^ 64 / m ^ level → reaching / m ≡ 2 ^ 64 / m ^ suc level
next_reaching m level reaching is = ap (λ n. n / m) is ∙ div-div-eq-div-mul (2 ^ 64) (m ^ level) m ∙ ap (λ n. 2 ^ 64 / n) (sym (pow-suc m level))

pub one_more : (word m level : ℕ) → levels_reached word m level ≡ level → word < 2 ^ 64 / m ^ suc level → levels_reached word m (suc level) ≡ level + 1
one_more word m level all low =
    let yes_it : does_reach word m (suc level) ≡ true = lt-ltb word (2 ^ 64 / m ^ suc level) low in
    ap (λ b. levels_reached word m level + (if b then 1 else 0)) yes_it ∙ ap (λ n. n + 1) all

-- a word that does not reach a level reaches none above it
unreached : (word m level above : ℕ) → 2 ^ 64 / m ^ level ≤ word → level ≤ above → 2 ^ 64 / m ^ above ≤ word
unreached word m level zero high low = subst (λ n. 2 ^ 64 / m ^ n ≤ word) (let none : level ≡ zero = omega (arith, low) in none) high
unreached word m level (suc above) high low =
    elim (cases_lt above level) [
      | inl less ↦ subst (λ n. 2 ^ 64 / m ^ n ≤ word) (let same : level ≡ suc above = omega (arith, low, less) in same) high
      | inr le ↦
          let less : 2 ^ 64 / m ^ suc above ≡ 2 ^ 64 / m ^ above / m = sym (next_reaching m above (2 ^ 64 / m ^ above) refl) in
          omega (arith, less, div-le_self (2 ^ 64 / m ^ above) m, unreached word m level above high le)
    ]

no_more : (word m level above : ℕ) → 2 ^ 64 / m ^ suc level ≤ word → level ≤ above → levels_reached word m above ≡ levels_reached word m level
no_more word m level zero high low = ap (levels_reached word m) (let none : zero ≡ level = omega (arith, low) in none)
no_more word m level (suc above) high low =
    elim (cases_lt above level) [
      | inl less ↦ ap (levels_reached word m) (let same : suc above ≡ level = omega (arith, low, less) in same)
      | inr le ↦
          let high_here : 2 ^ 64 / m ^ suc above ≤ word = unreached word m (suc level) (suc above) high (omega (arith, le)) in
          let not_it : does_reach word m (suc above) ≡ false = false_from_ne_true (does_reach word m (suc above)) (λ reaches. absurd (omega (arith, ltb-true word (2 ^ 64 / m ^ suc above) reaches, high_here))) in
          ap (λ b. levels_reached word m above + (if b then 1 else 0)) not_it ∙ omega (arith, no_more word m level above high le)
    ]

pub level_is : (word m level most : ℕ) → level ≤ most → levels_reached word m level ≡ level → 2 ^ 64 / m ^ suc level ≤ word → level ≡ levels_reached word m most
level_is word m level most inside all high = sym all ∙ sym (no_more word m level most high inside)

pub all_words : (m : ℕ) → 2 ^ 64 ≡ 2 ^ 64 / m ^ 0
all_words m = sym (ap (λ n. 2 ^ 64 / n) (pow-zero m) ∙ div-one (2 ^ 64))
