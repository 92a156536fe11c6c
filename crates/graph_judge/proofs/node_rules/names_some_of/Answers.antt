use Rattle.std.proofs.Common.{◌≡◌, ℕ, ◌+◌, ◌*◌, ◌/◌, ◌^◌, ◌<◌, ◌≤◌, eq-eqb, arith, rules}
use Rattle.std.proofs.lemmas.Bool.{eqb-true}
use Rattle.std.proofs.Math.Nat.{one-le-pow, lt-div-mul-add, div-eq_of_lt}
use Rattle.std.proofs.Math.Pow.{pow_mono}
use Rattle.graph_judge.proofs.node_rules.names_some_of.Goals as goal

below : (n b : ℕ) → 1 ≤ b → n / b ≡ 0 → n < b
below n b some e =
    let most : n < n / b * b + b = lt-div-mul-add some in
    let least : n < 0 * b + b = rw e at most in
    omega arith

pub returns-then-count-ge16 : goal.returns-then-count-ge16
returns-then-count-ge16 c =
    let many : 2 ^ 16 ≤ 2 ^ c.args.count = pow_mono {i = 16} {j = c.args.count} (omega arith) in
    (λ t. (c.if-mask-ne0.true, omega arith), λ _. search rules)

pub returns-else-count-ge16 : goal.returns-else-count-ge16
returns-else-count-ge16 c =
    (λ t. (c.if-mask-ne0.true, below c.args.mask (2 ^ c.args.count) (one-le-pow c.args.count 2 (omega arith)) (eqb-true _ _ t)), λ h. eq-eqb _ _ (div-eq_of_lt h.1))
