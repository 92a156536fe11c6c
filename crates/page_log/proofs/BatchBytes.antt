-- The bytes of a batch behind its seal.
use Rattle.std.proofs.Common.{◌≡◌, ℕ, ◌+◌, ◌-◌, ◌<◌, List, [], ◌∷◌, ◌++◌, length, take, refl, sym, ap, ◌∙◌, arith}
use Rattle.std.specs.List.{AllByRecursion}
use Rattle.std.proofs.lemmas.List.{take_at}
use Rattle.vec_event.specs.Spelling.{RisesFrom}
use Rattle.page_log.specs.Going.{body_of, payload}
use Rattle.page_log.proofs.Holding.{body_length}

-- offsets that rise below 2^16 are fewer than that
pub rises_few : (low : ℕ) (xs : List ℕ) → RisesFrom low xs → AllByRecursion (λ x. x < 65536) xs → low < 65536 → low + length xs < 65536
rises_few low [] rises all below = omega (arith, below)
rises_few low (x ∷ xs) rises all below = omega (arith, rises.0, rises_few x xs rises.1 all.1 all.0)

pub payload_body : (bytes : List ℕ) → payload (body_of bytes) ≡ bytes
payload_body [] = refl
payload_body (b ∷ bytes) =
    let all = b ∷ bytes in
    let size : length (body_of all) - 5 ≡ length all = omega (arith, body_length all (omega arith)) in
    ap (λ (n : ℕ). take n (all ++ 0 ∷ [])) size ∙ take_at all (0 ∷ []) (length all) refl

pub whole_body : (bytes events : List ℕ) → bytes ≡ body_of events → bytes ≡ body_of (payload bytes)
whole_body bytes events is = is ∙ ap body_of (sym (payload_body events) ∙ ap payload (sym is))
