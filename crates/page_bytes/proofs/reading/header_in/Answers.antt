use Rattle.std.proofs.Common.{ℕ, ◌-◌, ◌/◌, [], Ok, Err, ◌∙◌, subst}
use Rattle.std.proofs.lemmas.Result.{err_from_is_err_and}
use Rattle.page_bytes.specs.Format.{FindsHalf, half, pointers, most_upper, behind_lower, behind_upper}
use Rattle.page_bytes.proofs.Readers.{page_begins}
use Rattle.page_bytes.proofs.reading.header_in.Goals as goal

pub returns-in_err-fixed_in : goal.returns-in_err-fixed_in
returns-in_err-fixed_in c =
    let p = err_from_is_err_and c.from_residual.result c.from_residual.ensures.1 in
    rw (p.1, p.2) (page_begins c.args.bytes.now c.requires (λ k. (c.type_inv.bytes k).fits) ∙ c.in_err-fixed_in.ensures (half 24 2744 4 behind_lower))

pub returns-in_err-lower : goal.returns-in_err-lower
returns-in_err-lower c =
    let p = err_from_is_err_and c.from_residual-in_err-lower.result c.from_residual-in_err-lower.ensures.1 in
    rw (p.1, p.2) (page_begins c.args.bytes.now c.requires (λ k. (c.type_inv.bytes k).fits) ∙ c.in_ok-fixed_in.ensures (half 24 2744 4 behind_lower) ∙ c.in_err-lower.ensures behind_lower)

pub returns-in_err-upper : goal.returns-in_err-upper
unfolding behind_lower
returns-in_err-upper c =
    let p = err_from_is_err_and c.from_residual-in_err-upper.result c.from_residual-in_err-upper.ensures.1 in
    let bytes = c.args.bytes.now in
    let lower = c.in_ok-lower.lower in
    let found = subst (λ (m : ℕ). FindsHalf m (most_upper lower) 8 bytes 14 (Err c.in_err-upper.field-0.0)) c.least_end.ensures c.in_err-upper.ensures in
    rw (p.1, p.2) (page_begins bytes c.requires (λ k. (c.type_inv.bytes k).fits) ∙ c.in_ok-fixed_in.ensures (half 24 2744 4 behind_lower) ∙ c.in_ok-lower.ensures.2 behind_lower ∙ found (behind_upper lower))

pub returns-in_err-fixed_in-2 : goal.returns-in_err-fixed_in-2
unfolding behind_lower behind_upper
returns-in_err-fixed_in-2 c =
    let p = err_from_is_err_and c.from_residual-in_err-fixed_in-2.result c.from_residual-in_err-fixed_in-2.ensures.1 in
    let bytes = c.args.bytes.now in
    let lower = c.in_ok-lower.lower in
    let upper = c.in_ok-upper.upper in
    let found = subst (λ (m : ℕ). FindsHalf m (most_upper lower) 8 bytes 14 (Ok upper)) c.least_end.ensures c.in_ok-upper.ensures in
    rw (p.1, p.2) (page_begins bytes c.requires (λ k. (c.type_inv.bytes k).fits) ∙ c.in_ok-fixed_in.ensures (half 24 2744 4 behind_lower) ∙ c.in_ok-lower.ensures.2 behind_lower ∙ found.2 (behind_upper lower) ∙ c.in_err-fixed_in-2.ensures (pointers ((lower - 24) / 4) (upper - lower) upper 8184 []))

pub returns : goal.returns
unfolding behind_lower behind_upper
returns c =
    let bytes = c.args.bytes.now in
    let lower = c.in_ok-lower.lower in
    let upper = c.in_ok-upper.upper in
    let found = subst (λ (m : ℕ). FindsHalf m (most_upper lower) 8 bytes 14 (Ok upper)) c.least_end.ensures c.in_ok-upper.ensures in
    (c.in_ok-lower.ensures.1, found.1, page_begins bytes c.requires (λ k. (c.type_inv.bytes k).fits) ∙ c.in_ok-fixed_in.ensures (half 24 2744 4 behind_lower) ∙ c.in_ok-lower.ensures.2 behind_lower ∙ found.2 (behind_upper lower) ∙ c.in_ok-fixed_in-2.ensures (pointers ((lower - 24) / 4) (upper - lower) upper 8184 []))
