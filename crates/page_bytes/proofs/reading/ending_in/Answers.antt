use Rattle.std.proofs.Common.{ℕ, cond, nat_eq, refl, ap, ◌∙◌}
use Rattle.std.proofs.lemmas.Result.{err_from_is_err_and}
use Rattle.page_bytes.specs.Decoding.{word_at}
use Rattle.page_bytes.specs.Format.{half}
use Rattle.page_bytes.specs.Format.Format.{Done}
use Rattle.page_bytes.proofs.Readers.{ending_begins}
use Rattle.page_bytes.proofs.reading.ending_in.Goals as goal

pub returns-in_err-fixed_in : goal.returns-in_err-fixed_in
returns-in_err-fixed_in c =
    let p = err_from_is_err_and c.from_residual.result c.from_residual.ensures.1 in
    let least = cond (nat_eq (word_at c.args.bytes.now 8184) 0xFFFFFFFF) 1 4 in
    rw (p.1, p.2) (ending_begins c.args.bytes.now least c.requires (λ k. (c.type_inv.bytes k).fits) refl ∙ c.in_err-fixed_in.ensures (half least 4 1 (λ _. Done)))

pub returns-in_err-half_in : goal.returns-in_err-half_in
returns-in_err-half_in c =
    let p = err_from_is_err_and c.from_residual-in_err-half_in.result c.from_residual-in_err-half_in.ensures.1 in
    let least = c.least_kind.result in
    let is = c.least_kind.ensures ∙ ap (λ (n : ℕ). cond (nat_eq n 0xFFFFFFFF) 1 4) c.u32_at-next.ensures in
    rw (p.1, p.2) (ending_begins c.args.bytes.now least c.requires (λ k. (c.type_inv.bytes k).fits) is ∙ c.in_ok-fixed_in.ensures (half least 4 1 (λ _. Done)) ∙ c.in_err-half_in.ensures (λ _. Done))

pub returns : goal.returns
returns c =
    let least = c.least_kind.result in
    let is = c.least_kind.ensures ∙ ap (λ (n : ℕ). cond (nat_eq n 0xFFFFFFFF) 1 4) c.u32_at-next.ensures in
    ending_begins c.args.bytes.now least c.requires (λ k. (c.type_inv.bytes k).fits) is ∙ c.in_ok-fixed_in.ensures (half least 4 1 (λ _. Done)) ∙ c.in_ok-half_in.ensures.2 (λ _. Done)
