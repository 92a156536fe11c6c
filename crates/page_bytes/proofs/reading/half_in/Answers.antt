use Rattle.std.proofs.Common.{ℕ, ◌+◌, get_or, sym, ap, ◌∙◌, subst, arith}
use Rattle.page_bytes.specs.Decoding.{half_at}
use Rattle.page_bytes.specs.Format.{InHalf, is_half, begins_half, bad_place}
use Rattle.page_bytes.proofs.Parts.{is_half-true, steps_of}
use Rattle.page_bytes.proofs.Readers.{half_found, half_bad_first, half_bad_second}
use Rattle.page_bytes.proofs.reading.half_in.Goals as goal

pub returns-then-is_in : goal.returns-then-is_in
returns-then-is_in c =
    let bytes = c.args.bytes.now in
    let number = c.u16_at-number.ensures ∙ ap (half_at bytes) c.from.ensures in
    let inside = is_half-true c.args.low c.args.high c.args.step c.u16_at-number.result (sym c.is_in.ensures ∙ c.if-is_in.true) in
    (number, inside, λ next. half_found c.args.low c.args.high c.args.step next bytes c.args.at (steps_of c.args.step c.requires.whole) (omega (arith, c.requires.long)) (c.type_inv.bytes c.args.at).fits (subst (InHalf c.args.low c.args.high c.args.step) number inside) ∙ ap (λ (n : ℕ). bad_place (next n) bytes (c.args.at + 2)) (sym number))

pub returns-then-may_begin : goal.returns-then-may_begin
returns-then-may_begin c =
    let bytes = c.args.bytes.now in
    let number = c.u16_at-number.ensures ∙ ap (half_at bytes) c.from.ensures in
    let apart = ap (is_half c.args.low c.args.high c.args.step) (sym number) ∙ sym c.is_in.ensures ∙ c.if-is_in.false in
    let begun = ap (λ (i : ℕ). begins_half c.args.low c.args.high c.args.step (get_or bytes i 0)) (sym c.from-else-is_in.ensures) ∙ sym c.may_begin.ensures ∙ c.if-may_begin.true in
    λ next. half_bad_second c.args.low c.args.high c.args.step next bytes c.args.at (omega (arith, c.requires.long)) apart begun

pub returns-else-may_begin : goal.returns-else-may_begin
returns-else-may_begin c =
    let bytes = c.args.bytes.now in
    let begun = ap (λ (i : ℕ). begins_half c.args.low c.args.high c.args.step (get_or bytes i 0)) (sym c.from-else-is_in.ensures) ∙ sym c.may_begin.ensures ∙ c.if-may_begin.false in
    λ next. half_bad_first c.args.low c.args.high c.args.step next bytes c.args.at (omega (arith, c.requires.long)) begun
