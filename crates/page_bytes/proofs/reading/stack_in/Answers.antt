use Rattle.std.proofs.Common.{◌≡◌, ℕ, suc, ◌+◌, ◌-◌, ◌*◌, ◌/◌, ◌^◌, ap, ◌∙◌, arith}
use Rattle.std.proofs.lemmas.Result.{err_from_is_err_and}
use Rattle.page_bytes.specs.Content.{round8}
use Rattle.page_bytes.specs.Decoding.{word_at}
use Rattle.page_bytes.specs.Format.{stack, lens_at, room_of}
use Rattle.page_bytes.proofs.Placing.{rounds}
use Rattle.page_bytes.proofs.Readers.{len_at, room_last, room_of-nil, stack_skips, stack_end}
use Rattle.page_bytes.proofs.reading.stack_in.Goals as goal

pub round_up_8-requires : goal.round_up_8-requires
round_up_8-requires c =
    let bytes = c.args.bytes.now in
    let i = c.items.left - 1 in
    let last : c.items.left ≡ suc i = omega arith in
    let len : c.u32_at-len.result / 2 ^ 17 ≡ len_at bytes i = ap (λ (w : ℕ). w / 2 ^ 17) (c.u32_at-len.ensures ∙ ap (λ (k : ℕ). word_at bytes (24 + 4 * k)) c.from.ensures) in
    let room = room_last bytes c.items.left i last in
    let r = rounds (len_at bytes i) in
    omega (arith, len, room, r.above, c.items.invariant.1)

pub overflow_add-end : goal.overflow_add-end
overflow_add-end c =
    let bytes = c.args.bytes.now in
    let i = c.items.left - 1 in
    let last : c.items.left ≡ suc i = omega arith in
    let len : c.u32_at-len.result / 2 ^ 17 ≡ len_at bytes i = ap (λ (w : ℕ). w / 2 ^ 17) (c.u32_at-len.ensures ∙ ap (λ (k : ℕ). word_at bytes (24 + 4 * k)) c.from.ensures) in
    let room = room_last bytes c.items.left i last in
    let r = rounds (len_at bytes i) in
    let same = c.round_up_8.ensures ∙ ap round8 len in
    record { fits = omega (arith, same, room, c.items.invariant.1) }

pub zeros_in-requires-clause-order : goal.zeros_in-requires-clause-order
zeros_in-requires-clause-order c = omega (arith, (rounds (c.u32_at-len.result / 2 ^ 17)).above)

pub zeros_in-requires-clause-within : goal.zeros_in-requires-clause-within
zeros_in-requires-clause-within c =
    let bytes = c.args.bytes.now in
    let i = c.items.left - 1 in
    let last : c.items.left ≡ suc i = omega arith in
    let len : c.u32_at-len.result / 2 ^ 17 ≡ len_at bytes i = ap (λ (w : ℕ). w / 2 ^ 17) (c.u32_at-len.ensures ∙ ap (λ (k : ℕ). word_at bytes (24 + 4 * k)) c.from.ensures) in
    let room = room_last bytes c.items.left i last in
    let r = rounds (len_at bytes i) in
    let same = c.round_up_8.ensures ∙ ap round8 len in
    omega (arith, same, room, c.items.invariant.1)

pub returns-in_err-zeros_in : goal.returns-in_err-zeros_in
returns-in_err-zeros_in c =
    let bytes = c.args.bytes.now in
    let i = c.items.left - 1 in
    let last : c.items.left ≡ suc i = omega arith in
    let len : c.u32_at-len.result / 2 ^ 17 ≡ len_at bytes i = ap (λ (w : ℕ). w / 2 ^ 17) (c.u32_at-len.ensures ∙ ap (λ (k : ℕ). word_at bytes (24 + 4 * k)) c.from.ensures) in
    let room = room_last bytes c.items.left i last in
    let r = rounds (len_at bytes i) in
    let p = err_from_is_err_and c.from_residual.result c.from_residual.ensures.1 in
    let same = c.round_up_8.ensures ∙ ap round8 len in
    let found = stack_skips bytes c.items.left i c.items.at (c.u32_at-len.result / 2 ^ 17) c.round_up_8.result last len same (λ k. (c.type_inv.bytes k).fits) (omega (arith, room, r.above, c.items.invariant.1, c.requires.long)) in
    rw (p.1, p.2) (c.items.invariant.2 ∙ found ∙ c.in_err-zeros_in.ensures (stack (lens_at bytes i)))

pub items-preserved : goal.items-preserved
items-preserved c =
    let bytes = c.args.bytes.now in
    let i = c.items.left - 1 in
    let last : c.items.left ≡ suc i = omega arith in
    let len : c.u32_at-len.result / 2 ^ 17 ≡ len_at bytes i = ap (λ (w : ℕ). w / 2 ^ 17) (c.u32_at-len.ensures ∙ ap (λ (k : ℕ). word_at bytes (24 + 4 * k)) c.from.ensures) in
    let room = room_last bytes c.items.left i last in
    let r = rounds (len_at bytes i) in
    let same = c.round_up_8.ensures ∙ ap round8 len in
    let found = stack_skips bytes c.items.left i c.items.at (c.u32_at-len.result / 2 ^ 17) c.round_up_8.result last len same (λ k. (c.type_inv.bytes k).fits) (omega (arith, room, r.above, c.items.invariant.1, c.requires.long)) in
    (omega arith, omega (arith, same, room, c.items.invariant.1), c.items.invariant.2 ∙ found ∙ c.in_ok-zeros_in.ensures (stack (lens_at bytes i)))

pub returns : goal.returns
returns c =
    let none : c.items.left ≡ 0 = omega arith in
    let empty = ap (λ (n : ℕ). room_of (lens_at c.args.bytes.now n)) none ∙ room_of-nil c.args.bytes.now in
    c.items.invariant.2 ∙ stack_end c.args.bytes.now c.items.left c.items.at none (omega (arith, empty, c.items.invariant.1))
