use Rattle.std.proofs.Common.{◌≡◌, ◌+◌, ◌-◌, ◌++◌, ◌∷◌, [], suc, List, Option, take, drop, slice_get, sym, ap, ◌∙◌, arith}
use Rattle.vec_names.specs.declared.tid.Tid.{Tid}
use Rattle.page_sets.proofs.Shows.{take_more}
use Rattle.page_sets.proofs.slots.fill_slots.Goals as goal

pub slots-preserved : goal.slots-preserved
slots-preserved c = λ k is.
    let at : c.args.from + (c.slots.at - c.args.from) ≡ c.slots.at = omega (arith, c.slots.auto.at) in
    let next : c.slots.at + 1 - c.args.from ≡ suc (c.slots.at - c.args.from) = omega (arith, c.slots.auto.at) in
    c.add.ensures
    ∙ ap (λ (s : List (Option Tid)). s ++ c.slot.result ∷ []) (c.slots.invariant k is)
    ∙ sym (take_more k.tids c.args.from (c.slots.at - c.args.from) c.slot.result (ap (slice_get k.tids) at ∙ c.slot.ensures k is))
    ∙ ap (λ n. take n (drop c.args.from k.tids)) (sym next)
