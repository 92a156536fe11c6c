use Rattle.std.proofs.Common.{◌∷◌, List, slice_set, sym, subst}
use Rattle.std.specs.List.Sorted.{IsPermutation}
use Rattle.search_sets.specs.declared.key.Key.{Key}
use Rattle.search_sets.specs.Leading.{IsLed}
use Rattle.search_sets.proofs.Leaders.{far_written, pushed_same}
use Rattle.search_sets.proofs.candidates.put_far.Goals as goal

pub returns-then-is_before-clause-led : goal.returns-then-is_before-clause-led
returns-then-is_before-clause-led c =
    subst (λ (l : List Key). IsLed (slice_set l 0 c.args.key)) (sym c.in_ok-push-2.ensures.items)
    (far_written c.as_slice-items.result.now c.args.far.now.items c.args.key c.index-items-0.result c.as_slice-items.ensures.value c.index-items-0.is c.if-is_empty.ensures (sym c.if-is_before.ensures) c.requires).0

pub returns-then-is_before-clause-ok : goal.returns-then-is_before-clause-ok
returns-then-is_before-clause-ok c =
    subst (λ (l : List Key). IsPermutation (c.args.key ∷ c.args.far.now.items) (slice_set l 0 c.args.key)) (sym c.in_ok-push-2.ensures.items)
    (far_written c.as_slice-items.result.now c.args.far.now.items c.args.key c.index-items-0.result c.as_slice-items.ensures.value c.index-items-0.is c.if-is_empty.ensures (sym c.if-is_before.ensures) c.requires).1

pub returns-clause-ok : goal.returns-clause-ok
returns-clause-ok c = subst (λ (l : List Key). IsPermutation (c.args.key ∷ c.args.far.now.items) l) (sym c.in_ok-push-3.ensures.items) (pushed_same c.args.far.now.items c.args.key)
