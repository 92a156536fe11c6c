use Rattle.std.proofs.Common.{◌++◌, ap, ap₂, ◌∙◌, List}
use Rattle.search_sets.specs.declared.key.Key.{Key}
use Rattle.search_sets.specs.Keys.{in_order}
use Rattle.search_sets.proofs.Batches.{split_in_order}
use Rattle.search_sets.proofs.nearest.all_of.Goals as goal

pub returns : goal.returns
returns c =
    ap in_order
    (c.in_ok-extend_from_slice-2.ensures.items ∙ ap₂ (λ (a b : List Key). a ++ b) (c.in_ok-extend_from_slice.ensures.items
    ∙ ap₂ (λ (a b : List Key). a ++ b) c.new-all.ensures.items c.deref.ensures.value) c.deref-2.ensures.value)
    ∙ split_in_order c.args.best.now.items c.args.rest.now.items c.requires.rise c.requires.below
