use Rattle.std.proofs.Common.{◌≡◌, Some, sym, ap, subst, ◌∙◌, List}
use Rattle.std.specs.Prelude.{slice_get, slice_set}
use Rattle.ivf_pages.specs.declared.marks.Mark.{Mark}
use Rattle.ivf_pages.specs.Walking.{shortened_at, AreChanged}
use Rattle.ivf_pages.proofs.MarkChanges.{shorten_there}
use Rattle.ivf_pages.proofs.marks.shorten.Goals as goal

pub returns : goal.returns
returns c =
    let is : slice_get c.args.marks.now c.args.block ≡ Some c.in-Some.mark = sym c.get.ensures ∙ sym c.copied.ensures ∙ c.in-Some.is in
    subst (λ (after : List Mark). AreChanged (shortened_at c.args.block) c.args.marks.now after)
    (sym (c.set.ensures ∙ ap (λ (m : Mark). slice_set c.args.marks.now c.args.block m) c.shortened.ensures))
    (shorten_there c.args.block c.args.marks.now c.in-Some.mark is)
