use Rattle.std.proofs.Common.{◌≡◌, ◌+◌, ◌-◌, ◌||◌, ℕ, suc, length, Bool, sym, ap, ◌∙◌, arith}
use Rattle.std.specs.Prelude.{slice_get}
use Rattle.std.proofs.lemmas.Bool.{ne_eqb}
use Rattle.ivf_pages.specs.Standing.{next_of}
use Rattle.ivf_pages.specs.Walking.{reaches}
use Rattle.ivf_pages.proofs.following.reaches.Goals as goal

pub loop-i-preserved : goal.loop-i-preserved
loop-i-preserved c =
    let pages = c.args.pages.now in
    let block = c.args.block in
    let met = c.in-Some.met in
    let most = length pages - (c.loop-i.i + 1) in
    let steps : length pages - c.loop-i.i ≡ suc most = omega arith in
    c.loop-i.invariant ∙ ap (λ (n : ℕ). reaches pages n block c.loop-i.to) steps ∙ ap (reaches pages (suc most) block) c.in-Some.is
    ∙ ap (λ (t : Bool). t || reaches pages most block (next_of (slice_get pages met))) (ne_eqb met block c.if-met-block.false)
    ∙ ap (reaches pages most block) (sym c.next_of-to.ensures)
