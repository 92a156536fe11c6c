use Rattle.std.proofs.Common.{◌≡◌, ◌+◌, ◌-◌, ◌&&◌, ◌||◌, ℕ, suc, length, Bool, sym, ap, ap₂, ◌∙◌, arith}
use Rattle.std.specs.Prelude.{slice_get}
use Rattle.std.proofs.lemmas.Bool.{ne_eqb}
use Rattle.ivf_pages.specs.Walking.{behind, comes_to}
use Rattle.ivf_pages.proofs.walking.comes_to.Goals as goal

pub loop-i-preserved : goal.loop-i-preserved
loop-i-preserved c =
    let links = c.args.links.now in
    let block = c.args.block in
    let met = c.in-Some.met in
    let most = length links - (c.loop-i.i + 1) in
    let steps : length links - c.loop-i.i ≡ suc most = omega (arith, c.loop-i-test.true, c.len-i-end.ensures, c.loop-i.auto.i-end) in
    c.loop-i.invariant ∙ ap (λ (n : ℕ). comes_to links n block c.loop-i.to) steps ∙ ap (comes_to links (suc most) block) c.in-Some.is
    ∙ ap₂ (λ (s t : Bool). s && (t || comes_to links most block (behind (slice_get links met))))
    (sym c.leads.ensures ∙ c.if-not-leads.false) (ne_eqb met block c.if-met-block.false)
    ∙ ap (comes_to links most block) (sym c.behind-to.ensures)
