use Rattle.std.proofs.Common.{◌≡◌, ◌+◌, ◌-◌, List, ap, sym, ◌∙◌, remove, arith}
use Rattle.ivf_graph.specs.Graph.{Row}
use Rattle.ivf_graph.proofs.FromTheEnd.{looked_at, stays, goes}
use Rattle.ivf_graph.proofs.applying.drop_rows.Goals as goal

pub loop-at-preserved-then-is_named : goal.loop-at-preserved-then-is_named
loop-at-preserved-then-is_named c =
    let n : c.loop-at.at ≡ c.loop-at.at - 1 + 1 = omega arith in
    let was = c.loop-at.invariant ∙ ap (λ k. looked_at c.args.gone.now k c.args.rows.now) n in
    c.remove.ensures.rest ∙ ap (λ (l : List Row). remove l (c.loop-at.at - 1)) was
    ∙ goes c.args.gone.now (c.loop-at.at - 1) c.args.rows.now (omega arith) (sym c.is_named.ensures ∙ c.if-is_named.true)

pub loop-at-preserved : goal.loop-at-preserved
loop-at-preserved c =
    let n : c.loop-at.at ≡ c.loop-at.at - 1 + 1 = omega arith in
    c.loop-at.invariant ∙ ap (λ k. looked_at c.args.gone.now k c.args.rows.now) n
    ∙ stays c.args.gone.now (c.loop-at.at - 1) c.args.rows.now (omega arith) (sym c.is_named.ensures ∙ c.if-is_named.false)
