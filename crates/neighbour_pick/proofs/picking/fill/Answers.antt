use Rattle.std.proofs.Common.{◌∙◌, arith}
use Rattle.neighbour_pick.proofs.Sifted.{filled}
use Rattle.neighbour_pick.proofs.picking.fill.Goals as goal

pub returns : goal.returns
returns c =
    c.in_ok-extend_from_slice.ensures.items
    ∙ filled c.args.chosen.now.items c.args.aside.now c.args.count c.min-wanted.result (omega (arith, c.requires, c.args.chosen.now.ok.0))
    (omega (arith, c.min-wanted.ensures, c.len.ensures, c.args.chosen.now.ok.0))
