use Rattle.std.proofs.Common.{◌≤◌, ◌∙◌, arith, sym, length, take, length-take}
use Rattle.std.proofs.lemmas.Result.{on_ok_weaker}
use Rattle.vec_outside.proofs.Crashes.{makes_torn}
use Rattle.vec_outside.proofs.crash.happen.Goals as goal

pub returns-then-is_same : goal.returns-then-is_same
returns-then-is_same c =
    let few : length (take c.min-len.result c.args.piece.now) ≤ c.in-Wrote.write.len = omega (arith, length-take c.min-len.result c.args.piece.now) in
    on_ok_weaker c.tear.result
    (makes_torn c.in-Wrote.write c.args.call.now c.args.area _ c.args.bytes.now.items c.tear.new.bytes.items c.in-Wrote.is (sym c.is_same.ensures ∙ c.if-is_same.true) few)
    c.tear.ensures
