use Rattle.std.proofs.Common.{arith}
use Rattle.page_bytes.proofs.Whole.{ends}
use Rattle.page_bytes.proofs.page.Page.count.Goals as goal

pub overflow_sub-result : goal.overflow_sub-result
overflow_sub-result c =
    let e = ends c.self.inside.bytes c.args.self.now c.self.invariant c.self.view_is in
    omega (arith, e.lower)

pub returns : goal.returns
returns c =
    let e = ends c.self.inside.bytes c.args.self.now c.self.invariant c.self.view_is in
    omega (arith, e.lower)
