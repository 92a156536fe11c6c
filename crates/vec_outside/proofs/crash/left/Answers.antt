use Rattle.std.proofs.Common.{rules, ◌≡◌, vec_len}
use Rattle.vec_outside.proofs.Crashes.{same_left, undone_left}
use Rattle.vec_outside.specs.Areas.{bytes_of}
use Rattle.vec_outside.proofs.crash.left.Goals as goal

pub returns-in_ok-kept-in-Kept-clause-leaves : goal.returns-in_ok-kept-in-Kept-clause-leaves
returns-in_ok-kept-in-Kept-clause-leaves c =
    let now = bytes_of c.args.line.now.areas c.args.area in
    let is : c.in_ok-kept-in-Kept.kept.items ≡ now = search rules in
    same_left c.args.area now c.args.line.now.done.items c.in_ok-kept-in-Kept.kept.items is

pub returns-in_ok-go_back-in-Lost-clause-leaves : goal.returns-in_ok-go_back-in-Lost-clause-leaves
returns-in_ok-go_back-in-Lost-clause-leaves c =
    undone_left c.args.area (bytes_of c.args.line.now.areas c.args.area) (vec_len c.in_ok-go_back-in-Lost.field-0.pieces) c.args.line.now.done.items c.in_ok-go_back-in-Lost.field-0.bytes.items
    c.in_ok-go_back-in-Lost.ensures.undone
