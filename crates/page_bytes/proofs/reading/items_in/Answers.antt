use Rattle.std.proofs.Common.{◌≡◌, ◌+◌, ◌*◌, ◌-◌, ◌/◌, ap, ◌∙◌, arith}
use Rattle.page_bytes.specs.Spelling.{zeros}
use Rattle.page_bytes.specs.Format.{bad_place, fixed, stack, lens_at}
use Rattle.page_bytes.proofs.reading.items_in.Goals as goal

pub returns : goal.returns
returns c =
    let bytes = c.args.bytes.now in
    let lower = c.args.lower in
    let gap = c.args.upper - lower in
    let count = (lower - 24) / 4 in
    let items = stack (lens_at bytes count) in
    let there : 24 + 4 * count ≡ lower = omega (arith, c.requires.lower_in.even, c.requires.lower_in.least) in
    c.in_ok-pointers_in.ensures.1 gap ∙ ap (bad_place (fixed (zeros gap) items) bytes) there ∙ c.in_ok-zeros_in.ensures items ∙ c.in_ok-stack_in.ensures ∙ c.in_ok-ending_in.ensures
