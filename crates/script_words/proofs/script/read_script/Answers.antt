use Rattle.std.proofs.Common.{◌≡◌, ap, sym, List, ℕ, length, take, arith}
use Rattle.std.proofs.lemmas.List.{length-take-le}
use Rattle.script_words.specs.Lines.{closed_part}
use Rattle.script_words.proofs.LineCuts.{closed_short}
use Rattle.script_words.proofs.Forms.{past_refused}
use Rattle.script_words.proofs.script.read_script.Goals as goal

pub slice_bounds-closed_front-end : goal.slice_bounds-closed_front-end
slice_bounds-closed_front-end c = sym (length-take-le 268435456 c.args.bytes.now (omega arith))

pub read_lines-requires-2 : goal.read_lines-requires-2
read_lines-requires-2 c =
    let size : length (take 268435456 c.args.bytes.now) ≡ 268435456 = length-take-le 268435456 c.args.bytes.now (omega arith) in
    let same : length c.closed_front.result.now ≡ length (closed_part (take 268435456 c.args.bytes.now)) = ap (λ (l : List ℕ). length l) c.closed_front.ensures in
    omega (arith, size, same, closed_short (take 268435456 c.args.bytes.now))

pub returns : goal.returns
returns c = past_refused c.args.form c.args.bytes.now c.closed_front.result.now c.in_ok-front-2.front.commands.items c.in_ok-front-2.front.next (omega arith) c.closed_front.ensures c.in_ok-front-2.ensures
