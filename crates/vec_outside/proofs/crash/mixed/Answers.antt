use Rattle.std.proofs.Common.{arith, ◌≡◌, ◌<◌, ◌+◌, ◌∙◌, sym, ap, subst, length, get_or, drop, ℕ, vec_len}
use Rattle.vec_outside.proofs.Crashes.{IsMixing, comes_forth}
use Rattle.vec_outside.specs.Areas.{bytes_of}
use Rattle.vec_outside.specs.MemDisk.{now_left}
use Rattle.vec_outside.proofs.crash.mixed.Goals as goal

pub loop-piece-init : goal.loop-piece-init
loop-piece-init c =
    let start = c.in_ok-start.start in
    (c.in_ok-start.ensures.within, (start.bytes.items, c.in_ok-start.ensures.undone, now_left c.args.area start.bytes.items (drop (vec_len start.pieces) c.args.line.now.done.items)))

pub happen-requires : goal.happen-requires
happen-requires c =
    let now = bytes_of c.args.line.now.areas c.args.area in
    let calls = c.args.line.now.done.items in
    let rest = vec_len c.pop.new.self in
    let more : vec_len c.loop-piece.pieces ≡ rest + 1 = omega (arith, c.in-Some.ensures.len) in
    let within : rest < length calls = omega (arith, more, c.loop-piece.invariant.0) in
    let at : get_or calls rest c.index-call.result.now ≡ c.index-call.result.now = ap (λ (i : ℕ). get_or calls i c.index-call.result.now) (sym c.len.ensures) ∙ sym c.index-call.ensures in
    let mixing : IsMixing c.args.area now calls (rest + 1) c.loop-piece.bytes.items = subst (λ (k : ℕ). IsMixing c.args.area now calls k c.loop-piece.bytes.items) more c.loop-piece.invariant.1 in
    (comes_forth c.args.area now calls rest c.index-call.result.now within at c.loop-piece.bytes.items mixing).0

pub loop-piece-preserved : goal.loop-piece-preserved
loop-piece-preserved c =
    let now = bytes_of c.args.line.now.areas c.args.area in
    let calls = c.args.line.now.done.items in
    let rest = vec_len c.pop.new.self in
    let more : vec_len c.loop-piece.pieces ≡ rest + 1 = omega (arith, c.in-Some.ensures.len) in
    let within : rest < length calls = omega (arith, more, c.loop-piece.invariant.0) in
    let at : get_or calls rest c.index-call.result.now ≡ c.index-call.result.now = ap (λ (i : ℕ). get_or calls i c.index-call.result.now) (sym c.len.ensures) ∙ sym c.index-call.ensures in
    let mixing : IsMixing c.args.area now calls (rest + 1) c.loop-piece.bytes.items = subst (λ (k : ℕ). IsMixing c.args.area now calls k c.loop-piece.bytes.items) more c.loop-piece.invariant.1 in
    (omega (arith, within), (comes_forth c.args.area now calls rest c.index-call.result.now within at c.loop-piece.bytes.items mixing).1 _ c.in_ok-happen.ensures)
