use Rattle.std.proofs.Common.{◌≡◌, ℕ, ◌+◌, ◌-◌, ◌<◌, List, length, get_or, subst, arith, rules}
use Rattle.std.proofs.lemmas.Grind.{common_steps}
use borrow.Rule.Slice.PartMut.{put_mid}
use Rattle.page_bytes.specs.Splice.{spliced}
use Rattle.page_bytes.proofs.ItemChanges.{part_byte}
use Rattle.page_bytes.proofs.bytes.change_part.Goals as goal

pub returns : goal.returns
unfolding spliced
returns g c =
    let y = c.change.new.item in
    let end : c.args.at + c.args.len - c.args.at ≡ c.args.len = omega arith in
    let long : length y ≡ c.args.len = omega (arith, c.change.auto.item) in
    let made : put_mid c.args.at (c.args.at + c.args.len - c.args.at) c.args.bytes.now y ≡ spliced c.args.bytes.now c.args.at y = grind (arith, common_steps) in
    (y, rw end at c.change.ensures, long, made, λ k. part_byte c.args.bytes.now y c.args.at k (omega arith) (λ i. subst (λ (b : List ℕ). get_or b i 0 < 256) made (c.type_inv.bytes i).fits))
