use Rattle.std.proofs.Common.{◌≡◌, ℕ, List, length, ◌∙◌}
use Rattle.vec_outside.specs.Disk.{Image, IsImage, IsDurable, LeavesOnly, spliced}
use Rattle.std.proofs.lemmas.Result.{on_ok_weaker}
use Rattle.vec_outside.proofs.Moments.{torn_none, started, goes_on}
use Rattle.vec_outside.specs.Disk.{IsTornImage}
use Rattle.vec_outside.proofs.synced.write_synced.Goals as goal

pub returns-in_err-write_at-clause-moments : goal.returns-in_err-write_at-clause-moments
returns-in_err-write_at-clause-moments g c =
    let old = g.D.Disks.disk c.args.disks.now in
    let P : Image → Type 0 = IsTornImage c.args.area c.args.at (length c.args.bytes.now) old in
    let first : LeavesOnly old old P = started old P (g.met.D.Disks.only_now c.args.disks.now) (λ image is. record {
      torn = (image c.args.area, is c.args.area, torn_none _ _ _);
      others = λ other ne. is other;
    }) in
    goes_on _ _ _ P first c.write_at.ensures.time (λ image is. record {
      torn = c.write_at.ensures.written.leaves _ (is c.args.area);
      others = λ other ne. c.write_at.ensures.written.other_leaves other _ ne (is other);
    })

pub returns-clause-moments : goal.returns-clause-moments
returns-clause-moments g c =
    let old = g.D.Disks.disk c.args.disks.now in
    let P : Image → Type 0 = IsTornImage c.args.area c.args.at (length c.args.bytes.now) old in
    let first : LeavesOnly old old P = started old P (g.met.D.Disks.only_now c.args.disks.now) (λ image is. record {
      torn = (image c.args.area, is c.args.area, torn_none _ _ _);
      others = λ other ne. is other;
    }) in
    let torn : (image : Image) → IsImage (g.D.Disks.disk c.write_at.new.self) image → P image = λ image is. record {
      torn = c.write_at.ensures.written.leaves _ (is c.args.area);
      others = λ other ne. c.write_at.ensures.written.other_leaves other _ ne (is other);
    } in
    let second : LeavesOnly old (g.D.Disks.disk c.write_at.new.self) P = goes_on _ _ _ P first c.write_at.ensures.time torn in
    goes_on _ _ _ P second c.sync.ensures.time (λ image is. torn image (λ area. c.sync.ensures.kept.leaves area _ (is area)))

pub returns-clause-durable : goal.returns-clause-durable
returns-clause-durable g c =
    let new = g.D.Disks.disk c.sync.new.self in
    let is : IsDurable c.args.area new → (left : List ℕ) → new.leaves c.args.area left → left ≡ spliced ((g.D.Disks.disk c.args.disks.now).seen c.args.area) c.args.at c.args.bytes.now = λ durable left leaves.
    durable left leaves ∙ c.sync.ensures.kept.seen c.args.area ∙ c.in_ok-write_at.ensures.bytes (g.met.D.Disks.leaves_told c.sync.new.self c.args.area left leaves) in
    on_ok_weaker c.sync.result is c.sync.ensures.durable
