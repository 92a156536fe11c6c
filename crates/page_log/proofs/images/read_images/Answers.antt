use Rattle.std.proofs.Common.{◌≡◌, refl, subst, arith}
use Rattle.page_log.specs.ImageSteps.{TakesImage, LacksImage}
use Rattle.page_log.proofs.Fronts.{reads_on}
use Rattle.page_log.proofs.ImageRuns.{IsTaking, taking_on, taking_stops, taking_ends, rising_on, rising_ends, one_longer}
use Rattle.page_log.proofs.images.read_images.Goals as goal

pub returns-then-not-branch-clause-images : goal.returns-then-not-branch-clause-images
returns-then-not-branch-clause-images g c told =
    let area = (g.D.Disks.disk c.args.disks.now).seen c.args.area in
    let lacks : LacksImage area c.args.head.blocks c.loop-k.run.end c.loop-k.run c.read_image.new.run =
    subst (λ area. LacksImage area c.args.head.blocks c.loop-k.run.end c.loop-k.run c.read_image.new.run) (c.loop-k.invariant.only.kept.seen c.args.area)
    (c.in_ok-read_image.ensures.stops told c.if-not-branch.true) in
    taking_stops area c.args.head.blocks c.args.head.images c.loop-k.k c.loop-k.run c.read_image.new.run c.loop-k-test.true (c.loop-k.invariant.taking told) lacks

pub returns-then-not-branch-clause-all : goal.returns-then-not-branch-clause-all
returns-then-not-branch-clause-all g c fine =
    let stays = c.in_ok-read_image.ensures.stays c.if-not-branch.true in
    let bad = stays.1 in
    cc

pub returns-then-not-branch-clause-rising : goal.returns-then-not-branch-clause-rising
returns-then-not-branch-clause-rising g c =
    rising_ends c.args.head.blocks c.loop-k.run _ (c.in_ok-read_image.ensures.stays c.if-not-branch.true).0 c.loop-k.invariant.rising

pub loop-k-preserved : goal.loop-k-preserved
loop-k-preserved g c =
    let area = (g.D.Disks.disk c.args.disks.now).seen c.args.area in
    let rises = c.in_ok-read_image.ensures.rises c.if-not-branch.false in record {
      end = omega (arith, c.loop-k.invariant.end, rises.end_is);
      count = one_longer c.loop-k.run c.read_image.new.run c.args.head.blocks c.loop-k.k c.loop-k.invariant.count rises;
      fine = rises.bad_is;
      size = c.loop-k.invariant.size;
      taking = λ told.
          taking_on area c.args.head.blocks c.args.head.images c.loop-k.k c.loop-k.run c.read_image.new.run c.loop-k-test.true (c.loop-k.invariant.taking told)
          (subst (λ area. TakesImage area c.args.head.blocks c.loop-k.run.end c.loop-k.run c.read_image.new.run) (c.loop-k.invariant.only.kept.seen c.args.area)
          (c.in_ok-read_image.ensures.whole told c.if-not-branch.false));
      rising = rising_on c.args.head.blocks c.loop-k.run c.read_image.new.run c.loop-k.invariant.rising rises;
      only = reads_on _ _ _ c.loop-k.invariant.only c.read_image.ensures.only;
      later = omega (arith, c.loop-k.invariant.later, c.read_image.ensures.cause.later);
    }

pub returns-clause-images : goal.returns-clause-images
returns-clause-images g c told =
    let area = (g.D.Disks.disk c.args.disks.now).seen c.args.area in
    let last : c.loop-k.k ≡ c.args.head.images = omega arith in
    taking_ends area c.args.head.blocks c.args.head.images c.loop-k.run c.loop-k.invariant.fine
    (subst (λ k. IsTaking area c.args.head.blocks c.args.head.images k c.loop-k.run) last (c.loop-k.invariant.taking told))

pub returns-clause-rising : goal.returns-clause-rising
returns-clause-rising g c = rising_ends c.args.head.blocks c.loop-k.run _ refl c.loop-k.invariant.rising
