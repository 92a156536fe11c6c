use Rattle.std.proofs.Common.{ℕ, List, length, subst}
use Rattle.vec_outside.specs.declared.disks.Area.TheVariants.{Log0}
use Rattle.page_log.specs.Aside.{AreAll, IsUnderShut}
use Rattle.page_log.specs.NewEpochs.{IsNewEpoch, epoch_from}
use Rattle.vec_recover.specs.Creating.{first_epoch}
use Rattle.vec_recover.proofs.Created.{none_or_new, none_yet, places_there, rising_all, stands_new, under}
use Rattle.vec_recover.proofs.creating.write_first.Goals as goal

pub write_epoch-requires-clause-rising : goal.write_epoch-requires-clause-rising
write_epoch-requires-clause-rising g c = rising_all c.args.pages.now c.args.which.now c.requires.each

pub write_epoch-requires-clause-places : goal.write_epoch-requires-clause-places
write_epoch-requires-clause-places g c = places_there (length c.args.pages.now) c.args.which.now c.requires.each

pub returns-in-Err-clause-moments : goal.returns-in-Err-clause-moments
returns-in-Err-clause-moments g c shut =
    none_yet c.args.pages.now (g.D.Disks.disk c.args.disks.now) (g.D.Disks.disk c.write_epoch.new.disks) (g.D.Disks.disk c.write_epoch.new.disks) shut
    (c.write_epoch.ensures.keeps 0)

pub returns-in-Ok-open_epoch-clause-moments : goal.returns-in-Ok-open_epoch-clause-moments
returns-in-Ok-open_epoch-clause-moments g c shut =
    none_or_new c.args.pages.now (g.D.Disks.disk c.args.disks.now) (g.D.Disks.disk c.write_epoch.new.disks) (g.D.Disks.disk c.open_epoch.new.disks) shut
    (c.write_epoch.ensures.keeps 0)
    (subst (λ (pairs : List (ℕ × ℕ)). IsNewEpoch (epoch_from 1 0 (length c.args.pages.now) c.args.pages.now pairs)) c.requires.each c.in-Ok.ensures.good)
    (subst (λ (pairs : List (ℕ × ℕ)). AreAll (IsUnderShut (epoch_from 1 0 (length c.args.pages.now) c.args.pages.now pairs)) Log0 (g.D.Disks.disk c.write_epoch.new.disks))
    c.requires.each c.in-Ok.ensures.written)
    (c.open_epoch.ensures.keeps (first_epoch c.args.pages.now))

pub returns-in-Err-open_epoch-clause-moments : goal.returns-in-Err-open_epoch-clause-moments
returns-in-Err-open_epoch-clause-moments g c shut =
    none_or_new c.args.pages.now (g.D.Disks.disk c.args.disks.now) (g.D.Disks.disk c.write_epoch.new.disks) (g.D.Disks.disk c.open_epoch.new.disks) shut
    (c.write_epoch.ensures.keeps 0)
    (subst (λ (pairs : List (ℕ × ℕ)). IsNewEpoch (epoch_from 1 0 (length c.args.pages.now) c.args.pages.now pairs)) c.requires.each c.in-Ok.ensures.good)
    (subst (λ (pairs : List (ℕ × ℕ)). AreAll (IsUnderShut (epoch_from 1 0 (length c.args.pages.now) c.args.pages.now pairs)) Log0 (g.D.Disks.disk c.write_epoch.new.disks))
    c.requires.each c.in-Ok.ensures.written)
    (c.open_epoch.ensures.keeps (first_epoch c.args.pages.now))

pub returns-in-Ok-open_epoch-clause-stands : goal.returns-in-Ok-open_epoch-clause-stands
returns-in-Ok-open_epoch-clause-stands g c shut =
    let pages = c.args.pages.now in
    let old = g.D.Disks.disk c.args.disks.now in
    let mid = g.D.Disks.disk c.write_epoch.new.disks in
    let new = g.D.Disks.disk c.open_epoch.new.disks in
    let first = c.write_epoch.ensures.keeps 0 in
    let good : IsNewEpoch (first_epoch pages) =
    subst (λ (pairs : List (ℕ × ℕ)). IsNewEpoch (epoch_from 1 0 (length pages) pages pairs)) c.requires.each c.in-Ok.ensures.good in
    let written : AreAll (IsUnderShut (first_epoch pages)) Log0 mid =
    subst (λ (pairs : List (ℕ × ℕ)). AreAll (IsUnderShut (epoch_from 1 0 (length pages) pages pairs)) Log0 mid) c.requires.each c.in-Ok.ensures.written in
    let second = c.open_epoch.ensures.keeps (first_epoch pages) in
    stands_new pages old mid new shut first good written second
    (c.in-Ok-open_epoch.ensures.open (first_epoch pages) (under pages old mid new shut first good written second))
