use Rattle.std.proofs.Common.{◌∙◌, ◌∷◌, ◌++◌, [], ℕ, OnOk, slice_index, sym, ap, subst, arith}
use Rattle.page_log.specs.Aside.{AreAll, IsAside, IsShut, IsUnderShut, Keeps}
use Rattle.page_log.specs.NewEpochs.{NewEpoch, epoch_from, images_of, spelled_images, title}
use Rattle.page_log.specs.Writing.{BeginsWith}
use Rattle.page_log.specs.Opening.{parity_of}
use Rattle.page_log.proofs.ImageWrites.{images_length}
use Rattle.page_log.proofs.Keeping.{keeps_then, both_ok, told_ok}
use Rattle.page_log.proofs.NewBases.{few_rising, under_from}
use Rattle.page_log.proofs.Shutting.{shut_aside}
use Rattle.page_log.proofs.epochs.write_shut.Goals as goal

pub returns-in_err-close_seal-clause-keeps : goal.returns-in_err-close_seal-clause-keeps
returns-in_err-close_seal-clause-keeps g c below =
    subst (λ area. Keeps (IsAside (parity_of area) below) area (g.D.Disks.disk c.args.disks.now) (g.D.Disks.disk c.close_seal.new.disks)) c.area_of-area.ensures
    (c.close_seal.ensures.keeps below)

pub count_of-requires : goal.count_of-requires
count_of-requires g c = record {
  few = omega (
    arith,
    few_rising (images_of c.args.pages.now c.args.which.now) 0 c.args.blocks c.requires.rising (omega arith),
    images_length c.args.pages.now c.args.which.now c.requires.places,
    c.requires.most,
  );
}

pub write_behind-requires-clause-few : goal.write_behind-requires-clause-few
write_behind-requires-clause-few g c = omega (
  arith,
  few_rising (images_of c.args.pages.now c.args.which.now) 0 c.args.blocks c.requires.rising (omega arith),
  images_length c.args.pages.now c.args.which.now c.requires.places,
  c.requires.most,
)

pub returns-clause-written : goal.returns-clause-written
returns-clause-written g c =
    let area = c.area_of-area.result in
    let new : NewEpoch = epoch_from c.args.epoch c.args.before c.args.blocks c.args.pages.now c.args.which.now in
    let mid = g.D.Disks.disk c.close_seal.new.disks in
    let after = g.D.Disks.disk c.write_behind.new.disks in
    let front = (c.title-title.result ++ (slice_index (mid.seen area) 39 ∷ spelled_images new.images)) ++ 0 ∷ [] in
    let size = images_length c.args.pages.now c.args.which.now c.requires.places in
    let same = c.title-title.ensures ∙ ap (λ (n : ℕ). title c.args.epoch c.args.before c.args.blocks n) (c.count_of.ensures ∙ sym size) in
    subst (λ a. OnOk c.write_behind.result (AreAll (IsUnderShut new) a after)) c.area_of-area.ensures
    (both_ok c.write_behind.result c.write_behind.ensures.durable (told_ok (BeginsWith front (after.seen area)) c.write_behind.result c.write_behind.ensures.begins) (λ durable begins bytes left.
    let told = g.met.D.Disks.leaves_told c.write_behind.new.disks area bytes left in
    let shut = c.in_ok-close_seal.ensures.shut (mid.seen area) (g.met.D.Disks.seen_leaves c.close_seal.new.disks area told) in
    (_, shut.shut, under_from new _ _ (after.seen area) bytes same (begins told) (durable bytes left))))

pub returns-clause-keeps : goal.returns-clause-keeps
returns-clause-keeps g c below =
    let area = c.area_of-area.result in
    let old = g.D.Disks.disk c.args.disks.now in
    let mid = g.D.Disks.disk c.close_seal.new.disks in
    let after = g.D.Disks.disk c.write_behind.new.disks in
    subst (λ a. Keeps (IsAside (parity_of a) below) a old after) c.area_of-area.ensures
    (keeps_then (IsAside (parity_of area) below) IsShut area old mid after (c.close_seal.ensures.keeps below) c.in_ok-close_seal.ensures.shut c.write_behind.ensures.keeps
    (λ bytes shut. shut_aside (parity_of area) below bytes shut))
