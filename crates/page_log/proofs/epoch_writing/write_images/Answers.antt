use Rattle.std.proofs.Common.{◌≡◌, slice_get, slice_index_or, Some, refl, arith}
use Rattle.std.proofs.lemmas.List.{drop_more}
use Rattle.std.proofs.lemmas.Option.{slice_get_read}
use Rattle.page_log.specs.Aside.{IsShut}
use Rattle.page_log.proofs.ImageWrites.{writing_begins, writing_on}
use Rattle.page_log.proofs.Keeping.{keeps_both}
use Rattle.page_log.proofs.epoch_writing.write_images.Goals as goal

pub loop-pair-init : goal.loop-pair-init
loop-pair-init g c = record {
  writing = writing_begins g.D.Disks.told c.args.area c.args.pages.now c.args.which.now (g.D.Disks.disk c.args.disks.now)
      (g.met.D.Disks.only_now c.args.disks.now) c.requires.whole;
  later = omega arith;
}

pub returns-in_err-write_image-clause-keeps : goal.returns-in_err-write_image-clause-keeps
returns-in_err-write_image-clause-keeps g c =
    keeps_both IsShut c.args.area (g.D.Disks.disk c.args.disks.now) (g.D.Disks.disk c.loop-pair.disks) (g.D.Disks.disk c.write_image.new.disks)
    c.loop-pair.invariant.writing.kept c.write_image.ensures.keeps

pub loop-pair-preserved : goal.loop-pair-preserved
loop-pair-preserved g c =
    let which = c.args.which.now in
    let i = c.loop-pair.pair-index in
    let pair = slice_index_or which i (0, 0) in
    let page = c.index-pages-pair.result in
    let is : slice_get c.args.pages.now pair.1 ≡ Some page =
    slice_get_read c.args.pages.now _ pair.1 page refl (c.requires.places i (0, 0) c.loop-pair-test.true) c.index-pages-pair.is in
    record {
      writing = writing_on g.D.Disks.told c.args.area c.args.pages.now which i c.loop-pair.at _ pair page (g.D.Disks.disk c.args.disks.now) (g.D.Disks.disk c.loop-pair.disks)
          (g.D.Disks.disk c.write_image.new.disks) c.loop-pair.invariant.writing (drop_more which i (0, 0) c.loop-pair-test.true) is refl c.in_ok-write_image.ensures.page
          c.write_image.ensures.keeps c.in_ok-write_image.ensures.reach c.in_ok-write_image.ensures.begins;
      later = omega (arith, c.loop-pair.invariant.later, c.write_image.ensures.cause.later);
    }
