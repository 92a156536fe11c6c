use Rattle.std.proofs.Common.{◌∙◌, refl, arith}
use Rattle.page_log.proofs.ImageRuns.{none_past_end, takes_there, lacks_there}
use Rattle.page_log.proofs.images.read_image.Goals as goal

pub returns-then-size-run-clause-stops : goal.returns-then-size-run-clause-stops
returns-then-size-run-clause-stops g c told _ = record {
  none = λ image. none_past_end _ c.args.blocks c.args.run.now.least c.args.run.now.end image (omega (arith, c.if-size-run.true, c.requires.size told));
  images = refl;
  bad_is = refl;
}

pub returns-clause-whole : goal.returns-clause-whole
returns-clause-whole g c told goes_on =
    takes_there _ c.deref.result.now c.args.blocks c.args.run.now.end c.args.run.now c.take_image.new.run (c.deref.ensures.value ∙ c.in_ok-bytes.ensures.bytes told) (c.in_ok-take_image.ensures.whole goes_on)

pub returns-clause-stops : goal.returns-clause-stops
returns-clause-stops g c told stops =
    lacks_there _ c.deref.result.now c.args.blocks c.args.run.now.end c.args.run.now c.take_image.new.run (c.deref.ensures.value ∙ c.in_ok-bytes.ensures.bytes told) (c.in_ok-take_image.ensures.stops stops)
