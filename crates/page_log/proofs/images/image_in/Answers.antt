use Rattle.page_log.proofs.ImageRuns.{image_is, its_page}
use Rattle.page_log.proofs.images.image_in.Goals as goal

pub returns-in-Ok : goal.returns-in-Ok
returns-in-Ok c =
    image_is c.args.bytes.now c.args.blocks c.args.least c.word_at-block.result c.in-Ok.page c.requires c.word_at-block.ensures c.if-block-least.false c.if-block-blocks.false c.in-Ok.ensures.found

pub returns-in-Err : goal.returns-in-Err
returns-in-Err c image stands =
    let is = c.in-Err.ensures.only image.1 (its_page c.args.bytes.now c.args.blocks c.args.least image c.requires stands) in
    cc
