use Rattle.std.proofs.lemmas.Result.{on_ok_weaker}
use Rattle.page_log.proofs.Shutting.{title_begins}
use Rattle.page_log.proofs.epoch_writing.write_title.Goals as goal

pub returns-clause-begins : goal.returns-clause-begins
returns-clause-begins g c told =
    let area = c.args.area in
    on_ok_weaker c.write_part.result (λ bytes. title_begins c.args.title.now ((g.D.Disks.disk c.args.disks.now).seen area) ((g.D.Disks.disk c.write_part.new.disks).seen area)
    c.requires.size (c.requires.whole told) bytes) (c.write_part.ensures.bytes told)
