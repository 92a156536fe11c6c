use Rattle.std.proofs.Common.{sym, length}
use Rattle.std.proofs.lemmas.List.{append-nil}
use Rattle.std.proofs.lemmas.Result.{on_ok_weaker}
use Rattle.script_words.specs.Replies.{count_line}
use Rattle.script_words.proofs.HitLines.{lines_more, lines_whole}
use Rattle.script_words.proofs.replies.write_hits.Goals as goal

pub loop-dist-init : goal.loop-dist-init
loop-dist-init c = sym (append-nil c.args.into.now.items)

pub loop-dist-preserved : goal.loop-dist-preserved
loop-dist-preserved c =
    lines_more c.args.ops c.args.hits.now c.loop-dist.dist-index c.loop-dist-item.result c.args.into.now.items c.loop-dist.into.items c.write_hit.new.into.items
    c.loop-dist-test.true c.loop-dist-item.is c.loop-dist.invariant c.in_ok-write_hit.ensures

pub returns : goal.returns
returns c =
    on_ok_weaker c.write_count.result
    (lines_whole c.args.ops c.args.hits.now c.loop-dist.dist-index c.args.into.now.items c.loop-dist.into.items c.write_count.new.into.items (count_line (length c.args.hits.now)) c.loop-dist-test.false c.loop-dist.invariant)
    c.write_count.ensures
