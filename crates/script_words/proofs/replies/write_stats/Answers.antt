use Rattle.std.proofs.Common.{[], ◌∷◌, ◌++◌}
use Rattle.std.specs.Prelude.{codes}
use Rattle.script_words.specs.Replies.{counted}
use Rattle.script_words.proofs.HitLines.{piece_more}
use Rattle.script_words.proofs.replies.write_stats.Goals as goal

pub returns : goal.returns
returns c =
    piece_more c.args.into.now.items (counted (codes "stats blocks ") c.args.counts.blocks ++ counted (codes " nodes ") c.args.counts.nodes ++ counted (codes " live ") c.args.counts.live ++ counted (codes " doomed ") c.args.counts.doomed ++ counted (codes " deleted ") c.args.counts.deleted ++ counted (codes " entries ") c.args.counts.entries) (10 ∷ []) c.write_counted-6.new.into.items c.extend_from_slice.new.self.items
    (piece_more c.args.into.now.items (counted (codes "stats blocks ") c.args.counts.blocks ++ counted (codes " nodes ") c.args.counts.nodes ++ counted (codes " live ") c.args.counts.live ++ counted (codes " doomed ") c.args.counts.doomed ++ counted (codes " deleted ") c.args.counts.deleted) (counted (codes " entries ") c.args.counts.entries) c.write_counted-5.new.into.items c.write_counted-6.new.into.items
    (piece_more c.args.into.now.items (counted (codes "stats blocks ") c.args.counts.blocks ++ counted (codes " nodes ") c.args.counts.nodes ++ counted (codes " live ") c.args.counts.live ++ counted (codes " doomed ") c.args.counts.doomed) (counted (codes " deleted ") c.args.counts.deleted) c.write_counted-4.new.into.items c.write_counted-5.new.into.items
    (piece_more c.args.into.now.items (counted (codes "stats blocks ") c.args.counts.blocks ++ counted (codes " nodes ") c.args.counts.nodes ++ counted (codes " live ") c.args.counts.live) (counted (codes " doomed ") c.args.counts.doomed) c.write_counted-3.new.into.items c.write_counted-4.new.into.items
    (piece_more c.args.into.now.items (counted (codes "stats blocks ") c.args.counts.blocks ++ counted (codes " nodes ") c.args.counts.nodes) (counted (codes " live ") c.args.counts.live) c.write_counted-2.new.into.items c.write_counted-3.new.into.items
    (piece_more c.args.into.now.items (counted (codes "stats blocks ") c.args.counts.blocks) (counted (codes " nodes ") c.args.counts.nodes) c.write_counted.new.into.items c.write_counted-2.new.into.items
    c.in_ok-write_counted.ensures c.in_ok-write_counted-2.ensures) c.in_ok-write_counted-3.ensures) c.in_ok-write_counted-4.ensures) c.in_ok-write_counted-5.ensures) c.in_ok-write_counted-6.ensures) c.in_ok-extend_from_slice.ensures.items
