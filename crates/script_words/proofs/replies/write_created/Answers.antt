use Rattle.std.proofs.Common.{[], ◌∷◌, ◌++◌}
use Rattle.std.specs.Prelude.{codes}
use Rattle.script_words.specs.Replies.{counted}
use Rattle.script_words.proofs.HitLines.{piece_more}
use Rattle.script_words.proofs.replies.write_created.Goals as goal

pub returns : goal.returns
returns c =
    piece_more c.args.into.now.items (counted (codes "created blocks ") c.args.blocks ++ counted (codes " entries ") c.args.entries) (10 ∷ []) c.write_counted-2.new.into.items c.extend_from_slice.new.self.items
    (piece_more c.args.into.now.items (counted (codes "created blocks ") c.args.blocks) (counted (codes " entries ") c.args.entries) c.write_counted.new.into.items c.write_counted-2.new.into.items
    c.in_ok-write_counted.ensures c.in_ok-write_counted-2.ensures) c.in_ok-extend_from_slice.ensures.items
