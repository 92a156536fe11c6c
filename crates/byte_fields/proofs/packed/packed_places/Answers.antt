use Rattle.std.proofs.Common.{sym, ◌∙◌}
use Rattle.byte_fields.proofs.Clear.{packed_clear}
use Rattle.byte_fields.proofs.packed.packed_places.Goals as goal

pub returns-clause-kept : goal.returns-clause-kept
returns-clause-kept c =
    packed_clear c.args.count c.split_at.result.0.now c.requires.some c.requires.few c.split_at.ensures.front_len (sym c.is_clear.ensures ∙ c.if-not-is_clear.false)
