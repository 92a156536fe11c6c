use Rattle.std.proofs.Common.{sym, ◌∙◌}
use Rattle.vec_tuples.proofs.Clear.{zeros_clear, zeros_kept}
use Rattle.vec_tuples.proofs.bits.are_clear.Goals as goal

pub returns-clause-clear : goal.returns-clause-clear
returns-clause-clear c = λ told. zeros_clear c.args.count c.args.bytes.now c.requires.long (sym c.are_zero.ensures ∙ told)

pub returns-clause-kept : goal.returns-clause-kept
returns-clause-kept c = λ told. zeros_kept c.args.count c.args.bytes.now c.requires.some c.requires.few c.requires.long (sym c.are_zero.ensures ∙ told)
