use Rattle.std.proofs.Common.{refl}
use Rattle.script_words.proofs.Outside.{no_line}
use Rattle.script_words.proofs.line.read_line.Goals as goal

pub returns-in-None : goal.returns-in-None
returns-in-None c = (
  refl,
  no_line c.args.form c.args.text.now (λ skipped. let yes = c.is_skipped.ensures.1 skipped in absurd (cc (yes, c.if-is_skipped.false)))
      (rw c.in-None.is at c.in_ok-command.ensures),
)
