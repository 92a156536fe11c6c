use Rattle.std.proofs.Common.{sym}
use Rattle.script_words.proofs.LineCuts.{closed_found, closed_missing}
use Rattle.script_words.proofs.script.closed_front.Goals as goal

pub returns-in-Some : goal.returns-in-Some
returns-in-Some c = sym (closed_found c.args.text.now c.in-Some.at c.in-Some.ensures)

pub returns-in-None : goal.returns-in-None
returns-in-None c = sym (closed_missing c.args.text.now c.in-None.ensures)
