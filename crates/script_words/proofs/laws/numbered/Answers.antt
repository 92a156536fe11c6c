use Rattle.script_words.proofs.AsMany.{numbered_so}
use Rattle.script_words.proofs.laws.numbered.Goals as goal

pub returns : goal.returns
returns c = numbered_so
