use Rattle.script_words.proofs.Forms.{one_script}
use Rattle.script_words.proofs.laws.one_reading.Goals as goal

pub returns : goal.returns
returns c form bytes a b fa fb = one_script form bytes a b fa fb
