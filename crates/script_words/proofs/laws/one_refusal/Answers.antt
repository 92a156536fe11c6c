use Rattle.script_words.proofs.Forms.{one_outside}
use Rattle.script_words.proofs.laws.one_refusal.Goals as goal

pub returns : goal.returns
returns c form bytes a b fa fb = one_outside form bytes a b fa fb
