use Rattle.script_words.proofs.Forms.{no_line_outside}
use Rattle.script_words.proofs.laws.apart.Goals as goal

pub returns : goal.returns
returns c form bytes commands line script outside = no_line_outside form bytes commands line script outside
