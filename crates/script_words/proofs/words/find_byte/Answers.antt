use Rattle.script_words.proofs.Cutting.{cut_answer}
use Rattle.script_words.proofs.words.find_byte.Goals as goal

pub returns : goal.returns
returns c = cut_answer c.args.byte c.args.text.now c.memchr.result c.memchr.ensures
