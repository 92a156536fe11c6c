use Rattle.std.proofs.Common.{ap, ◌+◌, ◌∙◌}
use Rattle.script_words.specs.Lines.{words_left}
use Rattle.script_words.proofs.WordCuts.{first_word, one_word}
use Rattle.script_words.proofs.Spelling.{rest_of}
use Rattle.script_words.proofs.words.next_word.Goals as goal

pub returns-in-Some-find_byte : goal.returns-in-Some-find_byte
returns-in-Some-find_byte c =
    ap words_left c.in-Some.is
    ∙ first_word c.in-Some.text.now c.in-Some-find_byte.at _ c.in-Some-find_byte.ensures (rest_of c.in-Some.text.now (c.in-Some-find_byte.at + 1))

pub returns-in-None-find_byte : goal.returns-in-None-find_byte
returns-in-None-find_byte c = ap words_left c.in-Some.is ∙ one_word c.in-Some.text.now c.in-None-find_byte.ensures
