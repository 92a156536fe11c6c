use Rattle.std.proofs.Common.{ap, sym, ◌∙◌}
use Rattle.script_words.specs.Lines.{words_left}
use Rattle.script_words.proofs.WordCuts.{some_word}
use Rattle.script_words.proofs.words.is_over.Goals as goal

pub returns-in-Some : goal.returns-in-Some
returns-in-Some c = (λ yes. absurd (cc (yes)), λ over. absurd (some_word c.in-Some.field-0.now (sym (ap words_left c.in-Some.is) ∙ over)))
