-- What is no line of a form.
use Rattle.std.proofs.Common.{ℕ, List}
use Rattle.std.specs.Prelude.{Option, Some, None}
use Rattle.script_words.specs.declared.command.Command.{Command}
use Rattle.script_words.specs.declared.form.Form.{Form}
use Rattle.script_words.specs.Lines.{words_of}
use Rattle.script_words.specs.Commands.{HasWords}
use Rattle.script_words.specs.Grammar.{IsLine, IsSkipped}

pub no_line : (form : Form) (text : List ℕ) → (IsSkipped text → ⊥) → ((command : Command) → HasWords (words_of text) command → ⊥) → (line : Option Command) → IsLine form text line → ⊥
no_line form text not_skipped none None skipped = not_skipped skipped
no_line form text not_skipped none (Some command) is = none command is.0
