-- Why bytes give no script. Of want of memory nothing is said.
use Rattle.std.specs.Prelude.{ℕ, ◌≡◌, List}
use Rattle.script_words.specs.declared.fault.ScriptFault.{ScriptFault}
use Rattle.script_words.specs.declared.fault.ScriptFault.TheVariants.{Memory, Line}
use Rattle.script_words.specs.declared.form.Form.{Form}
use Rattle.script_words.specs.Grammar.{BreaksAt, IsFirstOutside}

-- a line that is refused is the one of this number, for this reason
abbrev pub IsAtLine : ℕ → Type 0 → ScriptFault → Type 0
IsAtLine number reason Memory = Unit {0}
IsAtLine number reason (Line line) = (line ≡ number) × reason

-- the line is the first with which these texts leave the form
abbrev pub IsFormFault : Form → List (List ℕ) → ScriptFault → Type 0
IsFormFault form texts Memory = Unit {0}
IsFormFault form texts (Line line) = BreaksAt form texts line

-- the line is the first of the bytes that is outside the form
abbrev pub IsScriptFault : Form → List ℕ → ScriptFault → Type 0
IsScriptFault form bytes Memory = Unit {0}
IsScriptFault form bytes (Line line) = IsFirstOutside form bytes line
