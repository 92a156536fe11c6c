-- Why a source gives no script.
use Rattle.std.specs.Prelude.{ℕ, List, Option, IfSome}
use Rattle.vec_outside.specs.declared.outage.Outage.{Outage}
use Rattle.vec_outside.specs.declared.outage.Outage.TheVariants as outage
use Rattle.script_words.specs.declared.fault.ScriptFault.{ScriptFault}
use Rattle.script_words.specs.declared.fault.ScriptFault.TheVariants as fault
use Rattle.script_words.specs.declared.form.Form.{Form}
use Rattle.script_words.specs.Grammar.{IsFirstOutside}
use Rattle.vec_run.specs.declared.refusal.ReadRefusal.{ReadRefusal}
use Rattle.vec_run.specs.declared.refusal.ReadRefusal.TheVariants.{Memory, Failed, Line}

-- what a fault of the outside makes of a reading
abbrev pub refusal_of : Outage → ReadRefusal
refusal_of outage.Memory = Memory
refusal_of outage.Failed = Failed

-- what a fault of the script makes of it
abbrev pub script_refusal : ScriptFault → ReadRefusal
script_refusal fault.Memory = Memory
script_refusal (fault.Line line) = Line line

-- The line is the first of the source's bytes that is outside the form. Of want of memory nothing is said.
abbrev pub IsSourceRefusal : Form → Option (List ℕ) → ReadRefusal → Type 0
IsSourceRefusal form left Memory = Unit {0}
IsSourceRefusal form left Failed = Unit {0}
IsSourceRefusal form left (Line line) = IfSome left (λ input. IsFirstOutside form input line)

-- the same of a text that was read
abbrev pub IsTextRefusal : Form → List ℕ → ReadRefusal → Type 0
IsTextRefusal form bytes Memory = Unit {0}
IsTextRefusal form bytes Failed = ⊥
IsTextRefusal form bytes (Line line) = IsFirstOutside form bytes line
