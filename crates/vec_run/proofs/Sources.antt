-- What a reading of a source's bytes says of the source.
use Rattle.std.proofs.Common.{◌≡◌, sym, ap, ◌∙◌, ⊎_elim, subst, ℕ, ◌^◌, ◌<◌, ◌≤◌, List, [], ◌++◌, length}
use Rattle.std.specs.Prelude.{Option, Some, None, IfSome}
use Rattle.std.proofs.lemmas.List.{append-nil}
use Rattle.std.proofs.lemmas.Bool.{cases_lt}
use Rattle.std.specs.Io.KnownBytes.{Consumes, IsAtEnd}
use Rattle.script_words.specs.declared.command.Command.{Command}
use Rattle.script_words.specs.declared.fault.ScriptFault.{ScriptFault}
use Rattle.script_words.specs.declared.fault.ScriptFault.TheVariants as fault
use Rattle.script_words.specs.declared.form.Form.{Form}
use Rattle.script_words.specs.Faults.{IsScriptFault}
use Rattle.script_words.specs.Grammar.{IsFirstOutside, IsScript}
use Rattle.script_words.proofs.Forms.{outside_front, no_line_outside}
use Rattle.vec_run.specs.Refusals.{IsSourceRefusal, script_refusal}

pub outside_source : (form : Form) (left left' : Option (List ℕ)) (bytes : List ℕ) (k : ℕ) → Consumes left left' bytes → (length bytes ≤ 2 ^ 28 → IsAtEnd left') → IsFirstOutside form bytes k → IfSome left (λ input. IsFirstOutside form input k)
outside_source form None left' bytes k taken ended bad = tt
outside_source form (Some input) None bytes k taken ended bad = absurd taken
outside_source form (Some input) (Some rest) bytes k taken ended bad = ⊎_elim many few (cases_lt (2 ^ 28) (length bytes))
  where
    many : 2 ^ 28 < length bytes → IsFirstOutside form input k
    many more = subst (λ (l : List ℕ). IsFirstOutside form l k) (sym taken) (outside_front form bytes rest k more bad)

    few : length bytes ≤ 2 ^ 28 → IsFirstOutside form input k
    few less = subst (λ (l : List ℕ). IsFirstOutside form l k) (sym (taken ∙ ap (λ (l : List ℕ). bytes ++ l) (ended less) ∙ append-nil bytes)) bad

pub script_source : (form : Form) (left left' : Option (List ℕ)) (bytes : List ℕ) (commands : List Command) → Consumes left left' bytes → (length bytes ≤ 2 ^ 28 → IsAtEnd left') → IsScript form bytes commands
    → IfSome left (λ input. IsAtEnd left' × IsScript form input commands)
script_source form None left' bytes commands taken ended script = tt
script_source form (Some input) None bytes commands taken ended script = absurd taken
script_source form (Some input) (Some rest) bytes commands taken ended script =
    let end : rest ≡ [] = ended script.few in
    (end, subst (λ (l : List ℕ). IsScript form l commands) (sym (taken ∙ ap (λ (l : List ℕ). bytes ++ l) end ∙ append-nil bytes)) script)

-- what a reading of the source's bytes says of the source
pub source_refused : (form : Form) (left left' : Option (List ℕ)) (bytes text : List ℕ) (why : ScriptFault) → text ≡ bytes → Consumes left left' bytes
    → (length bytes ≤ 2 ^ 28 → IsAtEnd left') → IsScriptFault form text why → IsSourceRefusal form left (script_refusal why)
source_refused form left left' bytes text fault.Memory same taken ended is = tt
source_refused form left left' bytes text (fault.Line k) same taken ended is =
    outside_source form left left' bytes k taken ended (subst (λ (l : List ℕ). IsFirstOutside form l k) same is)

pub source_not_refused : (form : Form) (left : Option (List ℕ)) (input : List ℕ) (commands : List Command) (k : ℕ) → left ≡ Some input → IsScript form input commands → IfSome left (λ bytes. IsFirstOutside form bytes k) → ⊥
source_not_refused form left input commands k told script refused = no_line_outside form input commands k script (subst (λ (o : Option (List ℕ)). IfSome o (λ bytes. IsFirstOutside form bytes k)) told refused)

-- what was taken of it to its end is all of it
pub script_read : (form : Form) (left left' : Option (List ℕ)) (bytes : List ℕ) (commands : List Command) (input : List ℕ) → left ≡ Some input
    → Consumes left left' bytes → IsAtEnd left' → IsScript form bytes commands → IsScript form input commands
script_read form left left' bytes commands input told taken ended script =
    (subst (λ (o : Option (List ℕ)). IfSome o (λ l. IsAtEnd left' × IsScript form l commands)) told
    (script_source form left left' bytes commands taken (λ few. ended) script)).1
