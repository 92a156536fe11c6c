-- The commands of a script, with their words drawn.
use Rattle.std.proofs.Common.{◌≡◌, ℕ, suc, List, [], ◌∷◌, length, Option, Some, None, refl, sym, ap, subst, ◌∙◌}
use Rattle.std.specs.List.{All, AllByRecursion, AllZip}
use Rattle.std.proofs.lemmas.List.Elements.{All-from_recursion}
use Rattle.rand_pcg.specs.Lcg.{Lcg}
use Rattle.script_words.specs.declared.command.Command.{Command}
use Rattle.script_words.specs.declared.command.Command.TheVariants.{Row, Query, Draw, Create, Insert, Search, Stats}
use Rattle.script_words.specs.declared.fault.ScriptFault.{ScriptFault}
use Rattle.script_words.specs.declared.fault.ScriptFault.TheVariants as fault
use Rattle.script_words.specs.declared.form.Form.{Form}
use Rattle.script_words.specs.declared.form.Form.TheVariants as form
use Rattle.script_words.specs.Commands.{IsOf}
use Rattle.script_words.specs.Faults.{IsScriptFault}
use Rattle.script_words.specs.Grammar.{IsLine, commands_of}
use Rattle.script_words.proofs.AsMany.{numbered_so}
use Rattle.drawn_words.specs.Drawing.{drawn, drawn_all, seeded}
use Rattle.script_jobs.specs.Jobs.{CanBeDone}
use Rattle.vec_run.specs.Refusals.{IsTextRefusal, script_refusal}
use Rattle.vec_run.specs.Scripts.{IsDrawn}

of_form : (form : Form) (texts : List (List ℕ)) (lines : List (Option Command)) → AllZip (IsLine form) texts lines
    → AllByRecursion (IsOf form) (commands_of lines)
of_form form [] [] each = tt
of_form form [] (line ∷ lines) each = absurd each
of_form form (text ∷ texts) [] each = absurd each
of_form form (text ∷ texts) (None ∷ lines) each = of_form form texts lines each.1
of_form form (text ∷ texts) (Some command ∷ lines) each = (each.0.1, of_form form texts lines each.1)

can_one : (g : Lcg) (c : Command) → IsOf form.Rowless c → CanBeDone (drawn g c).0
can_one g (Row id bits word) is = absurd is
can_one g (Query bits) is = absurd is
can_one g (Draw seed) is = tt
can_one g (Create ops bits m ef round) is = tt
can_one g (Insert id bits None) is = tt
can_one g (Insert id bits (Some word)) is = tt
can_one g (Search bits limit ef further) is = tt
can_one g Stats is = tt

can_all : (g : Lcg) (commands : List Command) → AllByRecursion (IsOf form.Rowless) commands → AllByRecursion CanBeDone (drawn_all g commands)
can_all g [] all = tt
can_all g (c ∷ commands) all = (can_one g c all.0, can_all (drawn g c).1 commands all.1)

as_long : (g : Lcg) (commands : List Command) → length (drawn_all g commands) ≡ length commands
as_long g [] = refl
as_long g (c ∷ commands) = ap (λ (n : ℕ). suc n) (as_long (drawn g c).1 commands)

-- each of them can be done
pub drawn_can : (bytes lines : List ℕ) (commands : List Command) → IsDrawn bytes lines commands → All CanBeDone commands
drawn_can bytes lines commands d =
    subst (λ (l : List Command). All CanBeDone l) (sym d.commands_are) (All-from_recursion CanBeDone (drawn_all (seeded 0) d.read)
    (can_all (seeded 0) d.read
    (subst (λ (l : List Command). AllByRecursion (IsOf form.Rowless) l) (sym d.script.gives) (of_form form.Rowless _ d.script.lines d.script.whole.each))))

-- there is a line for each
pub drawn_long : (bytes lines : List ℕ) (commands : List Command) → IsDrawn bytes lines commands → length lines ≡ length commands
drawn_long bytes lines commands d =
    ap (λ (l : List ℕ). length l) d.lines_are ∙ sym (numbered_so form.Rowless bytes d.read d.script)
    ∙ sym (as_long (seeded 0) d.read) ∙ ap (λ (l : List Command). length l) (sym d.commands_are)

-- why the text is no script
pub text_refused : (form : Form) (text : List ℕ) (why : ScriptFault) → IsScriptFault form text why → IsTextRefusal form text (script_refusal why)
text_refused form text fault.Memory is = tt
text_refused form text (fault.Line k) is = is
