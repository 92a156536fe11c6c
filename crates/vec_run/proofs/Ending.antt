-- How a run ends.
use Rattle.std.proofs.Common.{◌≡◌, ◌⊎◌, inl, inr, refl, ℕ, List, subst}
use Rattle.std.specs.Prelude.{Option, Some}
use Rattle.script_words.specs.declared.command.Command.{Command}
use Rattle.script_words.specs.declared.form.Form.TheVariants as form
use Rattle.vec_run.specs.declared.audit.Audit.{Audit}
use Rattle.vec_run.specs.declared.audit.Room.{Room}
use Rattle.vec_run.specs.declared.end.End.{End}
use Rattle.vec_run.specs.declared.end.End.TheVariants as end
use Rattle.vec_run.specs.declared.top.Verb.{Verb}
use Rattle.vec_run.specs.declared.top.Verb.TheVariants.{Exact, Alone}
use Rattle.vec_run.specs.Ends.{status_of}
use Rattle.vec_run.specs.Exact.{Answers, AnswersFront}
use Rattle.vec_run.specs.Scripts.{ReadsScript}
use Rattle.script_words.specs.Grammar.{IsFirstOutside, IsScript}
use Rattle.vec_run.specs.Verbs.{IsDone, IsEndOf, WantsRoom, WritesFront, form_of}
use Rattle.script_words.proofs.Forms.{no_line_outside}
use Rattle.vec_run.proofs.Sources.{script_read, source_not_refused}

-- a script is run, or memory or room was wanting, unless a read or a write failed
pub completed : (verb : Verb) (left left' held held' : Option (List ℕ)) (audit : Audit) (room : Option Room) (input : List ℕ) (commands : List Command) (e : End)
    → left ≡ Some input → IsScript (form_of verb) input commands → IsEndOf verb left left' held held' audit room e
    → (e ≡ end.Read → ⊥) → (e ≡ end.Write → ⊥) → (status_of e ≡ 0) ⊎ ((status_of e ≡ 1) ⊎ (status_of e ≡ 7))
completed verb left left' held held' audit room input commands end.Done told script is no_read no_write = inl refl
completed verb left left' held held' audit room input commands end.Memory told script is no_read no_write = inr (inl refl)
completed verb left left' held held' audit room input commands end.Words told script is no_read no_write = absurd is
completed verb left left' held held' audit room input commands (end.Line k) told script is no_read no_write =
    absurd (source_not_refused (form_of verb) left input commands k told script is.0)
completed verb left left' held held' audit room input commands end.Read told script is no_read no_write = absurd (no_read refl)
completed verb left left' held held' audit room input commands end.Write told script is no_read no_write = absurd (no_write refl)
completed verb left left' held held' audit room input commands end.Room told script is no_read no_write = inr (inr refl)

-- ---- a run that answers, or a front of one, has read a script

module _ (left left' held held' : Option (List ℕ)) (audit : Audit) (input : List ℕ) (told : left ≡ Some input) where
  reads : (lines : List ℕ) (commands : List Command) → ReadsScript left left' lines commands → (read : List Command) × IsScript form.Rowless input read
  reads lines commands r = (r.drawn.read, script_read form.Rowless left left' r.bytes r.drawn.read input told r.taken r.ended r.drawn.script)

  answered : (verb : Verb) → IsDone verb left left' held held' audit → (read : List Command) × IsScript (form_of verb) input read
  answered Exact is = let at = subst (λ (o : Option (List ℕ)). Answers o left' held held') told is.0 in (at.1.0, at.1.1)
  answered Alone is = reads is.lines is.commands is.reads

  answered_front : (verb : Verb) → WritesFront verb left left' held held' audit → (read : List Command) × IsScript (form_of verb) input read
  answered_front Exact is = let at = subst (λ (o : Option (List ℕ)). AnswersFront o held held') told is.0 in (at.0, at.1)
  answered_front Alone is = reads is.lines is.commands is.reads

  answered_room : (verb : Verb) (room : Option Room) → WantsRoom verb left left' held held' audit room → (read : List Command) × IsScript (form_of verb) input read
  answered_room Exact room is = absurd is
  answered_room Alone room is = reads is.lines is.commands is.reads

  -- a line outside is refused, or memory was wanting, unless a read failed
  pub refused : (verb : Verb) (room : Option Room) (line : ℕ) (e : End) → IsFirstOutside (form_of verb) input line → IsEndOf verb left left' held held' audit room e
      → (e ≡ end.Read → ⊥) → (status_of e ≡ 3) ⊎ (status_of e ≡ 1)
  refused verb room line end.Done outside is no_read = let has = answered verb is in absurd (no_line_outside (form_of verb) input has.0 line has.1 outside)
  refused verb room line end.Memory outside is no_read = inr refl
  refused verb room line end.Words outside is no_read = absurd is
  refused verb room line (end.Line k) outside is no_read = inl refl
  refused verb room line end.Read outside is no_read = absurd (no_read refl)
  refused verb room line end.Write outside is no_read = let has = answered_front verb is in absurd (no_line_outside (form_of verb) input has.0 line has.1 outside)
  refused verb room line end.Room outside is no_read = let has = answered_room verb room is in absurd (no_line_outside (form_of verb) input has.0 line has.1 outside)
