-- A step that makes an event, and one that is refused.
use Rattle.std.proofs.Common.{◌≡◌, ◌≤◌, ℕ, true, List, [], ◌∷◌, ◌++◌, length, take, map, refl, sym, ap, subst, ◌∙◌, arith}
use Rattle.vec_history.specs.declared.event.Event.{Event}
use Rattle.vec_history.specs.declared.event.Act.{Act}
use Rattle.vec_history.specs.Acts.{act_of}
use Rattle.vec_history.specs.Settling.{is_lasting}
use Rattle.index_sizes.specs.declared.limits.TheConstants.{LOG_ROOM}
use Rattle.vec_steps.specs.declared.ask.Ask.{Ask}
use Rattle.vec_steps.specs.declared.ask.Ask.TheVariants as ask
use Rattle.vec_steps.specs.declared.told.Told.{Told}
use Rattle.vec_steps.specs.declared.fault.StepFault.{StepFault}
use Rattle.vec_steps.specs.declared.fault.StepFault.TheVariants as fault
use Rattle.vec_steps.specs.Index.{Index}
use Rattle.vec_steps.specs.Doing.{Cleaned}
use Rattle.vec_steps.specs.Telling.{step_of, left_of}
use Rattle.vec_steps.specs.Desks.{Desk, used_after}
use Rattle.vec_steps.specs.Calls.{Stepped, Failed, IsCause, SaysOf, made_by}

end_none : {A : Type 0} (xs : List A) → xs ++ [] ≡ xs
end_none [] = refl
end_none (x ∷ xs) = ap (λ l. x ∷ l) (end_none xs)

take_front : {A : Type 0} (xs ys : List A) → take (length xs) (xs ++ ys) ≡ xs
take_front [] ys = refl
take_front (x ∷ xs) ys = ap (λ l. x ∷ l) (take_front xs ys)

module _ (over : Index → Type 0) (d : Desk) (acts new : List Act) where
  -- a step that makes an event, which is the act behind those that there were
  pub made_step : (asked : Ask) (told : Told) (ending : Cleaned) (e : Event) → made_by d.params (step_of asked told ending) ≡ e ∷ []
      → told.at ≡ length acts → new ≡ acts ++ act_of d.number e ∷ []
      → ((base : Index) → over base → SaysOf d base acts (step_of asked told ending))
      → (is_lasting e ≡ true → used_after d.room new ≤ LOG_ROOM) → Stepped over d acts new asked ask.Spent told
  made_step asked told ending e made at is says room = record {
    ending = ending;
    came = record {
      others = [];
      foreign = refl;
      all = is ∙ sym (ap (λ (l : List Act). l ++ act_of d.number e ∷ []) (end_none acts))
          ∙ ap (λ (es : List Event). (acts ++ []) ++ map (act_of d.number) es) (sym made);
      here = omega (arith, at);
    };
    says = λ base over_it. subst (λ (l : List Act). SaysOf d base l (step_of asked told ending))
        (sym (ap (take told.at) is ∙ ap (λ n. take n (acts ++ act_of d.number e ∷ [])) at ∙ take_front acts (act_of d.number e ∷ [])))
        (says base over_it);
    left_is = sym (ap (left_of asked) made);
    fits = λ x is_x lasts. room (by x (sym made ∙ is_x) lasts);
  } where
    by : (x : Event) → e ∷ [] ≡ x ∷ [] → is_lasting x ≡ true → is_lasting e ≡ true
    by x same lasts = let one : e ≡ x = cc in ap is_lasting one ∙ lasts

  -- a step that is refused makes no act, unless it counts a fault of the disks
  pub failed_still : (asked : Ask) (f : StepFault) → ((count : ℕ) → f ≡ fault.Disk count → ⊥) → new ≡ acts
      → ((base : Index) → over base → IsCause d base new asked f) → Failed over d acts new asked f
  failed_still asked fault.Memory never is why = record {
    at = length acts;
    came = record { others = []; foreign = refl; all = is ∙ sym (end_none (acts ++ []) ∙ end_none acts); here = omega arith };
    cause = why;
  }
  failed_still asked (fault.LogFull used size) never is why = record {
    at = length acts;
    came = record { others = []; foreign = refl; all = is ∙ sym (end_none (acts ++ []) ∙ end_none acts); here = omega arith };
    cause = why;
  }
  failed_still asked (fault.Disk count) never is why = absurd (never count refl)

-- it is a step over fewer bases too
pub narrowed : (over fewer : Index → Type 0) (d : Desk) (acts new : List Act) (asked left : Ask) (told : Told)
    → ((base : Index) → fewer base → over base) → Stepped over d acts new asked left told → Stepped fewer d acts new asked left told
narrowed over fewer d acts new asked left told within s = record {
  ending = s.ending;
  came = s.came;
  says = λ base is. s.says base (within base is);
  left_is = s.left_is;
  fits = s.fits;
}

pub narrowed_failure : (over fewer : Index → Type 0) (d : Desk) (acts new : List Act) (asked : Ask) (f : StepFault)
    → ((base : Index) → fewer base → over base) → Failed over d acts new asked f → Failed fewer d acts new asked f
narrowed_failure over fewer d acts new asked f within s = record {
  at = s.at;
  came = s.came;
  cause = λ base is. s.cause base (within base is);
}
