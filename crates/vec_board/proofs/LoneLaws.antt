-- A desk that is alone at a board.
use Rattle.std.proofs.Common.{◌≡◌, ◌≤◌, ◌-◌, ℕ, List, [], ◌∷◌, ◌++◌, length, map, Some, None, Bool, true, false, IsTrue, ◌↔◌, inl, inr, Result, Ok, Err, IfOk, IfErr, OnOk, OnErr, refl, sym, ap, ◌∙◌, arith}
use Rattle.vec_names.specs.declared.params.Params.{Params}
use Rattle.vec_history.specs.declared.event.Event.{Event}
use Rattle.vec_history.specs.declared.event.Event.TheVariants as event
use Rattle.vec_history.specs.declared.event.Act.{Act}
use Rattle.vec_history.specs.Acts.{act_of}
use Rattle.vec_history.specs.Settling.{lasting_events}
use Rattle.history_tables.specs.declared.rooms.Room.{Room as Rooms}
use Rattle.history_tables.specs.Rooms.{room_of as own_room}
use Rattle.history_tables.proofs.OneRoom.{spend_own}
use Rattle.vec_steps.specs.declared.ask.Ask.{Ask}
use Rattle.vec_steps.specs.declared.ask.Ask.TheVariants as ask
use Rattle.vec_steps.specs.declared.told.Told.{Told}
use Rattle.vec_steps.specs.declared.told.Word.TheVariants as word
use Rattle.vec_steps.specs.declared.fault.StepFault.{StepFault}
use Rattle.vec_steps.specs.declared.fault.StepFault.TheVariants as fault
use Rattle.vec_steps.specs.Doing.{Step, Cleaned, settled, faulted, step_events}
use Rattle.vec_steps.specs.Granting.{AgreesAtTake}
use Rattle.vec_steps.specs.Telling.{step_of}
use Rattle.vec_steps.specs.Desks.{Desk, Room}
use Rattle.vec_steps.specs.Calls.{Came, Settles, NotSettled, made_by}
use Rattle.vec_board.specs.declared.board_core.Core.{Core}
use Rattle.vec_board.specs.Standing.{acts_of}
use Rattle.vec_board.specs.Acting.{IsAsBefore, room_of}
use Rattle.vec_board.specs.Looking.{desk_of}
use Rattle.vec_board.specs.Serving.{IsTake, IsBusy, MakesFor, spare_of}
use Rattle.vec_board.specs.Settling.{IsNoted, IsStill, IsUnsettled}
use Rattle.vec_board.specs.Boards.{HoldsAlone, ComesAlone}
use Rattle.vec_board.proofs.ServedLaws.{still_alone, more_alone, holds_still, holds_more, served_desk, served_epoch, served_alone, served_holds}
use Rattle.vec_board.proofs.PartsServe.{busy_takes}
use Rattle.vec_board.proofs.WholeSets.{busy_or}

-- ---- gates

pub busy_by : (a : Ask) (t : Told) → IsTake a → t.word ≡ word.Busy → IsBusy a t
busy_by (ask.Take gate hold) t take is = is
busy_by _ t take is = absurd take

pub busy_word : (a : Ask) (t : Told) → IsBusy a t → t.word ≡ word.Busy
busy_word (ask.Take gate hold) t is = is
busy_word _ t is = absurd is

-- nobody is in the way of a desk that alone holds gates
pub lone_agrees : (acts : List Act) (desk : ℕ) (a : Ask) → HoldsAlone acts desk → AgreesAtTake acts desk a
lone_agrees acts desk (ask.Take gate hold) alone = λ other theirs differs holds. absurd (alone other gate differs (theirs, holds))
lone_agrees acts desk _ alone = tt

-- ---- what is the same

same_desk : (old new : Core) → new.params ≡ old.params → room_of new ≡ room_of old → (number : ℕ) → desk_of new number ≡ desk_of old number
same_desk old new params room number =
    ap (λ (p : Params). record { number = number; depth = 0; params = p; room = room_of new }) params
    ∙ ap (λ (r : Room). record { number = number; depth = 0; params = old.params; room = r }) room

none_behind : {A : Type 0} (xs : List A) → xs ++ [] ≡ xs
none_behind [] = refl
none_behind (x ∷ xs) = ap (λ l. x ∷ l) (none_behind xs)

came_by : (d : Desk) (old new : List Act) (e : Event) (s : Step) → step_events d.params s ≡ e ∷ [] → new ≡ old ++ act_of d.number e ∷ []
    → Came d old new (length old) (Some s)
came_by d old new e s makes is = record {
  others = [];
  foreign = refl;
  all = is ∙ sym (ap (λ (l : List Act). l ++ act_of d.number e ∷ []) (none_behind old))
      ∙ ap (λ (es : List Event). (old ++ []) ++ map (act_of d.number) es) (sym makes);
  here = omega arith;
}

came_none : (d : Desk) (old new : List Act) → new ≡ old → Came d old new (length old) None
came_none d old new is = record { others = []; foreign = refl; all = is ∙ sym (none_behind (old ++ []) ∙ none_behind old); here = omega arith }

-- ---- settling

module _ (old new : Core) (desk : ℕ) (e : Event) (noted : IsNoted old new desk e) where
  pub noted_desk : (number : ℕ) → desk_of new number ≡ desk_of old number
  noted_desk number = same_desk old new noted.params noted.room number

  pub noted_comes : ComesAlone desk new old
  noted_comes = record { acts = more_alone desk (acts_of old) (acts_of new) e noted.acts; epoch = noted.epoch }

  pub noted_holds : HoldsAlone (acts_of old) desk → HoldsAlone (acts_of new) desk
  noted_holds alone = holds_more desk (acts_of old) (acts_of new) e noted.acts alone

  pub noted_spare : spare_of old desk - 1 ≤ spare_of new desk
  noted_spare =
      let same = ap (λ (rooms : List Rooms). own_room rooms desk) noted.rooms ∙ spend_own old.history.rooms.rooms.items desk in
      omega (arith, same)

module _ (old new : Core) (desk : ℕ) (still : IsStill old new) where
  pub kept_desk : (number : ℕ) → desk_of new number ≡ desk_of old number
  kept_desk number = same_desk old new still.params still.room number

  pub kept_comes : ComesAlone desk new old
  kept_comes = record { acts = still_alone desk (acts_of old) (acts_of new) still.acts; epoch = still.epoch }

  pub kept_holds : HoldsAlone (acts_of old) desk → HoldsAlone (acts_of new) desk
  kept_holds alone = holds_still desk (acts_of old) (acts_of new) still.acts alone

  pub kept_spare : spare_of old desk - 1 ≤ spare_of new desk
  kept_spare = let same = ap (λ (rooms : List Rooms). own_room rooms desk) still.rooms in omega (arith, same)

pub settles_by : (old new : Core) (desk upto : ℕ) → upto ≡ lasting_events (acts_of old) → IsNoted old new desk (event.Settled upto)
    → Settles (desk_of old desk) (acts_of old) (acts_of new) upto
settles_by old new desk upto is noted = record {
  at = length (acts_of old);
  came = came_by (desk_of old desk) (acts_of old) (acts_of new) (event.Settled upto) (settled upto) refl noted.acts;
  all_seen = omega (arith, is);
}

module _ (old new : Core) (desk before now : ℕ) where
  pub not_settled : (f : StepFault) → IsUnsettled old new desk before now f → NotSettled (desk_of old desk) (acts_of old) (acts_of new) f
  not_settled fault.Memory is = record {
    at = length (acts_of old);
    came = came_none (desk_of old desk) (acts_of old) (acts_of new) is.acts;
    otherwise = λ never. never;
  }
  not_settled (fault.LogFull used size) is = absurd is
  not_settled (fault.Disk count) is = record {
    at = length (acts_of old);
    came = came_by (desk_of old desk) (acts_of old) (acts_of new) (event.DiskFaulted count) (faulted count) refl is.0.acts;
    otherwise = λ never. never;
  }

  pub unsettled_desk : (f : StepFault) → IsUnsettled old new desk before now f → (number : ℕ) → desk_of new number ≡ desk_of old number
  unsettled_desk fault.Memory is number = kept_desk old new desk is number
  unsettled_desk (fault.LogFull used size) is number = absurd is
  unsettled_desk (fault.Disk count) is number = noted_desk old new desk (event.DiskFaulted count) is.0 number

  pub unsettled_comes : (f : StepFault) → IsUnsettled old new desk before now f → ComesAlone desk new old
  unsettled_comes fault.Memory is = kept_comes old new desk is
  unsettled_comes (fault.LogFull used size) is = absurd is
  unsettled_comes (fault.Disk count) is = noted_comes old new desk (event.DiskFaulted count) is.0

  pub unsettled_holds : (f : StepFault) → IsUnsettled old new desk before now f → HoldsAlone (acts_of old) desk → HoldsAlone (acts_of new) desk
  unsettled_holds fault.Memory is alone = kept_holds old new desk is alone
  unsettled_holds (fault.LogFull used size) is alone = absurd is
  unsettled_holds (fault.Disk count) is alone = noted_holds old new desk (event.DiskFaulted count) is.0 alone

  pub unsettled_spare : (f : StepFault) → IsUnsettled old new desk before now f → spare_of old desk - 1 ≤ spare_of new desk
  unsettled_spare fault.Memory is = kept_spare old new desk is
  unsettled_spare (fault.LogFull used size) is = absurd is
  unsettled_spare (fault.Disk count) is = noted_spare old new desk (event.DiskFaulted count) is.0

-- ---- any answer to an ask

module _ (r : Result (Unit {0}) StepFault) (old new : Core) (desk : ℕ) (a left : Ask) (t : Told)
    (made : OnOk r ((IsBusy a t → ⊥) → (ending : Cleaned) × MakesFor old new desk a (made_by old.params (step_of a t ending))))
    (still : OnOk r (IsBusy a t → IsAsBefore old new × (left ≡ a))) (kept : OnErr r (IsAsBefore old new)) where
  -- events were made, none or one, or room was reserved; or nothing was made
  either : {P : Type 0} → ((events : List Event) → MakesFor old new desk a events → P) → (IsAsBefore old new → P) → P
  either {P} f k = by r made still kept where
    by : (q : Result (Unit {0}) StepFault) → OnOk q ((IsBusy a t → ⊥) → (ending : Cleaned) × MakesFor old new desk a (made_by old.params (step_of a t ending)))
        → OnOk q (IsBusy a t → IsAsBefore old new × (left ≡ a)) → OnErr q (IsAsBefore old new) → P
    by (Ok done) m s e = elim (busy_or a t) as (λ _. P) [
      | inl busy ↦ k (s busy).0
      | inr idle ↦ let is = m idle in f (made_by old.params (step_of a t is.0)) is.1
    ]
    by (Err fault) m s e = k e

  pub any_desk : (number : ℕ) → desk_of new number ≡ desk_of old number
  any_desk number = either {P = desk_of new number ≡ desk_of old number} (λ events m. served_desk old new desk a events m number)
      (λ k. served_desk old new desk ask.Spent [] k number)

  pub any_epoch : new.log.epoch ≡ old.log.epoch
  any_epoch = either {P = new.log.epoch ≡ old.log.epoch} (λ events m. served_epoch old new desk a events m) (λ k. k.epoch)

  pub any_comes : ComesAlone desk new old
  any_comes = either {P = ComesAlone desk new old} (λ events m. record { acts = served_alone old new desk a events m; epoch = served_epoch old new desk a events m })
      (λ k. record { acts = served_alone old new desk ask.Spent [] k; epoch = k.epoch })

  pub any_holds : HoldsAlone (acts_of old) desk → HoldsAlone (acts_of new) desk
  any_holds alone = either {P = HoldsAlone (acts_of new) desk} (λ events m. served_holds old new desk a events m alone)
      (λ k. served_holds old new desk ask.Spent [] k alone)

pub idle_by : (take busy : Bool) (a : Ask) (t : Told) → IsTrue take ↔ IsTake a → IsTrue busy ↔ (IsTrue take × (t.word ≡ word.Busy))
    → busy ≡ false → IsBusy a t → ⊥
idle_by take busy a t is_take is_busy never b =
    let yes_it : busy ≡ true = is_busy.1 (is_take.1 (busy_takes a t b), busy_word a t b) in
    let both : true ≡ false = sym yes_it ∙ never in
    cc

pub busy_is : (take busy : Bool) (a : Ask) (t : Told) → IsTrue take ↔ IsTake a → IsTrue busy ↔ (IsTrue take × (t.word ≡ word.Busy))
    → busy ≡ true → IsBusy a t
busy_is take busy a t is_take is_busy yes_it = busy_by a t (is_take.0 (is_busy.0 yes_it).0) (is_busy.0 yes_it).1

-- ---- any answer of settling

pub settled_desk : (old new : Core) (desk before now : ℕ) (r : Result ℕ StepFault)
    → IfOk r (λ upto. (upto ≡ lasting_events (acts_of old)) × IsNoted old new desk (event.Settled upto)) → IfErr r (IsUnsettled old new desk before now)
    → (number : ℕ) → desk_of new number ≡ desk_of old number
settled_desk old new desk before now (Ok upto) ok err number = noted_desk old new desk (event.Settled upto) ok.1 number
settled_desk old new desk before now (Err f) ok err number = unsettled_desk old new desk before now f err number

module _ (old new : Core) (before now : ℕ) where
  pub any_settled_desk : (r : Result ℕ StepFault) → IfOk r (λ upto. (upto ≡ lasting_events (acts_of old)) × IsNoted old new 0 (event.Settled upto))
      → IfErr r (IsUnsettled old new 0 before now) → desk_of new 0 ≡ desk_of old 0
  any_settled_desk (Ok upto) ok err = noted_desk old new 0 (event.Settled upto) ok.1 0
  any_settled_desk (Err f) ok err = unsettled_desk old new 0 before now f err 0

  pub any_settled_comes : (r : Result ℕ StepFault) → IfOk r (λ upto. (upto ≡ lasting_events (acts_of old)) × IsNoted old new 0 (event.Settled upto))
      → IfErr r (IsUnsettled old new 0 before now) → ComesAlone 0 new old
  any_settled_comes (Ok upto) ok err = noted_comes old new 0 (event.Settled upto) ok.1
  any_settled_comes (Err f) ok err = unsettled_comes old new 0 before now f err

  pub any_settled_holds : (r : Result ℕ StepFault) → IfOk r (λ upto. (upto ≡ lasting_events (acts_of old)) × IsNoted old new 0 (event.Settled upto))
      → IfErr r (IsUnsettled old new 0 before now) → HoldsAlone (acts_of old) 0 → HoldsAlone (acts_of new) 0
  any_settled_holds (Ok upto) ok err alone = noted_holds old new 0 (event.Settled upto) ok.1 alone
  any_settled_holds (Err f) ok err alone = unsettled_holds old new 0 before now f err alone

  pub any_settled_spare : (r : Result ℕ StepFault) → IfOk r (λ upto. (upto ≡ lasting_events (acts_of old)) × IsNoted old new 0 (event.Settled upto))
      → IfErr r (IsUnsettled old new 0 before now) → spare_of old 0 - 1 ≤ spare_of new 0
  any_settled_spare (Ok upto) ok err = noted_spare old new 0 (event.Settled upto) ok.1
  any_settled_spare (Err f) ok err = unsettled_spare old new 0 before now f err

  pub any_settles : (r : Result ℕ StepFault) → IfOk r (λ upto. (upto ≡ lasting_events (acts_of old)) × IsNoted old new 0 (event.Settled upto))
      → IfOk r (Settles (desk_of old 0) (acts_of old) (acts_of new))
  any_settles (Ok upto) ok = settles_by old new 0 upto ok.0 ok.1
  any_settles (Err f) ok = tt

  pub any_not_settled : (r : Result ℕ StepFault) → IfErr r (IsUnsettled old new 0 before now) → IfErr r (NotSettled (desk_of old 0) (acts_of old) (acts_of new))
  any_not_settled (Ok upto) err = tt
  any_not_settled (Err f) err = not_settled old new 0 before now f err
