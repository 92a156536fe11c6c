-- What an ask of another desk makes of a board, as the desk of number 0 sees it.
use Rattle.std.proofs.Common.{◌≡◌, ◌≢◌, inl, inr, ℕ, ◌==◌, Bool, true, false, if◌then◌else◌, List, [], ◌∷◌, ◌++◌, map, Result, Ok, Err, OnOk, OnErr, refl, sym, ap, subst, ◌∙◌, append-nil}
use Rattle.std.proofs.lemmas.Bool.{eqb-true}
use Rattle.vec_history.specs.declared.event.Event.{Event}
use Rattle.vec_history.specs.declared.event.Act.{Act}
use Rattle.vec_history.specs.Acts.{act_of}
use Rattle.vec_graph.specs.declared.graph.Graph.{Graph}
use Rattle.history_tables.specs.declared.rooms.Room.{Room as Rooms}
use Rattle.history_tables.specs.Rooms.{room_of as own_room}
use Rattle.history_tables.proofs.OneRoom.{spend_other}
use Rattle.page_bytes.specs.Content.{Content}
use Rattle.graph_search.specs.Deeds.{own_events}
use Rattle.vec_steps.specs.declared.ask.Ask.{Ask}
use Rattle.vec_steps.specs.declared.ask.Ask.TheVariants as ask
use Rattle.vec_steps.specs.declared.told.Told.{Told}
use Rattle.vec_steps.specs.declared.fault.StepFault.{StepFault}
use Rattle.vec_steps.specs.Index.{Index, OfNodes}
use Rattle.vec_steps.specs.Doing.{Cleaned}
use Rattle.vec_steps.specs.Telling.{step_of}
use Rattle.vec_steps.specs.Desks.{Asks, MayAskNodes}
use Rattle.vec_steps.specs.Calls.{Acts, made_by}
use Rattle.vec_steps.proofs.Following.{acts_none, acts_then}
use Rattle.vec_board.specs.declared.board_core.Core.{Core}
use Rattle.vec_board.specs.Standing.{acts_of}
use Rattle.vec_board.specs.Acting.{IsAsBefore}
use Rattle.vec_board.specs.Looking.{desk_of}
use Rattle.vec_board.specs.Serving.{IsBusy, MakesFor, MakesJust, spare_of}
use Rattle.vec_board.specs.Boards.{StandsWhole}
use Rattle.vec_board.proofs.WholeSets.{busy_or}
use Rattle.meddled_desk.specs.Meddling.{Meddles, ComesLater}

-- ---- one after the other

pub meddles_still : (base : Graph) (faults : ℕ) (core : Core) (pages : List Content) → Meddles base faults core core pages pages
meddles_still base faults core pages = record { acts = acts_none 0 (acts_of core); desk = refl; spare = refl; epoch = refl; stands = λ s. s }

pub meddles_then : (base : Graph) (faults later : ℕ) (a b c : Core) (p q r : List Content) → later ≡ faults → Meddles base faults a b p q
    → Meddles base later b c q r → Meddles base faults a c p r
meddles_then base faults later a b c p q r same first second = record {
  acts = acts_then first.acts second.acts;
  desk = second.desk ∙ first.desk;
  spare = second.spare ∙ first.spare;
  epoch = second.epoch ∙ first.epoch;
  stands = λ s. subst (λ (n : ℕ). StandsWhole b q n (OfNodes base) → StandsWhole c r n (OfNodes base)) same second.stands (first.stands s);
}

-- ---- an act of another desk

differs_is : (a b : ℕ) → a ≢ b → (a == b) ≡ false
differs_is a b differs = by (a == b) refl where
  by : (t : Bool) → (a == b) ≡ t → t ≡ false
  by true e = absurd (differs (eqb-true _ _ e))
  by false e = refl

not_own : (desk : ℕ) (e : Event) → desk ≢ 0 → own_events 0 (act_of desk e ∷ []) ≡ []
not_own desk e other = ap (λ (b : Bool). map (λ (a : Act). a.event) (if b then act_of desk e ∷ [] else [])) (differs_is desk 0 other)

other_act : (desk : ℕ) (e : Event) (old new : List Act) → desk ≢ 0 → new ≡ old ++ act_of desk e ∷ [] → Acts 0 old new []
other_act desk e old new other is = record { more = act_of desk e ∷ []; all = is; own_are = not_own desk e other }

no_act : (old new : List Act) → new ≡ old → Acts 0 old new []
no_act old new is = subst (λ (l : List Act). Acts 0 old l []) (sym is) (acts_none 0 old)

module _ (old new : Core) (desk : ℕ) where
  module _ (other : desk ≢ 0) where
    just_acts : (made : List Event) → MakesJust old new desk made → Acts 0 (acts_of old) (acts_of new) []
    just_acts [] is = no_act (acts_of old) (acts_of new) is.acts
    just_acts (e ∷ es) is = other_act desk e (acts_of old) (acts_of new) other is.1.acts

    just_spare : (made : List Event) → MakesJust old new desk made → spare_of new 0 ≡ spare_of old 0
    just_spare [] is = ap (λ (rooms : List Rooms). own_room rooms 0) is.rooms
    just_spare (e ∷ es) is =
        ap (λ (rooms : List Rooms). own_room rooms 0) is.1.rooms ∙ spend_other old.history.rooms.rooms.items desk 0 (λ same. other (sym same))

    served_acts : (a : Ask) (made : List Event) → MakesFor old new desk a made → Acts 0 (acts_of old) (acts_of new) []
    served_acts (ask.Reserve events) made is = no_act (acts_of old) (acts_of new) is.acts
    served_acts _ made is = just_acts made is

    served_spare : (a : Ask) (made : List Event) → MakesFor old new desk a made → spare_of new 0 ≡ spare_of old 0
    served_spare (ask.Reserve events) made is = is.others 0 (λ same. other (sym same))
    served_spare _ made is = just_spare made is

  -- more acts, of the desk itself or none
  still_later : acts_of new ≡ acts_of old → new.log.epoch ≡ old.log.epoch → ComesLater new old
  still_later acts epoch = record { more = []; acts = acts ∙ sym (append-nil (acts_of old)); epoch = epoch }

  just_later : (made : List Event) → MakesJust old new desk made → ComesLater new old
  just_later [] is = still_later is.acts is.epoch
  just_later (e ∷ es) is = record { more = act_of desk e ∷ []; acts = is.1.acts; epoch = is.1.epoch }

  served_later : (a : Ask) (made : List Event) → MakesFor old new desk a made → ComesLater new old
  served_later (ask.Reserve events) made is = still_later is.acts is.epoch
  served_later _ made is = just_later made is

-- ---- after any answer

module _ (r : Result (Unit {0}) StepFault) (old new : Core) (desk : ℕ) (a left : Ask) (t : Told)
    (made : OnOk r ((IsBusy a t → ⊥) → (ending : Cleaned) × MakesFor old new desk a (made_by old.params (step_of a t ending))))
    (still : OnOk r (IsBusy a t → IsAsBefore old new × (left ≡ a))) (kept : OnErr r (IsAsBefore old new)) where
  -- events were made, none or one, or room was reserved; or nothing was made
  either : {P : Type 0} → ((events : List Event) → MakesFor old new desk a events → P) → (IsAsBefore old new → P) → P
  either {P} f k = by r made still kept where
    by : (q : Result (Unit {0}) StepFault) → OnOk q ((IsBusy a t → ⊥) → (ending : Cleaned) × MakesFor old new desk a (made_by old.params (step_of a t ending)))
        → OnOk q (IsBusy a t → IsAsBefore old new × (left ≡ a)) → OnErr q (IsAsBefore old new) → P
    by (Ok done) m s e = elim (busy_or a t) as (λ _. P) [
      | inl busy ↦ k (s busy).0
      | inr idle ↦ let is = m idle in f (made_by old.params (step_of a t is.0)) is.1
    ]
    by (Err fault) m s e = k e

  pub any_later : ComesLater new old
  any_later = either {P = ComesLater new old} (λ events m. served_later old new desk a events m) (λ k. still_later old new desk k.acts k.epoch)

  -- other desks' asks
  pub any_meddles : (base : Graph) (faults later : ℕ) (before after : List Content) → desk ≢ 0 → later ≡ faults
      → ((number : ℕ) → desk_of new number ≡ desk_of old number) → MayAskNodes base (acts_of old) desk a
      → ((index : Index) → Asks (StandsWhole old before faults) (desk_of old desk) (acts_of old) a index → StandsWhole new after later index)
      → Meddles base faults old new before after
  any_meddles base faults later before after other same desks may stands = record {
    acts = either {P = Acts 0 (acts_of old) (acts_of new) []} (λ events m. served_acts old new desk other a events m)
        (λ k. no_act (acts_of old) (acts_of new) k.acts);
    desk = desks 0;
    spare = either {P = spare_of new 0 ≡ spare_of old 0} (λ events m. served_spare old new desk other a events m)
        (λ k. ap (λ (rooms : List Rooms). own_room rooms 0) k.rooms);
    epoch = any_later.epoch;
    stands = λ s. subst (λ (n : ℕ). StandsWhole new after n (OfNodes base)) same (stands (OfNodes base) (record { stood = s; may = may }));
  }
