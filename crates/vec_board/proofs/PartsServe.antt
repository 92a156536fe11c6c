-- What each part of a core answers, as an answer to any ask.
use Rattle.std.proofs.Common.{◌≡◌, ◌↔◌, ◌≤◌, ℕ, List, [], ◌∷◌, Result, Ok, Err, OnOk, OnErr, IfErr, refl, sym, ap, subst, ◌∙◌, arith}
use Rattle.vec_history.specs.declared.event.Event.{Event}
use Rattle.vec_history.specs.declared.event.Act.{Act}
use Rattle.vec_history.specs.Settling.{is_lasting}
use Rattle.page_bytes.specs.Content.{Content}
use Rattle.page_sets.specs.Sets.{PageMap}
use Rattle.vec_steps.specs.declared.ask.Ask.{Ask}
use Rattle.vec_steps.specs.declared.ask.Ask.TheVariants as ask
use Rattle.vec_steps.specs.declared.told.Told.{Told}
use Rattle.vec_steps.specs.declared.fault.StepFault.{StepFault}
use Rattle.vec_steps.specs.declared.fault.StepFault.TheVariants as fault
use Rattle.vec_steps.specs.Index.{Index}
use Rattle.vec_steps.specs.Doing.{Cleaned, Ended}
use Rattle.vec_steps.specs.Telling.{step_of}
use Rattle.vec_steps.specs.Granting.{AgreesAtTake}
use Rattle.vec_steps.specs.Desks.{Desk, Asks, MayAsk, WantsMemory}
use Rattle.vec_steps.specs.Calls.{Stepped, Failed, IsCause, made_by}
use Rattle.vec_board.specs.declared.board_core.Core.{Core}
use Rattle.vec_board.specs.Standing.{StandsOn, acts_of}
use Rattle.vec_board.specs.Acting.{IsAsBefore, IsSameSet}
use Rattle.vec_board.specs.Looking.{IsLook, StandsBeside, desk_of}
use Rattle.vec_board.specs.Serving.{IsTurn, IsTake, IsBusy, IsOfRoom, IsReserved, MakesFor, MakesJust, Leaves, AreMadeBy, StandsSomehow}
use Rattle.vec_board.specs.Changes.{IsChange, StandsWithin}
use Rattle.vec_board.specs.AllAsks.{HoldsPages, ServesBeside}
use Rattle.vec_board.proofs.TellingLooks.{look_makes}
use Rattle.vec_board.proofs.SteppedBy.{failed_still}

-- ---- outcomes

pub on_ok_map : {A B E : Type 0} (r : Result (Unit {0}) E) → (A → B) → OnOk r A → OnOk r B
on_ok_map (Ok done) f a = f a
on_ok_map (Err e) f a = tt

pub on_ok_all : {B E : Type 0} (r : Result (Unit {0}) E) → B → OnOk r B
on_ok_all (Ok done) b = b
on_ok_all (Err e) b = tt

pub on_err_all : {B E : Type 0} (r : Result (Unit {0}) E) → B → OnErr r B
on_err_all (Ok done) b = tt
on_err_all (Err e) b = b

pub if_err_map : {E : Type 0} (P Q : E → Type 0) (r : Result (Unit {0}) E) → ((e : E) → P e → Q e) → IfErr r P → IfErr r Q
if_err_map P Q (Ok done) f a = tt
if_err_map P Q (Err e) f a = f e a

pub if_err_both : {E : Type 0} (K : Type 0) (P Q : E → Type 0) (r : Result (Unit {0}) E) → ((e : E) → K → P e → Q e) → OnErr r K → IfErr r P → IfErr r Q
if_err_both K P Q (Ok done) f k a = tt
if_err_both K P Q (Err e) f k a = f e k a

-- want of memory is a failure that makes nothing
pub by_memory : (over : Index → Type 0) (d : Desk) (acts new : List Act) (a : Ask) → new ≡ acts → (f : StepFault) → f ≡ fault.Memory
    → Failed over d acts new a f
by_memory over d acts new a same f is =
    subst (Failed over d acts new a) (sym is) (failed_still over d acts new a fault.Memory (λ count e. cc) same (λ base in_it. tt))

pub as_itself : (core : Core) → IsAsBefore core core
as_itself core = record {
  acts = refl;
  tells = λ acts tells. tells;
  rooms = refl;
  number = refl;
  log = refl;
  epoch = refl;
  summary = refl;
  params = refl;
  room = refl;
}

-- ---- which ask it is

pub look_takes : (a : Ask) → IsLook a → IsTake a → ⊥
look_takes (ask.Take gate hold) is take = is
look_takes _ is take = take

pub room_takes : (a : Ask) → IsOfRoom a → IsTake a → ⊥
room_takes (ask.Take gate hold) is take = is
room_takes _ is take = take

pub busy_takes : (a : Ask) (t : Told) → IsBusy a t → IsTake a
busy_takes (ask.Take gate hold) t is = tt
busy_takes _ t is = absurd is

-- where no gate is asked for nobody is in the way
pub never_busy : (a : Ask) (t : Told) (acts : List Act) (desk : ℕ) → (IsTake a → ⊥) → IsBusy a t ↔ (AgreesAtTake acts desk a → ⊥)
never_busy (ask.Take gate hold) t acts desk other = absurd (other tt)
never_busy _ t acts desk other = (λ is. absurd is, λ not. not tt)

pub look_reserves : (a : Ask) → IsLook a → (events : ℕ) → a ≡ ask.Reserve events → ⊥
look_reserves a is events same = subst IsLook same is

pub turn_reserves : (a : Ask) → IsTurn a → (events : ℕ) → a ≡ ask.Reserve events → ⊥
turn_reserves a is events same = subst IsTurn same is

pub makes_for : (old new : Core) (desk : ℕ) (a : Ask) (made : List Event) → ((events : ℕ) → a ≡ ask.Reserve events → ⊥) → MakesJust old new desk made
    → MakesFor old new desk a made
makes_for old new desk (ask.Reserve events) made other just = absurd (other events refl)
makes_for old new desk _ made other just = just

-- ---- looks

module _ (core : Core) (set : PageMap) (desk : ℕ) (a : Ask) where
  pub look_within : (base : Index) → Asks (ServesBeside core set a) (desk_of core desk) (acts_of core) a base
      → Asks (StandsBeside core set a) (desk_of core desk) (acts_of core) a base
  look_within base is = record {
    stood = record { all = is.stood.all; stands = is.stood.stands; has = is.stood.holds.looked };
    may = is.may;
  }

  pub turn_within : (base : Index) → Asks (ServesBeside core set a) (desk_of core desk) (acts_of core) a base
      → Asks (StandsSomehow core) (desk_of core desk) (acts_of core) a base
  turn_within base is = record { stood = (is.stood.all, is.stood.stands); may = is.may }

  pub change_within : IsChange a → (base : Index) → Asks (ServesBeside core set a) (desk_of core desk) (acts_of core) a base
      → Asks (StandsWithin core set a) (desk_of core desk) (acts_of core) a base
  change_within change base is = record {
    stood = record { all = is.stood.all; stands = is.stood.stands; holds = is.stood.holds.changed change };
    may = is.may;
  }

  -- a look makes nothing
  pub look_made : (t : Told) → IsLook a → (ending : Cleaned) × MakesFor core core desk a (made_by core.params (step_of a t ending))
  look_made t is = (
    Ended,
    makes_for core core desk a (made_by core.params (step_of a t Ended)) (look_reserves a is)
        (subst (MakesJust core core desk) (sym (look_makes core.params a t is)) (as_itself core)),
  )

  pub look_leaves : (t : Told) → IsLook a → (all : List Content) (base : Index) → StandsOn core all base
      → Leaves core core set set all base (made_by core.params (step_of a t Ended))
  look_leaves t is all base s = (
    all,
    s,
    subst (λ (es : List Event). AreMadeBy es set set all all core.params core.number) (sym (look_makes core.params a t is)) (refl, λ block. refl),
  )

  pub look_wants : (spare : ℕ) → IsLook a → WantsMemory 0 a → WantsMemory spare a
  look_wants spare is wants = by a is wants where
    by : (b : Ask) → IsLook b → WantsMemory 0 b → WantsMemory spare b
    by ask.Meta is wants = wants
    by (ask.Node at layer version) is wants = wants
    by (ask.List at list_at level version layer) is wants = wants
    by (ask.Page block) is wants = wants
    by (ask.Centres block) is wants = wants
    by (ask.Rows block) is wants = wants
    by _ is wants = absurd is

-- ---- room

pub room_made : (old new : Core) (desk : ℕ) (a : Ask) (t : Told) → IsOfRoom a → MakesFor old new desk a []
    → (ending : Cleaned) × MakesFor old new desk a (made_by old.params (step_of a t ending))
room_made old new desk a t is made = (Ended, by a is made) where
  by : (b : Ask) → IsOfRoom b → MakesFor old new desk b [] → MakesFor old new desk b (made_by old.params (step_of b t Ended))
  by ask.Spent is made = made
  by (ask.Reserve events) is made = made
  by _ is made = absurd is

pub room_makes : (old : Core) (a : Ask) (t : Told) → IsOfRoom a → made_by old.params (step_of a t Ended) ≡ []
room_makes old ask.Spent t is = refl
room_makes old (ask.Reserve events) t is = refl
room_makes old _ t is = absurd is

pub room_leaves : (old new : Core) (set : PageMap) (a : Ask) (t : Told) → IsOfRoom a → (all : List Content) (base : Index) → StandsOn new all base
    → Leaves old new set set all base (made_by old.params (step_of a t Ended))
room_leaves old new set a t is all base s = (
  all,
  s,
  subst (λ (es : List Event). AreMadeBy es set set all all old.params old.number) (sym (room_makes old a t is)) (refl, λ block. refl),
)

-- ---- turns

-- no page is changed, however the vacuum ended
turn_pages : (old : Core) (set : PageMap) (a : Ask) (t : Told) (all : List Content) → IsTurn a
    → AreMadeBy (made_by old.params (step_of a t Ended)) set set all all old.params old.number
turn_pages old set (ask.Take gate hold) t all is = (refl, λ block. refl)
turn_pages old set (ask.Release gate) t all is = (refl, λ block. refl)
turn_pages old set (ask.Phase stage) t all is = (refl, λ block. refl)
turn_pages old set ask.EndVacuum t all is = (refl, λ block. refl)
turn_pages old set _ t all is = absurd is

pub turn_leaves : (old new : Core) (set : PageMap) (a : Ask) (t : Told) → IsTurn a → (all : List Content) (base : Index) → StandsOn new all base
    → Leaves old new set set all base (made_by old.params (step_of a t Ended))
turn_leaves old new set a t is all base s = (all, s, turn_pages old set a t all is)

pub turn_just : (old new : Core) (desk : ℕ) (a : Ask) (t : Told) → IsTurn a → ((ending : Cleaned) × MakesJust old new desk (made_by old.params (step_of a t ending)))
    → (ending : Cleaned) × MakesFor old new desk a (made_by old.params (step_of a t ending))
turn_just old new desk a t is (ending, made) = (ending, makes_for old new desk a (made_by old.params (step_of a t ending)) (turn_reserves a is) made)
