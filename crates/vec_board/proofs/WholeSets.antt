-- A set that has all pages of an index.
use Rattle.std.proofs.Common.{◌≡◌, ℕ, zero, suc, Bool, true, false, List, [], ◌∷◌, length, slice_get, Result, Ok, Err, OnOk, OnErr, refl, sym, ap, subst, ◌∙◌, arith, inl, inr, ◌⊎◌}
use Rattle.std.proofs.lemmas.Option.{same_Some}
use Rattle.vec_names.specs.declared.params.Params.{Params}
use Rattle.vec_history.specs.declared.event.Event.{Event}
use Rattle.vec_history.specs.Settling.{is_lasting}
use Rattle.page_redo.proofs.RedoneOnce.{same_all}
use Rattle.page_bytes.specs.Content.{Content}
use Rattle.page_sets.specs.Sets.{PageMap, IsPartOf, HasPages}
use Rattle.page_sets.specs.Telling.{looked_at}
use Rattle.vec_history.specs.declared.event.Act.{Act}
use Rattle.vec_steps.specs.declared.ask.Ask.{Ask}
use Rattle.vec_steps.specs.declared.ask.Ask.TheVariants as ask
use Rattle.vec_steps.specs.declared.told.Told.{Told}
use Rattle.vec_steps.specs.declared.told.Word.{Word}
use Rattle.vec_steps.specs.declared.told.Word.TheVariants as word
use Rattle.vec_steps.specs.declared.fault.StepFault.{StepFault}
use Rattle.vec_steps.specs.declared.fault.StepFault.TheVariants as fault
use Rattle.vec_steps.specs.Doing.{Cleaned, Ended}
use Rattle.vec_steps.specs.Telling.{step_of}
use Rattle.vec_steps.specs.Desks.{Asks}
use Rattle.vec_steps.specs.Calls.{made_by}
use Rattle.vec_steps.specs.Index.{Index}
use Rattle.index_pages.specs.Standing.{index_after}
use Rattle.vec_board.specs.declared.board_core.Core.{Core}
use Rattle.vec_board.specs.Standing.{StandsOn, acts_of}
use Rattle.vec_board.specs.Acting.{AreMade, IsAsBefore, IsSameSet, IsChangeFault}
use Rattle.vec_board.specs.Looking.{desk_of}
use Rattle.vec_board.specs.Serving.{AreMadeBy, IsBusy, Leaves, MakesFor}
use Rattle.vec_board.specs.Settling.{AreFaultsBelow}
use Rattle.vec_board.specs.Boards.{StandsWhole, IsAllMade, AreAllMade}
use Rattle.vec_board.specs.AllAsks.{HoldsPages, ServesBeside}
use Rattle.vec_board.proofs.Changed.{all_hold}
use Rattle.vec_board.proofs.FromBefore.{stands_still}
use Rattle.vec_board.proofs.ServedLaws.{counted_in, served_faults}

-- the set of all pages
abbrev pub whole : List Content → PageMap
whole pages = λ block. slice_get pages block

has_all : (pages : List Content) (blocks : List ℕ) → HasPages (whole pages) pages blocks
has_all pages [] = tt
has_all pages (block ∷ blocks) = (refl, has_all pages blocks)

-- it has what any ask needs
pub whole_holds : (core : Core) (pages : List Content) (base : Index) (a : Ask) → HoldsPages core (whole pages) pages base a
whole_holds core pages base a = record {
  looked = has_all pages (looked_at a);
  changed = λ change. all_hold core.params (whole pages) pages (index_after base (acts_of core)) a (λ block. refl);
}

-- a part that is as long is all
part_whole : (pages all : List Content) → IsPartOf (whole pages) all → length pages ≡ length all → pages ≡ all
part_whole [] [] part long = refl
part_whole [] (y ∷ all) part long = absurd (omega (arith, long))
part_whole (x ∷ pages) [] part long = absurd (omega (arith, long))
part_whole (x ∷ pages) (y ∷ all) part long =
    let first : y ≡ x = same_Some y x (part zero x refl) in
    let rest : pages ≡ all = part_whole pages all (λ block page is. part (suc block) page is) (omega (arith, long)) in
    ap (λ z. z ∷ pages) (sym first) ∙ ap (λ l. y ∷ l) rest

by_made : (b : Bool) (old new : PageMap) (all after : List Content) (e : Event) (p : Params) (number : ℕ) (pages : List Content) → new ≡ whole pages
    → old ≡ whole all → AreMade b old new all after e p number → length pages ≡ length after → pages ≡ after
by_made true old new all after e p number pages is was made long = part_whole pages after (subst (λ (m : PageMap). IsPartOf m after) is made.part) long
by_made false old new all after e p number pages is was made long =
    same_all pages all (λ block. ap (λ (m : PageMap). m block) (sym is) ∙ made.1 block ∙ ap (λ (m : PageMap). m block) was) ∙ sym made.0

made_whole : (events : List Event) (all pages after : List Content) (p : Params) (number : ℕ) → AreMadeBy events (whole all) (whole pages) all after p number
    → length pages ≡ length after → pages ≡ after
made_whole [] all pages after p number made long = same_all pages all made.1 ∙ sym made.0
made_whole (e ∷ es) all pages after p number made long = by_made (is_lasting e) (whole all) (whole pages) all after e p number pages refl refl made long

-- the core stands on all pages after what was made of them
pub whole_stands : (old new : Core) (all pages : List Content) (base : Index) (events : List Event)
    → Leaves old new (whole all) (whole pages) all base events → new.summary.blocks ≡ length pages → StandsOn new pages base
whole_stands old new all pages base events (after, stands, made) blocks =
    let same = made_whole events all pages after old.params old.number made (sym blocks ∙ stands.blocks) in
    subst (λ (l : List Content). StandsOn new l base) (sym same) stands

-- a lasting event was redone on all pages, with its number
by_all : (b : Bool) (old new : PageMap) (all after : List Content) (e : Event) (p : Params) (number : ℕ) → AreMade b old new all after e p number
    → IsAllMade b all after e p number
by_all true old new all after e p number made = made.redone
by_all false old new all after e p number made = made.0

by_events : (events : List Event) (old new : PageMap) (all after : List Content) (p : Params) (number : ℕ) → AreMadeBy events old new all after p number
    → AreAllMade events all after p number
by_events [] old new all after p number made = made.0
by_events (e ∷ es) old new all after p number made = by_all (is_lasting e) old new all after e p number made

-- what the events made of all pages
pub whole_made : (r : Result (Unit {0}) StepFault) (old new : Core) (all pages : List Content) (base : Index) (events : List Event)
    → OnOk r (Leaves old new (whole all) (whole pages) all base events) → OnOk r (new.summary.blocks ≡ length pages)
    → OnOk r (AreAllMade events all pages old.params old.number)
whole_made (Ok done) old new all pages base events (after, stands, made) blocks =
    let same : pages ≡ after = made_whole events all pages after old.params old.number made (sym blocks ∙ stands.blocks) in
    subst (λ (l : List Content). AreAllMade events all l old.params old.number) (sym same) (by_events events (whole all) (whole pages) all after old.params old.number made)
whole_made (Err f) old new all pages base events leaves blocks = tt

pub whole_kept : (r : Result (Unit {0}) StepFault) (pages now : List Content) → OnErr r (IsSameSet (whole pages) (whole now)) → OnErr r (now ≡ pages)
whole_kept (Ok done) pages now same = tt
whole_kept (Err f) pages now same = same_all now pages same

-- ---- after any answer

-- a busy gate was told, or was not
pub busy_or : (a : Ask) (t : Told) → IsBusy a t ⊎ (IsBusy a t → ⊥)
busy_or (ask.Take gate hold) t = by t.word where
  by : (w : Word) → (w ≡ word.Busy) ⊎ (w ≡ word.Busy → ⊥)
  by word.Busy = inl refl
  by _ = inr (λ e. cc)
busy_or _ t = inr (λ is. is)

-- the same pages, and nothing made
still_whole : (old new : Core) (pages now : List Content) (faults : ℕ) (base : Index) → IsAsBefore old new → IsSameSet (whole pages) (whole now)
    → StandsWhole old pages faults base → StandsWhole new now faults base
still_whole old new pages now faults base kept same s =
    let is : now ≡ pages = same_all now pages same in
    subst (λ (l : List Content). StandsWhole new l faults base) (sym is) (record {
      stands = stands_still old new kept pages base s.stands;
      faults_are = subst (λ (l : List Act). AreFaultsBelow l faults) (sym kept.acts) s.faults_are;
      counted = counted_in new;
    })

-- what the acts count of faults, whatever was made
faults_after : (old new : Core) (desk : ℕ) (a : Ask) (t : Told) (left : Ask) (faults : ℕ)
    → ((IsBusy a t → ⊥) → (ending : Cleaned) × MakesFor old new desk a (made_by old.params (step_of a t ending)))
    → (IsBusy a t → IsAsBefore old new × (left ≡ a)) → AreFaultsBelow (acts_of old) faults → AreFaultsBelow (acts_of new) faults
faults_after old new desk a t left faults made still below = elim (busy_or a t) as (λ _. AreFaultsBelow (acts_of new) faults) [
  | inl busy ↦ subst (λ (l : List Act). AreFaultsBelow l faults) (sym (still busy).0.acts) below
  | inr idle ↦ let m = made idle in served_faults old new desk old.params a t m.0 m.1 faults below
]

-- a core that was served stands with all its pages
pub served_whole : (r : Result (Unit {0}) StepFault) (old new : Core) (pages now : List Content) (faults : ℕ) (base : Index) (desk : ℕ) (a left : Ask) (t : Told)
    → StandsWhole old pages faults base
    → OnOk r (Leaves old new (whole pages) (whole now) pages base (made_by old.params (step_of a t Ended)))
    → OnOk r (new.summary.blocks ≡ length now)
    → OnOk r ((IsBusy a t → ⊥) → (ending : Cleaned) × MakesFor old new desk a (made_by old.params (step_of a t ending)))
    → OnOk r (IsBusy a t → IsAsBefore old new × (left ≡ a)) → OnErr r (IsAsBefore old new) → OnErr r (IsSameSet (whole pages) (whole now))
    → StandsWhole new now faults base
served_whole (Ok done) old new pages now faults base desk a left t s leaves blocks made still kept same = record {
  stands = whole_stands old new pages now base (made_by old.params (step_of a t Ended)) leaves blocks;
  faults_are = faults_after old new desk a t left faults made still s.faults_are;
  counted = counted_in new;
}
served_whole (Err f) old new pages now faults base desk a left t s leaves blocks made still kept same = still_whole old new pages now faults base kept same s

-- what any ask needs, a board has
pub whole_within : (core : Core) (pages : List Content) (faults desk : ℕ) (a : Ask) (base : Index)
    → Asks (StandsWhole core pages faults) (desk_of core desk) (acts_of core) a base
    → Asks (ServesBeside core (whole pages) a) (desk_of core desk) (acts_of core) a base
whole_within core pages faults desk a base asks = record {
  stood = record { all = pages; stands = asks.stood.stands; holds = whole_holds core pages base a };
  may = asks.may;
}

-- what the rules do not allow is no fault of the disks
pub refused_disk : (f : StepFault) → IsChangeFault 0 f → (count : ℕ) → f ≡ fault.Disk count → ⊥
refused_disk fault.Memory is count same = cc
refused_disk (fault.LogFull used size) is count same = cc
refused_disk (fault.Disk n) is count same = is
