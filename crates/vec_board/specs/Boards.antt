-- A board: a core with all pages of its index, and its disks; and a desk that is alone at one.
use Rattle.std.specs.Prelude.{◌≡◌, ◌≢◌, ℕ, ⊤, Bool, true, false, List, [], ◌∷◌, Option, Some, None}
use Rattle.std.proofs.Common.{refl, ap, ◌∙◌}
use Rattle.vec_names.specs.declared.params.Params.{Params}
use Rattle.vec_history.specs.declared.event.Event.{Event}
use Rattle.vec_history.specs.declared.event.Act.{Act}
use Rattle.vec_history.specs.declared.gate.Gate.{Gate}
use Rattle.vec_history.specs.Gates.{Holds}
use Rattle.vec_history.specs.Settling.{is_lasting}
use Rattle.page_bytes.specs.Content.{Content}
use Rattle.vec_tuples.specs.declared.meta.Meta.{Meta}
use Rattle.page_redo.specs.Growing.{AreAllRedone}
use Rattle.vec_steps.specs.Index.{Index}
use Rattle.vec_steps.specs.Desks.{IsCountedIn}
use Rattle.vec_board.specs.declared.board_core.Core.{Core}
use Rattle.vec_board.specs.declared.summary.Summary.{Summary}
use Rattle.vec_board.specs.Standing.{StandsOn, acts_of}
use Rattle.vec_board.specs.Acting.{room_of}
use Rattle.vec_board.specs.Settling.{AreFaultsBelow}

-- The core stands on this base with all its pages, and no act counts more faults than the disks had, whose count is this.
pub record StandsWhole (core : Core) (pages : List Content) (faults : ℕ) (base : Index) : Type 0 where
  pub stands : StandsOn core pages base
  pub faults_are : AreFaultsBelow (acts_of core) faults
  pub counted : IsCountedIn (room_of core) (acts_of core)

-- What an event made of all pages: a lasting one is redone on each block that it touches, new ones among them, and these have its number.
abbrev pub IsAllMade : Bool → List Content → List Content → Event → Params → ℕ → Type 0
IsAllMade true old new e p number = AreAllRedone p 255 number e old new
IsAllMade false old new e p number = new ≡ old

-- what these events, none or one, made of all pages
abbrev pub AreAllMade : List Event → List Content → List Content → Params → ℕ → Type 0
AreAllMade [] old new p number = new ≡ old
AreAllMade (e ∷ es) old new p number = IsAllMade (is_lasting e) old new e p number

-- what is known of an index by its meta tuple, if block 0 has one
abbrev pub IsOfMeta : Option Meta → Params → Summary → Type 0
IsOfMeta None p s = ⊤
IsOfMeta (Some m) p s = (p ≡ m.params) × (s.entry ≡ m.entry) × (s.level ≡ m.level) × (s.hint ≡ m.hint)

-- no desk but this one holds a gate
abbrev pub HoldsAlone : List Act → ℕ → Type 0
HoldsAlone acts desk = (other : ℕ) (gate : Gate) → other ≢ desk → Holds acts other gate → ⊥

-- each of these acts is of this desk
abbrev pub AreOwn : ℕ → List Act → Type 0
AreOwn desk [] = Unit {0}
AreOwn desk (a ∷ acts) = (a.desk ≡ desk) × AreOwn desk acts

-- the acts go on, by acts of this desk alone
abbrev pub GoOnAlone : ℕ → List Act → List Act → Type 0
GoOnAlone desk [] new = AreOwn desk new
GoOnAlone desk (a ∷ old) [] = ⊥
GoOnAlone desk (a ∷ old) (b ∷ new) = (b ≡ a) × GoOnAlone desk old new

-- a later state of a desk that is alone: no other desk acted since, and the epoch is the same
pub record ComesAlone (desk : ℕ) (new old : Core) : Type 0 where
  pub acts : GoOnAlone desk (acts_of old) (acts_of new)
  pub epoch : new.log.epoch ≡ old.log.epoch

-- ---- laws

go_on_still : (desk : ℕ) (acts : List Act) → GoOnAlone desk acts acts
go_on_still desk [] = tt
go_on_still desk (a ∷ acts) = (refl, go_on_still desk acts)

all_own : (desk : ℕ) (mid new : List Act) → AreOwn desk mid → GoOnAlone desk mid new → AreOwn desk new
all_own desk [] new own goes = goes
all_own desk (a ∷ mid) [] own goes = absurd goes
all_own desk (a ∷ mid) (b ∷ new) own goes = (same b a goes.0 own.0, all_own desk mid new own.1 goes.1) where
  same : (b a : Act) → b ≡ a → a.desk ≡ desk → b.desk ≡ desk
  same b a e is = ap (λ (x : Act). x.desk) e ∙ is

go_on_on : (desk : ℕ) (old mid new : List Act) → GoOnAlone desk old mid → GoOnAlone desk mid new → GoOnAlone desk old new
go_on_on desk [] mid new first second = all_own desk mid new first second
go_on_on desk (a ∷ old) [] new first second = absurd first
go_on_on desk (a ∷ old) (b ∷ mid) [] first second = absurd second
go_on_on desk (a ∷ old) (b ∷ mid) (c ∷ new) first second = (second.0 ∙ first.0, go_on_on desk old mid new first.1 second.1)

pub comes_still : (desk : ℕ) (core : Core) → ComesAlone desk core core
comes_still desk core = record { acts = go_on_still desk (acts_of core); epoch = refl }

pub comes_on : (desk : ℕ) (a b c : Core) → ComesAlone desk c b → ComesAlone desk b a → ComesAlone desk c a
comes_on desk a b c later first = record {
  acts = go_on_on desk (acts_of a) (acts_of b) (acts_of c) first.acts later.acts;
  epoch = later.epoch ∙ first.epoch;
}
