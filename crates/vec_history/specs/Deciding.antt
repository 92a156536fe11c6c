-- Helper words of the functions that decide: no rule is stated by these, and no other definition cites them.
use Rattle.std.specs.Prelude.{◌≡◌, ℕ, ◌<◌, ◌≤◌, ⊤, List, slice_get, Some}
use Rattle.vec_history.specs.declared.event.Event.{Event}
use Rattle.vec_history.specs.declared.event.Event.TheVariants as event
use Rattle.vec_history.specs.declared.event.Act.{Act}
use Rattle.vec_history.specs.declared.gate.Gate.{Gate}
use Rattle.vec_history.specs.declared.gate.Hold.{Hold}
use Rattle.vec_history.specs.declared.gate.Hold.TheVariants.{Shared, Alone}
use Rattle.vec_history.specs.Acts.{act_of, NoneAfter}
use Rattle.vec_history.specs.Gates.{IsOfGate, HoldsAs}
use Rattle.vec_history.specs.Phases.{IsOfVacuum, IsDrop}

-- ---- the last act of a kind

-- none of the acts is one of these
abbrev pub NoneOf : List Act → (Act → Type 0) → Type 0
NoneOf acts P = (j : ℕ) (a : Act) → slice_get acts j ≡ Some a → P a → ⊥

-- the act of number k is one of these, and no later act is
pub record IsLast (acts : List Act) (P : Act → Type 0) (k : ℕ) : Type 0 where
  pub act : Act
  pub at : slice_get acts k ≡ Some act
  pub is : P act
  pub none_after : NoneAfter acts k P

-- the desk's act takes the gate, or gives it back
abbrev pub IsDeskOfGate : ℕ → Gate → Act → Type 0
IsDeskOfGate desk gate a = (a.desk ≡ desk) × IsOfGate gate a.event

-- the desk's act gives the gate back
abbrev pub IsGivingBack : ℕ → Gate → Act → Type 0
IsGivingBack desk gate a = a ≡ act_of desk (event.Ungate gate)

-- the desk's act takes the gate alone
abbrev pub IsTakingAlone : ℕ → Gate → Act → Type 0
IsTakingAlone desk gate a = a ≡ act_of desk (event.Gate gate Alone)

-- the act begins a phase, or ends the vacuum
abbrev pub IsActOfVacuum : Act → Type 0
IsActOfVacuum a = IsOfVacuum a.event

abbrev pub IsActDrop : Act → Type 0
IsActDrop a = IsDrop a.event

-- ---- a hold beside others

-- this hold, and that of the other desk if it has one, are Shared
abbrev pub AgreesWith : List Act → ℕ → Gate → Hold → Type 0
AgreesWith acts other gate hold = (theirs : Hold) → HoldsAs acts other gate theirs → (hold ≡ Shared) × (theirs ≡ Shared)

-- ---- counts

-- the event settles no more than this
abbrev pub IsSettledWithin : ℕ → Event → Type 0
IsSettledWithin upto (event.Settled before) = before ≤ upto
IsSettledWithin upto _ = ⊤

-- the event counts fewer faults than this
abbrev pub IsFaultBefore : ℕ → Event → Type 0
IsFaultBefore count (event.DiskFaulted before) = before < count
IsFaultBefore count _ = ⊤
