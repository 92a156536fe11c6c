-- Which desk holds which gate, and when a gate may be taken.
use Rattle.std.specs.Prelude.{◌≡◌, ◌≢◌, ℕ, List, take}
use Rattle.vec_history.specs.declared.event.Event.{Event}
use Rattle.vec_history.specs.declared.event.Event.TheVariants as event
use Rattle.vec_history.specs.declared.event.Act.{Act}
use Rattle.vec_history.specs.declared.gate.Gate.{Gate}
use Rattle.vec_history.specs.declared.gate.Hold.{Hold}
use Rattle.vec_history.specs.declared.gate.Hold.TheVariants.{Shared}
use Rattle.vec_history.specs.Acts.{IsActAt, NoneAfter}

-- the event takes the gate, or gives it back
abbrev pub IsOfGate : Gate → Event → Type 0
IsOfGate gate (event.Gate g hold) = g ≡ gate
IsOfGate gate (event.Ungate g) = g ≡ gate
IsOfGate gate _ = ⊥

-- The desk holds the gate in this way since the act of number k took it: no later act of the desk took the gate or gave it back.
pub record HoldsSince (acts : List Act) (desk : ℕ) (gate : Gate) (hold : Hold) (k : ℕ) : Type 0 where
  pub taken : IsActAt acts k desk (event.Gate gate hold)
  pub kept : NoneAfter acts k (λ a. (a.desk ≡ desk) × IsOfGate gate a.event)

abbrev pub HoldsAs : List Act → ℕ → Gate → Hold → Type 0
HoldsAs acts desk gate hold = (k : ℕ) × HoldsSince acts desk gate hold k

abbrev pub Holds : List Act → ℕ → Gate → Type 0
Holds acts desk gate = (hold : Hold) × HoldsAs acts desk gate hold

-- no other desk holds the gate, or this hold and all others are Shared
abbrev pub AgreesWithOthers : List Act → ℕ → Gate → Hold → Type 0
AgreesWithOthers acts desk gate hold = (other : ℕ) (theirs : Hold) → other ≢ desk → HoldsAs acts other gate theirs
    → (hold ≡ Shared) × (theirs ≡ Shared)

-- The desk does not hold the gate, and the hold agrees with those of the other desks.
pub record IsGateAllowed (acts : List Act) (desk : ℕ) (gate : Gate) (hold : Hold) : Type 0 where
  pub not_held : Holds acts desk gate → ⊥
  pub beside : AgreesWithOthers acts desk gate hold

-- each taking of a gate was allowed after the acts before it
abbrev pub AreGatesAllowed : List Act → Type 0
AreGatesAllowed acts = (n desk : ℕ) (gate : Gate) (hold : Hold) → IsActAt acts n desk (event.Gate gate hold)
    → IsGateAllowed (take n acts) desk gate hold
