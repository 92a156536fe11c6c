-- What tables beside a history tell of it: who holds which gate, the phase that stands, how much is lasting and how much settled.
use Rattle.std.specs.Prelude.{◌≡◌, ◌≢◌, ◌⊎◌, ⊤, ℕ, length, ◌+◌, ◌≤◌, Bool, true, false, not, ◌==◌, ◌&&◌, List, [], ◌∷◌, ◌++◌, filter, Option, Some, None, MatchOption, vec_len, vec_capacity}
use Rattle.vec_history.specs.declared.event.Event.{Event}
use Rattle.vec_history.specs.declared.event.Event.TheVariants as event
use Rattle.vec_history.specs.declared.event.Act.{Act}
use Rattle.vec_history.specs.declared.gate.Gate.{Gate}
use Rattle.vec_history.specs.declared.gate.Gate.TheVariants.{Update, Scan, Vacuum}
use Rattle.vec_history.specs.declared.gate.Hold.{Hold}
use Rattle.vec_history.specs.declared.gate.Hold.TheVariants.{Shared}
use Rattle.vec_history.specs.Gates.{Holds, HoldsAs}
use Rattle.vec_history.specs.Phases.{IsInPhase, IsAPhaseStanding}
use Rattle.vec_history.specs.Settling.{lasting_events}
use Rattle.history_tables.specs.declared.holders.Holder.{Holder}
use Rattle.history_tables.specs.declared.tables.Phase.{Phase}
use Rattle.history_tables.specs.declared.tables.Tables.{Tables}

-- ---- holds

abbrev pub IsAmong : Holder → List Holder → Type 0
IsAmong h [] = ⊥
IsAmong h (x ∷ held) = (x ≡ h) ⊎ IsAmong h held

-- The list has an entry for each hold that stands after these acts, and no other.
pub record AreHolders (held : List Holder) (acts : List Act) : Type 0 where
  pub told : (h : Holder) → IsAmong h held → HoldsAs acts h.desk h.gate h.hold
  pub all : (h : Holder) → HoldsAs acts h.desk h.gate h.hold → IsAmong h held

-- a hold of the gate by the desk may stand beside this entry
abbrev pub Agrees : ℕ → Gate → Hold → Holder → Type 0
Agrees desk gate hold h = h.desk ≢ desk → h.gate ≡ gate → (hold ≡ Shared) × (h.hold ≡ Shared)

abbrev pub AllAgree : ℕ → Gate → Hold → List Holder → Type 0
AllAgree desk gate hold [] = ⊤
AllAgree desk gate hold (h ∷ held) = Agrees desk gate hold h × AllAgree desk gate hold held

-- there is such an entry, or none of the desk and the gate
abbrev pub IsHeldAs : ℕ → Gate → List Holder → Option Hold → Type 0
IsHeldAs desk gate held (Some hold) = IsAmong (record { desk = desk; gate = gate; hold = hold }) held
IsHeldAs desk gate held None = (hold : Hold) → IsAmong (record { desk = desk; gate = gate; hold = hold }) held → ⊥

abbrev pub same_gate : Gate → Gate → Bool
same_gate Update Update = true
same_gate Scan Scan = true
same_gate Vacuum Vacuum = true
same_gate _ _ = false

-- the entry is of another desk or of another gate
abbrev pub is_other : ℕ → Gate → Holder → Bool
is_other desk gate h = not ((h.desk == desk) && same_gate h.gate gate)

-- the holds after an act
abbrev pub held_by : List Holder → ℕ → Event → List Holder
held_by held desk (event.Gate gate hold) = filter (is_other desk gate) held ++ record { desk = desk; gate = gate; hold = hold } ∷ []
held_by held desk (event.Ungate gate) = filter (is_other desk gate) held
held_by held desk _ = held

abbrev pub held_after : List Holder → Act → List Holder
held_after held a = held_by held a.desk a.event

-- ---- the phase, and what is settled

-- the phase that stands after these acts, if one does
abbrev pub IsPhaseOf : Option Phase → List Act → Type 0
IsPhaseOf phase acts = MatchOption phase (IsAPhaseStanding acts → ⊥) (λ p. IsInPhase acts p.desk p.stage)

abbrev pub phase_by : Option Phase → ℕ → Event → Option Phase
phase_by phase desk (event.Phase stage) = Some (record { desk = desk; stage = stage })
phase_by phase desk event.VacuumEnd = None
phase_by phase desk (event.Cancel stage) = None
phase_by phase desk _ = phase

-- the phase that stands after an act
abbrev pub phase_after : Option Phase → Act → Option Phase
phase_after phase a = phase_by phase a.desk a.event

abbrev pub settled_by : ℕ → Event → ℕ
settled_by before (event.Settled upto) = upto
settled_by before _ = before

abbrev pub settled_from : ℕ → List Act → ℕ
settled_from before [] = before
settled_from before (a ∷ acts) = settled_from (settled_by before a.event) acts

-- how much the last Settled of these acts counts, 0 where there is none
abbrev pub settled_in : List Act → ℕ
settled_in acts = settled_from 0 acts

-- ---- all tables

-- What the tables tell is so after these acts.
pub record Tells (tables : Tables) (acts : List Act) : Type 0 where
  pub held : AreHolders tables.holders.held.items acts
  pub phase : IsPhaseOf tables.phase acts
  pub lasting : tables.lasting ≡ lasting_events acts
  pub settled : tables.settled ≡ settled_in acts

-- there is room for so many holds more
abbrev pub HasRoom : ℕ → Tables → Type 0
HasRoom holds tables = vec_len tables.holders.held + holds ≤ vec_capacity tables.holders.held

abbrev pub IsTaking : Event → Type 0
IsTaking (event.Gate gate hold) = ⊤
IsTaking _ = ⊥

-- ---- what is owed

abbrev pub one_if_some : Option Phase → ℕ
one_if_some None = 0
one_if_some (Some phase) = 1

-- how many acts end all that stands: a release for each hold, and the end of the phase
abbrev pub ends_owed : Tables → ℕ
ends_owed tables = length tables.holders.held.items + one_if_some tables.phase

-- how many more an event makes them at most: one, where it takes a gate or begins a phase
abbrev pub one_if_begins : Event → ℕ
one_if_begins (event.Gate gate hold) = 1
one_if_begins (event.Phase stage) = 1
one_if_begins _ = 0

-- the tables tell that the event ends a hold of this desk, or the phase that stands
abbrev pub IsToldEnd : Tables → ℕ → Event → Type 0
IsToldEnd tables desk (event.Ungate gate) =
    (hold : Hold) × IsAmong (record { desk = desk; gate = gate; hold = hold }) tables.holders.held.items
IsToldEnd tables desk event.VacuumEnd = one_if_some tables.phase ≡ 1
IsToldEnd tables desk (event.Cancel stage) = one_if_some tables.phase ≡ 1
IsToldEnd tables desk _ = ⊥

-- after these acts it does so
abbrev pub IsEnd : List Act → ℕ → Event → Type 0
IsEnd acts desk (event.Ungate gate) = Holds acts desk gate
IsEnd acts desk event.VacuumEnd = IsAPhaseStanding acts
IsEnd acts desk (event.Cancel stage) = IsAPhaseStanding acts
IsEnd acts desk _ = ⊥
