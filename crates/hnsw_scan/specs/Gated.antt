-- What a call on a scan does under the gate Scan, and how a fault ends it.
use Rattle.std.specs.Prelude.{◌≡◌, ℕ, List}
use Rattle.vec_history.specs.declared.event.Act.{Act}
use Rattle.vec_history.specs.declared.gate.Gate.TheVariants.{Scan}
use Rattle.vec_history.specs.declared.gate.Hold.TheVariants.{Shared}
use Rattle.graph_search.specs.Reads.{Look, Answer}
use Rattle.vec_steps.specs.declared.fault.OpFault.{OpFault}
use Rattle.vec_steps.specs.declared.fault.OpFault.TheVariants as op
use Rattle.vec_steps.specs.Index.{Index}
use Rattle.vec_steps.specs.Desks.{Desk}
use Rattle.vec_steps.specs.Calls.{DoesSo, HoldsNone, Looks}
use Rattle.step_gates.specs.Gating.{GateFailed, GivesBack, TakesGate}
use Rattle.layer_search.specs.Looking.{EndedBy, MadeLooks}

-- The call took Scan Shared, made these looks and gave the gate back, and did nothing else.
pub record MadeGated (over : Index → Type 0) (d : Desk) (old new : List Act) (before now : List ℕ) (reads : List (Look × Answer))
    : Type 0 where
  pub taken : List Act
  pub seen : List Act
  pub takes : TakesGate over d old taken Scan Shared
  pub looks : MadeLooks over d taken seen before now reads
  pub gives : GivesBack over d seen new Scan

-- How a fault ended such a call. The gate was not taken, and nothing was done; or looks were ended by the fault, and the gate was given
-- back; or the fault was met when it was to be given back, after looks, or after looks that another fault ended.
pub data GatedEnd (over : Index → Type 0) (d : Desk) (old new : List Act) (fault : OpFault) : Type 0 where
  not_taken : GateFailed over d old new fault → GatedEnd over d old new fault
  given_back : (taken seen : List Act) → TakesGate over d old taken Scan Shared → EndedBy over d taken seen fault
      → GivesBack over d seen new Scan → GatedEnd over d old new fault
  not_given_back : (taken seen : List Act) → TakesGate over d old taken Scan Shared → DoesSo Looks over d taken seen
      → GateFailed over d seen new fault → (fault ≡ op.Memory → ⊥) → GatedEnd over d old new fault
  failed_twice : (taken seen : List Act) (first : OpFault) → TakesGate over d old taken Scan Shared → EndedBy over d taken seen first
      → GateFailed over d seen new fault → (fault ≡ op.Memory → ⊥) → GatedEnd over d old new fault

-- At a fault the desk holds no gate, but where it is one of the disks: that may have been met when the gate was to be given back.
abbrev pub IsFreed : (Index → Type 0) → Desk → List Act → OpFault → Type 0
IsFreed over d new fault = (base : Index) → over base → ((count : ℕ) → fault ≡ op.Disk count → ⊥) → HoldsNone new d.number
