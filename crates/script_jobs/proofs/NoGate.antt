-- A desk that holds no gate.
use Rattle.std.proofs.Common.{ℕ, List}
use Rattle.vec_history.specs.declared.event.Act.{Act}
use Rattle.vec_history.specs.declared.gate.Gate.TheVariants.{Scan, Update, Vacuum}
use Rattle.vec_history.specs.Gates.{Holds}
use Rattle.vec_steps.specs.Calls.{HoldsNone}
use Rattle.hnsw_insert.specs.Whole.{KeepsOtherGates}

-- after a call that gave Update back and kept the others as they were
pub holds_none : {desk : ℕ} {old new : List Act} → HoldsNone old desk → KeepsOtherGates desk old new → (Holds new desk Update → ⊥)
    → HoldsNone new desk
holds_none none others free Update h = free h
holds_none none others free Scan h = none Scan ((others Scan (λ same. absurd cc)).1 h)
holds_none none others free Vacuum h = none Vacuum ((others Vacuum (λ same. absurd cc)).1 h)
