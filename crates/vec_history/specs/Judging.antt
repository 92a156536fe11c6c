-- Why a history is not legal.
use Rattle.std.specs.Prelude.{◌≡◌, ℕ, ⊤, List, take, slice_get, Some}
use Rattle.vec_history.specs.declared.event.Act.{Act}
use Rattle.vec_history.specs.declared.fault.AuditFault.{AuditFault}
use Rattle.vec_history.specs.declared.fault.AuditFault.TheVariants.{Memory, Illegal}
use Rattle.vec_history.specs.Legal.{IsLegalBy}

-- The act of this number is the first that may not come after the acts before it.
pub record IsFirstIllegal (May : List Act → Act → Type 0) (acts : List Act) (at : ℕ) : Type 0 where
  pub legal_before : IsLegalBy May (take at acts)
  pub act : Act
  pub there : slice_get acts at ≡ Some act
  pub refused : May (take at acts) act → ⊥

-- each fault and what is then so of the acts; of want of memory nothing is said
abbrev pub IsFaultOf : (List Act → Act → Type 0) → List Act → AuditFault → Type 0
IsFaultOf May acts Memory = ⊤
IsFaultOf May acts (Illegal at) = IsFirstIllegal May acts at
