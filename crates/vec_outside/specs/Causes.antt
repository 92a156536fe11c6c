-- How often an object of the outside has failed, and what a call says of it.
use Rattle.std.specs.Prelude.{ℕ, ◌+◌, ◌-◌, ◌^◌, ◌≤◌, min, Bool, true, false, ⊤, Result, Ok, Err, IsErrOf}
use Rattle.vec_outside.specs.declared.outage.Outage.{Outage}
use Rattle.vec_outside.specs.declared.outage.Outage.TheVariants.{Memory, Failed}

-- a count has risen; one that stands at its type's end can't, and is outside all claims
abbrev pub Rose : ℕ → ℕ → Type 0
Rose before now = min (before + 1) (2 ^ 64 - 1) ≤ now

-- the count never falls, and Failed is answered only where it rose
pub record HasCause {T : Type 0} (before now : ℕ) (result : Result T Outage) : Type 0 where
  pub later : before ≤ now
  pub failed : IsErrOf result Failed → Rose before now

-- the answer is Failed
abbrev pub is_failed : {T : Type 0} → Result T Outage → Bool
is_failed (Ok x) = false
is_failed (Err Memory) = false
is_failed (Err Failed) = true

-- want of memory is free; every other answer keeps this
abbrev pub UnlessMemory : {T : Type 0} → Result T Outage → Type 0 → Type 0
UnlessMemory (Ok x) P = P
UnlessMemory (Err Memory) P = ⊤
UnlessMemory (Err Failed) P = P
