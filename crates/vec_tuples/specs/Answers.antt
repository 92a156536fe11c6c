-- What a call answers, where reading gives this.
use Rattle.std.specs.Prelude.{◌≡◌, ℕ, ◌≤◌, ◌-◌, List, [], ◌++◌, length, take, Result, Ok, Err}
use Rattle.vec_tuples.specs.declared.fault.TupleFault.{TupleFault}
use Rattle.vec_tuples.specs.declared.fault.TupleFault.TheVariants as faults
use Rattle.byte_fields.specs.declared.stop.Stop.{Stop}
use Rattle.byte_fields.specs.Reading.{Read, Reader, Got, Bad}
use Rattle.byte_fields.specs.Answers.{stopped}
use Rattle.vec_tuples.specs.Reading.{whole}

-- the call gave what reading gives, of the value only so much
abbrev pub Passes : {X A B : Type 0} → (X → B × List ℕ) → (A → B) → Result X Stop → Read A → Type 0
Passes {A = A} view tell (Ok x) read = (v : A) × (read ≡ Got v (view x).1) × ((view x).0 ≡ tell v)
Passes view tell (Err stop) read = read ≡ stopped stop

-- What the bytes are as a whole, in the words of a caller: a value; or where the first field stands that keeps them from
-- being one. Of want of memory nothing is said.
abbrev pub IsReading : {A : Type 0} → Reader A → List ℕ → Result A TupleFault → Type 0
IsReading f bytes (Ok v) = whole f bytes ≡ Got v []
IsReading f bytes (Err faults.Memory) = Unit {0}
IsReading f bytes (Err (faults.Bad at)) = (at ≤ length bytes) × (whole f bytes ≡ Bad (length bytes - at))

-- a fault of the bytes, and no want of memory
abbrev pub IsFault : TupleFault → Type 0
IsFault faults.Memory = ⊥
IsFault (faults.Bad at) = Unit {0}

-- some value has the bytes before the fault; of want of memory nothing is said
abbrev pub BeginsSome : {A : Type 0} → (A → Type 0) → (A → List ℕ) → List ℕ → TupleFault → Type 0
BeginsSome Fits spell bytes faults.Memory = Unit {0}
BeginsSome Fits spell bytes (faults.Bad at) = (v : _) × Fits v × (more : List ℕ) × (spell v ≡ take at bytes ++ more)
