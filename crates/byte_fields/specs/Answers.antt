-- What a call answers, where reading gives this.
use Rattle.std.specs.Prelude.{◌≡◌, ℕ, List, Result, Ok, Err}
use Rattle.byte_fields.specs.declared.stop.Cause.{Cause}
use Rattle.byte_fields.specs.declared.stop.Cause.TheVariants as causes
use Rattle.byte_fields.specs.declared.stop.Stop.{Stop}
use Rattle.byte_fields.specs.declared.stop.Halt.{Halt}
use Rattle.byte_fields.specs.declared.stop.Halt.TheVariants as halts
use Rattle.byte_fields.specs.Reading.{Read, Got, Bad, Short}

-- reading stopped so, with so many bytes left
abbrev pub stopped_by : {A : Type 0} → Cause → ℕ → Read A
stopped_by causes.Bad left = Bad left
stopped_by causes.Short left = Short left

abbrev pub stopped : {A : Type 0} → Stop → Read A
stopped stop = stopped_by stop.cause stop.left

-- the call gave what reading gives: a value and the bytes after it, as `view` tells them
abbrev pub Gives : {X A : Type 0} → (X → A × List ℕ) → Result X Stop → Read A → Type 0
Gives view (Ok x) read = read ≡ Got (view x).0 (view x).1
Gives view (Err stop) read = read ≡ stopped stop

-- why a call that takes memory ended; of want of it nothing is said
abbrev pub Halts : {A : Type 0} → Halt → Read A → Type 0
Halts halts.Memory read = Unit {0}
Halts (halts.Stopped stop) read = read ≡ stopped stop

-- the call that takes memory gave what reading gives
abbrev pub GivesOr : {X A : Type 0} → (X → A × List ℕ) → Result X Halt → Read A → Type 0
GivesOr view (Ok x) read = read ≡ Got (view x).0 (view x).1
GivesOr view (Err halt) read = Halts halt read
