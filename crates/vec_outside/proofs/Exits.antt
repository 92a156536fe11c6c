-- What holds at the exits of a function, from what holds of the call that it leaves by.
use Rattle.std.proofs.Common.{Result, Ok, Err, OnOk, OnErr}
use Rattle.vec_outside.specs.Causes.{UnlessMemory}
use Rattle.vec_outside.specs.declared.outage.Outage.{Outage}
use Rattle.vec_outside.specs.declared.outage.Outage.TheVariants.{Memory, Failed}

-- what holds anyway holds on success
pub on_ok : {T E P : Type 0} (r : Result T E) → P → OnOk r P
on_ok (Ok x) p = p
on_ok (Err e) p = tt

-- what holds anyway holds on failure
pub on_err : {T E P : Type 0} (r : Result T E) → P → OnErr r P
on_err (Ok x) p = tt
on_err (Err e) p = p

-- what holds on success and on failure holds
pub either : {T E P : Type 0} (r : Result T E) → OnOk r P → OnErr r P → P
either (Ok x) ok err = ok
either (Err e) ok err = err

-- what holds anyway holds unless memory was wanting
pub unless_memory : {T P : Type 0} (r : Result T Outage) → P → UnlessMemory r P
unless_memory (Ok x) p = p
unless_memory (Err Memory) p = tt
unless_memory (Err Failed) p = p
