-- Exits of a call by a fault.
use Rattle.std.specs.Prelude.{Result, Ok, Err, IfErr}
use Rattle.std.specs.Result.{IsErrAnd}

-- what an error that is handed on is, says what the call ended by
pub fails : {T E : Type 0} {Q P : E → Type 0} (r : Result T E) → ((e : E) → Q e → P e) → IsErrAnd r Q → IfErr r P
fails (Ok x) end h = absurd h
fails (Err e) end h = end e h
