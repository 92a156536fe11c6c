-- What an index grants of what a desk may ask.
use Rattle.std.specs.Prelude.{ℕ, ⊤, List}
use Rattle.vec_history.specs.declared.event.Act.{Act}
use Rattle.vec_history.specs.Gates.{AgreesWithOthers}
use Rattle.vec_steps.specs.declared.ask.Ask.{Ask}
use Rattle.vec_steps.specs.declared.ask.Ask.TheVariants as ask

-- no hold of another desk stands in the way of the hold that is asked for
abbrev pub AgreesAtTake : List Act → ℕ → Ask → Type 0
AgreesAtTake acts desk (ask.Take gate hold) = AgreesWithOthers acts desk gate hold
AgreesAtTake acts desk _ = ⊤
