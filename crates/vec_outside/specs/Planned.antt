-- Which calls of an object in memory are to fail, and how they are counted.
use Rattle.std.specs.Prelude.{◌≡◌, ◌⊎◌, [], ℕ, ◌+◌, ◌-◌, ◌^◌, ◌<◌, min, Bool, if◌then◌else◌, Contains, Vec}
use Rattle.std.specs.declared.alloc.Global.{Global}
use Rattle.vec_outside.specs.declared.plan.Plan.{Plan}

-- a count goes up by one, to its type's end
abbrev pub one_more : ℕ → ℕ
one_more n = min (n + 1) (2 ^ 64 - 1)

-- the next call is to fail: its number is past the last one allowed, or in the list
abbrev pub IsDue : Plan → Type 0
IsDue plan = (plan.stop < one_more plan.calls) ⊎ Contains plan.fail.items (one_more plan.calls)

-- after a call, which failed or did not
abbrev pub counted : Plan → Bool → Plan
counted plan failed = record plan { calls = one_more plan.calls; faults = (if failed then one_more plan.faults else plan.faults) }

-- no call was made yet
abbrev pub fresh_plan : Vec ℕ Global → Plan
fresh_plan fail = record { fail = fail; stop = 2 ^ 64 - 1; calls = 0; faults = 0 }

-- the same, where no call is to fail
pub record IsFreshPlan (plan : Plan) : Type 0 where
  pub fails : plan.fail.items ≡ []
  pub never_stops : plan.stop ≡ 2 ^ 64 - 1
  pub no_calls : plan.calls ≡ 0
  pub no_faults : plan.faults ≡ 0
