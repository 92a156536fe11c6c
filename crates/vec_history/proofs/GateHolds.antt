-- What a desk's own hold says of whether another may come beside it.
use Rattle.std.proofs.Common.{◌≡◌, ◌≢◌, ◌↔◌, ℕ, List, ◌∙◌}
use Rattle.vec_history.specs.declared.event.Act.{Act}
use Rattle.vec_history.specs.declared.gate.Gate.{Gate}
use Rattle.vec_history.specs.declared.gate.Hold.{Hold}
use Rattle.vec_history.specs.declared.gate.Hold.TheVariants.{Shared}
use Rattle.vec_history.specs.Gates.{HoldsSince}
use Rattle.vec_history.specs.Gates.{AgreesWithOthers}
use Rattle.vec_history.specs.Deciding.{AgreesWith}
use Rattle.vec_history.proofs.Scans.{EachOf}
use Rattle.vec_history.proofs.OneAtATime.{one_hold}

pub agrees_by_hold : (acts : List Act) (other : ℕ) (gate : Gate) (hold theirs : Hold) (k : ℕ) → HoldsSince acts other gate theirs k
    → ((hold ≡ Shared) × (theirs ≡ Shared)) ↔ AgreesWith acts other gate hold
agrees_by_hold acts other gate hold theirs k since = (
  λ both theirs' holds. (both.0, (one_hold acts other gate theirs' theirs holds.0 k holds.1 since).1 ∙ both.1),
  λ agrees. agrees theirs (k, since),
)

-- each act of another desk is one of a desk with which the hold agrees
abbrev pub OthersAgree : List Act → ℕ → Gate → Hold → Act → Type 0
OthersAgree acts desk gate hold a = a.desk ≢ desk → AgreesWith acts a.desk gate hold

pub all_agree : (acts : List Act) (desk : ℕ) (gate : Gate) (hold : Hold) → EachOf (OthersAgree acts desk gate hold) acts → AgreesWithOthers acts desk gate hold
all_agree acts desk gate hold each other theirs ne holds = each holds.0 _ holds.1.taken ne theirs holds
