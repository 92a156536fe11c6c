-- What is settled, and the faults of the disks.
use Rattle.std.specs.Prelude.{ℕ, ◌<◌, ◌≤◌, Bool, true, false, List, count_by}
use Rattle.vec_history.specs.declared.event.Event.{Event}
use Rattle.vec_history.specs.declared.event.Event.TheVariants as event
use Rattle.vec_history.specs.declared.event.Act.{Act}
use Rattle.vec_history.specs.Acts.{IsActAt}

-- a lasting event goes to the log; a passing one does not
abbrev pub is_lasting : Event → Bool
is_lasting (event.Gate gate hold) = false
is_lasting (event.Ungate gate) = false
is_lasting (event.Phase stage) = false
is_lasting event.VacuumEnd = false
is_lasting (event.Cancel stage) = false
is_lasting (event.Settled upto) = false
is_lasting (event.DiskFaulted count) = false
is_lasting _ = true

abbrev pub lasting_events : List Act → ℕ
lasting_events acts = count_by (λ a. is_lasting a.event) acts

-- Not more events are settled than there are, and not fewer than before.
pub record IsSettledAllowed (acts : List Act) (upto : ℕ) : Type 0 where
  pub not_more : upto ≤ lasting_events acts
  pub not_fewer : (k desk before : ℕ) → IsActAt acts k desk (event.Settled before) → before ≤ upto

-- Each fault is a further one.
abbrev pub IsFaultAllowed : List Act → ℕ → Type 0
IsFaultAllowed acts count = (k desk before : ℕ) → IsActAt acts k desk (event.DiskFaulted before) → before < count
