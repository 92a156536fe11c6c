-- How a part of a vacuum goes on from one tally to the next, by which steps.
use Rattle.std.specs.Prelude.{◌≡◌, ℕ, ◌-◌, ◌==◌, ◌⊎◌, Bool, true, false, List, [], ◌∷◌, ◌++◌, Option, Some, None}
use Rattle.vec_steps.specs.Doing.{Step, Cleaning, Cleaned, cleaned}
use Rattle.hnsw_vacuum.specs.declared.tally.Tally.{Tally}

-- ---- the budget

abbrev pub is_spent : Option ℕ → Bool
is_spent None = false
is_spent (Some n) = n == 0

abbrev pub one_less : Option ℕ → Option ℕ
one_less None = None
one_less (Some n) = Some (n - 1)

-- ---- parts

pub record IsIdle (before now : Tally) (steps : List Step) : Type 0 where
  pub same : now ≡ before
  pub none : steps ≡ []

-- a change is due for which nothing is left
pub record IsDue (before now : Tally) (steps : List Step) : Type 0 where
  pub spent : is_spent before.left ≡ true
  pub now_is : now ≡ record before { due = true }
  pub none : steps ≡ []

-- something was left for the change: it was asked for, and is counted by its word
pub record IsAskedFor (change : Cleaning) (counted : Cleaned → Tally → Tally) (before now : Tally) (steps : List Step) : Type 0 where
  pub within : is_spent before.left ≡ false
  pub reply : Cleaned
  pub now_is : now ≡ counted reply before
  pub steps_are : steps ≡ cleaned change reply ∷ []

abbrev pub ChangesOnce : Cleaning → (Cleaned → Tally → Tally) → Tally → Tally → List Step → Type 0
ChangesOnce change counted before now steps = IsDue before now steps ⊎ IsAskedFor change counted before now steps

-- nothing more is done once a change was due for which nothing was left
abbrev pub GoesOnUnless : Bool → (Tally → Tally → List Step → Type 0) → Tally → Tally → List Step → Type 0
GoesOnUnless true Rest before now steps = IsIdle before now steps
GoesOnUnless false Rest before now steps = Rest before now steps

-- one part and then the rest
pub record InTurn (First Rest : Tally → Tally → List Step → Type 0) (before now : Tally) (steps : List Step) : Type 0 where
  pub between : Tally
  pub first : List Step
  pub rest : List Step
  pub is_first : First before between first
  pub is_rest : GoesOnUnless between.due Rest between now rest
  pub steps_are : steps ≡ first ++ rest
