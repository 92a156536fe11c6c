-- How an epoch is written part by part.
use Rattle.std.specs.Prelude.{◌≡◌, ◌⊎◌, ℕ, ◌+◌, ◌≤◌, List, length, take}
use Rattle.page_log.specs.declared.limits.TheConstants.{HEAD, SEAL}

abbrev pub BeginsWith : List ℕ → List ℕ → Type 0
BeginsWith front area = take (length front) area ≡ front

-- so many bytes from a place on, none of which is the seal of the epoch
abbrev pub IsApart : ℕ → ℕ → Type 0
IsApart at n = (at + n ≤ SEAL) ⊎ (HEAD ≤ at)
