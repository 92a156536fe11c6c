-- Acts of a history by their numbers. An act's number counts the acts before it; a position n is the state after the first n acts.
use Rattle.std.specs.Prelude.{◌≡◌, ℕ, ◌<◌, ◌≤◌, List, [], ◌∷◌, slice_get, Some}
use Rattle.vec_history.specs.declared.event.Event.{Event}
use Rattle.vec_history.specs.declared.event.Act.{Act}

abbrev pub act_of : ℕ → Event → Act
act_of desk e = record { desk = desk; event = e }

-- the act of number k is this event of this desk
abbrev pub IsActAt : List Act → ℕ → ℕ → Event → Type 0
IsActAt acts k desk e = slice_get acts k ≡ Some (act_of desk e)

-- no act after that of number k is one of these
abbrev pub NoneAfter : List Act → ℕ → (Act → Type 0) → Type 0
NoneAfter acts k P = (j : ℕ) (a : Act) → k < j → slice_get acts j ≡ Some a → P a → ⊥

-- no act of number i or later is one of these
abbrev pub NoneFrom : List Act → ℕ → (Act → Type 0) → Type 0
NoneFrom acts i P = (j : ℕ) (a : Act) → i ≤ j → slice_get acts j ≡ Some a → P a → ⊥

-- positions do not fall, and lie between these two
abbrev pub IsRising : ℕ → List ℕ → ℕ → Type 0
IsRising low [] high = low ≤ high
IsRising low (n ∷ positions) high = (low ≤ n) × IsRising n positions high
