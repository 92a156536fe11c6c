-- A table of places, of which those of the present round count.
use Rattle.std.specs.Prelude.{◌≡◌, ◌≢◌, ℕ, ◌+◌, ◌*◌, ◌/◌, ◌%◌, ◌^◌, ◌<◌, ◌≤◌, ◌==◌, List, [], ◌∷◌, if◌then◌else◌, length, slice_get, Some, bit_and}
use Rattle.std.specs.FinSet as set
use Rattle.vec_names.specs.declared.tid.Tid.{Tid}
use Rattle.vec_names.specs.Order.{tid_cmp}
use Rattle.search_sets.specs.declared.slots.Slot.{Slot}

-- where a place is looked for first
unfoldable pub first_slot : ℕ → Tid → ℕ
first_slot mask at = bit_and ((at.block * 65536 + at.off) * 11400714819323198485 % 2 ^ 64 / 4294967296) mask

-- the places of one round
abbrev pub places_of : ℕ → List Slot → List Tid
places_of round [] = []
places_of round (s ∷ slots) = if s.round == round then s.at ∷ places_of round slots else places_of round slots

abbrev pub set_of : ℕ → List Slot → set.FinSet tid_cmp
set_of round slots = set.from_list (places_of round slots)

-- the slot is used in this round
pub record IsUsed (round : ℕ) (slots : List Slot) (k : ℕ) : Type 0 where
  pub slot : Slot
  pub is : slice_get slots k ≡ Some slot
  pub now : slot.round ≡ round

-- the slot has another place
pub record IsOther (round : ℕ) (at : Tid) (slots : List Slot) (k : ℕ) : Type 0 where
  pub used : IsUsed round slots k
  pub differs : used.slot.at ≢ at

-- the place stands in a slot
pub record Stands (round : ℕ) (at : Tid) (slots : List Slot) : Type 0 where
  pub k : ℕ
  pub used : IsUsed round slots k
  pub same : used.slot.at ≡ at

-- each slot from the first one to be looked at up to this one is used
abbrev pub AreUsed : ℕ → List Slot → ℕ → ℕ → Type 0
AreUsed round slots low high = (k : ℕ) → low ≤ k → k < high → IsUsed round slots k

abbrev pub AreOthers : ℕ → Tid → List Slot → ℕ → ℕ → Type 0
AreOthers round at slots low high = (k : ℕ) → low ≤ k → k < high → IsOther round at slots k

pub record IsReachedFrom (low round : ℕ) (slots : List Slot) (k : ℕ) : Type 0 where
  pub from : low ≤ k
  pub over : AreUsed round slots low k

-- a place is found by going on from its first slot, over used ones
pub record IsTable (mask round : ℕ) (slots : List Slot) : Type 0 where
  pub masked : mask < length slots
  pub reached : (k : ℕ) (s : Slot) → slice_get slots k ≡ Some s → s.round ≡ round → IsReachedFrom (first_slot mask s.at) round slots k
  pub rounds : (k : ℕ) (s : Slot) → slice_get slots k ≡ Some s → s.round ≤ round

-- where a place was looked for: it stands there, or nowhere
pub record IsSought (mask round : ℕ) (at : Tid) (slots : List Slot) (k : ℕ) : Type 0 where
  pub from : first_slot mask at ≤ k
  pub within : k ≤ length slots
  pub others : AreOthers round at slots (first_slot mask at) k
  pub stop : (s : Slot) → slice_get slots k ≡ Some s → s.round ≡ round → s.at ≡ at

-- all slots are of earlier rounds
abbrev pub AreEarlier : ℕ → List Slot → Type 0
AreEarlier round slots = (k : ℕ) (s : Slot) → slice_get slots k ≡ Some s → s.round < round

-- with the place of a slot, if it is one of the round
abbrev pub with_slot : ℕ → Slot → set.FinSet tid_cmp → set.FinSet tid_cmp
with_slot round s places = if s.round == round then set.insert places s.at else places
