-- Which rows of a node are dead, and the mask that names them.
use Rattle.std.specs.Prelude.{◌≡◌, ◌+◌, ◌*◌, ◌/◌, ◌%◌, ⊤, ℕ, Bool, true, false, List, [], ◌∷◌}
use Rattle.vec_names.specs.declared.heap_id.HeapId.{HeapId}
use Rattle.hnsw_vacuum.specs.declared.judging.Mask.{Mask}

-- the test answered so for each of these ids, in their order
abbrev pub AreJudged : (HeapId → Bool → Type 0) → List HeapId → List Bool → Type 0
AreJudged Judged [] [] = ⊤
AreJudged Judged [] (b ∷ bs) = ⊥
AreJudged Judged (id ∷ ids) [] = ⊥
AreJudged Judged (id ∷ ids) (b ∷ bs) = Judged id b × AreJudged Judged ids bs

abbrev pub one_if : Bool → ℕ
one_if true = 1
one_if false = 0

-- the mask that names those called dead, the first by its lowest bit
abbrev pub mask_of : List Bool → ℕ
mask_of [] = 0
mask_of (b ∷ bs) = one_if b + 2 * mask_of bs

-- how many were called dead
abbrev pub dead_in : List Bool → ℕ
dead_in [] = 0
dead_in (b ∷ bs) = one_if b + dead_in bs

-- a mask of what the test answered for these ids, and how many it names
pub record IsMaskOf (Judged : HeapId → Bool → Type 0) (ids : List HeapId) (mask : Mask) : Type 0 where
  pub answers : List Bool
  pub judged : AreJudged Judged ids answers
  pub gone_is : mask.gone ≡ mask_of answers
  pub count_is : mask.count ≡ dead_in answers

-- each of these that the mask names is so
abbrev pub AreNamed : (HeapId → Type 0) → ℕ → List HeapId → Type 0
AreNamed P gone [] = ⊤
AreNamed P gone (id ∷ ids) = (gone % 2 ≡ 1 → P id) × AreNamed P (gone / 2) ids
