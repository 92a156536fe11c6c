-- Neighbour selection: the HNSW paper's Algorithm 4, with the candidates that it sets aside kept and without extending the candidates.
use Rattle.std.specs.Prelude.{ℕ, suc, ◌++◌, if◌then◌else◌, Bool, true, false, List, [], ◌∷◌, take}
use Rattle.std.specs.List.{list_all}
use Rattle.vec_names.specs.declared.params.Ops.{Ops}
use Rattle.bit_dist.specs.Distances.{distance_of}
use Rattle.neighbour_pick.specs.Order.{Candidate, is_greater}

-- an element is far from these where its distance to each is greater than its own to what is looked for
abbrev pub is_far : Ops → List Candidate → Candidate → Bool
is_far ops others c = list_all (λ o. is_greater (distance_of ops o.bits c.bits) c.dist) others

abbrev pub with_far : Bool → List Candidate → Candidate → List Candidate
with_far far others c = if far then others ++ c ∷ [] else others

-- Of candidates in order: whether each is far from the far ones before it. `others` are the far ones so far.
abbrev pub far_marks : Ops → List Candidate → List Candidate → List Bool
far_marks ops others [] = []
far_marks ops others (c ∷ cs) = is_far ops others c ∷ far_marks ops (with_far (is_far ops others c) others c) cs

-- the places of the marks that are set, the first being at this place
abbrev pub set_places : ℕ → List Bool → List ℕ
set_places k [] = []
set_places k (true ∷ marks) = k ∷ set_places (suc k) marks
set_places k (false ∷ marks) = set_places (suc k) marks

-- the places of those that are not
abbrev pub clear_places : ℕ → List Bool → List ℕ
clear_places k [] = []
clear_places k (true ∷ marks) = clear_places (suc k) marks
clear_places k (false ∷ marks) = k ∷ clear_places (suc k) marks

-- The places of the first `count`: the far ones in order, and then the others in order.
abbrev pub picked : Ops → List Candidate → ℕ → List ℕ
picked ops cs count = take count (set_places 0 (far_marks ops [] cs) ++ clear_places 0 (far_marks ops [] cs))
