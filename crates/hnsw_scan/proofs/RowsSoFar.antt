-- The rows of a batch, one element more.
use Rattle.std.proofs.Common.{◌≡◌, ℕ, ◌+◌, ◌<◌, Bool, List, [], ◌∷◌, ◌++◌, flat_map, length, get_or, take, ap, ◌∙◌, append-nil}
use Rattle.std.proofs.lemmas.Grind.{flat_map-append}
use Rattle.std.proofs.lemmas.List.{map-append}
use Rattle.neighbour_pick.specs.declared.found.Found.{Found}
use Rattle.graph_search.specs.Scan.{Given, rows_of}
use Rattle.graph_search.specs.ByHolding.{elements_in}
use Rattle.search_sets.proofs.Fronts.{take_more}

pub rows_more : (batch : List (Found × Bool)) (i : ℕ) (p : Found × Bool) → i < length batch → p ≡ get_or batch i p
    → flat_map rows_of (elements_in (take (i + 1) batch)) ≡ flat_map rows_of (elements_in (take i batch)) ++ rows_of p.0
rows_more batch i p within is =
    ap (λ (ps : List (Found × Bool)). flat_map rows_of (elements_in ps)) (take_more batch i p within is)
    ∙ ap (flat_map rows_of) (map-append (λ (q : Found × Bool). q.0) (take i batch) (p ∷ []))
    ∙ flat_map-append rows_of (elements_in (take i batch)) (p.0 ∷ [])
    ∙ ap (λ (l : List Given). flat_map rows_of (elements_in (take i batch)) ++ l) (append-nil (rows_of p.0))
