-- What a look at a block of rows tells is what a search finds there.
use Rattle.std.proofs.Common.{◌≡◌, ℕ, ◌+◌, Bool, List, [], ◌∷◌, map, refl, ap}
use Rattle.bit_dist.specs.Distances.{hamming_of}
use Rattle.ivf_graph.specs.Graph.{Row}
use Rattle.ivf_graph.specs.Looks.{seen_from}
use Rattle.ivf_graph.specs.Answer.{Found, found_from, found_by}

pub found_as_seen : (query : List Bool) (block offset : ℕ) (rows : List Row) → found_from query block offset rows ≡ map (found_by query block) (seen_from offset rows)
found_as_seen query block offset [] = refl
found_as_seen query block offset (r ∷ rows) =
    let here : Found = record { distance = hamming_of r.1 query; id = r.0; block = block; offset = offset } in
    ap (λ fs. here ∷ fs) (found_as_seen query block (offset + 1) rows)
