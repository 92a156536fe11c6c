-- What a frontier holds, in the words of the search.
use Rattle.std.specs.Prelude.{◌≡◌, ◌||◌, ℕ, ◌+◌, ◌<◌, ◌≤◌, ◌^◌, ⊤, nat_lt, Bool, true, false, List, [], ◌∷◌, ◌++◌, map, filter, drop, length, get_or}
use Rattle.std.specs.List.{AllByRecursion}
use Rattle.std.specs.FinSet as set
use Rattle.vec_names.specs.declared.tid.Tid.{Tid}
use Rattle.vec_names.specs.declared.heap_id.HeapId.{HeapId}
use Rattle.vec_names.specs.declared.params.Ops.TheVariants.{Hamming}
use Rattle.bit_dist.specs.declared.dist.Dist.{Dist}
use Rattle.list_values.specs.Ranking.{ranked}
use Rattle.neighbour_pick.specs.declared.found.Found.{Found}
use Rattle.graph_search.specs.Search.{is_among, is_before, is_live, in_order}
use Rattle.graph_search.specs.Descent.{start_at}
use Rattle.graph_search.specs.Scan.{Held, begins_with, is_known_at}
use Rattle.graph_search.specs.ByHolding.{HoldTheSame}
use Rattle.search_sets.specs.declared.key.Key.{Key}
use Rattle.search_sets.specs.declared.spot.Spot.{Spot}
use Rattle.search_sets.specs.declared.frontier.Frontier.{Frontier}
use Rattle.search_sets.specs.Bests.{Rise}

-- ---- elements and their keys

abbrev pub spot_of : Found → Spot
spot_of e = record { at = e.at; list_at = e.list_at; level = e.level; version = e.version }

-- the element that stands here
abbrev pub found_at : Spot → Dist → List HeapId → List Bool → Found
found_at s dist ids bits =
    record {
      at = s.at;
      list_at = s.list_at;
      level = s.level;
      version = s.version;
      dist = dist;
      ids = record { items = ids };
      bits = bits;
    }

-- what a key alone says of its element
abbrev pub bare : Key → Found
bare k = found_at (record { at = k.at; list_at = k.at; level = 0; version = 0 }) k.dist [] []

-- the element of a key's number
abbrev pub element_in : List Found → Key → Found
element_in known k = get_or known k.index (bare k)

-- the key is that of a known element
pub record IsKeyOf (known : List Found) (k : Key) : Type 0 where
  pub within : k.index < length known
  pub dist : k.dist ≡ (element_in known k).dist
  pub at : k.at ≡ (element_in known k).at

-- ---- a frontier

-- What it holds. An element was known to an earlier batch where its number is below that of those known then.
abbrev pub held : Frontier → Held
held f = record {
  is_named = set.contains f.named;
  unexpanded = map (element_in f.known) f.ahead;
  found = map (λ k. (element_in f.known k, nat_lt k.index f.earlier)) f.found.1;
  count = length f.known;
}

-- how many are wanted
abbrev pub wanted : Frontier → ℕ
wanted f = f.found.0

-- the keys are those of known elements, in order, and a number has room in a key
pub record IsWhole (f : Frontier) : Type 0 where
  pub ahead_keys : AllByRecursion (IsKeyOf f.known) f.ahead
  pub ahead_rises : Rise f.ahead
  pub found_keys : AllByRecursion (IsKeyOf f.known) f.found.1
  pub found_rises : Rise f.found.1
  pub earlier_few : f.earlier ≤ length f.known
  pub few : length f.known ≤ 2 ^ 32

-- ---- what is held, and what changes of it

abbrev pub holds_nothing : Held
holds_nothing = record { is_named = λ at. false; unexpanded = []; found = []; count = 0 }

-- what a search holds that begins from these: neither the query nor the layer counts
abbrev pub begun_from : List Found → Held
begun_from from = begins_with (start_at Hamming [] from 0)

-- these places were named
abbrev pub with_names : List Tid → Held → Held
with_names places h = record {
  is_named = λ at. h.is_named at || is_among places at;
  unexpanded = h.unexpanded;
  found = h.found;
  count = h.count;
}

abbrev pub nearer_found : Found × Bool → Found × Bool → Bool
nearer_found p q = is_before p.0 q.0

-- these became known, after all that were: they wait, and the live ones are found
abbrev pub with_elements : List Found → Held → Held
with_elements es h = record {
  is_named = h.is_named;
  unexpanded = in_order (h.unexpanded ++ es);
  found = ranked nearer_found (h.found ++ map (λ e. (e, false)) (filter is_live es));
  count = h.count + length es;
}

-- the least that waited waits no more, and this is where it stands
pub record TakesLeast (old new : Held) (spot : Spot) : Type 0 where
  pub element : Found
  pub rest : List Found
  pub least : old.unexpanded ≡ element ∷ rest
  pub is_there : spot ≡ spot_of element
  pub left : HoldTheSame new (record { is_named = old.is_named; unexpanded = rest; found = old.found; count = old.count })

-- all that is known, an earlier batch knew
abbrev pub known_earlier : Held → Held
known_earlier h = record {
  is_named = h.is_named;
  unexpanded = h.unexpanded;
  found = map (λ p. (p.0, true)) h.found;
  count = h.count;
}

-- so many of those that were found were taken, the first in order
abbrev pub without_batch : ℕ → Held → Held
without_batch n h = record { is_named = h.is_named; unexpanded = h.unexpanded; found = drop n h.found; count = h.count }

-- ---- the elements that wait

-- each at a place of its own
abbrev pub AreApart : List Found → Type 0
AreApart [] = ⊤
AreApart (e ∷ es) = (is_known_at es e.at ≡ false) × AreApart es

-- those that wait stand at places of their own, which were named
pub record IsCovered (h : Held) : Type 0 where
  pub apart : AreApart h.unexpanded
  pub are_named : (at : Tid) → is_known_at h.unexpanded at ≡ true → h.is_named at ≡ true
