-- The search of one layer as sets over its whole course: the HNSW paper's Algorithm 2, with ties by place, and with elements that have lost
-- all their rows walked through and not kept, which is this project's own rule. An element that the algorithm would not keep as a candidate
-- is open here, and is never expanded.
use Rattle.std.specs.Prelude.{◌≡◌, ℕ, ◌-◌, ◌||◌, ◌&&◌, not, nat_le, ⊤, Bool, true, false, List, [], ◌∷◌, ◌++◌, map, filter, take, length, slice_get, if◌then◌else◌, Option, Some, None}
use Rattle.std.specs.List.{list_any}
use Rattle.std.specs.Option.{option_map_or}
use Rattle.std.specs.Ordering.{eq_by_cmp}
use Rattle.vec_names.specs.declared.tid.Tid.{Tid}
use Rattle.vec_names.specs.declared.heap_id.HeapId.{HeapId}
use Rattle.vec_names.specs.declared.params.Ops.{Ops}
use Rattle.vec_names.specs.Order.{tid_cmp}
use Rattle.bit_dist.specs.Distances.{distance_of}
use Rattle.list_values.specs.Ranking.{ranked}
use Rattle.neighbour_pick.specs.declared.found.Found.{Found}
use Rattle.neighbour_pick.specs.Order.{candidate_of, is_nearer}
use Rattle.graph_search.specs.Reads.{Look, AtNode, AtList, Answer, Gone, OfMeta, OfNode, OfList, OfPage}

-- ---- elements

abbrev pub is_before : Found → Found → Bool
is_before a b = is_nearer (candidate_of a) (candidate_of b)

-- by distance, and then by place
abbrev pub in_order : List Found → List Found
in_order es = ranked is_before es

abbrev pub has_some : List HeapId → Bool
has_some [] = false
has_some (id ∷ ids) = true

-- live as it was read
abbrev pub is_live : Found → Bool
is_live e = has_some e.ids.items

abbrev pub place_of : Found → Tid
place_of e = e.at

abbrev pub is_among : List Tid → Tid → Bool
is_among places at = list_any (eq_by_cmp tid_cmp at) places

-- the element that a look at a node told, if it told one, with its distance to the query
abbrev pub element_of : Ops → List Bool → Tid → Answer → List Found
element_of ops query at (OfNode level version list_at ids bits) =
    record {
      at = at;
      list_at = list_at;
      level = level;
      version = version;
      dist = distance_of ops query bits;
      ids = record { items = ids };
      bits = bits;
    }
    ∷ []
element_of ops query at Gone = []
element_of ops query at (OfMeta entry level hint blocks) = []
element_of ops query at (OfList slots) = []
element_of ops query at (OfPage nodes) = []

-- ---- a course

-- one expansion: the element, what the look at its list told, and what the looks at the places named there for the first time told
pub record Turn : Type 0 where
  pub element : Found
  pub list : Answer
  pub nodes : List (Tid × Answer)

-- where a search begins
pub record Start : Type 0 where
  pub ops : Ops
  pub query : List Bool
  pub from : List Found
  pub layer : ℕ

-- when it ends: how many are wanted, which were taken before, and how many may become known, if that is bounded
pub record Bounds : Type 0 where
  pub ef : ℕ
  pub taken : List Tid
  pub most : Option ℕ

-- the places that slots name, in their order
abbrev pub filled : List (Option Tid) → List Tid
filled [] = []
filled (None ∷ slots) = filled slots
filled (Some at ∷ slots) = at ∷ filled slots

abbrev pub named_in : Answer → List Tid
named_in (OfList slots) = filled slots
named_in Gone = []
named_in (OfMeta entry level hint blocks) = []
named_in (OfNode level version list_at ids bits) = []
named_in (OfPage nodes) = []

abbrev pub elements_of : Ops → List Bool → List (Tid × Answer) → List Found
elements_of ops query [] = []
elements_of ops query (n ∷ nodes) = element_of ops query n.0 n.1 ++ elements_of ops query nodes

abbrev pub learned : Start → List Turn → List Found
learned s [] = []
learned s (t ∷ turns) = elements_of s.ops s.query t.nodes ++ learned s turns

abbrev pub mentioned : List Turn → List Tid
mentioned [] = []
mentioned (t ∷ turns) = named_in t.list ++ mentioned turns

-- the elements known after these turns: those of the start, and each that a look gave
abbrev pub known : Start → List Turn → List Found
known s turns = s.from ++ learned s turns

-- the places that have been named
abbrev pub named : Start → List Turn → List Tid
named s turns = map place_of s.from ++ mentioned turns

-- known and not expanded, in order
abbrev pub open_in : Start → List Turn → List Found
open_in s turns = in_order (filter (λ e. not (is_among (map (λ t. t.element.at) turns) e.at)) (known s turns))

-- the live ones among the known that were not taken before, in order
abbrev pub found_in : Start → Bounds → List Turn → List Found
found_in s b turns = in_order (filter (λ e. is_live e && not (is_among b.taken e.at)) (known s turns))

-- nothing is open, or the least open one comes after the last that is wanted
abbrev pub is_done : ℕ → List Found → List Found → Bool
is_done ef found [] = true
is_done ef found (c ∷ rest) = option_map_or (λ f. is_before f c) (slice_get found (ef - 1)) false

abbrev pub is_most : Option ℕ → ℕ → Bool
is_most None count = false
is_most (Some most) count = nat_le most count

abbrev pub is_halted : Start → Bounds → List Turn → Bool
is_halted s b turns = is_done b.ef (found_in s b turns) (open_in s turns) || is_most b.most (length (known s turns))

-- the places that were not named before, each at its first mention
abbrev pub fresh : List Tid → List Tid → List Tid
fresh before [] = []
fresh before (at ∷ places) = if is_among before at then fresh before places else at ∷ fresh (before ++ at ∷ []) places

-- The turn may come after these: the search is not over, its element is the least open one, and just the places are looked at that its list
-- names for the first time, in the order of the slots.
pub record IsTurn (s : Start) (b : Bounds) (turns : List Turn) (t : Turn) : Type 0 where
  pub goes_on : is_halted s b turns ≡ false
  pub rest : List Found
  pub least : open_in s turns ≡ t.element ∷ rest
  pub looks : map (λ n. n.0) t.nodes ≡ fresh (named s turns) (named_in t.list)

-- each of these turns may come after those before it, of which the first ones are given
abbrev pub IsCourse : Start → Bounds → List Turn → List Turn → Type 0
IsCourse s b before [] = ⊤
IsCourse s b before (t ∷ turns) = IsTurn s b before t × IsCourse s b (before ++ t ∷ []) turns

-- ---- its reads

abbrev pub turn_reads : ℕ → Turn → List (Look × Answer)
turn_reads layer t =
    (AtList t.element.at t.element.list_at t.element.level t.element.version layer, t.list)
    ∷ map (λ n. (AtNode n.0 layer None, n.1)) t.nodes

abbrev pub course_reads : ℕ → List Turn → List (Look × Answer)
course_reads layer [] = []
course_reads layer (t ∷ turns) = turn_reads layer t ++ course_reads layer turns

abbrev pub only_ef : ℕ → Bounds
only_ef ef = record { ef = ef; taken = []; most = None }

-- The search of one layer: a course up to where it halts. These are its reads, and the first ef found are its result.
pub record LayerSearch (s : Start) (ef : ℕ) (reads : List (Look × Answer)) (result : List Found) : Type 0 where
  pub turns : List Turn
  pub course : IsCourse s (only_ef ef) [] turns
  pub halted : is_halted s (only_ef ef) turns ≡ true
  pub reads_are : reads ≡ course_reads s.layer turns
  pub result_is : result ≡ take ef (found_in s (only_ef ef) turns)

-- the search began from the element, or a look of it told the element
pub data IsMet (s : Start) (reads : List (Look × Answer)) (e : Found) : Type 0 where
  begun : (i : ℕ) → slice_get s.from i ≡ Some e → IsMet s reads e
  read : (i : ℕ) (told : Answer) → slice_get reads i ≡ Some (AtNode e.at s.layer None, told) → element_of s.ops s.query e.at told ≡ e ∷ []
      → IsMet s reads e

-- each element's distance is that of its value to the query
abbrev pub AreExact : Ops → List Bool → List Found → Type 0
AreExact ops query es = (i : ℕ) (e : Found) → slice_get es i ≡ Some e → e.dist ≡ distance_of ops query e.bits
