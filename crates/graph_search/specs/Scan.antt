-- A scan in batches: the HNSW paper's Algorithm 5, and after pgvector's iterative scans its going on for more. How a
-- batch goes on, reads anew what it met before, and ends, is this project's own rule.
use Rattle.std.specs.Prelude.{◌≡◌, ◌≤◌, ◌||◌, not, ℕ, ◌+◌, ⊤, if◌then◌else◌, Bool, true, false, List, [], ◌∷◌, ◌++◌, map, filter, flat_map, take, length, slice_get, Option, Some, None}
use Rattle.std.specs.Ordering.{is_lt, eq_by_cmp}
use Rattle.vec_names.specs.declared.tid.Tid.{Tid}
use Rattle.vec_names.specs.Order.{tid_cmp}
use Rattle.list_values.specs.Ranking.{ranked}
use Rattle.vec_names.specs.declared.heap_id.HeapId.{HeapId}
use Rattle.vec_names.specs.declared.params.Ops.{Ops}
use Rattle.bit_dist.specs.declared.dist.Dist.{Dist}
use Rattle.bit_dist.specs.Distances.{dist_cmp, distance_of}
use Rattle.vec_history.specs.declared.event.Act.{Act}
use Rattle.vec_graph.specs.declared.node.Node.{Node}
use Rattle.vec_graph.specs.declared.graph.Graph.{Graph}
use Rattle.vec_graph.specs.Graph.{node_at}
use Rattle.vec_graph.specs.Effect.{state_after}
use Rattle.neighbour_pick.specs.declared.found.Found.{Found}
use Rattle.graph_search.specs.Reads.{Look, AtNode, Answer}
use Rattle.graph_search.specs.Search.{Turn, elements_of, named_in, is_before, Start, Bounds, is_among, place_of, element_of, known, named, open_in, found_in, in_order, is_live, is_done, is_most, is_halted, IsCourse, course_reads, only_ef}
use Rattle.graph_search.specs.Descent.{Descent, start_at}

-- a row that is answered: its id, the distance of its value, and which element gave it
pub record Given : Type 0 where
  pub id : HeapId
  pub dist : Dist
  pub at : Tid
  pub version : ℕ

-- the rows of an element, in their order
abbrev pub rows_of : Found → List Given
rows_of e = map (λ id. record { id = id; dist = e.dist; at = e.at; version = e.version }) e.ids.items

-- where a scan stands between two batches
pub record Standing : Type 0 where
  pub start : Start
  pub turns : List Turn
  pub taken : List Tid
  pub last : Option Dist

abbrev pub is_nothing : {X : Type 0} → List X → Bool
is_nothing [] = true
is_nothing (x ∷ xs) = false

abbrev pub last_dist : Option Dist → List Given → Option Dist
last_dist last [] = last
last_dist last (g ∷ given) = last_dist (Some g.dist) given

-- ---- the first batch

-- The lowest layer is searched from where the descent leads.
pub record SearchedBelow (ops : Ops) (query : List Bool) (ef : ℕ) (from : List Found) (reads : List (Look × Answer))
    (given : List Given) (now : Standing) : Type 0 where
  pub turns : List Turn
  pub course : IsCourse (start_at ops query from 0) (only_ef ef) [] turns
  pub halted : is_halted (start_at ops query from 0) (only_ef ef) turns ≡ true
  pub reads_are : reads ≡ course_reads 0 turns
  pub given_are : given ≡ flat_map rows_of (take ef (found_in (start_at ops query from 0) (only_ef ef) turns))
  pub now_is : now ≡ record {
    start = start_at ops query from 0;
    turns = turns;
    taken = map place_of (take ef (found_in (start_at ops query from 0) (only_ef ef) turns));
    last = last_dist None given;
  }

abbrev pub below : Ops → List Bool → ℕ → Option ℕ → List Found → List (Look × Answer) → List Given → Standing → Type 0
below ops query ef None from reads given now =
    (reads ≡ []) × (given ≡ []) × (now ≡ record { start = start_at ops query [] 0; turns = []; taken = []; last = None })
below ops query ef (Some top) from reads given now = SearchedBelow ops query ef from reads given now

-- The first batch: the descent to the lowest layer, and the search there. It gives each element's rows in their order.
-- Without an entry point, or where that is gone, it gives none.
pub record FirstBatch (ops : Ops) (query : List Bool) (ef : ℕ) (reads : List (Look × Answer)) (given : List Given) (end : Bool)
    (now : Standing) : Type 0 where
  pub down : List (Look × Answer)
  pub top : Option ℕ
  pub from : List Found
  pub descent : Descent ops query 0 down top from
  pub on : List (Look × Answer)
  pub searched : below ops query ef top from on given now
  pub reads_are : reads ≡ down ++ on
  pub end_is : end ≡ is_nothing given

-- ---- the next batch

abbrev pub is_known_at : List Found → Tid → Bool
is_known_at es at = is_among (map place_of es) at

-- The rows of one element that is taken, and then those of others. One that an earlier batch knew is read again, with
-- its version: where it is gone it gives none, and where it has no row any more neither; else its rows and distance are
-- those now read.
abbrev pub TakesOne : Bool → Ops → List Bool → Found → (List (Look × Answer) → List Given → Type 0) → List (Look × Answer)
    → List Given → Type 0
TakesOne true ops query e Others reads given =
    (told : Answer) × (rest : List (Look × Answer)) × (others : List Given) × (reads ≡ (AtNode e.at 0 (Some e.version), told) ∷ rest)
    × (given ≡ flat_map rows_of (element_of ops query e.at told) ++ others) × Others rest others
TakesOne false ops query e Others reads given = (others : List Given) × (given ≡ rows_of e ++ others) × Others reads others

-- the rows of the elements that are taken, in the order in which they were found; `earlier` are those that earlier batches knew
abbrev pub TakesIn : Ops → List Bool → List Found → List Found → List (Look × Answer) → List Given → Type 0
TakesIn ops query earlier [] reads given = (reads ≡ []) × (given ≡ [])
TakesIn ops query earlier (e ∷ es) reads given =
    TakesOne (is_known_at earlier e.at) ops query e (λ rest others. TakesIn ops query earlier es rest others) reads given

-- how a scan goes on: not at all; with each row that is found; with none that is nearer than the last one given
pub data Mode : Type 0 where
  Off : Mode
  Relaxed : Mode
  Strict : Mode

abbrev pub is_less : Dist → Option Dist → Bool
is_less d None = false
is_less d (Some last) = is_lt (dist_cmp d last)

-- without each row that is nearer than the last one given before it
abbrev pub without_nearer : Option Dist → List Given → List Given
without_nearer last [] = []
without_nearer last (g ∷ given) = if is_less g.dist last then without_nearer last given else g ∷ without_nearer (Some g.dist) given

-- the mode has next batches
abbrev pub GoesOn : Mode → Type 0
GoesOn Off = ⊥
GoesOn Relaxed = ⊤
GoesOn Strict = ⊤

abbrev pub let_through : Mode → Option Dist → List Given → List Given
let_through Off last given = []
let_through Relaxed last given = given
let_through Strict last given = without_nearer last given

-- A next batch: the search of the lowest layer goes on, without the elements that were taken before, and makes no
-- expansion once `most` are known. The first ef found are taken. Their looks come after those of the search, in the
-- order in which they were found. In mode Off there is none.
pub record NextBatch (ef most : ℕ) (mode : Mode) (old : Standing) (reads : List (Look × Answer)) (given : List Given) (end : Bool)
    (now : Standing) : Type 0 where
  pub goes_on : GoesOn mode
  pub more : List Turn
  pub bounds : Bounds
  pub bounds_are : bounds ≡ record { ef = ef; taken = old.taken; most = Some most }
  pub course : IsCourse old.start bounds old.turns more
  pub halted : is_halted old.start bounds (old.turns ++ more) ≡ true
  pub batch : List Found
  pub batch_is : batch ≡ take ef (found_in old.start bounds (old.turns ++ more))
  pub again : List (Look × Answer)
  pub rows : List Given
  pub takes : TakesIn old.start.ops old.start.query (known old.start old.turns) batch again rows
  pub reads_are : reads ≡ course_reads 0 more ++ again
  pub given_are : given ≡ let_through mode old.last rows
  pub end_is : end ≡ is_nothing batch
  pub now_is : now ≡ record {
    start = old.start;
    turns = old.turns ++ more;
    taken = old.taken ++ map place_of batch;
    last = last_dist old.last given;
  }

-- ---- what a search that goes on holds

-- what code can hold of a course: which places have been named, the elements that are not expanded and those that were found and not
-- taken, both in order, the latter with whether an earlier batch knew them, and how many elements are known
pub record Held : Type 0 where
  pub is_named : Tid → Bool
  pub unexpanded : List Found
  pub found : List (Found × Bool)
  pub count : ℕ

-- The search holds this after these turns, where these places were taken, and earlier batches knew those elements.
pub record HoldsAfter (s : Start) (turns : List Turn) (taken : List Tid) (earlier : List Found) (h : Held) : Type 0 where
  pub names : (at : Tid) → h.is_named at ≡ is_among (named s turns) at
  pub unexpanded_are : h.unexpanded ≡ open_in s turns
  pub found_are : h.found ≡ map (λ e. (e, is_known_at earlier e.at)) (found_in s (record { ef = 1; taken = taken; most = None }) turns)
  pub count_is : h.count ≡ length (known s turns)

-- what it holds where it begins
abbrev pub begins_with : Start → Held
begins_with s = record {
  is_named = is_among (map place_of s.from);
  unexpanded = in_order s.from;
  found = map (λ e. (e, false)) (in_order (filter is_live s.from));
  count = length s.from;
}

-- whether a search that holds this is over
abbrev pub is_over : ℕ → Option ℕ → Held → Bool
is_over ef most h = is_done ef (map (λ p. p.0) h.found) h.unexpanded || is_most most h.count

-- what it holds once a batch has taken the first ef of those found: these are found no more, and all that is known was known earlier
abbrev pub after_batch : ℕ → Held → Held
after_batch ef h = record {
  is_named = h.is_named;
  unexpanded = h.unexpanded;
  found = map (λ p. (p.0, true)) (filter (λ p. not (is_among (map (λ q. place_of q.0) (take ef h.found)) p.0.at)) h.found);
  count = h.count;
}

-- the places of the elements that a search knows, has expanded or taken, or knew at an earlier batch, are among those that were named
pub record AreNamed (s : Start) (turns : List Turn) (taken : List Tid) (earlier : List Found) : Type 0 where
  pub known_are : (at : Tid) → is_known_at (known s turns) at ≡ true → is_among (named s turns) at ≡ true
  pub expanded_are : (at : Tid) → is_among (map (λ t. t.element.at) turns) at ≡ true → is_among (named s turns) at ≡ true
  pub taken_are : (at : Tid) → is_among taken at ≡ true → is_among (named s turns) at ≡ true
  pub earlier_are : (at : Tid) → is_known_at earlier at ≡ true → is_among (named s turns) at ≡ true

-- What it holds after one turn more: the turn's element waits no more, the elements that its looks told do, and of these the live
-- ones are found, none of which an earlier batch knew.
abbrev pub after_turn : Start → Turn → Held → Held
after_turn s t h = record {
  is_named = λ at. h.is_named at || is_among (named_in t.list) at;
  unexpanded = in_order (filter (λ e. not (eq_by_cmp tid_cmp e.at t.element.at)) h.unexpanded ++ elements_of s.ops s.query t.nodes);
  found = ranked (λ p q. is_before p.0 q.0) (h.found ++ map (λ e. (e, false)) (filter is_live (elements_of s.ops s.query t.nodes)));
  count = h.count + length (elements_of s.ops s.query t.nodes);
}

-- A search goes on from what it holds: so many turns more, up to where it halts, with their reads. Whatever course it is after.
pub record GoesOnTo (s : Start) (ef : ℕ) (most : Option ℕ) (turns : List Turn) (taken : List Tid) (reads : List (Look × Answer))
    (more : List Turn) : Type 0 where
  pub course : IsCourse s (record { ef = ef; taken = taken; most = most }) turns more
  pub halted : is_halted s (record { ef = ef; taken = taken; most = most }) (turns ++ more) ≡ true
  pub reads_are : reads ≡ course_reads s.layer more

-- ---- where rows come from

-- one of these reads told the element
pub record IsTold (ops : Ops) (query : List Bool) (reads : List (Look × Answer)) (e : Found) : Type 0 where
  pub number : ℕ
  pub at : Tid
  pub layer : ℕ
  pub version : Option ℕ
  pub told : Answer
  pub among : slice_get reads number ≡ Some (AtNode at layer version, told)
  pub is : element_of ops query at told ≡ e ∷ []

-- the row is one of an element that one of these reads told
pub record IsRowRead (ops : Ops) (query : List Bool) (reads : List (Look × Answer)) (g : Given) : Type 0 where
  pub element : Found
  pub told : IsTold ops query reads element
  pub number : ℕ
  pub of_element : slice_get (rows_of element) number ≡ Some g

-- At a position of the history a node stands at the element's place that is not deleted, with its version, rows and value; and its
-- distance is that of the value.
pub record IsPresent (base : Graph) (acts : List Act) (ops : Ops) (query : List Bool) (e : Found) : Type 0 where
  pub position : ℕ
  pub reached : position ≤ length acts
  pub node : Node
  pub stands : node_at (state_after base acts position) e.at ≡ Some node
  pub not_deleted : node.deleted ≡ false
  pub of_version : node.version ≡ e.version
  pub of_ids : node.ids ≡ e.ids.items
  pub of_bits : node.bits ≡ e.bits
  pub exact : e.dist ≡ distance_of ops query node.bits
