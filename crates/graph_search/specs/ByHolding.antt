-- The batches of a scan by what code can hold: a turn, a course, the first batch and a next one are each told from what the search
-- holds before it, without the turns that led there.
use Rattle.std.specs.Prelude.{◌≡◌, ◌||◌, ℕ, ⊤, if◌then◌else◌, Bool, true, false, List, [], ◌∷◌, ◌++◌, map, flat_map, take, Option, Some, None}
use Rattle.vec_names.specs.declared.tid.Tid.{Tid}
use Rattle.vec_names.specs.declared.params.Ops.{Ops}
use Rattle.neighbour_pick.specs.declared.found.Found.{Found}
use Rattle.graph_search.specs.Reads.{Look, Answer}
use Rattle.graph_search.specs.Search.{Start, Turn, is_among, place_of, known, named_in, course_reads}
use Rattle.graph_search.specs.Descent.{Descent, start_at}
use Rattle.graph_search.specs.Scan.{Given, Standing, Mode, GoesOn, Held, HoldsAfter, AreNamed, begins_with, is_over, after_turn, rows_of, is_nothing, last_dist, let_through, TakesOne}

-- ---- turns

-- the places that a set of names has not, each at its first mention
abbrev pub unnamed : (Tid → Bool) → List Tid → List Tid
unnamed is_named [] = []
unnamed is_named (at ∷ places) =
    if is_named at then unnamed is_named places else at ∷ unnamed (λ other. is_named other || is_among (at ∷ []) other) places

-- The turn may come where a search holds this: it is not over, the turn's element is the least that waits, and just the places are looked
-- at that its list names for the first time, in the order of the slots.
pub record IsTurnOf (s : Start) (ef : ℕ) (most : Option ℕ) (h : Held) (t : Turn) : Type 0 where
  pub goes_on : is_over ef most h ≡ false
  pub rest : List Found
  pub least : h.unexpanded ≡ t.element ∷ rest
  pub looks : map (λ n. n.0) t.nodes ≡ unnamed h.is_named (named_in t.list)

-- what a search holds after these turns
abbrev pub after_turns : Start → List Turn → Held → Held
after_turns s [] h = h
after_turns s (t ∷ turns) h = after_turns s turns (after_turn s t h)

-- each of these turns may come where the search holds what it does after those before
abbrev pub AreTurnsOf : Start → ℕ → Option ℕ → Held → List Turn → Type 0
AreTurnsOf s ef most h [] = ⊤
AreTurnsOf s ef most h (t ∷ turns) = IsTurnOf s ef most h t × AreTurnsOf s ef most (after_turn s t h) turns

-- Two hold the same where the same places are named and all else is equal. A program's own set of places names the same as a set that is
-- told here, and is another one.
pub record HoldTheSame (g h : Held) : Type 0 where
  pub names : (at : Tid) → g.is_named at ≡ h.is_named at
  pub unexpanded_are : g.unexpanded ≡ h.unexpanded
  pub found_are : g.found ≡ h.found
  pub count_is : g.count ≡ h.count

-- ---- what a batch takes

-- the first ef of those found, each with whether an earlier batch knew it
abbrev pub batch_of : ℕ → Held → List (Found × Bool)
batch_of ef h = take ef h.found

abbrev pub elements_in : List (Found × Bool) → List Found
elements_in batch = map (λ p. p.0) batch

-- the rows of the elements that are taken, in their order: one that an earlier batch knew is read again
abbrev pub TakesOf : Ops → List Bool → List (Found × Bool) → List (Look × Answer) → List Given → Type 0
TakesOf ops query [] reads given = (reads ≡ []) × (given ≡ [])
TakesOf ops query (p ∷ batch) reads given = TakesOne p.1 ops query p.0 (λ rest others. TakesOf ops query batch rest others) reads given

-- ---- batches

-- Between two batches a scan that stands so holds this: all that it knows, an earlier batch knew.
pub record StandsHolding (stands : Standing) (h : Held) : Type 0 where
  pub holds : HoldsAfter stands.start stands.turns stands.taken (known stands.start stands.turns) h
  pub are_named : AreNamed stands.start stands.turns stands.taken (known stands.start stands.turns)

-- where a scan stands once a batch was taken after these turns more
abbrev pub stands_after : Standing → List Turn → List Found → List Given → Standing
stands_after old more batch given = record {
  start = old.start;
  turns = old.turns ++ more;
  taken = old.taken ++ map place_of batch;
  last = last_dist old.last given;
}

-- The first batch: the descent, and turns from what a search holds where it begins, up to where it is over. It gives the rows of the first
-- ef found, and ends the scan where there is none.
pub record FirstByHolding (ops : Ops) (query : List Bool) (ef : ℕ) (reads : List (Look × Answer)) (given : List Given) (end : Bool)
    (now : Standing) : Type 0 where
  pub down : List (Look × Answer)
  pub top : Option ℕ
  pub from : List Found
  pub descent : Descent ops query 0 down top from
  pub turns : List Turn
  pub turns_are : AreTurnsOf (start_at ops query from 0) ef None (begins_with (start_at ops query from 0)) turns
  pub held : Held
  pub held_is : HoldTheSame held (after_turns (start_at ops query from 0) turns (begins_with (start_at ops query from 0)))
  pub over : is_over ef None held ≡ true
  pub reads_are : reads ≡ down ++ course_reads 0 turns
  pub given_are : given ≡ flat_map rows_of (elements_in (batch_of ef held))
  pub end_is : end ≡ is_nothing given
  pub now_is : now ≡ stands_after (record { start = start_at ops query from 0; turns = []; taken = []; last = None }) turns
      (elements_in (batch_of ef held)) given

-- A next batch, where this is held: turns more, up to where the search is over, and the first ef found, of which those are read again that
-- an earlier batch knew. Of where the scan stood only its start and the last distance given count; its turns and what was taken are
-- named only to say where it stands now.
pub record NextByHolding (ef most : ℕ) (mode : Mode) (old : Standing) (h : Held) (reads : List (Look × Answer)) (given : List Given)
    (end : Bool) (now : Standing) : Type 0 where
  pub goes_on : GoesOn mode
  pub more : List Turn
  pub turns_are : AreTurnsOf old.start ef (Some most) h more
  pub held : Held
  pub held_is : HoldTheSame held (after_turns old.start more h)
  pub over : is_over ef (Some most) held ≡ true
  pub again : List (Look × Answer)
  pub rows : List Given
  pub takes : TakesOf old.start.ops old.start.query (batch_of ef held) again rows
  pub reads_are : reads ≡ course_reads 0 more ++ again
  pub given_are : given ≡ let_through mode old.last rows
  pub end_is : end ≡ is_nothing (batch_of ef held)
  pub now_is : now ≡ stands_after old more (elements_in (batch_of ef held)) given
