-- What the laws of an insert's rules speak of: tries of a neighbour, and the deeds that move the entry point and the hint.
use Rattle.std.specs.Prelude.{◌≡◌, ℕ, suc, ◌<◌, ◌≤◌, Bool, true, false, List, [], ◌∷◌, ◌++◌, filter, Option, Some, None}
use Rattle.vec_names.specs.declared.tid.Tid.{Tid}
use Rattle.vec_names.specs.declared.heap_id.HeapId.{HeapId}
use Rattle.vec_names.specs.declared.params.Params.{Params}
use Rattle.vec_names.specs.Levels.{level_of}
use Rattle.vec_graph.specs.declared.place.Place.{Place}
use Rattle.neighbour_pick.specs.declared.found.Found.{Found}
use Rattle.graph_search.specs.Reads.{Look, Answer, Gone}
use Rattle.graph_search.specs.Deeds.{Enters, Hints, Reply, Done, Stale, Changed, Deed, looked, asked, looks_of}
use Rattle.graph_search.specs.Insert.{Lists, InsertLists, Target, LinksBack, ListLooked, list_look, newcomer}

-- ---- tries of a neighbour

-- the number of changes that deeds ask for
abbrev pub changes_asked : List Deed → ℕ
changes_asked [] = 0
changes_asked (looked look told ∷ deeds) = changes_asked deeds
changes_asked (asked change reply ∷ deeds) = suc (changes_asked deeds)

-- the word of the last of some deeds, where a word came before them; a look has none
abbrev pub word_after : Option Reply → List Deed → Option Reply
word_after word [] = word
word_after word (looked look told ∷ deeds) = word_after None deeds
word_after word (asked change reply ∷ deeds) = word_after (Some reply) deeds

abbrev pub last_word : List Deed → Option Reply
last_word deeds = word_after None deeds

-- How the deeds for one neighbour end: it names the newcomer; it is not as it was read; its list is gone; no slot of it is for the
-- newcomer; or its slot was changed meanwhile.
pub data HowItEnds (t : Target) (e : Found) (layer : ℕ) (deeds : List Deed) : Type 0 where
  is_linked : last_word deeds ≡ Some Done → HowItEnds t e layer deeds
  is_stale : last_word deeds ≡ Some Stale → HowItEnds t e layer deeds
  is_gone : (before : List Deed) → deeds ≡ before ++ looked (list_look e layer) Gone ∷ [] → HowItEnds t e layer deeds
  is_without : (before last : List Deed) (slots : List (Option Tid)) → deeds ≡ before ++ last → ListLooked t e layer last slots None
      → HowItEnds t e layer deeds
  is_changed : last_word deeds ≡ Some Changed → HowItEnds t e layer deeds

-- The first neighbour's list is looked at, and it is asked at most three times; where the last word was that its slot was changed
-- meanwhile, it was asked three times. Then come the others.
pub record TriedThrice (t : Target) (layer : ℕ) (e : Found) (picks : List (ℕ × Found)) (deeds : List Deed) : Type 0 where
  pub tries : List Deed
  pub rest : List Deed
  pub deeds_are : deeds ≡ tries ++ rest
  pub told : Answer
  pub later : List Deed
  pub looks_first : tries ≡ looked (list_look e layer) told ∷ later
  pub few : changes_asked tries ≤ 3
  pub not_sooner : last_word tries ≡ Some Changed → changes_asked tries ≡ 3
  pub ends : HowItEnds t e layer tries
  pub others : LinksBack t picks rest

-- ---- the entry point and the hint

abbrev pub is_entering : Deed → Bool
is_entering (asked (Enters to level) reply) = true
is_entering _ = false

abbrev pub is_hinting : Deed → Bool
is_hinting (asked (Hints block) reply) = true
is_hinting _ = false

-- the deeds that ask for another entry point, and those that ask for another hint
abbrev pub enterings : List Deed → List Deed
enterings deeds = filter is_entering deeds

abbrev pub hintings : List Deed → List Deed
hintings deeds = filter is_hinting deeds

-- A new node becomes the entry point where the course's look told of none that stands, or of one whose level is below the node's; where
-- the node's level is not above, it never does. `top` is the entry point's level.
pub record EntersWhereAbove (params : Params) (id : HeapId) (bits : List Bool) (word : ℕ) (place : Place) (deeds : List Deed)
    : Type 0 where
  pub before : List Deed
  pub reads : List (Look × Answer)
  pub later : List Deed
  pub deeds_are : deeds ≡ before ++ (looks_of reads ++ later)
  pub top : Option ℕ
  pub lists : Lists
  pub found : InsertLists (newcomer params bits word) reads top lists
  pub as_first : top ≡ None → enterings deeds ≡ asked (Enters place.at (level_of word params.m)) Done ∷ []
  pub above : (level : ℕ) → top ≡ Some level → level < level_of word params.m
      → enterings deeds ≡ asked (Enters place.at (level_of word params.m)) Done ∷ []
  pub not_above : (level : ℕ) → top ≡ Some level → level_of word params.m ≤ level → enterings deeds ≡ []
