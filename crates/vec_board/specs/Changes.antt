-- Changes of pages that a desk asks for: what a set of pages needs for one, and what becomes of the ask.
use Rattle.std.specs.Prelude.{◌≡◌, ◌⊎◌, ℕ, ◌==◌, if◌then◌else◌, List, [], ◌∷◌, Some}
use Rattle.vec_names.specs.declared.tid.Tid.{Tid}
use Rattle.vec_names.specs.declared.params.Params.{Params}
use Rattle.vec_history.specs.declared.event.Event.{Event}
use Rattle.vec_history.specs.declared.event.Event.TheVariants as event
use Rattle.page_bytes.specs.Content.{Content}
use Rattle.page_redo.specs.Redo.{touched}
use Rattle.page_sets.specs.Sets.{PageMap, IsPartOf, HasPages}
use Rattle.page_words.specs.declared.making.Making.{Making}
use Rattle.page_words.specs.declared.making.Making.TheVariants as making
use Rattle.page_words.specs.Deciding.{asked_of, IsOfNodes, IsOfLists}
use Rattle.vec_steps.specs.declared.ask.Ask.{Ask}
use Rattle.vec_steps.specs.declared.ask.Ask.TheVariants as ask
use Rattle.vec_steps.specs.declared.ask.NewNode.{NewNode}
use Rattle.vec_steps.specs.declared.told.Told.{Told}
use Rattle.vec_steps.specs.Index.{Index}
use Rattle.vec_steps.specs.Doing.{Step, Ended, Says, step_events}
use Rattle.vec_steps.specs.Telling.{step_of}
use Rattle.index_pages.specs.Standing.{index_after}
use Rattle.vec_board.specs.declared.board_core.Core.{Core}
use Rattle.vec_board.specs.declared.events.Rest.{Rest}
use Rattle.vec_board.specs.declared.events.Rest.TheVariants as rest
use Rattle.vec_board.specs.Standing.{StandsOn, acts_of}

-- a change of a graph's pages, or of lists'
abbrev pub IsChange : Ask → Type 0
IsChange asked = IsOfNodes asked ⊎ IsOfLists asked

-- An index as it is says to the ask that it is done, and this event comes of it.
pub record Makes (p : Params) (index : Index) (asked : Ask) (e : Event) : Type 0 where
  pub told : Told
  pub step : Step
  pub is : step_of asked told Ended ≡ Some step
  pub says : Says p index [] 0 step
  pub makes : step_events p step ≡ e ∷ []

-- Of all pages of an index the set has some: those that tell whether the change can be made, and those that its event touches.
pub record HoldsFor (p : Params) (set : PageMap) (all : List Content) (index : Index) (asked : Ask) : Type 0 where
  pub part : IsPartOf set all
  pub asked_are : HasPages set all (asked_of asked)
  pub touched_are : (e : Event) → Makes p index asked e → HasPages set all (touched e p)

-- The core stands on this base with some list of all pages, and the set has those that the change needs.
pub record StandsWithin (core : Core) (set : PageMap) (asked : Ask) (base : Index) : Type 0 where
  pub all : List Content
  pub stands : StandsOn core all base
  pub holds : HoldsFor core.params set all (index_after base (acts_of core)) asked

-- ---- helper words of the functions

-- how many new blocks the event has at most that comes of an ask
abbrev pub grown_of : Ask → Making → ℕ
grown_of (ask.PutNew node) (making.At place) = if place.at.block == place.list_at.block then 1 else 2
grown_of (ask.Extend list last id bits) m = 1
grown_of _ m = 0

-- what an ask says beside its event
abbrev pub rest_of : Ask → Rest
rest_of (ask.Put block node) = rest.Block block
rest_of (ask.Link at list_at level version layer slot held to) = rest.Slot level layer slot held
rest_of _ = rest.Nothing

-- a new node is put on a block that was asked for, or on new ones
abbrev pub put_back : NewNode → Rest → Ask
put_back node (rest.Block block) = ask.Put block node
put_back node _ = ask.PutNew node

abbrev pub link_back : Tid → Tid → ℕ → Tid → Rest → Ask
link_back at list_at version to (rest.Slot level layer slot held) = ask.Link at list_at level version layer slot held to
link_back at list_at version to _ = ask.Spent

-- the ask of which the event came, beside which it says this
abbrev pub given_back : Event → Rest → Ask
given_back (event.Put at list_at version level id bits lists) b =
    put_back (record { level = level; id = id; bits = bits; lists = lists }) b
given_back (event.Join at version id) b = ask.Join at version id
given_back (event.Link at list_at version slot to) b = link_back at list_at version to b
given_back (event.Relist at list_at version lists) b = ask.Relist at list_at version lists
given_back (event.Drop at version gone) b = ask.Drop at version gone
given_back (event.Mark at list_at version) b = ask.Mark at list_at version
given_back (event.Entry to level) b = ask.Entry to level
given_back (event.Hint block) b = ask.Hint block
given_back (event.IvfAdd block id bits) b = ask.Add block id bits
given_back (event.IvfGrow list last block id bits) b = ask.Extend list last id bits
given_back (event.IvfDrop block gone) b = ask.Cut block gone
given_back (event.IvfHint list block) b = ask.Aim list block
given_back _ b = ask.Spent
