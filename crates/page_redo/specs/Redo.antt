-- What an event makes of the page of a block.
use Rattle.std.specs.Prelude.{◌≡◌, ℕ, ◌==◌, if◌then◌else◌, List, [], ◌∷◌, Option, Some, None, Result, Ok, Err}
use Rattle.std.specs.Option.{option_map, option_and_then}
use Rattle.vec_names.specs.declared.params.Params.{Params}
use Rattle.vec_history.specs.declared.event.Event.{Event}
use Rattle.vec_history.specs.declared.event.Event.TheVariants.{Put, Join, Link, Relist, Drop, Mark, Entry, Hint, IvfAdd, IvfGrow, IvfDrop, IvfHint}
use Rattle.page_bytes.specs.Content.{Content}
use Rattle.page_redo.specs.declared.fault.RedoFault.{RedoFault}
use Rattle.page_redo.specs.PageTuples.{head_changed, links_changed, meta_changed}
use Rattle.page_redo.specs.PageChanges.{PageChange, on_graph, joined, dropped, marked, linked, relisted, emptied, new_node, put_element, put_links, entered, hinted, on_meta, entry_added, grown, chained, entries_dropped, list_block, list_offset, aimed}

-- an event that touches one block
abbrev pub at_one : ℕ → PageChange → ℕ → PageChange
at_one a change block c = if a == block then change c else None

-- one that touches two; where both are this one, the first change goes first
abbrev pub at_two : ℕ → PageChange → ℕ → PageChange → ℕ → PageChange
at_two a first b second block c =
    if a == block then (if b == block then option_and_then second (first c) else first c) else at_one b second block c

-- The page of a block after an event, but for its number. There is none where the event does not touch the block, or the
-- page lacks what the event needs. A passing event touches no block.
abbrev pub changed : Event → Params → ℕ → ℕ → PageChange
changed (Put at list_at version level id bits lists) p wrap block c =
    let n = new_node at list_at version level id bits lists in
    at_two at.block (put_element p n) list_at.block (put_links p n) block c
changed (Join at version id) p wrap block c =
    at_one at.block (on_graph p (head_changed (joined version id) p at.off)) block c
changed (Link at list_at version slot to) p wrap block c =
    at_one list_at.block (on_graph p (links_changed (linked version slot to) p list_at.off)) block c
changed (Relist at list_at version lists) p wrap block c =
    at_one list_at.block (on_graph p (links_changed (relisted version lists) p list_at.off)) block c
changed (Drop at version gone) p wrap block c =
    at_one at.block (on_graph p (head_changed (dropped version gone) p at.off)) block c
changed (Mark at list_at version) p wrap block c =
    at_two at.block (on_graph p (head_changed (marked wrap version) p at.off))
    list_at.block (on_graph p (links_changed (emptied wrap version) p list_at.off)) block c
changed (Entry to level) p wrap block c = at_one 0 (on_meta (meta_changed (entered to level))) block c
changed (Hint hint) p wrap block c = at_one 0 (on_meta (meta_changed (hinted hint))) block c
changed (IvfAdd to id bits) p wrap block c = at_one to (entry_added p id bits) block c
changed (IvfGrow list last new id bits) p wrap block c = at_two new (grown p id bits) last (chained p new bits) block c
changed (IvfDrop of gone) p wrap block c = at_one of (entries_dropped p gone) block c
changed (IvfHint list aim) p wrap block c = at_one (list_block p list) (aimed p list aim) block c
changed _ p wrap block c = None

-- the same page, changed last by the event of a number
abbrev pub numbered : ℕ → Content → Content
numbered number c = record c { number = number }

abbrev pub redone : Event → Params → ℕ → ℕ → ℕ → PageChange
redone event p wrap number block c = option_map (numbered number) (changed event p wrap block c)

-- The page became what is given; where nothing is given it stayed.
abbrev pub Becomes : Option Content → Content → Content → Result (Unit {0}) RedoFault → Type 0
Becomes after old new (Ok done) = after ≡ Some new
Becomes after old new (Err fault) = (after ≡ None) × (new ≡ old)

-- ---- what an event names

-- the blocks that an event touches
abbrev pub touched : Event → Params → List ℕ
touched (Put at list_at version level id bits lists) p = at.block ∷ list_at.block ∷ []
touched (Join at version id) p = at.block ∷ []
touched (Link at list_at version slot to) p = list_at.block ∷ []
touched (Relist at list_at version lists) p = list_at.block ∷ []
touched (Drop at version gone) p = at.block ∷ []
touched (Mark at list_at version) p = at.block ∷ list_at.block ∷ []
touched (Entry to level) p = 0 ∷ []
touched (Hint hint) p = 0 ∷ []
touched (IvfAdd to id bits) p = to ∷ []
touched (IvfGrow list last new id bits) p = new ∷ last ∷ []
touched (IvfDrop of gone) p = of ∷ []
touched (IvfHint list aim) p = list_block p list ∷ []
touched _ p = []

-- the items that it puts or changes, each by its block and its offset
abbrev pub named : Event → Params → List (ℕ × ℕ)
named (Put at list_at version level id bits lists) p = (at.block, at.off) ∷ (list_at.block, list_at.off) ∷ []
named (Join at version id) p = (at.block, at.off) ∷ []
named (Link at list_at version slot to) p = (list_at.block, list_at.off) ∷ []
named (Relist at list_at version lists) p = (list_at.block, list_at.off) ∷ []
named (Drop at version gone) p = (at.block, at.off) ∷ []
named (Mark at list_at version) p = (at.block, at.off) ∷ (list_at.block, list_at.off) ∷ []
named (Entry to level) p = (0, 1) ∷ []
named (Hint hint) p = (0, 1) ∷ []
named (IvfHint list aim) p = (list_block p list, list_offset p list) ∷ []
named _ p = []

-- the event by which entries go, so that others close up
abbrev pub AreEntriesDropped : Event → Type 0
AreEntriesDropped (IvfDrop of gone) = Unit {0}
AreEntriesDropped _ = ⊥
