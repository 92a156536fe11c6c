-- What each event changes.
use Rattle.std.specs.Prelude.{ℕ, ◌+◌, ◌==◌, if◌then◌else◌, max, ⊤, List, [], ◌∷◌, ◌++◌, map, take, slice_get, slice_set, Option, Some, None}
use Rattle.std.specs.List.{list_any}
use Rattle.vec_history.specs.declared.event.Event.{Event}
use Rattle.vec_history.specs.declared.event.Event.TheVariants.{Put, Join, Link, Relist, Drop, Mark, Entry, Hint, IvfAdd, IvfGrow, IvfDrop, IvfHint, Gate, Ungate, Phase, VacuumEnd, Cancel, Settled, DiskFaulted}
use Rattle.vec_history.specs.declared.event.Act.{Act}
use Rattle.ivf_graph.specs.declared.list.IvfList.{IvfList}
use Rattle.ivf_graph.specs.declared.graph.IvfGraph.{IvfGraph}
use Rattle.ivf_graph.specs.Graph.{Row, Part}

-- ---- of one block

-- the rows with one more, which goes last
abbrev pub with_row : Row → List Row → List Row
with_row row rows = rows ++ row ∷ []

-- the rows whose offsets are not named, in order, where the first row has this offset
abbrev pub others : List ℕ → ℕ → List Row → List Row
others gone offset [] = []
others gone offset (r ∷ rows) =
    let rest = others gone (offset + 1) rows in if list_any (λ g. g == offset) gone then rest else r ∷ rest

abbrev pub changed_part : ℕ → (List Row → List Row) → Part → Part
changed_part block change p = if p.0 == block then (p.0, change p.1) else p

-- ---- of one list

abbrev pub with_rows : ℕ → (List Row → List Row) → IvfList → IvfList
with_rows block change l = record l { chain = map (changed_part block change) l.chain }

-- the list with a new block, which ends its chain and has one row
abbrev pub grown : ℕ → Row → IvfList → IvfList
grown block row l = record l { chain = l.chain ++ (block, row ∷ []) ∷ [] }

abbrev pub aimed : ℕ → IvfList → IvfList
aimed block l = record l { aim = block }

-- ---- of the index

-- the index with the rows of a block changed; where the block stands in no chain, as it is
abbrev pub changed_on : IvfGraph → ℕ → (List Row → List Row) → IvfGraph
changed_on g block change = record g { lists = map (with_rows block change) g.lists }

-- the lists with that of a number changed; where there is none, as they are
abbrev pub changed_from : List IvfList → ℕ → (IvfList → IvfList) → Option IvfList → List IvfList
changed_from lists list change None = lists
changed_from lists list change (Some l) = slice_set lists list (change l)

abbrev pub changed : List IvfList → ℕ → (IvfList → IvfList) → List IvfList
changed lists list change = changed_from lists list change (slice_get lists list)

-- The index after an event. A passing event leaves it as it is, and so does an event of a graph of nodes.
abbrev pub effect : Event → IvfGraph → IvfGraph
effect (Put at list_at version level id bits lists) g = g
effect (Join at version id) g = g
effect (Link at list_at version slot to) g = g
effect (Relist at list_at version lists) g = g
effect (Drop at version gone) g = g
effect (Mark at list_at version) g = g
effect (Entry to level) g = g
effect (Hint block) g = g
effect (IvfAdd block id bits) g = changed_on g block (with_row (id, bits))
effect (IvfGrow list last block id bits) g =
    record g { lists = changed g.lists list (grown block (id, bits)); blocks = max g.blocks (block + 1) }
effect (IvfDrop block gone) g = changed_on g block (others gone 1)
effect (IvfHint list block) g = record g { lists = changed g.lists list (aimed block) }
effect (Gate gate hold) g = g
effect (Ungate gate) g = g
effect (Phase stage) g = g
effect VacuumEnd g = g
effect (Cancel stage) g = g
effect (Settled upto) g = g
effect (DiskFaulted count) g = g

-- the events that change which rows the lists have
abbrev pub AreRowsChanged : Event → Type 0
AreRowsChanged (IvfAdd block id bits) = ⊤
AreRowsChanged (IvfGrow list last block id bits) = ⊤
AreRowsChanged (IvfDrop block gone) = ⊤
AreRowsChanged _ = ⊥

-- ---- of a history

-- the index after these acts
abbrev pub after : IvfGraph → List Act → IvfGraph
after g [] = g
after g (a ∷ acts) = after (effect a.event g) acts

-- the index after the first n acts
abbrev pub state_after : IvfGraph → List Act → ℕ → IvfGraph
state_after base acts n = after base (take n acts)

-- what the event makes of the rows of its block
abbrev pub row_change : Event → List Row → List Row
row_change (IvfAdd block id bits) rows = with_row (id, bits) rows
row_change (IvfDrop block gone) rows = others gone 1 rows
row_change _ rows = rows
