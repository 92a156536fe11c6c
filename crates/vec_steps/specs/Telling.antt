-- What an ask and what it was told come to: a step, or nothing where nothing was asked of the index.
use Rattle.std.specs.Prelude.{ℕ, List, [], ◌∷◌, map, Option, Some, None}
use Rattle.vec_names.specs.declared.tid.Tid.{Tid}
use Rattle.vec_history.specs.declared.event.Event.{Event}
use Rattle.vec_graph.specs.declared.place.Place.{Place}
use Rattle.graph_search.specs.Reads.{AtMeta, AtNode, AtList, AtPage, Answer, Gone, OfMeta, OfNode, OfList, OfPage}
use Rattle.graph_search.specs.Reads as read
use Rattle.graph_search.specs.Deeds.{looked, asked, Joins, PutsOn, PutsNew, Links, Enters, Hints, Takes, Releases, Reply}
use Rattle.graph_search.specs.Deeds as deed
use Rattle.ivf_graph.specs.Looks as list
use Rattle.ivf_graph.specs.Looks.Look.{AtCentres, AtRows}
use Rattle.ivf_graph.specs.Looks.Answer.{OfCentres, OfRows}
use Rattle.vec_steps.specs.declared.ask.NewNode.{NewNode}
use Rattle.vec_steps.specs.declared.ask.Ask.{Ask}
use Rattle.vec_steps.specs.declared.ask.Ask.TheVariants as ask
use Rattle.vec_steps.specs.declared.seen.Seen.{Seen}
use Rattle.vec_steps.specs.declared.seen.RowSeen.{RowSeen}
use Rattle.vec_steps.specs.declared.seen.Centre.{Centre}
use Rattle.vec_steps.specs.declared.told.Word.{Word}
use Rattle.vec_steps.specs.declared.told.Word.TheVariants as word
use Rattle.vec_steps.specs.declared.told.Told.{Told}
use Rattle.vec_steps.specs.declared.fault.StepFault.{StepFault}
use Rattle.vec_steps.specs.declared.fault.StepFault.TheVariants as fault
use Rattle.vec_steps.specs.Doing.{Step, did, overfull, cleaned, viewed, placed, faulted}
use Rattle.vec_steps.specs.Doing.{Cleaned, Relists, Drops, Marks, Empties, Begins, Ends, Cleared, Left, Outdated}
use Rattle.vec_steps.specs.Doing.{Placed, Adds, Extends, Cuts, Aims, Came, CameAt, HasNoRoom, GoesOn, NoBlockLeft}

-- Each ask's step is whole whatever the word is, since a desk may stand on no base, and then nothing is known of the word: one that
-- does not belong to the ask counts as the ask's last.

-- ---- looks

abbrev pub node_told : Word → Option Tid → Told → Answer
node_told word.Node (Some list_at) t = OfNode t.level t.version list_at t.ids.items t.bits
node_told _ _ t = Gone

abbrev pub list_told : Word → Told → Answer
list_told word.List t = OfList t.tids
list_told _ t = Gone

-- a node of a page, as the looks of a search speak of it
abbrev pub seen_told : Seen → read.Seen
seen_told s = record { at = s.at; level = s.level; version = s.version; deleted = s.deleted; ids = s.ids.items }

abbrev pub centre_told : Centre → list.Centre
centre_told c = record { list = c.list; bits = c.bits; aim = c.aim; first = Some c.first }

abbrev pub row_told : RowSeen → list.RowSeen
row_told r = record { offset = r.off; id = r.id; bits = r.bits }

-- ---- changes

-- the place that a new node got, if it got one
abbrev pub place_told : Word → Option Tid → Option Tid → ℕ → Option Place
place_told word.Done (Some at) (Some list_at) version = Some (record { at = at; list_at = list_at; version = version })
place_told _ _ _ version = None

abbrev pub put_told : deed.NewNode → ℕ → Option Place → Step
put_told node block (Some place) = did (asked (PutsOn block node) (deed.Placed place))
put_told node block None = did (asked (PutsOn block node) deed.NoRoom)

abbrev pub put_new_told : deed.NewNode → Told → Option Place → Step
put_new_told node t (Some place) = did (asked (PutsNew node) (deed.Placed place))
put_new_told node t None = overfull node t.blocks t.need

abbrev pub node_of : NewNode → deed.NewNode
node_of n = record { level = n.level; id = n.id; bits = n.bits; slots = n.lists }

abbrev pub join_told : Word → Reply
join_told word.Done = deed.Done
join_told word.NotJoined = deed.NotJoined
join_told _ = deed.Stale

abbrev pub link_told : Word → Reply
link_told word.Done = deed.Done
link_told word.Changed = deed.Changed
link_told _ = deed.Stale

abbrev pub clear_told : Word → Cleaned
clear_told word.Done = Cleared
clear_told _ = Outdated

abbrev pub drop_told : Word → ℕ → Cleaned
drop_told word.Done left = Left left
drop_told _ left = Outdated

abbrev pub entry_told : Option Tid → ℕ → Step
entry_told (Some to) level = did (asked (Enters to level) deed.Done)
entry_told None level = cleaned (Empties level) Cleared

abbrev pub add_told : Word → Option ℕ → Placed
add_told word.Done next = Came
add_told _ next = HasNoRoom next

abbrev pub extend_told : Word → Option Tid → Option ℕ → Placed
extend_told word.Done (Some at) next = CameAt at
extend_told word.Changed at (Some next) = GoesOn next
extend_told _ _ _ = NoBlockLeft

-- ---- all asks

-- The step of an ask and what it told. How a vacuum ended is in no field that is told, and so is given beside them.
abbrev pub step_of : Ask → Told → Cleaned → Option Step
step_of ask.Spent t ending = None
step_of (ask.Reserve events) t ending = None
step_of ask.Meta t ending = Some (did (looked AtMeta (OfMeta t.tid t.level t.hint t.blocks)))
step_of (ask.Node at layer version) t ending = Some (did (looked (AtNode at layer version) (node_told t.word t.list_at t)))
step_of (ask.List at list_at level version layer) t ending =
    Some (did (looked (AtList at list_at level version layer) (list_told t.word t)))
step_of (ask.Page block) t ending = Some (did (looked (AtPage block) (OfPage (map seen_told t.nodes))))
step_of (ask.Put block node) t ending = Some (put_told (node_of node) block (place_told t.word t.tid t.list_at t.version))
step_of (ask.PutNew node) t ending = Some (put_new_told (node_of node) t (place_told t.word t.tid t.list_at t.version))
step_of (ask.Join at version id) t ending = Some (did (asked (Joins at version id) (join_told t.word)))
step_of (ask.Link at list_at level version layer slot held to) t ending =
    Some (did (asked (Links at list_at level version layer slot held to) (link_told t.word)))
step_of (ask.Relist at list_at version lists) t ending = Some (cleaned (Relists at list_at version lists) (clear_told t.word))
step_of (ask.Drop at version gone) t ending = Some (cleaned (Drops at version gone) (drop_told t.word t.left))
step_of (ask.Mark at list_at version) t ending = Some (cleaned (Marks at list_at version) (clear_told t.word))
step_of (ask.Entry to level) t ending = Some (entry_told to level)
step_of (ask.Hint block) t ending = Some (did (asked (Hints block) deed.Done))
step_of (ask.Take gate hold) t ending = Some (did (asked (Takes gate hold) deed.Done))
step_of (ask.Release gate) t ending = Some (did (asked (Releases gate) deed.Done))
step_of (ask.Phase stage) t ending = Some (cleaned (Begins stage) Cleared)
step_of ask.EndVacuum t ending = Some (cleaned Ends ending)
step_of (ask.Centres block) t ending = Some (viewed (AtCentres block) (Some (OfCentres (map centre_told t.centres))))
step_of (ask.Rows block) t ending = Some (viewed (AtRows block) (Some (OfRows (map row_told t.rows) t.next)))
step_of (ask.Add block id bits) t ending = Some (placed (Adds block id bits) (add_told t.word t.next))
step_of (ask.Extend list last id bits) t ending = Some (placed (Extends list last id bits) (extend_told t.word t.tid t.next))
step_of (ask.Cut block gone) t ending = Some (placed (Cuts block gone) Came)
step_of (ask.Aim list block) t ending = Some (placed (Aims list block) Came)

-- a fault of the disks is counted by an act; the others leave none
abbrev pub fault_step : StepFault → Option Step
fault_step fault.Memory = None
fault_step (fault.LogFull used size) = None
fault_step (fault.Disk count) = Some (faulted count)

-- what is left of an ask: nothing, where an event was made
abbrev pub left_of : Ask → List Event → Ask
left_of a [] = a
left_of a (e ∷ es) = ask.Spent
