-- The links back to a new node: what the parts of it do, and over which bases.
use Rattle.std.specs.Prelude.{◌≡◌, ◌<◌, ⊤, ℕ, Bool, false, List, [], ◌∷◌, ◌++◌, length, Option, Some, None, IfSome}
use Rattle.std.specs.List.{AllByRecursion}
use Rattle.vec_names.specs.declared.tid.Tid.{Tid}
use Rattle.vec_names.specs.declared.params.Ops.{Ops}
use Rattle.bit_dist.specs.Distances.{distance_of}
use Rattle.vec_history.specs.declared.event.Act.{Act}
use Rattle.vec_history.specs.declared.gate.Gate.TheVariants.{Update}
use Rattle.vec_history.specs.Gates.{Holds}
use Rattle.vec_graph.specs.declared.graph.Graph.{Graph}
use Rattle.vec_graph.specs.Knowing.{Knows}
use Rattle.neighbour_pick.specs.declared.found.Found.{Found}
use Rattle.neighbour_pick.specs.declared.found.SlotSeen.{SlotSeen}
use Rattle.graph_search.specs.Reads.{Look, Answer, Gone}
use Rattle.graph_search.specs.Deeds.{Deed, Reply, looked, asked, Links, Done, Stale, Changed, links_made, looks_of}
use Rattle.graph_search.specs.Search.{has_some}
use Rattle.graph_search.specs.Insert.{AreSlots, IsSlot, LinksBack, ListLooked, Target, Tries, link_to, list_look, most_in}
use Rattle.search_sets.specs.Standing.{spot_of}
use Rattle.vec_steps.specs.declared.ask.Ask.TheVariants as ask
use Rattle.vec_steps.specs.declared.fault.StepFault.{StepFault}
use Rattle.vec_steps.specs.declared.fault.OpFault.{OpFault}
use Rattle.vec_steps.specs.Faults.{op_fault}
use Rattle.vec_steps.specs.Index.{Index, OfNodes, OfLists}
use Rattle.vec_steps.specs.Doing.{Step, did, viewed}
use Rattle.vec_steps.specs.declared.told.Told.{Told}
use Rattle.vec_steps.specs.declared.told.Word.{Word}
use Rattle.vec_steps.specs.declared.told.Word.TheVariants as word
use Rattle.vec_steps.specs.Telling.{fault_step}
use Rattle.vec_steps.specs.Desks.{Desk}
use Rattle.vec_steps.specs.Calls.{AreDeeds, Does, DoesSo, IsCause, IsLogFault, course_at, look_positions}
use Rattle.layer_search.specs.declared.back.Back.{Back}
use Rattle.layer_search.specs.declared.back.Tried.{Tried}
use Rattle.layer_search.specs.declared.back.Tried.TheVariants.{Over, Linked, Again}
use Rattle.layer_search.specs.Telling.{StandsAt}
use Rattle.layer_search.specs.Looking.{MadeLooks}

-- ---- who is linked to

abbrev pub target_of : Back → List Bool → Target
target_of back bits = record { ops = back.ops; at = back.at; bits = bits }

-- ---- over which bases

-- what the rules ask of the links: the desk holds Update, each neighbour stands as it was told and reaches its layer, and the desk knows
-- the newcomer there
pub record MayLinkBack (base : Graph) (acts : List Act) (desk : ℕ) (at : Tid) (picks : List (ℕ × Found)) : Type 0 where
  pub update : Holds acts desk Update
  pub stand : AllByRecursion (λ p. StandsAt base acts p.0 (spot_of p.1)) picks
  pub known : AllByRecursion (λ p. Knows base acts desk at p.0) picks

abbrev pub MayLinkIn : List Act → ℕ → Tid → List (ℕ × Found) → Index → Type 0
MayLinkIn acts desk at picks (OfNodes base) = MayLinkBack base acts desk at picks
MayLinkIn acts desk at picks (OfLists base) = ⊥

-- The bases on which a desk stands, and over which it may link these neighbours to the node at a place: a premise of what a call says,
-- for each base by itself.
pub record OverLinks (stands : Index → Type 0) (d : Desk) (acts : List Act) (at : Tid) (picks : List (ℕ × Found)) (base : Index)
    : Type 0 where
  pub stood : stands base
  pub may : MayLinkIn acts d.number at picks base

-- of one neighbour, in a layer
abbrev pub OverLink : (Index → Type 0) → Desk → List Act → Tid → ℕ → Found → Index → Type 0
OverLink stands d acts at layer e base = OverLinks stands d acts at ((layer, e) ∷ []) base

-- ---- deeds of a call that links

-- a look, or a neighbour was asked to name this place
abbrev pub IsLinkStep : Tid → Step → Type 0
IsLinkStep to (did (looked look told)) = ⊤
IsLinkStep to (viewed look told) = ⊤
IsLinkStep to (did (asked (Links at list_at level version layer slot held other) reply)) = other ≡ to
IsLinkStep to _ = ⊥

-- the course is these deeds, looks and links alone, and the positions of its looks came to a trace
pub record LinksSo (to : Tid) (deeds : List Deed) (before now : List ℕ) (course : List (ℕ × Step)) : Type 0 where
  pub are : AreDeeds course deeds
  pub only : AllByRecursion (λ s. IsLinkStep to s.1) course
  pub traced : now ≡ before ++ look_positions course

-- A call did these deeds, and nothing else: over each of these bases, each at its own position.
abbrev pub MadeLinks : Tid → (Index → Type 0) → Desk → List Act → List Act → List ℕ → List ℕ → List Deed → Type 0
MadeLinks to over d old new before now deeds = DoesSo (LinksSo to deeds before now) over d old new

-- the log has no room for a link that was asked for
pub record IsLinkRefused (d : Desk) (base : Index) (acts : List Act) (to : Tid) (fault : StepFault) : Type 0 where
  pub at : Tid
  pub list_at : Tid
  pub level : ℕ
  pub version : ℕ
  pub layer : ℕ
  pub slot : ℕ
  pub held : Option Tid
  pub cause : IsCause d base acts (ask.Link at list_at level version layer slot held to) fault

-- A call that links was ended by a fault: looks and links were made, and then a step failed, of which a fault of the disks leaves an
-- act; or there was no memory. Where it was for want of room in the log, that is so over each of these bases.
pub record StoppedBy (to : Tid) (over : Index → Type 0) (d : Desk) (old new : List Act) (fault : OpFault) : Type 0 where
  pub course : List (ℕ × Step)
  pub only : AllByRecursion (λ s. IsLinkStep to s.1) course
  pub at : ℕ
  pub step_fault : StepFault
  pub fault_is : fault ≡ op_fault step_fault
  pub does : Does over d old new (course ++ course_at at (fault_step step_fault))
  pub of_log : (base : Index) → over base → IsLogFault step_fault → IsLinkRefused d base new to step_fault

-- ---- slots as they are seen

-- A slot came to those that were seen, as looks told it, and the value of a live member is as long as its owner's.
pub record SeesSlot (ops : Ops) (owner : List Bool) (layer : ℕ) (slot : Option Tid) (reads : List (Look × Answer))
    (was seen : List SlotSeen) : Type 0 where
  pub one : SlotSeen
  pub is_slot : IsSlot ops owner layer slot reads one
  pub as_long : length one.bits ≡ length owner
  pub put : seen ≡ was ++ one ∷ []

-- a slot that names this came, of which nothing else is told
pub record SeesWithout (at : Option Tid) (long : ℕ) (was seen : List SlotSeen) : Type 0 where
  pub one : SlotSeen
  pub at_is : one.at ≡ at
  pub not_live : one.live ≡ false
  pub as_long : length one.bits ≡ long
  pub put : seen ≡ was ++ one ∷ []

-- a slot whose member a look told came, with its distance to the owner of the list
pub record SeesMember (ops : Ops) (owner : List Bool) (at : Tid) (told : Told) (was seen : List SlotSeen) : Type 0 where
  pub one : SlotSeen
  pub at_is : one.at ≡ Some at
  pub live_is : one.live ≡ has_some told.ids.items
  pub dist_is : one.dist ≡ distance_of ops owner told.bits
  pub bits_are : one.bits ≡ told.bits
  pub put : seen ≡ was ++ one ∷ []

-- the values of these slots have so many places
abbrev pub AreSlotsLong : ℕ → List SlotSeen → Type 0
AreSlotsLong n seen = AllByRecursion (λ s. length s.bits ≡ n) seen

-- A slot was looked at, if it has a member, and came to those that were seen.
pub record LooksSlot (over : Index → Type 0) (d : Desk) (old new : List Act) (before now : List ℕ) (ops : Ops) (owner : List Bool)
    (layer : ℕ) (slot : Option Tid) (was seen : List SlotSeen) : Type 0 where
  pub reads : List (Look × Answer)
  pub made : MadeLooks over d old new before now reads
  pub sees : SeesSlot ops owner layer slot reads was seen

-- All these slots were looked at, in their order.
pub record LooksSlots (over : Index → Type 0) (d : Desk) (old new : List Act) (before now : List ℕ) (ops : Ops) (owner : List Bool)
    (layer : ℕ) (slots : List (Option Tid)) (seen : List SlotSeen) : Type 0 where
  pub reads : List (Look × Answer)
  pub made : MadeLooks over d old new before now reads
  pub are : AreSlots ops owner layer slots reads seen
  pub long : AreSlotsLong (length owner) seen
  pub many : length seen ≡ length slots

-- ---- one try

-- A neighbour was looked at: its list is gone, or its slots and members were read, and this is the choice among them.
pub data IsChosen (t : Target) (e : Found) (layer : ℕ) (slots : List (Option Tid)) : Option ℕ → List Deed → Type 0 where
  gone : IsChosen t e layer slots None (looked (list_look e layer) Gone ∷ [])
  chosen : (choice : Option ℕ) (deeds : List Deed) → ListLooked t e layer deeds slots choice → IsChosen t e layer slots choice deeds

-- A call looked at a neighbour, and chose this slot of the layer.
pub record ChoosesSlot (over : Index → Type 0) (d : Desk) (old new : List Act) (before now : List ℕ) (t : Target) (e : Found)
    (layer m : ℕ) (slots : List (Option Tid)) (choice : Option ℕ) : Type 0 where
  pub reads : List (Look × Answer)
  pub made : MadeLooks over d old new before now reads
  pub is_chosen : IsChosen t e layer slots choice (looks_of reads)
  pub within : IfSome choice (λ slot. slot < most_in m layer)

-- how a try ended, by the word to the link
abbrev pub tried_told : Word → Tried
tried_told word.Done = Linked
tried_told word.Changed = Again
tried_told _ = Over

-- how many links a try made
abbrev pub links_by : Tried → ℕ
links_by Over = 0
links_by Linked = 1
links_by Again = 0

pub data IsAnswered : Tried → Reply → Type 0 where
  of_done : IsAnswered Linked Done
  of_changed : IsAnswered Again Changed
  of_stale : IsAnswered Over Stale

-- A call asked a neighbour to name a place in a slot of the layer, and was answered so.
pub record AsksLink (over : Index → Type 0) (d : Desk) (old new : List Act) (to : Tid) (e : Found) (layer slot : ℕ)
    (slots : List (Option Tid)) (tried : Tried) : Type 0 where
  pub reply : Reply
  pub made : (trace : List ℕ) → MadeLinks to over d old new trace trace (asked (link_to e layer slot slots to) reply ∷ [])
  pub answered : IsAnswered tried reply

-- One try at a neighbour, and how it ended.
pub data IsTry (t : Target) (e : Found) (layer : ℕ) : Tried → List Deed → Type 0 where
  no_list : IsTry t e layer Over (looked (list_look e layer) Gone ∷ [])
  no_slot : (deeds : List Deed) (slots : List (Option Tid)) → ListLooked t e layer deeds slots None → IsTry t e layer Over deeds
  stale : (deeds : List Deed) (slots : List (Option Tid)) (slot : ℕ) → ListLooked t e layer deeds slots (Some slot)
      → IsTry t e layer Over (deeds ++ asked (link_to e layer slot slots t.at) Stale ∷ [])
  linked : (deeds : List Deed) (slots : List (Option Tid)) (slot : ℕ) → ListLooked t e layer deeds slots (Some slot)
      → IsTry t e layer Linked (deeds ++ asked (link_to e layer slot slots t.at) Done ∷ [])
  changed : (deeds : List Deed) (slots : List (Option Tid)) (slot : ℕ) → ListLooked t e layer deeds slots (Some slot)
      → IsTry t e layer Again (deeds ++ asked (link_to e layer slot slots t.at) Changed ∷ [])

pub record TriedSo (over : Index → Type 0) (d : Desk) (old new : List Act) (before now : List ℕ) (t : Target) (e : Found)
    (layer : ℕ) (tried : Tried) : Type 0 where
  pub deeds : List Deed
  pub made : MadeLinks t.at over d old new before now deeds
  pub is_try : IsTry t e layer tried deeds

-- ---- neighbours

-- A call tried a neighbour at most so many times, and so many links were made: one or none.
pub record TriesOne (over : Index → Type 0) (d : Desk) (old new : List Act) (before now : List ℕ) (t : Target) (e : Found)
    (layer tries count : ℕ) : Type 0 where
  pub deeds : List Deed
  pub made : MadeLinks t.at over d old new before now deeds
  pub links : Tries t e layer tries deeds
  pub counted : count ≡ links_made d.params.m deeds

-- A call made the links back to a node: its looks, and each link with its word, are those that are defined; and so many were made.
pub record LinksAll (over : Index → Type 0) (d : Desk) (old new : List Act) (before now : List ℕ) (t : Target)
    (picks : List (ℕ × Found)) (count : ℕ) : Type 0 where
  pub deeds : List Deed
  pub made : MadeLinks t.at over d old new before now deeds
  pub links : LinksBack t picks deeds
  pub counted : count ≡ links_made d.params.m deeds
