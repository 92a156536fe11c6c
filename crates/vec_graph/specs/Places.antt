-- Where a new node may stand: computed from the lengths of what stands on the pages, and from nothing else.
use Rattle.std.specs.Prelude.{◌≡◌, ℕ, ◌+◌, ◌-◌, ◌<◌, ◌==◌, ◌&&◌, nat_le, nat_lt, if◌then◌else◌, max, Bool, true, List, [], ◌∷◌, find, sum_by, Option, Some, None}
use Rattle.std.specs.Option.{option_map, option_or}
use Rattle.std.specs.FinMap as fin
use Rattle.index_sizes.specs.declared.limits.TheConstants.{PAGE_ROOM}
use Rattle.index_sizes.specs.Sizes.{item_need, element_size, links_size, slots_of_level}
use Rattle.vec_names.specs.declared.tid.Tid.{Tid}
use Rattle.vec_names.specs.Places.{tid_of}
use Rattle.vec_graph.specs.declared.place.Place.{Place}
use Rattle.vec_graph.specs.declared.node.Node.{Node}
use Rattle.vec_graph.specs.declared.graph.Graph.{Graph}
use Rattle.vec_graph.specs.Graph.{node_at}

-- ---- bytes

-- what the element and the list of a node of this level take
abbrev pub element_need : Graph → ℕ
element_need g = item_need (element_size g.params.bits)

abbrev pub list_need : Graph → ℕ → ℕ
list_need g level = item_need (links_size (slots_of_level g.params.m level))

-- ---- pages

abbrev pub one_if : Bool → ℕ → ℕ
one_if b n = if b then n else 0

-- what a node takes of a block: its element where that stands there, and its list where that does
abbrev pub taken_on : Graph → ℕ → (Tid × Node) → ℕ
taken_on g b e = one_if (e.0.block == b) (element_need g) + one_if (e.1.list_at.block == b) (list_need g e.1.level)

-- what is left of a block
abbrev pub room : Graph → ℕ → ℕ
room g b = PAGE_ROOM - sum_by (taken_on g b) (fin.entries g.nodes)

-- the last offset of a block at which a node has an item; 0 where it has none there
abbrev pub last_off : ℕ → (Tid × Node) → ℕ
last_off b e = max (one_if (e.0.block == b) e.0.off) (one_if (e.1.list_at.block == b) e.1.list_at.off)

abbrev pub greatest_off : ℕ → List (Tid × Node) → ℕ
greatest_off b [] = 0
greatest_off b (e ∷ es) = max (last_off b e) (greatest_off b es)

-- the next offset of a block, behind all its items
abbrev pub next_off : Graph → ℕ → ℕ
next_off g b = greatest_off b (fin.entries g.nodes) + 1

-- each node stands on blocks that are there
abbrev pub IsOnBlocks : Graph → Type 0
IsOnBlocks g = (at : Tid) (n : Node) → node_at g at ≡ Some n → (at.block < g.blocks) × (n.list_at.block < g.blocks)

-- ---- places

-- a fresh place has version 1; there is none where a block or an offset is out of range
abbrev pub fresh_place : Option Tid → Option Tid → Option Place
fresh_place (Some at) (Some list_at) = Some (record { at = at; list_at = list_at; version = 1 })
fresh_place None list_at = None
fresh_place (Some at) None = None

abbrev pub fresh_at : ℕ → ℕ → ℕ → ℕ → Option Place
fresh_at block off list_block list_off = fresh_place (tid_of block off) (tid_of list_block list_off)

-- whether the element and the list of a node of this level fit one page
abbrev pub fits_one_page : Graph → ℕ → Bool
fits_one_page g level = nat_le (element_need g + list_need g level) PAGE_ROOM

-- a deleted node on this block of this level
abbrev pub is_reusable : ℕ → ℕ → (Tid × Node) → Bool
is_reusable b level e = (e.0.block == b) && (e.1.deleted && (e.1.level == level))

-- the deleted node at the lowest offset, whose places and version the new node takes
abbrev pub reused : Option (Tid × Node) → Option Place
reused o = option_map (λ e. record { at = e.0; list_at = e.1.list_at; version = e.1.version }) o

-- the next two offsets of one block
abbrev pub together_on : Graph → ℕ → ℕ → Option Place
together_on g b level =
    if nat_le (element_need g + list_need g level) (room g b) then fresh_at b (next_off g b) b (next_off g b + 1) else None

-- the next offset of a block, and that of the block behind it
abbrev pub apart_on : Graph → ℕ → ℕ → Option Place
apart_on g b level =
    if nat_lt (b + 1) g.blocks && (nat_le (element_need g) (room g b) && nat_le (list_need g level) (room g (b + 1)))
    then fresh_at b (next_off g b) (b + 1) (next_off g (b + 1))
    else None

abbrev pub fresh_on : Graph → ℕ → ℕ → Option Place
fresh_on g b level = if fits_one_page g level then together_on g b level else apart_on g b level

-- the place on a block for a node of this level, if there is one: that of a deleted node of its level, or else a fresh one
abbrev pub place_on : Graph → ℕ → ℕ → Option Place
place_on g b level =
    if nat_le 1 b && nat_lt b g.blocks
    then option_or (reused (find (is_reusable b level) (fin.entries g.nodes))) (fresh_on g b level)
    else None

-- how many new blocks a node of this level takes
abbrev pub new_blocks : Graph → ℕ → ℕ
new_blocks g level = if fits_one_page g level then 1 else 2

-- the place for it on new blocks
abbrev pub new_place : Graph → ℕ → Option Place
new_place g level = if fits_one_page g level then fresh_at g.blocks 1 g.blocks 2 else fresh_at g.blocks 1 (g.blocks + 1) 1

-- no node stands at the place, or a deleted one of this level
abbrev pub IsFree : Graph → Tid → ℕ → Type 0
IsFree g at level = (n : Node) → node_at g at ≡ Some n → (n.deleted ≡ true) × (n.level ≡ level)
