-- Which pages stand for which index of lists. Block 0 has the meta tuple, the blocks behind it have the list tuples, and all
-- others have entries, each in the chain of one list. The numbers of the pages are no part of it.
use Rattle.std.specs.Prelude.{◌≡◌, ℕ, zero, suc, ◌<◌, ◌≤◌, ◌-◌, ◌*◌, ◌&&◌, ◌==◌, if◌then◌else◌, not, min, Bool, true, false, List, [], ◌∷◌, length, map, slice_get, Option, Some, None, Result, Ok, Err}
use Rattle.std.specs.List.{list_all, list_any, filter_map}
use Rattle.std.specs.Option.{option_map, option_and_then, is_some}
use Rattle.index_sizes.specs.Sizes.{centres_on_page}
use Rattle.vec_names.specs.declared.params.Params.{Params}
use Rattle.page_bytes.specs.Content.{Content}
use Rattle.vec_tuples.specs.declared.meta.Meta.{Meta}
use Rattle.vec_tuples.specs.declared.entry.EntryRow.{EntryRow}
use Rattle.vec_tuples.specs.declared.centre.CentreTuple.{CentreTuple}
use Rattle.vec_tuples.specs.Reading.{entry}
use Rattle.ivf_graph.specs.declared.list.IvfList.{IvfList}
use Rattle.ivf_graph.specs.declared.graph.IvfGraph.{IvfGraph}
use Rattle.ivf_graph.specs.Graph.{Row, Part}
use Rattle.ivf_graph.specs.Looks.{centre_pages}
use Rattle.page_redo.specs.declared.graph_fault.GraphFault.{GraphFault}
use Rattle.page_redo.specs.declared.graph_fault.GraphFault.TheVariants.{Memory, Bad}
use Rattle.page_redo.specs.PageTuples.{in_whole, meta_at, centre_at, is_graph, is_meta_page, is_lists_page, is_entries_page}
use Rattle.page_redo.specs.PageChanges.{when, if_so, list_block, list_offset}

-- ---- block 0

abbrev pub of_lists : Meta → Option Params
of_lists m = when (not (is_graph m.params.kind)) m.params

-- the parameters of an index of lists, where their meta tuple is the only item of the meta page
abbrev pub params_on : Content → Option Params
params_on c = if_so (is_meta_page c.kind && length c.items == 1) (option_and_then of_lists (meta_at c))

abbrev pub params_in : List Content → Option Params
params_in pages = option_and_then params_on (slice_get pages 0)

-- ---- list tuples

-- how many blocks the list tuples take, which are the first behind block 0
abbrev pub lists_end : Params → ℕ
lists_end p = centre_pages p.bits p.lists

-- how many of the list tuples such a block has: each is full but for the last, which has those that are left
abbrev pub lists_on : Params → ℕ → ℕ
lists_on p block = min (centres_on_page p.bits) (p.lists - (block - 1) * centres_on_page p.bits)

-- the tuple of a list, by its number from 0
abbrev pub centre_in : Params → List Content → ℕ → Option CentreTuple
centre_in p pages list = option_and_then (λ c. centre_at p c (list_offset p list)) (slice_get pages (list_block p list))

-- ---- chains

abbrev pub is_among : ℕ → List ℕ → Bool
is_among block blocks = list_any (λ b. b == block) blocks

-- what a block has, of which kind, is told by its page
abbrev pub has_entries : Option Content → Bool
has_entries None = false
has_entries (Some c) = is_entries_page c.kind

abbrev pub next_of : Option Content → Option ℕ
next_of None = None
next_of (Some c) = c.next

-- a chain can go on at a block that has entries and that it has not met before
abbrev pub goes_to : List Content → List ℕ → ℕ → Bool
goes_to pages met block = has_entries (slice_get pages block) && not (is_among block met)

-- The blocks of a chain from one on, at most so many, where these blocks were met before. It ends where there is no next block, or
-- where it can't go on.
abbrev pub followed : List Content → ℕ → List ℕ → Option ℕ → List ℕ
followed pages zero met to = []
followed pages (suc most) met None = []
followed pages (suc most) met (Some block) =
    if goes_to pages met block then block ∷ followed pages most (block ∷ met) (next_of (slice_get pages block)) else []

-- the chain that begins at a block; no block stands in it twice, so that it has no more of them than there are
abbrev pub chain_from : List Content → ℕ → List ℕ
chain_from pages first = followed pages (length pages) [] (Some first)

abbrev pub chain_of : List Content → Option CentreTuple → List ℕ
chain_of pages None = []
chain_of pages (Some l) = chain_from pages l.first

-- the chain of a list
abbrev pub chain_in : Params → List Content → ℕ → List ℕ
chain_in p pages list = chain_of pages (centre_in p pages list)

-- the chain ends at the block
abbrev pub ends_at : ℕ → List ℕ → Bool
ends_at block [] = false
ends_at block (b ∷ []) = b == block
ends_at block (b ∷ c ∷ blocks) = ends_at block (c ∷ blocks)

-- ---- the blocks of list tuples

-- the list has its tuple, and its aim stands in its chain, which so has a first block
abbrev pub has_aim : List Content → Option CentreTuple → Bool
has_aim pages None = false
has_aim pages (Some l) = is_among l.aim (chain_from pages l.first)

-- The page has just the tuples of its lists.
pub record IsListPage (p : Params) (pages : List Content) (block : ℕ) : Type 0 where
  pub page : Content
  pub there : slice_get pages block ≡ Some page
  pub kind : is_lists_page page.kind ≡ true
  pub count : length page.items ≡ lists_on p block
  pub lists : (list : ℕ) → list < p.lists → list_block p list ≡ block → has_aim pages (centre_in p pages list) ≡ true

-- ---- the blocks of entries

abbrev pub is_entry : Params → List ℕ → Bool
is_entry p x = is_some (in_whole (entry p x))

-- the block stands in the chain of just one list
pub record IsInOneChain (p : Params) (pages : List Content) (block : ℕ) : Type 0 where
  pub list : ℕ
  pub is_list : list < p.lists
  pub within : is_among block (chain_in p pages list) ≡ true
  pub only : (other : ℕ) → other < p.lists → is_among block (chain_in p pages other) ≡ true → other ≡ list

-- The page has entries alone and is in one chain. Where a chain ends at it, it has no next block.
pub record IsEntryPage (p : Params) (pages : List Content) (block : ℕ) (c : Content) : Type 0 where
  pub kind : is_entries_page c.kind ≡ true
  pub entries : list_all (is_entry p) c.items ≡ true
  pub in_one : IsInOneChain p pages block
  pub ends : (list : ℕ) → list < p.lists → ends_at block (chain_in p pages list) ≡ true → c.next ≡ None

-- ---- blocks that break a rule

-- A block of list tuples is there. Any other block behind block 0 has entries, where it is there.
pub record KeepsRulesOf (p : Params) (pages : List Content) (block : ℕ) : Type 0 where
  pub lists : 1 ≤ block → block ≤ lists_end p → IsListPage p pages block
  pub entries : lists_end p < block → (c : Content) → slice_get pages block ≡ Some c → IsEntryPage p pages block c

-- All is read under the parameters of block 0: where that has no meta tuple of lists, no block keeps the rules.
abbrev pub KeepsRulesUnder : Option Params → List Content → ℕ → Type 0
KeepsRulesUnder None pages block = ⊥
KeepsRulesUnder (Some p) pages block = KeepsRulesOf p pages block

abbrev pub KeepsRules : List Content → ℕ → Type 0
KeepsRules pages block = KeepsRulesUnder (params_in pages) pages block

-- the block breaks a rule, and no lower one does
pub record IsFirstBroken (pages : List Content) (block : ℕ) : Type 0 where
  pub broken : ¬ KeepsRules pages block
  pub whole_before : (lower : ℕ) → lower < block → KeepsRules pages lower

-- ---- the index

abbrev pub row_with : EntryRow → Row
row_with e = (e.id, e.bits)

abbrev pub row_in : Params → List ℕ → Option Row
row_in p x = option_map row_with (in_whole (entry p x))

abbrev pub rows_of : Params → Option Content → List Row
rows_of p None = []
rows_of p (Some c) = filter_map (row_in p) c.items

-- a block of a chain, with its rows
abbrev pub part_in : Params → List Content → ℕ → Part
part_in p pages block = (block, rows_of p (slice_get pages block))

abbrev pub list_with : Params → List Content → CentreTuple → IvfList
list_with p pages l = record { centre = l.bits; aim = l.aim; chain = map (part_in p pages) (chain_from pages l.first) }

abbrev pub list_in : Params → List Content → ℕ → Option IvfList
list_in p pages list = option_map (list_with p pages) (centre_in p pages list)

-- No block breaks a rule under these parameters, which block 0 has, and the index is the one that the pages hold.
pub record Stands (p : Params) (pages : List Content) (g : IvfGraph) : Type 0 where
  pub params : params_in pages ≡ Some p
  pub whole : (block : ℕ) → KeepsRulesOf p pages block
  pub count : length g.lists ≡ p.lists
  pub lists : (list : ℕ) → list < p.lists → slice_get g.lists list ≡ list_in p pages list
  pub blocks : g.blocks ≡ length pages

-- the index, or the first block that breaks a rule; of want of memory nothing is said
abbrev pub IsIndexOf : List Content → Result IvfGraph GraphFault → Type 0
IsIndexOf pages (Ok g) = (p : Params) × Stands p pages g
IsIndexOf pages (Err Memory) = Unit {0}
IsIndexOf pages (Err (Bad block)) = IsFirstBroken pages block
