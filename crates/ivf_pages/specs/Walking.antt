-- What is kept of the blocks while the chains of the lists are followed, that of list 0 first; and what is found then.
use Rattle.std.specs.Prelude.{◌≡◌, ◌≢◌, ℕ, zero, suc, ◌<◌, ◌≤◌, ◌+◌, ◌&&◌, ◌||◌, ◌==◌, ⊤, if◌then◌else◌, not, Bool, true, false, List, [], ◌∷◌, length, map, slice_get, Option, Some, None, Result, Ok, Err}
use Rattle.std.specs.List.{list_all, list_any, filter_map}
use Rattle.std.specs.Option.{option_map, is_some}
use Rattle.vec_names.specs.declared.params.Params.{Params}
use Rattle.page_bytes.specs.Content.{Content}
use Rattle.vec_tuples.specs.declared.centre.CentreTuple.{CentreTuple}
use Rattle.ivf_graph.specs.Graph.{Row}
use Rattle.page_redo.specs.declared.graph_fault.GraphFault.{GraphFault}
use Rattle.page_redo.specs.declared.graph_fault.GraphFault.TheVariants.{Memory, Bad}
use Rattle.page_redo.specs.PageTuples.{is_lists_page, is_entries_page}
use Rattle.page_redo.specs.PageChanges.{when, list_block}
use Rattle.ivf_pages.specs.declared.links.Link.{Link}
use Rattle.ivf_pages.specs.declared.links.Link.TheVariants.{Away, Last, To}
use Rattle.ivf_pages.specs.declared.marks.Mark.{Mark}
use Rattle.ivf_pages.specs.declared.marks.Mark.TheVariants.{Nowhere, Once, Short, Shared}
use Rattle.ivf_pages.specs.Standing.{is_among, next_of, has_entries, ends_at, goes_to, centre_in, chain_from, chain_in, has_aim, lists_end, lists_on, is_entry, row_in, rows_of, IsEntryPage}

-- ---- links

-- a block of entries, by the next block that its page names
abbrev pub linked : Option ℕ → Link
linked None = Last
linked (Some next) = To next

-- what a chain finds at the block of a page
abbrev pub link_of : Content → Link
link_of c = if is_entries_page c.kind then linked c.next else Away

abbrev pub leads : Option Link → Bool
leads None = false
leads (Some Away) = false
leads (Some Last) = true
leads (Some (To next)) = true

abbrev pub behind : Option Link → Option ℕ
behind None = None
behind (Some Away) = None
behind (Some Last) = None
behind (Some (To next)) = Some next

-- ---- marks

-- the block stands in the chain of this list alone
abbrev pub is_own : ℕ → Mark → Bool
is_own list Nowhere = false
is_own list (Once l) = l == list
is_own list (Short l) = l == list
is_own list Shared = false

abbrev pub is_met : ℕ → Option Mark → Bool
is_met list None = false
is_met list (Some m) = is_own list m

-- no chain came by
abbrev pub is_new : Option Mark → Bool
is_new None = false
is_new (Some Nowhere) = true
is_new (Some (Once l)) = false
is_new (Some (Short l)) = false
is_new (Some Shared) = false

-- some chain came by
abbrev pub is_passed : Option Mark → Bool
is_passed None = false
is_passed (Some Nowhere) = false
is_passed (Some (Once l)) = true
is_passed (Some (Short l)) = true
is_passed (Some Shared) = true

-- several chains came by
abbrev pub is_shared : Option Mark → Bool
is_shared None = false
is_shared (Some Nowhere) = false
is_shared (Some (Once l)) = false
is_shared (Some (Short l)) = false
is_shared (Some Shared) = true

-- a block by which the chain of a list comes
abbrev pub visited : ℕ → Mark → Mark
visited list Nowhere = Once list
visited list (Once l) = Shared
visited list (Short l) = Shared
visited list Shared = Shared

-- a block at which the one chain that came by ends, although its page names a next one
abbrev pub shortened : Mark → Mark
shortened Nowhere = Nowhere
shortened (Once l) = Short l
shortened (Short l) = Short l
shortened Shared = Shared

-- the chain ends at the block, whose page names a next one
abbrev pub stops_short : List Content → ℕ → List ℕ → Bool
stops_short pages block chain = ends_at block chain && is_some (next_of (slice_get pages block))

-- a block once the chain of a list was followed, by whether it stands in that chain, and whether that stops short there
abbrev pub marked : ℕ → Bool → Bool → Mark → Mark
marked list within short m = if within then (if short then shortened (visited list m) else visited list m) else m

abbrev pub marked_by : List Content → ℕ → List ℕ → ℕ → Mark → Mark
marked_by pages list chain block m = marked list (is_among block chain) (stops_short pages block chain) m

-- ---- changes of marks, on the way along a chain

-- each block has another mark, by its number and the mark that it had
pub record AreChanged (change : ℕ → Mark → Mark) (before after : List Mark) : Type 0 where
  pub count : length after ≡ length before
  pub marks : (block : ℕ) → slice_get after block ≡ option_map (change block) (slice_get before block)

abbrev pub visited_at : ℕ → ℕ → ℕ → Mark → Mark
visited_at list to block m = if to == block then visited list m else m

abbrev pub shortened_at : ℕ → ℕ → Mark → Mark
shortened_at at block m = if at == block then shortened m else m

abbrev pub is_here : ℕ → Option ℕ → Bool
is_here block None = false
is_here block (Some b) = b == block

-- there is a next block, and it is not shared
abbrev pub is_cut : List Mark → Option ℕ → Bool
is_cut marks None = false
is_cut marks (Some block) = not (is_shared (slice_get marks block))

-- the chain came from this block last, where it is cut
abbrev pub stopped : Option ℕ → Bool → ℕ → Mark → Mark
stopped from cut block m = if is_here block from && cut then shortened m else m

-- The block that the chain goes on to, where it can. It need not go on to a shared one, behind which all are shared.
abbrev pub arrived : List Link → ℕ → List Mark → Option ℕ → Option ℕ
arrived links list marks None = None
arrived links list marks (Some block) =
    when (leads (slice_get links block) && not (is_met list (slice_get marks block) || is_shared (slice_get marks block))) block

-- ---- the aim of a list

-- the block is reached in at most so many steps over blocks of entries
abbrev pub comes_to : List Link → ℕ → ℕ → Option ℕ → Bool
comes_to links zero block to = false
comes_to links (suc most) block None = false
comes_to links (suc most) block (Some b) =
    leads (slice_get links b) && (b == block || comes_to links most block (behind (slice_get links b)))

-- the aim stands in the chain of the list, which was followed last
abbrev pub is_aim_met : List Link → ℕ → List Mark → CentreTuple → Bool
is_aim_met links list marks t =
    if is_shared (slice_get marks t.aim) then comes_to links (length links) t.aim (Some t.first) else is_met list (slice_get marks t.aim)

-- ---- marks of earlier chains

-- the mark names a list below this one
abbrev pub IsBelow : ℕ → Mark → Type 0
IsBelow list Nowhere = ⊤
IsBelow list (Once l) = l < list
IsBelow list (Short l) = l < list
IsBelow list Shared = ⊤

abbrev pub AreBelow : ℕ → List Mark → Type 0
AreBelow list marks = (block : ℕ) (m : Mark) → slice_get marks block ≡ Some m → IsBelow list m

-- Where a chain came by it came by the next block too, and where several did, all of these.
pub record AreClosed (pages : List Content) (marks : List Mark) : Type 0 where
  pub passed : (block next : ℕ) → is_passed (slice_get marks block) ≡ true → next_of (slice_get pages block) ≡ Some next
      → has_entries (slice_get pages next) ≡ true → is_passed (slice_get marks next) ≡ true
  pub shared : (block next : ℕ) → is_shared (slice_get marks block) ≡ true → next_of (slice_get pages block) ≡ Some next
      → has_entries (slice_get pages next) ≡ true → is_shared (slice_get marks next) ≡ true
  pub there : (block : ℕ) → is_shared (slice_get marks block) ≡ true → has_entries (slice_get pages block) ≡ true

-- ---- what a mark says, of the chains of so many lists

-- the block stands in the chain of this list alone, and that chain stops short there, or does not
pub record IsInOneOf (p : Params) (pages : List Content) (count block list : ℕ) (short : Bool) : Type 0 where
  pub low : list < count
  pub within : is_among block (chain_in p pages list) ≡ true
  pub only : (other : ℕ) → other < count → is_among block (chain_in p pages other) ≡ true → other ≡ list
  pub is_short : stops_short pages block (chain_in p pages list) ≡ short

-- the block stands in the chains of two lists
pub record IsShared (p : Params) (pages : List Content) (count block : ℕ) : Type 0 where
  pub list : ℕ
  pub low : list < count
  pub within : is_among block (chain_in p pages list) ≡ true
  pub other : ℕ
  pub other_low : other < count
  pub other_within : is_among block (chain_in p pages other) ≡ true
  pub differ : list ≢ other

abbrev pub IsSo : Params → List Content → ℕ → ℕ → Mark → Type 0
IsSo p pages count block Nowhere = (list : ℕ) → list < count → is_among block (chain_in p pages list) ≡ false
IsSo p pages count block (Once l) = IsInOneOf p pages count block l false
IsSo p pages count block (Short l) = IsInOneOf p pages count block l true
IsSo p pages count block Shared = IsShared p pages count block

-- each block has its mark
pub record AreMarked (p : Params) (pages : List Content) (count : ℕ) (marks : List Mark) : Type 0 where
  pub long : length marks ≡ length pages
  pub so : (block : ℕ) (m : Mark) → slice_get marks block ≡ Some m → IsSo p pages count block m

abbrev pub is_in_one : Option Mark → Bool
is_in_one None = false
is_in_one (Some Nowhere) = false
is_in_one (Some (Once l)) = true
is_in_one (Some (Short l)) = false
is_in_one (Some Shared) = false

-- ---- list tuples

-- the tuples of the first lists, up to one that has none
pub record AreFirstTuples (p : Params) (pages : List Content) (tuples : List CentreTuple) : Type 0 where
  pub few : length tuples ≤ p.lists
  pub there : (list : ℕ) → list < length tuples → slice_get tuples list ≡ centre_in p pages list
  pub ends : length tuples < p.lists → centre_in p pages (length tuples) ≡ None

-- the first list that has no tuple, or whose aim is not in its chain
abbrev pub IsFirstAimless : Params → List Content → Option ℕ → Type 0
IsFirstAimless p pages None = (list : ℕ) → list < p.lists → has_aim pages (centre_in p pages list) ≡ true
IsFirstAimless p pages (Some first) =
    (first < p.lists) × (has_aim pages (centre_in p pages first) ≡ false)
    × ((list : ℕ) → list < first → has_aim pages (centre_in p pages list) ≡ true)

-- the block of that list, or the first behind all blocks of list tuples
abbrev pub broken_from : Params → Option ℕ → ℕ
broken_from p None = lists_end p + 1
broken_from p (Some list) = list_block p list

-- a page of so many list tuples as the block has
abbrev pub has_count : Params → ℕ → Option Content → Bool
has_count p block None = false
has_count p block (Some c) = is_lists_page c.kind && length c.items == lists_on p block

-- ---- rows

-- the rows of the items, where all of them are entries
abbrev pub all_rows : Params → List (List ℕ) → Option (List Row)
all_rows p items = when (list_all (is_entry p) items) (filter_map (row_in p) items)

-- the rows of a block, where it is behind those of list tuples; or that its page breaks a rule
abbrev pub AreRowsFrom : Params → List Content → ℕ → Result (List Row) GraphFault → Type 0
AreRowsFrom p pages block (Ok rows) =
    (c : Content) → lists_end p < block → slice_get pages block ≡ Some c → IsEntryPage p pages block c × (rows ≡ rows_of p (Some c))
AreRowsFrom p pages block (Err Memory) = Unit {0}
AreRowsFrom p pages block (Err (Bad b)) =
    (b ≡ block) × (lists_end p < block) × (c : Content) × (slice_get pages block ≡ Some c) × ¬ IsEntryPage p pages block c

-- the pages of these blocks that are behind those of list tuples break no rule
abbrev pub AreEntriesBelow : Params → List Content → ℕ → Type 0
AreEntriesBelow p pages count =
    (block : ℕ) (c : Content) → block < count → lists_end p < block → slice_get pages block ≡ Some c → IsEntryPage p pages block c

-- the rows of each block that is behind those of list tuples
pub record HasRows (p : Params) (pages : List Content) (count : ℕ) (rows : List (List Row)) : Type 0 where
  pub long : length rows ≡ count
  pub there : (block : ℕ) (c : Content) → block < count → lists_end p < block → slice_get pages block ≡ Some c
      → slice_get rows block ≡ Some (rows_of p (Some c))

-- a block behind those of list tuples whose page breaks a rule
pub record IsFirstBadEntry (p : Params) (pages : List Content) (block : ℕ) : Type 0 where
  pub page : Content
  pub behind : lists_end p < block
  pub there : slice_get pages block ≡ Some page
  pub bad : ¬ IsEntryPage p pages block page
  pub before : AreEntriesBelow p pages block

-- the rows of all blocks, or the first of these that breaks a rule
abbrev pub AreAllRows : Params → List Content → Result (List (List Row)) GraphFault → Type 0
AreAllRows p pages (Ok rows) = HasRows p pages (length pages) rows × AreEntriesBelow p pages (length pages)
AreAllRows p pages (Err Memory) = Unit {0}
AreAllRows p pages (Err (Bad block)) = IsFirstBadEntry p pages block

-- ---- chains that end

-- the chain goes on until there is no next block, in at most so many steps
abbrev pub IsEnded : List Content → ℕ → List ℕ → Option ℕ → Type 0
IsEnded pages zero met None = ⊤
IsEnded pages zero met (Some block) = ⊥
IsEnded pages (suc most) met None = ⊤
IsEnded pages (suc most) met (Some block) =
    (goes_to pages met block ≡ true) × IsEnded pages most (block ∷ met) (next_of (slice_get pages block))

-- the block is reached in at most so many steps from one to the next, wherever these lead
abbrev pub reaches : List Content → ℕ → ℕ → Option ℕ → Bool
reaches pages zero block to = false
reaches pages (suc most) block None = false
reaches pages (suc most) block (Some b) = b == block || reaches pages most block (next_of (slice_get pages b))

-- ---- chains that are built

-- the chains of the lists that have these tuples
abbrev pub chains_of : List Content → List CentreTuple → List (List ℕ)
chains_of pages tuples = map (λ (t : CentreTuple). chain_from pages t.first) tuples

-- the block stands in one of the chains
abbrev pub is_in_some : ℕ → List (List ℕ) → Bool
is_in_some block chains = list_any (is_among block) chains

-- no block stands in a chain twice
abbrev pub AreDistinct : List ℕ → Type 0
AreDistinct [] = ⊤
AreDistinct (block ∷ blocks) = (is_among block blocks ≡ false) × AreDistinct blocks

-- no block stands in a chain twice, or in two of the chains
abbrev pub AreChainsApart : List (List ℕ) → Type 0
AreChainsApart [] = ⊤
AreChainsApart (chain ∷ chains) =
    AreDistinct chain × ((block : ℕ) → is_among block chain ≡ true → is_in_some block chains ≡ false) × AreChainsApart chains

-- no chain came by a block of this chain
abbrev pub IsNew : List Mark → List ℕ → Type 0
IsNew marks chain = (block : ℕ) → is_among block chain ≡ true → slice_get marks block ≡ Some Nowhere

-- the rows of a block, where it is among some
abbrev pub HasRowsOf : Params → List Content → (ℕ → Bool) → List (List Row) → Type 0
HasRowsOf p pages within rows = (block : ℕ) → within block ≡ true → slice_get rows block ≡ Some (rows_of p (slice_get pages block))

-- all that is not among some is as before
abbrev pub AreOthersKept : (ℕ → Bool) → List (List Row) → List (List Row) → Type 0
AreOthersKept within before after = (block : ℕ) → within block ≡ false → slice_get after block ≡ slice_get before block
