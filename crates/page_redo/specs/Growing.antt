-- Pages of an index that grows: the fresh pages that an event makes, and redo of an event on all blocks that it touches.
use Rattle.std.specs.Prelude.{◌≡◌, ℕ, ◌+◌, ◌-◌, max, List, [], ◌++◌, length, replicate, slice_get, Some, None, Contains}
use Rattle.vec_names.specs.declared.params.Params.{Params}
use Rattle.vec_history.specs.declared.event.Event.{Event}
use Rattle.vec_history.specs.declared.event.Event.TheVariants.{Put, IvfGrow}
use Rattle.page_bytes.specs.declared.kind.PageKind.{PageKind}
use Rattle.page_bytes.specs.declared.kind.PageKind.TheVariants.{Hnsw, IvfEntries}
use Rattle.page_bytes.specs.Content.{Content}
use Rattle.page_redo.specs.Redo.{touched, redone}

-- There are as many pages. Each one whose block the event touches became what redo makes of it, and each other one stayed.
pub record AreRedone (params : Params) (wrap number : ℕ) (event : Event) (pages after : List Content) : Type 0 where
  pub count : length after ≡ length pages
  pub there : (block : ℕ) (page : Content) → Contains (touched event params) block → slice_get pages block ≡ Some page
      → slice_get after block ≡ redone event params wrap number block page
  pub elsewhere : (block : ℕ) → (Contains (touched event params) block → ⊥) → slice_get after block ≡ slice_get pages block

-- a page without items, as it is made
abbrev pub fresh_page : PageKind → Content
fresh_page kind = record { kind = kind; next = None; number = 0; items = [] }

-- how many blocks there are with those on which an event puts something new
abbrev pub blocks_after : Event → ℕ → ℕ
blocks_after (Put at list_at version level id bits lists) count = max count (max (at.block + 1) (list_at.block + 1))
blocks_after (IvfGrow list last new id bits) count = max count (new + 1)
blocks_after _ count = count

abbrev pub new_kind : Event → PageKind
new_kind (IvfGrow list last new id bits) = IvfEntries
new_kind _ = Hnsw

-- the pages with a fresh one on each new block
abbrev pub extended : Event → List Content → List Content
extended event pages = pages ++ replicate (blocks_after event (length pages) - length pages) (fresh_page (new_kind event))

-- The pages after an event, with each block that it touches redone, new ones among them.
abbrev pub AreAllRedone : Params → ℕ → ℕ → Event → List Content → List Content → Type 0
AreAllRedone params wrap number event pages after = AreRedone params wrap number event (extended event pages) after
