-- Which events fit the pages of an index.
use Rattle.std.specs.Prelude.{◌≡◌, ℕ, List, slice_get, Some, Contains}
use Rattle.vec_names.specs.declared.params.Params.{Params}
use Rattle.vec_history.specs.declared.event.Event.{Event}
use Rattle.page_bytes.specs.Content.{Content}
use Rattle.page_redo.specs.Redo.{touched, redone}
use Rattle.page_redo.specs.Growing.{extended}

-- Each block that the event touches has a page, which is fresh where the event makes the block, and redo makes another page
-- of it, whatever the number and the version to wrap at.
abbrev pub FitsEach : List Content → Params → Event → Type 0
FitsEach pages params event =
    (wrap number block : ℕ) → Contains (touched event params) block
    → (page : Content) × (slice_get (extended event pages) block ≡ Some page)
    × (after : Content) × (redone event params wrap number block page ≡ Some after)
