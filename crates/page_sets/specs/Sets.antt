-- Some pages of an index by their blocks, beside all of its pages.
use Rattle.std.specs.Prelude.{◌≡◌, ◌≢◌, ℕ, ⊤, List, [], ◌∷◌, slice_get, Option, Some, None, Result, Ok, Err}
use Rattle.std.specs.Option.{option_and_then}
use Rattle.vec_names.specs.declared.params.Params.{Params}
use Rattle.vec_history.specs.declared.event.Event.{Event}
use Rattle.page_bytes.specs.Content.{Content}
use Rattle.page_redo.specs.declared.fault.RedoFault.{RedoFault}
use Rattle.page_redo.specs.Redo.{redone}

-- the page of each block that a set has
abbrev pub PageMap : Type 0
PageMap = ℕ → Option Content

-- of all pages of an index it has some, each as it stands there
abbrev pub IsPartOf : PageMap → List Content → Type 0
IsPartOf set pages = (block : ℕ) (page : Content) → set block ≡ Some page → slice_get pages block ≡ Some page

-- It has the pages of these blocks, each as it stands there; where the index has no such block, it has none.
abbrev pub HasPages : PageMap → List Content → List ℕ → Type 0
HasPages set pages [] = ⊤
HasPages set pages (block ∷ blocks) = (set block ≡ slice_get pages block) × HasPages set pages blocks

-- ---- redo of a page of a set

-- what redo makes of the page of a block: nothing where the set has no such page, or the event does not fit it
abbrev pub redone_at : PageMap → Event → Params → ℕ → ℕ → Option Content
redone_at set event p number block = option_and_then (redone event p 255 number block) (set block)

-- this block has this page now, and each other block has the page that it had
pub record IsChangedTo (old new : PageMap) (block : ℕ) (page : Content) : Type 0 where
  pub here : new block ≡ Some page
  pub elsewhere : (other : ℕ) → other ≢ block → new other ≡ old other

-- The page of the block became what redo makes of it, and the others stayed; or redo makes nothing of it, and all stayed.
abbrev pub IsRedone : PageMap → PageMap → Event → Params → ℕ → ℕ → Result (Unit {0}) RedoFault → Type 0
IsRedone old new event p number block (Ok done) =
    (page : Content) × (redone_at old event p number block ≡ Some page) × IsChangedTo old new block page
IsRedone old new event p number block (Err fault) = (redone_at old event p number block ≡ None) × ((other : ℕ) → new other ≡ old other)
