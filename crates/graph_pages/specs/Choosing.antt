-- Which deleted element of a page gives its places to a new node.
use Rattle.std.specs.Prelude.{◌≡◌, ℕ, ◌<◌, true, List, Some}
use Rattle.vec_names.specs.declared.tid.Tid.{Tid}
use Rattle.vec_names.specs.declared.params.Params.{Params}
use Rattle.page_bytes.specs.Content.{Content}
use Rattle.vec_tuples.specs.declared.element.ElementHead.{ElementHead}
use Rattle.vec_graph.specs.declared.place.Place.{Place}
use Rattle.graph_pages.specs.Standing.{head_in}

-- a deleted element of this level stands at the place
pub record IsReusableAt (p : Params) (pages : List Content) (level : ℕ) (at : Tid) : Type 0 where
  pub head : ElementHead
  pub there : head_in p pages at ≡ Some head
  pub deleted : head.deleted ≡ true
  pub of_level : head.level ≡ level

-- The places and the version are those of the deleted element of this level at the lowest offset of the block.
pub record IsLowestReusable (p : Params) (pages : List Content) (block level : ℕ) (spot : Place) : Type 0 where
  pub on_block : spot.at.block ≡ block
  pub element : IsReusableAt p pages level spot.at
  pub list : element.head.list_at ≡ spot.list_at
  pub version : element.head.version ≡ spot.version
  pub lowest : (other : Tid) → other.block ≡ block → other.off < spot.at.off → ¬ IsReusableAt p pages level other
