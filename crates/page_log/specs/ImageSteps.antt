-- What reading one base image makes of what was read before.
use Rattle.std.specs.Prelude.{◌≡◌, ℕ, ◌+◌, List, [], ◌∷◌, ◌++◌, ◌<◌, ◌≤◌, Some, None}
use Rattle.page_bytes.specs.Content.{Content}
use Rattle.page_log.specs.Epoch.{IsImageAt}
use Rattle.page_log.specs.declared.images.Images.{Images}
use Rattle.page_log.specs.declared.limits.TheConstants.{IMAGE}

-- an image stands at a place of the area, and goes behind those before it
pub record TakesImage (area : List ℕ) (blocks at : ℕ) (old new : Images) : Type 0 where
  pub image : ℕ × Content
  pub stands : IsImageAt area blocks old.least at image
  pub images : new.images.items ≡ old.images.items ++ image ∷ []
  pub least : new.least ≡ image.0 + 1
  pub end_is : new.end ≡ old.end + IMAGE
  pub bad_is : new.bad ≡ None

-- none stands there
pub record LacksImage (area : List ℕ) (blocks at : ℕ) (old new : Images) : Type 0 where
  pub none : (image : ℕ × Content) → ¬ IsImageAt area blocks old.least at image
  pub images : new.images.items ≡ old.images.items
  pub bad_is : new.bad ≡ Some old.end

-- One image was taken: its block is no smaller than was asked, and below the number of blocks.
pub record Rises (blocks : ℕ) (old new : Images) : Type 0 where
  pub image : ℕ × Content
  pub from : old.least ≤ image.0
  pub below : image.0 < blocks
  pub images : new.images.items ≡ old.images.items ++ image ∷ []
  pub least : new.least ≡ image.0 + 1
  pub end_is : new.end ≡ old.end + IMAGE
  pub bad_is : new.bad ≡ None
