mod ChangedPlaces
pub mod ExactPacking
mod PackedPlaces
mod PackedTexts
mod PlaceParts
mod TalliedBytes
