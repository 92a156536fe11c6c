-- A test of all slots, slot by slot.
use Rattle.std.proofs.Common.{◌≡◌, ℕ, ◌+◌, Bool, ◌&&◌, List, length, drop, Some, ap, ◌∙◌, arith}
use Rattle.std.specs.Prelude.{slice_get}
use Rattle.std.specs.List.{list_all}
use Rattle.std.proofs.lemmas.List.{drop_more}
use Rattle.std.proofs.lemmas.Option.{slice_get_within, get_or_from_slice_get}
use Rattle.vec_tuples.specs.declared.links.Links.{Links}
use Rattle.vec_tuples.specs.Spelling.{links_bytes}
use Rattle.vec_tuples.proofs.SlotPlaces.{length-links_bytes}

pub all_more : {X : Type 0} (f : X → Bool) (xs : List X) (i : ℕ) (x : X) → slice_get xs i ≡ Some x → list_all f (drop i xs) ≡ f x && list_all f (drop (i + 1) xs)
all_more f xs i x is =
    ap (list_all f) (drop_more xs i x (slice_get_within xs i x is))
    ∙ ap (λ y. f y && list_all f (drop (i + 1) xs)) (get_or_from_slice_get xs i x x is)

-- tuples with the same bytes have as many slots
pub same_count : (l k : Links) → links_bytes l ≡ links_bytes k → length l.tids ≡ length k.tids
same_count l k e = omega (arith, length-links_bytes l, length-links_bytes k, ap length e)
