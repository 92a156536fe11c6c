-- What an answer that is there came from.
use Rattle.std.proofs.Common.{◌≡◌, ℕ, zero, suc, ◌<◌, Bool, true, false, List, length, get_or, Option, Some, None, refl, subst, arith, inl, inr}
use Rattle.std.specs.Prelude.{slice_get}
use Rattle.std.specs.List.{All}
use Rattle.std.specs.Option.{option_map, option_and_then}
use Rattle.std.proofs.lemmas.Bool.{cases_lt}
use Rattle.std.proofs.lemmas.List.{get_or_past}
use Rattle.std.proofs.lemmas.List.Elements.{All-get_or}
use Rattle.std.proofs.lemmas.Option.{slice_get_within, get_or_from_slice_get}
use Rattle.byte_fields.proofs.EachField.{some_is}
use Rattle.byte_fields.proofs.FieldLaws.{AreBytes}
use Rattle.page_bytes.specs.Content.{Content, IsItem, IsPage, item_at}
use Rattle.page_redo.specs.PageChanges.{when, if_so}

pub then_is : {A B : Type 0} (f : A → Option B) (o : Option A) (b : B) → option_and_then f o ≡ Some b
    → (a : A) × (o ≡ Some a) × (f a ≡ Some b)
then_is f None b is = absurd cc
then_is f (Some a) b is = (a, refl, is)

pub map_is : {A B : Type 0} (f : A → B) (o : Option A) (b : B) → option_map f o ≡ Some b → (a : A) × (o ≡ Some a) × (f a ≡ b)
map_is f None b is = absurd cc
map_is f (Some a) b is = (a, refl, some_is (f a) b is)

pub if_is : {A : Type 0} (test : Bool) (o : Option A) (a : A) → if_so test o ≡ Some a → (test ≡ true) × (o ≡ Some a)
if_is true o a is = (refl, is)
if_is false o a is = absurd cc

pub when_is : {A : Type 0} (test : Bool) (v a : A) → when test v ≡ Some a → (test ≡ true) × (v ≡ a)
when_is true v a is = (refl, some_is v a is)
when_is false v a is = absurd cc

-- ---- the bytes of pages

pub got_from_all : {X : Type 0} (P : X → Type 0) (xs : List X) (i : ℕ) (x : X) → All P xs → slice_get xs i ≡ Some x → P x
got_from_all P xs i x all is = subst P (get_or_from_slice_get xs i x x is) (All-get_or P xs i x (slice_get_within xs i x is) all)

pub item_bytes : (pages : List Content) (block off : ℕ) (c : Content) (x : List ℕ) → All IsPage pages
    → slice_get pages block ≡ Some c → item_at c.items off ≡ Some x → AreBytes x
item_bytes pages block off c x all there is = bytes off is
  where
    whole : IsPage c
    whole = got_from_all IsPage pages block c all there

    byte : IsItem x → AreBytes x
    byte item i = elim (cases_lt i (length x)) as (λ _. get_or x i 0 < 256) [
      | inl h ↦ All-get_or (λ b. b < 256) x i 0 h item.bytes
      | inr h ↦ rw (get_or_past x i 0 h) (omega arith)
    ]

    bytes : (off : ℕ) → item_at c.items off ≡ Some x → AreBytes x
    bytes zero is = absurd cc
    bytes (suc i) is = byte (got_from_all IsItem c.items i x whole.items is)
