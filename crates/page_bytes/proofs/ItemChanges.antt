-- An item that is changed where it stands.
use Rattle.std.proofs.Common.{◌≡◌, ℕ, ◌+◌, ◌*◌, ◌/◌, ◌%◌, ◌^◌, ◌<◌, ◌≤◌, List, ◌++◌, Option, Some, None, IsSomeAnd, length, get_or, take, drop, refl, sym, ap, ◌∙◌, arith, inl, inr}
use Rattle.std.proofs.lemmas.Bool.{cases_lt}
use Rattle.std.proofs.lemmas.List.{length-take, get_or-append-add, get_or_append_left, get_or_past}
use Rattle.page_bytes.specs.Splice.{spliced}
use Rattle.page_bytes.specs.Content.{item_at}
use Rattle.page_bytes.specs.Decoding.{content, word_at, named_by, IsSpelled}
use Rattle.page_bytes.proofs.Whole.{item_shown}
use Rattle.page_bytes.proofs.Changes.{Stands, stands}

pub is_there : {A : Type 0} (o : Option A) (P : A → Type 0) → IsSomeAnd o P → (x : A) × (o ≡ Some x) × P x
is_there None P h = absurd h
is_there (Some x) P h = (x, refl, h)

pub some_and : {A : Type 0} (o : Option A) (P : A → Type 0) (x : A) → o ≡ Some x → P x → IsSomeAnd o P
some_and o P x is h = rw is h

some_is : {A : Type 0} (x y : A) → Some x ≡ Some y → x ≡ y
some_is x y e = cc

pub stands_there : (bytes : List ℕ) (off : ℕ) (x : List ℕ) → item_at (content bytes).items off ≡ Some x → Stands (content bytes).items off (length x)
stands_there bytes off x is = stands (content bytes).items off (length x) (some_and (item_at (content bytes).items off) (λ y. length y ≡ length x) x is refl)

pub part_shown : (bytes : List ℕ) (off : ℕ) (x : List ℕ) (pointer : ℕ) → IsSpelled bytes → item_at (content bytes).items off ≡ Some x → pointer ≡ word_at bytes (20 + 4 * off)
    → take (pointer / 2 ^ 17) (drop (pointer % 2 ^ 15) bytes) ≡ x
unfolding named_by
part_shown bytes off x pointer s is at =
    let t = stands_there bytes off x is in
    ap (named_by bytes) at ∙ some_is _ _ (item_shown bytes off s t.low t.high ∙ is)

-- each of the bytes written at a place is one
pub part_byte : (bytes y : List ℕ) (at k : ℕ) → at ≤ length bytes → ((i : ℕ) → get_or (spliced bytes at y) i 0 < 256) → get_or y k 0 < 256
unfolding spliced
part_byte bytes y at k le all =
    elim (cases_lt k (length y)) [
      | inl lt ↦
          let rest : List ℕ = drop (at + length y) bytes in
          let long : length (take at bytes) ≡ at = omega (arith, length-take at bytes) in
          let is : get_or (take at bytes ++ (y ++ rest)) (at + k) 0 ≡ get_or y k 0 = ap (λ n. get_or (take at bytes ++ (y ++ rest)) (n + k) 0) (sym long) ∙ get_or-append-add (take at bytes) (y ++ rest) k 0 ∙ get_or_append_left y rest 0 k lt in
          omega (arith, all (at + k), is)
      | inr le ↦ omega (arith, get_or_past y k 0 le)
    ]
