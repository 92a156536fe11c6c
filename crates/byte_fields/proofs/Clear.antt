-- Packed bytes are those with no unused bit set.
use Rattle.std.proofs.Common.{◌≡◌, ℕ, zero, suc, ◌+◌, ◌-◌, ◌*◌, ◌/◌, ◌≤◌, Bool, true, false, not, ◌↔◌, List, [], ◌∷◌, length, drop, refl, ap, ◌∙◌, arith, inl, inr}
use Rattle.std.specs.Prelude.{IsTrue, replicate}
use Rattle.std.specs.List.{list_all}
use Rattle.std.proofs.lemmas.Bool.{cases_Bool, iff_false}
use Rattle.std.proofs.lemmas.List.{length-append, length-drop}
use Rattle.bit_code.specs.Places.{places, unpacked, Packed}

length-places : (k n : ℕ) → length (places k n) ≡ k
unfolding places
length-places zero n = refl
length-places (suc k) n = length-append (places k (n / 2)) _ ∙ omega (arith, length-places k (n / 2))

length-unpacked : (bs : List ℕ) → length (unpacked bs) ≡ 8 * length bs
unfolding unpacked
length-unpacked [] = refl
length-unpacked (b ∷ bs) = length-append (places 8 b) (unpacked bs) ∙ omega (arith, length-places 8 b, length-unpacked bs)

all_false : (xs : List Bool) → list_all not xs ≡ true → xs ≡ replicate (length xs) false
all_false [] h = refl
all_false (true ∷ xs) h = absurd cc
all_false (false ∷ xs) h = ap (λ ys. false ∷ ys) (all_false xs h)

falses_clear : (n : ℕ) → list_all not (replicate n false) ≡ true
falses_clear zero = refl
falses_clear (suc n) = falses_clear n

pub clear_packed : (count : ℕ) (bs : List ℕ) → Packed count bs → list_all not (drop count (unpacked bs)) ≡ true
clear_packed count bs kept = ap (λ xs. list_all not xs) kept.clear ∙ falses_clear (8 * length bs - count)

pub packed_clear : (count : ℕ) (bs : List ℕ) → 1 ≤ count → count ≤ 64000 → length bs ≡ (count + 7) / 8 → list_all not (drop count (unpacked bs)) ≡ true → Packed count bs
packed_clear count bs some few long clear = record {
  some = some;
  few = few;
  long = long;
  clear = all_false _ clear ∙ ap (λ n. replicate n false) (length-drop count (unpacked bs) ∙ ap (λ n. n - count) (length-unpacked bs));
}

-- what tells whether bytes are packed tells whether they are clear
pub clear_told : (count : ℕ) (bs : List ℕ) (r : Bool) → 1 ≤ count → count ≤ 64000 → length bs ≡ (count + 7) / 8 → (IsTrue r ↔ Packed count bs) → list_all not (drop count (unpacked bs)) ≡ r
clear_told count bs true some few long tells = clear_packed count bs (tells.0 refl)
clear_told count bs false some few long tells =
    elim (cases_Bool (list_all not (drop count (unpacked bs)))) [
      | inl clear ↦ absurd (iff_false tells refl (packed_clear count bs some few long clear))
      | inr set ↦ set
    ]
