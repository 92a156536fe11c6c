-- What items show, one item after the other; and slots of a list that are taken one after the other.
use Rattle.std.proofs.Common.{◌≡◌, ℕ, zero, suc, ◌+◌, ◌<◌, ◌≤◌, List, [], ◌∷◌, ◌++◌, length, get_or, take, drop, Some, sym, ap, ◌∙◌, append_assoc, arith}
use Rattle.std.specs.Prelude.{slice_get}
use Rattle.std.proofs.lemmas.List.{append-nil, drop_all}
use Rattle.std.proofs.lemmas.Option.{slice_get-get_or}
use Rattle.page_bytes.specs.Content.{item_at}
use Rattle.page_sets.specs.Telling.{all_shown}

-- ---- what items show

shown_next : {B : Type 0} (show : ℕ → List ℕ → List B) (k j : ℕ) (items : List (List ℕ)) (x : List ℕ) → slice_get items j ≡ Some x
    → all_shown show k (drop j items) ≡ show k x ++ all_shown show (k + 1) (drop (j + 1) items)
shown_next show k j [] x is = absurd cc
shown_next show k zero (y ∷ items) x is =
    let same : y ≡ x = same_item y x is in
    ap (λ (z : List ℕ). show k z ++ all_shown show (k + 1) items) same
  where
    same_item : (a b : List ℕ) → Some a ≡ Some b → a ≡ b
    same_item a b e = cc
shown_next show k (suc j) (y ∷ items) x is =
    let next : suc j + 1 ≡ suc (j + 1) = omega arith in
    shown_next show k j items x is ∙ ap (λ (n : ℕ). show k x ++ all_shown show (k + 1) (drop n (y ∷ items))) (sym next)

-- the item behind so many shows what it does
pub one_more : {B : Type 0} (show : ℕ → List ℕ → List B) (k j : ℕ) (items : List (List ℕ)) (told after total : List B) → j < length items
    → told ++ all_shown show k (drop j items) ≡ total → ((x : List ℕ) → item_at items (j + 1) ≡ Some x → after ≡ told ++ show k x)
    → after ++ all_shown show (k + 1) (drop (j + 1) items) ≡ total
one_more show k j items told after total low so_far more =
    let x = get_or items j [] in
    let there : slice_get items j ≡ Some x = slice_get-get_or items j [] low in
    let off : j + 1 ≡ suc j = omega arith in
    let now : after ≡ told ++ show k x = more x (ap (item_at items) off ∙ there) in
    ap (λ (l : List _). l ++ all_shown show (k + 1) (drop (j + 1) items)) now
    ∙ append_assoc told (show k x) (all_shown show (k + 1) (drop (j + 1) items))
    ∙ ap (λ (l : List _). told ++ l) (sym (shown_next show k j items x there)) ∙ so_far

pub ended : {B : Type 0} (show : ℕ → List ℕ → List B) (k j : ℕ) (items : List (List ℕ)) (told total : List B) → length items ≤ j
    → told ++ all_shown show k (drop j items) ≡ total → told ≡ total
ended show k j items told total past so_far =
    sym (append-nil told) ∙ ap (λ (l : List (List ℕ)). told ++ all_shown show k l) (sym (drop_all j items past)) ∙ so_far

-- ---- parts of a list

pub take_more : {X : Type 0} (xs : List X) (from n : ℕ) (x : X) → slice_get xs (from + n) ≡ Some x
    → take (suc n) (drop from xs) ≡ take n (drop from xs) ++ x ∷ []
take_more [] from n x is = absurd cc
take_more (y ∷ xs) zero zero x is = ap (λ (z : _). z ∷ []) (same_item y x (ap (slice_get (y ∷ xs)) none ∙ is))
  where
    none : 0 ≡ 0 + 0
    none = omega arith

    same_item : {X : Type 0} (a b : X) → Some a ≡ Some b → a ≡ b
    same_item a b e = cc
take_more (y ∷ xs) zero (suc n) x is =
    let next : suc n ≡ 0 + suc n = omega arith in
    let same : 0 + n ≡ n = omega arith in
    ap (λ (l : List _). y ∷ l) (take_more xs 0 n x (ap (slice_get xs) same ∙ ap (slice_get (y ∷ xs)) next ∙ is))
take_more (y ∷ xs) (suc from) n x is =
    let next : suc (from + n) ≡ suc from + n = omega arith in
    take_more xs from n x (ap (slice_get (y ∷ xs)) next ∙ is)
