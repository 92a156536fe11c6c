-- Packing is exact: what packed bytes are, and that they give the places back.
use Rattle.std.proofs.Common.{◌≡◌, refl, sym, ap, ap₂, ◌∙◌, ℕ, zero, suc, ◌+◌, ◌*◌, ◌/◌, ◌%◌, ◌-◌, ◌^◌, ◌<◌, ◌≤◌, List, [], ◌∷◌, ◌++◌, length, get_or, take, drop, arith, append_assoc, ⊎_elim}
use Rattle.std.specs.Prelude.{Bool, true, false, replicate, All}
use Rattle.std.proofs.Math.Nat.{pow-suc}
use Rattle.std.proofs.lemmas.Nat.{pow_pos, div-mul-add, mod-mul-add}
use Rattle.std.proofs.lemmas.List.{append-nil, take_all, drop_all, length-drop, nil_from_length, take-append-drop, replicate-append-replicate}
use Rattle.std.proofs.lemmas.List.Elements.{All-nil, All-cons, All-head, All-tail}
use Rattle.std.proofs.lemmas.Bool.{cases_lt}
use Rattle.bit_code.specs.Places.{places, unpacked, digit_of, number_of, packed_in, packed, Packed, Packs}
use Rattle.bit_code.proofs.PackedPlaces.{packed_view, packs_packed, packs_view}
use Rattle.bit_code.proofs.TalliedBytes.{view_count}
use Rattle.bit_code.proofs.PlaceParts.{places-split, low-places, places-zero}

number_of-below : (k : ℕ) (xs : List Bool) → number_of k xs < 2 ^ k
unfolding number_of
number_of-below zero xs = omega arith
number_of-below (suc k) [] = pow_pos (suc k)
number_of-below (suc k) (false ∷ xs) = omega (arith, pow-suc 2 k, number_of-below k xs)
number_of-below (suc k) (true ∷ xs) = omega (arith, pow-suc 2 k, number_of-below k xs)

one-place : (x : Bool) → places 1 (digit_of x) ≡ x ∷ []
unfolding places
one-place false = refl
one-place true = refl

-- the digits of a number made of places: what is lacking is 0
places-back : (k : ℕ) (xs : List Bool) → places k (number_of k xs) ≡ take k xs ++ replicate (k - length xs) false
unfolding number_of
places-back zero xs = let none : 0 ≡ 0 - length xs = omega arith in places-zero 0 ∙ ap (λ (n : ℕ). replicate n false) none
places-back (suc k) [] = let all : suc k ≡ suc k - 0 = omega arith in places-zero (suc k) ∙ ap (λ (n : ℕ). replicate n false) all
places-back (suc k) (x ∷ xs) =
    let n = digit_of x * 2 ^ k + number_of k xs in
    let small : number_of k xs < 2 ^ k = number_of-below k xs in
    let size : suc k ≡ k + 1 = omega arith in
    let same : 0 * 2 ^ k + number_of k xs ≡ number_of k xs = omega arith in
    let low : n % 2 ^ k ≡ number_of k xs % 2 ^ k =
    mod-mul-add (digit_of x) (2 ^ k) (number_of k xs) small
    ∙ sym (ap (λ (m : ℕ). m % 2 ^ k) (sym same) ∙ mod-mul-add 0 (2 ^ k) (number_of k xs) small) in
    let fill : k - length xs ≡ suc k - suc (length xs) = omega arith in
    places-split k 1 (suc k) n size
    ∙ ap₂ (λ (us vs : List Bool). us ++ vs)
    (ap (λ (m : ℕ). places 1 m) (div-mul-add (digit_of x) (2 ^ k) (number_of k xs) small) ∙ one-place x)
    (low-places k n (number_of k xs) low ∙ places-back k xs)
    ∙ ap (λ (m : ℕ). x ∷ (take k xs ++ replicate m false)) fill

-- eight places are taken from eight or more
spelled-many : (k : ℕ) (xs : List Bool) → (take 8 xs ++ replicate (8 - length xs) false) ++ (drop 8 xs ++ replicate (8 * k - length (drop 8 xs)) false) ≡ xs ++ replicate (8 * suc k - length xs) false
spelled-many k xs =
    ⊎_elim
    (λ (few : length xs < 8).
    let rest : 8 * k - length (drop 8 xs) ≡ 8 * k = omega (arith, few, length-drop 8 xs) in
    let sum : (8 - length xs) + 8 * k ≡ 8 * suc k - length xs = omega (arith, few) in
    ap₂ (λ (us vs : List Bool). (us ++ replicate (8 - length xs) false) ++ vs) (take_all 8 xs (omega (arith, few)))
    (ap₂ (λ (us : List Bool) (n : ℕ). us ++ replicate n false) (drop_all 8 xs (omega (arith, few))) rest)
    ∙ append_assoc xs (replicate (8 - length xs) false) (replicate (8 * k) false)
    ∙ ap (λ (us : List Bool). xs ++ us) (replicate-append-replicate (8 - length xs) (8 * k) false ∙ ap (λ (n : ℕ). replicate n false) sum))
    (λ (many : 8 ≤ length xs).
    let none : 8 - length xs ≡ 0 = omega (arith, many) in
    let rest : 8 * k - length (drop 8 xs) ≡ 8 * suc k - length xs = omega (arith, many, length-drop 8 xs) in
    ap₂ (λ (n m : ℕ). (take 8 xs ++ replicate n false) ++ (drop 8 xs ++ replicate m false)) none rest
    ∙ ap (λ (us : List Bool). us ++ (drop 8 xs ++ replicate (8 * suc k - length xs) false)) (append-nil (take 8 xs))
    ∙ sym (append_assoc (take 8 xs) (drop 8 xs) (replicate (8 * suc k - length xs) false))
    ∙ ap (λ (us : List Bool). us ++ replicate (8 * suc k - length xs) false) (take-append-drop 8 xs))
    (cases_lt (length xs) 8)

unpacked-packed_in : (k : ℕ) (xs : List Bool) → length xs ≤ 8 * k → unpacked (packed_in k xs) ≡ xs ++ replicate (8 * k - length xs) false
unfolding unpacked packed_in
unpacked-packed_in zero xs h =
    let none : xs ≡ [] = nil_from_length xs (omega (arith, h)) in
    let fill : 0 ≡ 0 - length xs = omega arith in
    ap₂ (λ (us : List Bool) (n : ℕ). us ++ replicate n false) (sym none) fill
unpacked-packed_in (suc k) xs h =
    ap₂ (λ (us vs : List Bool). us ++ vs) (places-back 8 xs) (unpacked-packed_in k (drop 8 xs) (omega (arith, h, length-drop 8 xs)))
    ∙ spelled-many k xs

length-packed_in : (k : ℕ) (xs : List Bool) → length (packed_in k xs) ≡ k
unfolding packed_in
length-packed_in zero xs = refl
length-packed_in (suc k) xs = ap (λ (n : ℕ). suc n) (length-packed_in k (drop 8 xs))

packed_in-below : (k : ℕ) (xs : List Bool) → All (λ b. b < 256) (packed_in k xs)
unfolding packed_in
packed_in-below zero xs = All-nil (λ b. b < 256)
packed_in-below (suc k) xs = All-cons (λ b. b < 256) (number_of 8 xs) (packed_in k (drop 8 xs)) (number_of-below 8 xs) (packed_in-below k (drop 8 xs))

-- ---- for the crates above

-- one byte for each eight places or part of eight
pub length-packed : (xs : List Bool) → length (packed xs) ≡ (length xs + 7) / 8
unfolding packed
length-packed xs = length-packed_in ((length xs + 7) / 8) xs

pub packed-below : (xs : List Bool) → All (λ b. b < 256) (packed xs)
unfolding packed
packed-below xs = packed_in-below ((length xs + 7) / 8) xs

pub packed-Packs : (xs : List Bool) → Packs xs (packed xs)
unfolding packed
packed-Packs xs =
    let k = (length xs + 7) / 8 in
    let long : length (packed_in k xs) ≡ k = length-packed_in k xs in
    record {
      long = long;
      spelled = unpacked-packed_in k xs (omega arith) ∙ ap (λ (n : ℕ). xs ++ replicate (8 * n - length xs) false) (sym long);
    }

-- what a value's bytes are, as `from_bytes`, `refill` and `is_packed` ask
pub packed-Packed : (xs : List Bool) → 1 ≤ length xs → length xs ≤ 64000 → Packed (length xs) (packed xs)
packed-Packed xs some few = packs_packed xs (packed xs) (packed-Packs xs) some few

pub unpacked-packed : (xs : List Bool) → take (length xs) (unpacked (packed xs)) ≡ xs
unpacked-packed xs = packs_view xs (packed xs) (packed-Packs xs)

-- values of one length with the same bytes are one
pub packed-same : (xs ys : List Bool) → length xs ≡ length ys → packed xs ≡ packed ys → xs ≡ ys
packed-same xs ys long same =
    sym (unpacked-packed xs) ∙ ap₂ (λ (n : ℕ) (bs : List ℕ). take n (unpacked bs)) long same ∙ unpacked-packed ys

-- the value of packed bytes has these bytes
pub packed-take : (c : ℕ) (bs : List ℕ) → Packed c bs → ((i : ℕ) → get_or bs i 0 < 256) → packed (take c (unpacked bs)) ≡ bs
packed-take c bs kept small = packed_view c bs (take c (unpacked bs)) kept small refl

-- and as many places as its count says
pub length-take : (c : ℕ) (bs : List ℕ) → Packed c bs → length (take c (unpacked bs)) ≡ c
length-take c bs kept = view_count c bs (take c (unpacked bs)) refl kept

-- every byte is below 256: read at each place
pub below-at : (bs : List ℕ) → All (λ b. b < 256) bs → (i : ℕ) → get_or bs i 0 < 256
below-at [] all i = omega arith
below-at (b ∷ bs) all zero = All-head (λ n. n < 256) b bs all
below-at (b ∷ bs) all (suc i) = below-at bs (All-tail (λ n. n < 256) b bs all) i
