-- Places, packed bytes, and single places of them.
use Rattle.std.proofs.Common.{◌≡◌, refl, sym, ap, ap₂, ◌∙◌, subst, ℕ, zero, suc, ◌+◌, ◌*◌, ◌/◌, ◌%◌, ◌-◌, ◌^◌, ◌<◌, ◌≤◌, List, [], ◌∷◌, ◌++◌, length, get_or, take, drop, arith, add-one, append_assoc, Some, slice_get, ⊎_elim}
use Rattle.std.specs.Prelude.{Bool, true, false, ◌==◌, replicate}
use Rattle.std.proofs.Math.Nat.{pow-suc}
use Rattle.std.proofs.Math.Seq.{drop-nil, drop-append_seam}
use Rattle.std.proofs.lemmas.Nat.{shr-shr, shr_below}
use Rattle.std.proofs.lemmas.List.{append-nil, take-append-drop, take_at}
use Rattle.std.proofs.lemmas.Bool.{cases_lt}
use Rattle.bit_code.specs.Places.{places, unpacked, digit_of, number_of, packed_in, packed, Packed, Packs, tally, one_if_both, ones}
use Rattle.bit_code.proofs.TalliedBytes.{length-places, unpacked-append, view_count}

-- ---- numbers and their digits

pub number_of-append : (k : ℕ) (xs ys : List Bool) → length xs ≡ k → number_of k (xs ++ ys) ≡ number_of k xs
unfolding number_of
number_of-append zero xs ys h = refl
number_of-append (suc k) [] ys h = absurd (omega (arith, h))
number_of-append (suc k) (x ∷ xs) ys h = ap (λ (n : ℕ). digit_of x * 2 ^ k + n) (number_of-append k xs ys (omega (arith, h)))

-- one digit more at the end
number_of-push : (k : ℕ) (xs : List Bool) (d : Bool) → length xs ≡ k → number_of (suc k) (xs ++ d ∷ []) ≡ 2 * number_of k xs + digit_of d
unfolding number_of
number_of-push zero [] d h = omega arith
number_of-push zero (x ∷ xs) d h = absurd (omega (arith, h))
number_of-push (suc k) [] d h = absurd (omega (arith, h))
number_of-push (suc k) (false ∷ xs) d h = omega (arith, number_of-push k xs d (omega (arith, h)), pow-suc 2 k)
number_of-push (suc k) (true ∷ xs) d h = omega (arith, number_of-push k xs d (omega (arith, h)), pow-suc 2 k)

digit_is : (r : ℕ) → r < 2 → digit_of (r == 1) ≡ r
digit_is zero h = refl
digit_is (suc zero) h = refl
digit_is (suc (suc r)) h = absurd (omega (arith, h))

pub number_of-places : (k n : ℕ) → n < 2 ^ k → number_of k (places k n) ≡ n
unfolding number_of places
number_of-places zero n h = omega (arith, h)
number_of-places (suc k) n h =
    let half : n / 2 < 2 ^ k = shr_below n k 1 (subst (λ (x : ℕ). n < 2 ^ x) (sym (add-one k)) h) in
    let small : n % 2 < 2 = omega arith in
    omega (arith, number_of-push k (places k (n / 2)) (n % 2 == 1) (length-places k (n / 2)), number_of-places k (n / 2) half, digit_is (n % 2) small)

number_of-none : (k : ℕ) → number_of k [] ≡ 0
unfolding number_of
number_of-none zero = refl
number_of-none (suc k) = refl

number_of-false : (k : ℕ) (xs : List Bool) → number_of k (xs ++ false ∷ []) ≡ number_of k xs
unfolding number_of
number_of-false zero xs = refl
number_of-false (suc k) [] = omega (arith, number_of-none k)
number_of-false (suc k) (x ∷ xs) = ap (λ (n : ℕ). digit_of x * 2 ^ k + n) (number_of-false k xs)

-- ---- packed bytes

pub packed_in-unpacked : (bs : List ℕ) → ((i : ℕ) → get_or bs i 0 < 256) → packed_in (length bs) (unpacked bs) ≡ bs
unfolding packed_in unpacked
packed_in-unpacked [] small = refl
packed_in-unpacked (b ∷ bs) small =
    let first : number_of 8 (places 8 b ++ unpacked bs) ≡ b = number_of-append 8 (places 8 b) (unpacked bs) (length-places 8 b) ∙ number_of-places 8 b (small 0) in
    let seam : drop 8 (places 8 b ++ unpacked bs) ≡ unpacked bs =
    subst (λ (n : ℕ). drop n (places 8 b ++ unpacked bs) ≡ unpacked bs) (length-places 8 b) (drop-append_seam (places 8 b) (unpacked bs)) in
    ap₂ (λ (n : ℕ) (ns : List ℕ). n ∷ ns) first (ap (λ (xs : List Bool). packed_in (length bs) xs) seam ∙ packed_in-unpacked bs (λ i. small (suc i)))

false_past : (f : List Bool → List ℕ) → ((xs : List Bool) → f (xs ++ false ∷ []) ≡ f xs) → (n : ℕ) (xs : List Bool) → f (drop n (xs ++ false ∷ [])) ≡ f (drop n xs)
false_past f same zero xs = same xs
false_past f same (suc n) [] = ap f (drop-nil n)
false_past f same (suc n) (x ∷ xs) = false_past f same n xs

-- places of 0 at the end change nothing
packed_in-false : (k : ℕ) (xs : List Bool) → packed_in k (xs ++ false ∷ []) ≡ packed_in k xs
unfolding packed_in
packed_in-false zero xs = refl
packed_in-false (suc k) xs = ap₂ (λ (n : ℕ) (ns : List ℕ). n ∷ ns) (number_of-false 8 xs) (false_past (λ ys. packed_in k ys) (packed_in-false k) 8 xs)

packed_in-falses : (k m : ℕ) (xs : List Bool) → packed_in k (xs ++ replicate m false) ≡ packed_in k xs
packed_in-falses k zero xs = ap (λ (ys : List Bool). packed_in k ys) (append-nil xs)
packed_in-falses k (suc m) xs =
    ap (λ (ys : List Bool). packed_in k ys) (sym (append_assoc xs (false ∷ []) (replicate m false)))
    ∙ packed_in-falses k m (xs ++ false ∷ []) ∙ packed_in-false k xs

-- a packed value's bytes are those of its places
pub packed_view : (c : ℕ) (bs : List ℕ) (xs : List Bool) → Packed c bs → ((i : ℕ) → get_or bs i 0 < 256) → take c (unpacked bs) ≡ xs → packed xs ≡ bs
unfolding packed
packed_view c bs xs kept small view =
    let many : length xs ≡ c = view_count c bs xs view kept in
    let size : (length xs + 7) / 8 ≡ length bs = ap (λ (n : ℕ). (n + 7) / 8) many ∙ sym kept.long in
    let whole : xs ++ replicate (8 * length bs - c) false ≡ unpacked bs =
    ap₂ (λ (us vs : List Bool). us ++ vs) (sym view) (sym kept.clear) ∙ take-append-drop c (unpacked bs) in
    ap (λ (n : ℕ). packed_in n xs) size
    ∙ sym (packed_in-falses (length bs) (8 * length bs - c) xs)
    ∙ ap (λ (ys : List Bool). packed_in (length bs) ys) whole
    ∙ packed_in-unpacked bs small

-- ---- single places

slice_get-append : {X : Type 0} (xs ys : List X) (i : ℕ) → i < length xs → slice_get (xs ++ ys) i ≡ slice_get xs i
slice_get-append [] ys i h = absurd (omega (arith, h))
slice_get-append (x ∷ xs) ys zero h = refl
slice_get-append (x ∷ xs) ys (suc i) h = slice_get-append xs ys i (omega (arith, h))

slice_get-past : {X : Type 0} (xs ys : List X) (i : ℕ) → slice_get (xs ++ ys) (length xs + i) ≡ slice_get ys i
slice_get-past [] ys i = let e : 0 + i ≡ i = omega arith in ap (λ (j : ℕ). slice_get ys j) e
slice_get-past (x ∷ xs) ys i =
    let e : suc (length xs) + i ≡ suc (length xs + i) = omega arith in
    ap (λ (j : ℕ). slice_get (x ∷ (xs ++ ys)) j) e ∙ slice_get-past xs ys i

slice_get-take : {X : Type 0} (n : ℕ) (xs : List X) (i : ℕ) → i < n → slice_get (take n xs) i ≡ slice_get xs i
slice_get-take zero xs i h = absurd (omega (arith, h))
slice_get-take (suc n) [] i h = refl
slice_get-take (suc n) (x ∷ xs) zero h = refl
slice_get-take (suc n) (x ∷ xs) (suc i) h = slice_get-take n xs i (omega (arith, h))

place_last : (k n i : ℕ) → i < suc (suc k) → suc k ≤ i → slice_get (places (suc k) (n / 2) ++ (n % 2 == 1) ∷ []) i ≡ Some (n / 2 ^ (suc k - i) % 2 == 1)
place_last k n i h past =
    let at : length (places (suc k) (n / 2)) + 0 ≡ i = omega (arith, past, h, length-places (suc k) (n / 2)) in
    let none : 0 ≡ suc k - i = omega (arith, past) in
    let one : n ≡ n / 1 = omega arith in
    subst (λ (j : ℕ). slice_get (places (suc k) (n / 2) ++ (n % 2 == 1) ∷ []) j ≡ Some (n % 2 == 1)) at (slice_get-past (places (suc k) (n / 2)) ((n % 2 == 1) ∷ []) 0)
    ∙ ap (λ (m : ℕ). Some (m % 2 == 1)) (one ∙ ap (λ (j : ℕ). n / 2 ^ j) none)

place_inner : (k n i : ℕ) → (i < suc k → slice_get (places (suc k) (n / 2)) i ≡ Some (n / 2 / 2 ^ (k - i) % 2 == 1)) → i < suc k → slice_get (places (suc k) (n / 2) ++ (n % 2 == 1) ∷ []) i ≡ Some (n / 2 ^ (suc k - i) % 2 == 1)
place_inner k n i fewer within =
    let power : 1 + (k - i) ≡ suc k - i = omega arith in
    slice_get-append (places (suc k) (n / 2)) ((n % 2 == 1) ∷ []) i (omega (arith, within, length-places (suc k) (n / 2)))
    ∙ fewer within
    ∙ ap (λ (m : ℕ). Some (m % 2 == 1)) (shr-shr n 1 (k - i) ∙ ap (λ (j : ℕ). n / 2 ^ j) power)

place_more : (k n i : ℕ) → i < suc (suc k) → (i < suc k → slice_get (places (suc k) (n / 2)) i ≡ Some (n / 2 / 2 ^ (k - i) % 2 == 1)) → slice_get (places (suc (suc k)) n) i ≡ Some (n / 2 ^ (suc k - i) % 2 == 1)
unfolding places
place_more k n i h fewer = ⊎_elim (place_inner k n i fewer) (place_last k n i h) (cases_lt i (suc k))

-- place i of k + 1 digits
pub slice_get-places : (k n i : ℕ) → i < suc k → slice_get (places (suc k) n) i ≡ Some (n / 2 ^ (k - i) % 2 == 1)
unfolding places
slice_get-places zero n zero h = let e : n / 1 ≡ n = omega arith in ap (λ (m : ℕ). Some (m % 2 == 1)) (sym e)
slice_get-places zero n (suc i) h = absurd (omega (arith, h))
slice_get-places (suc k) n i h = place_more k n i h (slice_get-places k (n / 2) i)

-- place r of byte q
slice_get-unpacked : (bs : List ℕ) (q r : ℕ) → q < length bs → r < 8 → slice_get (unpacked bs) (8 * q + r) ≡ slice_get (places 8 (get_or bs q 0)) r
unfolding unpacked
slice_get-unpacked [] q r h small = absurd (omega (arith, h))
slice_get-unpacked (b ∷ bs) zero r h small =
    let at : 8 * 0 + r ≡ r = omega arith in
    ap (λ (j : ℕ). slice_get (places 8 b ++ unpacked bs) j) at ∙ slice_get-append (places 8 b) (unpacked bs) r (omega (arith, small, length-places 8 b))
slice_get-unpacked (b ∷ bs) (suc q) r h small =
    let at : 8 * suc q + r ≡ length (places 8 b) + (8 * q + r) = omega (arith, length-places 8 b) in
    ap (λ (j : ℕ). slice_get (places 8 b ++ unpacked bs) j) at
    ∙ slice_get-past (places 8 b) (unpacked bs) (8 * q + r)
    ∙ slice_get-unpacked bs q r (omega (arith, h)) small

pub get_or_default : (xs : List ℕ) (i d e : ℕ) → i < length xs → get_or xs i d ≡ get_or xs i e
get_or_default [] i d e h = absurd (omega (arith, h))
get_or_default (x ∷ xs) zero d e h = refl
get_or_default (x ∷ xs) (suc i) d e h = get_or_default xs i d e (omega (arith, h))

-- place i of a packed value is a place of its byte i / 8
pub slice_get-view : (c : ℕ) (bs : List ℕ) (xs : List Bool) (i b : ℕ) → take c (unpacked bs) ≡ xs → Packed c bs → i < length xs → b ≡ get_or bs (i / 8) b → slice_get xs i ≡ slice_get (places 8 b) (i % 8)
slice_get-view c bs xs i b view kept within is =
    let many : length xs ≡ c = view_count c bs xs view kept in
    let inside : i < c = omega (arith, many, within) in
    let here : i / 8 < length bs = omega (arith, kept.long, inside) in
    let at : i ≡ 8 * (i / 8) + i % 8 = omega arith in
    let small : i % 8 < 8 = omega arith in
    ap (λ (ys : List Bool). slice_get ys i) (sym view)
    ∙ slice_get-take c (unpacked bs) i inside
    ∙ ap (λ (j : ℕ). slice_get (unpacked bs) j) at
    ∙ slice_get-unpacked bs (i / 8) (i % 8) here small
    ∙ ap (λ (n : ℕ). slice_get (places 8 n) (i % 8)) (get_or_default bs (i / 8) 0 b here ∙ sym is)

-- ---- packing

-- one character more of a byte
pub places-push : (k n d : ℕ) → d < 2 → places (suc k) (n * 2 + d) ≡ places k n ++ (d == 1) ∷ []
unfolding places
places-push k n d small =
    let half : (n * 2 + d) / 2 ≡ n = omega (arith, small) in
    let rest : (n * 2 + d) % 2 ≡ d = omega (arith, small) in
    ap₂ (λ (a b : ℕ). places k a ++ (b == 1) ∷ []) half rest

pub packs_packed : (xs : List Bool) (bs : List ℕ) → Packs xs bs → 1 ≤ length xs → length xs ≤ 64000 → Packed (length xs) bs
packs_packed xs bs packs some few = record {
  some = some;
  few = few;
  long = packs.long;
  clear = ap (λ (us : List Bool). drop (length xs) us) packs.spelled ∙ drop-append_seam xs (replicate (8 * length bs - length xs) false);
}

pub packs_view : (xs : List Bool) (bs : List ℕ) → Packs xs bs → take (length xs) (unpacked bs) ≡ xs
packs_view xs bs packs = ap (λ (us : List Bool). take (length xs) us) packs.spelled ∙ take_at xs (replicate (8 * length bs - length xs) false) (length xs) refl

-- ---- packing a text

pub places_none : (n : ℕ) → places 0 n ≡ []
unfolding places
places_none n = refl

pub unpacked-one : (b : ℕ) → unpacked (b ∷ []) ≡ places 8 b
unfolding unpacked
unpacked-one b = append-nil (places 8 b)

pub unpacked_none : unpacked [] ≡ []
unfolding unpacked
unpacked_none = refl

-- one byte more
pub unpacked-push : (bs : List ℕ) (b : ℕ) (xs ys : List Bool) → unpacked bs ≡ xs → places 8 b ≡ ys → unpacked (bs ++ b ∷ []) ≡ xs ++ ys
unpacked-push bs b xs ys so_far here = unpacked-append bs (b ∷ []) ∙ ap₂ (λ (us vs : List Bool). us ++ vs) so_far (unpacked-one b ∙ here)

-- ---- counting

pub both-self : (xs : List Bool) → tally one_if_both xs xs ≡ ones xs
unfolding tally ones
both-self [] = refl
both-self (false ∷ xs) = ap (λ (n : ℕ). 0 + n) (both-self xs)
both-self (true ∷ xs) = ap (λ (n : ℕ). 1 + n) (both-self xs)
