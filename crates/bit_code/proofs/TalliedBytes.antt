-- From set bits of words to counts over the places of two lists.
use Rattle.std.proofs.Common.{◌≡◌, refl, sym, ap, ap₂, ◌∙◌, subst, ℕ, zero, suc, ◌+◌, ◌*◌, ◌/◌, ◌%◌, ◌^◌, ◌<◌, ◌≤◌, List, [], ◌∷◌, ◌++◌, length, get_or, take, drop, arith, add-one, append_assoc, length-append}
use Rattle.std.specs.Prelude.{Bool, true, false, ◌==◌, replicate}
use Rattle.std.specs.Int.{w64, from_le_bytes}
use Rattle.std.specs.Int.Bits.{bit_xor, bit_and}
use Rattle.std.specs.Int.Count.{ones}
use Rattle.std.specs.Simd.{first_chunks}
use Rattle.std.specs.Simd.Lanes.{number_l}
use Rattle.std.proofs.lemmas.Nat.{ones_cat, xor_block, xor_lt, and_block, and_le_l, shr_below, div-add-mod'}
use Rattle.std.proofs.Math.Seq.{take-add, drop-cons}
use Rattle.std.proofs.lemmas.List.{length-take-le, take-append-drop, drop-drop}
use Rattle.std.specs.Prelude.{◌-◌}
use Rattle.bit_code.specs.Places.{places, unpacked, one_if_unequal, one_if_both, tally, Packed}

pub length-places : (k n : ℕ) → length (places k n) ≡ k
unfolding places
length-places zero n = refl
length-places (suc k) n = length-append (places k (n / 2)) ((n % 2 == 1) ∷ []) ∙ ap (λ (x : ℕ). x + 1) (length-places k (n / 2)) ∙ add-one k

pub length-unpacked : (bs : List ℕ) → length (unpacked bs) ≡ 8 * length bs
unfolding unpacked
length-unpacked [] = refl
length-unpacked (b ∷ bs) = omega (arith, length-append (places 8 b) (unpacked bs), length-places 8 b, length-unpacked bs)

pub unpacked-append : (xs ys : List ℕ) → unpacked (xs ++ ys) ≡ unpacked xs ++ unpacked ys
unfolding unpacked
unpacked-append [] ys = refl
unpacked-append (x ∷ xs) ys = ap (λ (t : List Bool). places 8 x ++ t) (unpacked-append xs ys) ∙ sym (append_assoc (places 8 x) (unpacked xs) (unpacked ys))

pub tally-append : (f : Bool → Bool → ℕ) (xs ys zs ws : List Bool) → length xs ≡ length ys → tally f (xs ++ zs) (ys ++ ws) ≡ tally f xs ys + tally f zs ws
unfolding tally
tally-append f [] [] zs ws h = omega arith
tally-append f [] (y ∷ ys) zs ws h = absurd (omega (arith, h))
tally-append f (x ∷ xs) [] zs ws h = absurd (omega (arith, h))
tally-append f (x ∷ xs) (y ∷ ys) zs ws h = omega (arith, tally-append f xs ys zs ws (omega (arith, h)))

-- ---- an operation on numbers that counts such places

-- f of two places of one digit is the set bits of op, which works on each digit apart
pub record CountsBy (op : ℕ → ℕ → ℕ) (f : Bool → Bool → ℕ) : Type 0 where
  pub blocks : (k a b x y : ℕ) → x < 2 ^ k → y < 2 ^ k → op (a * 2 ^ k + x) (b * 2 ^ k + y) ≡ op a b * 2 ^ k + op x y
  pub small : (k x y : ℕ) → x < 2 ^ k → y < 2 ^ k → op x y < 2 ^ k
  pub digits : (r s : ℕ) → r < 2 → s < 2 → ones (op r s) ≡ f (r == 1) (s == 1)
  pub clear : op 0 0 ≡ 0

xor-digits : (r s : ℕ) → r < 2 → s < 2 → ones (bit_xor r s) ≡ one_if_unequal (r == 1) (s == 1)
unfolding ones
xor-digits zero zero p q = refl
xor-digits zero (suc zero) p q = refl
xor-digits (suc zero) zero p q = refl
xor-digits (suc zero) (suc zero) p q = refl
xor-digits zero (suc (suc s)) p q = absurd (omega (arith, q))
xor-digits (suc zero) (suc (suc s)) p q = absurd (omega (arith, q))
xor-digits (suc (suc r)) s p q = absurd (omega (arith, p))

and-digits : (r s : ℕ) → r < 2 → s < 2 → ones (bit_and r s) ≡ one_if_both (r == 1) (s == 1)
unfolding ones
and-digits zero zero p q = refl
and-digits zero (suc zero) p q = refl
and-digits (suc zero) zero p q = refl
and-digits (suc zero) (suc zero) p q = refl
and-digits zero (suc (suc s)) p q = absurd (omega (arith, q))
and-digits (suc zero) (suc (suc s)) p q = absurd (omega (arith, q))
and-digits (suc (suc r)) s p q = absurd (omega (arith, p))

pub xor-unequal : CountsBy bit_xor one_if_unequal
xor-unequal = record { blocks = λ k a b x y. xor_block k a b x y; small = λ k x y. xor_lt k x y; digits = λ r s. xor-digits r s; clear = refl }

pub and-both : CountsBy bit_and one_if_both
and-both = record { blocks = λ k a b x y. and_block k a b x y; small = λ k x y p q. omega (arith, p, and_le_l x y); digits = λ r s. and-digits r s; clear = refl }

digit-below : (n : ℕ) → n % 2 < 2
digit-below n = omega arith

ones-split : (op : ℕ → ℕ → ℕ) (f : Bool → Bool → ℕ) → CountsBy op f → (a b : ℕ) → ones (op a b) ≡ ones (op (a / 2) (b / 2)) + ones (op (a % 2) (b % 2))
ones-split op f by a b =
    ap₂ (λ (x y : ℕ). ones (op x y)) (sym (div-add-mod' a 2)) (sym (div-add-mod' b 2))
    ∙ ap ones (by.blocks 1 (a / 2) (b / 2) (a % 2) (b % 2) (digit-below a) (digit-below b))
    ∙ ones_cat 1 (op (a / 2) (b / 2)) (op (a % 2) (b % 2)) (by.small 1 (a % 2) (b % 2) (digit-below a) (digit-below b))

half-below : (k a : ℕ) → a < 2 ^ suc k → a / 2 < 2 ^ k
half-below k a p = shr_below a k 1 (subst (λ (x : ℕ). a < 2 ^ x) (sym (add-one k)) p)

-- set bits of op are the places that f counts
pub tally-places : (op : ℕ → ℕ → ℕ) (f : Bool → Bool → ℕ) → CountsBy op f → (k a b : ℕ) → a < 2 ^ k → b < 2 ^ k → tally f (places k a) (places k b) ≡ ones (op a b)
unfolding places tally ones
tally-places op f by zero a b p q =
    let ea : a ≡ 0 = omega (arith, p) in
    let eb : b ≡ 0 = omega (arith, q) in
    sym (ap₂ (λ (x y : ℕ). ones (op x y)) ea eb ∙ ap ones by.clear)
tally-places op f by (suc k) a b p q =
    let last : f (a % 2 == 1) (b % 2 == 1) ≡ ones (op (a % 2) (b % 2)) = sym (by.digits (a % 2) (b % 2) (digit-below a) (digit-below b)) in
    omega (
      arith,
      tally-append f (places k (a / 2)) (places k (b / 2)) ((a % 2 == 1) ∷ []) ((b % 2 == 1) ∷ []) (length-places k (a / 2) ∙ sym (length-places k (b / 2))),
      tally-places op f by k (a / 2) (b / 2) (half-below k a p) (half-below k b q),
      ones-split op f by a b,
      last,
    )

-- and so for the numbers that two lists of bytes write, lowest first
tally-numbers : (op : ℕ → ℕ → ℕ) (f : Bool → Bool → ℕ) → CountsBy op f → (xs ys : List ℕ) → length xs ≡ length ys → ((i : ℕ) → get_or xs i 0 < 256) → ((i : ℕ) → get_or ys i 0 < 256)
    → tally f (unpacked xs) (unpacked ys) ≡ ones (op (number_l 256 xs) (number_l 256 ys))
unfolding unpacked tally ones
tally-numbers op f by [] [] h p q = sym (ap ones by.clear)
tally-numbers op f by [] (y ∷ ys) h p q = absurd (omega (arith, h))
tally-numbers op f by (x ∷ xs) [] h p q = absurd (omega (arith, h))
tally-numbers op f by (x ∷ xs) (y ∷ ys) h p q =
    let n = number_l 256 xs in
    let m = number_l 256 ys in
    let rest : tally f (unpacked xs) (unpacked ys) ≡ ones (op n m) = tally-numbers op f by xs ys (omega (arith, h)) (λ i. p (suc i)) (λ i. q (suc i)) in
    let first : tally f (places 8 x) (places 8 y) ≡ ones (op x y) = tally-places op f by 8 x y (p 0) (q 0) in
    let joined : tally f (places 8 x ++ unpacked xs) (places 8 y ++ unpacked ys) ≡ tally f (places 8 x) (places 8 y) + tally f (unpacked xs) (unpacked ys) =
    tally-append f (places 8 x) (places 8 y) (unpacked xs) (unpacked ys) (length-places 8 x ∙ sym (length-places 8 y)) in
    let turned : ones (op (x + 256 * n) (y + 256 * m)) ≡ ones (op (n * 2 ^ 8 + x) (m * 2 ^ 8 + y)) =
    let ex : x + 256 * n ≡ n * 2 ^ 8 + x = omega arith in
    let ey : y + 256 * m ≡ m * 2 ^ 8 + y = omega arith in
    ap₂ (λ (s t : ℕ). ones (op s t)) ex ey in
    let parts : ones (op (n * 2 ^ 8 + x) (m * 2 ^ 8 + y)) ≡ ones (op n m) + ones (op x y) =
    ap ones (by.blocks 8 n m x y (p 0) (q 0)) ∙ ones_cat 8 (op n m) (op x y) (by.small 8 x y (p 0) (q 0)) in
    omega (arith, rest, first, joined, turned, parts)

-- a word read from its eight bytes is that number
pub word-number : (bs : List ℕ) → length bs ≡ 8 → from_le_bytes w64 bs ≡ number_l 256 bs
word-number [] e = absurd (omega (arith, e))
word-number (a ∷ []) e = absurd (omega (arith, e))
word-number (a ∷ b ∷ []) e = absurd (omega (arith, e))
word-number (a ∷ b ∷ c ∷ []) e = absurd (omega (arith, e))
word-number (a ∷ b ∷ c ∷ d ∷ []) e = absurd (omega (arith, e))
word-number (a ∷ b ∷ c ∷ d ∷ f ∷ []) e = absurd (omega (arith, e))
word-number (a ∷ b ∷ c ∷ d ∷ f ∷ g ∷ []) e = absurd (omega (arith, e))
word-number (a ∷ b ∷ c ∷ d ∷ f ∷ g ∷ h ∷ []) e = absurd (omega (arith, e))
word-number (a ∷ b ∷ c ∷ d ∷ f ∷ g ∷ h ∷ i ∷ []) e = omega arith
word-number (a ∷ b ∷ c ∷ d ∷ f ∷ g ∷ h ∷ i ∷ j ∷ r) e = absurd (omega (arith, e))

pub tally-words : (op : ℕ → ℕ → ℕ) (f : Bool → Bool → ℕ) → CountsBy op f → (xs ys : List ℕ) → length xs ≡ 8 → length ys ≡ 8 → ((i : ℕ) → get_or xs i 0 < 256) → ((i : ℕ) → get_or ys i 0 < 256)
    → ones (op (from_le_bytes w64 xs) (from_le_bytes w64 ys)) ≡ tally f (unpacked xs) (unpacked ys)
tally-words op f by xs ys hx hy p q =
    ap₂ (λ (x y : ℕ). ones (op x y)) (word-number xs hx) (word-number ys hy) ∙ sym (tally-numbers op f by xs ys (hx ∙ sym hy) p q)

pub tally-byte : (op : ℕ → ℕ → ℕ) (f : Bool → Bool → ℕ) → CountsBy op f → (x y : ℕ) → x < 256 → y < 256 → ones (op x y) ≡ tally f (unpacked (x ∷ [])) (unpacked (y ∷ []))
unfolding unpacked tally
tally-byte op f by x y p q =
    omega (arith, tally-places op f by 8 x y p q, tally-append f (places 8 x) (places 8 y) [] [] (length-places 8 x ∙ sym (length-places 8 y)))

-- a bound on any count
pub tally-le : (f : Bool → Bool → ℕ) → ((x y : Bool) → f x y ≤ 1) → (xs ys : List Bool) → tally f xs ys ≤ length xs
unfolding tally
tally-le f most [] ys = omega arith
tally-le f most (x ∷ xs) [] = omega arith
tally-le f most (x ∷ xs) (y ∷ ys) = omega (arith, most x y, tally-le f most xs ys)

pub unequal-most : (x y : Bool) → one_if_unequal x y ≤ 1
unequal-most false false = omega arith
unequal-most false true = omega arith
unequal-most true false = omega arith
unequal-most true true = omega arith

pub both-most : (x y : Bool) → one_if_both x y ≤ 1
both-most false false = omega arith
both-most false true = omega arith
both-most true false = omega arith
both-most true true = omega arith

-- one more piece of two lists of bytes
pub tally-step : (f : Bool → Bool → ℕ) (xs ys us vs : List ℕ) → length xs ≡ length ys → tally f (unpacked (xs ++ us)) (unpacked (ys ++ vs)) ≡ tally f (unpacked xs) (unpacked ys) + tally f (unpacked us) (unpacked vs)
tally-step f xs ys us vs h =
    ap₂ (tally f) (unpacked-append xs us) (unpacked-append ys vs)
    ∙ tally-append f (unpacked xs) (unpacked ys) (unpacked us) (unpacked vs) (length-unpacked xs ∙ ap (λ (n : ℕ). 8 * n) h ∙ sym (length-unpacked ys))

pub tally_bytes-le : (f : Bool → Bool → ℕ) → ((x y : Bool) → f x y ≤ 1) → (xs ys : List ℕ) → tally f (unpacked xs) (unpacked ys) ≤ 8 * length xs
tally_bytes-le f most xs ys = omega (arith, tally-le f most (unpacked xs) (unpacked ys), length-unpacked xs)

pub tally_none : (f : Bool → Bool → ℕ) → tally f (unpacked []) (unpacked []) ≡ 0
unfolding unpacked tally
tally_none f = refl

-- the first k bytes and the n after them
pub tally_more : (f : Bool → Bool → ℕ) (k n : ℕ) (xs ys : List ℕ) → length xs ≡ length ys → k ≤ length xs → tally f (unpacked (take (k + n) xs)) (unpacked (take (k + n) ys)) ≡ tally f (unpacked (take k xs)) (unpacked (take k ys)) + tally f (unpacked (take n (drop k xs))) (unpacked (take n (drop k ys)))
tally_more f k n xs ys e h =
    let hy : k ≤ length ys = omega (arith, e, h) in
    ap₂ (λ (s t : List ℕ). tally f (unpacked s) (unpacked t)) (take-add k n xs) (take-add k n ys)
    ∙ tally-step f (take k xs) (take k ys) (take n (drop k xs)) (take n (drop k ys)) (length-take-le k xs h ∙ sym (length-take-le k ys hy))

-- one byte more
pub tally_next : (f : Bool → Bool → ℕ) (k : ℕ) (xs ys : List ℕ) → length xs ≡ length ys → k < length xs → tally f (unpacked (take (k + 1) xs)) (unpacked (take (k + 1) ys)) ≡ tally f (unpacked (take k xs)) (unpacked (take k ys)) + tally f (unpacked (get_or xs k 0 ∷ [])) (unpacked (get_or ys k 0 ∷ []))
tally_next f k xs ys e h =
    let hy : k < length ys = omega (arith, e, h) in
    let within : k ≤ length xs = omega (arith, h) in
    subst (λ (t : List ℕ). tally f (unpacked (take (k + 1) xs)) (unpacked (take (k + 1) ys)) ≡ tally f (unpacked (take k xs)) (unpacked (take k ys)) + tally f (unpacked (take 1 t)) (unpacked (get_or ys k 0 ∷ []))) (drop-cons xs k 0 h)
    (subst (λ (t : List ℕ). tally f (unpacked (take (k + 1) xs)) (unpacked (take (k + 1) ys)) ≡ tally f (unpacked (take k xs)) (unpacked (take k ys)) + tally f (unpacked (take 1 (drop k xs))) (unpacked (take 1 t))) (drop-cons ys k 0 hy)
    (tally_more f k 1 xs ys e within))

-- what is left after the first k bytes
pub tally_rest : (f : Bool → Bool → ℕ) (k : ℕ) (xs ys : List ℕ) → length xs ≡ length ys → k ≤ length xs → tally f (unpacked xs) (unpacked ys) ≡ tally f (unpacked (take k xs)) (unpacked (take k ys)) + tally f (unpacked (drop k xs)) (unpacked (drop k ys))
tally_rest f k xs ys e h =
    let hy : k ≤ length ys = omega (arith, e, h) in
    ap₂ (λ (s t : List ℕ). tally f (unpacked s) (unpacked t)) (sym (take-append-drop k xs)) (sym (take-append-drop k ys))
    ∙ tally-step f (take k xs) (take k ys) (drop k xs) (drop k ys) (length-take-le k xs h ∙ sym (length-take-le k ys hy))

-- chunk i of n elements
pub chunk_at : {X : Type 0} (n k i : ℕ) (xs : List X) (d : List X) → i < k → get_or (first_chunks n k xs) i d ≡ take n (drop (n * i) xs)
chunk_at n zero i xs d h = absurd (omega (arith, h))
chunk_at n (suc k) zero xs d h = let e : 0 ≡ n * 0 = omega arith in ap (λ (j : ℕ). take n (drop j xs)) e
chunk_at {X} n (suc k) (suc i) xs d h =
    let e : n + n * i ≡ n * suc i = omega arith in
    chunk_at n k i (drop n xs) d (omega (arith, h)) ∙ ap (λ (t : List X). take n t) (drop-drop (n * i) n xs) ∙ ap (λ (j : ℕ). take n (drop j xs)) e

-- one chunk more
pub tally_chunk : (f : Bool → Bool → ℕ) (n k m i t r : ℕ) (xs ys : List ℕ) (fs gs : List (List ℕ)) → length xs ≡ length ys → fs ≡ first_chunks n k xs → gs ≡ first_chunks n m ys → i < k → i < m → n * i ≤ length xs
    → t ≡ tally f (unpacked (take (n * i) xs)) (unpacked (take (n * i) ys)) → r ≡ tally f (unpacked (get_or fs i [])) (unpacked (get_or gs i []))
    → t + r ≡ tally f (unpacked (take (n * (i + 1)) xs)) (unpacked (take (n * (i + 1)) ys))
tally_chunk f n k m i t r xs ys fs gs e ef eg hk hm within et er =
    let px : get_or fs i [] ≡ take n (drop (n * i) xs) = ap (λ (l : List (List ℕ)). get_or l i []) ef ∙ chunk_at n k i xs [] hk in
    let py : get_or gs i [] ≡ take n (drop (n * i) ys) = ap (λ (l : List (List ℕ)). get_or l i []) eg ∙ chunk_at n m i ys [] hm in
    let piece : tally f (unpacked (get_or fs i [])) (unpacked (get_or gs i [])) ≡ tally f (unpacked (take n (drop (n * i) xs))) (unpacked (take n (drop (n * i) ys))) =
    ap₂ (λ (u v : List ℕ). tally f (unpacked u) (unpacked v)) px py in
    let ahead : n * i + n ≡ n * (i + 1) = omega arith in
    let more : tally f (unpacked (take (n * (i + 1)) xs)) (unpacked (take (n * (i + 1)) ys)) ≡ tally f (unpacked (take (n * i) xs)) (unpacked (take (n * i) ys)) + tally f (unpacked (take n (drop (n * i) xs))) (unpacked (take n (drop (n * i) ys))) =
    ap (λ (j : ℕ). tally f (unpacked (take j xs)) (unpacked (take j ys))) (sym ahead) ∙ tally_more f (n * i) n xs ys e within in
    omega (arith, et, er, piece, more)

-- all chunks, and then the rest
pub tally_chunks : (f : Bool → Bool → ℕ) (k j t r : ℕ) (xs ys us vs : List ℕ) → length xs ≡ length ys → j ≡ k → k ≤ length xs → us ≡ drop k xs → vs ≡ drop k ys
    → t ≡ tally f (unpacked (take j xs)) (unpacked (take j ys)) → r ≡ tally f (unpacked us) (unpacked vs) → t + r ≡ tally f (unpacked xs) (unpacked ys)
tally_chunks f k j t r xs ys us vs e ej within eu ev et er =
    let front : tally f (unpacked (take j xs)) (unpacked (take j ys)) ≡ tally f (unpacked (take k xs)) (unpacked (take k ys)) = ap (λ (i : ℕ). tally f (unpacked (take i xs)) (unpacked (take i ys))) ej in
    let back : tally f (unpacked us) (unpacked vs) ≡ tally f (unpacked (drop k xs)) (unpacked (drop k ys)) = ap₂ (λ (u v : List ℕ). tally f (unpacked u) (unpacked v)) eu ev in
    omega (arith, front, back, et, er, tally_rest f k xs ys e within)

-- ---- a value's own places
tally-clear : (f : Bool → Bool → ℕ) → f false false ≡ 0 → (n : ℕ) → tally f (replicate n false) (replicate n false) ≡ 0
unfolding tally
tally-clear f none zero = refl
tally-clear f none (suc n) = omega (arith, none, tally-clear f none n)

pub tally_packed : (f : Bool → Bool → ℕ) → f false false ≡ 0 → (k : ℕ) (xs ys : List ℕ) → length xs ≡ length ys → k ≤ 8 * length xs → drop k (unpacked xs) ≡ replicate (8 * length xs - k) false → drop k (unpacked ys) ≡ replicate (8 * length ys - k) false
    → tally f (unpacked xs) (unpacked ys) ≡ tally f (take k (unpacked xs)) (take k (unpacked ys))
tally_packed f none k xs ys e h px py =
    let hx : k ≤ length (unpacked xs) = omega (arith, length-unpacked xs, h) in
    let hy : k ≤ length (unpacked ys) = omega (arith, length-unpacked ys, h, e) in
    let clear : drop k (unpacked ys) ≡ replicate (8 * length xs - k) false = py ∙ ap (λ (n : ℕ). replicate (8 * n - k) false) (sym e) in
    let parts : tally f (unpacked xs) (unpacked ys) ≡ tally f (take k (unpacked xs)) (take k (unpacked ys)) + tally f (drop k (unpacked xs)) (drop k (unpacked ys)) =
    ap₂ (tally f) (sym (take-append-drop k (unpacked xs))) (sym (take-append-drop k (unpacked ys)))
    ∙ tally-append f (take k (unpacked xs)) (take k (unpacked ys)) (drop k (unpacked xs)) (drop k (unpacked ys)) (length-take-le k (unpacked xs) hx ∙ sym (length-take-le k (unpacked ys) hy)) in
    let unused : tally f (drop k (unpacked xs)) (drop k (unpacked ys)) ≡ 0 = ap₂ (tally f) px clear ∙ tally-clear f none (8 * length xs - k) in
    omega (arith, parts, unused)

pub length_view : (k : ℕ) (xs : List ℕ) → k ≤ 8 * length xs → length (take k (unpacked xs)) ≡ k
length_view k xs h = let hx : k ≤ length (unpacked xs) = omega (arith, length-unpacked xs, h) in length-take-le k (unpacked xs) hx

-- a value has as many places as its count says
pub view_count : (c : ℕ) (bs : List ℕ) (xs : List Bool) → take c (unpacked bs) ≡ xs → Packed c bs → length xs ≡ c
view_count c bs xs view kept = ap (λ (ys : List Bool). length ys) (sym view) ∙ length_view c bs (omega (arith, kept.long))

pub tally_views : (f : Bool → Bool → ℕ) → f false false ≡ 0 → (p q r : ℕ) (xs ys us vs : List ℕ) (places_a places_b : List Bool) → take p (unpacked xs) ≡ places_a → take q (unpacked ys) ≡ places_b → length places_a ≡ length places_b → Packed p xs → Packed q ys → us ≡ xs → vs ≡ ys
    → r ≡ tally f (unpacked us) (unpacked vs) → r ≡ tally f places_a places_b
tally_views f none p q r xs ys us vs places_a places_b va vb same hx hy eu ev er =
    let lp = length_view p xs (omega (arith, hx.long)) in
    let lq = length_view q ys (omega (arith, hy.long)) in
    let la = ap (λ (l : List Bool). length l) va in
    let lb = ap (λ (l : List Bool). length l) vb in
    let e : q ≡ p = omega (arith, lp, lq, la, lb, same) in
    let long : length xs ≡ length ys = omega (arith, e, hx.long, hy.long) in
    let clear : drop p (unpacked ys) ≡ replicate (8 * length ys - p) false = subst (λ (n : ℕ). drop n (unpacked ys) ≡ replicate (8 * length ys - n) false) e hy.clear in
    er ∙ ap₂ (λ (s t : List ℕ). tally f (unpacked s) (unpacked t)) eu ev ∙ tally_packed f none p xs ys long (omega (arith, hx.long)) hx.clear clear
    ∙ ap₂ (tally f) va (ap (λ (n : ℕ). take n (unpacked ys)) (sym e) ∙ vb)

pub same_long : (p q : ℕ) (xs ys us vs : List ℕ) (places_a places_b : List Bool) → take p (unpacked xs) ≡ places_a → take q (unpacked ys) ≡ places_b → length places_a ≡ length places_b → Packed p xs → Packed q ys → us ≡ xs → vs ≡ ys → length us ≡ length vs
same_long p q xs ys us vs places_a places_b va vb same hx hy eu ev =
    let lp = length_view p xs (omega (arith, hx.long)) in
    let lq = length_view q ys (omega (arith, hy.long)) in
    let la = ap (λ (l : List Bool). length l) va in
    let lb = ap (λ (l : List Bool). length l) vb in
    omega (arith, lp, lq, la, lb, same, hx.long, hy.long, ap (λ (l : List ℕ). length l) eu, ap (λ (l : List ℕ). length l) ev)
