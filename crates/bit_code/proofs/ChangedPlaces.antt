-- Packed bytes that are written anew, wholly or at one place.
use Rattle.std.proofs.Common.{◌≡◌, refl, sym, ap, ap₂, ◌∙◌, ℕ, zero, suc, ◌+◌, ◌*◌, ◌/◌, ◌%◌, ◌-◌, ◌^◌, ◌<◌, ◌≤◌, List, [], ◌∷◌, ◌++◌, length, get_or, set, take, drop, arith, append_assoc, Some, slice_get}
use Rattle.std.specs.Prelude.{Bool, true, false, ◌==◌, replicate}
use Rattle.std.specs.Int.Bits.{bit_xor, xor_zero_r}
use mathlib.Core.Bool.{beq}
use Rattle.std.proofs.Math.Seq.{take-set-lt}
use Rattle.std.proofs.lemmas.Nat.{xor_shr, xor_mod, pow_pos, div-mul-add, mod-mul-add}
use Rattle.std.proofs.lemmas.List.{take_at, take-replicate, drop-replicate, drop-set-lt, length-set, length-replicate, replicate-append-replicate, set_at, set-append_left, set-append_right}
use Rattle.bit_code.specs.Places.{places, unpacked, Packed}
use Rattle.bit_code.proofs.TalliedBytes.{length-places, view_count}
use Rattle.bit_code.proofs.PackedPlaces.{slice_get-places, get_or_default}
use Rattle.bit_code.proofs.PlaceParts.{places-split, places-zero, low-places}

-- ---- all 0

unpacked-replicate : (n : ℕ) → unpacked (replicate n 0) ≡ replicate (8 * n) false
unfolding unpacked
unpacked-replicate zero = refl
unpacked-replicate (suc n) =
    let more : 8 + 8 * n ≡ 8 * suc n = omega arith in
    ap₂ (λ (us vs : List Bool). us ++ vs) (places-zero 8) (unpacked-replicate n)
    ∙ replicate-append-replicate 8 (8 * n) false ∙ ap (λ (k : ℕ). replicate k false) more

pub zeros_packed : (c n : ℕ) (bs : List ℕ) → 1 ≤ c → c ≤ 64000 → n ≡ (c + 7) / 8 → bs ≡ replicate n 0 → Packed c bs
zeros_packed c n bs some few long is =
    let many : length bs ≡ n = ap (λ (l : List ℕ). length l) is ∙ length-replicate n 0 in
    record {
      some = some;
      few = few;
      long = many ∙ long;
      clear =
          ap (λ (l : List ℕ). drop c (unpacked l)) is ∙ ap (λ (us : List Bool). drop c us) (unpacked-replicate n) ∙ drop-replicate c (8 * n) false
          ∙ ap (λ (k : ℕ). replicate (8 * k - c) false) (sym many);
    }

pub zeros_view : (c n : ℕ) (bs : List ℕ) → n ≡ (c + 7) / 8 → bs ≡ replicate n 0 → take c (unpacked bs) ≡ replicate c false
zeros_view c n bs long is =
    ap (λ (l : List ℕ). take c (unpacked l)) is ∙ ap (λ (us : List Bool). take c us) (unpacked-replicate n) ∙ take-replicate c (8 * n) false (omega (arith, long))

-- ---- other bytes

pub taken_over : (n : ℕ) (ws old bs : List ℕ) → ws ≡ bs → length ws ≡ n → take n (ws ++ drop (length ws) old) ≡ bs
taken_over n ws old bs is long = take_at ws (drop (length ws) old) n long ∙ is

-- ---- one place of a byte

-- n's places round the one of 2 ^ s
places-round : (k s j n : ℕ) → j ≡ s + suc k → places j n ≡ places k (n / 2 ^ s / 2) ++ (n / 2 ^ s % 2 == 1) ∷ places s n
unfolding places
places-round k s j n e = places-split s (suc k) j n e ∙ append_assoc (places k (n / 2 ^ s / 2)) ((n / 2 ^ s % 2 == 1) ∷ []) (places s n)

places-set : (k s j n m : ℕ) (x : Bool) → j ≡ s + suc k → m / 2 ^ s / 2 ≡ n / 2 ^ s / 2 → m % 2 ^ s ≡ n % 2 ^ s → (m / 2 ^ s % 2 == 1) ≡ x → places j m ≡ set (places j n) k x
places-set k s j n m x e above below here =
    places-round k s j m e
    ∙ ap₂ (λ (us : List Bool) (v : Bool). us ++ v ∷ places s m) (ap (λ (i : ℕ). places k i) above) here
    ∙ ap (λ (vs : List Bool). places k (n / 2 ^ s / 2) ++ x ∷ vs) (low-places s m n below)
    ∙ sym (ap (λ (us : List Bool). set us k x) (places-round k s j n e) ∙ set_at (places k (n / 2 ^ s / 2)) (n / 2 ^ s % 2 == 1) (places s n) x k (length-places k (n / 2 ^ s / 2)))

some-same : {X : Type 0} (x y : X) → Some x ≡ Some y → x ≡ y
some-same x y e = cc

other-digit : (r : ℕ) (had x : Bool) → r < 2 → (r == 1) ≡ had → beq had x ≡ false → (bit_xor r 1 == 1) ≡ x
other-digit zero false true h e d = refl
other-digit (suc zero) true false h e d = refl
other-digit zero false false h e d = absurd (cc)
other-digit (suc zero) true true h e d = absurd (cc)
other-digit zero true x h e d = absurd (cc)
other-digit (suc zero) false x h e d = absurd (cc)
other-digit (suc (suc r)) had x h e d = absurd (omega (arith, h))

-- the place p of a byte turned over
pub place_turned : (n p : ℕ) (had x : Bool) → p < 8 → slice_get (places 8 n) p ≡ Some had → beq had x ≡ false → places 8 (bit_xor n (2 ^ (7 - p))) ≡ set (places 8 n) p x
place_turned n p had x h was other =
    let s = 7 - p in
    let whole : 1 * 2 ^ s + 0 ≡ 2 ^ s = omega arith in
    let one : 2 ^ s / 2 ^ s ≡ 1 = ap (λ (k : ℕ). k / 2 ^ s) (sym whole) ∙ div-mul-add 1 (2 ^ s) 0 (pow_pos s) in
    let none : 2 ^ s % 2 ^ s ≡ 0 = ap (λ (k : ℕ). k % 2 ^ s) (sym whole) ∙ mod-mul-add 1 (2 ^ s) 0 (pow_pos s) in
    let high : bit_xor n (2 ^ s) / 2 ^ s ≡ bit_xor (n / 2 ^ s) 1 = xor_shr n (2 ^ s) s ∙ ap (λ (k : ℕ). bit_xor (n / 2 ^ s) k) one in
    let above : bit_xor n (2 ^ s) / 2 ^ s / 2 ≡ n / 2 ^ s / 2 =
    ap (λ (k : ℕ). k / 2) high ∙ xor_shr (n / 2 ^ s) 1 1 ∙ xor_zero_r (n / 2 ^ s / 2) in
    let below : bit_xor n (2 ^ s) % 2 ^ s ≡ n % 2 ^ s =
    xor_mod n (2 ^ s) s ∙ ap (λ (k : ℕ). bit_xor (n % 2 ^ s) k) none ∙ xor_zero_r (n % 2 ^ s) in
    let small : n / 2 ^ s % 2 < 2 = omega arith in
    let digit : (n / 2 ^ s % 2 == 1) ≡ had = some-same _ _ (sym (slice_get-places 7 n p h) ∙ was) in
    let here : (bit_xor n (2 ^ s) / 2 ^ s % 2 == 1) ≡ x =
    ap (λ (k : ℕ). k % 2 == 1) high ∙ ap (λ (k : ℕ). k == 1) (xor_mod (n / 2 ^ s) 1 1) ∙ other-digit (n / 2 ^ s % 2) had x small digit other in
    places-set p s 8 n (bit_xor n (2 ^ s)) x (omega (arith, h)) above below here

pub set-same : {X : Type 0} (xs : List X) (i : ℕ) (x : X) → slice_get xs i ≡ Some x → xs ≡ set xs i x
set-same [] i x e = refl
set-same (y ∷ xs) zero x e = ap (λ z. z ∷ xs) (some-same y x e)
set-same (y ∷ xs) (suc i) x e = ap (λ zs. y ∷ zs) (set-same xs i x e)

pub beq-same : (a b : Bool) → beq a b ≡ true → a ≡ b
beq-same false false e = refl
beq-same true true e = refl
beq-same false true e = absurd (cc)
beq-same true false e = absurd (cc)

-- ---- one place of packed bytes

unpacked-set : (bs : List ℕ) (q r b : ℕ) (x : Bool) → q < length bs → r < 8 → places 8 b ≡ set (places 8 (get_or bs q 0)) r x → unpacked (set bs q b) ≡ set (unpacked bs) (8 * q + r) x
unfolding unpacked
unpacked-set [] q r b x h small is = absurd (omega (arith, h))
unpacked-set (y ∷ bs) zero r b x h small is =
    let at : r ≡ 8 * 0 + r = omega arith in
    ap (λ (us : List Bool). us ++ unpacked bs) is
    ∙ sym (set-append_left (places 8 y) (unpacked bs) r x (omega (arith, small, length-places 8 y)))
    ∙ ap (λ (i : ℕ). set (places 8 y ++ unpacked bs) i x) at
unpacked-set (y ∷ bs) (suc q) r b x h small is =
    let at : 8 * q + r ≡ 8 * suc q + r - 8 = omega arith in
    ap (λ (us : List Bool). places 8 y ++ us) (unpacked-set bs q r b x (omega (arith, h)) small is ∙ ap (λ (i : ℕ). set (unpacked bs) i x) at)
    ∙ sym (set-append_right (places 8 y) (unpacked bs) 8 (8 * suc q + r) x (length-places 8 y) (omega arith))

-- what a byte with one place written makes of the whole
place_written : (c i b d : ℕ) (bs : List ℕ) (x : Bool) → Packed c bs → i < c → d ≡ get_or bs (i / 8) d → places 8 b ≡ set (places 8 d) (i % 8) x → unpacked (set bs (i / 8) b) ≡ set (unpacked bs) i x
place_written c i b d bs x kept within read is =
    let here : i / 8 < length bs = omega (arith, kept.long, within) in
    let small : i % 8 < 8 = omega arith in
    let at : 8 * (i / 8) + i % 8 ≡ i = omega arith in
    unpacked-set bs (i / 8) (i % 8) b x here small (is ∙ ap (λ (n : ℕ). set (places 8 n) (i % 8) x) (read ∙ get_or_default bs (i / 8) d 0 here))
    ∙ ap (λ (k : ℕ). set (unpacked bs) k x) at

pub set_packed : (c i b d : ℕ) (bs : List ℕ) (xs : List Bool) (x : Bool) → take c (unpacked bs) ≡ xs → Packed c bs → i < length xs → d ≡ get_or bs (i / 8) d → places 8 b ≡ set (places 8 d) (i % 8) x → Packed c (set bs (i / 8) b)
set_packed c i b d bs xs x view kept within read is =
    let many : length xs ≡ c = view_count c bs xs view kept in
    let inside : i < c = omega (arith, many, within) in
    let long : length (set bs (i / 8) b) ≡ length bs = length-set bs (i / 8) b in
    record {
      some = kept.some;
      few = kept.few;
      long = long ∙ kept.long;
      clear =
          ap (λ (us : List Bool). drop c us) (place_written c i b d bs x kept inside read is) ∙ drop-set-lt c (unpacked bs) i x inside ∙ kept.clear
          ∙ ap (λ (k : ℕ). replicate (8 * k - c) false) (sym long);
    }

pub set_view : (c i b d : ℕ) (bs : List ℕ) (xs : List Bool) (x : Bool) → take c (unpacked bs) ≡ xs → Packed c bs → i < length xs → d ≡ get_or bs (i / 8) d → places 8 b ≡ set (places 8 d) (i % 8) x → take c (unpacked (set bs (i / 8) b)) ≡ set xs i x
set_view c i b d bs xs x view kept within read is =
    let many : length xs ≡ c = view_count c bs xs view kept in
    let inside : i < c = omega (arith, many, within) in
    ap (λ (us : List Bool). take c us) (place_written c i b d bs x kept inside read is) ∙ take-set-lt c (unpacked bs) i x inside ∙ ap (λ (us : List Bool). set us i x) view
