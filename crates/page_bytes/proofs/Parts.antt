-- The parts of a format: free bytes, fixed bytes and half words within bounds.
use Rattle.std.proofs.Common.{◌≡◌, ℕ, zero, suc, ◌+◌, ◌-◌, ◌*◌, ◌/◌, ◌%◌, ◌^◌, ◌<◌, ◌≤◌, Bool, true, false, nat_eq, nat_lt, nat_le, ◌&&◌, List, [], ◌∷◌, ◌++◌, length, get_or, drop, refl, sym, ap, ◌∙◌, subst, arith}
use Rattle.std.specs.Int.{w16, to_le_bytes}
use Rattle.std.specs.List.{All}
use Rattle.std.proofs.Math.Nat.{add-mul-mod_self_left}
use Rattle.std.proofs.lemmas.Bool.{false≢true, eq-eqb, eqb-true, ltb-true, lt-ltb, leb-true, le-leb, false_from_ne_true}
use Rattle.std.proofs.lemmas.Nat.{div-add-mod'}
use Rattle.std.proofs.lemmas.List.Elements.{All-nil, All-cons, All-head, All-tail}
use Rattle.page_bytes.specs.Content.{round8}
use Rattle.page_bytes.specs.Spelling.{line_pointer}
use Rattle.page_bytes.specs.Format.{Format, first_bad, free, fixed, begins_half, is_half, half, pointer, InHalf, InPointer, Allows}
use Rattle.page_bytes.specs.Format.Format.{Byte}
use Rattle.page_bytes.proofs.Placing.{rounds}
use Rattle.page_bytes.proofs.Formats.{Matches, Live, passes, stops}

-- ---- free bytes

pub record Free (n : ℕ) (next : Format) (bytes : List ℕ) : Type 0 where
  pub some : List ℕ
  pub rest : List ℕ
  pub long : length some ≡ n
  pub fits : All (λ b. b < 256) some
  pub same : bytes ≡ some ++ rest
  pub then : Matches next rest

pub free_matched : (n : ℕ) (next : Format) (bytes : List ℕ) → Matches (free n next) bytes → Free n next bytes
unfolding free Matches
free_matched zero next bytes m = record { some = []; rest = bytes; long = refl; fits = All-nil (λ b. b < 256); same = refl; then = m }
free_matched (suc n) next [] m = absurd m
free_matched (suc n) next (b ∷ bytes) m =
    let f = free_matched n next bytes m.1 in
    record {
      some = b ∷ f.some;
      rest = f.rest;
      long = ap suc f.long;
      fits = All-cons (λ b. b < 256) b f.some (ltb-true b 256 m.0) f.fits;
      same = ap (λ (t : List ℕ). b ∷ t) f.same;
      then = f.then;
    }

pub free_match : (some rest : List ℕ) (next : Format) → All (λ b. b < 256) some → Matches next rest → Matches (free (length some) next) (some ++ rest)
unfolding free Matches
free_match [] rest next a m = m
free_match (b ∷ some) rest next a m =
    (lt-ltb b 256 (All-head (λ b. b < 256) b some a), free_match some rest next (All-tail (λ b. b < 256) b some a) m)

pub free_live : (n : ℕ) (next : Format) → Live next → Live (free n next)
unfolding free Live
free_live zero next l = l
free_live (suc n) next l = ((0, refl), λ b e. free_live n next l)

pub free_passes : (n : ℕ) (next : Format) (bytes : List ℕ) → ((k : ℕ) → get_or bytes k 0 < 256) → n ≤ length bytes → first_bad (free n next) bytes ≡ n + first_bad next (drop n bytes)
unfolding free
free_passes zero next bytes fits h = omega arith
free_passes (suc n) next [] fits h = absurd (omega arith)
free_passes (suc n) next (b ∷ bytes) fits h =
    omega (arith, passes (λ b. nat_lt b 256) (λ _. free n next) b bytes (lt-ltb b 256 (fits 0)), free_passes n next bytes (λ k. fits (suc k)) (omega arith))

-- ---- fixed bytes

pub fixed_matched : (want : List ℕ) (next : Format) (bytes : List ℕ) → Matches (fixed want next) bytes → (rest : List ℕ) × (bytes ≡ want ++ rest) × Matches next rest
unfolding fixed Matches
fixed_matched [] next bytes m = (bytes, refl, m)
fixed_matched (x ∷ want) next [] m = absurd m
fixed_matched (x ∷ want) next (b ∷ bytes) m =
    let f = fixed_matched want next bytes m.1 in
    let e = eqb-true b x m.0 in
    (f.0, ap (λ (t : List ℕ). b ∷ t) f.1 ∙ ap (λ (c : ℕ). c ∷ want ++ f.0) e, f.2)

pub fixed_match : (want rest : List ℕ) (next : Format) → Matches next rest → Matches (fixed want next) (want ++ rest)
unfolding fixed Matches
fixed_match [] rest next m = m
fixed_match (x ∷ want) rest next m = (eq-eqb x x refl, fixed_match want rest next m)

pub fixed_live : (want : List ℕ) (next : Format) → Live next → Live (fixed want next)
unfolding fixed Live
fixed_live [] next l = l
fixed_live (x ∷ want) next l = ((x, eq-eqb x x refl), λ b e. fixed_live want next l)

-- ---- half words

pub record Begins (low high step b : ℕ) : Type 0 where
  pub small : b < 256
  pub even : b % step ≡ 0
  pub fits : low + (b + 256 - low % 256) % 256 ≤ high

and_true : (a b : Bool) → (a && b) ≡ true → (a ≡ true) × (b ≡ true)
and_true true b e = (refl, e)
and_true false b e = absurd (false≢true e)

and_from : (a b : Bool) → a ≡ true → b ≡ true → (a && b) ≡ true
and_from a b e f = rw (e, f) refl

pub is_half-true : (low high step n : ℕ) → is_half low high step n ≡ true → InHalf low high step n
unfolding is_half
is_half-true low high step n e =
    let a = and_true (nat_le low n) (nat_le n high && nat_eq (n % step) 0) e in
    let b = and_true (nat_le n high) (nat_eq (n % step) 0) a.1 in
    record { least = leb-true low n a.0; most = leb-true n high b.0; even = eqb-true (n % step) 0 b.1 }

pub is_half-from : (low high step n : ℕ) → InHalf low high step n → is_half low high step n ≡ true
unfolding is_half
is_half-from low high step n h =
    and_from (nat_le low n) (nat_le n high && nat_eq (n % step) 0) (le-leb low n h.least) (and_from (nat_le n high) (nat_eq (n % step) 0) (le-leb n high h.most) (eq-eqb (n % step) 0 h.even))

pub begins-true : (low high step b : ℕ) → begins_half low high step b ≡ true → Begins low high step b
unfolding begins_half
begins-true low high step b e =
    let a = and_true (nat_lt b 256) (nat_eq (b % step) 0 && nat_le (low + (b + 256 - low % 256) % 256) high) e in
    let c = and_true (nat_eq (b % step) 0) (nat_le (low + (b + 256 - low % 256) % 256) high) a.1 in
    record { small = ltb-true b 256 a.0; even = eqb-true (b % step) 0 c.0; fits = leb-true (low + (b + 256 - low % 256) % 256) high c.1 }

pub begins-from : (low high step b : ℕ) → Begins low high step b → begins_half low high step b ≡ true
unfolding begins_half
begins-from low high step b h =
    and_from (nat_lt b 256) (nat_eq (b % step) 0 && nat_le (low + (b + 256 - low % 256) % 256) high) (lt-ltb b 256 h.small) (and_from (nat_eq (b % step) 0) (nat_le (low + (b + 256 - low % 256) % 256) high) (eq-eqb (b % step) 0 h.even) (le-leb (low + (b + 256 - low % 256) % 256) high h.fits))

-- a step that divides 256 tells from the low byte
pub record Steps (step : ℕ) : Type 0 where
  pub times : ℕ
  pub whole : step * times ≡ 256

pub steps_of : (step : ℕ) → 256 % step ≡ 0 → Steps step
steps_of step e = record { times = 256 / step; whole = omega (arith, div-add-mod' 256 step, e) }

low_byte : (step a b : ℕ) → Steps step → (a + b * 2 ^ 8) % step ≡ a % step
low_byte step a b s =
    let e : a + b * 2 ^ 8 ≡ a + step * (s.times * b) = grind (arith, s.whole) in
    rw e (add-mul-mod_self_left a step (s.times * b))

-- the first byte of a half word that may stand
first_of : (low high step a b : ℕ) → Steps step → a < 256 → InHalf low high step (a + b * 2 ^ 8) → Begins low high step a
first_of low high step a b s small h = record {
  small = small;
  even = sym (low_byte step a b s) ∙ h.even;
  fits = omega (arith, h.least, h.most);
}

-- a half word for a first byte that may stand
some_half : (low high step a : ℕ) → Steps step → Begins low high step a → (b : ℕ) × InHalf low high step (a + b * 2 ^ 8)
some_half low high step a s h =
    let b = (low + (a + 256 - low % 256) % 256) / 256 in
    let n : a + b * 2 ^ 8 ≡ low + (a + 256 - low % 256) % 256 = omega (arith, h.small) in
    (b, record { least = omega (arith, n); most = omega (arith, n, h.fits); even = low_byte step a b s ∙ h.even })

pub record Half (low high step : ℕ) (next : ℕ → Format) (bytes : List ℕ) : Type 0 where
  pub value : ℕ
  pub rest : List ℕ
  pub within : InHalf low high step value
  pub same : bytes ≡ to_le_bytes w16 value ++ rest
  pub then : Matches (next value) rest

spelled_half : (a b : ℕ) (rest : List ℕ) → a < 256 → a + b * 2 ^ 8 < 2 ^ 16 → a ∷ b ∷ rest ≡ to_le_bytes w16 (a + b * 2 ^ 8) ++ rest
spelled_half a b rest h k =
    let e : a ≡ (a + b * 2 ^ 8) % 256 = omega arith in
    let f : b ≡ (a + b * 2 ^ 8) / 256 % 256 = omega arith in
    ap (λ (x : ℕ). x ∷ b ∷ rest) e ∙ ap (λ (x : ℕ). (a + b * 2 ^ 8) % 256 ∷ x ∷ rest) f

pub half_matched : (low high step : ℕ) (next : ℕ → Format) (bytes : List ℕ) → high < 2 ^ 16 → Matches (half low high step next) bytes → Half low high step next bytes
unfolding half Matches
half_matched low high step next [] small m = absurd m
half_matched low high step next (a ∷ []) small m = absurd m.1
half_matched low high step next (a ∷ b ∷ rest) small m =
    let f = begins-true low high step a m.0 in
    let h = is_half-true low high step (a + b * 2 ^ 8) m.1.0 in
    record { value = a + b * 2 ^ 8; rest = rest; within = h; same = spelled_half a b rest f.small (omega (arith, h.most)); then = m.1.1 }

pub half_match : (low high step n : ℕ) (next : ℕ → Format) (rest : List ℕ) → Steps step → high < 2 ^ 16 → InHalf low high step n → Matches (next n) rest → Matches (half low high step next) (to_le_bytes w16 n ++ rest)
unfolding half Matches
half_match low high step n next rest s small h m =
    let a = n % 256 in
    let b = n / 256 % 256 in
    let e : a + b * 2 ^ 8 ≡ n = omega (arith, h.most) in
    let g : InHalf low high step (a + b * 2 ^ 8) = subst (InHalf low high step) (sym e) h in
    (begins-from low high step a (first_of low high step a b s (omega arith) g), (is_half-from low high step (a + b * 2 ^ 8) g, subst (λ (k : ℕ). Matches (next k) rest) (sym e) m))

pub half_live : (low high step : ℕ) (next : ℕ → Format) → Steps step → low ≤ high → high % step ≡ 0 → ((n : ℕ) → InHalf low high step n → Live (next n)) → Live (half low high step next)
unfolding half Live
half_live low high step next s order even l =
    let e : high % 256 + (high / 256) * 2 ^ 8 ≡ high = omega arith in
    let h : InHalf low high step high = record { least = order; most = omega arith; even = even } in
    let g : InHalf low high step (high % 256 + (high / 256) * 2 ^ 8) = subst (InHalf low high step) (sym e) h in (
      (high % 256, begins-from low high step (high % 256) (first_of low high step (high % 256) (high / 256) s (omega arith) g)),
      λ a f. let w = some_half low high step a s (begins-true low high step a f) in ((w.0, is_half-from low high step (a + w.0 * 2 ^ 8) w.1), λ b t. l (a + b * 2 ^ 8) (is_half-true low high step (a + b * 2 ^ 8) t)),
    )

pub half_passes : (low high step : ℕ) (next : ℕ → Format) (a b : ℕ) (rest : List ℕ) → Steps step → a < 256 → InHalf low high step (a + b * 2 ^ 8) → first_bad (half low high step next) (a ∷ b ∷ rest) ≡ 2 + first_bad (next (a + b * 2 ^ 8)) rest
unfolding half
half_passes low high step next a b rest s small h =
    let n = a + b * 2 ^ 8 in
    omega (arith, passes (begins_half low high step) (λ x. Byte (λ y. is_half low high step (x + y * 2 ^ 8)) (λ y. next (x + y * 2 ^ 8))) a (b ∷ rest) (begins-from low high step a (first_of low high step a b s small h)), passes (λ y. is_half low high step (a + y * 2 ^ 8)) (λ y. next (a + y * 2 ^ 8)) b rest (is_half-from low high step n h))

pub half_stops_first : (low high step : ℕ) (next : ℕ → Format) (a : ℕ) (rest : List ℕ) → (Begins low high step a → ⊥) → first_bad (half low high step next) (a ∷ rest) ≡ 0
unfolding half
half_stops_first low high step next a rest h =
    stops (begins_half low high step) (λ x. Byte (λ y. is_half low high step (x + y * 2 ^ 8)) (λ y. next (x + y * 2 ^ 8))) a rest (false_from_ne_true _ (λ e. h (begins-true low high step a e)))

pub half_stops_second : (low high step : ℕ) (next : ℕ → Format) (a b : ℕ) (rest : List ℕ) → Begins low high step a → (InHalf low high step (a + b * 2 ^ 8) → ⊥) → first_bad (half low high step next) (a ∷ b ∷ rest) ≡ 1
unfolding half
half_stops_second low high step next a b rest f h =
    omega (arith, passes (begins_half low high step) (λ x. Byte (λ y. is_half low high step (x + y * 2 ^ 8)) (λ y. next (x + y * 2 ^ 8))) a (b ∷ rest) (begins-from low high step a f), stops (λ y. is_half low high step (a + y * 2 ^ 8)) (λ y. next (a + y * 2 ^ 8)) b rest (false_from_ne_true _ (λ e. h (is_half-true low high step (a + b * 2 ^ 8) e))))

pub by_1 : Steps 1
by_1 = record { times = 256; whole = refl }

pub by_2 : Steps 2
by_2 = record { times = 128; whole = refl }

pub by_4 : Steps 4
by_4 = record { times = 64; whole = refl }

pub by_8 : Steps 8
by_8 = record { times = 32; whole = refl }

-- ---- line pointers

round8-is : (n r : ℕ) → r % 8 ≡ 0 → n ≤ r → r < n + 8 → round8 n ≡ r
round8-is n r even low high = let k = rounds n in omega (arith, k.above, k.close, k.whole)

-- the place and the length that two half words tell
pub in_pointer : (least most top low high : ℕ) → Allows least most top → InHalf (least + 2 ^ 15) (most + 2 ^ 15) 8 low → InHalf (2 * (top - (low - 2 ^ 15)) - 14) (2 * (top - (low - 2 ^ 15))) 2 high → InPointer least most top (low - 2 ^ 15) (high / 2)
in_pointer least most top low high a l h =
    let r : round8 (high / 2) ≡ top - (low - 2 ^ 15) = round8-is (high / 2) (top - (low - 2 ^ 15)) (omega (arith, l.least, l.most, l.even, a.top_even, a.below)) (omega (arith, h.most)) (omega (arith, h.least, h.even)) in
    record {
      from = omega (arith, l.least);
      upto = omega (arith, l.most);
      even = omega (arith, l.even, l.least);
      room = omega (arith, r, l.most, a.below);
      some = omega (arith, h.least, l.most, a.below, h.even);
    }

low_half : (least most top place len : ℕ) → InPointer least most top place len → InHalf (least + 2 ^ 15) (most + 2 ^ 15) 8 (place + 2 ^ 15)
low_half least most top place len p = record { least = omega (arith, p.from); most = omega (arith, p.upto); even = omega (arith, p.even) }

high_half : (least most top place len : ℕ) → InPointer least most top place len → InHalf (2 * (top - place) - 14) (2 * (top - place)) 2 (2 * len)
high_half least most top place len p = let k = rounds len in record { least = omega (arith, p.room, k.close); most = omega (arith, p.room, k.above); even = omega arith }

pub four : {a b c d e f g h : ℕ} → a ≡ e → b ≡ f → c ≡ g → d ≡ h → (z : List ℕ) → a ∷ b ∷ c ∷ d ∷ z ≡ e ∷ f ∷ g ∷ h ∷ z
four p q r s z = cc

line_pointer-halves : (place len : ℕ) (rest : List ℕ) → place < 2 ^ 15 → line_pointer place len ++ rest ≡ to_le_bytes w16 (place + 2 ^ 15) ++ (to_le_bytes w16 (2 * len) ++ rest)
unfolding line_pointer
line_pointer-halves place len rest h =
    four (omega arith) (omega arith) (omega arith) (omega arith) rest

pub pointer_live : (least most top : ℕ) (next : ℕ → ℕ → Format) → Allows least most top → ((place len : ℕ) → InPointer least most top place len → Live (next place len)) → Live (pointer least most top next)
unfolding pointer
pointer_live least most top next a l =
    half_live (least + 2 ^ 15) (most + 2 ^ 15) 8 (λ low. half (2 * (top - (low - 2 ^ 15)) - 14) (2 * (top - (low - 2 ^ 15))) 2 (λ high. next (low - 2 ^ 15) (high / 2))) by_8 (omega (arith, a.order)) (omega (arith, a.most_even)) (λ low h. half_live (2 * (top - (low - 2 ^ 15)) - 14) (2 * (top - (low - 2 ^ 15))) 2 (λ high. next (low - 2 ^ 15) (high / 2)) by_2 (omega arith) (omega arith) (λ high k. l (low - 2 ^ 15) (high / 2) (in_pointer least most top low high a h k)))

pub record Pointer (least most top : ℕ) (next : ℕ → ℕ → Format) (bytes : List ℕ) : Type 0 where
  pub place : ℕ
  pub len : ℕ
  pub rest : List ℕ
  pub within : InPointer least most top place len
  pub same : bytes ≡ line_pointer place len ++ rest
  pub then : Matches (next place len) rest

pub pointer_matched : (least most top : ℕ) (next : ℕ → ℕ → Format) (bytes : List ℕ) → Allows least most top → Matches (pointer least most top next) bytes → Pointer least most top next bytes
unfolding pointer
pointer_matched least most top next bytes a m =
    let l = half_matched (least + 2 ^ 15) (most + 2 ^ 15) 8 (λ low. half (2 * (top - (low - 2 ^ 15)) - 14) (2 * (top - (low - 2 ^ 15))) 2 (λ high. next (low - 2 ^ 15) (high / 2))) bytes (omega (arith, a.within, a.below)) m in
    let place = l.value - 2 ^ 15 in
    let h = half_matched (2 * (top - place) - 14) (2 * (top - place)) 2 (λ high. next place (high / 2)) l.rest (omega (arith, a.within)) l.then in
    let p = in_pointer least most top l.value h.value a l.within h.within in
    let low_is : place + 2 ^ 15 ≡ l.value = omega (arith, l.within.least) in
    let high_is : 2 * (h.value / 2) ≡ h.value = omega (arith, h.within.even) in
    let halves = line_pointer-halves place (h.value / 2) h.rest (omega (arith, p.upto, a.below, a.within)) in
    record {
      place = place;
      len = h.value / 2;
      rest = h.rest;
      within = p;
      same = l.same ∙ ap (λ (t : List ℕ). to_le_bytes w16 l.value ++ t) h.same ∙ sym (halves ∙ ap (λ (n : ℕ). to_le_bytes w16 n ++ (to_le_bytes w16 (2 * (h.value / 2)) ++ h.rest)) low_is ∙ ap (λ (n : ℕ). to_le_bytes w16 l.value ++ (to_le_bytes w16 n ++ h.rest)) high_is);
      then = h.then;
    }

pub pointer_match : (least most top place len : ℕ) (next : ℕ → ℕ → Format) (rest : List ℕ) → Allows least most top → InPointer least most top place len → Matches (next place len) rest → Matches (pointer least most top next) (line_pointer place len ++ rest)
unfolding pointer
pointer_match least most top place len next rest a p m =
    let halves = line_pointer-halves place len rest (omega (arith, p.upto, a.below, a.within)) in
    let back : place + 2 ^ 15 - 2 ^ 15 ≡ place = omega arith in
    let twice : 2 * len / 2 ≡ len = omega arith in
    let r = rounds len in
    let then : Matches (next place (2 * len / 2)) rest = subst (λ (n : ℕ). Matches (next place n) rest) (sym twice) m in
    let second : Matches (half (2 * (top - place) - 14) (2 * (top - place)) 2 (λ high. next place (high / 2))) (to_le_bytes w16 (2 * len) ++ rest) = half_match (2 * (top - place) - 14) (2 * (top - place)) 2 (2 * len) (λ high. next place (high / 2)) rest by_2 (omega (arith, a.within)) (high_half least most top place len p) then in
    let again = subst (λ (q : ℕ). Matches (half (2 * (top - q) - 14) (2 * (top - q)) 2 (λ high. next q (high / 2))) (to_le_bytes w16 (2 * len) ++ rest)) (sym back) second in
    subst (Matches (half (least + 2 ^ 15) (most + 2 ^ 15) 8 (λ low. half (2 * (top - (low - 2 ^ 15)) - 14) (2 * (top - (low - 2 ^ 15))) 2 (λ high. next (low - 2 ^ 15) (high / 2))))) (sym halves) (half_match (least + 2 ^ 15) (most + 2 ^ 15) 8 (place + 2 ^ 15) (λ low. half (2 * (top - (low - 2 ^ 15)) - 14) (2 * (top - (low - 2 ^ 15))) 2 (λ high. next (low - 2 ^ 15) (high / 2))) (to_le_bytes w16 (2 * len) ++ rest) by_8 (omega (arith, p.upto, a.within, a.below)) (low_half least most top place len p) again)
