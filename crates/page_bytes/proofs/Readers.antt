-- What each reader of a part finds, in terms of the first bad place.
use Rattle.std.proofs.Common.{◌≡◌, ℕ, zero, suc, ◌+◌, ◌-◌, ◌*◌, ◌/◌, ◌^◌, ◌<◌, ◌≤◌, inl, inr, Bool, true, false, cond, nat_eq, List, [], ◌∷◌, Ok, Err, length, get_or, drop, refl, sym, ap, ◌∙◌, subst, arith}
use Rattle.std.proofs.lemmas.Bool.{false≢true, cases_lt, cases_eq, eq-eqb, ne_eqb}
use Rattle.std.proofs.lemmas.List.{length-drop, drop_more, drop-drop, get_or-drop, drop_all}
use Rattle.page_bytes.specs.Content.{round8}
use Rattle.page_bytes.specs.Spelling.{zeros}
use Rattle.page_bytes.specs.Decoding.{half_at, word_at, long_at}
use Rattle.page_bytes.specs.Format.{Format, first_bad, bad_place, fixed, begins_half, is_half, half, pointer, kinds, ending, stack, pointers, behind_lower, page, InHalf, InPointer, Allows, Room, lens_at, room_of, FindsHalf, FindsPlace}
use Rattle.page_bytes.specs.Format.Format.{Done}
use Rattle.page_bytes.proofs.Formats.{passes, stops}
use Rattle.page_bytes.proofs.Alive.{room_allows, room_after}
use Rattle.page_bytes.proofs.Parts.{Steps, by_1, in_pointer, is_half-from, begins-true, begins-from, half_passes, half_stops_first, half_stops_second, free_passes}

-- the bytes from a place on
one_at : (bytes : List ℕ) (at : ℕ) → at < length bytes → drop at bytes ≡ get_or bytes at 0 ∷ drop (at + 1) bytes
one_at bytes at h = drop_more bytes at 0 h

two_at : (bytes : List ℕ) (at : ℕ) → at + 2 ≤ length bytes → drop at bytes ≡ get_or bytes at 0 ∷ get_or bytes (at + 1) 0 ∷ drop (at + 2) bytes
two_at bytes at h =
    let e : at + 1 + 1 ≡ at + 2 = omega arith in
    one_at bytes at (omega arith) ∙ ap (λ (t : List ℕ). get_or bytes at 0 ∷ t) (one_at bytes (at + 1) (omega arith) ∙ ap (λ (n : ℕ). get_or bytes (at + 1) 0 ∷ drop n bytes) e)

-- ---- half words

contradicts : (b : Bool) → b ≡ false → b ≡ true → ⊥
contradicts b f t = false≢true (sym f ∙ t)

pub half_found : (low high step : ℕ) (next : ℕ → Format) (bytes : List ℕ) (at : ℕ) → Steps step → at + 2 ≤ length bytes → get_or bytes at 0 < 256 → InHalf low high step (half_at bytes at) → bad_place (half low high step next) bytes at ≡ bad_place (next (half_at bytes at)) bytes (at + 2)
unfolding half_at
half_found low high step next bytes at s h small i =
    omega (arith, ap (first_bad (half low high step next)) (two_at bytes at h), half_passes low high step next (get_or bytes at 0) (get_or bytes (at + 1) 0) (drop (at + 2) bytes) s small i)

pub half_bad_second : (low high step : ℕ) (next : ℕ → Format) (bytes : List ℕ) (at : ℕ) → at + 2 ≤ length bytes → is_half low high step (half_at bytes at) ≡ false → begins_half low high step (get_or bytes at 0) ≡ true → bad_place (half low high step next) bytes at ≡ at + 1
unfolding half_at
half_bad_second low high step next bytes at h n b =
    omega (arith, ap (first_bad (half low high step next)) (two_at bytes at h), half_stops_second low high step next (get_or bytes at 0) (get_or bytes (at + 1) 0) (drop (at + 2) bytes) (begins-true low high step (get_or bytes at 0) b) (λ i. contradicts _ n (is_half-from low high step _ i)))

pub half_bad_first : (low high step : ℕ) (next : ℕ → Format) (bytes : List ℕ) (at : ℕ) → at + 2 ≤ length bytes → begins_half low high step (get_or bytes at 0) ≡ false → bad_place (half low high step next) bytes at ≡ at
half_bad_first low high step next bytes at h b =
    omega (arith, ap (first_bad (half low high step next)) (one_at bytes at (omega arith)), half_stops_first low high step next (get_or bytes at 0) (drop (at + 1) bytes) (λ f. contradicts _ b (begins-from low high step _ f)))

-- ---- fixed bytes

pub fixed_more : (x : ℕ) (want : List ℕ) (next : Format) (bytes : List ℕ) (at : ℕ) → at < length bytes → get_or bytes at 0 ≡ x → bad_place (fixed (x ∷ want) next) bytes at ≡ bad_place (fixed want next) bytes (at + 1)
unfolding fixed
fixed_more x want next bytes at h e =
    omega (arith, ap (first_bad (fixed (x ∷ want) next)) (one_at bytes at h), passes (λ b. nat_eq b x) (λ _. fixed want next) (get_or bytes at 0) (drop (at + 1) bytes) (eq-eqb _ _ e))

pub fixed_bad : (x : ℕ) (want : List ℕ) (next : Format) (bytes : List ℕ) (at : ℕ) → at < length bytes → (get_or bytes at 0 ≡ x → ⊥) → bad_place (fixed (x ∷ want) next) bytes at ≡ at
unfolding fixed
fixed_bad x want next bytes at h e =
    omega (arith, ap (first_bad (fixed (x ∷ want) next)) (one_at bytes at h), stops (λ b. nat_eq b x) (λ _. fixed want next) (get_or bytes at 0) (drop (at + 1) bytes) (ne_eqb _ _ e))

pub fixed_done : (next : Format) (bytes : List ℕ) (at : ℕ) → bad_place (fixed [] next) bytes at ≡ bad_place next bytes at
unfolding fixed
fixed_done next bytes at = refl

-- zeros from a place on
pub zeros_pass : (n : ℕ) (next : Format) (bytes : List ℕ) (at : ℕ) → at + n ≤ length bytes → ((k : ℕ) → at ≤ k → k < at + n → get_or bytes k 0 ≡ 0) → bad_place (fixed (zeros n) next) bytes at ≡ bad_place next bytes (at + n)
zeros_pass zero next bytes at h z = let e : at ≡ at + 0 = omega arith in fixed_done next bytes at ∙ ap (bad_place next bytes) e
zeros_pass (suc n) next bytes at h z =
    let e : at + 1 + n ≡ at + suc n = omega arith in
    fixed_more 0 (zeros n) next bytes at (omega arith) (z at (omega arith) (omega arith)) ∙ zeros_pass n next bytes (at + 1) (omega arith) (λ k l m. z k (omega arith) (omega arith)) ∙ ap (bad_place next bytes) e

pub zeros_stop : (n : ℕ) (next : Format) (bytes : List ℕ) (at bad : ℕ) → at + n ≤ length bytes → at ≤ bad → bad < at + n → ((k : ℕ) → at ≤ k → k < bad → get_or bytes k 0 ≡ 0) → (get_or bytes bad 0 ≡ 0 → ⊥) → bad_place (fixed (zeros n) next) bytes at ≡ bad
zeros_stop zero next bytes at bad h low high z b = absurd (omega arith)
zeros_stop (suc n) next bytes at bad h low high z b = elim (cases_lt at bad) [
  | inl more ↦ fixed_more 0 (zeros n) next bytes at (omega arith) (z at (omega arith) more) ∙ zeros_stop n next bytes (at + 1) bad (omega arith) (omega arith) (omega arith) (λ k l m. z k (omega arith) m) b
  | inr here ↦
      let e : at ≡ bad = omega arith in
      fixed_bad 0 (zeros n) next bytes at (omega arith) (subst (λ (k : ℕ). get_or bytes k 0 ≡ 0 → ⊥) (sym e) b) ∙ e
]

-- ---- a word of 8 bytes that is 0

abbrev pub ZeroIn : List ℕ → ℕ → ℕ → Type 0
ZeroIn bytes from to = (k : ℕ) → from ≤ k → k < to → get_or bytes k 0 ≡ 0

pub zero_more : (bytes : List ℕ) (from to : ℕ) → ZeroIn bytes from to → get_or bytes to 0 ≡ 0 → ZeroIn bytes from (to + 1)
zero_more bytes from to z e k l h = elim (cases_eq k to) [
  | inl same ↦ ap (λ (i : ℕ). get_or bytes i 0) same ∙ e
  | inr apart ↦ z k l (omega arith)
]

pub zero_none : (bytes : List ℕ) (from : ℕ) → ZeroIn bytes from from
zero_none bytes from k l h = absurd (omega arith)

zero_half : (bytes : List ℕ) (from at : ℕ) → ZeroIn bytes from at → half_at bytes at ≡ 0 → ZeroIn bytes from (at + 2)
unfolding half_at
zero_half bytes from at z e =
    let one = zero_more bytes from at z (omega (arith, e)) in
    let two = zero_more bytes from (at + 1) one (omega (arith, e)) in
    let s : at + 1 + 1 ≡ at + 2 = omega arith in
    subst (ZeroIn bytes from) s two

zero_four : (bytes : List ℕ) (from at : ℕ) → ZeroIn bytes from at → word_at bytes at ≡ 0 → ZeroIn bytes from (at + 4)
unfolding word_at
zero_four bytes from at z e =
    let two = zero_half bytes from (at + 2) (zero_half bytes from at z (omega (arith, e))) (omega (arith, e)) in
    let s : at + 2 + 2 ≡ at + 4 = omega arith in
    subst (ZeroIn bytes from) s two

pub zero_eight : (bytes : List ℕ) (from at : ℕ) → ZeroIn bytes from at → long_at bytes at ≡ 0 → ZeroIn bytes from (at + 8)
unfolding long_at
zero_eight bytes from at z e =
    let two = zero_four bytes from (at + 4) (zero_four bytes from at z (omega (arith, e))) (omega (arith, e)) in
    let s : at + 4 + 4 ≡ at + 8 = omega arith in
    subst (ZeroIn bytes from) s two

-- ---- fixed bytes, in a loop over them

pub fixed_step : (want bytes : List ℕ) (at i : ℕ) (next : Format) → i < length want → at + length want ≤ length bytes → get_or bytes (at + i) 0 ≡ get_or want i 0 → bad_place (fixed (drop i want) next) bytes (at + i) ≡ bad_place (fixed (drop (i + 1) want) next) bytes (at + (i + 1))
fixed_step want bytes at i next h k e =
    let here = drop_more want i 0 h in
    let s : at + i + 1 ≡ at + (i + 1) = omega arith in
    ap (λ (t : List ℕ). bad_place (fixed t next) bytes (at + i)) here ∙ fixed_more (get_or want i 0) (drop (i + 1) want) next bytes (at + i) (omega arith) e ∙ ap (bad_place (fixed (drop (i + 1) want) next) bytes) s

pub fixed_wrong : (want bytes : List ℕ) (at i : ℕ) (next : Format) → i < length want → at + length want ≤ length bytes → (get_or bytes (at + i) 0 ≡ get_or want i 0 → ⊥) → bad_place (fixed (drop i want) next) bytes (at + i) ≡ at + i
fixed_wrong want bytes at i next h k e =
    let here = drop_more want i 0 h in
    ap (λ (t : List ℕ). bad_place (fixed t next) bytes (at + i)) here ∙ fixed_bad (get_or want i 0) (drop (i + 1) want) next bytes (at + i) (omega arith) e

pub fixed_end : (want bytes : List ℕ) (at i : ℕ) (next : Format) → length want ≡ i → bad_place (fixed (drop i want) next) bytes (at + i) ≡ bad_place next bytes (at + length want)
fixed_end want bytes at i next e =
    ap (λ (t : List ℕ). bad_place (fixed t next) bytes (at + i)) (drop_all i want (omega (arith, e))) ∙ fixed_done next bytes (at + i) ∙ ap (λ (n : ℕ). bad_place next bytes (at + n)) (sym e)

-- ---- zeros, from a place up to another

pub zeros_to : (bytes : List ℕ) (from to : ℕ) (next : Format) → from ≤ to → to ≤ length bytes → ZeroIn bytes from to → bad_place (fixed (zeros (to - from)) next) bytes from ≡ bad_place next bytes to
zeros_to bytes from to next order within z =
    let e : from + (to - from) ≡ to = omega arith in
    zeros_pass (to - from) next bytes from (omega arith) (λ k l h. z k l (omega arith)) ∙ ap (bad_place next bytes) e

pub zeros_upto : (bytes : List ℕ) (from to bad : ℕ) (next : Format) → from ≤ bad → bad < to → to ≤ length bytes → ZeroIn bytes from bad → (get_or bytes bad 0 ≡ 0 → ⊥) → bad_place (fixed (zeros (to - from)) next) bytes from ≡ bad
zeros_upto bytes from to bad next low high within z b =
    zeros_stop (to - from) next bytes from bad (omega arith) low (omega arith) z b

-- ---- line pointers

pub pointer_bad_low : (least most top : ℕ) (bytes : List ℕ) (at bad : ℕ) → ((next : ℕ → Format) → bad_place (half (least + 2 ^ 15) (most + 2 ^ 15) 8 next) bytes at ≡ bad) → (next : ℕ → ℕ → Format) → bad_place (pointer least most top next) bytes at ≡ bad
unfolding pointer
pointer_bad_low least most top bytes at bad h next =
    h (λ low. half (2 * (top - (low - 2 ^ 15)) - 14) (2 * (top - (low - 2 ^ 15))) 2 (λ high. next (low - 2 ^ 15) (high / 2)))

pub pointer_bad_high : (least most top low : ℕ) (bytes : List ℕ) (at bad : ℕ) → FindsHalf (least + 2 ^ 15) (most + 2 ^ 15) 8 bytes at (Ok low) → ((next : ℕ → Format) → bad_place (half (2 * (top - (low - 2 ^ 15)) - 14) (2 * (top - (low - 2 ^ 15))) 2 next) bytes (at + 2) ≡ bad) → (next : ℕ → ℕ → Format) → bad_place (pointer least most top next) bytes at ≡ bad
unfolding pointer
pointer_bad_high least most top low bytes at bad f h next =
    f.2 (λ low. half (2 * (top - (low - 2 ^ 15)) - 14) (2 * (top - (low - 2 ^ 15))) 2 (λ high. next (low - 2 ^ 15) (high / 2))) ∙ h (λ high. next (low - 2 ^ 15) (high / 2))

pub pointer_found : (least most top low high : ℕ) (bytes : List ℕ) (at : ℕ) → Allows least most top → FindsHalf (least + 2 ^ 15) (most + 2 ^ 15) 8 bytes at (Ok low) → FindsHalf (2 * (top - (low - 2 ^ 15)) - 14) (2 * (top - (low - 2 ^ 15))) 2 bytes (at + 2) (Ok high) → FindsPlace least most top bytes at (Ok (low - 2 ^ 15))
unfolding pointer word_at
pointer_found least most top low high bytes at a f g =
    let place = low - 2 ^ 15 in
    let len : (half_at bytes at + half_at bytes (at + 2) * 2 ^ 16) / 2 ^ 17 ≡ high / 2 = omega (arith, f.0, g.0, f.1.most, a.below, a.within) in
    let next_at : at + 2 + 2 ≡ at + 4 = omega arith in (
      subst (InPointer least most top place) (sym len) (in_pointer least most top low high a f.1 g.1),
      λ next. f.2 (λ low. half (2 * (top - (low - 2 ^ 15)) - 14) (2 * (top - (low - 2 ^ 15))) 2 (λ high. next (low - 2 ^ 15) (high / 2))) ∙ g.2 (λ high. next place (high / 2)) ∙ ap (λ (n : ℕ). bad_place (next place n) bytes (at + 2 + 2)) (sym len) ∙ ap (bad_place (next place ((half_at bytes at + half_at bytes (at + 2) * 2 ^ 16) / 2 ^ 17)) bytes) next_at,
    )

-- ---- line pointers, one after another

lens_at-more : (bytes : List ℕ) (i : ℕ) → lens_at bytes (i + 1) ≡ word_at bytes (24 + 4 * i) / 2 ^ 17 ∷ lens_at bytes i
unfolding lens_at
lens_at-more bytes i = let e : i + 1 ≡ suc i = omega arith in rw e refl

room_of-cons : (len : ℕ) (lens : List ℕ) → room_of (len ∷ lens) ≡ round8 len + room_of lens
unfolding room_of
room_of-cons len lens = refl

pub room_of-nil : (bytes : List ℕ) → room_of (lens_at bytes 0) ≡ 0
unfolding room_of lens_at
room_of-nil bytes = refl

pub lens_at-nil : (bytes : List ℕ) → lens_at bytes 0 ≡ []
unfolding lens_at
lens_at-nil bytes = refl

pub pointers_on : (count i gap upper top place : ℕ) (bytes : List ℕ) → i < count → FindsPlace (upper + 8 * (count - i - 1)) (cond (nat_eq (count - i - 1) 0) upper (top - 8)) top bytes (24 + 4 * i) (Ok place) → bad_place (pointers (count - i) gap upper top (lens_at bytes i)) bytes (24 + 4 * i) ≡ bad_place (pointers (count - (i + 1)) gap upper place (lens_at bytes (i + 1))) bytes (24 + 4 * (i + 1))
unfolding pointers
pointers_on count i gap upper top place bytes h f =
    let left = count - i - 1 in
    let here : count - i ≡ suc left = omega arith in
    let there : left ≡ count - (i + 1) = omega arith in
    let next_at : 24 + 4 * i + 4 ≡ 24 + 4 * (i + 1) = omega arith in
    let len = word_at bytes (24 + 4 * i) / 2 ^ 17 in
    ap (λ (n : ℕ). bad_place (pointers n gap upper top (lens_at bytes i)) bytes (24 + 4 * i)) here ∙ f.1 (λ place len. pointers left gap upper place (len ∷ lens_at bytes i)) ∙ ap (λ (n : ℕ). bad_place (pointers n gap upper place (len ∷ lens_at bytes i)) bytes (24 + 4 * i + 4)) there ∙ ap (λ (l : List ℕ). bad_place (pointers (count - (i + 1)) gap upper place l) bytes (24 + 4 * i + 4)) (sym (lens_at-more bytes i)) ∙ ap (bad_place (pointers (count - (i + 1)) gap upper place (lens_at bytes (i + 1))) bytes) next_at

pub pointers_off : (count i gap upper top bad : ℕ) (bytes : List ℕ) → i < count → FindsPlace (upper + 8 * (count - i - 1)) (cond (nat_eq (count - i - 1) 0) upper (top - 8)) top bytes (24 + 4 * i) (Err bad) → bad_place (pointers (count - i) gap upper top (lens_at bytes i)) bytes (24 + 4 * i) ≡ bad
unfolding pointers
pointers_off count i gap upper top bad bytes h f =
    let left = count - i - 1 in
    let here : count - i ≡ suc left = omega arith in
    ap (λ (n : ℕ). bad_place (pointers n gap upper top (lens_at bytes i)) bytes (24 + 4 * i)) here ∙ f (λ place len. pointers left gap upper place (len ∷ lens_at bytes i))

-- what holds as the pointers are read
pub record Read (bytes : List ℕ) (count upper i top : ℕ) : Type 0 where
  pub room : Room (count - i) upper top
  pub sum : top + room_of (lens_at bytes i) ≡ 8184

pub read_none : (bytes : List ℕ) (count upper : ℕ) → Room count upper 8184 → Read bytes count upper 0 8184
read_none bytes count upper r =
    let e : count ≡ count - 0 = omega arith in
    record { room = subst (λ (n : ℕ). Room n upper 8184) e r; sum = omega (arith, room_of-nil bytes) }

pub read_allows : (bytes : List ℕ) (count upper i top : ℕ) → i < count → Read bytes count upper i top → Allows (upper + 8 * (count - i - 1)) (cond (nat_eq (count - i - 1) 0) upper (top - 8)) top
read_allows bytes count upper i top h r =
    let here : count - i ≡ suc (count - i - 1) = omega arith in
    room_allows (count - i - 1) upper top (subst (λ (n : ℕ). Room n upper top) here r.room)

pub read_more : (bytes : List ℕ) (count upper i top place : ℕ) → i < count → Read bytes count upper i top → InPointer (upper + 8 * (count - i - 1)) (cond (nat_eq (count - i - 1) 0) upper (top - 8)) top place (word_at bytes (24 + 4 * i) / 2 ^ 17) → Read bytes count upper (i + 1) place
read_more bytes count upper i top place h r p =
    let len = word_at bytes (24 + 4 * i) / 2 ^ 17 in
    let here : count - i ≡ suc (count - i - 1) = omega arith in
    let there : count - i - 1 ≡ count - (i + 1) = omega arith in
    let room = room_after (count - i - 1) upper top place len (subst (λ (n : ℕ). Room n upper top) here r.room) p in
    record {
      room = subst (λ (n : ℕ). Room n upper place) there room;
      sum = omega (arith, ap room_of (lens_at-more bytes i), room_of-cons len (lens_at bytes i), p.room, r.sum);
    }

pub read_all : (bytes : List ℕ) (count upper i top : ℕ) → count ≡ i → Read bytes count upper i top → (upper ≡ top) × (upper + room_of (lens_at bytes count) ≡ 8184)
read_all bytes count upper i top e r =
    let full : upper ≡ top = r.room.full (omega (arith, e)) in
    (full, omega (arith, r.sum, full, ap (λ (n : ℕ). room_of (lens_at bytes n)) e))

pub pointers_end : (count i gap upper top : ℕ) (bytes : List ℕ) → count ≡ i → bad_place (pointers (count - i) gap upper top (lens_at bytes i)) bytes (24 + 4 * i) ≡ bad_place (fixed (zeros gap) (stack (lens_at bytes count))) bytes (24 + 4 * count)
unfolding pointers
pointers_end count i gap upper top bytes e =
    let none : count - i ≡ 0 = omega arith in
    ap (λ (n : ℕ). bad_place (pointers n gap upper top (lens_at bytes i)) bytes (24 + 4 * i)) none ∙ ap (λ (n : ℕ). bad_place (fixed (zeros gap) (stack (lens_at bytes n))) bytes (24 + 4 * n)) (sym e)

pub pointers_begin : (count gap upper : ℕ) (bytes : List ℕ) → bad_place (pointers count gap upper 8184 []) bytes 24 ≡ bad_place (pointers (count - 0) gap upper 8184 (lens_at bytes 0)) bytes (24 + 4 * 0)
pointers_begin count gap upper bytes =
    let e : count ≡ count - 0 = omega arith in
    let at : 24 ≡ 24 + 4 * 0 = omega arith in
    ap (λ (n : ℕ). bad_place (pointers n gap upper 8184 []) bytes 24) e ∙ ap (λ (l : List ℕ). bad_place (pointers (count - 0) gap upper 8184 l) bytes 24) (sym (lens_at-nil bytes))

-- ---- items, one after another

-- the length that the line pointer of an item tells
abbrev pub len_at : List ℕ → ℕ → ℕ
len_at bytes i = word_at bytes (24 + 4 * i) / 2 ^ 17

lens_at-last : (bytes : List ℕ) (left i : ℕ) → left ≡ suc i → lens_at bytes left ≡ len_at bytes i ∷ lens_at bytes i
unfolding lens_at
lens_at-last bytes left i e = rw e refl

pub room_last : (bytes : List ℕ) (left i : ℕ) → left ≡ suc i → room_of (lens_at bytes left) ≡ round8 (len_at bytes i) + room_of (lens_at bytes i)
room_last bytes left i e = ap room_of (lens_at-last bytes left i e) ∙ room_of-cons (len_at bytes i) (lens_at bytes i)

-- the next item's own bytes
pub stack_on : (bytes : List ℕ) (left i at : ℕ) → left ≡ suc i → ((k : ℕ) → get_or bytes k 0 < 256) → at + len_at bytes i ≤ length bytes → bad_place (stack (lens_at bytes left)) bytes at ≡ bad_place (fixed (zeros (round8 (len_at bytes i) - len_at bytes i)) (stack (lens_at bytes i))) bytes (at + len_at bytes i)
unfolding stack
stack_on bytes left i at e fits within =
    let len = len_at bytes i in
    let next = fixed (zeros (round8 len - len)) (stack (lens_at bytes i)) in
    let some : (k : ℕ) → get_or (drop at bytes) k 0 < 256 = λ k. rw get_or-drop (fits (at + k)) in
    let passed = free_passes len next (drop at bytes) some (omega (arith, length-drop at bytes)) in
    ap (λ (l : List ℕ). bad_place (stack l) bytes at) (lens_at-last bytes left i e) ∙ omega (arith, passed, ap (first_bad next) (drop-drop len at bytes))

pub stack_end : (bytes : List ℕ) (left at : ℕ) → left ≡ 0 → at ≡ 8184 → bad_place (stack (lens_at bytes left)) bytes at ≡ bad_place ending bytes 8184
unfolding stack lens_at
stack_end bytes left at e f =
    ap (λ (n : ℕ). bad_place (stack (lens_at bytes n)) bytes at) e ∙ ap (bad_place ending bytes) f

-- the next item's own bytes, and then the zeros behind them from one place to another
pub stack_skips : (bytes : List ℕ) (left i at len rounded : ℕ) → left ≡ suc i → len ≡ len_at bytes i → rounded ≡ round8 (len_at bytes i) → ((k : ℕ) → get_or bytes k 0 < 256) → at + len_at bytes i ≤ length bytes → bad_place (stack (lens_at bytes left)) bytes at ≡ bad_place (fixed (zeros (at + rounded - (at + len))) (stack (lens_at bytes i))) bytes (at + len)
stack_skips bytes left i at len rounded last len_is rounded_is fits within =
    let n : round8 (len_at bytes i) - len_at bytes i ≡ at + rounded - (at + len) = omega (arith, len_is, rounded_is) in
    stack_on bytes left i at last fits within ∙ ap (λ (k : ℕ). bad_place (fixed (zeros k) (stack (lens_at bytes i))) bytes (at + len_at bytes i)) n ∙ ap (λ (k : ℕ). bad_place (fixed (zeros (at + rounded - (at + len))) (stack (lens_at bytes i))) bytes (at + k)) (sym len_is)

-- ---- the special space, and the header

half_small : (bytes : List ℕ) (at : ℕ) → ((k : ℕ) → get_or bytes k 0 < 256) → InHalf 0 0xFFFF 1 (half_at bytes at)
unfolding half_at
half_small bytes at fits = record { least = omega arith; most = omega (arith, fits at, fits (at + 1)); even = omega arith }

pub ending_begins : (bytes : List ℕ) (least : ℕ) → length bytes ≡ 8192 → ((k : ℕ) → get_or bytes k 0 < 256) → least ≡ cond (nat_eq (word_at bytes 8184) 0xFFFFFFFF) 1 4 → bad_place ending bytes 8184 ≡ bad_place (fixed (zeros 2) (half least 4 1 (λ _. Done))) bytes 8188
unfolding ending kinds word_at
ending_begins bytes least long fits e =
    let kind : ℕ → Format = λ n. fixed (zeros 2) (half n 4 1 (λ _. Done)) in
    half_found 0 0xFFFF 1 (λ low. half 0 0xFFFF 1 (λ high. kinds low high)) bytes 8184 by_1 (omega (arith, long)) (fits 8184) (half_small bytes 8184 fits) ∙ half_found 0 0xFFFF 1 (λ high. kinds (half_at bytes 8184) high) bytes 8186 by_1 (omega (arith, long)) (fits 8186) (half_small bytes 8186 fits) ∙ ap (λ (n : ℕ). bad_place (kind n) bytes 8188) (sym e)

pub done_at : (bytes : List ℕ) (at : ℕ) → bad_place Done bytes at ≡ at
unfolding first_bad
done_at bytes at = omega arith

pub page_begins : (bytes : List ℕ) → length bytes ≡ 8192 → ((k : ℕ) → get_or bytes k 0 < 256) → first_bad page bytes ≡ bad_place (fixed (zeros 4) (half 24 2744 4 behind_lower)) bytes 8
unfolding page
page_begins bytes long fits = free_passes 8 (fixed (zeros 4) (half 24 2744 4 behind_lower)) bytes fits (omega (arith, long))
