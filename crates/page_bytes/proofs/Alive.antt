-- Every front of bytes that may stand on a page is the front of a whole one.
use Rattle.std.proofs.Common.{◌≡◌, ℕ, zero, suc, ◌+◌, ◌-◌, ◌*◌, ◌/◌, ◌%◌, ◌^◌, ◌<◌, ◌≤◌, ◌⊎◌, inl, inr, Bool, true, false, cond, nat_eq, List, [], ◌∷◌, refl, arith}
use Rattle.std.proofs.lemmas.Bool.Decides.{nat_tests}
use Rattle.std.proofs.lemmas.Bool.{cases_eq}
use Rattle.page_bytes.specs.Content.{round8}
use Rattle.page_bytes.specs.Spelling.{zeros}
use Rattle.page_bytes.specs.Format.{fixed, half, kinds, ending, stack, pointers, behind_upper, least_upper, most_upper, behind_lower, page, InHalf, InPointer, Allows, Room}
use Rattle.page_bytes.specs.Format.Format.{Done}
use Rattle.page_bytes.proofs.Formats.{Live}
use Rattle.page_bytes.proofs.Parts.{by_1, by_4, by_8, free_live, fixed_live, half_live, pointer_live}

live_done : Live Done
unfolding Live
live_done = tt

least_kind : (b : Bool) → cond b 1 4 ≤ 4
least_kind true = omega arith
least_kind false = omega arith

live_kinds : (low high : ℕ) → Live (kinds low high)
unfolding kinds
live_kinds low high =
    let none = nat_eq (low + high * 2 ^ 16) 0xFFFFFFFF in
    fixed_live (zeros 2) (half (cond none 1 4) 4 1 (λ _. Done)) (half_live (cond none 1 4) 4 1 (λ _. Done) by_1 (least_kind none) refl (λ _ _. live_done))

live_ending : Live ending
unfolding ending
live_ending =
    half_live 0 0xFFFF 1 (λ low. half 0 0xFFFF 1 (λ high. kinds low high)) by_1 (omega arith) refl (λ low _. half_live 0 0xFFFF 1 (λ high. kinds low high) by_1 (omega arith) refl (λ high _. live_kinds low high))

live_stack : (lens : List ℕ) → Live (stack lens)
unfolding stack
live_stack [] = live_ending
live_stack (len ∷ lens) =
    free_live len (fixed (zeros (round8 len - len)) (stack lens)) (fixed_live (zeros (round8 len - len)) (stack lens) (live_stack lens))

pub most_place-cases : (left upper top : ℕ) → ((left ≡ 0) × (cond (nat_eq left 0) upper (top - 8) ≡ upper)) ⊎ ((0 < left) × (cond (nat_eq left 0) upper (top - 8) ≡ top - 8))
most_place-cases zero upper top = inl (refl, refl)
most_place-cases (suc left) upper top = inr (omega arith, grind (arith, nat_tests))

pub room_allows : (left upper top : ℕ) → Room (suc left) upper top → Allows (upper + 8 * left) (cond (nat_eq left 0) upper (top - 8)) top
room_allows left upper top r = elim (most_place-cases left upper top) [
  | inl c ↦ record { order = omega (arith, c.0, c.1); below = omega (arith, c.0, c.1, r.enough); within = r.within; most_even = omega (arith, c.1, r.upper_whole); top_even = r.top_whole }
  | inr c ↦ record { order = omega (arith, c.0, c.1, r.enough); below = omega (arith, c.1, r.enough); within = r.within; most_even = omega (arith, c.1, r.top_whole); top_even = r.top_whole }
]

-- what holds after one of them
pub room_after : (left upper top place len : ℕ) → Room (suc left) upper top → InPointer (upper + 8 * left) (cond (nat_eq left 0) upper (top - 8)) top place len → Room left upper place
room_after left upper top place len r p =
    let a = room_allows left upper top r in
    record {
      upper_whole = r.upper_whole;
      top_whole = p.even;
      within = omega (arith, r.within, p.room);
      enough = p.from;
      full = λ e. elim (most_place-cases left upper top) [
        | inl c ↦ omega (arith, c.1, p.from, p.upto)
        | inr c ↦ absurd (omega (arith, c.0))
      ];
    }

live_pointers : (left gap upper top : ℕ) (lens : List ℕ) → Room left upper top → Live (pointers left gap upper top lens)
unfolding pointers
live_pointers zero gap upper top lens r = fixed_live (zeros gap) (stack lens) (live_stack lens)
live_pointers (suc left) gap upper top lens r =
    pointer_live (upper + 8 * left) (cond (nat_eq left 0) upper (top - 8)) top (λ place len. pointers left gap upper place (len ∷ lens)) (room_allows left upper top r) (λ place len p. live_pointers left gap upper place (len ∷ lens) (room_after left upper top place len r p))

-- ---- the header

pub least_upper-cases : (lower : ℕ) → ((lower ≡ 24) × (least_upper lower ≡ 8184)) ⊎ ((lower ≡ 24 → ⊥) × (least_upper lower ≡ lower))
least_upper-cases lower = elim (cases_eq lower 24) [
  | inl e ↦ inl (e, grind (arith, nat_tests))
  | inr n ↦ inr (n, grind (arith, nat_tests))
]

-- what pd_upper may be, after pd_lower
pub record Uppers (lower : ℕ) : Type 0 where
  pub order : least_upper lower ≤ most_upper lower
  pub even : most_upper lower % 8 ≡ 0

pub uppers : (lower : ℕ) → InHalf 24 2744 4 lower → Uppers lower
uppers lower h = elim (least_upper-cases lower) [
  | inl c ↦ record { order = omega (arith, c.0, c.1); even = omega (arith, h.even, h.least) }
  | inr c ↦ record { order = omega (arith, c.1, h.most, h.least); even = omega (arith, h.even, h.least) }
]

-- what pd_lower and pd_upper tell of the line pointers
pub first_room : (lower upper : ℕ) → InHalf 24 2744 4 lower → InHalf (least_upper lower) (most_upper lower) 8 upper → Room ((lower - 24) / 4) upper 8184 × (lower ≤ upper)
first_room lower upper l u = elim (least_upper-cases lower) [
  | inl c ↦ (record { upper_whole = u.even; top_whole = refl; within = omega arith; enough = omega (arith, l.even, u.most, c.0); full = λ e. omega (arith, u.least, u.most, c.0, c.1) }, omega (arith, c.0, c.1, u.least))
  | inr c ↦ (record { upper_whole = u.even; top_whole = refl; within = omega arith; enough = omega (arith, l.even, l.least, u.most); full = λ e. absurd (c.0 (omega (arith, e, l.even, l.least))) }, omega (arith, c.1, u.least))
]

live_upper : (lower upper : ℕ) → InHalf 24 2744 4 lower → InHalf (least_upper lower) (most_upper lower) 8 upper → Live (behind_upper lower upper)
unfolding behind_upper
live_upper lower upper l u =
    fixed_live _ (pointers ((lower - 24) / 4) (upper - lower) upper 8184 []) (live_pointers ((lower - 24) / 4) (upper - lower) upper 8184 [] (first_room lower upper l u).0)

live_lower : (lower : ℕ) → InHalf 24 2744 4 lower → Live (behind_lower lower)
unfolding behind_lower
live_lower lower l =
    half_live (least_upper lower) (most_upper lower) 8 (behind_upper lower) by_8 (uppers lower l).order (uppers lower l).even (λ upper u. live_upper lower upper l u)

pub live_page : Live page
unfolding page
live_page =
    free_live 8 (fixed (zeros 4) (half 24 2744 4 behind_lower)) (fixed_live (zeros 4) (half 24 2744 4 behind_lower) (half_live 24 2744 4 behind_lower by_4 (omega arith) refl live_lower))
