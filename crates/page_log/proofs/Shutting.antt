-- The seal of an epoch as bytes: what a write leaves of it.
use Rattle.std.proofs.Common.{◌≡◌, ◌≢◌, inl, inr, Bool, true, false, ◌&&◌, ◌==◌, nat_le, if◌then◌else◌, ℕ, zero, suc, ◌+◌, ◌-◌, ◌≤◌, List, [], ◌∷◌, ◌++◌, None, Ok, length, get_or, take, drop, replicate, slice_index, refl, sym, ◌∙◌, ap, subst, arith, append_assoc, length-append, take-append-drop}
use Rattle.std.proofs.lemmas.Bool.{cases_eq}
use Rattle.std.proofs.lemmas.Bool.Decides.{nat_tests}
use Rattle.std.proofs.lemmas.List.{take_at, drop_more, get_or-take, get_or-drop, length-take-le}
use Rattle.vec_outside.specs.Disk.{IsTorn, spliced}
use Rattle.page_log.specs.Aside.{IsShut, IsBelow, IsAside}
use Rattle.page_log.specs.Epoch.{is_open, named_head, bad_size}
use Rattle.page_log.specs.Opening.{front_at, front_with}
use Rattle.page_log.specs.Writing.{IsApart}
use Rattle.page_log.proofs.Seals.{torn_seal, written_seal}

and_false : (a b : Bool) → b ≡ false → (a && b) ≡ false
and_false true b is = is
and_false false b is = refl

pub not_open : (bytes : List ℕ) → slice_index bytes 39 ≢ 165 → is_open bytes ≡ false
not_open bytes shut =
    let test : (slice_index bytes 39 == 165) ≡ false = grind (arith, nat_tests) in
    and_false (nat_le 40 (length bytes)) (slice_index bytes 39 == 165) test

-- nothing counts behind a closed seal
pub front_none : (parity : ℕ) (bytes : List ℕ) → slice_index bytes 39 ≢ 165 → front_at parity bytes ≡ Ok None
front_none parity bytes shut =
    ap (λ (o : Bool). if o then front_with (bad_size bytes) (named_head parity bytes) else Ok None) (not_open bytes shut)

pub shut_aside : (parity below : ℕ) (bytes : List ℕ) → IsShut bytes → IsAside parity below bytes
shut_aside parity below bytes is = record {
  whole = is.whole;
  below = subst (λ f. IsBelow below f) (sym (front_none parity bytes is.shut)) tt;
}

pub get_at : (front rest : List ℕ) (x n : ℕ) → length front ≡ n → get_or (front ++ x ∷ rest) n 0 ≡ x
get_at [] rest x zero is = refl
get_at [] rest x (suc n) is = absurd (omega (arith, is))
get_at (f ∷ front) rest x zero is = absurd (omega (arith, is))
get_at (f ∷ front) rest x (suc n) is = get_at front rest x n (omega (arith, is))

-- an area with a whole header, about its seal
pub parted : (bytes : List ℕ) → 40 ≤ length bytes → bytes ≡ take 39 bytes ++ get_or bytes 39 0 ∷ drop 40 bytes
parted bytes long = sym (take-append-drop 39 bytes) ∙ ap (λ (l : List ℕ). take 39 bytes ++ l) (drop_more bytes 39 0 (omega (arith, long)))

title_long : (bytes : List ℕ) → 40 ≤ length bytes → 39 ≡ length (take 39 bytes)
title_long bytes long = sym (length-take-le 39 bytes (omega (arith, long)))

-- a write that is not over the seal
pub shut_torn : (at n : ℕ) (was bytes : List ℕ) → IsApart at n → IsShut was → IsTorn at n was bytes → IsShut bytes
shut_torn at n was bytes apart is torn = record {
  whole = omega (arith, is.whole, torn.no_shorter);
  shut = λ open_. is.shut (sym (same apart) ∙ open_);
}
  where
    same : IsApart at n → get_or bytes 39 0 ≡ get_or was 39 0
    same (inl before) =
        let k : 39 ≡ at + n + (39 - (at + n)) = omega (arith, before) in
        ap (λ (i : ℕ). get_or bytes i 0) k ∙ sym (get_or-drop (at + n) bytes (39 - (at + n)) 0) ∙ ap (λ (l : List ℕ). get_or l (39 - (at + n)) 0) torn.after
        ∙ get_or-drop (at + n) was (39 - (at + n)) 0 ∙ ap (λ (i : ℕ). get_or was i 0) (sym k)
    same (inr behind) =
        sym (get_or-take at bytes 39 0 (omega (arith, behind))) ∙ ap (λ (l : List ℕ). get_or l 39 0) torn.before ∙ get_or-take at was 39 0 (omega (arith, behind))

-- a write of the seal of an area that does not count: it does not, whatever the seal becomes
pub aside_torn : (parity below : ℕ) (was bytes : List ℕ) → slice_index was 39 ≡ 165 → IsAside parity below was → IsTorn 39 1 was bytes → IsAside parity below bytes
aside_torn parity below was bytes open_ aside torn =
    let other = torn_seal (take 39 was) 39 (title_long was aside.whole) (get_or was 39 0) (drop 40 was) was bytes (parted was aside.whole) torn in
    elim (cases_eq other.0 165) [
      | inl is ↦
          let same : bytes ≡ was = other.1 ∙ ap (λ (b : ℕ). take 39 was ++ b ∷ drop 40 was) (is ∙ sym open_) ∙ sym (parted was aside.whole) in
          subst (λ (b : List ℕ). IsAside parity below b) (sym same) aside
      | inr shut ↦ shut_aside parity below bytes (record {
        whole = omega (arith, aside.whole, torn.no_shorter);
        shut = λ is. shut (sym (get_at (take 39 was) (drop 40 was) other.0 39 (sym (title_long was aside.whole))) ∙ ap (λ (l : List ℕ). get_or l 39 0) (sym other.1) ∙ is);
      })
    ]

-- a closed seal is written
pub shut_written : (was bytes : List ℕ) → 40 ≤ length was → bytes ≡ spliced was 39 (0 ∷ []) → IsShut bytes
shut_written was bytes long is =
    let whole : bytes ≡ take 39 was ++ 0 ∷ drop 40 was =
    is ∙ ap (λ (l : List ℕ). spliced l 39 (0 ∷ [])) (parted was long) ∙ written_seal (take 39 was) 39 (title_long was long) (get_or was 39 0) 0 (drop 40 was) in
    let seal : slice_index bytes 39 ≡ 0 = ap (λ (l : List ℕ). get_or l 39 0) whole ∙ get_at (take 39 was) (drop 40 was) 0 39 (sym (title_long was long)) in record {
      whole = omega (arith, ap length whole, length-append (take 39 was) (0 ∷ drop 40 was), title_long was long);
      shut = λ open_. absurd (omega (arith, seal, open_));
    }

pub shut_zeros : (was bytes : List ℕ) → bytes ≡ spliced was 0 (replicate 40 0) → IsShut bytes
shut_zeros was bytes is =
    let seal : slice_index bytes 39 ≡ 0 = ap (λ (l : List ℕ). get_or l 39 0) is in record {
      whole = omega (arith, ap length is, length-append (replicate 40 0) (drop 40 was));
      shut = λ open_. absurd (omega (arith, seal, open_));
    }

-- a header is written up to its seal, which stays
pub title_begins : (title old new : List ℕ) → length title ≡ 39 → 40 ≤ length old → new ≡ spliced old 0 title
    → take (length (title ++ slice_index old 39 ∷ [])) new ≡ title ++ slice_index old 39 ∷ []
title_begins title old new size long is =
    let s = slice_index old 39 in
    let place : 0 + length title ≡ 39 = omega (arith, size) in
    let rest : drop (0 + length title) old ≡ s ∷ drop 40 old = ap (λ (n : ℕ). drop n old) place ∙ drop_more old 39 0 (omega (arith, long)) in
    let whole : new ≡ (title ++ s ∷ []) ++ drop 40 old =
    is ∙ ap (λ (l : List ℕ). title ++ l) rest ∙ sym (append_assoc title (s ∷ []) (drop 40 old)) in
    ap (λ (l : List ℕ). take (length (title ++ s ∷ [])) l) whole ∙ take_at (title ++ s ∷ []) (drop 40 old) (length (title ++ s ∷ [])) refl
