-- What the first bad place says of pages.
use Rattle.std.proofs.Common.{◌≡◌, ℕ, suc, ◌+◌, ◌<◌, ◌≤◌, inl, inr, List, ◌++◌, length, min, take, drop, sym, ap, ◌∙◌, subst, arith, append_assoc}
use Rattle.std.proofs.lemmas.Bool.{cases_lt}
use Rattle.std.proofs.lemmas.List.{append-nil, take_all, take_at, take-take, take-append-drop, length-append, length-take-le, nil_from_length}
use Rattle.page_bytes.specs.Content.{Content}
use Rattle.page_bytes.specs.Spelling.{spelling}
use Rattle.page_bytes.specs.Decoding.{Spells}
use Rattle.page_bytes.specs.Splice.{spliced}
use Rattle.page_bytes.specs.Faults.{BeginsPage, IsFirstFault}
use Rattle.page_bytes.specs.Format.{first_bad, page}
use Rattle.page_bytes.proofs.Formats.{Matches, begins, nothing_has, no_bad, bad_within}
use Rattle.page_bytes.proofs.Alive.{live_page}
use Rattle.page_bytes.proofs.Grammar.{page_matched}
use Rattle.page_bytes.proofs.Spelled.{page_match}
use Rattle.page_bytes.proofs.Whole.{length-spelling}

-- ---- whole bytes

-- the bytes before the first bad one are the first of a page
begins_page : (whole : List ℕ) → BeginsPage (take (first_bad page whole) whole)
begins_page whole =
    let b = begins page whole live_page in
    let p = page_matched (take (first_bad page whole) whole ++ b.0) b.1 in
    record { page = p.0; rest = b.0; valid = p.1.page; same = sym p.1.same }

-- fewer bytes are too
fewer : (bytes : List ℕ) (n : ℕ) → BeginsPage bytes → BeginsPage (take n bytes)
fewer bytes n b = record {
  page = b.page;
  rest = drop n bytes ++ b.rest;
  valid = b.valid;
  same = b.same ∙ ap (λ (t : List ℕ). t ++ b.rest) (sym (take-append-drop n bytes)) ∙ append_assoc (take n bytes) (drop n bytes) b.rest;
}

-- no page has the first bad byte
no_page : (whole : List ℕ) → first_bad page whole < length whole → BeginsPage (take (suc (first_bad page whole)) whole) → ⊥
no_page whole h b =
    nothing_has page whole b.rest h (subst (Matches page) b.same (page_match b.page b.valid))

-- no page is longer
not_longer : (bytes : List ℕ) → 8192 < length bytes → BeginsPage bytes → ⊥
not_longer bytes h b =
    let long = sym (length-spelling b.page b.valid.room) ∙ ap length b.same ∙ length-append bytes b.rest in
    absurd (omega (arith, long))

-- a page where there is no bad byte
pub whole_page : (whole : List ℕ) → length whole ≡ 8192 → first_bad page whole ≡ 8192 → (p : Content) × Spells whole p
whole_page whole long e =
    let all : take (first_bad page whole) whole ≡ whole = take_all (first_bad page whole) whole (omega (arith, long, e)) in
    let b = subst BeginsPage all (begins_page whole) in
    let sizes = sym (length-spelling b.page b.valid.room) ∙ ap length b.same ∙ length-append whole b.rest in
    let none = nil_from_length b.rest (omega (arith, sizes, long)) in
    (b.page, record { page = b.valid; same = sym (b.same ∙ ap (λ (t : List ℕ). whole ++ t) none ∙ append-nil whole) })

-- and only there
pub page_whole : (whole : List ℕ) (p : Content) → Spells whole p → first_bad page whole ≡ 8192
page_whole whole p s =
    ap (first_bad page) s.same ∙ no_bad page (spelling p) (page_match p s.page) ∙ length-spelling p s.page.room

-- ---- bytes that may be fewer or more, of which the first 8,192 stand in whole

same_front : (bytes whole : List ℕ) (n k : ℕ) → take n whole ≡ take n bytes → k ≤ n → take k whole ≡ take k bytes
same_front bytes whole n k e h =
    sym (take-take k n whole h) ∙ ap (take k) e ∙ take-take k n bytes h

pub first_fault_is : (bytes whole : List ℕ) (n at : ℕ) → length whole ≡ 8192 → n ≡ min (length bytes) 8192 → take n whole ≡ take n bytes → at ≡ min (first_bad page whole) (length bytes) → ((first_bad page whole ≡ 8192) × (length bytes ≡ 8192) → ⊥) → IsFirstFault bytes at
first_fault_is bytes whole n at long n_is same at_is not_whole =
    let bad = first_bad page whole in
    let small : bad ≤ 8192 = omega (arith, bad_within page whole, long) in
    let front : take at whole ≡ take at bytes = same_front bytes whole n at same (omega (arith, n_is, at_is)) in
    record {
      within = omega (arith, at_is);
      earlier = subst BeginsPage (take-take at bad whole (omega (arith, at_is)) ∙ front) (fewer (take bad whole) at (begins_page whole));
      here = λ h b. elim (cases_lt bad 8192) [
        | inl low ↦
            let next : at + 1 ≡ suc bad = omega (arith, at_is) in
            let front' : take (suc bad) bytes ≡ take (suc bad) whole = sym (same_front bytes whole n (suc bad) same (omega (arith, n_is, at_is))) in
            no_page whole (omega (arith, long)) (subst BeginsPage (ap (λ (k : ℕ). take k bytes) next ∙ front') b)
        | inr high ↦ not_longer (take (at + 1) bytes) (omega (arith, length-take-le (at + 1) bytes (omega arith), at_is)) b
      ];
      short = λ e. elim (cases_lt at 8192) [
        | inl low ↦ low
        | inr high ↦ absurd (not_whole (omega (arith, at_is, e), omega (arith, at_is, e)))
      ];
    }

-- bytes that are as many are the same
pub same_whole : (bytes whole : List ℕ) → length whole ≡ 8192 → length bytes ≡ 8192 → take (min (length bytes) 8192) whole ≡ take (min (length bytes) 8192) bytes → whole ≡ bytes
same_whole bytes whole long as_long same =
    let n = min (length bytes) 8192 in
    sym (take_all n whole (omega (arith, long, as_long))) ∙ same ∙ take_all n bytes (omega (arith, as_long))

pub page_long : (bytes : List ℕ) (p : Content) → Spells bytes p → length bytes ≡ 8192
page_long bytes p s = ap length s.same ∙ length-spelling p s.page.room

-- bytes of a page have no bad place
pub page_has_none : (bytes whole : List ℕ) (p : Content) → length whole ≡ 8192 → take (min (length bytes) 8192) whole ≡ take (min (length bytes) 8192) bytes → Spells bytes p → (first_bad page whole ≡ 8192) × (length bytes ≡ 8192)
page_has_none bytes whole p long same s =
    let as_long = page_long bytes p s in
    (ap (first_bad page) (same_whole bytes whole long as_long same) ∙ page_whole bytes p s, as_long)

-- the front of what a part was written to
pub front_written : (bytes part : List ℕ) (n : ℕ) → n ≡ length part → take n (spliced bytes 0 part) ≡ part
unfolding spliced
front_written bytes part n e = take_at part (drop (0 + length part) bytes) n (sym e)
