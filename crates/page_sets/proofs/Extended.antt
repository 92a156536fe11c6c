-- Fresh pages in a set, one after the other; and what the set is then beside all pages.
use Rattle.std.proofs.Common.{◌≡◌, ◌≢◌, ◌⊎◌, ◌<◌, ◌≤◌, ◌+◌, ◌-◌, ℕ, zero, suc, ◌==◌, nat_lt, Bool, true, false, cond, List, [], ◌∷◌, ◌++◌, length, replicate, slice_get, Option, Some, None, refl, sym, ap, subst, ◌∙◌, inl, inr, arith}
use Rattle.std.proofs.lemmas.Bool.{eq-eqb, eqb-true, ltb-true, ltb-false}
use Rattle.std.proofs.lemmas.List.{length-append, length-replicate}
use Rattle.std.proofs.lemmas.Option.{none-some, slice_get_within, slice_get_past}
use Rattle.page_bytes.specs.Content.{Content}
use Rattle.page_sets.specs.Sets.{PageMap, IsPartOf, IsChangedTo}
use Rattle.page_sets.specs.Committing.{IsExtended}
use Rattle.page_sets.proofs.Blocks.{same_or_other}

pub extended_none : (set : PageMap) (blocks : ℕ) (fresh : Content) → IsExtended set set blocks blocks fresh
extended_none set blocks fresh = record {
  here = λ b from below. absurd (omega (arith, from, below));
  low = λ b below. refl;
  high = λ b from. refl;
}

pub extended_more : (old mid new : PageMap) (blocks upto : ℕ) (fresh : Content) → blocks ≤ upto → IsExtended old mid blocks upto fresh
    → IsChangedTo mid new upto fresh → IsExtended old new blocks (upto + 1) fresh
extended_more old mid new blocks upto fresh from e changed = record {
  here = λ b low high. elim (same_or_other b upto) as (λ _. new b ≡ Some fresh) [
    | inl same ↦ ap new same ∙ changed.here
    | inr differs ↦
        let below : b < upto = differs_below b upto high differs in
        changed.elsewhere b differs ∙ e.here b low below
  ];
  low = λ b below. changed.elsewhere b (λ same. absurd (omega (arith, below, same, from))) ∙ e.low b below;
  high = λ b above. changed.elsewhere b (λ same. absurd (omega (arith, above, same))) ∙ e.high b (omega (arith, above));
} where
  differs_below : (b upto : ℕ) → b < upto + 1 → b ≢ upto → b < upto
  differs_below b upto high differs = elim (same_or_other (b + 1) (upto + 1)) as (λ _. b < upto) [
    | inl same ↦ absurd (differs (omega (arith, same)))
    | inr apart ↦ omega (arith, high, differs)
  ]

-- ---- beside all pages

below_or_not : (b n : ℕ) → (b < n) ⊎ (n ≤ b)
below_or_not b n = by (nat_lt b n) refl where
  by : (t : Bool) → nat_lt b n ≡ t → (b < n) ⊎ (n ≤ b)
  by true e = inl (ltb-true _ _ e)
  by false e = inr (ltb-false _ _ e)

abbrev longer : List Content → ℕ → Content → List Content
longer all more fresh = all ++ replicate more fresh

long_is : (all : List Content) (more : ℕ) (fresh : Content) → length (longer all more fresh) ≡ length all + more
long_is all more fresh = length-append all (replicate more fresh) ∙ ap (λ n. length all + n) (length-replicate more fresh)

old_page : (all : List Content) (more : ℕ) (fresh : Content) (b : ℕ) → b < length all → slice_get (longer all more fresh) b ≡ slice_get all b
old_page [] more fresh b below = absurd (omega (arith, below))
old_page (x ∷ all) more fresh zero below = refl
old_page (x ∷ all) more fresh (suc b) below = old_page all more fresh b (omega (arith, below))

fresh_in : (more : ℕ) (fresh : Content) (b : ℕ) → b < more → slice_get (replicate more fresh) b ≡ Some fresh
fresh_in zero fresh b below = absurd (omega (arith, below))
fresh_in (suc more) fresh zero below = refl
fresh_in (suc more) fresh (suc b) below = fresh_in more fresh b (omega (arith, below))

new_page : (all : List Content) (more : ℕ) (fresh : Content) (b : ℕ) → b < more → slice_get (longer all more fresh) (length all + b) ≡ Some fresh
new_page [] more fresh b below =
    let same : 0 + b ≡ b = omega arith in
    ap (slice_get (replicate more fresh)) same ∙ fresh_in more fresh b below
new_page (x ∷ all) more fresh b below =
    let same : length (x ∷ all) + b ≡ suc (length all + b) = omega arith in
    ap (slice_get (x ∷ longer all more fresh)) same ∙ new_page all more fresh b below

pub none_new : (set : PageMap) (all : List Content) (b : ℕ) → IsPartOf set all → length all ≤ b → set b ≡ None
none_new set all b part past = by (set b) refl where
  by : (o : Option Content) → set b ≡ o → o ≡ None
  by None e = refl
  by (Some page) e =
      let inside = slice_get_within all b page (part b page e) in
      absurd (omega (arith, inside, past))

module _ (set mid : PageMap) (all : List Content) (blocks upto : ℕ) (fresh : Content) (part : IsPartOf set all) (long : length all ≡ blocks)
    (upward : blocks ≤ upto) (e : IsExtended set mid blocks upto fresh) where
  abbrev ext : List Content
  ext = longer all (upto - blocks) fresh

  fresh_at : (b : ℕ) → blocks ≤ b → b < upto → slice_get ext b ≡ Some fresh
  fresh_at b low high =
      let same : b ≡ length all + (b - blocks) = omega (arith, low, long) in
      ap (slice_get ext) same ∙ new_page all (upto - blocks) fresh (b - blocks) (omega (arith, low, high))

  pub ext_part : IsPartOf mid ext
  ext_part b page is = elim (below_or_not b blocks) as (λ _. slice_get ext b ≡ Some page) [
    | inl low ↦ old_page all (upto - blocks) fresh b (omega (arith, low, long)) ∙ part b page (sym (e.low b low) ∙ is)
    | inr from ↦ elim (below_or_not b upto) as (λ _. slice_get ext b ≡ Some page) [
      | inl high ↦ fresh_at b from high ∙ sym (e.here b from high) ∙ is
      | inr above ↦
          let none = none_new set all b part (omega (arith, from, long)) in
          absurd (none-some page (sym none ∙ sym (e.high b above) ∙ is))
    ]
  ]

  pub ext_has : (b : ℕ) → set b ≡ slice_get all b → mid b ≡ slice_get ext b
  ext_has b has = elim (below_or_not b blocks) as (λ _. mid b ≡ slice_get ext b) [
    | inl low ↦ e.low b low ∙ has ∙ sym (old_page all (upto - blocks) fresh b (omega (arith, low, long)))
    | inr from ↦ elim (below_or_not b upto) as (λ _. mid b ≡ slice_get ext b) [
      | inl high ↦ e.here b from high ∙ sym (fresh_at b from high)
      | inr above ↦
          let long_ext = long_is all (upto - blocks) fresh in
          e.high b above ∙ none_new set all b part (omega (arith, from, long))
          ∙ sym (slice_get_past ext b (omega (arith, long_ext, above, long, upward)))
    ]
  ]

pub ext_longer : (all : List Content) (blocks upto : ℕ) (fresh : Content) → length all ≡ blocks → blocks ≤ upto
    → length (longer all (upto - blocks) fresh) ≡ upto
ext_longer all blocks upto fresh long upward = let n = long_is all (upto - blocks) fresh in omega (arith, n, long, upward)
