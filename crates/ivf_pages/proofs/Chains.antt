-- Chains depend on nothing but which blocks have entries and on the blocks behind them.
use Rattle.std.proofs.Common.{◌≡◌, ℕ, zero, suc, ◌&&◌, ◌||◌, ◌==◌, not, Bool, true, false, List, [], ◌∷◌, length, Option, Some, None, refl, sym, ap, ap₂, ◌∙◌}
use Rattle.std.specs.Prelude.{slice_get, if◌then◌else◌}
use Rattle.std.proofs.lemmas.Bool.{and_parts, eqb-true, eq-eqb, not-true, or_parts, both_ways, false_from_ne_true}
use Rattle.page_bytes.specs.Content.{Content}
use Rattle.vec_tuples.specs.declared.centre.CentreTuple.{CentreTuple}
use Rattle.ivf_pages.specs.Standing.{is_among, has_entries, next_of, goes_to, followed, chain_from, chain_of, has_aim}
use Rattle.ivf_pages.specs.Walking.{AreDistinct}
use Rattle.ivf_pages.proofs.Given.{or_parts_of}

-- as many pages, with the same blocks of entries and the same blocks behind these
pub record AreLinkedAlike (pages after : List Content) : Type 0 where
  pub count : length after ≡ length pages
  pub kinds : (block : ℕ) → has_entries (slice_get after block) ≡ has_entries (slice_get pages block)
  pub nexts : (block : ℕ) → next_of (slice_get after block) ≡ next_of (slice_get pages block)

module _ (pages after : List Content) (alike : AreLinkedAlike pages after) where
  same_followed : (most : ℕ) (met : List ℕ) (to : Option ℕ) → followed after most met to ≡ followed pages most met to
  same_followed zero met to = refl
  same_followed (suc most) met None = refl
  same_followed (suc most) met (Some block) =
      ap₂ (λ (goes : Bool) (rest : List ℕ). if goes then block ∷ rest else [])
      (ap (λ (b : Bool). b && not (is_among block met)) (alike.kinds block))
      (ap (followed after most (block ∷ met)) (alike.nexts block) ∙ same_followed most (block ∷ met) (next_of (slice_get pages block)))

  pub same_chain : (first : ℕ) → chain_from after first ≡ chain_from pages first
  same_chain first = ap (λ (n : ℕ). followed after n [] (Some first)) alike.count ∙ same_followed (length pages) [] (Some first)

  pub same_chain_of : (o : Option CentreTuple) → chain_of after o ≡ chain_of pages o
  same_chain_of None = refl
  same_chain_of (Some l) = same_chain l.first

  pub same_aim : (o : Option CentreTuple) → has_aim after o ≡ has_aim pages o
  same_aim None = refl
  same_aim (Some l) = ap (is_among l.aim) (same_chain l.first)

-- ---- the blocks of a chain have entries

module _ (pages : List Content) where
  among_followed : (most : ℕ) (met : List ℕ) (to : Option ℕ) (block : ℕ) → is_among block (followed pages most met to) ≡ true
      → has_entries (slice_get pages block) ≡ true
  among_followed zero met to block is = absurd cc
  among_followed (suc most) met None block is = absurd cc
  among_followed (suc most) met (Some b) block is = by_test (λ i. among_followed most (b ∷ met) (next_of (slice_get pages b)) block i) (goes_to pages met b) refl
    where
      rest : List ℕ
      rest = followed pages most (b ∷ met) (next_of (slice_get pages b))

      by_block : (is_among block rest ≡ true → has_entries (slice_get pages block) ≡ true) → (same : Bool) → (b == block) ≡ same
          → has_entries (slice_get pages b) ≡ true → ((b == block) || is_among block rest) ≡ true → has_entries (slice_get pages block) ≡ true
      by_block later true e has either = ap (λ (n : ℕ). has_entries (slice_get pages n)) (sym (eqb-true b block e)) ∙ has
      by_block later false e has either = later (or_parts_of (b == block) (is_among block rest) either e)

      by_test : (is_among block rest ≡ true → has_entries (slice_get pages block) ≡ true) → (goes : Bool) → goes_to pages met b ≡ goes
          → has_entries (slice_get pages block) ≡ true
      by_test later true e =
          by_block later (b == block) refl (and_parts (has_entries (slice_get pages b)) (not (is_among b met)) e).0
          (ap (λ (g : Bool). is_among block (if g then b ∷ rest else [])) (sym e) ∙ is)
      by_test later false e =
          let none : false ≡ true = ap (λ (g : Bool). is_among block (if g then b ∷ rest else [])) (sym e) ∙ is in absurd cc

  pub among_chain : (o : Option CentreTuple) (block : ℕ) → is_among block (chain_of pages o) ≡ true → has_entries (slice_get pages block) ≡ true
  among_chain None block is = absurd cc
  among_chain (Some l) block is = among_followed (length pages) [] (Some l.first) block is

-- ---- no block stands in a chain twice

module _ (pages : List Content) where
  -- what was met before is not met again
  not_met : (most : ℕ) (met : List ℕ) (to : Option ℕ) (x : ℕ) → is_among x (followed pages most met to) ≡ true → is_among x met ≡ false
  not_met zero met to x is = absurd cc
  not_met (suc most) met None x is = absurd cc
  not_met (suc most) met (Some b) x is = by_test (λ i. not_met most (b ∷ met) (next_of (slice_get pages b)) x i) (goes_to pages met b) refl
    where
      rest : List ℕ
      rest = followed pages most (b ∷ met) (next_of (slice_get pages b))

      by_block : (is_among x rest ≡ true → is_among x (b ∷ met) ≡ false) → (same : Bool) → (b == x) ≡ same
          → is_among b met ≡ false → ((b == x) || is_among x rest) ≡ true → is_among x met ≡ false
      by_block later true e out either = ap (λ (n : ℕ). is_among n met) (sym (eqb-true b x e)) ∙ out
      by_block later false e out either = (or_parts (b == x) (is_among x met) (later (or_parts_of (b == x) (is_among x rest) either e))).1

      by_test : (is_among x rest ≡ true → is_among x (b ∷ met) ≡ false) → (goes : Bool) → goes_to pages met b ≡ goes → is_among x met ≡ false
      by_test later true e =
          by_block later (b == x) refl (not-true (is_among b met) (and_parts (has_entries (slice_get pages b)) (not (is_among b met)) e).1)
          (ap (λ (g : Bool). is_among x (if g then b ∷ rest else [])) (sym e) ∙ is)
      by_test later false e =
          let none : false ≡ true = ap (λ (g : Bool). is_among x (if g then b ∷ rest else [])) (sym e) ∙ is in absurd cc

  distinct : (most : ℕ) (met : List ℕ) (to : Option ℕ) → AreDistinct (followed pages most met to)
  distinct zero met to = tt
  distinct (suc most) met None = tt
  distinct (suc most) met (Some b) = by_test (distinct most (b ∷ met) (next_of (slice_get pages b))) (goes_to pages met b)
    where
      rest : List ℕ
      rest = followed pages most (b ∷ met) (next_of (slice_get pages b))

      once : is_among b rest ≡ false
      once = false_from_ne_true (is_among b rest) (λ again.
          let out = or_parts (b == b) (is_among b met) (not_met most (b ∷ met) (next_of (slice_get pages b)) b again) in
          both_ways (b == b) out.0 (eq-eqb b b refl))

      by_test : AreDistinct rest → (goes : Bool) → AreDistinct (if goes then b ∷ rest else [])
      by_test later true = (once, later)
      by_test later false = tt

  pub distinct_chain : (first : ℕ) → AreDistinct (chain_from pages first)
  distinct_chain first = distinct (length pages) [] (Some first)

pub entries_there : (o : Option Content) → has_entries o ≡ true → (c : Content) × (o ≡ Some c)
entries_there None is = absurd cc
entries_there (Some c) is = (c, refl)
