-- A chain goes on as far as its pages lead: the next block of each of its blocks stands in it, where that has entries.
use Rattle.std.proofs.Common.{◌≡◌, ℕ, zero, suc, ◌+◌, ◌<◌, ◌≤◌, ◌&&◌, ◌||◌, ◌==◌, not, Bool, true, false, List, [], ◌∷◌, length, Option, Some, None, refl, sym, ap, ap₂, ◌∙◌, arith}
use Rattle.std.specs.Prelude.{slice_get, if◌then◌else◌}
use Rattle.std.proofs.lemmas.Bool.{and_parts, both_ways, eqb-true, eq-eqb, not-true, or_left, or_right, false_from_ne_true}
use Rattle.std.proofs.lemmas.Option.{slice_get_within}
use Rattle.page_bytes.specs.Content.{Content}
use Rattle.vec_tuples.specs.declared.centre.CentreTuple.{CentreTuple}
use Rattle.ivf_pages.specs.Standing.{is_among, has_entries, next_of, goes_to, followed, chain_from, chain_of}
use Rattle.ivf_pages.specs.Walking.{AreDistinct}
use Rattle.ivf_pages.proofs.Given.{or_parts_of}
use Rattle.ivf_pages.proofs.Chains.{entries_there}

-- ---- distinct numbers below a bound

-- the list without its first such number
abbrev without : ℕ → List ℕ → List ℕ
without n [] = []
without n (y ∷ ys) = if y == n then ys else y ∷ without n ys

is_less : (n : ℕ) (ys : List ℕ) (x : ℕ) → is_among x (without n ys) ≡ true → is_among x ys ≡ true
is_less n [] x is = is
is_less n (y ∷ ys) x is = by_test (is_less n ys x) (y == n) refl
  where
    by_rest : (is_among x (without n ys) ≡ true → is_among x ys ≡ true) → (t : Bool) → (y == x) ≡ t → ((y == x) || is_among x (without n ys)) ≡ true
        → ((y == x) || is_among x ys) ≡ true
    by_rest later true e either = or_left (y == x) (is_among x ys) e
    by_rest later false e either = or_right (y == x) (is_among x ys) (later (or_parts_of (y == x) (is_among x (without n ys)) either e))

    by_test : (is_among x (without n ys) ≡ true → is_among x ys ≡ true) → (t : Bool) → (y == n) ≡ t → ((y == x) || is_among x ys) ≡ true
    by_test later true e = or_right (y == x) (is_among x ys) (ap (λ (t : Bool). is_among x (if t then ys else y ∷ without n ys)) (sym e) ∙ is)
    by_test later false e = by_rest later (y == x) refl (ap (λ (t : Bool). is_among x (if t then ys else y ∷ without n ys)) (sym e) ∙ is)

still_distinct : (n : ℕ) (ys : List ℕ) → AreDistinct ys → AreDistinct (without n ys)
still_distinct n [] apart = tt
still_distinct n (y ∷ ys) apart = by_test (still_distinct n ys apart.1) (y == n)
  where
    by_test : AreDistinct (without n ys) → (t : Bool) → AreDistinct (if t then ys else y ∷ without n ys)
    by_test later true = apart.1
    by_test later false =
        (false_from_ne_true (is_among y (without n ys)) (λ is. both_ways (is_among y ys) apart.0 (is_less n ys y is)), later)

is_gone : (n : ℕ) (ys : List ℕ) → AreDistinct ys → is_among n (without n ys) ≡ false
is_gone n [] apart = refl
is_gone n (y ∷ ys) apart = by_test (is_gone n ys apart.1) (y == n) refl
  where
    by_test : is_among n (without n ys) ≡ false → (t : Bool) → (y == n) ≡ t → is_among n (if t then ys else y ∷ without n ys) ≡ false
    by_test later true e = ap (λ (x : ℕ). is_among x ys) (sym (eqb-true y n e)) ∙ apart.0
    by_test later false e = ap₂ (λ (s t : Bool). s || t) e later

one_less : (n : ℕ) (ys : List ℕ) → length ys ≤ suc (length (without n ys))
one_less n [] = omega arith
one_less n (y ∷ ys) = by_test (one_less n ys) (y == n)
  where
    by_test : length ys ≤ suc (length (without n ys)) → (t : Bool) → suc (length ys) ≤ suc (length (if t then ys else y ∷ without n ys))
    by_test later true = omega arith
    by_test later false = omega (arith, later)

few : (n : ℕ) (ys : List ℕ) → AreDistinct ys → ((x : ℕ) → is_among x ys ≡ true → x < n) → length ys ≤ n
few zero [] apart below = omega arith
few zero (y ∷ ys) apart below = absurd (omega (arith, below y (or_left (y == y) (is_among y ys) (eq-eqb y y refl))))
few (suc n) ys apart below =
    let rest = few n (without n ys) (still_distinct n ys apart) (λ x is.
    let low = below x (is_less n ys x is) in
    let differs : x ≡ n → ⊥ = λ e. both_ways (is_among n (without n ys)) (is_gone n ys apart) (ap (λ (z : ℕ). is_among z (without n ys)) (sym e) ∙ is) in
    omega (arith, low, differs)) in
    omega (arith, rest, one_less n ys)

-- as many of them as there are below the bound are all of these
all_there : (n : ℕ) (ys : List ℕ) → AreDistinct ys → ((x : ℕ) → is_among x ys ≡ true → x < n) → n ≤ length ys → (z : ℕ) → z < n → is_among z ys ≡ false → ⊥
all_there n ys apart below many z low out =
    let more = few n (z ∷ ys) (out, apart) (λ x is. by_test x (z == x) refl is) in omega (arith, more, many)
  where
    by_test : (x : ℕ) (t : Bool) → (z == x) ≡ t → ((z == x) || is_among x ys) ≡ true → x < n
    by_test x true e either = let same = eqb-true z x e in omega (arith, low, same)
    by_test x false e either = below x (or_parts_of (z == x) (is_among x ys) either e)

-- ---- chains

swapped : (a e r : Bool) → ((e || a) || r) ≡ true → (a || (e || r)) ≡ true
swapped true true r is = refl
swapped true false r is = refl
swapped false true r is = refl
swapped false false r is = is

module _ (pages : List Content) where
  -- these blocks were met, and so many steps are left
  record HasRoom (most : ℕ) (met : List ℕ) : Type 0 where
    apart : AreDistinct met
    below : (x : ℕ) → is_among x met ≡ true → x < length pages
    room : length met + most ≡ length pages

  low : (block : ℕ) → has_entries (slice_get pages block) ≡ true → block < length pages
  low block has = let c = entries_there (slice_get pages block) has in slice_get_within pages block c.0 c.1

  more : (most : ℕ) (met : List ℕ) (b : ℕ) → HasRoom (suc most) met → goes_to pages met b ≡ true → HasRoom most (b ∷ met)
  more most met b r goes =
      let parts = and_parts (has_entries (slice_get pages b)) (not (is_among b met)) goes in
      record {
        apart = (not-true (is_among b met) parts.1, r.apart);
        below = λ x is. by_test x parts.0 (b == x) refl is;
        room = omega (arith, r.room);
      }
    where
      by_test : (x : ℕ) → has_entries (slice_get pages b) ≡ true → (t : Bool) → (b == x) ≡ t → ((b == x) || is_among x met) ≡ true → x < length pages
      by_test x has true e either = let same = eqb-true b x e in omega (arith, low b has, same)
      by_test x has false e either = r.below x (or_parts_of (b == x) (is_among x met) either e)

  -- the next block was met before, or comes next
  next_within : (most : ℕ) (met : List ℕ) (z : ℕ) → HasRoom most met → has_entries (slice_get pages z) ≡ true
      → (is_among z met || is_among z (followed pages most met (Some z))) ≡ true
  next_within most met z r has = by_test most r (is_among z met) refl
    where
      by_test : (most : ℕ) → HasRoom most met → (t : Bool) → is_among z met ≡ t → (is_among z met || is_among z (followed pages most met (Some z))) ≡ true
      by_test most r true e = or_left (is_among z met) (is_among z (followed pages most met (Some z))) e
      by_test zero r false e = absurd (all_there (length pages) met r.apart r.below (omega (arith, r.room)) z (low z has) e)
      by_test (suc most) r false e =
          let goes : goes_to pages met z ≡ true = ap₂ (λ (s t : Bool). s && not t) has e in
          or_right (is_among z met) (is_among z (followed pages (suc most) met (Some z)))
          (ap (λ (g : Bool). is_among z (if g then z ∷ followed pages most (z ∷ met) (next_of (slice_get pages z)) else [])) goes
          ∙ or_left (z == z) (is_among z (followed pages most (z ∷ met) (next_of (slice_get pages z)))) (eq-eqb z z refl))

  closed_from : (most : ℕ) (met : List ℕ) (to : Option ℕ) → HasRoom most met → (x z : ℕ) → is_among x (followed pages most met to) ≡ true
      → next_of (slice_get pages x) ≡ Some z → has_entries (slice_get pages z) ≡ true → (is_among z met || is_among z (followed pages most met to)) ≡ true
  closed_from zero met to r x z is next has = absurd cc
  closed_from (suc most) met None r x z is next has = absurd cc
  closed_from (suc most) met (Some b) r x z is next has =
      by_test (λ r i. closed_from most (b ∷ met) (next_of (slice_get pages b)) r x z i next has) (goes_to pages met b) refl
    where
      rest : List ℕ
      rest = followed pages most (b ∷ met) (next_of (slice_get pages b))

      opened : goes_to pages met b ≡ true → (is_among z met || is_among z (followed pages (suc most) met (Some b))) ≡ (is_among z met || is_among z (b ∷ rest))
      opened goes = ap (λ (g : Bool). is_among z met || is_among z (if g then b ∷ rest else [])) goes

      by_block : (is_among x rest ≡ true → (is_among z (b ∷ met) || is_among z rest) ≡ true) → HasRoom most (b ∷ met) → (t : Bool) → (b == x) ≡ t
          → ((b == x) || is_among x rest) ≡ true → (is_among z (b ∷ met) || is_among z rest) ≡ true
      by_block later r true e either =
          let to : next_of (slice_get pages b) ≡ Some z = ap (λ (n : ℕ). next_of (slice_get pages n)) (eqb-true b x e) ∙ next in
          ap (λ (o : Option ℕ). is_among z (b ∷ met) || is_among z (followed pages most (b ∷ met) o)) to ∙ next_within most (b ∷ met) z r has
      by_block later r false e either = later (or_parts_of (b == x) (is_among x rest) either e)

      by_test : (HasRoom most (b ∷ met) → is_among x rest ≡ true → (is_among z (b ∷ met) || is_among z rest) ≡ true) → (goes : Bool)
          → goes_to pages met b ≡ goes → (is_among z met || is_among z (followed pages (suc most) met (Some b))) ≡ true
      by_test later true e =
          let r = more most met b r e in
          opened e ∙ swapped (is_among z met) (b == z) (is_among z rest)
          (by_block (later r) r (b == x) refl (ap (λ (g : Bool). is_among x (if g then b ∷ rest else [])) (sym e) ∙ is))
      by_test later false e =
          let none : false ≡ true = ap (λ (g : Bool). is_among x (if g then b ∷ rest else [])) (sym e) ∙ is in absurd cc

  all_room : HasRoom (length pages) []
  all_room = record { apart = tt; below = λ x is. absurd cc; room = omega arith }

  pub closed : (first x z : ℕ) → is_among x (chain_from pages first) ≡ true → next_of (slice_get pages x) ≡ Some z → has_entries (slice_get pages z) ≡ true
      → is_among z (chain_from pages first) ≡ true
  closed first x z is next has = closed_from (length pages) [] (Some first) all_room x z is next has

  pub closed_chain : (o : Option CentreTuple) (x z : ℕ) → is_among x (chain_of pages o) ≡ true → next_of (slice_get pages x) ≡ Some z
      → has_entries (slice_get pages z) ≡ true → is_among z (chain_of pages o) ≡ true
  closed_chain None x z is next has = absurd cc
  closed_chain (Some l) x z is next has = closed l.first x z is next has

  -- a first block that has entries stands in its chain
  pub first_within : (first : ℕ) → has_entries (slice_get pages first) ≡ true → is_among first (chain_from pages first) ≡ true
  first_within first has = next_within (length pages) [] first all_room has
