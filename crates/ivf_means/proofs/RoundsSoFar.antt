-- Where no value moves, and what the rounds so far leave.
use Rattle.std.proofs.Common.{◌≡◌, refl, sym, ap, ◌∙◌, ℕ, zero, suc, ◌&&◌, List, [], ◌∷◌, map, arith}
use Rattle.std.specs.Prelude.{Bool, true, false, if◌then◌else◌}
use Rattle.std.specs.List.{list_all}
use Rattle.std.proofs.lemmas.Bool.{and_parts, eq-eqb, eqb-true}
use Rattle.vec_names.specs.declared.params.Params.{Params}
use Rattle.ivf_means.specs.declared.row.Row.{Row}
use Rattle.ivf_means.specs.Centres.{values_of, nearest, stays, after_round, after_rounds, centres_of, first_centres}

pub both_false : (b : Bool) → b ≡ true → b ≡ false → ⊥
both_false b holds fails = absurd cc

heads : (a b : ℕ) (cs ds : List ℕ) → a ∷ cs ≡ b ∷ ds → a ≡ b
heads a b cs ds e = cc

tails : (a b : ℕ) (cs ds : List ℕ) → a ∷ cs ≡ b ∷ ds → cs ≡ ds
tails a b cs ds e = cc

-- row by row, and value by value
pub by_values : (centres : List (List Bool)) (rows : List Row) → map (λ (r : Row). nearest centres r.bits) rows ≡ map (nearest centres) (values_of rows)
by_values centres [] = refl
by_values centres (r ∷ rows) = ap (λ (ns : List ℕ). nearest centres r.bits ∷ ns) (by_values centres rows)

-- the same numbers are assigned just where each value stays
pub all_stay : (before now values : List (List Bool)) → map (nearest now) values ≡ map (nearest before) values → list_all (stays before now) values ≡ true
all_stay before now [] same = refl
all_stay before now (v ∷ vs) same =
    ap (λ (b : Bool). b && list_all (stays before now) vs)
    (eq-eqb (nearest before v) (nearest now v) (sym (heads (nearest now v) (nearest before v) (map (nearest now) vs) (map (nearest before) vs) same)))
    ∙ all_stay before now vs (tails (nearest now v) (nearest before v) (map (nearest now) vs) (map (nearest before) vs) same)

pub one_moves : (before now values : List (List Bool)) → (map (nearest now) values ≡ map (nearest before) values → ⊥) → list_all (stays before now) values ≡ false
one_moves before now values differ = by_test (list_all (stays before now) values) refl
  where
    same : (vs : List (List Bool)) → list_all (stays before now) vs ≡ true → map (nearest now) vs ≡ map (nearest before) vs
    same [] all = refl
    same (v ∷ vs) all =
        let parts = and_parts (stays before now v) (list_all (stays before now) vs) all in
        ap (λ (n : ℕ). n ∷ map (nearest now) vs) (sym (eqb-true (nearest before v) (nearest now v) parts.0))
        ∙ ap (λ (ns : List ℕ). nearest before v ∷ ns) (same vs parts.1)

    by_test : (t : Bool) → list_all (stays before now) values ≡ t → t ≡ false
    by_test true e = absurd (differ (same values e))
    by_test false e = refl

-- The centres now are those after the rounds so far, so many may follow, and each value is assigned by the centres before.
pub record IsRound (params : Params) (word : ℕ) (values now : List (List Bool)) (more : ℕ) (assigned : List ℕ) : Type 0 where
  pub before : List (List Bool)
  pub by : assigned ≡ map (nearest before) values
  pub leads : after_rounds more values before now ≡ centres_of params word values

module _ (params : Params) (word : ℕ) (values : List (List Bool)) where
  pub first : (now : List (List Bool)) (assigned : List ℕ) → now ≡ after_round values (first_centres params word values)
      → assigned ≡ map (nearest (first_centres params word values)) values → IsRound params word values now 19 assigned
  first now assigned is by = record {
    before = first_centres params word values;
    by = by;
    leads = ap (λ (cs : List (List Bool)). after_rounds 19 values (first_centres params word values) cs) is;
  }

  -- no row moved
  pub over : (now : List (List Bool)) (more : ℕ) (assigned next : List ℕ) → IsRound params word values now (suc more) assigned
      → next ≡ map (nearest now) values → next ≡ assigned → now ≡ centres_of params word values
  over now more assigned next s is same =
      sym (ap (λ (t : Bool). if t then now else after_rounds more values now (after_round values now))
      (all_stay s.before now values (sym is ∙ same ∙ s.by))) ∙ s.leads

  -- one did
  pub next_round : (now after : List (List Bool)) (more : ℕ) (assigned next : List ℕ) → IsRound params word values now (suc more) assigned
      → next ≡ map (nearest now) values → (next ≡ assigned → ⊥) → after ≡ after_round values now → IsRound params word values after more next
  next_round now after more assigned next s is differ becomes = record {
    before = now;
    by = is;
    leads =
        ap (λ (cs : List (List Bool)). after_rounds more values now cs) becomes
        ∙ sym (ap (λ (t : Bool). if t then now else after_rounds more values now (after_round values now))
        (one_moves s.before now values (λ e. differ (is ∙ e ∙ sym s.by)))) ∙ s.leads;
  }

  pub ended : (now : List (List Bool)) (more : ℕ) (assigned : List ℕ) → IsRound params word values now more assigned → more ≡ 0 → now ≡ centres_of params word values
  ended now zero assigned s none = s.leads
  ended now (suc more) assigned s none = absurd (omega (arith, none))
