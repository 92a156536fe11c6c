-- Counts of members, and the majority that they give.
use Rattle.std.proofs.Common.{◌≡◌, sym, ap, ◌∙◌, ℕ, suc, ◌*◌, ◌<◌, ◌≤◌, List, [], ◌∷◌, length, get_or, arith}
use Rattle.std.specs.Prelude.{Bool, true, false, nat_lt, ◌==◌, if◌then◌else◌}
use Rattle.std.proofs.lemmas.List.{ext_get_or, length-map}
use Rattle.bit_code.specs.Places.{digit_of}
use Rattle.std.proofs.lemmas.List.Sums.{count_by-le-length}
use Rattle.std.proofs.lemmas.List.FromFn.{get_or-map-range_with_len, length-map-range_with_len}
use Rattle.ivf_means.specs.declared.row.Row.{Row}
use Rattle.ivf_means.specs.Centres.{values_of, ones_at, majority, recentred}
use Rattle.ivf_means.specs.Working.{assigned_to, IsTally}

pub ones_few : (place : ℕ) (vs : List (List Bool)) → ones_at place vs ≤ length vs
ones_few place vs = count_by-le-length (λ v. get_or v place false) vs

pub digit_small : (b : Bool) → digit_of b ≤ 1
digit_small true = omega arith
digit_small false = omega arith

members_few : (list : ℕ) (numbers : List ℕ) (vs : List (List Bool)) → length (assigned_to list numbers vs) ≤ length vs
members_few list [] vs = omega arith
members_few list (a ∷ more) [] = omega arith
members_few list (a ∷ more) (v ∷ vs) = by_test (a == list) (assigned_to list more vs) (members_few list more vs)
  where
    by_test : (b : Bool) (rest : List (List Bool)) → length rest ≤ length vs → length (if b then v ∷ rest else rest) ≤ suc (length vs)
    by_test true rest h = omega arith
    by_test false rest h = omega arith

pub members_of_rows : (list : ℕ) (numbers : List ℕ) (rows : List Row) → length (assigned_to list numbers (values_of rows)) ≤ length rows
members_of_rows list numbers rows = omega (arith, members_few list numbers (values_of rows), length-map rows (λ r. r.bits))

pub majority_is : (members : List (List Bool)) (ones : List ℕ) (before after : List Bool) → 0 < length members → length before ≡ length ones → IsTally members ones
    → length after ≡ length before → ((place : ℕ) → place < length before → get_or after place false ≡ nat_lt (length members) (2 * get_or ones place 0))
    → after ≡ recentred before members
majority_is [] ones before after some long tally same each = absurd (omega arith)
majority_is (v ∷ vs) ones before after some long tally same each =
    let f : ℕ → Bool = λ place. nat_lt (length (v ∷ vs)) (2 * ones_at place (v ∷ vs)) in
    ext_get_or false after (majority (length before) (v ∷ vs)) (same ∙ sym (length-map-range_with_len f 0 (length before)))
    (λ j h.
    let within : j < length before = omega arith in
    let there : j < length ones = omega arith in
    each j within ∙ ap (λ n. nat_lt (length (v ∷ vs)) (2 * n)) (tally.each j there)
    ∙ sym (get_or-map-range_with_len f 0 (length before) j j false within (omega arith)))
