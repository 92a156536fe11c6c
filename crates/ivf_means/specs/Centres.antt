-- The centres of an index of lists: k-means over bit strings by Hamming distance.
use Rattle.std.specs.Prelude.{ℕ, zero, suc, ◌-◌, ◌*◌, ◌%◌, ◌==◌, nat_lt, min, if◌then◌else◌, Bool, false, List, [], ◌∷◌, ◌++◌, length, map, filter, replicate, get_or}
use Rattle.std.specs.List.{list_all, count_by, range_with_len}
use Rattle.bit_code.specs.Places.{unequal}
use Rattle.vec_names.specs.declared.params.Params.{Params}
use Rattle.ivf_means.specs.declared.row.Row.{Row}
use Rattle.ivf_means.specs.Places.{least_place, greatest_place}

-- the values of rows
abbrev pub values_of : List Row → List (List Bool)
values_of rows = map (λ r. r.bits) rows

-- ---- first centres

-- how far a value is from the nearest of some centres; 0 where there are none
abbrev pub gap : List (List Bool) → List Bool → ℕ
gap [] value = 0
gap (c ∷ []) value = unequal c value
gap (c ∷ d ∷ cs) value = min (unequal c value) (gap (d ∷ cs) value)

-- the value that is farthest from its nearest centre, the first of equal ones
abbrev pub farthest : List (List Bool) → List (List Bool) → List Bool
farthest values centres = get_or values (greatest_place (map (gap centres) values)) []

-- some centres, and so many more, each the value that is then farthest
abbrev pub with_farthest : ℕ → List (List Bool) → List (List Bool) → List (List Bool)
with_farthest zero values centres = centres
with_farthest (suc more) values centres = with_farthest more values (centres ++ farthest values centres ∷ [])

-- As many centres as lists: the value that the word names, and then the farthest. Of no values all are zero.
abbrev pub first_centres : Params → ℕ → List (List Bool) → List (List Bool)
first_centres params word [] = replicate params.lists (replicate params.bits false)
first_centres params word (v ∷ vs) =
    with_farthest (params.lists - 1) (v ∷ vs) (get_or (v ∷ vs) (word % length (v ∷ vs)) [] ∷ [])

-- ---- a round

-- the number of the nearest centre, the lowest of equal ones
abbrev pub nearest : List (List Bool) → List Bool → ℕ
nearest centres value = least_place (map (λ c. unequal c value) centres)

-- the values that are assigned to a list
abbrev pub members : List (List Bool) → ℕ → List (List Bool) → List (List Bool)
members centres list values = filter (λ v. nearest centres v == list) values

-- how many values have a 1 at a place
abbrev pub ones_at : ℕ → List (List Bool) → ℕ
ones_at place values = count_by (λ v. get_or v place false) values

-- so many places, each 1 where more than half of the values have a 1
abbrev pub majority : ℕ → List (List Bool) → List Bool
majority places values = map (λ place. nat_lt (length values) (2 * ones_at place values)) (range_with_len 0 places)

-- what becomes of a centre with these members
abbrev pub recentred : List Bool → List (List Bool) → List Bool
recentred centre [] = centre
recentred centre (v ∷ vs) = majority (length centre) (v ∷ vs)

-- what becomes of centres, of which the first has this number, where a list's members are these
abbrev pub recentred_from : ℕ → (ℕ → List (List Bool)) → List (List Bool) → List (List Bool)
recentred_from list members_of [] = []
recentred_from list members_of (c ∷ cs) = recentred c (members_of list) ∷ recentred_from (suc list) members_of cs

-- the centres after a round
abbrev pub after_round : List (List Bool) → List (List Bool) → List (List Bool)
after_round values centres = recentred_from 0 (λ list. members centres list values) centres

-- ---- the rounds

-- a value has the same list by both centres
abbrev pub stays : List (List Bool) → List (List Bool) → List Bool → Bool
stays before now value = nearest before value == nearest now value

-- the centres after at most so many rounds more; `before` are those of the round before
abbrev pub after_rounds : ℕ → List (List Bool) → List (List Bool) → List (List Bool) → List (List Bool)
after_rounds zero values before now = now
after_rounds (suc more) values before now =
    if list_all (stays before now) values then now else after_rounds more values now (after_round values now)

-- the first centres, one round, and at most 19 more, until no value moves
abbrev pub centres_of : Params → ℕ → List (List Bool) → List (List Bool)
centres_of params word values =
    after_rounds 19 values (first_centres params word values) (after_round values (first_centres params word values))
