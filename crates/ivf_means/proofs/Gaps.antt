-- How far values are from their nearest centre, as centres come.
use Rattle.std.proofs.Common.{◌≡◌, refl, sym, ap, ◌∙◌, ℕ, ◌<◌, ◌≤◌, List, [], ◌∷◌, ◌++◌, length, get_or, arith, min, map}
use Rattle.std.specs.Prelude.{Bool}
use Rattle.std.proofs.lemmas.List.{ext_get_or, get_or-map, length-map}
use Rattle.bit_code.specs.Places.{unequal}
use Rattle.ivf_means.specs.Centres.{gap}

min_assoc : (a b c : ℕ) → min a (min b c) ≡ min (min a b) c
min_assoc a b c = omega arith

-- one centre more
pub gap_more : (c : List Bool) (cs : List (List Bool)) (d value : List Bool) → gap ((c ∷ cs) ++ d ∷ []) value ≡ min (gap (c ∷ cs) value) (unequal d value)
gap_more c [] d value = refl
gap_more c (b ∷ cs) d value =
    ap (λ n. min (unequal c value) n) (gap_more b cs d value) ∙ min_assoc (unequal c value) (gap (b ∷ cs) value) (unequal d value)

gap_more_of : (cs : List (List Bool)) (d value : List Bool) → 1 ≤ length cs → gap (cs ++ d ∷ []) value ≡ min (gap cs value) (unequal d value)
gap_more_of [] d value h = absurd (omega arith)
gap_more_of (c ∷ cs) d value h = gap_more c cs d value

pub gaps_more : (values cs : List (List Bool)) (d : List Bool) (before after : List ℕ) → 1 ≤ length cs → before ≡ map (gap cs) values → length after ≡ length before
    → ((k : ℕ) → k < length values → get_or after k 0 ≡ min (get_or before k 0) (unequal d (get_or values k []))) → after ≡ map (gap (cs ++ d ∷ [])) values
gaps_more values cs d before after some is long each =
    let size : length before ≡ length values = ap length is ∙ length-map values (gap cs) in
    ext_get_or 0 after (map (gap (cs ++ d ∷ [])) values) (long ∙ size ∙ sym (length-map values (gap (cs ++ d ∷ []))))
    (λ k h.
    let within : k < length values = omega arith in
    let first : get_or before k 0 ≡ gap cs (get_or values k []) = ap (λ l. get_or l k 0) is ∙ get_or-map (gap cs) values k [] 0 within in
    each k within ∙ ap (λ n. min n (unequal d (get_or values k []))) first ∙ sym (gap_more_of cs d (get_or values k []) some)
    ∙ sym (get_or-map (gap (cs ++ d ∷ [])) values k [] 0 within))
