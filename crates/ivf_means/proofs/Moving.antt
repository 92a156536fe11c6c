-- Centres that are changed one after the other, and those that are chosen so.
use Rattle.std.proofs.Common.{◌≡◌, refl, sym, ap, ◌∙◌, subst, ℕ, suc, ◌+◌, ◌-◌, ◌<◌, ◌≤◌, List, [], ◌∷◌, ◌++◌, append_assoc, length, get_or, set, take, drop, map, arith}
use Rattle.std.specs.Prelude.{Bool}
use Rattle.std.proofs.lemmas.List.{append-nil, take_all, drop_all, get_or-drop, drop_more, take_more_set, get_or-map, drop-drop, drop-set-lt}
use Rattle.ivf_means.specs.declared.row.Row.{Row}
use Rattle.ivf_means.specs.Places.{greatest_place}
use Rattle.ivf_means.specs.Centres.{values_of, gap, farthest, with_farthest, recentred, recentred_from, nearest, members, after_round}
use Rattle.ivf_means.specs.Working.{assigned_to}
use Rattle.std.specs.Prelude.{◌==◌, if◌then◌else◌}
use Rattle.std.specs.List.{filter}

pub value_at : (rows : List Row) (k : ℕ) (x : Row) → k < length rows → x ≡ get_or rows k x → get_or (values_of rows) k [] ≡ x.bits
value_at rows k x h is = get_or-map (λ r. r.bits) rows k x [] h ∙ ap (λ (r : Row). r.bits) (sym is)

pub kept_at : (now was : List (List Bool)) (list : ℕ) (d : List Bool) → drop list now ≡ drop list was → get_or now list d ≡ get_or was list d
kept_at now was list d left =
    let n : list + 0 ≡ list = omega arith in
    ap (λ k. get_or now k d) (sym n) ∙ sym (get_or-drop list now 0 d) ∙ ap (λ l. get_or l 0 d) left ∙ get_or-drop list was 0 d ∙ ap (λ k. get_or was k d) n

head_left : (now was : List (List Bool)) (list : ℕ) (old : List Bool) → list < length now → length now ≡ length was → drop list now ≡ drop list was → old ≡ get_or now list old
    → drop list was ≡ old ∷ drop (list + 1) was
head_left now was list old h long left is =
    let within : list < length was = omega arith in
    let one : drop list now ≡ get_or now list old ∷ drop (list + 1) now = drop_more now list old h in
    let two : drop list was ≡ get_or was list old ∷ drop (list + 1) was = drop_more was list old within in
    cc

pub rest_left : (now was : List (List Bool)) (list : ℕ) (new : List Bool) → drop list now ≡ drop list was → drop (list + 1) (set now list new) ≡ drop (list + 1) was
rest_left now was list new left =
    drop-set-lt (list + 1) now list new (omega arith) ∙ sym (drop-drop 1 list now) ∙ ap (drop 1) left ∙ drop-drop 1 list was

pub recentre_step : (m : ℕ → List (List Bool)) (list : ℕ) (now was all : List (List Bool)) (old new : List Bool) → list < length now → length now ≡ length was
    → drop list now ≡ drop list was → old ≡ get_or now list old → new ≡ recentred old (m list)
    → take list now ++ recentred_from list m (drop list was) ≡ all
    → take (list + 1) (set now list new) ++ recentred_from (list + 1) m (drop (list + 1) was) ≡ all
recentre_step m list now was all old new h long left is so done =
    let e : recentred_from list m (drop list was) ≡ recentred old (m list) ∷ recentred_from (suc list) m (drop (list + 1) was) =
    ap (recentred_from list m) (head_left now was list old h long left is) in
    let n : suc list ≡ list + 1 = omega arith in
    ap (λ l. l ++ recentred_from (list + 1) m (drop (list + 1) was)) (take_more_set now list new h)
    ∙ append_assoc (take list now) (new ∷ []) (recentred_from (list + 1) m (drop (list + 1) was))
    ∙ ap (λ b. take list now ++ b ∷ recentred_from (list + 1) m (drop (list + 1) was)) so
    ∙ ap (λ k. take list now ++ recentred old (m list) ∷ recentred_from k m (drop (list + 1) was)) (sym n)
    ∙ ap (λ l. take list now ++ l) (sym e) ∙ done

pub spread_step : (lists more : ℕ) (rows : List Row) (cs all : List (List Bool)) (gaps : List ℕ) (next : ℕ) (x : Row) → more < lists
    → gaps ≡ map (gap cs) (values_of rows) → next ≡ greatest_place gaps → next < length rows → x ≡ get_or rows next x
    → with_farthest (lists - more) (values_of rows) cs ≡ all → with_farthest (lists - (more + 1)) (values_of rows) (cs ++ x.bits ∷ []) ≡ all
spread_step lists more rows cs all gaps next x h is place within at done =
    let n : lists - more ≡ suc (lists - (more + 1)) = omega arith in
    let far : farthest (values_of rows) cs ≡ x.bits =
    ap (λ k. get_or (values_of rows) k []) (sym (place ∙ ap greatest_place is)) ∙ value_at rows next x within at in
    let e : with_farthest (suc (lists - (more + 1))) (values_of rows) cs ≡ all = subst (λ k. with_farthest k (values_of rows) cs ≡ all) n done in
    ap (λ b. with_farthest (lists - (more + 1)) (values_of rows) (cs ++ b ∷ [])) (sym far) ∙ e

assigned_is : (f : List Bool → ℕ) (list : ℕ) (vs : List (List Bool)) → assigned_to list (map f vs) vs ≡ filter (λ v. f v == list) vs
assigned_is f list [] = refl
assigned_is f list (v ∷ vs) = ap (λ (l : List (List Bool)). if f v == list then v ∷ l else l) (assigned_is f list vs)

recentred_same : (m n : ℕ → List (List Bool)) → ((k : ℕ) → m k ≡ n k) → (list : ℕ) (cs : List (List Bool)) → recentred_from list m cs ≡ recentred_from list n cs
recentred_same m n same list [] = refl
recentred_same m n same list (c ∷ cs) =
    ap (λ (l : List (List Bool)). recentred c l ∷ recentred_from (suc list) m cs) (same list)
    ∙ ap (λ (l : List (List Bool)). recentred c (n list) ∷ l) (recentred_same m n same (suc list) cs)

-- what is made of the nearest centres' numbers is a round
pub round_is : (numbers : List ℕ) (values centres after : List (List Bool)) → after ≡ recentred_from 0 (λ list. assigned_to list numbers values) centres
    → numbers ≡ map (nearest centres) values → after ≡ after_round values centres
round_is numbers values centres after so is =
    so
    ∙ recentred_same (λ list. assigned_to list numbers values) (λ list. members centres list values)
    (λ list. ap (λ (l : List ℕ). assigned_to list l values) is ∙ assigned_is (nearest centres) list values) 0 centres

-- where each centre has been changed
pub ended : (m : ℕ → List (List Bool)) (list : ℕ) (now was all : List (List Bool)) → length now ≤ list → length was ≤ list
    → take list now ++ recentred_from list m (drop list was) ≡ all → now ≡ all
ended m list now was all h k done =
    sym (append-nil now) ∙ ap (λ (l : List (List Bool)). l ++ []) (sym (take_all list now h))
    ∙ ap (λ (l : List (List Bool)). take list now ++ recentred_from list m l) (sym (drop_all list was k)) ∙ done
