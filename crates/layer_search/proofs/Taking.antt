-- A batch that is taken, and the turns of a search that goes on.
use Rattle.std.proofs.Common.{◌≡◌, ℕ, zero, suc, ◌<◌, ◌≤◌, ◌^◌, ◌||◌, Bool, true, false, List, [], ◌∷◌, ◌++◌, map, drop, length, Option, Some, None, refl, sym, ap, ap₂, subst, ◌∙◌, arith}
use Rattle.std.specs.List.{AllByRecursion}
use Rattle.std.specs.Ordering.{eq_by_cmp}
use Rattle.vec_names.specs.declared.tid.Tid.{Tid}
use Rattle.vec_names.specs.declared.params.Ops.{Ops}
use Rattle.vec_names.specs.Order.{tid_cmp}
use Rattle.vec_history.specs.declared.event.Act.{Act}
use Rattle.neighbour_pick.specs.declared.found.Found.{Found}
use Rattle.graph_search.specs.Search.{LayerSearch, Start, course_reads}
use Rattle.graph_search.specs.Descent.{start_at}
use Rattle.graph_search.specs.Scan.{Held, begins_with, is_known_at, is_over}
use Rattle.graph_search.specs.ByHolding.{AreTurnsOf, HoldTheSame, after_turns, batch_of, elements_in}
use Rattle.graph_search.proofs.Stepping.{after_free, after_turns_same, from_free, searched, turns_same}
use Rattle.search_sets.specs.declared.spot.Spot.{Spot}
use Rattle.search_sets.specs.Standing.{begun_from, known_earlier, spot_of, without_batch}
use Rattle.search_sets.proofs.HeldSo.{same_then}
use Rattle.vec_steps.specs.Index.{Index, OfNodes, OfLists}
use Rattle.vec_steps.specs.Desks.{Desk}
use Rattle.vec_steps.proofs.Following.{does_so_over}
use Rattle.layer_search.specs.Waiting.{AreApart, AreLong, IsSteady, found_held}
use Rattle.layer_search.specs.Telling.{OverSpots, StandThere, StandsAt, spots_held}
use Rattle.layer_search.specs.Running.{GoesOnSo}
use Rattle.layer_search.specs.Resuming.{FirstTurns}
use Rattle.layer_search.proofs.Marks.{SameUnmarked, earlier_spots, over_unbounded, unmarked_after, unmarked_batch, unmarked_earlier, unmarked_free, unmarked_over, unmarked_same, unmarked_then, unmarked_turns}
use Rattle.layer_search.proofs.Steadiness.{steady_same}
use Rattle.layer_search.proofs.Turns.{found_of, held_all, waiting_of}

-- ---- a batch that is taken

pub left_so : (n ef : ℕ) (t f h : Held) → HoldTheSame t (without_batch n f) → n ≡ ef → HoldTheSame f h → HoldTheSame t (without_batch ef h)
left_so n ef t f h left is same = record {
  names = λ at. left.names at ∙ same.names at;
  unexpanded_are = left.unexpanded_are ∙ same.unexpanded_are;
  found_are = left.found_are ∙ ap₂ (λ (k : ℕ) (ps : List (Found × Bool)). drop k ps) is same.found_are;
  count_is = left.count_is ∙ same.count_is;
}

pub batch_so : (n ef : ℕ) (f h : Held) (batch : List (Found × Bool)) → batch ≡ batch_of n f → n ≡ ef → HoldTheSame f h → batch ≡ batch_of ef h
batch_so n ef f h batch taken is same =
    taken ∙ ap (λ (k : ℕ). batch_of k f) is ∙ ap (λ (ps : List (Found × Bool)). batch_of ef (record f { found = ps })) same.found_are

drop_firsts : (n : ℕ) (ps : List (Found × Bool)) → map (λ (p : Found × Bool). p.0) (drop n ps) ≡ drop n (map (λ (p : Found × Bool). p.0) ps)
drop_firsts zero ps = refl
drop_firsts (suc n) [] = refl
drop_firsts (suc n) (p ∷ ps) = drop_firsts n ps

all_drop : {X : Type 0} (P : X → Type 0) (n : ℕ) (xs : List X) → AllByRecursion P xs → AllByRecursion P (drop n xs)
all_drop P zero xs all = all
all_drop P (suc n) [] all = tt
all_drop P (suc n) (x ∷ xs) all = all_drop P n xs all.1

apart_drop : (n : ℕ) (es : List Found) → AreApart es → AreApart (drop n es)
apart_drop zero es apart = apart
apart_drop (suc n) [] apart = tt
apart_drop (suc n) (e ∷ es) apart = apart_drop n es apart.1

or_later : (a b : Bool) → b ≡ true → (a || b) ≡ true
or_later true b h = refl
or_later false b h = h

known_drop : (n : ℕ) (es : List Found) (at : Tid) → is_known_at (drop n es) at ≡ true → is_known_at es at ≡ true
known_drop zero es at h = h
known_drop (suc n) [] at h = h
known_drop (suc n) (e ∷ es) at h = or_later (eq_by_cmp tid_cmp at e.at) (is_known_at es at) (known_drop n es at h)

pub left_steady : (long n : ℕ) (t h : Held) → HoldTheSame t (without_batch n h) → IsSteady long h → IsSteady long t
left_steady long n t h left steady =
    let found : found_held (without_batch n h) ≡ drop n (found_held h) = drop_firsts n h.found in
    steady_same long t (without_batch n h) left
    (record {
      waiting = steady.waiting;
      found = record {
        apart = subst AreApart (sym found) (apart_drop n (found_held h) steady.found.apart);
        named = λ at k. steady.found.named at (known_drop n (found_held h) at (ap (λ (es : List Found). is_known_at es at) (sym found) ∙ k));
      };
      waiting_long = steady.waiting_long;
      found_long = subst (AreLong long) (sym found) (all_drop (λ e. length e.bits ≡ long) n (found_held h) steady.found_long);
    })

pub left_there : (acts : List Act) (layer n : ℕ) (t h : Held) (base : Index) → HoldTheSame t (without_batch n h)
    → StandThere acts layer (spots_held h) base → StandThere acts layer (spots_held t) base
left_there acts layer n t h (OfNodes g) left there =
    let P : Spot → Type 0 = StandsAt g acts layer in
    let Q : Found → Type 0 = λ e. P (spot_of e) in
    held_all P t (subst (AllByRecursion Q) (sym left.unexpanded_are) (waiting_of P h there))
    (subst (AllByRecursion Q) (sym (ap (map (λ (p : Found × Bool). p.0)) left.found_are ∙ drop_firsts n h.found))
    (all_drop Q n (found_held h) (found_of P h there)))
left_there acts layer n t h (OfLists g) left there = absurd there

-- ---- turns more

same_spots : (g h : Held) → HoldTheSame g h → spots_held g ≡ spots_held h
same_spots g h same =
    ap₂ (λ (es : List Found) (ps : List (Found × Bool)). map spot_of es ++ map (λ (p : Found × Bool). spot_of p.0) ps) same.unexpanded_are same.found_are

pub marked_over : {stands : Index → Type 0} {acts : List Act} {layer : ℕ} (g h : Held) → HoldTheSame g (known_earlier h) → (base : Index)
    → OverSpots stands acts layer (spots_held h) base → OverSpots stands acts layer (spots_held g) base
marked_over {stands} {acts} {layer} g h same base o =
    subst (λ (spots : List Spot). OverSpots stands acts layer spots base) (sym (same_spots g (known_earlier h) same ∙ earlier_spots h)) o

-- where a search began does not count for its further turns
pub on_from : {over later : Index → Type 0} {d : Desk} {old new : List Act} {before now : List ℕ} (ops : Ops) (query : List Bool) (from : List Found)
    (layer n ef : ℕ) (most : Option ℕ) (g h k : Held) → HoldTheSame g k → n ≡ ef → ((base : Index) → over base → later base)
    → GoesOnSo later d old new before now (start_at ops query [] layer) n most g h
    → GoesOnSo over d old new before now (start_at ops query from layer) ef most k h
on_from ops query from layer n ef most g h k same is over on = record {
  turns = on.turns;
  are_turns = turns_same (start_at ops query from layer) ef most g k on.turns same
      (subst (λ (w : ℕ). AreTurnsOf (start_at ops query from layer) w most g on.turns) is (from_free ops query [] from layer n most on.turns g on.are_turns));
  left = same_then h (after_turns (start_at ops query [] layer) on.turns g) (after_turns (start_at ops query from layer) on.turns k) on.left
      (subst (λ (z : Held). HoldTheSame z (after_turns (start_at ops query from layer) on.turns k)) (sym (after_free ops query [] from layer on.turns g))
      (after_turns_same (start_at ops query from layer) g k on.turns same));
  made = does_so_over over on.made;
}

pub first_turns : {over : Index → Type 0} {d : Desk} {old new : List Act} {before now : List ℕ} (ops : Ops) (query : List Bool) (from : List Found)
    (layer ef max : ℕ) (g h : Held) → HoldTheSame g (begun_from from) → is_over ef (Some max) h ≡ true → h.count ≤ 2 ^ 32 → 2 ^ 32 < max
    → GoesOnSo over d old new before now (start_at ops query from layer) ef (Some max) (known_earlier g) h
    → FirstTurns over d old new before now (start_at ops query from layer) ef h
first_turns ops query from layer ef max g h begun ended few large on =
    let s : Start = start_at ops query from layer in
    let begins : SameUnmarked (known_earlier g) (begins_with s) = unmarked_earlier g (begins_with s) begun in
    let are : AreTurnsOf s ef None (begins_with s) on.turns = unmarked_free s ef (Some max) on.turns (known_earlier g) (begins_with s) begins on.are_turns in
    let u : Held = after_turns s on.turns (begins_with s) in
    let same : SameUnmarked h u =
    unmarked_then h (after_turns s on.turns (known_earlier g)) u (unmarked_same h (after_turns s on.turns (known_earlier g)) on.left)
    (unmarked_turns s on.turns (known_earlier g) (begins_with s) begins) in
    let itself : HoldTheSame u u = record { names = λ at. refl; unexpanded_are = refl; found_are = refl; count_is = refl } in
    let is_ended : is_over ef None u ≡ true =
    unmarked_over ef None h u same ∙ over_unbounded ef max h (omega (arith, few, large)) ended in
    let batch : elements_in (batch_of ef h) ≡ elements_in (batch_of ef u) = unmarked_batch ef h u same in
    record {
      turns = on.turns;
      are_turns = are;
      unmarked = u;
      unmarked_is = itself;
      is_ended = is_ended;
      batch_is = batch;
      left = unmarked_after ef h u same;
      search = subst (λ (es : List Found). LayerSearch s ef (course_reads s.layer on.turns) es) (sym batch) (searched s ef on.turns u are itself is_ended);
      made = on.made;
    }
