-- What is kept of the places that list pointers name, as these come one after the other.
use Rattle.std.proofs.Common.{◌≡◌, ℕ, zero, suc, ◌+◌, ◌<◌, true, false, cond, List, [], ◌∷◌, ◌++◌, length, take, get_or, Some, refl, sym, ap, subst, ◌∙◌, arith, zero-add, add-one}
use Rattle.std.specs.Prelude.{flat_map}
use Rattle.std.specs.FinMap.{FinMap, get, insert}
use Rattle.std.proofs.lemmas.List.{take_more, flat_map_more}
use Rattle.std.proofs.lemmas.List.Sums.{sum_by-append}
use Rattle.vec_names.specs.declared.tid.Tid.{Tid}
use Rattle.vec_names.specs.Order.{tid_cmp}
use Rattle.graph_pages.specs.Standing.{is_place, times_in}
use Rattle.graph_pages.specs.declared.list_pointers.Named.{Named}
use Rattle.graph_pages.specs.Decoding.{naming, so_often, Tells}
use Rattle.graph_pages.proofs.PlaceTests.{same_if_place, get_inserted}

times_more : (at p : Tid) (places : List Tid) → times_in at (places ++ p ∷ []) ≡ times_in at places + cond (is_place at p) 1 0
times_more at p places = sum_by-append (λ t. cond (is_place at t) 1 0) places (p ∷ []) ∙ ap (λ n. times_in at places + n) (zero-add (cond (is_place at p) 1 0))

naming_next : (n : ℕ) → naming (suc n) ≡ Some (so_often (naming n))
naming_next zero = refl
naming_next (suc zero) = refl
naming_next (suc (suc n)) = refl

pub tells_more : (named : FinMap tid_cmp Named) (p : Tid) (places : List Tid) → Tells named places → Tells (insert named p (so_often (get named p))) (places ++ p ∷ [])
tells_more named p places tells at =
    let n = times_in at places in
    let same : n ≡ n + 0 = omega arith in
    get_inserted named p (so_often (get named p)) at
    ∙ elim (is_place at p) as (λ b. is_place at p ≡ b → cond b (Some (so_often (get named p))) (get named at) ≡ naming (times_in at places + cond b 1 0)) [
      | true ↦ λ e. ap (λ o. Some (so_often o)) (ap (get named) (same_if_place at p e) ∙ tells at) ∙ sym (ap naming (add-one (times_in at places)) ∙ naming_next (times_in at places))
      | false ↦ λ e. tells at ∙ ap naming same
    ] refl
    ∙ sym (ap naming (times_more at p places))

-- the pointers of one element of a list more
pub pointers_more : {X A : Type 0} (f : X → List A) (P : List A → Type 0) (before : List A) (xs : List X) (i : ℕ) (x : X) → x ≡ get_or xs i x → i < length xs
    → P ((before ++ flat_map f (take i xs)) ++ f x) → P (before ++ flat_map f (take (i + 1) xs))
pointers_more f P before xs i x is below next =
    let more : take i xs ++ x ∷ [] ≡ take (i + 1) xs = ap (λ y. take i xs ++ y ∷ []) is ∙ sym (take_more xs i x below) in
    subst P (flat_map_more f before (take i xs) x ∙ ap (λ ys. before ++ flat_map f ys) more) next
