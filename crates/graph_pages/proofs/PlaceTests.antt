-- Places told apart by a test, and what a map of places has after an insert.
use Rattle.std.proofs.Common.{◌≡◌, Bool, true, false, cond, Some, refl, sym, ap, ◌∙◌}
use Rattle.std.proofs.lemmas.Bool.{and_from, and_parts, eqb-true, eq-eqb, false_from_ne_true}
use Rattle.std.specs.declared.cmp.Ordering.{Ordering}
use Rattle.std.specs.declared.cmp.Ordering.TheVariants.{Less, Equal, Greater}
use Rattle.std.specs.Ordering.{is_eq, eq_by_cmp}
use Rattle.std.specs.Cmp.{eq_by_cmp_equiv}
use Rattle.std.specs.FinMap.{FinMap, get, insert, get-insert}
use Rattle.vec_names.specs.declared.tid.Tid.{Tid}
use Rattle.vec_names.specs.Order.{tid_cmp, tid_cmp_total, tid_cmp_exact}
use Rattle.vec_names.specs.Places.{same_tid}
use Rattle.graph_pages.specs.Standing.{is_place}

pub same_if_place : (at other : Tid) → is_place at other ≡ true → other ≡ at
same_if_place at other e =
    let both = and_parts _ _ e in
    same_tid other at (eqb-true _ _ both.0) (eqb-true _ _ both.1)

pub place_itself : (at : Tid) → is_place at at ≡ true
place_itself at = and_from _ _ (eq-eqb at.block at.block refl) (eq-eqb at.off at.off refl)

is_equal : (r : Ordering) → is_eq r ≡ true → r ≡ Equal
is_equal Less e = absurd cc
is_equal Equal e = refl
is_equal Greater e = absurd cc

same_tests : (a b : Bool) → (a ≡ true → b ≡ true) → (b ≡ true → a ≡ true) → a ≡ b
same_tests true b f g = sym (f refl)
same_tests false b f g = sym (false_from_ne_true b (λ e. let t = g e in absurd cc))

tied : (at other : Tid) → eq_by_cmp tid_cmp at other ≡ is_place at other
tied at other =
    same_tests _ _
    (λ e. ap (is_place at) (sym (tid_cmp_exact at other (is_equal _ e))) ∙ place_itself at)
    (λ e. ap (eq_by_cmp tid_cmp at) (same_if_place at other e) ∙ (eq_by_cmp_equiv tid_cmp_total).refl at)

pub get_inserted : {V : Type 0} (m : FinMap tid_cmp V) (k : Tid) (v : V) (q : Tid) → get (insert m k v) q ≡ cond (is_place q k) (Some v) (get m q)
get_inserted m k v q = get-insert tid_cmp_total m k v q ∙ ap (λ b. cond b (Some v) (get m q)) (tied q k)
