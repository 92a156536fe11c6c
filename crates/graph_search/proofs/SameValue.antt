-- An element that may take an id has the value, and has room. Values of one length that are unequal at no place are equal.
use Rattle.std.proofs.Common.{◌≡◌, ℕ, ◌+◌, ◌≤◌, ◌&&◌, ◌==◌, Bool, true, false, List, [], ◌∷◌, length, refl, ap₂, arith, eqb-true}
use Rattle.std.specs.Prelude.{nat_le}
use Rattle.std.proofs.lemmas.Bool.{leb-true}
use Rattle.vec_names.specs.declared.heap_id.HeapId.{HeapId}
use Rattle.bit_code.specs.Places.{tally, unequal, one_if_unequal}
use Rattle.neighbour_pick.specs.declared.found.Found.{Found}
use Rattle.graph_search.specs.Search.{has_some}
use Rattle.graph_search.specs.Insert.{may_join}

no_sum : (a b : ℕ) → a + b ≡ 0 → a ≡ 0
no_sum a b e = omega (arith, e)

no_rest : (a b : ℕ) → a + b ≡ 0 → b ≡ 0
no_rest a b e = omega (arith, e)

same_digit : (x y : Bool) → one_if_unequal x y ≡ 0 → x ≡ y
same_digit true true e = refl
same_digit true false e = absurd (omega (arith, e))
same_digit false true e = absurd (omega (arith, e))
same_digit false false e = refl

none_unequal : (a b : List Bool) → length a ≡ length b → unequal a b ≡ 0 → a ≡ b
unfolding tally
none_unequal [] [] long e = refl
none_unequal [] (y ∷ ys) long e = absurd (omega (arith, long))
none_unequal (x ∷ xs) [] long e = absurd (omega (arith, long))
none_unequal (x ∷ xs) (y ∷ ys) long e =
    ap₂ (λ (z : Bool) (zs : List Bool). z ∷ zs) (same_digit x y (no_sum (one_if_unequal x y) (unequal xs ys) e))
    (none_unequal xs ys (omega (arith, long)) (no_rest (one_if_unequal x y) (unequal xs ys) e))

first_true : (a b : Bool) → (a && b) ≡ true → a ≡ true
first_true true b e = refl
first_true false b e = absurd cc

pub same_value : (bits : List Bool) (e : Found) → may_join bits e ≡ true → length e.bits ≡ length bits → e.bits ≡ bits
same_value bits e may long = none_unequal e.bits bits long (eqb-true _ _ (first_true (unequal e.bits bits == 0) _ may))

second_true : (a b : Bool) → (a && b) ≡ true → b ≡ true
second_true true b e = e
second_true false b e = absurd cc

some_one : (ids : List HeapId) → has_some ids ≡ true → 1 ≤ length ids
some_one [] e = absurd cc
some_one (id ∷ ids) e = omega (arith)

pub with_room : (bits : List Bool) (e : Found) → may_join bits e ≡ true → (1 ≤ length e.ids.items) × (length e.ids.items ≤ 9)
with_room bits e may =
    let ids : (has_some e.ids.items && nat_le (length e.ids.items) 9) ≡ true =
    second_true (unequal e.bits bits == 0) (has_some e.ids.items && nat_le (length e.ids.items) 9) may in (
      some_one e.ids.items (first_true (has_some e.ids.items) (nat_le (length e.ids.items) 9) ids),
      leb-true (length e.ids.items) 9 (second_true (has_some e.ids.items) (nat_le (length e.ids.items) 9) ids),
    )
