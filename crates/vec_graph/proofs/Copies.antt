-- A map is what its entries make, put in one after the other.
use Rattle.std.proofs.Common.{◌≡◌, true, false, cond, ◌&&◌, T, List, [], ◌∷◌, Option, Some, None, refl, sym, ap, subst, ◌∙◌}
use Rattle.std.specs.Option.{option_or}
use Rattle.std.specs.declared.cmp.Ordering.{Ordering}
use Rattle.std.specs.declared.cmp.Ordering.TheVariants.{Less, Equal, Greater}
use Rattle.std.specs.Ordering.{is_lt, is_eq, eq_by_cmp}
use Rattle.std.specs.FinMap.{FinMap, find, is_sorted, empty, entries, entries_sorted, get, insert, get-entries, get-empty, get-insert, same_map}
use Rattle.std.specs.FinMap.Entries.{below_all}
use Rattle.vec_names.specs.declared.tid.Tid.{Tid}
use Rattle.vec_names.specs.Order.{tid_cmp, tid_cmp_total, tid_cmp_exact}

pub equal : (r : Ordering) → is_eq r ≡ true → r ≡ Equal
equal Less e = cc
equal Equal e = refl
equal Greater e = cc

pub not_equal : (r : Ordering) → T (is_lt r) → is_eq r ≡ false
not_equal Less h = refl
not_equal Equal h = absurd h
not_equal Greater h = absurd h

pub left : (a b : _) → T (a && b) → T a
left true b p = tt
left false b p = absurd p

pub right : (a b : _) → T (a && b) → T b
right true b p = p
right false b p = absurd p

module _ {V : Type 0} where
  -- the entries put into a map, the first one first
  abbrev pub put_all : FinMap tid_cmp V → List (Tid × V) → FinMap tid_cmp V
  put_all m [] = m
  put_all m (e ∷ es) = put_all (insert m e.0 e.1) es

  pub missing : (k : Tid) (es : List (Tid × V)) → T (below_all tid_cmp k es) → find tid_cmp k es ≡ None
  missing k [] h = refl
  missing k (e ∷ es) h =
      ap (λ b. cond b (Some e.1) (find tid_cmp k es)) (not_equal (tid_cmp k e.0) (left _ _ h)) ∙ missing k es (right _ _ h)

  get_all : (es : List (Tid × V)) → T (is_sorted tid_cmp es) → (m : FinMap tid_cmp V) (q : Tid)
      → get (put_all m es) q ≡ option_or (find tid_cmp q es) (get m q)
  get_all [] h m q = refl
  get_all (e ∷ es) h m q =
      get_all es (right _ _ h) (insert m e.0 e.1) q
      ∙ ap (option_or (find tid_cmp q es)) (get-insert tid_cmp_total m e.0 e.1 q)
      ∙ elim (eq_by_cmp tid_cmp q e.0) as (λ b. eq_by_cmp tid_cmp q e.0 ≡ b
      → option_or (find tid_cmp q es) (cond b (Some e.1) (get m q)) ≡ option_or (cond b (Some e.1) (find tid_cmp q es)) (get m q)) [
        | true ↦ λ is. ap (λ o. option_or o (Some e.1))
            (missing q es (subst (λ (k : Tid). T (below_all tid_cmp k es)) (sym (tid_cmp_exact q e.0 (equal _ is))) (left _ _ h)))
        | false ↦ λ _. refl
      ] refl

  none_else : (o : Option V) → option_or o None ≡ o
  none_else None = refl
  none_else (Some v) = refl

  pub all_made : (m : FinMap tid_cmp V) → put_all empty (entries m) ≡ m
  all_made m = same_map tid_cmp_total tid_cmp_exact (put_all empty (entries m)) m (λ q. get_all (entries m) (entries_sorted m) empty q
      ∙ ap (option_or (find tid_cmp q (entries m))) (get-empty tid_cmp q) ∙ none_else _ ∙ sym (get-entries m q))
