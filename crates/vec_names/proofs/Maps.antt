-- The finite map that the entries of a `BTreeMap` of places make.
use Rattle.std.proofs.Common.{◌≡◌, true, cond, T, List, [], ◌∷◌, length, map, Option, Some, None, refl, sym, ap, subst, ◌∙◌}
use Rattle.std.specs.Map.{lookup}
use Rattle.std.specs.List.{AllByRecursion}
use Rattle.std.specs.List.Sorted.{IsStrictlySortedBy}
use Rattle.std.specs.Ordering.{is_lt}
use Rattle.std.specs.Cmp.{eq_by_cmp_equiv}
use Rattle.std.specs.FinMap.{FinMap, find, is_sorted, from_entries, from_sorted, entries, get, len, insert, remove, get-from_entries, get-from_sorted, get-insert, get-remove, entries-from_sorted, len-entries, same_map}
use Rattle.std.specs.BTreeMap.{BTreeMap, is_at, Updates}
use Rattle.std.specs.BTreeMap as tree
use Rattle.std.specs.Borrow.{MutBor}
use Rattle.std.specs.Option.{option_copied_mut}
use Rattle.std.specs.Prelude.{IsSome, OnSome}
use Rattle.std.specs.declared.cmp.Ordering.TheVariants.{Less}
use Rattle.std.specs.FinMap.Entries.{below_all}
use Rattle.std.proofs.lemmas.Bool.{and_from}
use Rattle.std.proofs.lemmas.Float.{T_from_true}
use Rattle.vec_names.specs.declared.tid.Tid.{Tid}
use Rattle.vec_names.specs.Order.{tid_cmp, tid_cmp_total, tid_cmp_exact}

module _ {V : Type 0} where
  abbrev pub made : List (Tid × V) → FinMap tid_cmp V
  made es = from_entries es

  find_entry : (es : List (Tid × V)) (q : Tid) → find tid_cmp q es ≡ lookup (is_at (tid_cmp q)) es
  find_entry [] q = refl
  find_entry (e ∷ es) q = ap (cond (is_at (tid_cmp q) e.0) (Some e.1)) (find_entry es q)

  -- what the map that the entries make has at a place
  pub get_made : (es : List (Tid × V)) (q : Tid) → get (made es) q ≡ lookup (is_at (tid_cmp q)) es
  get_made es q = get-from_entries tid_cmp_total es q ∙ find_entry es q

  pub insert_made : (old new : BTreeMap Tid V) (k : Tid) (v : V) → Updates tid_cmp old new k (Some v) → made new.entries ≡ insert (made old.entries) k v
  insert_made old new k v updates =
      same_map tid_cmp_total tid_cmp_exact _ _ (λ q. get_made new.entries q ∙ updates.0 q
      ∙ ap (λ o. cond (is_at (tid_cmp k) q) (Some v) o) (sym (get_made old.entries q))
      ∙ ap (λ b. cond b (Some v) (get (made old.entries) q)) ((eq_by_cmp_equiv tid_cmp_total).symm k q)
      ∙ sym (get-insert tid_cmp_total (made old.entries) k v q))

  pub remove_made : (old new : BTreeMap Tid V) (k : Tid) → Updates tid_cmp old new k None → made new.entries ≡ remove (made old.entries) k
  remove_made old new k updates =
      same_map tid_cmp_total tid_cmp_exact _ _ (λ q. get_made new.entries q ∙ updates.0 q
      ∙ ap (λ o. cond (is_at (tid_cmp k) q) None o) (sym (get_made old.entries q))
      ∙ ap (λ b. cond b None (get (made old.entries) q)) ((eq_by_cmp_equiv tid_cmp_total).symm k q)
      ∙ sym (get-remove tid_cmp_total (made old.entries) k q))

  below : (k : Tid) (es : List (Tid × V)) → AllByRecursion (λ q. tid_cmp k q ≡ Less) (map (λ e. e.0) es) → below_all tid_cmp k es ≡ true
  below k [] h = refl
  below k (e ∷ es) h = and_from _ _ (ap is_lt h.0) (below k es h.1)

  in_order : (es : List (Tid × V)) → IsStrictlySortedBy tid_cmp (map (λ e. e.0) es) → is_sorted tid_cmp es ≡ true
  unfolding IsStrictlySortedBy
  in_order [] h = refl
  in_order (e ∷ es) h = and_from _ _ (below e.0 es h.0) (in_order es h.1)

  -- the entries in order are the map's own
  pub entries_made : (es : List (Tid × V)) → IsStrictlySortedBy tid_cmp (map (λ e. e.0) es) → entries (made es) ≡ es
  entries_made es h =
      let sorted : T (is_sorted tid_cmp es) = T_from_true _ (in_order es h) in
      ap entries (same_map tid_cmp_total tid_cmp_exact (made es) (from_sorted es) (λ q. get-from_entries tid_cmp_total es q ∙ sym (get-from_sorted tid_cmp es q sorted)))
      ∙ entries-from_sorted tid_cmp es sorted

  pub len_made : (es : List (Tid × V)) → IsStrictlySortedBy tid_cmp (map (λ e. e.0) es) → len (made es) ≡ length es
  len_made es h = len-entries (made es) ∙ ap length (entries_made es h)

  -- a value that was changed in place is the one that the map then has there
  pub lent_made : (old new : BTreeMap Tid V) (k : Tid) (w : V) (r : Option (MutBor V)) → option_copied_mut r ≡ tree.get tid_cmp old k
      → (IsSome (tree.get tid_cmp old k) → Updates tid_cmp old new k (Some w)) → OnSome r (made new.entries ≡ insert (made old.entries) k w)
  lent_made old new k w None is updates = tt
  lent_made old new k w (Some x) is updates = insert_made old new k w (updates (subst (λ (o : Option V). IsSome o) is refl))
