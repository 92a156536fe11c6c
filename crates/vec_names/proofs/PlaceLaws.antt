-- What stands at two numbers.
use Rattle.std.proofs.Common.{◌≡◌, ℕ, ◌<◌, ◌≤◌, ◌^◌, Bool, true, false, leb, ltb, Option, Some, None, refl, ap, subst, arith}
use Rattle.std.specs.Prelude.{IfSome}
use Rattle.std.proofs.lemmas.Bool.{leb-true, ltb-true, leb-false, ltb-false}
use Rattle.vec_names.specs.declared.tid.Tid.{Tid}
use Rattle.vec_names.specs.declared.heap_id.HeapId.{HeapId}
use Rattle.vec_names.specs.Places.{tid_where, heap_id_where, tid_of, heap_id_of, same_tid, same_heap_id}

-- ---- tid

tid_where-some : (t : Tid) (b c d : Bool) (e : leb t.block 32767 ≡ b) (f : leb 1 t.off ≡ c) (g : ltb t.off (2 ^ 16) ≡ d) → tid_where t.block t.off b c d e f g ≡ Some t
unfolding tid_where
tid_where-some t true true true e f g = ap (λ (x : Tid). Some x) (same_tid _ t refl refl)
tid_where-some t true true false e f g = absurd (omega (arith, ltb-false _ _ g, t.in_two_bytes))
tid_where-some t true false d e f g = absurd (omega (arith, leb-false _ _ f, t.counted_from_one))
tid_where-some t false c d e f g = absurd (omega (arith, leb-false _ _ e, t.within_blocks))

pub tid_of-some : (t : Tid) → tid_of t.block t.off ≡ Some t
unfolding tid_of
tid_of-some t = tid_where-some t _ _ _ refl refl refl

tid_where-none : (block off : ℕ) (b c d : Bool) (e : leb block 32767 ≡ b) (f : leb 1 off ≡ c) (g : ltb off (2 ^ 16) ≡ d) → (block ≤ 32767 → 1 ≤ off → off < 2 ^ 16 → ⊥) → tid_where block off b c d e f g ≡ None
unfolding tid_where
tid_where-none block off true true true e f g not_in_range = absurd (not_in_range (leb-true _ _ e) (leb-true _ _ f) (ltb-true _ _ g))
tid_where-none block off true true false e f g not_in_range = refl
tid_where-none block off true false d e f g not_in_range = refl
tid_where-none block off false c d e f g not_in_range = refl

pub tid_of-none : (block off : ℕ) → (block ≤ 32767 → 1 ≤ off → off < 2 ^ 16 → ⊥) → tid_of block off ≡ None
unfolding tid_of
tid_of-none block off not_in_range = tid_where-none block off _ _ _ refl refl refl not_in_range

tid_where-numbers : (block off : ℕ) (b c d : Bool) (e : leb block 32767 ≡ b) (f : leb 1 off ≡ c) (g : ltb off (2 ^ 16) ≡ d) → IfSome (tid_where block off b c d e f g) (λ t. (t.block ≡ block) × (t.off ≡ off))
unfolding tid_where
tid_where-numbers block off true true true e f g = (refl, refl)
tid_where-numbers block off true true false e f g = tt
tid_where-numbers block off true false d e f g = tt
tid_where-numbers block off false c d e f g = tt

pub tid_of-numbers : (block off : ℕ) (t : Tid) → tid_of block off ≡ Some t → (t.block ≡ block) × (t.off ≡ off)
unfolding tid_of
tid_of-numbers block off t is =
    subst (λ (o : Option Tid). IfSome o (λ t. (t.block ≡ block) × (t.off ≡ off))) is (tid_where-numbers block off _ _ _ refl refl refl)

-- ---- heap_id

heap_id_where-some : (t : HeapId) (b c d : Bool) (e : ltb t.block 0xFFFFFFFF ≡ b) (f : leb 1 t.off ≡ c) (g : ltb t.off (2 ^ 16) ≡ d) → heap_id_where t.block t.off b c d e f g ≡ Some t
unfolding heap_id_where
heap_id_where-some t true true true e f g = ap (λ (x : HeapId). Some x) (same_heap_id _ t refl refl)
heap_id_where-some t true true false e f g = absurd (omega (arith, ltb-false _ _ g, t.in_two_bytes))
heap_id_where-some t true false d e f g = absurd (omega (arith, leb-false _ _ f, t.counted_from_one))
heap_id_where-some t false c d e f g = absurd (omega (arith, ltb-false _ _ e, t.within_blocks))

pub heap_id_of-some : (t : HeapId) → heap_id_of t.block t.off ≡ Some t
unfolding heap_id_of
heap_id_of-some t = heap_id_where-some t _ _ _ refl refl refl

heap_id_where-none : (block off : ℕ) (b c d : Bool) (e : ltb block 0xFFFFFFFF ≡ b) (f : leb 1 off ≡ c) (g : ltb off (2 ^ 16) ≡ d) → (block < 0xFFFFFFFF → 1 ≤ off → off < 2 ^ 16 → ⊥) → heap_id_where block off b c d e f g ≡ None
unfolding heap_id_where
heap_id_where-none block off true true true e f g not_in_range = absurd (not_in_range (ltb-true _ _ e) (leb-true _ _ f) (ltb-true _ _ g))
heap_id_where-none block off true true false e f g not_in_range = refl
heap_id_where-none block off true false d e f g not_in_range = refl
heap_id_where-none block off false c d e f g not_in_range = refl

pub heap_id_of-none : (block off : ℕ) → (block < 0xFFFFFFFF → 1 ≤ off → off < 2 ^ 16 → ⊥) → heap_id_of block off ≡ None
unfolding heap_id_of
heap_id_of-none block off not_in_range = heap_id_where-none block off _ _ _ refl refl refl not_in_range

heap_id_where-numbers : (block off : ℕ) (b c d : Bool) (e : ltb block 0xFFFFFFFF ≡ b) (f : leb 1 off ≡ c) (g : ltb off (2 ^ 16) ≡ d) → IfSome (heap_id_where block off b c d e f g) (λ t. (t.block ≡ block) × (t.off ≡ off))
unfolding heap_id_where
heap_id_where-numbers block off true true true e f g = (refl, refl)
heap_id_where-numbers block off true true false e f g = tt
heap_id_where-numbers block off true false d e f g = tt
heap_id_where-numbers block off false c d e f g = tt

pub heap_id_of-numbers : (block off : ℕ) (t : HeapId) → heap_id_of block off ≡ Some t → (t.block ≡ block) × (t.off ≡ off)
unfolding heap_id_of
heap_id_of-numbers block off t is =
    subst (λ (o : Option HeapId). IfSome o (λ t. (t.block ≡ block) × (t.off ≡ off))) is (heap_id_where-numbers block off _ _ _ refl refl refl)
