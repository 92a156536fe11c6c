-- How the calls of areas in memory change what a crash may leave.
use Rattle.std.proofs.Common.{◌≡◌, ◌≢◌, ◌⊎◌, inl, inr, ⊎_elim, ℕ, ◌+◌, ◌≤◌, List, ◌∷◌, ◌++◌, length, take, drop, Vec, Bool, true, false, if◌then◌else◌, MatchBool, refl, sym, ◌∙◌, ap, subst, arith, append_assoc, length-append, length-drop, take-append-drop}
use Rattle.std.proofs.lemmas.List.{drop-drop, take_at, drop_at, length-take-le}
use Rattle.std.specs.declared.alloc.Global.{Global}
use Rattle.vec_outside.specs.declared.disks.Area.{Area}
use Rattle.vec_outside.specs.declared.disks.Area.TheVariants.{Pages, Log0, Log1}
use Rattle.vec_outside.specs.declared.timeline.Write.{Write}
use Rattle.vec_outside.specs.declared.timeline.Call.{Call}
use Rattle.vec_outside.specs.declared.timeline.Call.TheVariants.{Wrote, Synced}
use Rattle.vec_outside.specs.Disk.{Image, IsTorn, Elapses, IsKept, IsWritten, spliced}
use Rattle.vec_outside.specs.Areas.{is_same}
use Rattle.vec_outside.specs.MemWrite.{write_of, IsWriteOf}
use Rattle.vec_outside.specs.MemDisk.{MayMake, before_call, Leaves, Since, left_by_sync, disk_of, now_left, IsPending}

-- a write is known by its parts
pub as_write : (write : Write) (area : Area) (at n : ℕ) → IsWriteOf area at n write → write ≡ write_of area at n write.was write.refused
as_write write area at n is = λ i. record { area = is.area_is i; at = is.at_is i; len = is.len_is i; was = write.was; refused = write.refused }

pub elapses_none : (now : Image) (calls : List Call) → Elapses (disk_of now calls) (disk_of now calls)
elapses_none now calls = record { later = omega arith; nothing_else = λ t image le since. inl since; keeps = λ t image le since. since }

-- the same calls, read from another place
pub elapses_same : (now : Image) (calls calls' : List Call) → calls' ≡ calls → Elapses (disk_of now calls) (disk_of now calls')
elapses_same now calls calls' same = subst (λ (l : List Call). Elapses (disk_of now calls) (disk_of now l)) (sym same) (elapses_none now calls)

pub elapses_call : (was now : Image) (call : Call) (calls : List Call) → ((area : Area) → before_call call area (now area) ≡ was area) → Elapses (disk_of was calls) (disk_of now (call ∷ calls))
elapses_call was now call calls undo =
    let same : (λ (area : Area). before_call call area (now area)) ≡ was = λ i area. undo area i in
    record {
      later = omega arith;
      nothing_else = λ t image le since. ⊎_elim (λ is. inr is) (λ before. inl (subst (λ (w : Image). Since w calls t image) same before.1)) since;
      keeps = λ t image le since. inr (le, subst (λ (w : Image). Since w calls t image) (sym same) since);
    }

pub same_itself : (area : Area) → is_same area area ≡ true
same_itself Pages = refl
same_itself Log0 = refl
same_itself Log1 = refl

pub same_other : (a b : Area) → b ≢ a → is_same a b ≡ false
same_other Pages Pages other = absurd (other refl)
same_other Pages Log0 other = refl
same_other Pages Log1 other = refl
same_other Log0 Pages other = refl
same_other Log0 Log0 other = absurd (other refl)
same_other Log0 Log1 other = refl
same_other Log1 Pages other = refl
same_other Log1 Log0 other = refl
same_other Log1 Log1 other = absurd (other refl)

pub is_or_not : (a b : Area) → (a ≡ b) ⊎ (a ≢ b)
is_or_not Pages Pages = inl refl
is_or_not Pages Log0 = inr (λ is. cc)
is_or_not Pages Log1 = inr (λ is. cc)
is_or_not Log0 Pages = inr (λ is. cc)
is_or_not Log0 Log0 = inl refl
is_or_not Log0 Log1 = inr (λ is. cc)
is_or_not Log1 Pages = inr (λ is. cc)
is_or_not Log1 Log0 = inr (λ is. cc)
is_or_not Log1 Log1 = inl refl

-- what is left where an area was synced is what is read
pub synced_leaves : (synced area : Area) (now : List ℕ) (calls : List Call) (bytes : List ℕ) → Leaves area now (Synced synced ∷ calls) bytes → Leaves area now calls bytes
synced_leaves synced area now calls bytes (inl is) = subst (Leaves area now calls) (sym is) (now_left area now calls)
synced_leaves synced area now calls bytes (inr (left, leaves, makes)) = by_test (is_same synced area) makes
  where
    by_test : (same : Bool) → MatchBool same ⊥ (bytes ≡ left) → Leaves area now calls bytes
    by_test true makes = absurd makes
    by_test false makes = subst (Leaves area now calls) (sym makes) leaves

pub synced_only : (area : Area) (now : List ℕ) (calls : List Call) (bytes : List ℕ) → Leaves area now (Synced area ∷ calls) bytes → bytes ≡ now
synced_only area now calls bytes (inl is) = is
synced_only area now calls bytes (inr (left, leaves, makes)) = absurd (subst (λ same. MatchBool same ⊥ (bytes ≡ left)) (same_itself area) makes)

-- what another area might have been, it still may be
pub synced_others : (synced area : Area) (now : List ℕ) (calls : List Call) (bytes : List ℕ) → area ≢ synced → Leaves area now calls bytes → Leaves area now (Synced synced ∷ calls) bytes
synced_others synced area now calls bytes other leaves =
    inr (bytes, leaves, subst (λ (same : Bool). MatchBool same ⊥ (bytes ≡ bytes)) (sym (same_other synced area other)) refl)

pub kept_sync : (area : Area) (now : Image) (calls : List Call) → IsKept (disk_of now calls) (disk_of now (Synced area ∷ calls))
kept_sync area now calls = record { seen = λ other. refl; leaves = λ other bytes left. synced_leaves area other (now other) calls bytes left }

-- a write, from the bytes that it took the place of
pub unwritten : (at n : ℕ) (bytes : List ℕ) → take at bytes ++ take n (drop at bytes) ++ drop (at + n) bytes ≡ bytes
unwritten at n bytes =
    append_assoc (take at bytes) (take n (drop at bytes)) (drop (at + n) bytes)
    ∙ ap (λ (l : List ℕ). take at bytes ++ (take n (drop at bytes) ++ l)) (sym (drop-drop n at bytes))
    ∙ ap (λ (l : List ℕ). take at bytes ++ l) (take-append-drop n (drop at bytes))
    ∙ take-append-drop at bytes

-- a write of an area, by the bytes that it took the place of
module _ (area : Area) (at n : ℕ) (over refused : Vec ℕ Global) (was now : Image) (calls calls' : List Call)
    (is_next : calls' ≡ Wrote (write_of area at n over refused) ∷ calls)
    (is_over : over.items ≡ take n (drop at (was area)))
    (torn : IsTorn at n (was area) (now area))
    (others : (other : Area) → other ≢ area → now other ≡ was other) where
  abbrev call : Call
  call = Wrote (write_of area at n over refused)

  undo : take at (now area) ++ over.items ++ drop (at + n) (now area) ≡ was area
  undo = (λ i. torn.before i ++ is_over i ++ torn.after i) ∙ unwritten at n (was area)

  undo_here : before_call call area (now area) ≡ was area
  undo_here = ap (λ (same : Bool). if same then take at (now area) ++ over.items ++ drop (at + n) (now area) else now area) (same_itself area) ∙ undo

  undo_other : (other : Area) → other ≢ area → before_call call other (now other) ≡ was other
  undo_other other ne = ap (λ (same : Bool). if same then take at (now other) ++ over.items ++ drop (at + n) (now other) else now other) (same_other area other ne) ∙ others other ne

  -- an area is the one or another
  undo_each : (other : Area) → before_call call other (now other) ≡ was other
  undo_each other = ⊎_elim (λ is. subst (λ (a : Area). before_call call a (now a) ≡ was a) (sym is) undo_here) (undo_other other) (is_or_not other area)

  -- what the write makes of the area, and of another
  makes_here : (old new : List ℕ) → MayMake call area old new → IsTorn at n old new
  makes_here old new makes = subst (λ (same : Bool). MatchBool same (IsTorn at n old new) (new ≡ old)) (same_itself area) makes

  may_make_here : (old new : List ℕ) → IsTorn at n old new → MayMake call area old new
  may_make_here old new is = subst (λ (same : Bool). MatchBool same (IsTorn at n old new) (new ≡ old)) (sym (same_itself area)) is

  makes_other : (other : Area) (old new : List ℕ) → other ≢ area → MayMake call other old new → new ≡ old
  makes_other other old new ne makes = subst (λ (same : Bool). MatchBool same (IsTorn at n old new) (new ≡ old)) (same_other area other ne) makes

  may_make_other : (other : Area) (old new : List ℕ) → other ≢ area → new ≡ old → MayMake call other old new
  may_make_other other old new ne is = subst (λ (same : Bool). MatchBool same (IsTorn at n old new) (new ≡ old)) (sym (same_other area other ne)) is

  written_leaves : (bytes : List ℕ) → Leaves area (now area) (call ∷ calls) bytes → (left : List ℕ) × Leaves area (was area) calls left × IsTorn at n left bytes
  written_leaves bytes (inl is) = (was area, now_left area (was area) calls, subst (IsTorn at n (was area)) (sym is) torn)
  written_leaves bytes (inr (left, leaves, makes)) = (left, subst (λ (w : List ℕ). Leaves area w calls left) undo_here leaves, makes_here left bytes makes)

  other_leaves : (other : Area) (bytes : List ℕ) → other ≢ area → Leaves other (now other) (call ∷ calls) bytes → Leaves other (was other) calls bytes
  other_leaves other bytes ne (inl is) = subst (Leaves other (was other) calls) (sym (is ∙ others other ne)) (now_left other (was other) calls)
  other_leaves other bytes ne (inr (left, leaves, makes)) =
      subst (Leaves other (was other) calls) (sym (makes_other other left bytes ne makes)) (subst (λ (w : List ℕ). Leaves other w calls left) (undo_other other ne) leaves)

  pub is_written : IsWritten area at n (disk_of was calls) (disk_of now calls')
  is_written = subst (λ (l : List Call). IsWritten area at n (disk_of was calls) (disk_of now l)) (sym is_next) record { seen = torn; leaves = written_leaves; other_seen = others; other_leaves = other_leaves }

  pub elapses_write : Elapses (disk_of was calls) (disk_of now calls')
  elapses_write = subst (λ (l : List Call). Elapses (disk_of was calls) (disk_of now l)) (sym is_next) (elapses_call was now call calls undo_each)

  may_be_torn : (left bytes : List ℕ) → Leaves area (was area) calls left → IsTorn at n left bytes → Leaves area (now area) (call ∷ calls) bytes
  may_be_torn left bytes leaves is = inr (left, subst (λ (w : List ℕ). Leaves area w calls left) (sym undo_here) leaves, may_make_here left bytes is)

  may_stay : (other : Area) (bytes : List ℕ) → other ≢ area → Leaves other (was other) calls bytes → Leaves other (now other) (call ∷ calls) bytes
  may_stay other bytes ne leaves = inr (bytes, subst (λ (w : List ℕ). Leaves other w calls bytes) (sym (undo_other other ne)) leaves, may_make_other other bytes bytes ne refl)

  pub is_pending : IsPending area at n (disk_of was calls) (disk_of now calls')
  is_pending = subst (λ (l : List Call). IsPending area at n (disk_of was calls) (disk_of now l)) (sym is_next) record { leaves = may_be_torn; other_leaves = may_stay }

  pub still_synced : (each : Area) → left_by_sync each (now each) calls' ≡ left_by_sync each (was each) calls
  still_synced each = ap (λ (l : List Call). left_by_sync each (now each) l) is_next ∙ ap (λ (w : List ℕ). left_by_sync each w calls) (undo_each each)

module _ (at : ℕ) (was bytes : List ℕ) (le : at ≤ length was) where
  size : length (take at was) ≡ at
  size = length-take-le at was le

  spliced_front : take at (spliced was at bytes) ≡ take at was
  spliced_front = ap (λ (l : List ℕ). take at l) (append_assoc (take at was) bytes (drop (at + length bytes) was)) ∙ take_at (take at was) (bytes ++ drop (at + length bytes) was) at size

  spliced_back : drop (at + length bytes) (spliced was at bytes) ≡ drop (at + length bytes) was
  spliced_back = drop_at (take at was ++ bytes) (drop (at + length bytes) was) (at + length bytes) (omega (arith, length-append (take at was) bytes, size))

  length-spliced : length (spliced was at bytes) ≡ at + length bytes + length (drop (at + length bytes) was)
  length-spliced = omega (arith, length-append (take at was ++ bytes) (drop (at + length bytes) was), length-append (take at was) bytes, size)

  pub spliced_torn : IsTorn at (length bytes) was (spliced was at bytes)
  spliced_torn = record {
    before = spliced_front;
    after = spliced_back;
    no_shorter = omega (arith, length-spliced, length-drop (at + length bytes) was);
    no_longer = omega (arith, length-spliced, length-drop (at + length bytes) was);
  }
