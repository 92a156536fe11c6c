-- Going back to the last sync of an area, and letting the calls since then happen anew.
use Rattle.std.proofs.Common.{◌≡◌, inr, ℕ, ◌+◌, ◌-◌, ◌≤◌, ◌<◌, Bool, true, false, List, [], ◌∷◌, ◌++◌, length, take, drop, get_or, if◌then◌else◌, MatchBool, refl, sym, ◌∙◌, ap, subst, arith, take-append-drop}
use Rattle.std.proofs.lemmas.List.{take_more, drop_more, drop-drop}
use Rattle.vec_outside.specs.declared.disks.Area.{Area}
use Rattle.vec_outside.specs.declared.timeline.Call.{Call}
use Rattle.vec_outside.specs.declared.timeline.Write.{Write}
use Rattle.vec_outside.specs.declared.timeline.Call.TheVariants.{Wrote, Synced}
use Rattle.vec_outside.specs.Areas.{is_same}
use Rattle.vec_outside.specs.Crash.{UndoneBy}
use Rattle.vec_outside.specs.Disk.{IsTorn}
use Rattle.vec_outside.specs.MemDisk.{before_call, is_sync_of, left_by_sync, MayMake, Leaves, now_left}
use Rattle.vec_outside.proofs.Moments.{torn_none}

-- one call more is taken back
undone_more : (area : Area) (now : List ℕ) (calls : List Call) (call : Call) (mid : List ℕ) → UndoneBy area now calls mid → is_sync_of call area ≡ false
    → UndoneBy area now (calls ++ call ∷ []) (before_call call area mid)
undone_more area now [] call mid undone open_ = (open_, ap (before_call call area) undone)
undone_more area now (first ∷ calls) call mid undone open_ = (undone.0, undone_more area (before_call first area now) calls call mid undone.1 open_)

-- one call less
undone_less : (area : Area) (now : List ℕ) (calls : List Call) (call : Call) (was : List ℕ) → UndoneBy area now (calls ++ call ∷ []) was
    → (mid : List ℕ) × UndoneBy area now calls mid × (is_sync_of call area ≡ false) × (was ≡ before_call call area mid)
undone_less area now [] call was undone = (now, refl, undone.0, undone.1)
undone_less area now (first ∷ calls) call was undone =
    let rest = undone_less area (before_call first area now) calls call was undone.1 in
    (rest.0, (undone.0, rest.1), rest.2, rest.3)

-- a call that is no sync may make nothing of what was left
keeps_left : (call : Call) (area : Area) (bytes : List ℕ) → is_sync_of call area ≡ false → MayMake call area bytes bytes
keeps_left (Wrote write) area bytes open_ = by_test (is_same write.area area)
  where
    by_test : (same : Bool) → MatchBool same (IsTorn write.at write.len bytes bytes) (bytes ≡ bytes)
    by_test true = torn_none write.at write.len bytes
    by_test false = refl
keeps_left (Synced synced) area bytes open_ = subst (λ (same : Bool). MatchBool same ⊥ (bytes ≡ bytes)) (sym open_) refl

-- where no call since then reached the disk, a crash leaves what it might have left then
undone_leaves : (area : Area) (now : List ℕ) (calls earlier : List Call) (was bytes : List ℕ) → UndoneBy area now calls was → Leaves area was earlier bytes → Leaves area now (calls ++ earlier) bytes
undone_leaves area now [] earlier was bytes undone leaves = subst (λ (w : List ℕ). Leaves area w earlier bytes) undone leaves
undone_leaves area now (call ∷ calls) earlier was bytes undone leaves =
    inr (bytes, undone_leaves area (before_call call area now) calls earlier was bytes undone.1 leaves, keeps_left call area bytes undone.0)

pub undone_left : (area : Area) (now : List ℕ) (k : ℕ) (calls : List Call) (bytes : List ℕ) → UndoneBy area now (take k calls) bytes → Leaves area now calls bytes
undone_left area now k calls bytes undone =
    subst (λ (l : List Call). Leaves area now l bytes) (take-append-drop k calls)
    (undone_leaves area now (take k calls) (drop k calls) bytes bytes undone (now_left area bytes (drop k calls)))

-- all that was written is one of the things that a crash may leave
pub same_left : (area : Area) (now : List ℕ) (calls : List Call) (bytes : List ℕ) → bytes ≡ now → Leaves area now calls bytes
same_left area now calls bytes is = subst (Leaves area now calls) (sym is) (now_left area now calls)

-- what was left after all but the newest k calls, as it may be
abbrev pub IsMixing : Area → List ℕ → List Call → ℕ → List ℕ → Type 0
IsMixing area now calls k bytes = (was : List ℕ) × UndoneBy area now (take k calls) was × Leaves area was (drop k calls) bytes

-- a write of fewer bytes tears the range too
pub torn_within : (at m n : ℕ) (old new : List ℕ) → m ≤ n → IsTorn at m old new → IsTorn at n old new
torn_within at m n old new le torn =
    let split : at + n ≡ at + m + (n - m) = omega arith in
    record {
      before = torn.before;
      after =
          ap (λ (k : ℕ). drop k new) split ∙ sym (drop-drop (n - m) (at + m) new) ∙ ap (λ (l : List ℕ). drop (n - m) l) torn.after
          ∙ drop-drop (n - m) (at + m) old ∙ ap (λ (k : ℕ). drop k old) (sym split);
      no_shorter = torn.no_shorter;
      no_longer = omega (arith, torn.no_longer);
    }

pub makes_torn : (write : Write) (call : Call) (area : Area) (m : ℕ) (old new : List ℕ) → call ≡ Wrote write → is_same write.area area ≡ true → m ≤ write.len → IsTorn write.at m old new → MayMake call area old new
makes_torn write call area m old new is same le torn =
    subst (λ (c : Call). MayMake c area old new) (sym is)
    (subst (λ (s : Bool). MatchBool s (IsTorn write.at write.len old new) (new ≡ old)) (sym same) (torn_within write.at m write.len old new le torn))

module _ (area : Area) (now : List ℕ) (calls : List Call) (i : ℕ) (call : Call) (within : i < length calls) (at : get_or calls i call ≡ call) where
  taken : take (i + 1) calls ≡ take i calls ++ call ∷ []
  taken = take_more calls i call within ∙ ap (λ (c : Call). take i calls ++ c ∷ []) at

  dropped : drop i calls ≡ call ∷ drop (i + 1) calls
  dropped = drop_more calls i call within ∙ ap (λ (c : Call). c ∷ drop (i + 1) calls) at

  -- going back
  pub goes_back : (bytes before : List ℕ) → UndoneBy area now (take i calls) bytes → is_sync_of call area ≡ false → before ≡ before_call call area bytes
      → UndoneBy area now (take (i + 1) calls) before
  goes_back bytes before undone open_ is =
      subst (λ (l : List Call). UndoneBy area now l before) (sym taken)
      (subst (UndoneBy area now (take i calls ++ call ∷ [])) (sym is) (undone_more area now (take i calls) call bytes undone open_))

  pub goes_on_back : (bytes : List ℕ) → is_sync_of call area ≡ false → left_by_sync area bytes (drop i calls) ≡ left_by_sync area (before_call call area bytes) (drop (i + 1) calls)
  goes_on_back bytes open_ =
      ap (left_by_sync area bytes) dropped
      ∙ ap (λ (sync : Bool). if sync then bytes else left_by_sync area (before_call call area bytes) (drop (i + 1) calls)) open_

  pub is_back : (bytes : List ℕ) → is_sync_of call area ≡ true → left_by_sync area bytes (drop i calls) ≡ bytes
  is_back bytes sync =
      ap (left_by_sync area bytes) dropped
      ∙ ap (λ (s : Bool). if s then bytes else left_by_sync area (before_call call area bytes) (drop (i + 1) calls)) sync

  -- going forth again: the call was no sync, and what it makes of what was left goes on
  pub comes_forth : (bytes : List ℕ) → IsMixing area now calls (i + 1) bytes → (is_sync_of call area ≡ false) × ((next : List ℕ) → MayMake call area bytes next → IsMixing area now calls i next)
  comes_forth bytes (was, undone, leaves) =
      let less = undone_less area now (take i calls) call was (subst (λ (l : List Call). UndoneBy area now l was) taken undone) in
      let before : Leaves area (before_call call area less.0) (drop (i + 1) calls) bytes = subst (λ (w : List ℕ). Leaves area w (drop (i + 1) calls) bytes) less.3 leaves in
      (less.2, λ next makes. (less.0, less.1, subst (λ (l : List Call). Leaves area less.0 l next) (sym dropped) (inr (bytes, before, makes))))
