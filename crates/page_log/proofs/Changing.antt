-- How changes of the logs follow one another.
use Rattle.std.proofs.Common.{◌≡◌, inl, inr, ⊎_elim, ℕ, ◌+◌, ◌≤◌, List, [], ◌∷◌, ◌++◌, length, take, drop, refl, sym, ◌∙◌, ap, subst, arith, append_assoc, append-nil, length-append, length-drop}
use Rattle.std.proofs.lemmas.List.{take-append-le, drop-append-le, drop-drop}
use Rattle.vec_history.specs.declared.event.Event.{Event}
use Rattle.vec_outside.specs.Disk.{Disk, Image}
use Rattle.vec_outside.proofs.Moments.{weakened, joined}
use Rattle.page_log.specs.BothLogs.{Held, Reads, ReadsAny, Change, Added, Ready, Begun, added, changed, settled_more, MayRead, HoldsAfter, Logs, LogsComeFrom}
use Rattle.page_log.specs.Going.{IsBetween}
use Rattle.page_log.specs.Opening.{area_of}
use Rattle.page_log.proofs.Coming.{between_parts, take_parts}

-- ---- more is settled

reads_more : (n : ℕ) (h : Held) (image : Image) → n ≤ length h.pending → Reads (settled_more n h) image → Reads h image
reads_more n h image le r = record {
  named = r.named;
  counts = r.counts;
  holds =
      let bytes = image (area_of h.epoch) in
      subst (λ (l : List Event). IsBetween h.base h.settled l bytes) (append-nil h.pending)
      (between_parts h.base n h.settled h.pending [] bytes le
      (subst (λ (l : List Event). IsBetween h.base (h.settled ++ take n h.pending) l bytes) (sym (append-nil (drop n h.pending))) r.holds));
}

any_more : (n : ℕ) (h : Held) (image : Image) → n ≤ length h.pending → ReadsAny (settled_more n h) image → ReadsAny h image
any_more n h image le any = ⊎_elim (λ r. inl (reads_more n h image le r)) (λ r. inr r) any

changed_more : (n : ℕ) (h : Held) (c : Change) → n ≤ length h.pending
    → (m : ℕ) × (m ≤ length (changed h c).pending) × (changed (settled_more n h) c ≡ settled_more m (changed h c))
changed_more n h (Added event) le =
    let some : take n h.pending ≡ take n (h.pending ++ event ∷ []) = sym (take-append-le n h.pending (event ∷ []) le) in
    let left : drop n h.pending ++ event ∷ [] ≡ drop n (h.pending ++ event ∷ []) = sym (drop-append-le n h.pending (event ∷ []) le) in (
      n,
      omega (arith, le, length-append h.pending (event ∷ [])),
      (λ i. record { epoch = h.epoch; base = h.base; settled = h.settled ++ some i; pending = left i; next = h.next }),
    )
changed_more n h (Ready new) le = (n, le, refl)
changed_more n h (Begun new) le = (0, omega arith, refl)

may_more : (cs : List Change) (n : ℕ) (h : Held) (image : Image) → n ≤ length h.pending → MayRead (settled_more n h) cs image → MayRead h cs image
may_more [] n h image le may = any_more n h image le may
may_more (c ∷ cs) n h image le may =
    let m = changed_more n h c le in
    ⊎_elim (λ any. inl (any_more n h image le any))
    (λ rest. inr (may_more cs m.0 (changed h c) image m.1 (subst (λ (k : Held). MayRead k cs image) m.2 rest))) may

more_twice : (n k : ℕ) (h : Held) → settled_more k (settled_more n h) ≡ settled_more (n + k) h
more_twice n k h =
    let some : (h.settled ++ take n h.pending) ++ take k (drop n h.pending) ≡ h.settled ++ take (n + k) h.pending =
    append_assoc h.settled (take n h.pending) (take k (drop n h.pending)) ∙ ap (λ (l : List Event). h.settled ++ l) (sym (take_parts n k h.pending)) in
    let left : drop k (drop n h.pending) ≡ drop (n + k) h.pending = drop-drop k n h.pending in
    λ i. record { epoch = h.epoch; base = h.base; settled = some i; pending = left i; next = h.next }

holds_more : (cs : List Change) (n : ℕ) (h now : Held) → n ≤ length h.pending → HoldsAfter (settled_more n h) cs now → HoldsAfter h cs now
holds_more [] n h now le after = (
  n + after.0,
  omega (arith, le, after.1, length-drop n h.pending),
  after.2 ∙ more_twice n after.0 h,
)
holds_more (c ∷ cs) n h now le after =
    let m = changed_more n h c le in
    holds_more cs m.0 (changed h c) now m.1 (subst (λ (k : Held). HoldsAfter k cs now) m.2 after)

-- ---- one run of changes after the other

may_later : (cs ds : List Change) (h mid : Held) (image : Image) → HoldsAfter h cs mid → MayRead mid ds image → MayRead h (cs ++ ds) image
may_later [] ds h mid image after may = may_more ds after.0 h image after.1 (subst (λ (k : Held). MayRead k ds image) after.2 may)
may_later (c ∷ cs) ds h mid image after may = inr (may_later cs ds (changed h c) mid image after may)

any_may : (ds : List Change) (h : Held) (image : Image) → ReadsAny h image → MayRead h ds image
any_may [] h image any = any
any_may (d ∷ ds) h image any = inl any

may_front : (cs ds : List Change) (h : Held) (image : Image) → MayRead h cs image → MayRead h (cs ++ ds) image
may_front [] ds h image may = any_may ds h image may
may_front (c ∷ cs) ds h image may = ⊎_elim (λ any. inl any) (λ rest. inr (may_front cs ds (changed h c) image rest)) may

after_later : (cs ds : List Change) (h mid now : Held) → HoldsAfter h cs mid → HoldsAfter mid ds now → HoldsAfter h (cs ++ ds) now
after_later [] ds h mid now first second = holds_more ds first.0 h now first.1 (subst (λ (k : Held). HoldsAfter k ds now) first.2 second)
after_later (c ∷ cs) ds h mid now first second = after_later cs ds (changed h c) mid now first second

pub logs_further : (old mid new : Logs) (before between after : Disk) (cs ds : List Change) → LogsComeFrom old before mid between cs → LogsComeFrom mid between new after ds
    → LogsComeFrom old before new after (cs ++ ds)
logs_further old mid new before between after cs ds first second held standing =
    let one = first held standing in
    let two = second one.now one.standing in record {
      now = two.now;
      leads = after_later cs ds held one.now two.now one.leads two.leads;
      standing = two.standing;
      moments = joined before between after (MayRead held (cs ++ ds)) (MayRead one.now ds)
          (weakened before between (MayRead held cs) (MayRead held (cs ++ ds)) one.moments (λ image may. may_front cs ds held image may))
          two.moments (λ image may. may_later cs ds held one.now image one.leads may);
    }

-- ---- events alone

abbrev pub with_all : Held → List Event → Held
with_all h events = record h { pending = h.pending ++ events }

all_none : (h : Held) → with_all h [] ≡ h
all_none h =
    let same = append-nil h.pending in
    λ i. record { epoch = h.epoch; base = h.base; settled = h.settled; pending = same i; next = h.next }

all_more : (h : Held) (e : Event) (es : List Event) → with_all h (e ∷ es) ≡ with_all (changed h (Added e)) es
all_more h e es =
    let same : h.pending ++ e ∷ es ≡ (h.pending ++ e ∷ []) ++ es = sym (append_assoc h.pending (e ∷ []) es) in
    λ i. record { epoch = h.epoch; base = h.base; settled = h.settled; pending = same i; next = h.next }

pub added_may : (es : List Event) (h : Held) (image : Image) → ReadsAny (with_all h es) image → MayRead h (added es) image
added_may [] h image any = subst (λ (k : Held). ReadsAny k image) (all_none h) any
added_may (e ∷ es) h image any = inr (added_may es (changed h (Added e)) image (subst (λ (k : Held). ReadsAny k image) (all_more h e es) any))

pub added_after : (es : List Event) (h now : Held) (n : ℕ) → n ≤ length (with_all h es).pending → now ≡ settled_more n (with_all h es) → HoldsAfter h (added es) now
added_after [] h now n le is =
    (n, subst (λ (k : Held). n ≤ length k.pending) (all_none h) le, is ∙ ap (λ (k : Held). settled_more n k) (all_none h))
added_after (e ∷ es) h now n le is =
    added_after es (changed h (Added e)) now n (subst (λ (k : Held). n ≤ length k.pending) (all_more h e es) le)
    (is ∙ ap (λ (k : Held). settled_more n k) (all_more h e es))
