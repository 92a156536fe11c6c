-- One act more of a history.
use Rattle.std.proofs.Common.{◌≡◌, ◌≢◌, ◌⊎◌, inl, inr, cond, zero-add, ℕ, zero, suc, ◌+◌, ◌<◌, ◌≤◌, List, [], ◌∷◌, ◌++◌, take, length, slice_get, Some, refl, sym, ap, subst, ◌∙◌, arith}
use Rattle.std.proofs.lemmas.Option.{same_Some, none-some, slice_get_within}
use Rattle.std.proofs.lemmas.List.{length-append}
use Rattle.std.proofs.lemmas.List.Sums.{sum_by-append}
use Rattle.list_values.proofs.Parts.{in_order, in_part, in_whole}
use Rattle.vec_history.specs.declared.event.Event.{Event}
use Rattle.vec_history.specs.declared.event.Event.TheVariants as event
use Rattle.vec_history.specs.declared.event.Act.{Act}
use Rattle.vec_history.specs.declared.gate.Gate.{Gate}
use Rattle.vec_history.specs.declared.gate.Gate.TheVariants.{Update}
use Rattle.vec_history.specs.declared.gate.Hold.{Hold}
use Rattle.vec_history.specs.declared.gate.Hold.TheVariants.{Alone}
use Rattle.vec_history.specs.declared.stage.Stage.{Stage}
use Rattle.vec_history.specs.declared.stage.Stage.TheVariants.{Remove}
use Rattle.vec_history.specs.Acts.{act_of, IsActAt, NoneAfter, NoneFrom}
use Rattle.vec_history.specs.Gates.{IsOfGate, HoldsSince, Holds}
use Rattle.vec_history.specs.Phases.{IsOfVacuum, PhaseSince, IsAPhaseStanding, IsBarrier, IsLastBarrier, IsDrop, IsRemoved}
use Rattle.vec_history.specs.Settling.{is_lasting, lasting_events}

-- ---- lists

pub in_longer : {X : Type 0} (xs ys : List X) (k : ℕ) (x : X) → slice_get xs k ≡ Some x → slice_get (xs ++ ys) k ≡ Some x
in_longer [] ys k x e = absurd (none-some x e)
in_longer (z ∷ xs) ys zero x e = e
in_longer (z ∷ xs) ys (suc k) x e = in_longer xs ys k x e

pub in_one_more : {X : Type 0} (xs : List X) (y : X) (k : ℕ) (x : X) → slice_get (xs ++ y ∷ []) k ≡ Some x → (slice_get xs k ≡ Some x) ⊎ ((k ≡ length xs) × (y ≡ x))
in_one_more [] y zero x e = inr (refl, same_Some y x e)
in_one_more [] y (suc k) x e = absurd (none-some x e)
in_one_more (z ∷ xs) y zero x e = inl e
in_one_more (z ∷ xs) y (suc k) x e =
    elim (in_one_more xs y k x e) [
      | inl there ↦ inl there
      | inr last ↦ inr (ap (λ (n : ℕ). suc n) last.0, last.1)
    ]

pub one_longer : {X : Type 0} (xs : List X) (x : X) → length (xs ++ x ∷ []) ≡ length xs + 1
one_longer xs x = length-append xs (x ∷ [])

pub act_last : {X : Type 0} (xs : List X) (x : X) → slice_get (xs ++ x ∷ []) (length xs) ≡ Some x
act_last [] x = refl
act_last (y ∷ xs) x = act_last xs x

-- a position of the longer list is one of the shorter, or the last
pub place_of : {X : Type 0} (xs : List X) (x : X) (p : ℕ) → p ≤ length (xs ++ x ∷ []) → (p ≤ length xs) ⊎ (length (xs ++ x ∷ []) ≤ p)
place_of xs x p h =
    let long = one_longer xs x in
    elim (in_order p (length xs)) as (λ _. (p ≤ length xs) ⊎ (length (xs ++ x ∷ []) ≤ p)) [
      | inl before ↦ inl (omega arith)
      | inr (inl same) ↦ inl (omega arith)
      | inr (inr behind) ↦ inr (omega arith)
    ]

-- an element of the longer list by its number
pub act_before : {X : Type 0} (xs : List X) (x y : X) (k : ℕ) → k < length xs → slice_get (xs ++ x ∷ []) k ≡ Some y → slice_get xs k ≡ Some y
act_before xs x y k low is =
    elim (in_one_more xs x k y is) as (λ _. slice_get xs k ≡ Some y) [
      | inl there ↦ there
      | inr last ↦ let same = last.0 in absurd (omega arith)
    ]

-- ---- kinds of events

IsTaking : Event → Type 0
IsTaking (event.Gate gate hold) = Unit {0}
IsTaking _ = ⊥

not_both : (d1 d2 : ℕ) (gate other : Gate) (hold : Hold) (a : Act) → a ≡ act_of d1 (event.Gate gate hold) → a ≡ act_of d2 (event.Ungate other) → ⊥
unfolding IsTaking
not_both d1 d2 gate other hold a taken given = subst (λ (b : Act). IsTaking b.event) given (subst (λ (b : Act). IsTaking b.event) (sym taken) tt)

IsBeginning : Event → Type 0
IsBeginning (event.Phase stage) = Unit {0}
IsBeginning _ = ⊥

not_beginning : (desk : ℕ) (stage : Stage) (a : Act) → a ≡ act_of desk (event.Phase stage) → IsBeginning a.event
unfolding IsBeginning
not_beginning desk stage a same = subst (λ (b : Act). IsBeginning b.event) (sym same) tt

-- ---- each word

module _ (acts : List Act) (a : Act) where
  pub none_more : (k : ℕ) (P : Act → Type 0) → (P a → ⊥) → NoneAfter acts k P → NoneAfter (acts ++ a ∷ []) k P
  none_more k P not_a none = λ j b after is p.
      elim (in_one_more acts a j b is) as (λ _. ⊥) [
        | inl there ↦ none j b after there p
        | inr last ↦ not_a (subst P (sym last.1) p)
      ]

  pub none_before : (k : ℕ) (P : Act → Type 0) → NoneAfter (acts ++ a ∷ []) k P → NoneAfter acts k P
  none_before k P none = λ j b after is p. none j b after (in_longer acts (a ∷ []) j b is) p

  -- the last act comes after each of the others
  pub not_last : (k : ℕ) (P : Act → Type 0) → k < length acts → NoneAfter (acts ++ a ∷ []) k P → P a → ⊥
  not_last k P low none p = none (length acts) a low (act_last acts a) p

  none_behind : (P : Act → Type 0) → NoneAfter (acts ++ a ∷ []) (length acts) P
  none_behind P = λ j b after is p. let low = slice_get_within (acts ++ a ∷ []) j b is in absurd (omega (arith, after, low, one_longer acts a))

  -- an act of the shorter history, if the last act is another
  pub at_back : (k desk : ℕ) (e : Event) → (a ≡ act_of desk e → ⊥) → IsActAt (acts ++ a ∷ []) k desk e → IsActAt acts k desk e
  at_back k desk e other is =
      elim (in_one_more acts a k (act_of desk e) is) as (λ _. IsActAt acts k desk e) [
        | inl there ↦ there
        | inr last ↦ absurd (other last.1)
      ]

  at_last : (desk : ℕ) (e : Event) → a ≡ act_of desk e → IsActAt (acts ++ a ∷ []) (length acts) desk e
  at_last desk e same = act_last acts a ∙ ap (λ (b : Act). Some b) same

  within : (k desk : ℕ) (e : Event) → IsActAt acts k desk e → k < length acts
  within k desk e is = slice_get_within acts k (act_of desk e) is

  -- ---- holds

  module _ (desk : ℕ) (gate : Gate) where
    pub hold_on : (hold : Hold) (k : ℕ) → (a.desk ≡ desk → IsOfGate gate a.event → ⊥) → HoldsSince acts desk gate hold k → HoldsSince (acts ++ a ∷ []) desk gate hold k
    hold_on hold k other s = record { taken = in_longer acts (a ∷ []) k _ s.taken; kept = none_more k _ (λ p. other p.0 p.1) s.kept }

    pub hold_back : (hold : Hold) (k : ℕ) → (a.desk ≡ desk → IsOfGate gate a.event → ⊥) → HoldsSince (acts ++ a ∷ []) desk gate hold k → HoldsSince acts desk gate hold k
    hold_back hold k other s = record {
      taken = at_back k desk (event.Gate gate hold) (λ same. other (ap (λ (b : Act). b.desk) same) (subst (λ (b : Act). IsOfGate gate b.event) (sym same) refl)) s.taken;
      kept = none_before k _ s.kept;
    }

    -- who took it before the last act held it before it
    pub hold_before : (hold : Hold) (k : ℕ) → k < length acts → HoldsSince (acts ++ a ∷ []) desk gate hold k → HoldsSince acts desk gate hold k
    hold_before hold k low s = record { taken = act_before acts a _ k low s.taken; kept = none_before k _ s.kept }

    pub hold_new : (hold : Hold) → a ≡ act_of desk (event.Gate gate hold) → HoldsSince (acts ++ a ∷ []) desk gate hold (length acts)
    hold_new hold same = record { taken = at_last desk (event.Gate gate hold) same; kept = none_behind _ }

    pub hold_ends : a ≡ act_of desk (event.Ungate gate) → Holds (acts ++ a ∷ []) desk gate → ⊥
    hold_ends same h =
        let taken = at_back h.1.0 desk (event.Gate gate h.0) (λ other. not_both desk desk gate gate h.0 a other same) h.1.1.taken in
        not_last h.1.0 _ (within h.1.0 desk (event.Gate gate h.0) taken) h.1.1.kept
        (ap (λ (b : Act). b.desk) same, subst (λ (b : Act). IsOfGate gate b.event) (sym same) refl)

  -- ---- phases

  module _ (desk : ℕ) (stage : Stage) where
    pub phase_on : (k : ℕ) → (IsOfVacuum a.event → ⊥) → PhaseSince acts desk stage k → PhaseSince (acts ++ a ∷ []) desk stage k
    phase_on k other s = record { begun = in_longer acts (a ∷ []) k _ s.begun; stands = none_more k _ other s.stands }

    pub phase_back : (k : ℕ) → (a ≡ act_of desk (event.Phase stage) → ⊥) → PhaseSince (acts ++ a ∷ []) desk stage k → PhaseSince acts desk stage k
    phase_back k other s = record { begun = at_back k desk (event.Phase stage) other s.begun; stands = none_before k _ s.stands }

    pub phase_new : a ≡ act_of desk (event.Phase stage) → PhaseSince (acts ++ a ∷ []) desk stage (length acts)
    phase_new same = record { begun = at_last desk (event.Phase stage) same; stands = none_behind _ }

  pub not_begun : (IsOfVacuum a.event → ⊥) → (desk : ℕ) (stage : Stage) → a ≡ act_of desk (event.Phase stage) → ⊥
  not_begun other desk stage same = other (subst (λ (b : Act). IsOfVacuum b.event) (sym same) tt)

  -- an act that ends a vacuum begins no phase, and ends each that stood
  pub phase_ends : IsOfVacuum a.event → ((desk : ℕ) (stage : Stage) → a ≡ act_of desk (event.Phase stage) → ⊥) → IsAPhaseStanding (acts ++ a ∷ []) → ⊥
  phase_ends ends other s =
      let begun = at_back s.2.0 s.0 (event.Phase s.1) (other s.0 s.1) s.2.1.begun in
      not_last s.2.0 _ (within s.2.0 s.0 (event.Phase s.1) begun) s.2.1.stands ends

  pub vacuum_ends : (desk : ℕ) → a ≡ act_of desk event.VacuumEnd → IsAPhaseStanding (acts ++ a ∷ []) → ⊥
  unfolding IsBeginning
  vacuum_ends desk same = phase_ends (subst (λ (b : Act). IsOfVacuum b.event) (sym same) tt)
      (λ other stage begun. subst (λ (b : Act). IsBeginning b.event) same (not_beginning other stage a begun))

  pub vacuum_cancelled : (desk : ℕ) (stage : Stage) → a ≡ act_of desk (event.Cancel stage) → IsAPhaseStanding (acts ++ a ∷ []) → ⊥
  unfolding IsBeginning
  vacuum_cancelled desk stage same = phase_ends (subst (λ (b : Act). IsOfVacuum b.event) (sym same) tt)
      (λ other stage begun. subst (λ (b : Act). IsBeginning b.event) same (not_beginning other stage a begun))

  -- ---- barriers

  module _ (desk : ℕ) (gate : Gate) where
    pub barrier_on : (k : ℕ) → IsBarrier acts desk gate k → IsBarrier (acts ++ a ∷ []) desk gate k
    barrier_on k b = record { taken = in_longer acts (a ∷ []) k _ b.taken; released = b.released; later = b.later; given = in_longer acts (a ∷ []) b.released _ b.given }

    pub barrier_back : (k : ℕ) → a ≢ act_of desk (event.Ungate gate) → IsBarrier (acts ++ a ∷ []) desk gate k → IsBarrier acts desk gate k
    barrier_back k other b =
        let given = at_back b.released desk (event.Ungate gate) other b.given in
        let low = within b.released desk (event.Ungate gate) given in
        record { taken = act_before acts a _ k (omega (arith, low, b.later)) b.taken; released = b.released; later = b.later; given = given }

    pub barrier_new : (k : ℕ) → a ≡ act_of desk (event.Ungate gate) → IsActAt acts k desk (event.Gate gate Alone) → IsBarrier (acts ++ a ∷ []) desk gate k
    barrier_new k same taken = record {
      taken = in_longer acts (a ∷ []) k _ taken;
      released = length acts;
      later = within k desk (event.Gate gate Alone) taken;
      given = at_last desk (event.Ungate gate) same;
    }

    pub barrier_taken : (k : ℕ) → a ≡ act_of desk (event.Ungate gate) → IsBarrier (acts ++ a ∷ []) desk gate k → IsActAt acts k desk (event.Gate gate Alone)
    barrier_taken k same b = at_back k desk (event.Gate gate Alone) (λ taken. not_both desk desk gate gate Alone a taken same) b.taken

    pub last_on : (behind k : ℕ) → a ≢ act_of desk (event.Ungate gate) → IsLastBarrier acts desk gate behind k → IsLastBarrier (acts ++ a ∷ []) desk gate behind k
    last_on behind k other l = record { is = barrier_on k l.is; after = l.after; last = λ j after b. l.last j after (barrier_back j other b) }

    pub last_back : (behind k : ℕ) → a ≢ act_of desk (event.Ungate gate) → IsLastBarrier (acts ++ a ∷ []) desk gate behind k → IsLastBarrier acts desk gate behind k
    last_back behind k other l = record { is = barrier_back k other l.is; after = l.after; last = λ j after b. l.last j after (barrier_on j b) }

  -- ---- the end of removing

  module _ (desk : ℕ) where
    pub removed_on : (position : ℕ) → (IsOfVacuum a.event → ⊥) → (IsDrop a.event → ⊥) → a ≢ act_of desk (event.Ungate Update)
        → IsRemoved acts desk position → IsRemoved (acts ++ a ∷ []) desk position
    removed_on position not_vacuum not_drop other r = record {
      begun = r.begun;
      phase = phase_on desk Remove r.begun not_vacuum r.phase;
      barrier = r.barrier;
      update = last_on desk Update r.begun r.barrier other r.update;
      drops_before = none_more r.barrier _ not_drop r.drops_before;
      here = r.here;
    }

    pub removed_back : (position : ℕ) → (IsOfVacuum a.event → ⊥) → a ≢ act_of desk (event.Ungate Update)
        → IsRemoved (acts ++ a ∷ []) desk position → IsRemoved acts desk position
    removed_back position not_vacuum other r = record {
      begun = r.begun;
      phase = phase_back desk Remove r.begun (not_begun not_vacuum desk Remove) r.phase;
      barrier = r.barrier;
      update = last_back desk Update r.begun r.barrier other r.update;
      drops_before = none_before r.barrier _ r.drops_before;
      here = r.here;
    }

    pub removed_new : (begun k : ℕ) → PhaseSince acts desk Remove begun → HoldsSince acts desk Update Alone k → begun < k → NoneAfter acts k (λ b. IsDrop b.event)
        → a ≡ act_of desk (event.Ungate Update) → IsRemoved (acts ++ a ∷ []) desk (k + 1)
    removed_new begun k phase s after none same = record {
      begun = begun;
      phase = phase_on desk Remove begun (λ of_vacuum. subst (λ (b : Act). IsOfVacuum b.event) same of_vacuum) phase;
      barrier = k;
      update = record {
        is = barrier_new desk Update k same s.taken;
        after = after;
        last = λ j later b. s.kept j _ later (barrier_taken desk Update j same b) (refl, refl);
      };
      drops_before = none_more k _ (λ drop. subst (λ (b : Act). IsDrop b.event) same drop) none;
      here = refl;
    }

    -- the barrier stands before the last act
    low_barrier : (position : ℕ) (r : IsRemoved (acts ++ a ∷ []) desk position) → r.barrier < length acts
    low_barrier position r =
        let low = slice_get_within (acts ++ a ∷ []) r.update.is.released _ r.update.is.given in
        omega (arith, low, r.update.is.later, one_longer acts a)

    pub removed_ends : (position : ℕ) → IsDrop a.event → IsRemoved (acts ++ a ∷ []) desk position → ⊥
    removed_ends position drop r = not_last r.barrier _ (low_barrier position r) r.drops_before drop

    pub removed_not_new : (position : ℕ) → IsOfVacuum a.event → IsRemoved (acts ++ a ∷ []) desk position → ⊥
    removed_not_new position of_vacuum r = not_last r.begun _ (omega (arith, low_barrier position r, r.update.after)) r.phase.stands of_vacuum

-- ---- counts

pub lasting_more : (acts : List Act) (a : Act) → lasting_events (acts ++ a ∷ []) ≡ lasting_events acts + (cond (is_lasting a.event) 1 0)
lasting_more acts a =
    let f : Act → ℕ = λ b. cond (is_lasting b.event) 1 0 in
    sum_by-append f acts (a ∷ []) ∙ ap (λ (n : ℕ). lasting_events acts + n) (zero-add (f a))

-- ---- many acts more

module _ (acts : List Act) (n : ℕ) (desk : ℕ) where
  none_kept : (k : ℕ) (P : Act → Type 0) → NoneAfter (take n acts) k P → NoneFrom acts n P → NoneAfter acts k P
  none_kept k P before behind = λ j a after is p.
      elim (in_order j n) as (λ _. ⊥) [
        | inl low ↦ before j a after (in_part n acts j a low is) p
        | inr (inl same) ↦ behind j a (omega arith) is p
        | inr (inr high) ↦ behind j a (omega arith) is p
      ]

  -- a hold lasts up to the desk's own next act of the gate
  pub hold_kept : (gate : Gate) (hold : Hold) (k : ℕ) → NoneFrom acts n (λ a. (a.desk ≡ desk) × IsOfGate gate a.event)
      → HoldsSince (take n acts) desk gate hold k → HoldsSince acts desk gate hold k
  hold_kept gate hold k none s = record { taken = in_whole n acts k _ s.taken; kept = none_kept k _ s.kept none }

  -- a phase lasts up to the next act that begins one or ends a vacuum
  pub phase_kept : (stage : Stage) (k : ℕ) → NoneFrom acts n (λ a. IsOfVacuum a.event) → PhaseSince (take n acts) desk stage k → PhaseSince acts desk stage k
  phase_kept stage k none s = record { begun = in_whole n acts k _ s.begun; stands = none_kept k _ s.stands none }
