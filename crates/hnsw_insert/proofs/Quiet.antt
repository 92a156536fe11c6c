-- Under its gate an insert makes no event of the gate, so it holds it all along.
use Rattle.std.proofs.Common.{◌≡◌, ◌∙◌, sym, ℕ, List, [], ◌∷◌, ◌++◌}
use Rattle.std.specs.List.{AllByRecursion}
use Rattle.vec_names.specs.declared.params.Params.{Params}
use Rattle.vec_history.specs.declared.event.Event.{Event}
use Rattle.vec_history.specs.declared.event.Act.{Act}
use Rattle.vec_history.specs.declared.gate.Gate.{Gate}
use Rattle.vec_history.specs.declared.gate.Gate.TheVariants.{Update}
use Rattle.vec_history.specs.Gates.{Holds, IsOfGate}
use Rattle.vec_graph.specs.declared.place.Place.{Place}
use Rattle.graph_search.specs.Deeds.{Change, Reply, Joins, PutsOn, PutsNew, Links, Enters, Hints, Takes, Releases, Done, Placed, NoRoom, Full, NotJoined, Stale, Changed, looked, asked, done_events, placed_events, reply_events}
use Rattle.vec_steps.specs.Index.{Index}
use Rattle.vec_steps.specs.Doing.{Step, did, overfull, cleaned, viewed, placed, settled, faulted, step_events}
use Rattle.vec_steps.specs.Desks.{Desk}
use Rattle.vec_steps.specs.Calls.{Does, NoneOf, events_of, steps_of}
use Rattle.vec_steps.proofs.Lasting.{holds_last}
use Rattle.hnsw_insert.specs.Courses.{IsOfInsert, IsUnderGate}
use Rattle.hnsw_insert.specs.Whole.{KeepsOtherGates}
use Rattle.step_gates.proofs.Holding.{held_before}

quiet_reply : (gate : Gate) (m : ℕ) (change : Change) (r : Reply) → NoneOf (IsOfGate gate) (done_events m change)
    → ((place : Place) → NoneOf (IsOfGate gate) (placed_events change place)) → NoneOf (IsOfGate gate) (reply_events m change r)
quiet_reply gate m change Done done put = done
quiet_reply gate m change (Placed place) done put = put place
quiet_reply gate m change NoRoom done put = tt
quiet_reply gate m change Full done put = tt
quiet_reply gate m change NotJoined done put = tt
quiet_reply gate m change Stale done put = tt
quiet_reply gate m change Changed done put = tt

quiet_step : (p : Params) (s : Step) → IsUnderGate s → NoneOf (IsOfGate Update) (step_events p s)
quiet_step p (did (looked look told)) u = tt
quiet_step p (did (asked (Joins at version id) r)) u = quiet_reply Update p.m (Joins at version id) r (λ h. h, tt) (λ place. tt)
quiet_step p (did (asked (PutsOn block node) r)) u = quiet_reply Update p.m (PutsOn block node) r tt (λ place. (λ h. h, tt))
quiet_step p (did (asked (PutsNew node) r)) u = quiet_reply Update p.m (PutsNew node) r tt (λ place. (λ h. h, tt))
quiet_step p (did (asked (Links at list_at level version layer slot held to) r)) u =
    quiet_reply Update p.m (Links at list_at level version layer slot held to) r (λ h. h, tt) (λ place. tt)
quiet_step p (did (asked (Enters to level) r)) u = quiet_reply Update p.m (Enters to level) r (λ h. h, tt) (λ place. tt)
quiet_step p (did (asked (Hints block) r)) u = quiet_reply Update p.m (Hints block) r (λ h. h, tt) (λ place. tt)
quiet_step p (did (asked (Takes gate hold) r)) u = absurd u
quiet_step p (did (asked (Releases gate) r)) u = absurd u
quiet_step p (overfull node blocks need) u = tt
quiet_step p (cleaned change reply) u = absurd u
quiet_step p (viewed look told) u = tt
quiet_step p (placed change reply) u = absurd u
quiet_step p (settled upto) u = absurd u
quiet_step p (faulted count) u = (λ h. h, tt)

none_both : (P : Event → Type 0) (es fs : List Event) → NoneOf P es → NoneOf P fs → NoneOf P (es ++ fs)
none_both P [] fs a b = b
none_both P (e ∷ es) fs a b = (a.0, none_both P es fs a.1 b)

pub quiet : (p : Params) (course : List (ℕ × Step)) → AllByRecursion (λ s. IsUnderGate s.1) course
    → NoneOf (IsOfGate Update) (events_of p (steps_of course))
quiet p [] all = tt
quiet p (s ∷ course) all =
    none_both (IsOfGate Update) (step_events p s.1) (events_of p (steps_of course)) (quiet_step p s.1 all.0) (quiet p course all.1)

module _ {over : Index → Type 0} {d : Desk} {old new : List Act} {course : List (ℕ × Step)} (x : Does over d old new course)
    (only : AllByRecursion (λ s. IsUnderGate s.1) course) where
  pub held_on : Holds old d.number Update → Holds new d.number Update
  held_on h = holds_last x.acts Update (quiet d.params course only) h

  pub held_back : Holds new d.number Update → Holds old d.number Update
  held_back h = held_before x.acts Update (quiet d.params course only) h

-- a step under the gate is one of an insert
of_insert : (s : Step) → IsUnderGate s → IsOfInsert s
of_insert (did (looked look told)) u = tt
of_insert (did (asked (Joins at version id) r)) u = tt
of_insert (did (asked (PutsOn block node) r)) u = tt
of_insert (did (asked (PutsNew node) r)) u = tt
of_insert (did (asked (Links at list_at level version layer slot held to) r)) u = tt
of_insert (did (asked (Enters to level) r)) u = tt
of_insert (did (asked (Hints block) r)) u = tt
of_insert (did (asked (Takes gate hold) r)) u = absurd u
of_insert (did (asked (Releases gate) r)) u = absurd u
of_insert (overfull node blocks need) u = tt
of_insert (cleaned change reply) u = absurd u
of_insert (viewed look told) u = tt
of_insert (placed change reply) u = absurd u
of_insert (settled upto) u = absurd u
of_insert (faulted count) u = tt

pub all_of_insert : (course : List (ℕ × Step)) → AllByRecursion (λ s. IsUnderGate s.1) course → AllByRecursion (λ s. IsOfInsert s.1) course
all_of_insert [] all = tt
all_of_insert (s ∷ course) all = (of_insert s.1 all.0, all_of_insert course all.1)

-- ---- other gates

module _ (gate : Gate) (other : gate ≡ Update → ⊥) where
  apart_step : (p : Params) (s : Step) → IsOfInsert s → NoneOf (IsOfGate gate) (step_events p s)
  apart_step p (did (looked look told)) u = tt
  apart_step p (did (asked (Joins at version id) r)) u = quiet_reply gate p.m (Joins at version id) r (λ h. h, tt) (λ place. tt)
  apart_step p (did (asked (PutsOn block node) r)) u = quiet_reply gate p.m (PutsOn block node) r tt (λ place. (λ h. h, tt))
  apart_step p (did (asked (PutsNew node) r)) u = quiet_reply gate p.m (PutsNew node) r tt (λ place. (λ h. h, tt))
  apart_step p (did (asked (Links at list_at level version layer slot held to) r)) u =
      quiet_reply gate p.m (Links at list_at level version layer slot held to) r (λ h. h, tt) (λ place. tt)
  apart_step p (did (asked (Enters to level) r)) u = quiet_reply gate p.m (Enters to level) r (λ h. h, tt) (λ place. tt)
  apart_step p (did (asked (Hints block) r)) u = quiet_reply gate p.m (Hints block) r (λ h. h, tt) (λ place. tt)
  apart_step p (did (asked (Takes g hold) r)) u = quiet_reply gate p.m (Takes g hold) r (λ h. other (sym h ∙ u), tt) (λ place. tt)
  apart_step p (did (asked (Releases g) r)) u = quiet_reply gate p.m (Releases g) r (λ h. other (sym h ∙ u), tt) (λ place. tt)
  apart_step p (overfull node blocks need) u = tt
  apart_step p (cleaned change reply) u = absurd u
  apart_step p (viewed look told) u = tt
  apart_step p (placed change reply) u = absurd u
  apart_step p (settled upto) u = absurd u
  apart_step p (faulted count) u = (λ h. h, tt)

  apart : (p : Params) (course : List (ℕ × Step)) → AllByRecursion (λ s. IsOfInsert s.1) course
      → NoneOf (IsOfGate gate) (events_of p (steps_of course))
  apart p [] all = tt
  apart p (s ∷ course) all =
      none_both (IsOfGate gate) (step_events p s.1) (events_of p (steps_of course)) (apart_step p s.1 all.0) (apart p course all.1)

-- of the gates but Update a desk holds after an insert what it held
pub others_stay : {over : Index → Type 0} {d : Desk} {old new : List Act} {course : List (ℕ × Step)} → Does over d old new course
    → AllByRecursion (λ s. IsOfInsert s.1) course → KeepsOtherGates d.number old new
others_stay {d = d} {course = course} x only gate other =
    let none = apart gate other d.params course only in
    (λ h. holds_last x.acts gate none h, λ h. held_before x.acts gate none h)
