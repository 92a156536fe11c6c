-- A call under the gate Scan: the gate is taken, looks are made, and it is given back.
use Rattle.std.proofs.Common.{◌≡◌, ℕ, List, Result, Ok, Err, refl, sym, subst, ◌∙◌}
use Rattle.std.specs.Prelude.{IfOk, IfErr, OnOk}
use Rattle.vec_history.specs.declared.event.Event.{Event}
use Rattle.vec_history.specs.declared.event.Act.{Act}
use Rattle.vec_history.specs.declared.gate.Gate.{Gate}
use Rattle.vec_history.specs.declared.gate.Gate.TheVariants as gate
use Rattle.vec_history.specs.declared.gate.Gate.TheVariants.{Scan}
use Rattle.vec_history.specs.declared.gate.Hold.{Hold}
use Rattle.vec_history.specs.declared.gate.Hold.TheVariants.{Shared}
use Rattle.vec_history.specs.Gates.{Holds}
use Rattle.graph_search.specs.Reads.{Look, Answer}
use Rattle.vec_steps.specs.declared.fault.StepFault.{StepFault}
use Rattle.vec_steps.specs.declared.fault.StepFault.TheVariants as fault
use Rattle.vec_steps.specs.declared.fault.OpFault.{OpFault}
use Rattle.vec_steps.specs.declared.fault.OpFault.TheVariants as op
use Rattle.vec_steps.specs.Faults.{op_fault}
use Rattle.search_sets.specs.declared.spot.Spot.{Spot}
use Rattle.vec_steps.specs.Index.{Index, IsLegal, IsShaped}
use Rattle.vec_steps.specs.Desks.{Desk}
use Rattle.vec_steps.specs.Calls.{Acts, DoesSo, HoldsNone, IsLogFault, Looks}
use Rattle.vec_steps.proofs.Following.{does_over, does_so_over}
use Rattle.step_gates.specs.Gating.{GateFailed, GivesBack, TakesGate}
use Rattle.step_gates.proofs.Holding.{held_before, hold_lasts}
use Rattle.layer_search.specs.Looking.{EndedBy, MadeLooks}
use Rattle.layer_search.specs.Telling.{OverSpots}
use Rattle.layer_search.proofs.Looks.{ended_over}
use Rattle.layer_search.proofs.Told.{stand_later}
use Rattle.hnsw_scan.specs.Gated.{GatedEnd, IsFreed, MadeGated}
use Rattle.hnsw_scan.proofs.Quiet.{QuietActs, quiet_ended, quiet_fault}

module _ {more fewer : Index → Type 0} {d : Desk} {old new : List Act} (on : (base : Index) → fewer base → more base) where
  pub takes_over : {gate : Gate} {hold : Hold} → TakesGate more d old new gate hold → TakesGate fewer d old new gate hold
  takes_over t = record { at = t.at; does = does_over on t.does; holds = t.holds }

  pub gives_over : {gate : Gate} → GivesBack more d old new gate → GivesBack fewer d old new gate
  gives_over t = record { at = t.at; does = does_over on t.does; free = t.free }

  pub failed_over : {end : OpFault} → GateFailed more d old new end → GateFailed fewer d old new end
  failed_over f = record {
    at = f.at;
    step_fault = f.step_fault;
    fault_is = f.fault_is;
    does = does_over on f.does;
    not_of_log = λ base o. f.not_of_log base (on base o);
  }

-- ---- holds

-- what is held in the end was held in the beginning
pub quiet_before : {desk : ℕ} {old new : List Act} → QuietActs desk old new → (gate : Gate) → Holds new desk gate → Holds old desk gate
quiet_before q gate h = held_before q.acts gate (q.quiet gate) h

-- the gate is still held when it is to be given back
pub still_held : {over : Index → Type 0} {d : Desk} {old taken seen : List Act} {gate : Gate} {hold : Hold} → TakesGate over d old taken gate hold
    → QuietActs d.number taken seen → Holds seen d.number gate
still_held {gate = gate} {hold = hold} t q = (hold, (t.at, hold_lasts q.acts gate (q.quiet gate) hold t.at t.holds))

-- no other gate came by the taking
other_before : {over : Index → Type 0} {d : Desk} {old taken : List Act} → HoldsNone old d.number → (other : Gate) → (Scan ≡ other → ⊥)
    → TakesGate over d old taken Scan Shared → Holds taken d.number other → ⊥
other_before none other apart t h = none other (held_before t.does.acts other (apart, tt) h)

other_after : {over : Index → Type 0} {d : Desk} {old taken seen new : List Act} → HoldsNone old d.number → (other : Gate) → (Scan ≡ other → ⊥)
    → TakesGate over d old taken Scan Shared → QuietActs d.number taken seen → GivesBack over d seen new Scan → Holds new d.number other → ⊥
other_after none other apart t q b h =
    other_before none other apart t (quiet_before q other (held_before b.does.acts other (apart, tt) h))

pub none_held : {over : Index → Type 0} {d : Desk} {old taken seen new : List Act} → HoldsNone old d.number
    → TakesGate over d old taken Scan Shared → QuietActs d.number taken seen → GivesBack over d seen new Scan → HoldsNone new d.number
none_held none t q b gate.Update h = other_after none gate.Update (λ same. absurd cc) t q b h
none_held none t q b gate.Scan h = b.free h
none_held none t q b gate.Vacuum h = other_after none gate.Vacuum (λ same. absurd cc) t q b h

-- ---- faults

-- a fault that is neither want of memory nor of room in the log is one of the disks
disks_alone : (f : StepFault) → (op_fault f ≡ op.Memory → ⊥) → (IsLogFault f → ⊥) → ((count : ℕ) → op_fault f ≡ op.Disk count → ⊥) → ⊥
disks_alone fault.Memory memory log disk = memory refl
disks_alone (fault.LogFull used size) memory log disk = log tt
disks_alone (fault.Disk count) memory log disk = disk count refl

never_else : {over : Index → Type 0} {d : Desk} {old new : List Act} {end : OpFault} → GateFailed over d old new end → (end ≡ op.Memory → ⊥)
    → (base : Index) → over base → ((count : ℕ) → end ≡ op.Disk count → ⊥) → ⊥
never_else f memory base o disk =
    disks_alone f.step_fault (λ is. memory (f.fault_is ∙ is)) (f.not_of_log base o) (λ count is. disk count (f.fault_is ∙ is))

pub end_freed : {over : Index → Type 0} {d : Desk} {old new : List Act} (end : OpFault) → HoldsNone old d.number → GatedEnd over d old new end
    → IsFreed over d new end
end_freed {over} {d} end none (GatedEnd.not_taken f) base o disk other h =
    none other (quiet_before (quiet_fault d f.at f.step_fault f.does.acts) other h)
end_freed end none (GatedEnd.given_back taken seen t b g) base o disk other h = none_held none t (quiet_ended b) g other h
end_freed end none (GatedEnd.not_given_back taken seen t m f memory) base o disk other h = absurd (never_else f memory base o disk)
end_freed end none (GatedEnd.failed_twice taken seen first t b f memory) base o disk other h = absurd (never_else f memory base o disk)

-- ---- the whole call

-- what was given back by a desk that is still the same
pub gave : {over last : Index → Type 0} {d k : Desk} {seen new : List Act} → k ≡ d → ((base : Index) → over base → last base)
    → GivesBack last k seen new Scan → GivesBack over d seen new Scan
gave {over} {seen = seen} {new = new} same on g = subst (λ (x : Desk). GivesBack over x seen new Scan) same (gives_over on g)

gave_failed : {over last : Index → Type 0} {d k : Desk} {seen new : List Act} {end : OpFault} → k ≡ d → ((base : Index) → over base → last base)
    → GateFailed last k seen new end → GateFailed over d seen new end
gave_failed {over} {seen = seen} {new = new} {end = end} same on f = subst (λ (x : Desk). GateFailed over x seen new end) same (failed_over on f)

looked_over : {over later : Index → Type 0} {d e : Desk} {taken seen : List Act} {before now : List ℕ} {reads : List (Look × Answer)} → e ≡ d
    → ((base : Index) → over base → later base) → MadeLooks later e taken seen before now reads → MadeLooks over d taken seen before now reads
looked_over {over} {taken = taken} {seen = seen} {before = before} {now = now} {reads = reads} same on m =
    subst (λ (x : Desk). MadeLooks over x taken seen before now reads) same (does_so_over on m)

only_over : {over later : Index → Type 0} {d e : Desk} {taken seen : List Act} → e ≡ d → ((base : Index) → over base → later base)
    → DoesSo Looks later e taken seen → DoesSo Looks over d taken seen
only_over {over} {taken = taken} {seen = seen} same on m = subst (λ (x : Desk). DoesSo Looks over x taken seen) same (does_so_over on m)

ended_here : {over later : Index → Type 0} {d e : Desk} {taken seen : List Act} {end : OpFault} → e ≡ d → ((base : Index) → over base → later base)
    → EndedBy later e taken seen end → EndedBy over d taken seen end
ended_here {over} {taken = taken} {seen = seen} {end = end} same on b = subst (λ (x : Desk). EndedBy over x taken seen end) same (ended_over on b)

-- after the taking the desk is the same, and over these bases all is as it was; after the looks too
module _ {over stands later last : Index → Type 0} {d e k : Desk} {old taken seen new : List Act} (same : e ≡ d) (still : k ≡ e)
    (on : (base : Index) → over base → stands base) (then_on : (base : Index) → over base → later base)
    (last_on : (base : Index) → over base → last base) where
  pub made_gated : {before now : List ℕ} {reads : List (Look × Answer)} → TakesGate stands d old taken Scan Shared
      → MadeLooks later e taken seen before now reads → GivesBack last k seen new Scan → MadeGated over d old new before now reads
  made_gated t m g = record {
    taken = taken;
    seen = seen;
    takes = takes_over on t;
    looks = looked_over same then_on m;
    gives = gave (still ∙ same) last_on g;
  }

  pub ended_gated : {end : OpFault} → TakesGate stands d old taken Scan Shared → EndedBy later e taken seen end → GivesBack last k seen new Scan
      → GatedEnd over d old new end
  ended_gated t b g = GatedEnd.given_back taken seen (takes_over on t) (ended_here same then_on b) (gave (still ∙ same) last_on g)

  not_given : {end : OpFault} → TakesGate stands d old taken Scan Shared → DoesSo Looks later e taken seen → GateFailed last k seen new end
      → (end ≡ op.Memory → ⊥) → GatedEnd over d old new end
  not_given t m f memory =
      GatedEnd.not_given_back taken seen (takes_over on t) (only_over same then_on m) (gave_failed (still ∙ same) last_on f) memory

  not_given_twice : {first end : OpFault} → TakesGate stands d old taken Scan Shared → EndedBy later e taken seen first
      → GateFailed last k seen new end → (end ≡ op.Memory → ⊥) → GatedEnd over d old new end
  not_given_twice {first} t b f memory =
      GatedEnd.failed_twice taken seen first (takes_over on t) (ended_here same then_on b) (gave_failed (still ∙ same) last_on f) memory

  -- whichever way the looks ended
  pub not_given_either : {T : Type 0} {P : T → Type 0} {end : OpFault} (r : Result T OpFault) → ((t : T) → P t → DoesSo Looks later e taken seen)
      → IfOk r P → IfErr r (EndedBy later e taken seen) → TakesGate stands d old taken Scan Shared → GateFailed last k seen new end
      → (end ≡ op.Memory → ⊥) → GatedEnd over d old new end
  not_given_either (Ok t) looks p q takes f memory = not_given takes (looks t p) f memory
  not_given_either (Err x) looks p q takes f memory = not_given_twice takes q f memory

-- the gate was not taken
pub not_taken_by : {stands over : Index → Type 0} {d : Desk} {old new : List Act} (end fault : OpFault) → end ≡ fault
    → ((base : Index) → over base → stands base) → GateFailed stands d old new fault → GatedEnd over d old new end
not_taken_by {stands} {over} {d} {old} {new} end fault is on f =
    GatedEnd.not_taken (subst (GateFailed over d old new) (sym is) (failed_over on f))

-- ---- results

pub if_ok : {T E : Type 0} {P Q : T → Type 0} (r : Result T E) → ((t : T) → P t → Q t) → IfOk r P → IfOk r Q
if_ok (Ok t) on p = on t p
if_ok (Err e) on p = tt

pub if_err : {T E : Type 0} {P Q : E → Type 0} (r : Result T E) → ((e : E) → P e → Q e) → IfErr r P → IfErr r Q
if_err (Ok t) on p = tt
if_err (Err e) on p = on e p

pub on_ok : {T E : Type 0} {Q : Type 0} (r : Result T E) → Q → OnOk r Q
on_ok (Ok t) q = q
on_ok (Err e) q = tt

pub on_both : {T E : Type 0} {P Q : Type 0} (r : Result T E) → (P → Q) → OnOk r P → OnOk r Q
on_both (Ok t) on p = on p
on_both (Err e) on p = tt

-- ---- what stands after others acted

pub still_there : {stands later : Index → Type 0} {desk : ℕ} {old new : List Act} {es : List Event} (spots : List Spot)
    → ((base : Index) → later base → IsShaped base) → ((base : Index) → later base → IsLegal base new) → Acts desk old new es
    → ((base : Index) → stands base → later base) → (base : Index) → OverSpots stands old 0 spots base → OverSpots later new 0 spots base
still_there spots shaped legal acts on base o =
    let stood = on base o.stood in
    record { stood = stood; there = stand_later 0 spots base (shaped base stood) (legal base stood) acts o.there }
