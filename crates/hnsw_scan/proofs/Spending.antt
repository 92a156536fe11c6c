-- How a fault ends a batch of a scan's state: lemmas.
use Rattle.std.proofs.Common.{◌≡◌, ◌↔◌, ℕ, Bool, true, false, List, [], ◌∷◌, Result, refl, sym, ap, subst, ◌∙◌}
use Rattle.std.specs.Prelude.{IfErr, IsTrue}
use Rattle.std.specs.Result.{IsErrAnd}
use Rattle.vec_history.specs.declared.event.Act.{Act}
use Rattle.vec_steps.specs.declared.fault.StepFault.{StepFault}
use Rattle.vec_steps.specs.declared.fault.StepFault.TheVariants as step
use Rattle.vec_steps.specs.declared.fault.OpFault.{OpFault}
use Rattle.vec_steps.specs.declared.fault.OpFault.TheVariants as op
use Rattle.vec_steps.specs.Faults.{op_fault}
use Rattle.vec_steps.specs.Index.{Index}
use Rattle.vec_steps.specs.Desks.{Desk}
use Rattle.vec_steps.specs.Calls.{HoldsNone}
use Rattle.vec_steps.proofs.Following.{does_nothing}
use Rattle.step_gates.specs.Gating.{GateFailed}
use Rattle.graph_search.specs.Scan.{is_nothing}
use Rattle.layer_search.proofs.Looks.{fails}
use Rattle.hnsw_scan.specs.declared.answer.Answer.{Answer}
use Rattle.hnsw_scan.specs.Answering.{given_in}
use Rattle.hnsw_scan.specs.Gated.{GatedEnd, IsFreed}
use Rattle.hnsw_scan.specs.Scanning.{BatchFails}

-- no memory was found before any step
memory_first : (over : Index → Type 0) (d : Desk) (acts : List Act) → GateFailed over d acts acts op.Memory
memory_first over d acts = record {
  at = 0;
  step_fault = step.Memory;
  fault_is = refl;
  does = does_nothing acts;
  not_of_log = λ base o no. no;
}

pub unmade_fails : (over : Index → Type 0) (d : Desk) (acts : List Act) (long : ℕ) (fault : OpFault) (f : StepFault) → fault ≡ op_fault f
    → f ≡ step.Memory → long ≡ d.params.bits → HoldsNone acts d.number → BatchFails over d acts acts long fault
unmade_fails over d acts long fault f is memory fits none =
    subst (BatchFails over d acts acts long) (sym (is ∙ ap op_fault memory))
    (fits, GatedEnd.not_taken (memory_first over d acts), λ base o disk. none)

-- a step's fault is none of the lengths
never_lengths : (f : StepFault) (got want : ℕ) → op.Dimensions got want ≡ op_fault f → ⊥
never_lengths step.Memory got want is = absurd cc
never_lengths (step.LogFull used size) got want is = absurd cc
never_lengths (step.Disk count) got want is = absurd cc

lengths_never : {over : Index → Type 0} {d : Desk} {old new : List Act} (got want : ℕ) → GatedEnd over d old new (op.Dimensions got want) → ⊥
lengths_never got want (GatedEnd.not_taken f) = never_lengths f.step_fault got want f.fault_is
lengths_never got want (GatedEnd.given_back taken seen t b g) = never_lengths b.step_fault got want b.fault_is
lengths_never got want (GatedEnd.not_given_back taken seen t m f memory) = never_lengths f.step_fault got want f.fault_is
lengths_never got want (GatedEnd.failed_twice taken seen first t b f memory) = never_lengths f.step_fault got want f.fault_is

pub batch_fails : {over : Index → Type 0} {d : Desk} {old new : List Act} (long : ℕ) (fault : OpFault) → long ≡ d.params.bits
    → GatedEnd over d old new fault → IsFreed over d new fault → BatchFails over d old new long fault
batch_fails long op.Memory fits e f = (fits, e, f)
batch_fails long (op.Full blocks need) fits e f = (fits, e, f)
batch_fails long (op.LogFull used size) fits e f = (fits, e, f)
batch_fails long (op.Disk count) fits e f = (fits, e, f)
batch_fails long (op.Dimensions got want) fits e f = absurd (lengths_never got want e)

-- what an error that is handed on ended by
pub handed : {T E : Type 0} (P : E → Type 0) {x : E} (r : Result T E) → P x → IsErrAnd r (λ e. e ≡ x) → IfErr r P
handed P r p h = fails r (λ e is. subst P (sym is) p) h

-- ---- the end

pub ends_so : (end : Bool) (answers : List Answer) → (IsTrue end ↔ (answers ≡ [])) → end ≡ is_nothing (given_in answers)
ends_so true [] is = refl
ends_so true (a ∷ answers) is = absurd (let e : (a ∷ answers) ≡ [] = is.0 refl in cc)
ends_so false [] is = absurd (let e : false ≡ true = is.1 refl in cc)
ends_so false (a ∷ answers) is = refl
