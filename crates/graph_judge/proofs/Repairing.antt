-- That repairing is done, by the one phase, the one position and the one barrier.
use Rattle.std.proofs.Common.{◌≡◌, ◌↔◌, ℕ, List, take, subst}
use Rattle.vec_history.specs.declared.event.Act.{Act}
use Rattle.vec_history.specs.declared.gate.Gate.TheVariants.{Scan}
use Rattle.vec_history.specs.declared.stage.Stage.TheVariants.{Repair}
use Rattle.vec_history.specs.Phases.{PhaseSince, IsLastBarrier, IsRemoved}
use Rattle.vec_history.proofs.OneAtATime.{one_phase}
use Rattle.vec_history.proofs.Removing.{one_last_barrier, one_removed}
use Rattle.vec_graph.specs.declared.graph.Graph.{Graph}
use Rattle.vec_graph.specs.Cleaning.{WereCleaned, IsRepaired}

same_begun : (base : Graph) (acts : List Act) (desk begun : ℕ) → PhaseSince acts desk Repair begun → (r : IsRepaired base acts desk) → r.begun ≡ begun
same_begun base acts desk begun phase r = (one_phase acts desk desk Repair Repair r.begun begun r.phase phase).0

pub removed_if_repaired : (base : Graph) (acts : List Act) (desk begun : ℕ) → PhaseSince acts desk Repair begun → (r : IsRepaired base acts desk)
    → IsRemoved (take begun acts) desk r.first
removed_if_repaired base acts desk begun phase r =
    subst (λ n. IsRemoved (take n acts) desk r.first) (same_begun base acts desk begun phase r) r.removed

pub repaired_by_parts : (base : Graph) (acts : List Act) (desk begun first barrier : ℕ) → PhaseSince acts desk Repair begun
    → IsRemoved (take begun acts) desk first → IsLastBarrier acts desk Scan begun barrier
    → WereCleaned base acts first barrier ↔ IsRepaired base acts desk
repaired_by_parts base acts desk begun first barrier phase removed scan = (
  λ cleaned. record { begun = begun; phase = phase; first = first; removed = removed; barrier = barrier; scan = scan; cleaned = cleaned },
  λ r.
      let same_first = one_removed (take begun acts) desk r.first first (removed_if_repaired base acts desk begun phase r) removed in
      let same_barrier = one_last_barrier acts desk Scan r.begun begun r.barrier barrier r.scan scan in
      subst (λ n. WereCleaned base acts n barrier) same_first (subst (λ n. WereCleaned base acts r.first n) same_barrier r.cleaned),
)
