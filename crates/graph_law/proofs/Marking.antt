-- In phase Mark all was cleaned behind all drops.
use Rattle.std.proofs.Common.{◌≡◌, inl, inr, ℕ, ◌+◌, ◌<◌, ◌≤◌, List, take, length, slice_get, Some, sym, ap, subst, ◌∙◌, length-take, arith}
use Rattle.std.proofs.lemmas.Option.{same_Some, slice_get_within}
use Rattle.std.proofs.lemmas.List.{take-take, length-take-le}
use Rattle.vec_history.specs.declared.event.Event.{Event}
use Rattle.vec_history.specs.declared.event.Event.TheVariants as event
use Rattle.vec_history.specs.declared.event.Act.{Act}
use Rattle.vec_history.specs.declared.gate.Gate.TheVariants.{Scan}
use Rattle.vec_history.specs.declared.gate.Hold.TheVariants.{Alone}
use Rattle.vec_history.specs.declared.stage.Stage.{Stage}
use Rattle.vec_history.specs.declared.stage.Stage.TheVariants.{Remove, Repair, Mark}
use Rattle.vec_history.specs.Acts.{IsActAt, NoneAfter}
use Rattle.vec_history.specs.Phases.{PhaseSince, IsInPhase, IsDrop}
use Rattle.list_values.proofs.Parts.{in_part, in_whole, in_order}
use Rattle.vec_history.proofs.OneAtATime.{one_phase}
use Rattle.vec_graph.specs.declared.graph.Graph.{Graph}
use Rattle.vec_graph.specs.Graph.{IsLiveAt}
use Rattle.vec_graph.specs.Effect.{after, state_after}
use Rattle.vec_graph.specs.Rules.{IsEventAllowed}
use Rattle.vec_graph.specs.Cleaning.{SomeState, WereCleaned, IsRepaired}
use Rattle.vec_graph.specs.Legal.{IsAllowed, IsLegal}
use Rattle.graph_law.specs.Standing.{IsCleanFrom}
use Rattle.vec_history.proofs.ByActs.{allowed_at, cut}

pub states_in : (base : Graph) (acts : List Act) (m : ℕ) (n : ℕ) → n ≤ m → state_after base (take m acts) n ≡ state_after base acts n
states_in base acts m n h = ap (after base) (take-take n m acts h)

-- what is so of the states up to a position
pub some_from : (base : Graph) (acts others : List Act) (n low high : ℕ) (P : Graph → Type 0) → high ≤ n → ((i : ℕ) → i ≤ n → state_after base acts i ≡ state_after base others i)
    → SomeState base acts low high P → SomeState base others low high P
some_from base acts others n low high P within same s = record {
  position = s.position;
  from_low = s.from_low;
  to_high = s.to_high;
  is = subst P (same s.position (omega (arith, s.to_high, within))) s.is;
}

pub cleaned_from : (base : Graph) (acts others : List Act) (n low high : ℕ) → low ≤ n → high ≤ n → ((i : ℕ) → i ≤ n → state_after base acts i ≡ state_after base others i)
    → WereCleaned base acts low high → WereCleaned base others low high
cleaned_from base acts others n low high first within same w = record {
  layers = λ at layer live. some_from base acts others n low high _ within same (w.layers at layer (subst (λ (h : Graph). IsLiveAt h at layer) (sym (same low first)) live));
  entry = some_from base acts others n low high _ within same w.entry;
}

drop_phase : (base : Graph) (acts : List Act) (desk : ℕ) (e : Event) → IsEventAllowed base acts desk e → IsDrop e → IsInPhase acts desk Remove
drop_phase base acts desk (event.Drop at version gone) may is = may.phase
drop_phase base acts desk e may is = absurd is

-- no Drop while another phase stands
no_drop_in : (base : Graph) (acts : List Act) (desk : ℕ) (stage : Stage) (k j : ℕ) (a : Act) → IsLegal base acts → (stage ≡ Remove → ⊥)
    → PhaseSince (take j acts) desk stage k → slice_get acts j ≡ Some a → IsDrop a.event → ⊥
no_drop_in base acts desk stage k j a legal not phase is drop =
    let other = drop_phase base (take j acts) a.desk a.event (allowed_at (IsAllowed base) acts j a legal is) drop in
    not (one_phase (take j acts) desk a.desk stage Remove k other.0 phase other.1).2

phase_at : (acts : List Act) (desk : ℕ) (stage : Stage) (k j : ℕ) → k < j → PhaseSince acts desk stage k → PhaseSince (take j acts) desk stage k
phase_at acts desk stage k j low p = record {
  begun = in_part j acts k _ low p.begun;
  stands = λ i a later is of. p.stands i a later (in_whole j acts i a is) of;
}

not_drop : (acts : List Act) (desk : ℕ) (stage : Stage) (k : ℕ) (a : Act) → IsActAt acts k desk (event.Phase stage) → slice_get acts k ≡ Some a → IsDrop a.event → ⊥
not_drop acts desk stage k a begun is drop = subst (λ (b : Act). IsDrop b.event) (same_Some _ _ (sym is ∙ begun)) drop

-- ---- where repairing is done

module _ (base : Graph) (acts : List Act) (legal : IsLegal base acts) (desk : ℕ) (repaired : IsRepaired base acts desk) where
  barrier_low : repaired.removed.barrier < repaired.begun
  barrier_low =
      let within : repaired.removed.barrier < length (take repaired.begun acts) = slice_get_within _ repaired.removed.barrier _ repaired.removed.update.is.taken in
      omega (arith, within, length-take repaired.begun acts)

  none_later : NoneAfter acts repaired.removed.barrier (λ a. IsDrop a.event)
  none_later j a later is drop =
      elim (in_order j repaired.begun) as (λ _. ⊥) [
        | inl before ↦ repaired.removed.drops_before j a later (in_part repaired.begun acts j a before is) drop
        | inr (inl same) ↦ not_drop acts desk Repair repaired.begun a repaired.phase.begun (subst (λ (i : ℕ). slice_get acts i ≡ Some a) same is) drop
        | inr (inr behind) ↦ no_drop_in base acts desk Repair repaired.begun j a legal (λ e. absurd cc) (phase_at acts desk Repair repaired.begun j behind repaired.phase) is drop
      ]

  pub clean_if_repaired : IsCleanFrom base acts repaired.barrier
  clean_if_repaired =
      let low = barrier_low in
      let after_begun = repaired.scan.after in
      let within : repaired.barrier < length acts = slice_get_within acts repaired.barrier _ repaired.scan.is.taken in
      record {
        barrier = repaired.removed.barrier;
        behind = record { desk = desk; taken = in_whole repaired.begun acts repaired.removed.barrier _ repaired.removed.update.is.taken; no_drop = none_later };
        later = omega (arith, low, after_begun);
        met = omega (arith, within);
        cleaned = subst (λ (f : ℕ). WereCleaned base acts f repaired.barrier) repaired.removed.here repaired.cleaned;
      }

-- ---- in a longer history without further Drops

pub clean_longer : (base : Graph) (acts : List Act) (m p : ℕ) → m ≤ length acts → ((j : ℕ) (a : Act) → m ≤ j → slice_get acts j ≡ Some a → IsDrop a.event → ⊥)
    → IsCleanFrom base (take m acts) p → IsCleanFrom base acts p
clean_longer base acts m p within none c =
    let long : length (take m acts) ≡ m = length-take-le m acts within in
    let met = c.met in
    let later = c.later in
    record {
      barrier = c.barrier;
      behind = record {
        desk = c.behind.desk;
        taken = in_whole m acts c.barrier _ c.behind.taken;
        no_drop = λ j a after_b is drop. elim (in_order j m) as (λ _. ⊥) [
          | inl before ↦ c.behind.no_drop j a after_b (in_part m acts j a before is) drop
          | inr (inl same) ↦ none j a (omega (arith, same)) is drop
          | inr (inr behind) ↦ none j a (omega (arith, behind)) is drop
        ];
      };
      later = later;
      met = omega (arith, met, long, within);
      cleaned = cleaned_from base (take m acts) acts m (c.barrier + 1) p (omega (arith, later, met, long)) (omega (arith, met, long)) (λ i h. states_in base acts m i h) c.cleaned;
    }

-- ---- in phase Mark

module _ (base : Graph) (acts : List Act) (legal : IsLegal base acts) (desk : ℕ) (m : ℕ) (phase : PhaseSince acts desk Mark m) where
  repaired_then : IsRepaired base (take m acts) desk
  repaired_then = allowed_at (IsAllowed base) acts m _ legal phase.begun

  pub barrier : ℕ
  barrier = repaired_then.barrier

  pub barrier_before : barrier < m
  unfolding barrier
  barrier_before =
      let within : repaired_then.barrier < length (take m acts) = slice_get_within _ repaired_then.barrier _ repaired_then.scan.is.taken in
      omega (arith, within, length-take m acts)

  pub taken_alone : IsActAt acts barrier desk (event.Gate Scan Alone)
  unfolding barrier
  taken_alone = in_whole m acts repaired_then.barrier _ repaired_then.scan.is.taken

  pub clean_in_mark : IsCleanFrom base acts barrier
  unfolding barrier
  clean_in_mark =
      let within : m < length acts = slice_get_within acts m _ phase.begun in
      clean_longer base acts m repaired_then.barrier (omega (arith, within))
      (λ j a low is drop. elim (in_order j m) as (λ _. ⊥) [
        | inl before ↦ absurd (omega (arith, before, low))
        | inr (inl same) ↦ not_drop acts desk Mark m a phase.begun (subst (λ (i : ℕ). slice_get acts i ≡ Some a) same is) drop
        | inr (inr behind) ↦ no_drop_in base acts desk Mark m j a legal (λ e. absurd cc) (phase_at acts desk Mark m j behind phase) is drop
      ])
      (clean_if_repaired base (take m acts) (cut (IsAllowed base) acts m legal) desk repaired_then)
