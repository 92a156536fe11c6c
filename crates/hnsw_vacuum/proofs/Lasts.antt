-- What lasts in the first pass of a vacuum: its phase, nodes as they were seen, and blocks.
use Rattle.std.proofs.Common.{◌≡◌, ◌≢◌, ◌⊎◌, inl, inr, ℕ, ◌≤◌, List, [], ◌∷◌, length, take, sym, ap, subst, ◌∙◌, arith}
use Rattle.std.proofs.lemmas.List.{length-take-le, take-take}
use Rattle.std.proofs.lemmas.Option.{slice_get_within, same_Some}
use Rattle.list_values.proofs.Parts.{in_order, in_whole}
use Rattle.vec_names.specs.declared.tid.Tid.{Tid}
use Rattle.vec_names.specs.declared.heap_id.HeapId.{HeapId}
use Rattle.vec_history.specs.declared.event.Event.{Event}
use Rattle.vec_history.specs.declared.event.Event.TheVariants as event
use Rattle.vec_history.specs.declared.event.Act.{Act}
use Rattle.vec_history.specs.declared.stage.Stage.{Stage}
use Rattle.vec_history.specs.Acts.{NoneFrom}
use Rattle.vec_history.specs.Phases.{IsDrop, IsInPhase, IsOfVacuum}
use Rattle.vec_history.proofs.ByActs.{allowed_at, cut}
use Rattle.vec_graph.specs.declared.node.Node.{Node}
use Rattle.vec_graph.specs.declared.graph.Graph.{Graph}
use Rattle.vec_graph.specs.Shaped.{IsShaped}
use Rattle.vec_graph.specs.Places.{IsOnBlocks}
use Rattle.vec_graph.specs.Legal.{IsAllowed, IsLegal}
use Rattle.vec_graph.specs.Effect.{after, effect, state_after, joined, linked, relisted, dropped, marked}
use Rattle.vec_graph.specs.Lasting.{IsDropAt, IsIdsEndAt}
use Rattle.vec_graph.proofs.Levels.{after_append}
use Rattle.vec_graph.proofs.Remaining.{blocks_changed}
use Rattle.vec_graph.proofs.Shaping.{on_blocks_of, shaped_after}
use Rattle.vec_graph.proofs.Lasting.{stays_same, stays_with_ids}
use Rattle.vec_graph.proofs.Vacuuming.{no_drop, no_mark, phase_stays}
use Rattle.vec_steps.specs.Calls.{Acts, NoneOf}
use Rattle.vec_steps.proofs.Following.{acts_longer}
use Rattle.vec_steps.proofs.Lasting.{front_is, own_none}
use Rattle.hnsw_vacuum.specs.Dropping.{StandsSeen}

same_or_other : (a b : ℕ) → (a ≡ b) ⊎ (a ≢ b)
same_or_other a b =
    elim (in_order a b) as (λ _. (a ≡ b) ⊎ (a ≢ b)) [
      | inl less ↦ inr (λ e. absurd (omega arith))
      | inr (inl same) ↦ inl same
      | inr (inr more) ↦ inr (λ e. absurd (omega arith))
    ]

drop_at : (q : Tid) (e : Event) → IsDropAt q e → IsDrop e
drop_at q (event.Drop at version gone) h = tt
drop_at q (event.Put at list_at version level id bits lists) h = h
drop_at q (event.Join at version id) h = h
drop_at q (event.Link at list_at version slot to) h = h
drop_at q (event.Relist at list_at version lists) h = h
drop_at q (event.Mark at list_at version) h = h
drop_at q (event.Entry to level) h = h
drop_at q (event.Hint block) h = h
drop_at q (event.IvfAdd block id bits) h = h
drop_at q (event.IvfGrow list last block id bits) h = h
drop_at q (event.IvfDrop block gone) h = h
drop_at q (event.IvfHint list block) h = h
drop_at q (event.Gate gate hold) h = h
drop_at q (event.Ungate gate) h = h
drop_at q (event.Phase stage) h = h
drop_at q event.VacuumEnd h = h
drop_at q (event.Cancel stage) h = h
drop_at q (event.Settled upto) h = h
drop_at q (event.DiskFaulted count) h = h

module _ (g : Graph) {desk : ℕ} {old new : List Act} {es : List Event} (legal : IsLegal g new) (x : Acts desk old new es) (stage : Stage)
    (none : NoneOf IsOfVacuum es) (p : IsInPhase old desk stage) where
  pub phase_at : (j : ℕ) → length old ≤ j → j ≤ length new → IsInPhase (take j new) desk stage
  phase_at j low met =
      let long : length (take j new) ≡ j = length-take-le j new met in
      phase_stays g desk stage (take j new) (cut (IsAllowed g) new j legal) (length old) (omega (arith, long, low))
      (λ i a from is. own_none IsOfVacuum desk x none i a from (in_whole j new i a is))
      (subst (λ (h : List Act). IsInPhase h desk stage) (sym (take-take (length old) j new low ∙ front_is x)) p)

  -- a phase stands until its maker ends it
  pub phase_lasts : IsInPhase new desk stage
  phase_lasts =
      phase_stays g desk stage new legal (length old) (acts_longer x) (own_none IsOfVacuum desk x none)
      (subst (λ (h : List Act). IsInPhase h desk stage) (sym (front_is x)) p)

  module _ (q : Tid) (none_at : NoneOf (IsIdsEndAt q) es) where
    by_other : (j : ℕ) (a : Act) → length old ≤ j → j ≤ length new → IsAllowed g (take j new) a → a.desk ≢ desk → IsIdsEndAt q a.event → ⊥
    by_other j a low met may other (inl mark) = no_mark g (take j new) desk a.desk other a.event may stage (phase_at j low met) q mark
    by_other j a low met may other (inr drop) = no_drop g (take j new) desk a.desk other a.event may stage (phase_at j low met) (drop_at q a.event drop)

    no_end : NoneFrom new (length old) (λ a. IsIdsEndAt q a.event)
    no_end j a low is ends =
        let inside = slice_get_within new j a is in
        elim (same_or_other a.desk desk) as (λ _. ⊥) [
          | inl same ↦ own_none (IsIdsEndAt q) desk x none_at j a low is (same, ends)
          | inr other ↦ by_other j a low (omega (arith, inside)) (allowed_at (IsAllowed g) new j a legal is) other ends
        ]

    -- and a node stands as it was seen, until the vacuum drops of its rows
    pub seen_lasts : IsShaped g → (version : ℕ) (ids : List HeapId) → StandsSeen (after g old) q version ids → StandsSeen (after g new) q version ids
    seen_lasts shaped version ids was =
        let on : IsOnBlocks (state_after g new (length old)) =
        on_blocks_of (after g (take (length old) new)) (shaped_after g shaped (take (length old) new) (cut (IsAllowed g) new (length old) legal)) in
        let s = subst (λ (h : List Act). StandsSeen (after g h) q version ids) (sym (front_is x)) was in
        let same = stays_same g new legal (length old) (acts_longer x) on q s.node (λ j a low is mark. no_end j a low is (inl mark)) s.there.stands s.there.not_deleted in
        let now = stays_with_ids g new legal (length old) (acts_longer x) on q ids no_end
        (record { node = s.node; stands = s.there.stands; not_deleted = s.there.not_deleted; more = s.more; front = s.front }) in
        let one : now.node ≡ same.node = same_Some now.node same.node (sym now.stands ∙ same.stands) in
        record {
          node = now.node;
          there = record {
            stands = now.stands;
            of_version = ap (λ (n : Node). n.version) one ∙ same.same.version ∙ s.there.of_version;
            not_deleted = now.not_deleted;
          };
          more = now.more;
          front = now.front;
        }

-- ---- blocks never go away

more_blocks : (e : Event) (g : Graph) → g.blocks ≤ (effect 255 e g).blocks
more_blocks (event.Put at list_at version level id bits lists) g = omega arith
more_blocks (event.Join at version id) g = let s = blocks_changed g at (joined id) in omega (arith, s)
more_blocks (event.Link at list_at version slot to) g = let s = blocks_changed g at (linked slot to) in omega (arith, s)
more_blocks (event.Relist at list_at version lists) g = let s = blocks_changed g at (relisted lists) in omega (arith, s)
more_blocks (event.Drop at version gone) g = let s = blocks_changed g at (dropped gone) in omega (arith, s)
more_blocks (event.Mark at list_at version) g = let s = blocks_changed g at (marked 255) in omega (arith, s)
more_blocks (event.Entry to level) g = omega arith
more_blocks (event.Hint block) g = omega arith
more_blocks (event.IvfAdd block id bits) g = omega arith
more_blocks (event.IvfGrow list last block id bits) g = omega arith
more_blocks (event.IvfDrop block gone) g = omega arith
more_blocks (event.IvfHint list block) g = omega arith
more_blocks (event.Gate gate hold) g = omega arith
more_blocks (event.Ungate gate) g = omega arith
more_blocks (event.Phase stage) g = omega arith
more_blocks event.VacuumEnd g = omega arith
more_blocks (event.Cancel stage) g = omega arith
more_blocks (event.Settled upto) g = omega arith
more_blocks (event.DiskFaulted count) g = omega arith

blocks_along : (g : Graph) (acts : List Act) → g.blocks ≤ (after g acts).blocks
blocks_along g [] = omega arith
blocks_along g (a ∷ acts) =
    let one = more_blocks a.event g in
    let rest = blocks_along (effect 255 a.event g) acts in
    omega (arith, one, rest)

pub blocks_last : (g : Graph) {desk : ℕ} {old new : List Act} {es : List Event} → Acts desk old new es → (after g old).blocks ≤ (after g new).blocks
blocks_last g {old = old} {new = new} x =
    subst (λ (l : List Act). (after g old).blocks ≤ (after g l).blocks) (sym x.all)
    (subst (λ (h : Graph). (after g old).blocks ≤ h.blocks) (sym (after_append g old x.more)) (blocks_along (after g old) x.more))
