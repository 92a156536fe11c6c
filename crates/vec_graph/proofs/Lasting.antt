-- What lasts of a node from a position on.
use Rattle.std.proofs.Common.{◌≡◌, ◌⊎◌, inl, inr, ℕ, ◌≤◌, false, List, [], ◌∷◌, ◌++◌, take, drop, length, Some, refl, sym, ap, subst, ◌∙◌, take-append-drop, arith}
use Rattle.std.proofs.lemmas.List.{length-take-le, take-append-le, take_all, take-take}
use Rattle.vec_names.specs.declared.tid.Tid.{Tid}
use Rattle.vec_names.specs.declared.heap_id.HeapId.{HeapId}
use Rattle.vec_history.specs.declared.event.Event.{Event}
use Rattle.vec_history.specs.declared.event.Act.{Act}
use Rattle.vec_history.specs.Acts.{NoneFrom}
use Rattle.vec_history.specs.Gates.{AreGatesAllowed}
use Rattle.vec_history.specs.Phases.{IsDrop}
use Rattle.vec_history.proofs.Prefixes.{rest_after}
use Rattle.vec_history.proofs.ByActs.{along, cut, allowed_at}
use Rattle.vec_history.proofs.OneMore.{in_longer, act_last, one_longer}
use Rattle.vec_graph.specs.declared.node.Node.{Node}
use Rattle.vec_graph.specs.declared.graph.Graph.{Graph}
use Rattle.vec_graph.specs.Graph.{node_at, IsLiveAt, IsDoomedAt}
use Rattle.vec_graph.specs.Places.{IsOnBlocks}
use Rattle.vec_graph.specs.Effect.{after, state_after}
use Rattle.vec_graph.specs.Legal.{IsAllowed, IsLegal}
use Rattle.vec_graph.specs.Lasting.{IsMarkAt, IsIdsEndAt, IsSameAt, HasIdsAt}
use Rattle.vec_graph.specs.Asking.{StandsSo}
use Rattle.vec_graph.proofs.Placing.{on_effect}
use Rattle.vec_graph.proofs.Levels.{after_append}
use Rattle.vec_graph.proofs.Steps.{IsStep, step}

pub gates_of : (base : Graph) (acts : List Act) → IsLegal base acts → AreGatesAllowed acts
gates_of base acts legal n desk gate hold is = allowed_at (IsAllowed base) acts n _ legal is

-- ---- states by their positions

pub same_state : (base : Graph) (acts : List Act) (a : Act) (p : ℕ) → p ≤ length acts → state_after base (acts ++ a ∷ []) p ≡ state_after base acts p
same_state base acts a p h = ap (after base) (take-append-le p acts (a ∷ []) h)

pub last_state : (base : Graph) (acts : List Act) (p : ℕ) → length acts ≤ p → state_after base acts p ≡ after base acts
last_state base acts p h = ap (after base) (take_all p acts h)

pub states_in : (base : Graph) (acts : List Act) (m : ℕ) (n : ℕ) → n ≤ m → state_after base (take m acts) n ≡ state_after base acts n
states_in base acts m n h = ap (after base) (take-take n m acts h)

pub step_after : (base : Graph) (acts : List Act) → IsOnBlocks (after base acts) → (a : Act) → IsAllowed base acts a
    → IsStep base acts a.desk a.event (after base acts) (after base (acts ++ a ∷ []))
step_after base acts on a may =
    subst (λ (h : Graph). IsStep base acts a.desk a.event (after base acts) h) (sym (after_append base acts (a ∷ []))) (step base acts on a.desk a.event may)

pub on_after : (base : Graph) (acts : List Act) (a : Act) → IsOnBlocks (after base acts) → IsOnBlocks (after base (acts ++ a ∷ []))
on_after base acts a on = subst IsOnBlocks (sym (after_append base acts (a ∷ []))) (on_effect a.event (after base acts) on)

-- ---- what each act leaves, unless it is one that ends it, lasts while no such act comes

module _ (base : Graph) (So : Graph → Type 0) (Ends : Event → Type 0)
    (one : (acts : List Act) → IsOnBlocks (after base acts) → (a : Act) → IsAllowed base acts a → So (after base acts) → So (after base (acts ++ a ∷ [])) ⊎ Ends a.event) where
  record Standing (p : ℕ) (h : List Act) : Type 0 where
    met : p ≤ length h
    on : IsOnBlocks (after base h)
    so : NoneFrom h p (λ a. Ends a.event) → So (after base h)

  one_more : (p : ℕ) (h : List Act) → IsLegal base h → (a : Act) → IsAllowed base h a → Standing p h → Standing p (h ++ a ∷ [])
  one_more p h legal a may s = record {
    met = omega (arith, s.met, one_longer h a);
    on = on_after base h a s.on;
    so = λ none.
        elim (one h s.on a may (s.so (λ j b low is. none j b low (in_longer h (a ∷ []) j b is)))) as (λ _. So (after base (h ++ a ∷ []))) [
          | inl now ↦ now
          | inr ends ↦ absurd (none (length h) a s.met (act_last h a) ends)
        ];
  }

  pub stays : (acts : List Act) → IsLegal base acts → (p : ℕ) → p ≤ length acts → IsOnBlocks (state_after base acts p) → NoneFrom acts p (λ a. Ends a.event)
      → So (state_after base acts p) → So (after base acts)
  stays acts legal p met on none so =
      let long : length (take p acts) ≡ p = length-take-le p acts met in
      let start : Standing p (take p acts) = record { met = omega arith; on = on; so = λ _. so } in
      let end = along (IsAllowed base) (Standing p) (one_more p) (take p acts) (drop p acts) (cut (IsAllowed base) acts p legal) (rest_after (IsAllowed base) [] acts p legal) start in
      let whole : Standing p acts = subst (Standing p) (take-append-drop p acts) end in
      whole.so none

-- ---- each of the facts

module _ (base : Graph) (acts : List Act) (legal : IsLegal base acts) (p : ℕ) (met : p ≤ length acts) (on : IsOnBlocks (state_after base acts p)) (q : Tid) where
  pub stays_doomed : NoneFrom acts p (λ a. IsMarkAt q a.event) → IsDoomedAt (state_after base acts p) q → IsDoomedAt (after base acts) q
  stays_doomed none d =
      stays base (λ g. IsDoomedAt g q) (IsMarkAt q) (λ h on_h a may s. (step_after base h on_h a may).doomed_on q s) acts legal p met on none d

  pub stays_live : (layer : ℕ) → NoneFrom acts p (λ a. IsDrop a.event) → IsLiveAt (state_after base acts p) q layer → IsLiveAt (after base acts) q layer
  stays_live layer none l =
      stays base (λ g. IsLiveAt g q layer) IsDrop (λ h on_h a may s. (step_after base h on_h a may).live_on q layer s) acts legal p met on none l

  pub stays_placed : (list_at : Tid) (level : ℕ) → StandsSo (state_after base acts p) q list_at level → StandsSo (after base acts) q list_at level
  stays_placed list_at level s =
      stays base (λ g. StandsSo g q list_at level) (λ _. ⊥) (λ h on_h a may was. inl ((step_after base h on_h a may).placed_on q list_at level was))
      acts legal p met on (λ j a low is none. none) s

  pub stays_with_ids : (ids : List HeapId) → NoneFrom acts p (λ a. IsIdsEndAt q a.event) → HasIdsAt (state_after base acts p) q ids → HasIdsAt (after base acts) q ids
  stays_with_ids ids none h =
      stays base (λ g. HasIdsAt g q ids) (IsIdsEndAt q) (λ b on_b a may was. (step_after base b on_b a may).ids_on q ids was) acts legal p met on none h

  same_on : (n : Node) (h : List Act) → IsOnBlocks (after base h) → (a : Act) → IsAllowed base h a → IsSameAt (after base h) q n
      → IsSameAt (after base (h ++ a ∷ [])) q n ⊎ IsMarkAt q a.event
  same_on n h on_h a may there =
      elim ((step_after base h on_h a may).same_on q there.node there.stands there.same.not_deleted) as (λ _. IsSameAt (after base (h ++ a ∷ [])) q n ⊎ IsMarkAt q a.event) [
        | inl now ↦ inl (record {
          node = now.node;
          stands = now.stands;
          same = record {
            level = now.same.level ∙ there.same.level;
            version = now.same.version ∙ there.same.version;
            list_at = now.same.list_at ∙ there.same.list_at;
            bits = now.same.bits ∙ there.same.bits;
            not_deleted = now.same.not_deleted;
          };
        })
        | inr mark ↦ inr mark
      ]

  pub stays_same : (n : Node) → NoneFrom acts p (λ a. IsMarkAt q a.event) → node_at (state_after base acts p) q ≡ Some n → n.deleted ≡ false → IsSameAt (after base acts) q n
  stays_same n none stands alive =
      stays base (λ g. IsSameAt g q n) (IsMarkAt q) (same_on n) acts legal p met on none
      (record { node = n; stands = stands; same = record { level = refl; version = refl; list_at = refl; bits = refl; not_deleted = alive } })
