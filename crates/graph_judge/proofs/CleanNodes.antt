-- What was cleaned, by the slots of nodes and by the graphs between two positions.
use Rattle.std.proofs.Common.{◌≡◌, ◌↔◌, ℕ, ◌+◌, ◌<◌, ◌≤◌, inl, inr, List, length, take, drop, slice_get, Option, Some, None, sym, ap, subst, ◌∙◌, arith}
use Rattle.std.proofs.lemmas.Option.{same_Some}
use Rattle.std.specs.FinMap as fin
use Rattle.vec_names.specs.declared.tid.Tid.{Tid}
use Rattle.vec_history.specs.declared.event.Act.{Act}
use Rattle.list_values.proofs.Parts.{in_order}
use Rattle.vec_graph.specs.declared.node.Node.{Node}
use Rattle.vec_graph.specs.declared.graph.Graph.{Graph}
use Rattle.vec_graph.specs.Graph.{node_at, IsMember, IsLiveAt}
use Rattle.graph_judge.specs.Course.{AreStates}
use Rattle.vec_graph.specs.Effect.{state_after}
use Rattle.vec_graph.specs.Cleaning.{IsCleanAt, IsEntryClean, WereCleaned}
use Rattle.graph_judge.specs.Knowable.{IsSomewhere, EachEntry, AreMembersClean, NamesDoomed, WasNodeClean}
use Rattle.graph_judge.proofs.Positions.{some_state_in}
use Rattle.graph_judge.proofs.MapEntries.{by_entries}

pub not_clean : (g : Graph) (level : ℕ) (slots : List (Option Tid)) (layer k : ℕ) (named : Option Tid) → slice_get slots k ≡ Some named
    → NamesDoomed g level layer k named → AreMembersClean g level slots layer → ⊥
not_clean g level slots layer k None at names clean = names
not_clean g level slots layer k (Some to) at names clean = clean to (record { slot = k; names = at; within = names.0 }) names.1

-- the slots below k, by their numbers, are so
abbrev pub SlotsBelow : (ℕ → Option Tid → Type 0) → List (Option Tid) → ℕ → Type 0
SlotsBelow Q slots i = (k : ℕ) (named : Option Tid) → k < i → slice_get slots k ≡ Some named → Q k named

pub more_slots : (Q : ℕ → Option Tid → Type 0) (slots : List (Option Tid)) (i : ℕ) (here : Option Tid) → slice_get slots i ≡ Some here
    → SlotsBelow Q slots i → Q i here → SlotsBelow Q slots (i + 1)
more_slots Q slots i here at below is k named low there =
    elim (in_order k i) as (λ _. Q k named) [
      | inl before ↦ below k named before there
      | inr (inl same) ↦
          subst (λ j. Q j named) (sym same) (subst (Q i) (same_Some _ _ (sym at ∙ ap (slice_get slots) (sym same) ∙ there)) is)
      | inr (inr behind) ↦ absurd (omega arith)
    ]

-- the slot is not one of the layer that names a doomed node
abbrev pub NotNamed : Graph → ℕ → ℕ → ℕ → Option Tid → Type 0
NotNamed g level layer slot named = NamesDoomed g level layer slot named → ⊥

pub all_clean : (g : Graph) (level : ℕ) (slots : List (Option Tid)) (layer : ℕ)
    → ((k : ℕ) (named : Option Tid) → slice_get slots k ≡ Some named → NotNamed g level layer k named) → AreMembersClean g level slots layer
all_clean g level slots layer each to member doomed = each member.slot (Some to) member.names (member.within, doomed)

pub clean_by_node : (g : Graph) (at : Tid) (layer : ℕ) (n : Node) → node_at g at ≡ Some n → AreMembersClean g n.level n.slots layer ↔ IsCleanAt g at layer
clean_by_node g at layer n stands = (
  λ clean to has doomed. clean to (subst (λ (m : Node). IsMember g.params.m m.level m.slots layer to) (same_Some _ _ (sym has.stands ∙ stands)) has.member) doomed,
  λ clean to member doomed. clean to (record { node = n; stands = stands; member = member }) doomed,
)

pub cleaned_by_parts : (base : Graph) (acts : List Act) (states : List Graph) (low high n : ℕ) (first : Graph) → AreStates base acts states
    → low ≤ high → high ≤ length acts → low + n ≡ high + 1 → slice_get states low ≡ Some first
    → (EachEntry (WasNodeClean (take n (drop low states))) (fin.entries first.nodes) × IsSomewhere IsEntryClean (take n (drop low states)))
    ↔ WereCleaned base acts low high
cleaned_by_parts base acts states low high n first course in_turn within as_many at =
    let part = take n (drop low states) in
    let is_first : first ≡ state_after base acts low = same_Some _ _ (sym at ∙ course.each low (omega arith)) in
    let somewhere : (P : Graph → Type 0) → _ = λ P. some_state_in base acts states low high n P course within as_many in
    let by = by_entries (WasNodeClean part) first in (
      λ parts. record {
        layers = λ place layer live.
            let live_first = subst (λ g. IsLiveAt g place layer) (sym is_first) live in
            (somewhere (λ g. IsCleanAt g place layer)).0 (by.0 parts.0 place live_first.node live_first.stands live_first.live layer live_first.reaches);
        entry = (somewhere IsEntryClean).0 parts.1;
      },
      λ cleaned. (
        by.1 (
            λ place node stands live layer reaches.
            (somewhere (λ g. IsCleanAt g place layer)).1 (
            cleaned.layers place layer (subst (λ g. IsLiveAt g place layer) is_first (record { node = node; stands = stands; live = live; reaches = reaches }))
            )
            ),
        (somewhere IsEntryClean).1 cleaned.entry,
      ),
    )
