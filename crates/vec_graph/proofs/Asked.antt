-- What is asked and what is granted are together the rules.
use Rattle.std.proofs.Common.{◌≡◌, ℕ, ◌<◌, ◌≤◌, List, [], ◌∷◌, length, Option, Some, refl, sym, ap, subst, ◌∙◌}
use Rattle.std.proofs.lemmas.Option.{same_Some}
use Rattle.index_sizes.specs.Sizes.{slots_of_level}
use Rattle.vec_names.specs.declared.tid.Tid.{Tid}
use Rattle.vec_names.specs.Levels.{most_level}
use Rattle.vec_names.specs.declared.params.Params.{Params}
use Rattle.vec_history.specs.declared.event.Event.{Event}
use Rattle.vec_history.specs.declared.event.Event.TheVariants.{Put, Join, Link, Relist, Drop, Mark, Entry, Hint, IvfAdd, IvfGrow, IvfDrop, IvfHint, Gate, Ungate, Phase, VacuumEnd, Cancel, Settled, DiskFaulted}
use Rattle.vec_history.specs.declared.event.Act.{Act}
use Rattle.vec_graph.specs.declared.node.Node.{Node}
use Rattle.vec_graph.specs.declared.graph.Graph.{Graph}
use Rattle.vec_graph.specs.Graph.{node_at, HasAllSlots, IsMember, slot_layer}
use Rattle.vec_graph.specs.Effect.{effect, after, joined, linked, relisted, dropped, marked}
use Rattle.vec_graph.specs.Knowing.{Knows}
use Rattle.vec_graph.specs.Rules.{IsEventAllowed, IsLinkAllowed, IsRelistAllowed, KnowsMembers}
use Rattle.vec_graph.specs.Asking.{StandsSo, IsLinkAsked, IsRelistAsked, IsAsked, IsGranted, IsFresh, IsOfAll}
use Rattle.vec_graph.proofs.Remaining.{params_changed}

-- no event changes the parameters
one_params : (e : Event) (g : Graph) → (effect 255 e g).params ≡ g.params
one_params (Put at list_at version level id bits lists) g = refl
one_params (Join at version id) g = params_changed g at (joined id)
one_params (Link at list_at version slot to) g = params_changed g at (linked slot to)
one_params (Relist at list_at version lists) g = params_changed g at (relisted lists)
one_params (Drop at version gone) g = params_changed g at (dropped gone)
one_params (Mark at list_at version) g = params_changed g at (marked 255)
one_params (Entry to level) g = refl
one_params (Hint block) g = refl
one_params (IvfAdd block id bits) g = refl
one_params (IvfGrow list last block id bits) g = refl
one_params (IvfDrop block gone) g = refl
one_params (IvfHint list block) g = refl
one_params (Gate gate hold) g = refl
one_params (Ungate gate) g = refl
one_params (Phase stage) g = refl
one_params VacuumEnd g = refl
one_params (Cancel stage) g = refl
one_params (Settled upto) g = refl
one_params (DiskFaulted count) g = refl

pub same_params : (base : Graph) (acts : List Act) → (after base acts).params ≡ base.params
same_params base [] = refl
same_params base (a ∷ acts) = same_params (effect 255 a.event base) acts ∙ one_params a.event base

module _ (base : Graph) (acts : List Act) (desk : ℕ) where
  same_m : (after base acts).params.m ≡ base.params.m
  same_m = ap (λ (p : Params). p.m) (same_params base acts)

  each_from : (level : ℕ) (lists : List (Option Tid)) → KnowsMembers base acts desk (after base acts).params.m level lists → KnowsMembers base acts desk base.params.m level lists
  each_from level lists known = subst (λ (m : ℕ). (layer : ℕ) (to : Tid) → IsMember m level lists layer to → Knows base acts desk to layer) same_m known

  members_from : (level : ℕ) (lists : List (Option Tid)) → KnowsMembers base acts desk base.params.m level lists → KnowsMembers base acts desk (after base acts).params.m level lists
  members_from level lists known = subst (λ (m : ℕ). (layer : ℕ) (to : Tid) → IsMember m level lists layer to → Knows base acts desk to layer) (sym same_m) known

  long_slots : HasAllSlots (after base acts) → (at : Tid) (n : Node) → node_at (after base acts) at ≡ Some n → length n.slots ≡ slots_of_level base.params.m n.level
  long_slots shaped at n stands = shaped at n stands ∙ ap (λ (m : ℕ). slots_of_level m n.level) same_m

  -- ---- an event that is allowed meets what is asked

  pub asked_of : HasAllSlots (after base acts) → (e : Event) → (IsOfAll e → ⊥) → IsEventAllowed base acts desk e → IsAsked base acts desk e
  asked_of shaped (Put at list_at version level id bits lists) own k = record {
    update = k.update;
    as_long = k.as_long ∙ ap (λ (p : Params). p.bits) (same_params base acts);
    not_high = subst (λ (m : ℕ). level ≤ most_level m) same_m k.not_high;
    as_many = k.as_many ∙ ap (λ (m : ℕ). slots_of_level m level) same_m;
    known = each_from level lists k.known;
  }
  asked_of shaped (Join at version id) own k = k.update
  asked_of shaped (Link at list_at version slot to) own k = record {
    update = k.update;
    level = k.owner.level;
    owner = record { node = k.owner; stands = k.there.stands; listed = k.listed; of_level = refl };
    slot_is = subst (λ (n : ℕ). slot < n) (long_slots shaped at k.owner k.there.stands) k.slot_is;
    known = subst (λ (m : ℕ). Knows base acts desk to (slot_layer m k.owner.level slot)) same_m k.known;
  }
  asked_of shaped (Relist at list_at version lists) own k = record {
    update = k.update;
    level = k.owner.level;
    owner = record { node = k.owner; stands = k.there.stands; listed = k.listed; of_level = refl };
    as_many = k.as_many ∙ long_slots shaped at k.owner k.there.stands;
    known = each_from k.owner.level lists k.known;
  }
  asked_of shaped (Drop at version gone) own k = k
  asked_of shaped (Mark at list_at version) own k = k
  asked_of shaped (Entry to level) own k = k
  asked_of shaped (Hint block) own k = k
  asked_of shaped (Gate gate hold) own k = k.not_held
  asked_of shaped (Ungate gate) own k = k
  asked_of shaped (Phase stage) own k = k
  asked_of shaped VacuumEnd own k = k
  asked_of shaped (Cancel stage) own k = k
  asked_of shaped (IvfAdd block id bits) own k = k
  asked_of shaped (IvfGrow list last block id bits) own k = k
  asked_of shaped (IvfDrop block gone) own k = k
  asked_of shaped (IvfHint list block) own k = k
  asked_of shaped (Settled upto) own k = absurd (own tt)
  asked_of shaped (DiskFaulted count) own k = absurd (own tt)

  -- ---- and one that meets it, and is granted, is allowed

  -- the node that was read once is the one that stands there now
  same_owner : (at list_at : Tid) (version level : ℕ) (s : StandsSo (after base acts) at list_at level) (f : IsFresh (after base acts) at version) → s.node ≡ f.node
  same_owner at list_at version level s f = same_Some _ _ (sym s.stands ∙ f.there.stands)

  link_of : (at list_at : Tid) (version slot : ℕ) (to : Tid) → HasAllSlots (after base acts) → IsLinkAsked base acts desk at list_at slot to → IsFresh (after base acts) at version
      → IsLinkAllowed base acts desk at list_at version slot to
  link_of at list_at version slot to shaped k f =
      let same = same_owner at list_at version k.level k.owner f in
      let level_is : f.node.level ≡ k.level = ap (λ (n : Node). n.level) (sym same) ∙ k.owner.of_level in
      record {
        update = k.update;
        owner = f.node;
        there = f.there;
        listed = ap (λ (n : Node). n.list_at) (sym same) ∙ k.owner.listed;
        slot_is = subst (λ (n : ℕ). slot < n) (sym (long_slots shaped at f.node f.there.stands ∙ ap (λ (l : ℕ). slots_of_level base.params.m l) level_is)) k.slot_is;
        known = subst (λ (m : ℕ). Knows base acts desk to (slot_layer m f.node.level slot)) (sym same_m)
            (subst (λ (l : ℕ). Knows base acts desk to (slot_layer base.params.m l slot)) (sym level_is) k.known);
      }

  relist_of : (at list_at : Tid) (version : ℕ) (lists : List (Option Tid)) → HasAllSlots (after base acts) → IsRelistAsked base acts desk at list_at lists
      → IsFresh (after base acts) at version → IsRelistAllowed base acts desk at list_at version lists
  relist_of at list_at version lists shaped k f =
      let same = same_owner at list_at version k.level k.owner f in
      let level_is : f.node.level ≡ k.level = ap (λ (n : Node). n.level) (sym same) ∙ k.owner.of_level in
      record {
        update = k.update;
        owner = f.node;
        there = f.there;
        listed = ap (λ (n : Node). n.list_at) (sym same) ∙ k.owner.listed;
        as_many = k.as_many ∙ sym (long_slots shaped at f.node f.there.stands ∙ ap (λ (l : ℕ). slots_of_level base.params.m l) level_is);
        known = members_from f.node.level lists (subst (λ (l : ℕ). KnowsMembers base acts desk base.params.m l lists) (sym level_is) k.known);
      }

  pub allowed_by : HasAllSlots (after base acts) → (e : Event) → IsAsked base acts desk e → IsGranted base acts desk e → IsEventAllowed base acts desk e
  allowed_by shaped (Put at list_at version level id bits lists) k g = record {
    update = k.update;
    placed = g;
    as_long = k.as_long ∙ ap (λ (p : Params). p.bits) (sym (same_params base acts));
    not_high = subst (λ (m : ℕ). level ≤ most_level m) (sym same_m) k.not_high;
    as_many = k.as_many ∙ ap (λ (m : ℕ). slots_of_level m level) (sym same_m);
    known = members_from level lists k.known;
  }
  allowed_by shaped (Join at version id) k g = record { update = k; node = g.node; there = g.there; some = g.some; room = g.room }
  allowed_by shaped (Link at list_at version slot to) k g = link_of at list_at version slot to shaped k g
  allowed_by shaped (Relist at list_at version lists) k g = relist_of at list_at version lists shaped k g
  allowed_by shaped (Drop at version gone) k g = k
  allowed_by shaped (Mark at list_at version) k g = k
  allowed_by shaped (Entry to level) k g = k
  allowed_by shaped (Hint block) k g = k
  allowed_by shaped (Gate gate hold) k g = record { not_held = k; beside = g }
  allowed_by shaped (Ungate gate) k g = k
  allowed_by shaped (Phase stage) k g = k
  allowed_by shaped VacuumEnd k g = k
  allowed_by shaped (Cancel stage) k g = k
  allowed_by shaped (IvfAdd block id bits) k g = k
  allowed_by shaped (IvfGrow list last block id bits) k g = k
  allowed_by shaped (IvfDrop block gone) k g = k
  allowed_by shaped (IvfHint list block) k g = k
  allowed_by shaped (Settled upto) k g = absurd k
  allowed_by shaped (DiskFaulted count) k g = absurd k
