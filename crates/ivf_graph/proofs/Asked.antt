-- What is asked and what is granted are together the rules.
use Rattle.std.proofs.Common.{◌≡◌, inl, inr, arith, ℕ, zero, suc, ◌-◌, [], ◌∷◌, List, length, slice_get, Option, Some, None, refl, sym, ap, subst, ◌∙◌}
use Rattle.std.specs.Option.{option_map}
use Rattle.std.proofs.lemmas.Option.{same_Some, none-some, slice_get_within, get_or_from_slice_get}
use Rattle.vec_history.specs.declared.event.Event.{Event}
use Rattle.vec_history.specs.declared.event.Event.TheVariants.{Put, Join, Link, Relist, Drop, Mark, Entry, Hint, IvfAdd, IvfGrow, IvfDrop, IvfHint, Gate, Ungate, Phase, VacuumEnd, Cancel, Settled, DiskFaulted}
use Rattle.vec_history.specs.declared.event.Act.{Act}
use Rattle.ivf_graph.specs.declared.graph.IvfGraph.{IvfGraph}
use Rattle.ivf_graph.specs.declared.list.IvfList.{IvfList}
use Rattle.ivf_graph.specs.Graph.{Part, IsOfChain, last_block, AreBlocksApart}
use Rattle.ivf_graph.specs.Looks.{next_on}
use Rattle.ivf_graph.proofs.ChainsRead.{Told, AreTold, all_told}
use Rattle.ivf_graph.proofs.Staying.{any_of, not_any}
use Rattle.ivf_graph.specs.Effect.{after}
use Rattle.ivf_graph.specs.Rules.{IsEventAllowed}
use Rattle.ivf_graph.specs.Asking.{IsAsked, IsGranted, IsOfAll}

-- the block that ends a chain is one of it
last_of_chain : (chain : List Part) (block : ℕ) → last_block chain ≡ Some block → IsOfChain chain block
last_of_chain chain block ends = by_part (slice_get chain (length chain - 1)) refl ends
  where
    by_part : (o : Option Part) → slice_get chain (length chain - 1) ≡ o → option_map (λ (p : Part). p.0) o ≡ Some block → IsOfChain chain block
    by_part None at is = absurd (none-some block is)
    by_part (Some p) at is = (
      length chain - 1,
      p,
      slice_get_within chain (length chain - 1) p at,
      get_or_from_slice_get chain (length chain - 1) p p at,
      same_Some p.0 block is,
    )

told_at : (g : IvfGraph) (lists : List IvfList) (n : ℕ) (l : IvfList) → AreTold g lists → slice_get lists n ≡ Some l → Told g l.chain
told_at g [] n l told is = absurd (none-some l is)
told_at g (m ∷ lists) zero l told is = subst (λ (x : IvfList). Told g x.chain) (same_Some m l is) told.0
told_at g (m ∷ lists) (suc n) l told is = told_at g lists n l told.1 is

longer_last : (p q : Part) (back : List Part) → last_block (p ∷ q ∷ back) ≡ last_block (q ∷ back)
longer_last p q back =
    let one : length (p ∷ q ∷ back) - 1 ≡ suc (length back) = omega arith in
    let other : length (q ∷ back) - 1 ≡ length back = omega arith in
    ap (λ n. option_map (λ (x : Part). x.0) (slice_get (p ∷ q ∷ back) n)) one ∙ sym (ap (λ n. option_map (λ (x : Part). x.0) (slice_get (q ∷ back) n)) other)

-- a block of a chain that a read tells to have none behind it ends the chain
ends_told : (g : IvfGraph) (chain : List Part) (last : ℕ) → Told g chain → IsOfChain chain last → next_on g last ≡ None → last_block chain ≡ Some last
ends_told g [] last told of none = absurd (not_any (λ (x : Part). x.0 ≡ last) of)
ends_told g (p ∷ []) last told of none =
    elim (any_of (λ (x : Part). x.0 ≡ last) p [] of) as (λ _. last_block (p ∷ []) ≡ Some last) [
      | inl here ↦ ap (λ n. Some n) here
      | inr behind ↦ absurd (not_any (λ (x : Part). x.0 ≡ last) behind)
    ]
ends_told g (p ∷ q ∷ back) last told of none =
    elim (any_of (λ (x : Part). x.0 ≡ last) p (q ∷ back) of) as (λ _. last_block (p ∷ q ∷ back) ≡ Some last) [
      | inl here ↦ absurd (none-some q.0 (sym none ∙ ap (next_on g) (sym here) ∙ told.1))
      | inr behind ↦ longer_last p q back ∙ ends_told g (q ∷ back) last told.2 behind none
    ]

module _ (base : IvfGraph) (acts : List Act) (desk : ℕ) where
  pub asked_of : (e : Event) → (IsOfAll e → ⊥) → IsEventAllowed (after base acts) acts desk e → IsAsked base acts desk e
  asked_of (IvfAdd block id bits) own k = record { rows = k.rows; stands = k.stands; as_long = k.as_long }
  asked_of (IvfGrow list last block id bits) own k = record {
    of_list = record { aims = k.grows; is_there = k.is_there; of_chain = last_of_chain k.grows.chain last k.ends };
    as_long = k.as_long;
  }
  asked_of (IvfDrop block gone) own k = k
  asked_of (IvfHint list block) own k = k
  asked_of (Gate gate hold) own k = k.not_held
  asked_of (Ungate gate) own k = k
  asked_of (Put at list_at version level id bits lists) own k = k
  asked_of (Join at version id) own k = k
  asked_of (Link at list_at version slot to) own k = k
  asked_of (Relist at list_at version lists) own k = k
  asked_of (Drop at version gone) own k = k
  asked_of (Mark at list_at version) own k = k
  asked_of (Entry to level) own k = k
  asked_of (Hint block) own k = k
  asked_of (Phase stage) own k = k
  asked_of VacuumEnd own k = k
  asked_of (Cancel stage) own k = k
  asked_of (Settled upto) own k = absurd (own tt)
  asked_of (DiskFaulted count) own k = absurd (own tt)

  pub allowed_by : AreBlocksApart (after base acts) → (e : Event) → IsAsked base acts desk e → IsGranted base acts desk e → IsEventAllowed (after base acts) acts desk e
  allowed_by apart (IvfAdd block id bits) k granted = record { rows = granted.rows; stands = granted.stands; room = granted.room; as_long = k.as_long }
  allowed_by apart (IvfGrow list last block id bits) k granted = record {
    grows = k.of_list.aims;
    is_there = k.of_list.is_there;
    ends = ends_told (after base acts) k.of_list.aims.chain last (told_at (after base acts) (after base acts).lists list k.of_list.aims
        (all_told (after base acts) apart) k.of_list.is_there) k.of_list.of_chain granted.no_next;
    is_next = granted.is_next;
    not_high = granted.not_high;
    as_long = k.as_long;
  }
  allowed_by apart (IvfDrop block gone) k granted = k
  allowed_by apart (IvfHint list block) k granted = k
  allowed_by apart (Gate gate hold) k granted = record { not_held = k; beside = granted }
  allowed_by apart (Ungate gate) k granted = k
  allowed_by apart (Put at list_at version level id bits lists) k granted = k
  allowed_by apart (Join at version id) k granted = k
  allowed_by apart (Link at list_at version slot to) k granted = k
  allowed_by apart (Relist at list_at version lists) k granted = k
  allowed_by apart (Drop at version gone) k granted = k
  allowed_by apart (Mark at list_at version) k granted = k
  allowed_by apart (Entry to level) k granted = k
  allowed_by apart (Hint block) k granted = k
  allowed_by apart (Phase stage) k granted = k
  allowed_by apart VacuumEnd k granted = k
  allowed_by apart (Cancel stage) k granted = k
  allowed_by apart (Settled upto) k granted = absurd k
  allowed_by apart (DiskFaulted count) k granted = absurd k
