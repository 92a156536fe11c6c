-- What a desk has by its own acts, and what lasts of it.
use Rattle.std.proofs.Common.{◌≡◌, ◌≢◌, ℕ, ◌<◌, ◌≤◌, List, [], ◌∷◌, ◌++◌, take, length, Some, refl, sym, ap, subst, ◌∙◌, cond, arith}
use Rattle.std.specs.FinMap as fin
use Rattle.std.specs.Ordering.{is_eq}
use Rattle.std.specs.Cmp.{tied_itself}
use Rattle.std.proofs.lemmas.List.{length-take-le, take_all}
use Rattle.std.proofs.lemmas.Option.{slice_get_within}
use Rattle.vec_names.specs.declared.tid.Tid.{Tid}
use Rattle.vec_names.specs.Order.{tid_cmp_total}
use Rattle.vec_history.specs.declared.event.Act.{Act}
use Rattle.vec_history.specs.declared.gate.Gate.TheVariants.{Update}
use Rattle.vec_history.specs.declared.gate.Hold.TheVariants.{Alone}
use Rattle.vec_history.specs.Acts.{act_of, NoneFrom}
use Rattle.vec_history.specs.Gates.{IsOfGate, HoldsAs}
use Rattle.vec_history.proofs.OneMore.{hold_kept, hold_on, one_longer}
use Rattle.vec_graph.specs.declared.node.Node.{Node}
use Rattle.vec_graph.specs.declared.graph.Graph.{Graph}
use Rattle.vec_graph.specs.Graph.{IsLiveAt}
use Rattle.vec_graph.specs.Places.{IsOnBlocks}
use Rattle.vec_graph.specs.Effect.{NewNode, put_of, node_of, after, state_after}
use Rattle.vec_graph.specs.Knowing.{Knows}
use Rattle.vec_graph.specs.Rules.{IsPutAllowed}
use Rattle.vec_graph.specs.Legal.{IsAllowed, IsLegal}
use Rattle.vec_graph.proofs.Levels.{after_append}
use Rattle.vec_graph.proofs.Lasting.{states_in}
use Rattle.vec_graph.proofs.Later.{live_before}

-- what a desk knows it knows until its own next act of Update
pub knows_kept : (base : Graph) (acts : List Act) (n desk : ℕ) (at : Tid) (layer : ℕ) → n ≤ length acts
    → NoneFrom acts n (λ a. (a.desk ≡ desk) × IsOfGate Update a.event) → Knows base (take n acts) desk at layer → Knows base acts desk at layer
knows_kept base acts n desk at layer met none k =
    let long : length (take n acts) ≡ n = length-take-le n acts met in
    record {
      hold = k.hold;
      since = k.since;
      holds = hold_kept acts n desk Update k.hold k.since none k.holds;
      position = k.position;
      later = k.later;
      met = omega (arith, k.met, long, met);
      was_live = subst (λ (g : Graph). IsLiveAt g at layer) (states_in base acts n k.position (omega (arith, k.met, long))) k.was_live;
    }

-- a node that the desk puts it knows up to its level
module _ (base : Graph) (acts : List Act) (desk : ℕ) (brought : NewNode) (may : IsPutAllowed base acts desk brought) where
  abbrev put : Act
  put = act_of desk (put_of brought)

  new : Node
  new = node_of brought

  there : fin.get (fin.insert (after base acts).nodes brought.at new) brought.at ≡ Some new
  there = fin.get-insert tid_cmp_total (after base acts).nodes brought.at new brought.at ∙ ap (λ r. cond (is_eq r) (Some new) (fin.get (after base acts).nodes brought.at)) (tied_itself tid_cmp_total brought.at)

  pub put_known : Knows base (acts ++ put ∷ []) desk brought.at brought.level
  unfolding new
  put_known =
      let since = may.update.1.0 in
      let holds = may.update.1.1 in
      let low : since < length acts = slice_get_within acts since _ holds.taken in
      let all : state_after base (acts ++ put ∷ []) (length (acts ++ put ∷ [])) ≡ after base (acts ++ put ∷ []) = ap (after base) (take_all _ (acts ++ put ∷ []) (omega arith)) in
      let live : IsLiveAt (after base (acts ++ put ∷ [])) brought.at brought.level =
      subst (λ (g : Graph). IsLiveAt g brought.at brought.level) (sym (after_append base acts (put ∷ [])))
      (record { node = new; stands = there; live = record { not_deleted = refl; has_ids = λ e. absurd cc }; reaches = omega arith }) in
      record {
        hold = may.update.0;
        since = since;
        holds = hold_on acts put desk Update may.update.0 since (λ same of_gate. of_gate) holds;
        position = length (acts ++ put ∷ []);
        later = omega (arith, low, one_longer acts put);
        met = omega arith;
        was_live = subst (λ (g : Graph). IsLiveAt g brought.at brought.level) (sym all) live;
      }

-- while a desk holds Update alone no other desk makes a node live
pub no_more_live : (base : Graph) (acts : List Act) → IsLegal base acts → IsOnBlocks (after base acts) → (a : Act) → IsAllowed base acts a → (desk : ℕ) → a.desk ≢ desk
    → HoldsAs acts desk Update Alone → (q : Tid) → IsLiveAt (after base (acts ++ a ∷ [])) q 0 → IsLiveAt (after base acts) q 0
no_more_live base acts legal on a may desk other alone q l =
    let now = subst (λ (g : Graph). IsLiveAt g q 0) (after_append base acts (a ∷ [])) l in
    let was = live_before base acts legal on a may desk other alone q (record { node = now.node; stands = now.stands; is = now.live }) in
    record { node = was.node; stands = was.stands; live = was.is; reaches = omega arith }
