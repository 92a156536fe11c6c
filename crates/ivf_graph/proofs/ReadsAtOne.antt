-- Reads that have all one position give the answer of the state there.
use Rattle.std.proofs.Common.{◌≡◌, ℕ, zero, suc, ◌≤◌, Bool, List, [], ◌∷◌, map, take, length, replicate, refl, sym, ap, subst, ◌∙◌, arith}
use Rattle.std.proofs.lemmas.List.{length-map}
use Rattle.index_sizes.specs.declared.limits.TheConstants.{MOST_BITS}
use Rattle.bit_dist.specs.Hits.{Hit}
use Rattle.vec_history.specs.declared.event.Act.{Act}
use Rattle.vec_history.proofs.Prefixes.{cut_after}
use Rattle.ivf_graph.specs.declared.list.IvfList.{IvfList}
use Rattle.ivf_graph.specs.declared.graph.IvfGraph.{IvfGraph}
use Rattle.ivf_graph.specs.Graph.{centres, AreBlocksOwn}
use Rattle.ivf_graph.specs.Effect.{effect, after, state_after}
use Rattle.ivf_graph.specs.Legal.{IsAllowed, IsLegal}
use Rattle.ivf_graph.specs.Answer.{ivf_answer}
use Rattle.vec_history.specs.Acts.{IsRising}
use Rattle.ivf_graph.specs.Reads.{IsAnswerFrom, IsAnswerAt}
use Rattle.ivf_graph.proofs.OwnBlocks.{own_after}
use Rattle.ivf_graph.proofs.SameCentres.{centres_by_event}
use Rattle.ivf_graph.proofs.ReadsOfOne.{answer_of_one, some_answer}

mapped : {X Y : Type 0} (f : X → Y) (n : ℕ) (x : X) → map f (replicate n x) ≡ replicate n (f x)
mapped f zero x = refl
mapped f (suc n) x = ap (λ l. f x ∷ l) (mapped f n x)

pub centres_after : (g : IvfGraph) (acts : List Act) → centres (after g acts) ≡ centres g
centres_after g [] = refl
centres_after g (a ∷ acts) = centres_after (effect a.event g) acts ∙ centres_by_event a.event g

pub as_many_lists : (g : IvfGraph) (acts : List Act) → length (after g acts).lists ≡ length g.lists
as_many_lists g acts =
    sym (length-map (after g acts).lists (λ (l : IvfList). l.centre)) ∙ ap (λ (cs : List (List Bool)). length cs) (centres_after g acts)
    ∙ length-map g.lists (λ (l : IvfList). l.centre)

rising_still : (low n high k : ℕ) → low ≤ n → n ≤ high → IsRising low (replicate k n) high
rising_still low n high zero a b = omega (arith, a, b)
rising_still low n high (suc k) a b = (a, rising_still n n high k (omega arith) b)

module _ (base : IvfGraph) (acts : List Act) (legal : IsLegal base acts) (own : AreBlocksOwn base) where
  pub own_at : (n : ℕ) → AreBlocksOwn (state_after base acts n)
  own_at n = own_after base [] (take n acts) (cut_after (IsAllowed base) [] acts n legal) own

  pub answer_at_one : (n reads probes : ℕ) (query : List Bool) (answer : List Hit) → length query ≤ MOST_BITS
      → IsAnswerAt base acts (replicate reads n) query probes answer → answer ≡ ivf_answer (state_after base acts n) query probes
  answer_at_one n reads probes query answer low a =
      let g = state_after base acts n in
      answer_of_one g reads query probes answer (own_at n).apart low
      (subst (λ k. IsAnswerFrom (replicate reads g) k query probes answer) (sym (as_many_lists base (take n acts)))
      (subst (λ states. IsAnswerFrom states (length base.lists) query probes answer) (mapped (state_after base acts) reads n) a.answers))

  pub some_at_one : (n probes : ℕ) (query : List Bool) → n ≤ length acts → length query ≤ MOST_BITS
      → (reads : ℕ) × IsAnswerAt base acts (replicate reads n) query probes (ivf_answer (state_after base acts n) query probes)
  some_at_one n probes query within low =
      let g = state_after base acts n in
      let answer = ivf_answer g query probes in
      let some = some_answer g query probes (own_at n).apart low in (
        some.0,
        record {
          rising = rising_still 0 n (length acts) some.0 (omega arith) within;
          answers =
              subst (λ states. IsAnswerFrom states (length base.lists) query probes answer) (sym (mapped (state_after base acts) some.0 n))
              (subst (λ k. IsAnswerFrom (replicate some.0 g) k query probes answer) (as_many_lists base (take n acts)) some.1);
        },
      )
