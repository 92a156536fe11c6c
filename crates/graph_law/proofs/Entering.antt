-- The entry point as it was told reaches the level that was told with it.
use Rattle.std.proofs.Common.{◌≡◌, ℕ, ◌≤◌, List, take, Some, sym, subst, arith}
use Rattle.vec_names.specs.declared.tid.Tid.{Tid}
use Rattle.vec_history.specs.declared.event.Act.{Act}
use Rattle.vec_history.proofs.ByActs.{cut}
use Rattle.vec_graph.specs.declared.graph.Graph.{Graph}
use Rattle.vec_graph.specs.Effect.{state_after}
use Rattle.vec_graph.specs.Legal.{IsAllowed, IsLegal}
use Rattle.vec_graph.specs.Shaped.{IsShaped}
use Rattle.vec_graph.specs.Sound.{IsAsHigh}
use Rattle.vec_graph.proofs.Shaping.{on_blocks_of, shaped_after}
use Rattle.graph_law.proofs.Marking.{states_in}
use Rattle.graph_law.proofs.ActByAct.{high_after}

-- the entry point's node, at a later position
pub entry_high : (base : Graph) → IsShaped base → (acts : List Act) → IsLegal base acts → (n p : ℕ) (q : Tid) → p ≤ n → (state_after base acts p).entry ≡ Some q
    → IsAsHigh (state_after base acts n) q (state_after base acts p).level
entry_high base shaped acts legal n p q low is =
    let then = (shaped_after base shaped (take p acts) (cut (IsAllowed base) acts p legal)).entry q is in
    let there : IsAsHigh (state_after base acts p) q (state_after base acts p).level =
    record { node = then.node; stands = then.stands; reaches = omega (arith, then.of_level) } in
    high_after base (on_blocks_of base shaped) (take n acts) (cut (IsAllowed base) acts n legal) p q (state_after base acts p).level
    (subst (λ (h : Graph). IsAsHigh h q (state_after base acts p).level) (sym (states_in base acts n p low)) there)
