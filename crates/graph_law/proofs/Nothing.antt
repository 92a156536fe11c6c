-- An index without nodes is shaped and sound.
use Rattle.std.proofs.Common.{◌≡◌, None, sym, ◌∙◌, arith}
use Rattle.std.specs.FinMap as fin
use Rattle.std.proofs.lemmas.Option.{none-some}
use Rattle.vec_names.specs.declared.tid.Tid.{Tid}
use Rattle.vec_graph.specs.declared.graph.Graph.{Graph}
use Rattle.vec_graph.specs.Shaped.{IsShaped}
use Rattle.vec_graph.specs.Sound.{IsRoot, root_entry, root_live, IsSound}
use Rattle.vec_graph.proofs.Placing.{none_on_empty}
use Rattle.graph_law.proofs.Soundness.{sound_by}

module _ (g : Graph) (no_nodes : g.nodes ≡ fin.empty) (no_entry : g.entry ≡ None) where
  pub shaped_without : g.level ≡ 0 → g.hint ≡ 1 → g.blocks ≡ 1 → IsShaped g
  shaped_without level hint blocks = record {
    nodes = λ at n is. absurd (none_on_empty g.nodes no_nodes at n is);
    entry = λ at is. absurd (none-some at (sym no_entry ∙ is));
    no_entry = λ _. level;
    hint_from_1 = omega arith;
    hint_within = omega arith;
    blocks_from_1 = omega arith;
    blocks_within = omega arith;
  }

  no_root : (at : Tid) → IsRoot g at → ⊥
  no_root at (root_entry _ is) = none-some at (sym no_entry ∙ is)
  no_root at (root_live _ l) = none_on_empty g.nodes no_nodes at l.node l.stands

  pub sound_without : IsSound g
  sound_without = sound_by g (IsRoot g) (λ _. ⊥) no_root (λ at layer to none has. absurd none) (λ at none. absurd none)
