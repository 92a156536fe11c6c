use Rattle.std.proofs.Common.{refl, ap, ◌∙◌, length, List, Option, arith}
use Rattle.vec_names.specs.declared.tid.Tid.{Tid}
use Rattle.vec_graph.specs.Graph.{layer_slots}
use Rattle.vec_steps.proofs.still_desk.show_list.Goals as goal

pub returns-then-slots-gt-MOST_SLOTS-clause-err : goal.returns-then-slots-gt-MOST_SLOTS-clause-err
returns-then-slots-gt-MOST_SLOTS-clause-err c =
    let same = c.layer_of-slots.ensures ∙ ap (layer_slots c.args.m c.args.node.now.level c.args.layer) c.as_slice.ensures in (
      refl,
      record {
        node = c.args.node.now;
        stands = refl;
        wide = omega (arith, c.if-slots-gt-MOST_SLOTS.true, ap (λ (l : List (Option Tid)). length l) same);
      },
    )
