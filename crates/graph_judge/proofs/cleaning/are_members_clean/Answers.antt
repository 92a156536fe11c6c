use Rattle.std.proofs.Common.{◌≡◌, ◌<◌, length, slice_get, Some, refl, sym, ap, ◌∙◌, arith}
use Rattle.std.proofs.lemmas.Option.{slice_get_read, slice_get_within}
use Rattle.graph_judge.proofs.CleanNodes.{not_clean, all_clean, more_slots, NotNamed}
use Rattle.graph_judge.proofs.cleaning.are_members_clean.Goals as goal

pub returns-then-names_doomed : goal.returns-then-names_doomed
returns-then-names_doomed c =
    let read : slice_get c.as_slice-slots.result.now c.loop-slot.slot ≡ Some c.index-slots-slot.result =
    slice_get_read c.as_slice-slots.result.now _ _ _ refl (omega arith) c.index-slots-slot.is
    in
    let at = ap (λ slots. slice_get slots c.loop-slot.slot) (sym c.as_slice-slots.ensures) ∙ read in
    (λ f. absurd (cc), λ clean. absurd (not_clean c.args.graph.now _ _ _ _ _ at (c.names_doomed.ensures.0 c.if-names_doomed.true) clean))

pub loop-slot-preserved : goal.loop-slot-preserved
loop-slot-preserved c =
    let read : slice_get c.as_slice-slots.result.now c.loop-slot.slot ≡ Some c.index-slots-slot.result =
    slice_get_read c.as_slice-slots.result.now _ _ _ refl (omega arith) c.index-slots-slot.is
    in
    let at = ap (λ slots. slice_get slots c.loop-slot.slot) (sym c.as_slice-slots.ensures) ∙ read in
    more_slots (NotNamed c.args.graph.now c.args.node.now.level c.args.layer) c.args.node.now.slots _ _ at c.loop-slot.invariant (
    λ names. let t = c.names_doomed.ensures.1 names in absurd (cc (t, c.if-names_doomed.false))
    )

pub returns : goal.returns
returns c = (
  λ _. all_clean c.args.graph.now c.args.node.now.level c.args.node.now.slots c.args.layer (
      λ k named at.
      let within : k < length c.args.node.now.slots = slice_get_within c.args.node.now.slots k named at in
      c.loop-slot.invariant k named (omega (arith, ap length c.as_slice-slots.ensures)) at
      ),
  λ _. refl,
)
