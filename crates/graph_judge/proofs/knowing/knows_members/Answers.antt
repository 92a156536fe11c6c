use Rattle.std.proofs.Common.{◌<◌, length, refl, ap, arith}
use Rattle.std.proofs.lemmas.Option.{slice_get_within}
use Rattle.graph_judge.proofs.KnownNodes.{members_known}
use Rattle.graph_judge.proofs.knowing.knows_members.Goals as goal

pub returns : goal.returns
returns c = (
  λ _. members_known c.args.course.now.base.now c.args.course.now.acts.now c.args.desk c.args.level c.args.lists.now (
      λ k named at.
      let within : k < length c.args.lists.now = slice_get_within c.args.lists.now k named at in
      c.loop-slot.invariant k named (omega (arith, ap length c.as_slice-slots.ensures)) at
      ),
  λ _. refl,
)
