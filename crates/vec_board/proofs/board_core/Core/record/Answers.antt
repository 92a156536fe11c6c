use Rattle.std.proofs.Common.{◌≤◌, ◌+◌, List, length, ap, subst, sym, ◌∙◌, arith}
use Rattle.vec_history.specs.declared.event.Act.{Act}
use Rattle.vec_history.specs.Acts.{act_of}
use Rattle.vec_history.proofs.OneMore.{one_longer}
use Rattle.history_tables.specs.Rooms.{room_in_all, spent}
use Rattle.vec_steps.specs.Desks.{taken_by, used_after}
use Rattle.vec_board.specs.declared.summary.Summary.{Summary}
use Rattle.vec_board.specs.Acting.{room_of}
use Rattle.vec_board.proofs.Fitting.{spent_less}
use Rattle.vec_board.proofs.Recorded.{used_more, log_used, spare_left, doomed_more}
use Rattle.vec_board.proofs.board_core.Core.record.Goals as goal

pub invariant_of-self : goal.invariant_of-self
invariant_of-self c =
    let was = c.args.self.now in
    let acts = was.history.acts.items in
    let a : Act = act_of c.args.desk c.args.event in
    let len = ap (λ (l : List Act). length l) c.add.ensures.acts ∙ one_longer acts a in
    let within = was.counted in
    let used = log_used was.log c.log_event.new.log c.args.event c.log_event.ensures.log in
    let more = used_more (room_of was) acts a within in
    let rooms = ap room_in_all c.add.ensures.rooms in
    let doomed = ap (λ (s : Summary). s.doomed) c.summary_after-self.ensures in
    let high = doomed_more was.summary c.args.event c.args.left in
    let few = was.few_doomed in
    record {
      in_range = was.in_range;
      counted = omega (arith, len, within);
      used_is = used ∙ ap (λ n. n + taken_by c.args.event) was.used_is ∙ sym more ∙ ap (used_after (room_of was)) (sym c.add.ensures.acts);
      spare = subst (λ n. n ≤ c.log_event.new.log.spare) (sym rooms)
          (spare_left c.args.event (room_in_all was.history.rooms.rooms.items) (room_in_all (spent c.args.desk was.history.rooms.rooms.items))
          was.log.spare c.log_event.new.log.spare (spent_less was.history.rooms.rooms.items c.args.desk) was.spare c.requires.log c.log_event.ensures.spare);
      few_doomed = omega (arith, len, doomed, high, few);
    }
