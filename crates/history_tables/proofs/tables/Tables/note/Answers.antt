use Rattle.std.proofs.Common.{ℕ, ◌+◌, ◌<◌, ◌≤◌, ◌^◌, length, ◌++◌, ◌∷◌, [], cond, List, Option, sym, subst, ap, ◌∙◌}
use Rattle.vec_history.specs.Settling.{is_lasting}
use Rattle.vec_history.proofs.OneMore.{lasting_more}
use Rattle.history_tables.specs.declared.holders.Holder.{Holder}
use Rattle.history_tables.specs.declared.tables.Phase.{Phase}
use Rattle.history_tables.specs.Telling.{AreHolders, IsPhaseOf, settled_by, held_by, one_if_some}
use Rattle.history_tables.proofs.Noting.{held_on, phase_on_act, settled_more, ends_one}
use Rattle.history_tables.proofs.tables.Tables.note.Goals as goal

pub returns-clause-tells : goal.returns-clause-tells
returns-clause-tells c = λ acts tells few.
    let a = c.args.act.now in
    record {
      held = subst (λ (held : List Holder). AreHolders held (acts ++ a ∷ [])) (sym c.note.ensures.holds)
          (held_on c.args.self.now.holders.held.items acts tells.held a.desk a.event);
      phase = subst (λ (phase : Option Phase). IsPhaseOf phase (acts ++ a ∷ [])) (sym c.phase_after-self.ensures)
          (phase_on_act c.args.self.now.phase acts tells.phase a.desk a.event);
      lasting = c.lasting_after-self.ensures (subst (λ (n : ℕ). n + 1 < 2 ^ 64) (sym tells.lasting) few) ∙ ap (λ n. n + cond (is_lasting a.event) 1 0) tells.lasting ∙ sym (lasting_more acts a);
      settled = c.settled_after-self.ensures ∙ ap (λ n. settled_by n a.event) tells.settled ∙ sym (settled_more 0 acts a);
    }

pub returns-clause-ended : goal.returns-clause-ended
returns-clause-ended c = λ ends.
    let a = c.args.act.now in
    let less = ends_one c.args.self.now a.desk a.event ends in
    subst (λ (held : List Holder). length held + one_if_some c.phase_after-self.result + 1 ≤ length c.args.self.now.holders.held.items + one_if_some c.args.self.now.phase)
    (sym c.note.ensures.holds)
    (subst (λ (phase : Option Phase). length (held_by c.args.self.now.holders.held.items a.desk a.event) + one_if_some phase + 1
    ≤ length c.args.self.now.holders.held.items + one_if_some c.args.self.now.phase) (sym c.phase_after-self.ensures) less)
