use Rattle.std.proofs.Common.{◌≤◌, ◌+◌, length, drop, List, None, sym, subst, ◌∙◌}
use Rattle.history_tables.specs.declared.holders.Holder.{Holder}
use Rattle.history_tables.specs.Telling.{IsHeldAs}
use Rattle.history_tables.proofs.Seeing.{step_other, none_left}
use Rattle.history_tables.proofs.holders.Holders.hold_of.Goals as goal

pub loop-entry-preserved : goal.loop-entry-preserved
loop-entry-preserved c = λ o is.
    let same = c.deref-entry-items.ensures.value in
    let k = c.loop-entry.entry-index in
    let other = sym c.is_other.ensures ∙ c.if-not-is_other.false in
    let rest = subst (λ (l : List Holder). IsHeldAs c.args.desk c.args.gate (drop (k + 1) l) o) (sym same) is in
    let all = step_other c.args.desk c.args.gate c.deref-entry-items.result.now k _ o c.loop-entry-test.true other rest in
    c.loop-entry.invariant o (subst (λ (l : List Holder). IsHeldAs c.args.desk c.args.gate (drop k l) o) same all)

pub returns : goal.returns
returns c =
    let past = subst (λ (l : List Holder). length l ≤ c.loop-entry.entry-index) c.deref-entry-items.ensures.value c.loop-entry-test.false in
    c.loop-entry.invariant None (none_left c.args.desk c.args.gate c.args.self.now.held.items c.loop-entry.entry-index past)
