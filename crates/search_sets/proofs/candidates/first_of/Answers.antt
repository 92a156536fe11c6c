use Rattle.std.proofs.Common.{sym}
use Rattle.search_sets.proofs.Leaders.{no_near, no_far, leads_first, leads_near, leads_far}
use Rattle.search_sets.proofs.candidates.first_of.Goals as goal

pub returns-in_default : goal.returns-in_default
returns-in_default c = no_near _ c.args.far.now c.far_first.result c.in_default.ensures c.far_first.ensures

pub returns-in_default-far_first : goal.returns-in_default-far_first
returns-in_default-far_first c = leads_first c.in-Some.a _ (no_far c.in-Some.a _ c.args.far.now c.in-Some.ensures c.in_default-far_first.ensures)

pub returns-then-is_before : goal.returns-then-is_before
returns-then-is_before c = leads_first c.in-Some-far_first.b _ (leads_far c.in-Some.a c.in-Some-far_first.b _ c.args.far.now c.in-Some.ensures c.in-Some-far_first.ensures (sym c.if-is_before.ensures))

pub returns : goal.returns
returns c = leads_first c.in-Some.a _ (leads_near c.in-Some.a c.in-Some-far_first.b _ c.args.far.now c.in-Some.ensures c.in-Some-far_first.ensures (sym c.if-is_before.ensures))
