use Rattle.std.proofs.Common.{◌≡◌, ◌==◌, true, false, List, Option, ap, length, subst, sym, ◌∙◌, true≢false}
use Rattle.vec_names.specs.declared.heap_id.HeapId.{HeapId}
use Rattle.vec_graph.specs.Effect.{after}
use Rattle.hnsw_vacuum.specs.declared.marking.Doomed.{Doomed}
use Rattle.hnsw_vacuum.specs.Courses.{IsGraphSo}
use Rattle.hnsw_vacuum.specs.Seeking.{TellsDoomed}
use Rattle.hnsw_vacuum.proofs.Finds.{Seeking, node_none, node_some, nodes_later, skip_deleted, skip_rows}
use Rattle.hnsw_vacuum.proofs.seeking.find_one.Goals as goal

pub returns-then-seen-clause-so : goal.returns-then-seen-clause-so
returns-then-seen-clause-so g c = λ base bound count left o. skip_deleted c.if-seen.true base o

pub returns-then-not-is_empty-clause-so : goal.returns-then-not-is_empty-clause-so
returns-then-not-is_empty-clause-so g c = λ base bound count left o.
    skip_rows (λ no. let e : false ≡ true = c.if-not-is_empty.ensures ∙ ap (λ (l : List HeapId). length l == 0) no in true≢false (sym e)) base o

pub returns-in_default-clause-so : goal.returns-in_default-clause-so
returns-in_default-clause-so g c = λ base bound count left o.
    let look = c.in_ok-one.ensures in
    let mid = c.look_for_doomed.new.steps in
    let there = nodes_later base o.stood o in
    let st = look.goes.still_stands base there in
    node_none (g.S.Steps.desk c.args.steps.now) look.ok.looks.does.acts base st (g.met.S.Steps.shaped mid base st) (g.met.S.Steps.legal mid base st)
    (subst (λ (n : Option Doomed). IsGraphSo (λ h. TellsDoomed (after h (g.S.Steps.seen mid)) c.args.seen.now.at n) base) c.in_default.is (look.tells base there)) o

pub returns-clause-so : goal.returns-clause-so
returns-clause-so g c = λ base bound count left o.
    let look = c.in_ok-one.ensures in
    let mid = c.look_for_doomed.new.steps in
    let there = nodes_later base o.stood o in
    let st = look.goes.still_stands base there in
    subst (λ (f : List Doomed). Seeking (g.S.Steps.stands mid) (g.S.Steps.seen mid) (g.S.Steps.desk c.args.steps.now).number bound count left f base)
    (sym c.in_ok-push.ensures.ok)
    (node_some (g.S.Steps.desk c.args.steps.now) c.in-Some.node look.ok.looks.does.acts base st (g.met.S.Steps.shaped mid base st) (g.met.S.Steps.legal mid base st)
    (subst (λ (n : Option Doomed). IsGraphSo (λ h. TellsDoomed (after h (g.S.Steps.seen mid)) c.args.seen.now.at n) base) c.in-Some.is (look.tells base there)) o)
