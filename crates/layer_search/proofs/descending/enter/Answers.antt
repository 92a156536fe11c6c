use Rattle.std.proofs.Common.{[], sym, subst}
use Rattle.vec_steps.specs.Telling.{node_told}
use Rattle.layer_search.specs.Telling.{OverSpots}
use Rattle.layer_search.specs.Looking.{EndedBy}
use Rattle.layer_search.proofs.Looks.{ended_memory, ended_then, fails}
use Rattle.layer_search.proofs.Entering.{still_over, told_there, both_made, enters_gone, enters_none, enters_there}
use Rattle.layer_search.proofs.descending.enter.Goals as goal

pub returns-in_default-clause-ok : goal.returns-in_default-clause-ok
returns-in_default-clause-ok g c =
    let t = c.look_at_meta.new.told in
    enters_none c.args.ops c.args.query.now t.tid t.level t.hint t.blocks c.args.from.now c.in_default.is c.requires.none c.in_ok-look_at_meta.ensures.ok

pub returns-in_err-look_at_node-clause-err : goal.returns-in_err-look_at_node-clause-err
returns-in_err-look_at_node-clause-err g c =
    let m = c.in_ok-look_at_meta.ensures in
    let over = OverSpots (g.S.Steps.stands c.args.steps.now) (g.S.Steps.seen c.args.steps.now) 0 [] in
    fails c.from_residual-in_err-look_at_node.result
    (λ e is. subst (EndedBy over (g.S.Steps.desk c.args.steps.now) (g.S.Steps.seen c.args.steps.now) (g.S.Steps.seen c.look_at_node.new.steps)) (sym is)
    (ended_then m.goes.stays (λ base o. still_over 0 c.look_at_meta.new.told.level base o (m.goes.still_stands base o)) m.ok
    c.in_err-look_at_node.ensures.err)) c.from_residual-in_err-look_at_node.ensures.1

pub returns-in_err-put_told-clause-err : goal.returns-in_err-put_told-clause-err
returns-in_err-put_told-clause-err g c =
    let m = c.in_ok-look_at_meta.ensures in
    let t = c.look_at_meta.new.told in
    let u = c.look_at_node.new.told in
    fails c.from_residual-in_err-put_told.result
    (λ e is. ended_memory e is (both_made c.args.ops c.args.query.now t.tid c.in-Some.at t.level t.hint t.blocks (node_told u.word u.list_at u) c.in-Some.is
    m.goes.stays (λ base o. still_over 0 t.level base o (m.goes.still_stands base o)) m.ok c.in_ok-look_at_node.ensures.ok))
    c.from_residual-in_err-put_told.ensures.1

pub returns-then-branch-clause-ok : goal.returns-then-branch-clause-ok
returns-then-branch-clause-ok g c =
    let m = c.in_ok-look_at_meta.ensures in
    let t = c.look_at_meta.new.told in
    let u = c.look_at_node.new.told in
    let one = c.in_ok-put_told.ensures.some.1 c.if-branch.true in
    enters_there c.args.ops c.args.query.now t.tid c.in-Some.at t.level t.hint t.blocks (node_told u.word u.list_at u) c.in-Some.is
    m.goes.stays (λ base o. still_over 0 t.level base o (m.goes.still_stands base o)) m.ok c.in_ok-look_at_node.ensures.ok
    c.put_told.new.into one.0 c.in_ok-put_told.ensures.put one.1

pub returns-else-branch-clause-ok : goal.returns-else-branch-clause-ok
returns-else-branch-clause-ok g c =
    let m = c.in_ok-look_at_meta.ensures in
    let t = c.look_at_meta.new.told in
    let u = c.look_at_node.new.told in
    enters_gone c.args.ops c.args.query.now t.tid c.in-Some.at t.level t.hint t.blocks (node_told u.word u.list_at u) c.in-Some.is
    m.goes.stays (λ base o. still_over 0 t.level base o (m.goes.still_stands base o)) m.ok c.in_ok-look_at_node.ensures.ok
    c.put_told.new.into c.in_ok-put_told.ensures.put (c.in_ok-put_told.ensures.some.0 c.if-branch.false)

pub returns-then-branch-clause-told : goal.returns-then-branch-clause-told
returns-then-branch-clause-told g c = λ base o.
    let m = c.in_ok-look_at_meta.ensures in
    let n = c.in_ok-look_at_node.ensures in
    let t = c.look_at_meta.new.told in
    let u = c.look_at_node.new.told in
    let mid = c.look_at_meta.new.steps in
    let on : OverSpots (g.S.Steps.stands mid) (g.S.Steps.seen mid) t.level [] base = still_over 0 t.level base o (m.goes.still_stands base o) in
    let stood = n.goes.still_stands base on in
    let now = c.look_at_node.new.steps in
    let bare : OverSpots (g.S.Steps.stands now) (g.S.Steps.seen now) t.level [] base = still_over 0 t.level base o stood in
    record {
      stood = stood;
      there = told_there c.args.ops c.args.query.now c.in-Some.at t.level (node_told u.word u.list_at u) c.put_told.new.into c.in_ok-put_told.ensures.put n.ok
          base (g.met.S.Steps.shaped now base stood) (g.met.S.Steps.legal now base stood) on bare.there;
    }
