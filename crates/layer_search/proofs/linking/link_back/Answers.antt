use Rattle.std.proofs.Common.{◌≡◌, ◌∙◌, Bool, List, length, sym, ap, ap₂, subst, arith}
use Rattle.vec_names.specs.declared.params.Params.{Params}
use Rattle.graph_search.specs.Insert.{Target}
use Rattle.vec_steps.proofs.Following.{goes_over}
use Rattle.layer_search.specs.Listing.{ArePicksLong}
use Rattle.layer_search.specs.Linking.{LinksAll, OverLinks, StoppedBy}
use Rattle.layer_search.proofs.Looks.{fails}
use Rattle.layer_search.proofs.Linked.{all_over, m_range, over_picks, stopped_first, stopped_over}
use Rattle.layer_search.proofs.linking.link_back.Goals as goal

pub returns-in_err-room-clause-err : goal.returns-in_err-room-clause-err
returns-in_err-room-clause-err g c =
    fails c.from_residual.result (λ e is. stopped_first c.args.at (g.S.Steps.seen c.args.steps.now) e (is ∙ c.in_err-room.ensures.memory)) c.from_residual.ensures.1

pub link_all-requires-clause-some : goal.link_all-requires-clause-some
link_all-requires-clause-some g c =
    let r = m_range (g.S.Steps.desk c.args.steps.now).params c.requires.params c.requires.nodes in
    omega (arith, r.0, ap (λ (p : Params). p.m) c.params-params.ensures)

pub link_all-requires-clause-few : goal.link_all-requires-clause-few
link_all-requires-clause-few g c =
    let r = m_range (g.S.Steps.desk c.args.steps.now).params c.requires.params c.requires.nodes in
    omega (arith, r.1, ap (λ (p : Params). p.m) c.params-params.ensures)

pub link_all-requires-clause-bits : goal.link_all-requires-clause-bits
link_all-requires-clause-bits g c = ap (λ (l : List Bool). length l) c.in_ok-room.ensures.bits ∙ c.requires.bits

pub link_all-requires-clause-long : goal.link_all-requires-clause-long
link_all-requires-clause-long g c = subst (ArePicksLong (g.S.Steps.desk c.args.steps.now).params.bits) (sym c.as_slice.ensures) c.requires.long

pub returns-in_err-count-clause-goes : goal.returns-in_err-count-clause-goes
returns-in_err-count-clause-goes g c = goes_over (over_picks c.args.at c.as_slice.result.now c.args.lists.now.picks c.as_slice.ensures) c.in_err-count.ensures.goes

pub returns-in_err-count-clause-err : goal.returns-in_err-count-clause-err
returns-in_err-count-clause-err g c =
    let s = c.args.steps.now in
    let over = OverLinks (g.S.Steps.stands s) (g.S.Steps.desk s) (g.S.Steps.seen s) c.args.at c.args.lists.now.picks in
    fails c.from_residual-in_err-count.result
    (λ e is. subst (StoppedBy c.args.at over (g.S.Steps.desk s) (g.S.Steps.seen s) (g.S.Steps.seen c.link_all.new.steps)) (sym is)
    (stopped_over (over_picks c.args.at c.as_slice.result.now c.args.lists.now.picks c.as_slice.ensures) c.in_err-count.ensures.err))
    c.from_residual-in_err-count.ensures.1

pub returns-clause-goes : goal.returns-clause-goes
returns-clause-goes g c = goes_over (over_picks c.args.at c.as_slice.result.now c.args.lists.now.picks c.as_slice.ensures) c.in_ok-count.ensures.goes

same_target : (p q : Params) (at : _) (a b : List Bool) → p ≡ q → a ≡ b
    → (let t : Target = record { ops = p.ops; at = at; bits = a } in t) ≡ (record { ops = q.ops; at = at; bits = b })
same_target p q at a b is same = ap₂ (λ (o : Params) (l : List Bool). (let t : Target = record { ops = o.ops; at = at; bits = l } in t)) is same

pub returns-clause-ok : goal.returns-clause-ok
returns-clause-ok g c =
    let s = c.args.steps.now in
    let picks = c.args.lists.now.picks in
    let over = OverLinks (g.S.Steps.stands s) (g.S.Steps.desk s) (g.S.Steps.seen s) c.args.at picks in
    subst (λ (t : Target). LinksAll over (g.S.Steps.desk s) (g.S.Steps.seen s) (g.S.Steps.seen c.link_all.new.steps) c.args.trace.now.reads
    c.link_all.new.trace.reads t picks c.in_ok-count.count)
    (same_target c.params-params.result (g.S.Steps.desk s).params c.args.at c.in_ok-room.room.entrant.bits c.args.bits.now c.params-params.ensures
    c.in_ok-room.ensures.bits)
    (all_over c.args.at c.as_slice.result.now picks c.as_slice.ensures c.in_ok-count.ensures.ok)
