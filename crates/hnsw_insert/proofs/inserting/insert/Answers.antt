use Rattle.std.proofs.Common.{◌≤◌, ◌∙◌, ℕ, length, ap, refl, sym, subst}
use Rattle.vec_names.specs.declared.params.Params.{Params}
use Rattle.vec_names.specs.Levels.{level_of, most_level}
use Rattle.vec_steps.specs.Index.{Index}
use Rattle.vec_steps.proofs.Following.{goes_over}
use Rattle.layer_search.proofs.Looks.{fails}
use Rattle.hnsw_insert.specs.Whole.{IsFull}
use Rattle.hnsw_insert.proofs.Lasts.{nodes_of}
use Rattle.hnsw_insert.proofs.Quiet.{others_stay}
use Rattle.hnsw_insert.proofs.Stopped.{handed, stops_as}
use Rattle.hnsw_insert.proofs.Gates.{fails_so, first_fails, gives_over, inserted_so, level_low, once_over}
use Rattle.hnsw_insert.proofs.inserting.insert.Goals as goal

pub returns-in_err-told-clause-err : goal.returns-in_err-told-clause-err
returns-in_err-told-clause-err g c =
    let s0 = c.args.steps.now in
    fails c.from_residual.result
    (λ e is. first_fails (g.S.Steps.stands s0) (g.S.Steps.desk s0) (g.S.Steps.seen s0) (length c.args.bits.now) (level_of c.args.word (g.S.Steps.desk s0).params.m) e
    c.in_err-told.field-0.0 is c.in_err-told.ensures.memory (sym c.count.ensures.count ∙ c.if-count-params.false ∙ ap (λ (p : Params). p.bits) c.params-params.ensures) c.requires.free) c.from_residual.ensures.1

pub insert_once-requires-clause-level : goal.insert_once-requires-clause-level
insert_once-requires-clause-level g c =
    let level_is = c.level_of.ensures ∙ ap (λ (p : Params). level_of c.args.word p.m) c.params-params.ensures in
    let low = level_low c.args.word (g.S.Steps.desk c.args.steps.now).params.m in
    subst (λ (l : ℕ). l ≤ most_level (g.S.Steps.desk c.args.steps.now).params.m) (sym level_is) low

pub returns-in_err-landing-clause-goes : goal.returns-in_err-landing-clause-goes
returns-in_err-landing-clause-goes g c =
    let s0 = c.args.steps.now in
    let on = λ (base : Index) (st : g.S.Steps.stands s0 base). nodes_of (g.S.Steps.desk s0).params c.requires.nodes base (g.met.S.Steps.index s0 base st) st in
    goes_over on c.in_err-landing.ensures.goes

pub returns-in_err-landing-clause-err : goal.returns-in_err-landing-clause-err
returns-in_err-landing-clause-err g c =
    let s0 = c.args.steps.now in
    let on = λ (base : Index) (st : g.S.Steps.stands s0 base). nodes_of (g.S.Steps.desk s0).params c.requires.nodes base (g.met.S.Steps.index s0 base st) st in
    let level_is = c.level_of.ensures ∙ ap (λ (p : Params). level_of c.args.word p.m) c.params-params.ensures in
    handed _ c.from_residual-in_err-landing.result
    (fails_so (length c.args.bits.now) (level_of c.args.word (g.S.Steps.desk s0).params.m) c.in_err-landing.field-0.0 (sym c.count.ensures.count ∙ c.if-count-params.false ∙ ap (λ (p : Params). p.bits) c.params-params.ensures)
    (stops_as on (λ course all. all) (λ a m n full. subst (λ (l : ℕ). IsFull l a m n) level_is full) c.in_err-landing.ensures.err)
    (gives_over refl on c.in_err-landing.ensures.given)) c.from_residual-in_err-landing.ensures.1

pub returns-clause-goes : goal.returns-clause-goes
returns-clause-goes g c =
    let s0 = c.args.steps.now in
    let on = λ (base : Index) (st : g.S.Steps.stands s0 base). nodes_of (g.S.Steps.desk s0).params c.requires.nodes base (g.met.S.Steps.index s0 base st) st in
    goes_over on c.in_ok-landing.ensures.goes

pub returns-clause-ok : goal.returns-clause-ok
returns-clause-ok g c =
    let s0 = c.args.steps.now in
    let on = λ (base : Index) (st : g.S.Steps.stands s0 base). nodes_of (g.S.Steps.desk s0).params c.requires.nodes base (g.met.S.Steps.index s0 base st) st in
    let level_is = c.level_of.ensures ∙ ap (λ (p : Params). level_of c.args.word p.m) c.params-params.ensures in
    inserted_so c.args.id c.args.bits.now c.args.word c.level_of.result c.in_ok-landing.landing _ c.new.ensures level_is refl (once_over on c.in_ok-landing.ensures.ok)

pub returns-in_err-landing-clause-others : goal.returns-in_err-landing-clause-others
returns-in_err-landing-clause-others g c = others_stay c.in_err-landing.ensures.err.does c.in_err-landing.ensures.err.only

pub returns-clause-others : goal.returns-clause-others
returns-clause-others g c = others_stay c.in_ok-landing.ensures.ok.made.does c.in_ok-landing.ensures.ok.made.is.only
