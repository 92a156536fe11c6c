use Rattle.std.proofs.Common.{◌≡◌, ◌⊎◌, ℕ, sym, subst}
use Rattle.script_words.specs.Grammar.{IsFirstOutside, IsScript}
use Rattle.vec_run.specs.declared.top.Verb.{Verb}
use Rattle.vec_run.specs.Verbs.{form_of}
use Rattle.vec_run.proofs.Ending.{completed, refused}
use Rattle.vec_run.proofs.OneWord.{one_verb}
use Rattle.vec_run.proofs.top.run_alone.Goals as goal

pub returns-in-Some-clause-refused : goal.returns-in-Some-clause-refused
returns-in-Some-clause-refused g c verb is input line told outside no_read =
    let f = c.run_verb-finish in
    let same = one_verb c.args.words.now verb c.in-Some.verb is c.in-Some.ensures in
    subst (λ (n : ℕ). (n ≡ 3) ⊎ (n ≡ 1)) (sym c.outcome_of.ensures.status)
    (refused (g.S.Source.left c.args.source.now) (g.S.Source.left f.new.source) (g.K.Sink.held c.args.sink.now) (g.K.Sink.held f.new.sink)
    f.result.audit input told c.in-Some.verb f.result.room line f.result.end
    (subst (λ (v : Verb). IsFirstOutside (form_of v) input line) same outside) f.ensures.end (λ was. no_read (f.ensures.read was)))

pub returns-in-Some-clause-complete : goal.returns-in-Some-clause-complete
returns-in-Some-clause-complete g c verb is input commands told script no_read no_write =
    let f = c.run_verb-finish in
    let same = one_verb c.args.words.now verb c.in-Some.verb is c.in-Some.ensures in
    subst (λ (n : ℕ). (n ≡ 0) ⊎ ((n ≡ 1) ⊎ (n ≡ 7))) (sym c.outcome_of.ensures.status)
    (completed c.in-Some.verb (g.S.Source.left c.args.source.now) (g.S.Source.left f.new.source) (g.K.Sink.held c.args.sink.now) (g.K.Sink.held f.new.sink)
    f.result.audit f.result.room input commands f.result.end told (subst (λ (v : Verb). IsScript (form_of v) input commands) same script) f.ensures.end
    (λ was. no_read (f.ensures.read was)) (λ was. no_write (f.ensures.write was)))
