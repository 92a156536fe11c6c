use Rattle.std.proofs.Common.{◌≡◌, ◌∙◌, List, ℕ, length, Option, OnOk, OnErr, ap, sym, subst}
use Rattle.std.specs.Io.KnownBytes.{Appends}
use Rattle.script_words.specs.declared.command.Command.{Command}
use Rattle.vec_run.specs.declared.audit.Room.{Room}
use Rattle.vec_run.specs.declared.end.End.{End}
use Rattle.vec_run.specs.Exact.{AppendsFront}
use Rattle.vec_run.specs.Scripts.{IsRunEnd, run_end}
use Rattle.vec_run.proofs.RunEnds.{ran_end}
use Rattle.vec_run.proofs.alone.run_drawn.Goals as goal

pub returns-clause-end : goal.returns-clause-end
returns-clause-end g c =
    let lines = c.args.script.now.lines.items in
    let commands = c.args.script.now.commands.items in
    let held = g.K.Sink.held c.args.sink.now in
    let now = g.K.Sink.held c.write_whole-written.new.sink in
    let r = c.run_commands-text in
    let w = c.write_whole-written in
    let e = run_end r.result.ended w.result in
    let long : length c.deref.result.now ≡ length c.deref-2.result.now =
    ap (λ (l : List ℕ). length l) c.deref.ensures.value ∙ c.requires.long ∙ sym (ap (λ (l : List Command). length l) c.deref-2.ensures.value) in
    subst (λ (x : End × Option Room). IsRunEnd lines commands held now r.result.audit x.1 x.0) (sym c.end_of-end.ensures)
    (subst (λ (l : List ℕ). IsRunEnd l commands held now r.result.audit e.1 e.0) c.deref.ensures.value
    (subst (λ (l : List Command). IsRunEnd c.deref.result.now l held now r.result.audit e.1 e.0) c.deref-2.ensures.value
    (ran_end c.deref.result.now c.deref-2.result.now long r.result held now r.result.ended w.result r.ensures.ok r.ensures.err
    (subst (λ (l : List ℕ). OnOk w.result (Appends held now l)) c.deref-3.ensures.value w.ensures.ok)
    (subst (λ (l : List ℕ). OnErr w.result (AppendsFront held now l)) c.deref-3.ensures.value w.ensures.err))))
