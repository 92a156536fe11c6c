use Rattle.std.proofs.Common.{List, map, refl, subst, sym}
use Rattle.std.proofs.lemmas.Result.{err_from_is_err_and}
use Rattle.script_words.specs.declared.command.Command.{Command}
use Rattle.script_words.specs.Grammar.{FitsAfter, places_in}
use Rattle.script_words.proofs.Forms.{reads_skipped, reads_command, line_refused, length_outside}
use Rattle.script_words.proofs.script.take_line.Goals as goal
use Rattle.script_words.proofs.script.take_line.Goals.{in-Some+else-not-fits+in_ok-push-in-Some, in-None}

pub returns-in_err-command : goal.returns-in_err-command
returns-in_err-command c texts reads =
    let p = err_from_is_err_and c.from_residual.result c.from_residual.ensures.1 in
    rw (p.1, p.2) (line_refused c.args.form texts c.args.text.now c.args.front.now.commands.items c.args.front.now.next c.in_err-command.field-0.0 reads c.in_err-command.ensures)

pub returns-then-not-fits : goal.returns-then-not-fits
returns-then-not-fits c texts reads = (
  reads.counted,
  length_outside c.args.form texts c.args.text.now c.args.front.now.commands.items c.args.front.now.next c.in-Some.command reads (rw c.in-Some.is at c.in_ok-command.ensures)
      (λ fit.
      let yes = c.fits.ensures.1 (subst (λ (cs : List Command). FitsAfter c.args.form (map places_in cs) (places_in c.in-Some.command)) (sym c.deref.ensures.value) fit) in
      absurd (cc (yes, c.if-not-fits.true))),
)

pub returns : goal.returns
returns c texts reads = elim c.match-branch-2.branch [
  | in-Some+else-not-fits+in_ok-push-in-Some w ↦
      rw w.front-is (reads_command c.args.form texts c.args.text.now c.args.front.now.commands.items w.push.new.self.items c.args.front.now.next w.in-Some.command reads (rw w.in-Some.is at c.in_ok-command.ensures)
      (subst (λ (cs : List Command). FitsAfter c.args.form (map places_in cs) (places_in w.in-Some.command)) w.deref.ensures.value (w.if-not-fits.ensures.0 refl))
      w.in_ok-push-in-Some.ensures.items)
  | in-None w ↦ rw w.front-is (reads_skipped c.args.form texts c.args.text.now c.args.front.now.commands.items c.args.front.now.next reads (rw w.in-None.is at c.in_ok-command.ensures))
]
