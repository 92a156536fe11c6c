use Rattle.std.proofs.lemmas.Result.{err_from_is_err_and}
use Rattle.script_words.specs.declared.form.Form.TheVariants as form
use Rattle.script_words.proofs.Forms.{script_lengths}
use Rattle.vec_run.proofs.Sources.{source_refused}
use Rattle.vec_run.proofs.exact.read_commands.Goals as goal

pub returns-in_err-commands-clause-refused : goal.returns-in_err-commands-clause-refused
returns-in_err-commands-clause-refused g c =
    let p = err_from_is_err_and c.from_residual-in_err-commands.result c.from_residual-in_err-commands.ensures.1 in
    rw (p.1, p.2) (source_refused form.Exact (g.S.Source.left c.args.source.now) (g.S.Source.left c.read_whole.new.source) c.in_ok-bytes.bytes.items c.deref.result.now c.in_err-commands.field-0.0
    c.deref.ensures.value c.in_ok-bytes.ensures.bytes c.in_ok-bytes.ensures.whole c.in_err-commands.ensures)

pub returns-clause-one_length : goal.returns-clause-one_length
returns-clause-one_length g c = script_lengths form.Exact c.deref.result.now c.in_ok-commands.commands.items c.in_ok-commands.ensures
