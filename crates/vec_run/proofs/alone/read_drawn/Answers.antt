use Rattle.script_words.specs.declared.form.Form.TheVariants as form
use Rattle.vec_run.proofs.Drawn.{drawn_can, drawn_long}
use Rattle.vec_run.proofs.RunEnds.{source_of_text}
use Rattle.vec_run.proofs.alone.read_drawn.Goals as goal

pub returns-in-Ok-clause-long : goal.returns-in-Ok-clause-long
returns-in-Ok-clause-long g c = drawn_long c.deref.result.now c.in-Ok.script.lines.items c.in-Ok.script.commands.items c.in-Ok.ensures.ok

pub returns-in-Ok-clause-can : goal.returns-in-Ok-clause-can
returns-in-Ok-clause-can g c = drawn_can c.deref.result.now c.in-Ok.script.lines.items c.in-Ok.script.commands.items c.in-Ok.ensures.ok

pub returns-clause-refused : goal.returns-clause-refused
returns-clause-refused g c =
    source_of_text form.Rowless (g.S.Source.left c.args.source.now) (g.S.Source.left c.read_whole.new.source) c.in_ok-bytes.bytes.items c.deref.result.now
    c.in-Err.refusal c.deref.ensures.value c.in_ok-bytes.ensures.bytes c.in_ok-bytes.ensures.whole c.in-Err.ensures.refused
