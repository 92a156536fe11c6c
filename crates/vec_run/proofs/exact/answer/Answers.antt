use Rattle.std.proofs.Common.{◌∙◌, ap}
use Rattle.script_words.specs.Grammar.{places_in}
use Rattle.script_words.specs.declared.form.Form.TheVariants as form
use Rattle.script_words.proofs.Forms.{same_length_above}
use Rattle.vec_run.proofs.exact.answer.Goals as goal

pub write_answer-requires : goal.write_answer-requires
write_answer-requires c k d within =
    same_length_above form.Exact c.args.commands.now c.args.at k d c.index-commands-at.result c.requires.one_length c.requires.within within c.index-commands-at.is ∙ ap places_in c.in-Query.is
