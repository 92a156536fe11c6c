use Rattle.std.proofs.Common.{ℕ, sym, subst}
use Rattle.script_words.specs.declared.form.Form.TheVariants as form
use Rattle.vec_run.specs.declared.refusal.ReadRefusal.{ReadRefusal}
use Rattle.vec_run.specs.declared.top.Verb.TheVariants.{Exact}
use Rattle.vec_run.specs.Refusals.{IsSourceRefusal}
use Rattle.vec_run.specs.Verbs.{IsRefusedAt}
use Rattle.vec_run.proofs.exact.run_exact.Goals as goal

pub returns-in-Err-Line-clause-end : goal.returns-in-Err-Line-clause-end
returns-in-Err-Line-clause-end g c audit room idle =
    let left = g.S.Source.left c.args.source.now in
    let w = c.in-Err-Line in (
      subst (λ (n : ℕ). IsRefusedAt Exact left n) (sym w.line-is)
          (subst (λ (why : ReadRefusal). IsSourceRefusal form.Exact left why) w.field-0-is w.ensures.refused),
      idle,
    )
