use Rattle.std.proofs.Common.{ℕ, List, Option, subst}
use Rattle.std.specs.Prelude.{Ok, Err}
use Rattle.page_log.specs.Opening.{ReadsAs, epoch_of, told_by}
use Rattle.page_log.specs.declared.opening.ReadLog.{ReadLog}
use Rattle.page_log.proofs.Fronts.{reads_on}
use Rattle.vec_outside.specs.declared.disks.Area.TheVariants.{Pages}
use Rattle.vec_recover.specs.Parts.{IsOpened}
use Rattle.vec_recover.proofs.Opened.{opened_err, opened_ok}
use Rattle.vec_recover.proofs.reading.read_index.Goals as goal

pub returns-in-Ok-clause-recovers : goal.returns-in-Ok-clause-recovers
returns-in-Ok-clause-recovers g c told =
    let image = (g.D.Disks.disk c.args.disks.now).seen in
    opened_ok image (epoch_of c.in-Ok-Some.log) (subst (λ (o : Option ReadLog). ReadsAs image (Ok (told_by o))) c.in-Ok-Some.field-0-is (c.in-Ok-Some.ensures.read told)) c.in-Ok.read
    (subst (λ (bytes : List ℕ). IsOpened bytes (epoch_of c.in-Ok-Some.log) (Ok c.in-Ok.read)) (c.read_all.ensures.only.kept.seen Pages) (c.in-Ok.ensures.opened told))

pub returns-in-Ok-clause-only : goal.returns-in-Ok-clause-only
returns-in-Ok-clause-only g c = reads_on _ _ _ c.read_all.ensures.only c.open_log.ensures.only

pub returns-in-Err-open_log-clause-recovers : goal.returns-in-Err-open_log-clause-recovers
returns-in-Err-open_log-clause-recovers g c told =
    let image = (g.D.Disks.disk c.args.disks.now).seen in
    opened_err image (epoch_of c.in-Ok-Some.log) (subst (λ (o : Option ReadLog). ReadsAs image (Ok (told_by o))) c.in-Ok-Some.field-0-is (c.in-Ok-Some.ensures.read told)) c.in-Err-open_log.fault
    (subst (λ (bytes : List ℕ). IsOpened bytes (epoch_of c.in-Ok-Some.log) (Err c.in-Err-open_log.fault)) (c.read_all.ensures.only.kept.seen Pages)
    (c.in-Err-open_log.ensures.opened told))

pub returns-in-Err-open_log-clause-only : goal.returns-in-Err-open_log-clause-only
returns-in-Err-open_log-clause-only g c = reads_on _ _ _ c.read_all.ensures.only c.open_log.ensures.only
