use Rattle.std.proofs.Common.{rules, [], OnOk}
use Rattle.std.proofs.lemmas.Result.{on_ok_weaker}
use Rattle.page_log.specs.Parts.{unsettled, IsAllOut}
use Rattle.page_log.proofs.BothAreas.{log_comes}
use Rattle.page_log.proofs.Coming.{comes_further, all_settled}
use Rattle.page_log.proofs.log.Log.flush.Goals as goal

pub returns-then-self-eq0-clause-all : goal.returns-then-self-eq0-clause-all
returns-then-self-eq0-clause-all g c =
    let none : IsAllOut (unsettled c.flush_part.new.self) = search rules in
    all_settled (unsettled c.args.self.now) (unsettled c.flush_part.new.self) (g.D.Disks.disk c.args.disks.now) (g.D.Disks.disk c.flush_part.new.disks) none.0 none.1
    c.flush_part.ensures.from

pub returns-clause-from : goal.returns-clause-from
returns-clause-from g c =
    comes_further (unsettled c.args.self.now) (unsettled c.flush_part.new.self) (unsettled c.flush_part-2.new.self)
    (g.D.Disks.disk c.args.disks.now) (g.D.Disks.disk c.flush_part.new.disks) (g.D.Disks.disk c.flush_part-2.new.disks) [] [] c.flush_part.ensures.from c.flush_part-2.ensures.from

pub returns-clause-all : goal.returns-clause-all
returns-clause-all g c =
    let none : OnOk c.flush_part-2.result (IsAllOut (unsettled c.flush_part-2.new.self)) = search rules in
    on_ok_weaker c.flush_part-2.result (λ none. all_settled (unsettled c.args.self.now) (unsettled c.flush_part-2.new.self)
    (g.D.Disks.disk c.args.disks.now) (g.D.Disks.disk c.flush_part-2.new.disks) none.0 none.1 (returns-clause-from g c)) none

pub returns-in_err-flush_part-clause-logs : goal.returns-in_err-flush_part-clause-logs
returns-in_err-flush_part-clause-logs g c =
    log_comes (unsettled c.args.self.now) (unsettled c.flush_part.new.self) (g.D.Disks.disk c.args.disks.now) (g.D.Disks.disk c.flush_part.new.disks) [] c.flush_part.ensures.from

pub returns-then-self-eq0-clause-logs : goal.returns-then-self-eq0-clause-logs
returns-then-self-eq0-clause-logs g c =
    log_comes (unsettled c.args.self.now) (unsettled c.flush_part.new.self) (g.D.Disks.disk c.args.disks.now) (g.D.Disks.disk c.flush_part.new.disks) [] c.flush_part.ensures.from

pub returns-clause-logs : goal.returns-clause-logs
returns-clause-logs g c =
    log_comes (unsettled c.args.self.now) (unsettled c.flush_part-2.new.self) (g.D.Disks.disk c.args.disks.now) (g.D.Disks.disk c.flush_part-2.new.disks) [] (returns-clause-from g c)
