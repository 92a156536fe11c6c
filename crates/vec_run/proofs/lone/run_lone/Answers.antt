use Rattle.std.proofs.Common.{◌∙◌, ap, sym, subst, List}
use Rattle.std.proofs.lemmas.Result.{on_ok_weaker, IfErr-weaker}
use Rattle.vec_history.specs.declared.event.Act.{Act}
use Rattle.vec_steps.specs.Index.{OfNodes, IsLegal}
use Rattle.vec_outside.specs.MemDisks.{disks_plan}
use Rattle.vec_board.specs.Boards.{StandsWhole}
use Rattle.vec_board.specs.Looking.{desk_of}
use Rattle.vec_board.specs.Standing.{acts_of}
use Rattle.empty_index.specs.Empty.{empty_graph}
use Rattle.vec_run.proofs.Running.{new_runs, new_stops}
use Rattle.vec_run.proofs.lone.run_lone.Goals as goal

pub returns-clause-legal : goal.returns-clause-legal
returns-clause-legal c =
    let base = OfNodes (empty_graph c.args.params) in
    let stands = c.run_all-ended.ensures.goes.still_stands base c.requires.stands in
    subst (λ (l : List Act). IsLegal base l) (sym (c.into_parts-acts.ensures.acts ∙ ap (λ b. acts_of b.core) c.into_board.ensures)) stands.stands.legal

pub returns-clause-ok : goal.returns-clause-ok
returns-clause-ok c =
    let b = c.args.desk.board in
    on_ok_weaker c.run_all-ended.result
    (new_runs c.args.params (StandsWhole b.core b.pages.pages.items (disks_plan b.disks).faults) c.requires.stands (desk_of b.core 0) c.requires.desk
    (acts_of b.core) (acts_of c.run_all-ended.new.steps.board.core) c.into_parts-acts.result.1.items c.requires.no_act
    (c.into_parts-acts.ensures.acts ∙ ap (λ b. acts_of b.core) c.into_board.ensures) c.args.lines.now c.args.commands.now c.args.done.now c.run_all-ended.new.done)
    c.run_all-ended.ensures.ok

pub returns-clause-err : goal.returns-clause-err
returns-clause-err c =
    let b = c.args.desk.board in
    IfErr-weaker c.run_all-ended.result _ _
    (new_stops c.args.params (StandsWhole b.core b.pages.pages.items (disks_plan b.disks).faults) c.requires.stands (desk_of b.core 0) c.requires.desk
    (acts_of b.core) (acts_of c.run_all-ended.new.steps.board.core) c.into_parts-acts.result.1.items c.requires.no_act
    (c.into_parts-acts.ensures.acts ∙ ap (λ b. acts_of b.core) c.into_board.ensures) c.args.lines.now c.args.commands.now c.args.done.now c.run_all-ended.new.done)
    c.run_all-ended.ensures.err
