use Rattle.search_sets.specs.Standing.{held}
use Rattle.graph_search.specs.Descent.{start_at}
use Rattle.std.proofs.Common.{[]}
use Rattle.layer_search.proofs.Looks.{ended_memory, fails}
use Rattle.layer_search.proofs.Turns.{all_one}
use Rattle.layer_search.proofs.expanding.look_at_one.Goals as goal

pub returns-in_err-add_told-clause-err : goal.returns-in_err-add_told-clause-err
returns-in_err-add_told-clause-err g c =
    fails c.from_residual-in_err-add_told.result (λ e is. ended_memory e is c.in_ok-look_at_node.ensures.ok) c.from_residual-in_err-add_told.ensures.1

pub returns-clause-ok : goal.returns-clause-ok
returns-clause-ok g c =
    all_one (start_at c.args.aim.ops c.args.query.now [] c.args.aim.layer) (g.S.Steps.desk c.args.steps.now).params.bits c.args.at c.look_at_node.new.told
    (held c.args.frontier.now) (held c.add_told.new.frontier) c.in_ok-look_at_node.ensures.ok c.in_ok-look_at_node.ensures.bits c.in_ok-add_told.ensures.added
