use Rattle.vec_graph.specs.Effect.{after}
use Rattle.vec_graph.proofs.Placing.{free_place}
use Rattle.vec_graph.proofs.Lasting.{on_after}
use Rattle.vec_graph.proofs.law.law_places.Goals as goal

pub returns-clause-on_blocks : goal.returns-clause-on_blocks
returns-clause-on_blocks c = λ a. on_after c.args.base.now c.args.acts.now a c.requires

pub returns-clause-free : goal.returns-clause-free
returns-clause-free c = λ desk new may.
    free_place (after c.args.base.now c.args.acts.now) new.at new.level (record { at = new.at; list_at = new.list_at; version = new.version }) c.requires may.placed
