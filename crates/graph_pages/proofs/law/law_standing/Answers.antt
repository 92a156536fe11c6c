use Rattle.graph_pages.proofs.SameGraph.{same_graph}
use Rattle.graph_pages.proofs.StandingShape as shape
use Rattle.graph_pages.proofs.PageShape.{shaped}
use Rattle.graph_pages.proofs.law.law_standing.Goals as goal

pub returns-clause-one_graph : goal.returns-clause-one_graph
returns-clause-one_graph c = same_graph

pub returns-clause-on_blocks : goal.returns-clause-on_blocks
returns-clause-on_blocks c = shape.on_blocks

pub returns-clause-in_range : goal.returns-clause-in_range
returns-clause-in_range c = shape.in_range

pub returns-clause-of_kind : goal.returns-clause-of_kind
returns-clause-of_kind c = shape.of_kind

pub returns-clause-all_slots : goal.returns-clause-all_slots
returns-clause-all_slots c = shape.all_slots

pub returns-clause-shaped : goal.returns-clause-shaped
returns-clause-shaped c = shaped
