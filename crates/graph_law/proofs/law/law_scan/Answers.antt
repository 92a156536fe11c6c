use Rattle.vec_graph.proofs.Shaping.{on_blocks_of}
use Rattle.graph_law.proofs.Entering.{entry_high}
use Rattle.graph_law.proofs.Facts.{scan_same}
use Rattle.graph_law.proofs.ActByAct.{scan_not_deleted, scan_high, scan_live_at, scan_not_marked}
use Rattle.graph_law.proofs.law.law_scan.Goals as goal

pub returns-clause-not_deleted : goal.returns-clause-not_deleted
returns-clause-not_deleted c = scan_not_deleted c.args.base.now (on_blocks_of c.args.base.now c.requires.shaped) c.requires.sound c.args.acts.now c.requires.legal

pub returns-clause-high_enough : goal.returns-clause-high_enough
returns-clause-high_enough c = scan_high c.args.base.now (on_blocks_of c.args.base.now c.requires.shaped) c.requires.sound c.args.acts.now c.requires.legal

pub returns-clause-live : goal.returns-clause-live
returns-clause-live c = scan_live_at c.args.base.now (on_blocks_of c.args.base.now c.requires.shaped) c.requires.sound c.args.acts.now c.requires.legal

pub returns-clause-not_marked : goal.returns-clause-not_marked
returns-clause-not_marked c = scan_not_marked c.args.base.now (on_blocks_of c.args.base.now c.requires.shaped) c.requires.sound c.args.acts.now c.requires.legal

pub returns-clause-entry : goal.returns-clause-entry
returns-clause-entry c = entry_high c.args.base.now c.requires.shaped c.args.acts.now c.requires.legal

pub returns-clause-same : goal.returns-clause-same
returns-clause-same c = scan_same c.args.base.now (on_blocks_of c.args.base.now c.requires.shaped) c.requires.sound c.args.acts.now c.requires.legal
