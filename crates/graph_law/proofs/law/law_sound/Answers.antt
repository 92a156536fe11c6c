use Rattle.std.proofs.Common.{take}
use Rattle.vec_history.proofs.ByActs.{cut}
use Rattle.vec_graph.specs.Legal.{IsAllowed}
use Rattle.vec_graph.proofs.Shaping.{on_blocks_of, shaped_after}
use Rattle.graph_law.proofs.ActByAct.{sound_at, sound_since_mark}
use Rattle.graph_law.proofs.law.law_sound.Goals as goal

pub returns-clause-shaped : goal.returns-clause-shaped
returns-clause-shaped c = λ n. shaped_after c.args.base.now c.requires.shaped (take n c.args.acts.now) (cut (IsAllowed c.args.base.now) c.args.acts.now n c.requires.legal)

pub returns-clause-sound : goal.returns-clause-sound
returns-clause-sound c = λ sound. sound_at c.args.base.now (on_blocks_of c.args.base.now c.requires.shaped) sound c.args.acts.now c.requires.legal

pub returns-clause-since_mark : goal.returns-clause-since_mark
returns-clause-since_mark c = λ sound. sound_since_mark c.args.base.now (on_blocks_of c.args.base.now c.requires.shaped) sound c.args.acts.now c.requires.legal
