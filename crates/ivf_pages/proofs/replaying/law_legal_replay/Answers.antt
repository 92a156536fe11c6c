use Rattle.std.proofs.Common.{subst, []}
use Rattle.ivf_graph.specs.declared.graph.IvfGraph.{IvfGraph}
use Rattle.ivf_pages.specs.Standing.{Stands}
use Rattle.page_redo.specs.Replaying.{logged}
use Rattle.ivf_pages.proofs.Replays.{replay_stands, logged_effect, legal_follow}
use Rattle.ivf_pages.proofs.LegalReplay.{replay_there}
use Rattle.ivf_pages.proofs.replaying.law_legal_replay.Goals as goal

pub returns-clause-there : goal.returns-clause-there
returns-clause-there c = λ p wrap number acts pages base few all stands low legal. replay_there p wrap base acts [] number pages legal few all stands low

pub returns-clause-follow : goal.returns-clause-follow
returns-clause-follow c = λ base acts legal. legal_follow base acts legal

pub returns-clause-stands : goal.returns-clause-stands
returns-clause-stands c = λ p wrap number acts pages after base few all stands low legal are.
    subst (λ (h : IvfGraph). Stands p after h) (logged_effect acts base)
    (replay_stands p wrap (logged acts) number pages after base few all stands low (legal_follow base acts legal) are).0
