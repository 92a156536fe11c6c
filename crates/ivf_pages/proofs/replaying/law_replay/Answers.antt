use Rattle.page_redo.proofs.ReplayedOnce.{replay_once}
use Rattle.ivf_pages.proofs.Replays.{replay_stands}
use Rattle.ivf_pages.proofs.replaying.law_replay.Goals as goal

pub returns-clause-stands : goal.returns-clause-stands
returns-clause-stands c = λ p wrap number events pages after g few all stands low follow are. replay_stands p wrap events number pages after g few all stands low follow are

pub returns-clause-once : goal.returns-clause-once
returns-clause-once c = λ p wrap number events pages after again a b. replay_once p wrap number events pages after again a b
