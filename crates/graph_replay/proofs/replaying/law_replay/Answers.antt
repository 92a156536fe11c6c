use Rattle.std.proofs.Common.{refl}
use Rattle.graph_pages.specs.Effects.{format_in}
use Rattle.page_redo.proofs.ReplayedOnce.{replay_once}
use Rattle.graph_replay.proofs.Replays.{replay_there, replay_effect}
use Rattle.graph_replay.proofs.replaying.law_replay.Goals as goal

pub returns-clause-there : goal.returns-clause-there
returns-clause-there c = λ pages g events wrap number few all stands low follow.
    let made = replay_there wrap number events pages g (format_in pages) low (record { few = few; bytes = all; stands = stands; of_format = refl }) follow in
    (made.0, made.1)

pub returns-clause-once : goal.returns-clause-once
returns-clause-once c = λ params events wrap number pages after again f h. replay_once params wrap number events pages after again f h

pub returns-clause-stands : goal.returns-clause-stands
returns-clause-stands c = λ pages after g events wrap number few all stands low follow replayed.
    (replay_effect wrap number events pages after g (format_in pages) low (record { few = few; bytes = all; stands = stands; of_format = refl }) follow replayed).stands

pub returns-clause-kept : goal.returns-clause-kept
returns-clause-kept c = λ pages after g events wrap number few all stands low follow replayed.
    let is = replay_effect wrap number events pages after g (format_in pages) low (record { few = few; bytes = all; stands = stands; of_format = refl }) follow replayed in
    (is.bytes, is.few, is.of_format)
