use Rattle.std.proofs.Common.{refl}
use Rattle.graph_pages.specs.Effects.{format_in}
use Rattle.graph_pages.proofs.StandingShape.{on_blocks}
use Rattle.graph_replay.proofs.LegalReplay.{follow, replayed_there, replayed_stands, fronts}
use Rattle.graph_replay.proofs.legal.law_legal_replay.Goals as goal

pub returns-clause-follow : goal.returns-clause-follow
returns-clause-follow c = λ pages base acts number few all stands legal low.
    follow base (on_blocks pages base stands) acts legal number pages (format_in pages) low (record { few = few; bytes = all; stands = stands; of_format = refl })

pub returns-clause-there : goal.returns-clause-there
returns-clause-there c = λ pages base acts number few all stands legal low.
    let made = replayed_there base (on_blocks pages base stands) acts legal number pages (format_in pages) low (record { few = few; bytes = all; stands = stands; of_format = refl }) in
    (made.0, made.1)

pub returns-clause-stands : goal.returns-clause-stands
returns-clause-stands c = λ pages now base acts number few all stands legal low replayed.
    let is = replayed_stands base (on_blocks pages base stands) acts legal number pages (format_in pages) low
    (record { few = few; bytes = all; stands = stands; of_format = refl }) now replayed in
    (is.stands, is.bytes, is.few, is.of_format)

pub returns-clause-fronts : goal.returns-clause-fronts
returns-clause-fronts c = λ pages now base acts number n few all stands legal low replayed.
    let made = fronts base (on_blocks pages base stands) acts legal number pages (format_in pages) low
    (record { few = few; bytes = all; stands = stands; of_format = refl }) n now replayed in
    (made.0, made.1, made.2.stands)
