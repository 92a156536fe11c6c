use Rattle.std.proofs.Common.{◌∙◌, ap, get_or, List, ℕ}
use Rattle.std.proofs.lemmas.Result.{on_ok_weaker}
use Rattle.page_log.specs.Aside.{IsAside}
use Rattle.page_log.specs.Opening.{parity_of}
use Rattle.page_log.proofs.Keeping.{keeps_torn}
use Rattle.page_log.proofs.Shutting.{aside_torn, shut_written}
use Rattle.page_log.proofs.closing.close_open.Goals as goal

pub returns-clause-keeps : goal.returns-clause-keeps
returns-clause-keeps g c below =
    let area = c.args.area in
    let parity = parity_of area in
    let old = g.D.Disks.disk c.args.disks.now in
    let new = g.D.Disks.disk c.write_synced.new.disks in
    keeps_torn (IsAside parity below) area 39 1 old new c.write_synced.ensures.written c.write_synced.ensures.moments (λ was bytes left is torn.
    aside_torn parity below was bytes
    (ap (λ (l : List ℕ). get_or l 39 0) (c.requires.durable was left) ∙ c.requires.open (g.met.D.Disks.leaves_told c.args.disks.now area was left)) is torn)

pub returns-clause-shut : goal.returns-clause-shut
returns-clause-shut g c =
    let area = c.args.area in
    let old = g.D.Disks.disk c.args.disks.now in
    on_ok_weaker c.write_synced.result (λ durable bytes left.
    shut_written (old.seen area) bytes (c.requires.whole (g.met.D.Disks.leaves_told c.write_synced.new.disks area bytes left)) (durable bytes left)) c.write_synced.ensures.durable
