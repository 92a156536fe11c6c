use Rattle.std.proofs.Common.{◌≡◌, ◌∙◌, ap}
use Rattle.page_log.specs.Opening.{front_at, picked, parity_of}
use Rattle.page_log.proofs.Fronts.{reads_on}
use Rattle.page_log.proofs.opening.find_epoch.Goals as goal
use Rattle.vec_outside.specs.declared.disks.Area.TheVariants.{Log0, Log1}

pub returns-clause-chosen : goal.returns-clause-chosen
returns-clause-chosen g c told =
    let seen = (g.D.Disks.disk c.args.disks.now).seen in
    let second : c.in_ok-second.second ≡ front_at (parity_of Log1) (seen Log1) =
    c.in_ok-second.ensures.front told ∙ ap (front_at (parity_of Log1)) (c.read_front.ensures.only.kept.seen Log1) in
    c.pick.ensures.picked ∙ ap (λ first. picked first c.in_ok-second.second) (c.in_ok-first.ensures.front told) ∙ ap (picked (front_at (parity_of Log0) (seen Log0))) second

pub returns-clause-only : goal.returns-clause-only
returns-clause-only g c = reads_on _ _ _ c.read_front.ensures.only c.read_front-2.ensures.only
