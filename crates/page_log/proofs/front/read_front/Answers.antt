use Rattle.std.proofs.Common.{◌≡◌, ◌∙◌, take, ap, arith}
use Rattle.page_log.specs.Opening.{front_at, parity_of}
use Rattle.page_log.proofs.Fronts.{read_one, reads_on}
use Rattle.page_log.proofs.HeadParts.{front_same}
use Rattle.page_log.proofs.front.read_front.Goals as goal

pub returns-clause-front : goal.returns-clause-front
returns-clause-front g c told =
    let area = (g.D.Disks.disk c.args.disks.now).seen c.args.area in
    let bytes : c.deref.result.now ≡ take 40 area = c.deref.ensures.value ∙ c.in_ok-front.ensures.bytes told ∙ ap (take 40) (c.len.ensures.kept.seen c.args.area) in
    c.front_at.ensures.same ∙ ap (λ parity. front_at parity c.deref.result.now) c.parity_of.ensures ∙ ap (front_at (parity_of c.args.area)) bytes
    ∙ front_same (parity_of c.args.area) area (omega (arith, c.if-branch.false, c.in_ok-len.ensures.len told))

pub returns-clause-only : goal.returns-clause-only
returns-clause-only g c =
    reads_on _ _ _ (read_one _ _ (g.met.D.Disks.only_now c.args.disks.now) c.len.ensures.kept c.len.ensures.time) c.read_bytes.ensures.only
