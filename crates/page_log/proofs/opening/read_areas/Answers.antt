use Rattle.std.proofs.Common.{◌≡◌, ◌∙◌, Some, Ok, sym, ap, subst, IfOk}
use Rattle.page_log.specs.Opening.{IsRead, chosen}
use Rattle.page_log.proofs.Fronts.{reads_on, same_seen}
use Rattle.page_log.proofs.opening.read_areas.Goals as goal

pub read_counted-requires-clause-chosen : goal.read_counted-requires-clause-chosen
read_counted-requires-clause-chosen g c told =
    let found : c.in_ok-spot.field-0 ≡ Ok (Some (c.in-Ok-Some.area, c.in-Ok-Some.front)) = cc in
    ap chosen (same_seen _ _ c.find_epoch.ensures.only.kept) ∙ sym (c.in_ok-spot.ensures.chosen told) ∙ found

pub returns-in-Ok-Some-clause-read : goal.returns-in-Ok-Some-clause-read
returns-in-Ok-Some-clause-read g c told =
    subst (λ seen. IfOk c.read_counted.result (IsRead seen)) (same_seen _ _ c.find_epoch.ensures.only.kept) (c.read_counted.ensures.read told)

pub returns-in-Ok-Some-clause-only : goal.returns-in-Ok-Some-clause-only
returns-in-Ok-Some-clause-only g c = reads_on _ _ _ c.find_epoch.ensures.only c.read_counted.ensures.only
