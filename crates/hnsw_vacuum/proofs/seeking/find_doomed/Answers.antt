use Rattle.std.proofs.Common.{[], List, subst, sym}
use Rattle.vec_steps.proofs.Following.{goes_then}
use Rattle.hnsw_vacuum.specs.declared.marking.Doomed.{Doomed}
use Rattle.hnsw_vacuum.proofs.Stopped.{handed, stops_then}
use Rattle.hnsw_vacuum.proofs.Finds.{Seeking, first_seeks, looks_then, once}
use Rattle.hnsw_vacuum.proofs.seeking.find_doomed.Goals as goal

pub returns-in_err-find_pages-clause-goes : goal.returns-in_err-find_pages-clause-goes
returns-in_err-find_pages-clause-goes g c =
    let look = c.in_ok-look_at_meta.ensures in
    let mid = c.look_at_meta.new.steps in
    goes_then g.met.S.Steps.comes_on
    (λ base o. let st = look.goes.still_stands base o in
    subst (λ (f : List Doomed). Seeking (g.S.Steps.stands mid) (g.S.Steps.seen mid) (g.S.Steps.desk mid).number 1 c.look_at_meta.new.told.blocks [] f base)
    (sym c.new-found.ensures)
    (first_seeks look.goes.stays c.requires.phase look.ok.does.acts base (g.met.S.Steps.shaped mid base st) (g.met.S.Steps.legal mid base st) o (look.there base o)))
    look.goes c.in_err-find_pages.ensures.goes

pub returns-in_err-find_pages-clause-err : goal.returns-in_err-find_pages-clause-err
returns-in_err-find_pages-clause-err g c =
    let look = c.in_ok-look_at_meta.ensures in
    let mid = c.look_at_meta.new.steps in
    handed _ c.from_residual-in_err-find_pages.result
    (stops_then look.goes.stays
    (λ base o. let st = look.goes.still_stands base o in
    subst (λ (f : List Doomed). Seeking (g.S.Steps.stands mid) (g.S.Steps.seen mid) (g.S.Steps.desk mid).number 1 c.look_at_meta.new.told.blocks [] f base)
    (sym c.new-found.ensures)
    (first_seeks look.goes.stays c.requires.phase look.ok.does.acts base (g.met.S.Steps.shaped mid base st) (g.met.S.Steps.legal mid base st) o (look.there base o)))
    (once look.ok).made c.in_err-find_pages.ensures.err)
    c.from_residual-in_err-find_pages.ensures.1

pub returns-clause-goes : goal.returns-clause-goes
returns-clause-goes g c =
    let look = c.in_ok-look_at_meta.ensures in
    let mid = c.look_at_meta.new.steps in
    goes_then g.met.S.Steps.comes_on
    (λ base o. let st = look.goes.still_stands base o in
    subst (λ (f : List Doomed). Seeking (g.S.Steps.stands mid) (g.S.Steps.seen mid) (g.S.Steps.desk mid).number 1 c.look_at_meta.new.told.blocks [] f base)
    (sym c.new-found.ensures)
    (first_seeks look.goes.stays c.requires.phase look.ok.does.acts base (g.met.S.Steps.shaped mid base st) (g.met.S.Steps.legal mid base st) o (look.there base o)))
    look.goes c.in_ok-find_pages.ensures.goes

pub returns-clause-ok : goal.returns-clause-ok
returns-clause-ok g c =
    let look = c.in_ok-look_at_meta.ensures in
    let mid = c.look_at_meta.new.steps in
    looks_then look.goes.stays
    (λ base o. let st = look.goes.still_stands base o in
    subst (λ (f : List Doomed). Seeking (g.S.Steps.stands mid) (g.S.Steps.seen mid) (g.S.Steps.desk mid).number 1 c.look_at_meta.new.told.blocks [] f base)
    (sym c.new-found.ensures)
    (first_seeks look.goes.stays c.requires.phase look.ok.does.acts base (g.met.S.Steps.shaped mid base st) (g.met.S.Steps.legal mid base st) o (look.there base o)))
    (once look.ok) c.in_ok-find_pages.ensures.ok

pub returns-clause-found : goal.returns-clause-found
returns-clause-found g c = λ base o.
    let look = c.in_ok-look_at_meta.ensures in
    let mid = c.look_at_meta.new.steps in
    let st = look.goes.still_stands base o in
    c.in_ok-find_pages.ensures.so base
    (subst (λ (f : List Doomed). Seeking (g.S.Steps.stands mid) (g.S.Steps.seen mid) (g.S.Steps.desk mid).number 1 c.look_at_meta.new.told.blocks [] f base)
    (sym c.new-found.ensures)
    (first_seeks look.goes.stays c.requires.phase look.ok.does.acts base (g.met.S.Steps.shaped mid base st) (g.met.S.Steps.legal mid base st) o (look.there base o)))
