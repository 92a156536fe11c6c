use Rattle.std.proofs.Common.{◌≡◌, ◌≤◌, ◌+◌, ◌%◌, Bool, List, Some, length, drop, slice_get, refl, subst, arith}
use Rattle.std.proofs.lemmas.Option.{slice_get_read}
use Rattle.page_log.specs.Batches.{Placed}
use Rattle.vec_recover.specs.Parts.{IsNextBy}
use Rattle.vec_recover.proofs.RedoneEvents.{IsGoing, all_redone, begins_so, goes_on, stops_here}
use Rattle.vec_recover.proofs.Left.{left_at, left_none}
use Rattle.vec_recover.proofs.replaying.replay.Goals as goal

pub loop-placed-init : goal.loop-placed-init
loop-placed-init c = begins_so c.args.first c.args.events.now c.args.pages.now.items c.requires.pages

pub redo_next-requires-clause-pages : goal.redo_next-requires-clause-pages
redo_next-requires-clause-pages c = c.loop-placed.invariant.pages

pub returns-then-not-branch : goal.returns-then-not-branch
returns-then-not-branch c =
    let events = c.args.events.now in
    let k = c.loop-placed.placed-index in
    let here : slice_get events k ≡ Some c.placed-item.result = slice_get_read events _ _ _ refl (omega arith) c.placed-item.is in
    let i = subst (λ (l : List Placed). IsGoing c.args.first events l c.args.pages.now.items c.loop-placed.pages.items c.loop-placed.number)
    (left_at events k c.placed-item.result here) c.loop-placed.invariant in
    stops_here c.args.first events (drop (k + 1) events) c.args.pages.now.items c.loop-placed.pages.items c.loop-placed.number c.placed-item.result i
    c.redo_next.new.pages.items
    (subst (λ (b : Bool). IsNextBy c.args.first.params c.args.first.wrap c.loop-placed.number c.placed-item.result.1 c.loop-placed.pages.items c.redo_next.new.pages.items b)
    c.if-not-branch.true c.in_ok-redo_next.ensures) c.redo_next.new.pages.items

pub loop-placed-preserved : goal.loop-placed-preserved
loop-placed-preserved c =
    let events = c.args.events.now in
    let k = c.loop-placed.placed-index in
    let here : slice_get events k ≡ Some c.placed-item.result = slice_get_read events _ _ _ refl (omega arith) c.placed-item.is in
    let i = subst (λ (l : List Placed). IsGoing c.args.first events l c.args.pages.now.items c.loop-placed.pages.items c.loop-placed.number)
    (left_at events k c.placed-item.result here) c.loop-placed.invariant in
    goes_on c.args.first events (drop (k + 1) events) c.args.pages.now.items c.loop-placed.pages.items c.loop-placed.number c.placed-item.result i
    c.redo_next.new.pages.items ((c.loop-placed.number + 1) % 18446744073709551616)
    (subst (λ (b : Bool). IsNextBy c.args.first.params c.args.first.wrap c.loop-placed.number c.placed-item.result.1 c.loop-placed.pages.items c.redo_next.new.pages.items b)
    c.if-not-branch.false c.in_ok-redo_next.ensures) refl

pub returns : goal.returns
returns c =
    let events = c.args.events.now in
    let past : length events ≤ c.loop-placed.placed-index = omega (arith, c.loop-placed-test.false) in
    all_redone c.args.first events c.args.pages.now.items c.loop-placed.pages.items c.loop-placed.number
    (subst (λ (l : List Placed). IsGoing c.args.first events l c.args.pages.now.items c.loop-placed.pages.items c.loop-placed.number)
    (left_none events c.loop-placed.placed-index past) c.loop-placed.invariant)
