use Rattle.std.proofs.Common.{◌≡◌, ◌≤◌, ◌⊎◌, ◌+◌, [], List, Some, length, drop, slice_get, refl, subst, arith}
use Rattle.std.specs.Prelude.{Contains}
use Rattle.std.proofs.lemmas.Option.{slice_get_read}
use Rattle.page_log.specs.Batches.{Placed}
use Rattle.page_redo.specs.Redo.{touched}
use Rattle.vec_recover.specs.Recovering.{IsImaged, IsTouchedBy}
use Rattle.vec_recover.proofs.Left.{left_at, left_none}
use Rattle.vec_recover.proofs.Marking.{IsMarking, marks_also, marks_end, marks_more}
use Rattle.vec_recover.proofs.unwritten.Marks.add_events.Goals as goal

pub loop-placed-init : goal.loop-placed-init
loop-placed-init c = λ images a. marks_also (IsImaged images) (IsTouchedBy c.args.params.now c.args.events.now) c.args.self.now.marks.items a

pub loop-placed-preserved : goal.loop-placed-preserved
loop-placed-preserved c = λ images a.
    let events = c.args.events.now in
    let p = c.args.params.now in
    let k = c.loop-placed.placed-index in
    let here : slice_get events k ≡ Some c.placed-item.result = slice_get_read events _ _ _ refl (omega arith) c.placed-item.is in
    marks_more (λ block. IsImaged images block ⊎ IsTouchedBy p events block) (Contains (touched c.placed-item.result.1 p)) (IsTouchedBy p (drop (k + 1) events))
    c.loop-placed.self.marks.items c.mark_event.new.marks.items
    (subst (λ (l : List Placed). IsMarking (λ block. IsImaged images block ⊎ IsTouchedBy p events block) (IsTouchedBy p l) c.loop-placed.self.marks.items)
    (left_at events k c.placed-item.result here) (c.loop-placed.invariant images a))
    c.mark_event.ensures

pub returns : goal.returns
returns c = λ images a.
    let events = c.args.events.now in
    let p = c.args.params.now in
    let past : length events ≤ c.loop-placed.placed-index = omega (arith, c.loop-placed-test.false) in
    marks_end (λ block. IsImaged images block ⊎ IsTouchedBy p events block) (IsTouchedBy p []) c.loop-placed.self.marks.items
    (subst (λ (l : List Placed). IsMarking (λ block. IsImaged images block ⊎ IsTouchedBy p events block) (IsTouchedBy p l) c.loop-placed.self.marks.items)
    (left_none events c.loop-placed.placed-index past) (c.loop-placed.invariant images a))
    (λ block none. none)
