use Rattle.std.specs.Prelude.{Contains}
use Rattle.page_redo.specs.Redo.{touched}
use Rattle.vec_recover.proofs.Marking.{marked_both, marked_none}
use Rattle.vec_recover.proofs.unwritten.mark_event.Goals as goal

pub returns-in-Some : goal.returns-in-Some
returns-in-Some c =
    marked_both c.args.marks.now.items c.mark.new.marks.items c.mark-in-Some.new.marks.items c.in-Some.first c.in-Some.other
    (Contains (touched c.args.event.now c.args.params.now)) (λ block. c.in-Some.ensures block) c.mark.ensures c.mark-in-Some.ensures

pub returns-in-None : goal.returns-in-None
returns-in-None c = marked_none c.args.marks.now.items (Contains (touched c.args.event.now c.args.params.now)) (λ block there. c.in-None.ensures block there)
