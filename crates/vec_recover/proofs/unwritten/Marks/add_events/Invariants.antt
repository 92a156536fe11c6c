use Rattle.std.proofs.Common.{◌⊎◌, ℕ, List, drop}
use Rattle.page_bytes.specs.Content.{Content}
use Rattle.vec_recover.specs.Recovering.{IsImaged, IsTouchedBy}
use Rattle.vec_recover.specs.Parts.{AreMarked}
use Rattle.vec_recover.proofs.Marking.{IsMarking}
use Rattle.vec_recover.proofs.unwritten.Marks.add_events.Given as goal

-- the events so far are marked
abbrev pub invariant-loop-placed : goal.invariant-loop-placed
invariant-loop-placed l = (images : List (ℕ × Content)) → AreMarked l.fn.self.marks.items (IsImaged images)
    → IsMarking (λ block. IsImaged images block ⊎ IsTouchedBy l.params l.events block) (IsTouchedBy l.params (drop l.placed-index l.events)) l.self.marks.items
