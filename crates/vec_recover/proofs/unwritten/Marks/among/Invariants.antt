use Rattle.vec_recover.specs.Parts.{AreUpTo}
use Rattle.vec_recover.proofs.unwritten.Marks.among.Given as goal

-- the marked blocks so far
abbrev pub invariant-loop-block : goal.invariant-loop-block
invariant-loop-block l = AreUpTo l.self.marks.items l.block l.list.items
