use Rattle.std.proofs.Common.{◌≡◌, ◌+◌, ℕ, Vec, Global, Bool, true≢false, List, refl, sym, ap, subst, ◌∙◌, arith}
use Rattle.vec_recover.specs.Parts.{AreUpTo, IsMarked}
use Rattle.vec_recover.proofs.Marking.{all_below, up_to_marked, up_to_unmarked}
use Rattle.vec_recover.proofs.unwritten.Marks.among.Goals as goal
use Rattle.vec_recover.proofs.unwritten.Marks.among.Goals.{then-is_marked+in_ok-push, else-is_marked}

pub loop-block-preserved : goal.loop-block-preserved
loop-block-preserved c =
    let marks = c.args.self.now.marks.items in
    elim c.if-is_marked.branch as (λ _. AreUpTo marks (c.loop-block.block + 1) c.if-is_marked.list.items) [
      | then-is_marked+in_ok-push w ↦
          subst (AreUpTo marks (c.loop-block.block + 1)) (sym (ap (λ (v : Vec ℕ Global). v.items) w.list-is ∙ w.in_ok-push.ensures.items))
          (up_to_marked marks c.loop-block.block c.loop-block.list.items c.loop-block.invariant
          (subst (λ (l : List Bool). IsMarked l c.loop-block.block) c.as_slice.ensures.value (w.if-is_marked.ensures.0 refl)))
      | else-is_marked w ↦
          subst (AreUpTo marks (c.loop-block.block + 1)) (sym (ap (λ (v : Vec ℕ Global). v.items) w.list-is))
          (up_to_unmarked marks c.loop-block.block c.loop-block.list.items c.loop-block.invariant
          (λ marked. true≢false (sym (w.if-is_marked.ensures.1 (subst (λ (l : List Bool). IsMarked l c.loop-block.block) (sym c.as_slice.ensures.value) marked)))))
    ]

pub returns-clause-there : goal.returns-clause-there
returns-clause-there c =
    let same : c.loop-block.block ≡ c.args.blocks = omega (arith, c.loop-block.auto.block-end, c.loop-block-test.false) in
    all_below c.args.self.now.marks.items c.args.blocks c.loop-block.list.items
    (subst (λ (n : ℕ). AreUpTo c.args.self.now.marks.items n c.loop-block.list.items) same c.loop-block.invariant)
