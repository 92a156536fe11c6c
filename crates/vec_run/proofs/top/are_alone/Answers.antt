use Rattle.std.proofs.Common.{◌∙◌, ap, List, ℕ}
use Rattle.std.specs.Prelude.{nat_eq, codes}
use Rattle.std.specs.Cmp.Lexicographic.{pointwise}
use Rattle.vec_run.proofs.OneWord.{one_word}
use Rattle.vec_run.proofs.top.are_alone.Goals as goal

pub returns-then-words-eq1 : goal.returns-then-words-eq1
returns-then-words-eq1 c =
    one_word c.args.words.now c.index-words-0.result (codes "alone") c.eq.result c.if-words-eq1.true c.index-words-0.is
    (c.eq.ensures ∙ ap (λ (l : List ℕ). pointwise nat_eq l (codes "alone")) c.as_str.ensures.value)
