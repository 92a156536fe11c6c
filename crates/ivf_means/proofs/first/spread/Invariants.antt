use Rattle.std.proofs.Common.{◌≡◌, ◌-◌, ◌%◌, ◌≤◌, ◌∷◌, [], map, get_or, length}
use Rattle.ivf_means.specs.Centres.{values_of, with_farthest, gap}
use Rattle.ivf_means.proofs.first.spread.Given as goal

abbrev pub invariant-loop-more : goal.invariant-loop-more
invariant-loop-more l = record {
  some : 1 ≤ length l.centres.items;
  gaps : l.gaps.items ≡ map (gap l.centres.items) (values_of l.rows);
  done : with_farthest (l.fn.params.lists - l.more) (values_of l.rows) l.centres.items
      ≡ with_farthest (l.fn.params.lists - 1) (values_of l.rows) (get_or (values_of l.rows) (l.word % length l.rows) [] ∷ []);
}
