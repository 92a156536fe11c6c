-- The worked searches, turn by turn.
use Rattle.std.proofs.Common.{◌≡◌, ℕ, [], ◌∷◌, refl, ap, ◌∙◌, arith}
use Rattle.std.specs.declared.cmp.Ordering.TheVariants.{Less, Equal, Greater}
use Rattle.std.specs.Ordering.{nat_cmp, ordering_reverse}
use Rattle.std.proofs.lemmas.Bool.Decides.{nat_tests}
use Rattle.vec_names.specs.declared.tid.Tid.{Tid}
use Rattle.vec_names.specs.Order.{tid_cmp, tid_cmp_total}
use Rattle.bit_code.specs.Places.{tally}
use Rattle.graph_search.specs.Search.{Turn, LayerSearch, IsTurn, only_ef, course_reads}
use Rattle.graph_search.specs.Examples.{Stand, zeros, last_one, last_two, last_three, all_four, element_at, told_of, naming, from_first, three_turns, one_turn, without_rows, told_without_rows, naming_one, from_nearest, turns_through}

self : (n : ℕ) → nat_cmp n n ≡ Equal
self n = grind (arith, nat_tests)

turned : (x y : Tid) → tid_cmp x y ≡ Less → tid_cmp y x ≡ Greater
turned x y e = tid_cmp_total.antisymm y x ∙ ap ordering_reverse e

pub itself : (x : Tid) → tid_cmp x x ≡ Equal
itself x = rw (self x.block, self x.off) refl

module _ (a b c : Stand) (ab : tid_cmp a.at b.at ≡ Less) (ac : tid_cmp a.at c.at ≡ Less) (bc : tid_cmp b.at c.at ≡ Less) where
  one : Turn
  one = record { element = element_at a zeros; list = naming b c; nodes = (b.at, told_of b last_two) ∷ (c.at, told_of c last_three) ∷ [] }

  two : Turn
  two = record { element = element_at b last_two; list = naming a c; nodes = [] }

  three : Turn
  three = record { element = element_at c last_three; list = naming b a; nodes = [] }

  first : IsTurn (from_first a) (only_ef 4) [] one
  unfolding tally one
  first = record {
    goes_on = refl;
    rest = [];
    least = refl;
    looks = rw (turned a.at b.at ab, turned a.at c.at ac, turned b.at c.at bc) refl;
  }

  second : IsTurn (from_first a) (only_ef 4) (one ∷ []) two
  unfolding tally one two
  second = record {
    goes_on = rw (turned a.at b.at ab, turned a.at c.at ac, itself a.at) refl;
    rest = element_at c last_three ∷ [];
    least = rw (turned a.at b.at ab, turned a.at c.at ac, itself a.at) refl;
    looks = rw (ab, ac, turned a.at c.at ac, turned b.at c.at bc, itself a.at, itself c.at) refl;
  }

  third : IsTurn (from_first a) (only_ef 4) (one ∷ two ∷ []) three
  unfolding tally one two three
  third = record {
    goes_on = rw (ab, turned a.at b.at ab, turned a.at c.at ac, turned b.at c.at bc, itself a.at, itself b.at) refl;
    rest = [];
    least = rw (ab, turned a.at b.at ab, turned a.at c.at ac, turned b.at c.at bc, itself a.at, itself b.at) refl;
    looks = rw (ab, ac, bc, turned a.at b.at ab, itself a.at, itself b.at) refl;
  }

  pub worked : LayerSearch (from_first a) 4 (course_reads 0 (three_turns a b c)) (element_at a zeros ∷ element_at b last_two ∷ element_at c last_three ∷ [])
  unfolding tally one two three
  worked = record {
    turns = three_turns a b c;
    course = (first, (second, (third, tt)));
    halted = rw (ab, ac, bc, turned a.at b.at ab, turned a.at c.at ac, turned b.at c.at bc, itself a.at, itself b.at, itself c.at) refl;
    reads_are = refl;
    result_is = rw (turned a.at b.at ab) refl;
  }

  -- ---- with ef 1

  only_first : IsTurn (from_first a) (only_ef 1) [] one
  unfolding tally one
  only_first = record {
    goes_on = rw (itself a.at) refl;
    rest = [];
    least = refl;
    looks = rw (turned a.at b.at ab, turned a.at c.at ac, turned b.at c.at bc) refl;
  }

  pub worked_one : LayerSearch (from_first a) 1 (course_reads 0 (one_turn a b c)) (element_at a zeros ∷ [])
  unfolding tally one
  worked_one = record {
    turns = one_turn a b c;
    course = (only_first, tt);
    halted = rw (turned a.at b.at ab, turned a.at c.at ac, itself a.at, ab) refl;
    reads_are = refl;
    result_is = rw (turned a.at b.at ab) refl;
  }

  -- ---- through a node without rows

  start : Turn
  start = record { element = element_at a last_one; list = naming_one b; nodes = (b.at, told_without_rows b all_four) ∷ [] }

  between : Turn
  between = record { element = without_rows b all_four; list = naming a c; nodes = (c.at, told_of c last_two) ∷ [] }

  beyond : Turn
  beyond = record { element = element_at c last_two; list = naming_one b; nodes = [] }

  starts : IsTurn (from_nearest a) (only_ef 4) [] start
  unfolding tally start
  starts = record {
    goes_on = refl;
    rest = [];
    least = refl;
    looks = rw (turned a.at b.at ab) refl;
  }

  passes : IsTurn (from_nearest a) (only_ef 4) (start ∷ []) between
  unfolding tally start between
  passes = record {
    goes_on = rw (turned a.at b.at ab, itself a.at) refl;
    rest = [];
    least = rw (turned a.at b.at ab, itself a.at) refl;
    looks = rw (turned a.at c.at ac, turned b.at c.at bc, itself a.at) refl;
  }

  ends : IsTurn (from_nearest a) (only_ef 4) (start ∷ between ∷ []) beyond
  unfolding tally start between beyond
  ends = record {
    goes_on = rw (turned a.at b.at ab, turned a.at c.at ac, turned b.at c.at bc, itself a.at, itself b.at) refl;
    rest = [];
    least = rw (turned a.at b.at ab, turned a.at c.at ac, turned b.at c.at bc, itself a.at, itself b.at) refl;
    looks = rw (turned a.at b.at ab, itself b.at) refl;
  }

  pub through : LayerSearch (from_nearest a) 4 (course_reads 0 (turns_through a b c)) (element_at a last_one ∷ element_at c last_two ∷ [])
  unfolding tally start between beyond
  through = record {
    turns = turns_through a b c;
    course = (starts, (passes, (ends, tt)));
    halted = rw (ab, turned a.at b.at ab, turned a.at c.at ac, turned b.at c.at bc, itself a.at, itself b.at, itself c.at) refl;
    reads_are = refl;
    result_is = refl;
  }
