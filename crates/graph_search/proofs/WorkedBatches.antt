-- The worked batches: all of it is computed.
use Rattle.std.proofs.Common.{◌≡◌, ℕ, Bool, true, false, cond, [], ◌∷◌, Option, Some, None, refl, sym, ap}
use Rattle.bit_dist.specs.declared.dist.Dist.{Dist}
use Rattle.bit_code.specs.Places.{tally}
use Rattle.bit_dist.specs.Distances.{hamming_of}
use Rattle.vec_names.specs.declared.params.Ops.TheVariants.{Hamming}
use Rattle.graph_search.specs.Search.{Turn, Bounds, IsTurn, only_ef}
use Rattle.graph_search.specs.Reads.{AtList, Gone, OfList}
use Rattle.graph_search.specs.Descent.{lowered}
use Rattle.graph_search.specs.Scan.{FirstBatch, NextBatch, Mode, Off, Relaxed, Strict, GoesOn, is_less, let_through}
use Rattle.graph_search.specs.Examples.{zeros, last_one, last_two, last_three}
use Rattle.graph_search.specs.Batches.{first, second, third, list_place, row_1, row_2, row_3, element, told_as, given_of, look_again, near_one, far_one, from_near, near_turn, first_reads, after_first, come_between, second_reads, after_second, after_third, from_zeros, zeros_turn, before_reuse, gone_turn, after_reuse}

first_turn : IsTurn from_near (only_ef 1) [] near_turn
unfolding tally
first_turn = record { goes_on = refl; rest = []; least = refl; looks = refl }

pub first_batch : FirstBatch Hamming zeros 1 first_reads (given_of first row_1 last_two ∷ []) false after_first
unfolding tally
first_batch = record {
  down = _;
  top = Some 0;
  from = near_one ∷ [];
  descent = lowered first 0 1 2 (told_as row_1 last_two) near_one [] (near_one ∷ []) refl (refl, refl);
  on = _;
  searched = record {
    turns = near_turn ∷ [];
    course = (first_turn, tt);
    halted = refl;
    reads_are = refl;
    given_are = refl;
    now_is = refl;
  };
  reads_are = refl;
  end_is = refl;
}

more : ℕ → Bounds
more n = record { ef = 1; taken = first ∷ []; most = Some n }

come_first : Turn
come_first = record { element = far_one; list = OfList (Some first ∷ Some third ∷ None ∷ None ∷ []); nodes = (third, told_as row_3 last_one) ∷ [] }

first_more : IsTurn from_near (more 20000) (near_turn ∷ []) come_first
unfolding tally more come_first
first_more = record { goes_on = refl; rest = []; least = refl; looks = refl }

come_second : Turn
come_second = record { element = element third row_3 last_one; list = OfList (Some first ∷ Some second ∷ None ∷ None ∷ []); nodes = [] }

second_more : IsTurn from_near (more 20000) (near_turn ∷ come_first ∷ []) come_second
unfolding tally more come_first come_second
second_more = record { goes_on = refl; rest = []; least = refl; looks = refl }

-- the row that came between is nearer than the last one given
pub second_relaxed : NextBatch 1 20000 Relaxed after_first second_reads (given_of third row_3 last_one ∷ []) false (after_second (hamming_of zeros last_one))
unfolding tally more come_first come_second
second_relaxed = record {
  goes_on = tt;
  more = come_between;
  bounds = more 20000;
  bounds_are = refl;
  course = (first_more, (second_more, tt));
  halted = refl;
  batch = element third row_3 last_one ∷ [];
  batch_is = refl;
  again = [];
  rows = given_of third row_3 last_one ∷ [];
  takes = ([], refl, (refl, refl));
  reads_are = refl;
  given_are = refl;
  end_is = refl;
  now_is = refl;
}

pub second_strict : NextBatch 1 20000 Strict after_first second_reads [] false (after_second (hamming_of zeros last_two))
unfolding tally more come_first come_second
second_strict = record {
  goes_on = tt;
  more = come_between;
  bounds = more 20000;
  bounds_are = refl;
  course = (first_more, (second_more, tt));
  halted = refl;
  batch = element third row_3 last_one ∷ [];
  batch_is = refl;
  again = [];
  rows = given_of third row_3 last_one ∷ [];
  takes = ([], refl, (refl, refl));
  reads_are = refl;
  given_are = refl;
  end_is = refl;
  now_is = refl;
}

-- the element that an earlier batch knew is looked at again; both modes let its row through
pub third_batch : (mode : Mode) (last : Dist) → GoesOn mode → is_less (hamming_of zeros last_three) (Some last) ≡ false
    → NextBatch 1 20000 mode (after_second last) (look_again second (told_as row_2 last_three) ∷ []) (given_of second row_2 last_three ∷ []) false after_third
unfolding tally
third_batch Off last goes far = absurd goes
third_batch Relaxed last goes far = record {
  goes_on = tt;
  more = [];
  bounds = record { ef = 1; taken = first ∷ third ∷ []; most = Some 20000 };
  bounds_are = refl;
  course = tt;
  halted = refl;
  batch = far_one ∷ [];
  batch_is = refl;
  again = look_again second (told_as row_2 last_three) ∷ [];
  rows = given_of second row_2 last_three ∷ [];
  takes = (told_as row_2 last_three, [], [], refl, refl, (refl, refl));
  reads_are = refl;
  given_are = refl;
  end_is = refl;
  now_is = refl;
}
third_batch Strict last goes far = record {
  goes_on = tt;
  more = [];
  bounds = record { ef = 1; taken = first ∷ third ∷ []; most = Some 20000 };
  bounds_are = refl;
  course = tt;
  halted = refl;
  batch = far_one ∷ [];
  batch_is = refl;
  again = look_again second (told_as row_2 last_three) ∷ [];
  rows = given_of second row_2 last_three ∷ [];
  takes = (told_as row_2 last_three, [], [], refl, refl, (refl, refl));
  reads_are = refl;
  given_are = sym (ap (λ (b : Bool). cond b [] (given_of second row_2 last_three ∷ [])) far);
  end_is = refl;
  now_is = refl;
}

no_more : (mode : Mode) → GoesOn mode → (last : Option Dist) → [] ≡ let_through mode last []
no_more Off goes last = absurd goes
no_more Relaxed goes last = refl
no_more Strict goes last = refl

pub end_batch : (mode : Mode) → GoesOn mode → NextBatch 1 20000 mode after_third [] [] true after_third
unfolding tally
end_batch mode goes = record {
  goes_on = goes;
  more = [];
  bounds = record { ef = 1; taken = first ∷ third ∷ second ∷ []; most = Some 20000 };
  bounds_are = refl;
  course = tt;
  halted = refl;
  batch = [];
  batch_is = refl;
  again = [];
  rows = [];
  takes = (refl, refl);
  reads_are = refl;
  given_are = no_more mode goes (Some (hamming_of zeros last_three));
  end_is = refl;
  now_is = refl;
}

-- ---- a place used anew

gone_next : IsTurn from_zeros (more 20000) (zeros_turn ∷ []) gone_turn
unfolding tally more
gone_next = record { goes_on = refl; rest = element third row_3 last_three ∷ []; least = refl; looks = refl }

pub reuse_batch : (mode : Mode) → GoesOn mode
    → NextBatch 1 20000 mode before_reuse ((AtList second list_place 0 1 0, Gone) ∷ look_again second Gone ∷ []) [] false after_reuse
unfolding tally more
reuse_batch mode goes = record {
  goes_on = goes;
  more = gone_turn ∷ [];
  bounds = more 20000;
  bounds_are = refl;
  course = (gone_next, tt);
  halted = refl;
  batch = element second row_2 last_two ∷ [];
  batch_is = refl;
  again = look_again second Gone ∷ [];
  rows = [];
  takes = (Gone, [], [], refl, refl, (refl, refl));
  reads_are = refl;
  given_are = no_more mode goes (Some (hamming_of zeros zeros));
  end_is = refl;
  now_is = refl;
}
