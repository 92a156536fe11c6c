use Rattle.std.proofs.Common.{◌≡◌, inl, inr, ◌+◌, ◌-◌, ◌<◌, ℕ, List, map, length, get_or, arith, sym, ap, ◌∙◌}
use Rattle.std.proofs.lemmas.Bool.{cases_lt}
use Rattle.std.proofs.lemmas.List.{get_or-map}
use Rattle.neighbour_pick.specs.declared.found.Found.{Found}
use Rattle.neighbour_pick.specs.Order.{Candidate, candidate_of, is_nearer}
use Rattle.neighbour_pick.proofs.tests.are_in_order.Goals as goal

read : (found : List Found) (i j : ℕ) (one : Found) (d : Candidate) → j < length found → one ≡ get_or found j one → i ≡ j → get_or (map candidate_of found) i d ≡ candidate_of one
read found i j one d h is same = ap (λ (k : ℕ). get_or (map candidate_of found) k d) same ∙ get_or-map candidate_of found j one d h ∙ ap candidate_of (sym is)

pub loop-i-preserved : goal.loop-i-preserved
loop-i-preserved c k d h =
    elim (cases_lt (k + 1) c.loop-i.i) [
      | inl below ↦ c.loop-i.invariant k d below
      | inr last ↦
          ap (λ (x : Candidate). is_nearer x (get_or (map candidate_of c.args.found.now) k d))
          (read c.args.found.now (k + 1) c.loop-i.i c.index-found-i.result d c.loop-i-test.true c.index-found-i.is (omega arith))
          ∙ ap (λ (y : Candidate). is_nearer (candidate_of c.index-found-i.result) y)
          (read c.args.found.now k (c.loop-i.i - 1) c.index-found-i-in-loop-i.result d (omega arith) c.index-found-i-in-loop-i.is (omega arith))
          ∙ sym c.if-is_before.ensures
    ]
