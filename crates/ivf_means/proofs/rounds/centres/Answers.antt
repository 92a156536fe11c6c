use Rattle.std.proofs.Common.{◌≡◌, ◌+◌, ◌-◌, ℕ, suc, refl, length, List, map, ap, sym, subst, ◌∙◌, arith}
use Rattle.std.specs.Prelude.{Bool}
use Rattle.ivf_means.specs.Centres.{values_of, nearest, after_round, first_centres}
use Rattle.ivf_means.proofs.Lengths.{AreOf, are_some, are_few, are_long, values_long, first_are, round_are}
use Rattle.ivf_means.proofs.RoundsSoFar.{IsRound, first, over, next_round, ended, both_false}
use Rattle.ivf_means.proofs.rounds.centres.Goals as goal

pub assign-requires-clause-some : goal.assign-requires-clause-some
assign-requires-clause-some g c = λ κs live.
    are_some c.args.params.lists c.args.params.bits (first_centres c.args.params c.args.word (values_of c.args.rows.now)) c.as_slice.result.now
    (first_are c.args.params c.args.word (values_of c.args.rows.now) c.requires.lists_low (values_long c.args.params.bits c.args.rows.now c.requires.long))
    (c.as_slice.ensures.value ∙ c.in_ok-centres.ensures.value) c.requires.lists_low

pub assign-requires-clause-few : goal.assign-requires-clause-few
assign-requires-clause-few g c = λ κs live.
    are_few c.args.params.lists c.args.params.bits 32768 (first_centres c.args.params c.args.word (values_of c.args.rows.now)) c.as_slice.result.now
    (first_are c.args.params c.args.word (values_of c.args.rows.now) c.requires.lists_low (values_long c.args.params.bits c.args.rows.now c.requires.long))
    (c.as_slice.ensures.value ∙ c.in_ok-centres.ensures.value) c.requires.lists_high

pub assign-requires-clause-long : goal.assign-requires-clause-long
assign-requires-clause-long g c = λ κs live.
    are_long c.args.params.lists c.args.params.bits c.args.params.bits (first_centres c.args.params c.args.word (values_of c.args.rows.now)) c.as_slice.result.now
    (first_are c.args.params c.args.word (values_of c.args.rows.now) c.requires.lists_low (values_long c.args.params.bits c.args.rows.now c.requires.long))
    (c.as_slice.ensures.value ∙ c.in_ok-centres.ensures.value) refl

pub move_all-requires-clause-few : goal.move_all-requires-clause-few
move_all-requires-clause-few g c =
    are_few c.args.params.lists c.args.params.bits 32768 (first_centres c.args.params c.args.word (values_of c.args.rows.now)) c.in_ok-centres.centres.items
    (first_are c.args.params c.args.word (values_of c.args.rows.now) c.requires.lists_low (values_long c.args.params.bits c.args.rows.now c.requires.long))
    c.in_ok-centres.ensures.value c.requires.lists_high

pub move_all-requires-clause-long : goal.move_all-requires-clause-long
move_all-requires-clause-long g c =
    are_long c.args.params.lists c.args.params.bits (length c.in_ok-ones.ones.items) (first_centres c.args.params c.args.word (values_of c.args.rows.now))
    c.in_ok-centres.centres.items
    (first_are c.args.params c.args.word (values_of c.args.rows.now) c.requires.lists_low (values_long c.args.params.bits c.args.rows.now c.requires.long))
    c.in_ok-centres.ensures.value c.in_ok-ones.ensures

pub loop-round-init : goal.loop-round-init
loop-round-init g c =
    let p = c.args.params in
    let values = values_of c.args.rows.now in
    let start = first_centres p c.args.word values in
    let are : AreOf p.lists p.bits start = first_are p c.args.word values c.requires.lists_low (values_long p.bits c.args.rows.now c.requires.long) in
    let begins = c.in_ok-centres.ensures.value in
    let told = c.in_ok-assigned.ensures.value ∙ ap (λ (cs : List (List Bool)). map (nearest cs) values) c.as_slice.ensures.value in
    let becomes = c.move_all.ensures.round told ∙ ap (after_round values) begins in record {
      are = subst (AreOf p.lists p.bits) (sym becomes) (round_are p.lists p.bits values start are);
      room = c.move_all.ensures.room ∙ c.in_ok-ones.ensures;
      round = first p c.args.word values c.move_all.new.centres.items c.in_ok-assigned.assigned.items becomes
          (told ∙ ap (λ (cs : List (List Bool)). map (nearest cs) values) begins);
    }

pub returns-then-are_same-clause-value : goal.returns-then-are_same-clause-value
returns-then-are_same-clause-value g c =
    let p = c.args.params in
    let values = values_of c.args.rows.now in
    let now = c.loop-round.centres.items in
    let next = c.in_ok-next.next.items in
    let steps : 19 - c.loop-round.round ≡ suc (19 - (c.loop-round.round + 1)) = omega (arith, c.loop-round-test.true) in
    let told = c.in_ok-next.ensures.value ∙ ap (λ (cs : List (List Bool)). map (nearest cs) values) c.as_slice-in-loop-round.ensures.value in
    let same = sym c.as_slice-in-loop-round-2.ensures.value ∙ c.are_same.ensures.0 c.if-are_same.true ∙ c.as_slice-in-loop-round-3.ensures.value in
    over p c.args.word values now (19 - (c.loop-round.round + 1)) c.loop-round.assigned.items next
    (subst (λ (n : ℕ). IsRound p c.args.word values now n c.loop-round.assigned.items) steps c.loop-round.invariant.round) told same

pub loop-round-preserved : goal.loop-round-preserved
loop-round-preserved g c =
    let p = c.args.params in
    let values = values_of c.args.rows.now in
    let now = c.loop-round.centres.items in
    let next = c.in_ok-next.next.items in
    let steps : 19 - c.loop-round.round ≡ suc (19 - (c.loop-round.round + 1)) = omega (arith, c.loop-round-test.true) in
    let told = c.in_ok-next.ensures.value ∙ ap (λ (cs : List (List Bool)). map (nearest cs) values) c.as_slice-in-loop-round.ensures.value in
    let becomes = c.move_all-in-loop-round.ensures.round told in record {
      are = subst (AreOf p.lists p.bits) (sym becomes) (round_are p.lists p.bits values now c.loop-round.invariant.are);
      room = c.move_all-in-loop-round.ensures.room ∙ c.loop-round.invariant.room;
      round = next_round p c.args.word values now c.move_all-in-loop-round.new.centres.items (19 - (c.loop-round.round + 1)) c.loop-round.assigned.items next
          (subst (λ (n : ℕ). IsRound p c.args.word values now n c.loop-round.assigned.items) steps c.loop-round.invariant.round) told
          (λ same. absurd (both_false c.are_same.result
          (c.are_same.ensures.1 (c.as_slice-in-loop-round-2.ensures.value ∙ same ∙ sym c.as_slice-in-loop-round-3.ensures.value)) c.if-are_same.false))
          becomes;
    }

pub returns-clause-value : goal.returns-clause-value
returns-clause-value g c =
    ended c.args.params c.args.word (values_of c.args.rows.now) c.loop-round.centres.items (19 - c.loop-round.round) c.loop-round.assigned.items
    c.loop-round.invariant.round (omega arith)
