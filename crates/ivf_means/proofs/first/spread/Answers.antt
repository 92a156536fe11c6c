use Rattle.std.proofs.Common.{◌≡◌, ◌<◌, ◌+◌, ◌-◌, ◌++◌, ◌∷◌, [], ap, sym, ◌∙◌, List, length, drop, map, arith}
use Rattle.std.specs.Prelude.{Bool}
use Rattle.std.proofs.lemmas.List.{take_at, length-map, length_push}
use Rattle.ivf_means.specs.Places.{greatest_place}
use Rattle.ivf_means.specs.Centres.{values_of, gap, with_farthest}
use Rattle.ivf_means.proofs.Gaps.{gaps_more}
use Rattle.ivf_means.proofs.Moving.{spread_step}
use Rattle.ivf_means.proofs.first.spread.Goals as goal

pub loop-more-preserved : goal.loop-more-preserved
loop-more-preserved c =
    let x = c.index-rows-next.result in
    let values : List (List Bool) = values_of c.args.rows.now in
    let pushed : c.push-in-loop-more.new.self.items ≡ c.loop-more.centres.items ++ x.bits ∷ [] = cc (c.in_ok-push-2.ensures.items, c.in_ok-copied-2.ensures) in
    let long : length c.narrow.new.gaps ≡ c.loop-more.gaps.len = omega arith in
    let size : length c.loop-more.gaps.items ≡ length values = ap length c.loop-more.invariant.gaps ∙ length-map values (gap c.loop-more.centres.items) in
    let within : length values ≡ length c.args.rows.now = length-map c.args.rows.now (λ r. r.bits) in
    let at : c.greatest_of-next.result < length c.args.rows.now = omega (arith, c.greatest_of-next.ensures.there, ap length c.as_slice.ensures.value) in
    record {
      some = omega (arith, ap length pushed, length_push c.loop-more.centres.items x.bits);
      gaps = take_at c.narrow.new.gaps (drop (length c.narrow.new.gaps) c.loop-more.gaps.items) c.loop-more.gaps.len long
          ∙ gaps_more values c.loop-more.centres.items x.bits c.as_mut_slice.result.now c.narrow.new.gaps c.loop-more.invariant.some
          (c.as_mut_slice.ensures.value ∙ c.loop-more.invariant.gaps) c.narrow.ensures.same (λ k h. c.narrow.ensures.each k (omega arith))
          ∙ ap (λ (cs : List (List Bool)). map (gap cs) values) (sym pushed);
      done = ap (λ (cs : List (List Bool)). with_farthest (c.args.params.lists - (c.loop-more.more + 1)) values cs) pushed
          ∙ spread_step c.args.params.lists c.loop-more.more c.args.rows.now c.loop-more.centres.items _ c.loop-more.gaps.items c.greatest_of-next.result x (omega arith)
          c.loop-more.invariant.gaps (c.greatest_of-next.ensures.place ∙ ap greatest_place c.as_slice.ensures.value) at c.index-rows-next.is c.loop-more.invariant.done;
    }
