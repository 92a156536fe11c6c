use Rattle.std.proofs.Common.{◌≡◌, Some, ◌∙◌, refl, length, arith}
use Rattle.std.specs.Prelude.{slice_get}
use Rattle.std.proofs.lemmas.Option.{slice_get_read}
use Rattle.ivf_pages.proofs.Aims.{aim_is}
use Rattle.ivf_pages.proofs.MarkedLists.{IsNextList, below, closed_marks, aim_of, list_more, aims_more, new_here, chains_more, all_chains}
use Rattle.ivf_pages.proofs.walking.follow_all.Goals as goal

pub follow-requires-clause-below : goal.follow-requires-clause-below
follow-requires-clause-below c = below c.args.params.now c.args.pages.now c.loop-list.list c.loop-list.marks c.loop-list.invariant.0

pub follow-requires-clause-closed : goal.follow-requires-clause-closed
follow-requires-clause-closed c = closed_marks c.args.params.now c.args.pages.now c.loop-list.list c.loop-list.marks c.loop-list.invariant.0

pub returns-then-not-has_aim : goal.returns-then-not-has_aim
returns-then-not-has_aim c =
    let p = c.args.params.now in
    let pages = c.args.pages.now in
    let tuples = c.args.tuples.now in
    let list = c.loop-list.list in
    let t = c.index-tuples-list.result in
    let is : slice_get tuples list ≡ Some t = slice_get_read tuples (length tuples) list t refl c.loop-list-test.true c.index-tuples-list.is in
    let n : IsNextList p pages tuples list t = record { first = c.requires.tuples; low = c.loop-list-test.true; is = is } in
    let marks = c.loop-list.invariant.0 in
    let aim =
    aim_is pages c.args.links.now c.requires.links list t c.loop-list.marks c.follow.new.marks marks.long (below p pages list c.loop-list.marks marks)
    c.in_ok-chain.ensures.marked in (
      c.loop-list-test.true,
      aim_of p pages tuples list t n c.has_aim.result (c.has_aim.ensures ∙ aim) ∙ c.if-not-has_aim.true,
      c.loop-list.invariant.1,
    )

pub loop-list-preserved : goal.loop-list-preserved
loop-list-preserved c =
    let p = c.args.params.now in
    let pages = c.args.pages.now in
    let tuples = c.args.tuples.now in
    let list = c.loop-list.list in
    let t = c.index-tuples-list.result in
    let is : slice_get tuples list ≡ Some t = slice_get_read tuples (length tuples) list t refl c.loop-list-test.true c.index-tuples-list.is in
    let n : IsNextList p pages tuples list t = record { first = c.requires.tuples; low = c.loop-list-test.true; is = is } in
    let marks = c.loop-list.invariant.0 in
    let aim =
    aim_is pages c.args.links.now c.requires.links list t c.loop-list.marks c.follow.new.marks marks.long (below p pages list c.loop-list.marks marks)
    c.in_ok-chain.ensures.marked in (
      list_more p pages tuples list t n c.loop-list.marks c.follow.new.marks marks c.in_ok-chain.ensures.marked,
      aims_more p pages tuples list t n c.loop-list.invariant.1
          (aim_of p pages tuples list t n c.has_aim.result (c.has_aim.ensures ∙ aim) ∙ c.if-not-has_aim.false),
      λ apart.
          chains_more p pages tuples list t n c.loop-list.chains c.push.new.self c.in_ok-chain.chain (c.loop-list.invariant.2 apart)
          (c.in_ok-chain.ensures.told (new_here p pages tuples list t n apart c.loop-list.marks marks)) c.in_ok-push.ensures.ok,
    )

pub returns : goal.returns
returns c =
    let list = c.loop-list.list in
    let all : length c.args.tuples.now ≡ list = omega (arith, c.loop-list-test.false, c.loop-list.auto.list-end) in
    let s = c.loop-list.invariant in rw all (
      s.0,
      s.1,
      λ apart. all_chains c.args.pages.now c.args.tuples.now c.loop-list.chains list all (s.2 apart),
    )
