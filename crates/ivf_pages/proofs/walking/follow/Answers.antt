use Rattle.std.proofs.Common.{◌≡◌, ◌+◌, ◌-◌, ℕ, suc, [], length, Option, Some, sym, ap, subst, ◌∙◌, arith}
use Rattle.ivf_pages.specs.Standing.{is_among, followed}
use Rattle.ivf_pages.proofs.Walks.{IsFollowing, AreAllShared, no_more, one_more, done, all_told}
use Rattle.ivf_pages.proofs.walking.follow.Goals as goal

pub returns-in_default : goal.returns-in_default
returns-in_default c =
    let pages = c.args.pages.now in
    let links = c.args.links.now in
    let before = c.args.marks.now in
    let s = c.loop-i.invariant in
    let most = length pages - c.loop-i.i in
    let shared : AreAllShared before (followed pages most s.met c.loop-i.to) =
    no_more pages links c.requires.links c.args.list c.args.first before c.requires.closed c.requires.below c.requires.long c.loop-i.marks s.met s.marks most
    c.loop-i.to (sym c.arrived.ensures ∙ c.in_default.is) in record {
      marked = done pages links c.requires.links c.args.list c.args.first before c.requires.closed most c.loop-i.marks c.loop-i.from c.loop-i.to c.loop-i.chain s
          shared c.stop.new.marks c.stop.ensures;
      told = all_told pages links c.requires.links c.args.list c.args.first before c.requires.closed most c.loop-i.marks c.loop-i.from c.loop-i.to c.loop-i.chain s
          shared;
    }

pub loop-i-preserved : goal.loop-i-preserved
loop-i-preserved c =
    let pages = c.args.pages.now in
    let links = c.args.links.now in
    let before = c.args.marks.now in
    let most = length pages - (c.loop-i.i + 1) in
    let steps : length pages - c.loop-i.i ≡ suc most = omega arith in
    subst (λ (o : Option ℕ). IsFollowing pages c.args.list c.args.first most before c.come_by.new.marks (Some c.in-Some.block) o c.come_by.new.chain) (sym c.behind-to.ensures)
    (one_more pages links c.requires.links c.args.list c.args.first before c.requires.closed most c.loop-i.marks c.come_by.new.marks c.loop-i.from c.loop-i.to
    c.in-Some.block c.loop-i.chain c.come_by.new.chain c.requires.below c.requires.long
    (subst (λ (n : ℕ). IsFollowing pages c.args.list c.args.first n before c.loop-i.marks c.loop-i.from c.loop-i.to c.loop-i.chain) steps c.loop-i.invariant)
    (sym c.arrived.ensures ∙ c.in-Some.is) c.come_by.ensures.visited c.in_ok-come_by.ensures.told)

pub returns : goal.returns
returns c =
    let pages = c.args.pages.now in
    let links = c.args.links.now in
    let before = c.args.marks.now in
    let s = c.loop-i.invariant in
    let most = length pages - c.loop-i.i in
    let zero_left : most ≡ 0 = omega arith in
    let none : followed pages most s.met c.loop-i.to ≡ [] = ap (λ (n : ℕ). followed pages n s.met c.loop-i.to) zero_left in
    let shared : AreAllShared before (followed pages most s.met c.loop-i.to) =
    λ block within. let no = sym (ap (is_among block) none) ∙ within in absurd cc in record {
      marked = done pages links c.requires.links c.args.list c.args.first before c.requires.closed most c.loop-i.marks c.loop-i.from c.loop-i.to c.loop-i.chain s
          shared c.stop-2.new.marks c.stop-2.ensures;
      told = all_told pages links c.requires.links c.args.list c.args.first before c.requires.closed most c.loop-i.marks c.loop-i.from c.loop-i.to c.loop-i.chain s
          shared;
    }
