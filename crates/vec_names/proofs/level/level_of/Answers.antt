use Rattle.std.proofs.Common.{◌≡◌, ◌<◌, ◌≤◌, ◌+◌, ◌/◌, ◌^◌, suc, refl, sym, ap, subst, ◌∙◌, arith}
use Rattle.vec_names.specs.Levels.{levels_reached}
use Rattle.vec_names.proofs.LevelLaws.{next_reaching, one_more, level_is, all_words}
use Rattle.vec_names.proofs.level.level_of.Goals as goal

pub levels-init : goal.levels-init
levels-init c = (all_words c.args.m, refl)

pub returns-then-from-reaching : goal.returns-then-from-reaching
returns-then-from-reaching c =
    let m = c.args.m in
    let level = c.levels.level in
    let next : c.levels.reaching / c.from-reaching.result ≡ 2 ^ 64 / m ^ suc level = ap (λ n. c.levels.reaching / n) c.from-reaching.ensures ∙ next_reaching m level c.levels.reaching c.levels.invariant.0 in
    let high : 2 ^ 64 / m ^ suc level ≤ c.args.word = omega (arith, next, c.if-from-reaching.true, c.from.ensures) in
    level_is c.args.word m level c.most_level-most.result (omega (arith, c.levels-test.true)) c.levels.invariant.1 high
    ∙ ap (levels_reached c.args.word m) c.most_level-most.ensures

pub levels-preserved : goal.levels-preserved
levels-preserved c =
    let m = c.args.m in
    let level = c.levels.level in
    let next : c.levels.reaching / c.from-reaching.result ≡ 2 ^ 64 / m ^ suc level = ap (λ n. c.levels.reaching / n) c.from-reaching.ensures ∙ next_reaching m level c.levels.reaching c.levels.invariant.0 in
    let one : suc level ≡ level + 1 = omega arith in
    let low : c.args.word < 2 ^ 64 / m ^ suc level = omega (arith, next, c.if-from-reaching.false, c.from.ensures) in
    (next ∙ ap (λ n. 2 ^ 64 / m ^ n) one, subst (λ n. levels_reached c.args.word m n ≡ level + 1) one (one_more c.args.word m level c.levels.invariant.1 low))

pub returns : goal.returns
returns c =
    let at_end : c.levels.level ≡ c.most_level-most.result = omega (arith, c.levels.auto.level-end, c.levels-test.false) in
    sym at_end ∙ sym c.levels.invariant.1 ∙ ap (levels_reached c.args.word c.args.m) (at_end ∙ c.most_level-most.ensures)
