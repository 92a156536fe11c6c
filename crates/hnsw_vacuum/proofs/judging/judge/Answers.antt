use Rattle.std.proofs.Common.{◌≡◌, ◌-◌, suc, length, drop, subst, arith}
use Rattle.std.proofs.lemmas.List.{drop_all}
use Rattle.hnsw_vacuum.specs.Masks.{IsMaskOf}
use Rattle.hnsw_vacuum.proofs.Masking.{count_left, none_yet, one_more, room_left, there, whole}
use Rattle.hnsw_vacuum.proofs.judging.judge.Goals as goal

pub asking-init : goal.asking-init
asking-init g c =
    none_yet (λ id b. g.F.Fn.post c.args.dead.now (id, tt) b) c.args.ids.now (drop_all (length c.args.ids.now) c.args.ids.now (omega arith))

pub with_row-mask-requires-clause-gone : goal.with_row-mask-requires-clause-gone
with_row-mask-requires-clause-gone g c =
    let k : ◌≡◌ c.asking.k (suc (c.asking.k - 1)) = omega (arith, c.asking-test.true) in
    room_left (λ id b. g.F.Fn.post c.args.dead.now (id, tt) b) c.args.ids.now (c.asking.k - 1) c.asking.mask c.requires.few (omega (arith, c.asking-test.true, c.asking.auto.k))
    (subst (λ n. IsMaskOf (λ id b. g.F.Fn.post c.args.dead.now (id, tt) b) (drop n c.args.ids.now) c.asking.mask) k c.asking.invariant)

pub with_row-mask-requires-clause-count : goal.with_row-mask-requires-clause-count
with_row-mask-requires-clause-count g c =
    let k : ◌≡◌ c.asking.k (suc (c.asking.k - 1)) = omega (arith, c.asking-test.true) in
    count_left (λ id b. g.F.Fn.post c.args.dead.now (id, tt) b) c.args.ids.now (c.asking.k - 1) c.asking.mask c.requires.few (omega (arith, c.asking-test.true, c.asking.auto.k))
    (subst (λ n. IsMaskOf (λ id b. g.F.Fn.post c.args.dead.now (id, tt) b) (drop n c.args.ids.now) c.asking.mask) k c.asking.invariant)

pub asking-preserved : goal.asking-preserved
asking-preserved g c =
    let k : ◌≡◌ c.asking.k (suc (c.asking.k - 1)) = omega (arith, c.asking-test.true) in
    one_more (λ id b. g.F.Fn.post c.args.dead.now (id, tt) b) c.args.ids.now (c.asking.k - 1) c.index-ids-k.result c.dead.result c.asking.mask c.with_row-mask.result
    (there (c.asking.k - 1) c.args.ids.now c.index-ids-k.result (omega (arith, c.asking-test.true, c.asking.auto.k)) c.index-ids-k.is) c.dead.ensures
    (subst (λ n. IsMaskOf (λ id b. g.F.Fn.post c.args.dead.now (id, tt) b) (drop n c.args.ids.now) c.asking.mask) k c.asking.invariant)
    c.with_row-mask.ensures.gone c.with_row-mask.ensures.count

pub returns : goal.returns
returns g c =
    whole (λ id b. g.F.Fn.post c.args.dead.now (id, tt) b) c.args.ids.now c.asking.k c.asking.mask (omega (arith, c.asking-test.false)) c.asking.invariant
