use Rattle.std.proofs.Common.{◌≡◌, ◌+◌, ◌<◌, ◌∷◌, ℕ, List, length, drop, get_or, subst, arith}
use Rattle.std.specs.Prelude.{vec_len}
use Rattle.std.proofs.lemmas.List.{drop_more}
use Rattle.ivf_pages.proofs.TakenRows.{IsTaking, next_within, one_more}
use Rattle.ivf_pages.proofs.list_chains.chain_of.Goals as goal

pub take_rows-taken-requires : goal.take_rows-taken-requires
take_rows-taken-requires c =
    let blocks = c.args.blocks.now in
    let before = c.args.rows.now.items in
    let now = c.loop-i.rows.items in
    let block = get_or blocks c.loop-i.i 0 in
    let left = drop (c.loop-i.i + 1) blocks in
    let s : IsTaking blocks (block ∷ left) before now c.loop-i.chain =
    subst (λ (bs : List ℕ). IsTaking blocks bs before now c.loop-i.chain) (drop_more blocks c.loop-i.i 0 c.loop-i-test.true) c.loop-i.invariant in
    let within : block < vec_len c.args.rows.now = c.requires.there block (next_within blocks before now block left c.loop-i.chain s) in
    omega (arith, within, s.long, c.loop-i.rows.ok.0, c.args.rows.now.ok.0)

pub loop-i-preserved : goal.loop-i-preserved
loop-i-preserved c =
    let blocks = c.args.blocks.now in
    let before = c.args.rows.now.items in
    let now = c.loop-i.rows.items in
    let after = c.take_rows-taken.new.rows.items in
    let block = get_or blocks c.loop-i.i 0 in
    let left = drop (c.loop-i.i + 1) blocks in
    let s : IsTaking blocks (block ∷ left) before now c.loop-i.chain =
    subst (λ (bs : List ℕ). IsTaking blocks bs before now c.loop-i.chain) (drop_more blocks c.loop-i.i 0 c.loop-i-test.true) c.loop-i.invariant in
    let long : length after ≡ length now = omega (arith, c.take_rows-taken.new.rows.ok.0, c.loop-i.rows.ok.0, c.take_rows-taken.ensures.long) in
    rw c.in_ok-push.ensures.ok
    (one_more blocks before now after block left c.loop-i.chain c.take_rows-taken.result s long c.take_rows-taken.ensures.taken c.take_rows-taken.ensures.others)
