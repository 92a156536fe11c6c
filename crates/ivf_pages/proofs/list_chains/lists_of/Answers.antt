use Rattle.std.proofs.Common.{◌≡◌, ◌+◌, ◌<◌, ◌∷◌, ℕ, suc, List, length, drop, subst, ap, arith}
use Rattle.std.specs.Prelude.{vec_len, true}
use Rattle.std.specs.Vec.Iter.{into_iter_items}
use Rattle.vec_tuples.specs.declared.centre.CentreTuple.{CentreTuple}
use Rattle.vec_names.specs.declared.params.Params.{Params}
use Rattle.page_bytes.specs.Content.{Content}
use Rattle.ivf_pages.specs.Standing.{is_among, chain_from, list_with}
use Rattle.ivf_pages.specs.Walking.{AreOthersKept, HasRowsOf}
use Rattle.ivf_pages.proofs.BuiltLists.{IsBuilding, next_is, next_within, one_more}
use Rattle.ivf_pages.proofs.list_chains.lists_of.Goals as goal

pub list_of-requires-clause-there : goal.list_of-requires-clause-there
list_of-requires-clause-there c = λ block within.
    let chains = c.args.chains.now in
    let before = c.args.rows.now.items in
    let now = c.loop-tuple.rows.items in
    let left = into_iter_items c.next.new.self in
    let chain = c.index-chains-i.result in
    let s : IsBuilding c.args.tuples (c.in-Some.tuple ∷ left) chains (chain ∷ drop (c.loop-tuple.i + 1) chains) before now c.loop-tuple.lists =
    next_is c.args.tuples chains before (into_iter_items c.loop-tuple.tuple-iterator) left c.loop-tuple.i chain now c.loop-tuple.lists c.in-Some.tuple
    c.loop-tuple.invariant.3 c.in-Some.ensures.steps.0 c.loop-tuple.invariant.2 c.index-chains-i.is in
    let here : is_among block chain ≡ true = subst (λ (bs : List ℕ). is_among block bs ≡ true) c.as_slice.ensures within in
    let low : block < vec_len c.args.rows.now =
    c.requires.there block (next_within c.args.tuples chains before left chain (drop (c.loop-tuple.i + 1) chains) now c.loop-tuple.lists c.in-Some.tuple s block here) in
    omega (arith, low, s.long, c.loop-tuple.rows.ok.0, c.args.rows.now.ok.0)

pub loop-tuple-preserved : goal.loop-tuple-preserved
loop-tuple-preserved c =
    let chains = c.args.chains.now in
    let before = c.args.rows.now.items in
    let now = c.loop-tuple.rows.items in
    let after = c.list_of.new.rows.items in
    let items = into_iter_items c.loop-tuple.tuple-iterator in
    let left = into_iter_items c.next.new.self in
    let chain = c.index-chains-i.result in
    let s : IsBuilding c.args.tuples (c.in-Some.tuple ∷ left) chains (chain ∷ drop (c.loop-tuple.i + 1) chains) before now c.loop-tuple.lists =
    next_is c.args.tuples chains before items left c.loop-tuple.i chain now c.loop-tuple.lists c.in-Some.tuple
    c.loop-tuple.invariant.3 c.in-Some.ensures.steps.0 c.loop-tuple.invariant.2 c.index-chains-i.is in
    let longer : length items ≡ suc (length left) = ap (λ (ts : List CentreTuple). length ts) c.in-Some.ensures.steps.0 in
    let long : length after ≡ length now = omega (arith, c.list_of.new.rows.ok.0, c.loop-tuple.rows.ok.0, c.in_ok-list.ensures.long) in (
      tt,
      tt,
      omega (arith, longer, c.loop-tuple.invariant.2),
      rw c.in_ok-push.ensures.ok (one_more c.args.tuples chains before left chain (drop (c.loop-tuple.i + 1) chains) now c.loop-tuple.lists c.in-Some.tuple s after
          c.in_ok-list.list long
          (subst (λ (bs : List ℕ). AreOthersKept (λ block. is_among block bs) now after) c.as_slice.ensures c.in_ok-list.ensures.others)
          (subst (λ (bs : List ℕ). (p : Params) (pages : List Content) → bs ≡ chain_from pages c.in-Some.tuple.first
          → HasRowsOf p pages (λ block. is_among block bs) now → c.in_ok-list.list ≡ list_with p pages c.in-Some.tuple) c.as_slice.ensures c.in_ok-list.ensures.list)),
    )
