use Rattle.std.proofs.Common.{◌≡◌, slice_get, Some, refl, arith}
use Rattle.std.proofs.lemmas.Option.{slice_get_read}
use Rattle.vec_graph.specs.Cleaning.{IsEntryClean}
use Rattle.graph_judge.proofs.Positions.{found, none_more, none_at_all}
use Rattle.graph_judge.proofs.cleaning.some_entry_clean.Goals as goal

pub returns-then-is_entry_clean : goal.returns-then-is_entry_clean
returns-then-is_entry_clean c =
    let there : slice_get c.args.states.now c.loop-graph.graph-index ≡ Some c.graph-item.result = slice_get_read c.args.states.now _ _ _ refl (omega arith) c.graph-item.is in
    (λ _. found _ c.args.states.now _ _ there (c.is_entry_clean.ensures.0 c.if-is_entry_clean.true), λ _. refl)

pub loop-graph-preserved : goal.loop-graph-preserved
loop-graph-preserved c =
    let there : slice_get c.args.states.now c.loop-graph.graph-index ≡ Some c.graph-item.result = slice_get_read c.args.states.now _ _ _ refl (omega arith) c.graph-item.is in
    none_more IsEntryClean c.args.states.now _ _ there c.loop-graph.invariant (λ live. let t = c.is_entry_clean.ensures.1 live in absurd (cc (t, c.if-is_entry_clean.false)))

pub returns : goal.returns
returns c = (λ f. absurd (cc), λ some. absurd (none_at_all _ c.args.states.now _ (omega arith) c.loop-graph.invariant some))
