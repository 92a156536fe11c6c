use Rattle.std.proofs.Common.{◌≡◌, ◌==◌, List, take, ap, sym, ◌∙◌, arith}
use Rattle.std.specs.List.{find, flat_map}
use Rattle.std.specs.Option.{option_map}
use Rattle.std.proofs.lemmas.List.{take_all}
use Rattle.ivf_graph.specs.declared.list.IvfList.{IvfList}
use Rattle.ivf_graph.specs.Graph.{Part}
use Rattle.ivf_graph.proofs.FirstFound.{found_here, none_more}
use Rattle.ivf_graph.proofs.blocks.rows_on.Goals as goal

pub returns-in-Some : goal.returns-in-Some
returns-in-Some c =
    let here = ap (λ (l : List Part). option_map (λ p. p.1) (find (λ p. p.0 == c.args.block) l)) (sym c.as_slice.ensures) ∙ sym c.in-Some.ensures in
    sym (found_here (λ (p : Part). p.0 == c.args.block) (λ (l : IvfList). l.chain) (λ (p : Part). p.1) c.as_slice-lists.result.now c.loop-list.list-index
    c.list-item.result c.in-Some.rows.now (omega arith) c.list-item.is c.loop-list.invariant here)
    ∙ ap (λ (ls : List IvfList). option_map (λ p. p.1) (find (λ p. p.0 == c.args.block) (flat_map (λ l. l.chain) ls))) c.as_slice-lists.ensures

pub loop-list-preserved : goal.loop-list-preserved
loop-list-preserved c =
    let here = ap (λ (l : List Part). option_map (λ p. p.1) (find (λ p. p.0 == c.args.block) l)) (sym c.as_slice.ensures) ∙ sym (c.in_default.ensures) in
    none_more (λ (p : Part). p.0 == c.args.block) (λ (l : IvfList). l.chain) (λ (p : Part). p.1) c.as_slice-lists.result.now c.loop-list.list-index
    c.list-item.result (omega arith) c.list-item.is c.loop-list.invariant here

pub returns : goal.returns
returns c =
    let all : take c.loop-list.list-index c.as_slice-lists.result.now ≡ c.args.index.now.lists = take_all c.loop-list.list-index c.as_slice-lists.result.now (omega arith) ∙ c.as_slice-lists.ensures in
    sym (ap (λ (ls : List IvfList). option_map (λ p. p.1) (find (λ p. p.0 == c.args.block) (flat_map (λ l. l.chain) ls))) (sym all) ∙ ap (option_map (λ p. p.1)) c.loop-list.invariant)
