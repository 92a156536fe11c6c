use Rattle.std.proofs.Common.{◌≡◌, ◌<◌, ℕ, List, length, sym, ap, subst, ◌∙◌, arith}
use Rattle.std.specs.Prelude.{true}
use Rattle.std.proofs.lemmas.List.{length-map}
use Rattle.vec_tuples.specs.declared.centre.CentreTuple.{CentreTuple}
use Rattle.ivf_graph.specs.Graph.{Row}
use Rattle.ivf_pages.specs.Standing.{chain_from}
use Rattle.ivf_pages.specs.Walking.{HasRows, HasRowsOf, AreChainsApart, chains_of, is_in_some}
use Rattle.ivf_pages.proofs.WholeChains.{chains_apart, chains_there, rows_read}
use Rattle.ivf_pages.proofs.Assembled.{index_is}
use Rattle.ivf_pages.proofs.standing.index_of.Goals as goal

pub lists_of-requires-clause-count : goal.lists_of-requires-clause-count
lists_of-requires-clause-count c =
    ap (λ (cs : List (List ℕ)). length cs) (c.as_slice.ensures ∙ c.requires.chains)
    ∙ length-map c.args.tuples (λ (t : CentreTuple). chain_from c.args.pages.now t.first)

pub lists_of-requires-clause-apart : goal.lists_of-requires-clause-apart
lists_of-requires-clause-apart c =
    subst AreChainsApart (sym (c.as_slice.ensures ∙ c.requires.chains))
    (chains_apart c.args.params.now c.args.pages.now c.requires.in_range c.requires.known c.requires.whole c.args.tuples c.requires.first c.requires.all)

pub lists_of-requires-clause-there : goal.lists_of-requires-clause-there
lists_of-requires-clause-there c = λ block within.
    let here : is_in_some block (chains_of c.args.pages.now c.args.tuples) ≡ true =
    subst (λ (cs : List (List ℕ)). is_in_some block cs ≡ true) (c.as_slice.ensures ∙ c.requires.chains) within in
    let low : block < length c.args.pages.now =
    chains_there c.args.params.now c.args.pages.now c.requires.in_range c.requires.known c.requires.whole c.args.tuples c.requires.first block here in
    let long : length c.into_vec-rows.result.items ≡ length c.args.rows = ap (λ (rows : List (List Row)). length rows) c.into_vec-rows.ensures in
    omega (arith, low, long, c.requires.rows.long, c.into_vec-rows.result.ok.0)

pub returns : goal.returns
returns c =
    let p = c.args.params.now in
    let pages = c.args.pages.now in
    let read = subst (λ (rows : List (List Row)). HasRows p pages (length pages) rows) (sym c.into_vec-rows.ensures) c.requires.rows in
    let same = c.as_slice.ensures ∙ c.requires.chains in (
      p,
      index_is p pages c.args.tuples c.in_ok-lists.lists c.requires.known c.requires.whole c.requires.first c.requires.all
          (c.in_ok-lists.ensures p pages same
          (subst (λ (cs : List (List ℕ)). HasRowsOf p pages (λ block. is_in_some block cs) c.into_vec-rows.result.items) (sym same)
          (rows_read p pages c.requires.in_range c.requires.known c.requires.whole c.args.tuples c.into_vec-rows.result.items c.requires.first read))),
    )
