use Rattle.std.proofs.Common.{inl, inr, length, arith}
use Rattle.std.proofs.lemmas.Bool.{cases_lt}
use Rattle.graph_pages.specs.Standing.{IsNodePage}
use Rattle.graph_pages.proofs.PagePlaces.{past_page}
use Rattle.graph_pages.proofs.broken_blocks.first_broken.Goals as goal

pub returns : goal.returns
returns c = λ block low.
    let p = c.args.params.now in
    let pages = c.args.pages.now in
    elim (cases_lt block (length pages)) as (λ _. IsNodePage p pages block) [
      | inl h ↦ c.loop-block.invariant block low (omega arith)
      | inr h ↦ past_page p pages block h
    ]
