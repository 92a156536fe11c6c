-- An index keeps at most so many blocks as a place can name.
use Rattle.std.proofs.Common.{ℕ, ◌+◌, ◌-◌, ◌≤◌, List, length, replicate, ap, ◌∙◌, arith}
use Rattle.std.proofs.lemmas.List.{length-append, length-replicate}
use Rattle.index_sizes.specs.declared.limits.TheConstants.{MOST_BLOCKS}
use Rattle.vec_names.specs.declared.params.Params.{Params}
use Rattle.vec_history.specs.declared.event.Event.{Event}
use Rattle.vec_history.specs.declared.event.Event.TheVariants.{Put, Join, Link, Relist, Drop, Mark, Entry, Hint, IvfAdd, IvfGrow, IvfDrop, IvfHint, Gate, Ungate, Phase, VacuumEnd, Cancel, Settled, DiskFaulted}
use Rattle.page_bytes.specs.Content.{Content}
use Rattle.ivf_graph.specs.declared.graph.IvfGraph.{IvfGraph}
use Rattle.page_redo.specs.Growing.{fresh_page, new_kind, blocks_after, AreAllRedone}
use Rattle.ivf_pages.specs.Following.{Follows}

module _ (pages : List Content) (g : IvfGraph) (few : length pages ≤ MOST_BLOCKS) where
  blocks_few : (event : Event) → Follows g event → blocks_after event (length pages) ≤ MOST_BLOCKS
  blocks_few (Put at list_at version level id bits lists) follows = absurd follows
  blocks_few (Join at version id) follows = few
  blocks_few (Link at list_at version slot to) follows = few
  blocks_few (Relist at list_at version lists) follows = few
  blocks_few (Drop at version gone) follows = few
  blocks_few (Mark at list_at version) follows = few
  blocks_few (Entry to level) follows = few
  blocks_few (Hint hint) follows = few
  blocks_few (IvfAdd to id bits) follows = few
  blocks_few (IvfGrow list last new id bits) follows = omega (arith, few, follows.not_high)
  blocks_few (IvfDrop of gone) follows = few
  blocks_few (IvfHint list aim) follows = few
  blocks_few (Gate gate hold) follows = few
  blocks_few (Ungate gate) follows = few
  blocks_few (Phase stage) follows = few
  blocks_few VacuumEnd follows = few
  blocks_few (Cancel stage) follows = few
  blocks_few (Settled upto) follows = few
  blocks_few (DiskFaulted count) follows = few

  pub blocks_kept : (event : Event) (p : Params) (wrap number : ℕ) (after : List Content) → Follows g event
      → AreAllRedone p wrap number event pages after → length after ≤ MOST_BLOCKS
  blocks_kept event p wrap number after follows are =
      let more = blocks_after event (length pages) - length pages in
      let long = length-append pages (replicate more (fresh_page (new_kind event)))
      ∙ ap (λ (n : ℕ). length pages + n) (length-replicate more (fresh_page (new_kind event))) in
      omega (arith, few, blocks_few event follows, long, are.count)
