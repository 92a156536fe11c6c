-- A lasting event that the rules allow can be written to a log.
use Rattle.std.proofs.Common.{◌≡◌, ◌≢◌, ℕ, ◌≤◌, ◌&&◌, Bool, true, List, [], ◌∷◌, length, Some, sym, ap, ◌∙◌, arith}
use Rattle.std.specs.Prelude.{slice_get, nat_lt, nat_le}
use Rattle.std.specs.List.{All}
use Rattle.std.proofs.lemmas.Bool.{and_parts, ltb-true}
use Rattle.std.proofs.lemmas.List.Elements.{All-head}
use Rattle.std.proofs.lemmas.Option.{slice_get_within}
use Rattle.index_sizes.specs.declared.limits.TheConstants.{MOST_BLOCKS, LAST_BLOCK}
use Rattle.vec_names.specs.declared.params.Params.{Params}
use Rattle.vec_names.specs.Params.{IsInRangeOf, AreListsInRange}
use Rattle.vec_history.specs.declared.event.Event.{Event}
use Rattle.vec_history.specs.declared.event.Event.TheVariants.{Put, Join, Link, Relist, Drop, Mark, Entry, Hint, IvfAdd, IvfGrow, IvfDrop, IvfHint, Gate, Ungate, Phase, VacuumEnd, Cancel, Settled, DiskFaulted}
use Rattle.vec_history.specs.declared.event.Act.{Act}
use Rattle.vec_history.specs.Settling.{is_lasting}
use Rattle.vec_event.specs.Spelling.{IsWritable, RisesFrom}
use Rattle.page_bytes.specs.Content.{Content, IsPage}
use Rattle.ivf_graph.specs.declared.list.IvfList.{IvfList}
use Rattle.ivf_graph.specs.declared.graph.IvfGraph.{IvfGraph}
use Rattle.ivf_graph.specs.Graph.{last_block, IsOfChain}
use Rattle.ivf_graph.specs.Rules.{IsEventAllowed, IsAddAllowed, IsGrowAllowed, IsCutAllowed, IsAimAllowed}
use Rattle.page_redo.specs.PageChanges.{rises}
use Rattle.ivf_pages.specs.Standing.{is_among, chain_from, part_in, Stands}
use Rattle.ivf_pages.proofs.Chains.{among_chain, entries_there}
use Rattle.ivf_pages.proofs.Root.{in_range}
use Rattle.ivf_pages.proofs.StandingLaws.{of_kind}
use Rattle.ivf_pages.proofs.EventFits.{rises_from}
use Rattle.ivf_pages.proofs.GrowEffect.{last_among}
use Rattle.ivf_pages.proofs.AimEffect.{among_chain_of}
use Rattle.ivf_pages.proofs.Ended.{ends_among}
use Rattle.ivf_pages.proofs.RowsThere.{rows_there, tuple_of_list}
use Rattle.std.proofs.Common.{refl, subst}

rising : (low high : ℕ) (offs : List ℕ) → rises low high offs ≡ true → RisesFrom low offs
rising low high [] is = tt
rising low high (off ∷ offs) is =
    let a = and_parts (nat_lt low off) (nat_le off high && rises off high offs) is in
    let b = and_parts (nat_le off high) (rises off high offs) a.1 in
    (ltb-true low off a.0, rising off high offs b.1)

some_long : (offs : List ℕ) → offs ≢ [] → 1 ≤ length offs
some_long [] some = absurd (some refl)
some_long (x ∷ xs) some = omega arith

module _ (p : Params) (pages : List Content) (g : IvfGraph) (few : length pages ≤ MOST_BLOCKS) (all : All IsPage pages) (s : Stands p pages g) where
  few_lists : p.lists ≤ MOST_BLOCKS
  few_lists = let r : AreListsInRange p = subst (λ k. IsInRangeOf k p) (of_kind p pages g s) (in_range pages p all s.params).of_kind in r.lists_high

  list_low : (list : ℕ) (l : IvfList) → slice_get g.lists list ≡ Some l → list ≤ LAST_BLOCK
  list_low list l is = omega (arith, slice_get_within g.lists list l is, s.count, few_lists)

  among_low : (list : ℕ) (l : IvfList) (is : slice_get g.lists list ≡ Some l) (block : ℕ)
      → is_among block (chain_from pages (tuple_of_list p pages g s list l is).0.first) ≡ true → block ≤ LAST_BLOCK
  among_low list l is block within =
      let t = tuple_of_list p pages g s list l is in
      let c = entries_there (slice_get pages block) (among_chain pages (Some t.0) block within) in omega (arith, slice_get_within pages block c.0 c.1, few)

  add_written : (block : ℕ) (bits : List Bool) → IsAddAllowed g block bits → block ≤ LAST_BLOCK
  add_written block bits may =
      let page = rows_there p pages g block may.rows s may.stands in omega (arith, slice_get_within pages block page.page page.there, few)

  grow_written : (list last block : ℕ) (bits : List Bool) → IsGrowAllowed g list last block bits → (list ≤ LAST_BLOCK) × (last ≤ LAST_BLOCK) × (block ≤ LAST_BLOCK)
  grow_written list last block bits may =
      let t = tuple_of_list p pages g s list may.grows may.is_there in
      let at = last_among (part_in p pages) (λ b. refl) (chain_from pages t.0.first) last (ap (λ (l : IvfList). last_block l.chain) t.2 ∙ may.ends) in (
        list_low list may.grows may.is_there,
        among_low list may.grows may.is_there last (ends_among last (chain_from pages t.0.first) at),
        omega (arith, may.not_high),
      )

  cut_written : (acts : List Act) (desk block : ℕ) (gone : List ℕ) → IsCutAllowed g acts desk block gone
      → (block ≤ LAST_BLOCK) × (1 ≤ length gone) × RisesFrom 0 gone
  cut_written acts desk block gone may =
      let page = rows_there p pages g block may.rows s may.stands in (
        omega (arith, slice_get_within pages block page.page page.there, few),
        some_long gone may.some,
        rising 0 (length may.rows) gone
            (rises_from 0 (length may.rows) gone may.rising may.are_there (λ first rest is.
            let there = All-head (λ off. (1 ≤ off) × (off ≤ length may.rows)) first rest
            (subst (λ (offs : List ℕ). All (λ off. (1 ≤ off) × (off ≤ length may.rows)) offs) is may.are_there) in
            omega (arith, there.0))),
      )

  aim_written : (list block : ℕ) → IsAimAllowed g list block → (list ≤ LAST_BLOCK) × (block ≤ LAST_BLOCK)
  aim_written list block may =
      let t = tuple_of_list p pages g s list may.aims may.is_there in (
        list_low list may.aims may.is_there,
        among_low list may.aims may.is_there block
            (among_chain_of (part_in p pages) (λ b. refl) (chain_from pages t.0.first) block (subst (λ (l : IvfList). IsOfChain l.chain block) (sym t.2) may.of_chain)),
      )

  pub written : (acts : List Act) (desk : ℕ) (event : Event) → IsEventAllowed g acts desk event → is_lasting event ≡ true → IsWritable event
  unfolding IsWritable
  written acts desk (Put at list_at version level id bits lists) may lasts = absurd may
  written acts desk (Join at version id) may lasts = absurd may
  written acts desk (Link at list_at version slot to) may lasts = absurd may
  written acts desk (Relist at list_at version lists) may lasts = absurd may
  written acts desk (Drop at version gone) may lasts = absurd may
  written acts desk (Mark at list_at version) may lasts = absurd may
  written acts desk (Entry to level) may lasts = absurd may
  written acts desk (Hint hint) may lasts = absurd may
  written acts desk (IvfAdd to id bits) may lasts = add_written to bits may
  written acts desk (IvfGrow list last new id bits) may lasts = grow_written list last new bits may
  written acts desk (IvfDrop of gone) may lasts = cut_written acts desk of gone may
  written acts desk (IvfHint list aim) may lasts = aim_written list aim may
  written acts desk (Gate gate hold) may lasts = absurd cc
  written acts desk (Ungate gate) may lasts = absurd cc
  written acts desk (Phase stage) may lasts = absurd cc
  written acts desk VacuumEnd may lasts = absurd cc
  written acts desk (Cancel stage) may lasts = absurd cc
  written acts desk (Settled upto) may lasts = absurd cc
  written acts desk (DiskFaulted count) may lasts = absurd cc
