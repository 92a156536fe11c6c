-- A lasting event that the rules allow follows, and fits the pages.
use Rattle.std.proofs.Common.{◌≡◌, ℕ, true, List}
use Rattle.std.specs.List.{All}
use Rattle.vec_names.specs.declared.params.Params.{Params}
use Rattle.vec_history.specs.declared.event.Event.{Event}
use Rattle.vec_history.specs.declared.event.Event.TheVariants.{Put, Join, Link, Relist, Drop, Mark, Entry, Hint, IvfAdd, IvfGrow, IvfDrop, IvfHint, Gate, Ungate, Phase, VacuumEnd, Cancel, Settled, DiskFaulted}
use Rattle.vec_history.specs.declared.event.Act.{Act}
use Rattle.vec_history.specs.Settling.{is_lasting}
use Rattle.page_bytes.specs.Content.{Content, IsPage}
use Rattle.ivf_graph.specs.declared.graph.IvfGraph.{IvfGraph}
use Rattle.ivf_graph.specs.Rules.{IsEventAllowed}
use Rattle.page_redo.specs.Fitting.{FitsEach}
use Rattle.ivf_pages.specs.Standing.{Stands}
use Rattle.ivf_pages.specs.Following.{Follows}
use Rattle.ivf_pages.proofs.EventFits.{add_fits, drop_fits, aim_fits, grow_fits}

module _ (p : Params) (pages : List Content) (g : IvfGraph) (acts : List Act) (desk : ℕ) (all : All IsPage pages) (s : Stands p pages g) where
  pub allowed_fits : (event : Event) → IsEventAllowed g acts desk event → is_lasting event ≡ true → Follows g event × FitsEach pages p event
  allowed_fits (Put at list_at version level id bits lists) may lasts = absurd may
  allowed_fits (Join at version id) may lasts = absurd may
  allowed_fits (Link at list_at version slot to) may lasts = absurd may
  allowed_fits (Relist at list_at version lists) may lasts = absurd may
  allowed_fits (Drop at version gone) may lasts = absurd may
  allowed_fits (Mark at list_at version) may lasts = absurd may
  allowed_fits (Entry to level) may lasts = absurd may
  allowed_fits (Hint hint) may lasts = absurd may
  allowed_fits (IvfAdd to id bits) may lasts = (tt, add_fits p pages g all s to id bits may)
  allowed_fits (IvfGrow list last new id bits) may lasts = (
    record {
      grows = may.grows;
      is_there = may.is_there;
      ends = may.ends;
      is_next = may.is_next;
      not_high = may.not_high;
    },
    grow_fits p pages g all s list last new id bits may,
  )
  allowed_fits (IvfDrop of gone) may lasts = (tt, drop_fits p pages g all s of gone may.rows may.stands may.rising may.are_there)
  allowed_fits (IvfHint list aim) may lasts = (may, aim_fits p pages g all s list aim may)
  allowed_fits (Gate gate hold) may lasts = absurd cc
  allowed_fits (Ungate gate) may lasts = absurd cc
  allowed_fits (Phase stage) may lasts = absurd cc
  allowed_fits VacuumEnd may lasts = absurd cc
  allowed_fits (Cancel stage) may lasts = absurd cc
  allowed_fits (Settled upto) may lasts = absurd cc
  allowed_fits (DiskFaulted count) may lasts = absurd cc
