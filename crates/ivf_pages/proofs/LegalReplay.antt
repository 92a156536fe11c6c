-- The log of a legal history can be replayed.
use Rattle.std.proofs.Common.{◌≡◌, ℕ, ◌+◌, ◌^◌, ◌<◌, ◌≤◌, Bool, true, false, cond, List, [], ◌∷◌, ◌++◌, length, refl, sym, subst, arith}
use Rattle.std.specs.List.{All}
use Rattle.std.proofs.lemmas.Nat.{mod_below}
use Rattle.index_sizes.specs.declared.limits.TheConstants.{MOST_BLOCKS}
use Rattle.vec_names.specs.declared.params.Params.{Params}
use Rattle.vec_history.specs.declared.event.Act.{Act}
use Rattle.vec_history.specs.Settling.{is_lasting}
use Rattle.vec_history.specs.Legal.{IsLegalAfter}
use Rattle.page_bytes.specs.Content.{Content, IsPage}
use Rattle.ivf_graph.specs.declared.graph.IvfGraph.{IvfGraph}
use Rattle.ivf_graph.specs.Effect.{effect, after as after_acts}
use Rattle.ivf_graph.specs.Legal.{IsAllowed}
use Rattle.ivf_graph.proofs.Judging.{after_more}
use Rattle.ivf_pages.specs.Standing.{Stands}
use Rattle.page_redo.specs.Replaying.{next_number, logged, Replayed}
use Rattle.ivf_pages.proofs.RedoEffect.{redo_effect}
use Rattle.ivf_pages.proofs.BlocksKept.{blocks_kept}
use Rattle.ivf_pages.proofs.PagesKept.{pages_kept}
use Rattle.ivf_pages.proofs.AllowedFits.{allowed_fits}
use Rattle.page_redo.proofs.RedoneThere.{redone_there}
use Rattle.ivf_pages.proofs.Replays.{passing_stays}

module _ (p : Params) (wrap : ℕ) (base : IvfGraph) where
  pub replay_there : (acts before : List Act) (number : ℕ) (pages : List Content) → IsLegalAfter (IsAllowed base) before acts → length pages ≤ MOST_BLOCKS
      → All IsPage pages → Stands p pages (after_acts base before) → number < 2 ^ 64
      → (after : List Content) × Replayed p wrap number (logged acts) pages after
  replay_there [] before number pages legal few all s low = (pages, refl)
  replay_there (a ∷ acts) before number pages (may, legal) few all s low =
      by_test (is_lasting a.event) refl
      (λ num now bound kept stands small. replay_there acts (before ++ a ∷ []) num now legal bound kept
      (subst (λ (h : IvfGraph). Stands p now h) (sym (after_more base before a)) stands) small)
    where
      g : IvfGraph
      g = after_acts base before

      by_test : (t : Bool) → is_lasting a.event ≡ t
          → ((num : ℕ) (now : List Content) → length now ≤ MOST_BLOCKS → All IsPage now → Stands p now (effect a.event (after_acts base before)) → num < 2 ^ 64
          → (after : List Content) × Replayed p wrap num (logged acts) now after)
          → (after : List Content) × Replayed p wrap number (cond (is_lasting a.event) (a.event ∷ logged acts) (logged acts)) pages after
      by_test true is goes =
          let fits = allowed_fits p pages (after_acts base before) before a.desk all s a.event may is in
          let mid = redone_there pages p a.event wrap number fits.1 in
          let rest = goes (next_number number) mid.0
          (blocks_kept pages (after_acts base before) few a.event p wrap number mid.0 fits.0 mid.1)
          (pages_kept p pages mid.0 a.event wrap number mid.1 (after_acts base before) all s fits.0 low)
          (redo_effect p pages mid.0 (after_acts base before) wrap number few all s a.event fits.0 mid.1)
          (mod_below (number + 1) (2 ^ 64) (omega arith)) in
          (rest.0, subst (λ (b : Bool). Replayed p wrap number (cond b (a.event ∷ logged acts) (logged acts)) pages rest.0) (sym is) (mid.0, mid.1, rest.1))
      by_test false is goes =
          let rest = goes number pages few all (subst (λ (h : IvfGraph). Stands p pages h) (sym (passing_stays (after_acts base before) a.event is)) s) low in
          (rest.0, subst (λ (b : Bool). Replayed p wrap number (cond b (a.event ∷ logged acts) (logged acts)) pages rest.0) (sym is) rest.1)
