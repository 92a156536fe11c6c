-- Replay of events that follow in turn gives pages that stand for the index after them.
use Rattle.std.proofs.Common.{◌≡◌, ℕ, ◌+◌, ◌^◌, ◌<◌, ◌≤◌, Bool, true, false, cond, List, [], ◌∷◌, ◌++◌, length, refl, sym, ap, subst, ◌∙◌, arith}
use Rattle.std.specs.List.{All}
use Rattle.std.proofs.lemmas.Nat.{mod_below}
use Rattle.index_sizes.specs.declared.limits.TheConstants.{MOST_BLOCKS}
use Rattle.vec_names.specs.declared.params.Params.{Params}
use Rattle.vec_history.specs.declared.event.Event.{Event}
use Rattle.vec_history.specs.declared.event.Event.TheVariants.{Put, Join, Link, Relist, Drop, Mark, Entry, Hint, IvfAdd, IvfGrow, IvfDrop, IvfHint, Gate, Ungate, Phase, VacuumEnd, Cancel, Settled, DiskFaulted}
use Rattle.vec_history.specs.declared.event.Act.{Act}
use Rattle.vec_history.specs.Settling.{is_lasting}
use Rattle.vec_history.specs.Legal.{IsLegalAfter}
use Rattle.page_bytes.specs.Content.{Content, IsPage}
use Rattle.ivf_graph.specs.declared.graph.IvfGraph.{IvfGraph}
use Rattle.ivf_graph.specs.Effect.{effect, after as after_acts}
use Rattle.ivf_graph.specs.Rules.{IsEventAllowed}
use Rattle.ivf_graph.specs.Legal.{IsAllowed}
use Rattle.ivf_graph.proofs.Judging.{after_more}
use Rattle.ivf_pages.specs.Standing.{Stands}
use Rattle.ivf_pages.specs.Following.{Follows}
use Rattle.page_redo.specs.Replaying.{next_number, logged, Replayed}
use Rattle.ivf_pages.specs.Replaying.{effects, FollowInTurn}
use Rattle.ivf_pages.proofs.RedoEffect.{redo_effect}
use Rattle.ivf_pages.proofs.BlocksKept.{blocks_kept}
use Rattle.ivf_pages.proofs.PagesKept.{pages_kept}

module _ (p : Params) (wrap : ℕ) where
  -- the pages stand for the index after the events, have bytes, and are not too many
  pub replay_stands : (events : List Event) (number : ℕ) (pages after : List Content) (g : IvfGraph) → length pages ≤ MOST_BLOCKS → All IsPage pages
      → Stands p pages g → number < 2 ^ 64 → FollowInTurn events g → Replayed p wrap number events pages after
      → Stands p after (effects events g) × All IsPage after × (length after ≤ MOST_BLOCKS)
  replay_stands [] number pages after g few all s low follow are =
      subst (λ (z : List Content). Stands p z g × All IsPage z × (length z ≤ MOST_BLOCKS)) (sym are) (s, all, few)
  replay_stands (e ∷ es) number pages after g few all s low (follows, rest) (mid, redone, more) =
      replay_stands es (next_number number) mid after (effect e g)
      (blocks_kept pages g few e p wrap number mid follows redone)
      (pages_kept p pages mid e wrap number redone g all s follows low)
      (redo_effect p pages mid g wrap number few all s e follows redone)
      (mod_below (number + 1) (2 ^ 64) (omega arith)) rest more

-- ---- legal histories

pub allowed_follows : (g : IvfGraph) (acts : List Act) (desk : ℕ) (event : Event) → IsEventAllowed g acts desk event → is_lasting event ≡ true → Follows g event
allowed_follows g acts desk (Put at list_at version level id bits lists) may lasts = absurd may
allowed_follows g acts desk (Join at version id) may lasts = absurd may
allowed_follows g acts desk (Link at list_at version slot to) may lasts = absurd may
allowed_follows g acts desk (Relist at list_at version lists) may lasts = absurd may
allowed_follows g acts desk (Drop at version gone) may lasts = absurd may
allowed_follows g acts desk (Mark at list_at version) may lasts = absurd may
allowed_follows g acts desk (Entry to level) may lasts = absurd may
allowed_follows g acts desk (Hint hint) may lasts = absurd may
allowed_follows g acts desk (IvfAdd to id bits) may lasts = tt
allowed_follows g acts desk (IvfGrow list last new id bits) may lasts = record {
  grows = may.grows;
  is_there = may.is_there;
  ends = may.ends;
  is_next = may.is_next;
  not_high = may.not_high;
}
allowed_follows g acts desk (IvfDrop of gone) may lasts = tt
allowed_follows g acts desk (IvfHint list aim) may lasts = may
allowed_follows g acts desk (Gate gate hold) may lasts = absurd cc
allowed_follows g acts desk (Ungate gate) may lasts = absurd cc
allowed_follows g acts desk (Phase stage) may lasts = absurd cc
allowed_follows g acts desk VacuumEnd may lasts = absurd cc
allowed_follows g acts desk (Cancel stage) may lasts = absurd cc
allowed_follows g acts desk (Settled upto) may lasts = absurd cc
allowed_follows g acts desk (DiskFaulted count) may lasts = absurd cc

-- a passing event leaves the index
pub passing_stays : (g : IvfGraph) (event : Event) → is_lasting event ≡ false → effect event g ≡ g
passing_stays g (Put at list_at version level id bits lists) passes = absurd cc
passing_stays g (Join at version id) passes = absurd cc
passing_stays g (Link at list_at version slot to) passes = absurd cc
passing_stays g (Relist at list_at version lists) passes = absurd cc
passing_stays g (Drop at version gone) passes = absurd cc
passing_stays g (Mark at list_at version) passes = absurd cc
passing_stays g (Entry to level) passes = absurd cc
passing_stays g (Hint hint) passes = absurd cc
passing_stays g (IvfAdd to id bits) passes = absurd cc
passing_stays g (IvfGrow list last new id bits) passes = absurd cc
passing_stays g (IvfDrop of gone) passes = absurd cc
passing_stays g (IvfHint list aim) passes = absurd cc
passing_stays g (Gate gate hold) passes = refl
passing_stays g (Ungate gate) passes = refl
passing_stays g (Phase stage) passes = refl
passing_stays g VacuumEnd passes = refl
passing_stays g (Cancel stage) passes = refl
passing_stays g (Settled upto) passes = refl
passing_stays g (DiskFaulted count) passes = refl

-- the lasting acts have the effect of all
pub logged_effect : (acts : List Act) (g : IvfGraph) → effects (logged acts) g ≡ after_acts g acts
logged_effect [] g = refl
logged_effect (a ∷ acts) g = by_test (is_lasting a.event) refl (logged_effect acts g) (logged_effect acts (effect a.event g))
  where
    by_test : (t : Bool) → is_lasting a.event ≡ t → effects (logged acts) g ≡ after_acts g acts
        → effects (logged acts) (effect a.event g) ≡ after_acts (effect a.event g) acts
        → effects (cond (is_lasting a.event) (a.event ∷ logged acts) (logged acts)) g ≡ after_acts (effect a.event g) acts
    by_test true is stays goes = ap (λ (b : Bool). effects (cond b (a.event ∷ logged acts) (logged acts)) g) is ∙ goes
    by_test false is stays goes =
        ap (λ (b : Bool). effects (cond b (a.event ∷ logged acts) (logged acts)) g) is ∙ stays
        ∙ ap (λ (h : IvfGraph). after_acts h acts) (sym (passing_stays g a.event is))

-- and follow in turn
follow_after : (base : IvfGraph) (before acts : List Act) → IsLegalAfter (IsAllowed base) before acts → FollowInTurn (logged acts) (after_acts base before)
follow_after base before [] legal = tt
follow_after base before (a ∷ acts) (may, legal) =
    by_test (is_lasting a.event) refl
    (subst (λ (h : IvfGraph). FollowInTurn (logged acts) h) (after_more base before a) (follow_after base (before ++ a ∷ []) acts legal))
  where
    by_test : (t : Bool) → is_lasting a.event ≡ t → FollowInTurn (logged acts) (effect a.event (after_acts base before))
        → FollowInTurn (cond (is_lasting a.event) (a.event ∷ logged acts) (logged acts)) (after_acts base before)
    by_test true is rest =
        subst (λ (b : Bool). FollowInTurn (cond b (a.event ∷ logged acts) (logged acts)) (after_acts base before)) (sym is)
        (allowed_follows (after_acts base before) before a.desk a.event may is, rest)
    by_test false is rest =
        subst (λ (b : Bool). FollowInTurn (cond b (a.event ∷ logged acts) (logged acts)) (after_acts base before)) (sym is)
        (subst (λ (h : IvfGraph). FollowInTurn (logged acts) h) (passing_stays (after_acts base before) a.event is) rest)

pub legal_follow : (base : IvfGraph) (acts : List Act) → IsLegalAfter (IsAllowed base) [] acts → FollowInTurn (logged acts) base
legal_follow base acts legal = follow_after base [] acts legal
