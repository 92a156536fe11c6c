-- The lasting events of a legal history follow in turn on pages that stand for its base.
use Rattle.std.proofs.Common.{◌≡◌, ℕ, ◌^◌, ◌<◌, Bool, true, false, cond, List, [], ◌∷◌, ◌++◌, take, drop, filter, map, Option, refl, sym, ap, subst, ◌∙◌}
use Rattle.std.proofs.lemmas.List.{map-append, take-append-drop}
use Rattle.std.proofs.lemmas.List.Elements.{filter-append}
use Rattle.vec_history.specs.declared.event.Event.{Event}
use Rattle.vec_history.specs.declared.event.Event.TheVariants.{Put, Join, Link, Relist, Drop, Mark, Entry, Hint, IvfAdd, IvfGrow, IvfDrop, IvfHint, Gate, Ungate, Phase, VacuumEnd, Cancel, Settled, DiskFaulted}
use Rattle.vec_history.specs.declared.event.Act.{Act}
use Rattle.vec_history.specs.Settling.{is_lasting}
use Rattle.vec_history.specs.Legal.{IsLegalAfter}
use Rattle.vec_history.proofs.ByActs.{cut, more}
use Rattle.page_bytes.specs.Content.{Content}
use Rattle.vec_graph.specs.declared.graph.Graph.{Graph}
use Rattle.vec_graph.specs.Places.{IsOnBlocks}
use Rattle.vec_graph.specs.Effect.{effect, after, state_after}
use Rattle.vec_graph.specs.Legal.{IsAllowed, IsLegal}
use Rattle.vec_graph.proofs.Levels.{after_append}
use Rattle.page_redo.specs.Replaying.{next_number, logged, Replayed}
use Rattle.graph_replay.specs.Replaying.{effects, FollowInTurn}
use Rattle.graph_replay.proofs.Replays.{IsIndex, next_low, one_event, replay_there, replay_effect, replay_parted}
use Rattle.graph_replay.proofs.AllowedFits.{allowed_fits}

-- a passing event leaves the graph
passing : (e : Event) (g : Graph) → is_lasting e ≡ false → effect 255 e g ≡ g
passing (Put at list_at version level id bits lists) g is = absurd cc
passing (Join at version id) g is = absurd cc
passing (Link at list_at version slot to) g is = absurd cc
passing (Relist at list_at version lists) g is = absurd cc
passing (Drop at version gone) g is = absurd cc
passing (Mark at list_at version) g is = absurd cc
passing (Entry to level) g is = absurd cc
passing (Hint block) g is = absurd cc
passing (IvfAdd block id bits) g is = refl
passing (IvfGrow list last block id bits) g is = refl
passing (IvfDrop block gone) g is = refl
passing (IvfHint list block) g is = refl
passing (Gate gate hold) g is = refl
passing (Ungate gate) g is = refl
passing (Phase stage) g is = refl
passing VacuumEnd g is = refl
passing (Cancel stage) g is = refl
passing (Settled upto) g is = refl
passing (DiskFaulted count) g is = refl

-- the lasting events make of a graph what the acts do
pub logged_effects : (acts : List Act) (g : Graph) → effects 255 (logged acts) g ≡ after g acts
logged_effects [] g = refl
logged_effects (a ∷ acts) g = by_test (is_lasting a.event) refl (logged_effects acts (effect 255 a.event g))
  where
    by_test : (test : Bool) → is_lasting a.event ≡ test → effects 255 (logged acts) (effect 255 a.event g) ≡ after (effect 255 a.event g) acts
        → effects 255 (cond test (a.event ∷ logged acts) (logged acts)) g ≡ after (effect 255 a.event g) acts
    by_test true is rest = rest
    by_test false is rest = ap (effects 255 (logged acts)) (sym (passing a.event g is)) ∙ rest

pub logged_parts : (first others : List Act) → logged (first ++ others) ≡ logged first ++ logged others
logged_parts first others =
    ap (filter is_lasting) (map-append (λ (a : Act). a.event) first others)
    ∙ filter-append is_lasting (map (λ (a : Act). a.event) first) (map (λ (a : Act). a.event) others)

module _ (base : Graph) (on : IsOnBlocks base) where
  follow_along : (before acts : List Act) (number : ℕ) (pages : List Content) (format : Option ℕ) → number < 2 ^ 64 → IsLegal base before
      → IsLegalAfter (IsAllowed base) before acts → IsIndex pages (after base before) format → FollowInTurn 255 number (logged acts) pages (after base before)
  follow_along before [] number pages format low legal allowed index = tt
  follow_along before (a ∷ acts) number pages format low legal allowed index =
      by_test (is_lasting a.event) refl (follow_along (before ++ a ∷ []) acts)
    where
      now : effect 255 a.event (after base before) ≡ after base (before ++ a ∷ [])
      now = sym (after_append base before (a ∷ []))

      legal_now : IsLegal base (before ++ a ∷ [])
      legal_now = more (IsAllowed base) before a legal allowed.0

      by_test : (test : Bool) → is_lasting a.event ≡ test
          → ((number : ℕ) (pages : List Content) (format : Option ℕ) → number < 2 ^ 64 → IsLegal base (before ++ a ∷ [])
          → IsLegalAfter (IsAllowed base) (before ++ a ∷ []) acts → IsIndex pages (after base (before ++ a ∷ [])) format
          → FollowInTurn 255 number (logged acts) pages (after base (before ++ a ∷ [])))
          → FollowInTurn 255 number (cond test (a.event ∷ logged acts) (logged acts)) pages (after base before)
      by_test false is rest =
          let same : (after base before) ≡ after base (before ++ a ∷ []) = sym (passing a.event (after base before) is) ∙ now in
          subst (FollowInTurn 255 number (logged acts) pages) (sym same)
          (rest number pages format low legal_now allowed.1 (subst (λ (h : Graph). IsIndex pages h format) same index))
      by_test true is rest =
          let fit = allowed_fits pages base before a.desk index.few index.bytes on legal index.stands a.event is allowed.0 in (
            fit.0,
            fit.1,
            λ mid are.
                let kept = one_event pages mid (after base before) format a.event 255 number low index fit.0 are in
                subst (FollowInTurn 255 (next_number number) (logged acts) mid) (sym now)
                (rest (next_number number) mid format (next_low number) legal_now allowed.1 (subst (λ (h : Graph). IsIndex mid h format) now kept)),
          )

  module _ (acts : List Act) (legal : IsLegal base acts) (number : ℕ) (pages : List Content) (format : Option ℕ) (low : number < 2 ^ 64)
      (index : IsIndex pages base format) where
    pub follow : FollowInTurn 255 number (logged acts) pages base
    follow = follow_along [] acts number pages format low tt legal index

    pub replayed_stands : (now : List Content) → Replayed base.params 255 number (logged acts) pages now → IsIndex now (after base acts) format
    replayed_stands now replayed =
        subst (λ (h : Graph). IsIndex now h format) (logged_effects acts base) (replay_effect 255 number (logged acts) pages now base format low index follow replayed)

    pub replayed_there : (now : List Content) × Replayed base.params 255 number (logged acts) pages now × IsIndex now (after base acts) format
    replayed_there =
        let made = replay_there 255 number (logged acts) pages base format low index follow in
        (made.0, made.1, replayed_stands made.0 made.1)

-- at each position of the history
pub fronts : (base : Graph) (on : IsOnBlocks base) (acts : List Act) → IsLegal base acts → (number : ℕ) (pages : List Content) (format : Option ℕ) → number < 2 ^ 64
    → IsIndex pages base format → (n : ℕ) (now : List Content) → Replayed base.params 255 number (logged acts) pages now
    → (mid : List Content) × Replayed base.params 255 number (logged (take n acts)) pages mid × IsIndex mid (state_after base acts n) format
fronts base on acts legal number pages format low index n now replayed =
    let parts : logged acts ≡ logged (take n acts) ++ logged (drop n acts) = ap logged (sym (take-append-drop n acts)) ∙ logged_parts (take n acts) (drop n acts) in
    let both = replay_parted base.params 255 number (logged (take n acts)) (logged (drop n acts)) pages now low
    (subst (λ (es : List Event). Replayed base.params 255 number es pages now) parts replayed) in
    (both.0, both.1, replayed_stands base on (take n acts) (cut (IsAllowed base) acts n legal) number pages format low index both.0 both.1)
