-- A change that a desk asks for, as a step of the desk.
use Rattle.std.proofs.Common.{◌≡◌, ◌≤◌, ℕ, true, List, [], ◌∷◌, length, All, Option, Some, None, refl, sym, subst, ◌∙◌, inl, inr}
use Rattle.std.specs.Prelude.{slice_get, Result, Ok, Err, OnOk, OnErr, IfErr}
use Rattle.index_sizes.specs.declared.limits.TheConstants.{LOG_ROOM, MOST_BLOCKS}
use Rattle.vec_names.specs.declared.params.Params.{Params}
use Rattle.vec_history.specs.declared.event.Event.{Event}
use Rattle.vec_history.specs.declared.event.Act.{Act}
use Rattle.vec_history.specs.Settling.{is_lasting}
use Rattle.page_bytes.specs.Content.{Content, IsPage}
use Rattle.vec_graph.specs.declared.graph.Graph.{Graph}
use Rattle.vec_graph.specs.Effect as nodes
use Rattle.vec_graph.proofs.Asked.{same_params}
use Rattle.vec_graph.proofs.Placing.{on_blocks_after}
use Rattle.vec_graph.proofs.Shaping.{on_blocks_of}
use Rattle.ivf_graph.specs.declared.graph.IvfGraph.{IvfGraph}
use Rattle.ivf_graph.specs.Effect as lists
use Rattle.ivf_graph.proofs.OwnBlocks.{own_after}
use Rattle.page_redo.specs.Redo.{touched}
use Rattle.graph_pages.specs.Standing.{Stands}
use Rattle.ivf_pages.specs.Standing.{Stands as StandsForLists}
use Rattle.page_sets.specs.Sets.{PageMap, HasPages}
use Rattle.page_words.specs.declared.making.Making.{Making}
use Rattle.page_words.specs.Deciding.{asked_of, events_of, MayChange, MayChangeLists, IsOfNodes, IsOfLists, SaysNow}
use Rattle.vec_steps.specs.declared.ask.Ask.{Ask}
use Rattle.vec_steps.specs.declared.ask.Ask.TheVariants as ask
use Rattle.vec_steps.specs.declared.told.Told.{Told}
use Rattle.vec_steps.specs.declared.fault.StepFault.{StepFault}
use Rattle.vec_steps.specs.declared.fault.StepFault.TheVariants as fault
use Rattle.vec_steps.specs.Index.{Index, OfNodes, OfLists, IsLegal}
use Rattle.vec_steps.specs.Doing.{Step, Ended, step_events}
use Rattle.vec_steps.specs.Telling.{step_of}
use Rattle.vec_steps.specs.Desks.{Room, Desk, MayAsk, Asks, used_after}
use Rattle.vec_steps.specs.Calls.{Stepped, Failed, IsLogFull, SaysOf, made_by}
use Rattle.vec_steps.specs.Calls as calls
use Rattle.vec_steps.proofs.Legality.{goes_on}
use Rattle.index_pages.specs.Standing.{index_after}
use Rattle.vec_board.specs.declared.board_core.Core.{Core}
use Rattle.vec_board.specs.Standing.{StandsOn, acts_of}
use Rattle.vec_board.specs.Acting.{IsMade, IsAsBefore, IsFull, IsCause, IsCommitFault, IsSameSet, ComesTo, MayCommit, room_of}
use Rattle.vec_board.specs.Looking.{desk_of}
use Rattle.vec_board.specs.Serving.{MakesJust, Leaves}
use Rattle.vec_board.specs.Changes.{IsChange, HoldsFor, StandsWithin, grown_of}
use Rattle.vec_board.proofs.SteppedBy.{made_step, failed_still}
use Rattle.vec_board.proofs.TellingLooks.{still_step}
use Rattle.vec_board.proofs.ChangesSaid.{agrees, nodes_may, nodes_said, lists_may, lists_said}
use Rattle.vec_board.proofs.ChangesMade.{IsCovered, nodes_covered, lists_covered}

-- ---- sets with all pages

has_all : (set : PageMap) (all : List Content) → ((block : ℕ) → set block ≡ slice_get all block) → (blocks : List ℕ) → HasPages set all blocks
has_all set all same [] = tt
has_all set all same (block ∷ blocks) = (same block, has_all set all same blocks)

-- a set with all pages has those that any change needs
pub all_hold : (p : Params) (set : PageMap) (all : List Content) (index : Index) (asked : Ask) → ((block : ℕ) → set block ≡ slice_get all block)
    → HoldsFor p set all index asked
all_hold p set all index asked same = record {
  part = λ block page is. sym (same block) ∙ is;
  asked_are = has_all set all same (asked_of asked);
  touched_are = λ e makes. has_all set all same (touched e p);
}

-- ---- the event that comes of it

pub either_kind : {X : Type 0} (asked : Ask) → IsChange asked → (IsOfNodes asked → X) → (IsOfLists asked → X) → X
either_kind asked (inl is) nodes lists = nodes is
either_kind asked (inr is) nodes lists = lists is

step_there : (p : Params) (o : Option Step) (e : Event) → made_by p o ≡ e ∷ [] → (s : Step) × (o ≡ Some s) × (step_events p s ≡ e ∷ [])
step_there p None e made = absurd cc
step_there p (Some s) e made = (s, refl, made)

pub just_made : (old new : Core) (desk : ℕ) (e : Event) (left : ℕ) (events : List Event) → events ≡ e ∷ [] → IsMade old new desk e left → MakesJust old new desk events
just_made old new desk e left events is made = subst (MakesJust old new desk) (sym is) (left, made)

pub event_leaves : (old new : Core) (before after : PageMap) (all : List Content) (base : Index) (desk : ℕ) (e : Event) (grown : ℕ) (events : List Event)
    → events ≡ e ∷ [] → ComesTo old new before after all base desk e grown (Ok tt) → Leaves old new before after all base events
event_leaves old new before after all base desk e grown events is comes = subst (Leaves old new before after all base) (sym is) comes

pub comes_ok : (old new : Core) (before after : PageMap) (all : List Content) (base : Index) (desk : ℕ) (e : Event) (grown : ℕ)
    (r : Result (Unit {0}) StepFault) → ComesTo old new before after all base desk e grown r
    → OnOk r (ComesTo old new before after all base desk e grown (Ok tt))
comes_ok old new before after all base desk e grown (Ok done) comes = comes
comes_ok old new before after all base desk e grown (Err f) comes = tt

pub comes_err : (old new : Core) (before after : PageMap) (all : List Content) (base : Index) (desk : ℕ) (e : Event) (grown : ℕ)
    (r : Result (Unit {0}) StepFault) → ComesTo old new before after all base desk e grown r → OnErr r (IsSameSet before after)
comes_err old new before after all base desk e grown (Ok done) comes = tt
comes_err old new before after all base desk e grown (Err f) comes = comes.1

-- ---- the step

module _ (core : Core) (set : PageMap) (desk : ℕ) (asked : Ask) (t : Told) (is : IsChange asked)
    (by_nodes : (all : List Content) (g : Graph) → length all ≤ MOST_BLOCKS → All IsPage all → Stands all g → g.params ≡ core.params
    → core.summary.blocks ≡ length all → HasPages set all (asked_of asked) → IsOfNodes asked → MayChange g asked
    → SaysNow core.params (OfNodes g) (step_of asked t Ended))
    (by_lists : (all : List Content) (g : IvfGraph) → All IsPage all → StandsForLists core.params all g → core.summary.blocks ≡ length all
    → HasPages set all (asked_of asked) → IsOfLists asked → MayChangeLists g asked → SaysNow core.params (OfLists g) (step_of asked t Ended)) where
  abbrev acts : List Act
  acts = acts_of core

  abbrev d : Desk
  d = desk_of core desk

  abbrev now : Option Step
  now = step_of asked t Ended

  -- what the index says as it is
  says_now : (all : List Content) (base : Index) → StandsOn core all base → HasPages set all (asked_of asked) → MayAsk d base acts asked
      → SaysNow core.params (index_after base acts) now
  says_now all (OfNodes g) s has may =
      let k = nodes_may d g acts asked is may in
      by_nodes all (nodes.after g acts) s.pages.few s.pages.bytes s.pages.stand (same_params g acts ∙ s.of_params.has.1) s.blocks has k.0 k.1
  says_now all (OfLists g) s has may =
      let k = lists_may d g acts asked (own_after g [] acts s.legal s.shaped).apart is may in
      by_lists all (lists.after g acts) s.pages.bytes s.pages.stand s.blocks has k.0 k.1

  says_here : (base : Index) → IsLegal base acts → MayAsk d base acts asked → SaysNow core.params (index_after base acts) now → SaysOf d base acts now
  says_here (OfNodes g) legal may says = nodes_said d g acts t asked (nodes_may d g acts asked is may).0 says
  says_here (OfLists g) legal may says = either_kind asked is (λ of. absurd (no_nodes asked of may)) (λ of. lists_said d g acts t asked of says) where
    no_nodes : (a : Ask) → IsOfNodes a → MayAsk d (OfLists g) acts a → ⊥
    no_nodes (ask.Put block node) of may = may
    no_nodes (ask.PutNew node) of may = may
    no_nodes (ask.Join at version id) of may = may
    no_nodes (ask.Link at list_at level version layer slot held to) of may = may
    no_nodes (ask.Relist at list_at version slots) of may = may
    no_nodes (ask.Drop at version gone) of may = may
    no_nodes (ask.Mark at list_at version) of may = may
    no_nodes (ask.Entry to level) of may = may
    no_nodes (ask.Hint block) of may = may
    no_nodes _ of may = of

  pub change_says : (base : Index) → Asks (StandsWithin core set asked) d acts asked base → SaysOf d base acts now
  change_says base a =
      let s = a.stood in
      says_here base s.stands.legal a.may (says_now s.all base s.stands s.holds.asked_are a.may)

  module _ (m : Making) (e : Event) (of : events_of asked m ≡ e ∷ []) (made : made_by core.params now ≡ e ∷ []) where
    covered : (all : List Content) (base : Index) → StandsOn core all base → MayAsk d base acts asked → SaysNow core.params (index_after base acts) now
        → IsCovered (index_after base acts) e t.left core.summary.blocks (grown_of asked m)
    covered all (OfNodes g) s may says =
        nodes_covered core.params (nodes.after g acts) (on_blocks_after g acts (on_blocks_of g s.shaped)) core.summary.blocks
        (s.pages.stand.blocks ∙ sym s.blocks) t e asked m (nodes_may d g acts asked is may).0 of made says
    covered all (OfLists g) s may says =
        lists_covered core.params (lists.after g acts) core.summary.blocks (s.pages.stand.blocks ∙ sym s.blocks) t e asked m
        (lists_may d g acts asked (own_after g [] acts s.legal s.shaped).apart is may).0 of made says

    pub may_commit : (all : List Content) (base : Index) → StandsOn core all base → HoldsFor core.params set all (index_after base acts) asked
        → MayAsk d base acts asked → MayCommit core set all base desk e t.left (grown_of asked m)
    may_commit all base s holds may =
        let says = says_now all base s holds.asked_are may in
        let step = step_there core.params now e made in
        let here = subst (SaysOf d base acts) step.1 (says_here base s.legal may says) in
        let rest = covered all base s may says in
        record {
          stands = s;
          legal = goes_on base acts d s.of_params.has s.shaped s.legal asked t Ended step.0 e may (agrees acts desk asked is) step.1 here step.2;
          has = record {
            part = holds.part;
            has = holds.touched_are e (record {
              told = t;
              step = step.0;
              is = step.1;
              says = subst (SaysNow core.params (index_after base acts)) step.1 says;
              makes = step.2;
            });
          };
          left_is = rest.left_is;
          grows = rest.grows;
        }

    log_full : (base : Index) (used size : ℕ) → SaysOf d base acts now → IsFull core e used size → IsLogFull d base acts asked used size
    log_full base used size says full =
        let step = step_there core.params now e made in
        record {
          told = t;
          ending = Ended;
          step = step.0;
          would = step.1;
          says = subst (SaysOf d base acts) step.1 says;
          event = e;
          makes = step.2;
          lasting = full.lasting;
          size_is = full.size_is;
          used_is = full.used_is;
          beyond = full.beyond;
        }

    cause_of : (f : StepFault) (base : Index) → SaysOf d base acts now → IsCause core desk e (grown_of asked m) f → calls.IsCause d base acts asked f
    cause_of fault.Memory base says why = tt
    cause_of (fault.LogFull used size) base says why = log_full base used size says why
    cause_of (fault.Disk count) base says why = tt

    never_disk : (f : StepFault) → IsCommitFault core desk e (grown_of asked m) f → (count : ℕ) → f ≡ fault.Disk count → ⊥
    never_disk f may count same = subst (IsCommitFault core desk e (grown_of asked m)) same may

    pub change_failed : (new : Core) (f : StepFault) → IsAsBefore core new → IsCommitFault core desk e (grown_of asked m) f
        → ((all : List Content) (base : Index) → MayCommit core set all base desk e t.left (grown_of asked m) → IsCause core desk e (grown_of asked m) f)
        → Failed (Asks (StandsWithin core set asked) d acts asked) d acts (acts_of new) asked f
    change_failed new f same may why =
        failed_still (Asks (StandsWithin core set asked) d acts asked) d acts (acts_of new) asked f (never_disk f may) same.acts
        (λ base a. subst (λ (l : List Act). calls.IsCause d base l asked f) (sym same.acts)
        (cause_of f base (change_says base a) (why a.stood.all base (may_commit a.stood.all base a.stood.stands a.stood.holds a.may))))

    pub change_stepped : (new : Core) (left : Ask) → t.at ≡ length acts → IsMade core new desk e t.left
        → (is_lasting e ≡ true → used_after (room_of new) (acts_of new) ≤ LOG_ROOM) → left ≡ ask.Spent
        → Stepped (Asks (StandsWithin core set asked) d acts asked) d acts (acts_of new) asked left t
    change_stepped new left at act room spent =
        subst (λ (l : Ask). Stepped (Asks (StandsWithin core set asked) d acts asked) d acts (acts_of new) asked l t) (sym spent)
        (made_step (Asks (StandsWithin core set asked) d acts asked) d acts (acts_of new) asked t Ended e made at act.acts change_says
        (λ lasts. subst (λ (r : Room). used_after r (acts_of new) ≤ LOG_ROOM) act.room (room lasts)))

    -- refused, whatever the pages came to
    pub change_refused : (new : Core) (behind : PageMap) (r : Result (Unit {0}) StepFault) → OnErr r (IsAsBefore core new)
        → IfErr r (IsCommitFault core desk e (grown_of asked m))
        → ((all : List Content) (base : Index) → MayCommit core set all base desk e t.left (grown_of asked m)
        → ComesTo core new set behind all base desk e (grown_of asked m) r)
        → IfErr r (Failed (Asks (StandsWithin core set asked) d acts asked) d acts (acts_of new) asked)
    change_refused new behind (Ok done) kept may why = tt
    change_refused new behind (Err f) kept may why = change_failed new f kept may (λ all base can. (why all base can).0)

  pub change_still : t.at ≡ length acts → made_by core.params now ≡ [] → Stepped (Asks (StandsWithin core set asked) d acts asked) d acts acts asked asked t
  change_still at none = still_step (Asks (StandsWithin core set asked) d acts asked) d acts asked t Ended none at change_says
