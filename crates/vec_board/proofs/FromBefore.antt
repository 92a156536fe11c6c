-- What is so of a core is so of one that made nothing since.
use Rattle.std.proofs.Common.{◌≡◌, ◌≤◌, ◌+◌, ℕ, List, [], ◌∷◌, ◌++◌, Result, Ok, Err, OnOk, IfErr, ◌<◌, ◌^◌, sym, ap, subst, ◌∙◌, inl, inr}
use Rattle.vec_names.specs.declared.params.Params.{Params}
use Rattle.vec_history.specs.declared.event.Event.{Event}
use Rattle.vec_history.specs.declared.event.Act.{Act}
use Rattle.vec_history.specs.Acts.{act_of}
use Rattle.vec_history.specs.Settling.{is_lasting}
use Rattle.history_tables.specs.declared.rooms.Room.{Room as Rooms}
use Rattle.history_tables.specs.Rooms.{room_of as own_room, spent}
use Rattle.history_tables.specs.Telling.{Tells, IsEnd}
use Rattle.vec_history.specs.declared.event.Event.TheVariants as event
use Rattle.vec_history.specs.declared.stage.Stage.TheVariants.{Mark}
use Rattle.vec_graph.specs.declared.graph.Graph.{Graph}
use Rattle.vec_graph.specs.Rules as nodes
use Rattle.ivf_graph.specs.declared.graph.IvfGraph.{IvfGraph}
use Rattle.ivf_graph.specs.Rules as lists
use Rattle.ivf_graph.specs.Effect.{after as lists_after}
use Rattle.vec_board.specs.Keeping.{one_if_ends}
use Rattle.page_bytes.specs.Content.{Content}
use Rattle.page_redo.specs.Growing.{blocks_after}
use Rattle.page_log.specs.Going.{Unsettled}
use Rattle.page_sets.specs.Sets.{PageMap}
use Rattle.page_sets.specs.Committing.{HasTouched}
use Rattle.vec_steps.specs.declared.fault.StepFault.{StepFault}
use Rattle.vec_steps.specs.declared.fault.StepFault.TheVariants as fault
use Rattle.vec_steps.specs.Index.{Index, OfNodes, OfLists, IsLegal, IsOfParams}
use Rattle.vec_steps.specs.Desks.{Room, used_after}
use Rattle.index_pages.specs.Standing.{AreOf, index_after}
use Rattle.index_pages.proofs.Next.{fits_next, written_next, nodes_last, lists_last}
use Rattle.vec_board.specs.declared.board_core.Core.{Core}
use Rattle.vec_board.specs.declared.summary.Summary.{Summary}
use Rattle.vec_board.specs.Ready.{HasOwnRoom}
use Rattle.vec_board.specs.Summaries.{Summarizes, summary_after, IsLeft}
use Rattle.vec_board.specs.Standing.{StandsOn, acts_of}
use Rattle.vec_board.proofs.NextStanding.{next_stands}
use Rattle.vec_board.specs.Acting.{IsMade, IsAsBefore, IsCause, IsChangeCause, IsChangeFault, IsCommitFault, IsSameSet, AreMade, PagesComeTo, ComesTo, MayCommit, MayChange, number_after, log_after, room_of}

-- what a lasting event is that the rules allow
pub may_change : (core : Core) (set : PageMap) (all : List Content) (base : Index) (desk : ℕ) (e : Event) (left grown : ℕ)
    → MayCommit core set all base desk e left grown → MayChange core all e grown
may_change core set all base desk e left grown may =
    let s = may.stands in
    record {
      fits = λ lasts. fits_next core.params all base (acts_of core) desk e s.shaped s.of_params.has s.pages lasts may.legal;
      written = λ lasts. written_next core.params all base (acts_of core) desk e s.shaped s.of_params.has s.pages lasts may.legal;
      grows = may.grows;
    }

pub as_cause : (core : Core) (desk : ℕ) (e : Event) (grown : ℕ) (f : StepFault) → IsChangeCause core e grown f → IsCause core desk e grown f
as_cause core desk e grown fault.Memory is = inr is
as_cause core desk e grown (fault.LogFull used size) is = is
as_cause core desk e grown (fault.Disk count) is = is

pub as_fault : (core : Core) (desk : ℕ) (e : Event) (grown : ℕ) (f : StepFault) → IsChangeFault grown f → IsCommitFault core desk e grown f
as_fault core desk e grown fault.Memory is = inr is
as_fault core desk e grown (fault.LogFull used size) is = tt
as_fault core desk e grown (fault.Disk count) is = is

-- ---- ends

nodes_end : (base : Graph) (acts : List Act) (desk : ℕ) (e : Event) → nodes.IsEventAllowed base acts desk e → one_if_ends e ≡ 1 → IsEnd acts desk e
nodes_end base acts desk (event.Ungate gate) may ends = may.held
nodes_end base acts desk event.VacuumEnd may ends = (desk, Mark, may.phase)
nodes_end base acts desk (event.Cancel stage) may ends = (desk, stage, may.phase)
nodes_end base acts desk _ may ends = absurd cc

lists_end : (g : IvfGraph) (acts : List Act) (desk : ℕ) (e : Event) → lists.IsEventAllowed g acts desk e → one_if_ends e ≡ 1 → IsEnd acts desk e
lists_end g acts desk (event.Ungate gate) may ends = may.held
lists_end g acts desk event.VacuumEnd may ends = absurd may
lists_end g acts desk (event.Cancel stage) may ends = absurd may
lists_end g acts desk _ may ends = absurd cc

-- an end that the rules allow ends something
pub legal_end : (base : Index) (acts : List Act) (desk : ℕ) (e : Event) → IsLegal base (acts ++ act_of desk e ∷ []) → one_if_ends e ≡ 1 → IsEnd acts desk e
legal_end (OfNodes g) acts desk e legal ends = nodes_end g acts desk e (nodes_last g acts (act_of desk e) legal) ends
legal_end (OfLists g) acts desk e legal ends = lists_end (lists_after g acts) acts desk e (lists_last g acts (act_of desk e) legal) ends

-- ---- since

module _ (old mid : Core) (same : IsAsBefore old mid) where
  pub stands_still : (all : List Content) (base : Index) → StandsOn old all base → StandsOn mid all base
  stands_still all base s =
      let acts = same.acts in
      record {
        shaped = s.shaped;
        of_params = subst (λ (p : Params). IsOfParams p base) (sym same.params) s.of_params;
        legal = subst (IsLegal base) (sym acts) s.legal;
        told = subst (λ (l : List Act). Tells mid.history.tables l) (sym acts) (same.tells (acts_of old) s.told);
        pages = subst (λ (p : Params). AreOf p all (index_after base (acts_of mid))) (sym same.params)
            (subst (λ (l : List Act). AreOf old.params all (index_after base l)) (sym acts) s.pages);
        blocks = ap (λ (x : Summary). x.blocks) same.summary ∙ s.blocks;
        summary = subst (λ (x : Summary). Summarizes x (index_after base (acts_of mid))) (sym same.summary)
            (subst (λ (l : List Act). Summarizes old.summary (index_after base l)) (sym acts) s.summary);
      }

  pub may_still : (set : PageMap) (all : List Content) (base : Index) (desk : ℕ) (e : Event) (left grown : ℕ)
      → MayCommit old set all base desk e left grown → MayCommit mid set all base desk e left grown
  may_still set all base desk e left grown may = record {
    stands = stands_still all base may.stands;
    legal = subst (λ (l : List Act). IsLegal base (l ++ act_of desk e ∷ [])) (sym same.acts) may.legal;
    has = subst (λ (p : Params). HasTouched set all e p) (sym same.params) may.has;
    left_is = subst (λ (l : List Act). IsLeft (index_after base l) e left) (sym same.acts) may.left_is;
    grows = subst (λ (s : Summary). blocks_after e s.blocks ≤ s.blocks + grown) (sym same.summary) may.grows;
  }

  pub made_since : (new : Core) (desk : ℕ) (e : Event) (left : ℕ) → IsMade mid new desk e left → IsMade old new desk e left
  made_since new desk e left made = record {
    acts = made.acts ∙ ap (λ (l : List Act). l ++ act_of desk e ∷ []) same.acts;
    tells = λ told. made.tells (subst (λ (l : List Act). Tells mid.history.tables l) (sym same.acts) (same.tells (acts_of old) told));
    rooms = made.rooms ∙ ap (spent desk) same.rooms;
    number = made.number ∙ ap (number_after e) same.number;
    log = made.log ∙ ap (λ (u : Unsettled). log_after u e) same.log;
    epoch = made.epoch ∙ same.epoch;
    summary = made.summary ∙ ap (λ (s : Summary). summary_after s e left) same.summary;
    params = made.params ∙ same.params;
    room = made.room ∙ same.room;
  }

  pub before_since : (new : Core) → IsAsBefore mid new → IsAsBefore old new
  before_since new next = record {
    acts = next.acts ∙ same.acts;
    tells = λ acts told. next.tells acts (same.tells acts told);
    rooms = next.rooms ∙ same.rooms;
    number = next.number ∙ same.number;
    log = next.log ∙ same.log;
    epoch = next.epoch ∙ same.epoch;
    summary = next.summary ∙ same.summary;
    params = next.params ∙ same.params;
    room = next.room ∙ same.room;
  }

  own_since : (desk : ℕ) (e : Event) → HasOwnRoom old.history desk e → HasOwnRoom mid.history desk e
  own_since desk e (inl ends) = inl ends
  own_since desk e (inr has) = inr (subst (λ (rooms : List Rooms). 1 ≤ own_room rooms desk) (sym same.rooms) has)

  pub cause_since : (desk : ℕ) (e : Event) (grown : ℕ) (f : StepFault) → IsCause mid desk e grown f → IsCause old desk e grown f
  cause_since desk e grown fault.Memory (inl none) = inl (λ own. none (own_since desk e own))
  cause_since desk e grown fault.Memory (inr pages) = inr pages
  cause_since desk e grown (fault.LogFull used size) is = record {
    lasting = is.lasting;
    used_is = is.used_is ∙ ap (λ (r : Room). used_after r (acts_of mid)) same.room ∙ ap (used_after (room_of old)) same.acts;
    size_is = is.size_is;
    beyond = is.beyond;
  }
  cause_since desk e grown (fault.Disk count) is = is

  pub fault_since : (desk : ℕ) (e : Event) (grown : ℕ) (f : StepFault) → IsCommitFault mid desk e grown f → IsCommitFault old desk e grown f
  fault_since desk e grown fault.Memory (inl none) = inl (λ own. none (own_since desk e own))
  fault_since desk e grown fault.Memory (inr pages) = inr pages
  fault_since desk e grown (fault.LogFull used size) is = tt
  fault_since desk e grown (fault.Disk count) is = is

  -- what becomes of the pages is said by the core before
  pub pages_come : (before behind : PageMap) (all : List Content) (desk : ℕ) (e : Event) (grown : ℕ) (r : Result (Unit {0}) StepFault)
      → OnOk r ((after : List Content) × AreMade (is_lasting e) before behind all after e mid.params mid.number)
      → IfErr r (λ f. IsChangeCause mid e grown f × IsSameSet before behind) → PagesComeTo old before behind all desk e grown r
  pages_come before behind all desk e grown (Ok done) (after, made) why = (
    after,
    subst (λ n. AreMade (is_lasting e) before behind all after e old.params n) same.number
        (subst (λ (p : Params). AreMade (is_lasting e) before behind all after e p mid.number) same.params made),
  )
  pages_come before behind all desk e grown (Err f) made why = (cause_since desk e grown f (as_cause mid desk e grown f why.0), why.1)

  -- and what the act comes to
  pub made_comes : (new : Core) (before behind : PageMap) (all : List Content) (base : Index) (desk : ℕ) (e : Event) (left grown : ℕ)
      → MayCommit old before all base desk e left grown → IsMade mid new desk e left → mid.number < 2 ^ 64
      → PagesComeTo old before behind all desk e grown (Ok tt) → ComesTo old new before behind all base desk e grown (Ok tt)
  made_comes new before behind all base desk e left grown may made low (after, pages) = (
    after,
    next_stands old new before behind all after base desk e left (subst (λ n. n < 2 ^ 64) same.number low) may.stands may.legal may.left_is
        (made_since new desk e left made) pages,
    pages,
  )
