-- Nodes without rows are deleted.
use Rattle.std.proofs.Common.{◌≡◌, ◌≢◌, ◌⊎◌, inl, inr, ℕ, zero, suc, ◌+◌, ◌<◌, ◌≤◌, ◌==◌, ◌||◌, not, if◌then◌else◌, true, false, List, [], ◌∷◌, ◌++◌, take, drop, length, slice_get, slice_index_or, Option, Some, refl, sym, ap, subst, ◌∙◌, arith, true≢false}
use Rattle.std.specs.List.{AllByRecursion}
use Rattle.std.proofs.lemmas.Bool.Decides.{nat_tests}
use Rattle.std.proofs.lemmas.List.{length-append, take_at}
use Rattle.std.proofs.lemmas.Option.{none-some, same_Some, slice_get_within}
use Rattle.vec_names.specs.declared.tid.Tid.{Tid}
use Rattle.vec_names.specs.declared.params.Params.{Params}
use Rattle.vec_history.specs.declared.event.Event.{Event}
use Rattle.vec_history.specs.declared.event.Event.TheVariants as event
use Rattle.vec_history.specs.declared.event.Act.{Act}
use Rattle.vec_history.specs.declared.stage.Stage.{Stage}
use Rattle.vec_history.specs.declared.stage.Stage.TheVariants.{Mark}
use Rattle.vec_history.specs.Acts.{NoneFrom}
use Rattle.vec_history.specs.Phases.{IsInPhase, IsOfVacuum}
use Rattle.vec_history.proofs.ByActs.{allowed_at, cut}
use Rattle.vec_history.proofs.OneMore.{in_longer}
use Rattle.vec_graph.specs.declared.node.Node.{Node}
use Rattle.vec_graph.specs.declared.graph.Graph.{Graph}
use Rattle.vec_graph.specs.Graph.{IsDoomedAt, node_at}
use Rattle.vec_graph.specs.Shaped as nodes
use Rattle.vec_graph.specs.Places.{IsOnBlocks}
use Rattle.vec_graph.specs.Legal.{IsAllowed}
use Rattle.vec_graph.specs.Legal as history
use Rattle.vec_graph.specs.Effect.{after, state_after}
use Rattle.vec_graph.specs.Lasting.{IsMarkAt}
use Rattle.vec_graph.proofs.Shaping.{on_blocks_of, shaped_after}
use Rattle.vec_graph.proofs.Lasting.{stays_doomed, stays_same}
use Rattle.vec_graph.proofs.Vacuuming.{no_mark}
use Rattle.graph_search.specs.Deeds.{IsMadeAt, is_stale}
use Rattle.vec_steps.specs.declared.ask.Ask.{Ask}
use Rattle.vec_steps.specs.declared.ask.Ask.TheVariants as ask
use Rattle.vec_steps.specs.declared.told.Told.{Told}
use Rattle.vec_steps.specs.declared.told.Word.{Word}
use Rattle.vec_steps.specs.declared.told.Word.TheVariants as word
use Rattle.vec_steps.specs.Index.{Index, OfNodes, OfLists, IsLegal, IsShaped}
use Rattle.vec_steps.specs.Doing.{Step, cleaned, faulted, Cleaned, Cleared, Marks, Outdated, clear_reply, step_events}
use Rattle.vec_steps.specs.Telling.{clear_told}
use Rattle.vec_steps.specs.Desks.{Asks, Desk}
use Rattle.vec_steps.specs.Calls.{Acts, Does, NoneOf, events_of, steps_of}
use Rattle.vec_steps.proofs.Following.{acts_longer, one_step}
use Rattle.vec_steps.proofs.Lasting.{front_is, own_none}
use Rattle.hnsw_vacuum.specs.declared.marking.Doomed.{Doomed}
use Rattle.hnsw_vacuum.specs.declared.tally.Tally.{Tally}
use Rattle.hnsw_vacuum.specs.Courses.{IsStepped, Making, OverGraphs}
use Rattle.hnsw_vacuum.specs.Tallies.{InTurn, IsIdle, is_spent}
use Rattle.hnsw_vacuum.specs.Marking.{DeletesDoomed, IsDeletedBy, IsDueMark, IsOfMarks, MakesMarks, MarksNode, MarksNodes, MayMark, MayMarkAll, StandsDoomed, counts_mark}
use Rattle.hnsw_vacuum.proofs.Lasts.{phase_at, phase_lasts}
use Rattle.hnsw_vacuum.proofs.Stopped.{all_both, graphs_as, graphs_on, making_none}
use Rattle.hnsw_vacuum.proofs.Turns.{SoFar, none_made, only_steps}

-- the bases over which a node may be deleted
abbrev pub Marking : (Index → Type 0) → List Act → ℕ → Doomed → Index → Type 0
Marking stands acts desk s = OverGraphs stands (λ g. MayMark g acts desk s)

abbrev pub MarkingAll : (Index → Type 0) → List Act → ℕ → List Doomed → Index → Type 0
MarkingAll stands acts desk nodes = OverGraphs stands (λ g. MayMarkAll g acts desk nodes)

-- ---- a node without rows lasts until it is deleted

same_or_other : (a b : ℕ) → (a ≡ b) ⊎ (a ≢ b)
same_or_other zero zero = inl refl
same_or_other zero (suc b) = inr (λ e. absurd (omega (arith, e)))
same_or_other (suc a) zero = inr (λ e. absurd (omega (arith, e)))
same_or_other (suc a) (suc b) =
    elim (same_or_other a b) as (λ _. (suc a ≡ suc b) ⊎ (suc a ≢ suc b)) [
      | inl same ↦ inl (ap suc same)
      | inr other ↦ inr (λ e. other (omega (arith, e)))
    ]

module _ (g : Graph) {desk : ℕ} {old new : List Act} {es : List Event} (legal : history.IsLegal g new) (x : Acts desk old new es) (none : NoneOf IsOfVacuum es)
    (stage : Stage) (p : IsInPhase old desk stage) (q : Tid) (none_at : NoneOf (IsMarkAt q) es) where
  no_marks : NoneFrom new (length old) (λ a. IsMarkAt q a.event)
  no_marks j a low is mark =
      let inside = slice_get_within new j a is in
      elim (same_or_other a.desk desk) as (λ _. ⊥) [
        | inl same ↦ own_none (IsMarkAt q) desk x none_at j a low is (same, mark)
        | inr other ↦ no_mark g (take j new) desk a.desk other a.event (allowed_at (IsAllowed g) new j a legal is) stage (phase_at g legal x stage none p j low (omega (arith, inside))) q mark
      ]

  pub doomed_lasts : nodes.IsShaped g → (list_at : Tid) (version : ℕ) → StandsDoomed (after g old) (record { at = q; list_at = list_at; version = version })
      → StandsDoomed (after g new) (record { at = q; list_at = list_at; version = version })
  doomed_lasts shaped list_at version was =
      let on : IsOnBlocks (state_after g new (length old)) =
      on_blocks_of (after g (take (length old) new)) (shaped_after g shaped (take (length old) new) (cut (IsAllowed g) new (length old) legal)) in
      let s = subst (λ (h : List Act). StandsDoomed (after g h) (record { at = q; list_at = list_at; version = version })) (sym (front_is x)) was in
      let same = stays_same g new legal (length old) (acts_longer x) on q s.node no_marks s.there.stands s.there.not_deleted in
      let now = stays_doomed g new legal (length old) (acts_longer x) on q no_marks (record { node = s.node; stands = s.there.stands; doomed = s.doomed }) in
      let one : now.node ≡ same.node = same_Some now.node same.node (sym now.stands ∙ same.stands) in
      record {
        node = now.node;
        there = record {
          stands = now.stands;
          of_version = ap (λ (n : Node). n.version) one ∙ same.same.version ∙ s.there.of_version;
          not_deleted = now.doomed.not_deleted;
        };
        listed = ap (λ (n : Node). n.list_at) one ∙ same.same.list_at ∙ s.listed;
        doomed = now.doomed;
      }

-- ---- right before a step

pub acts_before : {over : Index → Type 0} {d : Desk} {old new : List Act} {q : Ask} {told : Told} → IsStepped over d old new q told
    → Acts d.number old (take told.at new) []
acts_before {d = d} {old = old} {new = new} {told = told} is = record {
  more = is.made.came.others;
  all = ap (take told.at) is.made.came.all ∙ take_at (old ++ is.made.came.others) _ told.at (length-append old is.made.came.others ∙ sym is.made.came.here);
  own_are = is.made.came.foreign;
}

-- ---- one node

pub nothing_marked : {over : Index → Type 0} {d : Desk} (acts : List Act) {P : List Step → Type 0} → P [] → MakesMarks over d acts acts P
nothing_marked acts p = record { course = []; made = making_none acts; is = p; traced = refl }

pub mark_due : {over : Index → Type 0} {d : Desk} (acts : List Act) (s : Doomed) (t now : Tally) → is_spent t.left ≡ true → now ≡ record t { due = true }
    → MakesMarks over d acts acts (MarksNode s t now)
mark_due acts s t now spent is =
    let due : MarksNode s t now [] = inl (record { spent = spent; now_is = is; none = refl }) in
    nothing_marked acts due

pub due_deleted : {old new : List Act} {desk : ℕ} {s : Doomed} (before now : Tally) → now ≡ record before { due = true } → now.due ≡ false → IsDeletedBy old new desk s
due_deleted before now is going = absurd (true≢false (sym (ap (λ (t : Tally). t.due) is) ∙ going))

pub of_fault : (count : ℕ) → IsOfMarks (faulted count)
of_fault count = tt

pub due_fault : (base : Index) (acts : List Act) (count : ℕ) → DeletesDoomed base acts (faulted count)
due_fault (OfNodes g) acts count = tt
due_fault (OfLists g) acts count = tt

of_marks : (at list_at : Tid) (version : ℕ) (w : Word) → IsOfMarks (cleaned (Marks at list_at version) (clear_told w))
of_marks at list_at version word.Done = tt
of_marks at list_at version word.Meta = tt
of_marks at list_at version word.Node = tt
of_marks at list_at version word.List = tt
of_marks at list_at version word.Page = tt
of_marks at list_at version word.Rows = tt
of_marks at list_at version word.Centres = tt
of_marks at list_at version word.Gone = tt
of_marks at list_at version word.NoRoom = tt
of_marks at list_at version word.Full = tt
of_marks at list_at version word.Stale = tt
of_marks at list_at version word.Changed = tt
of_marks at list_at version word.NotJoined = tt
of_marks at list_at version word.Busy = tt

same_is : (a b : ℕ) → a ≡ b → (a == b) ≡ true
same_is a b e = grind (arith, nat_tests)

fresh : (n : Node) (version : ℕ) → n.version ≡ version → n.deleted ≡ false → is_stale n version ≡ false
fresh n version same not_deleted = ap (λ b. b || not (n.version == version)) not_deleted ∙ ap not (same_is n.version version same)

module _ {stands : Index → Type 0} {d : Desk} {old : List Act} (s : Doomed) where
  pub may_mark : (base : Index) → Marking stands old d.number s base → Asks stands d old (ask.Mark s.at s.list_at s.version) base
  may_mark (OfNodes g) o = record {
    stood = o.stood;
    may = record { phase = o.so.phase; node = o.so.stands.node; there = o.so.stands.there; listed = o.so.stands.listed; doomed = o.so.stands.doomed };
  }
  may_mark (OfLists g) o = absurd o.so

  module _ {new : List Act} {told : Told}
      (is : IsStepped (Asks stands d old (ask.Mark s.at s.list_at s.version)) d old new (ask.Mark s.at s.list_at s.version) told) where
    still_doomed : (g : Graph) → nodes.IsShaped g → history.IsLegal g new → MayMark g old d.number s → StandsDoomed (after g (take told.at new)) s
    still_doomed g shaped legal may =
        doomed_lasts g (cut (IsAllowed g) new told.at legal) (acts_before is) tt Mark may.phase s.at tt shaped s.list_at s.version may.stands

    cleared_by : (g : Graph) → StandsDoomed (after g (take told.at new)) s
        → clear_told told.word ≡ clear_reply (node_at (after g (take told.at new)) s.at) s.version → clear_told told.word ≡ Cleared
    cleared_by g was says =
        says ∙ ap (λ (o : Option Node). clear_reply o s.version) was.there.stands
        ∙ ap (λ b. if b then Outdated else Cleared) (fresh was.node s.version was.there.of_version was.there.not_deleted)

    cleared : (g : Graph) → Marking stands old d.number s (OfNodes g) → nodes.IsShaped g → history.IsLegal g new → clear_told told.word ≡ Cleared
    cleared g o shaped legal = cleared_by g (still_doomed g shaped legal o.so) (is.made.says (OfNodes g) (may_mark (OfNodes g) o))

    due_mark : (base : Index) → IsShaped base → IsLegal base new → Marking stands old d.number s base
        → DeletesDoomed base (take told.at new) (cleaned (Marks s.at s.list_at s.version) (clear_told told.word))
    due_mark (OfNodes g) shaped legal o =
        let was = still_doomed g shaped legal o.so in
        let due : IsDoomedAt (after g (take told.at new)) s.at = record { node = was.node; stands = was.there.stands; doomed = was.doomed } in
        subst (λ (r : Cleaned). IsDueMark (after g (take told.at new)) (cleaned (Marks s.at s.list_at s.version) r)) (sym (cleared g o shaped legal)) due
    due_mark (OfLists g) shaped legal o = absurd o.so

    mark_does : Does (Marking stands old d.number s) d old new ((told.at, cleaned (Marks s.at s.list_at s.version) (clear_told told.word)) ∷ [])
    mark_does = one_step may_mark is.made

    pub mark_made : ((base : Index) → Marking stands old d.number s base → IsShaped base) → ((base : Index) → Marking stands old d.number s base → IsLegal base new)
        → Making IsOfMarks DeletesDoomed (Marking stands old d.number s) d old new
        ((told.at, cleaned (Marks s.at s.list_at s.version) (clear_told told.word)) ∷ [])
    mark_made shaped legal = record {
      does = mark_does;
      only = (of_marks s.at s.list_at s.version told.word, tt);
      so = λ base o. (due_mark base (shaped base o) (legal base o) o, tt);
    }

    pub node_marked : ((base : Index) → Marking stands old d.number s base → IsShaped base) → ((base : Index) → Marking stands old d.number s base → IsLegal base new)
        → (before now : Tally) → is_spent before.left ≡ false → now ≡ counts_mark (clear_told told.word) before
        → MakesMarks (Marking stands old d.number s) d old new (MarksNode s before now)
    node_marked shaped legal before now within counted =
        let asked : MarksNode s before now (cleaned (Marks s.at s.list_at s.version) (clear_told told.word) ∷ []) =
        inr (record { within = within; reply = clear_told told.word; now_is = counted; steps_are = refl }) in
        record {
          course = (told.at, cleaned (Marks s.at s.list_at s.version) (clear_told told.word)) ∷ [];
          made = mark_made shaped legal;
          is = asked;
          traced = refl;
        }

    pub node_deleted : (base : Index) → IsShaped base → IsLegal base new → Marking stands old d.number s base → IsDeletedBy old new d.number s
    node_deleted (OfNodes g) shaped legal o =
        let made : IsMadeAt new d.number told.at (step_events d.params (cleaned (Marks s.at s.list_at s.version) (clear_told told.word))) =
        (let h = mark_does.happened (OfNodes g) o in h.0.made) in
        record {
          position = told.at;
          since = let here = is.made.came.here in omega (arith, here);
          made = subst (λ (r : Cleaned). IsMadeAt new d.number told.at (step_events d.params (cleaned (Marks s.at s.list_at s.version) r))) (cleared g o shaped legal) made;
        }
    node_deleted (OfLists g) shaped legal o = absurd o.so

-- ---- what such steps leave as it was

quiet_step : (p : Params) (s : Step) → IsOfMarks s → NoneOf IsOfVacuum (step_events p s)
quiet_step p (cleaned (Marks at list_at version) Cleared) u = (λ h. h, tt)
quiet_step p (cleaned (Marks at list_at version) Outdated) u = tt
quiet_step p (faulted count) u = (λ h. h, tt)
quiet_step p _ u = absurd u

pub quiet : (p : Params) (course : List (ℕ × Step)) → AllByRecursion (λ (s : ℕ × Step). IsOfMarks s.1) course → NoneOf IsOfVacuum (events_of p (steps_of course))
quiet p course all = none_made IsOfVacuum IsOfMarks p (quiet_step p) course all

kept_one : (p : Params) (at list_at q : Tid) (version : ℕ) (reply : Cleaned) → (at ≡ q → ⊥) → IsOfMarks (cleaned (Marks at list_at version) reply)
    → NoneOf (IsMarkAt q) (events_of p (cleaned (Marks at list_at version) reply ∷ []))
kept_one p at list_at q version Cleared apart is = (apart, tt)
kept_one p at list_at q version Outdated apart is = tt
kept_one p at list_at q version _ apart is = absurd is

kept_of : (p : Params) (s : Doomed) (q : Tid) (before now : Tally) (steps : List Step) → (s.at ≡ q → ⊥) → AllByRecursion IsOfMarks steps → MarksNode s before now steps
    → NoneOf (IsMarkAt q) (events_of p steps)
kept_of p s q before now steps apart all (inl due) = subst (λ (l : List Step). NoneOf (IsMarkAt q) (events_of p l)) (sym due.none) tt
kept_of p s q before now steps apart all (inr made) =
    subst (λ (l : List Step). NoneOf (IsMarkAt q) (events_of p l)) (sym made.steps_are)
    (kept_one p s.at s.list_at q s.version made.reply apart (subst (AllByRecursion IsOfMarks) made.steps_are all).0)

-- ---- the nodes behind it

module _ (g : Graph) (shaped : nodes.IsShaped g) {over : Index → Type 0} {d : Desk} {old new : List Act} {s : Doomed} {before now : Tally}
    (legal : history.IsLegal g new) (x : MakesMarks over d old new (MarksNode s before now)) where
  rest_stand : (nodes : List Doomed) → MayMarkAll g old d.number (s ∷ nodes) → (ts : List Doomed) → AllByRecursion (λ (t : Doomed). t.at ≡ s.at → ⊥) ts
      → AllByRecursion (StandsDoomed (after g old)) ts → AllByRecursion (StandsDoomed (after g new)) ts
  rest_stand nodes m [] apart all = tt
  rest_stand nodes m (t ∷ ts) apart all = (
    doomed_lasts g legal x.made.does.acts (quiet d.params x.course x.made.only) Mark m.phase t.at
        (kept_of d.params s t.at before now (steps_of x.course) (λ e. apart.0 (sym e)) (only_steps IsOfMarks x.course x.made.only) x.is) shaped t.list_at t.version all.0,
    rest_stand nodes m ts apart.1 all.1,
  )

  pub may_rest : (nodes : List Doomed) → MayMarkAll g old d.number (s ∷ nodes) → MayMarkAll g new d.number nodes
  may_rest nodes m = record {
    phase = phase_lasts g legal x.made.does.acts Mark (quiet d.params x.course x.made.only) m.phase;
    stand = rest_stand nodes m nodes m.apart.0 m.stand.1;
    apart = m.apart.1;
  }

-- ---- bases, for the same desk

pub first_of : {stands : Index → Type 0} {acts : List Act} {d e : Desk} {s : Doomed} {nodes left : List Doomed} → e ≡ d → left ≡ s ∷ nodes → (base : Index)
    → MarkingAll stands acts d.number left base → Marking stands acts e.number s base
first_of {stands} {acts} {d} {e} {s} {nodes} {left} same is base o =
    subst (λ (k : Desk). Marking stands acts k.number s base) (sym same)
    (graphs_as base (λ g st m. record { phase = m.phase; stands = m.stand.0 })
    (subst (λ (l : List Doomed). MarkingAll stands acts d.number l base) is o))

pub rest_of : {stands later over : Index → Type 0} {mid new : List Act} {d e : Desk} {s : Doomed} {nodes left : List Doomed} {before now : Tally} → e ≡ d
    → left ≡ s ∷ nodes → MakesMarks over e mid new (MarksNode s before now) → (base : Index) → later base → IsShaped base → IsLegal base new
    → MarkingAll stands mid d.number left base → MarkingAll later new d.number nodes base
rest_of {stands} {later} {over} {mid} {new} {d} {e} {s} {nodes} {left} same is x base stood shaped legal o =
    subst (λ (k : Desk). MarkingAll later new k.number nodes base) same
    (graphs_on new base stood shaped legal (λ g st sh le m. may_rest g sh le x nodes m)
    (subst (λ (k : Desk). MarkingAll stands mid k.number (s ∷ nodes) base) (sym same) (subst (λ (l : List Doomed). MarkingAll stands mid d.number l base) is o)))

-- ---- lists

at_index : {X : Type 0} (k : ℕ) (xs : List X) (x : X) → k < length xs → x ≡ slice_index_or xs k x → slice_get xs k ≡ Some x
at_index k [] x low is = absurd (omega (arith, low))
at_index zero (y ∷ xs) x low is = ap Some (sym is)
at_index (suc k) (y ∷ xs) x low is = at_index k xs x (omega (arith, low)) is

drop_of : {X : Type 0} (k : ℕ) (xs : List X) (x : X) → slice_get xs k ≡ Some x → drop k xs ≡ x ∷ drop (suc k) xs
drop_of k [] x is = absurd (none-some x is)
drop_of zero (y ∷ xs) x is = ap (λ z. z ∷ xs) (same_Some y x is)
drop_of (suc k) (y ∷ xs) x is = drop_of k xs x is

pub next_of : {X : Type 0} (k : ℕ) (xs : List X) (x : X) → k < length xs → x ≡ slice_index_or xs k x → drop k xs ≡ x ∷ drop (k + 1) xs
next_of k xs x low is =
    let e : suc k ≡ k + 1 = omega arith in
    drop_of k xs x (at_index k xs x low is) ∙ ap (λ n. x ∷ drop n xs) e

pub none_left : {X : Type 0} (k : ℕ) (xs : List X) → length xs ≤ k → drop k xs ≡ []
none_left zero [] h = refl
none_left (suc k) [] h = refl
none_left zero (x ∷ xs) h = absurd (omega (arith, h))
none_left (suc k) (x ∷ xs) h = none_left k xs (omega (arith, h))

take_of : {X : Type 0} (k : ℕ) (xs : List X) (x : X) → slice_get xs k ≡ Some x → take (suc k) xs ≡ take k xs ++ x ∷ []
take_of k [] x is = absurd (none-some x is)
take_of zero (y ∷ xs) x is = ap (λ z. z ∷ []) (same_Some y x is)
take_of (suc k) (y ∷ xs) x is = ap (λ l. y ∷ l) (take_of k xs x is)

take_whole : {X : Type 0} (k : ℕ) (xs : List X) → length xs ≤ k → take k xs ≡ xs
take_whole zero [] h = refl
take_whole (suc k) [] h = refl
take_whole zero (x ∷ xs) h = absurd (omega (arith, h))
take_whole (suc k) (x ∷ xs) h = ap (λ l. x ∷ l) (take_whole k xs (omega (arith, h)))

-- ---- nodes in turn

pub of_next : {over : Index → Type 0} {d : Desk} {old new : List Act} {t u : List ℕ} {All : Tally → Tally → List Step → Type 0} {left nodes : List Doomed} {s : Doomed}
    {before now : Tally} → left ≡ s ∷ nodes → SoFar IsOfMarks DeletesDoomed over d old new t u All (MarksNodes left) before now
    → SoFar IsOfMarks DeletesDoomed over d old new t u All (InTurn (MarksNode s) (MarksNodes nodes)) before now
of_next {over} {d} {old} {new} {t} {u} {All} {left} {nodes} {s} {before} {now} next so =
    subst (λ (l : List Doomed). SoFar IsOfMarks DeletesDoomed over d old new t u All (MarksNodes l) before now) next so

pub no_nodes : (left : List Doomed) (t : Tally) → left ≡ [] → MarksNodes left t t []
no_nodes left t ended =
    let idle : IsIdle t t [] = record { same = refl; none = refl } in
    subst (λ (l : List Doomed). MarksNodes l t t []) (sym ended) idle

all_as : {X : Type 0} {P Q : X → Type 0} (xs : List X) → ((x : X) → P x → Q x) → AllByRecursion P xs → AllByRecursion Q xs
all_as [] on all = tt
all_as (x ∷ xs) on all = (on x all.0, all_as xs on all.1)

deleted_longer : {old mid new : List Act} {desk : ℕ} (more : List Act) (s : Doomed) → new ≡ mid ++ more → IsDeletedBy old mid desk s → IsDeletedBy old new desk s
deleted_longer {mid = mid} {desk = desk} more s all b = record {
  position = b.position;
  since = b.since;
  made = ap (λ (l : List Act). slice_get l b.position) all ∙ in_longer mid more b.position (record { desk = desk; event = event.Mark s.at s.list_at s.version }) b.made;
}

deleted_earlier : {old mid new : List Act} {desk : ℕ} {s : Doomed} → length old ≤ length mid → IsDeletedBy mid new desk s → IsDeletedBy old new desk s
deleted_earlier longer b = record { position = b.position; since = omega (arith, longer, b.since); made = b.made }

-- those before this one, and this one
pub one_deleted : {mid new : List Act} {d e : Desk} {es : List Event} (old : List Act) (k : ℕ) (nodes : List Doomed) (s : Doomed) → k < length nodes → s ≡ slice_index_or nodes k s → e ≡ d
    → length old ≤ length mid → Acts e.number mid new es → AllByRecursion (IsDeletedBy old mid d.number) (take k nodes) → IsDeletedBy mid new e.number s
    → AllByRecursion (IsDeletedBy old new d.number) (take (k + 1) nodes)
one_deleted {mid} {new} {d} old k nodes s low is same longer x all one =
    let step : suc k ≡ k + 1 = omega arith in
    let so_far : AllByRecursion (IsDeletedBy old new d.number) (take k nodes) = all_as (take k nodes) (λ t b. deleted_longer x.more t x.all b) all in
    let last : IsDeletedBy old new d.number s = deleted_earlier longer (subst (λ (j : Desk). IsDeletedBy mid new j.number s) same one) in
    subst (λ n. AllByRecursion (IsDeletedBy old new d.number) (take n nodes)) step
    (subst (AllByRecursion (IsDeletedBy old new d.number)) (sym (take_of k nodes s (at_index k nodes s low is)))
    (all_both (IsDeletedBy old new d.number) (take k nodes) (s ∷ []) so_far (last, tt)))

pub all_deleted : (old new : List Act) (desk k : ℕ) (nodes : List Doomed) → length nodes ≤ k → AllByRecursion (IsDeletedBy old new desk) (take k nodes)
    → AllByRecursion (IsDeletedBy old new desk) nodes
all_deleted old new desk k nodes high all = subst (AllByRecursion (IsDeletedBy old new desk)) (take_whole k nodes high) all
