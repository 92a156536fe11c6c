-- What follows the Put of a new node.
use Rattle.std.proofs.Common.{◌≡◌, ℕ, Bool, true, false, cond, List, [], ◌∷◌, ◌++◌, Option, Some, None, refl, sym, ap, subst, ◌∙◌}
use Rattle.vec_names.specs.declared.tid.Tid.{Tid}
use Rattle.vec_history.specs.declared.event.Act.{Act}
use Rattle.vec_history.specs.declared.gate.Gate.TheVariants.{Update}
use Rattle.vec_history.specs.Gates.{Holds}
use Rattle.vec_graph.specs.declared.place.Place.{Place}
use Rattle.neighbour_pick.specs.declared.found.Found.{Found}
use Rattle.graph_search.specs.Deeds.{Deed, Done, Enters, Hints, asked}
use Rattle.graph_search.specs.Insert.{Target, entering, hinting}
use Rattle.vec_steps.specs.declared.ask.Ask.{Ask}
use Rattle.vec_steps.specs.declared.ask.Ask.TheVariants as ask
use Rattle.vec_steps.specs.declared.told.Told.{Told}
use Rattle.vec_steps.specs.Index.{Index, IsLegal, IsShaped}
use Rattle.vec_steps.specs.Desks.{Asks, Desk}
use Rattle.vec_steps.specs.Calls.{Stepped}
use Rattle.vec_steps.proofs.Following.{one_step}
use Rattle.layer_search.specs.Linking.{LinksAll, OverLinks}
use Rattle.hnsw_insert.specs.Over.{IsNew, MayFinish, OverGraphs}
use Rattle.hnsw_insert.specs.Courses.{Did}
use Rattle.hnsw_insert.specs.Parts.{FinishesSo, is_higher, moves_hint}
use Rattle.hnsw_insert.proofs.Made.{did_as, did_links, did_none, did_one, did_over, did_then}
use Rattle.hnsw_insert.proofs.Lasts.{graphs_as}
use Rattle.hnsw_insert.proofs.NewNode.{links_on, may_enter, may_hint}
use Rattle.hnsw_insert.proofs.Under.{finish_on}

-- ---- the entry point

entering_is : (top : Option ℕ) (at : Tid) (level : ℕ) → entering top at level ≡ cond (is_higher top level) (asked (Enters at level) Done ∷ []) []
entering_is None at level = refl
entering_is (Some top) at level = refl

none_entered : (top : Option ℕ) (at : Tid) (level : ℕ) (b : Bool) → b ≡ is_higher top level → b ≡ false → entering top at level ≡ []
none_entered top at level b is not_so = entering_is top at level ∙ ap (λ c. cond c (asked (Enters at level) Done ∷ []) []) (sym is ∙ not_so)

one_entered : (top : Option ℕ) (at : Tid) (level : ℕ) (b : Bool) → b ≡ is_higher top level → b ≡ true → entering top at level ≡ asked (Enters at level) Done ∷ []
one_entered top at level b is so = entering_is top at level ∙ ap (λ c. cond c (asked (Enters at level) Done ∷ []) []) (sym is ∙ so)

pub not_entered : {over : Index → Type 0} {d : Desk} (acts : List Act) (top : Option ℕ) (at : Tid) (level : ℕ) (b : Bool) → b ≡ is_higher top level → b ≡ false
    → (trace : List ℕ) → Did over d acts acts trace trace (entering top at level)
not_entered acts top at level b is not_so trace = did_as (sym (none_entered top at level b is not_so)) (did_none acts trace)

pub entered : {stands : Index → Type 0} {d : Desk} {old new : List Act} {left : Ask} {told : Told} (held : Holds old d.number Update) (top : Option ℕ) (place : Place)
    (level : ℕ) (b : Bool) → b ≡ is_higher top level → b ≡ true → Stepped (Asks stands d old (ask.Entry (Some place.at) level)) d old new (ask.Entry (Some place.at) level) left told
    → (trace : List ℕ) → Did (OverGraphs stands (λ g. IsNew g old d.number level place)) d old new trace trace (entering top place.at level)
entered held top place level b is so s trace =
    did_as (sym (one_entered top place.at level b is so))
    (did_one (asked (Enters place.at level) Done) refl tt refl (one_step (may_enter held level place) s) trace)

-- ---- the hint

hinting_is : (level hint : ℕ) (at : Tid) (b : Bool) → b ≡ moves_hint level hint at → hinting level hint at ≡ cond b (asked (Hints at.block) Done ∷ []) []
hinting_is level hint at b is = ap (λ c. cond c (asked (Hints at.block) Done ∷ []) []) (sym is)

pub not_hinted : {over : Index → Type 0} {d : Desk} (acts : List Act) (level hint : ℕ) (at : Tid) (b : Bool) → b ≡ moves_hint level hint at → b ≡ false
    → (trace : List ℕ) → Did over d acts acts trace trace (hinting level hint at)
not_hinted acts level hint at b is not_so trace =
    did_as (sym (hinting_is level hint at b is ∙ ap (λ c. cond c (asked (Hints at.block) Done ∷ []) []) not_so)) (did_none acts trace)

pub hinted : {stands : Index → Type 0} {d : Desk} {old new : List Act} {left : Ask} {told : Told} (held : Holds old d.number Update) (hint : ℕ) (place : Place)
    (level : ℕ) (b : Bool) → b ≡ moves_hint level hint place.at → b ≡ true → ((base : Index) → stands base → IsShaped base) → ((base : Index) → stands base → IsLegal base old)
    → Stepped (Asks stands d old (ask.Hint place.at.block)) d old new (ask.Hint place.at.block) left told
    → (trace : List ℕ) → Did (OverGraphs stands (λ g. IsNew g old d.number level place)) d old new trace trace (hinting level hint place.at)
hinted held hint place level b is so shaped legal s trace =
    did_as (sym (hinting_is level hint place.at b is ∙ ap (λ c. cond c (asked (Hints place.at.block) Done ∷ []) []) so))
    (did_one (asked (Hints place.at.block) Done) refl tt refl (one_step (λ base o. may_hint held level place base (shaped base o.stood) (legal base o.stood) o) s) trace)

-- ---- one after the other

pub as_new : {stands : Index → Type 0} {acts : List Act} {desk : ℕ} (level : ℕ) (place : Place) (picks : List (ℕ × Found)) (base : Index)
    → OverGraphs stands (λ g. MayFinish g acts desk level place picks) base → OverGraphs stands (λ g. IsNew g acts desk level place) base
as_new level place picks base o = graphs_as base (λ g st a. a.new) o

module _ {stands later : Index → Type 0} {d e : Desk} {old mid : List Act} (level : ℕ) (place : Place) (picks : List (ℕ × Found)) (same : e ≡ d)
    (shaped : (base : Index) → later base → IsShaped base) (legal : (base : Index) → later base → IsLegal base mid) where
  pub after_links : {before now : List ℕ} {t : Target} {count : ℕ} → Holds old d.number Update → ((base : Index) → OverLinks stands d old place.at picks base → later base)
      → LinksAll (OverLinks stands d old place.at picks) d old mid before now t picks count
      → (base : Index) → OverGraphs stands (λ g. MayFinish g old d.number level place picks) base
      → OverGraphs later (λ g. MayFinish g mid e.number level place picks) base
  after_links held still l base o =
      let st = still base (links_on held level place picks base o) in
      finish_on same (did_links l.made) base st (shaped base st) (legal base st) level place picks o

  pub after_enter : {before now : List ℕ} {ds : List Deed} → ((base : Index) → OverGraphs stands (λ g. IsNew g old d.number level place) base → later base)
      → Did (OverGraphs stands (λ g. IsNew g old d.number level place)) d old mid before now ds
      → (base : Index) → OverGraphs stands (λ g. MayFinish g old d.number level place picks) base
      → OverGraphs later (λ g. MayFinish g mid e.number level place picks) base
  after_enter still m base o =
      let st = still base (as_new level place picks base o) in
      finish_on same m base st (shaped base st) (legal base st) level place picks o

-- all of it
pub finished : {s0 s1 s2 : Index → Type 0} {d e f : Desk} {old mid amid new : List Act} {before now : List ℕ} {count : ℕ} (t : Target) (place : Place) (at_is : t.at ≡ place.at) (level hint : ℕ) (top : Option ℕ)
    (picks : List (ℕ × Found)) → e ≡ d → f ≡ e → Holds old d.number Update
    → ((base : Index) → OverGraphs s0 (λ g. MayFinish g old d.number level place picks) base → OverGraphs s1 (λ g. MayFinish g mid e.number level place picks) base)
    → ((base : Index) → OverGraphs s1 (λ g. MayFinish g mid e.number level place picks) base → OverGraphs s2 (λ g. MayFinish g amid f.number level place picks) base)
    → LinksAll (OverLinks s0 d old place.at picks) d old mid before now t picks count
    → ((trace : List ℕ) → Did (OverGraphs s1 (λ g. IsNew g mid e.number level place)) e mid amid trace trace (entering top place.at level))
    → ((trace : List ℕ) → Did (OverGraphs s2 (λ g. IsNew g amid f.number level place)) f amid new trace trace (hinting level hint place.at))
    → FinishesSo (OverGraphs s0 (λ g. MayFinish g old d.number level place picks)) d old new before now t picks top level hint
finished {s0} {d = d} {old = old} {new = new} {before = before} {now = now} t place at_is level hint top picks same_1 same_2 held on_1 on_2 l enter move = record {
  back = l.deeds;
  linked_back = l.links;
  made = subst (λ a. Did (OverGraphs s0 (λ g. MayFinish g old d.number level place picks)) d old new before now (l.deeds ++ (entering top a level ++ hinting level hint a)))
      (sym at_is)
      (did_then same_1 on_1 (did_over (links_on held level place picks) (did_links l.made))
      (did_then same_2 on_2 (did_over (as_new level place picks) (enter now)) (did_over (as_new level place picks) (move now))));
}
