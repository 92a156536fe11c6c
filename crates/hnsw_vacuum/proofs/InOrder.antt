-- The nodes of a page, one after the other.
use Rattle.std.proofs.Common.{◌≡◌, inl, inr, ℕ, zero, suc, ◌+◌, ◌<◌, ◌≤◌, List, [], ◌∷◌, Bool, map, drop, length, slice_get, slice_index_or, Some, refl, sym, ap, subst, ◌∙◌, arith}
use Rattle.std.specs.List.{AllByRecursion}
use Rattle.std.proofs.lemmas.Option.{none-some, same_Some}
use Rattle.vec_names.specs.declared.tid.Tid.{Tid}
use Rattle.vec_names.specs.declared.heap_id.HeapId.{HeapId}
use Rattle.vec_names.specs.declared.params.Params.{Params}
use Rattle.vec_history.specs.declared.event.Event.TheVariants as event
use Rattle.vec_history.specs.declared.event.Act.{Act}
use Rattle.vec_history.specs.declared.stage.Stage.TheVariants.{Remove}
use Rattle.vec_history.specs.Phases.{IsOfVacuum}
use Rattle.vec_graph.specs.declared.graph.Graph.{Graph}
use Rattle.vec_graph.specs.Shaped as nodes
use Rattle.vec_graph.specs.Legal as history
use Rattle.vec_graph.specs.Effect.{after}
use Rattle.vec_graph.specs.Lasting.{IsIdsEndAt}
use Rattle.graph_search.specs.Reads.{Seen}
use Rattle.vec_steps.specs.Index.{Index, IsLegal, IsShaped}
use Rattle.vec_steps.specs.Doing.{Step, Cleaned, Drops, Left, Outdated, cleaned, faulted, step_events}
use Rattle.vec_steps.specs.Desks.{Desk}
use Rattle.vec_steps.specs.Calls.{NoneOf, events_of, steps_of}
use Rattle.hnsw_vacuum.specs.declared.tally.Tally.{Tally}
use Rattle.hnsw_vacuum.specs.Courses.{OverGraphs}
use Rattle.hnsw_vacuum.specs.Tallies.{InTurn, IsIdle}
use Rattle.hnsw_vacuum.specs.Dropping.{DropsNamed, DropsNode, DropsNodes, IsOfDrops, MakesDrops, MayDropAll, StandsTold, TakesDead}
use Rattle.hnsw_vacuum.specs.Masks.{dead_in, mask_of}
use Rattle.hnsw_vacuum.proofs.Drops.{Dropping}
use Rattle.hnsw_vacuum.proofs.Lasts.{phase_lasts, seen_lasts}
use Rattle.hnsw_vacuum.proofs.Stopped.{graphs_as, graphs_on}
use Rattle.hnsw_vacuum.proofs.Turns.{SoFar, none_made, only_steps}

-- ---- what such steps leave as it was

-- they begin no phase and end none
quiet_step : (p : Params) (s : Step) → IsOfDrops s → NoneOf IsOfVacuum (step_events p s)
quiet_step p (cleaned (Drops at version gone) (Left ids)) u = (λ h. h, tt)
quiet_step p (cleaned (Drops at version gone) Outdated) u = tt
quiet_step p (faulted count) u = (λ h. h, tt)
quiet_step p _ u = absurd u

pub quiet : (p : Params) (course : List (ℕ × Step)) → AllByRecursion (λ (s : ℕ × Step). IsOfDrops s.1) course → NoneOf IsOfVacuum (events_of p (steps_of course))
quiet p course all = none_made IsOfVacuum IsOfDrops p (quiet_step p) course all

-- those of one node leave the ids of others
by_mark : (at q : Tid) (version gone : ℕ) → (at ≡ q → ⊥) → IsIdsEndAt q (event.Drop at version gone) → ⊥
by_mark at q version gone apart (inl mark) = mark
by_mark at q version gone apart (inr same) = apart same

kept_one : (p : Params) (at q : Tid) (version gone : ℕ) (reply : Cleaned) → (at ≡ q → ⊥) → IsOfDrops (cleaned (Drops at version gone) reply)
    → NoneOf (IsIdsEndAt q) (events_of p (cleaned (Drops at version gone) reply ∷ []))
kept_one p at q version gone (Left ids) apart is = (by_mark at q version gone apart, tt)
kept_one p at q version gone Outdated apart is = tt
kept_one p at q version gone _ apart is = absurd is

kept_none : (p : Params) (q : Tid) (steps : List Step) → steps ≡ [] → NoneOf (IsIdsEndAt q) (events_of p steps)
kept_none p q steps none = subst (λ (l : List Step). NoneOf (IsIdsEndAt q) (events_of p l)) (sym none) tt

kept_of : (p : Params) (s : Seen) (q : Tid) (n dead : ℕ) (before now : Tally) (steps : List Step) → (s.at ≡ q → ⊥) → AllByRecursion IsOfDrops steps
    → DropsNamed s n dead before now steps → NoneOf (IsIdsEndAt q) (events_of p steps)
kept_of p s q zero dead before now steps apart all drops = kept_none p q steps drops.none
kept_of p s q (suc n) dead before now steps apart all (inl due) = kept_none p q steps due.none
kept_of p s q (suc n) dead before now steps apart all (inr made) =
    subst (λ (l : List Step). NoneOf (IsIdsEndAt q) (events_of p l)) (sym made.steps_are)
    (kept_one p s.at q s.version (suc n) made.reply apart (subst (AllByRecursion IsOfDrops) made.steps_are all).0)

-- ---- the nodes behind it

module _ (J : HeapId → Bool → Type 0) (g : Graph) (shaped : nodes.IsShaped g) {over : Index → Type 0} {d : Desk} {old new : List Act} {s : Seen} {before now : Tally}
    (legal : history.IsLegal g new) (x : MakesDrops J over d old new (DropsNode J s before now)) where
  pub kept_at : (q : Tid) → (s.at ≡ q → ⊥) → NoneOf (IsIdsEndAt q) (events_of d.params (steps_of x.course))
  kept_at q apart =
      kept_of d.params s q (mask_of x.is.answers) (dead_in x.is.answers) before now (steps_of x.course) apart (only_steps IsOfDrops x.course x.made.only) x.is.drops

  rest_stand : (seen : List Seen) → MayDropAll g old d.number (s ∷ seen) → (ts : List Seen) → AllByRecursion (λ (t : Seen). t.at ≡ s.at → ⊥) ts
      → AllByRecursion (StandsTold (after g old)) ts → AllByRecursion (StandsTold (after g new)) ts
  rest_stand seen m [] apart all = tt
  rest_stand seen m (t ∷ ts) apart all = (
    λ alive. seen_lasts g legal x.made.does.acts Remove (quiet d.params x.course x.made.only) m.phase t.at (kept_at t.at (λ e. apart.0 (sym e))) shaped t.version t.ids
        (all.0 alive),
    rest_stand seen m ts apart.1 all.1,
  )

  pub may_rest : (seen : List Seen) → MayDropAll g old d.number (s ∷ seen) → MayDropAll g new d.number seen
  may_rest seen m = record {
    phase = phase_lasts g legal x.made.does.acts Remove (quiet d.params x.course x.made.only) m.phase;
    stand = rest_stand seen m seen m.apart.0 m.stand.1;
    apart = m.apart.1;
  }

-- the bases over which all these nodes may lose rows
abbrev pub DroppingAll : (Index → Type 0) → List Act → ℕ → List Seen → Index → Type 0
DroppingAll stands acts desk seen = OverGraphs stands (λ g. MayDropAll g acts desk seen)

pub may_first : {stands : Index → Type 0} {acts : List Act} {desk : ℕ} (s : Seen) (seen : List Seen) (base : Index) → DroppingAll stands acts desk (s ∷ seen) base
    → Dropping stands acts desk s base
may_first s seen base o = graphs_as base (λ g st m. record { phase = m.phase; stands = m.stand.0 }) o

pub no_nodes : (J : HeapId → Bool → Type 0) (left : List Seen) (t : Tally) → left ≡ [] → DropsNodes J left t t []
no_nodes J left t ended =
    let idle : IsIdle t t [] = record { same = refl; none = refl } in
    subst (λ (l : List Seen). DropsNodes J l t t []) (sym ended) idle

-- ---- lists

pub at_index : {X : Type 0} (k : ℕ) (xs : List X) (x : X) → k < length xs → x ≡ slice_index_or xs k x → slice_get xs k ≡ Some x
at_index k [] x low is = absurd (omega (arith, low))
at_index zero (y ∷ xs) x low is = ap Some (sym is)
at_index (suc k) (y ∷ xs) x low is = at_index k xs x (omega (arith, low)) is

drop_of : {X Y : Type 0} (f : X → Y) (k : ℕ) (xs : List X) (x : X) → slice_get xs k ≡ Some x → drop k (map f xs) ≡ f x ∷ drop (suc k) (map f xs)
drop_of f k [] x is = absurd (none-some x is)
drop_of f zero (y ∷ xs) x is = ap (λ z. f z ∷ map f xs) (same_Some y x is)
drop_of f (suc k) (y ∷ xs) x is = drop_of f k xs x is

pub next_of : {X Y : Type 0} (f : X → Y) (k : ℕ) (xs : List X) (x : X) → k < length xs → x ≡ slice_index_or xs k x
    → drop k (map f xs) ≡ f x ∷ drop (k + 1) (map f xs)
next_of f k xs x low is =
    let e : suc k ≡ k + 1 = omega arith in
    drop_of f k xs x (at_index k xs x low is) ∙ ap (λ n. f x ∷ drop n (map f xs)) e

pub none_left : {X Y : Type 0} (f : X → Y) (k : ℕ) (xs : List X) → length xs ≤ k → drop k (map f xs) ≡ []
none_left f zero [] h = refl
none_left f (suc k) [] h = refl
none_left f zero (x ∷ xs) h = absurd (omega (arith, h))
none_left f (suc k) (x ∷ xs) h = none_left f k xs (omega (arith, h))

pub of_next : {over : Index → Type 0} {d : Desk} {old new : List Act} {t u : List ℕ} {All : Tally → Tally → List Step → Type 0} {left seen : List Seen} {s : Seen}
    {before now : Tally} (J : HeapId → Bool → Type 0) → left ≡ s ∷ seen → SoFar IsOfDrops (TakesDead J) over d old new t u All (DropsNodes J left) before now
    → SoFar IsOfDrops (TakesDead J) over d old new t u All (InTurn (DropsNode J s) (DropsNodes J seen)) before now
of_next {over} {d} {old} {new} {t} {u} {All} {left} {seen} {s} {before} {now} J next so =
    subst (λ (l : List Seen). SoFar IsOfDrops (TakesDead J) over d old new t u All (DropsNodes J l) before now) next so

-- ---- bases, for the same desk

pub first_of : {stands : Index → Type 0} {acts : List Act} {d e : Desk} {s : Seen} {seen left : List Seen} → e ≡ d → left ≡ s ∷ seen → (base : Index)
    → DroppingAll stands acts d.number left base → Dropping stands acts e.number s base
first_of {stands} {acts} {d} {e} {s} {seen} {left} same is base o =
    subst (λ (k : Desk). Dropping stands acts k.number s base) (sym same)
    (may_first s seen base (subst (λ (l : List Seen). DroppingAll stands acts d.number l base) is o))

pub rest_of : {stands later over : Index → Type 0} {mid new : List Act} {d e : Desk} {s : Seen} {seen left : List Seen} {before now : Tally} (J : HeapId → Bool → Type 0) → e ≡ d
    → left ≡ s ∷ seen → MakesDrops J over e mid new (DropsNode J s before now) → (base : Index) → later base → IsShaped base → IsLegal base new
    → DroppingAll stands mid d.number left base → DroppingAll later new d.number seen base
rest_of {stands} {later} {over} {mid} {new} {d} {e} {s} {seen} {left} J same is x base stood shaped legal o =
    subst (λ (k : Desk). DroppingAll later new k.number seen base) same
    (graphs_on new base stood shaped legal (λ g st sh le m. may_rest J g sh le x seen m)
    (subst (λ (k : Desk). DroppingAll stands mid k.number (s ∷ seen) base) (sym same) (subst (λ (l : List Seen). DroppingAll stands mid d.number l base) is o)))
