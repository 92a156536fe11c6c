-- Looks at pages in the first pass, and what is dropped of the nodes that they tell.
use Rattle.std.proofs.Common.{◌≡◌, ℕ, suc, ◌+◌, ◌-◌, ◌<◌, ◌≤◌, List, [], ◌∷◌, ◌++◌, Bool, Option, map, take, length, refl, sym, ap, subst, ◌∙◌, append-nil, arith}
use Rattle.std.specs.List.{AllByRecursion}
use Rattle.std.proofs.Math.Seq.{take-length}
use Rattle.std.proofs.lemmas.List.{length-append}
use Rattle.vec_names.specs.declared.tid.Tid.{Tid}
use Rattle.vec_names.specs.declared.heap_id.HeapId.{HeapId}
use Rattle.vec_names.specs.declared.params.Params.{Params}
use Rattle.vec_history.specs.declared.event.Act.{Act}
use Rattle.vec_history.specs.declared.stage.Stage.TheVariants.{Remove}
use Rattle.vec_history.specs.Phases.{IsInPhase, IsOfVacuum}
use Rattle.vec_graph.specs.Effect.{after}
use Rattle.graph_search.specs.Reads.{Answer, Look, Seen, AtMeta, AtPage, OfMeta, OfPage, answer_of, nodes_on}
use Rattle.graph_search.specs.Deeds.{looked}
use Rattle.vec_steps.specs.declared.ask.Ask.TheVariants as ask
use Rattle.vec_steps.specs.declared.seen.Seen as told
use Rattle.vec_steps.specs.declared.told.Told.{Told}
use Rattle.vec_steps.specs.declared.fault.OpFault.{OpFault}
use Rattle.vec_steps.specs.Index.{Index, OfNodes, OfLists, IsLegal, IsShaped}
use Rattle.vec_steps.specs.Doing.{Step, cleaned, did, faulted, Drops, Left, Outdated, step_events}
use Rattle.vec_steps.specs.Telling.{seen_told}
use Rattle.vec_steps.specs.Desks.{Asks, Desk}
use Rattle.vec_steps.specs.Calls.{Does, NoneOf, events_of, steps_of}
use Rattle.vec_steps.proofs.Following.{one_step}
use Rattle.hnsw_vacuum.specs.declared.tally.Tally.{Tally}
use Rattle.hnsw_vacuum.specs.Tallies.{InTurn, IsIdle}
use Rattle.hnsw_vacuum.specs.Courses.{IsGraphSo, IsNotStepped, IsStepped, Making, OverGraphs, OverNodes, StopsBy}
use Rattle.hnsw_vacuum.specs.Dropping.{DropsNodes, IsOfDrops, MakesDrops, MayDropAll, StopsDrops, TakesDead}
use Rattle.hnsw_vacuum.specs.Removing.{DropsPage, DropsPages, HasBlocks, IsOfLooks, IsOfRemove, LooksOnce, MakesRemoves, MayRemove, RemovesDead, SaysNoMore, StopsRemoves}
use Rattle.hnsw_vacuum.proofs.Lasts.{blocks_last, phase_lasts}
use Rattle.hnsw_vacuum.proofs.Stopped.{graphs_as, graphs_on, making_as, making_then, step_fails, stops_as, stops_then, traced_then}
use Rattle.hnsw_vacuum.proofs.Turns.{SoFar, none_made}
use Rattle.hnsw_vacuum.proofs.PageNodes.{nodes_apart, nodes_stand}

-- the bases over which so many blocks may be seen to
abbrev pub Removing : (Index → Type 0) → List Act → ℕ → ℕ → Index → Type 0
Removing stands acts desk count = OverGraphs stands (λ g. MayRemove g acts desk count)

-- ---- one look

-- of a look that was made
pub looking : {over : Index → Type 0} {d : Desk} {old new : List Act} (at : ℕ) (look : Look) (told : Answer) → Does over d old new ((at, did (looked look told)) ∷ [])
    → Making IsOfLooks SaysNoMore over d old new ((at, did (looked look told)) ∷ [])
looking at look told x = record { does = x; only = (tt, tt); so = λ base o. (tt, tt) }

abbrev page_of : Answer → List Seen
page_of (OfPage seen) = seen
page_of _ = []

-- ---- the meta tuple

abbrev blocks_of : Answer → ℕ
blocks_of (OfMeta entry level hint blocks) = blocks
blocks_of _ = 0

module _ {stands : Index → Type 0} {d : Desk} {old : List Act} where
  pub meta_asks : (base : Index) → OverNodes stands base → Asks stands d old ask.Meta base
  meta_asks (OfNodes g) o = record { stood = o.stood; may = tt }
  meta_asks (OfLists g) o = absurd o.so

  pub meta_fails : {new : List Act} (end : OpFault) → IsNotStepped (Asks stands d old ask.Meta) d old new ask.Meta end
      → StopsBy IsOfLooks SaysNoMore (OverNodes stands) d old new end
  meta_fails end s = step_fails (λ count. tt) (λ base acts count. tt) meta_asks end s

  module _ {new : List Act} {told : Told} (is : IsStepped (Asks stands d old ask.Meta) d old new ask.Meta told) where
    pub meta_made : Making IsOfLooks SaysNoMore (OverNodes stands) d old new
        ((told.at, did (looked AtMeta (OfMeta told.tid told.level told.hint told.blocks))) ∷ [])
    meta_made = looking told.at AtMeta (OfMeta told.tid told.level told.hint told.blocks) (one_step meta_asks is.made)

    at_end_of_meta : take told.at new ≡ new
    at_end_of_meta =
        let all : new ≡ old ++ is.made.came.others = is.made.came.all ∙ append-nil (old ++ is.made.came.others) in
        let here : told.at ≡ length new = is.made.came.here ∙ sym (length-append old is.made.came.others) ∙ ap (λ (l : List Act). length l) (sym all) in
        ap (λ n. take n new) here ∙ take-length new

    pub meta_there : {later : Index → Type 0} (base : Index) → later base → OverNodes stands base → OverGraphs later (HasBlocks new told.blocks) base
    meta_there (OfNodes g) stood o =
        let says : OfMeta told.tid told.level told.hint told.blocks ≡ answer_of (after g (take told.at new)) AtMeta = is.made.says (OfNodes g) (meta_asks (OfNodes g) o) in
        let same : told.blocks ≡ (after g new).blocks = ap blocks_of says ∙ ap (λ (l : List Act). (after g l).blocks) at_end_of_meta in
        record { stood = stood; so = sym same }
    meta_there (OfLists g) stood o = absurd o.so

-- ---- a page

-- the page is asked for, over these bases
module _ {stands : Index → Type 0} {d : Desk} {old : List Act} (block : ℕ) where
  pub page_asks : (base : Index) → Removing stands old d.number (block + 1) base → Asks stands d old (ask.Page block) base
  page_asks (OfNodes g) o = record { stood = o.stood; may = let there = o.so.there in omega (arith, there) }
  page_asks (OfLists g) o = absurd o.so

  pub page_fails : {new : List Act} (end : OpFault) → IsNotStepped (Asks stands d old (ask.Page block)) d old new (ask.Page block) end
      → StopsBy IsOfLooks SaysNoMore (Removing stands old d.number (block + 1)) d old new end
  page_fails end s = step_fails (λ count. tt) (λ base acts count. tt) page_asks end s

  module _ {new : List Act} {told : Told} (is : IsStepped (Asks stands d old (ask.Page block)) d old new (ask.Page block) told) where
    page_does : Does (Removing stands old d.number (block + 1)) d old new ((told.at, did (looked (AtPage block) (OfPage (map seen_told told.nodes)))) ∷ [])
    page_does = one_step page_asks is.made

    pub page_made : Making IsOfLooks SaysNoMore (Removing stands old d.number (block + 1)) d old new
        ((told.at, did (looked (AtPage block) (OfPage (map seen_told told.nodes)))) ∷ [])
    page_made = looking told.at (AtPage block) (OfPage (map seen_told told.nodes)) page_does

    -- nothing came behind the look
    at_end : take told.at new ≡ new
    at_end =
        let all : new ≡ old ++ is.made.came.others = is.made.came.all ∙ append-nil (old ++ is.made.came.others) in
        let here : told.at ≡ length new = is.made.came.here ∙ sym (length-append old is.made.came.others) ∙ ap (λ (l : List Act). length l) (sym all) in
        ap (λ n. take n new) here ∙ take-length new

    pub page_are : (base : Index) → Removing stands old d.number (block + 1) base → IsGraphSo (λ g. map seen_told told.nodes ≡ nodes_on (after g new) block) base
    page_are (OfNodes g) o =
        let says : OfPage (map seen_told told.nodes) ≡ OfPage (nodes_on (after g (take told.at new)) block) = is.made.says (OfNodes g) (page_asks (OfNodes g) o) in
        ap page_of says ∙ ap (λ (l : List Act). nodes_on (after g l) block) at_end
    page_are (OfLists g) o = absurd o.so

    pub page_may : {later : Index → Type 0} (base : Index) → later base → IsShaped base → IsLegal base new → Removing stands old d.number (block + 1) base
        → OverGraphs later (λ g. MayDropAll g new d.number (map seen_told told.nodes)) base
    page_may (OfNodes g) stood shaped legal o =
        let told_are : map seen_told told.nodes ≡ nodes_on (after g new) block = page_are (OfNodes g) o in
        let all : MayDropAll g new d.number (nodes_on (after g new) block) = record {
          phase = phase_lasts g legal page_does.acts Remove tt o.so.phase;
          stand = nodes_stand (after g new) block;
          apart = nodes_apart (after g new) block;
        } in
        record { stood = stood; so = subst (MayDropAll g new d.number) (sym told_are) all }
    page_may (OfLists g) stood shaped legal o = absurd o.so

-- ---- a look, and then Drops

looks_remove : (s : Step) → IsOfLooks s → IsOfRemove s
looks_remove (did (looked look told)) is = tt
looks_remove (faulted count) is = tt
looks_remove _ is = absurd is

looks_dead : (J : HeapId → Bool → Type 0) (base : Index) (acts : List Act) (s : Step) → IsOfLooks s → SaysNoMore base acts s → TakesDead J base acts s
looks_dead J (OfLists g) acts s is so = tt
looks_dead J (OfNodes g) acts (did (looked look told)) is so = tt
looks_dead J (OfNodes g) acts (faulted count) is so = tt
looks_dead J (OfNodes g) acts _ is so = absurd is

drops_remove : (s : Step) → IsOfDrops s → IsOfRemove s
drops_remove (cleaned (Drops at version gone) (Left ids)) is = tt
drops_remove (cleaned (Drops at version gone) Outdated) is = tt
drops_remove (faulted count) is = tt
drops_remove _ is = absurd is

pub look_stops : {over : Index → Type 0} {d : Desk} {old new : List Act} {end : OpFault} (J : HeapId → Bool → Type 0) → StopsBy IsOfLooks SaysNoMore over d old new end
    → StopsRemoves J over d old new end
look_stops J x = stops_as looks_remove (looks_dead J) x

pub drop_stops : {over : Index → Type 0} {d : Desk} {old new : List Act} {end : OpFault} (J : HeapId → Bool → Type 0) → StopsDrops J over d old new end
    → StopsRemoves J over d old new end
drop_stops J x = stops_as drops_remove (λ base acts s is so. so) x

pub look_removes : {over : Index → Type 0} {d : Desk} {old new : List Act} {t u : List ℕ} {look : Look} {told : Answer} (J : HeapId → Bool → Type 0)
    → (x : LooksOnce over d old new t u look told) → Making IsOfRemove (TakesDead J) over d old new ((x.at, did (looked look told)) ∷ [])
look_removes {look = look} {told = told} J x = making_as looks_remove (looks_dead J) (looking x.at look told x.does)

pub page_dropped : {over later : Index → Type 0} {d e : Desk} {old mid new : List Act} {t u : List ℕ} {block : ℕ} {seen : List Seen} {before now : Tally}
    (J : HeapId → Bool → Type 0) → e ≡ d → ((base : Index) → over base → later base) → LooksOnce over d old mid t u (AtPage block) (OfPage seen)
    → MakesDrops J later e mid new (DropsNodes J seen before now) → MakesRemoves J over d old new t u (DropsPage J block before now)
page_dropped {t = t} {block = block} {seen = seen} J same on x y = record {
  course = (x.at, did (looked (AtPage block) (OfPage seen))) ∷ y.course;
  made = making_then same on (look_removes J x) (making_as drops_remove (λ base acts s is so. so) y.made);
  is = record { nodes = seen; drops = steps_of y.course; is = y.is; steps_are = refl };
  traced = x.traced ∙ ap (λ (l : List ℕ). t ++ x.at ∷ l) y.traced;
}

-- what a page told, as a slice
pub may_slice : {later : Index → Type 0} {mid : List Act} {d e : Desk} {xs ys : List told.Seen} → e ≡ d → ys ≡ xs → (base : Index)
    → OverGraphs later (λ g. MayDropAll g mid d.number (map seen_told xs)) base → OverGraphs later (λ g. MayDropAll g mid e.number (map seen_told ys)) base
may_slice {later} {mid} {d} {e} {xs} {ys} same is base o =
    subst (λ (k : Desk). OverGraphs later (λ g. MayDropAll g mid k.number (map seen_told ys)) base) (sym same)
    (subst (λ (l : List told.Seen). OverGraphs later (λ g. MayDropAll g mid d.number (map seen_told l)) base) (sym is) o)

pub slice_dropped : {over later : Index → Type 0} {d e : Desk} {old mid new : List Act} {t u : List ℕ} {block : ℕ} {xs ys : List told.Seen} {before now : Tally}
    (J : HeapId → Bool → Type 0) → e ≡ d → ys ≡ xs → ((base : Index) → over base → later base)
    → LooksOnce over d old mid t u (AtPage block) (OfPage (map seen_told xs)) → MakesDrops J later e mid new (DropsNodes J (map seen_told ys) before now)
    → MakesRemoves J over d old new t u (DropsPage J block before now)
slice_dropped {over} {d = d} {old = old} {mid = mid} {t = t} {u = u} {block = block} J same is on x y =
    page_dropped J same on (subst (λ (l : List told.Seen). LooksOnce over d old mid t u (AtPage block) (OfPage (map seen_told l))) (sym is) x) y

pub slice_stops : {over later : Index → Type 0} {d e : Desk} {old mid new : List Act} {t u : List ℕ} {block : ℕ} {seen : List Seen} {end : OpFault}
    (J : HeapId → Bool → Type 0) → e ≡ d → ((base : Index) → over base → later base)
    → LooksOnce over d old mid t u (AtPage block) (OfPage seen) → StopsDrops J later e mid new end → StopsRemoves J over d old new end
slice_stops J same on x y = stops_then same on (look_removes J x) (drop_stops J y)

-- ---- what such steps leave as it was

quiet_step : (p : Params) (s : Step) → IsOfRemove s → NoneOf IsOfVacuum (step_events p s)
quiet_step p (did (looked look told)) u = tt
quiet_step p (cleaned (Drops at version gone) (Left ids)) u = (λ h. h, tt)
quiet_step p (cleaned (Drops at version gone) Outdated) u = tt
quiet_step p (faulted count) u = (λ h. h, tt)
quiet_step p _ u = absurd u

pub quiet : (p : Params) (course : List (ℕ × Step)) → AllByRecursion (λ (s : ℕ × Step). IsOfRemove s.1) course → NoneOf IsOfVacuum (events_of p (steps_of course))
quiet p course all = none_made IsOfVacuum IsOfRemove p (quiet_step p) course all

pub may_go_on : {stands later over : Index → Type 0} {old new : List Act} {d e : Desk} {J : HeapId → Bool → Type 0} {count : ℕ} {course : List (ℕ × Step)} → e ≡ d
    → Making IsOfRemove (TakesDead J) over e old new course → (base : Index) → later base → IsShaped base → IsLegal base new
    → Removing stands old d.number count base → Removing later new d.number count base
may_go_on {stands} {later} {old = old} {new = new} {d = d} {e = e} {count = count} {course = course} same x base stood shaped legal o =
    subst (λ (k : Desk). Removing later new k.number count base) same
    (graphs_on new base stood shaped legal (λ g st sh le m.
    let longer = blocks_last g x.does.acts in
    record { phase = phase_lasts g le x.does.acts Remove (quiet e.params course x.only) m.phase; there = let there = m.there in omega (arith, longer, there) })
    (subst (λ (k : Desk). Removing stands old k.number count base) (sym same) o))

-- ---- pages in turn

pub page_of_all : {stands : Index → Type 0} {acts : List Act} {desk : ℕ} (k count : ℕ) → k < count → (base : Index) → Removing stands acts desk count base
    → Removing stands acts desk (k + 1) base
page_of_all k count low base o = graphs_as base (λ g st m. record { phase = m.phase; there = let there = m.there in omega (arith, there, low) }) o

pub as_desk : {stands : Index → Type 0} {acts : List Act} {d e : Desk} {count : ℕ} → e ≡ d → (base : Index) → Removing stands acts d.number count base
    → Removing stands acts e.number count base
as_desk {stands} {acts} {d} {e} {count} same base o = subst (λ (k : Desk). Removing stands acts k.number count base) (sym same) o

pub next_page : {over : Index → Type 0} {d : Desk} {old new : List Act} {t u : List ℕ} {All : Tally → Tally → List Step → Type 0} {before now : Tally}
    (J : HeapId → Bool → Type 0) (k count : ℕ) → k < count → SoFar IsOfRemove (TakesDead J) over d old new t u All (DropsPages J k (count - k)) before now
    → SoFar IsOfRemove (TakesDead J) over d old new t u All (InTurn (DropsPage J k) (DropsPages J (k + 1) (count - (k + 1)))) before now
next_page {over} {d} {old} {new} {t} {u} {All} {before} {now} J k count low so =
    let left : count - k ≡ suc (count - (k + 1)) = omega (arith, low) in
    let next : suc k ≡ k + 1 = omega arith in
    subst (λ n. SoFar IsOfRemove (TakesDead J) over d old new t u All (InTurn (DropsPage J k) (DropsPages J n (count - (k + 1)))) before now) next
    (subst (λ n. SoFar IsOfRemove (TakesDead J) over d old new t u All (DropsPages J k n) before now) left so)

pub no_pages : (J : HeapId → Bool → Type 0) (k count : ℕ) (t : Tally) → count ≤ k → DropsPages J k (count - k) t t []
no_pages J k count t high =
    let idle : IsIdle t t [] = record { same = refl; none = refl } in
    let none : 0 ≡ count - k = omega (arith, high) in
    subst (λ n. DropsPages J k n t t []) none idle

-- ---- the whole pass

pub all_pages : {stands later : Index → Type 0} {d e : Desk} {old new : List Act} {t u : List ℕ} {told : Answer} {count : ℕ} → e ≡ d → IsInPhase old d.number Remove
    → LooksOnce (OverNodes stands) d old new t u AtMeta told → (base : Index) → IsLegal base new → OverNodes stands base → OverGraphs later (HasBlocks new count) base
    → Removing later new e.number count base
all_pages {d = d} {e = e} {old = old} {new = new} {count = count} same phase x (OfNodes g) legal o there =
    let now : IsInPhase new d.number Remove = phase_lasts g legal x.does.acts Remove tt phase in
    record { stood = there.stood; so = record { phase = subst (λ (k : Desk). IsInPhase new k.number Remove) (sym same) now; there = let blocks : (after g new).blocks ≡ count = there.so in omega (arith, blocks) } }
all_pages same phase x (OfLists g) legal o there = absurd o.so

pub all_removed : {over later : Index → Type 0} {d e : Desk} {old mid new : List Act} {t u v : List ℕ} {entry : Option Tid} {level hint blocks : ℕ} {before now : Tally}
    (J : HeapId → Bool → Type 0) → e ≡ d → ((base : Index) → over base → later base) → LooksOnce over d old mid t u AtMeta (OfMeta entry level hint blocks)
    → MakesRemoves J later e mid new u v (DropsPages J 1 (blocks - 1) before now) → MakesRemoves J over d old new t v (RemovesDead J before now)
all_removed {t = t} {u = u} {v = v} {entry = entry} {level = level} {hint = hint} {blocks = blocks} J same on x y = record {
  course = (x.at, did (looked AtMeta (OfMeta entry level hint blocks))) ∷ y.course;
  made = making_then same on (look_removes J x) y.made;
  is = record { entry = entry; level = level; hint = hint; blocks = blocks; pages = steps_of y.course; are = y.is; steps_are = refl };
  traced = traced_then ((x.at, did (looked AtMeta (OfMeta entry level hint blocks))) ∷ []) y.course t u v x.traced y.traced;
}

pub then_stops : {over later : Index → Type 0} {d e : Desk} {old mid new : List Act} {t u : List ℕ} {look : Look} {told : Answer} {end : OpFault}
    (J : HeapId → Bool → Type 0) → e ≡ d → ((base : Index) → over base → later base) → LooksOnce over d old mid t u look told
    → StopsRemoves J later e mid new end → StopsRemoves J over d old new end
then_stops J same on x y = stops_then same on (look_removes J x) y
