-- Which nodes have no rows: one look after the other, over each base.
use Rattle.std.proofs.Common.{◌≡◌, ℕ, ◌+◌, ◌<◌, ◌≤◌, true, List, [], ◌∷◌, ◌++◌, map, Some, None, sym, subst, ◌∙◌, append-nil, arith, true≢false}
use Rattle.vec_history.specs.declared.event.Act.{Act}
use Rattle.vec_history.specs.declared.stage.Stage.TheVariants.{Repair}
use Rattle.vec_history.specs.Phases.{IsInPhase}
use Rattle.vec_names.specs.declared.tid.Tid.{Tid}
use Rattle.vec_graph.specs.declared.graph.Graph.{Graph}
use Rattle.vec_graph.specs.Graph.{IsDoomedAt}
use Rattle.vec_graph.specs.Effect.{after}
use Rattle.vec_graph.proofs.Shaping.{shaped_after}
use Rattle.graph_search.specs.Reads.{Answer, Look, Seen, nodes_on}
use Rattle.graph_search.specs.Deeds.{looked}
use Rattle.vec_steps.specs.declared.seen.Seen as told
use Rattle.vec_steps.specs.Index.{Index, OfNodes, OfLists, IsLegal, IsShaped}
use Rattle.vec_steps.specs.Doing.{did}
use Rattle.vec_steps.specs.Telling.{seen_told}
use Rattle.vec_steps.specs.Desks.{Desk}
use Rattle.vec_steps.specs.Calls.{Acts}
use Rattle.hnsw_vacuum.specs.declared.marking.Doomed.{Doomed}
use Rattle.hnsw_vacuum.specs.Courses.{IsGraphSo, OverGraphs, OverNodes}
use Rattle.hnsw_vacuum.specs.Removing.{HasBlocks, LooksOnce}
use Rattle.hnsw_vacuum.specs.Seeking.{AreAllDoomed, HasBlock, MakesLooks, Seeks, TellsDoomed}
use Rattle.hnsw_vacuum.proofs.Lasts.{phase_lasts}
use Rattle.hnsw_vacuum.proofs.Stopped.{graphs_as, makes_then, making_none}
use Rattle.hnsw_vacuum.proofs.Pages.{looking}
use Rattle.hnsw_vacuum.proofs.Seeks.{all_doomed, page_told, passed, pushed, seeks_first, seeks_on}

-- the bases over which nodes are sought
abbrev pub Seeking : (Index → Type 0) → List Act → ℕ → ℕ → ℕ → List Seen → List Doomed → Index → Type 0
Seeking stands acts desk bound count left found = OverGraphs stands (λ g. Seeks g acts desk bound count left found)

pub nodes_later : {stands later : Index → Type 0} {So : Graph → Type 0} (base : Index) → later base → OverGraphs stands So base → OverNodes later base
nodes_later (OfNodes g) stood o = record { stood = stood; so = tt }
nodes_later (OfLists g) stood o = absurd o.so

pub has_block : {stands : Index → Type 0} {acts : List Act} {desk block count : ℕ} {found : List Doomed} → block < count → (base : Index)
    → Seeking stands acts desk block count [] found base → OverGraphs stands (HasBlock acts block) base
has_block low base o = graphs_as base (λ g st m. let there = m.there in omega (arith, low, there)) o

-- ---- looks

pub once : {over : Index → Type 0} {d : Desk} {old new : List Act} {t u : List ℕ} {look : Look} {told : Answer} → LooksOnce over d old new t u look told
    → MakesLooks over d old new t u
once {look = look} {told = told} x = record { course = (x.at, did (looked look told)) ∷ []; made = looking x.at look told x.does; is = tt; traced = x.traced }

pub looks_none : {over : Index → Type 0} {d : Desk} (acts : List Act) (t : List ℕ) → MakesLooks over d acts acts t t
looks_none acts t = record { course = []; made = making_none acts; is = tt; traced = sym (append-nil t) }

pub looks_then : {over later : Index → Type 0} {d e : Desk} {old mid new : List Act} {t u v : List ℕ} → e ≡ d → ((base : Index) → over base → later base)
    → MakesLooks over d old mid t u → MakesLooks later e mid new u v → MakesLooks over d old new t v
looks_then same on x y = makes_then same on (λ a b p q. tt) x y

-- ---- one node

pub skip_deleted : {stands : Index → Type 0} {acts : List Act} {desk bound count : ℕ} {s : Seen} {left : List Seen} {found : List Doomed} → s.deleted ≡ true
    → (base : Index) → Seeking stands acts desk bound count (s ∷ left) found base → Seeking stands acts desk bound count left found base
skip_deleted deleted base o = graphs_as base (λ g st m. passed m (λ at bare d. absurd (true≢false (sym deleted ∙ bare.not_deleted)))) o

pub skip_rows : {stands : Index → Type 0} {acts : List Act} {desk bound count : ℕ} {s : Seen} {left : List Seen} {found : List Doomed} → (s.ids ≡ [] → ⊥)
    → (base : Index) → Seeking stands acts desk bound count (s ∷ left) found base → Seeking stands acts desk bound count left found base
skip_rows some base o = graphs_as base (λ g st m. passed m (λ at bare d. some bare.no_ids)) o

pub node_none : {stands later : Index → Type 0} {old mid : List Act} (d : Desk) {bound count : ℕ} {s : Seen} {left : List Seen} {found : List Doomed}
    → Acts d.number old mid [] → (base : Index) → later base → IsShaped base → IsLegal base mid → IsGraphSo (λ g. TellsDoomed (after g mid) s.at None) base
    → Seeking stands old d.number bound count (s ∷ left) found base → Seeking later mid d.number bound count left found base
node_none {mid = mid} d {s = s} x (OfNodes g) stood shaped legal is o = record {
  stood = stood;
  so = passed (seeks_on g shaped legal x o.so) (λ at bare d. is (subst (λ (q : Tid). IsDoomedAt (after g mid) q) (sym bare.same) d));
}
node_none d x (OfLists g) stood shaped legal is o = absurd o.so

pub node_some : {stands later : Index → Type 0} {old mid : List Act} (d : Desk) {bound count : ℕ} {s : Seen} {left : List Seen} {found : List Doomed}
    (e : Doomed) → Acts d.number old mid [] → (base : Index) → later base → IsShaped base → IsLegal base mid
    → IsGraphSo (λ g. TellsDoomed (after g mid) s.at (Some e)) base → Seeking stands old d.number bound count (s ∷ left) found base
    → Seeking later mid d.number bound count left (found ++ e ∷ []) base
node_some d e x (OfNodes g) stood shaped legal is o = record { stood = stood; so = pushed (seeks_on g shaped legal x o.so) e is.0 is.1 }
node_some d e x (OfLists g) stood shaped legal is o = absurd o.so

-- ---- nodes in turn

pub one_of : {stands : Index → Type 0} {acts : List Act} {d e : Desk} {bound count : ℕ} {all left : List told.Seen} {one : told.Seen} {found : List Doomed} → e ≡ d
    → all ≡ one ∷ left → (base : Index) → Seeking stands acts d.number bound count (map seen_told all) found base
    → Seeking stands acts e.number bound count (seen_told one ∷ map seen_told left) found base
one_of {stands} {acts} {d} {e} {bound} {count} {all} {left} {one} {found} same is base o =
    subst (λ (k : Desk). Seeking stands acts k.number bound count (seen_told one ∷ map seen_told left) found base) (sym same)
    (subst (λ (l : List told.Seen). Seeking stands acts d.number bound count (map seen_told l) found base) is o)

-- of the same desk
pub as_first : {stands : Index → Type 0} {acts : List Act} {d e : Desk} {bound count : ℕ} {left : List Seen} {found : List Doomed} → e ≡ d → (base : Index)
    → Seeking stands acts e.number bound count left found base → Seeking stands acts d.number bound count left found base
as_first {stands} {acts} {d} {e} {bound} {count} {left} {found} same base o =
    subst (λ (k : Desk). Seeking stands acts k.number bound count left found base) same o

pub none_more : {stands : Index → Type 0} {acts : List Act} {desk bound count : ℕ} {left : List told.Seen} {found : List Doomed} → left ≡ [] → (base : Index)
    → Seeking stands acts desk bound count (map seen_told left) found base → Seeking stands acts desk bound count [] found base
none_more {stands} {acts} {desk} {bound} {count} {left} {found} ended base o =
    subst (λ (l : List told.Seen). Seeking stands acts desk bound count (map seen_told l) found base) ended o

-- ---- a page

pub page_found : {stands later : Index → Type 0} {old mid : List Act} {d e : Desk} {block count : ℕ} {found : List Doomed} (seen : List Seen) → e ≡ d
    → Acts d.number old mid [] → (base : Index) → later base → IsShaped base → IsLegal base mid
    → IsGraphSo (λ g. seen ≡ nodes_on (after g mid) block) base → Seeking stands old d.number block count [] found base
    → Seeking later mid e.number (block + 1) count seen found base
page_found {later = later} {mid = mid} {d = d} {e = e} {block = block} {count = count} {found = found} seen same x (OfNodes g) stood shaped legal are o =
    subst (λ (k : Desk). Seeking later mid k.number (block + 1) count seen found (OfNodes g)) (sym same)
    (let r : Seeking later mid d.number (block + 1) count seen found (OfNodes g) = record {
      stood = stood;
      so = subst (λ (l : List Seen). Seeks g mid d.number (block + 1) count l found) (sym are) (page_told (seeks_on g shaped legal x o.so));
    } in r)
page_found seen same x (OfLists g) stood shaped legal are o = absurd o.so

-- ---- all pages

pub first_seeks : {stands later : Index → Type 0} {old mid : List Act} {d e : Desk} {count : ℕ} → e ≡ d → IsInPhase old d.number Repair → Acts d.number old mid []
    → (base : Index) → IsShaped base → IsLegal base mid → OverNodes stands base → OverGraphs later (HasBlocks mid count) base
    → Seeking later mid e.number 1 count [] [] base
first_seeks {later = later} {mid = mid} {d = d} {e = e} {count = count} same phase x (OfNodes g) shaped legal o there =
    subst (λ (k : Desk). Seeking later mid k.number 1 count [] [] (OfNodes g)) (sym same)
    (let r : Seeking later mid d.number 1 count [] [] (OfNodes g) = record {
      stood = there.stood;
      so = seeks_first g mid d.number count (shaped_after g shaped mid legal) (phase_lasts g legal x Repair tt phase) there.so;
    } in r)
first_seeks same phase x (OfLists g) shaped legal o there = absurd o.so

pub all_found : {stands : Index → Type 0} {acts : List Act} {desk bound count : ℕ} {found : List Doomed} → count ≤ bound → (base : Index)
    → Seeking stands acts desk bound count [] found base → IsGraphSo (λ g. AreAllDoomed (after g acts) found) base
all_found high (OfNodes g) o = all_doomed high o.so
all_found high (OfLists g) o = absurd o.so

pub back_to : {stands : Index → Type 0} {acts : List Act} {d e : Desk} {bound count : ℕ} {left : List Seen} {found : List Doomed} → e ≡ d → (base : Index)
    → Seeking stands acts d.number bound count left found base → Seeking stands acts e.number bound count left found base
back_to {stands} {acts} {d} {e} {bound} {count} {left} {found} same base o =
    subst (λ (k : Desk). Seeking stands acts k.number bound count left found base) (sym same) o
