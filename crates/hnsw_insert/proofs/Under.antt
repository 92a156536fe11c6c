-- What an insert does under its gate, part after part.
use Rattle.std.proofs.Common.{◌≡◌, ℕ, ◌-◌, ◌≤◌, Bool, true, false, filter, List, [], ◌∷◌, ◌++◌, take, drop, length, Option, Some, None, refl, sym, ap, subst, ◌∙◌, append-nil, append_assoc, take-append-drop, arith}
use Rattle.index_sizes.specs.Sizes.{slots_of_level}
use Rattle.vec_names.specs.declared.tid.Tid.{Tid}
use Rattle.vec_names.specs.declared.heap_id.HeapId.{HeapId}
use Rattle.vec_names.specs.declared.params.Params.{Params}
use Rattle.vec_names.specs.Levels.{most_level}
use Rattle.vec_history.specs.declared.event.Act.{Act}
use Rattle.vec_history.specs.declared.gate.Gate.TheVariants.{Update}
use Rattle.vec_history.specs.declared.gate.Hold.{Hold}
use Rattle.vec_history.specs.declared.gate.Hold.TheVariants.{Shared}
use Rattle.vec_history.specs.Gates.{Holds}
use Rattle.vec_history.proofs.ByActs.{cut}
use Rattle.vec_graph.specs.declared.place.Place.{Place}
use Rattle.vec_graph.specs.declared.graph.Graph.{Graph}
use Rattle.vec_graph.specs.Shaped as nodes
use Rattle.vec_graph.specs.Legal as history
use Rattle.vec_graph.specs.Effect.{after, state_after}
use Rattle.vec_graph.specs.Rules.{KnowsMembers}
use Rattle.vec_graph.proofs.Levels.{after_append}
use Rattle.vec_graph.proofs.Shaping.{shaped_after}
use Rattle.neighbour_pick.specs.declared.found.Found.{Found}
use Rattle.graph_search.specs.Reads.{Answer, AtMeta, OfMeta, answer_of}
use Rattle.std.specs.Option.{option_map}
use Rattle.std.proofs.lemmas.Option.{none-some, same_Some}
use Rattle.search_sets.specs.declared.spot.Spot.{Spot}
use Rattle.hnsw_insert.specs.declared.landing.Landing.{Landing}
use Rattle.graph_search.specs.Deeds.{Deed, looked, looks_of}
use Rattle.graph_search.specs.Deeds as deeds
use Rattle.graph_search.specs.Insert.{AsksToJoin, Joined, LinksBack, Lists, Newcomer, Put, PutsNode, Target, entering, hinting, is_above, may_join, meta_look, node_of}
use Rattle.search_sets.specs.Standing.{spot_of}
use Rattle.vec_steps.specs.declared.ask.NewNode.{NewNode}
use Rattle.vec_steps.specs.declared.ask.Ask.{Ask}
use Rattle.vec_steps.specs.declared.ask.Ask.TheVariants as ask
use Rattle.vec_steps.specs.declared.told.Told.{Told}
use Rattle.vec_steps.specs.Index.{Index, OfNodes, OfLists, IsLegal, IsOfParams, IsShaped}
use Rattle.vec_steps.specs.Doing.{Step, did}
use Rattle.vec_steps.specs.Telling as telling
use Rattle.vec_steps.specs.Desks.{Asks, Desk}
use Rattle.vec_steps.specs.Calls.{Does, Stepped}
use Rattle.vec_steps.proofs.Following.{does_so_over, one_step}
use Rattle.layer_search.specs.Telling.{OverSpots}
use Rattle.layer_search.specs.Listing.{AreThere, FindsLists}
use Rattle.hnsw_insert.specs.Over.{AreBlocks, AreNeighbours, MayAdd, MayFinish, OverGraphs, OverNodes}
use Rattle.hnsw_insert.specs.Courses.{Did}
use Rattle.hnsw_insert.specs.Parts.{AddsNode, AsksAll, FinishesSo, IsFullFor, IsFullUnder, PlacesNode, RunsCourse, RunsUnder, meta_told}
use Rattle.hnsw_insert.proofs.Made.{did_as, did_looks, did_then}
use Rattle.hnsw_insert.proofs.Quiet.{held_on, quiet}
use Rattle.hnsw_insert.proofs.Lasts.{blocks_along, graphs_as, graphs_on, may_add_last, may_finish_last, neighbours_last, on_blocks, spots_on}
use Rattle.hnsw_insert.proofs.NewNode.{is_new, picks_reached, put_at}
use Rattle.hnsw_insert.proofs.Puts.{Placing}

-- ---- the meta tuple

abbrev hint_of : Answer → ℕ
hint_of (OfMeta entry level hint blocks) = hint
hint_of _ = 0

abbrev blocks_of : Answer → ℕ
blocks_of (OfMeta entry level hint blocks) = blocks
blocks_of _ = 0

meta_same : (t : Told) (g : Graph) → OfMeta t.tid t.level t.hint t.blocks ≡ OfMeta g.entry g.level g.hint g.blocks → (t.hint ≡ g.hint) × (t.blocks ≡ g.blocks)
meta_same t g e = (ap hint_of e, ap blocks_of e)

-- where a place may be looked for, as a look at the meta tuple told
told_blocks : (g : Graph) → nodes.IsShaped g → (acts : List Act) → history.IsLegal g acts → (n : ℕ) (t : Told)
    → OfMeta t.tid t.level t.hint t.blocks ≡ answer_of (state_after g acts n) AtMeta → AreBlocks g acts t.hint t.blocks
told_blocks g shaped acts legal n t told =
    let state : Graph = after g (take n acts) in
    let same = meta_same t state told in
    let so = shaped_after g shaped (take n acts) (cut (history.IsAllowed g) acts n legal) in
    let more : state.blocks ≤ (after g acts).blocks =
    subst (λ (l : List Act). state.blocks ≤ (after g l).blocks) (take-append-drop n acts)
    (subst (λ (h : Graph). state.blocks ≤ h.blocks) (sym (after_append g (take n acts) (drop n acts))) (blocks_along state (drop n acts))) in
    record {
      from_1 = let one = so.hint_from_1 in let s = same.0 in omega (arith, one, s);
      there = let s = same.1 in omega (arith, s, more);
    }

pub meta_asks : {stands : Index → Type 0} {d : Desk} {acts : List Act} (base : Index) → OverNodes stands base → Asks stands d acts ask.Meta base
meta_asks (OfNodes g) o = record { stood = o.stood; may = tt }
meta_asks (OfLists g) o = absurd o.so

module _ {stands : Index → Type 0} {d : Desk} {old new : List Act} {left : Ask} {told : Told} (s : Stepped (Asks stands d old ask.Meta) d old new ask.Meta left told) where
  pub meta_did : (before now : List ℕ) → now ≡ before ++ told.at ∷ [] → Did (OverNodes stands) d old new before now (meta_look (meta_told told) ∷ [])
  meta_did before now traced = record {
    course = (told.at, did (meta_look (meta_told told))) ∷ [];
    does = one_step meta_asks s;
    is = record { are = (refl, tt); only = (tt, tt); traced = traced };
  }

  pub meta_blocks : {later : Index → Type 0} (base : Index) → later base → IsShaped base → IsLegal base new → OverNodes stands base
      → OverGraphs later (λ g. AreBlocks g new told.hint told.blocks) base
  meta_blocks (OfNodes g) stood shaped legal o =
      let x : Does (OverNodes stands) d old new ((told.at, did (meta_look (meta_told told))) ∷ []) = one_step meta_asks s in
      let happened = x.happened (OfNodes g) o in
      record { stood = stood; so = told_blocks g shaped new legal told.at told happened.0.says }
  meta_blocks (OfLists g) stood shaped legal o = absurd o.so

-- ---- bases, later

module _ {stands later over : Index → Type 0} {d e : Desk} {old mid : List Act} {before now : List ℕ} {ds : List Deed} (same : e ≡ d) (m : Did over d old mid before now ds)
    (base : Index) (stood : later base) (shaped : IsShaped base) (legal : IsLegal base mid) where
  pub blocks_on : (hint blocks : ℕ) → OverGraphs stands (λ g. AreBlocks g old hint blocks) base → OverGraphs later (λ g. AreBlocks g mid hint blocks) base
  blocks_on hint blocks o = graphs_on mid base stood shaped legal (λ g st sh le a. on_blocks g sh le m.does.acts hint blocks a) o

  pub add_on : (hint blocks level : ℕ) (bits : List Bool) (lists : List (Option Tid)) (picks : List (ℕ × Found))
      → OverGraphs stands (λ g. MayAdd g old d.number hint blocks level bits lists picks) base
      → OverGraphs later (λ g. MayAdd g mid e.number hint blocks level bits lists picks) base
  add_on hint blocks level bits lists picks o =
      subst (λ (k : Desk). OverGraphs later (λ g. MayAdd g mid k.number hint blocks level bits lists picks) base) (sym same)
      (graphs_on mid base stood shaped legal
      (λ g st sh le a. may_add_last g sh le m.does.acts (quiet d.params m.course m.is.only) hint blocks level bits lists picks a) o)

  pub finish_on : (level : ℕ) (place : Place) (picks : List (ℕ × Found)) → OverGraphs stands (λ g. MayFinish g old d.number level place picks) base
      → OverGraphs later (λ g. MayFinish g mid e.number level place picks) base
  finish_on level place picks o =
      subst (λ (k : Desk). OverGraphs later (λ g. MayFinish g mid k.number level place picks) base) (sym same)
      (graphs_on mid base stood shaped legal
      (λ g st sh le a. may_finish_last g sh le m.does.acts (quiet d.params m.course m.is.only) level place picks a) o)

-- the gate is still held
pub still_held : {over : Index → Type 0} {d e : Desk} {old mid : List Act} {before now : List ℕ} {ds : List Deed} → e ≡ d → Did over d old mid before now ds
    → Holds old d.number Update → Holds mid e.number Update
still_held {mid = mid} same m held = subst (λ (k : Desk). Holds mid k.number Update) (sym same) (held_on m.does m.is.only held)

-- ---- a new node

-- a place for the node may be looked for
pub place_on : {stands : Index → Type 0} {acts : List Act} {desk : ℕ} (hint blocks : ℕ) (node : NewNode) (level : ℕ) (id : HeapId) (bits : List Bool) (lists : List (Option Tid))
    (picks : List (ℕ × Found)) → node ≡ record { level = level; id = id; bits = bits; lists = lists } → (base : Index)
    → OverGraphs stands (λ g. MayAdd g acts desk hint blocks level bits lists picks) base → Placing stands acts desk hint blocks node base
place_on {stands} {acts} {desk} hint blocks node level id bits lists picks is base o =
    let w : NewNode = record { level = level; id = id; bits = bits; lists = lists } in
    subst (λ (n : NewNode). Placing stands acts desk hint blocks n base) (sym is) (graphs_as base (λ g st a. a.may_place) o)

-- the node that was put may be linked
pub added_on : {stands later : Index → Type 0} {d e : Desk} {old mid : List Act} {hint blocks : ℕ} {node : NewNode} {place : Place} (level : ℕ)
    (bits : List Bool) (lists : List (Option Tid)) (picks : List (ℕ × Found)) → e ≡ d → node.level ≡ level → Holds old d.number Update
    → PlacesNode (Placing stands old d.number hint blocks node) d old mid (telling.node_of node) hint blocks place
    → (base : Index) → later base → IsShaped base → IsLegal base mid → Placing stands old d.number hint blocks node base
    → OverGraphs stands (λ g. MayAdd g old d.number hint blocks level bits lists picks) base
    → OverGraphs later (λ g. MayFinish g mid e.number level place picks) base
added_on {stands} {later} {d} {e} {old} {mid} {hint} {blocks} {node} {place} level bits lists picks same level_is held p base stood shaped legal may o =
    subst (λ (k : Desk). OverGraphs later (λ g. MayFinish g mid k.number level place picks) base) (sym same) (by base stood shaped legal may o)
  where
    by : (b : Index) → later b → IsShaped b → IsLegal b mid → Placing stands old d.number hint blocks node b
        → OverGraphs stands (λ g. MayAdd g old d.number hint blocks level bits lists picks) b → OverGraphs later (λ g. MayFinish g mid d.number level place picks) b
    by (OfNodes g) st sh le may a =
        let m = p.made [] in
        let n : deeds.NewNode = telling.node_of node in
        let at = put_at g mid d n place (blocks - hint) hint p.deeds p.placed m.course m.is.are (m.does.happened (OfNodes g) may) (length old) (length mid) m.does.rises in
        record {
          stood = st;
          so = record {
            new = subst (λ k. Rattle.hnsw_insert.specs.Over.IsNew g mid d.number k place) level_is
                (is_new g sh le m.does.acts (quiet d.params m.course m.is.only) held n place at);
            neighbours = neighbours_last g sh le m.does.acts level picks a.so.neighbours;
          };
        }
    by (OfLists g) st sh le may a = absurd a.so

-- no block is left, after these steps
pub full_then : {level count block : ℕ} (a b : List (ℕ × Step)) (m n : ℕ) → IsFullFor level count block b m n
    → IsFullFor level count block (a ++ b) m n
full_then a b m n f = record {
  node = f.node;
  level_is = f.level_is;
  before = a ++ f.before;
  asks = f.asks;
  in_vain = f.in_vain;
  at = f.at;
  course_is = ap (λ (l : List (ℕ × Step)). a ++ l) f.course_is ∙ sym (append_assoc a f.before _);
}

pub full_as : {count block : ℕ} {a : List (ℕ × Step)} {m n : ℕ} (level high : ℕ) → level ≡ high → IsFullFor level count block a m n
    → IsFullFor high count block a m n
full_as {count} {block} {a} {m} {n} level high is f = subst (λ (l : ℕ). IsFullFor l count block a m n) is f

-- the parts of a new node's course
pub puts_node : {over later last : Index → Type 0} {d e f : Desk} {old mid amid new : List Act} {before now : List ℕ} {hint blocks : ℕ} {place : Place} (n : Newcomer) (id : HeapId)
    (top : Option ℕ) (lists : Lists) (node : deeds.NewNode) → node ≡ node_of n id lists → e ≡ d → f ≡ e → ((base : Index) → over base → later base) → ((base : Index) → later base → last base)
    → ((trace : List ℕ) → Did over d old mid trace trace []) → PlacesNode later e mid amid node hint blocks place
    → FinishesSo last f amid new before now (record { ops = n.ops; at = place.at; bits = n.bits }) lists.picks top n.level hint
    → AddsNode over d old new before now n id hint blocks top lists place
puts_node {over} {later} {last} {d} {e} {f} {old} {mid} {amid} {new} {before} {now} {hint} {blocks} {place} n id top lists node node_is same_1 same_2 on_1 on_2 r p k =
    let end : List Deed = entering top place.at n.level ++ hinting n.level hint place.at in
    record {
      deeds = p.deeds ++ (k.back ++ end);
      puts = record {
        put = p.deeds;
        placed = subst (λ x. Rattle.graph_search.specs.Insert.AsksForPlace x (blocks - hint) hint place p.deeds) node_is p.placed;
        back = k.back;
        linked_back = k.linked_back;
        deeds_are =
            ap (λ (l : List Deed). p.deeds ++ l) (sym (append_assoc k.back (entering top place.at n.level) (hinting n.level hint place.at)))
            ∙ sym (append_assoc p.deeds (k.back ++ entering top place.at n.level) (hinting n.level hint place.at))
            ∙ ap (λ (l : List Deed). l ++ hinting n.level hint place.at) (sym (append_assoc p.deeds k.back (entering top place.at n.level)));
      };
      made = did_then same_1 on_1 (r before) (did_then same_2 on_2 (p.made before) k.made);
    }

-- ---- what was found

params_of : (p : Params) (g : Graph) → IsOfParams p (OfNodes g) → g.params ≡ p
params_of p g of = of.has.1

-- a node with the lists that were found may be added
pub found_on : {stands later : Index → Type 0} {over : Index → Type 0} {d e : Desk} {old mid : List Act} {before now : List ℕ} {top : Option ℕ} (n : Newcomer) (hint blocks : ℕ) (lists : Lists)
    → e ≡ d → FindsLists over d old mid before now n top lists → Holds mid e.number Update → length n.bits ≡ d.params.bits → n.level ≤ most_level d.params.m
    → length lists.slots ≡ slots_of_level d.params.m n.level → (base : Index) → later base → IsShaped base → IsLegal base mid → IsOfParams d.params base
    → AreThere mid lists base → ((g : Graph) → base ≡ OfNodes g → KnowsMembers g mid d.number d.params.m n.level lists.slots)
    → OverGraphs stands (λ g. AreBlocks g old hint blocks) base
    → OverGraphs later (λ g. MayAdd g mid e.number hint blocks n.level n.bits lists.slots lists.picks) base
found_on {stands} {later} {over} {d} {e} {old} {mid} {top = top} n hint blocks lists same f held long low many base stood shaped legal of there members o =
    subst (λ (k : Desk). OverGraphs later (λ g. MayAdd g mid k.number hint blocks n.level n.bits lists.slots lists.picks) base) (sym same)
    (by base stood shaped legal of there members o)
  where
    by : (b : Index) → later b → IsShaped b → IsLegal b mid → IsOfParams d.params b → AreThere mid lists b
        → ((g : Graph) → b ≡ OfNodes g → KnowsMembers g mid d.number d.params.m n.level lists.slots) → OverGraphs stands (λ g. AreBlocks g old hint blocks) b
        → OverGraphs later (λ g. MayAdd g mid d.number hint blocks n.level n.bits lists.slots lists.picks) b
    by (OfNodes g) st sh le of th mem o =
        let same_params = sym (params_of d.params g of) in
        record {
          stood = st;
          so = record {
            may_place = record {
              on = on_blocks g sh le f.made.does.acts hint blocks o.so;
              asked = record {
                update = subst (λ (k : Desk). Holds mid k.number Update) same held;
                as_long = long ∙ ap (λ (p : Params). p.bits) same_params;
                not_high = subst (λ (p : Params). n.level ≤ most_level p.m) same_params low;
                as_many = many ∙ ap (λ (p : Params). slots_of_level p.m n.level) same_params;
                known = subst (λ (p : Params). KnowsMembers g mid d.number p.m n.level lists.slots) same_params (mem g refl);
              };
            };
            neighbours = record { stand = th.picks; reached = picks_reached n f.reads top lists f.found };
          };
        }
    by (OfLists g) st sh le of th mem o = absurd o.so

-- the same, of a call that found them
pub lists_found : {stands later : Index → Type 0} {d e : Desk} {old mid : List Act} {before now : List ℕ} {top : Option ℕ} (n : Newcomer) (hint blocks : ℕ) (lists : Lists)
    → e ≡ d → ((base : Index) → later base → IsShaped base) → ((base : Index) → later base → IsLegal base mid) → ((base : Index) → stands base → IsOfParams d.params base)
    → ((base : Index) → OverSpots stands old 0 [] base → later base) → FindsLists (OverSpots stands old 0 []) d old mid before now n top lists
    → Holds mid e.number Update → length n.bits ≡ d.params.bits → n.level ≤ most_level d.params.m → length lists.slots ≡ slots_of_level d.params.m n.level
    → ((base : Index) → OverSpots stands old 0 [] base → AreThere mid lists base)
    → ((g : Graph) → OverSpots stands old 0 [] (OfNodes g) → KnowsMembers g mid d.number d.params.m n.level lists.slots)
    → (base : Index) → OverGraphs stands (λ g. AreBlocks g old hint blocks) base
    → OverGraphs later (λ g. MayAdd g mid e.number hint blocks n.level n.bits lists.slots lists.picks) base
lists_found {stands} {old = old} n hint blocks lists same shaped legal index still f held long low many there members base o =
    let spots = spots_on base o in
    let st = still base spots in
    found_on n hint blocks lists same f held long low many base st (shaped base st) (legal base st) (index base o.stood) (there base spots)
    (λ g is. members g (subst (OverSpots stands old 0 []) is spots)) o

pub finds_over : {more fewer : Index → Type 0} {d : Desk} {old new : List Act} {before now : List ℕ} {n : Newcomer} {top : Option ℕ} {lists : Lists}
    → ((base : Index) → fewer base → more base) → FindsLists more d old new before now n top lists → FindsLists fewer d old new before now n top lists
finds_over on f = record { reads = f.reads; made = does_so_over on f.made; found = f.found }

pub asks_over : {more fewer : Index → Type 0} {d : Desk} {old new : List Act} {id : HeapId} {bits : List Bool} {near : List Found} {o : Option Spot}
    → ((base : Index) → fewer base → more base) → AsksAll more d old new id bits near o → AsksAll fewer d old new id bits near o
asks_over on j = record { deeds = j.deeds; taken = j.taken; made = λ trace. does_so_over on (j.made trace); asks = j.asks; spot_is = j.spot_is }

-- ---- the course

-- an element took the id
pub course_joins : {over later : Index → Type 0} {d e : Desk} {old mid new : List Act} {before now : List ℕ} {top : Option ℕ} (n : Newcomer) (id : HeapId) (hint blocks : ℕ)
    (lists : Lists) (near : List Found) (spot : Spot) (landing : Landing) → e ≡ d → ((base : Index) → over base → later base) → near ≡ lists.near
    → landing ≡ record { at = spot.at; version = spot.version; level = spot.level; joined = true }
    → FindsLists over d old mid before now n top lists → (o : Option Spot) → o ≡ Some spot → AsksAll later e mid new id n.bits near o
    → RunsCourse over d old new before now n id hint blocks landing
course_joins {over} {later} {d} {e} {old} {mid} {new} {before} {now} {top} n id hint blocks lists near spot landing same on near_is landing_is f o is j = by j.taken (sym j.spot_is ∙ is) j.asks
  where
    by : (taken : Option Found) → option_map spot_of taken ≡ Some spot → AsksToJoin id (filter (may_join n.bits) near) j.deeds taken
        → RunsCourse over d old new before now n id hint blocks landing
    by None none asks = absurd (none-some spot none)
    by (Some x) some asks =
        let same_spot : spot_of x ≡ spot = same_Some (spot_of x) spot some in
        record {
          outcome = Joined x;
          landing_is = landing_is ∙ ap (λ (s : Spot). (let l : Landing = record { at = s.at; version = s.version; level = s.level; joined = true } in l)) (sym same_spot);
          deeds = (looks_of f.reads ++ j.deeds) ++ [];
          course = record {
            reads = f.reads;
            top = top;
            lists = lists;
            found = f.found;
            joins = j.deeds;
            taken = Some x;
            asked_to_join = subst (λ (es : List Found). AsksToJoin id (filter (may_join n.bits) es) j.deeds (Some x)) near_is asks;
            rest = [];
            ends = (refl, refl);
            deeds_are = refl;
          };
          made = did_as (sym (append-nil (looks_of f.reads ++ j.deeds))) (did_then same on (did_looks f.made) (j.made now));
        }

-- none did, and a new node was added
pub course_adds : {over later last : Index → Type 0} {d e f : Desk} {old mid amid new : List Act} {before now end : List ℕ} {top : Option ℕ} {place : Place} (n : Newcomer) (id : HeapId)
    (hint blocks : ℕ) (lists : Lists) (near : List Found) (landing : Landing) → e ≡ d → f ≡ e → ((base : Index) → over base → later base)
    → ((base : Index) → later base → last base) → near ≡ lists.near
    → landing ≡ record { at = place.at; version = place.version; level = n.level; joined = false }
    → FindsLists over d old mid before now n top lists → (o : Option Spot) → o ≡ None → AsksAll later e mid amid id n.bits near o
    → AddsNode last f amid new now end n id hint blocks top lists place → RunsCourse over d old new before end n id hint blocks landing
course_adds {over} {later} {last} {d} {e} {f} {old} {mid} {amid} {new} {before} {now} {end} {top} {place} n id hint blocks lists near landing same_1 same_2 on_1 on_2 near_is landing_is k o is j a =
    by j.taken (sym j.spot_is ∙ is) j.asks
  where
    by : (taken : Option Found) → option_map spot_of taken ≡ None → AsksToJoin id (filter (may_join n.bits) near) j.deeds taken
        → RunsCourse over d old new before end n id hint blocks landing
    by (Some x) some asks = absurd (none-some (spot_of x) (sym some))
    by None none asks = record {
      outcome = Put place;
      landing_is = landing_is;
      deeds = (looks_of k.reads ++ j.deeds) ++ a.deeds;
      course = record {
        reads = k.reads;
        top = top;
        lists = lists;
        found = k.found;
        joins = j.deeds;
        taken = None;
        asked_to_join = subst (λ (es : List Found). AsksToJoin id (filter (may_join n.bits) es) j.deeds None) near_is asks;
        rest = a.deeds;
        ends = a.puts;
        deeds_are = refl;
      };
      made = did_then (same_2 ∙ same_1) (λ base p. on_2 base (on_1 base p)) (did_then same_1 on_1 (did_looks k.made) (j.made now)) a.made;
    }

-- ---- the meta tuple, and the course

pub runs_leaves : {over : Index → Type 0} {d : Desk} {old new : List Act} {before now : List ℕ} (hold : Hold) (n : Newcomer) (id : HeapId) (t : Told)
    → hold ≡ Shared → is_above n.level t.tid t.level ≡ true → Did over d old new before now (meta_look (meta_told t) ∷ [])
    → RunsUnder over d old new before now hold n id None
runs_leaves hold n id t shared above m = record { told = meta_told t; shared = shared; above = above; made = m }

pub runs_stays : {over later : Index → Type 0} {d e : Desk} {old mid new : List Act} {before amid now : List ℕ} (hold : Hold) (n : Newcomer) (id : HeapId) (t : Told) (landing : Landing)
    → e ≡ d → ((base : Index) → over base → later base) → (hold ≡ Shared → is_above n.level t.tid t.level ≡ false)
    → Did over d old mid before amid (meta_look (meta_told t) ∷ []) → RunsCourse later e mid new amid now n id t.hint t.blocks landing
    → RunsUnder over d old new before now hold n id (Some landing)
runs_stays hold n id t landing same on kept m r = record {
  told = meta_told t;
  kept = kept;
  outcome = r.outcome;
  landing_is = r.landing_is;
  deeds = r.deeds;
  course = r.course;
  made = did_then same on m r.made;
}

pub full_under : {over : Index → Type 0} {d : Desk} {old mid : List Act} {before now : List ℕ} (hold : Hold) (level : ℕ) (t : Told)
    → (hold ≡ Shared → is_above level t.tid t.level ≡ false) → (m : Did over d old mid before now (meta_look (meta_told t) ∷ []))
    → (b : List (ℕ × Step)) (k n : ℕ) → IsFullFor level (t.blocks - t.hint) t.hint b k n → IsFullUnder hold level (m.course ++ b) k n
full_under hold level t kept m b k n full = record {
  told = meta_told t;
  kept = kept;
  look = m.course;
  look_is = m.is.are;
  rest = b;
  full = full;
  course_is = refl;
}
