-- A place is asked for.
use Rattle.std.proofs.Common.{◌≡◌, inl, inr, ℕ, zero, suc, ◌+◌, ◌-◌, ◌<◌, ◌≤◌, List, [], ◌∷◌, ◌++◌, Option, Some, None, refl, sym, ap, subst, ◌∙◌, append-nil, append_assoc, arith}
use Rattle.vec_history.specs.declared.event.Act.{Act}
use Rattle.vec_graph.specs.declared.place.Place.{Place}
use Rattle.graph_search.specs.Deeds.{Deed, NoRoom, Placed, PutsNew, PutsOn, asked}
use Rattle.graph_search.specs.Deeds as deeds
use Rattle.graph_search.specs.Insert.{AsksForPlace}
use Rattle.vec_steps.specs.declared.ask.NewNode.{NewNode}
use Rattle.vec_steps.specs.declared.ask.Ask.{Ask}
use Rattle.vec_steps.specs.declared.ask.Ask.TheVariants as ask
use Rattle.vec_steps.specs.declared.told.Told.{Told}
use Rattle.vec_steps.specs.declared.fault.OpFault.{OpFault}
use Rattle.vec_steps.specs.declared.fault.OpFault.TheVariants as op
use Rattle.vec_steps.specs.Index.{Index, OfNodes, OfLists, IsLegal, IsShaped}
use Rattle.vec_steps.specs.Doing.{Step, did, overfull}
use Rattle.vec_steps.specs.Telling.{left_of, node_of, place_told, put_new_told, put_told}
use Rattle.vec_steps.specs.Desks.{Asks, Desk}
use Rattle.vec_steps.specs.declared.fault.StepFault.{StepFault}
use Rattle.vec_steps.specs.Calls.{AreDeeds, Does, Failed, Stepped, made_by}
use Rattle.vec_steps.proofs.Following.{does_then, one_step}
use Rattle.layer_search.proofs.Steadiness.{all_both}
use Rattle.hnsw_insert.specs.Over.{MayPlace, OverGraphs, OverNodes}
use Rattle.hnsw_insert.specs.Courses.{Did, IsUnderGate, StopsBy}
use Rattle.hnsw_insert.specs.Parts.{IsFullFor, PlacesNode, refused_on}
use Rattle.hnsw_insert.proofs.Made.{did_none, did_one, did_then}
use Rattle.hnsw_insert.proofs.Quiet.{quiet}
use Rattle.hnsw_insert.proofs.Lasts.{graphs_on, may_place_last}
use Rattle.hnsw_insert.proofs.Stopped.{stops_memory}

abbrev pub Placing : (Index → Type 0) → List Act → ℕ → ℕ → ℕ → NewNode → Index → Type 0
Placing stands acts desk hint blocks node = OverGraphs stands (λ g. MayPlace g acts desk hint blocks node.level node.bits node.lists)

-- the blocks before this one had no room
pub record PutsSoFar (over : Index → Type 0) (d : Desk) (old new : List Act) (node : NewNode) (hint blocks block : ℕ) (q : Ask) : Type 0 where
  pub made : (trace : List ℕ) → Did over d old new trace trace (refused_on (node_of node) (block - hint) hint)
  pub from : hint ≤ block
  pub few : block - hint ≤ blocks - hint
  pub on : ℕ
  pub ask_is : q ≡ ask.Put on node
  pub rest : (k : ℕ) (place : Place) (ds : List Deed) → blocks - hint ≡ (block - hint) + k → AsksForPlace (node_of node) k block place ds
      → AsksForPlace (node_of node) (blocks - hint) hint place (refused_on (node_of node) (block - hint) hint ++ ds)

none_yet : (n : deeds.NewNode) (hint : ℕ) → refused_on n (hint - hint) hint ≡ []
none_yet n hint = let e : hint - hint ≡ 0 = omega arith in ap (λ k. refused_on n k hint) e

pub puts_begin : {over : Index → Type 0} {d : Desk} (acts : List Act) (node : NewNode) (hint blocks : ℕ)
    → PutsSoFar over d acts acts node hint blocks hint (ask.Put hint node)
puts_begin {over} {d} acts node hint blocks = record {
  made = λ trace. subst (Did over d acts acts trace trace) (sym (none_yet (node_of node) hint)) (did_none acts trace);
  from = omega arith;
  few = omega arith;
  on = hint;
  ask_is = refl;
  rest = λ k place ds e h.
      let same : k ≡ blocks - hint = omega (arith, e) in
      subst (λ (l : List Deed). AsksForPlace (node_of node) (blocks - hint) hint place (l ++ ds)) (sym (none_yet (node_of node) hint))
      (subst (λ n. AsksForPlace (node_of node) n hint place ds) same h);
}

-- one block more
refused_more : (n : deeds.NewNode) (k block : ℕ) → refused_on n k block ++ asked (PutsOn (block + k) n) NoRoom ∷ [] ≡ refused_on n (suc k) block
refused_more n zero block = let e : block + zero ≡ block = omega arith in ap (λ b. asked (PutsOn b n) NoRoom ∷ []) e
refused_more n (suc k) block =
    let e : block + suc k ≡ suc block + k = omega arith in
    ap (λ (l : List Deed). asked (PutsOn block n) NoRoom ∷ l)
    (ap (λ b. refused_on n k (suc block) ++ asked (PutsOn b n) NoRoom ∷ []) e ∙ refused_more n k (suc block))

-- ---- the conditions of an ask for a place hold on over the asks before

module _ {stands later : Index → Type 0} {d e : Desk} {old mid : List Act} {node : NewNode} {hint blocks block : ℕ} {q : Ask} (same : e ≡ d)
    (so : PutsSoFar (Placing stands old d.number hint blocks node) d old mid node hint blocks block q) where
  may_still : (base : Index) → later base → IsShaped base → IsLegal base mid → Placing stands old d.number hint blocks node base
      → Placing later mid d.number hint blocks node base
  may_still base stood shaped legal o =
      let m = so.made [] in
      graphs_on mid base stood shaped legal
      (λ g st sh le a. may_place_last g sh le m.does.acts (quiet d.params m.course m.is.only) hint blocks node.level node.bits node.lists a) o

  pub may_put : block < blocks → (base : Index) → later base → IsShaped base → IsLegal base mid → Placing stands old d.number hint blocks node base
      → Asks later e mid (ask.Put block node) base
  may_put low base stood shaped legal o =
      subst (λ (k : Desk). Asks later k mid (ask.Put block node) base) (sym same) (asks base (may_still base stood shaped legal o))
    where
      asks : (b : Index) → Placing later mid d.number hint blocks node b → Asks later d mid (ask.Put block node) b
      asks (OfNodes g) p = record {
        stood = p.stood;
        may = record {
          from_1 = let one = p.so.on.from_1 in let from = so.from in omega (arith, one, from);
          there = let there = p.so.on.there in omega (arith, low, there);
          asked = p.so.asked;
        };
      }
      asks (OfLists g) p = absurd p.so

  pub may_put_new : (base : Index) → later base → IsShaped base → IsLegal base mid → Placing stands old d.number hint blocks node base
      → Asks later e mid (ask.PutNew node) base
  may_put_new base stood shaped legal o =
      subst (λ (k : Desk). Asks later k mid (ask.PutNew node) base) (sym same) (asks base (may_still base stood shaped legal o))
    where
      asks : (b : Index) → Placing later mid d.number hint blocks node b → Asks later d mid (ask.PutNew node) b
      asks (OfNodes g) p = record { stood = p.stood; may = p.so.asked }
      asks (OfLists g) p = absurd p.so

-- ---- one ask more

module _ {over stands : Index → Type 0} {d e : Desk} {old mid new : List Act} {node : NewNode} {hint blocks block : ℕ} {q left : Ask} {told : Told} (same : e ≡ d)
    (so : PutsSoFar over d old mid node hint blocks block q) where
  module _ (may : (base : Index) → over base → Asks stands e mid (ask.Put block node) base)
      (s : Stepped (Asks stands e mid (ask.Put block node)) e mid new (ask.Put block node) left told) where
    asked_on : (o : Option Place) → place_told told.word told.tid told.list_at told.version ≡ o → (reply : deeds.Reply)
        → put_told (node_of node) block o ≡ did (asked (PutsOn block (node_of node)) reply) → (trace : List ℕ)
        → Did over e mid new trace trace (asked (PutsOn block (node_of node)) reply ∷ [])
    asked_on o is reply same_step trace =
        did_one (asked (PutsOn block (node_of node)) reply) (ap (put_told (node_of node) block) is ∙ same_step) tt refl (one_step may s) trace

    pub puts_more : block < blocks → place_told told.word told.tid told.list_at told.version ≡ None
        → PutsSoFar over d old new node hint blocks (block + 1) left
    puts_more low none =
        let n : deeds.NewNode = node_of node in
        let from = so.from in
        let next : (block + 1) - hint ≡ suc (block - hint) = omega (arith, from) in
        let here : hint + (block - hint) ≡ block = omega (arith, from) in
        let all : refused_on n (block - hint) hint ++ asked (PutsOn block n) NoRoom ∷ [] ≡ refused_on n ((block + 1) - hint) hint =
        ap (λ b. refused_on n (block - hint) hint ++ asked (PutsOn b n) NoRoom ∷ []) (sym here) ∙ refused_more n (block - hint) hint
        ∙ ap (λ k. refused_on n k hint) (sym next) in
        record {
          made = λ trace. subst (Did over d old new trace trace) all
              (did_then same (λ base o. o) (so.made trace) (asked_on None none NoRoom refl trace));
          from = omega (arith, from);
          few = let few = so.few in omega (arith, from, few, low);
          on = block;
          ask_is = s.left_is ∙ ap (λ (o : Option Place). left_of (ask.Put block node) (made_by e.params (Some (put_told n block o)))) none;
          rest = λ k place ds is h.
              let one_fewer : blocks - hint ≡ (block - hint) + suc k = omega (arith, is, from) in
              let after : block + 1 ≡ suc block = omega arith in
              let from_next : AsksForPlace n k (suc block) place ds = subst (λ b. AsksForPlace n k b place ds) after h in
              let these : AsksForPlace n (suc k) block place (asked (PutsOn block n) NoRoom ∷ ds) = inr (ds, refl, from_next) in
              subst (AsksForPlace n (blocks - hint) hint place)
              (sym (append_assoc (refused_on n (block - hint) hint) (asked (PutsOn block n) NoRoom ∷ []) ds) ∙ ap (λ (l : List Deed). l ++ ds) all)
              (so.rest (suc k) place (asked (PutsOn block n) NoRoom ∷ ds) one_fewer these);
        }

    pub puts_end : (place : Place) → block < blocks → place.at.block ≡ block → place_told told.word told.tid told.list_at told.version ≡ Some place
        → PlacesNode over d old new (node_of node) hint blocks place
    puts_end place low on some =
        let n : deeds.NewNode = node_of node in
        let from = so.from in
        let k : ℕ = blocks - block - 1 in
        let one_fewer : blocks - hint ≡ (block - hint) + suc k = omega (arith, from, low) in
        record {
          deeds = refused_on n (block - hint) hint ++ asked (PutsOn block n) (Placed place) ∷ [];
          made = λ trace. did_then same (λ base o. o) (so.made trace) (asked_on (Some place) some (Placed place) refl trace);
          placed = so.rest (suc k) place (asked (PutsOn block n) (Placed place) ∷ []) one_fewer (inl (refl, on));
        }

    -- never over a base: the place is on another block
    pub puts_odd : (end : OpFault) → end ≡ op.Memory → (place : Place) → place_told told.word told.tid told.list_at told.version ≡ Some place
        → StopsBy IsUnderGate (IsFullFor node.level (blocks - hint) hint) over d old new end
    puts_odd end is place some =
        let m = did_then same (λ base o. o) (so.made []) (asked_on (Some place) some (Placed place) refl []) in
        stops_memory end is m.does m.is.only

  module _ (may : (base : Index) → over base → Asks stands e mid (ask.PutNew node) base)
      (s : Stepped (Asks stands e mid (ask.PutNew node)) e mid new (ask.PutNew node) left told) where
    pub puts_new : (place : Place) → blocks ≤ block → place_told told.word told.tid told.list_at told.version ≡ Some place
        → PlacesNode over d old new (node_of node) hint blocks place
    puts_new place high some =
        let n : deeds.NewNode = node_of node in
        let from = so.from in
        let few = so.few in
        let none_left : blocks - hint ≡ (block - hint) + 0 = omega (arith, few, high, from) in
        record {
          deeds = refused_on n (block - hint) hint ++ asked (PutsNew n) (Placed place) ∷ [];
          made = λ trace. did_then same (λ base o. o) (so.made trace)
              (did_one (asked (PutsNew n) (Placed place)) (ap (put_new_told n told) some) tt refl (one_step may s) trace);
          placed = so.rest 0 place (asked (PutsNew n) (Placed place) ∷ []) none_left refl;
        }

    pub puts_full : blocks ≤ block → place_told told.word told.tid told.list_at told.version ≡ None
        → StopsBy IsUnderGate (IsFullFor node.level (blocks - hint) hint) over d old new (op.Full told.blocks told.need)
    puts_full high none =
        let n : deeds.NewNode = node_of node in
        let from = so.from in
        let few = so.few in
        let all : block - hint ≡ blocks - hint = omega (arith, few, high, from) in
        let m = so.made [] in
        let last : List (ℕ × Step) = (told.at, overfull n told.blocks told.need) ∷ [] in
        let x : Does over e mid new last = subst (λ (t : Step). Does over e mid new ((told.at, t) ∷ [])) (ap (put_new_told n told) none) (one_step may s) in
        record {
          course = m.course ++ last;
          does = does_then (λ base o. o) m.does (subst (λ (k : Desk). Does over k mid new last) same x);
          only = all_both (λ (t : ℕ × Step). IsUnderGate t.1) m.course last m.is.only (tt, tt);
          why = record {
            node = n;
            level_is = refl;
            before = [];
            asks = m.course;
            in_vain = subst (λ k. AreDeeds m.course (refused_on n k hint)) all m.is.are;
            at = told.at;
            course_is = refl;
          };
        }

-- ---- an ask that is known

pub step_as : {stands : Index → Type 0} {d : Desk} {old new : List Act} {a b left : Ask} {told : Told} → a ≡ b
    → Stepped (Asks stands d old a) d old new a left told → Stepped (Asks stands d old b) d old new b left told
step_as {stands = stands} {d} {old} {new} {left = left} {told = told} e s = subst (λ q. Stepped (Asks stands d old q) d old new q left told) e s

pub asks_as : {stands : Index → Type 0} {d : Desk} {acts : List Act} {a b : Ask} → a ≡ b → (base : Index) → Asks stands d acts b base → Asks stands d acts a base
asks_as {stands} {d} {acts} e base s = subst (λ q. Asks stands d acts q base) (sym e) s

-- ---- room in the log

pub reserve_asks : {stands : Index → Type 0} {d : Desk} {acts : List Act} (events : ℕ) (base : Index) → OverNodes stands base
    → Asks stands d acts (ask.Reserve events) base
reserve_asks events (OfNodes g) o = record { stood = o.stood; may = tt }
reserve_asks events (OfLists g) o = absurd o.so

pub reserved : {stands : Index → Type 0} {d : Desk} {old new : List Act} {left : Ask} {told : Told} (events : ℕ)
    → Stepped (Asks stands d old (ask.Reserve events)) d old new (ask.Reserve events) left told → (trace : List ℕ)
    → Did (OverNodes stands) d old new trace trace []
reserved events s trace = record {
  course = [];
  does = one_step (reserve_asks events) s;
  is = record { are = tt; only = tt; traced = sym (append-nil trace) };
}

pub failed_as : {stands : Index → Type 0} {d : Desk} {old new : List Act} {a b : Ask} {f : StepFault} → a ≡ b
    → Failed (Asks stands d old a) d old new a f → Failed (Asks stands d old b) d old new b f
failed_as {stands} {d} {old} {new} {f = f} e s = subst (λ q. Failed (Asks stands d old q) d old new q f) e s
