-- Elements are asked to take an id.
use Rattle.std.proofs.Common.{◌≡◌, ◌≢◌, inl, inr, ℕ, suc, ◌+◌, ◌<◌, Bool, true, false, cond, List, [], ◌∷◌, ◌++◌, drop, filter, length, get_or, Option, Some, None, refl, sym, ap, subst, ◌∙◌, append-nil, append_assoc, arith}
use Rattle.std.proofs.Math.Seq.{drop-cons}
use Rattle.vec_names.specs.declared.tid.Tid.{Tid}
use Rattle.vec_names.specs.declared.heap_id.HeapId.{HeapId}
use Rattle.vec_history.specs.declared.event.Act.{Act}
use Rattle.vec_history.specs.declared.gate.Gate.TheVariants.{Update}
use Rattle.vec_history.specs.Gates.{Holds}
use Rattle.neighbour_pick.specs.declared.found.Found.{Found}
use Rattle.graph_search.specs.Deeds.{Deed, Joins, asked}
use Rattle.graph_search.specs.Insert.{AsksToJoin, may_join}
use Rattle.search_sets.specs.declared.spot.Spot.{Spot}
use Rattle.search_sets.specs.Standing.{spot_of}
use Rattle.vec_steps.specs.declared.ask.Ask.{Ask}
use Rattle.vec_steps.specs.declared.ask.Ask.TheVariants as ask
use Rattle.vec_steps.specs.declared.told.Told.{Told}
use Rattle.vec_steps.specs.declared.told.Word.{Word}
use Rattle.vec_steps.specs.declared.told.Word.TheVariants as word
use Rattle.vec_steps.specs.Index.{Index, OfNodes, OfLists}
use Rattle.vec_steps.specs.Telling.{join_told}
use Rattle.vec_steps.specs.Desks.{Asks, Desk}
use Rattle.vec_steps.specs.Calls.{Stepped}
use Rattle.vec_steps.proofs.Following.{one_step}
use Rattle.hnsw_insert.specs.Over.{OverNodes}
use Rattle.hnsw_insert.specs.Courses.{Did}
use Rattle.hnsw_insert.specs.Parts.{AsksAll, AsksAt, AsksOne, GoesOnBy, IsJoinedBy}
use Rattle.hnsw_insert.proofs.Made.{did_none, did_one, did_then}
use Rattle.hnsw_insert.proofs.Quiet.{held_on}

-- ---- one ask

pub join_done : (w : Word) → w ≡ word.Done → IsJoinedBy true (join_told w)
join_done w is = ap join_told is

pub join_refused : (w : Word) → w ≢ word.Done → IsJoinedBy false (join_told w)
join_refused word.Done not = absurd (not refl)
join_refused word.NotJoined not = tt
join_refused _ not = tt

pub join_asks : {stands : Index → Type 0} {d : Desk} {acts : List Act} (at : Tid) (version : ℕ) (id : HeapId) → Holds acts d.number Update → (base : Index)
    → OverNodes stands base → Asks stands d acts (ask.Join at version id) base
join_asks at version id held (OfNodes g) o = record { stood = o.stood; may = held }
join_asks at version id held (OfLists g) o = absurd o.so

pub join_stepped : {stands : Index → Type 0} {d : Desk} {old new : List Act} {left : Ask} {told : Told} (id : HeapId) (spot : Spot) (joined : Bool)
    → Holds old d.number Update → IsJoinedBy joined (join_told told.word)
    → Stepped (Asks stands d old (ask.Join spot.at spot.version id)) d old new (ask.Join spot.at spot.version id) left told
    → AsksOne (OverNodes stands) d old new id spot joined
join_stepped {told = told} id spot joined held answered s = record {
  reply = join_told told.word;
  made = did_one (asked (Joins spot.at spot.version id) (join_told told.word)) refl tt refl (one_step (join_asks spot.at spot.version id held) s);
  answered = answered;
}

-- ---- one element

kept : (bits : List Bool) (e : Found) (es : List Found) (b : Bool) → may_join bits e ≡ b → filter (may_join bits) (e ∷ es) ≡ cond b (e ∷ filter (may_join bits) es) (filter (may_join bits) es)
kept bits e es b is = ap (λ (c : Bool). cond c (e ∷ filter (may_join bits) es) (filter (may_join bits) es)) is

pub not_asked : {over : Index → Type 0} {d : Desk} (acts : List Act) (id : HeapId) (bits : List Bool) (e : Found) → may_join bits e ≡ false
    → AsksAt over d acts acts id bits e false
not_asked acts id bits e is = record {
  deeds = [];
  made = did_none acts;
  goes_on = λ es later taken h. subst (λ (l : List Found). AsksToJoin id l later taken) (sym (kept bits e es false is)) h;
}

by_answer : (id : HeapId) (bits : List Bool) (e : Found) (joined : Bool) (deed : Deed) (reply : _) → deed ≡ asked (Joins e.at e.version id) reply → may_join bits e ≡ true
    → IsJoinedBy joined reply → GoesOnBy joined id bits e (deed ∷ [])
by_answer id bits e true deed reply same may done = λ es.
    subst (λ (l : List Found). AsksToJoin id l (deed ∷ []) (Some e)) (sym (kept bits e es true may))
    (inl (ap (λ (x : Deed). x ∷ []) (same ∙ ap (λ r. asked (Joins e.at e.version id) r) done), refl))
by_answer id bits e false deed reply same may refused = λ es later taken h.
    subst (λ (l : List Found). AsksToJoin id l (deed ∷ later) taken) (sym (kept bits e es true may))
    (inr (reply, later, refused, ap (λ (x : Deed). x ∷ later) same, h))

pub asked_at : {over : Index → Type 0} {d : Desk} {old new : List Act} (id : HeapId) (bits : List Bool) (e : Found) (spot : Spot) (joined : Bool) → spot ≡ spot_of e
    → may_join bits e ≡ true → AsksOne over d old new id spot joined → AsksAt over d old new id bits e joined
asked_at id bits e spot joined is may a = record {
  deeds = asked (Joins spot.at spot.version id) a.reply ∷ [];
  made = a.made;
  goes_on = by_answer id bits e joined (asked (Joins spot.at spot.version id) a.reply) a.reply
      (ap (λ (s : Spot). asked (Joins s.at s.version id) a.reply) is) may a.answered;
}

-- ---- one after the other

pub record AsksSoFar (over : Index → Type 0) (d : Desk) (old new : List Act) (id : HeapId) (bits : List Bool) (near left : List Found) : Type 0 where
  pub deeds : List Deed
  pub made : (trace : List ℕ) → Did over d old new trace trace deeds
  pub further : (later : List Deed) (taken : Option Found) → AsksToJoin id (filter (may_join bits) left) later taken
      → AsksToJoin id (filter (may_join bits) near) (deeds ++ later) taken

pub asks_begin : {over : Index → Type 0} {d : Desk} (acts : List Act) (id : HeapId) (bits : List Bool) (near : List Found)
    → AsksSoFar over d acts acts id bits near near
asks_begin acts id bits near = record { deeds = []; made = did_none acts; further = λ later taken h. h }

-- the hold lasts over them
pub asks_held : {over : Index → Type 0} {d e : Desk} {old new : List Act} {id : HeapId} {bits : List Bool} {near left : List Found} → e ≡ d
    → AsksSoFar over d old new id bits near left → Holds old d.number Update → Holds new e.number Update
asks_held {new = new} same so held =
    let m = so.made [] in
    subst (λ (k : Desk). Holds new k.number Update) (sym same) (held_on m.does m.is.only held)

next_is : (near : List Found) (k : ℕ) (e : Found) → k < length near → e ≡ get_or near k e → drop k near ≡ e ∷ drop (k + 1) near
next_is near k e within is =
    let after : suc k ≡ k + 1 = omega arith in
    drop-cons near k e within ∙ ap (λ (p : Found). p ∷ drop (suc k) near) (sym is) ∙ ap (λ j. e ∷ drop j near) after

module _ {over later_over : Index → Type 0} {d f : Desk} {old mid new : List Act} (id : HeapId) (bits : List Bool) (near : List Found) (k : ℕ) (e : Found)
    (same : f ≡ d) (on : (base : Index) → over base → later_over base) (within : k < length near) (is : e ≡ get_or near k e)
    (so : AsksSoFar over d old mid id bits near (drop k near)) where
  pub asks_more : AsksAt later_over f mid new id bits e false → AsksSoFar over d old new id bits near (drop (k + 1) near)
  asks_more a = record {
    deeds = so.deeds ++ a.deeds;
    made = λ trace. did_then same on (so.made trace) (a.made trace);
    further = λ later taken h.
        subst (λ (l : List Deed). AsksToJoin id (filter (may_join bits) near) l taken) (sym (append_assoc so.deeds a.deeds later))
        (so.further (a.deeds ++ later) taken (subst (λ (l : List Found). AsksToJoin id (filter (may_join bits) l) (a.deeds ++ later) taken) (sym (next_is near k e within is))
        (a.goes_on (drop (k + 1) near) later taken h)));
  }

  pub asks_taken : (spot : Spot) → spot ≡ spot_of e → AsksAt later_over f mid new id bits e true → AsksAll over d old new id bits near (Some spot)
  asks_taken spot at a = record {
    deeds = so.deeds ++ a.deeds;
    taken = Some e;
    made = λ trace. did_then same on (so.made trace) (a.made trace);
    asks = so.further a.deeds (Some e) (subst (λ (l : List Found). AsksToJoin id (filter (may_join bits) l) a.deeds (Some e)) (sym (next_is near k e within is))
        (a.goes_on (drop (k + 1) near)));
    spot_is = ap Some at;
  }

pub asks_ended : {over : Index → Type 0} {d : Desk} {old new : List Act} (id : HeapId) (bits : List Bool) (near left : List Found) → left ≡ []
    → AsksSoFar over d old new id bits near left → AsksAll over d old new id bits near None
asks_ended id bits near left none so = record {
  deeds = so.deeds;
  taken = None;
  made = so.made;
  asks = subst (λ (l : List Deed). AsksToJoin id (filter (may_join bits) near) l None) (append-nil so.deeds)
      (so.further [] None (subst (λ (l : List Found). AsksToJoin id (filter (may_join bits) l) [] None) (sym none) (refl, refl)));
  spot_is = refl;
}
