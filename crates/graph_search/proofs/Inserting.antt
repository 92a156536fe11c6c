-- Which rows an insert makes.
use Rattle.std.proofs.Common.{◌≡◌, ℕ, zero, suc, ◌-◌, Bool, true, false, cond, List, [], ◌∷◌, ◌++◌, filter, Option, Some, None, refl, sym, ap, subst, ◌∙◌, append_assoc, nat_lt, not, ◌&&◌, ◌==◌, inl, inr}
use Rattle.std.proofs.lemmas.List.{append-nil}
use Rattle.std.proofs.lemmas.List.Elements.{filter-append}
use Rattle.vec_names.specs.declared.tid.Tid.{Tid}
use Rattle.vec_names.specs.declared.heap_id.HeapId.{HeapId}
use Rattle.vec_names.specs.declared.params.Params.{Params}
use Rattle.vec_names.specs.Levels.{level_of}
use Rattle.vec_history.specs.declared.event.Event.{Event}
use Rattle.vec_history.specs.declared.event.Event.TheVariants as event
use Rattle.vec_history.specs.declared.gate.Gate.TheVariants.{Update}
use Rattle.vec_graph.specs.declared.place.Place.{Place}
use Rattle.neighbour_pick.specs.declared.found.Found.{Found}
use Rattle.neighbour_pick.proofs.Choosing.{All_of}
use Rattle.graph_search.specs.Reads.{Look, Answer}
use Rattle.graph_search.specs.Deeds.{NewNode, Change, Joins, Releases, Reply, Done, Placed, NoRoom, Full, NotJoined, Stale, Changed, Deed, asked, looks_of, reply_events, deed_events, events_of, is_of_row, rows_made, put_event}
use Rattle.graph_search.specs.Insert.{Newcomer, Lists, Target, ListLooked, Try, no_list, no_slot, linked, stale, changed, Tries, LinksBack, may_join, IsRefused, AsksToJoin, AsksForPlace, entering, hinting, node_of, PutsNode, Outcome, Joined, Put, EndsAs, MetaTold, Opens, beside, alone, newcomer, WholeInsert, PutsWhatItFound}
use Rattle.graph_search.proofs.Ordered.{filter_all}

module _ (m : ℕ) where
  both : (xs ys : List Deed) → rows_made m (xs ++ ys) ≡ rows_made m xs ++ rows_made m ys
  both [] ys = refl
  both (d ∷ xs) ys =
      filter-append is_of_row (deed_events m d) (events_of m (xs ++ ys))
      ∙ ap (λ (z : List Event). filter is_of_row (deed_events m d) ++ z) (both xs ys)
      ∙ sym (append_assoc (filter is_of_row (deed_events m d)) (rows_made m xs) (rows_made m ys))
      ∙ ap (λ (z : List Event). z ++ rows_made m ys) (sym (filter-append is_of_row (deed_events m d) (events_of m xs)))

  none_first : (xs ys : List Deed) → rows_made m xs ≡ [] → rows_made m (xs ++ ys) ≡ rows_made m ys
  none_first xs ys e = both xs ys ∙ ap (λ (z : List Event). z ++ rows_made m ys) e

  none_last : (xs ys : List Deed) → rows_made m ys ≡ [] → rows_made m (xs ++ ys) ≡ rows_made m xs
  none_last xs ys e = both xs ys ∙ ap (λ (z : List Event). rows_made m xs ++ z) e ∙ append-nil (rows_made m xs)

  none_both : (xs ys : List Deed) → rows_made m xs ≡ [] → rows_made m ys ≡ [] → rows_made m (xs ++ ys) ≡ []
  none_both xs ys e f = none_first xs ys e ∙ f

  looks_none : (reads : List (Look × Answer)) → rows_made m (looks_of reads) ≡ []
  looks_none [] = refl
  looks_none (r ∷ reads) = looks_none reads

  -- ---- links back

  looked_none : (t : Target) (e : Found) (layer : ℕ) (deeds : List Deed) (slots : List (Option Tid)) (choice : Option ℕ)
      → ListLooked t e layer deeds slots choice → rows_made m deeds ≡ []
  looked_none t e layer deeds slots choice l = ap (rows_made m) l.deeds_are ∙ looks_none l.reads

  try_none : (again : List Deed → Type 0) → ((later : List Deed) → again later → rows_made m later ≡ []) → (t : Target) (e : Found) (layer : ℕ)
      (deeds : List Deed) → Try again t e layer deeds → rows_made m deeds ≡ []
  try_none again none t e layer _ no_list = refl
  try_none again none t e layer _ (no_slot deeds slots l) = looked_none t e layer deeds slots None l
  try_none again none t e layer _ (linked deeds slots slot l) = none_both deeds _ (looked_none t e layer deeds slots (Some slot) l) refl
  try_none again none t e layer _ (stale deeds slots slot l) = none_both deeds _ (looked_none t e layer deeds slots (Some slot) l) refl
  try_none again none t e layer _ (changed deeds slots slot later l on) =
      none_both deeds _ (looked_none t e layer deeds slots (Some slot) l) (none later on)

  tries_none : (t : Target) (e : Found) (layer k : ℕ) (deeds : List Deed) → Tries t e layer k deeds → rows_made m deeds ≡ []
  tries_none t e layer zero deeds is = ap (rows_made m) is
  tries_none t e layer (suc k) deeds is = try_none (λ later. Tries t e layer k later) (λ later on. tries_none t e layer k later on) t e layer deeds is

  back_none : (t : Target) (picks : List (ℕ × Found)) (deeds : List Deed) → LinksBack t picks deeds → rows_made m deeds ≡ []
  back_none t [] deeds is = ap (rows_made m) is
  back_none t (p ∷ picks) deeds (first, rest, are, tried, others) =
      ap (rows_made m) are ∙ none_both first rest (tries_none t p.1 p.0 3 first tried) (back_none t picks rest others)

  -- ---- joins, and the place

  refused_none : (change : Change) (reply : Reply) → IsRefused reply → reply_events m change reply ≡ []
  refused_none change NotJoined is = refl
  refused_none change Stale is = refl
  refused_none change Done is = absurd is
  refused_none change (Placed place) is = absurd is
  refused_none change NoRoom is = absurd is
  refused_none change Full is = absurd is
  refused_none change Changed is = absurd is

  refused_rows : (change : Change) (reply : Reply) (rest : List Deed) → IsRefused reply → rows_made m (asked change reply ∷ rest) ≡ rows_made m rest
  refused_rows change reply rest is = ap (λ (z : List Event). filter is_of_row (z ++ events_of m rest)) (refused_none change reply is)

  join_none : (id : HeapId) (es : List Found) (deeds : List Deed) (taken : Option Found) → AsksToJoin id es deeds taken → taken ≡ None
      → rows_made m deeds ≡ []
  join_none id [] deeds taken (are, _) none = ap (rows_made m) are
  join_none id (e ∷ es) deeds taken (inl (are, is)) none = absurd cc
  join_none id (e ∷ es) deeds taken (inr (reply, rest, is, are, others)) none =
      ap (rows_made m) are ∙ refused_rows (Joins e.at e.version id) reply rest is ∙ join_none id es rest taken others none

  join_one : (id : HeapId) (es : List Found) (deeds : List Deed) (taken : Option Found) (f : Found) → AsksToJoin id es deeds taken → taken ≡ Some f
      → rows_made m deeds ≡ event.Join f.at f.version id ∷ []
  join_one id [] deeds taken f (are, is) some = absurd cc
  join_one id (e ∷ es) deeds taken f (inl (are, is)) some =
      let same : e ≡ f = cc in
      ap (rows_made m) are ∙ ap (λ (g : Found). event.Join g.at g.version id ∷ []) same
  join_one id (e ∷ es) deeds taken f (inr (reply, rest, is, are, others)) some =
      ap (rows_made m) are ∙ refused_rows (Joins e.at e.version id) reply rest is ∙ join_one id es rest taken f others some

  place_one : (node : NewNode) (k block : ℕ) (place : Place) (deeds : List Deed) → AsksForPlace node k block place deeds
      → rows_made m deeds ≡ put_event node place ∷ []
  place_one node zero block place deeds are = ap (rows_made m) are
  place_one node (suc k) block place deeds (inl (are, on)) = ap (rows_made m) are
  place_one node (suc k) block place deeds (inr (rest, are, others)) = ap (rows_made m) are ∙ place_one node k (suc block) place rest others

  -- ---- the rest

  if_none : (b : Bool) (deeds : List Deed) → rows_made m deeds ≡ [] → rows_made m (cond b deeds []) ≡ []
  if_none true deeds e = e
  if_none false deeds e = refl

  entering_none : (top : Option ℕ) (at : Tid) (level : ℕ) → rows_made m (entering top at level) ≡ []
  entering_none None at level = refl
  entering_none (Some top) at level = if_none (nat_lt top level) _ refl

  hinting_none : (level hint : ℕ) (at : Tid) → rows_made m (hinting level hint at) ≡ []
  hinting_none level hint at = if_none ((level == 0) && not (at.block == hint)) _ refl

  opens_none : (level : ℕ) (told : MetaTold) (deeds : List Deed) → Opens level told deeds → rows_made m deeds ≡ []
  opens_none level told _ (beside is) = refl
  opens_none level told _ (alone first is) = refl

  node_one : (n : Newcomer) (id : HeapId) (hint blocks : ℕ) (top : Option ℕ) (lists : Lists) (place : Place) (deeds : List Deed)
      → PutsNode n id hint blocks top lists place deeds → rows_made m deeds ≡ put_event (node_of n id lists) place ∷ []
  node_one n id hint blocks top lists place deeds p =
      ap (rows_made m) p.deeds_are
      ∙ none_last (p.put ++ p.back ++ entering top place.at n.level) (hinting n.level hint place.at) (hinting_none n.level hint place.at)
      ∙ none_last (p.put ++ p.back) (entering top place.at n.level) (entering_none top place.at n.level)
      ∙ none_last p.put p.back (back_none _ lists.picks p.back p.linked_back)
      ∙ place_one (node_of n id lists) (blocks - hint) hint place p.put p.placed

-- ---- what an element that took the id was like

taken_all : (P : Found → Type 0) (id : HeapId) (es : List Found) (deeds : List Deed) (taken : Option Found) (f : Found)
    → All_of P es → AsksToJoin id es deeds taken → taken ≡ Some f → P f
unfolding All_of
taken_all P id [] deeds taken f all (are, is) some = absurd cc
taken_all P id (e ∷ es) deeds taken f all (inl (are, is)) some =
    let same : e ≡ f = cc in
    subst P same all.0
taken_all P id (e ∷ es) deeds taken f all (inr (reply, rest, is, are, others)) some = taken_all P id es rest taken f all.1 others some

-- ---- the whole

ends_joined : (n : Newcomer) (id : HeapId) (hint blocks : ℕ) (top : Option ℕ) (lists : Lists) (taken : Option Found) (e : Found) (rest : List Deed)
    → EndsAs n id hint blocks top lists taken (Joined e) rest → (taken ≡ Some e) × (rest ≡ [])
ends_joined n id hint blocks top lists (Some f) e rest (is, none) = (cc, none)
ends_joined n id hint blocks top lists None e rest never = absurd never

pub ends_put : (n : Newcomer) (id : HeapId) (hint blocks : ℕ) (top : Option ℕ) (lists : Lists) (taken : Option Found) (place : Place) (rest : List Deed)
    → EndsAs n id hint blocks top lists taken (Put place) rest → (taken ≡ None) × PutsNode n id hint blocks top lists place rest
ends_put n id hint blocks top lists (Some f) place rest (is, none) = absurd cc
ends_put n id hint blocks top lists None place rest p = (refl, p)

pub regrouped : (front looks joins rest last : List Deed)
    → front ++ (looks ++ joins ++ rest) ++ last ≡ front ++ (looks ++ (joins ++ (rest ++ last)))
regrouped front looks joins rest last =
    append_assoc front (looks ++ joins ++ rest) last
    ∙ ap (λ (z : List Deed). front ++ z) (append_assoc (looks ++ joins) rest last ∙ append_assoc looks joins (rest ++ last))

module _ (params : Params) (id : HeapId) (bits : List Bool) (word : ℕ) (deeds : List Deed) where
  whole_is : (outcome : Outcome) (w : WholeInsert params id bits word outcome deeds) → rows_made params.m deeds ≡ rows_made params.m w.under
  whole_is outcome w =
      ap (rows_made params.m) w.deeds_are
      ∙ none_last params.m (w.front ++ w.under) (asked (Releases Update) Done ∷ []) refl
      ∙ none_first params.m w.front w.under (opens_none params.m (level_of word params.m) w.told w.front w.opens)

  pub joins_one : (e : Found) → WholeInsert params id bits word (Joined e) deeds → rows_made params.m deeds ≡ event.Join e.at e.version id ∷ []
  joins_one e w =
      let c = w.course in
      let ends = ends_joined (newcomer params bits word) id w.told.hint w.told.blocks c.top c.lists c.taken e c.rest c.ends in
      whole_is (Joined e) w
      ∙ ap (rows_made params.m) c.deeds_are
      ∙ none_last params.m (looks_of c.reads ++ c.joins) c.rest (ap (rows_made params.m) ends.1)
      ∙ none_first params.m (looks_of c.reads) c.joins (looks_none params.m c.reads)
      ∙ join_one params.m id (filter (may_join bits) c.lists.near) c.joins c.taken e c.asked_to_join ends.0

  pub joins_equal : (e : Found) → WholeInsert params id bits word (Joined e) deeds → may_join bits e ≡ true
  joins_equal e w =
      let c = w.course in
      let ends = ends_joined (newcomer params bits word) id w.told.hint w.told.blocks c.top c.lists c.taken e c.rest c.ends in
      taken_all (λ (f : Found). may_join bits f ≡ true) id (filter (may_join bits) c.lists.near) c.joins c.taken e
      (filter_all (may_join bits) c.lists.near) c.asked_to_join ends.0

  pub puts_found : (place : Place) → WholeInsert params id bits word (Put place) deeds → PutsWhatItFound params id bits word place deeds
  puts_found place w =
      let c = w.course in
      let n = newcomer params bits word in
      let ends = ends_put n id w.told.hint w.told.blocks c.top c.lists c.taken place c.rest c.ends in
      record {
        before = w.front;
        reads = c.reads;
        later = c.joins ++ (c.rest ++ asked (Releases Update) Done ∷ []);
        deeds_are = w.deeds_are
            ∙ ap (λ (z : List Deed). w.front ++ z ++ asked (Releases Update) Done ∷ []) c.deeds_are
            ∙ regrouped w.front (looks_of c.reads) c.joins c.rest (asked (Releases Update) Done ∷ []);
        top = c.top;
        lists = c.lists;
        found = c.found;
        one_row = whole_is (Put place) w
            ∙ ap (rows_made params.m) c.deeds_are
            ∙ none_first params.m (looks_of c.reads ++ c.joins) c.rest
            (none_both params.m (looks_of c.reads) c.joins (looks_none params.m c.reads)
            (join_none params.m id (filter (may_join bits) c.lists.near) c.joins c.taken c.asked_to_join ends.0))
            ∙ node_one params.m n id w.told.hint w.told.blocks c.top c.lists place c.rest ends.1;
      }
