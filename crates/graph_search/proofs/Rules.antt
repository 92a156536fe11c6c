-- The rules of an insert: tries of a neighbour, who becomes the entry point, and who moves the hint.
use Rattle.std.proofs.Common.{◌≡◌, ℕ, zero, suc, ◌-◌, ◌≤◌, Bool, true, false, cond, List, [], ◌∷◌, ◌++◌, filter, Option, Some, None, refl, sym, ap, ◌∙◌, append_assoc, nat_lt, not, ◌&&◌, ◌==◌, inl, inr, arith, lt-ltb, le-ltb, eq-eqb, ne_eqb}
use Rattle.std.proofs.Math.Bool.{and-false}
use Rattle.std.proofs.lemmas.List.{append-nil}
use Rattle.std.proofs.lemmas.List.Elements.{filter-append}
use Rattle.vec_names.specs.declared.tid.Tid.{Tid}
use Rattle.vec_names.specs.declared.heap_id.HeapId.{HeapId}
use Rattle.vec_names.specs.declared.params.Params.{Params}
use Rattle.vec_names.specs.Levels.{level_of}
use Rattle.vec_history.specs.declared.gate.Gate.{Gate}
use Rattle.vec_history.specs.declared.gate.Gate.TheVariants.{Update}
use Rattle.vec_history.specs.declared.gate.Hold.{Hold}
use Rattle.vec_history.specs.declared.gate.Hold.TheVariants.{Shared, Alone}
use Rattle.vec_graph.specs.declared.place.Place.{Place}
use Rattle.neighbour_pick.specs.declared.found.Found.{Found}
use Rattle.graph_search.specs.Reads.{Look, AtMeta, Answer, Gone, OfMeta, OfList}
use Rattle.graph_search.specs.Deeds.{NewNode, Change, Joins, PutsOn, PutsNew, Links, Enters, Hints, Takes, Releases, Reply, Done, Placed, NoRoom, Stale, Changed, Deed, looked, asked, looks_of}
use Rattle.graph_search.specs.Insert.{Lists, Target, ListLooked, Try, no_list, no_slot, linked, stale, changed, Tries, LinksBack, list_look, link_to, may_join, AsksToJoin, AsksForPlace, entering, hinting, node_of, Newcomer, PutsNode, Put, MetaTold, meta_look, Opens, beside, alone, newcomer, WholeInsert}
use Rattle.graph_search.specs.InsertRules.{changes_asked, word_after, HowItEnds, is_linked, is_stale, is_gone, is_without, is_changed, TriedThrice, is_entering, is_hinting, enterings, hintings, EntersWhereAbove}
use Rattle.graph_search.proofs.Inserting.{ends_put, regrouped}

-- ---- tries

looks_asked : (reads : List (Look × Answer)) (ds : List Deed) → changes_asked (looks_of reads ++ ds) ≡ changes_asked ds
looks_asked [] ds = refl
looks_asked (r ∷ reads) ds = looks_asked reads ds

looks_word : (reads : List (Look × Answer)) (ds : List Deed) → word_after None (looks_of reads ++ ds) ≡ word_after None ds
looks_word [] ds = refl
looks_word (r ∷ reads) ds = looks_word reads ds

none_is : None ≡ Some Changed → ⊥
none_is e = absurd cc

done_is : Some Done ≡ Some Changed → ⊥
done_is e = absurd cc

stale_is : Some Stale ≡ Some Changed → ⊥
stale_is e = absurd cc

word_keeps : (word : Option Reply) (r : Reply) (ds : List Deed) → word_after None ds ≡ Some r → word_after word ds ≡ Some r
word_keeps word r [] is = absurd cc
word_keeps word r (looked look told ∷ ds) is = is
word_keeps word r (asked change reply ∷ ds) is = is

module _ (t : Target) (e : Found) (layer : ℕ) where
  then_asked : (deeds : List Deed) (slots : List (Option Tid)) (choice : Option ℕ) (ds : List Deed) → ListLooked t e layer deeds slots choice
      → changes_asked (deeds ++ ds) ≡ changes_asked ds
  then_asked deeds slots choice ds l = ap (λ (z : List Deed). changes_asked (z ++ ds)) l.deeds_are ∙ looks_asked l.reads ds

  then_word : (word : Option Reply) (deeds : List Deed) (slots : List (Option Tid)) (choice : Option ℕ) (ds : List Deed)
      → ListLooked t e layer deeds slots choice → word_after word (deeds ++ ds) ≡ word_after None ds
  then_word word deeds slots choice ds l = ap (λ (z : List Deed). word_after word (z ++ ds)) l.deeds_are ∙ looks_word l.reads ds

  alone_asked : (deeds : List Deed) (slots : List (Option Tid)) (choice : Option ℕ) → ListLooked t e layer deeds slots choice
      → changes_asked deeds ≡ 0
  alone_asked deeds slots choice l = ap changes_asked (sym (append-nil deeds)) ∙ then_asked deeds slots choice [] l

  alone_word : (word : Option Reply) (deeds : List Deed) (slots : List (Option Tid)) (choice : Option ℕ) → ListLooked t e layer deeds slots choice
      → word_after word deeds ≡ None
  alone_word word deeds slots choice l = ap (word_after word) (sym (append-nil deeds)) ∙ then_word word deeds slots choice [] l

  few_of : (again : List Deed → Type 0) (k : ℕ) → ((later : List Deed) → again later → changes_asked later ≤ k) → (deeds : List Deed)
      → Try again t e layer deeds → changes_asked deeds ≤ suc k
  few_of again k least _ no_list = omega arith
  few_of again k least _ (no_slot deeds slots l) = omega (arith, alone_asked deeds slots None l)
  few_of again k least _ (linked deeds slots slot l) =
      omega (arith, then_asked deeds slots (Some slot) (asked (link_to e layer slot slots t.at) Done ∷ []) l)
  few_of again k least _ (stale deeds slots slot l) =
      omega (arith, then_asked deeds slots (Some slot) (asked (link_to e layer slot slots t.at) Stale ∷ []) l)
  few_of again k least _ (changed deeds slots slot later l on) =
      omega (arith, then_asked deeds slots (Some slot) (asked (link_to e layer slot slots t.at) Changed ∷ later) l, least later on)

  few : (k : ℕ) (deeds : List Deed) → Tries t e layer k deeds → changes_asked deeds ≤ k
  few zero deeds is = omega (arith, ap changes_asked is)
  few (suc k) deeds is = few_of (λ later. Tries t e layer k later) k (λ later on. few k later on) deeds is

  -- where the last word is Changed, all tries were made
  all_tries : (k : ℕ) (word : Option Reply) (deeds : List Deed) → Tries t e layer (suc k) deeds → word_after word deeds ≡ Some Changed
      → changes_asked deeds ≡ suc k
  all_tries k word _ no_list last = absurd (none_is last)
  all_tries k word _ (no_slot deeds slots l) last = absurd (none_is (sym (alone_word word deeds slots None l) ∙ last))
  all_tries k word _ (linked deeds slots slot l) last =
      absurd (done_is (sym (then_word word deeds slots (Some slot) (asked (link_to e layer slot slots t.at) Done ∷ []) l) ∙ last))
  all_tries k word _ (stale deeds slots slot l) last =
      absurd (stale_is (sym (then_word word deeds slots (Some slot) (asked (link_to e layer slot slots t.at) Stale ∷ []) l) ∙ last))
  all_tries zero word _ (changed deeds slots slot later l on) last =
      then_asked deeds slots (Some slot) (asked (link_to e layer slot slots t.at) Changed ∷ later) l
      ∙ ap (λ (ds : List Deed). suc (changes_asked ds)) on
  all_tries (suc k) word _ (changed deeds slots slot later l on) last =
      let ds = asked (link_to e layer slot slots t.at) Changed ∷ later in
      then_asked deeds slots (Some slot) ds l
      ∙ ap suc (all_tries k (Some Changed) later on (sym (then_word word deeds slots (Some slot) ds l) ∙ last))

  further : (first : List Deed) (slots : List (Option Tid)) (choice : Option ℕ) (change : Change) (later : List Deed)
      → ListLooked t e layer first slots choice → HowItEnds t e layer later → HowItEnds t e layer (first ++ asked change Changed ∷ later)
  further first slots choice change later l (is_linked is) =
      is_linked (then_word None first slots choice (asked change Changed ∷ later) l ∙ word_keeps (Some Changed) Done later is)
  further first slots choice change later l (is_stale is) =
      is_stale (then_word None first slots choice (asked change Changed ∷ later) l ∙ word_keeps (Some Changed) Stale later is)
  further first slots choice change later l (is_gone before are) =
      is_gone (first ++ asked change Changed ∷ before)
      (ap (λ (z : List Deed). first ++ asked change Changed ∷ z) are
      ∙ sym (append_assoc first (asked change Changed ∷ before) (looked (list_look e layer) Gone ∷ [])))
  further first slots choice change later l (is_without before last held are without) =
      is_without (first ++ asked change Changed ∷ before) last held
      (ap (λ (z : List Deed). first ++ asked change Changed ∷ z) are ∙ sym (append_assoc first (asked change Changed ∷ before) last)) without
  further first slots choice change later l (is_changed is) =
      is_changed (then_word None first slots choice (asked change Changed ∷ later) l ∙ word_keeps (Some Changed) Changed later is)

  ends_of : (k : ℕ) (deeds : List Deed) → Tries t e layer (suc k) deeds → HowItEnds t e layer deeds
  ends_of k _ no_list = is_gone [] refl
  ends_of k _ (no_slot deeds slots l) = is_without [] deeds slots refl l
  ends_of k _ (linked deeds slots slot l) =
      is_linked (then_word None deeds slots (Some slot) (asked (link_to e layer slot slots t.at) Done ∷ []) l)
  ends_of k _ (stale deeds slots slot l) =
      is_stale (then_word None deeds slots (Some slot) (asked (link_to e layer slot slots t.at) Stale ∷ []) l)
  ends_of zero _ (changed deeds slots slot later l on) =
      is_changed (then_word None deeds slots (Some slot) (asked (link_to e layer slot slots t.at) Changed ∷ later) l
      ∙ ap (word_after (Some Changed)) on)
  ends_of (suc k) _ (changed deeds slots slot later l on) =
      further deeds slots (Some slot) (link_to e layer slot slots t.at) later l (ends_of k later on)

  -- its list is looked at first
  pub record Begins (deeds : List Deed) : Type 0 where
    pub told : Answer
    pub later : List Deed
    pub are : deeds ≡ looked (list_look e layer) told ∷ later

  listed_first : (deeds : List Deed) (slots : List (Option Tid)) (choice : Option ℕ) (more : List Deed) → ListLooked t e layer deeds slots choice
      → Begins (deeds ++ more)
  listed_first deeds slots choice more l =
      record { told = OfList slots; later = looks_of l.reads ++ more; are = ap (λ (ds : List Deed). ds ++ more) l.deeds_are }

  begins : (again : List Deed → Type 0) (deeds : List Deed) → Try again t e layer deeds → Begins deeds
  begins again _ no_list = record { told = Gone; later = []; are = refl }
  begins again _ (no_slot deeds slots l) = record { told = OfList slots; later = looks_of l.reads; are = l.deeds_are }
  begins again _ (linked deeds slots slot l) = listed_first deeds slots (Some slot) _ l
  begins again _ (stale deeds slots slot l) = listed_first deeds slots (Some slot) _ l
  begins again _ (changed deeds slots slot later l on) = listed_first deeds slots (Some slot) _ l

pub tried : (t : Target) (layer : ℕ) (e : Found) (picks : List (ℕ × Found)) (deeds : List Deed) → LinksBack t ((layer, e) ∷ picks) deeds
    → TriedThrice t layer e picks deeds
tried t layer e picks deeds (first, rest, are, tries, others) =
    let b = begins t e layer (λ later. Tries t e layer 2 later) first tries in
    record {
      tries = first;
      rest = rest;
      deeds_are = are;
      told = b.told;
      later = b.later;
      looks_first = b.are;
      few = few t e layer 3 first tries;
      not_sooner = λ last. all_tries t e layer 2 None first tries last;
      ends = ends_of t e layer 2 first tries;
      others = others;
    }

-- ---- the entry point and the hint

-- deeds of a kind that neither looks, nor puts, joins, links or gates are
record Apart (p : Deed → Bool) : Type 0 where
  look : (l : Look) (told : Answer) → p (looked l told) ≡ false
  join : (at : Tid) (version : ℕ) (id : HeapId) (reply : Reply) → p (asked (Joins at version id) reply) ≡ false
  on : (block : ℕ) (node : NewNode) (reply : Reply) → p (asked (PutsOn block node) reply) ≡ false
  new : (node : NewNode) (reply : Reply) → p (asked (PutsNew node) reply) ≡ false
  link : (at list_at : Tid) (level version layer slot : ℕ) (held : Option Tid) (to : Tid) (reply : Reply)
      → p (asked (Links at list_at level version layer slot held to) reply) ≡ false
  take : (gate : Gate) (hold : Hold) (reply : Reply) → p (asked (Takes gate hold) reply) ≡ false
  release : (gate : Gate) (reply : Reply) → p (asked (Releases gate) reply) ≡ false

module _ (p : Deed → Bool) (a : Apart p) where
  skip : (d : Deed) (ds : List Deed) → p d ≡ false → filter p (d ∷ ds) ≡ filter p ds
  skip d ds e = ap (λ (b : Bool). cond b (d ∷ filter p ds) (filter p ds)) e

  none_first : (xs ys : List Deed) → filter p xs ≡ [] → filter p (xs ++ ys) ≡ filter p ys
  none_first xs ys e = filter-append p xs ys ∙ ap (λ (z : List Deed). z ++ filter p ys) e

  none_last : (xs ys : List Deed) → filter p ys ≡ [] → filter p (xs ++ ys) ≡ filter p xs
  none_last xs ys e = filter-append p xs ys ∙ ap (λ (z : List Deed). filter p xs ++ z) e ∙ append-nil (filter p xs)

  looks_none : (reads : List (Look × Answer)) → filter p (looks_of reads) ≡ []
  looks_none [] = refl
  looks_none (r ∷ reads) = skip (looked r.0 r.1) (looks_of reads) (a.look r.0 r.1) ∙ looks_none reads

  listed_none : (t : Target) (e : Found) (layer : ℕ) (deeds : List Deed) (slots : List (Option Tid)) (choice : Option ℕ)
      → ListLooked t e layer deeds slots choice → filter p deeds ≡ []
  listed_none t e layer deeds slots choice l =
      ap (filter p) l.deeds_are ∙ skip _ (looks_of l.reads) (a.look (list_look e layer) (OfList slots)) ∙ looks_none l.reads

  link_none : (t : Target) (e : Found) (layer slot : ℕ) (slots : List (Option Tid)) (reply : Reply) (later : List Deed)
      → filter p (asked (link_to e layer slot slots t.at) reply ∷ later) ≡ filter p later
  link_none t e layer slot slots reply later = skip _ later (a.link e.at e.list_at e.level e.version layer slot _ t.at reply)

  try_none : (again : List Deed → Type 0) → ((later : List Deed) → again later → filter p later ≡ []) → (t : Target) (e : Found) (layer : ℕ)
      (deeds : List Deed) → Try again t e layer deeds → filter p deeds ≡ []
  try_none again none t e layer _ no_list = skip _ [] (a.look (list_look e layer) Gone)
  try_none again none t e layer _ (no_slot deeds slots l) = listed_none t e layer deeds slots None l
  try_none again none t e layer _ (linked deeds slots slot l) =
      none_first deeds _ (listed_none t e layer deeds slots (Some slot) l) ∙ link_none t e layer slot slots Done []
  try_none again none t e layer _ (stale deeds slots slot l) =
      none_first deeds _ (listed_none t e layer deeds slots (Some slot) l) ∙ link_none t e layer slot slots Stale []
  try_none again none t e layer _ (changed deeds slots slot later l on) =
      none_first deeds _ (listed_none t e layer deeds slots (Some slot) l) ∙ link_none t e layer slot slots Changed later ∙ none later on

  tries_none : (t : Target) (e : Found) (layer k : ℕ) (deeds : List Deed) → Tries t e layer k deeds → filter p deeds ≡ []
  tries_none t e layer zero deeds is = ap (filter p) is
  tries_none t e layer (suc k) deeds is = try_none (λ later. Tries t e layer k later) (λ later on. tries_none t e layer k later on) t e layer deeds is

  back_none : (t : Target) (picks : List (ℕ × Found)) (deeds : List Deed) → LinksBack t picks deeds → filter p deeds ≡ []
  back_none t [] deeds is = ap (filter p) is
  back_none t (q ∷ picks) deeds (first, rest, are, tried, others) =
      ap (filter p) are ∙ none_first first rest (tries_none t q.1 q.0 3 first tried) ∙ back_none t picks rest others

  join_none : (id : HeapId) (es : List Found) (deeds : List Deed) (taken : Option Found) → AsksToJoin id es deeds taken → filter p deeds ≡ []
  join_none id [] deeds taken (are, _) = ap (filter p) are
  join_none id (e ∷ es) deeds taken (inl (are, is)) = ap (filter p) are ∙ skip _ [] (a.join e.at e.version id Done)
  join_none id (e ∷ es) deeds taken (inr (reply, rest, is, are, others)) =
      ap (filter p) are ∙ skip _ rest (a.join e.at e.version id reply) ∙ join_none id es rest taken others

  place_none : (node : NewNode) (k block : ℕ) (place : Place) (deeds : List Deed) → AsksForPlace node k block place deeds → filter p deeds ≡ []
  place_none node zero block place deeds are = ap (filter p) are ∙ skip _ [] (a.new node (Placed place))
  place_none node (suc k) block place deeds (inl (are, at)) = ap (filter p) are ∙ skip _ [] (a.on block node (Placed place))
  place_none node (suc k) block place deeds (inr (rest, are, others)) =
      ap (filter p) are ∙ skip _ rest (a.on block node NoRoom) ∙ place_none node k (suc block) place rest others

  release_none : filter p (asked (Releases Update) Done ∷ []) ≡ []
  release_none = skip _ [] (a.release Update Done)

  after_meta : (told : MetaTold) (ds : List Deed) → filter p (meta_look told ∷ ds) ≡ filter p ds
  after_meta told ds = skip (meta_look told) ds (a.look AtMeta (OfMeta told.entry told.level told.hint told.blocks))

  after_take : (hold : Hold) (ds : List Deed) → filter p (asked (Takes Update hold) Done ∷ ds) ≡ filter p ds
  after_take hold ds = skip (asked (Takes Update hold) Done) ds (a.take Update hold Done)

  opens_none : (level : ℕ) (told : MetaTold) (deeds : List Deed) → Opens level told deeds → filter p deeds ≡ []
  opens_none level told _ (beside is) = after_take Shared (meta_look told ∷ []) ∙ after_meta told []
  opens_none level told _ (alone first is) =
      let third = asked (Takes Update Alone) Done ∷ meta_look told ∷ [] in
      let second = asked (Releases Update) Done ∷ third in
      after_take Shared (meta_look first ∷ second) ∙ after_meta first second ∙ skip (asked (Releases Update) Done) third (a.release Update Done)
      ∙ after_take Alone (meta_look told ∷ []) ∙ after_meta told []

  node_last : (n : Newcomer) (id : HeapId) (hint blocks : ℕ) (top : Option ℕ) (lists : Lists) (place : Place) (deeds : List Deed)
      → PutsNode n id hint blocks top lists place deeds
      → filter p deeds ≡ filter p (entering top place.at n.level) ++ filter p (hinting n.level hint place.at)
  node_last n id hint blocks top lists place deeds q =
      let last = hinting n.level hint place.at in
      let entry = entering top place.at n.level in
      ap (filter p) q.deeds_are
      ∙ filter-append p (q.put ++ q.back ++ entry) last
      ∙ ap (λ (z : List Deed). z ++ filter p last)
      (none_first (q.put ++ q.back) entry
      (none_first q.put q.back (place_none (node_of n id lists) (blocks - hint) hint place q.put q.placed) ∙ back_none _ lists.picks q.back q.linked_back))

module _ (p : Deed → Bool) (a : Apart p) (params : Params) (id : HeapId) (bits : List Bool) (word : ℕ) (deeds : List Deed) (place : Place) where
  whole_last : (w : WholeInsert params id bits word (Put place) deeds)
      → filter p deeds ≡ filter p (entering w.course.top place.at (level_of word params.m))
      ++ filter p (hinting (level_of word params.m) w.told.hint place.at)
  whole_last w =
      let c = w.course in
      let n = newcomer params bits word in
      let ends = ends_put n id w.told.hint w.told.blocks c.top c.lists c.taken place c.rest c.ends in
      ap (filter p) w.deeds_are
      ∙ none_last p a (w.front ++ w.under) (asked (Releases Update) Done ∷ []) (release_none p a)
      ∙ none_first p a w.front w.under (opens_none p a (level_of word params.m) w.told w.front w.opens)
      ∙ ap (filter p) c.deeds_are
      ∙ none_first p a (looks_of c.reads ++ c.joins) c.rest
      (none_first p a (looks_of c.reads) c.joins (looks_none p a c.reads)
      ∙ join_none p a id (filter (may_join bits) c.lists.near) c.joins c.taken c.asked_to_join)
      ∙ node_last p a n id w.told.hint w.told.blocks c.top c.lists place c.rest ends.1

apart_entering : Apart is_entering
apart_entering = record {
  look = λ l told. refl;
  join = λ at version id reply. refl;
  on = λ block node reply. refl;
  new = λ node reply. refl;
  link = λ at list_at level version layer slot held to reply. refl;
  take = λ gate hold reply. refl;
  release = λ gate reply. refl;
}

apart_hinting : Apart is_hinting
apart_hinting = record {
  look = λ l told. refl;
  join = λ at version id reply. refl;
  on = λ block node reply. refl;
  new = λ node reply. refl;
  link = λ at list_at level version layer slot held to reply. refl;
  take = λ gate hold reply. refl;
  release = λ gate reply. refl;
}

if_none : (p : Deed → Bool) (b : Bool) (d : Deed) → p d ≡ false → filter p (cond b (d ∷ []) []) ≡ []
if_none p true d e = ap (λ (c : Bool). cond c (d ∷ []) []) e
if_none p false d e = refl

if_some : (p : Deed → Bool) (b : Bool) (d : Deed) → p d ≡ true → b ≡ true → filter p (cond b (d ∷ []) []) ≡ d ∷ []
if_some p true d e is = ap (λ (c : Bool). cond c (d ∷ []) []) e
if_some p false d e is = absurd cc

if_not : (p : Deed → Bool) (b : Bool) (d : Deed) → b ≡ false → filter p (cond b (d ∷ []) []) ≡ []
if_not p true d is = absurd cc
if_not p false d is = refl

no_entry_in_hinting : (level hint : ℕ) (at : Tid) → enterings (hinting level hint at) ≡ []
no_entry_in_hinting level hint at = if_none is_entering ((level == 0) && not (at.block == hint)) _ refl

no_hint_in_entering : (top : Option ℕ) (at : Tid) (level : ℕ) → hintings (entering top at level) ≡ []
no_hint_in_entering None at level = refl
no_hint_in_entering (Some top) at level = if_none is_hinting (nat_lt top level) _ refl

high_none : (level hint : ℕ) (at : Tid) → 1 ≤ level → hintings (hinting level hint at) ≡ []
high_none level hint at high =
    if_not is_hinting ((level == 0) && not (at.block == hint)) (asked (Hints at.block) Done)
    (ap (λ (b : Bool). b && not (at.block == hint)) (ne_eqb level 0 (λ low. omega (arith, high, low))))

module _ (params : Params) (id : HeapId) (bits : List Bool) (word : ℕ) (deeds : List Deed) (place : Place) where
  enters_as : (w : WholeInsert params id bits word (Put place) deeds)
      → enterings deeds ≡ enterings (entering w.course.top place.at (level_of word params.m))
  enters_as w =
      whole_last is_entering apart_entering params id bits word deeds place w
      ∙ ap (λ (z : List Deed). enterings (entering w.course.top place.at (level_of word params.m)) ++ z)
      (no_entry_in_hinting (level_of word params.m) w.told.hint place.at)
      ∙ append-nil (enterings (entering w.course.top place.at (level_of word params.m)))

  hints_as : (w : WholeInsert params id bits word (Put place) deeds)
      → hintings deeds ≡ hintings (hinting (level_of word params.m) w.told.hint place.at)
  hints_as w =
      whole_last is_hinting apart_hinting params id bits word deeds place w
      ∙ ap (λ (z : List Deed). z ++ hintings (hinting (level_of word params.m) w.told.hint place.at))
      (no_hint_in_entering w.course.top place.at (level_of word params.m))

  pub enters_where_above : WholeInsert params id bits word (Put place) deeds → EntersWhereAbove params id bits word place deeds
  enters_where_above w =
      let c = w.course in
      let level = level_of word params.m in
      let entry = asked (Enters place.at level) Done in
      record {
        before = w.front;
        reads = c.reads;
        later = c.joins ++ (c.rest ++ asked (Releases Update) Done ∷ []);
        deeds_are = w.deeds_are
            ∙ ap (λ (z : List Deed). w.front ++ z ++ asked (Releases Update) Done ∷ []) c.deeds_are
            ∙ regrouped w.front (looks_of c.reads) c.joins c.rest (asked (Releases Update) Done ∷ []);
        top = c.top;
        lists = c.lists;
        found = c.found;
        as_first = λ none. enters_as w ∙ ap (λ (top : Option ℕ). enterings (entering top place.at level)) none;
        above = λ top is lt. enters_as w ∙ ap (λ (o : Option ℕ). enterings (entering o place.at level)) is
            ∙ if_some is_entering (nat_lt top level) entry refl (lt-ltb top level lt);
        not_above = λ top is le. enters_as w ∙ ap (λ (o : Option ℕ). enterings (entering o place.at level)) is
            ∙ if_not is_entering (nat_lt top level) entry (le-ltb top level le);
      }

  pub high_hints_none : WholeInsert params id bits word (Put place) deeds → 1 ≤ level_of word params.m → hintings deeds ≡ []
  high_hints_none w high = hints_as w ∙ high_none (level_of word params.m) w.told.hint place.at high

module _ (n : Newcomer) (id : HeapId) (hint blocks : ℕ) (top : Option ℕ) (lists : Lists) (place : Place) (deeds : List Deed) where
  node_hints : PutsNode n id hint blocks top lists place deeds → hintings deeds ≡ hintings (hinting n.level hint place.at)
  node_hints q =
      node_last is_hinting apart_hinting n id hint blocks top lists place deeds q
      ∙ ap (λ (z : List Deed). z ++ hintings (hinting n.level hint place.at)) (no_hint_in_entering top place.at n.level)

  pub hint_moves : PutsNode n id hint blocks top lists place deeds → n.level ≡ 0 → (place.at.block ≡ hint → ⊥)
      → hintings deeds ≡ asked (Hints place.at.block) Done ∷ []
  hint_moves q low other =
      node_hints q
      ∙ if_some is_hinting ((n.level == 0) && not (place.at.block == hint)) (asked (Hints place.at.block) Done) refl
      (ap (λ (b : Bool). b && not (place.at.block == hint)) (eq-eqb n.level 0 low)
      ∙ ap not (ne_eqb place.at.block hint other))

  pub hint_stays : PutsNode n id hint blocks top lists place deeds → place.at.block ≡ hint → hintings deeds ≡ []
  hint_stays q same =
      node_hints q
      ∙ if_not is_hinting ((n.level == 0) && not (place.at.block == hint)) (asked (Hints place.at.block) Done)
      (ap (λ (b : Bool). (n.level == 0) && not b) (eq-eqb place.at.block hint same) ∙ and-false (n.level == 0))
