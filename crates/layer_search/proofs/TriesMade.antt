-- Tries at a neighbour, and neighbours one after the other.
use Rattle.std.proofs.Common.{◌≡◌, ℕ, suc, ◌+◌, ◌-◌, ◌<◌, List, [], ◌∷◌, ◌++◌, drop, length, get_or, Option, Some, None, refl, sym, ap, ap₂, subst, ◌∙◌, arith, append-nil, append_assoc}
use Rattle.std.proofs.Math.Seq.{drop-cons}
use Rattle.vec_names.specs.declared.tid.Tid.{Tid}
use Rattle.vec_history.specs.declared.event.Event.{Event}
use Rattle.vec_history.specs.declared.event.Act.{Act}
use Rattle.neighbour_pick.specs.declared.found.Found.{Found}
use Rattle.graph_search.specs.Reads.{Look, Answer, OfList}
use Rattle.graph_search.specs.Deeds.{Deed, Reply, Done, Stale, Changed, asked, deed_events, events_of, links_in, links_made, looks_of, one_link}
use Rattle.graph_search.specs.Insert.{LinksBack, ListLooked, Target, Tries, Try, link_to, list_look}
use Rattle.graph_search.specs.Insert as try
use Rattle.vec_steps.specs.Index.{Index}
use Rattle.vec_steps.specs.Desks.{Desk}
use Rattle.layer_search.specs.declared.back.Tried.{Tried}
use Rattle.layer_search.specs.declared.back.Tried.TheVariants.{Over, Linked, Again}
use Rattle.layer_search.specs.Linking.{AsksLink, ChoosesSlot, IsAnswered, IsChosen, IsTry, LinksAll, MadeLinks, TriedSo, TriesOne, links_by}
use Rattle.layer_search.specs.Linking as link
use Rattle.layer_search.proofs.Linked.{links_looks, links_none, links_then}

-- ---- how many links

links_both : (es fs : List Event) → links_in (es ++ fs) ≡ links_in es + links_in fs
links_both [] fs = let e : links_in fs ≡ 0 + links_in fs = omega arith in e
links_both (e ∷ es) fs = let h = links_both es fs in let k : one_link e + links_in (es ++ fs) ≡ (one_link e + links_in es) + links_in fs = omega (arith, h) in k

events_then : (m : ℕ) (ds es : List Deed) → events_of m (ds ++ es) ≡ events_of m ds ++ events_of m es
events_then m [] es = refl
events_then m (d ∷ ds) es = ap (λ (l : List Event). deed_events m d ++ l) (events_then m ds es) ∙ sym (append_assoc (deed_events m d) (events_of m ds) (events_of m es))

pub made_then : (m : ℕ) (ds es : List Deed) → links_made m (ds ++ es) ≡ links_made m ds + links_made m es
made_then m ds es = ap links_in (events_then m ds es) ∙ links_both (events_of m ds) (events_of m es)

no_events : (m : ℕ) (reads : List (Look × Answer)) → events_of m (looks_of reads) ≡ []
no_events m [] = refl
no_events m (r ∷ reads) = no_events m reads

module _ (m : ℕ) (t : Target) (e : Found) (layer : ℕ) where
  looked_none : (deeds : List Deed) (slots : List (Option Tid)) (choice : Option ℕ) → ListLooked t e layer deeds slots choice → links_made m deeds ≡ 0
  looked_none deeds slots choice l = ap (links_made m) l.deeds_are ∙ ap links_in (no_events m ((list_look e layer, OfList slots) ∷ l.reads))

  asked_count : (deeds : List Deed) (slots : List (Option Tid)) (slot : ℕ) (r : Reply) → ListLooked t e layer deeds slots (Some slot)
      → links_made m (deeds ++ asked (link_to e layer slot slots t.at) r ∷ []) ≡ links_made m (asked (link_to e layer slot slots t.at) r ∷ [])
  asked_count deeds slots slot r l =
      let last : List Deed = asked (link_to e layer slot slots t.at) r ∷ [] in
      let none = looked_none deeds slots (Some slot) l in
      made_then m deeds last ∙ omega (arith, none)

  pub count_try : (tried : Tried) (deeds : List Deed) → IsTry t e layer tried deeds → links_made m deeds ≡ links_by tried
  count_try Over deeds (link.no_list) = refl
  count_try Over deeds (link.no_slot ds slots l) = looked_none ds slots None l
  count_try Over deeds (link.stale ds slots slot l) = asked_count ds slots slot Stale l
  count_try Linked deeds (link.linked ds slots slot l) = asked_count ds slots slot Done l
  count_try Again deeds (link.changed ds slots slot l) = asked_count ds slots slot Changed l

  -- ---- one try, and what follows

  pub try_ends : (k : ℕ) (tried : Tried) (deeds : List Deed) → IsTry t e layer tried deeds → (tried ≡ Again → ⊥) → Tries t e layer (suc k) deeds
  try_ends k Over deeds (link.no_list) never = try.no_list
  try_ends k Over deeds (link.no_slot ds slots l) never = try.no_slot ds slots l
  try_ends k Over deeds (link.stale ds slots slot l) never = try.stale ds slots slot l
  try_ends k Linked deeds (link.linked ds slots slot l) never = try.linked ds slots slot l
  try_ends k Again deeds i never = absurd (never refl)

  pub again_goes : (k : ℕ) (tried : Tried) (deeds later : List Deed) → IsTry t e layer tried deeds → tried ≡ Again → Tries t e layer k later
      → Tries t e layer (suc k) (deeds ++ later)
  again_goes k Again deeds later (link.changed ds slots slot l) is more =
      subst (Tries t e layer (suc k)) (sym (append_assoc ds (asked (link_to e layer slot slots t.at) Changed ∷ []) later)) (try.changed ds slots slot later l more)
  again_goes k Over deeds later i is more = absurd cc
  again_goes k Linked deeds later i is more = absurd cc

-- ---- tries so far

pub record TriesSoFar (over : Index → Type 0) (d : Desk) (old new : List Act) (before now : List ℕ) (t : Target) (e : Found) (layer left : ℕ) : Type 0 where
  pub deeds : List Deed
  pub made : MadeLinks t.at over d old new before now deeds
  pub none : links_made d.params.m deeds ≡ 0
  pub further : (later : List Deed) → Tries t e layer left later → Tries t e layer 3 (deeds ++ later)

pub tries_none : {over : Index → Type 0} {d : Desk} (acts : List Act) (trace : List ℕ) (t : Target) (e : Found) (layer : ℕ)
    → TriesSoFar over d acts acts trace trace t e layer 3
tries_none acts trace t e layer = record { deeds = []; made = links_none t.at acts trace; none = refl; further = λ later h. h }

module _ {over later_over : Index → Type 0} {d f : Desk} {old mid new : List Act} {before amid now : List ℕ} (t : Target) (e : Found) (layer left : ℕ)
    (same : f ≡ d) (on : (base : Index) → over base → later_over base) (some : 0 < left)
    (so : TriesSoFar over d old mid before amid t e layer left) (tried : Tried) (s : TriedSo later_over f mid new amid now t e layer tried) where
  both_made : MadeLinks t.at over d old new before now (so.deeds ++ s.deeds)
  both_made = links_then same on so.made s.made

  one_count : links_made d.params.m (so.deeds ++ s.deeds) ≡ links_by tried
  one_count =
      let n = so.none in
      made_then d.params.m so.deeds s.deeds ∙ omega (arith, n) ∙ count_try d.params.m t e layer tried s.deeds s.is_try

  turned : suc (left - 1) ≡ left
  turned = omega (arith, some)

  pub tries_more : tried ≡ Again → TriesSoFar over d old new before now t e layer (left - 1)
  tries_more is = record {
    deeds = so.deeds ++ s.deeds;
    made = both_made;
    none = one_count ∙ ap links_by is;
    further = λ later h.
        subst (Tries t e layer 3) (sym (append_assoc so.deeds s.deeds later))
        (so.further (s.deeds ++ later) (subst (λ (k : ℕ). Tries t e layer k (s.deeds ++ later)) turned
        (again_goes d.params.m t e layer (left - 1) tried s.deeds later s.is_try is h)));
  }

  pub tries_ended : (tried ≡ Again → ⊥) → TriesOne over d old new before now t e layer 3 (links_by tried)
  tries_ended never = record {
    deeds = so.deeds ++ s.deeds;
    made = both_made;
    links = so.further s.deeds (subst (λ (k : ℕ). Tries t e layer k s.deeds) turned (try_ends d.params.m t e layer (left - 1) tried s.deeds s.is_try never));
    counted = sym one_count;
  }

pub tries_spent : {over : Index → Type 0} {d : Desk} {old new : List Act} {before now : List ℕ} (t : Target) (e : Found) (layer left : ℕ) → left ≡ 0
    → TriesSoFar over d old new before now t e layer left → TriesOne over d old new before now t e layer 3 0
tries_spent t e layer left none so = record {
  deeds = so.deeds;
  made = so.made;
  links = subst (Tries t e layer 3) (append-nil so.deeds) (so.further [] (subst (λ (k : ℕ). Tries t e layer k []) (sym none) refl));
  counted = sym so.none;
}

-- ---- one try, of its parts

pub try_none : {over : Index → Type 0} {d : Desk} {old new : List Act} {before now : List ℕ} (t : Target) (e : Found) (layer m : ℕ)
    (slots : List (Option Tid)) (choice : Option ℕ) → choice ≡ None → ChoosesSlot over d old new before now t e layer m slots choice
    → TriedSo over d old new before now t e layer Over
try_none t e layer m slots choice is c = record { deeds = looks_of c.reads; made = links_looks t.at c.made; is_try = as_none choice (looks_of c.reads) is c.is_chosen }
  where
    as_none : (o : Option ℕ) (ds : List Deed) → o ≡ None → IsChosen t e layer slots o ds → IsTry t e layer Over ds
    as_none None ds none (link.gone) = link.no_list
    as_none None ds none (link.chosen o ks l) = link.no_slot ks slots l
    as_none (Some k) ds none i = absurd cc

pub try_asked : {over later : Index → Type 0} {d f : Desk} {old mid new : List Act} {before now : List ℕ} (t : Target) (e : Found) (layer m slot : ℕ)
    (slots : List (Option Tid)) (choice : Option ℕ) (tried : Tried) → f ≡ d → ((base : Index) → over base → later base) → choice ≡ Some slot
    → ChoosesSlot over d old mid before now t e layer m slots choice → AsksLink later f mid new t.at e layer slot slots tried
    → TriedSo over d old new before now t e layer tried
try_asked {now = now} t e layer m slot slots choice tried same on is c a = record {
  deeds = looks_of c.reads ++ asked (link_to e layer slot slots t.at) a.reply ∷ [];
  made = links_then same on (links_looks t.at c.made) (a.made now);
  is_try = answered tried a.reply (looks_of c.reads) (looked_at choice (looks_of c.reads) is c.is_chosen) a.answered;
}
  where
    looked_at : (o : Option ℕ) (ds : List Deed) → o ≡ Some slot → IsChosen t e layer slots o ds → ListLooked t e layer ds slots (Some slot)
    looked_at None ds some i = absurd cc
    looked_at (Some k) ds some (link.chosen o ks l) = subst (λ (p : Option ℕ). ListLooked t e layer ks slots p) some l

    answered : (tr : Tried) (r : Reply) (ds : List Deed) → ListLooked t e layer ds slots (Some slot) → IsAnswered tr r
        → IsTry t e layer tr (ds ++ asked (link_to e layer slot slots t.at) r ∷ [])
    answered tr r ds l (link.of_done) = link.linked ds slots slot l
    answered tr r ds l (link.of_changed) = link.changed ds slots slot l
    answered tr r ds l (link.of_stale) = link.stale ds slots slot l

-- ---- neighbours so far

pub record LinksSoFar (over : Index → Type 0) (d : Desk) (old new : List Act) (before now : List ℕ) (t : Target) (picks left : List (ℕ × Found))
    (count : ℕ) : Type 0 where
  pub deeds : List Deed
  pub made : MadeLinks t.at over d old new before now deeds
  pub counted : count ≡ links_made d.params.m deeds
  pub further : (later : List Deed) → LinksBack t left later → LinksBack t picks (deeds ++ later)

pub all_none : {over : Index → Type 0} {d : Desk} (acts : List Act) (trace : List ℕ) (t : Target) (picks : List (ℕ × Found))
    → LinksSoFar over d acts acts trace trace t picks picks 0
all_none acts trace t picks = record { deeds = []; made = links_none t.at acts trace; counted = refl; further = λ later h. h }

pub all_more : {over later_over : Index → Type 0} {d f : Desk} {old mid new : List Act} {before amid now : List ℕ} (t : Target) (picks : List (ℕ × Found))
    (k layer count one sum : ℕ) (e : Found) → f ≡ d → ((base : Index) → over base → later_over base) → k < length picks
    → (layer, e) ≡ get_or picks k (layer, e) → sum ≡ count + one → LinksSoFar over d old mid before amid t picks (drop k picks) count
    → TriesOne later_over f mid new amid now t e layer 3 one → LinksSoFar over d old new before now t picks (drop (k + 1) picks) sum
all_more {d = d} {f = f} t picks k layer count one sum e same on within is sum_is so s =
    let m : ℕ = d.params.m in
    let same_one : one ≡ links_made m s.deeds = s.counted ∙ ap (λ (g : Desk). links_made g.params.m s.deeds) same in
    let next : drop k picks ≡ (layer, e) ∷ drop (suc k) picks =
    drop-cons picks k (layer, e) within ∙ ap (λ (p : ℕ × Found). p ∷ drop (suc k) picks) (sym is) in
    let after : suc k ≡ k + 1 = omega arith in
    record {
      deeds = so.deeds ++ s.deeds;
      made = links_then same on so.made s.made;
      counted = sum_is ∙ ap₂ (λ (a b : ℕ). a + b) so.counted same_one ∙ sym (made_then m so.deeds s.deeds);
      further = λ later h.
          subst (LinksBack t picks) (sym (append_assoc so.deeds s.deeds later))
          (so.further (s.deeds ++ later) (subst (λ (l : List (ℕ × Found)). LinksBack t l (s.deeds ++ later)) (sym next)
          (s.deeds, later, refl, s.links, subst (λ (j : ℕ). LinksBack t (drop j picks) later) (sym after) h)));
    }

pub all_ended : {over : Index → Type 0} {d : Desk} {old new : List Act} {before now : List ℕ} (t : Target) (picks : List (ℕ × Found)) (k count : ℕ)
    → drop k picks ≡ [] → LinksSoFar over d old new before now t picks (drop k picks) count → LinksAll over d old new before now t picks count
all_ended t picks k count none so = record {
  deeds = so.deeds;
  made = so.made;
  links = subst (LinksBack t picks) (append-nil so.deeds) (so.further [] (subst (λ (l : List (ℕ × Found)). LinksBack t l []) (sym none) refl));
  counted = so.counted;
}
