-- The lists of a new node, layer after layer.
use Rattle.std.proofs.Common.{◌≡◌, ℕ, zero, suc, ◌+◌, ◌-◌, ◌==◌, ◌*◌, ◌<◌, ◌≤◌, Bool, true, false, if◌then◌else◌, List, [], ◌∷◌, ◌++◌, map, length, min, replicate, Option, Some, None, refl, sym, ap, subst, ◌∙◌, arith, append_assoc, append-nil}
use Rattle.std.specs.Prelude.{slice_get}
use Rattle.std.specs.List.{AllByRecursion, cons_option, filter_map}
use Rattle.std.proofs.lemmas.Option.{none-some, same_Some}
use Rattle.std.proofs.lemmas.Bool.Decides.{nat_tests}
use Rattle.vec_names.specs.declared.tid.Tid.{Tid}
use Rattle.vec_names.specs.declared.params.Params.{Params}
use Rattle.vec_names.specs.declared.params.Kind.{Kind}
use Rattle.vec_names.specs.declared.params.Kind.TheVariants.{Hnsw}
use Rattle.vec_names.specs.Params.{IsGraphInRange, IsInRange, IsInRangeOf}
use Rattle.vec_history.specs.declared.event.Act.{Act}
use Rattle.neighbour_pick.specs.declared.found.Found.{Found}
use Rattle.neighbour_pick.specs.Order.{candidate_of}
use Rattle.neighbour_pick.specs.Selection.{picked}
use Rattle.graph_search.specs.Reads.{Look, Answer}
use Rattle.graph_search.specs.Search.{LayerSearch}
use Rattle.graph_search.specs.Descent.{Descent, or_from, start_at}
use Rattle.graph_search.specs.Insert.{Lists, ListsDown, Newcomer, chosen, layer_part, most_in, no_neighbours, without}
use Rattle.search_sets.specs.Standing.{spot_of}
use Rattle.vec_steps.specs.Index.{Index, OfNodes, OfLists}
use Rattle.vec_steps.specs.Desks.{Desk}
use Rattle.layer_search.specs.declared.found_lists.FoundLists.{FoundLists}
use Rattle.layer_search.specs.Waiting.{AreApart, AreLong}
use Rattle.layer_search.specs.Telling.{OverSpots, StandThere, StandsAt}
use Rattle.layer_search.specs.Looking.{MadeLooks}
use Rattle.layer_search.specs.Running.{Descends, SearchesLayer, next_layer}
use Rattle.layer_search.specs.Listing.{ArePicksLong, FindsDown, FindsLayer, FindsLists, TakesLayer, lists_of, near_after}
use Rattle.layer_search.proofs.Looks.{looks_none, looks_then}
use Rattle.layer_search.proofs.Steadiness.{all_both, all_kept, apart_kept}
use Rattle.layer_search.proofs.Told.{all_spots, spots_all}
use Rattle.layer_search.proofs.Lowering.{or_apart, or_long, or_over}

-- ---- what stands near after a layer

zero_or : (layer : ℕ) → 0 < layer → (layer == 0) ≡ false
zero_or layer above = grind (arith, nat_tests)

module _ (n : Newcomer) (found from : List Found) where
  pub near_apart : (layer : ℕ) → AreApart found → AreApart from → AreApart (near_after n layer found from)
  near_apart layer a b =
      elim (layer == 0) as (λ t. AreApart (if t then without n.except found else or_from found from)) [
        | true ↦ apart_kept _ found a
        | false ↦ or_apart found from a b
      ]

  pub near_long : (layer long : ℕ) → AreLong long found → AreLong long from → AreLong long (near_after n layer found from)
  near_long layer long a b =
      elim (layer == 0) as (λ t. AreLong long (if t then without n.except found else or_from found from)) [
        | true ↦ all_kept (λ e. length e.bits ≡ long) _ found a
        | false ↦ or_long long found from a b
      ]

kept_there : (except : Option Tid) (acts : List Act) (layer : ℕ) (found : List Found) (base : Index) → StandThere acts layer (map spot_of found) base
    → StandThere acts layer (map spot_of (without except found)) base
kept_there except acts layer found (OfNodes g) there =
    spots_all (StandsAt g acts layer) (without except found)
    (all_kept (λ e. StandsAt g acts layer (spot_of e)) _ found (all_spots (StandsAt g acts layer) found there))
kept_there except acts layer found (OfLists g) there = absurd there

pub near_over : {stands : Index → Type 0} {acts : List Act} (n : Newcomer) (layer at : ℕ) (found from : List Found) (base : Index)
    → OverSpots stands acts layer (map spot_of found) base → StandThere acts layer (map spot_of from) base
    → OverSpots stands acts layer (map spot_of (near_after n at found from)) base
near_over {stands} {acts} n layer at found from base o there =
    elim (at == 0) as (λ t. OverSpots stands acts layer (map spot_of (if t then without n.except found else or_from found from)) base) [
      | true ↦ record { stood = o.stood; there = kept_there n.except acts layer found base o.there }
      | false ↦ or_over layer found from base o there
    ]

-- ---- the values of the neighbours

all_at : (P : Found → Type 0) (es : List Found) (k : ℕ) (o : Option Found) → slice_get es k ≡ o → AllByRecursion P es → AllByRecursion P (cons_option o [])
all_at P es k None is all = tt
all_at P [] k (Some e) is all = absurd (none-some e is)
all_at P (x ∷ es) zero (Some e) is all = (subst P (same_Some x e is) all.0, tt)
all_at P (x ∷ es) (suc k) (Some e) is all = all_at P es k (Some e) is all.1

cons_all : (P : Found → Type 0) (o : Option Found) (es : List Found) → AllByRecursion P (cons_option o []) → AllByRecursion P es → AllByRecursion P (cons_option o es)
cons_all P None es a b = b
cons_all P (Some e) es a b = (a.0, b)

-- those at some places among elements that are so
pub all_places : (P : Found → Type 0) (es : List Found) (places : List ℕ) → AllByRecursion P es → AllByRecursion P (filter_map (slice_get es) places)
all_places P es [] all = tt
all_places P es (k ∷ places) all = cons_all P (slice_get es k) (filter_map (slice_get es) places) (all_at P es k (slice_get es k) refl all) (all_places P es places all)

pairs_long : (long layer : ℕ) (es : List Found) → AreLong long es → ArePicksLong long (map (λ e. (layer, e)) es)
pairs_long long layer [] all = tt
pairs_long long layer (e ∷ es) all = (all.0, pairs_long long layer es all.1)

pub picks_after : (n : Newcomer) (layer long : ℕ) (found : List Found) (was after : FoundLists) → TakesLayer n layer found was after → AreLong long found
    → ArePicksLong long was.picks → ArePicksLong long after.picks
picks_after n layer long found was after takes all before =
    let others : List Found = without n.except found in
    subst (ArePicksLong long) (sym takes.picks_are)
    (all_both (λ (p : ℕ × Found). length p.1.bits ≡ long) was.picks (map (λ e. (layer, e)) (chosen n layer found)) before
    (pairs_long long layer (chosen n layer found)
    (all_places (λ (e : Found). length e.bits ≡ long) others (picked n.ops (map candidate_of others) (most_in n.m layer))
    (all_kept (λ (e : Found). length e.bits ≡ long) _ found all))))

-- ---- one layer

pub layer_found : {over : Index → Type 0} {d : Desk} {old new : List Act} {before now : List ℕ} (n : Newcomer) (layer : ℕ) (was after : FoundLists)
    (found slice : List Found) → slice ≡ was.near → SearchesLayer over d old new before now (start_at n.ops n.bits slice layer) n.ef found
    → TakesLayer n layer found was after → FindsLayer over d old new before now n layer was after
layer_found n layer was after found slice is s takes = record {
  reads = s.reads;
  found = found;
  made = s.made;
  search = subst (λ (l : List Found). LayerSearch (start_at n.ops n.bits l layer) n.ef s.reads found) is s.search;
  takes = takes;
}

-- ---- layers so far

pub record ListedSo (over : Index → Type 0) (d : Desk) (old new : List Act) (before now : List ℕ) (n : Newcomer) (top layer : ℕ)
    (was after : FoundLists) : Type 0 where
  pub reads : List (Look × Answer)
  pub slots : List (Option Tid)
  pub picks : List (ℕ × Found)
  pub made : MadeLooks over d old new before now reads
  pub slots_are : after.lists ≡ was.lists ++ slots
  pub picks_are : after.picks ≡ was.picks ++ picks
  pub further : (later : List (Look × Answer)) (below : Lists) → ListsDown n (suc layer) after.near later below
      → ListsDown n (suc top) was.near (reads ++ later) (record { slots = slots ++ below.slots; picks = picks ++ below.picks; near = below.near })

pub listed_none : {over : Index → Type 0} {d : Desk} (acts : List Act) (trace : List ℕ) (n : Newcomer) (top : ℕ) (was : FoundLists)
    → ListedSo over d acts acts trace trace n top top was was
listed_none acts trace n top was = record {
  reads = [];
  slots = [];
  picks = [];
  made = looks_none acts trace;
  slots_are = sym (append-nil was.lists);
  picks_are = sym (append-nil was.picks);
  further = λ later below down. down;
}

same_lists : (slots slots' : List (Option Tid)) (picks picks' : List (ℕ × Found)) (near near' : List Found) → slots ≡ slots' → picks ≡ picks' → near ≡ near'
    → (let a : Lists = record { slots = slots; picks = picks; near = near } in a) ≡ (record { slots = slots'; picks = picks'; near = near' })
same_lists slots slots' picks picks' near near' s p q =
    ap (λ (l : List (Option Tid)). (let a : Lists = record { slots = l; picks = picks; near = near } in a)) s
    ∙ ap (λ (l : List (ℕ × Found)). (let a : Lists = record { slots = slots'; picks = l; near = near } in a)) p
    ∙ ap (λ (l : List Found). (let a : Lists = record { slots = slots'; picks = picks'; near = l } in a)) q

-- one layer, and then those below it
one_layer : (n : Newcomer) (layer : ℕ) (was after : FoundLists) (found : List Found) (first later : List (Look × Answer)) (below : Lists) → 0 < layer
    → LayerSearch (start_at n.ops n.bits was.near layer) n.ef first found → TakesLayer n layer found was after → ListsDown n layer after.near later below
    → ListsDown n (suc layer) was.near (first ++ later)
    (record { slots = layer_part n layer (chosen n layer found) ++ below.slots; picks = map (λ e. (layer, e)) (chosen n layer found) ++ below.picks; near = below.near })
one_layer n layer was after found first later below above search takes down =
    let is_above = zero_or layer above in
    let next : after.near ≡ or_from found was.near =
    takes.near_is ∙ ap (λ (t : Bool). if t then without n.except found else or_from found was.near) is_above in
    record {
      first = first;
      found = found;
      search = search;
      later = later;
      below = below;
      deeper_is = subst (λ (l : List Found). ListsDown n layer l later below) next down;
      reads_are = refl;
      slots_are = refl;
      picks_are = refl;
      near_is = ap (λ (t : Bool). if t then without n.except found else below.near) (sym is_above);
    }

pub listed_more : {over later_over : Index → Type 0} {d e : Desk} {old mid new : List Act} {before amid now : List ℕ} (n : Newcomer) (top layer : ℕ)
    (was so_far after : FoundLists) → e ≡ d → ((base : Index) → over base → later_over base) → 0 < layer
    → ListedSo over d old mid before amid n top layer was so_far → FindsLayer later_over e mid new amid now n layer so_far after
    → ListedSo over d old new before now n top (layer - 1) was after
listed_more n top layer was so_far after same on above so f =
    let part : List (Option Tid) = layer_part n layer (chosen n layer f.found) in
    let pairs : List (ℕ × Found) = map (λ e. (layer, e)) (chosen n layer f.found) in
    let down : suc (layer - 1) ≡ layer = omega (arith, above) in
    record {
      reads = so.reads ++ f.reads;
      slots = so.slots ++ part;
      picks = so.picks ++ pairs;
      made = looks_then same on so.made f.made;
      slots_are = f.takes.slots_are ∙ ap (λ (l : List (Option Tid)). l ++ part) so.slots_are ∙ append_assoc was.lists so.slots part;
      picks_are = f.takes.picks_are ∙ ap (λ (l : List (ℕ × Found)). l ++ pairs) so.picks_are ∙ append_assoc was.picks so.picks pairs;
      further = λ later below low.
          let here = one_layer n layer so_far after f.found f.reads later below above f.search f.takes
          (subst (λ (k : ℕ). ListsDown n k after.near later below) down low) in
          subst (λ (r : List (Look × Answer)). ListsDown n (suc top) was.near r
          (record { slots = (so.slots ++ part) ++ below.slots; picks = (so.picks ++ pairs) ++ below.picks; near = below.near })) (sym (append_assoc so.reads f.reads later))
          (subst (λ (l : Lists). ListsDown n (suc top) was.near (so.reads ++ (f.reads ++ later)) l)
          (same_lists (so.slots ++ (part ++ below.slots)) ((so.slots ++ part) ++ below.slots) (so.picks ++ (pairs ++ below.picks)) ((so.picks ++ pairs) ++ below.picks)
          below.near below.near (sym (append_assoc so.slots part below.slots)) (sym (append_assoc so.picks pairs below.picks)) refl)
          (so.further (f.reads ++ later) (record { slots = part ++ below.slots; picks = pairs ++ below.picks; near = below.near }) here));
    }

-- the lowest layer is the last
pub listed_end : {over later_over : Index → Type 0} {d e : Desk} {old mid new : List Act} {before amid now : List ℕ} (n : Newcomer) (top : ℕ)
    (was so_far after : FoundLists) → e ≡ d → ((base : Index) → over base → later_over base) → ListedSo over d old mid before amid n top 0 was so_far
    → FindsLayer later_over e mid new amid now n 0 so_far after → FindsDown over d old new before now n (top + 1) was after
listed_end n top was so_far after same on so f =
    let part : List (Option Tid) = layer_part n 0 (chosen n 0 f.found) in
    let pairs : List (ℕ × Found) = map (λ e. (0, e)) (chosen n 0 f.found) in
    let here : ListsDown n 1 so_far.near (f.reads ++ []) (record { slots = part ++ []; picks = pairs ++ []; near = without n.except f.found }) =
    record {
      first = f.reads;
      found = f.found;
      search = f.search;
      later = [];
      below = record { slots = []; picks = []; near = [] };
      deeper_is = (refl, refl);
      reads_are = refl;
      slots_are = refl;
      picks_are = refl;
      near_is = refl;
    } in
    let all : suc top ≡ top + 1 = omega arith in
    record {
      reads = so.reads ++ (f.reads ++ []);
      below = record { slots = so.slots ++ (part ++ []); picks = so.picks ++ (pairs ++ []); near = without n.except f.found };
      made = subst (λ (l : List (Look × Answer)). MadeLooks _ _ _ _ _ _ (so.reads ++ l)) (sym (append-nil f.reads)) (looks_then same on so.made f.made);
      down = subst (λ (k : ℕ). ListsDown n k was.near (so.reads ++ (f.reads ++ []))
          (record { slots = so.slots ++ (part ++ []); picks = so.picks ++ (pairs ++ []); near = without n.except f.found })) all
          (so.further (f.reads ++ []) (record { slots = part ++ []; picks = pairs ++ []; near = without n.except f.found }) here);
      slots_are = f.takes.slots_are ∙ ap (λ (l : List (Option Tid)). l ++ part) so.slots_are ∙ append_assoc was.lists so.slots part
          ∙ ap (λ (l : List (Option Tid)). was.lists ++ (so.slots ++ l)) (sym (append-nil part));
      picks_are = f.takes.picks_are ∙ ap (λ (l : List (ℕ × Found)). l ++ pairs) so.picks_are ∙ append_assoc was.picks so.picks pairs
          ∙ ap (λ (l : List (ℕ × Found)). was.picks ++ (so.picks ++ l)) (sym (append-nil pairs));
      near_is = f.takes.near_is;
    }

-- ---- the lists

pub lists_none : {over : Index → Type 0} {d : Desk} {old new : List Act} {before now : List ℕ} (n : Newcomer) (top : Option ℕ) (from : List Found)
    (slots : List (Option Tid)) (picks : List (ℕ × Found)) (near : List Found) → Descends over d old new before now n.ops n.bits n.level top from → top ≡ None
    → slots ≡ no_neighbours n.m n.level → picks ≡ [] → near ≡ [] → FindsLists over d old new before now n None (record { slots = slots; picks = picks; near = near })
lists_none {over} {d} {old} {new} {before} {now} n top from slots picks near down none slots_are picks_are near_is = record {
  reads = down.reads ++ [];
  made = subst (MadeLooks over d old new before now) (sym (append-nil down.reads)) down.made;
  found = record {
    down = down.reads;
    from = from;
    descent = subst (λ (t : Option ℕ). Descent n.ops n.bits n.level down.reads t from) none down.descent;
    on = [];
    searched = (refl, same_lists slots (no_neighbours n.m n.level) picks [] near [] slots_are picks_are near_is);
    reads_are = refl;
  };
}

-- the bases of the layers, by those of the descent
pub down_over : (stands : Index → Type 0) (acts : List Act) (o : Option ℕ) (level top layer : ℕ) (from : List Found) (base : Index) → o ≡ Some top
    → layer ≡ min top level → OverSpots stands acts (next_layer level o) (map spot_of from) base → OverSpots stands acts layer (map spot_of from) base
down_over stands acts o level top layer from base is layer_is over =
    let turned : min level top ≡ min top level = omega arith in
    subst (λ (k : ℕ). OverSpots stands acts k (map spot_of from) base) (ap (next_layer level) is ∙ turned ∙ sym layer_is) over

pub lists_from : {over later : Index → Type 0} {d e : Desk} {old mid new : List Act} {before amid now : List ℕ} {between after : FoundLists} (n : Newcomer)
    (o : Option ℕ) (top layer : ℕ) (from : List Found) → e ≡ d → ((base : Index) → over base → later base)
    → Descends over d old mid before amid n.ops n.bits n.level o from → o ≡ Some top → between.lists ≡ replicate ((n.level - top) * n.m) None
    → between.picks ≡ [] → between.near ≡ from → layer ≡ min top n.level → FindsDown later e mid new amid now n (layer + 1) between after
    → FindsLists over d old new before now n (Some top) (lists_of after)
lists_from {between = between} {after = after} n o top layer from same on down some above_is no_picks near_is layer_is f =
    let above : List (Option Tid) = replicate ((n.level - top) * n.m) None in
    record {
      reads = down.reads ++ f.reads;
      made = looks_then same on down.made f.made;
      found = record {
        down = down.reads;
        from = from;
        descent = subst (λ (t : Option ℕ). Descent n.ops n.bits n.level down.reads t from) some down.descent;
        on = f.reads;
        searched = record {
          found = f.below;
          down = subst (λ (l : List Found). ListsDown n (min top n.level + 1) l f.reads f.below) near_is
              (subst (λ (k : ℕ). ListsDown n (k + 1) between.near f.reads f.below) layer_is f.down);
          lists_are = same_lists after.lists (above ++ f.below.slots) after.picks f.below.picks after.near f.below.near
              (f.slots_are ∙ ap (λ (l : List (Option Tid)). l ++ f.below.slots) above_is)
              (f.picks_are ∙ ap (λ (l : List (ℕ × Found)). l ++ f.below.picks) no_picks) f.near_is;
        };
        reads_are = refl;
      };
    }

-- an index of nodes wants at least four
pub ef_some : (p : Params) → IsInRange p → p.kind ≡ Hnsw → 4 ≤ p.ef
ef_some p range nodes = let here : IsGraphInRange p = subst (λ (k : Kind). IsInRangeOf k p) nodes range.of_kind in here.ef_low
