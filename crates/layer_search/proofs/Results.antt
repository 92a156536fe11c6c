-- What a whole search of a layer did.
use Rattle.std.proofs.Common.{◌≡◌, ℕ, Bool, true, List, [], filter, map, take, length, Option, None, sym, ap, ap₂, subst, ◌∙◌}
use Rattle.std.specs.List.{AllByRecursion}
use Rattle.vec_names.specs.declared.params.Ops.{Ops}
use Rattle.vec_history.specs.declared.event.Act.{Act}
use Rattle.neighbour_pick.specs.declared.found.Found.{Found}
use Rattle.graph_search.specs.Search.{LayerSearch, course_reads, in_order, is_before, is_live}
use Rattle.graph_search.specs.Descent.{start_at}
use Rattle.graph_search.specs.Scan.{Held, is_over}
use Rattle.graph_search.specs.ByHolding.{AreTurnsOf, HoldTheSame, after_turns, batch_of, elements_in}
use Rattle.graph_search.proofs.Stepping.{after_free, after_turns_same, from_free, searched, turns_same}
use Rattle.search_sets.specs.Standing.{begun_from, spot_of}
use Rattle.search_sets.proofs.HeldSo.{same_then, take_map}
use Rattle.vec_steps.specs.Index.{Index, OfNodes, OfLists}
use Rattle.vec_steps.specs.Desks.{Desk}
use Rattle.vec_steps.proofs.Following.{does_so_over}
use Rattle.layer_search.specs.Waiting.{AreApart, AreLong, IsSteady, found_held}
use Rattle.layer_search.specs.Telling.{OverSpots, StandThere, StandsAt, spots_held}
use Rattle.layer_search.specs.Running.{GoesOnSo, SearchesLayer}
use Rattle.layer_search.proofs.Steadiness.{all_front, all_kept, all_ranked, apart_front, firsts}
use Rattle.layer_search.proofs.Told.{all_spots, spots_all}
use Rattle.layer_search.proofs.Turns.{found_of, held_all}

-- ---- the bases at the beginning

pub begun_there : (acts : List Act) (layer : ℕ) (from : List Found) (h : Held) (base : Index) → HoldTheSame h (begun_from from)
    → StandThere acts layer (map spot_of from) base → StandThere acts layer (spots_held h) base
begun_there acts layer from h (OfNodes g) begun there =
    let P : Found → Type 0 = λ e. StandsAt g acts layer (spot_of e) in
    let all : AllByRecursion P from = all_spots (StandsAt g acts layer) from there in
    let lives : found_held h ≡ in_order (filter is_live from) =
    ap (map (λ (p : Found × Bool). p.0)) begun.found_are ∙ firsts (in_order (filter is_live from)) in
    held_all (StandsAt g acts layer) h
    (subst (AllByRecursion P) (sym begun.unexpanded_are) (all_ranked P is_before from all))
    (subst (AllByRecursion P) (sym lives) (all_ranked P is_before (filter is_live from) (all_kept P is_live from all)))
begun_there acts layer from h (OfLists g) begun there = absurd there

pub begun_over : {stands : Index → Type 0} {acts : List Act} {layer : ℕ} (from : List Found) (h : Held) → HoldTheSame h (begun_from from) → (base : Index)
    → OverSpots stands acts layer (map spot_of from) base → OverSpots stands acts layer (spots_held h) base
begun_over {acts = acts} {layer = layer} from h begun base o = record { stood = o.stood; there = begun_there acts layer from h base begun o.there }

-- ---- the elements at the end

ended_there : (acts : List Act) (layer : ℕ) (n : ℕ) (h : Held) (base : Index) → StandThere acts layer (spots_held h) base
    → StandThere acts layer (map spot_of (elements_in (batch_of n h))) base
ended_there acts layer n h (OfNodes g) there =
    let P : Found → Type 0 = λ e. StandsAt g acts layer (spot_of e) in
    spots_all (StandsAt g acts layer) (elements_in (batch_of n h))
    (subst (AllByRecursion P) (take_map (λ (p : Found × Bool). p.0) n h.found) (all_front P n (found_held h) (found_of (StandsAt g acts layer) h there)))
ended_there acts layer n h (OfLists g) there = absurd there

module _ (n : ℕ) (h : Held) (found : List Found) (is : found ≡ elements_in (batch_of n h)) where
  pub ended_over : {stands : Index → Type 0} {acts : List Act} {layer : ℕ} (base : Index) → OverSpots stands acts layer (spots_held h) base
      → OverSpots stands acts layer (map spot_of found) base
  ended_over {acts = acts} {layer = layer} base o = record {
    stood = o.stood;
    there = subst (λ (es : List Found). StandThere acts layer (map spot_of es) base) (sym is) (ended_there acts layer n h base o.there);
  }

  front_is : found ≡ take n (found_held h)
  front_is = is ∙ sym (take_map (λ (p : Found × Bool). p.0) n h.found)

  pub ended_apart : (long : ℕ) → IsSteady long h → AreApart found
  ended_apart long steady = subst AreApart (sym front_is) (apart_front n (found_held h) steady.found.apart)

  pub ended_long : (long : ℕ) → IsSteady long h → AreLong long found
  ended_long long steady = subst (AreLong long) (sym front_is) (all_front (λ e. length e.bits ≡ long) n (found_held h) steady.found_long)

-- ---- the search

pub searches : {over later : Index → Type 0} {d : Desk} {old new : List Act} {before now : List ℕ} (ops : Ops) (query : List Bool) (from : List Found)
    (layer ef : ℕ) (g h : Held) (found : List Found) → HoldTheSame g (begun_from from) → ((base : Index) → over base → later base)
    → (on : GoesOnSo later d old new before now (start_at ops query [] layer) ef None g h) → is_over ef None h ≡ true → found ≡ elements_in (batch_of ef h)
    → SearchesLayer over d old new before now (start_at ops query from layer) ef found
searches ops query from layer ef g h found begun over on is_done is =
    let are : AreTurnsOf (start_at ops query from layer) ef None (begun_from from) on.turns =
    turns_same (start_at ops query from layer) ef None g (begun_from from) on.turns begun
    (from_free ops query [] from layer ef None on.turns g on.are_turns) in
    let left : HoldTheSame h (after_turns (start_at ops query from layer) on.turns (begun_from from)) =
    same_then h (after_turns (start_at ops query [] layer) on.turns g) (after_turns (start_at ops query from layer) on.turns (begun_from from)) on.left
    (subst (λ (k : Held). HoldTheSame k (after_turns (start_at ops query from layer) on.turns (begun_from from)))
    (sym (after_free ops query [] from layer on.turns g)) (after_turns_same (start_at ops query from layer) g (begun_from from) on.turns begun)) in
    record {
      reads = course_reads layer on.turns;
      made = does_so_over over on.made;
      search = subst (λ (es : List Found). LayerSearch (start_at ops query from layer) ef (course_reads layer on.turns) es) (sym is)
          (searched (start_at ops query from layer) ef on.turns h are left is_done);
    }

-- the same, where the numbers are those that a frontier keeps
module _ {over later : Index → Type 0} {d : Desk} {old new : List Act} {before now : List ℕ} (ops : Ops) (query : List Bool) (from : List Found)
    (layer ef : ℕ) (g h : Held) (found : List Found) (w v : ℕ) (m : Option ℕ) (w_is : w ≡ ef) (v_is : v ≡ w) (m_is : m ≡ None) where
  pub searches_so : HoldTheSame g (begun_from from) → ((base : Index) → over base → later base)
      → GoesOnSo later d old new before now (start_at ops query [] layer) w m g h → is_over v m h ≡ true → found ≡ elements_in (batch_of v h)
      → SearchesLayer over d old new before now (start_at ops query from layer) ef found
  searches_so begun on went is_done is =
      searches ops query from layer ef g h found begun on
      (subst (λ (k : ℕ). GoesOnSo later d old new before now (start_at ops query [] layer) k None g h) w_is
      (subst (λ (o : Option ℕ). GoesOnSo later d old new before now (start_at ops query [] layer) w o g h) m_is went))
      (ap₂ (λ (k : ℕ) (o : Option ℕ). is_over k o h) (sym (v_is ∙ w_is)) (sym m_is) ∙ is_done)
      (is ∙ ap (λ (k : ℕ). elements_in (batch_of k h)) (v_is ∙ w_is))
