-- A list keeps its blocks and its centre.
use Rattle.std.proofs.Common.{◌≡◌, inl, inr, ℕ, ◌+◌, ◌-◌, ◌≤◌, List, [], ◌∷◌, ◌++◌, map, take, drop, slice_get, Some, refl, sym, ap, subst, ◌∙◌, append_assoc, append-nil, arith}
use Rattle.std.specs.Option.{option_map}
use Rattle.std.proofs.Math.Seq.{take-add}
use Rattle.std.proofs.lemmas.Option.{slice_get-map}
use Rattle.std.proofs.lemmas.List.{map-append}
use Rattle.vec_history.specs.declared.event.Event.{Event}
use Rattle.vec_history.specs.declared.event.Event.TheVariants.{Put, Join, Link, Relist, Drop, Mark, Entry, Hint, IvfAdd, IvfGrow, IvfDrop, IvfHint, Gate, Ungate, Phase, VacuumEnd, Cancel, Settled, DiskFaulted}
use Rattle.vec_history.specs.declared.event.Act.{Act}
use Rattle.ivf_graph.specs.declared.list.IvfList.{IvfList}
use Rattle.ivf_graph.specs.declared.graph.IvfGraph.{IvfGraph}
use Rattle.ivf_graph.specs.Graph.{Row, Part}
use Rattle.ivf_graph.specs.Effect.{effect, after, state_after, with_rows, with_row, others, changed, grown, aimed}
use Rattle.ivf_graph.specs.Lasting.{numbers, HasGrown}
use Rattle.ivf_graph.proofs.OwnBlocks.{same_in_chain}
use Rattle.ivf_graph.proofs.Staying.{changed_at}

-- one list has grown to another
record Grows (was now : IvfList) : Type 0 where
  same_centre : now.centre ≡ was.centre
  more : List ℕ
  front : numbers now ≡ numbers was ++ more

grows_none : (l : IvfList) → Grows l l
grows_none l = record { same_centre = refl; more = []; front = sym (append-nil (numbers l)) }

module _ (g : IvfGraph) (list : ℕ) (l : IvfList) (is : slice_get g.lists list ≡ Some l) where
  as_it_was : HasGrown l g list
  as_it_was = record { now = l; is_there = is; same_centre = refl; more = []; front = sym (append-nil (numbers l)) }

  in_rows : (on : ℕ) (change : List Row → List Row) (h : IvfGraph) → h.lists ≡ map (with_rows on change) g.lists → HasGrown l h list
  in_rows on change h same = record {
    now = with_rows on change l;
    is_there = ap (λ ls. slice_get ls list) same ∙ slice_get-map (with_rows on change) g.lists list ∙ ap (option_map (with_rows on change)) is;
    same_centre = refl;
    more = [];
    front = same_in_chain on change l.chain ∙ sym (append-nil (numbers l));
  }

  in_changed : (n : ℕ) (change : IvfList → IvfList) → Grows l (change l) → (h : IvfGraph) → h.lists ≡ changed g.lists n change → HasGrown l h list
  in_changed n change new h same =
      let at = changed_at g.lists n change list l is in
      let grows : Grows l at.0 =
      elim at.2 as (λ _. Grows l at.0) [
        | inl old ↦ subst (Grows l) (sym old) (grows_none l)
        | inr now ↦ subst (Grows l) (sym now) new
      ] in
      record { now = at.0; is_there = ap (λ ls. slice_get ls list) same ∙ at.1; same_centre = grows.same_centre; more = grows.more; front = grows.front }

  by_event : (e : Event) → HasGrown l (effect e g) list
  by_event (IvfAdd on id bits) = in_rows on (with_row (id, bits)) (effect (IvfAdd on id bits) g) refl
  by_event (IvfGrow n last new id bits) =
      let p : Part = (new, (id, bits) ∷ []) in
      in_changed n (grown new (id, bits)) (record { same_centre = refl; more = new ∷ []; front = map-append (λ (q : Part). q.0) l.chain (p ∷ []) })
      (effect (IvfGrow n last new id bits) g) refl
  by_event (IvfDrop on gone) = in_rows on (others gone 1) (effect (IvfDrop on gone) g) refl
  by_event (IvfHint n to) = in_changed n (aimed to) (record { same_centre = refl; more = []; front = sym (append-nil (numbers l)) }) (effect (IvfHint n to) g) refl
  by_event (Put at list_at version level id bits lists) = as_it_was
  by_event (Join at version id) = as_it_was
  by_event (Link at list_at version slot to) = as_it_was
  by_event (Relist at list_at version lists) = as_it_was
  by_event (Drop at version gone) = as_it_was
  by_event (Mark at list_at version) = as_it_was
  by_event (Entry to level) = as_it_was
  by_event (Hint to) = as_it_was
  by_event (Gate gate hold) = as_it_was
  by_event (Ungate gate) = as_it_was
  by_event (Phase stage) = as_it_was
  by_event VacuumEnd = as_it_was
  by_event (Cancel stage) = as_it_was
  by_event (Settled upto) = as_it_was
  by_event (DiskFaulted count) = as_it_was

grown_after : (g : IvfGraph) (acts : List Act) (list : ℕ) (l : IvfList) → slice_get g.lists list ≡ Some l → HasGrown l (after g acts) list
grown_after g [] list l is = as_it_was g list l is
grown_after g (a ∷ acts) list l is =
    let one = by_event g list l is a.event in
    let rest = grown_after (effect a.event g) acts list one.now one.is_there in
    record {
      now = rest.now;
      is_there = rest.is_there;
      same_centre = rest.same_centre ∙ one.same_centre;
      more = one.more ++ rest.more;
      front = rest.front ∙ ap (λ ns. ns ++ rest.more) one.front ∙ append_assoc (numbers l) one.more rest.more;
    }

after_both : (g : IvfGraph) (front back : List Act) → after g (front ++ back) ≡ after (after g front) back
after_both g [] back = refl
after_both g (a ∷ front) back = after_both (effect a.event g) front back

pub state_later : (base : IvfGraph) (acts : List Act) (n m : ℕ) → n ≤ m → after (state_after base acts n) (take (m - n) (drop n acts)) ≡ state_after base acts m
state_later base acts n m later =
    let whole : n + (m - n) ≡ m = omega arith in
    sym (after_both base (take n acts) (take (m - n) (drop n acts))) ∙ ap (after base) (sym (take-add n (m - n) acts) ∙ ap (λ k. take k acts) whole)

pub grown_later : (base : IvfGraph) (acts : List Act) (n m list : ℕ) (l : IvfList) → n ≤ m → slice_get (state_after base acts n).lists list ≡ Some l
    → HasGrown l (state_after base acts m) list
grown_later base acts n m list l later is =
    subst (λ g. HasGrown l g list) (state_later base acts n m later) (grown_after (state_after base acts n) (take (m - n) (drop n acts)) list l is)
