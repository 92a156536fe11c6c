-- A call of a search or an insert, in the words of what these do.
use Rattle.std.proofs.Common.{◌≡◌, ℕ, ◌-◌, List, [], ◌∷◌, ◌++◌, map, take, drop, length, refl, sym, ap, ap₂, subst, ◌∙◌, arith}
use Rattle.std.proofs.Math.Seq.{take-length}
use Rattle.std.proofs.lemmas.List.{length-append}
use Rattle.vec_names.specs.declared.params.Params.{Params}
use Rattle.vec_history.specs.declared.event.Event.{Event}
use Rattle.vec_history.specs.declared.event.Act.{Act}
use Rattle.vec_graph.specs.declared.graph.Graph.{Graph}
use Rattle.graph_search.specs.Deeds as deeds
use Rattle.graph_search.specs.Deeds.{Deed, looked, asked, AreDoneAt, IsDoneAt, DidBetween, IsMadeAt, own_events, deed_events}
use Rattle.vec_steps.specs.Index.{Index, OfNodes}
use Rattle.vec_steps.specs.Doing.{Step, did, step_events}
use Rattle.vec_steps.specs.Desks.{Desk}
use Rattle.vec_steps.specs.Calls.{AreDeeds, Does, Happened, HappenedAt, events_of, steps_of}

done_at : (g : Graph) (acts : List Act) (d : Desk) (n : ℕ) (deed : Deed) → g.params ≡ d.params → HappenedAt (OfNodes g) acts d n (did deed)
    → IsDoneAt g acts d.number n deed
done_at g acts d n (looked look told) same h = h.says
done_at g acts d n (asked change reply) same h =
    (h.says, subst (λ (p : Params). IsMadeAt acts d.number n (deed_events p.m (asked change reply))) (sym same) h.made)

all_done : (g : Graph) (acts : List Act) (d : Desk) (course : List (ℕ × Step)) (ds : List Deed) → g.params ≡ d.params → AreDeeds course ds
    → Happened (OfNodes g) acts d course → AreDoneAt g acts d.number (map (λ s. s.0) course) ds
all_done g acts d [] [] same are h = tt
all_done g acts d [] (x ∷ ds) same are h = absurd are
all_done g acts d (s ∷ course) [] same are h = absurd are
all_done g acts d (s ∷ course) (x ∷ ds) same are h = (
  (h.0.within, done_at g acts d s.0 x same (subst (HappenedAt (OfNodes g) acts d s.0) are.0 h.0)),
  all_done g acts d course ds same are.1 h.1,
)

same_events : (p : Params) (course : List (ℕ × Step)) (ds : List Deed) → AreDeeds course ds → events_of p (steps_of course) ≡ deeds.events_of p.m ds
same_events p [] [] are = refl
same_events p [] (x ∷ ds) are = absurd are
same_events p (s ∷ course) [] are = absurd are
same_events p (s ∷ course) (x ∷ ds) are = ap₂ (λ (l r : List Event). l ++ r) (ap (step_events p) are.0) (same_events p course ds are.1)

drop_front : (old more : List Act) → drop (length old) (old ++ more) ≡ more
drop_front [] more = refl
drop_front (a ∷ old) more = drop_front old more

behind : (old more : List Act) → take (length (old ++ more) - length old) (drop (length old) (old ++ more)) ≡ more
behind old more =
    let long : length (old ++ more) - length old ≡ length more = omega (arith, length-append old more) in
    ap (λ (l : List Act). take (length (old ++ more) - length old) l) (drop_front old more)
    ∙ ap (λ k. take k more) long
    ∙ take-length more

pub did_between : {over : Index → Type 0} {d : Desk} {old new : List Act} {course : List (ℕ × Step)} (g : Graph) (ds : List Deed)
    → g.params ≡ d.params → over (OfNodes g) → AreDeeds course ds → Does over d old new course
    → DidBetween g new d.number (length old) (length new) ds
did_between {over} {d} {old} {new} {course} g ds same on are x = record {
  positions = map (λ s. s.0) course;
  rising = x.rises;
  done = all_done g new d course ds same are (x.happened (OfNodes g) on);
  all_own = ap (own_events d.number)
      (ap (λ (l : List Act). take (length l - length old) (drop (length old) l)) x.acts.all ∙ behind old x.acts.more)
      ∙ x.acts.own_are
      ∙ same_events d.params course ds are
      ∙ ap (λ (p : Params). deeds.events_of p.m ds) (sym same);
}

pub deeds_both : (a b : List (ℕ × Step)) (ds es : List Deed) → AreDeeds a ds → AreDeeds b es → AreDeeds (a ++ b) (ds ++ es)
deeds_both [] b [] es x y = y
deeds_both [] b (d ∷ ds) es x y = absurd x
deeds_both (s ∷ a) b [] es x y = absurd x
deeds_both (s ∷ a) b (d ∷ ds) es x y = (x.0, deeds_both a b ds es x.1 y)
