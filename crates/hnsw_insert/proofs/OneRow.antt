-- The row of an insert.
use Rattle.std.proofs.Common.{◌≡◌, ℕ, filter, Bool, List, [], ◌∷◌, ◌++◌, refl, sym, ap, ap₂, ◌∙◌}
use Rattle.vec_names.specs.declared.heap_id.HeapId.{HeapId}
use Rattle.vec_names.specs.declared.params.Params.{Params}
use Rattle.vec_names.specs.Levels.{level_of}
use Rattle.vec_history.specs.declared.event.Event.{Event}
use Rattle.vec_history.specs.declared.event.Event.TheVariants as event
use Rattle.vec_history.specs.declared.event.Act.{Act}
use Rattle.graph_search.specs.Deeds as deeds
use Rattle.graph_search.specs.Deeds.{Deed, is_of_row, own_events, put_event}
use Rattle.graph_search.specs.Insert.{Joined, Outcome, Put, WholeInsert, newcomer, node_of}
use Rattle.graph_search.proofs.Inserting.{joins_one, puts_found}
use Rattle.vec_steps.specs.Index.{Index}
use Rattle.vec_steps.specs.Doing.{Step, step_events}
use Rattle.vec_steps.specs.Desks.{Desk}
use Rattle.vec_steps.specs.Calls.{AreDeeds, events_of, steps_of}
use Rattle.hnsw_insert.specs.declared.landing.Inserted.{Inserted}
use Rattle.hnsw_insert.specs.declared.landing.Landing.{Landing}
use Rattle.hnsw_insert.specs.Parts.{landed}
use Rattle.hnsw_insert.specs.Whole.{HasOneRow, Inserts, landing_of}

same_events : (p : Params) (course : List (ℕ × Step)) (ds : List Deed) → AreDeeds course ds → events_of p (steps_of course) ≡ deeds.events_of p.m ds
same_events p [] [] are = refl
same_events p [] (x ∷ ds) are = absurd are
same_events p (s ∷ course) [] are = absurd are
same_events p (s ∷ course) (x ∷ ds) are = ap₂ (λ (l r : List Event). l ++ r) (ap (step_events p) are.0) (same_events p course ds are.1)

module _ {over : Index → Type 0} {d : Desk} {old new : List Act} (id : HeapId) (bits : List Bool) (word : ℕ) (i : Inserted) (ins : Inserts over d old new id bits word i) where
  own_rows : filter is_of_row (own_events d.number ins.made.does.acts.more) ≡ deeds.rows_made d.params.m ins.deeds
  own_rows =
      ap (filter is_of_row) (ins.made.does.acts.own_are ∙ same_events d.params ins.made.course ins.deeds ins.made.is.are)

  by_outcome : (o : Outcome) → landing_of i ≡ landed (level_of word d.params.m) o → WholeInsert d.params id bits word o ins.deeds
      → HasOneRow d.number old new id bits (level_of word d.params.m) i
  by_outcome (Joined e) is whole = record {
    more = ins.made.does.acts.more;
    all = ins.made.does.acts.all;
    one = event.Join e.at e.version id;
    only = own_rows ∙ joins_one d.params id bits word ins.deeds e whole;
    is = (sym (ap (λ (l : Landing). l.at) is), sym (ap (λ (l : Landing). l.version) is), refl, ap (λ (l : Landing). l.joined) is);
  }
  by_outcome (Put place) is whole =
      let found = puts_found d.params id bits word ins.deeds place whole in
      record {
        more = ins.made.does.acts.more;
        all = ins.made.does.acts.all;
        one = put_event (node_of (newcomer d.params bits word) id found.lists) place;
        only = own_rows ∙ found.one_row;
        is = (
          sym (ap (λ (l : Landing). l.at) is),
          sym (ap (λ (l : Landing). l.version) is),
          refl,
          ap (λ (l : Landing). l.level) is,
          refl,
          refl,
          ap (λ (l : Landing). l.joined) is,
        );
      }

  pub one_row : HasOneRow d.number old new id bits (level_of word d.params.m) i
  one_row = by_outcome ins.outcome ins.landing_is ins.whole
