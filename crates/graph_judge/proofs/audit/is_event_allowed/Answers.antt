use Rattle.std.proofs.Common.{◌≡◌, ◌↔◌, ℕ, Bool, List, Option, IsTrue, sym, subst}
use Rattle.vec_names.specs.declared.tid.Tid.{Tid}
use Rattle.vec_names.specs.declared.heap_id.HeapId.{HeapId}
use Rattle.vec_history.specs.declared.event.Event.{Event}
use Rattle.vec_graph.specs.declared.place.Place.{Place}
use Rattle.vec_graph.specs.Effect.{NewNode}
use Rattle.vec_graph.specs.Rules.{IsEventAllowed, IsPutAllowed}
use Rattle.graph_judge.proofs.audit.is_event_allowed.Goals as goal

-- what a Put brings, by a place
new_at : Place → ℕ → HeapId → List Bool → List (Option Tid) → NewNode
new_at place level id bits lists = record {
  at = place.at;
  list_at = place.list_at;
  version = place.version;
  level = level;
  id = id;
  bits = bits;
  lists = lists;
}

pub returns-in-Put : goal.returns-in-Put
unfolding new_at
returns-in-Put c =
    let same : c.place.result ≡ record { at = c.in-Put.at; list_at = c.in-Put.list_at; version = c.in-Put.version } =
    λ i. record { at = c.place.ensures.at i; list_at = c.place.ensures.list_at i; version = c.place.ensures.version i } in
    let may = subst (λ (place : Place). IsTrue c.may_put.result ↔ IsPutAllowed c.args.course.now.base.now c.args.course.now.acts.now c.args.desk (new_at place c.in-Put.level c.in-Put.id c.in-Put.bits c.in-Put.lists)) same (c.may_put.ensures c.in-Put.id) in
    subst (λ (e : Event). IsTrue c.may_put.result ↔ IsEventAllowed c.args.course.now.base.now c.args.course.now.acts.now c.args.desk e) (sym c.in-Put.is) may
