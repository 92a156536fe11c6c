-- What a desk knows, by the graphs since it took Update.
use Rattle.std.proofs.Common.{◌≡◌, ◌↔◌, ℕ, ◌+◌, ◌<◌, List, ◌-◌, length, take, drop, slice_get, Option, Some, None, refl, subst, arith}
use Rattle.std.proofs.lemmas.Option.{slice_get_within}
use Rattle.vec_names.specs.declared.tid.Tid.{Tid}
use Rattle.vec_history.specs.declared.event.Act.{Act}
use Rattle.vec_history.specs.declared.gate.Gate.TheVariants.{Update}
use Rattle.vec_history.specs.declared.gate.Hold.{Hold}
use Rattle.vec_history.specs.Gates.{HoldsSince}
use Rattle.vec_history.proofs.OneAtATime.{one_hold}
use Rattle.vec_graph.specs.declared.graph.Graph.{Graph}
use Rattle.vec_graph.specs.Graph.{IsLiveAt, slot_layer}
use Rattle.vec_graph.specs.Effect.{after}
use Rattle.graph_judge.specs.Course.{AreStates}
use Rattle.vec_graph.specs.Knowing.{Knows}
use Rattle.graph_judge.specs.Knowable.{KnowsSlot, IsSomewhere}
use Rattle.vec_graph.specs.Rules.{KnowsMembers}
use Rattle.graph_judge.proofs.Positions.{some_state_in}

pub known_by_hold : (base : Graph) (acts : List Act) (states : List Graph) (desk : ℕ) (at : Tid) (layer : ℕ) (hold : Hold) (since : ℕ) → AreStates base acts states
    → HoldsSince acts desk Update hold since
    → IsSomewhere (λ g. IsLiveAt g at layer) (take (length states - (since + 1)) (drop (since + 1) states)) ↔ Knows base acts desk at layer
known_by_hold base acts states desk at layer hold since course holds =
    let within : since < length acts = slice_get_within acts since _ holds.taken in
    let as_many = course.as_many in
    let by_state = some_state_in base acts states (since + 1) (length acts) (length states - (since + 1)) (λ g. IsLiveAt g at layer) course (omega arith) (omega arith) in (
      λ any.
          let some = by_state.0 any in
          let low = some.from_low in
          record { hold = hold; since = since; holds = holds; position = some.position; later = omega arith; met = some.to_high; was_live = some.is },
      λ known.
          let same : since ≡ known.since = (one_hold acts desk Update hold known.hold since known.since holds known.holds).0 in
          let later = known.later in
          by_state.1 (record { position = known.position; from_low = omega arith; to_high = known.met; is = known.was_live }),
    )

pub slot_known : (base : Graph) (acts : List Act) (desk level : ℕ) (lists : List (Option Tid)) → KnowsMembers base acts desk (after base acts).params.m level lists
    → (k : ℕ) (named : Option Tid) → slice_get lists k ≡ Some named → KnowsSlot base acts desk level k named
slot_known base acts desk level lists all k None at = tt
slot_known base acts desk level lists all k (Some to) at =
    all (slot_layer (after base acts).params.m level k) to (record { slot = k; names = at; within = refl })

pub members_known : (base : Graph) (acts : List Act) (desk level : ℕ) (lists : List (Option Tid))
    → ((k : ℕ) (named : Option Tid) → slice_get lists k ≡ Some named → KnowsSlot base acts desk level k named) → KnowsMembers base acts desk (after base acts).params.m level lists
members_known base acts desk level lists each layer to member =
    subst (λ l. Knows base acts desk to l) member.within (each member.slot (Some to) member.names)
