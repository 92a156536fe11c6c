-- Whatever events come, a place at which a node stands keeps one.
use Rattle.std.proofs.Common.{◌≡◌, ℕ, false, List, [], ◌∷◌, ◌++◌, take, drop, take-append-drop, Some, refl, sym, ap, ◌∙◌}
use Rattle.vec_names.specs.declared.tid.Tid.{Tid}
use Rattle.vec_history.specs.declared.event.Event.{Event}
use Rattle.vec_history.specs.declared.event.Event.TheVariants as event
use Rattle.vec_history.specs.declared.event.Act.{Act}
use Rattle.vec_graph.specs.declared.node.Node.{Node}
use Rattle.vec_graph.specs.declared.graph.Graph.{Graph}
use Rattle.vec_graph.specs.Graph.{node_at}
use Rattle.vec_graph.specs.Effect.{effect, after, state_after, joined, linked, relisted, dropped, marked}
use Rattle.vec_graph.proofs.Remaining.{Has, has_inserted, has_changed}

One : Node → Type 0
One n = Unit {0}

remains_one : (e : Event) (g : Graph) (q : Tid) → Has g.nodes One q → Has (effect 255 e g).nodes One q
unfolding One
remains_one (event.Put at list_at version level id bits lists) g q has =
    has_inserted One g.nodes at
    (record { level = level; version = version; deleted = false; bits = bits; ids = id ∷ []; list_at = list_at; slots = lists }) (λ m is p. tt) q has
remains_one (event.Join at version id) g q has = has_changed One g at (joined id) (λ m is p. tt) q has
remains_one (event.Link at list_at version slot to) g q has = has_changed One g at (linked slot to) (λ m is p. tt) q has
remains_one (event.Relist at list_at version lists) g q has = has_changed One g at (relisted lists) (λ m is p. tt) q has
remains_one (event.Drop at version gone) g q has = has_changed One g at (dropped gone) (λ m is p. tt) q has
remains_one (event.Mark at list_at version) g q has = has_changed One g at (marked 255) (λ m is p. tt) q has
remains_one (event.Entry to level) g q has = has
remains_one (event.Hint block) g q has = has
remains_one (event.IvfAdd block id bits) g q has = has
remains_one (event.IvfGrow list last block id bits) g q has = has
remains_one (event.IvfDrop block gone) g q has = has
remains_one (event.IvfHint list block) g q has = has
remains_one (event.Gate gate hold) g q has = has
remains_one (event.Ungate gate) g q has = has
remains_one (event.Phase stage) g q has = has
remains_one event.VacuumEnd g q has = has
remains_one (event.Cancel stage) g q has = has
remains_one (event.Settled upto) g q has = has
remains_one (event.DiskFaulted count) g q has = has

remains : (g : Graph) (acts : List Act) (q : Tid) → Has g.nodes One q → Has (after g acts).nodes One q
remains g [] q has = has
remains g (a ∷ acts) q has = remains (effect 255 a.event g) acts q (remains_one a.event g q has)

after_both : (g : Graph) (front back : List Act) → after g (front ++ back) ≡ after (after g front) back
after_both g [] back = refl
after_both g (a ∷ front) back = after_both (effect 255 a.event g) front back

pub stands_on : (base : Graph) (acts : List Act) (n : ℕ) (at : Tid) (was : Node) → node_at (state_after base acts n) at ≡ Some was
    → (now : Node) × (node_at (after base acts) at ≡ Some now)
unfolding One
stands_on base acts n at was stands =
    let there = remains (state_after base acts n) (drop n acts) at (record { node = was; stands = stands; is = tt }) in
    (there.node, ap (λ (g : Graph). node_at g at) (ap (after base) (sym (take-append-drop n acts)) ∙ after_both base (take n acts) (drop n acts)) ∙ there.stands)
