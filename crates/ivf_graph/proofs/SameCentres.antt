-- No event changes a centre, nor how many there are.
use Rattle.std.proofs.Common.{◌≡◌, ℕ, zero, suc, List, [], ◌∷◌, map, slice_get, refl, ap, ◌∙◌}
use Rattle.vec_history.specs.declared.event.Event.{Event}
use Rattle.vec_history.specs.declared.event.Event.TheVariants.{Put, Join, Link, Relist, Drop, Mark, Entry, Hint, IvfAdd, IvfGrow, IvfDrop, IvfHint, Gate, Ungate, Phase, VacuumEnd, Cancel, Settled, DiskFaulted}
use Rattle.ivf_graph.specs.declared.list.IvfList.{IvfList}
use Rattle.ivf_graph.specs.declared.graph.IvfGraph.{IvfGraph}
use Rattle.ivf_graph.specs.Graph.{Row, centres}
use Rattle.ivf_graph.specs.Effect.{effect, with_rows, with_row, others, changed, grown, aimed}
use Rattle.ivf_graph.proofs.SameRows.{changed_below}

of_all : (block : ℕ) (change : List Row → List Row) (lists : List IvfList) → map (λ l. l.centre) (map (with_rows block change) lists) ≡ map (λ l. l.centre) lists
of_all block change [] = refl
of_all block change (l ∷ lists) = ap (λ cs. l.centre ∷ cs) (of_all block change lists)

of_one : (lists : List IvfList) (n : ℕ) (change : IvfList → IvfList) → ((l : IvfList) → (change l).centre ≡ l.centre)
    → map (λ l. l.centre) (changed lists n change) ≡ map (λ l. l.centre) lists
of_one [] n change same = refl
of_one (l ∷ lists) zero change same = ap (λ c. c ∷ map (λ x. x.centre) lists) (same l)
of_one (l ∷ lists) (suc n) change same =
    ap (map (λ x. x.centre)) (changed_below l lists n change (slice_get lists n)) ∙ ap (λ cs. l.centre ∷ cs) (of_one lists n change same)

pub centres_by_event : (e : Event) (g : IvfGraph) → centres (effect e g) ≡ centres g
centres_by_event (Put at list_at version level id bits lists) g = refl
centres_by_event (Join at version id) g = refl
centres_by_event (Link at list_at version slot to) g = refl
centres_by_event (Relist at list_at version lists) g = refl
centres_by_event (Drop at version gone) g = refl
centres_by_event (Mark at list_at version) g = refl
centres_by_event (Entry to level) g = refl
centres_by_event (Hint block) g = refl
centres_by_event (IvfAdd block id bits) g = of_all block (with_row (id, bits)) g.lists
centres_by_event (IvfGrow list last block id bits) g = of_one g.lists list (grown block (id, bits)) (λ l. refl)
centres_by_event (IvfDrop block gone) g = of_all block (others gone 1) g.lists
centres_by_event (IvfHint list block) g = of_one g.lists list (aimed block) (λ l. refl)
centres_by_event (Gate gate hold) g = refl
centres_by_event (Ungate gate) g = refl
centres_by_event (Phase stage) g = refl
centres_by_event VacuumEnd g = refl
centres_by_event (Cancel stage) g = refl
centres_by_event (Settled upto) g = refl
centres_by_event (DiskFaulted count) g = refl
