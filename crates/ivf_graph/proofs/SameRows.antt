-- What leaves the rows of the lists as they are.
use Rattle.std.proofs.Common.{◌≡◌, ◌⊎◌, inl, inr, ℕ, zero, suc, List, [], ◌∷◌, ◌++◌, slice_get, Option, Some, None, refl, ap, ◌∙◌}
use Rattle.std.specs.List.{flat_map}
use Rattle.vec_history.specs.declared.event.Event.{Event}
use Rattle.vec_history.specs.declared.event.Event.TheVariants.{Put, Join, Link, Relist, Drop, Mark, Entry, Hint, IvfAdd, IvfGrow, IvfDrop, IvfHint, Gate, Ungate, Phase, VacuumEnd, Cancel, Settled, DiskFaulted}
use Rattle.ivf_graph.specs.declared.list.IvfList.{IvfList}
use Rattle.ivf_graph.specs.declared.graph.IvfGraph.{IvfGraph}
use Rattle.ivf_graph.specs.Graph.{Part, rows}
use Rattle.ivf_graph.specs.Effect.{effect, changed, changed_from, aimed, AreRowsChanged}

pub changed_below : (l : IvfList) (lists : List IvfList) (n : ℕ) (change : IvfList → IvfList) (o : Option IvfList)
    → changed_from (l ∷ lists) (suc n) change o ≡ l ∷ changed_from lists n change o
changed_below l lists n change None = refl
changed_below l lists n change (Some x) = refl

chains : List IvfList → List Part
chains lists = flat_map (λ l. l.chain) lists

pub same_chains : (lists : List IvfList) (n block : ℕ) → flat_map (λ l. l.chain) (changed lists n (aimed block)) ≡ flat_map (λ l. l.chain) lists
same_chains [] n block = refl
same_chains (l ∷ lists) zero block = refl
same_chains (l ∷ lists) (suc n) block =
    ap (flat_map (λ x. x.chain)) (changed_below l lists n (aimed block) (slice_get lists n))
    ∙ ap (λ ps. l.chain ++ ps) (same_chains lists n block)

pub by_event : (e : Event) (g : IvfGraph) → AreRowsChanged e ⊎ (rows (effect e g) ≡ rows g)
by_event (Put at list_at version level id bits lists) g = inr refl
by_event (Join at version id) g = inr refl
by_event (Link at list_at version slot to) g = inr refl
by_event (Relist at list_at version lists) g = inr refl
by_event (Drop at version gone) g = inr refl
by_event (Mark at list_at version) g = inr refl
by_event (Entry to level) g = inr refl
by_event (Hint block) g = inr refl
by_event (IvfAdd block id bits) g = inl tt
by_event (IvfGrow list last block id bits) g = inl tt
by_event (IvfDrop block gone) g = inl tt
by_event (IvfHint list block) g = inr (ap (flat_map (λ p. p.1)) (same_chains g.lists list block))
by_event (Gate gate hold) g = inr refl
by_event (Ungate gate) g = inr refl
by_event (Phase stage) g = inr refl
by_event VacuumEnd g = inr refl
by_event (Cancel stage) g = inr refl
by_event (Settled upto) g = inr refl
by_event (DiskFaulted count) g = inr refl
