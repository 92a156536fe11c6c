-- What a desk may ask of a graph of nodes it may still ask after acts of others.
use Rattle.std.proofs.Common.{◌≡◌, ℕ, ◌<◌, ◌≤◌, List, [], ◌∷◌, length, slice_get, Some, sym, ap, subst, ◌∙◌, arith}
use Rattle.std.specs.Bool.{⊤}
use Rattle.vec_history.specs.declared.event.Event.{Event}
use Rattle.vec_history.specs.declared.event.Event.TheVariants.{Put, Join, Link, Relist, Drop, Mark, Entry, Hint, IvfAdd, IvfGrow, IvfDrop, IvfHint, Gate, Ungate, Phase, VacuumEnd, Cancel, Settled, DiskFaulted}
use Rattle.vec_history.specs.declared.event.Act.{Act}
use Rattle.vec_history.specs.declared.gate.Gate.TheVariants as gate
use Rattle.vec_history.specs.declared.stage.Stage.{Stage}
use Rattle.vec_history.specs.Phases.{IsInPhase, IsOfVacuum}
use Rattle.vec_history.proofs.ByActs.{cut}
use Rattle.vec_graph.specs.declared.graph.Graph.{Graph}
use Rattle.vec_graph.specs.Shaped.{IsShaped}
use Rattle.vec_graph.specs.Places.{IsOnBlocks}
use Rattle.vec_graph.specs.Effect.{effect, after, joined, linked, relisted, dropped, marked}
use Rattle.vec_graph.specs.Legal.{IsAllowed, IsLegal}
use Rattle.vec_graph.specs.Asking.{IsAsked}
use Rattle.vec_graph.proofs.Remaining.{blocks_changed}
use Rattle.vec_graph.proofs.Levels.{after_append}
use Rattle.vec_graph.proofs.Later.{later}
use Rattle.vec_graph.proofs.Shaping.{on_blocks_of, shaped_after}
use Rattle.vec_graph.proofs.Vacuuming.{phase_stays}
use Rattle.vec_steps.specs.declared.ask.Ask.{Ask}
use Rattle.vec_steps.specs.declared.ask.Ask.TheVariants as ask
use Rattle.vec_steps.specs.Desks.{MayAskNodes}
use Rattle.vec_steps.specs.Calls.{Acts}
use Rattle.vec_steps.proofs.Following.{acts_longer}
use Rattle.vec_steps.proofs.Lasting.{own_none, front_is, holds_last, knows_last, put_asked_lasts, stands_last}

-- ---- blocks never go away

one_rises : (e : Event) (g : Graph) → g.blocks ≤ (effect 255 e g).blocks
one_rises (Put at list_place version high id bits lists) g = omega arith
one_rises (Join at version id) g = omega (arith, blocks_changed g at (joined id))
one_rises (Link at list_place version slot to) g = omega (arith, blocks_changed g at (linked slot to))
one_rises (Relist at list_place version lists) g = omega (arith, blocks_changed g at (relisted lists))
one_rises (Drop at version gone) g = omega (arith, blocks_changed g at (dropped gone))
one_rises (Mark at list_place version) g = omega (arith, blocks_changed g at (marked 255))
one_rises (Entry to high) g = omega arith
one_rises (Hint block) g = omega arith
one_rises (IvfAdd block id bits) g = omega arith
one_rises (IvfGrow list last block id bits) g = omega arith
one_rises (IvfDrop block gone) g = omega arith
one_rises (IvfHint list block) g = omega arith
one_rises (Gate g1 hold) g = omega arith
one_rises (Ungate g1) g = omega arith
one_rises (Phase s) g = omega arith
one_rises VacuumEnd g = omega arith
one_rises (Cancel s) g = omega arith
one_rises (Settled upto) g = omega arith
one_rises (DiskFaulted count) g = omega arith

rises : (g : Graph) (acts : List Act) → g.blocks ≤ (after g acts).blocks
rises g [] = omega arith
rises g (a ∷ acts) = let one = one_rises a.event g in let rest = rises (effect 255 a.event g) acts in omega (arith, one, rest)

-- ---- each ask

module _ (base : Graph) (old new : List Act) (desk : ℕ) (x : Acts desk old new []) (shaped : IsShaped base) (legal : IsLegal base new) where
  on : IsOnBlocks (after base old)
  on =
      let was : IsLegal base old = subst (IsLegal base) (front_is x) (cut (IsAllowed base) new (length old) legal) in
      on_blocks_of (after base old) (shaped_after base shaped old was)

  others : (k : ℕ) (a : Act) → length old ≤ k → slice_get new k ≡ Some a → a.desk ≡ desk → ⊥
  others k a low is own = own_none (λ e. ⊤) desk x tt k a low is (own, tt)

  event_later : (e : Event) → IsAsked base old desk e → IsAsked base new desk e
  event_later e k =
      later base new legal (length old) desk e (subst (λ (l : List Act). IsOnBlocks (after base l)) (sym (front_is x)) on) others
      (subst (λ (l : List Act). IsAsked base l desk e) (sym (front_is x)) k)

  block_later : (block : ℕ) → block < (after base old).blocks → block < (after base new).blocks
  block_later block low =
      let same : after base new ≡ after (after base old) x.more = ap (after base) x.all ∙ after_append base old x.more in
      let more = rises (after base old) x.more in
      omega (arith, low, more, ap (λ (g : Graph). g.blocks) same)

  phase_later : (stage : Stage) → IsInPhase old desk stage → IsInPhase new desk stage
  phase_later stage p =
      phase_stays base desk stage new legal (length old) (acts_longer x) (own_none IsOfVacuum desk x tt)
      (subst (λ (l : List Act). IsInPhase l desk stage) (sym (front_is x)) p)

  pub ask_later : (a : Ask) → MayAskNodes base old desk a → MayAskNodes base new desk a
  ask_later ask.Spent k = tt
  ask_later (ask.Reserve events) k = tt
  ask_later ask.Meta k = tt
  ask_later (ask.Node at layer version) k = tt
  ask_later (ask.List at list_at level version layer) k = (stands_last x base at list_at level legal on k.0, k.1)
  ask_later (ask.Page block) k = block_later block k
  ask_later (ask.Put block node) k = record {
    from_1 = k.from_1;
    there = block_later block k.there;
    asked = put_asked_lasts x base node.level node.bits node.lists tt k.asked;
  }
  ask_later (ask.PutNew node) k = put_asked_lasts x base node.level node.bits node.lists tt k
  ask_later (ask.Join at version id) k = event_later (Join at version id) k
  ask_later (ask.Link at list_at level version layer slot held to) k = record {
    update = holds_last x gate.Update tt k.update;
    owner = stands_last x base at list_at level legal on k.owner;
    reaches = k.reaches;
    slot_is = k.slot_is;
    known = knows_last x base to layer tt k.known;
  }
  ask_later (ask.Relist at list_at version lists) k = event_later (Relist at list_at version lists) k
  ask_later (ask.Drop at version gone) k = event_later (Drop at version gone) k
  ask_later (ask.Mark at list_at version) k = event_later (Mark at list_at version) k
  ask_later (ask.Entry to level) k = event_later (Entry to level) k
  ask_later (ask.Hint block) k = event_later (Hint block) k
  ask_later (ask.Take gate hold) k = event_later (Gate gate hold) k
  ask_later (ask.Release gate) k = event_later (Ungate gate) k
  ask_later (ask.Phase stage) k = event_later (Phase stage) k
  ask_later ask.EndVacuum k = (k.0, phase_later k.0 k.1)
  ask_later (ask.Centres block) k = absurd k
  ask_later (ask.Rows block) k = absurd k
  ask_later (ask.Add block id bits) k = absurd k
  ask_later (ask.Extend list last id bits) k = absurd k
  ask_later (ask.Cut block gone) k = absurd k
  ask_later (ask.Aim list block) k = absurd k
