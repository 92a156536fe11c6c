-- What other desks do at a board before a step of the desk of number 0.
use Rattle.std.specs.Prelude.{◌≡◌, ◌≢◌, ◌≤◌, ℕ, List, [], ◌++◌}
use Rattle.std.proofs.Common.{refl, sym, ap, ◌∙◌, append_assoc, append-nil}
use Rattle.vec_history.specs.declared.event.Act.{Act}
use Rattle.vec_history.specs.declared.gate.Gate.{Gate}
use Rattle.vec_history.specs.declared.gate.Hold.{Hold}
use Rattle.vec_history.specs.Gates.{HoldsSince}
use Rattle.page_bytes.specs.Content.{Content}
use Rattle.vec_graph.specs.declared.graph.Graph.{Graph}
use Rattle.vec_steps.specs.Index.{Index, OfNodes}
use Rattle.vec_steps.specs.declared.ask.Ask.{Ask}
use Rattle.vec_steps.specs.Granting.{AgreesAtTake}
use Rattle.vec_steps.specs.Calls.{Acts}
use Rattle.vec_board.specs.declared.board_core.Core.{Core}
use Rattle.vec_board.specs.Standing.{acts_of}
use Rattle.vec_board.specs.Looking.{desk_of}
use Rattle.vec_board.specs.Serving.{spare_of}
use Rattle.vec_board.specs.Boards.{StandsWhole}

-- Others acted, and the desk of number 0 did not; it has the room in reserve that it had. Where the board stood on this graph, it still
-- stands on it.
pub record Meddles (base : Graph) (faults : ℕ) (old new : Core) (before after : List Content) : Type 0 where
  pub acts : Acts 0 (acts_of old) (acts_of new) []
  pub desk : desk_of new 0 ≡ desk_of old 0
  pub spare : spare_of new 0 ≡ spare_of old 0
  pub epoch : new.log.epoch ≡ old.log.epoch
  pub stands : StandsWhole old before faults (OfNodes base) → StandsWhole new after faults (OfNodes base)

-- The desk stands on the one graph by which it judges what others ask, where its board does.
pub record StandsFor (base : Graph) (core : Core) (pages : List Content) (faults : ℕ) (index : Index) : Type 0 where
  pub is : index ≡ OfNodes base
  pub stands : StandsWhole core pages faults index

-- a later state: more acts came, of whichever desks, in the same epoch
pub record ComesLater (new old : Core) : Type 0 where
  pub more : List Act
  pub acts : acts_of new ≡ acts_of old ++ more
  pub epoch : new.log.epoch ≡ old.log.epoch

-- these bases, where no hold of another desk stands in the way of the desk of number 0
pub record IsAgreed (over : Index → Type 0) (acts : List Act) (ask : Ask) (base : Index) : Type 0 where
  pub is : over base
  pub agrees : AgreesAtTake acts 0 ask

-- each hold of now was one before
abbrev pub AreHoldsOf : List Act → List Act → Type 0
AreHoldsOf old new = (desk k : ℕ) (gate : Gate) (hold : Hold) → HoldsSince new desk gate hold k → HoldsSince old desk gate hold k

-- each hold of the gate, but for that of the desk of number 0, was taken by the act of this number or by a later one
abbrev pub AreTakenFrom : List Act → Gate → ℕ → Type 0
AreTakenFrom acts gate n = (desk k : ℕ) (hold : Hold) → desk ≢ 0 → HoldsSince acts desk gate hold k → n ≤ k

-- ---- laws

pub comes_still : (core : Core) → ComesLater core core
comes_still core = record { more = []; acts = sym (append-nil (acts_of core)); epoch = refl }

pub comes_on : (a b c : Core) → ComesLater c b → ComesLater b a → ComesLater c a
comes_on a b c later first = record {
  more = first.more ++ later.more;
  acts = later.acts ∙ ap (λ l. l ++ later.more) first.acts ∙ append_assoc (acts_of a) first.more later.more;
  epoch = later.epoch ∙ first.epoch;
}
