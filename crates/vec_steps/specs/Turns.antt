-- A still desk that takes one gate, once, and gives it back: how far it is, and the acts that it made.
use Rattle.std.specs.Prelude.{◌≡◌, ℕ, List, [], ◌∷◌}
use Rattle.std.proofs.Common.{refl, ◌∙◌}
use Rattle.vec_history.specs.declared.event.Event.TheVariants as event
use Rattle.vec_history.specs.declared.event.Act.{Act}
use Rattle.vec_history.specs.Acts.{act_of}
use Rattle.vec_steps.specs.declared.gate_desk.Turn.{Turn}
use Rattle.vec_steps.specs.declared.gate_desk.Turn.TheVariants as turn
use Rattle.vec_steps.specs.declared.gate_desk.GateDesk.{GateDesk}
use Rattle.vec_steps.specs.Index.{Index, IsShaped, IsLegal, IsOfParams}
use Rattle.vec_steps.specs.Desks.{Desk, IsCountedIn}
use Rattle.vec_steps.specs.Still.{still_desk, still_stands, still_shaped, still_index}

abbrev pub acts_of : ℕ → Turn → List Act
acts_of n turn.Before = []
acts_of n (turn.Holding gate hold) = act_of n (event.Gate gate hold) ∷ []
acts_of n (turn.After gate hold) = act_of n (event.Gate gate hold) ∷ act_of n (event.Ungate gate) ∷ []

abbrev pub turn_desk : GateDesk → Desk
turn_desk d = still_desk d.still

abbrev pub turn_seen : GateDesk → List Act
turn_seen d = acts_of d.still.number d.turn

-- it stands on its graph, over which what it did is legal
abbrev pub turn_stands : GateDesk → Index → Type 0
turn_stands d base = still_stands d.still base × IsLegal base (turn_seen d)

-- it stays one desk of one graph
abbrev pub turn_comes : GateDesk → GateDesk → Type 0
turn_comes new old = new.still ≡ old.still

-- ---- laws

pub turn_shaped : (d : GateDesk) (base : Index) → turn_stands d base → IsShaped base
turn_shaped d base s = still_shaped d.still base s.0

pub turn_index : (d : GateDesk) (base : Index) → turn_stands d base → IsOfParams d.still.graph.params base
turn_index d base s = still_index d.still base s.0

pub turn_legal : (d : GateDesk) (base : Index) → turn_stands d base → IsLegal base (turn_seen d)
turn_legal d base s = s.1

counted_so : (n : ℕ) (t : Turn) → IsCountedIn (record { used = 0; since = 0 }) (acts_of n t)
counted_so n turn.Before = (0, refl)
counted_so n (turn.Holding gate hold) = (1, refl)
counted_so n (turn.After gate hold) = (2, refl)

pub turn_counted : (d : GateDesk) (base : Index) → turn_stands d base → IsCountedIn (turn_desk d).room (turn_seen d)
turn_counted d base s = counted_so d.still.number d.turn

pub turn_itself : (d : GateDesk) → turn_comes d d
turn_itself d = refl

pub turn_on : (a b c : GateDesk) → turn_comes c b → turn_comes b a → turn_comes c a
turn_on a b c g h = g ∙ h
