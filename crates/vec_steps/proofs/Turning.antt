-- A desk with one gate begins no phase.
use Rattle.std.proofs.Common.{◌≡◌, ℕ, zero, suc, ap}
use Rattle.std.proofs.lemmas.Option.{same_Some, none-some}
use Rattle.vec_history.specs.declared.event.Event.TheVariants as event
use Rattle.vec_history.specs.declared.event.Act.{Act}
use Rattle.vec_history.specs.declared.gate.Gate.{Gate}
use Rattle.vec_history.specs.declared.gate.Hold.{Hold}
use Rattle.vec_history.specs.declared.stage.Stage.{Stage}
use Rattle.vec_history.specs.Acts.{act_of, IsActAt}
use Rattle.vec_history.specs.Phases.{IsInPhase}
use Rattle.vec_steps.specs.declared.gate_desk.Turn.{Turn}
use Rattle.vec_steps.specs.declared.gate_desk.Turn.TheVariants as turn
use Rattle.vec_steps.specs.Turns.{acts_of}

-- ---- no phase is begun

not_phase : (n d : ℕ) (gate : Gate) (hold : Hold) (stage : Stage) → act_of n (event.Gate gate hold) ≡ act_of d (event.Phase stage) → ⊥
not_phase n d gate hold stage e = let f : event.Gate gate hold ≡ event.Phase stage = ap (λ (a : Act). a.event) e in absurd cc

not_phase_too : (n d : ℕ) (gate : Gate) (stage : Stage) → act_of n (event.Ungate gate) ≡ act_of d (event.Phase stage) → ⊥
not_phase_too n d gate stage e = let f : event.Ungate gate ≡ event.Phase stage = ap (λ (a : Act). a.event) e in absurd cc

not_begun : (n d : ℕ) (t : Turn) (stage : Stage) (k : ℕ) → IsActAt (acts_of n t) k d (event.Phase stage) → ⊥
not_begun n d turn.Before stage k is = none-some _ is
not_begun n d (turn.Holding gate hold) stage zero is = not_phase n d gate hold stage (same_Some _ _ is)
not_begun n d (turn.Holding gate hold) stage (suc k) is = none-some _ is
not_begun n d (turn.After gate hold) stage zero is = not_phase n d gate hold stage (same_Some _ _ is)
not_begun n d (turn.After gate hold) stage (suc zero) is = not_phase_too n d gate stage (same_Some _ _ is)
not_begun n d (turn.After gate hold) stage (suc (suc k)) is = none-some _ is

pub no_phase_in : (n d : ℕ) (t : Turn) (stage : Stage) → IsInPhase (acts_of n t) d stage → ⊥
no_phase_in n d t stage p = not_begun n d t stage p.0 p.1.begun
