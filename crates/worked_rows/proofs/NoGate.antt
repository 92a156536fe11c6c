-- A desk that holds none of the three gates.
use Rattle.std.proofs.Common.{◌≡◌, ◌↔◌, ℕ, Bool, true, false, not, List, [], ◌∷◌, Some, None, sym, refl, ◌∙◌}
use Rattle.std.specs.Prelude.{IsTrue}
use Rattle.vec_history.specs.declared.event.Act.{Act}
use Rattle.vec_history.specs.declared.gate.Gate.TheVariants as gate
use Rattle.vec_history.specs.Gates.{Holds}
use Rattle.vec_steps.specs.Calls.{HoldsNone}
use Rattle.hnsw_insert.specs.Whole.{KeepsOtherGates}

never : (b : Bool) {Q : Type 0} → b ≡ false → (IsTrue b ↔ Q) → Q → ⊥
never b is both q = let e : false ≡ true = sym is ∙ both.1 q in absurd cc

flipped : (b : Bool) → IsTrue (not b) → b ≡ false
flipped true is = let e : false ≡ true = is in absurd cc
flipped false is = refl

pub none_of_three : (acts : List Act) (desk : ℕ) (u s v : Bool) → u ≡ false → s ≡ false → (IsTrue u ↔ Holds acts desk gate.Update)
    → (IsTrue s ↔ Holds acts desk gate.Scan) → (IsTrue v ↔ Holds acts desk gate.Vacuum) → IsTrue (not v) → HoldsNone acts desk
none_of_three acts desk u s v of_u of_s both_u both_s both_v is gate.Update h = never u of_u both_u h
none_of_three acts desk u s v of_u of_s both_u both_s both_v is gate.Scan h = never s of_s both_s h
none_of_three acts desk u s v of_u of_s both_u both_s both_v is gate.Vacuum h = never v (flipped v is) both_v h

-- without an act nothing was taken
pub none_at_first : (acts : List Act) (desk : ℕ) → acts ≡ [] → HoldsNone acts desk
none_at_first (a ∷ acts) desk is g h = absurd cc
none_at_first [] desk is g (hold, (k, since)) = let e : None ≡ Some _ = since.taken in absurd cc

-- an insert takes no gate but Update, and gives that back
pub none_after : (desk : ℕ) (old new : List Act) → HoldsNone old desk → (Holds new desk gate.Update → ⊥) → KeepsOtherGates desk old new
    → HoldsNone new desk
none_after desk old new none free others gate.Update h = free h
none_after desk old new none free others gate.Scan h = none gate.Scan ((others gate.Scan (λ e. absurd cc)).1 h)
none_after desk old new none free others gate.Vacuum h = none gate.Vacuum ((others gate.Vacuum (λ e. absurd cc)).1 h)
