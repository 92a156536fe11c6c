-- The first insert is legal.
use Rattle.std.proofs.Common.{◌≡◌, inr, ℕ, zero, suc, ◌+◌, ◌*◌, ◌<◌, ◌≤◌, Bool, true, false, cond, List, [], ◌∷◌, length, slice_get, Some, None, refl, sym, ap, subst, ◌∙◌, arith}
use Rattle.std.specs.Ordering.{is_eq}
use Rattle.std.specs.Cmp.{tied_itself}
use Rattle.std.specs.FinMap as fin
use Rattle.std.proofs.lemmas.Option.{same_Some, none-some}
use Rattle.vec_names.specs.declared.tid.Tid.{Tid}
use Rattle.vec_names.specs.declared.heap_id.HeapId.{HeapId}
use Rattle.vec_names.specs.Order.{tid_cmp, tid_cmp_total}
use Rattle.vec_history.specs.declared.event.Event.TheVariants as event
use Rattle.vec_history.specs.declared.event.Act.{Act}
use Rattle.vec_history.specs.declared.gate.Gate.{Gate}
use Rattle.vec_history.specs.declared.gate.Gate.TheVariants.{Update, Scan, Vacuum}
use Rattle.vec_history.specs.declared.gate.Hold.TheVariants.{Alone}
use Rattle.vec_graph.specs.declared.node.Node.{Node}
use Rattle.vec_graph.specs.declared.graph.Graph.{Graph}
use Rattle.vec_graph.specs.Graph.{IsMember}
use Rattle.vec_graph.specs.Places.{new_place, fits_one_page}
use Rattle.vec_graph.specs.Effect.{after}
use Rattle.vec_history.specs.Acts.{act_of}
use Rattle.vec_history.specs.Gates.{IsOfGate, HoldsSince}
use Rattle.vec_history.specs.Gates.{IsGateAllowed}
use Rattle.vec_graph.specs.Rules.{IsPutAllowed, IsEntryAtAllowed}
use Rattle.vec_history.specs.Phases.{IsUngateAllowed}
use Rattle.vec_graph.specs.Legal.{IsLegal}
use Rattle.vec_graph.specs.Examples.{first_insert}

Cons : {X : Type 0} → List X → Type 0
Cons [] = ⊥
Cons (x ∷ xs) = Unit {0}

not_empty : {X : Type 0} (x : X) (xs : List X) → x ∷ xs ≡ [] → ⊥
unfolding Cons
not_empty x xs e = subst Cons e tt

OnlyUpdate : Gate → Type 0
OnlyUpdate Update = Unit {0}
OnlyUpdate Scan = ⊥
OnlyUpdate Vacuum = ⊥

not_vacuum : Update ≡ Vacuum → ⊥
unfolding OnlyUpdate
not_vacuum e = subst OnlyUpdate e tt

-- ---- the gate

-- none of these acts takes the gate Update or gives it back
abbrev NoneOfUpdate : List Act → Type 0
NoneOfUpdate [] = Unit {0}
NoneOfUpdate (a ∷ acts) = (IsOfGate Update a.event → ⊥) × NoneOfUpdate acts

none_of : (acts : List Act) → NoneOfUpdate acts → (j : ℕ) (a : Act) → slice_get acts j ≡ Some a → IsOfGate Update a.event → ⊥
none_of [] none j a is of_gate = none-some a is
none_of (b ∷ acts) none zero a is of_gate = none.0 (subst (λ (x : Act). IsOfGate Update x.event) (sym (same_Some b a is)) of_gate)
none_of (b ∷ acts) none (suc j) a is of_gate = none_of acts none.1 j a is of_gate

kept_on : (desk : ℕ) (more : List Act) → NoneOfUpdate more → (j : ℕ) (a : Act) → 0 < j
    → slice_get (act_of desk (event.Gate Update Alone) ∷ more) j ≡ Some a → IsOfGate Update a.event → ⊥
kept_on desk more none zero a after is of_gate = absurd (omega (arith, after))
kept_on desk more none (suc j) a after is of_gate = none_of more none j a is of_gate

holds : (desk : ℕ) (more : List Act) → NoneOfUpdate more → HoldsSince (act_of desk (event.Gate Update Alone) ∷ more) desk Update Alone 0
holds desk more none = record { taken = refl; kept = λ j a after is of_gate. kept_on desk more none j a after is of_gate.1 }

-- ---- the node

fewer : (b : Bool) → cond b 1 2 ≤ 2
fewer true = omega arith
fewer false = omega arith

-- empty slots name nothing
none_named : (slot : ℕ) (to : Tid) → slice_get (None ∷ None ∷ None ∷ None ∷ []) slot ≡ Some (Some to) → ⊥
none_named zero to e = none-some to (same_Some _ _ e)
none_named (suc zero) to e = none-some to (same_Some _ _ e)
none_named (suc (suc zero)) to e = none-some to (same_Some _ _ e)
none_named (suc (suc (suc zero))) to e = none-some to (same_Some _ _ e)
none_named (suc (suc (suc (suc slot)))) to e = none-some (Some to) e

no_member : (m : ℕ) (layer : ℕ) (to : Tid) → IsMember m 0 (None ∷ None ∷ None ∷ None ∷ []) layer to → ⊥
no_member m layer to is = none_named is.slot to is.names

found_again : (nodes : fin.FinMap tid_cmp Node) (at : Tid) (n : Node) → fin.get (fin.insert nodes at n) at ≡ Some n
found_again nodes at n = fin.get-insert tid_cmp_total nodes at n at ∙ ap (λ r. cond (is_eq r) (Some n) (fin.get nodes at)) (tied_itself tid_cmp_total at)

module _ (base : Graph) (desk : ℕ) (at list_at : Tid) (id : HeapId) (bits : List Bool) where
  abbrev gate : Act
  gate = act_of desk (event.Gate Update Alone)

  abbrev put : Act
  put = act_of desk (event.Put at list_at 1 0 id bits (None ∷ None ∷ None ∷ None ∷ []))

  abbrev entry : Act
  entry = act_of desk (event.Entry (Some at) 0)

  abbrev first_node : Node
  first_node = record { level = 0; version = 1; deleted = false; bits = bits; ids = id ∷ []; list_at = list_at; slots = None ∷ None ∷ None ∷ None ∷ [] }

  gate_may : IsGateAllowed [] desk Update Alone
  gate_may = record {
    not_held = λ h. none-some _ h.1.1.taken;
    beside = λ other theirs ne h. absurd (none-some _ h.1.taken);
  }

  put_may : base.blocks ≡ 1 → base.params.m ≡ 2 → length bits ≡ base.params.bits
      → new_place base 0 ≡ Some (record { at = at; list_at = list_at; version = 1 })
      → IsPutAllowed base (gate ∷ []) desk
      (record { at = at; list_at = list_at; version = 1; level = 0; id = id; bits = bits; lists = None ∷ None ∷ None ∷ None ∷ [] })
  put_may blocks m long place = record {
    update = (Alone, (0, holds desk [] tt));
    placed = inr (place, let few = fewer (fits_one_page base 0) in omega (arith, few, blocks));
    as_long = long;
    not_high = omega arith;
    as_many = sym (ap (λ k. (0 + 2) * k) m);
    known = λ layer to is. absurd (no_member base.params.m layer to is);
  }

  entry_may : IsEntryAtAllowed base (gate ∷ put ∷ []) desk at 0
  entry_may = record {
    update = (Alone, (0, holds desk (put ∷ []) (λ x. x, tt)));
    node = first_node;
    stands = found_again base.nodes at first_node;
    of_level = refl;
    known = record {
      hold = Alone;
      since = 0;
      holds = holds desk (put ∷ []) (λ x. x, tt);
      position = 2;
      later = omega arith;
      met = omega arith;
      was_live = record {
        node = first_node;
        stands = found_again base.nodes at first_node;
        live = record { not_deleted = refl; has_ids = not_empty id [] };
        reaches = omega arith;
      };
    };
  }

  ungate_may : IsUngateAllowed (gate ∷ put ∷ entry ∷ []) desk Update
  ungate_may = record {
    held = (Alone, (0, holds desk (put ∷ entry ∷ []) (λ x. x, (λ x. x, tt))));
    no_phase = λ e _. not_vacuum e;
  }

  pub first_is_legal : base.blocks ≡ 1 → base.params.m ≡ 2 → length bits ≡ base.params.bits
      → new_place base 0 ≡ Some (record { at = at; list_at = list_at; version = 1 }) → IsLegal base (first_insert desk at list_at id bits)
  first_is_legal blocks m long place = (gate_may, (put_may blocks m long place, (entry_may, (ungate_may, tt))))
