-- Rows of the table that nodes name: they last, and are taken out.
use Rattle.std.proofs.Common.{◌≡◌, ◌⊎◌, inl, inr, ℕ, zero, suc, ◌+◌, ◌*◌, ◌/◌, ◌%◌, ◌<◌, ◌≤◌, Bool, true, false, List, [], ◌∷◌, ◌++◌, length, take, slice_get, Some, refl, sym, ap, subst, ◌∙◌, append-nil, arith}
use Rattle.std.proofs.lemmas.List.{take-append-le}
use Rattle.std.proofs.lemmas.Option.{none-some, same_Some, slice_get_within}
use Rattle.vec_names.specs.declared.tid.Tid.{Tid}
use Rattle.vec_names.specs.declared.heap_id.HeapId.{HeapId}
use Rattle.vec_history.specs.declared.event.Event.{Event}
use Rattle.vec_history.specs.declared.event.Event.TheVariants as event
use Rattle.vec_history.specs.declared.event.Act.{Act}
use Rattle.vec_history.specs.declared.stage.Stage.{Stage}
use Rattle.vec_history.specs.Phases.{IsInPhase, IsOfVacuum}
use Rattle.vec_history.proofs.OneMore.{in_longer}
use Rattle.vec_graph.specs.declared.node.Node.{Node}
use Rattle.vec_graph.specs.declared.graph.Graph.{Graph}
use Rattle.vec_graph.specs.Shaped as nodes
use Rattle.vec_graph.specs.Legal as history
use Rattle.vec_graph.specs.Effect.{after}
use Rattle.vec_graph.specs.Lasting.{IsIdsEndAt}
use Rattle.vec_steps.specs.Calls.{Acts, NoneOf}
use Rattle.hnsw_vacuum.specs.Masks.{AreJudged, mask_of, one_if}
use Rattle.hnsw_vacuum.specs.Dropping.{StandsSeen}
use Rattle.hnsw_vacuum.specs.Taking.{IsEntry, IsNamed, SeesTo, TakesEntry}
use Rattle.hnsw_vacuum.proofs.Lasts.{seen_lasts}

-- ---- lists

pub in_front : {X : Type 0} (xs ys : List X) (n : ℕ) (x : X) → n < length xs → slice_get (xs ++ ys) n ≡ Some x → slice_get xs n ≡ Some x
in_front [] ys n x low is = absurd (omega (arith, low))
in_front (z ∷ xs) ys zero x low is = is
in_front (z ∷ xs) ys (suc n) x low is = in_front xs ys n x (omega (arith, low)) is

-- ---- masks

one_at_most : (b : Bool) → one_if b ≤ 1
one_at_most true = omega arith
one_at_most false = omega arith

pub named_at : (J : HeapId → Bool → Type 0) (ids : List HeapId) (bs : List Bool) (n : ℕ) (id : HeapId) → AreJudged J ids bs → slice_get ids n ≡ Some id
    → (J id false → ⊥) → IsNamed n (mask_of bs)
named_at J [] bs n id j is dead = absurd (none-some id is)
named_at J (x ∷ ids) [] n id j is dead = absurd j
named_at J (x ∷ ids) (true ∷ bs) zero id j is dead = let e : (1 + 2 * mask_of bs) % 2 ≡ 1 = omega arith in e
named_at J (x ∷ ids) (false ∷ bs) zero id j is dead = absurd (dead (subst (λ (y : HeapId). J y false) (same_Some x id is) j.0))
named_at J (x ∷ ids) (b ∷ bs) (suc n) id j is dead =
    subst (IsNamed n) (let s = one_at_most b in let e : mask_of bs ≡ (one_if b + 2 * mask_of bs) / 2 = omega (arith, s) in e) (named_at J ids bs n id j.1 is dead)

pub none_named : (n : ℕ) → IsNamed n 0 → ⊥
none_named zero is = absurd (omega (arith, is))
none_named (suc n) is = none_named n (subst (IsNamed n) (let e : 0 / 2 ≡ 0 = omega arith in e) is)

-- ---- entries

pub entry_of : {g : Graph} {at : Tid} {n : ℕ} {id : HeapId} {version : ℕ} (node : Node) → slice_get node.ids n ≡ Some id → StandsSeen g at version node.ids
    → IsEntry g at n id
entry_of {n = n} {id = id} node is s = record {
  node = s.node;
  stands = s.there.stands;
  not_deleted = s.there.not_deleted;
  is = subst (λ (l : List HeapId). slice_get l n ≡ Some id) (sym s.front) (in_longer node.ids s.more n id is);
}

module _ (g : Graph) {desk : ℕ} {old new : List Act} {es : List Event} (shaped : nodes.IsShaped g) (legal : history.IsLegal g new) (x : Acts desk old new es)
    (stage : Stage) (none : NoneOf IsOfVacuum es) (p : IsInPhase old desk stage) where
  -- an entry lasts while the desk drops none of its node
  pub entry_lasts : (at : Tid) (n : ℕ) (id : HeapId) → NoneOf (IsIdsEndAt at) es → IsEntry (after g old) at n id → IsEntry (after g new) at n id
  entry_lasts at n id kept e =
      let was : StandsSeen (after g old) at e.node.version e.node.ids = record {
        node = e.node;
        there = record { stands = e.stands; of_version = refl; not_deleted = e.not_deleted };
        more = [];
        front = sym (append-nil e.node.ids);
      } in
      entry_of e.node e.is (seen_lasts g legal x stage none p at kept shaped e.node.version e.node.ids was)

-- ---- of longer calls

pub taken_longer : {g : Graph} {old mid new : List Act} {desk : ℕ} {at : Tid} {n : ℕ} {id : HeapId} (more : List Act) → new ≡ mid ++ more → TakesEntry g old mid desk at n id
    → TakesEntry g old new desk at n id
taken_longer {g} {old} {mid} {new} {desk} {at} {n} {id} more all t =
    let inside = slice_get_within mid t.position _ t.made in
    let same : take t.position new ≡ take t.position mid = ap (take t.position) all ∙ take-append-le t.position mid more (omega (arith, inside)) in
    record {
      position = t.position;
      since = t.since;
      version = t.version;
      gone = t.gone;
      made = ap (λ (l : List Act). slice_get l t.position) all ∙ in_longer mid more t.position (record { desk = desk; event = event.Drop at t.version t.gone }) t.made;
      entry = subst (λ (l : List Act). IsEntry (after g l) at n id) (sym same) t.entry;
      named = t.named;
    }

pub taken_earlier : {g : Graph} {old mid new : List Act} {desk : ℕ} {at : Tid} {n : ℕ} {id : HeapId} → length old ≤ length mid → TakesEntry g mid new desk at n id
    → TakesEntry g old new desk at n id
taken_earlier longer t = record {
  position = t.position;
  since = omega (arith, longer, t.since);
  version = t.version;
  gone = t.gone;
  made = t.made;
  entry = t.entry;
  named = t.named;
}

-- two calls after each other
module _ {J : HeapId → Bool → Type 0} {A B C : Tid → ℕ → Type 0} {TA TB TC : Tid → Type 0} {g : Graph} {old mid new : List Act} {desk : ℕ} where
  pub sees_then : (more : List Act) → length old ≤ length mid → new ≡ mid ++ more → ((at : Tid) (n : ℕ) → C at n → A at n ⊎ ((TA at → ⊥) × B at n))
      → ((at : Tid) → (TC at → ⊥) → (TA at → ⊥) × (TB at → ⊥)) → SeesTo J A TA g old mid desk → SeesTo J B TB g mid new desk → SeesTo J C TC g old new desk
  sees_then more longer all which apart x y = record {
    taken = λ at n id c e dead.
        elim (which at n c) as (λ _. TakesEntry g old new desk at n id) [
          | inl a ↦ taken_longer more all (x.taken at n id a e dead)
          | inr b ↦ taken_earlier longer (y.taken at n id b.1 (x.kept at n id b.0 e) dead)
        ];
    kept = λ at n id not e. y.kept at n id (apart at not).1 (x.kept at n id (apart at not).0 e);
  }
