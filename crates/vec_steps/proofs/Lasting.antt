-- What lasts over a call of a desk: what its own events do not end.
use Rattle.std.proofs.Common.{◌≡◌, ℕ, zero, suc, ◌-◌, ◌≤◌, ◌==◌, Bool, true, false, if◌then◌else◌, List, [], ◌∷◌, ◌++◌, map, filter, take, length, slice_get, Option, Some, refl, sym, ap, subst, ◌∙◌, arith}
use Rattle.std.proofs.lemmas.Bool.Decides.{nat_tests}
use Rattle.std.proofs.lemmas.Option.{same_Some, none-some, slice_get_within}
use Rattle.std.proofs.lemmas.List.{take_at}
use Rattle.vec_names.specs.declared.tid.Tid.{Tid}
use Rattle.vec_history.specs.declared.event.Event.{Event}
use Rattle.vec_history.specs.declared.event.Act.{Act}
use Rattle.vec_history.specs.declared.gate.Gate.{Gate}
use Rattle.vec_history.specs.declared.gate.Gate.TheVariants.{Update}
use Rattle.vec_history.specs.declared.gate.Hold.{Hold}
use Rattle.vec_history.specs.Acts.{NoneFrom}
use Rattle.vec_history.specs.Gates.{IsOfGate, HoldsSince, Holds}
use Rattle.vec_history.proofs.OneMore.{hold_kept}
use Rattle.vec_graph.specs.declared.graph.Graph.{Graph}
use Rattle.vec_graph.specs.Graph.{IsLiveAt}
use Rattle.vec_graph.specs.Places.{IsOnBlocks}
use Rattle.vec_graph.specs.Effect.{after, state_after}
use Rattle.vec_graph.specs.Legal.{IsLegal}
use Rattle.vec_graph.specs.Knowing.{Knows}
use Rattle.vec_graph.specs.Asking.{IsPutAsked, StandsSo}
use Rattle.vec_graph.proofs.Lasting.{stays_placed}
use Rattle.vec_graph.proofs.Own.{knows_kept}
use Rattle.graph_search.specs.Deeds.{own_events}
use Rattle.vec_steps.specs.Calls.{Acts, NoneOf}
use Rattle.vec_steps.proofs.Following.{acts_longer}

same_is : (a b : ℕ) → a ≡ b → (a == b) ≡ true
same_is a b e = grind (arith, nat_tests)

-- the events of the own acts, where the first act is one or is none
own_if : (b : Bool) (a : Act) (rest : List Act) → map (λ (x : Act). x.event) (if b then a ∷ rest else rest) ≡ (if b then a.event ∷ map (λ (x : Act). x.event) rest else map (λ (x : Act). x.event) rest)
own_if true a rest = refl
own_if false a rest = refl

module _ (P : Event → Type 0) (desk : ℕ) where
  first_none : (b : Bool) (a : Act) (rest : List Act) → NoneOf P (map (λ (x : Act). x.event) (if b then a ∷ rest else rest))
      → NoneOf P (map (λ (x : Act). x.event) rest)
  first_none true a rest n = n.1
  first_none false a rest n = n

  -- none of a desk's own acts is one of these
  own_act : (acts : List Act) → NoneOf P (own_events desk acts) → (k : ℕ) (a : Act) → slice_get acts k ≡ Some a → a.desk ≡ desk → P a.event → ⊥
  own_act [] none k a is own p = none-some a is
  own_act (b ∷ acts) none zero a is own p =
      let same : b ≡ a = same_Some b a is in
      let mine : (b.desk == desk) ≡ true = same_is b.desk desk (ap (λ (x : Act). x.desk) same ∙ own) in
      let rest : List Act = filter (λ (x : Act). x.desk == desk) acts in
      let here : NoneOf P (b.event ∷ map (λ (x : Act). x.event) rest) =
      subst (λ t. NoneOf P (map (λ (x : Act). x.event) (if t then b ∷ rest else rest))) mine none in
      here.0 (subst P (sym (ap (λ (x : Act). x.event) same)) p)
  own_act (b ∷ acts) none (suc k) a is own p =
      own_act acts (first_none (b.desk == desk) b (filter (λ (x : Act). x.desk == desk) acts) none) k a is own p

  behind_front : (old more : List Act) (j : ℕ) → length old ≤ j → slice_get (old ++ more) j ≡ slice_get more (j - length old)
  behind_front [] more j low = let s : j ≡ j - 0 = omega arith in ap (slice_get more) s
  behind_front (x ∷ old) more zero low = absurd (omega (arith, low))
  behind_front (x ∷ old) more (suc j) low =
      let s : j - length old ≡ suc j - suc (length old) = omega arith in
      behind_front old more j (omega (arith, low)) ∙ ap (slice_get more) s

  -- of what a desk did in a call, none is one of these; so what lasts until such an act of the desk lasts over the call
  pub own_none : {old new : List Act} {es : List Event} → Acts desk old new es → NoneOf P es
      → NoneFrom new (length old) (λ a. (a.desk ≡ desk) × P a.event)
  own_none {old} {new} {es} x none j a low is own =
      own_act x.more (subst (NoneOf P) (sym x.own_are) none) (j - length old) a
      (sym (behind_front old x.more j low) ∙ ap (λ (l : List Act). slice_get l j) (sym x.all) ∙ is) own.0 own.1

-- the history as it was at the call's begin is a front of what it is at the end
pub front_is : {desk : ℕ} {old new : List Act} {es : List Event} → Acts desk old new es → take (length old) new ≡ old
front_is {desk} {old} {new} {es} x = ap (take (length old)) x.all ∙ take_at old x.more (length old) refl

-- ---- holds, and what is known

module _ {desk : ℕ} {old new : List Act} {es : List Event} (x : Acts desk old new es) where
  since_lasts : (gate : Gate) (hold : Hold) (k : ℕ) → NoneOf (IsOfGate gate) es → HoldsSince old desk gate hold k
      → HoldsSince new desk gate hold k
  since_lasts gate hold k none h =
      hold_kept new (length old) desk gate hold k (own_none (IsOfGate gate) desk x none)
      (subst (λ l. HoldsSince l desk gate hold k) (sym (front_is x)) h)

  -- a hold lasts while the desk makes no event of the gate
  pub holds_last : (gate : Gate) → NoneOf (IsOfGate gate) es → Holds old desk gate → Holds new desk gate
  holds_last gate none h = (h.0, (h.1.0, since_lasts gate h.0 h.1.0 none h.1.1))

  -- and what is known, while it makes none of Update
  pub knows_last : (base : Graph) (at : Tid) (layer : ℕ) → NoneOf (IsOfGate Update) es → Knows base old desk at layer
      → Knows base new desk at layer
  knows_last base at layer none k =
      knows_kept base new (length old) desk at layer (acts_longer x) (own_none (IsOfGate Update) desk x none)
      (subst (λ l. Knows base l desk at layer) (sym (front_is x)) k)

  -- a node that was live at a position of the call, under a hold from before it, is known
  pub known_by_look : (base : Graph) (at : Tid) (layer n : ℕ) → NoneOf (IsOfGate Update) es → Holds old desk Update → length old ≤ n
      → n ≤ length new → IsLiveAt (state_after base new n) at layer → Knows base new desk at layer
  known_by_look base at layer n none h low high live =
      let inside = slice_get_within old h.1.0 _ h.1.1.taken in
      record {
        hold = h.0;
        since = h.1.0;
        holds = since_lasts Update h.0 h.1.0 none h.1.1;
        position = n;
        later = omega (arith, inside, low);
        met = high;
        was_live = live;
      }

  -- so what a new node is asked with lasts
  pub put_asked_lasts : (base : Graph) (level : ℕ) (bits : List Bool) (lists : List (Option Tid)) → NoneOf (IsOfGate Update) es
      → IsPutAsked base old desk level bits lists → IsPutAsked base new desk level bits lists
  put_asked_lasts base level bits lists none p = record {
    update = holds_last Update none p.update;
    as_long = p.as_long;
    not_high = p.not_high;
    as_many = p.as_many;
    known = λ layer to m. knows_last base to layer none (p.known layer to m);
  }

  -- where a node stands, with its list and its level, whatever anybody does
  pub stands_last : (base : Graph) (q list_at : Tid) (level : ℕ) → IsLegal base new → IsOnBlocks (after base old)
      → StandsSo (after base old) q list_at level → StandsSo (after base new) q list_at level
  stands_last base q list_at level legal on s =
      stays_placed base new legal (length old) (acts_longer x) (subst (λ l. IsOnBlocks (after base l)) (sym (front_is x)) on) q list_at level
      (subst (λ l. StandsSo (after base l) q list_at level) (sym (front_is x)) s)
