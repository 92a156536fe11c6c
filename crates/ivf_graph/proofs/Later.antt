-- What is asked of a desk holds on while other desks act.
use Rattle.std.proofs.Common.{◌≡◌, ◌≢◌, ℕ, zero, suc, ◌+◌, ◌≤◌, List, [], ◌∷◌, ◌++◌, take, drop, length, slice_get, Some, refl, sym, ap, subst, ◌∙◌, append_assoc, append-nil, take-append-drop, arith}
use Rattle.std.proofs.lemmas.Option.{none-some}
use Rattle.std.proofs.lemmas.List.Elements.{All-weaker}
use Rattle.vec_history.specs.declared.event.Event.{Event}
use Rattle.vec_history.specs.declared.event.Event.TheVariants.{Put, Join, Link, Relist, Drop, Mark, Entry, Hint, IvfAdd, IvfGrow, IvfDrop, IvfHint, Gate, Ungate, Phase, VacuumEnd, Cancel, Settled, DiskFaulted}
use Rattle.vec_history.specs.declared.event.Act.{Act}
use Rattle.vec_history.specs.declared.gate.Gate.TheVariants as gates
use Rattle.vec_history.specs.declared.gate.Gate.{Gate as Gates}
use Rattle.vec_history.specs.declared.gate.Hold.{Hold}
use Rattle.vec_history.specs.declared.gate.Hold.TheVariants.{Alone}
use Rattle.vec_history.specs.Gates.{IsOfGate, HoldsAs, Holds, AreGatesAllowed}
use Rattle.vec_history.specs.Phases.{IsAPhaseStanding}
use Rattle.vec_history.specs.Legal.{IsLegalAfter}
use Rattle.vec_history.proofs.Alone.{one_alone}
use Rattle.vec_history.proofs.OneMore.{hold_on, hold_back}
use Rattle.vec_history.proofs.Prefixes.{cut_after, each_after, more_after, rest_after}
use Rattle.ivf_graph.specs.declared.graph.IvfGraph.{IvfGraph}
use Rattle.ivf_graph.specs.Graph.{AreBlocksOwn, IsAsLong, rows_on}
use Rattle.ivf_graph.specs.Effect.{effect, after, state_after}
use Rattle.ivf_graph.specs.Rules.{IsEventAllowed, IsCutAllowed, IsAimAllowed}
use Rattle.ivf_graph.specs.Legal.{IsAllowed, IsLegal}
use Rattle.ivf_graph.specs.Asking.{IsAsked}
use Rattle.ivf_graph.proofs.Judging.{after_more}
use Rattle.ivf_graph.proofs.OwnBlocks.{own_event}
use Rattle.ivf_graph.proofs.Staying.{IsCut, of_list_on, rows_still, as_long_on}

-- no phase of a vacuum ever stands
no_phase : (base : IvfGraph) (acts : List Act) → IsLegal base acts → IsAPhaseStanding acts → ⊥
no_phase base acts legal p = each_after (IsAllowed base) [] acts p.2.0 _ legal p.2.1.begun

module _ (base : IvfGraph) (acts : List Act) (legal : IsLegal base acts) (own : AreBlocksOwn (after base acts)) (a : Act) (may : IsAllowed base acts a)
    (desk : ℕ) (other : a.desk ≢ desk) where
  taken_by_rule : AreGatesAllowed acts
  taken_by_rule n d gate hold is = each_after (IsAllowed base) [] acts n _ legal is

  not_of_gate : (gate : Gates) → a.desk ≡ desk → IsOfGate gate a.event → ⊥
  not_of_gate gate same of_gate = other same

  holds_as_on : (gate : Gates) (hold : Hold) → HoldsAs acts desk gate hold → HoldsAs (acts ++ a ∷ []) desk gate hold
  holds_as_on gate hold h = (h.0, hold_on acts a desk gate hold h.0 (not_of_gate gate) h.1)

  holds_on : (gate : Gates) → Holds acts desk gate → Holds (acts ++ a ∷ []) desk gate
  holds_on gate h = (h.0, holds_as_on gate h.0 h.1)

  holds_back : (gate : Gates) → Holds (acts ++ a ∷ []) desk gate → Holds acts desk gate
  holds_back gate h = (h.0, (h.1.0, hold_back acts a desk gate h.0 h.1.0 (not_of_gate gate) h.1.1))

  now : after base (acts ++ a ∷ []) ≡ effect a.event (after base acts)
  now = after_more base acts a

  of_list_later : (list block : ℕ) → IsAimAllowed (after base acts) list block → IsAimAllowed (after base (acts ++ a ∷ [])) list block
  of_list_later list block k = subst (λ g. IsAimAllowed g list block) (sym now) (of_list_on (after base acts) list block k a.event)

  as_long_later : (bits : List _) → IsAsLong (after base acts) bits → IsAsLong (after base (acts ++ a ∷ [])) bits
  as_long_later bits k = subst (λ g. IsAsLong g bits) (sym now) (as_long_on (after base acts) bits a.event k)

  -- no other desk cuts while this one holds the gate of vacuums alone
  no_cut : HoldsAs acts desk gates.Vacuum Alone → (e : Event) → IsEventAllowed (after base acts) acts a.desk e → IsCut e → ⊥
  no_cut held (IvfDrop block gone) ok cut = one_alone acts taken_by_rule gates.Vacuum Alone desk a.desk other held ok.alone
  no_cut held (IvfAdd block id bits) ok cut = cut
  no_cut held (IvfGrow list last block id bits) ok cut = cut
  no_cut held (IvfHint list block) ok cut = cut
  no_cut held (Put at list_at version level id bits lists) ok cut = cut
  no_cut held (Join at version id) ok cut = cut
  no_cut held (Link at list_at version slot to) ok cut = cut
  no_cut held (Relist at list_at version lists) ok cut = cut
  no_cut held (Drop at version gone) ok cut = cut
  no_cut held (Mark at list_at version) ok cut = cut
  no_cut held (Entry to level) ok cut = cut
  no_cut held (Hint block) ok cut = cut
  no_cut held (Gate gate hold) ok cut = cut
  no_cut held (Ungate gate) ok cut = cut
  no_cut held (Phase stage) ok cut = cut
  no_cut held VacuumEnd ok cut = cut
  no_cut held (Cancel stage) ok cut = cut
  no_cut held (Settled upto) ok cut = cut
  no_cut held (DiskFaulted count) ok cut = cut

  cut_later : (block : ℕ) (gone : List ℕ) → IsCutAllowed (after base acts) acts desk block gone → IsCutAllowed (after base (acts ++ a ∷ [])) (acts ++ a ∷ []) desk block gone
  cut_later block gone k =
      let still = rows_still (after base acts) own block k.rows k.stands acts a.desk a.event may in
      let no_fewer : length k.rows ≤ length still.now = still.no_fewer (no_cut k.alone a.event may) in
      record {
        alone = holds_as_on gates.Vacuum Alone k.alone;
        rows = still.now;
        stands = ap (λ g. rows_on g block) now ∙ still.stands;
        some = k.some;
        rising = k.rising;
        are_there = All-weaker (λ n. (1 ≤ n) × (n ≤ length k.rows)) (λ n. (1 ≤ n) × (n ≤ length still.now)) (λ n h. (h.0, omega (arith, h.1, no_fewer))) gone k.are_there;
      }

  pub one_on : (e : Event) → IsAsked base acts desk e → IsAsked base (acts ++ a ∷ []) desk e
  one_on (IvfAdd block id bits) k =
      let still = rows_still (after base acts) own block k.rows k.stands acts a.desk a.event may in
      record { rows = still.now; stands = ap (λ g. rows_on g block) now ∙ still.stands; as_long = as_long_later bits k.as_long }
  one_on (IvfGrow list last block id bits) k = record { of_list = of_list_later list last k.of_list; as_long = as_long_later bits k.as_long }
  one_on (IvfDrop block gone) k = cut_later block gone k
  one_on (IvfHint list block) k = of_list_later list block k
  one_on (Gate gate hold) k = λ h. k (holds_back gate h)
  one_on (Ungate gate) k = record { held = holds_on gate k.held; no_phase = λ is s. no_phase base (acts ++ a ∷ []) (more_after (IsAllowed base) [] acts a legal may) s }
  one_on (Put at list_at version level id bits lists) k = absurd k
  one_on (Join at version id) k = absurd k
  one_on (Link at list_at version slot to) k = absurd k
  one_on (Relist at list_at version lists) k = absurd k
  one_on (Drop at version gone) k = absurd k
  one_on (Mark at list_at version) k = absurd k
  one_on (Entry to level) k = absurd k
  one_on (Hint block) k = absurd k
  one_on (Phase stage) k = absurd k
  one_on VacuumEnd k = absurd k
  one_on (Cancel stage) k = absurd k
  one_on (Settled upto) k = absurd k
  one_on (DiskFaulted count) k = absurd k

-- ---- a history

along : (base : IvfGraph) (before acts : List Act) → IsLegal base before → IsLegalAfter (IsAllowed base) before acts → AreBlocksOwn (after base before) → (desk : ℕ) (e : Event)
    → ((k : ℕ) (a : Act) → slice_get acts k ≡ Some a → a.desk ≢ desk) → IsAsked base before desk e → IsAsked base (before ++ acts) desk e
along base before [] was legal own desk e others asked = subst (λ h. IsAsked base h desk e) (sym (append-nil before)) asked
along base before (a ∷ acts) was legal own desk e others asked =
    let own_later = subst AreBlocksOwn (sym (after_more base before a)) (own_event (after base before) before a.desk a.event legal.0 own) in
    let asked_later = one_on base before was own a legal.0 desk (others 0 a refl) e asked in
    let legal_later : IsLegal base (before ++ a ∷ []) = more_after (IsAllowed base) [] before a was legal.0 in
    subst (λ h. IsAsked base h desk e) (append_assoc before (a ∷ []) acts)
    (along base (before ++ a ∷ []) acts legal_later legal.1 own_later desk e (λ k b is. others (suc k) b is) asked_later)

in_rest : {X : Type 0} (n : ℕ) (xs : List X) (k : ℕ) (x : X) → slice_get (drop n xs) k ≡ Some x → slice_get xs (n + k) ≡ Some x
in_rest zero xs k x is =
    let same : k ≡ 0 + k = omega arith in
    subst (λ (i : ℕ). slice_get xs i ≡ Some x) same is
in_rest (suc n) [] k x is = absurd (none-some x is)
in_rest (suc n) (y ∷ ys) k x is =
    let same : suc (n + k) ≡ suc n + k = omega arith in
    subst (λ (i : ℕ). slice_get (y ∷ ys) i ≡ Some x) same (in_rest n ys k x is)

pub later : (base : IvfGraph) (acts : List Act) → IsLegal base acts → (n desk : ℕ) (e : Event) → AreBlocksOwn (state_after base acts n)
    → ((k : ℕ) (a : Act) → n ≤ k → slice_get acts k ≡ Some a → a.desk ≢ desk) → IsAsked base (take n acts) desk e → IsAsked base acts desk e
later base acts legal n desk e own others asked =
    subst (λ h. IsAsked base h desk e) (take-append-drop n acts)
    (along base (take n acts) (drop n acts) (cut_after (IsAllowed base) [] acts n legal) (rest_after (IsAllowed base) [] acts n legal) own desk e
    (λ k a is. others (n + k) a (omega arith) (in_rest n acts k a is)) asked)
