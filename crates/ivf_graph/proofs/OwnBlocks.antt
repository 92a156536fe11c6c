-- Each block stays where it stands, and new ones are the next.
use Rattle.std.proofs.Common.{◌≡◌, ◌==◌, ℕ, zero, suc, ◌+◌, ◌<◌, max, Bool, true, false, List, [], ◌∷◌, ◌++◌, map, slice_get, Some, refl, sym, ap, subst, ◌∙◌, append_assoc, eqb, arith}
use Rattle.std.specs.Prelude.{if◌then◌else◌}
use Rattle.std.specs.List.{flat_map, All, AllByRecursion, IsDistinct}
use Rattle.std.specs.List.Sorted.{IsPermutation}
use Rattle.std.proofs.lemmas.Bool.Decides.{nat_tests}
use Rattle.std.proofs.lemmas.Option.{none-some}
use Rattle.std.proofs.lemmas.List.{map-append}
use Rattle.std.proofs.lemmas.List.Elements.{All-nil, All-cons, All-head, All-tail, All-weaker}
use Rattle.std.proofs.lemmas.List.Sorted.{IsPermutation-sym, IsPermutation-trans, IsPermutation-map, IsPermutation-middle, IsPermutation-append_right, All-permutation}
use Rattle.std.proofs.lemmas.Map.Keys.{IsDistinct-cons, IsDistinct-IsPermutation}
use Rattle.vec_history.specs.declared.event.Event.{Event}
use Rattle.vec_history.specs.declared.event.Event.TheVariants.{Put, Join, Link, Relist, Drop, Mark, Entry, Hint, IvfAdd, IvfGrow, IvfDrop, IvfHint, Gate, Ungate, Phase, VacuumEnd, Cancel, Settled, DiskFaulted}
use Rattle.vec_history.specs.declared.event.Act.{Act}
use Rattle.ivf_graph.specs.declared.list.IvfList.{IvfList}
use Rattle.ivf_graph.specs.declared.graph.IvfGraph.{IvfGraph}
use Rattle.ivf_graph.specs.Graph.{Row, Part, parts, block_numbers, AreBlocksOwn}
use Rattle.ivf_graph.specs.Effect.{effect, after, changed_part, with_rows, changed, grown, with_row, others}
use Rattle.ivf_graph.specs.Rules.{IsEventAllowed}
use Rattle.vec_history.specs.Legal.{IsLegalAfter}
use Rattle.ivf_graph.specs.Legal.{IsAllowed}
use Rattle.ivf_graph.proofs.Judging.{after_more}
use Rattle.ivf_graph.proofs.SameRows.{changed_below, same_chains}

-- ---- rows change, and blocks stay

module _ (block : ℕ) (change : List Row → List Row) where
  pub same_number : (p : Part) → (changed_part block change p).0 ≡ p.0
  same_number p = by_test (p.0 == block)
    where
      by_test : (b : Bool) → (if b then (p.0, change p.1) else p).0 ≡ p.0
      by_test true = refl
      by_test false = refl

  pub same_in_chain : (chain : List Part) → map (λ p. p.0) (map (changed_part block change) chain) ≡ map (λ p. p.0) chain
  same_in_chain [] = refl
  same_in_chain (p ∷ chain) = ap (λ n. n ∷ map (λ q. q.0) (map (changed_part block change) chain)) (same_number p) ∙ ap (λ ns. p.0 ∷ ns) (same_in_chain chain)

  pub same_numbers : (lists : List IvfList) → map (λ p. p.0) (flat_map (λ l. l.chain) (map (with_rows block change) lists)) ≡ map (λ p. p.0) (flat_map (λ l. l.chain) lists)
  same_numbers [] = refl
  same_numbers (l ∷ lists) =
      map-append (λ p. p.0) (map (changed_part block change) l.chain) (flat_map (λ x. x.chain) (map (with_rows block change) lists))
      ∙ ap (λ ns. ns ++ map (λ p. p.0) (flat_map (λ x. x.chain) (map (with_rows block change) lists))) (same_in_chain l.chain)
      ∙ ap (λ ns. map (λ p. p.0) l.chain ++ ns) (same_numbers lists)
      ∙ sym (map-append (λ p. p.0) l.chain (flat_map (λ x. x.chain) lists))

same_own : (g h : IvfGraph) → block_numbers h ≡ block_numbers g → h.blocks ≡ g.blocks → AreBlocksOwn g → AreBlocksOwn h
same_own g h same as_many own = record {
  apart = subst (IsDistinct eqb) (sym same) own.apart;
  within = subst (λ n. All (λ b. b < n) (block_numbers h)) (sym as_many) (subst (All (λ b. b < g.blocks)) (sym same) own.within);
}

-- ---- a new block

pub grown_parts : (lists : List IvfList) (n : ℕ) (l : IvfList) (block : ℕ) (row : Row) → slice_get lists n ≡ Some l
    → IsPermutation ((block, row ∷ []) ∷ flat_map (λ x. x.chain) lists) (flat_map (λ x. x.chain) (changed lists n (grown block row)))
grown_parts [] n l block row is = absurd (none-some l is)
grown_parts (m ∷ lists) zero l block row is =
    let p : Part = (block, row ∷ []) in
    let rest = flat_map (λ x. x.chain) lists in
    subst (IsPermutation (p ∷ (m.chain ++ rest))) (sym (append_assoc m.chain (p ∷ []) rest))
    (IsPermutation-sym (m.chain ++ p ∷ rest) (p ∷ (m.chain ++ rest)) (IsPermutation-middle m.chain p rest))
grown_parts (m ∷ lists) (suc n) l block row is =
    let p : Part = (block, row ∷ []) in
    let rest = flat_map (λ x. x.chain) lists in
    let grows = flat_map (λ x. x.chain) (changed lists n (grown block row)) in
    subst (IsPermutation (p ∷ (m.chain ++ rest))) (sym (ap (flat_map (λ x. x.chain)) (changed_below m lists n (grown block row) (slice_get lists n))))
    (IsPermutation-trans (p ∷ (m.chain ++ rest)) (m.chain ++ p ∷ rest) (m.chain ++ grows)
    (IsPermutation-sym (m.chain ++ p ∷ rest) (p ∷ (m.chain ++ rest)) (IsPermutation-middle m.chain p rest))
    (IsPermutation-append_right m.chain (p ∷ rest) grows (grown_parts lists n l block row is)))

pub equal_either_way : (x y : ℕ) → eqb x y ≡ eqb y x
equal_either_way x y = grind (arith, nat_tests)

not_equal : (n k : ℕ) → k < n → eqb n k ≡ false
not_equal n k less = grind (arith, nat_tests)

above_all : (n : ℕ) (ks : List ℕ) → All (λ k. k < n) ks → AllByRecursion (λ k. eqb n k ≡ false) ks
above_all n [] all = tt
above_all n (k ∷ ks) all = (not_equal n k (All-head (λ j. j < n) k ks all), above_all n ks (All-tail (λ j. j < n) k ks all))

grown_own : (g : IvfGraph) (list : ℕ) (l : IvfList) (block : ℕ) (row : Row) → slice_get g.lists list ≡ Some l → block ≡ g.blocks → AreBlocksOwn g
    → AreBlocksOwn (record g { lists = changed g.lists list (grown block row); blocks = max g.blocks (block + 1) })
grown_own g list l block row is next own =
    let moved = IsPermutation-map (λ (p : Part). p.0) ((block, row ∷ []) ∷ parts g) (flat_map (λ x. x.chain) (changed g.lists list (grown block row))) (grown_parts g.lists list l block row is) in
    let below : All (λ k. k < block) (block_numbers g) = subst (λ n. All (λ k. k < n) (block_numbers g)) (sym next) own.within in
    let more : block + 1 ≡ max g.blocks (block + 1) = omega arith in
    record {
      apart = IsDistinct-IsPermutation eqb equal_either_way (block ∷ block_numbers g) (map (λ p. p.0) (flat_map (λ x. x.chain) (changed g.lists list (grown block row)))) moved
          (IsDistinct-cons eqb block (block_numbers g) (above_all block (block_numbers g) below) own.apart);
      within = subst (λ n. All (λ k. k < n) (map (λ p. p.0) (flat_map (λ x. x.chain) (changed g.lists list (grown block row))))) more
          (All-permutation (λ k. k < block + 1) (block ∷ block_numbers g) (map (λ p. p.0) (flat_map (λ x. x.chain) (changed g.lists list (grown block row)))) moved
          (All-cons (λ k. k < block + 1) block (block_numbers g) (omega arith) (All-weaker (λ k. k < block) (λ k. k < block + 1) (λ k h. omega arith) (block_numbers g) below)));
    }

-- ---- histories

pub own_event : (g : IvfGraph) (acts : List Act) (desk : ℕ) (e : Event) → IsEventAllowed g acts desk e → AreBlocksOwn g → AreBlocksOwn (effect e g)
own_event g acts desk (Put at list_at version level id bits lists) may own = own
own_event g acts desk (Join at version id) may own = own
own_event g acts desk (Link at list_at version slot to) may own = own
own_event g acts desk (Relist at list_at version lists) may own = own
own_event g acts desk (Drop at version gone) may own = own
own_event g acts desk (Mark at list_at version) may own = own
own_event g acts desk (Entry to level) may own = own
own_event g acts desk (Hint block) may own = own
own_event g acts desk (IvfAdd block id bits) may own =
    same_own g (effect (IvfAdd block id bits) g) (same_numbers block (with_row (id, bits)) g.lists) refl own
own_event g acts desk (IvfGrow list last block id bits) may own = grown_own g list may.grows block (id, bits) may.is_there may.is_next own
own_event g acts desk (IvfDrop block gone) may own = same_own g (effect (IvfDrop block gone) g) (same_numbers block (others gone 1) g.lists) refl own
own_event g acts desk (IvfHint list block) may own =
    same_own g (effect (IvfHint list block) g) (ap (map (λ (p : Part). p.0)) (same_chains g.lists list block)) refl own
own_event g acts desk (Gate gate hold) may own = own
own_event g acts desk (Ungate gate) may own = own
own_event g acts desk (Phase stage) may own = own
own_event g acts desk VacuumEnd may own = own
own_event g acts desk (Cancel stage) may own = own
own_event g acts desk (Settled upto) may own = own
own_event g acts desk (DiskFaulted count) may own = own

pub own_after : (base : IvfGraph) (before acts : List Act) → IsLegalAfter (IsAllowed base) before acts → AreBlocksOwn (after base before) → AreBlocksOwn (after (after base before) acts)
own_after base before [] legal own = own
own_after base before (a ∷ acts) legal own =
    subst (λ g. AreBlocksOwn (after g acts)) (after_more base before a)
    (own_after base (before ++ a ∷ []) acts legal.1
    (subst AreBlocksOwn (sym (after_more base before a)) (own_event (after base before) before a.desk a.event legal.0 own)))

-- ---- an index without lists

none_apart : IsDistinct eqb []
unfolding IsDistinct
none_apart = tt

pub none_own : (g : IvfGraph) → g.lists ≡ [] → AreBlocksOwn g
none_own g none =
    let no_numbers : [] ≡ block_numbers g = sym (ap (λ ls. map (λ p. p.0) (flat_map (λ l. l.chain) ls)) none) in
    record {
      apart = subst (IsDistinct eqb) no_numbers none_apart;
      within = subst (All (λ b. b < g.blocks)) no_numbers (All-nil (λ b. b < g.blocks));
    }
