-- What stays of chains and of blocks at an event: blocks stay in their chains, and rows go by cuts alone.
use Rattle.std.proofs.Common.{◌≡◌, ◌⊎◌, inl, inr, ◌==◌, ℕ, zero, suc, ◌<◌, ◌≤◌, Bool, true, false, cond, List, [], ◌∷◌, ◌++◌, map, length, slice_get, Option, Some, None, refl, sym, ap, subst, ◌∙◌, arith}
use Rattle.std.specs.Prelude.{if◌then◌else◌}
use Rattle.std.specs.List.{flat_map, find, All, Any}
use Rattle.std.specs.Option.{option_map, option_or}
use Rattle.std.proofs.lemmas.Bool.Decides.{nat_tests}
use Rattle.std.proofs.lemmas.Option.{same_Some, none-some, slice_get-map}
use Rattle.std.proofs.lemmas.List.{map-append, length-append}
use Rattle.std.proofs.lemmas.List.Elements.{All-nil, All-cons, All-head, All-tail, All-map}
use Rattle.std.proofs.lemmas.List.Folds.{find-append}
use Rattle.vec_history.specs.declared.event.Event.{Event}
use Rattle.vec_history.specs.declared.event.Event.TheVariants.{Put, Join, Link, Relist, Drop, Mark, Entry, Hint, IvfAdd, IvfGrow, IvfDrop, IvfHint, Gate, Ungate, Phase, VacuumEnd, Cancel, Settled, DiskFaulted}
use Rattle.vec_history.specs.declared.event.Act.{Act}
use Rattle.ivf_graph.specs.declared.list.IvfList.{IvfList}
use Rattle.ivf_graph.specs.declared.graph.IvfGraph.{IvfGraph}
use Rattle.ivf_graph.specs.Graph.{Row, Part, parts, IsOfChain, rows_on, AreBlocksOwn, IsAsLong}
use Rattle.ivf_graph.specs.Effect.{effect, changed_part, with_rows, with_row, others, changed, grown, aimed}
use Rattle.ivf_graph.specs.Rules.{IsAimAllowed, IsEventAllowed}
use Rattle.ivf_graph.proofs.SameRows.{changed_below, same_chains}
use Rattle.ivf_graph.proofs.SameCentres.{centres_by_event}
use Rattle.ivf_graph.proofs.OwnBlocks.{same_number}

-- ---- some element

module _ {X : Type 0} (P : X → Type 0) where
  any_here : (x : X) (xs : List X) → P x → Any P (x ∷ xs)
  any_here x xs p = (0, x, (omega arith), refl, p)

  any_behind : (x : X) (xs : List X) → Any P xs → Any P (x ∷ xs)
  any_behind x xs a = (suc a.0, a.1, (omega (arith, a.2)), a.3, a.4)

  pub any_of : (x : X) (xs : List X) → Any P (x ∷ xs) → P x ⊎ Any P xs
  any_of x xs (zero, y, less, is, p) = inl (subst P (sym is) p)
  any_of x xs (suc k, y, less, is, p) = inr (k, y, (omega (arith, less)), is, p)

  pub not_any : Any P [] → ⊥
  not_any a = absurd (omega (arith, a.2))

-- ---- a block of a chain

IsAt : ℕ → Part → Type 0
IsAt block p = p.0 ≡ block

still_of : (block : ℕ) (on : ℕ) (change : List Row → List Row) (chain : List Part) → Any (IsAt block) chain → Any (IsAt block) (map (changed_part on change) chain)
unfolding IsAt
still_of block on change [] a = absurd (not_any (IsAt block) a)
still_of block on change (p ∷ chain) a =
    elim (any_of (IsAt block) p chain a) as (λ _. Any (IsAt block) (changed_part on change p ∷ map (changed_part on change) chain)) [
      | inl here ↦ any_here (IsAt block) (changed_part on change p) (map (changed_part on change) chain) (same_number on change p ∙ here)
      | inr behind ↦ any_behind (IsAt block) (changed_part on change p) (map (changed_part on change) chain) (still_of block on change chain behind)
    ]

longer_of : (block : ℕ) (chain more : List Part) → Any (IsAt block) chain → Any (IsAt block) (chain ++ more)
longer_of block [] more a = absurd (not_any (IsAt block) a)
longer_of block (p ∷ chain) more a =
    elim (any_of (IsAt block) p chain a) as (λ _. Any (IsAt block) (p ∷ (chain ++ more))) [
      | inl here ↦ any_here (IsAt block) p (chain ++ more) here
      | inr behind ↦ any_behind (IsAt block) p (chain ++ more) (longer_of block chain more behind)
    ]

-- a list that is there is there when one of them has changed, as it was or changed
pub changed_at : (lists : List IvfList) (n : ℕ) (change : IvfList → IvfList) (k : ℕ) (l : IvfList) → slice_get lists k ≡ Some l
    → (m : IvfList) × (slice_get (changed lists n change) k ≡ Some m) × ((m ≡ l) ⊎ (m ≡ change l))
changed_at [] n change k l is = absurd (none-some l is)
changed_at (x ∷ lists) zero change zero l is = (change x, refl, inr (ap change (same_Some x l is)))
changed_at (x ∷ lists) zero change (suc k) l is = (l, is, inl refl)
changed_at (x ∷ lists) (suc n) change zero l is =
    (x, ap (λ ls. slice_get ls 0) (changed_below x lists n change (slice_get lists n)), inl (same_Some x l is))
changed_at (x ∷ lists) (suc n) change (suc k) l is =
    let further = changed_at lists n change k l is in
    (further.0, ap (λ ls. slice_get ls (suc k)) (changed_below x lists n change (slice_get lists n)) ∙ further.1, further.2)

module _ (g : IvfGraph) (list block : ℕ) (of : IsAimAllowed g list block) where
  in_rows : (on : ℕ) (change : List Row → List Row) (h : IvfGraph) → h.lists ≡ map (with_rows on change) g.lists → IsAimAllowed h list block
  unfolding IsAt
  in_rows on change h is = record {
    aims = with_rows on change of.aims;
    is_there = ap (λ ls. slice_get ls list) is ∙ slice_get-map (with_rows on change) g.lists list ∙ ap (option_map (with_rows on change)) of.is_there;
    of_chain = still_of block on change of.aims.chain of.of_chain;
  }

  in_changed : (n : ℕ) (change : IvfList → IvfList) → IsOfChain (change of.aims).chain block → (h : IvfGraph) → h.lists ≡ changed g.lists n change
      → IsAimAllowed h list block
  in_changed n change still h is =
      let at = changed_at g.lists n change list of.aims of.is_there in
      record {
        aims = at.0;
        is_there = ap (λ ls. slice_get ls list) is ∙ at.1;
        of_chain =
            elim at.2 as (λ _. IsOfChain at.0.chain block) [
              | inl same ↦ subst (λ (l : IvfList). IsOfChain l.chain block) (sym same) of.of_chain
              | inr new ↦ subst (λ (l : IvfList). IsOfChain l.chain block) (sym new) still
            ];
      }

  -- a block stays in its list
  pub of_list_on : (e : Event) → IsAimAllowed (effect e g) list block
  unfolding IsAt
  of_list_on (IvfAdd on id bits) = in_rows on (with_row (id, bits)) (effect (IvfAdd on id bits) g) refl
  of_list_on (IvfGrow n last new id bits) =
      in_changed n (grown new (id, bits)) (longer_of block of.aims.chain ((new, (id, bits) ∷ []) ∷ []) of.of_chain) (effect (IvfGrow n last new id bits) g) refl
  of_list_on (IvfDrop on gone) = in_rows on (others gone 1) (effect (IvfDrop on gone) g) refl
  of_list_on (IvfHint n to) = in_changed n (aimed to) of.of_chain (effect (IvfHint n to) g) refl
  of_list_on (Put at list_at version level id bits lists) = of
  of_list_on (Join at version id) = of
  of_list_on (Link at list_at version slot to) = of
  of_list_on (Relist at list_at version lists) = of
  of_list_on (Drop at version gone) = of
  of_list_on (Mark at list_at version) = of
  of_list_on (Entry to level) = of
  of_list_on (Hint to) = of
  of_list_on (Gate gate hold) = of
  of_list_on (Ungate gate) = of
  of_list_on (Phase stage) = of
  of_list_on VacuumEnd = of
  of_list_on (Cancel stage) = of
  of_list_on (Settled upto) = of
  of_list_on (DiskFaulted count) = of

-- ---- the rows of a block

abbrev pub on_block : ℕ → Part → Bool
on_block block p = p.0 == block

pub parts_changed : (on : ℕ) (change : List Row → List Row) (lists : List IvfList)
    → flat_map (λ l. l.chain) (map (with_rows on change) lists) ≡ map (changed_part on change) (flat_map (λ l. l.chain) lists)
parts_changed on change [] = refl
parts_changed on change (l ∷ lists) =
    ap (λ ps. map (changed_part on change) l.chain ++ ps) (parts_changed on change lists)
    ∙ sym (map-append (changed_part on change) l.chain (flat_map (λ x. x.chain) lists))

pub find_changed : (block on : ℕ) (change : List Row → List Row) (ps : List Part)
    → find (on_block block) (map (changed_part on change) ps) ≡ option_map (changed_part on change) (find (on_block block) ps)
find_changed block on change [] = refl
find_changed block on change (p ∷ ps) =
    ap (λ n. cond (n == block) (Some (changed_part on change p)) (find (on_block block) (map (changed_part on change) ps))) (same_number on change p)
    ∙ by_test (p.0 == block) (find_changed block on change ps)
  where
    by_test : (b : Bool) → find (on_block block) (map (changed_part on change) ps) ≡ option_map (changed_part on change) (find (on_block block) ps)
        → cond b (Some (changed_part on change p)) (find (on_block block) (map (changed_part on change) ps))
        ≡ option_map (changed_part on change) (cond b (Some p) (find (on_block block) ps))
    by_test true further = refl
    by_test false further = further

or_none : {X : Type 0} (o q : Option X) → option_or (option_or o None) q ≡ option_or o q
or_none None q = refl
or_none (Some x) q = refl

pub find_grown : (block new : ℕ) (row : Row) (n : ℕ) (lists : List IvfList) → (new == block) ≡ false
    → find (on_block block) (flat_map (λ l. l.chain) (changed lists n (grown new row))) ≡ find (on_block block) (flat_map (λ l. l.chain) lists)
find_grown block new row n [] not_it = refl
find_grown block new row zero (l ∷ lists) not_it =
    let p : Part = (new, row ∷ []) in
    let rest = flat_map (λ x. x.chain) lists in
    find-append (on_block block) (l.chain ++ p ∷ []) rest
    ∙ ap (λ o. option_or o (find (on_block block) rest))
    (find-append (on_block block) l.chain (p ∷ []) ∙ ap (λ b. option_or (find (on_block block) l.chain) (cond b (Some p) None)) not_it)
    ∙ or_none (find (on_block block) l.chain) (find (on_block block) rest)
    ∙ sym (find-append (on_block block) l.chain rest)
find_grown block new row (suc n) (l ∷ lists) not_it =
    ap (λ ls. find (on_block block) (flat_map (λ x. x.chain) ls)) (changed_below l lists n (grown new row) (slice_get lists n))
    ∙ find-append (on_block block) l.chain (flat_map (λ x. x.chain) (changed lists n (grown new row)))
    ∙ ap (λ o. option_or (find (on_block block) l.chain) o) (find_grown block new row n lists not_it)
    ∙ sym (find-append (on_block block) l.chain (flat_map (λ x. x.chain) lists))

-- a part that is found is one of the index's
found_below : (high block : ℕ) (ps : List Part) (rows : List Row) → All (λ n. n < high) (map (λ p. p.0) ps)
    → option_map (λ (p : Part). p.1) (find (on_block block) ps) ≡ Some rows → block < high
found_below high block [] rows all is = absurd (none-some rows is)
found_below high block (p ∷ ps) rows all is =
    by_test (p.0 == block) refl is (λ f. found_below high block ps rows (All-tail (λ n. n < high) p.0 (map (λ q. q.0) ps) all) f)
  where
    by_test : (b : Bool) → (p.0 == block) ≡ b → option_map (λ (q : Part). q.1) (cond b (Some p) (find (on_block block) ps)) ≡ Some rows
        → (option_map (λ (q : Part). q.1) (find (on_block block) ps) ≡ Some rows → block < high) → block < high
    by_test true same found further =
        let first : p.0 < high = All-head (λ n. n < high) p.0 (map (λ q. q.0) ps) all in
        let number : p.0 ≡ block = grind (arith, nat_tests) in
        subst (λ n. n < high) number first
    by_test false same found further = further found

-- the event takes rows away
abbrev pub IsCut : Event → Type 0
IsCut (IvfDrop block gone) = Unit {0}
IsCut _ = ⊥

-- the block still has rows, and where none are cut not fewer
pub record HasStill (g : IvfGraph) (block : ℕ) (rows : List Row) (e : Event) : Type 0 where
  pub now : List Row
  pub stands : rows_on g block ≡ Some now
  pub no_fewer : (IsCut e → ⊥) → length rows ≤ length now

module _ (g : IvfGraph) (own : AreBlocksOwn g) (block : ℕ) (rows : List Row) (stands : rows_on g block ≡ Some rows) where
  as_were : (e : Event) (h : IvfGraph) → rows_on h block ≡ rows_on g block → HasStill h block rows e
  as_were e h same = record { now = rows; stands = same ∙ stands; no_fewer = λ none. omega arith }

  changed_rows : (e : Event) (on : ℕ) (change : List Row → List Row) → ((IsCut e → ⊥) → (rs : List Row) → length rs ≤ length (change rs)) → (h : IvfGraph)
      → h.lists ≡ map (with_rows on change) g.lists → HasStill h block rows e
  changed_rows e on change longer h is = by_find (find (on_block block) (parts g)) refl stands
    where
      by_find : (o : Option Part) → find (on_block block) (parts g) ≡ o → option_map (λ (p : Part). p.1) o ≡ Some rows → HasStill h block rows e
      by_find None at found = absurd (none-some rows found)
      by_find (Some p) at found = record {
        now = (changed_part on change p).1;
        stands =
            ap (λ ls. option_map (λ (q : Part). q.1) (find (on_block block) (flat_map (λ l. l.chain) ls))) is
            ∙ ap (λ ps. option_map (λ (q : Part). q.1) (find (on_block block) ps)) (parts_changed on change g.lists)
            ∙ ap (option_map (λ (q : Part). q.1)) (find_changed block on change (parts g) ∙ ap (option_map (changed_part on change)) at);
        no_fewer = λ none. subst (λ rs. length rs ≤ length (changed_part on change p).1) (same_Some p.1 rows found) (by_test (p.0 == on) (longer none p.1));
      }
        where
          by_test : (b : Bool) → length p.1 ≤ length (change p.1) → length p.1 ≤ length (if b then (p.0, change p.1) else p).1
          by_test true more = more
          by_test false more = omega arith

  row_more : (row : Row) (rs : List Row) → length rs ≤ length (with_row row rs)
  row_more row rs = omega (arith, length-append rs (row ∷ []))

  pub not_new : (new : ℕ) → new ≡ g.blocks → (new == block) ≡ false
  not_new new next =
      let below : block < g.blocks = found_below g.blocks block (parts g) rows own.within stands in
      grind (arith, nat_tests)

  pub rows_still : (acts : List Act) (desk : ℕ) (e : Event) → IsEventAllowed g acts desk e → HasStill (effect e g) block rows e
  rows_still acts desk (IvfAdd on id bits) may =
      changed_rows (IvfAdd on id bits) on (with_row (id, bits)) (λ none rs. row_more (id, bits) rs) (effect (IvfAdd on id bits) g) refl
  rows_still acts desk (IvfGrow list last new id bits) may =
      as_were (IvfGrow list last new id bits) (effect (IvfGrow list last new id bits) g)
      (ap (option_map (λ (p : Part). p.1)) (find_grown block new (id, bits) list g.lists (not_new new may.is_next)))
  rows_still acts desk (IvfDrop on gone) may =
      changed_rows (IvfDrop on gone) on (others gone 1) (λ none rs. absurd (none tt)) (effect (IvfDrop on gone) g) refl
  rows_still acts desk (IvfHint list to) may =
      as_were (IvfHint list to) (effect (IvfHint list to) g)
      (ap (λ ps. option_map (λ (p : Part). p.1) (find (on_block block) ps)) (same_chains g.lists list to))
  rows_still acts desk (Put at list_at version level id bits lists) may = absurd may
  rows_still acts desk (Join at version id) may = absurd may
  rows_still acts desk (Link at list_at version slot to) may = absurd may
  rows_still acts desk (Relist at list_at version lists) may = absurd may
  rows_still acts desk (Drop at version gone) may = absurd may
  rows_still acts desk (Mark at list_at version) may = absurd may
  rows_still acts desk (Entry to level) may = absurd may
  rows_still acts desk (Hint to) may = absurd may
  rows_still acts desk (Gate gate hold) may = as_were (Gate gate hold) g refl
  rows_still acts desk (Ungate gate) may = as_were (Ungate gate) g refl
  rows_still acts desk (Phase stage) may = absurd may
  rows_still acts desk VacuumEnd may = absurd may
  rows_still acts desk (Cancel stage) may = absurd may
  rows_still acts desk (Settled upto) may = as_were (Settled upto) g refl
  rows_still acts desk (DiskFaulted count) may = as_were (DiskFaulted count) g refl

-- ---- the length of values

of_mapped : {X Y : Type 0} (P : Y → Type 0) (f : X → Y) (xs : List X) → All P (map f xs) → All (λ x. P (f x)) xs
of_mapped P f [] all = All-nil (λ x. P (f x))
of_mapped P f (x ∷ xs) all = All-cons (λ y. P (f y)) x xs (All-head P (f x) (map f xs) all) (of_mapped P f xs (All-tail P (f x) (map f xs) all))

pub as_long_on : (g : IvfGraph) (bits : List Bool) (e : Event) → IsAsLong g bits → IsAsLong (effect e g) bits
as_long_on g bits e long =
    of_mapped (λ (c : List Bool). length c ≡ length bits) (λ (l : IvfList). l.centre) (effect e g).lists
    (subst (All (λ (c : List Bool). length c ≡ length bits)) (sym (centres_by_event e g))
    (All-map (λ (c : List Bool). length c ≡ length bits) (λ (l : IvfList). l.centre) g.lists long))
