-- A row stays on its block until it is cut, and moves up where rows before it go.
use Rattle.std.proofs.Common.{◌≡◌, ◌==◌, ℕ, zero, suc, ◌+◌, ◌-◌, ◌≤◌, Bool, true, false, cond, List, [], ◌∷◌, ◌++◌, map, take, drop, slice_get, Option, Some, None, refl, sym, ap, subst, ◌∙◌, arith}
use Rattle.std.specs.Prelude.{if◌then◌else◌}
use Rattle.std.specs.List.{flat_map, find, list_any}
use Rattle.std.specs.Option.{option_map, option_and_then}
use Rattle.std.proofs.lemmas.Bool.Decides.{nat_tests}
use Rattle.std.proofs.lemmas.Option.{same_Some, none-some}
use Rattle.vec_history.specs.declared.event.Event.{Event}
use Rattle.vec_history.specs.declared.event.Event.TheVariants.{Put, Join, Link, Relist, Drop, Mark, Entry, Hint, IvfAdd, IvfGrow, IvfDrop, IvfHint, Gate, Ungate, Phase, VacuumEnd, Cancel, Settled, DiskFaulted}
use Rattle.vec_history.specs.declared.event.Act.{Act}
use Rattle.vec_history.specs.Legal.{IsLegalAfter}
use Rattle.vec_history.proofs.OneMore.{in_longer}
use Rattle.vec_history.proofs.Prefixes.{cut_after, rest_after}
use Rattle.ivf_graph.specs.declared.graph.IvfGraph.{IvfGraph}
use Rattle.ivf_graph.specs.Graph.{Row, Part, parts, rows_on, AreBlocksOwn}
use Rattle.ivf_graph.specs.Effect.{effect, after, state_after, changed_part, with_rows, with_row, others}
use Rattle.ivf_graph.specs.Rules.{IsEventAllowed}
use Rattle.ivf_graph.specs.Legal.{IsAllowed, IsLegal}
use Rattle.ivf_graph.specs.Lasting.{place_among, place_after, place_later, StandsAt}
use Rattle.ivf_graph.proofs.Judging.{after_more}
use Rattle.ivf_graph.proofs.SameRows.{same_chains}
use Rattle.ivf_graph.proofs.OwnBlocks.{equal_either_way, own_event, own_after}
use Rattle.ivf_graph.proofs.Staying.{on_block, parts_changed, find_changed, find_grown, not_new}
use Rattle.ivf_graph.proofs.Growing.{state_later}

-- ---- rows that are left

others_at : (gone : List ℕ) (offset : ℕ) (rows : List Row) (n k : ℕ) (row : Row) → slice_get rows n ≡ Some row → place_among gone offset n ≡ Some k
    → slice_get (others gone offset rows) k ≡ Some row
others_at gone offset [] n k row is at = absurd (none-some row is)
others_at gone offset (r ∷ rows) zero k row is at = by_test (list_any (λ g. g == offset) gone) at
  where
    by_test : (b : Bool) → (if b then None else Some 0) ≡ Some k → slice_get (if b then others gone (offset + 1) rows else r ∷ others gone (offset + 1) rows) k ≡ Some row
    by_test true none = absurd (none-some k none)
    by_test false first = subst (λ j. slice_get (r ∷ others gone (offset + 1) rows) j ≡ Some row) (same_Some 0 k first) is
others_at gone offset (r ∷ rows) (suc n) k row is at =
    by_test (list_any (λ g. g == offset) gone) (place_among gone (offset + 1) n) (λ j before. others_at gone (offset + 1) rows n j row is before) at
  where
    by_test : (b : Bool) (o : Option ℕ) → ((j : ℕ) → o ≡ Some j → slice_get (others gone (offset + 1) rows) j ≡ Some row)
        → (if b then o else option_map (λ j. j + 1) o) ≡ Some k → slice_get (if b then others gone (offset + 1) rows else r ∷ others gone (offset + 1) rows) k ≡ Some row
    by_test true o further here = further k here
    by_test false None further here = absurd (none-some k here)
    by_test false (Some j) further here =
        let behind : suc j ≡ k = omega (arith, same_Some (j + 1) k here) in
        subst (λ i. slice_get (r ∷ others gone (offset + 1) rows) i ≡ Some row) behind (further j refl)

-- ---- the part of a block

found_is : (block : ℕ) (ps : List Part) (p : Part) → find (on_block block) ps ≡ Some p → p.0 ≡ block
found_is block [] p is = absurd (none-some p is)
found_is block (q ∷ ps) p is = by_test (q.0 == block) refl (λ f. found_is block ps p f) is
  where
    by_test : (b : Bool) → (q.0 == block) ≡ b → (find (on_block block) ps ≡ Some p → p.0 ≡ block) → cond b (Some q) (find (on_block block) ps) ≡ Some p → p.0 ≡ block
    by_test true same further here =
        let number : q.0 ≡ block = grind (arith, nat_tests) in
        subst (λ (x : Part). x.0 ≡ block) (same_Some q p here) number
    by_test false same further here = further here

module _ (g : IvfGraph) (own : AreBlocksOwn g) (block place : ℕ) (row : Row) (s : StandsAt g block place row) where
  as_were : (h : IvfGraph) → rows_on h block ≡ rows_on g block → StandsAt h block place row
  as_were h same = record { rows = s.rows; stands = same ∙ s.stands; here = s.here }

  -- where the rows of a block change, and the row has a place among the changed ones if it was on that block
  in_changed : (on : ℕ) (change : List Row → List Row) (later : ℕ) → ((b : Bool) → (on == block) ≡ b → slice_get (if b then change s.rows else s.rows) later ≡ Some row)
      → (h : IvfGraph) → h.lists ≡ map (with_rows on change) g.lists → StandsAt h block later row
  in_changed on change later goes h is = by_find (find (on_block block) (parts g)) refl s.stands
    where
      by_find : (o : Option Part) → find (on_block block) (parts g) ≡ o → option_map (λ (p : Part). p.1) o ≡ Some s.rows → StandsAt h block later row
      by_find None at found = absurd (none-some s.rows found)
      by_find (Some p) at found = record {
        rows = (changed_part on change p).1;
        stands =
            ap (λ ls. option_map (λ (q : Part). q.1) (find (on_block block) (flat_map (λ l. l.chain) ls))) is
            ∙ ap (λ ps. option_map (λ (q : Part). q.1) (find (on_block block) ps)) (parts_changed on change g.lists)
            ∙ ap (option_map (λ (q : Part). q.1)) (find_changed block on change (parts g) ∙ ap (option_map (changed_part on change)) at);
        here =
            let number : p.0 ≡ block = found_is block (parts g) p at in
            let test : (p.0 == on) ≡ (on == block) = ap (λ n. n == on) number ∙ equal_either_way block on in
            by_test (p.0 == on) (on == block) test (goes (on == block) refl);
      }
        where
          by_test : (b c : Bool) → b ≡ c → slice_get (if c then change s.rows else s.rows) later ≡ Some row
              → slice_get (if b then (p.0, change p.1) else p).1 later ≡ Some row
          by_test true true same there = subst (λ rs. slice_get (change rs) later ≡ Some row) (sym (same_Some p.1 s.rows found)) there
          by_test false false same there = subst (λ rs. slice_get rs later ≡ Some row) (sym (same_Some p.1 s.rows found)) there
          by_test true false same there = absurd (cc)
          by_test false true same there = absurd (cc)

  at_place : (h : IvfGraph) (later : ℕ) → place ≡ later → StandsAt h block place row → StandsAt h block later row
  at_place h later same t = subst (λ n. StandsAt h block n row) same t

  with_more : (more : Row) (b : Bool) → slice_get (if b then with_row more s.rows else s.rows) place ≡ Some row
  with_more more true = in_longer s.rows (more ∷ []) place row s.here
  with_more more false = s.here

  with_fewer : (gone : List ℕ) (later : ℕ) (b : Bool) → (if b then place_among gone 1 place else Some place) ≡ Some later
      → slice_get (if b then others gone 1 s.rows else s.rows) later ≡ Some row
  with_fewer gone later true at = others_at gone 1 s.rows place later row s.here at
  with_fewer gone later false at = subst (λ n. slice_get s.rows n ≡ Some row) (same_Some place later at) s.here

  pub stands_on : (acts : List Act) (desk : ℕ) (e : Event) → IsEventAllowed g acts desk e → (later : ℕ) → place_after e block place ≡ Some later
      → StandsAt (effect e g) block later row
  stands_on acts desk (IvfAdd on id bits) may later at =
      at_place (effect (IvfAdd on id bits) g) later (same_Some place later at)
      (in_changed on (with_row (id, bits)) place (λ b is. with_more (id, bits) b) (effect (IvfAdd on id bits) g) refl)
  stands_on acts desk (IvfGrow list last new id bits) may later at =
      at_place (effect (IvfGrow list last new id bits) g) later (same_Some place later at)
      (as_were (effect (IvfGrow list last new id bits) g)
      (ap (option_map (λ (p : Part). p.1)) (find_grown block new (id, bits) list g.lists (not_new g own block s.rows s.stands new may.is_next))))
  stands_on acts desk (IvfDrop on gone) may later at =
      in_changed on (others gone 1) later (λ b is. with_fewer gone later b (subst (λ c. (if c then place_among gone 1 place else Some place) ≡ Some later) is at))
      (effect (IvfDrop on gone) g) refl
  stands_on acts desk (IvfHint list to) may later at =
      at_place (effect (IvfHint list to) g) later (same_Some place later at)
      (as_were (effect (IvfHint list to) g) (ap (λ ps. option_map (λ (p : Part). p.1) (find (on_block block) ps)) (same_chains g.lists list to)))
  stands_on acts desk (Put at_1 list_at version level id bits lists) may later at = absurd may
  stands_on acts desk (Join at_1 version id) may later at = absurd may
  stands_on acts desk (Link at_1 list_at version slot to) may later at = absurd may
  stands_on acts desk (Relist at_1 list_at version lists) may later at = absurd may
  stands_on acts desk (Drop at_1 version gone) may later at = absurd may
  stands_on acts desk (Mark at_1 list_at version) may later at = absurd may
  stands_on acts desk (Entry to level) may later at = absurd may
  stands_on acts desk (Hint to) may later at = absurd may
  stands_on acts desk (Gate gate hold) may later at = at_place g later (same_Some place later at) s
  stands_on acts desk (Ungate gate) may later at = at_place g later (same_Some place later at) s
  stands_on acts desk (Phase stage) may later at = absurd may
  stands_on acts desk VacuumEnd may later at = absurd may
  stands_on acts desk (Cancel stage) may later at = absurd may
  stands_on acts desk (Settled upto) may later at = at_place g later (same_Some place later at) s
  stands_on acts desk (DiskFaulted count) may later at = at_place g later (same_Some place later at) s

-- ---- histories

stands_along : (base : IvfGraph) (before acts : List Act) → IsLegalAfter (IsAllowed base) before acts → AreBlocksOwn (after base before) → (block place later : ℕ) (row : Row)
    → StandsAt (after base before) block place row → place_later acts block place ≡ Some later → StandsAt (after (after base before) acts) block later row
stands_along base before [] legal own block place later row s at = subst (λ n. StandsAt (after base before) block n row) (same_Some place later at) s
stands_along base before (a ∷ acts) legal own block place later row s at =
    by_place (place_after a.event block place) refl at
    (λ p own_later there further. subst (λ g. StandsAt (after g acts) block later row) (after_more base before a)
    (stands_along base (before ++ a ∷ []) acts legal.1 own_later block p later row there further))
  where
    by_place : (o : Option ℕ) → place_after a.event block place ≡ o → option_and_then (λ p. place_later acts block p) o ≡ Some later
        → ((p : ℕ) → AreBlocksOwn (after base (before ++ a ∷ [])) → StandsAt (after base (before ++ a ∷ [])) block p row → place_later acts block p ≡ Some later
        → StandsAt (after (effect a.event (after base before)) acts) block later row)
        → StandsAt (after (effect a.event (after base before)) acts) block later row
    by_place None here rest go = absurd (none-some later rest)
    by_place (Some p) here rest go =
        let now = sym (after_more base before a) in
        go p (subst AreBlocksOwn now (own_event (after base before) before a.desk a.event legal.0 own))
        (subst (λ g. StandsAt g block p row) now (stands_on (after base before) own block place row s before a.desk a.event legal.0 p here)) rest

pub stands_later : (base : IvfGraph) (acts : List Act) → IsLegal base acts → AreBlocksOwn base → (n m block place later : ℕ) (row : Row) → n ≤ m
    → StandsAt (state_after base acts n) block place row → place_later (take (m - n) (drop n acts)) block place ≡ Some later → StandsAt (state_after base acts m) block later row
stands_later base acts legal own n m block place later row order s at =
    let own_then = own_after base [] (take n acts) (cut_after (IsAllowed base) [] acts n legal) own in
    let legal_then = cut_after (IsAllowed base) (take n acts) (drop n acts) (m - n) (rest_after (IsAllowed base) [] acts n legal) in
    subst (λ g. StandsAt g block later row) (state_later base acts n m order)
    (stands_along base (take n acts) (take (m - n) (drop n acts)) legal_then own_then block place later row s at)
