-- Redo of an event that follows is its effect, whatever its kind.
use Rattle.std.proofs.Common.{◌≡◌, ℕ, ◌^◌, ◌<◌, ◌≤◌, ◌||◌, ◌==◌, Bool, true, false, List, [], ◌∷◌, map, length, get_or, Option, Some, None, refl, sym, ap, ap₂, subst, ◌∙◌, arith, lit<, inl, inr}
use Rattle.std.specs.Prelude.{slice_get, slice_set, Contains, if◌then◌else◌}
use Rattle.std.specs.List.{All}
use Rattle.std.specs.Option.{option_map}
use Rattle.std.proofs.lemmas.Bool.{cases_lt, cases_eq, eq-eqb, ne_eqb}
use Rattle.std.proofs.lemmas.List.{length-map}
use Rattle.std.proofs.lemmas.Option.{slice_get_within, slice_get_past, slice_get-get_or, slice_get-map}
use Rattle.index_sizes.specs.declared.limits.TheConstants.{MOST_BLOCKS}
use Rattle.vec_names.specs.declared.params.Params.{Params}
use Rattle.vec_history.specs.declared.event.Event.{Event}
use Rattle.vec_history.specs.declared.event.Event.TheVariants.{Put, Join, Link, Relist, Drop, Mark, Entry, Hint, IvfAdd, IvfGrow, IvfDrop, IvfHint, Gate, Ungate, Phase, VacuumEnd, Cancel, Settled, DiskFaulted}
use Rattle.page_bytes.specs.declared.kind.PageKind.TheVariants.{Hnsw}
use Rattle.page_bytes.specs.Content.{Content, IsPage}
use Rattle.vec_tuples.specs.declared.centre.CentreTuple.{CentreTuple}
use Rattle.ivf_graph.specs.declared.list.IvfList.{IvfList}
use Rattle.ivf_graph.specs.declared.graph.IvfGraph.{IvfGraph}
use Rattle.ivf_graph.specs.Graph.{Row, Part, IsOfChain}
use Rattle.ivf_graph.specs.Effect.{with_row, others, changed_part, with_rows, changed_on, effect}
use Rattle.ivf_graph.specs.Rules.{IsAimAllowed}
use Rattle.page_redo.specs.PageChanges.{list_block}
use Rattle.page_redo.specs.Redo.{touched, redone}
use Rattle.page_redo.proofs.Others.{set_apart}
use Rattle.page_redo.proofs.Putting.{set_here}
use Rattle.page_redo.specs.Growing.{AreRedone}
use Rattle.page_redo.specs.Growing.{fresh_page, extended, AreAllRedone}
use Rattle.page_redo.proofs.Given.{map_is}
use Rattle.page_redo.proofs.RedoneOnce.{same_all}
use Rattle.page_redo.proofs.OneFits.{no_more, only}
use Rattle.ivf_pages.specs.Standing.{is_among, has_entries, centre_in, chain_from, rows_of, part_in, list_with, Stands}
use Rattle.ivf_pages.specs.Effects.{RedoIsEffect}
use Rattle.ivf_pages.specs.Following.{Follows}
use Rattle.ivf_pages.proofs.Chains.{among_chain, entries_there}
use Rattle.ivf_pages.proofs.Root.{in_range, list_block_low}
use Rattle.ivf_pages.proofs.RowEffects.{add_effect, drop_effect}
use Rattle.ivf_pages.proofs.AimEffect.{among_chain_of, aim_effect}
use Rattle.ivf_pages.proofs.GrowRedo.{grow_redone}

-- ---- an event that touches one block

module _ (p : Params) (pages after : List Content) (event : Event) (wrap number a : ℕ) (touches : touched event p ≡ a ∷ [])
    (f : AreRedone p wrap number event pages after) where
  abbrev page : Content
  page = get_or pages a (fresh_page Hnsw)

  abbrev made : Content
  made = get_or after a (fresh_page Hnsw)

  elsewhere_stays : (b : ℕ) → (a ≡ b → ⊥) → slice_get after b ≡ slice_get pages b
  elsewhere_stays b apart = f.elsewhere b (λ h. apart (only a b (subst (λ (blocks : List ℕ). Contains blocks b) touches h)))

  -- where there is no such block, all pages stay
  pub none_touched : length pages ≤ a → after ≡ pages
  none_touched past = same_all after pages (λ b. elim (cases_eq a b) as (λ _. slice_get after b ≡ slice_get pages b) [
    | inl same ↦ slice_get_past after b (omega (arith, f.count, past, same)) ∙ sym (slice_get_past pages b (omega (arith, past, same)))
    | inr apart ↦ elsewhere_stays b apart
  ])

  pub one_touched : (g : IvfGraph) → a < length pages → RedoIsEffect p pages g event → All IsPage pages → Stands p pages g
      → Stands p after (effect event g)
  one_touched g within is all stands = subst (λ (l : List Content). Stands p l (effect event g)) (sym after_is) (is wrap number a page made all stands there redone_here)
    where
      there : slice_get pages a ≡ Some page
      there = slice_get-get_or pages a (fresh_page Hnsw) within

      there_now : slice_get after a ≡ Some made
      there_now = slice_get-get_or after a (fresh_page Hnsw) (omega (arith, within, f.count))

      redone_here : redone event p wrap number a page ≡ Some made
      redone_here = sym (f.there a page (subst (λ (blocks : List ℕ). Contains blocks a) (sym touches) (0, lit< tt, refl)) there) ∙ there_now

      after_is : after ≡ slice_set pages a made
      after_is = same_all after (slice_set pages a made) (λ b. elim (cases_eq a b) as (λ _. slice_get after b ≡ slice_get (slice_set pages a made) b) [
        | inl same ↦ ap (slice_get after) (sym same) ∙ there_now ∙ sym (set_here pages a page made there) ∙ ap (slice_get (slice_set pages a made)) same
        | inr apart ↦ elsewhere_stays b apart ∙ sym (set_apart pages a b made apart)
      ])

-- ---- rows of a block that stands in no chain

module _ (p : Params) (pages : List Content) (g : IvfGraph) (s : Stands p pages g) (block : ℕ) (past : length pages ≤ block) (change : List Row → List Row) where
  part_stays : (b : ℕ) → has_entries (slice_get pages b) ≡ true → changed_part block change (part_in p pages b) ≡ part_in p pages b
  part_stays b has =
      let there = entries_there (slice_get pages b) has in
      let within = slice_get_within pages b there.0 there.1 in
      ap (λ (t : Bool). if t then (b, change (rows_of p (slice_get pages b))) else (b, rows_of p (slice_get pages b)))
      (ne_eqb b block (λ e. absurd (omega (arith, e, within, past))))

  parts_stay : (bs : List ℕ) → ((b : ℕ) → is_among b bs ≡ true → has_entries (slice_get pages b) ≡ true)
      → map (changed_part block change) (map (part_in p pages) bs) ≡ map (part_in p pages) bs
  parts_stay [] have = refl
  parts_stay (b ∷ bs) have =
      ap₂ (λ (q : Part) (qs : List Part). q ∷ qs)
      (part_stays b (have b (first b (is_among b bs))))
      (parts_stay bs (λ x within. have x (later (b == x) (is_among x bs) within)))
    where
      first : (x : ℕ) (rest : Bool) → ((x == x) || rest) ≡ true
      first x rest = ap (λ (t : Bool). t || rest) (eq-eqb x x refl)

      later : (t u : Bool) → u ≡ true → (t || u) ≡ true
      later true u is = refl
      later false u is = is

  list_stays : (o : Option CentreTuple) → option_map (with_rows block change) (option_map (list_with p pages) o) ≡ option_map (list_with p pages) o
  list_stays None = refl
  list_stays (Some l) =
      ap (λ (ps : List Part). Some (record { centre = l.bits; aim = l.aim; chain = ps }))
      (parts_stay (chain_from pages l.first) (λ b within. among_chain pages (Some l) b within))

  pub none_changed : Stands p pages (changed_on g block change)
  none_changed = record {
    params = s.params;
    whole = s.whole;
    count = length-map g.lists (with_rows block change) ∙ s.count;
    lists = λ list low.
        slice_get-map (with_rows block change) g.lists list
        ∙ ap (option_map (with_rows block change)) (s.lists list low) ∙ list_stays (centre_in p pages list);
    blocks = s.blocks;
  }

-- ---- all kinds

module _ (p : Params) (pages after : List Content) (g : IvfGraph) (wrap number : ℕ) (few : length pages ≤ MOST_BLOCKS) (all : All IsPage pages) (s : Stands p pages g) where
  -- one that makes no block
  as_redone : (event : Event) → extended event pages ≡ pages → AreAllRedone p wrap number event pages after → AreRedone p wrap number event pages after
  as_redone event same are = subst (λ (z : List Content). AreRedone p wrap number event z after) same are

  rows_redone : (event : Event) (block : ℕ) (change : List Row → List Row) → extended event pages ≡ pages → touched event p ≡ block ∷ []
      → effect event g ≡ changed_on g block change → RedoIsEffect p pages g event
      → AreAllRedone p wrap number event pages after → Stands p after (effect event g)
  rows_redone event block change same touches makes is are = elim (cases_lt block (length pages)) as (λ _. Stands p after (effect event g)) [
    | inl within ↦ one_touched p pages after event wrap number block touches (as_redone event same are) g within is all s
    | inr past ↦
        subst (λ (h : IvfGraph). Stands p after h) (sym makes)
        (subst (λ (z : List Content). Stands p z (changed_on g block change))
        (sym (none_touched p pages after event wrap number block touches (as_redone event same are) past))
        (none_changed p pages g s block past change))
  ]

  aim_redone : (list block : ℕ) → IsAimAllowed g list block → AreAllRedone p wrap number (IvfHint list block) pages after
      → Stands p after (effect (IvfHint list block) g)
  aim_redone list block may are =
      let low : list < p.lists = omega (arith, slice_get_within g.lists list may.aims may.is_there, s.count) in
      let t = map_is (list_with p pages) (centre_in p pages list) may.aims (sym (s.lists list low) ∙ may.is_there) in
      let among = among_chain_of (part_in p pages) (λ b. refl) (chain_from pages t.0.first) block (subst (λ (a : IvfList). IsOfChain a.chain block) (sym t.2) may.of_chain) in
      let there = entries_there (slice_get pages block) (among_chain pages (Some t.0) block among) in
      let small : block < 2 ^ 32 = omega (arith, slice_get_within pages block there.0 there.1, few) in
      let page = (s.whole (list_block p list)).lists (omega arith) (list_block_low p (in_range pages p all s.params) list low) in
      one_touched p pages after (IvfHint list block) wrap number (list_block p list) refl
      (as_redone (IvfHint list block) (no_more pages (fresh_page Hnsw)) are) g
      (slice_get_within pages (list_block p list) page.page page.there) (aim_effect p pages g list block may small) all s

  pub redo_effect : (event : Event) → Follows g event → AreAllRedone p wrap number event pages after → Stands p after (effect event g)
  redo_effect (Put at list_at version level id bits lists) follows are = absurd follows
  redo_effect (Join at version id) follows are = absurd follows
  redo_effect (Link at list_at version slot to) follows are = absurd follows
  redo_effect (Relist at list_at version lists) follows are = absurd follows
  redo_effect (Drop at version gone) follows are = absurd follows
  redo_effect (Mark at list_at version) follows are = absurd follows
  redo_effect (Entry to level) follows are = absurd follows
  redo_effect (Hint hint) follows are = absurd follows
  redo_effect (IvfAdd to id bits) follows are =
      rows_redone (IvfAdd to id bits) to (with_row (id, bits)) (no_more pages (fresh_page Hnsw)) refl refl (add_effect p pages g to id bits) are
  redo_effect (IvfGrow list last new id bits) follows are = grow_redone p pages after g list last new id bits wrap number all s follows are
  redo_effect (IvfDrop of gone) follows are =
      rows_redone (IvfDrop of gone) of (others gone 1) (no_more pages (fresh_page Hnsw)) refl refl (drop_effect p pages g of gone) are
  redo_effect (IvfHint list aim) follows are = aim_redone list aim follows are
  redo_effect (Gate gate hold) follows are = absurd follows
  redo_effect (Ungate gate) follows are = absurd follows
  redo_effect (Phase stage) follows are = absurd follows
  redo_effect VacuumEnd follows are = absurd follows
  redo_effect (Cancel stage) follows are = absurd follows
  redo_effect (Settled upto) follows are = absurd follows
  redo_effect (DiskFaulted count) follows are = absurd follows
