-- The rows of one page of entries are changed.
use Rattle.std.proofs.Common.{◌≡◌, ℕ, ◌<◌, ◌≤◌, Bool, true, List, [], ◌∷◌, map, Option, Some, None, refl, sym, ap, ap₂, subst, ◌∙◌, arith, inl, inr}
use Rattle.std.specs.Prelude.{slice_get, slice_set, if◌then◌else◌}
use Rattle.std.specs.List.{All, list_all}
use Rattle.std.specs.Option.{option_map, option_and_then}
use Rattle.std.proofs.lemmas.Bool.{cases_eq, eq-eqb, ne_eqb}
use Rattle.std.proofs.lemmas.List.{length-set, length-map}
use Rattle.std.proofs.lemmas.Option.{slice_get-map}
use Rattle.vec_names.specs.declared.params.Params.{Params}
use Rattle.byte_fields.proofs.EachField.{some_is}
use Rattle.page_bytes.specs.Content.{Content, IsPage}
use Rattle.vec_tuples.specs.declared.centre.CentreTuple.{CentreTuple}
use Rattle.ivf_graph.specs.declared.graph.IvfGraph.{IvfGraph}
use Rattle.ivf_graph.specs.Graph.{Row, Part}
use Rattle.ivf_graph.specs.Effect.{changed_part, with_rows, changed_on}
use Rattle.page_redo.specs.PageTuples.{centre_at, is_entries_page}
use Rattle.page_redo.specs.PageChanges.{list_block, list_offset}
use Rattle.page_redo.proofs.Others.{set_apart}
use Rattle.page_redo.proofs.Putting.{set_here}
use Rattle.ivf_pages.specs.Standing.{params_on, lists_end, centre_in, chain_from, chain_of, chain_in, has_aim, is_entry, rows_of, part_in, list_with, IsListPage, IsEntryPage, Stands}
use Rattle.ivf_pages.proofs.Chains.{AreLinkedAlike, same_chain, same_chain_of, same_aim}
use Rattle.ivf_pages.proofs.Root.{in_range, entries_behind, list_block_low}
use Rattle.ivf_pages.proofs.PagesChanged.{alike_at, one_stays, end_stays}

module _ (p : Params) (pages : List Content) (g : IvfGraph) (block : ℕ) (c d : Content) (change : List Row → List Row) (all : All IsPage pages) (s : Stands p pages g)
    (there : slice_get pages block ≡ Some c) (kind : is_entries_page c.kind ≡ true) (same_kind : d.kind ≡ c.kind) (same_next : d.next ≡ c.next)
    (entries : list_all (is_entry p) d.items ≡ true) (rows : rows_of p (Some d) ≡ change (rows_of p (Some c))) where
  abbrev after : List Content
  after = slice_set pages block d

  here : slice_get after block ≡ Some d
  here = set_here pages block c d there

  behind : lists_end p < block
  behind = entries_behind p pages g s block c there kind

  apart : (b : ℕ) → (block ≡ b → ⊥) → slice_get after b ≡ slice_get pages b
  apart b other = set_apart pages block b d other

  low_stays : (b : ℕ) → b ≤ lists_end p → slice_get after b ≡ slice_get pages b
  low_stays b low = apart b (λ e. absurd (omega (arith, e, low, behind)))

  alike : AreLinkedAlike pages after
  alike = alike_at pages block c d there (ap is_entries_page same_kind) same_next

  centres : (list : ℕ) → list < p.lists → centre_in p after list ≡ centre_in p pages list
  centres list low =
      ap (λ o. option_and_then (λ c. centre_at p c (list_offset p list)) o)
      (low_stays (list_block p list) (list_block_low p (in_range pages p all s.params) list low))

  chains : (list : ℕ) → list < p.lists → chain_in p after list ≡ chain_in p pages list
  chains list low = ap (chain_of after) (centres list low) ∙ same_chain_of pages after alike (centre_in p pages list)

  aims : (list : ℕ) → list < p.lists → has_aim after (centre_in p after list) ≡ has_aim pages (centre_in p pages list)
  aims list low = ap (has_aim after) (centres list low) ∙ same_aim pages after alike (centre_in p pages list)

  -- ---- the rows of all blocks

  rows_now : rows_of p (slice_get after block) ≡ change (rows_of p (slice_get pages block))
  rows_now = ap (rows_of p) here ∙ rows ∙ ap change (sym (ap (rows_of p) there))

  part_now : (b : ℕ) → part_in p after b ≡ changed_part block change (part_in p pages b)
  part_now b = elim (cases_eq block b) as (λ _. part_in p after b ≡ changed_part block change (part_in p pages b)) [
    | inl e ↦
        ap (λ (rs : List Row). (b, rs)) (subst (λ (n : ℕ). rows_of p (slice_get after n) ≡ change (rows_of p (slice_get pages n))) e rows_now)
        ∙ sym (ap (λ (t : Bool). if t then (b, change (rows_of p (slice_get pages b))) else (b, rows_of p (slice_get pages b))) (eq-eqb b block (sym e)))
    | inr other ↦
        ap (λ o. (b, rows_of p o)) (apart b other)
        ∙ sym (ap (λ (t : Bool). if t then (b, change (rows_of p (slice_get pages b))) else (b, rows_of p (slice_get pages b))) (ne_eqb b block (λ e. other (sym e))))
  ]

  parts_now : (bs : List ℕ) → map (part_in p after) bs ≡ map (changed_part block change) (map (part_in p pages) bs)
  parts_now [] = refl
  parts_now (b ∷ bs) = ap₂ (λ (q : Part) (qs : List Part). q ∷ qs) (part_now b) (parts_now bs)

  list_now : (o : Option CentreTuple) → option_map (list_with p after) o ≡ option_map (with_rows block change) (option_map (list_with p pages) o)
  list_now None = refl
  list_now (Some l) =
      ap (λ (ps : List Part). Some (record { centre = l.bits; aim = l.aim; chain = ps }))
      (ap (map (part_in p after)) (same_chain pages after alike l.first) ∙ parts_now (chain_from pages l.first))

  -- ---- the rules

  list_page : (b : ℕ) → b ≤ lists_end p → IsListPage p pages b → IsListPage p after b
  list_page b low was = record {
    page = was.page;
    there = low_stays b low ∙ was.there;
    kind = was.kind;
    count = was.count;
    lists = λ list within on. aims list within ∙ was.lists list within on;
  }

  entry_page : (b : ℕ) (e : Content) → lists_end p < b → slice_get after b ≡ Some e → IsEntryPage p after b e
  entry_page b e above is = elim (cases_eq block b) as (λ _. IsEntryPage p after b e) [
    | inl same ↦
        let is_d : e ≡ d = some_is e d (sym is ∙ ap (slice_get after) (sym same) ∙ here) in
        let was = (s.whole b).entries above c (ap (slice_get pages) (sym same) ∙ there) in
        record {
          kind = ap (λ (x : Content). is_entries_page x.kind) is_d ∙ ap is_entries_page same_kind ∙ was.kind;
          entries = ap (λ (x : Content). list_all (is_entry p) x.items) is_d ∙ entries;
          in_one = one_stays p pages after chains b was.in_one;
          ends = λ list low at. ap (λ (x : Content). x.next) is_d ∙ same_next ∙ was.ends list low (end_stays p pages after chains b list low at);
        }
    | inr other ↦
        let was = (s.whole b).entries above e (sym (apart b other) ∙ is) in
        record {
          kind = was.kind;
          entries = was.entries;
          in_one = one_stays p pages after chains b was.in_one;
          ends = λ list low at. was.ends list low (end_stays p pages after chains b list low at);
        }
  ]

  pub rows_changed : Stands p after (changed_on g block change)
  rows_changed = record {
    params = ap (λ o. option_and_then params_on o) (apart 0 (λ e. absurd (omega (arith, e, behind)))) ∙ s.params;
    whole = λ b. record {
      lists = λ some low. list_page b low ((s.whole b).lists some low);
      entries = λ above e is. entry_page b e above is;
    };
    count = length-map g.lists (with_rows block change) ∙ s.count;
    lists = λ list low.
        slice_get-map (with_rows block change) g.lists list
        ∙ ap (option_map (with_rows block change)) (s.lists list low)
        ∙ sym (ap (option_map (list_with p after)) (centres list low) ∙ list_now (centre_in p pages list));
    blocks = s.blocks ∙ sym (length-set pages block d);
  }
