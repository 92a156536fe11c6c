-- Redo of a further entry, and of entries that go.
use Rattle.std.proofs.Common.{◌≡◌, ℕ, ◌+◌, ◌&&◌, ◌==◌, not, Bool, true, false, List, [], ◌∷◌, ◌++◌, length, Option, Some, None, refl, sym, ap, ap₂, subst, ◌∙◌}
use Rattle.std.specs.Prelude.{slice_set, nat_le, if◌then◌else◌}
use Rattle.std.specs.List.{list_all, list_any, filter_map, cons_option}
use Rattle.std.specs.Option.{option_map, is_some}
use Rattle.std.proofs.lemmas.Bool.{and_parts, and_from, eqb-true}
use Rattle.std.proofs.lemmas.List.Folds.{list_all-append}
use Rattle.std.proofs.lemmas.List.Elements.{filter_map-append}
use Rattle.vec_names.specs.declared.heap_id.HeapId.{HeapId}
use Rattle.vec_names.specs.declared.params.Params.{Params}
use Rattle.vec_names.specs.Params.{IsInRange}
use Rattle.vec_history.specs.declared.event.Event.TheVariants.{IvfAdd, IvfDrop}
use Rattle.page_bytes.specs.Content.{Content, round8, free_of, others as others_left}
use Rattle.vec_tuples.specs.declared.entry.EntryRow.{EntryRow}
use Rattle.vec_tuples.specs.Spelling.{entry_bytes, row_with as entry_with}
use Rattle.vec_tuples.specs.Reading.{entry}
use Rattle.vec_tuples.proofs.RowLaws.{entry_field}
use Rattle.ivf_graph.specs.declared.graph.IvfGraph.{IvfGraph}
use Rattle.ivf_graph.specs.Graph.{Row}
use Rattle.ivf_graph.specs.Effect.{with_row, others, changed_on}
use Rattle.page_redo.specs.PageTuples.{in_whole, added, is_graph, is_entries_page}
use Rattle.page_redo.specs.PageChanges.{PageChange, when, if_so, on_entries, rises}
use Rattle.page_redo.specs.Redo.{at_one, numbered}
use Rattle.page_redo.proofs.ItemLaws.{whole_read}
use Rattle.page_redo.proofs.Others.{given}
use Rattle.page_redo.proofs.Given.{map_is, if_is, when_is}
use Rattle.ivf_pages.specs.Standing.{is_entry, row_in, row_with, Stands}
use Rattle.ivf_pages.specs.Effects.{RedoIsEffect}
use Rattle.ivf_pages.proofs.Root.{in_range, entries_behind}
use Rattle.ivf_pages.proofs.RowsChanged.{rows_changed}

-- ---- what redo says of the page

-- the change is made of the page of its block, which has entries
pub record IsMadeOn (p : Params) (a number block : ℕ) (role : PageChange) (c after : Content) : Type 0 where
  pub same : a ≡ block
  pub kind : is_entries_page c.kind ≡ true
  pub made : Content
  pub is : role c ≡ Some made
  pub after_is : numbered number made ≡ after

pub made_on : (p : Params) (a number block : ℕ) (role : PageChange) (c after : Content)
    → option_map (numbered number) (at_one a (on_entries p role) block c) ≡ Some after → IsMadeOn p a number block role c after
made_on p a number block role c after is =
    let m = map_is (numbered number) (at_one a (on_entries p role) block c) after is in
    let o = if_is (a == block) (on_entries p role c) m.0 m.1 in
    let r = if_is (not (is_graph p.kind) && is_entries_page c.kind) (role c) m.0 o.1 in
    record {
      same = eqb-true a block o.0;
      kind = (and_parts (not (is_graph p.kind)) (is_entries_page c.kind) r.0).1;
      made = m.0;
      is = r.1;
      after_is = m.2;
    }

-- ---- a further entry

module _ (p : Params) (range : IsInRange p) (id : HeapId) (bits : List Bool) (long : length bits ≡ p.bits) where
  abbrev x : List ℕ
  x = entry_bytes (entry_with id bits)

  reads : in_whole (entry p x) ≡ Some (entry_with id bits)
  reads = whole_read (entry_field p range) x (entry_with id bits) long refl

  pub more_entries : (items : List (List ℕ)) → list_all (is_entry p) items ≡ true → list_all (is_entry p) (items ++ x ∷ []) ≡ true
  more_entries items are =
      list_all-append (is_entry p) items (x ∷ [])
      ∙ and_from (list_all (is_entry p) items) (list_all (is_entry p) (x ∷ [])) are (and_from (is_entry p x) true (ap is_some reads) refl)

  pub more_rows : (items : List (List ℕ)) → filter_map (row_in p) (items ++ x ∷ []) ≡ with_row (id, bits) (filter_map (row_in p) items)
  more_rows items =
      filter_map-append (row_in p) items (x ∷ [])
      ∙ ap (λ (o : Option Row). filter_map (row_in p) items ++ cons_option o []) (ap (option_map row_with) reads)

-- ---- entries that go

module _ (p : Params) (gone : List ℕ) where
  pub fewer_entries : (off : ℕ) (items : List (List ℕ)) → list_all (is_entry p) items ≡ true
      → list_all (is_entry p) (others_left gone off items) ≡ true
  fewer_entries off [] are = refl
  fewer_entries off (y ∷ ys) are =
      let parts = and_parts (is_entry p y) (list_all (is_entry p) ys) are in
      by_test parts.0 (fewer_entries (off + 1) ys parts.1) (list_any (λ (g : ℕ). g == off) gone)
    where
      by_test : is_entry p y ≡ true → list_all (is_entry p) (others_left gone (off + 1) ys) ≡ true
          → (t : Bool) → list_all (is_entry p) (if t then others_left gone (off + 1) ys else y ∷ others_left gone (off + 1) ys) ≡ true
      by_test first rest true = rest
      by_test first rest false = and_from (is_entry p y) (list_all (is_entry p) (others_left gone (off + 1) ys)) first rest

  row_there : (o : Option EntryRow) → is_some o ≡ true → (r : Row) × (option_map row_with o ≡ Some r)
  row_there None is = absurd cc
  row_there (Some e) is = (row_with e, refl)

  pub fewer_rows : (off : ℕ) (items : List (List ℕ)) → list_all (is_entry p) items ≡ true
      → filter_map (row_in p) (others_left gone off items) ≡ others gone off (filter_map (row_in p) items)
  fewer_rows off [] are = refl
  fewer_rows off (y ∷ ys) are =
      let parts = and_parts (is_entry p y) (list_all (is_entry p) ys) are in
      let row = row_there (in_whole (entry p y)) parts.0 in
      by_test row.0 row.1 (fewer_rows (off + 1) ys parts.1) (list_any (λ (g : ℕ). g == off) gone)
      ∙ ap (λ (o : Option Row). others gone off (cons_option o (filter_map (row_in p) ys))) (sym row.1)
    where
      by_test : (r : Row) → row_in p y ≡ Some r
          → filter_map (row_in p) (others_left gone (off + 1) ys) ≡ others gone (off + 1) (filter_map (row_in p) ys)
          → (t : Bool) → filter_map (row_in p) (if t then others_left gone (off + 1) ys else y ∷ others_left gone (off + 1) ys)
          ≡ (if t then others gone (off + 1) (filter_map (row_in p) ys) else r ∷ others gone (off + 1) (filter_map (row_in p) ys))
      by_test r is rest true = rest
      by_test r is rest false = ap₂ (λ (o : Option Row) (rs : List Row). cons_option o rs) is rest

-- ---- the events

module _ (p : Params) (pages : List Content) (g : IvfGraph) where
  pub add_effect : (to : ℕ) (id : HeapId) (bits : List Bool) → RedoIsEffect p pages g (IvfAdd to id bits)
  add_effect to id bits wrap number block c after all s there is =
      let x = entry_bytes (entry_with id bits) in
      let m = made_on p to number block (λ c. if_so (length bits == p.bits) (added x c)) c after is in
      let t = if_is (length bits == p.bits) (added x c) m.made m.is in
      let e = given (nat_le (round8 (length x) + 4) (free_of c)) (record c { items = c.items ++ x ∷ [] }) m.made t.1 in
      let long = eqb-true (length bits) p.bits t.0 in
      let range = in_range pages p all s.params in
      let was = (s.whole block).entries (entries_behind p pages g s block c there m.kind) c there in
      let d = numbered number (record c { items = c.items ++ x ∷ [] }) in
      let changed = rows_changed p pages g block c d (with_row (id, bits)) all s there m.kind refl refl (more_entries p range id bits long c.items was.entries) (more_rows p range id bits long c.items) in
      subst (λ (z : Content). Stands p (slice_set pages block z) (changed_on g to (with_row (id, bits)))) (ap (numbered number) e ∙ m.after_is)
      (subst (λ (n : ℕ). Stands p (slice_set pages block d) (changed_on g n (with_row (id, bits)))) (sym m.same) changed)

  pub drop_effect : (of : ℕ) (gone : List ℕ) → RedoIsEffect p pages g (IvfDrop of gone)
  drop_effect of gone wrap number block c after all s there is =
      let m = made_on p of number block (λ c. when (rises 0 (length c.items) gone) (record c { items = others_left gone 1 c.items })) c after is in
      let t = when_is (rises 0 (length c.items) gone) (record c { items = others_left gone 1 c.items }) m.made m.is in
      let was = (s.whole block).entries (entries_behind p pages g s block c there m.kind) c there in
      let d = numbered number (record c { items = others_left gone 1 c.items }) in
      let changed = rows_changed p pages g block c d (others gone 1) all s there m.kind refl refl (fewer_entries p gone 1 c.items was.entries) (fewer_rows p gone 1 c.items was.entries) in
      subst (λ (z : Content). Stands p (slice_set pages block z) (changed_on g of (others gone 1))) (ap (numbered number) t.1 ∙ m.after_is)
      (subst (λ (n : ℕ). Stands p (slice_set pages block d) (changed_on g n (others gone 1))) (sym m.same) changed)
