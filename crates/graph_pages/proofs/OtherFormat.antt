-- Pages of which the meta tuple has another format stand for the same graph.
use Rattle.std.proofs.Common.{◌≡◌, ℕ, ◌^◌, ◌<◌, ◌≤◌, List, length, Option, Some, refl, sym, ap, subst, ◌∙◌, arith}
use Rattle.std.specs.Prelude.{slice_get, slice_set}
use Rattle.std.specs.List.{All}
use Rattle.std.specs.Option.{option_map, option_and_then}
use Rattle.std.proofs.lemmas.Bool.{leb-true}
use Rattle.std.proofs.lemmas.List.Elements.{All-set}
use Rattle.byte_fields.proofs.EachField.{some_is}
use Rattle.vec_names.specs.declared.tid.Tid.{Tid}
use Rattle.page_bytes.specs.Content.{Content, IsPage, IsItem, item_at}
use Rattle.vec_tuples.specs.declared.meta.Meta.{Meta}
use Rattle.vec_tuples.specs.Spelling.{IsMeta, meta_bytes}
use Rattle.vec_tuples.specs.Reading.{meta}
use Rattle.vec_tuples.proofs.MetaLaws.{meta_field}
use Rattle.vec_graph.specs.declared.graph.Graph.{Graph}
use Rattle.page_redo.specs.PageTuples.{in_whole, meta_at, with_item}
use Rattle.page_redo.proofs.ItemLaws.{whole_read}
use Rattle.page_redo.proofs.Lengths.{meta_long}
use Rattle.page_redo.proofs.Putting.{set_here, with_item_here}
use Rattle.graph_pages.specs.Standing.{Stands}
use Rattle.graph_pages.specs.Effects.{format_in, with_format}
use Rattle.page_redo.proofs.Given.{then_is, got_from_all}
use Rattle.graph_pages.proofs.StandingLaws.{root_is, root_spelled}
use Rattle.graph_pages.proofs.MetaEffect.{meta_effect, root_parts, meta_fits, meta_there}
use Rattle.page_redo.proofs.KeptPages.{page_set, with_number}
use Rattle.page_redo.proofs.SpelledBytes.{meta_all}

module _ (pages : List Content) (g : Graph) (page : Content) (m : Meta) (format number : ℕ) (all : All IsPage pages) (s : Stands pages g)
    (there : slice_get pages 0 ≡ Some page) (read : meta_at page ≡ Some m) (low : 1 ≤ format) (high : format ≤ 2) where
  abbrev after : List Content
  after = slice_set pages 0 (with_format format number page m)

  same_meta : s.meta ≡ m
  same_meta = some_is s.meta m (sym (meta_there pages g all s page there) ∙ read)

  fits_from : (k : Meta) → IsMeta k → IsMeta (record k { format = format })
  fits_from k fits = record {
    format_low = low;
    format_high = high;
    params = fits.params;
    entry = fits.entry;
    level = fits.level;
    hint = fits.hint;
  }

  fits : IsMeta s.meta
  fits = meta_fits pages g all s

  pub other_stands : Stands after g
  other_stands =
      let parts = root_parts pages g all s in
      let now = meta_effect pages g page number all s there format s.meta.entry s.meta.level s.meta.hint (fits_from s.meta fits)
      (leb-true s.meta.hint (length pages) parts.0) parts.1 in
      let same : record g { entry = s.meta.entry; level = s.meta.level; hint = s.meta.hint } ≡ g =
      ap (λ (e : Option Tid). record g { entry = e; level = s.meta.level; hint = s.meta.hint }) (sym s.entry)
      ∙ ap (λ (l : ℕ). record g { level = l; hint = s.meta.hint }) (sym s.level)
      ∙ ap (λ (h : ℕ). record g { hint = h }) (sym s.hint) in
      subst (λ (k : Meta). Stands (slice_set pages 0 (with_format format number page k)) g) same_meta
      (subst (λ (h : Graph). Stands (slice_set pages 0 (with_format format number page s.meta)) h) same now)

  old_item : (x : List ℕ) × (item_at page.items 1 ≡ Some x) × (in_whole (meta x) ≡ Some m)
  old_item = then_is (λ x. in_whole (meta x)) (item_at page.items 1) m read

  pub other_bytes : number < 2 ^ 64 → All IsPage after
  other_bytes small =
      let r = root_is pages s.meta s.read in
      let whole : IsPage page = got_from_all IsPage pages 0 page all there in
      let k : Meta = record m { format = format } in
      let good : IsMeta m = subst IsMeta same_meta fits in
      let one : r.page ≡ page = some_is r.page page (sym r.there ∙ there) in
      let is : item_at page.items 1 ≡ Some r.item = ap (λ (c : Content). item_at c.items 1) (sym one) ∙ r.is in
      let long : length r.item ≡ length (meta_bytes k) =
      ap (λ (x : List ℕ). length x) (root_spelled pages s.meta all r) ∙ meta_long s.meta ∙ sym (meta_long k) in
      let item : IsItem (meta_bytes k) = record { some = omega (arith, meta_long k); bytes = meta_all k (omega (arith, good.level.1)) } in
      All-set IsPage pages 0 (with_format format number page m)
      (with_number number (with_item page 1 (meta_bytes k)) small (page_set page 1 r.item (meta_bytes k) whole is long item)) all

  pub other_format : format_in after ≡ Some format
  other_format =
      let k : Meta = record m { format = format } in
      let good : IsMeta k = fits_from m (subst IsMeta same_meta fits) in
      let now : slice_get after 0 ≡ Some (with_format format number page m) = set_here pages 0 page (with_format format number page m) there in
      let here : item_at (with_item page 1 (meta_bytes k)).items 1 ≡ Some (meta_bytes k) = with_item_here page 1 old_item.0 (meta_bytes k) old_item.1 in
      let reads : meta_at (with_format format number page m) ≡ Some k =
      ap (λ o. option_and_then (λ x. in_whole (meta x)) o) here ∙ whole_read meta_field (meta_bytes k) k good refl in
      ap (λ o. option_map (λ (m : Meta). m.format) (option_and_then meta_at o)) now ∙ ap (λ o. option_map (λ (m : Meta). m.format) o) reads
