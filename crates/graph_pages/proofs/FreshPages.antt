-- Pages with fresh ones behind them stand for the same graph, of more blocks.
use Rattle.std.proofs.Common.{◌≡◌, inl, inr, ℕ, zero, suc, ◌+◌, ◌≤◌, Bool, true, false, ◌||◌, ◌==◌, List, [], ◌∷◌, ◌++◌, length, replicate, Option, Some, None, refl, sym, ap, ◌∙◌, arith}
use Rattle.std.specs.Prelude.{slice_get, flat_map, nat_le}
use Rattle.std.specs.List.{list_all}
use Rattle.std.specs.Option.{option_map, option_and_then}
use Rattle.std.proofs.lemmas.Bool.{cases_lt, and_parts, and_from, ltb-true, lt-ltb, leb-true, le-leb}
use Rattle.std.proofs.lemmas.List.{length-append, length-replicate, append-nil}
use Rattle.std.proofs.lemmas.Grind.{flat_map-append}
use Rattle.std.proofs.lemmas.Option.{slice_get_within, slice_get_past}
use Rattle.byte_fields.specs.Reading.{Reader}
use Rattle.vec_names.specs.declared.tid.Tid.{Tid}
use Rattle.vec_names.specs.declared.params.Params.{Params}
use Rattle.page_bytes.specs.declared.kind.PageKind.TheVariants.{Hnsw}
use Rattle.page_bytes.specs.Content.{Content, item_at}
use Rattle.vec_tuples.specs.declared.element.Element.{Element}
use Rattle.vec_tuples.specs.declared.links.Links.{Links}
use Rattle.vec_tuples.specs.Spelling.{head_of_element}
use Rattle.vec_tuples.specs.Reading.{element, links}
use Rattle.vec_graph.specs.declared.graph.Graph.{Graph}
use Rattle.page_redo.specs.PageTuples.{in_whole, is_graph_page}
use Rattle.graph_pages.specs.Standing.{item_in, read_in, element_in, head_in, links_in, root_on, root, is_of_level, is_entry, is_root, is_element, pointers_on, pointers, times_in, is_slot_below, is_list, is_node_item, IsNodePage, node_with as made_of, node_in, Stands}
use Rattle.page_redo.specs.Growing.{fresh_page}
use Rattle.graph_pages.proofs.OneItem.{same_element, same_entry}
use Rattle.graph_pages.proofs.StandingLaws.{root_is, root_holds, node_pages, stands_from}
use Rattle.page_redo.proofs.FreshBehind.{get_front, get_behind}

all_copies : {X A : Type 0} (f : X → List A) (v : X) (n : ℕ) → f v ≡ [] → flat_map f (replicate n v) ≡ []
all_copies f v zero none = refl
all_copies f v (suc n) none = ap (λ l. l ++ flat_map f (replicate n v)) none ∙ all_copies f v n none

all_so : {X : Type 0} (f g : X → Bool) (xs : List X) → ((x : X) → f x ≡ true → g x ≡ true) → list_all f xs ≡ true → list_all g xs ≡ true
all_so f g [] so is = refl
all_so f g (x ∷ xs) so is =
    let parts = and_parts (f x) (list_all f xs) is in
    and_from (g x) (list_all g xs) (so x parts.0) (all_so f g xs so parts.1)

no_item : (off : ℕ) → item_at [] off ≡ None
no_item zero = refl
no_item (suc i) = refl

either_so : (a b c : Bool) → (b ≡ true → c ≡ true) → (a || b) ≡ true → (a || c) ≡ true
either_so true b c so is = refl
either_so false b c so is = so is

-- ---- the pages

module _ (pages : List Content) (g : Graph) (count : ℕ) (s : Stands pages g) where
  abbrev fresh : Content
  fresh = fresh_page Hnsw

  abbrev after : List Content
  after = pages ++ replicate count fresh

  abbrev p : Params
  p = s.meta.params

  pub fresh_length : length after ≡ length pages + count
  fresh_length = length-append pages (replicate count fresh) ∙ ap (λ n. length pages + n) (length-replicate count fresh)

  pub fresh_items : (at : Tid) → item_in after at ≡ item_in pages at
  fresh_items at = elim (cases_lt at.block (length pages)) as (λ _. item_in after at ≡ item_in pages at) [
    | inl h ↦ ap (λ o. option_and_then (λ (c : Content). item_at c.items at.off) o) (get_front pages (replicate count fresh) at.block h)
    | inr h ↦
        past (slice_get after at.block) refl h
        ∙ sym (ap (λ o. option_and_then (λ (c : Content). item_at c.items at.off) o) (slice_get_past pages at.block h))
  ]
    where
      past : (o : Option Content) → slice_get after at.block ≡ o → length pages ≤ at.block → option_and_then (λ (c : Content). item_at c.items at.off) o ≡ None
      past None is h = refl
      past (Some c) is h = ap (λ (c : Content). item_at c.items at.off) (get_behind pages fresh count at.block c h is) ∙ no_item at.off

  read_same : {A : Type 0} (f : Reader A) (at : Tid) → read_in f after at ≡ read_in f pages at
  read_same f at = ap (λ o. option_and_then (λ x. in_whole (f x)) o) (fresh_items at)

  links_same : (at : Tid) → links_in p after at ≡ links_in p pages at
  links_same at = ap (λ o. option_and_then (λ x. in_whole (links p x)) o) (fresh_items at)

  head_same : (at : Tid) → head_in p after at ≡ head_in p pages at
  head_same at = ap (λ o. option_map head_of_element (option_and_then (λ x. in_whole (element p x)) o)) (fresh_items at)

  pub fresh_pointers : pointers p after ≡ pointers p pages
  fresh_pointers =
      flat_map-append (pointers_on p) pages (replicate count fresh)
      ∙ ap (λ l. pointers p pages ++ l) (all_copies (pointers_on p) fresh count refl)
      ∙ append-nil (pointers p pages)

  below_so : (o : Option Tid) → is_slot_below (length pages) o ≡ true → is_slot_below (length after) o ≡ true
  below_so None is = refl
  below_so (Some to) is = lt-ltb to.block (length after) (omega (arith, ltb-true to.block (length pages) is, fresh_length))

  list_so : (at : Tid) (o : Option Links) → is_list p pages at o ≡ true → is_list p after at o ≡ true
  list_so at None is = is
  list_so at (Some l) is =
      let parts = and_parts (times_in at (pointers p pages) == 1) (list_all (is_slot_below (length pages)) l.tids) is in
      and_from (times_in at (pointers p after) == 1) (list_all (is_slot_below (length after)) l.tids)
      (ap (λ (ps : List Tid). times_in at ps == 1) fresh_pointers ∙ parts.0)
      (all_so (is_slot_below (length pages)) (is_slot_below (length after)) l.tids below_so parts.1)

  item_so : (at : Tid) → is_node_item p pages at ≡ true → is_node_item p after at ≡ true
  item_so at is =
      let same : is_element p after (head_in p after at) ≡ is_element p pages (head_in p pages at) =
      same_element p pages after (head_in p after at) links_same ∙ ap (is_element p pages) (head_same at) in
      ap (λ (b : Bool). b || is_list p after at (links_in p after at)) same
      ∙ either_so (is_element p pages (head_in p pages at)) (is_list p pages at (links_in p pages at)) (is_list p after at (links_in p after at))
      (λ is. list_so at (links_in p after at) (ap (is_list p pages at) (links_same at) ∙ is)) is

  page_so : (block : ℕ) → IsNodePage p pages block → IsNodePage p after block
  page_so block whole = record {
    kind = λ c is. elim (cases_lt block (length pages)) as (λ _. is_graph_page c.kind ≡ true) [
      | inl h ↦ whole.kind c (sym (get_front pages (replicate count fresh) block h) ∙ is)
      | inr h ↦ ap (λ (c : Content). is_graph_page c.kind) (get_behind pages fresh count block c h is)
    ];
    items = λ at x same is. item_so at (whole.items at x same (sym (fresh_items at) ∙ is));
  }

  node_same : (at : Tid) → node_in p after at ≡ node_in p pages at
  node_same at = made (element_in p after at) ∙ ap (λ o. option_and_then (λ e. option_map (made_of e) (links_in p pages e.list_at)) o) (ap (λ o. option_and_then (λ x. in_whole (element p x)) o) (fresh_items at))
    where
      made : (o : Option Element) → option_and_then (λ e. option_map (made_of e) (links_in p after e.list_at)) o ≡ option_and_then (λ e. option_map (made_of e) (links_in p pages e.list_at)) o
      made None = refl
      made (Some e) = ap (option_map (made_of e)) (links_same e.list_at)

  root_same : root after ≡ root pages
  root_same =
      let r = root_is pages s.meta s.read in
      ap (λ o. option_and_then root_on o) (get_front pages (replicate count fresh) 0 (slice_get_within pages 0 r.page r.there))

  root_so : is_root after s.meta ≡ true
  root_so =
      let parts = and_parts (nat_le s.meta.hint (length pages)) (is_entry p pages s.meta.entry s.meta.level) (root_holds pages g s) in
      and_from (nat_le s.meta.hint (length after)) (is_entry p after s.meta.entry s.meta.level)
      (le-leb s.meta.hint (length after) (omega (arith, leb-true s.meta.hint (length pages) parts.0, fresh_length)))
      (same_entry p pages after s.meta.entry s.meta.level (λ at level. ap (is_of_level level) (head_same at)) ∙ parts.1)

  pub fresh_stands : Stands after (record g { blocks = g.blocks + count })
  fresh_stands =
      stands_from after (record g { blocks = g.blocks + count }) s.meta (root_same ∙ s.read) root_so
      (λ block low. page_so block (node_pages pages g s block low))
      s.params s.entry s.level s.hint (ap (λ n. n + count) s.blocks ∙ sym fresh_length) (λ at. s.nodes at ∙ sym (node_same at))
