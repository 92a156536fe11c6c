-- That a node is deleted fits the pages of its element and of its list, which may be one page.
use Rattle.std.proofs.Common.{◌≡◌, ℕ, zero, suc, ◌==◌, Bool, true, false, List, [], ◌∷◌, length, replicate, Some, None, refl, sym, ap, subst, ◌∙◌, arith}
use Rattle.std.specs.Prelude.{slice_get, All, Contains}
use Rattle.std.specs.Option.{option_map, option_and_then}
use Rattle.std.proofs.lemmas.Bool.{and_from, eq-eqb, eqb-true}
use Rattle.index_sizes.specs.Sizes.{next_version}
use Rattle.byte_fields.proofs.EachField.{some_is}
use Rattle.vec_names.specs.declared.tid.Tid.{Tid}
use Rattle.vec_names.specs.declared.params.Params.{Params}
use Rattle.vec_history.specs.declared.event.Event.TheVariants.{Mark}
use Rattle.page_bytes.specs.declared.kind.PageKind.TheVariants.{Hnsw}
use Rattle.page_bytes.specs.Content.{Content, IsPage, item_at}
use Rattle.vec_tuples.specs.declared.element.Element.{Element}
use Rattle.vec_tuples.specs.declared.element.ElementHead.{ElementHead}
use Rattle.vec_tuples.specs.declared.links.Links.{Links}
use Rattle.vec_tuples.specs.Spelling.{element_bytes, head_with, head_of_element, links_bytes, links_with}
use Rattle.vec_tuples.specs.Reading.{element, links}
use Rattle.vec_graph.specs.declared.node.Node.{Node}
use Rattle.vec_graph.specs.declared.graph.Graph.{Graph}
use Rattle.vec_graph.specs.Rules.{IsThere}
use Rattle.page_redo.specs.PageTuples.{in_whole, with_item, with_head, head_changed, links_changed, element_at, links_at, is_graph, is_graph_page}
use Rattle.page_redo.specs.PageChanges.{PageChange, on_graph, marked, emptied}
use Rattle.page_redo.specs.Redo.{at_two, numbered}
use Rattle.page_redo.proofs.Pairs.{mark_pair}
use Rattle.graph_pages.specs.Standing.{links_in, Stands}
use Rattle.page_redo.specs.Growing.{fresh_page}
use Rattle.page_redo.specs.Fitting.{FitsEach}
use Rattle.page_redo.proofs.Given.{then_is}
use Rattle.graph_pages.proofs.KindsApart.{meta_is_no_element, meta_is_no_list, element_is_no_list}
use Rattle.graph_pages.proofs.EventFits.{current}
use Rattle.graph_pages.proofs.RoleFits.{of_graph_kind, tuple_there, node_there, list_alike}
use Rattle.page_redo.proofs.OneFits.{no_more}

-- ---- an event with two places, on one block or on two

pub two_first : (a b block number : ℕ) (first second : PageChange) (c d : Content) → (a == block) ≡ true → (b == block) ≡ false → first c ≡ Some d
    → option_map (numbered number) (at_two a first b second block c) ≡ Some (numbered number d)
two_first a b block number first second c d e f is = rw (e, f, is) refl

pub two_second : (a b block number : ℕ) (first second : PageChange) (c d : Content) → (a == block) ≡ false → (b == block) ≡ true → second c ≡ Some d
    → option_map (numbered number) (at_two a first b second block c) ≡ Some (numbered number d)
two_second a b block number first second c d e f is = rw (e, f, is) refl

pub two_both : (a b block number : ℕ) (first second : PageChange) (c d : Content) → (a == block) ≡ true → (b == block) ≡ true
    → option_and_then second (first c) ≡ Some d → option_map (numbered number) (at_two a first b second block c) ≡ Some (numbered number d)
two_both a b block number first second c d e f is = rw (e, f, is) refl

-- an element and a list stand at two offsets
pub two_offsets : (p : Params) (c : Content) (off list_off : ℕ) (e : Element) (l : Links) → element_at p c off ≡ Some e → links_at p c list_off ≡ Some l
    → off ≡ list_off → ⊥
two_offsets p c off list_off e l element_is list_is same =
    let x = then_is (λ x. in_whole (element p x)) (item_at c.items off) e element_is in
    let none : links_at p c off ≡ None = ap (λ o. option_and_then (λ x. in_whole (links p x)) o) x.1 ∙ element_is_no_list p x.0 e x.2 in
    let there : links_at p c off ≡ Some l = ap (links_at p c) same ∙ list_is in
    absurd cc

-- a block that is touched is one of the two
pub not_touched : (a b block : ℕ) → (a == block) ≡ false → (b == block) ≡ false → Contains (a ∷ b ∷ []) block → ⊥
not_touched a b block e f (zero, h, same) = let t = eq-eqb a block same in absurd cc
not_touched a b block e f (suc zero, h, same) = let t = eq-eqb b block same in absurd cc
not_touched a b block e f (suc (suc i), h, same) = absurd (omega (arith, h))

-- the page of a block that is touched, and what redo makes of it
abbrev IsRedoneAt : List Content → Params → ℕ → ℕ → ℕ → Tid → Tid → ℕ → Type 0
IsRedoneAt pages p wrap number block at list_at version =
    (page : Content) × (slice_get pages block ≡ Some page) × (after : Content)
    × (option_map (numbered number)
    (at_two at.block (on_graph p (head_changed (marked wrap version) p at.off)) list_at.block (on_graph p (links_changed (emptied wrap version) p list_at.off)) block page)
    ≡ Some after)

module _ (pages : List Content) (p : Params) (wrap number block : ℕ) (at list_at : Tid) (version : ℕ) (e : Element) (l m : Links) (k : ElementHead) (c d : Content)
    (at_c : slice_get pages at.block ≡ Some c) (at_d : slice_get pages list_at.block ≡ Some d)
    (graph : is_graph p.kind ≡ true) (kind_c : is_graph_page c.kind ≡ true) (kind_d : is_graph_page d.kind ≡ true)
    (element_is : element_at p c at.off ≡ Some e) (list_is : links_at p d list_at.off ≡ Some l)
    (marks : marked wrap version (head_of_element e) ≡ Some k) (empties : emptied wrap version l ≡ Some m) where
  abbrev first : PageChange
  first = on_graph p (head_changed (marked wrap version) p at.off)

  abbrev second : PageChange
  second = on_graph p (links_changed (emptied wrap version) p list_at.off)

  abbrev marked_page : Content
  marked_page = with_item c at.off (element_bytes (with_head k e))

  first_is : first c ≡ Some marked_page
  first_is = rw (graph, kind_c, element_is, marks) refl

  second_is : second d ≡ Some (with_item d list_at.off (links_bytes m))
  second_is = rw (graph, kind_d, list_is, empties) refl

  on_block : (a : Tid) (page : Content) → (a.block == block) ≡ true → slice_get pages a.block ≡ Some page → slice_get pages block ≡ Some page
  on_block a page is there = ap (slice_get pages) (sym (eqb-true a.block block is)) ∙ there

  both_is : (at.block == block) ≡ true → (list_at.block == block) ≡ true → option_and_then second (first c) ≡ Some (with_item marked_page list_at.off (links_bytes m))
  both_is is_at is_list =
      let same : d ≡ c = some_is d c (sym (on_block list_at d is_list at_d) ∙ on_block at c is_at at_c) in
      let list_here : links_at p c list_at.off ≡ Some l = ap (λ (x : Content). links_at p x list_at.off) (sym same) ∙ list_is in
      mark_pair p (record { at = at; list_at = list_at; version = version; wrap = wrap }) c (and_from (is_graph p.kind) (is_graph_page c.kind) graph kind_c)
      (two_offsets p c at.off list_at.off e l element_is list_here) marked_page l m first_is list_here empties

  redone_at : (x y : Bool) → (at.block == block) ≡ x → (list_at.block == block) ≡ y → Contains (at.block ∷ list_at.block ∷ []) block
      → IsRedoneAt pages p wrap number block at list_at version
  redone_at true true is_at is_list touches = (
    c,
    on_block at c is_at at_c,
    numbered number (with_item marked_page list_at.off (links_bytes m)),
    two_both at.block list_at.block block number first second c (with_item marked_page list_at.off (links_bytes m)) is_at is_list (both_is is_at is_list),
  )
  redone_at true false is_at is_list touches =
      (c, on_block at c is_at at_c, numbered number marked_page, two_first at.block list_at.block block number first second c marked_page is_at is_list first_is)
  redone_at false true is_at is_list touches = (
    d,
    on_block list_at d is_list at_d,
    numbered number (with_item d list_at.off (links_bytes m)),
    two_second at.block list_at.block block number first second d (with_item d list_at.off (links_bytes m)) is_at is_list second_is,
  )
  redone_at false false is_at is_list touches = absurd (not_touched at.block list_at.block block is_at is_list touches)

module _ (pages : List Content) (g : Graph) (all : All IsPage pages) (s : Stands pages g) where
  mark_fits_there : (at list_at : Tid) (version : ℕ) (n : Node) → IsThere g at version n → n.list_at ≡ list_at → FitsEach pages s.meta.params (Mark at list_at version)
  mark_fits_there at list_at version n there listed wrap number block touches =
      let p = s.meta.params in
      let node = node_there pages g all s at n there.stands in
      let e = node.0 in
      let l = node.2 in
      let names : e.list_at ≡ list_at = ap (λ (n : Node). n.list_at) node.4 ∙ listed in
      let c = tuple_there pages g all s (element p) at e (meta_is_no_element p s.meta) node.1 in
      let d = tuple_there pages g all s (links p) list_at l (meta_is_no_list p s.meta) (ap (links_in p pages) (sym names) ∙ node.3) in
      let alike = list_alike pages g all s at e l node.1 node.3 in
      let state : e.deleted ≡ false = ap (λ (n : Node). n.deleted) node.4 ∙ there.not_deleted in
      let found : e.version ≡ version = ap (λ (n : Node). n.version) node.4 ∙ there.of_version in
      let new = current e.deleted e.version version state found in
      let list_new = current l.deleted l.version version (alike.1 ∙ state) (alike.0 ∙ found) in
      let k = head_with e.level true (next_version wrap e.version) [] e.list_at in
      let m = links_with true (next_version wrap l.version) (replicate (length l.tids) None) in
      let r = redone_at pages p wrap number block at list_at version e l m k c.0 d.0 c.1 d.1 (of_graph_kind pages g all s) c.2 d.2 c.3 d.3
      (rw new refl) (rw list_new refl) (at.block == block) (list_at.block == block) refl refl touches in
      (r.0, ap (λ (l : List Content). slice_get l block) (no_more pages (fresh_page Hnsw)) ∙ r.1, r.2, r.3)

  pub mark_fits : (at list_at : Tid) (version : ℕ) (n : Node) → IsThere g at version n → n.list_at ≡ list_at → FitsEach pages g.params (Mark at list_at version)
  mark_fits at list_at version n there listed =
      subst (λ (p : Params). FitsEach pages p (Mark at list_at version)) (sym s.params) (mark_fits_there at list_at version n there listed)
