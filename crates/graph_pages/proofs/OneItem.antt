-- Pages of which one item of a node page is changed stand for a graph again.
use Rattle.std.proofs.Common.{◌≡◌, ℕ, true, List, length, Option, Some, None, refl, sym, ap, ◌∙◌}
use Rattle.std.specs.Prelude.{slice_get}
use Rattle.std.specs.Option.{option_and_then}
use Rattle.std.specs.FinMap.{FinMap, get}
use Rattle.vec_names.specs.declared.tid.Tid.{Tid}
use Rattle.vec_names.specs.declared.params.Params.{Params}
use Rattle.vec_names.specs.Order.{tid_cmp}
use Rattle.page_bytes.specs.declared.kind.PageKind.{PageKind}
use Rattle.page_bytes.specs.declared.kind.PageKind.TheVariants.{Meta, Hnsw, IvfLists, IvfEntries}
use Rattle.page_bytes.specs.Content.{Content}
use Rattle.vec_tuples.specs.declared.element.ElementHead.{ElementHead}
use Rattle.vec_tuples.specs.declared.links.Links.{Links}
use Rattle.vec_graph.specs.declared.node.Node.{Node}
use Rattle.vec_graph.specs.declared.graph.Graph.{Graph}
use Rattle.page_redo.specs.PageTuples.{is_meta_page, is_graph_page}
use Rattle.graph_pages.specs.Standing.{head_in, links_in, root_on, root, is_of_level, is_entry, is_root, is_list_of, is_element, pointers, is_list, is_node_item, node_in, Stands}
use Rattle.graph_pages.proofs.PageSets.{IsChangedAt, node_page}
use Rattle.graph_pages.proofs.StandingLaws.{root_is, root_holds, node_pages, stands_from}
use Rattle.byte_fields.proofs.EachField.{some_is}

not_both : (k : PageKind) → is_graph_page k ≡ true → is_meta_page k ≡ true → ⊥
not_both Meta graph root = absurd cc
not_both Hnsw graph root = absurd cc
not_both IvfLists graph root = absurd cc
not_both IvfEntries graph root = absurd cc

-- a page of a graph is not the page of block 0
pub not_root : (pages : List Content) (g : Graph) (block : ℕ) (c : Content) → Stands pages g → slice_get pages block ≡ Some c
    → is_graph_page c.kind ≡ true → block ≡ 0 → ⊥
not_root pages g block c s there graph first =
    let r = root_is pages s.meta s.read in
    let same : r.page ≡ c = some_is r.page c (sym r.there ∙ ap (slice_get pages) (sym first) ∙ there) in
    not_both c.kind graph (ap (λ (d : Content). is_meta_page d.kind) (sym same) ∙ r.of_kind)

-- ---- what depends on little

pub same_list_of : (p : Params) (h k : ElementHead) (o : Option Links) → h.level ≡ k.level → h.version ≡ k.version
    → h.deleted ≡ k.deleted → is_list_of p h o ≡ is_list_of p k o
same_list_of p h k None level version deleted = refl
same_list_of p h k (Some l) level version deleted = rw (level, version, deleted) refl

pub same_element : (p : Params) (pages after : List Content) (o : Option ElementHead)
    → ((at : Tid) → links_in p after at ≡ links_in p pages at) → is_element p after o ≡ is_element p pages o
same_element p pages after None links = refl
same_element p pages after (Some h) links = ap (is_list_of p h) (links h.list_at)

pub same_list : (p : Params) (pages after : List Content) (at : Tid) (o : Option Links) → length after ≡ length pages
    → pointers p after ≡ pointers p pages → is_list p after at o ≡ is_list p pages at o
same_list p pages after at None count named = refl
same_list p pages after at (Some l) count named = rw (count, named) refl

pub same_entry : (p : Params) (pages after : List Content) (entry : Option Tid) (level : ℕ)
    → ((at : Tid) (level : ℕ) → is_of_level level (head_in p after at) ≡ is_of_level level (head_in p pages at))
    → is_entry p after entry level ≡ is_entry p pages entry level
same_entry p pages after None level heads = refl
same_entry p pages after (Some at) level heads = heads at level

-- ---- the graph

module _ (pages after : List Content) (g : Graph) (place : Tid) (old new : List ℕ) (s : Stands pages g) (change : IsChangedAt place old new pages after) (apart : place.block ≡ 0 → ⊥) where
  abbrev p : Params
  p = s.meta.params

  root_stays : root after ≡ root pages
  root_stays = ap (λ o. option_and_then root_on o) (change.elsewhere 0 apart)

  pub stands_with : ((at : Tid) (level : ℕ) → is_of_level level (head_in p after at) ≡ is_of_level level (head_in p pages at))
      → ((at : Tid) → is_node_item p pages at ≡ true → is_node_item p after at ≡ true)
      → (nodes : FinMap tid_cmp Node) → ((at : Tid) → get nodes at ≡ node_in p after at) → Stands after (record g { nodes = nodes })
  stands_with heads items nodes is =
      let good : is_root after s.meta ≡ is_root pages s.meta = rw (change.count, same_entry p pages after s.meta.entry s.meta.level heads) refl in
      stands_from after (record g { nodes = nodes }) s.meta (root_stays ∙ s.read) (good ∙ root_holds pages g s)
      (λ block low. node_page change p items block (node_pages pages g s block low))
      s.params s.entry s.level s.hint (s.blocks ∙ sym change.count) is
