-- What is known of pages that stand for a graph, and how others come to stand for one.
use Rattle.std.proofs.Common.{◌≡◌, ℕ, zero, suc, ◌<◌, ◌≤◌, ◌&&◌, ◌==◌, true, List, length, Some, sym, ap, subst, ◌∙◌, arith}
use Rattle.std.specs.Prelude.{slice_get}
use Rattle.std.specs.List.{All}
use Rattle.std.specs.Option.{option_map, option_and_then}
use Rattle.std.proofs.lemmas.Bool.{and_parts, eqb-true}
use Rattle.std.proofs.lemmas.Option.{slice_get_within}
use Rattle.vec_names.specs.declared.tid.Tid.{Tid}
use Rattle.page_bytes.specs.Content.{Content, IsPage, item_at}
use Rattle.vec_tuples.specs.declared.meta.Meta.{Meta}
use Rattle.vec_tuples.specs.Spelling.{IsMeta, meta_bytes}
use Rattle.vec_tuples.specs.Reading.{meta, element}
use Rattle.vec_tuples.proofs.MetaLaws.{meta_field}
use Rattle.vec_graph.specs.declared.node.Node.{Node}
use Rattle.vec_graph.specs.declared.graph.Graph.{Graph}
use Rattle.vec_graph.specs.Graph.{node_at}
use Rattle.page_redo.specs.PageTuples.{in_whole, meta_at, is_graph, is_meta_page}
use Rattle.graph_pages.specs.Standing.{root_on, root, of_graph, is_root, IsNodePage, KeepsRulesUnder, item_in, element_in, links_in, node_with, node_in, Stands}
use Rattle.graph_pages.proofs.Broken.{keeps}
use Rattle.page_redo.proofs.Given.{then_is, if_is, when_is, item_bytes}
use Rattle.page_redo.proofs.ItemLaws.{whole_spelled}

-- ---- block 0

-- the meta page and its item
pub record IsRootOf (pages : List Content) (m : Meta) : Type 0 where
  pub page : Content
  pub there : slice_get pages 0 ≡ Some page
  pub of_kind : is_meta_page page.kind ≡ true
  pub alone : length page.items ≡ 1
  pub item : List ℕ
  pub is : item_at page.items 1 ≡ Some item
  pub reads : in_whole (meta item) ≡ Some m
  pub graph : is_graph m.params.kind ≡ true

pub root_is : (pages : List Content) (m : Meta) → root pages ≡ Some m → IsRootOf pages m
root_is pages m is =
    let a = then_is root_on (slice_get pages 0) m is in
    let b = if_is (is_meta_page a.0.kind && length a.0.items == 1) (option_and_then of_graph (meta_at a.0)) m a.2 in
    let tests = and_parts (is_meta_page a.0.kind) (length a.0.items == 1) b.0 in
    let c = then_is of_graph (meta_at a.0) m b.1 in
    let d = when_is (is_graph c.0.params.kind) c.0 m c.2 in
    let e = then_is (λ x. in_whole (meta x)) (item_at a.0.items 1) c.0 c.1 in
    record {
      page = a.0;
      there = a.1;
      of_kind = tests.0;
      alone = eqb-true (length a.0.items) 1 tests.1;
      item = e.0;
      is = e.1;
      reads = e.2 ∙ ap (λ (m : Meta). Some m) d.1;
      graph = ap (λ (m : Meta). is_graph m.params.kind) (sym d.1) ∙ d.0;
    }

pub root_fits : (pages : List Content) (m : Meta) → All IsPage pages → IsRootOf pages m → IsMeta m
root_fits pages m all r = (whole_spelled meta_field r.item m (item_bytes pages 0 1 r.page r.item all r.there r.is) r.reads).0

pub root_spelled : (pages : List Content) (m : Meta) → All IsPage pages → (r : IsRootOf pages m) → r.item ≡ meta_bytes m
root_spelled pages m all r = (whole_spelled meta_field r.item m (item_bytes pages 0 1 r.page r.item all r.there r.is) r.reads).1

-- ---- pages that stand for a graph

pub root_holds : (pages : List Content) (g : Graph) (s : Stands pages g) → is_root pages s.meta ≡ true
root_holds pages g s = subst (λ o. KeepsRulesUnder o pages 0) s.read (s.whole 0)

pub node_pages : (pages : List Content) (g : Graph) (s : Stands pages g) (block : ℕ) → 1 ≤ block
    → IsNodePage s.meta.params pages block
node_pages pages g s zero low = absurd (omega arith)
node_pages pages g s (suc block) low = subst (λ o. KeepsRulesUnder o pages (suc block)) s.read (s.whole (suc block))

-- a node stands on one of the blocks
pub node_below : (pages : List Content) (g : Graph) (at : Tid) (n : Node) → Stands pages g → node_at g at ≡ Some n
    → at.block < g.blocks
node_below pages g at n s stands =
    let p = s.meta.params in
    let e = then_is (λ e. option_map (node_with e) (links_in p pages e.list_at)) (element_in p pages at) n (sym (s.nodes at) ∙ stands) in
    let x = then_is (λ x. in_whole (element p x)) (item_in pages at) e.0 e.1 in
    let c = then_is (λ (c : Content). item_at c.items at.off) (slice_get pages at.block) x.0 x.1 in
    omega (arith, slice_get_within pages at.block c.0 c.1, s.blocks)

-- pages come to stand for a graph
pub stands_from : (pages : List Content) (g : Graph) (m : Meta) → root pages ≡ Some m → is_root pages m ≡ true
    → ((block : ℕ) → 1 ≤ block → IsNodePage m.params pages block)
    → g.params ≡ m.params → g.entry ≡ m.entry → g.level ≡ m.level → g.hint ≡ m.hint → g.blocks ≡ length pages → ((at : Tid) → node_at g at ≡ node_in m.params pages at) → Stands pages g
stands_from pages g m read good node params entry level hint blocks nodes = record {
  whole = λ block. keeps pages m (sym read) good block (node block);
  meta = m;
  read = read;
  params = params;
  entry = entry;
  level = level;
  hint = hint;
  blocks = blocks;
  nodes = nodes;
}
