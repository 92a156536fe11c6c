-- The page of a meta tuple stands for a graph without nodes.
use Rattle.std.proofs.Common.{◌≡◌, ◌↔◌, ℕ, ◌+◌, ◌<◌, length, zero, suc, ◌≤◌, List, [], ◌∷◌, Some, None, refl, sym, ap, subst, ◌∙◌, arith}
use Rattle.std.specs.Prelude.{slice_get, IsNone, OnSome, Option}
use Rattle.std.specs.Option.{option_map, option_and_then}
use Rattle.std.specs.FinMap as fin
use Rattle.std.proofs.lemmas.Option.{none-some}
use Rattle.vec_names.specs.declared.tid.Tid.{Tid}
use Rattle.vec_names.specs.declared.params.Params.{Params}
use Rattle.vec_names.specs.declared.params.Kind.TheVariants.{Hnsw}
use Rattle.vec_names.specs.Params.{IsInRange}
use Rattle.vec_names.specs.Order.{tid_cmp}
use Rattle.page_bytes.specs.Content.{Content, free_of, item_at, round8, taken}
use Rattle.page_bytes.specs.declared.kind.PageKind.TheVariants as pages
use Rattle.vec_tuples.specs.declared.meta.Meta.{Meta}
use Rattle.vec_tuples.specs.declared.element.Element.{Element}
use Rattle.vec_tuples.specs.Spelling.{IsEntryOf, IsHintOf, IsMeta, meta_bytes}
use Rattle.vec_tuples.specs.Reading.{element, meta}
use Rattle.vec_tuples.proofs.MetaLaws.{meta_field}
use Rattle.page_redo.specs.PageTuples.{in_whole, is_graph}
use Rattle.page_redo.specs.PageChanges.{when}
use Rattle.page_redo.proofs.ItemLaws.{whole_read}
use Rattle.graph_pages.specs.Standing.{IsNodePage, KeepsRules, KeepsRulesUnder, Stands, links_in, node_in, node_with, of_graph, root}
use Rattle.graph_pages.proofs.KindsApart.{meta_is_no_element}
use Rattle.empty_index.specs.Empty.{empty_graph}

abbrev pub meta_of : Params → Meta
meta_of p = record { format = 2; params = p; entry = None; level = 0; hint = 1 }

is_meta : (p : Params) → IsInRange p → p.kind ≡ Hnsw → IsMeta (meta_of p)
is_meta p range of_nodes = record {
  format_low = omega arith;
  format_high = omega arith;
  params = range;
  entry = subst (λ k. IsEntryOf k None) (sym of_nodes) tt;
  level = (refl, omega arith);
  hint = subst (λ k. IsHintOf k 1) (sym of_nodes) (omega arith, omega arith);
}

abbrev pub page_of : Params → Content
page_of p = record { kind = pages.Meta; next = None; number = 0; items = meta_bytes (meta_of p) ∷ [] }

reads_back : (p : Params) → IsInRange p → p.kind ≡ Hnsw → in_whole (meta (meta_bytes (meta_of p))) ≡ Some (meta_of p)
reads_back p range of_nodes = whole_read meta_field (meta_bytes (meta_of p)) (meta_of p) (is_meta p range of_nodes) refl

root_is : (p : Params) → IsInRange p → p.kind ≡ Hnsw → root (page_of p ∷ []) ≡ Some (meta_of p)
root_is p range of_nodes =
    ap (λ o. option_and_then of_graph o) (reads_back p range of_nodes) ∙ ap (λ k. when (is_graph k) (meta_of p)) of_nodes

no_page : (p : Params) (block : ℕ) → slice_get (page_of p ∷ []) (suc block) ≡ None
no_page p block = refl

node_page : (p : Params) (block : ℕ) → IsNodePage p (page_of p ∷ []) (suc block)
node_page p block = record {
  kind = λ c is. absurd (none-some c is);
  items = λ at x on is. absurd (none-some x (sym (ap (λ b. option_and_then (λ (c : Content). item_at c.items at.off) (slice_get (page_of p ∷ []) b)) on) ∙ is));
}

keeps : (p : Params) → IsInRange p → p.kind ≡ Hnsw → (block : ℕ) → KeepsRules (page_of p ∷ []) block
keeps p range of_nodes zero = subst (λ o. KeepsRulesUnder o (page_of p ∷ []) zero) (sym (root_is p range of_nodes)) refl
keeps p range of_nodes (suc block) =
    subst (λ o. KeepsRulesUnder o (page_of p ∷ []) (suc block)) (sym (root_is p range of_nodes)) (node_page p block)

-- no item of the page is an element: its only one is the meta tuple
no_element : (p : Params) (off : ℕ) → option_and_then (λ x. in_whole (element p x)) (item_at (meta_bytes (meta_of p) ∷ []) off) ≡ None
no_element p zero = refl
no_element p (suc zero) = meta_is_no_element p (meta_of p)
no_element p (suc (suc off)) = refl

none_there : (p : Params) (block off : ℕ)
    → option_and_then (λ x. in_whole (element p x)) (option_and_then (λ (c : Content). item_at c.items off) (slice_get (page_of p ∷ []) block)) ≡ None
none_there p zero off = no_element p off
none_there p (suc block) off = refl

no_node_at : (p : Params) (at : Tid) → node_in p (page_of p ∷ []) at ≡ None
no_node_at p at =
    ap (λ o. option_and_then (λ (e : Element). option_map (node_with e) (links_in p (page_of p ∷ []) e.list_at)) o) (none_there p at.block at.off)

pub stand : (p : Params) → IsInRange p → p.kind ≡ Hnsw → Stands (page_of p ∷ []) (empty_graph p)
stand p range of_nodes = record {
  whole = keeps p range of_nodes;
  meta = meta_of p;
  read = root_is p range of_nodes;
  params = refl;
  entry = refl;
  level = refl;
  hint = refl;
  blocks = refl;
  nodes = λ at. fin.get-empty tid_cmp at ∙ sym (no_node_at p at);
}

-- the meta tuple has room on a fresh page
pub one_item : {P : Type 0} (o : Option ℕ) (x : List ℕ) (fresh : Content) → fresh ≡ record { kind = pages.Meta; next = None; number = 0; items = [] }
    → length x ≡ 32 → (IsNone o ↔ (free_of fresh < round8 (length x) + 4)) → OnSome o P → P
unfolding round8 taken
one_item (Some off) x fresh is long refused added = added
one_item None x fresh is long refused added =
    let less : free_of fresh < round8 (length x) + 4 = refused.0 refl in
    let room : 8160 < 36 = subst (λ (n : ℕ). 8160 < round8 n + 4) long (subst (λ (c : Content). free_of c < round8 (length x) + 4) is less) in
    absurd (omega (arith, room))
