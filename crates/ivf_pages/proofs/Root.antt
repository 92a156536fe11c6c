-- What is known of block 0, and where the list tuples stand.
use Rattle.std.proofs.Common.{◌≡◌, ℕ, zero, suc, ◌+◌, ◌*◌, ◌/◌, ◌%◌, ◌<◌, ◌≤◌, ◌&&◌, ◌==◌, min, not, true, false, List, length, Some, refl, sym, ap, subst, ◌∙◌, arith, inl, inr}
use Rattle.std.specs.Prelude.{slice_get, All}
use Rattle.std.specs.Option.{option_and_then}
use Rattle.std.proofs.lemmas.Bool.{and_parts, cases_lt}
use native.Mathlib.Nat.{div-add-mod'}
use Rattle.std.proofs.lemmas.Nat.{div_below, mod_below}
use Rattle.index_sizes.specs.declared.limits.TheConstants.{PAGE_ROOM}
use Rattle.index_sizes.specs.Sizes.{item_need, centre_size, centres_on_page}
use Rattle.vec_names.specs.declared.params.Params.{Params}
use Rattle.vec_names.specs.Params.{IsInRange}
use Rattle.page_bytes.specs.declared.kind.PageKind.{PageKind}
use Rattle.page_bytes.specs.declared.kind.PageKind.TheVariants.{Meta as MetaPage, Hnsw, IvfLists, IvfEntries}
use Rattle.page_bytes.specs.Content.{Content, IsPage, item_at}
use Rattle.vec_tuples.specs.declared.meta.Meta.{Meta}
use Rattle.vec_tuples.specs.Reading.{meta}
use Rattle.vec_tuples.proofs.MetaLaws.{meta_field}
use Rattle.byte_fields.proofs.EachField.{some_is}
use Rattle.ivf_graph.specs.declared.graph.IvfGraph.{IvfGraph}
use Rattle.page_redo.specs.PageTuples.{in_whole, meta_at, is_graph, is_meta_page, is_lists_page, is_entries_page}
use Rattle.page_redo.specs.PageChanges.{list_block}
use Rattle.page_redo.proofs.ItemLaws.{whole_spelled}
use Rattle.page_redo.proofs.Given.{then_is, if_is, when_is, item_bytes}
use Rattle.ivf_pages.specs.Standing.{of_lists, params_on, params_in, lists_end, KeepsRulesOf, Stands}

-- ---- block 0

-- the meta page
pub record IsRootOf (pages : List Content) (p : Params) : Type 0 where
  pub page : Content
  pub there : slice_get pages 0 ≡ Some page
  pub of_kind : is_meta_page page.kind ≡ true
  pub meta : Meta
  pub reads : meta_at page ≡ Some meta
  pub is_params : meta.params ≡ p
  pub lists : not (is_graph p.kind) ≡ true

pub root_is : (pages : List Content) (p : Params) → params_in pages ≡ Some p → IsRootOf pages p
root_is pages p is =
    let a = then_is params_on (slice_get pages 0) p is in
    let b = if_is (is_meta_page a.0.kind && length a.0.items == 1) (option_and_then of_lists (meta_at a.0)) p a.2 in
    let tests = and_parts (is_meta_page a.0.kind) (length a.0.items == 1) b.0 in
    let c = then_is of_lists (meta_at a.0) p b.1 in
    let d = when_is (not (is_graph c.0.params.kind)) c.0.params p c.2 in
    record {
      page = a.0;
      there = a.1;
      of_kind = tests.0;
      meta = c.0;
      reads = c.1;
      is_params = d.1;
      lists = ap (λ (q : Params). not (is_graph q.kind)) (sym d.1) ∙ d.0;
    }

pub in_range : (pages : List Content) (p : Params) → All IsPage pages → params_in pages ≡ Some p → IsInRange p
in_range pages p all is =
    let r = root_is pages p is in
    let x = then_is (λ x. in_whole (meta x)) (item_at r.page.items 1) r.meta r.reads in
    let spelled = whole_spelled meta_field x.0 r.meta (item_bytes pages 0 1 r.page x.0 all r.there x.1) x.2 in
    subst IsInRange r.is_params spelled.0.params

-- ---- kinds

pub no_meta : (k : PageKind) → is_entries_page k ≡ true → is_meta_page k ≡ true → ⊥
no_meta MetaPage a b = absurd cc
no_meta Hnsw a b = absurd cc
no_meta IvfLists a b = absurd cc
no_meta IvfEntries a b = absurd cc

pub no_lists : (k : PageKind) → is_entries_page k ≡ true → is_lists_page k ≡ true → ⊥
no_lists MetaPage a b = absurd cc
no_lists Hnsw a b = absurd cc
no_lists IvfLists a b = absurd cc
no_lists IvfEntries a b = absurd cc

pub no_entries : (k : PageKind) → is_lists_page k ≡ true → is_entries_page k ≡ false
no_entries MetaPage a = absurd cc
no_entries Hnsw a = absurd cc
no_entries IvfLists a = refl
no_entries IvfEntries a = absurd cc

pub no_meta_lists : (k : PageKind) → is_lists_page k ≡ true → is_meta_page k ≡ true → ⊥
no_meta_lists MetaPage a b = absurd cc
no_meta_lists Hnsw a b = absurd cc
no_meta_lists IvfLists a b = absurd cc
no_meta_lists IvfEntries a b = absurd cc

-- where the parameters are known and no block breaks a rule
module _ (p : Params) (pages : List Content) (known : params_in pages ≡ Some p) (whole : (block : ℕ) → KeepsRulesOf p pages block)
    (block : ℕ) (c : Content) (there : slice_get pages block ≡ Some c) where
  first_kind : block ≡ 0 → is_meta_page c.kind ≡ true
  first_kind first =
      let r = root_is pages p known in
      let same : r.page ≡ c = some_is r.page c (sym r.there ∙ ap (slice_get pages) (sym first) ∙ there) in
      ap (λ (d : Content). is_meta_page d.kind) (sym same) ∙ r.of_kind

  -- a page of entries is behind those of the list tuples
  pub entries_past : is_entries_page c.kind ≡ true → lists_end p < block
  entries_past kind = elim (cases_lt (lists_end p) block) as (λ _. lists_end p < block) [
    | inl h ↦ h
    | inr low ↦ by_block block refl low
  ]
    where
      by_block : (b : ℕ) → block ≡ b → block ≤ lists_end p → lists_end p < block
      by_block zero e low = absurd (no_meta c.kind kind (first_kind e))
      by_block (suc b) e low =
          let l = (whole block).lists (omega (arith, e)) low in
          let same : l.page ≡ c = some_is l.page c (sym l.there ∙ there) in
          absurd (no_lists c.kind kind (ap (λ (d : Content). is_lists_page d.kind) (sym same) ∙ l.kind))

module _ (p : Params) (pages : List Content) (g : IvfGraph) (s : Stands p pages g) (block : ℕ) (c : Content) (there : slice_get pages block ≡ Some c) where
  pub entries_behind : is_entries_page c.kind ≡ true → lists_end p < block
  entries_behind kind = entries_past p pages s.params s.whole block c there kind

  -- and one of list tuples is none of them, and not block 0
  pub lists_before : is_lists_page c.kind ≡ true → (1 ≤ block) × (block ≤ lists_end p)
  lists_before kind = (
    by_block block refl,
    elim (cases_lt (lists_end p) block) as (λ _. block ≤ lists_end p) [
      | inl h ↦ absurd (no_lists c.kind ((s.whole block).entries h c there).kind kind)
      | inr low ↦ low
    ],
  )
    where
      by_block : (b : ℕ) → block ≡ b → 1 ≤ block
      by_block zero e = absurd (no_meta_lists c.kind kind (first_kind p pages s.params s.whole block c there e))
      by_block (suc b) e = omega (arith, e)

-- ---- list tuples

some_by : (q x : ℕ) → PAGE_ROOM < x * (q + 1) → x ≤ 8028 → 0 < q
some_by zero x h low = absurd (omega arith)
some_by (suc q) x h low = omega arith

pub some_a_page : (p : Params) → IsInRange p → 0 < centres_on_page p.bits
some_a_page p r =
    let need : 0 < item_need (centre_size p.bits) = omega arith in
    let split = div-add-mod' PAGE_ROOM (item_need (centre_size p.bits)) in
    let less = mod_below PAGE_ROOM (item_need (centre_size p.bits)) need in
    some_by (PAGE_ROOM / item_need (centre_size p.bits)) (item_need (centre_size p.bits)) (omega (arith, split, less)) (omega (arith, r.bits_high))

below_by : (n c q r list : ℕ) → q * c + r ≡ n → r < c → list < n → (list / c) * c + list % c ≡ list → 1 + list / c ≤ q + min 1 r
below_by n c q zero list split less low own = omega (arith, low_quotient)
  where
    low_quotient : list / c < q
    low_quotient = div_below list c q (omega (arith, less)) (omega (arith, split, low))
below_by n c q (suc r) list split less low own = omega (arith, low_quotient)
  where
    low_quotient : list / c < q + 1
    low_quotient = div_below list c (q + 1) (omega (arith, less)) (omega (arith, split, low, less))

-- a list's tuple stands on one of their blocks
pub list_block_low : (p : Params) → IsInRange p → (list : ℕ) → list < p.lists → list_block p list ≤ lists_end p
list_block_low p r list low =
    let c = centres_on_page p.bits in
    let some = some_a_page p r in
    below_by p.lists c (p.lists / c) (p.lists % c) list (div-add-mod' p.lists c) (mod_below p.lists c some) low (div-add-mod' list c)
