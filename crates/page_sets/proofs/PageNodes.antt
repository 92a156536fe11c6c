-- The nodes of a page are the elements among its items.
use Rattle.std.proofs.Common.{◌≡◌, ◌⊎◌, ℕ, zero, suc, ◌+◌, ◌<◌, ◌≤◌, ◌==◌, ◌&&◌, Bool, true, false, cond, T, List, [], ◌∷◌, ◌++◌, map, filter, length, option_to_list, Option, Some, None, refl, sym, ap, ap₂, subst, ◌∙◌, arith, inl, inr}
use Rattle.std.specs.Prelude.{slice_get, All}
use Rattle.std.specs.declared.cmp.Ordering.{Ordering}
use Rattle.std.specs.declared.cmp.Ordering.TheVariants.{Less, Equal, Greater}
use Rattle.std.specs.Ordering.{is_lt, is_eq, nat_cmp, ordering_then}
use Rattle.std.specs.Cmp.{nat_cmp_is}
use Rattle.std.specs.Option.{option_map, option_and_then}
use Rattle.std.specs.FinMap as fin
use Rattle.std.specs.FinMap.Entries.{is_sorted, below_all, where_key, is_sorted-where_key, find-where_key, same_entries}
use Rattle.std.proofs.lemmas.Bool.{eqb-true, eq-eqb, cases_lt}
use Rattle.std.proofs.lemmas.List.{map-append}
use Rattle.std.proofs.lemmas.Option.{slice_get_past}
use Rattle.vec_names.specs.declared.tid.Tid.{Tid}
use Rattle.vec_names.specs.declared.params.Params.{Params}
use Rattle.vec_names.specs.Order.{tid_cmp, tid_cmp_total, tid_cmp_exact}
use Rattle.vec_names.specs.Places.{tid_of, same_tid}
use Rattle.vec_names.proofs.PlaceLaws.{tid_of-some, tid_of-numbers}
use Rattle.page_bytes.specs.Content.{Content, IsPage, item_at}
use Rattle.vec_tuples.specs.declared.element.Element.{Element}
use Rattle.vec_tuples.specs.Reading.{element}
use Rattle.vec_graph.specs.declared.node.Node.{Node}
use Rattle.vec_graph.specs.declared.graph.Graph.{Graph}
use Rattle.vec_graph.specs.Graph.{node_at}
use Rattle.page_redo.specs.PageTuples.{in_whole}
use Rattle.graph_search.specs.Reads.{Seen, seen_of, nodes_on}
use Rattle.graph_pages.specs.Standing.{item_in, element_in, Stands}
use Rattle.graph_pages.proofs.EntrySums.{Entry}
use Rattle.page_sets.specs.Telling.{element_seen, element_shown, all_shown, items_on}
use Rattle.page_sets.proofs.NodeLooks.{node_from, no_node}

both_true : (a b : Bool) → T a → T b → T (a && b)
both_true true b x y = y
both_true false b x y = x

-- ---- entries of a block by their offsets

module _ (g : Graph) (block : ℕ) where
  abbrev pub entry_of : Option Tid → List Entry
  entry_of o = option_to_list (option_and_then (λ (q : Tid). option_map (λ (n : Node). (q, n)) (node_at g q)) o)

  abbrev pub entries_from : ℕ → ℕ → List Entry
  entries_from off zero = []
  entries_from off (suc k) = entry_of (tid_of block off) ++ entries_from (off + 1) k

  -- at an offset there is no node, or one entry
  abbrev IsEntryAt : ℕ → List Entry → Type 0
  IsEntryAt off es =
      ((es ≡ []) × ((q : Tid) → q.block ≡ block → q.off ≡ off → node_at g q ≡ None))
      ⊎ ((q : Tid) × (n : Node) × (es ≡ (q, n) ∷ []) × (q.block ≡ block) × (q.off ≡ off) × (node_at g q ≡ Some n))

  entry_at : (off : ℕ) → IsEntryAt off (entry_of (tid_of block off))
  entry_at off = by_place (tid_of block off) refl
    where
      by_node : (q : Tid) → tid_of block off ≡ Some q → (o : Option Node) → node_at g q ≡ o → IsEntryAt off (entry_of (Some q))
      by_node q is None there =
          let numbers = tid_of-numbers block off q is in
          inl (
            ap (λ (o : Option Node). option_to_list (option_map (λ (n : Node). (q, n)) o)) there,
            λ r b o. ap (node_at g) (same_tid r q (b ∙ sym numbers.0) (o ∙ sym numbers.1)) ∙ there,
          )
      by_node q is (Some n) there =
          let numbers = tid_of-numbers block off q is in
          inr (q, n, ap (λ (o : Option Node). option_to_list (option_map (λ (n : Node). (q, n)) o)) there, numbers.0, numbers.1, there)

      by_place : (o : Option Tid) → tid_of block off ≡ o → IsEntryAt off (entry_of (tid_of block off))
      by_place None is =
          inl (
            ap entry_of is,
            λ r b o. let both : Some r ≡ None = sym (tid_of-some r) ∙ ap₂ tid_of b o ∙ is in absurd cc,
          )
      by_place (Some q) is = subst (λ o. IsEntryAt off (entry_of o)) (sym is) (by_node q is (node_at g q) refl)

  lower : (a b : Tid) → a.block ≡ b.block → a.off < b.off → tid_cmp a b ≡ Less
  lower a b same low =
      let blocks : nat_cmp a.block b.block ≡ Equal = sym (nat_cmp_is a.block b.block Equal same) in
      let offs : nat_cmp a.off b.off ≡ Less = sym (nat_cmp_is a.off b.off Less low) in
      ap (λ r. ordering_then r (nat_cmp a.off b.off)) blocks ∙ offs

  below : (x : Tid) (off k : ℕ) → x.block ≡ block → x.off < off → T (below_all tid_cmp x (entries_from off k))
  below x off zero here low = tt
  below x off (suc k) here low =
      let rest = below x (off + 1) k here (omega (arith, low)) in
      elim (entry_at off) as (λ _. T (below_all tid_cmp x (entry_of (tid_of block off) ++ entries_from (off + 1) k))) [
        | inl e ↦ subst (λ (es : List Entry). T (below_all tid_cmp x (es ++ entries_from (off + 1) k))) (sym e.0) rest
        | inr e ↦
            let less : tid_cmp x e.0 ≡ Less = lower x e.0 (here ∙ sym e.3) (omega (arith, low, e.4)) in
            subst (λ (es : List Entry). T (below_all tid_cmp x (es ++ entries_from (off + 1) k))) (sym e.2)
            (both_true (is_lt (tid_cmp x e.0)) (below_all tid_cmp x (entries_from (off + 1) k)) (subst (λ r. T (is_lt r)) (sym less) tt) rest)
      ]

  sorted : (off k : ℕ) → T (is_sorted tid_cmp (entries_from off k))
  sorted off zero = tt
  sorted off (suc k) =
      let rest = sorted (off + 1) k in
      elim (entry_at off) as (λ _. T (is_sorted tid_cmp (entry_of (tid_of block off) ++ entries_from (off + 1) k))) [
        | inl e ↦ subst (λ (es : List Entry). T (is_sorted tid_cmp (es ++ entries_from (off + 1) k))) (sym e.0) rest
        | inr e ↦
            subst (λ (es : List Entry). T (is_sorted tid_cmp (es ++ entries_from (off + 1) k))) (sym e.2)
            (both_true (below_all tid_cmp e.0 (entries_from (off + 1) k)) (is_sorted tid_cmp (entries_from (off + 1) k))
            (below e.0 (off + 1) k e.3 (omega (arith, e.4))) rest)
      ]

  abbrev found : Tid → List Entry → Option Node
  found q es = fin.find tid_cmp q es

  other_key : (q r : Tid) (n : Node) (es : List Entry) → (q ≡ r → ⊥) → found q ((r, n) ∷ es) ≡ found q es
  other_key q r n es apart = by_order (tid_cmp q r) refl
    where
      by_order : (o : Ordering) → tid_cmp q r ≡ o → cond (is_eq (tid_cmp q r)) (Some n) (found q es) ≡ found q es
      by_order Less is = ap (λ o. cond (is_eq o) (Some n) (found q es)) is
      by_order Equal is = absurd (apart (tid_cmp_exact q r is))
      by_order Greater is = ap (λ o. cond (is_eq o) (Some n) (found q es)) is

  -- a place of another block, or at no offset of these, is not among them
  abbrev IsOutside : Tid → ℕ → ℕ → Type 0
  IsOutside q off k = (q.block ≡ block → ⊥) ⊎ ((q.off < off) ⊎ (off + k ≤ q.off))

  missed : (q : Tid) (off k : ℕ) → IsOutside q off k → found q (entries_from off k) ≡ None
  missed q off zero out = refl
  missed q off (suc k) out =
      let rest = missed q (off + 1) k (later out) in
      elim (entry_at off) as (λ _. found q (entry_of (tid_of block off) ++ entries_from (off + 1) k) ≡ None) [
        | inl e ↦ ap (λ (es : List Entry). found q (es ++ entries_from (off + 1) k)) e.0 ∙ rest
        | inr e ↦
            ap (λ (es : List Entry). found q (es ++ entries_from (off + 1) k)) e.2
            ∙ other_key q e.0 e.1 (entries_from (off + 1) k)
            (λ same. apart out (ap (λ (t : Tid). t.block) same ∙ e.3) (ap (λ (t : Tid). t.off) same ∙ e.4)) ∙ rest
      ]
    where
      later : IsOutside q off (suc k) → IsOutside q (off + 1) k
      later (inl other) = inl other
      later (inr (inl low)) = inr (inl (omega (arith, low)))
      later (inr (inr high)) = inr (inr (omega (arith, high)))

      apart : IsOutside q off (suc k) → q.block ≡ block → q.off ≡ off → ⊥
      apart (inl other) b o = other b
      apart (inr (inl low)) b o = absurd (omega (arith, low, o))
      apart (inr (inr high)) b o = absurd (omega (arith, high, o))

  hit : (q : Tid) (off k : ℕ) → q.block ≡ block → off ≤ q.off → q.off < off + k → found q (entries_from off k) ≡ node_at g q
  hit q off zero here low high = absurd (omega (arith, low, high))
  hit q off (suc k) here low high = elim (cases_lt off q.off) as (λ _. found q (entries_from off (suc k)) ≡ node_at g q) [
    | inl behind ↦
        let rest = hit q (off + 1) k here (omega (arith, behind)) (omega (arith, high)) in
        elim (entry_at off) as (λ _. found q (entry_of (tid_of block off) ++ entries_from (off + 1) k) ≡ node_at g q) [
          | inl e ↦ ap (λ (es : List Entry). found q (es ++ entries_from (off + 1) k)) e.0 ∙ rest
          | inr e ↦
              ap (λ (es : List Entry). found q (es ++ entries_from (off + 1) k)) e.2
              ∙ other_key q e.0 e.1 (entries_from (off + 1) k)
              (λ same. let o : q.off ≡ off = ap (λ (t : Tid). t.off) same ∙ e.4 in absurd (omega (arith, behind, o))) ∙ rest
        ]
    | inr first ↦
        let at : q.off ≡ off = omega (arith, first, low) in
        elim (entry_at off) as (λ _. found q (entry_of (tid_of block off) ++ entries_from (off + 1) k) ≡ node_at g q) [
          | inl e ↦
              ap (λ (es : List Entry). found q (es ++ entries_from (off + 1) k)) e.0
              ∙ missed q (off + 1) k (inr (inl (omega (arith, at)))) ∙ sym (e.1 q here at)
          | inr e ↦
              let same : q ≡ e.0 = same_tid q e.0 (here ∙ sym e.3) (at ∙ sym e.4) in
              let tied : tid_cmp q e.0 ≡ Equal = ap (tid_cmp q) (sym same) ∙ equal_itself q in
              ap (λ (es : List Entry). found q (es ++ entries_from (off + 1) k)) e.2
              ∙ ap (λ o. cond (is_eq o) (Some e.1) (found q (entries_from (off + 1) k))) tied
              ∙ sym e.5 ∙ ap (node_at g) (sym same)
        ]
  ]
    where
      equal_itself : (t : Tid) → tid_cmp t t ≡ Equal
      equal_itself t =
          ap₂ ordering_then (sym (nat_cmp_is t.block t.block Equal refl)) (sym (nat_cmp_is t.off t.off Equal refl))

  -- the entries of the block are these, where no node of it stands behind so many offsets
  abbrev here_on : Tid → Bool
  here_on q = q.block == block

  pub block_entries : (k : ℕ) → ((q : Tid) → q.block ≡ block → k < q.off → node_at g q ≡ None)
      → filter (λ (e : Entry). e.0.block == block) (fin.entries g.nodes) ≡ entries_from 1 k
  block_entries k none =
      same_entries tid_cmp tid_cmp_total tid_cmp_exact (where_key tid_cmp here_on (fin.entries g.nodes)) (entries_from 1 k)
      (is_sorted-where_key tid_cmp here_on (fin.entries g.nodes) (fin.entries_sorted g.nodes)) (sorted 1 k)
      (λ q. find-where_key tid_cmp here_on q (λ x tied. ap here_on (sym (tid_cmp_exact q x tied))) (fin.entries g.nodes)
      ∙ ap (λ (o : Option Node). cond (here_on q) o None) (sym (fin.get-entries g.nodes q)) ∙ by_block q (here_on q) refl)
    where
      by_block : (q : Tid) (b : Bool) → here_on q ≡ b → cond (here_on q) (node_at g q) None ≡ found q (entries_from 1 k)
      by_block q true is =
          let same : q.block ≡ block = eqb-true q.block block is in
          ap (λ (b : Bool). cond b (node_at g q) None) is
          ∙ elim (cases_lt k q.off) as (λ _. node_at g q ≡ found q (entries_from 1 k)) [
            | inl past ↦ none q same past ∙ sym (missed q 1 k (inr (inr (omega (arith, past)))))
            | inr within ↦ sym (hit q 1 k same q.counted_from_one (omega (arith, within)))
          ]
      by_block q false is =
          ap (λ (b : Bool). cond b (node_at g q) None) is
          ∙ sym (missed q 1 k (inl (λ same. let both : true ≡ false = sym (eq-eqb q.block block same) ∙ is in absurd cc)))

-- ---- what they show

item_there : (pages : List Content) (q : Tid) (block : ℕ) → q.block ≡ block → item_in pages q ≡ item_at (items_on (slice_get pages block)) q.off
item_there pages q block same =
    by_page (slice_get pages q.block) q.off ∙ ap (λ (b : ℕ). item_at (items_on (slice_get pages b)) q.off) same
  where
    by_page : (o : Option Content) (off : ℕ) → option_and_then (λ (c : Content). item_at c.items off) o ≡ item_at (items_on o) off
    by_page None zero = refl
    by_page None (suc off) = refl
    by_page (Some c) off = refl

module _ (pages : List Content) (g : Graph) (p : Params) (all : All IsPage pages) (s : Stands pages g) (same : g.params ≡ p) (block : ℕ) where
  abbrev items : List (List ℕ)
  items = items_on (slice_get pages block)

  pub element_there : (q : Tid) (x : List ℕ) → q.block ≡ block → item_at items q.off ≡ Some x → element_in p pages q ≡ in_whole (element p x)
  element_there q x here is = ap (option_and_then (λ x. in_whole (element p x))) (item_there pages q block here ∙ is)

  shows : (off : ℕ) (x : List ℕ) → item_at items off ≡ Some x
      → map seen_of (option_to_list (option_and_then (λ (q : Tid). option_map (λ (n : Node). (q, n)) (node_at g q)) (tid_of block off)))
      ≡ element_shown p block off x
  shows off x is = by_place (tid_of block off) refl
    where
      none_shown : (o : Option Element) → [] ≡ option_to_list (option_and_then (λ (e : Element). option_map (element_seen e) None) o)
      none_shown None = refl
      none_shown (Some e) = refl

      by_element : (q : Tid) → element_in p pages q ≡ in_whole (element p x) → (o : Option Element) → in_whole (element p x) ≡ o
          → map seen_of (option_to_list (option_map (λ (n : Node). (q, n)) (node_at g q))) ≡ option_to_list (option_and_then (λ (e : Element). option_map (element_seen e) (Some q)) o)
      by_element q there None is =
          ap (λ (o : Option Node). map seen_of (option_to_list (option_map (λ (n : Node). (q, n)) o))) (no_node pages g p all s same q (there ∙ is))
      by_element q there (Some e) is =
          let n = node_from pages g p all s same q e (there ∙ is) in
          ap (λ (o : Option Node). map seen_of (option_to_list (option_map (λ (n : Node). (q, n)) o))) n.1

      by_place : (o : Option Tid) → tid_of block off ≡ o
          → map seen_of (option_to_list (option_and_then (λ (q : Tid). option_map (λ (n : Node). (q, n)) (node_at g q)) (tid_of block off)))
          ≡ element_shown p block off x
      by_place None e =
          ap (λ (o : Option Tid). map seen_of (option_to_list (option_and_then (λ (q : Tid). option_map (λ (n : Node). (q, n)) (node_at g q)) o))) e
          ∙ none_shown (in_whole (element p x))
          ∙ sym (ap (λ (o : Option Tid). option_to_list (option_and_then (λ (e : Element). option_map (element_seen e) o) (in_whole (element p x)))) e)
      by_place (Some q) e =
          let numbers = tid_of-numbers block off q e in
          let there = element_there q x numbers.0 (ap (item_at items) numbers.1 ∙ is) in
          ap (λ (o : Option Tid). map seen_of (option_to_list (option_and_then (λ (q : Tid). option_map (λ (n : Node). (q, n)) (node_at g q)) o))) e
          ∙ by_element q there (in_whole (element p x)) refl
          ∙ sym (ap (λ (o : Option Tid). option_to_list (option_and_then (λ (e : Element). option_map (element_seen e) o) (in_whole (element p x)))) e)

  all_show : (xs : List (List ℕ)) (off : ℕ) → ((j : ℕ) (x : List ℕ) → slice_get xs j ≡ Some x → item_at items (off + j) ≡ Some x)
      → map seen_of (entries_from g block off (length xs)) ≡ all_shown (element_shown p block) off xs
  all_show [] off are = refl
  all_show (x ∷ xs) off are =
      let here : off + 0 ≡ off = omega arith in
      let rest = all_show xs (off + 1) (λ j y is. let next : off + 1 + j ≡ off + suc j = omega arith in ap (item_at items) next ∙ are (suc j) y is) in
      map-append seen_of (entry_of g block (tid_of block off)) (entries_from g block (off + 1) (length xs))
      ∙ ap₂ (λ (a b : List Seen). a ++ b) (shows off x (ap (item_at items) (sym here) ∙ are 0 x refl)) rest

  pub nothing_behind : (q : Tid) → q.block ≡ block → length items < q.off → node_at g q ≡ None
  nothing_behind q here past =
      no_node pages g p all s same q
      (ap (option_and_then (λ x. in_whole (element p x))) (item_there pages q block here ∙ by_off q.off past))
    where
      by_off : (off : ℕ) → length items < off → item_at items off ≡ None
      by_off zero past = refl
      by_off (suc i) past = slice_get_past items i (omega (arith, past))

  pub page_says : (held : Option Content) → held ≡ slice_get pages block → all_shown (element_shown p block) 1 (items_on held) ≡ nodes_on g block
  page_says held has =
      ap (λ (o : Option Content). all_shown (element_shown p block) 1 (items_on o)) has
      ∙ sym (ap (map seen_of) (block_entries g block (length items) nothing_behind)
      ∙ all_show items 1 (λ j x is. let next : 1 + j ≡ suc j = omega arith in ap (item_at items) next ∙ is))
