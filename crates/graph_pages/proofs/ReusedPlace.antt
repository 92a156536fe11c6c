-- The place that the graph gives anew is that of the deleted element at the lowest offset.
use Rattle.std.proofs.Common.{◌≡◌, inl, inr, ℕ, ◌<◌, ◌≤◌, ◌==◌, ◌&&◌, Bool, true, false, cond, List, [], ◌∷◌, find, Option, Some, None, refl, sym, ap, subst, ◌∙◌, arith}
use Rattle.std.specs.List.{All}
use Rattle.std.specs.declared.cmp.Ordering.{Ordering}
use Rattle.std.specs.declared.cmp.Ordering.TheVariants.{Less, Equal, Greater}
use Rattle.std.specs.Ordering.{is_eq, nat_cmp, ordering_then}
use Rattle.std.specs.Cmp.{nat_cmp_is}
use Rattle.std.specs.FinMap as fin
use Rattle.std.proofs.lemmas.Bool.{and_parts, and_from, eqb-true, eq-eqb, cases_lt}
use Rattle.byte_fields.proofs.EachField.{some_is}
use Rattle.vec_names.specs.declared.tid.Tid.{Tid}
use Rattle.vec_names.specs.Order.{tid_cmp, tid_cmp_total, tid_cmp_exact}
use Rattle.vec_names.specs.Places.{same_tid}
use Rattle.page_bytes.specs.Content.{Content, IsPage}
use Rattle.vec_tuples.specs.declared.element.ElementHead.{ElementHead}
use Rattle.vec_graph.specs.declared.place.Place.{Place}
use Rattle.vec_graph.specs.declared.node.Node.{Node}
use Rattle.vec_graph.specs.declared.graph.Graph.{Graph}
use Rattle.vec_graph.specs.Graph.{node_at}
use Rattle.vec_graph.specs.Places.{is_reusable, reused}
use Rattle.vec_graph.proofs.Placing.{stands_there, passes_there}
use Rattle.graph_pages.specs.Standing.{head_in, Stands}
use Rattle.graph_pages.specs.Choosing.{IsReusableAt, IsLowestReusable}
use Rattle.graph_pages.proofs.TwoItems.{none_or_some}
use Rattle.graph_pages.proofs.EntrySums.{Entry, Has, Rises, behind_first, others_rise}
use Rattle.graph_pages.proofs.FollowLaws.{node_of, head_of}

-- ---- the first entry that passes a test

passes_first : (test : Entry → Bool) (e : Entry) (es : List Entry) (q : Tid) (n : Node) → Has (e ∷ es) q n → test e ≡ false → test (q, n) ≡ true → Has es q n
passes_first test e es q n has fails passes = by_order (tid_cmp q e.0) refl has
  where
    by_order : (r : Ordering) → tid_cmp q e.0 ≡ r → cond (is_eq r) (Some e.1) (fin.find tid_cmp q es) ≡ Some n → Has es q n
    by_order Equal is found =
        let entry : (q, n) ≡ e = ap (λ (t : Tid). (t, n)) (tid_cmp_exact q e.0 is) ∙ ap (λ (m : Node). (e.0, m)) (sym (some_is e.1 n found)) in
        let both = sym passes ∙ ap test entry ∙ fails in absurd cc
    by_order Less is found = found
    by_order Greater is found = found

not_lower : (e : Entry) (es : List Entry) (q : Tid) (n : Node) → Rises (e ∷ es) → Has (e ∷ es) q n → tid_cmp q e.0 ≡ Less → ⊥
not_lower e es q n rises has less =
    let found : Has es q n = sym (ap (λ r. cond (is_eq r) (Some e.1) (fin.find tid_cmp q es)) less) ∙ has in
    let greater = behind_first e es q n rises found in absurd cc

first_found : (test : Entry → Bool) (es : List Entry) (e : Entry) → Rises es → find test es ≡ Some e
    → (q : Tid) (n : Node) → Has es q n → test (q, n) ≡ true → tid_cmp q e.0 ≡ Less → ⊥
first_found test [] e rises found q n has passes less = none_or_some e found
first_found test (f ∷ fs) e rises found q n has passes less =
    by_test (test f) refl found (λ rest there. first_found test fs e (others_rise f fs rises) rest q n there passes less)
  where
    by_test : (b : Bool) → test f ≡ b → cond b (Some f) (find test fs) ≡ Some e → (find test fs ≡ Some e → Has fs q n → ⊥) → ⊥
    by_test true is here rest = not_lower f fs q n rises has (ap (λ (g : Entry). tid_cmp q g.0) (some_is f e here) ∙ less)
    by_test false is here rest = rest here (passes_first test f fs q n has is passes)

none_found : (test : Entry → Bool) (es : List Entry) → find test es ≡ None → (q : Tid) (n : Node) → Has es q n → test (q, n) ≡ true → ⊥
none_found test [] found q n has passes = none_or_some n has
none_found test (f ∷ fs) found q n has passes = by_test (test f) refl found (λ rest there. none_found test fs rest q n there passes)
  where
    by_test : (b : Bool) → test f ≡ b → cond b (Some f) (find test fs) ≡ None → (find test fs ≡ None → Has fs q n → ⊥) → ⊥
    by_test true is here rest = none_or_some f (sym here)
    by_test false is here rest = rest here (passes_first test f fs q n has is passes)

lower : (a b : Tid) → a.block ≡ b.block → a.off < b.off → tid_cmp a b ≡ Less
lower a b same low =
    let blocks : nat_cmp a.block b.block ≡ Equal = sym (nat_cmp_is a.block b.block Equal same) in
    let offs : nat_cmp a.off b.off ≡ Less = sym (nat_cmp_is a.off b.off Less low) in
    ap (λ r. ordering_then r (nat_cmp a.off b.off)) blocks ∙ offs

-- ---- pages that stand for a graph

module _ (pages : List Content) (g : Graph) (block level : ℕ) (all : All IsPage pages) (s : Stands pages g) where
  abbrev es : List Entry
  es = fin.entries g.nodes

  abbrev test : Entry → Bool
  test = is_reusable block level

  -- a deleted element of the level is an entry that passes
  passes : (at : Tid) → at.block ≡ block → (e : IsReusableAt g.params pages level at)
      → (n : Node) × Has es at n × (test (at, n) ≡ true) × (n.list_at ≡ e.head.list_at) × (n.version ≡ e.head.version)
  passes at same e =
      let n = node_of pages g g.params all s refl at e.head e.there in
      let kinds = n.4 in (
        n.0,
        sym (fin.get-entries g.nodes at) ∙ n.1,
        and_from (at.block == block) (n.0.deleted && (n.0.level == level)) (eq-eqb at.block block same)
            (and_from n.0.deleted (n.0.level == level) (kinds.0 ∙ e.deleted) (eq-eqb n.0.level level (n.3 ∙ e.of_level))),
        n.2,
        kinds.1,
      )

  -- and an entry that passes is one
  reusable : (e : Entry) → find test es ≡ Some e
      → (e.0.block ≡ block) × (r : IsReusableAt g.params pages level e.0) × (r.head.list_at ≡ e.1.list_at) × (r.head.version ≡ e.1.version)
  reusable e found =
      let stands : node_at g e.0 ≡ Some e.1 = fin.get-entries g.nodes e.0 ∙ stands_there tid_cmp tid_cmp_total es test e (fin.entries_sorted g.nodes) found in
      let is = and_parts (e.0.block == block) (e.1.deleted && (e.1.level == level)) (passes_there tid_cmp tid_cmp_total es test e found) in
      let gone = and_parts e.1.deleted (e.1.level == level) is.1 in
      let h = head_of pages g g.params all s refl e.0 e.1 stands in
      let kinds = h.4 in (
        eqb-true e.0.block block is.0,
        record { head = h.0; there = h.1; deleted = kinds.0 ∙ gone.0; of_level = h.3 ∙ eqb-true e.1.level level gone.1 },
        h.2,
        kinds.1,
      )

  lowest_of : (e : Entry) → find test es ≡ Some e → (other : Tid) → other.block ≡ block → other.off < e.0.off → IsReusableAt g.params pages level other → ⊥
  lowest_of e found other same low r =
      let p = passes other same r in
      first_found test es e (fin.entries_sorted g.nodes) found other p.0 p.1 p.2 (lower other e.0 (same ∙ sym (reusable e found).0) low)

  pub taken : (spot : Place) → reused (find test es) ≡ Some spot → IsLowestReusable g.params pages block level spot
  taken spot is = by_found (find test es) refl is
    where
      by_found : (o : Option Entry) → find test es ≡ o → reused o ≡ Some spot → IsLowestReusable g.params pages block level spot
      by_found None found is = absurd (none_or_some spot is)
      by_found (Some e) found is =
          let r = reusable e found in
          let here : IsLowestReusable g.params pages block level (record { at = e.0; list_at = e.1.list_at; version = e.1.version }) = record {
            on_block = r.0;
            element = r.1;
            list = r.2;
            version = r.3;
            lowest = lowest_of e found;
          } in
          subst (IsLowestReusable g.params pages block level) (some_is (record { at = e.0; list_at = e.1.list_at; version = e.1.version }) spot is) here

  pub given : (spot : Place) → IsLowestReusable g.params pages block level spot → reused (find test es) ≡ Some spot
  given spot is = by_found (find test es) refl
    where
      by_found : (o : Option Entry) → find test es ≡ o → reused o ≡ Some spot
      by_found None found = let p = passes spot.at is.on_block is.element in absurd (none_found test es found spot.at p.0 p.1 p.2)
      by_found (Some e) found =
          let p = passes spot.at is.on_block is.element in
          let r = reusable e found in
          let not_above : spot.at.off ≤ e.0.off = elim (cases_lt e.0.off spot.at.off) as (λ _. spot.at.off ≤ e.0.off) [
            | inl h ↦ absurd (is.lowest e.0 r.0 h r.1)
            | inr h ↦ h
          ] in
          let not_below : e.0.off ≤ spot.at.off = elim (cases_lt spot.at.off e.0.off) as (λ _. e.0.off ≤ spot.at.off) [
            | inl h ↦ absurd (lowest_of e found spot.at is.on_block h is.element)
            | inr h ↦ h
          ] in
          let at : e.0 ≡ spot.at = same_tid e.0 spot.at (r.0 ∙ sym is.on_block) (omega (arith, not_above, not_below)) in
          let heads : r.1.head ≡ is.element.head =
          some_is r.1.head is.element.head (sym r.1.there ∙ ap (head_in g.params pages) at ∙ is.element.there) in
          let list : e.1.list_at ≡ spot.list_at = sym r.2 ∙ ap (λ (h : ElementHead). h.list_at) heads ∙ is.list in
          let version : e.1.version ≡ spot.version = sym r.3 ∙ ap (λ (h : ElementHead). h.version) heads ∙ is.version in
          let spots : record { at = e.0; list_at = e.1.list_at; version = e.1.version } ≡ spot =
          ap (λ (t : Tid). record { at = t; list_at = e.1.list_at; version = e.1.version }) at
          ∙ ap (λ (t : Tid). record { at = spot.at; list_at = t; version = e.1.version }) list
          ∙ ap (λ (v : ℕ). record { at = spot.at; list_at = spot.list_at; version = v }) version in
          ap (λ (p : Place). Some p) spots

  pub none_given : reused (find test es) ≡ None → (at : Tid) → at.block ≡ block → IsReusableAt g.params pages level at → ⊥
  none_given is at same r = by_found (find test es) refl is
    where
      by_found : (o : Option Entry) → find test es ≡ o → reused o ≡ None → ⊥
      by_found None found is = let p = passes at same r in none_found test es found at p.0 p.1 p.2
      by_found (Some e) found is = none_or_some (record { at = e.0; list_at = e.1.list_at; version = e.1.version }) (sym is)
