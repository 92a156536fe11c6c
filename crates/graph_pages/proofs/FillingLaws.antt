-- A map that is filled with the nodes of the pages, place by place.
use Rattle.std.proofs.Common.{◌≡◌, inl, inr, ℕ, zero, suc, ◌+◌, ◌<◌, ◌≤◌, Bool, true, false, cond, List, length, Option, Some, None, refl, sym, ap, subst, ◌∙◌, arith}
use Rattle.std.specs.Prelude.{slice_get}
use Rattle.std.specs.Option.{option_map, option_and_then}
use Rattle.std.specs.FinMap.{FinMap, get}
use Rattle.std.proofs.lemmas.Bool.{cases_eq, cases_lt}
use Rattle.std.proofs.lemmas.Bool.Decides.{nat_tests}
use Rattle.std.proofs.lemmas.Option.{slice_get_past}
use Rattle.vec_names.specs.declared.tid.Tid.{Tid}
use Rattle.vec_names.specs.declared.params.Params.{Params}
use Rattle.vec_names.specs.Order.{tid_cmp}
use Rattle.page_bytes.specs.Content.{Content, item_at}
use Rattle.vec_graph.specs.declared.node.Node.{Node}
use Rattle.vec_tuples.specs.Reading.{element}
use Rattle.page_redo.specs.PageTuples.{in_whole}
use Rattle.page_redo.specs.PageChanges.{if_so}
use Rattle.graph_pages.specs.Standing.{item_in, links_in, node_in, node_with as made_of, is_place}
use Rattle.graph_pages.specs.Filling.{is_passed, IsFilledTo, with_node}
use Rattle.graph_pages.proofs.PlaceTests.{same_if_place, place_itself, get_inserted}
use Rattle.graph_pages.proofs.PagePlaces.{item_on}

nothing : {A : Type 0} (b : Bool) → if_so {A = A} b None ≡ None
nothing true = refl
nothing false = refl

either_way : {A : Type 0} (a b : Bool) (o : Option A) → o ≡ None → if_so a o ≡ if_so b o
either_way a b o none = ap (if_so a) none ∙ nothing a ∙ sym (ap (if_so b) none ∙ nothing b)

-- ---- the next place

passed_next : (at : Tid) (block i : ℕ) → at.block ≡ block → at.off ≡ i + 1 → is_passed block (i + 1) at ≡ true
passed_next at block i e f = grind (arith, nat_tests)

passed_other : (at next : Tid) (block i : ℕ) → next.block ≡ block → next.off ≡ i + 1 → is_place at next ≡ false → is_passed block (i + 1) at ≡ is_passed block i at
passed_other at next block i e f apart = grind (arith, nat_tests)

other_stays : (nodes : FinMap tid_cmp Node) (next at : Tid) (o : Option Node) → is_place at next ≡ false → get (with_node nodes next o) at ≡ get nodes at
other_stays nodes next at None apart = refl
other_stays nodes next at (Some n) apart = get_inserted nodes next n at ∙ ap (λ b. cond b (Some n) (get nodes at)) apart

now_there : (nodes : FinMap tid_cmp Node) (next : Tid) (o : Option Node) (b : Bool) → get nodes next ≡ if_so b o → get (with_node nodes next o) next ≡ o
now_there nodes next None b was = was ∙ nothing b
now_there nodes next (Some n) b was = get_inserted nodes next n next ∙ ap (λ b. cond b (Some n) (get nodes next)) (place_itself next)

pub filled_more : (p : Params) (pages : List Content) (block i : ℕ) (nodes : FinMap tid_cmp Node) (next : Tid) → next.block ≡ block → next.off ≡ i + 1
    → IsFilledTo p pages block i nodes → IsFilledTo p pages block (i + 1) (with_node nodes next (node_in p pages next))
filled_more p pages block i nodes next e f filled at =
    let after = with_node nodes next (node_in p pages next) in
    elim (is_place at next) as (λ b. is_place at next ≡ b → get after at ≡ if_so (is_passed block (i + 1) at) (node_in p pages at)) [
      | true ↦ λ same.
          let here : get after next ≡ if_so (is_passed block (i + 1) next) (node_in p pages next) =
          now_there nodes next (node_in p pages next) (is_passed block i next) (filled next) ∙ ap (λ b. if_so b (node_in p pages next)) (sym (passed_next next block i e f)) in
          subst (λ (t : Tid). get after t ≡ if_so (is_passed block (i + 1) t) (node_in p pages t)) (same_if_place at next same) here
      | false ↦ λ apart. other_stays nodes next at (node_in p pages next) apart ∙ filled at ∙ ap (λ b. if_so b (node_in p pages at)) (sym (passed_other at next block i e f apart))
    ] refl

-- ---- the next block

past_off : (items : List (List ℕ)) (off : ℕ) → length items < off → item_at items off ≡ None
past_off items zero h = absurd (omega arith)
past_off items (suc i) h = slice_get_past items i (omega arith)

no_node : (p : Params) (pages : List Content) (at : Tid) → item_in pages at ≡ None → node_in p pages at ≡ None
no_node p pages at none =
    ap (λ (o : Option (List ℕ)). option_and_then (λ e. option_map (made_of e) (links_in p pages e.list_at)) (option_and_then (λ x. in_whole (element p x)) o)) none

same_passed : (at : Tid) (block count : ℕ) → (at.block ≡ block → at.off ≤ count) → is_passed block count at ≡ is_passed (block + 1) 0 at
same_passed at block count within = elim (cases_eq at.block block) as (λ _. is_passed block count at ≡ is_passed (block + 1) 0 at) [
  | inl e ↦ let h = within e in grind (arith, nat_tests)
  | inr ne ↦ grind (arith, nat_tests)
]

pub filled_block : (p : Params) (pages : List Content) (c : Content) (block count : ℕ) (nodes : FinMap tid_cmp Node) → slice_get pages block ≡ Some c → length c.items ≤ count
    → IsFilledTo p pages block count nodes → IsFilledTo p pages (block + 1) 0 nodes
filled_block p pages c block count nodes there all filled at = filled at ∙ elim (cases_eq at.block block) as (λ _. if_so (is_passed block count at) (node_in p pages at) ≡ if_so (is_passed (block + 1) 0 at) (node_in p pages at)) [
  | inl e ↦ elim (cases_lt count at.off) as (λ _. if_so (is_passed block count at) (node_in p pages at) ≡ if_so (is_passed (block + 1) 0 at) (node_in p pages at)) [
    | inl behind ↦
        let none = no_node p pages at (item_on pages c at block there e ∙ past_off c.items at.off (omega arith)) in
        either_way (is_passed block count at) (is_passed (block + 1) 0 at) (node_in p pages at) none
    | inr within ↦ ap (λ b. if_so b (node_in p pages at)) (same_passed at block count (λ _. within))
  ]
  | inr ne ↦ ap (λ b. if_so b (node_in p pages at)) (same_passed at block count (λ e. absurd (ne e)))
]

-- ---- the first place, and the last

pub filled_first : (p : Params) (pages : List Content) (at : Tid) → None ≡ if_so (is_passed 0 0 at) (node_in p pages at)
filled_first p pages at =
    let low = at.counted_from_one in
    let not_yet : is_passed 0 0 at ≡ false = grind (arith, nat_tests) in
    sym (ap (λ b. if_so b (node_in p pages at)) not_yet)

pub filled_all : (p : Params) (pages : List Content) (block : ℕ) (nodes : FinMap tid_cmp Node) → length pages ≤ block → IsFilledTo p pages block 0 nodes → (at : Tid) → get nodes at ≡ node_in p pages at
filled_all p pages block nodes all filled at = filled at ∙ elim (cases_lt at.block block) as (λ _. if_so (is_passed block 0 at) (node_in p pages at) ≡ node_in p pages at) [
  | inl h ↦
      let passed : is_passed block 0 at ≡ true = grind (arith, nat_tests) in
      ap (λ b. if_so b (node_in p pages at)) passed
  | inr h ↦
      let none = no_node p pages at (ap (λ o. option_and_then (λ (c : Content). item_at c.items at.off) o) (slice_get_past pages at.block (omega arith))) in
      ap (λ o. if_so (is_passed block 0 at) o) none ∙ nothing (is_passed block 0 at) ∙ sym none
]
