-- What pages that stand for a graph say to a look at a node and at its slots is what the graph says.
use Rattle.std.proofs.Common.{◌≡◌, ℕ, ◌+◌, ◌-◌, ◌*◌, ◌≤◌, ◌==◌, ◌||◌, not, min, Bool, true, false, List, length, take, drop, Option, Some, None, refl, sym, ap, ◌∙◌, arith, inl, inr}
use Rattle.std.specs.Prelude.{slice_get, if◌then◌else◌, All}
use Rattle.std.specs.Option.{option_map, option_and_then}
use Rattle.std.proofs.lemmas.Bool.{cases_lt}
use Rattle.std.proofs.lemmas.List.{drop_all, take_all, length-drop}
use Rattle.byte_fields.specs.Reading.{Reader}
use Rattle.byte_fields.proofs.EachField.{some_is}
use Rattle.vec_names.specs.declared.tid.Tid.{Tid}
use Rattle.vec_names.specs.declared.params.Params.{Params}
use Rattle.page_bytes.specs.Content.{Content, IsPage, item_at}
use Rattle.vec_tuples.specs.declared.element.Element.{Element}
use Rattle.vec_tuples.specs.declared.links.Links.{Links}
use Rattle.vec_tuples.specs.Spelling.{head_of_element}
use Rattle.vec_tuples.specs.Reading.{element, links}
use Rattle.vec_graph.specs.declared.node.Node.{Node}
use Rattle.vec_graph.specs.declared.graph.Graph.{Graph}
use Rattle.vec_graph.specs.Graph.{node_at, layer_slots}
use Rattle.vec_graph.specs.Asking.{StandsSo}
use Rattle.page_redo.specs.PageTuples.{in_whole, read_at, links_head}
use Rattle.page_redo.specs.declared.items.LinksHead.{LinksHead}
use Rattle.graph_search.specs.Reads.{Gone, OfList, node_answer, list_answer}
use Rattle.graph_pages.specs.Standing.{read_in, element_in, links_in, node_with as made_of, node_in, Stands}
use Rattle.page_redo.proofs.Given.{map_is}
use Rattle.graph_pages.proofs.RoleFits.{node_there, list_alike}
use Rattle.graph_pages.proofs.FollowLaws.{node_of}
use Rattle.page_sets.specs.Telling.{element_answer, slots_answer, read_on}

-- what reads so at a place is what reads so on its page
pub read_there : {A : Type 0} (f : Reader A) (pages : List Content) (at : Tid) → read_on f (slice_get pages at.block) at.off ≡ read_in f pages at
read_there f pages at = by_page (slice_get pages at.block)
  where
    by_page : (o : Option Content) → option_and_then (λ (c : Content). read_at f c at.off) o
        ≡ option_and_then (λ x. in_whole (f x)) (option_and_then (λ (c : Content). item_at c.items at.off) o)
    by_page None = refl
    by_page (Some c) = refl

module _ (pages : List Content) (g : Graph) (p : Params) (all : All IsPage pages) (s : Stands pages g) (same : g.params ≡ p) where
  its_are : s.meta.params ≡ p
  its_are = sym s.params ∙ same

  -- an element is that of a node, which has its list
  pub node_from : (at : Tid) (e : Element) → element_in p pages at ≡ Some e → (l : Links) × (node_at g at ≡ Some (made_of e l))
  node_from at e is =
      let n = node_of pages g p all s same at (head_of_element e) (ap (option_map head_of_element) is) in
      let made = node_there pages g all s at n.0 n.1 in
      let one : made.0 ≡ e = some_is made.0 e (sym made.1 ∙ ap (λ (q : Params). element_in q pages at) its_are ∙ is) in
      (made.2, n.1 ∙ ap (λ (n : Node). Some n) (sym made.4) ∙ ap (λ (e : Element). Some (made_of e made.2)) one)

  -- and where none stands there is no node
  pub no_node : (at : Tid) → element_in p pages at ≡ None → node_at g at ≡ None
  no_node at none =
      s.nodes at ∙ ap (λ (q : Params). node_in q pages at) its_are
      ∙ ap (option_and_then (λ (e : Element). option_map (made_of e) (links_in p pages e.list_at))) none

  pub node_says : (held : Option Content) (at : Tid) (layer : ℕ) (version : Option ℕ) → held ≡ slice_get pages at.block
      → element_answer (read_on (element p) held at.off) layer version ≡ node_answer (node_at g at) layer version
  node_says held at layer version has =
      ap (λ o. element_answer (read_on (element p) o at.off) layer version) has
      ∙ ap (λ o. element_answer o layer version) (read_there (element p) pages at) ∙ by_element (element_in p pages at) refl
    where
      by_element : (o : Option Element) → element_in p pages at ≡ o → element_answer (element_in p pages at) layer version ≡ node_answer (node_at g at) layer version
      by_element None is =
          ap (λ o. element_answer o layer version) is ∙ sym (ap (λ o. node_answer o layer version) (no_node at is))
      by_element (Some e) is =
          let n = node_from at e is in
          ap (λ o. element_answer o layer version) is ∙ sym (ap (λ o. node_answer o layer version) n.1)

  pub slots_say : (held : Option Content) (at list_at : Tid) (level version layer : ℕ) → held ≡ slice_get pages list_at.block → StandsSo g at list_at level
      → slots_answer p.m (read_on (links p) held list_at.off) level version layer ≡ list_answer g.params.m (node_at g at) version layer
  slots_say held at list_at level version layer has stood =
      let made = node_there pages g all s at stood.node stood.stands in
      let e = made.0 in
      let l = made.2 in
      let alike = list_alike pages g all s at e l made.1 made.3 in
      let place : e.list_at ≡ list_at = ap (λ (n : Node). n.list_at) made.4 ∙ stood.listed in
      let level_is : e.level ≡ level = ap (λ (n : Node). n.level) made.4 ∙ stood.of_level in
      let here : links_in p pages list_at ≡ Some l = ap (λ (q : Params). links_in q pages list_at) (sym its_are) ∙ ap (links_in s.meta.params pages) (sym place) ∙ made.3 in
      let m_is : p.m ≡ g.params.m = ap (λ (q : Params). q.m) (sym same) in
      ap (λ o. slots_answer p.m (read_on (links p) o list_at.off) level version layer) has
      ∙ ap (λ o. slots_answer p.m o level version layer) (read_there (links p) pages list_at ∙ here)
      ∙ (λ i. if alike.1 i || not (alike.0 i == version) then Gone else OfList (layer_slots (m_is i) (sym level_is i) layer l.tids))
      ∙ sym (ap (λ o. list_answer g.params.m o version layer) (stood.stands ∙ ap (λ (n : Node). Some n) (sym made.4)))

-- ---- the slots of a layer

least : {X : Type 0} (a : ℕ) (xs : List X) → drop (min a (length xs)) xs ≡ drop a xs
least a xs = elim (cases_lt a (length xs)) as (λ _. drop (min a (length xs)) xs ≡ drop a xs) [
  | inl low ↦ let e : min a (length xs) ≡ a = omega (arith, low) in ap (λ n. drop n xs) e
  | inr past ↦ drop_all (min a (length xs)) xs (omega (arith, past)) ∙ sym (drop_all a xs past)
]

taken_all : {X : Type 0} (from : ℕ) (xs : List X) → take (length xs - from) (drop from xs) ≡ drop from xs
taken_all from xs = take_all (length xs - from) (drop from xs) (omega (arith, length-drop from xs))

taken_some : {X : Type 0} (a m : ℕ) (xs : List X) (from to : ℕ) → from ≡ min a (length xs) → to ≡ min (from + m) (length xs) → take (to - from) (drop from xs) ≡ take m (drop a xs)
taken_some a m xs from to first last = elim (cases_lt (length xs) (from + m)) as (λ _. take (to - from) (drop from xs) ≡ take m (drop a xs)) [
  | inl past ↦
      let long = length-drop from xs in
      take_all (to - from) (drop from xs) (omega (arith, long, last, past))
      ∙ sym (take_all m (drop from xs) (omega (arith, long, past)))
      ∙ ap (take m) (ap (λ n. drop n xs) first ∙ least a xs)
  | inr within ↦
      let e : to - from ≡ m = omega (arith, last, within) in
      ap (λ n. take n (drop from xs)) e ∙ ap (take m) (ap (λ n. drop n xs) first ∙ least a xs)
]

layer_taken : (m level layer : ℕ) (tids : List (Option Tid)) (from to : ℕ) → from ≡ min (if layer == 0 then level * m else (level - layer) * m) (length tids)
    → to ≡ (if layer == 0 then length tids else min (from + m) (length tids)) → take (to - from) (drop from tids) ≡ layer_slots m level layer tids
layer_taken m level layer tids from to first last = by_test (layer == 0) first last
  where
    by_test : (b : Bool) → from ≡ min (if b then level * m else (level - layer) * m) (length tids) → to ≡ (if b then length tids else min (from + m) (length tids))
        → take (to - from) (drop from tids) ≡ (if b then drop (level * m) tids else take m (drop ((level - layer) * m) tids))
    by_test true first last =
        ap (λ n. take (n - from) (drop from tids)) last ∙ taken_all from tids ∙ ap (λ n. drop n tids) first ∙ least (level * m) tids
    by_test false first last = taken_some ((level - layer) * m) m tids from to first last

pub gone_slots : (o : Option Links) (h : LinksHead) (m level version layer : ℕ) → Some h ≡ option_map links_head o
    → (h.deleted || not (h.version == version)) ≡ true → Gone ≡ slots_answer m o level version layer
gone_slots o h m level version layer told test =
    let l = map_is links_head o h (sym told) in
    let is : (l.0.deleted || not (l.0.version == version)) ≡ true = ap (λ (k : LinksHead). k.deleted || not (k.version == version)) l.2 ∙ test in
    sym (ap (λ (b : Bool). if b then Gone else OfList (layer_slots m level layer l.0.tids)) is) ∙ sym (ap (λ o. slots_answer m o level version layer) l.1)

pub found_slots : (o : Option Links) (h : LinksHead) (m level version layer : ℕ) (tids : List (Option Tid)) (from to : ℕ) → Some h ≡ option_map links_head o
    → (h.deleted || not (h.version == version)) ≡ false
    → from ≡ min (if layer == 0 then level * m else (level - layer) * m) h.count → to ≡ (if layer == 0 then h.count else min (from + m) h.count)
    → ((l : Links) → o ≡ Some l → tids ≡ take (to - from) (drop from l.tids)) → OfList tids ≡ slots_answer m o level version layer
found_slots o h m level version layer tids from to told test first last says =
    let l = map_is links_head o h (sym told) in
    let is : (l.0.deleted || not (l.0.version == version)) ≡ false = ap (λ (k : LinksHead). k.deleted || not (k.version == version)) l.2 ∙ test in
    let count : h.count ≡ length l.0.tids = ap (λ (k : LinksHead). k.count) (sym l.2) in
    let slots : tids ≡ layer_slots m level layer l.0.tids =
    says l.0 l.1
    ∙ layer_taken m level layer l.0.tids from to (first ∙ ap (λ n. min (if layer == 0 then level * m else (level - layer) * m) n) count)
    (last ∙ ap (λ n. if layer == 0 then n else min (from + m) n) count) in
    ap (λ (s : List (Option Tid)). OfList s) slots
    ∙ sym (ap (λ (b : Bool). if b then Gone else OfList (layer_slots m level layer l.0.tids)) is) ∙ sym (ap (λ o. slots_answer m o level version layer) l.1)

-- a part of so many slots
pub part_within : (m level layer count from to : ℕ) → from ≡ min (if layer == 0 then level * m else (level - layer) * m) count
    → to ≡ (if layer == 0 then count else min (from + m) count) → (from ≤ to) × (to ≤ count)
part_within m level layer count from to first last = by_test (layer == 0) first last
  where
    by_test : (b : Bool) → from ≡ min (if b then level * m else (level - layer) * m) count → to ≡ (if b then count else min (from + m) count) → (from ≤ to) × (to ≤ count)
    by_test true first last = (omega (arith, first, last), omega (arith, last))
    by_test false first last = (omega (arith, first, last), omega (arith, last))
