-- What the tuples of a node say to a change is what its graph says.
use Rattle.std.proofs.Common.{◌≡◌, ℕ, zero, suc, ◌+◌, ◌-◌, ◌*◌, ◌<◌, ◌==◌, ◌||◌, not, Bool, true, false, List, [], ◌∷◌, take, drop, Option, Some, None, refl, sym, ap, ◌∙◌, arith}
use Rattle.std.specs.Prelude.{slice_get, if◌then◌else◌, All}
use Rattle.std.specs.Option.{option_map}
use Rattle.std.proofs.lemmas.Bool.{eqb-true}
use Rattle.vec_names.specs.declared.tid.Tid.{Tid}
use Rattle.vec_names.specs.declared.params.Params.{Params}
use Rattle.page_bytes.specs.Content.{Content, IsPage}
use Rattle.vec_tuples.specs.declared.element.Element.{Element}
use Rattle.vec_tuples.specs.declared.links.Links.{Links}
use Rattle.vec_tuples.specs.Spelling.{head_of_element}
use Rattle.vec_tuples.specs.Reading.{element, links}
use Rattle.vec_graph.specs.declared.node.Node.{Node}
use Rattle.vec_graph.specs.declared.graph.Graph.{Graph}
use Rattle.vec_graph.specs.Graph.{node_at, layer_slots}
use Rattle.vec_graph.specs.Asking.{StandsSo}
use Rattle.graph_search.specs.Deeds.{Stale, Done, Changed, is_still, slot_in, link_reply}
use Rattle.graph_search.specs.Insert.{most_in}
use Rattle.graph_pages.specs.Standing.{element_in, links_in, node_with as made_of, Stands}
use Rattle.graph_pages.proofs.RoleFits.{node_there, list_alike}
use Rattle.vec_steps.specs.Doing.{Cleared, Outdated, clear_reply}
use Rattle.page_sets.specs.Telling.{read_on}
use Rattle.page_sets.proofs.NodeLooks.{read_there, node_from, no_node}
use Rattle.page_words.specs.Deciding.{head_node, head_read, links_clear, links_link}

module _ (pages : List Content) (g : Graph) (p : Params) (all : All IsPage pages) (s : Stands pages g) (same : g.params ≡ p) where
  -- a reply that sees neither the value nor the slots is that of the head
  pub head_says : {X : Type 0} (reply : Option Node → X) → ((e : Element) (l : Links) → reply (Some (head_node (head_of_element e))) ≡ reply (Some (made_of e l)))
      → (held : Option Content) (at : Tid) → held ≡ slice_get pages at.block → reply (option_map head_node (head_read p held at.off)) ≡ reply (node_at g at)
  head_says reply alike held at has =
      ap (λ o. reply (option_map head_node (head_read p o at.off))) has
      ∙ ap (λ o. reply (option_map head_node (option_map head_of_element o))) (read_there (element p) pages at)
      ∙ by_element (element_in p pages at) refl
    where
      by_element : (o : Option Element) → element_in p pages at ≡ o → reply (option_map head_node (option_map head_of_element (element_in p pages at))) ≡ reply (node_at g at)
      by_element None is =
          ap (λ o. reply (option_map head_node (option_map head_of_element o))) is ∙ sym (ap reply (no_node pages g p all s same at is))
      by_element (Some e) is =
          let n = node_from pages g p all s same at e is in
          ap (λ o. reply (option_map head_node (option_map head_of_element o))) is ∙ alike e n.0 ∙ sym (ap reply n.1)

  -- the neighbour tuple of a node, and what it has of it
  record IsList (at list_at : Tid) (level : ℕ) : Type 0 where
    e : Element
    l : Links
    reads : links_in p pages list_at ≡ Some l
    version : l.version ≡ e.version
    deleted : l.deleted ≡ e.deleted
    of_level : e.level ≡ level
    stands : node_at g at ≡ Some (made_of e l)

  list_is : (at list_at : Tid) (level : ℕ) → StandsSo g at list_at level → IsList at list_at level
  list_is at list_at level stood =
      let its : s.meta.params ≡ p = sym s.params ∙ same in
      let made = node_there pages g all s at stood.node stood.stands in
      let alike = list_alike pages g all s at made.0 made.2 made.1 made.3 in
      let place : made.0.list_at ≡ list_at = ap (λ (n : Node). n.list_at) made.4 ∙ stood.listed in
      record {
        e = made.0;
        l = made.2;
        reads = ap (λ (q : Params). links_in q pages list_at) (sym its) ∙ ap (links_in s.meta.params pages) (sym place) ∙ made.3;
        version = alike.0;
        deleted = alike.1;
        of_level = ap (λ (n : Node). n.level) made.4 ∙ stood.of_level;
        stands = stood.stands ∙ ap (λ (n : Node). Some n) (sym made.4);
      }

  pub links_clear_say : (held : Option Content) (at list_at : Tid) (level version : ℕ) → held ≡ slice_get pages list_at.block → StandsSo g at list_at level
      → links_clear (read_on (links p) held list_at.off) version ≡ clear_reply (node_at g at) version
  links_clear_say held at list_at level version has stood =
      let t = list_is at list_at level stood in
      ap (λ o. links_clear (read_on (links p) o list_at.off) version) has
      ∙ ap (λ o. links_clear o version) (read_there (links p) pages list_at ∙ t.reads)
      ∙ (λ i. if t.deleted i || not (t.version i == version) then Outdated else Cleared)
      ∙ sym (ap (λ o. clear_reply o version) t.stands)

  pub links_link_say : (held : Option Content) (at list_at : Tid) (level version layer slot : ℕ) (was : Option Tid) → held ≡ slice_get pages list_at.block
      → StandsSo g at list_at level → slot < most_in g.params.m layer
      → links_link p.m (read_on (links p) held list_at.off) level version layer slot was ≡ link_reply g.params.m (node_at g at) version layer slot was
  links_link_say held at list_at level version layer slot was has stood low =
      let t = list_is at list_at level stood in
      let m_is : p.m ≡ g.params.m = ap (λ (q : Params). q.m) (sym same) in
      let here : slice_get t.l.tids (slot_in g.params.m t.e.level layer slot) ≡ slice_get (layer_slots g.params.m t.e.level layer t.l.tids) slot = in_layer g.params.m t.e.level layer slot t.l.tids low in
      ap (λ o. links_link p.m (read_on (links p) o list_at.off) level version layer slot was) has
      ∙ ap (λ o. links_link p.m o level version layer slot was) (read_there (links p) pages list_at ∙ t.reads)
      ∙ (λ i. if t.deleted i || not (t.version i == version) then Stale
      else if is_still (slice_get t.l.tids (slot_in (m_is i) (sym t.of_level i) layer slot)) was then Done else Changed)
      ∙ ap (λ o. if t.e.deleted || not (t.e.version == version) then Stale else if is_still o was then Done else Changed) here
      ∙ sym (ap (λ o. link_reply g.params.m o version layer slot was) t.stands)
    where
      dropped : {X : Type 0} (n : ℕ) (xs : List X) (j : ℕ) → slice_get xs (n + j) ≡ slice_get (drop n xs) j
      dropped zero xs j = let same : 0 + j ≡ j = omega arith in ap (slice_get xs) same
      dropped (suc n) [] j = refl
      dropped (suc n) (y ∷ xs) j = let same : suc n + j ≡ suc (n + j) = omega arith in ap (slice_get (y ∷ xs)) same ∙ dropped n xs j

      taken : {X : Type 0} (n : ℕ) (xs : List X) (j : ℕ) → j < n → slice_get xs j ≡ slice_get (take n xs) j
      taken zero xs j low = absurd (omega (arith, low))
      taken (suc n) [] j low = refl
      taken (suc n) (y ∷ xs) zero low = refl
      taken (suc n) (y ∷ xs) (suc j) low = taken n xs j (omega (arith, low))

      in_layer : (m level layer slot : ℕ) (tids : List (Option Tid)) → slot < most_in m layer
          → slice_get tids (slot_in m level layer slot) ≡ slice_get (layer_slots m level layer tids) slot
      in_layer m level layer slot tids low = by_test (layer == 0) refl low
        where
          by_test : (b : Bool) → (layer == 0) ≡ b → slot < (if b then 2 * m else m)
              → slice_get tids (slot_in m level layer slot) ≡ slice_get (if b then drop (level * m) tids else take m (drop ((level - layer) * m) tids)) slot
          by_test true is low =
              let lowest : layer ≡ 0 = eqb-true layer 0 is in
              let whole : level - layer ≡ level = omega (arith, lowest) in
              ap (λ k. slice_get tids (k * m + slot)) whole ∙ dropped (level * m) tids slot
          by_test false is low = dropped ((level - layer) * m) tids slot ∙ taken m (drop ((level - layer) * m) tids) slot low
