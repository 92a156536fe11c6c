-- The events that change one tuple of a graph fit the pages that stand for it.
use Rattle.std.proofs.Common.{◌≡◌, ℕ, ◌^◌, ◌<◌, ◌≤◌, ◌&&◌, ◌==◌, Bool, true, false, List, [], ◌∷◌, ◌++◌, length, Option, Some, None, refl, sym, ap, ◌∙◌, arith}
use Rattle.std.specs.Prelude.{nat_le, nat_lt, slice_set, All}
use Rattle.std.proofs.lemmas.Bool.{and_from, lt-ltb, le-leb, eq-eqb}
use Rattle.list_values.specs.Masks.{kept}
use Rattle.vec_names.specs.declared.tid.Tid.{Tid}
use Rattle.vec_names.specs.declared.heap_id.HeapId.{HeapId}
use Rattle.vec_history.specs.declared.event.Event.TheVariants.{Join, Link, Relist, Drop, Entry, Hint}
use Rattle.page_bytes.specs.Content.{Content, IsPage}
use Rattle.vec_tuples.specs.declared.element.Element.{Element}
use Rattle.vec_tuples.specs.declared.links.Links.{Links}
use Rattle.byte_fields.specs.Levels.{is_level}
use Rattle.vec_tuples.specs.Spelling.{head_with, links_with}
use Rattle.vec_graph.specs.declared.node.Node.{Node}
use Rattle.vec_graph.specs.declared.graph.Graph.{Graph}
use Rattle.vec_graph.specs.Rules.{IsThere}
use Rattle.page_redo.specs.PageTuples.{is_graph}
use Rattle.page_redo.specs.PageChanges.{is_current, joined, dropped, linked, relisted, entered, hinted}
use Rattle.graph_pages.specs.Standing.{node_with as made_of, Stands}
use Rattle.page_redo.specs.Fitting.{FitsEach}
use Rattle.page_redo.proofs.OneFits.{each_of_one}
use Rattle.graph_pages.proofs.RoleFits.{meta_role_fits, of_graph_kind, head_role_fits, links_role_fits}

pub current : (deleted : Bool) (found version : ℕ) → deleted ≡ false → found ≡ version → is_current deleted found version ≡ true
current deleted found version new same = rw (new, eq-eqb found version same) refl

-- the element of a node that is there
current_head : (g : Graph) (at : Tid) (version : ℕ) (n : Node) (e : Element) (l : Links) → IsThere g at version n → made_of e l ≡ n
    → is_current e.deleted e.version version ≡ true
current_head g at version n e l there made =
    let state = ap (λ (n : Node). n.deleted) made ∙ there.not_deleted in
    let found = ap (λ (n : Node). n.version) made ∙ there.of_version in
    current e.deleted e.version version state found

level_is : (to : Option Tid) (level : ℕ) → (to ≡ None → level ≡ 0) → is_level to level ≡ true
level_is None level is = eq-eqb level 0 (is refl)
level_is (Some at) level is = refl

module _ (pages : List Content) (g : Graph) (all : All IsPage pages) (s : Stands pages g) where
  pub hint_fits : (hint : ℕ) → 1 ≤ hint → hint ≤ 32768 → FitsEach pages g.params (Hint hint)
  hint_fits hint low high wrap number block touches =
      let tests = and_from (is_graph s.meta.params.kind) (nat_le 1 hint && nat_le hint 32768) (of_graph_kind pages g all s)
      (and_from (nat_le 1 hint) (nat_le hint 32768) (le-leb 1 hint low) (le-leb hint 32768 high)) in
      let f = meta_role_fits pages g all s number (hinted hint) (record s.meta { hint = hint }) (rw tests refl) in
      each_of_one f block touches

  pub entry_fits : (to : Option Tid) (level : ℕ) → (to ≡ None → level ≡ 0) → FitsEach pages g.params (Entry to level)
  entry_fits to level zero wrap number block touches =
      let tests = and_from (is_graph s.meta.params.kind) (is_level to level) (of_graph_kind pages g all s) (level_is to level zero) in
      let f = meta_role_fits pages g all s number (entered to level) (record s.meta { entry = to; level = level }) (rw tests refl) in
      each_of_one f block touches

  pub join_fits : (at : Tid) (version : ℕ) (id : HeapId) (n : Node) → IsThere g at version n → length n.ids ≤ 9
      → FitsEach pages g.params (Join at version id)
  join_fits at version id n there few wrap number block touches =
      let f = head_role_fits pages g all s number at n (joined version id) there.stands (λ e l made.
      let new = current_head g at version n e l there made in
      let count : length e.ids.items ≡ length n.ids = ap (λ (n : Node). length n.ids) made in
      let tests = and_from (is_current e.deleted e.version version) (nat_lt (length e.ids.items) 10) new (lt-ltb (length e.ids.items) 10 (omega (arith, few, count))) in
      (head_with e.level e.deleted e.version (e.ids.items ++ id ∷ []) e.list_at, rw tests refl)) in
      each_of_one f block touches

  pub drop_fits : (at : Tid) (version gone : ℕ) (n : Node) → IsThere g at version n → gone < 2 ^ length n.ids
      → FitsEach pages g.params (Drop at version gone)
  drop_fits at version gone n there names wrap number block touches =
      let f = head_role_fits pages g all s number at n (dropped version gone) there.stands (λ e l made.
      let new = current_head g at version n e l there made in
      let mask : nat_lt gone (2 ^ length e.ids.items) ≡ true = ap (λ (n : Node). nat_lt gone (2 ^ length n.ids)) made ∙ lt-ltb gone (2 ^ length n.ids) names in
      let tests = and_from (is_current e.deleted e.version version) (nat_lt gone (2 ^ length e.ids.items)) new mask in
      (head_with e.level e.deleted e.version (kept gone e.ids.items) e.list_at, rw tests refl)) in
      each_of_one f block touches

  pub link_fits : (at list_at to : Tid) (version slot : ℕ) (n : Node) → IsThere g at version n → n.list_at ≡ list_at
      → slot < length n.slots → FitsEach pages g.params (Link at list_at version slot to)
  link_fits at list_at to version slot n there listed within wrap number block touches =
      let f = links_role_fits pages g all s number at list_at n (linked version slot to) there.stands listed (λ l found state slots.
      let new = current l.deleted l.version version (state ∙ there.not_deleted) (found ∙ there.of_version) in
      let test : nat_lt slot (length l.tids) ≡ true = ap (λ (tids : List (Option Tid)). nat_lt slot (length tids)) slots ∙ lt-ltb slot (length n.slots) within in
      let tests = and_from (is_current l.deleted l.version version) (nat_lt slot (length l.tids)) new test in
      (links_with l.deleted l.version (slice_set l.tids slot (Some to)), rw tests refl)) in
      each_of_one f block touches

  pub relist_fits : (at list_at : Tid) (version : ℕ) (lists : List (Option Tid)) (n : Node) → IsThere g at version n
      → n.list_at ≡ list_at → length lists ≡ length n.slots → FitsEach pages g.params (Relist at list_at version lists)
  relist_fits at list_at version lists n there listed as_many wrap number block touches =
      let f = links_role_fits pages g all s number at list_at n (relisted version lists) there.stands listed (λ l found state slots.
      let new = current l.deleted l.version version (state ∙ there.not_deleted) (found ∙ there.of_version) in
      let count : length lists ≡ length l.tids = as_many ∙ sym (ap (λ (tids : List (Option Tid)). length tids) slots) in
      let tests = and_from (is_current l.deleted l.version version) (length lists == length l.tids) new (eq-eqb (length lists) (length l.tids) count) in
      (links_with l.deleted l.version lists, rw tests refl)) in
      each_of_one f block touches
