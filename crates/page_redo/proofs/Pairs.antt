-- Two changes of an event on one page.
use Rattle.std.proofs.Common.{◌≡◌, ℕ, Bool, true, false, ◌&&◌, List, ◌∷◌, length, replicate, is_some, Option, Some, None, refl, sym, ap, ◌∙◌, arith}
use Rattle.std.specs.Prelude.{nat_lt}
use Rattle.std.proofs.lemmas.Bool.{false_from_ne_true, ltb-true}
use Rattle.std.specs.Option.{option_map, option_and_then}
use Rattle.index_sizes.specs.Sizes.{next_version}
use Rattle.vec_names.specs.declared.params.Params.{Params}
use Rattle.page_bytes.specs.Content.{Content, item_at}
use Rattle.vec_tuples.specs.declared.element.Element.{Element}
use Rattle.vec_tuples.specs.declared.element.ElementHead.{ElementHead}
use Rattle.vec_tuples.specs.declared.links.Links.{Links}
use Rattle.vec_tuples.specs.Spelling.{element_bytes, head_bytes, head_of_element, links_bytes, links_with}
use Rattle.byte_fields.specs.Reading.{field, byte_from}
use Rattle.vec_tuples.specs.Reading.{element, links}
use Rattle.page_redo.specs.PageTuples.{in_whole, with_item, with_head, head_changed, links_changed, element_at, links_at, links_head, is_graph, is_graph_page}
use Rattle.page_redo.specs.PageChanges.{if_so, put, NewNode, put_element, put_links, is_node, is_old_element, are_old_links, new_element, new_links, is_current, marked, emptied}
use Rattle.page_redo.specs.declared.items.LinksHead.{LinksHead}
use Rattle.page_redo.specs.declared.in_place.Deletion.{Deletion}
use Rattle.page_redo.specs.OfParts.{IsMade, delete_element, delete_links}
use Rattle.page_redo.proofs.Others.{so}
use Rattle.page_redo.proofs.Putting.{made_apart, made_here, made_kind, with_item_others, with_item_here}

-- ---- an element is no list

one_is_no_list : (p : Params) (rest : List ℕ) → in_whole (links p (1 ∷ rest)) ≡ None
unfolding links field byte_from
one_is_no_list p rest =
    let some : nat_lt (length (1 ∷ rest)) 1 ≡ false = false_from_ne_true (nat_lt (length (1 ∷ rest)) 1) (λ less. absurd (omega (arith, ltb-true (length (1 ∷ rest)) 1 less))) in
    rw some refl

pub no_list : (p : Params) (e : Element) → in_whole (links p (element_bytes e)) ≡ None
unfolding element_bytes head_bytes
no_list p e = one_is_no_list p _

list_over_element : (p : Params) (c : Content) (off : ℕ) (e : Element) → item_at c.items off ≡ Some (element_bytes e) → links_at p c off ≡ None
list_over_element p c off e is = ap (λ o. option_and_then (λ x. in_whole (links p x)) o) is ∙ no_list p e

same_list : (p : Params) (c d : Content) (off : ℕ) → item_at d.items off ≡ item_at c.items off → links_at p d off ≡ links_at p c off
same_list p c d off is = ap (λ o. option_and_then (λ x. in_whole (links p x)) o) is

nothing_after : {A B : Type 0} (o : Option A) (f : A → Option B) → ((v : A) → o ≡ Some v → f v ≡ None) → option_and_then f o ≡ None
nothing_after None f none = refl
nothing_after (Some v) f none = none v refl

pub no_option : {A B : Type 0} (f : A → B) (o : Option A) → option_map f o ≡ None → o ≡ None
no_option f None none = refl
no_option f (Some v) none = absurd cc

pub some_option : {A B : Type 0} (f : A → B) (o : Option A) (b : B) → option_map f o ≡ Some b → (a : A) × (o ≡ Some a)
some_option f None b some = absurd cc
some_option f (Some a) b some = (a, refl)

none_is : {A : Type 0} (o : Option A) → is_some o ≡ false → o ≡ None
none_is None none = refl
none_is (Some v) none = absurd cc

no_none : {A : Type 0} (o : Option A) → is_some o ≡ true → o ≡ None → ⊥
no_none None some none = absurd cc
no_none (Some v) some none = absurd cc

some_page : (c d : Content) → Some c ≡ Some d → c ≡ d
some_page c d e = cc

-- ---- a new node

-- The changes of a new node on a page of a graph: the element goes to its place, and its list to another one.
module _ (p : Params) (n : NewNode) (c : Content) where
  abbrev x : List ℕ
  x = element_bytes (new_element n)

  abbrev y : List ℕ
  y = links_bytes (new_links n)

  abbrev go : Bool
  go = is_old_element n.version (element_at p c n.at.off)

  pub put_pair : (is_graph p.kind && is_graph_page c.kind) ≡ true → is_node p n ≡ true → (n.at.off ≡ n.list_at.off → ⊥)
      → option_and_then (put_links p n) (put_element p n c)
      ≡ option_and_then (put n.list_at.off (are_old_links n.version (links_at p c n.list_at.off)) y) (put n.at.off go x c)
  put_pair graph node apart = ap (option_and_then (put_links p n)) element_is ∙ here (put n.at.off go x c) refl
    where
      element_is : put_element p n c ≡ put n.at.off go x c
      element_is = rw (graph, node) refl

      here : (o : Option Content) → put n.at.off go x c ≡ o
          → option_and_then (put_links p n) o ≡ option_and_then (put n.list_at.off (are_old_links n.version (links_at p c n.list_at.off)) y) o
      here None made = refl
      here (Some d) made = rw (made_kind n.at.off go x c d made, graph, node, same_list p c d n.list_at.off (made_apart n.at.off go x c d n.list_at.off made apart)) refl

  -- where the list has no place after the element
  pub put_refused : (is_graph p.kind && is_graph_page c.kind) ≡ true → is_node p n ≡ true → (n.at.off ≡ n.list_at.off → ⊥) → (list_go : Bool) → list_go ≡ are_old_links n.version (links_at p c n.list_at.off)
      → ((d : Content) → put n.at.off go x c ≡ Some d → is_some (put n.list_at.off list_go y d) ≡ false)
      → option_and_then (put_links p n) (put_element p n c) ≡ None
  put_refused graph node apart list_go old refused =
      put_pair graph node apart
      ∙ ap (λ b. option_and_then (put n.list_at.off b y) (put n.at.off go x c)) (sym old)
      ∙ nothing_after (put n.at.off go x c) (put n.list_at.off list_go y) (λ d made. none_is (put n.list_at.off list_go y d) (refused d made))

  pub put_done : (is_graph p.kind && is_graph_page c.kind) ≡ true → is_node p n ≡ true → (n.at.off ≡ n.list_at.off → ⊥) → (goes list_go : Bool) → goes ≡ go → list_go ≡ are_old_links n.version (links_at p c n.list_at.off)
      → (d e : Content) (result : Option (Unit {0})) → put n.at.off goes x c ≡ Some d → is_some (put n.list_at.off list_go y d) ≡ true → IsMade (put n.list_at.off list_go y d) d e result
      → IsMade (option_and_then (put_links p n) (put_element p n c)) c e result
  put_done graph node apart goes list_go old list_old d e result made fits becomes = done result becomes
    where
      pair : option_and_then (put_links p n) (put_element p n c) ≡ put n.list_at.off list_go y d
      pair =
          put_pair graph node apart
          ∙ ap (λ b. option_and_then (put n.list_at.off b y) (put n.at.off go x c)) (sym list_old)
          ∙ ap (λ b. option_and_then (put n.list_at.off list_go y) (put n.at.off b x c)) (sym old)
          ∙ ap (option_and_then (put n.list_at.off list_go y)) made

      done : (result : Option (Unit {0})) → IsMade (put n.list_at.off list_go y d) d e result
          → IsMade (option_and_then (put_links p n) (put_element p n c)) c e result
      done (Some v) is = pair ∙ is
      done None is = absurd (no_none (put n.list_at.off list_go y d) fits is.0)

  pub put_not_same : n.at.off ≡ n.list_at.off → option_and_then (put_links p n) (put_element p n c) ≡ None
  put_not_same same = nothing_after (put_element p n c) (put_links p n) none
    where
      none : (d : Content) → put_element p n c ≡ Some d → put_links p n d ≡ None
      none d made =
          let e = so (is_node p n) (put n.at.off go x c) d (so (is_graph p.kind && is_graph_page c.kind) (if_so (is_node p n) (put n.at.off go x c)) d made) in
          let there : item_at d.items n.list_at.off ≡ Some x = ap (item_at d.items) (sym same) ∙ made_here n.at.off go x c d e in
          over (is_graph p.kind && is_graph_page d.kind) (is_node p n) d there
        where
          over : (a b : Bool) (d : Content) → item_at d.items n.list_at.off ≡ Some x → if_so a (if_so b (put n.list_at.off (are_old_links n.version (links_at p d n.list_at.off)) y d)) ≡ None
          over false b d there = refl
          over true false d there = refl
          over true true d there = rw (list_over_element p d n.list_at.off (new_element n) there, there) refl

-- ---- a deleted node

pub emptied_is : (wrap version : ℕ) (h : LinksHead) (l : Links) (test : Bool) → h ≡ links_head l → test ≡ is_current h.deleted h.version version → test ≡ true
    → emptied wrap version l ≡ Some (links_with true (next_version wrap h.version) (replicate h.count None))
emptied_is wrap version h l test head is current =
    let d : h.deleted ≡ l.deleted = ap (λ (h : LinksHead). h.deleted) head in
    let f : h.version ≡ l.version = ap (λ (h : LinksHead). h.version) head in
    let n : h.count ≡ length l.tids = ap (λ (h : LinksHead). h.count) head in
    rw (← d, ← f, ← n, ← is, current) refl

pub not_emptied : (wrap version : ℕ) (h : LinksHead) (l : Links) (test : Bool) → h ≡ links_head l → test ≡ is_current h.deleted h.version version → test ≡ false
    → emptied wrap version l ≡ None
not_emptied wrap version h l test head is current =
    let d : h.deleted ≡ l.deleted = ap (λ (h : LinksHead). h.deleted) head in
    let f : h.version ≡ l.version = ap (λ (h : LinksHead). h.version) head in
    rw (← d, ← f, ← is, current) refl

module _ (p : Params) (n : Deletion) (c : Content) where
  abbrev wrap : ℕ
  wrap = n.wrap

  abbrev version : ℕ
  version = n.version

  abbrev off : ℕ
  off = n.at.off

  abbrev list_off : ℕ
  list_off = n.list_at.off

  abbrev first : Option Content
  first = delete_element p n c

  abbrev second : Content → Option Content
  second = delete_links p n

  -- the element that stands there then
  abbrev Marked : Content → Type 0
  Marked d = (old : List ℕ) × (e : Element) × (item_at c.items off ≡ Some old) × (d ≡ with_item c off (element_bytes e))

  marked_there : (d : Content) → first ≡ Some d → Marked d
  marked_there d made = there (item_at c.items off) refl (so (is_graph p.kind && is_graph_page c.kind) (head_changed (marked wrap version) p off c) d made)
    where
      change : (old : List ℕ) (e : Element) (o : Option ElementHead) → item_at c.items off ≡ Some old → option_map (λ h. with_item c off (element_bytes (with_head h e))) o ≡ Some d → Marked d
      change old e None is made = absurd cc
      change old e (Some h) is made = (old, with_head h e, is, sym (some_page (with_item c off (element_bytes (with_head h e))) d made))

      read : (old : List ℕ) (o : Option Element) → item_at c.items off ≡ Some old
          → option_and_then (λ e. option_map (λ h. with_item c off (element_bytes (with_head h e))) (marked wrap version (head_of_element e))) o ≡ Some d → Marked d
      read old None is made = absurd cc
      read old (Some e) is made = change old e (marked wrap version (head_of_element e)) is made

      there : (o : Option (List ℕ)) → item_at c.items off ≡ o
          → option_and_then (λ e. option_map (λ h. with_item c off (element_bytes (with_head h e))) (marked wrap version (head_of_element e))) (option_and_then (λ x. in_whole (element p x)) o) ≡ Some d
          → Marked d
      there None is made = absurd cc
      there (Some old) is made = read old (in_whole (element p old)) is made

  pub mark_not_same : off ≡ list_off → option_and_then second first ≡ None
  mark_not_same same = nothing_after first second none
    where
      over : (test : Bool) (d : Content) → links_at p d list_off ≡ None → if_so test (links_changed (emptied wrap version) p list_off d) ≡ None
      over false d none = refl
      over true d none = rw none refl

      none : (d : Content) → first ≡ Some d → second d ≡ None
      none d made =
          let t = marked_there d made in
          let here : item_at d.items list_off ≡ Some (element_bytes t.1) = ap (λ (m : Content). item_at m.items list_off) t.3 ∙ ap (item_at (with_item c off (element_bytes t.1)).items) (sym same) ∙ with_item_here c off t.0 (element_bytes t.1) t.2 in
          over (is_graph p.kind && is_graph_page d.kind) d (list_over_element p d list_off t.1 here)

  -- the list is the one that stood there before
  second_is : (is_graph p.kind && is_graph_page c.kind) ≡ true → (off ≡ list_off → ⊥) → (d : Content) → first ≡ Some d
      → second d ≡ option_and_then (λ l. option_map (λ changed. with_item d list_off (links_bytes changed)) (emptied wrap version l)) (links_at p c list_off)
  second_is graph apart d made =
      let t = marked_there d made in
      let kind : d.kind ≡ c.kind = ap (λ (m : Content). m.kind) t.3 in
      let same : links_at p d list_off ≡ links_at p c list_off = same_list p c d list_off (ap (λ (m : Content). item_at m.items list_off) t.3 ∙ with_item_others c off t.0 (element_bytes t.1) list_off t.2 apart) in
      rw (kind, graph, same) refl

  pub mark_not_after : (is_graph p.kind && is_graph_page c.kind) ≡ true → (off ≡ list_off → ⊥) → option_and_then (emptied wrap version) (links_at p c list_off) ≡ None → option_and_then second first ≡ None
  mark_not_after graph apart none = nothing_after first second (λ d made. second_is graph apart d made ∙ nothing (links_at p c list_off) d none)
    where
      nothing : (o : Option Links) (d : Content) → option_and_then (emptied wrap version) o ≡ None → option_and_then (λ l. option_map (λ changed. with_item d list_off (links_bytes changed)) (emptied wrap version l)) o ≡ None
      nothing None d none = refl
      nothing (Some l) d none = rw none refl

  pub mark_pair : (is_graph p.kind && is_graph_page c.kind) ≡ true → (off ≡ list_off → ⊥) → (d : Content) (l changed : Links) → first ≡ Some d → links_at p c list_off ≡ Some l → emptied wrap version l ≡ Some changed
      → option_and_then second first ≡ Some (with_item d list_off (links_bytes changed))
  mark_pair graph apart d l changed made list is = ap (option_and_then second) made ∙ second_is graph apart d made ∙ rw (list, is) refl

  -- the list stands there still
  pub list_stays : (d : Content) → first ≡ Some d → (off ≡ list_off → ⊥) → item_at d.items list_off ≡ item_at c.items list_off
  list_stays d made apart = let t = marked_there d made in ap (λ (m : Content). item_at m.items list_off) t.3 ∙ with_item_others c off t.0 (element_bytes t.1) list_off t.2 apart
