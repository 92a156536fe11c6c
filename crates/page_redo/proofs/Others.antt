-- An event changes no other item than those that it names.
use Rattle.std.proofs.Common.{◌≡◌, ℕ, zero, suc, ◌+◌, ◌-◌, ◌<◌, ◌≤◌, Bool, true, false, not, ◌&&◌, eqb, List, [], ◌∷◌, ◌++◌, length, Option, Some, None, refl, sym, ap, ◌∙◌, arith, lit<, lit≤}
use Rattle.std.specs.Prelude.{Contains, slice_get, slice_set, nat_lt, nat_le}
use Rattle.std.specs.Option.{option_map, option_and_then}
use Rattle.std.specs.Prelude.{if◌then◌else◌}
use Rattle.std.proofs.lemmas.Bool.{eqb-true}
use Rattle.std.proofs.lemmas.List.{length-append, length-set}
use Rattle.vec_names.specs.declared.params.Params.{Params}
use Rattle.vec_history.specs.declared.event.Event.{Event}
use Rattle.vec_history.specs.declared.event.Event.TheVariants.{Put, Join, Link, Relist, Drop, Mark, Entry, Hint, IvfAdd, IvfGrow, IvfDrop, IvfHint, Gate, Ungate, Phase, VacuumEnd, Cancel, Settled, DiskFaulted}
use Rattle.byte_fields.proofs.EachField.{some_is}
use Rattle.page_bytes.specs.Content.{Content, item_at, round8, free_of}
use Rattle.vec_names.specs.declared.heap_id.HeapId.{HeapId}
use Rattle.vec_tuples.specs.declared.element.ElementHead.{ElementHead}
use Rattle.vec_tuples.specs.declared.links.Links.{Links}
use Rattle.vec_tuples.specs.declared.meta.Meta.{Meta}
use Rattle.vec_tuples.specs.Spelling.{element_bytes, head_of_element, links_bytes, meta_bytes, centre_bytes, centre_with, entry_bytes, row_with}
use Rattle.page_redo.specs.PageTuples.{with_item, with_head, added, head_changed, links_changed, centre_changed, meta_changed, element_at, links_at, centre_at, meta_at, is_graph, is_graph_page, is_meta_page, is_lists_page, is_entries_page}
use Rattle.page_redo.specs.PageChanges.{PageChange, when, if_so, on_graph, on_meta, joined, dropped, marked, linked, relisted, emptied, entered, hinted, put_over, put, NewNode, new_node, is_node, is_old_element, are_old_links, new_element, new_links, put_element, put_links, entry_added, grown, chained, list_block, list_offset, aimed}
use Rattle.page_redo.specs.Redo.{at_one, at_two, changed, named, AreEntriesDropped}

-- ---- items of a list that is changed

pub set_apart : {X : Type 0} (items : List X) (i j : ℕ) (x : X) → (i ≡ j → ⊥) → slice_get (slice_set items i x) j ≡ slice_get items j
set_apart [] i j x apart = refl
set_apart (y ∷ ys) zero zero x apart = absurd (apart refl)
set_apart (y ∷ ys) zero (suc j) x apart = refl
set_apart (y ∷ ys) (suc i) zero x apart = refl
set_apart (y ∷ ys) (suc i) (suc j) x apart = set_apart ys i j x (λ e. apart (ap (λ n. suc n) e))

front_stays : (items more : List (List ℕ)) (j : ℕ) → j < length items → slice_get (items ++ more) j ≡ slice_get items j
front_stays [] more j h = absurd (omega arith)
front_stays (y ∷ ys) more zero h = refl
front_stays (y ∷ ys) more (suc j) h = front_stays ys more j (omega arith)

-- ---- pages that keep the item at an offset

record Keeps (off : ℕ) (c d : Content) : Type 0 where
  same : item_at d.items off ≡ item_at c.items off
  longer : length c.items ≤ length d.items

with_item_keeps : (c : Content) (a off : ℕ) (x : List ℕ) → 1 ≤ a → (a ≡ off → ⊥) → Keeps off c (with_item c a x)
with_item_keeps c a zero x low apart = record { same = refl; longer = omega (arith, length-set c.items (a - 1) x) }
with_item_keeps c a (suc j) x low apart = record {
  same = set_apart c.items (a - 1) j x (λ e. apart (omega (arith, e)));
  longer = omega (arith, length-set c.items (a - 1) x);
}

behind_keeps : (c d : Content) (off : ℕ) (x : List ℕ) → d.items ≡ c.items ++ x ∷ [] → off ≤ length c.items → Keeps off c d
behind_keeps c d zero x is h = record { same = refl; longer = omega (arith, ap (λ (l : List (List ℕ)). length l) is, length-append c.items (x ∷ [])) }
behind_keeps c d (suc j) x is h = record {
  same = ap (λ (l : List (List ℕ)). slice_get l j) is ∙ front_stays c.items (x ∷ []) j (omega (arith, h));
  longer = omega (arith, ap (λ (l : List (List ℕ)). length l) is, length-append c.items (x ∷ []));
}

-- ---- what a role that gives a page has made

pub so : (test : Bool) (o : Option Content) (d : Content) → if_so test o ≡ Some d → o ≡ Some d
so true o d is = is
so false o d is = absurd cc

pub given : (test : Bool) (v d : Content) → when test v ≡ Some d → v ≡ d
given true v d is = some_is v d is
given false v d is = absurd cc

pub added_is : (x : List ℕ) (c d : Content) → added x c ≡ Some d → d.items ≡ c.items ++ x ∷ []
added_is x c d is = let e = given (nat_le (round8 (length x) + 4) (free_of c)) (record c { items = c.items ++ x ∷ [] }) d is in ap (λ (p : Content). p.items) (sym e)

mapped_once : {B : Type 0} (c d : Content) (off : ℕ) (view : B → List ℕ) (o : Option B) → option_map (λ b. with_item c off (view b)) o ≡ Some d → (x : List ℕ) × (d ≡ with_item c off x)
mapped_once c d off view None is = absurd cc
mapped_once c d off view (Some b) is = (view b, sym (some_is (with_item c off (view b)) d is))

mapped : {A B : Type 0} (c d : Content) (off : ℕ) (change : A → Option B) (view : A → B → List ℕ) (o : Option A) → option_and_then (λ a. option_map (λ b. with_item c off (view a b)) (change a)) o ≡ Some d
    → (x : List ℕ) × (d ≡ with_item c off x)
mapped c d off change view None is = absurd cc
mapped c d off change view (Some a) is = mapped_once c d off (view a) (change a) is

-- such a role keeps the items at other offsets
abbrev KeepsApart : ℕ → PageChange → Type 0
KeepsApart a role = (c d : Content) (off : ℕ) → role c ≡ Some d → off ≤ length c.items → (a ≡ off → ⊥) → Keeps off c d

from_item : (c d : Content) (a off : ℕ) → 1 ≤ a → (x : List ℕ) × (d ≡ with_item c a x) → (a ≡ off → ⊥) → Keeps off c d
from_item c d a off low made apart = rw made.1 (with_item_keeps c a off made.0 low apart)

put_over_keeps : (o : Option (List ℕ)) (a : ℕ) (may_go : Bool) (x : List ℕ) → 1 ≤ a → KeepsApart a (put_over o a may_go x)
put_over_keeps None a may_go x low c d off is h apart = behind_keeps c d off x (added_is x c d (so (eqb a (length c.items + 1)) (added x c) d is)) h
put_over_keeps (Some old) a may_go x low c d off is h apart = from_item c d a off low (x, sym (given (may_go && eqb (length old) (length x)) (with_item c a x) d is)) apart

one_keeps : (a at : ℕ) (role : PageChange) (block : ℕ) (c d : Content) (off : ℕ) → KeepsApart at role → at_one a role block c ≡ Some d → off ≤ length c.items
    → (Contains {X = ℕ × ℕ} ((a, at) ∷ []) (block, off) → ⊥) → Keeps off c d
one_keeps a at role block c d off keeps is h apart = here (eqb a block) refl is
  where
    here : (b : Bool) → eqb a block ≡ b → if_so b (role c) ≡ Some d → Keeps off c d
    here false e is = absurd cc
    here true e is = keeps c d off is h (λ same. apart (0, lit< tt, (λ i. (eqb-true a block e i, same i))))

then_keeps : (off : ℕ) (c d : Content) (first second : PageChange) → ((e : Content) → first c ≡ Some e → Keeps off c e) → ((e f : Content) → second e ≡ Some f → off ≤ length e.items → Keeps off e f)
    → off ≤ length c.items → (o : Option Content) → first c ≡ o → option_and_then second o ≡ Some d → Keeps off c d
then_keeps off c d first second one two h None e is = absurd cc
then_keeps off c d first second one two h (Some m) e is =
    let a = one m e in
    let b = two m d is (omega (arith, h, a.longer)) in
    record { same = b.same ∙ a.same; longer = omega (arith, a.longer, b.longer) }

two_keep : (a b at list_at : ℕ) (first second : PageChange) (block : ℕ) (c d : Content) (off : ℕ) → KeepsApart at first → KeepsApart list_at second → at_two a first b second block c ≡ Some d → off ≤ length c.items
    → (Contains {X = ℕ × ℕ} ((a, at) ∷ (b, list_at) ∷ []) (block, off) → ⊥) → Keeps off c d
two_keep a b at list_at first second block c d off keeps_first keeps_second is h apart = here (eqb a block) (eqb b block) refl refl is
  where
    here : (x y : Bool) → eqb a block ≡ x → eqb b block ≡ y → (if x then (if y then option_and_then second (first c) else first c) else (if y then second c else None)) ≡ Some d → Keeps off c d
    here false false e f is = absurd cc
    here false true e f is = keeps_second c d off is h (λ same. apart (1, lit< tt, (λ i. (eqb-true b block f i, same i))))
    here true false e f is = keeps_first c d off is h (λ same. apart (0, lit< tt, (λ i. (eqb-true a block e i, same i))))
    here true true e f is =
        then_keeps off c d first second
        (λ m made. keeps_first c m off made h (λ same. apart (0, lit< tt, (λ i. (eqb-true a block e i, same i)))))
        (λ m n made low. keeps_second m n off made low (λ same. apart (1, lit< tt, (λ i. (eqb-true b block f i, same i)))))
        h (first c) refl is

-- ---- each kind of role

head_keeps : (p : Params) (change : ElementHead → Option ElementHead) (a : ℕ) → 1 ≤ a → KeepsApart a (on_graph p (head_changed change p a))
head_keeps p change a low c d off is h apart =
    from_item c d a off low (mapped c d a (λ e. change (head_of_element e)) (λ e h. element_bytes (with_head h e)) (element_at p c a) (so (is_graph p.kind && is_graph_page c.kind) (head_changed change p a c) d is)) apart

links_keep : (p : Params) (change : Links → Option Links) (a : ℕ) → 1 ≤ a → KeepsApart a (on_graph p (links_changed change p a))
links_keep p change a low c d off is h apart =
    from_item c d a off low (mapped c d a change (λ l changed. links_bytes changed) (links_at p c a) (so (is_graph p.kind && is_graph_page c.kind) (links_changed change p a c) d is)) apart

meta_keeps : (change : Meta → Option Meta) → KeepsApart 1 (on_meta (meta_changed change))
meta_keeps change c d off is h apart =
    from_item c d 1 off (lit≤ tt) (mapped c d 1 change (λ m changed. meta_bytes changed) (meta_at c) (so (is_meta_page c.kind) (meta_changed change c) d is)) apart

aim_keeps : (p : Params) (list aim : ℕ) → KeepsApart (list_offset p list) (aimed p list aim)
aim_keeps p list aim c d off is h apart =
    from_item c d (list_offset p list) off (omega arith)
    (mapped_once c d (list_offset p list) (λ l. centre_bytes (centre_with l.first aim l.bits)) (centre_at p c (list_offset p list)) (so (not (is_graph p.kind) && is_lists_page c.kind) (centre_changed (λ l. centre_with l.first aim l.bits) p (list_offset p list) c) d is)) apart

element_keeps : (p : Params) (n : NewNode) → KeepsApart n.at.off (put_element p n)
element_keeps p n c d off is h apart =
    let made = element_bytes (new_element n) in
    let may_go = is_old_element n.version (element_at p c n.at.off) in
    put_over_keeps (item_at c.items n.at.off) n.at.off may_go made n.at.counted_from_one c d off
    (so (is_node p n) (put n.at.off may_go made c) d (so (is_graph p.kind && is_graph_page c.kind) (if_so (is_node p n) (put n.at.off may_go made c)) d is)) h apart

new_links_keep : (p : Params) (n : NewNode) → KeepsApart n.list_at.off (put_links p n)
new_links_keep p n c d off is h apart =
    let made = links_bytes (new_links n) in
    let may_go = are_old_links n.version (links_at p c n.list_at.off) in
    put_over_keeps (item_at c.items n.list_at.off) n.list_at.off may_go made n.list_at.counted_from_one c d off
    (so (is_node p n) (put n.list_at.off may_go made c) d (so (is_graph p.kind && is_graph_page c.kind) (if_so (is_node p n) (put n.list_at.off may_go made c)) d is)) h apart

-- entries stay where one is added, at whatever offset
entry_keeps : (p : Params) (id : HeapId) (bits : List Bool) (c d : Content) (off : ℕ) → entry_added p id bits c ≡ Some d → off ≤ length c.items → Keeps off c d
entry_keeps p id bits c d off is h =
    let x = entry_bytes (row_with id bits) in
    behind_keeps c d off x (added_is x c d (so (eqb (length bits) p.bits) (added x c) d (so (not (is_graph p.kind) && is_entries_page c.kind) (if_so (eqb (length bits) p.bits) (added x c)) d is))) h

grown_keeps : (p : Params) (id : HeapId) (bits : List Bool) (c d : Content) (off : ℕ) → grown p id bits c ≡ Some d → off ≤ length c.items → Keeps off c d
grown_keeps p id bits c d off is h =
    let x = entry_bytes (row_with id bits) in
    behind_keeps c d off x (added_is x (record c { next = None }) d (so (eqb (length c.items) 0 && eqb (length bits) p.bits) (added x (record c { next = None })) d (so (not (is_graph p.kind) && is_entries_page c.kind) (if_so (eqb (length c.items) 0 && eqb (length bits) p.bits) (added x (record c { next = None }))) d is))) h

chained_keeps : (p : Params) (block : ℕ) (bits : List Bool) (c d : Content) (off : ℕ) → chained p block bits c ≡ Some d → Keeps off c d
chained_keeps p block bits c d off is =
    let e = given (nat_lt block 0xFFFFFFFF && eqb (length bits) p.bits) (record c { next = Some block }) d (so (not (is_graph p.kind) && is_entries_page c.kind) (when (nat_lt block 0xFFFFFFFF && eqb (length bits) p.bits) (record c { next = Some block })) d is) in
    let items : d.items ≡ c.items = ap (λ (p : Content). p.items) (sym e) in
    record { same = ap (λ (l : List (List ℕ)). item_at l off) items; longer = omega (arith, ap (λ (l : List (List ℕ)). length l) items) }

add_one_keeps : (a : ℕ) (role : PageChange) (block : ℕ) (c d : Content) (off : ℕ) → ((e : Content) → role c ≡ Some e → Keeps off c e) → at_one a role block c ≡ Some d → Keeps off c d
add_one_keeps a role block c d off keeps is = keeps d (so (eqb a block) (role c) d is)

grow_keeps : (new last : ℕ) (p : Params) (id : HeapId) (bits : List Bool) (block : ℕ) (c d : Content) (off : ℕ) → at_two new (grown p id bits) last (chained p new bits) block c ≡ Some d → off ≤ length c.items → Keeps off c d
grow_keeps new last p id bits block c d off is h = here (eqb new block) (eqb last block) is
  where
    here : (x y : Bool) → (if x then (if y then option_and_then (chained p new bits) (grown p id bits c) else grown p id bits c) else (if y then chained p new bits c else None)) ≡ Some d → Keeps off c d
    here false false is = absurd cc
    here false true is = chained_keeps p new bits c d off is
    here true false is = grown_keeps p id bits c d off is h
    here true true is =
        then_keeps off c d (grown p id bits) (chained p new bits) (λ m made. grown_keeps p id bits c m off made h) (λ m n made low. chained_keeps p new bits m n off made) h (grown p id bits c) refl is

-- ---- each kind of event

kept_by : (event : Event) (p : Params) (wrap block : ℕ) (c d : Content) → changed event p wrap block c ≡ Some d → (AreEntriesDropped event → ⊥) → (off : ℕ) → off ≤ length c.items
    → (Contains (named event p) (block, off) → ⊥) → Keeps off c d
kept_by (Put at list_at version level id bits lists) p wrap block c d is stay off h apart =
    let n = new_node at list_at version level id bits lists in
    two_keep at.block list_at.block at.off list_at.off (put_element p n) (put_links p n) block c d off (element_keeps p n) (new_links_keep p n) is h apart
kept_by (Join at version id) p wrap block c d is stay off h apart = one_keeps at.block at.off (on_graph p (head_changed (joined version id) p at.off)) block c d off (head_keeps p (joined version id) at.off at.counted_from_one) is h apart
kept_by (Link at list_at version slot to) p wrap block c d is stay off h apart =
    one_keeps list_at.block list_at.off (on_graph p (links_changed (linked version slot to) p list_at.off)) block c d off (links_keep p (linked version slot to) list_at.off list_at.counted_from_one) is h apart
kept_by (Relist at list_at version lists) p wrap block c d is stay off h apart =
    one_keeps list_at.block list_at.off (on_graph p (links_changed (relisted version lists) p list_at.off)) block c d off (links_keep p (relisted version lists) list_at.off list_at.counted_from_one) is h apart
kept_by (Drop at version gone) p wrap block c d is stay off h apart = one_keeps at.block at.off (on_graph p (head_changed (dropped version gone) p at.off)) block c d off (head_keeps p (dropped version gone) at.off at.counted_from_one) is h apart
kept_by (Mark at list_at version) p wrap block c d is stay off h apart =
    two_keep at.block list_at.block at.off list_at.off (on_graph p (head_changed (marked wrap version) p at.off)) (on_graph p (links_changed (emptied wrap version) p list_at.off)) block c d off (head_keeps p (marked wrap version) at.off at.counted_from_one) (links_keep p (emptied wrap version) list_at.off list_at.counted_from_one) is h apart
kept_by (Entry to level) p wrap block c d is stay off h apart = one_keeps 0 1 (on_meta (meta_changed (entered to level))) block c d off (meta_keeps (entered to level)) is h apart
kept_by (Hint hint) p wrap block c d is stay off h apart = one_keeps 0 1 (on_meta (meta_changed (hinted hint))) block c d off (meta_keeps (hinted hint)) is h apart
kept_by (IvfAdd to id bits) p wrap block c d is stay off h apart = add_one_keeps to (entry_added p id bits) block c d off (λ e made. entry_keeps p id bits c e off made h) is
kept_by (IvfGrow list last new id bits) p wrap block c d is stay off h apart = grow_keeps new last p id bits block c d off is h
kept_by (IvfDrop of gone) p wrap block c d is stay off h apart = absurd (stay tt)
kept_by (IvfHint list aim) p wrap block c d is stay off h apart = one_keeps (list_block p list) (list_offset p list) (aimed p list aim) block c d off (aim_keeps p list aim) is h apart
kept_by (Gate gate hold) p wrap block c d is stay off h apart = absurd cc
kept_by (Ungate gate) p wrap block c d is stay off h apart = absurd cc
kept_by (Phase stage) p wrap block c d is stay off h apart = absurd cc
kept_by VacuumEnd p wrap block c d is stay off h apart = absurd cc
kept_by (Cancel stage) p wrap block c d is stay off h apart = absurd cc
kept_by (Settled upto) p wrap block c d is stay off h apart = absurd cc
kept_by (DiskFaulted count) p wrap block c d is stay off h apart = absurd cc

pub others_stay : (event : Event) (p : Params) (wrap block : ℕ) (c d : Content) → changed event p wrap block c ≡ Some d → (AreEntriesDropped event → ⊥) → (off : ℕ) → off ≤ length c.items
    → (Contains (named event p) (block, off) → ⊥) → item_at d.items off ≡ item_at c.items off
others_stay event p wrap block c d is stay off h apart = (kept_by event p wrap block c d is stay off h apart).same
