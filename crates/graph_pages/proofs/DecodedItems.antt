-- The items of pages, decoded once each, tell the rules of the blocks and the list pointers.
use Rattle.std.proofs.Common.{◌≡◌, ℕ, ◌+◌, ◌-◌, ◌<◌, Bool, true, false, ◌&&◌, ◌||◌, ◌==◌, List, [], ◌∷◌, ◌++◌, length, map, take, get_or, add-one, Option, Some, None, refl, sym, ap, ap₂, ◌∙◌}
use Rattle.std.specs.Prelude.{slice_get, flat_map}
use Rattle.std.specs.List.{list_all}
use Rattle.std.specs.Option.{option_map, option_and_then, option_to_list}
use Rattle.std.proofs.lemmas.Option.{slice_get-map, slice_get-get_or}
use Rattle.std.proofs.lemmas.List.{take_more, map-append}
use Rattle.std.proofs.lemmas.List.Concat.{flat_map-cons}
use Rattle.vec_names.specs.declared.tid.Tid.{Tid}
use Rattle.vec_names.specs.declared.params.Params.{Params}
use Rattle.page_bytes.specs.Content.{Content, item_at}
use Rattle.vec_tuples.specs.declared.element.Element.{Element as ElementTuple}
use Rattle.vec_tuples.specs.declared.element.ElementHead.{ElementHead}
use Rattle.vec_tuples.specs.declared.links.Links.{Links}
use Rattle.vec_tuples.specs.Spelling.{head_of_element}
use Rattle.vec_tuples.specs.Reading.{element, links}
use Rattle.byte_fields.proofs.EachField.{some_is}
use Rattle.page_redo.specs.declared.items.LinksHead.{LinksHead}
use Rattle.page_redo.specs.PageTuples.{in_whole, links_head}
use Rattle.page_redo.proofs.Putting.{at_place}
use Rattle.graph_pages.specs.declared.decoded.Item.{Item}
use Rattle.graph_pages.specs.declared.decoded.Item.TheVariants as items
use Rattle.graph_pages.specs.declared.decoded.Item.TheVariants.{Element, Neither}
use Rattle.graph_pages.specs.Standing.{item_in, links_in, is_list_of, is_element, is_slot_below, is_list, is_node_item, times_in, pointers_on, pointers, pointer_of as pointer_in}
use Rattle.graph_pages.specs.Decoding.{element_item, decoded, item_of, items_on, items_of, found, is_list_item_of, pointer_of}
use Rattle.graph_pages.proofs.KindsApart.{element_is_no_list}

-- ---- one item

pub element_told : (blocks : ℕ) (h : ElementHead) (o : Option ElementTuple) (l : Option Links) → Some h ≡ option_map head_of_element o
    → Element (record { level = h.level; version = h.version; deleted = h.deleted; list_at = h.list_at }) ≡ decoded blocks o l
element_told blocks h None l is = absurd cc
element_told blocks h (Some e) l is =
    let same = some_is h (head_of_element e) is in
    ap (λ (g : ElementHead). Element (record { level = g.level; version = g.version; deleted = g.deleted; list_at = g.list_at })) same

pub list_told : (blocks : ℕ) (h : LinksHead) (o : Option Links) (below : Bool) → Some h ≡ option_map links_head o
    → ((l : Links) → o ≡ Some l → below ≡ list_all (is_slot_below blocks) l.tids)
    → items.List (record { version = h.version; deleted = h.deleted; count = h.count; below = below }) ≡ decoded blocks None o
list_told blocks h None below is all = absurd cc
list_told blocks h (Some l) below is all =
    let same = some_is h (links_head l) is in
    ap (λ (g : LinksHead). items.List (record { version = g.version; deleted = g.deleted; count = g.count; below = below })) same
    ∙ ap (λ (b : Bool). items.List (record { version = l.version; deleted = l.deleted; count = length l.tids; below = b })) (all l refl)

-- one item more of a page
pub items_more : (f : List ℕ → Item) (xs : List (List ℕ)) (i : ℕ) (more : Item) → i < length xs → ((x : List ℕ) → item_at xs (i + 1) ≡ Some x → more ≡ f x)
    → map f (take i xs) ++ more ∷ [] ≡ map f (take (i + 1) xs)
items_more f xs i more below told =
    let x = get_or xs i [] in
    let here : item_at xs (i + 1) ≡ Some x = ap (item_at xs) (add-one i) ∙ slice_get-get_or xs i [] below in
    ap (λ (m : Item). map f (take i xs) ++ m ∷ []) (told x here)
    ∙ sym (map-append f (take i xs) (x ∷ []))
    ∙ ap (map f) (sym (take_more xs i [] below))

-- ---- the item at a place

pub found_is : (p : Params) (pages : List Content) (at : Tid) → found (items_of p pages) at ≡ option_map (item_of p (length pages)) (item_in pages at)
found_is p pages at =
    ap (option_and_then (λ (on_block : List Item). slice_get on_block (at.off - 1))) (slice_get-map (items_on p (length pages)) pages at.block)
    ∙ by_page (slice_get pages at.block)
  where
    by_page : (o : Option Content) → option_and_then (λ (on_block : List Item). slice_get on_block (at.off - 1)) (option_map (items_on p (length pages)) o)
        ≡ option_map (item_of p (length pages)) (option_and_then (λ (c : Content). item_at c.items at.off) o)
    by_page None = refl
    by_page (Some c) =
        slice_get-map (item_of p (length pages)) c.items (at.off - 1)
        ∙ ap (option_map (item_of p (length pages))) (sym (at_place c.items at.off at.counted_from_one))

list_same : (p : Params) (blocks : ℕ) (e : ElementTuple) (o : Option (List ℕ))
    → is_list_item_of p.m (element_item e) (option_map (item_of p blocks) o) ≡ is_list_of p (head_of_element e) (option_and_then (λ x. in_whole (links p x)) o)
list_same p blocks e None = refl
list_same p blocks e (Some x) = by_parts (in_whole (element p x)) (in_whole (links p x)) (element_is_no_list p x)
  where
    by_parts : (f : Option ElementTuple) (l : Option Links) → ((g : ElementTuple) → f ≡ Some g → l ≡ None)
        → is_list_item_of p.m (element_item e) (Some (decoded blocks f l)) ≡ is_list_of p (head_of_element e) l
    by_parts None None apart = refl
    by_parts None (Some l) apart = refl
    by_parts (Some g) None apart = refl
    by_parts (Some g) (Some l) apart = let none = apart g refl in absurd cc

or_false : (b : Bool) → b ≡ (b || false)
or_false true = refl
or_false false = refl

-- what an item tells of its block
abbrev pub verdict : Params → List Content → Tid → Option Item → Bool
verdict p pages at (Some (Element e)) = is_list_item_of p.m e (found (items_of p pages) e.list_at)
verdict p pages at (Some (items.List l)) = times_in at (pointers p pages) == 1 && l.below
verdict p pages at (Some Neither) = false
verdict p pages at None = false

pub judged : (p : Params) (pages : List Content) (at : Tid) → verdict p pages at (found (items_of p pages) at) ≡ is_node_item p pages at
judged p pages at = ap (verdict p pages at) (found_is p pages at) ∙ by_item (item_in pages at)
  where
    by_parts : (f : Option ElementTuple) (l : Option Links) → ((g : ElementTuple) → f ≡ Some g → l ≡ None)
        → verdict p pages at (Some (decoded (length pages) f l)) ≡ (is_element p pages (option_map head_of_element f) || is_list p pages at l)
    by_parts None None apart = refl
    by_parts None (Some l) apart = refl
    by_parts (Some e) None apart =
        ap (is_list_item_of p.m (element_item e)) (found_is p pages e.list_at)
        ∙ list_same p (length pages) e (item_in pages e.list_at)
        ∙ or_false (is_list_of p (head_of_element e) (links_in p pages e.list_at))
    by_parts (Some e) (Some l) apart = let none = apart e refl in absurd cc

    by_item : (o : Option (List ℕ)) → verdict p pages at (option_map (item_of p (length pages)) o)
        ≡ (is_element p pages (option_map head_of_element (option_and_then (λ x. in_whole (element p x)) o)) || is_list p pages at (option_and_then (λ x. in_whole (links p x)) o))
    by_item None = refl
    by_item (Some x) = by_parts (in_whole (element p x)) (in_whole (links p x)) (element_is_no_list p x)

-- ---- the list pointers

pointer_same : (p : Params) (blocks : ℕ) (x : List ℕ) → pointer_of (item_of p blocks x) ≡ pointer_in p x
pointer_same p blocks x = by_parts (in_whole (element p x)) (in_whole (links p x))
  where
    by_parts : (f : Option ElementTuple) (l : Option Links) → pointer_of (decoded blocks f l) ≡ option_to_list (option_map (λ e. e.list_at) f)
    by_parts (Some e) l = refl
    by_parts None (Some l) = refl
    by_parts None None = refl

on_items : (p : Params) (blocks : ℕ) (xs : List (List ℕ)) → flat_map pointer_of (map (item_of p blocks) xs) ≡ flat_map (pointer_in p) xs
on_items p blocks [] = refl
on_items p blocks (x ∷ xs) =
    flat_map-cons pointer_of (item_of p blocks x) (map (item_of p blocks) xs)
    ∙ ap₂ (λ (a b : List Tid). a ++ b) (pointer_same p blocks x) (on_items p blocks xs)
    ∙ sym (flat_map-cons (pointer_in p) x xs)

on_pages : (p : Params) (blocks : ℕ) (cs : List Content) → flat_map (flat_map pointer_of) (map (items_on p blocks) cs) ≡ flat_map (pointers_on p) cs
on_pages p blocks [] = refl
on_pages p blocks (c ∷ cs) =
    flat_map-cons (flat_map pointer_of) (items_on p blocks c) (map (items_on p blocks) cs)
    ∙ ap₂ (λ (a b : List Tid). a ++ b) (on_items p blocks c.items) (on_pages p blocks cs)
    ∙ sym (flat_map-cons (pointers_on p) c cs)

pub pointers_told : (p : Params) (pages : List Content) → flat_map (flat_map pointer_of) (items_of p pages) ≡ pointers p pages
pointers_told p pages = on_pages p (length pages) pages
