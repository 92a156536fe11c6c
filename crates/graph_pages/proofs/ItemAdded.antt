-- Pages of which one page has one item more, behind its last one, and another number.
use Rattle.std.proofs.Common.{◌≡◌, ℕ, zero, suc, ◌+◌, ◌==◌, Bool, true, false, cond, List, [], ◌∷◌, ◌++◌, length, Some, None, refl, sym, ap, ◌∙◌, arith, zero-add}
use Rattle.std.specs.Prelude.{slice_get, slice_set, flat_map}
use Rattle.std.specs.Option.{option_map, option_and_then, option_to_list}
use Rattle.std.proofs.lemmas.Bool.{eqb-true, eq-eqb}
use Rattle.std.proofs.lemmas.List.{length-set}
use Rattle.std.proofs.lemmas.Grind.{flat_map-append}
use Rattle.vec_names.specs.declared.tid.Tid.{Tid}
use Rattle.vec_names.specs.declared.params.Params.{Params}
use Rattle.vec_names.specs.Places.{same_tid}
use Rattle.byte_fields.specs.Reading.{Reader}
use Rattle.byte_fields.proofs.EachField.{some_is}
use Rattle.page_bytes.specs.Content.{Content, item_at, round8}
use Rattle.vec_tuples.specs.declared.element.Element.{Element}
use Rattle.vec_tuples.specs.Reading.{element}
use Rattle.page_redo.specs.PageTuples.{in_whole}
use Rattle.page_redo.specs.Redo.{numbered}
use Rattle.page_redo.proofs.Others.{set_apart}
use Rattle.page_redo.proofs.Putting.{IsPut, set_here, put_behind}
use Rattle.graph_pages.specs.Standing.{item_in, read_in, pointer_of, pointers_on, pointers, is_place, times_in}
use Rattle.graph_pages.proofs.PagePlaces.{item_on}
use Rattle.graph_pages.proofs.PageSets.{by_place}
use Rattle.graph_pages.proofs.Pointed.{times_both}

-- ---- how often a place is named

pub times_single : (q t : Tid) → times_in q (t ∷ []) ≡ cond (is_place q t) 1 0
times_single q t = zero-add (cond (is_place q t) 1 0)

-- by a list of which one element is changed, which names it so many times more
pub times_set : {X : Type 0} (f : X → List Tid) (q : Tid) (xs : List X) (i : ℕ) (old x : X) (more : ℕ) → slice_get xs i ≡ Some old
    → times_in q (f x) ≡ times_in q (f old) + more → times_in q (flat_map f (slice_set xs i x)) ≡ times_in q (flat_map f xs) + more
times_set f q [] i old x more is same = absurd cc
times_set f q (y ∷ ys) zero old x more is same =
    let first : times_in q (f y) ≡ times_in q (f old) = ap (λ z. times_in q (f z)) (some_is y old is) in
    omega (arith, times_both q (f x) (flat_map f ys), times_both q (f y) (flat_map f ys), first, same)
times_set f q (y ∷ ys) (suc i) old x more is same =
    omega (arith, times_both q (f y) (flat_map f (slice_set ys i x)), times_both q (f y) (flat_map f ys), times_set f q ys i old x more is same)

-- by a list with one element more
pub times_behind : {X : Type 0} (f : X → List Tid) (q : Tid) (xs : List X) (x : X)
    → times_in q (flat_map f (xs ++ x ∷ [])) ≡ times_in q (flat_map f xs) + times_in q (f x)
times_behind f q xs x =
    let split : times_in q (flat_map f (xs ++ x ∷ [])) ≡ times_in q (flat_map f xs ++ flat_map f (x ∷ [])) = ap (times_in q) (flat_map-append f xs (x ∷ [])) in
    let none : times_in q [] ≡ 0 = refl in
    omega (arith, split, times_both q (flat_map f xs) (flat_map f (x ∷ [])), times_both q (f x) [], none)

-- by one item
pub names_one : (p : Params) (x : List ℕ) (e : Element) (q : Tid) → in_whole (element p x) ≡ Some e
    → times_in q (pointer_of p x) ≡ cond (is_place q e.list_at) 1 0
names_one p x e q is = ap (λ o. times_in q (option_to_list (option_map (λ (e : Element). e.list_at) o))) is ∙ times_single q e.list_at

pub names_none : (p : Params) (x : List ℕ) (q : Tid) → in_whole (element p x) ≡ None → times_in q (pointer_of p x) ≡ 0
names_none p x q is = ap (λ o. times_in q (option_to_list (option_map (λ (e : Element). e.list_at) o))) is

-- ---- the pages

-- No item stood at the place, and this one does; everything else that pages stand for is as it was, but that the list pointer
-- of the item, if it is an element, is one more.
pub record IsAddedAt (place : Tid) (new : List ℕ) (pages after : List Content) : Type 0 where
  pub count : length after ≡ length pages
  pub was : item_in pages place ≡ None
  pub now : item_in after place ≡ Some new
  pub apart : (at : Tid) → (place ≡ at → ⊥) → item_in after at ≡ item_in pages at
  pub elsewhere : (block : ℕ) → (place.block ≡ block → ⊥) → slice_get after block ≡ slice_get pages block
  pub kinds : (block : ℕ) (d : Content) → slice_get after block ≡ Some d
      → (c : Content) × (slice_get pages block ≡ Some c) × (d.kind ≡ c.kind)
  pub named : (p : Params) (q : Tid) → times_in q (pointers p after) ≡ times_in q (pointers p pages) + times_in q (pointer_of p new)

-- the page with the item behind its last one
abbrev pub with_more : Content → List ℕ → Content
with_more c x = record c { items = c.items ++ x ∷ [] }

module _ (pages : List Content) (place : Tid) (c : Content) (number : ℕ) (new : List ℕ) (there : slice_get pages place.block ≡ Some c)
    (none : item_at c.items place.off ≡ None) (behind : place.off ≡ suc (length c.items)) where
  abbrev page : Content
  page = numbered number (with_more c new)

  abbrev after : List Content
  after = slice_set pages place.block page

  put : IsPut place.off new 1 (round8 (length new) + 4) c (with_more c new)
  put = put_behind c (with_more c new) place.off new behind refl

  block_now : slice_get after place.block ≡ Some page
  block_now = set_here pages place.block c page there

  others_stay : (at : Tid) → (place ≡ at → ⊥) → item_in after at ≡ item_in pages at
  others_stay at other = by_block (at.block == place.block) refl
    where
      by_block : (test : Bool) → (at.block == place.block) ≡ test → item_in after at ≡ item_in pages at
      by_block true e =
          let same : at.block ≡ place.block = eqb-true at.block place.block e in
          item_on after page at place.block block_now same
          ∙ put.apart at.off (λ f. other (same_tid place at (sym same) f))
          ∙ sym (item_on pages c at place.block there same)
      by_block false e =
          let not_same : place.block ≡ at.block → ⊥ = λ f. let t = eq-eqb at.block place.block (sym f) in absurd cc in
          ap (λ o. option_and_then (λ (c : Content). item_at c.items at.off) o) (set_apart pages place.block at.block page not_same)

  kinds_stay : (block : ℕ) (d : Content) → slice_get after block ≡ Some d
      → (b : Content) × (slice_get pages block ≡ Some b) × (d.kind ≡ b.kind)
  kinds_stay block d got = by_block (block == place.block) refl
    where
      by_block : (test : Bool) → (block == place.block) ≡ test
          → (b : Content) × (slice_get pages block ≡ Some b) × (d.kind ≡ b.kind)
      by_block true e =
          let same : block ≡ place.block = eqb-true block place.block e in
          let d_is : d ≡ page = some_is d page (sym got ∙ ap (slice_get after) same ∙ block_now) in
          (c, ap (slice_get pages) same ∙ there, ap (λ (x : Content). x.kind) d_is)
      by_block false e =
          let not_same : place.block ≡ block → ⊥ = λ f. let t = eq-eqb block place.block (sym f) in absurd cc in
          (d, sym (set_apart pages place.block block page not_same) ∙ got, refl)

  pub added_at : IsAddedAt place new pages after
  added_at = record {
    count = length-set pages place.block page;
    was = item_on pages c place place.block there refl ∙ none;
    now = item_on after page place place.block block_now refl ∙ put.here;
    apart = others_stay;
    elsewhere = λ block other. set_apart pages place.block block page other;
    kinds = kinds_stay;
    named = λ p q. times_set (pointers_on p) q pages place.block c page (times_in q (pointer_of p new)) there
        (times_behind (pointer_of p) q c.items new);
  }

-- ---- what is read there

module _ {place : Tid} {new : List ℕ} {pages after : List Content} (change : IsAddedAt place new pages after) where
  pub more_now : {A : Type 0} (f : Reader A) → read_in f after place ≡ in_whole (f new)
  more_now f = ap (λ o. option_and_then (λ x. in_whole (f x)) o) change.now

  pub more_was : {A : Type 0} (f : Reader A) → read_in f pages place ≡ None
  more_was f = ap (λ o. option_and_then (λ x. in_whole (f x)) o) change.was

  pub more_apart : {A : Type 0} (f : Reader A) (at : Tid) → (place ≡ at → ⊥) → read_in f after at ≡ read_in f pages at
  more_apart f at other = ap (λ o. option_and_then (λ x. in_whole (f x)) o) (change.apart at other)

  -- where the item reads as nothing, all places read as they did
  pub more_alike : {A : Type 0} (f : Reader A) → in_whole (f new) ≡ None → (at : Tid) → read_in f after at ≡ read_in f pages at
  more_alike f none at = by_place (read_in f after at ≡ read_in f pages at) at place
      (λ e. ap (read_in f after) (sym e) ∙ more_now f ∙ none ∙ sym (more_was f) ∙ ap (read_in f pages) e)
      (λ other. more_apart f at other)
