-- Pages of which one item of one page is changed, and the number of that page.
use Rattle.std.proofs.Common.{◌≡◌, ℕ, ◌-◌, ◌==◌, Bool, true, false, cond, List, [], ◌∷◌, ◌++◌, zero, suc, length, Option, Some, refl, sym, ap, ◌∙◌, arith}
use Rattle.std.specs.Prelude.{slice_get, slice_set, flat_map}
use Rattle.std.specs.Option.{option_and_then}
use Rattle.std.specs.FinMap.{FinMap, get, insert}
use Rattle.std.proofs.lemmas.Bool.{eqb-true, eq-eqb}
use Rattle.std.proofs.lemmas.List.{length-set}
use Rattle.vec_names.specs.declared.tid.Tid.{Tid}
use Rattle.vec_names.specs.declared.params.Params.{Params}
use Rattle.vec_names.specs.Order.{tid_cmp}
use Rattle.vec_names.specs.Places.{same_tid}
use Rattle.byte_fields.specs.Reading.{Reader}
use Rattle.byte_fields.proofs.EachField.{some_is}
use Rattle.page_bytes.specs.Content.{Content, item_at}
use Rattle.page_redo.specs.PageTuples.{in_whole, with_item, is_graph_page}
use Rattle.page_redo.specs.Redo.{numbered}
use Rattle.graph_pages.specs.Standing.{item_in, read_in, pointer_of, pointers_on, pointers, is_place, is_node_item, IsNodePage}
use Rattle.page_redo.proofs.Others.{set_apart}
use Rattle.page_redo.proofs.Putting.{set_here, with_item_others, with_item_here}
use Rattle.graph_pages.proofs.PagePlaces.{item_on}
use Rattle.graph_pages.proofs.PlaceTests.{same_if_place, place_itself, get_inserted}

-- ---- a place is this one or another one

pub by_place : (P : Type 0) (at place : Tid) → (place ≡ at → P) → ((place ≡ at → ⊥) → P) → P
by_place P at place same other = cases (is_place at place) refl
  where
    cases : (test : Bool) → is_place at place ≡ test → P
    cases true is = same (same_if_place at place is)
    cases false is = other (λ e. let t = ap (is_place at) e ∙ place_itself at in absurd cc)

pub get_here : {V : Type 0} (m : FinMap tid_cmp V) (place : Tid) (v : V) → get (insert m place v) place ≡ Some v
get_here m place v = get_inserted m place v place ∙ ap (λ b. cond b (Some v) (get m place)) (place_itself place)

pub get_apart : {V : Type 0} (m : FinMap tid_cmp V) (place at : Tid) (v : V) → (place ≡ at → ⊥)
    → get (insert m place v) at ≡ get m at
get_apart m place at v apart = get_inserted m place v at ∙ cases (is_place at place) refl
  where
    cases : (test : Bool) → is_place at place ≡ test → cond test (Some v) (get m at) ≡ get m at
    cases true is = absurd (apart (same_if_place at place is))
    cases false is = refl

-- ---- a list of which one element is changed

pub flat_map_set : {X A : Type 0} (f : X → List A) (xs : List X) (i : ℕ) (old x : X) → slice_get xs i ≡ Some old → f x ≡ f old
    → flat_map f (slice_set xs i x) ≡ flat_map f xs
flat_map_set f [] i old x is same = absurd cc
flat_map_set f (y ∷ ys) zero old x is same = ap (λ l. l ++ flat_map f ys) (same ∙ ap f (sym (some_is y old is)))
flat_map_set f (y ∷ ys) (suc i) old x is same = ap (λ l. f y ++ l) (flat_map_set f ys i old x is same)

-- ---- the pages

-- The item at a place was the one and is the other; everything else that pages stand for is as it was.
pub record IsChangedAt (place : Tid) (old new : List ℕ) (pages after : List Content) : Type 0 where
  pub count : length after ≡ length pages
  pub was : item_in pages place ≡ Some old
  pub now : item_in after place ≡ Some new
  pub apart : (at : Tid) → (place ≡ at → ⊥) → item_in after at ≡ item_in pages at
  pub elsewhere : (block : ℕ) → (place.block ≡ block → ⊥) → slice_get after block ≡ slice_get pages block
  pub kinds : (block : ℕ) (d : Content) → slice_get after block ≡ Some d
      → (c : Content) × (slice_get pages block ≡ Some c) × (d.kind ≡ c.kind)
  pub named : (p : Params) → pointer_of p new ≡ pointer_of p old → pointers p after ≡ pointers p pages

item_from : (pages : List Content) (at : Tid) (o : Option Content) → slice_get pages at.block ≡ o
    → item_in pages at ≡ option_and_then (λ (c : Content). item_at c.items at.off) o
item_from pages at o is = ap (λ o. option_and_then (λ (c : Content). item_at c.items at.off) o) is

place_in_list : (items : List (List ℕ)) (off : ℕ) (old : List ℕ) → item_at items off ≡ Some old
    → slice_get items (off - 1) ≡ Some old
place_in_list items zero old is = absurd cc
place_in_list items (suc i) old is = ap (slice_get items) (let back : suc i - 1 ≡ i = omega arith in back) ∙ is

module _ (pages : List Content) (place : Tid) (c : Content) (number : ℕ) (old new : List ℕ) (there : slice_get pages place.block ≡ Some c) (is : item_at c.items place.off ≡ Some old) where
  abbrev page : Content
  page = numbered number (with_item c place.off new)

  abbrev after : List Content
  after = slice_set pages place.block page

  block_now : slice_get after place.block ≡ Some page
  block_now = set_here pages place.block c page there

  others_stay : (at : Tid) → (place ≡ at → ⊥) → item_in after at ≡ item_in pages at
  others_stay at other = by_block (at.block == place.block) refl
    where
      by_block : (test : Bool) → (at.block == place.block) ≡ test → item_in after at ≡ item_in pages at
      by_block true e =
          let same : at.block ≡ place.block = eqb-true at.block place.block e in
          item_on after page at place.block block_now same
          ∙ with_item_others c place.off old new at.off is (λ f. other (same_tid place at (sym same) f))
          ∙ sym (item_on pages c at place.block there same)
      by_block false e =
          let not_same : place.block ≡ at.block → ⊥ = λ f. let t = eq-eqb at.block place.block (sym f) in absurd cc in
          ap (λ o. option_and_then (λ (c : Content). item_at c.items at.off) o) (set_apart pages place.block at.block page not_same)

  kinds_stay : (block : ℕ) (d : Content) → slice_get after block ≡ Some d
      → (b : Content) × (slice_get pages block ≡ Some b) × (d.kind ≡ b.kind)
  kinds_stay block d got = by_block (block == place.block) refl
    where
      by_block : (test : Bool) → (block == place.block) ≡ test
          → (b : Content) × (slice_get pages block ≡ Some b) × (d.kind ≡ b.kind)
      by_block true e =
          let same : block ≡ place.block = eqb-true block place.block e in
          let d_is : d ≡ page = some_is d page (sym got ∙ ap (slice_get after) same ∙ block_now) in
          (c, ap (slice_get pages) same ∙ there, ap (λ (x : Content). x.kind) d_is)
      by_block false e =
          let not_same : place.block ≡ block → ⊥ = λ f. let t = eq-eqb block place.block (sym f) in absurd cc in
          (d, sym (set_apart pages place.block block page not_same) ∙ got, refl)

  pub changed_at : IsChangedAt place old new pages after
  changed_at = record {
    count = length-set pages place.block page;
    was = item_on pages c place place.block there refl ∙ is;
    now = item_on after page place place.block block_now refl ∙ with_item_here c place.off old new is;
    apart = others_stay;
    elsewhere = λ block other. set_apart pages place.block block page other;
    kinds = kinds_stay;
    named = λ p same. flat_map_set (pointers_on p) pages place.block c page there
        (flat_map_set (pointer_of p) c.items (place.off - 1) old new (place_in_list c.items place.off old is) same);
  }

-- ---- what is read there

module _ {place : Tid} {old new : List ℕ} {pages after : List Content} (change : IsChangedAt place old new pages after) where
  pub read_now : {A : Type 0} (f : Reader A) → read_in f after place ≡ in_whole (f new)
  read_now f = ap (λ o. option_and_then (λ x. in_whole (f x)) o) change.now

  pub read_was : {A : Type 0} (f : Reader A) → read_in f pages place ≡ in_whole (f old)
  read_was f = ap (λ o. option_and_then (λ x. in_whole (f x)) o) change.was

  pub read_apart : {A : Type 0} (f : Reader A) (at : Tid) → (place ≡ at → ⊥) → read_in f after at ≡ read_in f pages at
  read_apart f at other = ap (λ o. option_and_then (λ x. in_whole (f x)) o) (change.apart at other)

  -- where both items read alike, all places do
  pub read_alike : {A : Type 0} (f : Reader A) → in_whole (f new) ≡ in_whole (f old) → (at : Tid)
      → read_in f after at ≡ read_in f pages at
  read_alike f same at = by_place (read_in f after at ≡ read_in f pages at) at place
      (λ e. ap (read_in f after) (sym e) ∙ read_now f ∙ same ∙ sym (read_was f) ∙ ap (read_in f pages) e)
      (λ other. read_apart f at other)

  -- an item stood wherever one stands
  pub stood : (at : Tid) (x : List ℕ) → item_in after at ≡ Some x → (y : List ℕ) × (item_in pages at ≡ Some y)
  stood at x is = by_place ((y : List ℕ) × (item_in pages at ≡ Some y)) at place
      (λ e. (old, ap (item_in pages) (sym e) ∙ change.was))
      (λ other. (x, sym (change.apart at other) ∙ is))

  pub node_page : (p : Params) → ((at : Tid) → is_node_item p pages at ≡ true → is_node_item p after at ≡ true) → (block : ℕ)
      → IsNodePage p pages block → IsNodePage p after block
  node_page p items block whole = record {
    kind = λ d is. let k = change.kinds block d is in ap is_graph_page k.2 ∙ whole.kind k.0 k.1;
    items = λ at x same is. let y = stood at x is in items at (whole.items at y.0 same y.1);
  }
