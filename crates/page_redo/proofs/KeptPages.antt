-- A page with another item, with one more, with another number and a fresh one have bytes.
use Rattle.std.proofs.Common.{◌≡◌, ℕ, zero, suc, ◌+◌, ◌-◌, ◌*◌, ◌^◌, ◌<◌, ◌≤◌, List, [], ◌∷◌, ◌++◌, length, Some, sym, ap, subst, ◌∙◌, arith}
use Rattle.std.specs.Prelude.{slice_get, slice_set, nat_le}
use Rattle.std.proofs.lemmas.Bool.{leb-true}
use Rattle.std.proofs.lemmas.List.{length-append, length-set}
use Rattle.std.proofs.lemmas.List.Elements.{All-set, All-push, All-nil}
use Rattle.byte_fields.proofs.EachField.{some_is}
use Rattle.page_bytes.specs.declared.kind.PageKind.{PageKind}
use Rattle.page_bytes.specs.Content.{Content, IsPage, IsItem, item_at, round8, taken, free_of}
use Rattle.page_bytes.proofs.Placing.{taken-nil, taken-cons, taken-append}
use Rattle.page_bytes.proofs.Changes.{taken-one}
use Rattle.page_redo.specs.PageTuples.{with_item, added}
use Rattle.page_redo.specs.Redo.{numbered}
use Rattle.page_redo.specs.Growing.{fresh_page}
use Rattle.page_redo.proofs.Given.{when_is}
use Rattle.page_redo.specs.Growing.{fresh_page}
use Rattle.page_redo.proofs.Given.{when_is}

taken_set : (items : List (List ℕ)) (i : ℕ) (old x : List ℕ) → slice_get items i ≡ Some old → length old ≡ length x → taken (slice_set items i x) ≡ taken items
taken_set [] i old x is long = absurd cc
taken_set (y ∷ ys) zero old x is long =
    let same : length x ≡ length y = sym long ∙ ap (λ (l : List ℕ). length l) (sym (some_is y old is)) in
    taken-cons x ys ∙ ap (λ n. round8 n + taken ys) same ∙ sym (taken-cons y ys)
taken_set (y ∷ ys) (suc i) old x is long =
    taken-cons y (slice_set ys i x) ∙ ap (λ n. round8 (length y) + n) (taken_set ys i old x is long) ∙ sym (taken-cons y ys)

place_of : (items : List (List ℕ)) (off : ℕ) (old : List ℕ) → item_at items off ≡ Some old → slice_get items (off - 1) ≡ Some old
place_of items zero old is = absurd cc
place_of items (suc i) old is = ap (slice_get items) (let back : suc i - 1 ≡ i = omega arith in back) ∙ is

pub page_set : (c : Content) (off : ℕ) (old x : List ℕ) → IsPage c → item_at c.items off ≡ Some old → length old ≡ length x → IsItem x
    → IsPage (with_item c off x)
page_set c off old x page is long item = record {
  next = page.next;
  number = page.number;
  items = All-set IsItem c.items (off - 1) x item page.items;
  room = omega (arith, page.room, taken_set c.items (off - 1) old x (place_of c.items off old is) long, length-set c.items (off - 1) x);
}

pub page_more : (c d : Content) (x : List ℕ) → IsPage c → IsItem x → added x c ≡ Some d → IsPage d
page_more c d x page item is =
    let d_is = when_is (nat_le (round8 (length x) + 4) (free_of c)) (record c { items = c.items ++ x ∷ [] }) d is in
    let fits : round8 (length x) + 4 ≤ 8184 - taken c.items - (24 + 4 * length c.items) = leb-true (round8 (length x) + 4) (free_of c) d_is.0 in
    let more : IsPage (record c { items = c.items ++ x ∷ [] }) = record {
      next = page.next;
      number = page.number;
      items = All-push IsItem c.items x page.items item;
      room = omega (arith, page.room, fits, taken-append c.items (x ∷ []), taken-one x, length-append c.items (x ∷ []));
    } in
    subst IsPage d_is.1 more

pub with_number : (number : ℕ) (c : Content) → number < 2 ^ 64 → IsPage c → IsPage (numbered number c)
with_number number c low page = record { next = page.next; number = low; items = page.items; room = page.room }

pub fresh_has_bytes : (kind : PageKind) → IsPage (fresh_page kind)
fresh_has_bytes kind = record { next = tt; number = omega arith; items = All-nil IsItem; room = omega (arith, taken-nil) }
