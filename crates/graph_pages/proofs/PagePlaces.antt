-- The places of a page, one offset after the other, and a block without a page.
use Rattle.std.proofs.Common.{◌≡◌, inl, inr, ℕ, zero, suc, ◌+◌, ◌≤◌, List, length, Some, None, sym, ap, subst, ◌∙◌, arith}
use Rattle.std.specs.Prelude.{slice_get}
use Rattle.std.specs.Option.{option_and_then}
use Rattle.std.proofs.lemmas.Bool.{cases_eq}
use Rattle.std.proofs.lemmas.Option.{slice_get_within, slice_get_past, none-some}
use Rattle.vec_names.specs.declared.tid.Tid.{Tid}
use Rattle.vec_names.specs.declared.params.Params.{Params}
use Rattle.vec_names.specs.Places.{same_tid}
use Rattle.page_bytes.specs.Content.{Content, item_at}
use Rattle.graph_pages.specs.Standing.{item_in, IsNodePage}

-- an item stands at an offset from 1 to the number of items
off_within : (items : List (List ℕ)) (off : ℕ) (x : List ℕ) → item_at items off ≡ Some x → off ≤ length items
off_within items zero x is = absurd (none-some x is)
off_within items (suc i) x is = let h = slice_get_within items i x is in omega arith

-- the item at a place of this block is the page's
pub item_on : (pages : List Content) (c : Content) (at : Tid) (block : ℕ) → slice_get pages block ≡ Some c → at.block ≡ block → item_in pages at ≡ item_at c.items at.off
item_on pages c at block there same = ap (λ b. option_and_then (λ (d : Content). item_at d.items at.off) (slice_get pages b)) same ∙ ap (λ o. option_and_then (λ (d : Content). item_at d.items at.off) o) there

pub item_within : (pages : List Content) (c : Content) (at : Tid) (block : ℕ) (x : List ℕ) → slice_get pages block ≡ Some c → at.block ≡ block → item_in pages at ≡ Some x → at.off ≤ length c.items
item_within pages c at block x there same is = off_within c.items at.off x (sym (item_on pages c at block there same) ∙ is)

-- what is so at the offsets up to a number, and at the next
pub off_more : (P : Tid → Type 0) (next : Tid) (block i : ℕ) → next.block ≡ block → next.off ≡ i + 1 → ((at : Tid) → at.block ≡ block → at.off ≤ i → P at) → P next → (at : Tid) → at.block ≡ block → at.off ≤ i + 1 → P at
off_more P next block i here off before now at same most = elim (cases_eq at.off next.off) as (λ _. P at) [
  | inl e ↦ subst P (sym (same_tid at next (same ∙ sym here) e)) now
  | inr ne ↦ before at same (omega arith)
]

-- where there is no page no rule is broken
pub no_page : (p : Params) (pages : List Content) (block : ℕ) → slice_get pages block ≡ None → IsNodePage p pages block
no_page p pages block none = record {
  kind = λ c is. absurd (none-some c (sym none ∙ is));
  items = λ at x same is. absurd (none-some x (sym (ap (λ b. option_and_then (λ (d : Content). item_at d.items at.off) (slice_get pages b)) same ∙ ap (λ o. option_and_then (λ (d : Content). item_at d.items at.off) o) none) ∙ is));
}

pub past_page : (p : Params) (pages : List Content) (block : ℕ) → length pages ≤ block → IsNodePage p pages block
past_page p pages block past = no_page p pages block (slice_get_past pages block past)
