-- One page is changed, and chains stay as they were.
use Rattle.std.proofs.Common.{◌≡◌, ℕ, ◌<◌, true, List, Some, sym, ap, ◌∙◌, inl, inr}
use Rattle.std.specs.Prelude.{slice_get, slice_set}
use Rattle.std.proofs.lemmas.Bool.{cases_eq}
use Rattle.std.proofs.lemmas.List.{length-set}
use Rattle.vec_names.specs.declared.params.Params.{Params}
use Rattle.page_bytes.specs.Content.{Content}
use Rattle.page_redo.specs.PageTuples.{is_entries_page}
use Rattle.page_redo.proofs.Others.{set_apart}
use Rattle.page_redo.proofs.Putting.{set_here}
use Rattle.ivf_pages.specs.Standing.{is_among, has_entries, next_of, ends_at, chain_in, IsInOneChain}
use Rattle.ivf_pages.proofs.Chains.{AreLinkedAlike}

-- a page of the same kind, with the same block behind it
pub alike_at : (pages : List Content) (block : ℕ) (c d : Content) → slice_get pages block ≡ Some c
    → is_entries_page d.kind ≡ is_entries_page c.kind → d.next ≡ c.next → AreLinkedAlike pages (slice_set pages block d)
alike_at pages block c d there kind next = record {
  count = length-set pages block d;
  kinds = λ b. elim (cases_eq block b) as (λ _. has_entries (slice_get after b) ≡ has_entries (slice_get pages b)) [
    | inl e ↦
        ap (λ (n : ℕ). has_entries (slice_get after n)) (sym e) ∙ ap has_entries here ∙ kind ∙ sym (ap has_entries there)
        ∙ ap (λ (n : ℕ). has_entries (slice_get pages n)) e
    | inr apart ↦ ap has_entries (set_apart pages block b d apart)
  ];
  nexts = λ b. elim (cases_eq block b) as (λ _. next_of (slice_get after b) ≡ next_of (slice_get pages b)) [
    | inl e ↦
        ap (λ (n : ℕ). next_of (slice_get after n)) (sym e) ∙ ap next_of here ∙ next ∙ sym (ap next_of there)
        ∙ ap (λ (n : ℕ). next_of (slice_get pages n)) e
    | inr apart ↦ ap next_of (set_apart pages block b d apart)
  ];
}
  where
    after : List Content
    after = slice_set pages block d

    here : slice_get after block ≡ Some d
    here = set_here pages block c d there

-- where all chains stay, the blocks keep their places in them
module _ (p : Params) (pages after : List Content) (chains : (list : ℕ) → list < p.lists → chain_in p after list ≡ chain_in p pages list) where
  pub one_stays : (block : ℕ) → IsInOneChain p pages block → IsInOneChain p after block
  one_stays block one = record {
    list = one.list;
    is_list = one.is_list;
    within = ap (is_among block) (chains one.list one.is_list) ∙ one.within;
    only = λ other low is. one.only other low (sym (ap (is_among block) (chains other low)) ∙ is);
  }

  pub end_stays : (block list : ℕ) → list < p.lists → ends_at block (chain_in p after list) ≡ true
      → ends_at block (chain_in p pages list) ≡ true
  end_stays block list low is = sym (ap (ends_at block) (chains list low)) ∙ is
