-- Which blocks of list tuples break a rule.
use Rattle.std.proofs.Common.{◌≡◌, ℕ, ◌+◌, ◌/◌, ◌<◌, ◌≤◌, ◌==◌, true, false, List, length, Option, Some, None, refl, sym, ap, ◌∙◌, arith, inl, inr}
use Rattle.std.specs.Prelude.{slice_get}
use Rattle.std.proofs.lemmas.Bool.{and_parts, and_from, both_ways, cases_lt, eq-eqb, eqb-true}
use Rattle.std.proofs.lemmas.Nat.{div_below, mod_below}
use native.Mathlib.Nat.{div-add-mod'}
use Rattle.index_sizes.specs.Sizes.{centres_on_page}
use Rattle.vec_names.specs.declared.params.Params.{Params}
use Rattle.vec_names.specs.Params.{IsInRange}
use Rattle.page_bytes.specs.Content.{Content}
use Rattle.page_redo.specs.PageTuples.{is_lists_page}
use Rattle.page_redo.specs.PageChanges.{list_block}
use Rattle.ivf_pages.specs.Standing.{lists_on, lists_end, centre_in, has_aim, IsListPage}
use Rattle.ivf_pages.specs.Walking.{has_count, broken_from, IsFirstAimless}
use Rattle.ivf_pages.proofs.Root.{some_a_page, list_block_low}

module _ (p : Params) (pages : List Content) where
  counted : (block : ℕ) (o : Option Content) → has_count p block o ≡ true
      → (c : Content) × (o ≡ Some c) × (is_lists_page c.kind ≡ true) × (length c.items ≡ lists_on p block)
  counted block None is = absurd cc
  counted block (Some c) is =
      let parts = and_parts (is_lists_page c.kind) (length c.items == lists_on p block) is in
      (c, refl, parts.0, eqb-true (length c.items) (lists_on p block) parts.1)

  pub list_page : (block : ℕ) → has_count p block (slice_get pages block) ≡ true
      → ((list : ℕ) → list < p.lists → list_block p list ≡ block → has_aim pages (centre_in p pages list) ≡ true) → IsListPage p pages block
  list_page block is aims =
      let c = counted block (slice_get pages block) is in
      record { page = c.0; there = c.1; kind = c.2; count = c.3; lists = aims }

  pub count_of_page : (block : ℕ) → IsListPage p pages block → has_count p block (slice_get pages block) ≡ true
  count_of_page block page =
      ap (has_count p block) page.there
      ∙ and_from (is_lists_page page.page.kind) (length page.page.items == lists_on p block) page.kind
      (eq-eqb (length page.page.items) (lists_on p block) page.count)

  -- lists whose blocks rise
  quotient_up : (c a b : ℕ) → 0 < c → b ≤ a → b / c ≤ a / c
  quotient_up c a b some low =
      let split = div-add-mod' a c in
      let less = mod_below a c some in
      let below : b / c < a / c + 1 = div_below b c (a / c + 1) (omega (arith, some)) (omega (arith, split, less, low)) in omega (arith, below)

  pub before_block : IsInRange p → (list first : ℕ) → list_block p list < list_block p first → list < first
  before_block r list first less = elim (cases_lt list first) as (λ _. list < first) [
    | inl h ↦ h
    | inr h ↦ let up = quotient_up (centres_on_page p.bits) list first (some_a_page p r) h in absurd (omega (arith, up, less))
  ]

  pub aim_before : IsInRange p → (o : Option ℕ) → IsFirstAimless p pages o → (list : ℕ) → list < p.lists → list_block p list < broken_from p o
      → has_aim pages (centre_in p pages list) ≡ true
  aim_before r None first list low less = first list low
  aim_before r (Some f) first list low less = first.2 list (before_block r list f less)

  pub from_low : IsInRange p → (o : Option ℕ) → IsFirstAimless p pages o → broken_from p o ≤ lists_end p + 1
  from_low r None first = omega arith
  from_low r (Some f) first = omega (arith, list_block_low p r f first.0)

  -- so far each block has its tuples
  abbrev pub AreCounted : ℕ → Type 0
  AreCounted block = (lower : ℕ) → 1 ≤ lower → lower < block → has_count p lower (slice_get pages lower) ≡ true

  pub pages_before : IsInRange p → (o : Option ℕ) → IsFirstAimless p pages o → (block : ℕ) → block ≤ broken_from p o → AreCounted block
      → (lower : ℕ) → 1 ≤ lower → lower < block → IsListPage p pages lower
  pages_before r o first block high counts lower some less =
      list_page lower (counts lower some less)
      (λ list low at. aim_before r o first list low (omega (arith, at, less, high)))

  -- a block without its tuples is the first that breaks a rule
  pub uncounted : IsInRange p → (o : Option ℕ) → IsFirstAimless p pages o → (block : ℕ) → 1 ≤ block → block < broken_from p o → AreCounted block
      → has_count p block (slice_get pages block) ≡ false
      → (1 ≤ block) × (block ≤ lists_end p) × (¬ IsListPage p pages block) × ((lower : ℕ) → 1 ≤ lower → lower < block → IsListPage p pages lower)
  uncounted r o first block some less counts not_so = (
    some,
    omega (arith, less, from_low r o first),
    λ page. both_ways (has_count p block (slice_get pages block)) not_so (count_of_page block page),
    pages_before r o first block (omega (arith, less)) counts,
  )

  -- and so is the block of a list whose aim is not in its chain
  pub aimless_block : IsInRange p → (list block end : ℕ) → IsFirstAimless p pages (Some list) → block ≡ list_block p list → list_block p list ≤ end → AreCounted end
      → (1 ≤ block) × (block ≤ lists_end p) × (¬ IsListPage p pages block) × ((lower : ℕ) → 1 ≤ lower → lower < block → IsListPage p pages lower)
  aimless_block r list block end first at far counts = (
    omega (arith, at),
    omega (arith, at, list_block_low p r list first.0),
    λ page. both_ways (has_aim pages (centre_in p pages list)) first.1 (page.lists list first.0 (sym at)),
    λ lower some less.
        pages_before r (Some list) first block (omega (arith, at)) (λ k one h. counts k one (omega (arith, h, at, far))) lower some less,
  )

  -- with neither no block breaks a rule
  pub all_counted : IsInRange p → (end : ℕ) → IsFirstAimless p pages None → lists_end p + 1 ≤ end → AreCounted end
      → (block : ℕ) → 1 ≤ block → block ≤ lists_end p → IsListPage p pages block
  all_counted r end first far counts block some low =
      list_page block (counts block some (omega (arith, low, far))) (λ list within at. first list within)
