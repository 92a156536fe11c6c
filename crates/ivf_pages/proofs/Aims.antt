-- The aim of a list: by the marks, and block by block where it stands in several chains.
use Rattle.std.proofs.Common.{◌≡◌, ℕ, zero, suc, ◌&&◌, ◌||◌, ◌==◌, not, Bool, true, false, List, [], ◌∷◌, length, map, get_or, Option, Some, None, refl, sym, ap, ◌∙◌, arith}
use Rattle.std.specs.Prelude.{slice_get, if◌then◌else◌}
use Rattle.std.specs.Option.{option_map}
use Rattle.std.proofs.lemmas.Bool.{and_parts, and_from, eq-eqb, ne_eqb, eqb-true, or_left, or_right}
use Rattle.std.proofs.lemmas.List.{length-map}
use Rattle.std.proofs.lemmas.Option.{slice_get_within, slice_get-get_or}
use Rattle.page_bytes.specs.Content.{Content}
use Rattle.vec_tuples.specs.declared.centre.CentreTuple.{CentreTuple}
use Rattle.ivf_pages.specs.declared.links.Link.{Link}
use Rattle.ivf_pages.specs.declared.marks.Mark.{Mark}
use Rattle.ivf_pages.specs.declared.marks.Mark.TheVariants.{Nowhere, Once, Short, Shared}
use Rattle.ivf_pages.specs.Standing.{is_among, has_entries, next_of, goes_to, followed, chain_from}
use Rattle.ivf_pages.specs.Walking.{link_of, leads, behind, comes_to, is_own, is_met, is_shared, stops_short, marked, marked_by, is_aim_met, AreChanged, IsBelow, AreBelow}
use Rattle.ivf_pages.proofs.Given.{or_parts_of}
use Rattle.ivf_pages.proofs.Chains.{among_chain, entries_there}
use Rattle.ivf_pages.proofs.Closed.{closed, first_within}
use Rattle.ivf_pages.proofs.LinkedPages.{leads_is, behind_is}

-- ---- block by block

both_ways_same : (a b : Bool) → (a ≡ true → b ≡ true) → (b ≡ true → a ≡ true) → a ≡ b
both_ways_same true b to from = sym (to refl)
both_ways_same false true to from = from refl
both_ways_same false false to from = refl

module _ (pages : List Content) (links : List Link) (are : links ≡ map link_of pages) where
  -- what is reached stands in the chain
  stands : (first most block : ℕ) (to : Option ℕ) → ((b : ℕ) → to ≡ Some b → has_entries (slice_get pages b) ≡ true → is_among b (chain_from pages first) ≡ true)
      → comes_to links most block to ≡ true → is_among block (chain_from pages first) ≡ true
  stands first zero block to next is = absurd cc
  stands first (suc most) block None next is = absurd cc
  stands first (suc most) block (Some b) next is =
      let parts = and_parts (leads (slice_get links b)) (b == block || comes_to links most block (behind (slice_get links b))) is in
      let has = sym (leads_is pages links are b) ∙ parts.0 in
      by_block (λ n. stands first most block (behind (slice_get links b)) n) (next b refl has) has (b == block) refl parts.1
    where
      IsNext : Type 0
      IsNext = (n : ℕ) → behind (slice_get links b) ≡ Some n → has_entries (slice_get pages n) ≡ true → is_among n (chain_from pages first) ≡ true

      by_block : (IsNext → comes_to links most block (behind (slice_get links b)) ≡ true → is_among block (chain_from pages first) ≡ true)
          → is_among b (chain_from pages first) ≡ true → has_entries (slice_get pages b) ≡ true → (t : Bool) → (b == block) ≡ t
          → (b == block || comes_to links most block (behind (slice_get links b))) ≡ true → is_among block (chain_from pages first) ≡ true
      by_block later here has true e either = ap (λ (n : ℕ). is_among n (chain_from pages first)) (sym (eqb-true b block e)) ∙ here
      by_block later here has false e either =
          later (λ n to entries. closed pages first b n here (sym (behind_is pages links are b has) ∙ to) entries)
          (or_parts_of (b == block) (comes_to links most block (behind (slice_get links b))) either e)

  -- what stands in the chain is reached
  comes : (most : ℕ) (met : List ℕ) (to : Option ℕ) (block : ℕ) → is_among block (followed pages most met to) ≡ true → comes_to links most block to ≡ true
  comes zero met to block is = absurd cc
  comes (suc most) met None block is = absurd cc
  comes (suc most) met (Some b) block is = by_test (λ i. comes most (b ∷ met) (next_of (slice_get pages b)) block i) (goes_to pages met b) refl
    where
      rest : List ℕ
      rest = followed pages most (b ∷ met) (next_of (slice_get pages b))

      left : Bool
      left = comes_to links most block (behind (slice_get links b))

      by_block : (is_among block rest ≡ true → comes_to links most block (next_of (slice_get pages b)) ≡ true) → has_entries (slice_get pages b) ≡ true
          → (t : Bool) → (b == block) ≡ t → ((b == block) || is_among block rest) ≡ true → (b == block || left) ≡ true
      by_block later has true e either = or_left (b == block) left e
      by_block later has false e either =
          or_right (b == block) left
          (ap (comes_to links most block) (behind_is pages links are b has) ∙ later (or_parts_of (b == block) (is_among block rest) either e))

      by_test : (is_among block rest ≡ true → comes_to links most block (next_of (slice_get pages b)) ≡ true) → (t : Bool) → goes_to pages met b ≡ t
          → (leads (slice_get links b) && (b == block || left)) ≡ true
      by_test later true e =
          let has = (and_parts (has_entries (slice_get pages b)) (not (is_among b met)) e).0 in
          and_from (leads (slice_get links b)) (b == block || left) (leads_is pages links are b ∙ has)
          (by_block later has (b == block) refl (ap (λ (g : Bool). is_among block (if g then b ∷ rest else [])) (sym e) ∙ is))
      by_test later false e =
          let none : false ≡ true = ap (λ (g : Bool). is_among block (if g then b ∷ rest else [])) (sym e) ∙ is in absurd cc

  reached : (first block : ℕ) → comes_to links (length links) block (Some first) ≡ is_among block (chain_from pages first)
  reached first block =
      ap (λ (n : ℕ). comes_to links n block (Some first)) (ap (λ (ls : List Link). length ls) are ∙ length-map pages link_of)
      ∙ both_ways_same (comes_to links (length pages) block (Some first)) (is_among block (chain_from pages first))
      (stands first (length pages) block (Some first) starts) (comes (length pages) [] (Some first) block)
    where
      starts : (b : ℕ) → Some first ≡ Some b → has_entries (slice_get pages b) ≡ true → is_among b (chain_from pages first) ≡ true
      starts b same has = by_same b (same_first b same) has
        where
          same_first : (b : ℕ) → Some first ≡ Some b → first ≡ b
          same_first b same = ap (λ (o : Option ℕ). number o) same
            where
              number : Option ℕ → ℕ
              number None = 0
              number (Some n) = n

          by_same : (b : ℕ) → first ≡ b → has_entries (slice_get pages b) ≡ true → is_among b (chain_from pages first) ≡ true
          by_same b same has =
              ap (λ (n : ℕ). is_among n (chain_from pages first)) (sym same)
              ∙ first_within pages first (ap (λ (n : ℕ). has_entries (slice_get pages n)) same ∙ has)

-- ---- by the marks

own_is : (list : ℕ) (within short : Bool) (m : Mark) → IsBelow list m → is_shared (Some (marked list within short m)) ≡ false
    → is_own list (marked list within short m) ≡ within
own_is list true true Nowhere below alone = eq-eqb list list refl
own_is list true false Nowhere below alone = eq-eqb list list refl
own_is list true true (Once l) below alone = absurd cc
own_is list true false (Once l) below alone = absurd cc
own_is list true true (Short l) below alone = absurd cc
own_is list true false (Short l) below alone = absurd cc
own_is list true true Shared below alone = absurd cc
own_is list true false Shared below alone = absurd cc
own_is list false short Nowhere below alone = refl
own_is list false short (Once l) below alone = ne_eqb l list (λ e. absurd (omega (arith, below, e)))
own_is list false short (Short l) below alone = ne_eqb l list (λ e. absurd (omega (arith, below, e)))
own_is list false short Shared below alone = absurd cc

pub aim_is : (pages : List Content) (links : List Link) → links ≡ map link_of pages → (list : ℕ) (t : CentreTuple) (before after : List Mark)
    → length before ≡ length pages → AreBelow list before → AreChanged (marked_by pages list (chain_from pages t.first)) before after
    → is_aim_met links list after t ≡ is_among t.aim (chain_from pages t.first)
aim_is pages links are list t before after long below changed = by_shared (is_shared (slice_get after t.aim)) refl
  where
    out : slice_get before t.aim ≡ None → (w : Bool) → is_among t.aim (chain_from pages t.first) ≡ w → false ≡ w
    out none true within =
        let c = entries_there (slice_get pages t.aim) (among_chain pages (Some t) t.aim within) in
        let is = slice_get-get_or before t.aim Nowhere (omega (arith, slice_get_within pages t.aim c.0 c.1, long)) in
        let both : None ≡ Some (get_or before t.aim Nowhere) = sym none ∙ is in absurd cc
    out none false within = refl

    by_mark : (o : Option Mark) → slice_get before t.aim ≡ o
        → is_shared (option_map (marked_by pages list (chain_from pages t.first) t.aim) o) ≡ false
        → is_met list (option_map (marked_by pages list (chain_from pages t.first) t.aim) o) ≡ is_among t.aim (chain_from pages t.first)
    by_mark None is alone = out is (is_among t.aim (chain_from pages t.first)) refl
    by_mark (Some m) is alone =
        own_is list (is_among t.aim (chain_from pages t.first)) (stops_short pages t.aim (chain_from pages t.first)) m (below t.aim m is) alone

    by_shared : (s : Bool) → is_shared (slice_get after t.aim) ≡ s
        → (if is_shared (slice_get after t.aim) then comes_to links (length links) t.aim (Some t.first) else is_met list (slice_get after t.aim))
        ≡ is_among t.aim (chain_from pages t.first)
    by_shared true e =
        ap (λ (s : Bool). if s then comes_to links (length links) t.aim (Some t.first) else is_met list (slice_get after t.aim)) e
        ∙ reached pages links are t.first t.aim
    by_shared false e =
        ap (λ (s : Bool). if s then comes_to links (length links) t.aim (Some t.first) else is_met list (slice_get after t.aim)) e
        ∙ ap (is_met list) (changed.marks t.aim)
        ∙ by_mark (slice_get before t.aim) refl (ap is_shared (sym (changed.marks t.aim)) ∙ e)
