-- An event on all blocks that it touches, from its parts.
use Rattle.std.proofs.Common.{◌≡◌, ◌≢◌, ◌⊎◌, ◌<◌, ◌≤◌, ◌+◌, ◌-◌, ◌^◌, ℕ, List, length, slice_get, Contains, Option, Some, None, Result, Ok, Err, OnOk, refl, sym, ap, subst, ◌∙◌, arith}
use Rattle.std.proofs.lemmas.Option.{slice_get_within}
use Rattle.vec_names.specs.declared.params.Params.{Params}
use Rattle.vec_history.specs.declared.event.Event.{Event}
use Rattle.page_bytes.specs.declared.kind.PageKind.{PageKind}
use Rattle.page_bytes.specs.Content.{Content}
use Rattle.page_redo.specs.declared.fault.RedoFault.{RedoFault}
use Rattle.page_redo.specs.Redo.{touched}
use Rattle.page_redo.specs.Growing.{fresh_page, new_kind, blocks_after, extended}
use Rattle.page_redo.specs.Fitting.{FitsEach}
use Rattle.page_sets.specs.Sets.{PageMap, IsPartOf}
use Rattle.page_sets.specs.declared.doing.Touched.{Touched}
use Rattle.page_sets.specs.Committing.{HasTouched, IsCommitted, IsOf, AreThese, HasThese, FitThese, IsRedoneSet, IsExtended}
use Rattle.page_sets.proofs.Blocks.{has_each, each_has}
use Rattle.page_sets.proofs.Extended.{ext_part, ext_has, ext_longer}

-- in the numbers that the program has
pub as_extended : (event : Event) (set mid : PageMap) (all : List Content) (blocks upto : ℕ) (kind : PageKind) → length all ≡ blocks
    → upto ≡ blocks_after event blocks → kind ≡ new_kind event → IsExtended set mid blocks upto (fresh_page kind)
    → IsExtended set mid (length all) (blocks_after event (length all)) (fresh_page (new_kind event))
as_extended event set mid all blocks upto kind long up is e =
    subst (λ n. IsExtended set mid n (blocks_after event n) (fresh_page (new_kind event))) (sym long)
    (subst (λ n. IsExtended set mid blocks n (fresh_page (new_kind event))) up
    (subst (λ (k : PageKind). IsExtended set mid blocks upto (fresh_page k)) is e))

pub upward : (event : Event) (all : List Content) (blocks upto : ℕ) → length all ≡ blocks → upto ≡ blocks_after event blocks → blocks ≤ upto
    → length all ≤ blocks_after event (length all)
upward event all blocks upto long up high = subst (λ n. n ≤ blocks_after event n) (sym long) (subst (λ n. blocks ≤ n) up high)

-- a block that is no number of a page has none
pub never_fits : (p : Params) (event : Event) (all : List Content) (block : ℕ) → length all ≤ blocks_after event (length all)
    → blocks_after event (length all) < 2 ^ 32 → Contains (touched event p) block → 2 ^ 32 ≤ block → FitsEach all p event → ⊥
never_fits p event all block long few touches high fit =
    let k = fit 255 0 block touches in
    let inside = slice_get_within (extended event all) block k.0 k.1 in
    let n : length (extended event all) ≡ blocks_after event (length all) =
    ext_longer all (length all) (blocks_after event (length all)) (fresh_page (new_kind event)) refl long in
    omega (arith, inside, n, few, high)

module _ (p : Params) (number : ℕ) (event : Event) (t : Touched) (are : AreThese (touched event p) t) (set mid : PageMap) (all : List Content)
    (long : length all ≤ blocks_after event (length all)) (h : HasTouched set all event p)
    (e : IsExtended set mid (length all) (blocks_after event (length all)) (fresh_page (new_kind event))) where
  pub mid_part : IsPartOf mid (extended event all)
  mid_part = ext_part set mid all (length all) (blocks_after event (length all)) (fresh_page (new_kind event)) h.part refl long e

  pub mid_has : HasThese mid (extended event all) t
  mid_has b is = ext_has set mid all (length all) (blocks_after event (length all)) (fresh_page (new_kind event)) h.part refl long e b
      (has_each set all (touched event p) h.has b (are.back b is))

  pub fits_these : FitsEach all p event → FitThese (extended event all) p number event t
  fits_these fit b is = fit 255 number b (are.back b is)

  whole : (new : PageMap) (after : List Content) → IsRedoneSet mid new (extended event all) after p number event t
      → IsCommitted set new all after event p number
  whole new after r = record {
    redone = record {
      count = r.redone.count;
      there = λ b page touches is. r.redone.there b page (are.each b touches) is;
      elsewhere = λ b none. r.redone.elsewhere b (λ is. none (are.back b is));
    };
    part = r.part;
    has = each_has new after (touched event p) (λ b touches. r.has b (are.each b touches));
    elsewhere = λ b low none. r.elsewhere b (λ is. none (are.back b is)) ∙ e.low b low;
  }

  pub whole_ok : (new : PageMap) (r : Result (Unit {0}) RedoFault)
      → OnOk r ((after : List Content) × IsRedoneSet mid new (extended event all) after p number event t)
      → OnOk r ((after : List Content) × IsCommitted set new all after event p number)
  whole_ok new (Ok done) k = (k.0, whole new k.0 k.1)
  whole_ok new (Err fault) k = tt
