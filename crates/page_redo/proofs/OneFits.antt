-- An event that touches one block fits the page there where its change does.
use Rattle.std.proofs.Common.{◌≡◌, ℕ, zero, suc, ◌-◌, List, [], ◌∷◌, ◌++◌, length, replicate, Some, refl, ap, subst, ◌∙◌, arith}
use Rattle.std.specs.Prelude.{slice_get, Contains}
use Rattle.std.specs.Option.{option_map}
use Rattle.std.proofs.lemmas.Bool.{eq-eqb}
use Rattle.std.proofs.lemmas.List.{append-nil}
use Rattle.page_bytes.specs.declared.kind.PageKind.TheVariants.{Hnsw}
use Rattle.page_bytes.specs.Content.{Content}
use Rattle.page_redo.specs.PageChanges.{PageChange}
use Rattle.page_redo.specs.Redo.{at_one, numbered}
use Rattle.page_redo.specs.Growing.{fresh_page}
use Rattle.page_redo.specs.Growing.{fresh_page}

-- an event that touches one block fits the page there where its change does
pub record OneFits (pages : List Content) (block number : ℕ) (role : PageChange) : Type 0 where
  pub page : Content
  pub there : slice_get pages block ≡ Some page
  pub after : Content
  pub is : option_map (numbered number) (at_one block role block page) ≡ Some after

-- an event that makes no block adds no page
pub no_more : (pages : List Content) (v : Content) → pages ++ replicate (length pages - length pages) v ≡ pages
no_more pages v =
    let none : length pages - length pages ≡ 0 = omega arith in
    ap (λ n. pages ++ replicate n v) none ∙ append-nil pages

pub only : (a block : ℕ) → Contains (a ∷ []) block → a ≡ block
only a block (zero, h, same) = same
only a block (suc i, h, same) = absurd (omega (arith, h))

-- so it fits the page of each block that it touches
pub each_of_one : {pages : List Content} {a number : ℕ} {role : PageChange} → OneFits pages a number role → (block : ℕ) → Contains (a ∷ []) block
    → (page : Content) × (slice_get (pages ++ replicate (length pages - length pages) (fresh_page Hnsw)) block ≡ Some page) × (after : Content)
    × (option_map (numbered number) (at_one a role block page) ≡ Some after)
each_of_one {pages} {a} {number} {role} f block touches =
    let there = ap (λ (l : List Content). slice_get l a) (no_more pages (fresh_page Hnsw)) ∙ f.there in
    subst (λ (b : ℕ). (page : Content) × (slice_get (pages ++ replicate (length pages - length pages) (fresh_page Hnsw)) b ≡ Some page) × (after : Content)
    × (option_map (numbered number) (at_one a role b page) ≡ Some after)) (only a block touches) (f.page, there, f.after, f.is)

pub one_fits : (pages : List Content) (block number : ℕ) (role : PageChange) (page after : Content) → slice_get pages block ≡ Some page
    → role page ≡ Some after → OneFits pages block number role
one_fits pages block number role page after there is = record {
  page = page;
  there = there;
  after = numbered number after;
  is = rw (eq-eqb block block refl, is) refl;
}
