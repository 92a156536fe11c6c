-- Blocks that keep the rules, and the first that breaks one, where the meta tuple is known.
use Rattle.std.proofs.Common.{◌≡◌, ℕ, zero, suc, ◌<◌, ◌≤◌, true, List, Option, Some, sym, subst, arith}
use Rattle.page_bytes.specs.Content.{Content}
use Rattle.vec_tuples.specs.declared.meta.Meta.{Meta}
use Rattle.graph_pages.specs.Standing.{root, is_root, IsNodePage, KeepsRules, KeepsRulesUnder, IsFirstBroken}

module _ (pages : List Content) (m : Meta) (there : Some m ≡ root pages) (good : is_root pages m ≡ true) where
  keeps_at : (block : ℕ) → (1 ≤ block → IsNodePage m.params pages block) → KeepsRulesUnder (Some m) pages block
  keeps_at zero whole = good
  keeps_at (suc block) whole = whole (omega arith)

  pub keeps : (block : ℕ) → (1 ≤ block → IsNodePage m.params pages block) → KeepsRules pages block
  keeps block whole = subst (λ (o : Option Meta). KeepsRulesUnder o pages block) there (keeps_at block whole)

  breaks_at : (block : ℕ) → 1 ≤ block → ¬ IsNodePage m.params pages block → ¬ KeepsRulesUnder (Some m) pages block
  breaks_at zero low not_so keeps = absurd (omega arith)
  breaks_at (suc block) low not_so keeps = not_so keeps

  pub first_other : (block : ℕ) → 1 ≤ block → ¬ IsNodePage m.params pages block
      → ((lower : ℕ) → 1 ≤ lower → lower < block → IsNodePage m.params pages lower) → IsFirstBroken pages block
  first_other block low not_so before = record {
    broken = λ keeps. breaks_at block low not_so (subst (λ (o : Option Meta). KeepsRulesUnder o pages block) (sym there) keeps);
    whole_before = λ lower h. keeps lower (λ from. before lower from h);
  }
