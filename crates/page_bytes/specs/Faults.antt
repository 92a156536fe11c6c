-- Where bytes that are no page go wrong.
use Rattle.std.specs.Prelude.{◌≡◌, ℕ, ◌+◌, ◌<◌, ◌≤◌, List, ◌++◌, length, take}
use Rattle.index_sizes.specs.declared.limits.TheConstants.{PAGE_SIZE}
use Rattle.page_bytes.specs.Content.{Content, IsPage}
use Rattle.page_bytes.specs.Spelling.{spelling}

-- some page has these bytes first
pub record BeginsPage (bytes : List ℕ) : Type 0 where
  pub page : Content
  pub rest : List ℕ
  pub valid : IsPage page
  pub same : spelling page ≡ bytes ++ rest

-- The first place that no page with the same earlier bytes has, where 8,192 and all after it are places that no page
-- has; or the number of bytes where too few are given.
pub record IsFirstFault (bytes : List ℕ) (at : ℕ) : Type 0 where
  pub within : at ≤ length bytes
  pub earlier : BeginsPage (take at bytes)
  pub here : at < length bytes → ¬ BeginsPage (take (at + 1) bytes)
  pub short : at ≡ length bytes → at < PAGE_SIZE
