-- The ranges of an index's parameters.
use Rattle.std.specs.Prelude.{◌≡◌, ◌*◌, ◌≤◌}
use Rattle.index_sizes.specs.declared.limits.TheConstants.{MOST_BITS, MOST_BLOCKS}
use Rattle.vec_names.specs.declared.params.Kind.{Kind}
use Rattle.vec_names.specs.declared.params.Kind.TheVariants.{Hnsw, Ivf}
use Rattle.vec_names.specs.declared.params.Ops.TheVariants.{Hamming}
use Rattle.vec_names.specs.declared.params.Params.{Params}

-- a graph's own numbers
pub record IsGraphInRange (p : Params) : Type 0 where
  pub m_low : 2 ≤ p.m
  pub m_high : p.m ≤ 100
  pub ef_low : 4 ≤ p.ef
  pub ef_high : p.ef ≤ 1000
  pub ef_twice_m : 2 * p.m ≤ p.ef
  pub no_lists : p.lists ≡ 0

-- the numbers of lists round centres
pub record AreListsInRange (p : Params) : Type 0 where
  pub hamming : p.ops ≡ Hamming
  pub lists_low : 1 ≤ p.lists
  pub lists_high : p.lists ≤ MOST_BLOCKS
  pub no_m : p.m ≡ 0
  pub no_ef : p.ef ≡ 0

abbrev pub IsInRangeOf : Kind → Params → Type 0
IsInRangeOf Hnsw p = IsGraphInRange p
IsInRangeOf Ivf p = AreListsInRange p

-- every number is in its range
pub record IsInRange (p : Params) : Type 0 where
  pub bits_low : 1 ≤ p.bits
  pub bits_high : p.bits ≤ MOST_BITS
  pub of_kind : IsInRangeOf p.kind p
