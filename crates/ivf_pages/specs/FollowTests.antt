-- The tests by which it is told whether an event of an index of lists follows.
use Rattle.std.specs.Prelude.{ℕ, ◌==◌, ◌&&◌, not, nat_lt, Bool, false, List, length, slice_get, Option, Some, None}
use Rattle.std.specs.Option.{is_some}
use Rattle.index_sizes.specs.declared.limits.TheConstants.{MOST_BLOCKS}
use Rattle.vec_names.specs.declared.params.Params.{Params}
use Rattle.page_bytes.specs.Content.{Content}
use Rattle.vec_tuples.specs.declared.centre.CentreTuple.{CentreTuple}
use Rattle.ivf_pages.specs.Standing.{next_of, centre_in}
use Rattle.ivf_pages.specs.Walking.{reaches}

-- the block is reached from the first block of the list
abbrev pub leads_to : List Content → ℕ → Option CentreTuple → Bool
leads_to pages block None = false
leads_to pages block (Some t) = reaches pages (length pages) block (Some t.first)

abbrev pub is_on_chain : Params → List Content → ℕ → ℕ → Bool
is_on_chain p pages list block = nat_lt list p.lists && leads_to pages block (centre_in p pages list)

-- the block ends the list's chain, and the new one is the next of all
abbrev pub is_next_behind : Params → List Content → ℕ → ℕ → ℕ → Bool
is_next_behind p pages list last block =
    (is_on_chain p pages list last && not (is_some (next_of (slice_get pages last)))) && (block == length pages && nat_lt block MOST_BLOCKS)
