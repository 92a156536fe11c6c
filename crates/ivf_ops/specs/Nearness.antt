-- The order of lists, and of rows that were met.
use Rattle.std.specs.Prelude.{ℕ, Bool, List}
use Rattle.std.specs.declared.cmp.Ordering.{Ordering}
use Rattle.std.specs.Ordering.{ordering_then, nat_cmp, is_lt}
use Rattle.std.specs.Cmp.{IsTotalOrder, nat_cmp_total}
use Rattle.std.proofs.lemmas.Cmp.{on_total, then_total}
use Rattle.vec_names.specs.Order.{heap_id_cmp, heap_id_cmp_total}
use Rattle.bit_dist.specs.Distances.{dist_cmp, hamming_of}
use Rattle.bit_dist.specs.Orders.{dist_cmp_total}
use Rattle.ivf_graph.specs.Answer.{Found}
use Rattle.vec_steps.specs.declared.seen.Centre.{Centre}
use Rattle.vec_steps.specs.declared.seen.RowSeen.{RowSeen}
use Rattle.ivf_ops.specs.declared.near.Near.{Near}
use Rattle.ivf_ops.specs.declared.met.Met.{Met}

-- ---- lists

-- by the distance of the centre, and then by the list's number
abbrev pub near_cmp : Near → Near → Ordering
near_cmp a b = ordering_then (dist_cmp a.dist b.dist) (nat_cmp a.list b.list)

pub near_cmp_total : IsTotalOrder near_cmp
near_cmp_total = then_total (on_total (λ (n : Near). n.dist) dist_cmp_total) (on_total (λ (n : Near). n.list) nat_cmp_total)

abbrev pub is_nearer : Near → Near → Bool
is_nearer a b = is_lt (near_cmp a b)

-- a list, by its centre as a look told it
abbrev pub near_of : List Bool → Centre → Near
near_of query c = record { dist = hamming_of c.bits query; list = c.list; first = c.first; aim = c.aim }

-- ---- rows

-- by distance, then by the row's name, then by the place in the index
abbrev pub met_cmp : Met → Met → Ordering
met_cmp a b = ordering_then (dist_cmp a.dist b.dist)
    (ordering_then (heap_id_cmp a.id b.id) (ordering_then (nat_cmp a.block b.block) (nat_cmp a.off b.off)))

pub met_cmp_total : IsTotalOrder met_cmp
met_cmp_total = then_total (on_total (λ (m : Met). m.dist) dist_cmp_total)
    (then_total (on_total (λ (m : Met). m.id) heap_id_cmp_total)
    (then_total (on_total (λ (m : Met). m.block) nat_cmp_total) (on_total (λ (m : Met). m.off) nat_cmp_total)))

abbrev pub comes_before : Met → Met → Bool
comes_before a b = is_lt (met_cmp a b)

-- a row of a block, as a look told it
abbrev pub met_of : List Bool → ℕ → RowSeen → Met
met_of query block r = record { dist = hamming_of r.bits query; id = r.id; block = block; off = r.off }

-- the row, in the words of an answer
abbrev pub found_of : Met → Found
found_of m = record { distance = m.dist; id = m.id; block = m.block; offset = m.off }
