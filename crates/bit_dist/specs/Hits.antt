-- What a search answers of a row, and the order of answers.
use Rattle.std.specs.declared.cmp.Ordering.{Ordering}
use Rattle.std.specs.Ordering.{ordering_then}
use Rattle.std.specs.Cmp.{IsTotalOrder}
use Rattle.std.proofs.lemmas.Cmp.{on_total, then_total}
use Rattle.vec_names.specs.declared.heap_id.HeapId.{HeapId}
use Rattle.vec_names.specs.Order.{heap_id_cmp, heap_id_cmp_total}
use Rattle.bit_dist.specs.declared.dist.Dist.{Dist}
use Rattle.bit_dist.specs.Distances.{dist_cmp}
use Rattle.bit_dist.specs.Orders.{dist_cmp_total}

-- a row's distance and its id
abbrev pub Hit : Type 0
Hit = Dist × HeapId

-- by distance, then by id
abbrev pub hit_cmp : Hit → Hit → Ordering
hit_cmp a b = ordering_then (dist_cmp a.0 b.0) (heap_id_cmp a.1 b.1)

pub hit_cmp_total : IsTotalOrder hit_cmp
hit_cmp_total = then_total (on_total (λ (h : Hit). h.0) dist_cmp_total) (on_total (λ (h : Hit). h.1) heap_id_cmp_total)
