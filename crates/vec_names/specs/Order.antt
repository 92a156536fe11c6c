-- The order of places and of rows: by block, and then by offset.
use Rattle.std.specs.declared.cmp.Ordering.{Ordering}
use Rattle.std.specs.Ordering.{nat_cmp, ordering_then}
use Rattle.std.specs.Cmp.{IsTotalOrder, nat_cmp_total}
use Rattle.std.specs.FinMap.{IsAntisymmetric}
use Rattle.std.proofs.lemmas.Cmp.{on_total, then_total}
use Rattle.std.proofs.lemmas.Map.Lookups.{exact_pairs, exact_unsigned}
use Rattle.vec_names.specs.declared.tid.Tid.{Tid}
use Rattle.vec_names.specs.declared.heap_id.HeapId.{HeapId}
use Rattle.vec_names.specs.Places.{same_tid, same_heap_id}

abbrev pub tid_cmp : Tid → Tid → Ordering
tid_cmp a b = ordering_then (nat_cmp a.block b.block) (nat_cmp a.off b.off)

abbrev pub heap_id_cmp : HeapId → HeapId → Ordering
heap_id_cmp a b = ordering_then (nat_cmp a.block b.block) (nat_cmp a.off b.off)

-- total, and what compares alike is the same

pub tid_cmp_total : IsTotalOrder tid_cmp
tid_cmp_total = then_total (on_total (λ (t : Tid). t.block) nat_cmp_total) (on_total (λ (t : Tid). t.off) nat_cmp_total)

pub heap_id_cmp_total : IsTotalOrder heap_id_cmp
heap_id_cmp_total = then_total (on_total (λ (t : HeapId). t.block) nat_cmp_total) (on_total (λ (t : HeapId). t.off) nat_cmp_total)

pub tid_cmp_exact : IsAntisymmetric tid_cmp
tid_cmp_exact a b h =
    let pairs = exact_pairs nat_cmp nat_cmp exact_unsigned exact_unsigned (a.block, a.off) (b.block, b.off) h in
    same_tid a b (λ i. (pairs i).0) (λ i. (pairs i).1)

pub heap_id_cmp_exact : IsAntisymmetric heap_id_cmp
heap_id_cmp_exact a b h =
    let pairs = exact_pairs nat_cmp nat_cmp exact_unsigned exact_unsigned (a.block, a.off) (b.block, b.off) h in
    same_heap_id a b (λ i. (pairs i).0) (λ i. (pairs i).1)
