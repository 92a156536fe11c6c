-- The order of keys: total, and what ties is the same. So the keys of a set have one order, whatever way the set holds them.
use Rattle.std.specs.Prelude.{Bool, List}
use Rattle.std.specs.declared.cmp.Ordering.{Ordering}
use Rattle.std.specs.Ordering.{nat_cmp, ordering_then, is_lt}
use Rattle.std.specs.Cmp.{IsTotalOrder, nat_cmp_total}
use Rattle.std.proofs.lemmas.Cmp.{on_total, then_total, back_total}
use Rattle.vec_names.specs.Order.{tid_cmp, tid_cmp_total}
use Rattle.bit_dist.specs.Distances.{dist_cmp}
use Rattle.bit_dist.specs.Orders.{dist_cmp_total}
use Rattle.list_values.specs.Ranking.{ranked}
use Rattle.search_sets.specs.declared.key.Key.{Key}

-- by distance, then by place, as the elements of a search are ordered
abbrev pub near_cmp : Key → Key → Ordering
near_cmp a b = ordering_then (dist_cmp a.dist b.dist) (tid_cmp a.at b.at)

abbrev pub is_nearer : Key → Key → Bool
is_nearer a b = is_lt (near_cmp a b)

-- what tells keys of one distance apart
abbrev pub alike_cmp : Key → Key → Ordering
alike_cmp a b = ordering_then (tid_cmp a.at b.at) (ordering_then (nat_cmp a.index b.index) (nat_cmp a.dist.den b.dist.den))

-- by distance, then by place; keys that tie in both are told apart by their number, and then by how the distance is written
abbrev pub key_cmp : Key → Key → Ordering
key_cmp a b = ordering_then (dist_cmp a.dist b.dist) (alike_cmp a b)

abbrev pub is_before : Key → Key → Bool
is_before a b = is_lt (key_cmp a b)

-- the one to be taken next is the greatest
abbrev pub urgency : Key → Key → Ordering
urgency a b = key_cmp b a

abbrev pub in_order : List Key → List Key
in_order ks = ranked is_before ks

pub key_cmp_total : IsTotalOrder key_cmp
key_cmp_total =
    then_total (on_total (λ (k : Key). k.dist) dist_cmp_total)
    (then_total (on_total (λ (k : Key). k.at) tid_cmp_total)
    (then_total (on_total (λ (k : Key). k.index) nat_cmp_total) (on_total (λ (k : Key). k.dist.den) nat_cmp_total)))

pub near_cmp_total : IsTotalOrder near_cmp
near_cmp_total = then_total (on_total (λ (k : Key). k.dist) dist_cmp_total) (on_total (λ (k : Key). k.at) tid_cmp_total)

pub urgency_total : IsTotalOrder urgency
urgency_total = back_total key_cmp_total
