-- What a stable sort of lists gives.
use Rattle.std.proofs.Common.{◌≡◌, ℕ, List, take, ap, ◌∙◌}
use Rattle.std.specs.Cmp.{IsStrictWeakOrder}
use Rattle.std.specs.List.Sorted.{IsSortedBy, IsStableBy}
use Rattle.std.proofs.lemmas.List.Sorted.{ranks_by}
use Rattle.list_values.proofs.Ranks.{ranked_is}
use Rattle.ivf_ops.specs.declared.near.Near.{Near}
use Rattle.ivf_ops.specs.Nearness.{is_nearer, near_cmp_total}
use Rattle.ivf_ops.specs.Scanning.{nearest_lists}

nearer_ranks : IsStrictWeakOrder is_nearer
nearer_ranks = ranks_by near_cmp_total (λ (n : Near). n)

pub nearest_is : (probes : ℕ) (nears sorted lists : List Near) → IsSortedBy is_nearer sorted → IsStableBy is_nearer nears sorted
    → lists ≡ take probes sorted → lists ≡ nearest_lists probes nears
nearest_is probes nears sorted lists up stable is = is ∙ ap (take probes) (ranked_is is_nearer nearer_ranks nears sorted up stable)
