-- That parameters are in range is so in one way only.
use Rattle.std.proofs.Math.Logic.{∥∥₁_elim}
use Rattle.std.proofs.Props.{props}
use Rattle.vec_names.specs.declared.params.Kind.{Kind}
use Rattle.vec_names.specs.declared.params.Kind.TheVariants.{Hnsw, Ivf}
use Rattle.vec_names.specs.declared.params.Params.{Params}
use Rattle.vec_names.specs.Params.{IsInRange, IsInRangeOf}

of_kind : (kind : Kind) (p : Params) → IsProp (IsInRangeOf kind p)
of_kind Hnsw p = hlevel props
of_kind Ivf p = hlevel props

pub in_range_once : (p : Params) → IsProp (IsInRange p)
in_range_once p = hlevel (props, of_kind p.kind p)

pub in_range_had : (p : Params) → ∥ IsInRange p ∥₁ → IsInRange p
in_range_had p had = ∥∥₁_elim had (in_range_once p) (λ is. is)
