-- What a map is once a value in it was changed in place.
use Rattle.std.specs.Prelude.{◌≡◌, Option, OnSome}
use Rattle.std.specs.Borrow.{LendsSo, MutBor, Fml, RattleType}
use Rattle.std.specs.FinMap.{FinMap, insert}
use Rattle.vec_names.specs.contracts.mapped.Mapped.{the_row}
use Rattle.vec_names.specs.declared.tid.Tid.{Tid}
use Rattle.vec_names.specs.Order.{tid_cmp}

-- the map ends with the last value behind r at the place; with none there it ends as it was
abbrev pub LendsValue : (V : RattleType) → MutBor (FinMap tid_cmp V.Denot) → Tid → Option (MutBor V.Denot) → Fml
LendsValue V m place r = LendsSo (the_row V) V m r (λ n w. OnSome r (n ≡ insert m.now place w)) (λ n. n ≡ m.now)
