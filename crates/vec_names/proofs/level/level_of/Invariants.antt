use Rattle.std.proofs.Common.{◌≡◌, ◌/◌, ◌^◌}
use Rattle.vec_names.specs.Levels.{levels_reached}
use Rattle.vec_names.proofs.level.level_of.Given as goal

abbrev pub invariant-levels : goal.invariant-levels
invariant-levels l = (l.reaching ≡ 2 ^ 64 / l.m ^ l.level) × (levels_reached l.word l.m l.level ≡ l.level)
