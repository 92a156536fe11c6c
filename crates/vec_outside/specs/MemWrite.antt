-- A range that counts as written, by its parts.
use Rattle.std.specs.Prelude.{◌≡◌, ℕ, Vec}
use Rattle.std.specs.declared.alloc.Global.{Global}
use Rattle.vec_outside.specs.declared.disks.Area.{Area}
use Rattle.vec_outside.specs.declared.timeline.Write.{Write}

abbrev pub write_of : Area → ℕ → ℕ → Vec ℕ Global → Vec ℕ Global → Write
write_of area at n was refused = record { area = area; at = at; len = n; was = was; refused = refused }

-- it is a write of so many bytes of this area at this place
pub record IsWriteOf (area : Area) (at n : ℕ) (write : Write) : Type 0 where
  pub area_is : write.area ≡ area
  pub at_is : write.at ≡ at
  pub len_is : write.len ≡ n
