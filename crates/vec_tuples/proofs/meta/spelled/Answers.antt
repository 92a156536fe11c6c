use Rattle.std.proofs.Common.{List, ℕ, ◌∷◌, ◌++◌, ap}
use Rattle.std.specs.Int.{w16, w32, to_le_bytes}
use Rattle.vec_tuples.specs.Spelling.{magic, params_bytes, meta_bytes}
use Rattle.vec_tuples.proofs.EachField.{option_six}
use Rattle.vec_tuples.proofs.meta.spelled.Goals as goal

pub returns : goal.returns
unfolding meta_bytes
returns c =
    let m = c.args.meta in
    rw (
      c.to_le_bytes-a.ensures,
      c.to_le_bytes-f.ensures,
      c.kind_byte-kind.ensures,
      c.ops_byte-ops.ensures,
      c.to_le_bytes-b.ensures,
      c.to_le_bytes-m.ensures,
      c.to_le_bytes-e.ensures,
      c.to_le_bytes-l.ensures,
      c.spelled_option-p.ensures,
      c.to_le_bytes-h.ensures,
    ) (ap (λ (t : List ℕ). to_le_bytes w32 magic ++ (to_le_bytes w16 m.format ++ (params_bytes m.params ++ t))) (option_six m.entry (m.level ∷ 0 ∷ to_le_bytes w32 m.hint)))
