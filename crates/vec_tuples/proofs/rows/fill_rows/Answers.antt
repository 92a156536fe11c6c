use Rattle.std.proofs.Common.{◌≡◌, ◌*◌, ◌++◌, drop, subst, arith}
use Rattle.vec_tuples.specs.Spelling.{rows_bytes}
use Rattle.vec_tuples.proofs.RowPlaces.{rows_written, none_written, all_written}
use Rattle.vec_tuples.proofs.rows.fill_rows.Goals as goal

pub places-init : goal.places-init
places-init c = (c.requires.long, none_written c.args.ids.now c.args.into.now)

pub places-preserved : goal.places-preserved
places-preserved c =
    (omega arith, rw (c.put_six.ensures, c.spelled_at.ensures) (rows_written c.args.ids.now c.places.at c.args.into.now c.places.into c.places.invariant.1))

pub returns : goal.returns
returns c =
    let end : c.places.at ≡ 10 = omega arith in
    all_written c.args.ids.now c.args.into.now c.places.into c.requires.long (subst (λ n. c.places.into ≡ rows_bytes n c.args.ids.now ++ drop (6 * n) c.args.into.now) end c.places.invariant.1)
