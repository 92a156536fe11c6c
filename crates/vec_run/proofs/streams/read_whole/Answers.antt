use Rattle.vec_run.proofs.Moving.{takes_more}
use Rattle.vec_run.proofs.streams.read_whole.Goals as goal

pub returns-in_err-more-clause-taken : goal.returns-in_err-more-clause-taken
returns-in_err-more-clause-taken g c =
    takes_more (g.S.Source.left c.args.source.now) (g.S.Source.left c.pieces.source) (g.S.Source.left c.read_piece.new.source) c.pieces.bytes.items 268435457
    c.pieces.invariant.few c.pieces.invariant.bytes c.read_piece.ensures.taken
