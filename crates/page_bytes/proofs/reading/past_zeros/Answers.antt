use Rattle.std.proofs.Common.{sym, ◌∙◌, arith}
use Rattle.page_bytes.proofs.Readers.{zero_eight}
use Rattle.page_bytes.proofs.reading.past_zeros.Goals as goal

pub words-preserved : goal.words-preserved
words-preserved c = (omega arith, omega arith, zero_eight c.args.bytes.now c.args.from c.words.at c.words.invariant.2 (sym c.u64_at.ensures ∙ c.if-u64_at-eq0.true))
