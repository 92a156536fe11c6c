use Rattle.std.proofs.Common.{◌∙◌}
use Rattle.page_bytes.proofs.Readers.{done_at}
use Rattle.page_bytes.proofs.reading.page_in.Goals as goal

pub returns : goal.returns
returns c = c.in_ok-lower.ensures.2 ∙ c.in_ok-items_in.ensures ∙ done_at c.args.bytes.now 8192
