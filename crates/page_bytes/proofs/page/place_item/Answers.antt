use Rattle.std.proofs.Common.{rules}
use Rattle.page_bytes.specs.Splice.{with_item}
use Rattle.page_bytes.specs.Spelling.{line_pointer}
use Rattle.page_bytes.proofs.page.place_item.Goals as goal

pub returns : goal.returns
unfolding with_item line_pointer
returns c = search rules
