use Rattle.search_sets.proofs.Tables.{used_from, unused_from, none_past}
use Rattle.search_sets.proofs.seeking.is_used.Goals as goal

pub returns-then-k-slots-clause-yes : goal.returns-then-k-slots-clause-yes
returns-then-k-slots-clause-yes c h = used_from c.args.slots.now c.args.k c.args.round c.index-slots-k.result c.if-k-slots.true c.index-slots-k.is h

pub returns-then-k-slots-clause-no : goal.returns-then-k-slots-clause-no
returns-then-k-slots-clause-no c h = unused_from c.args.slots.now c.args.k c.args.round c.index-slots-k.result c.if-k-slots.true c.index-slots-k.is h

pub returns-else-k-slots-clause-no : goal.returns-else-k-slots-clause-no
returns-else-k-slots-clause-no c h s at now = none_past c.args.slots.now c.args.k h s at
