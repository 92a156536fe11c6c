use Rattle.std.proofs.Common.{List, length, ap}
use Rattle.std.proofs.lemmas.Option.{slice_get_read}
use Rattle.page_bytes.specs.Content.{Content}
use Rattle.page_sets.proofs.PageLists.{redone_in}
use Rattle.page_sets.proofs.page_list.PageListPageSet.redo_on.Goals as goal

pub returns-clause-done : goal.returns-clause-done
returns-clause-done c =
    redone_in c.args.self.now.pages.items c.args.event.now c.args.params.now c.args.number c.args.block c.index_mut.result.now c.redo.new.page c.redo.result
    (slice_get_read c.args.self.now.pages.items (length c.as_slice.result.now) c.args.block c.index_mut.result.now
    (ap (λ (l : List Content). length l) c.as_slice.ensures.value) c.if-at-as_slice.false c.index_mut.ensures.value)
    c.redo.ensures
