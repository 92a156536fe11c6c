use Rattle.std.proofs.Common.{◌≡◌, true, sym, arith, rules}
use Rattle.page_redo.specs.PageTuples.{is_graph}
use Rattle.byte_fields.specs.Levels.{is_level}
use Rattle.page_redo.proofs.MetaChanges.{entry_of_graph}
use Rattle.page_redo.proofs.in_place.enter.Goals as goal

pub put_meta-requires-clause-meta : goal.put_meta-requires-clause-meta
put_meta-requires-clause-meta c =
    let m = c.in_ok-meta.meta in
    let s = (c.in_ok-meta.ensures.spelled m (sym c.in_ok-meta.ensures.told)).0 in
    let graph : is_graph m.params.kind ≡ true = search rules in
    let level : is_level c.args.to c.args.level ≡ true = search rules in
    record { format_low = s.format_low; format_high = s.format_high; params = s.params; entry = entry_of_graph m.params.kind c.args.to graph; level = (level, omega arith); hint = s.hint }
