use Rattle.std.proofs.Common.{true, None, List, Option, ap, ◌∙◌}
use Rattle.std.proofs.lemmas.List.{take-replicate}
use Rattle.vec_names.specs.declared.tid.Tid.{Tid}
use Rattle.vec_tuples.specs.Spelling.{links_bytes, links_with}
use Rattle.page_redo.proofs.tuple_changes.NoSlotsItemChange.change.Goals as goal

pub returns : goal.returns
returns c =
    c.fill_links.ensures
    ∙ ap (λ (tids : List (Option Tid)). links_bytes (links_with true c.args.self.now.version tids)) (take-replicate c.args.self.now.count 1358 None c.requires.0)
