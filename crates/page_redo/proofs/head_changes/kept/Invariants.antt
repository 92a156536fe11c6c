use Rattle.std.proofs.Common.{◌≡◌, ◌≤◌, ◌++◌, length, drop}
use Rattle.list_values.specs.Masks.{kept}
use Rattle.page_redo.proofs.head_changes.kept.Given as goal

abbrev pub invariant-ids : goal.invariant-ids
invariant-ids l = (length l.left.items ≤ l.id-index) × (l.left.items ++ kept l.mask (drop l.id-index l.ids) ≡ kept l.gone l.ids)
