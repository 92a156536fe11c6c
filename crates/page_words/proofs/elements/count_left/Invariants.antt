use Rattle.std.proofs.Common.{◌≡◌, ◌+◌, ◌≤◌, length, drop}
use Rattle.list_values.specs.Masks.{kept}
use Rattle.page_words.proofs.elements.count_left.Given as goal

abbrev pub invariant-ids : goal.invariant-ids
invariant-ids l = (l.left ≤ l._at) × (l.left + length (kept l.mask (drop l._at l.ids)) ≡ length (kept l.gone l.ids))
