use Rattle.std.proofs.Common.{◌-◌, ◌≤◌}
use Rattle.page_bytes.proofs.Readers.{ZeroIn}
use Rattle.page_bytes.proofs.reading.past_zeros.Given as goal

abbrev pub invariant-words : goal.invariant-words
invariant-words l = (l.from ≤ l.at) × (l.at ≤ l.to) × ZeroIn l.bytes l.from l.at

abbrev pub decreases-words : goal.decreases-words
decreases-words l = l.to - l.at

abbrev pub invariant-bytes : goal.invariant-bytes
invariant-bytes l = (l.from ≤ l.at) × (l.at ≤ l.to) × ZeroIn l.bytes l.from l.at

abbrev pub decreases-bytes : goal.decreases-bytes
decreases-bytes l = l.to - l.at
