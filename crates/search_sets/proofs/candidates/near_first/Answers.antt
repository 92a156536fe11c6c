use Rattle.search_sets.proofs.Heaps.{some_items}
use Rattle.search_sets.proofs.Leaders.{heap_leads}
use Rattle.search_sets.proofs.candidates.near_first.Goals as goal

pub returns-in-Some : goal.returns-in-Some
returns-in-Some c = heap_leads _ _ (some_items _ _ c.as_slice.ensures.value c.if-is_empty.ensures) c.in-Some.ensures.lookup (c.in-Some.ensures.greatest c.requires)
