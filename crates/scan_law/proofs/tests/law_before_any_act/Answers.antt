use Rattle.graph_law.proofs.Nothing.{shaped_without, sound_without}
use Rattle.scan_law.proofs.tests.law_before_any_act.Goals as goal

pub law_first_batch-requires-clause-shaped : goal.law_first_batch-requires-clause-shaped
law_first_batch-requires-clause-shaped c = shaped_without c.empty-base.result c.empty-base.ensures.no_nodes c.empty-base.ensures.no_entry c.empty-base.ensures.level_0 c.empty-base.ensures.hint_1 c.empty-base.ensures.one_block

pub law_first_batch-requires-clause-sound : goal.law_first_batch-requires-clause-sound
law_first_batch-requires-clause-sound c = sound_without c.empty-base.result c.empty-base.ensures.no_nodes c.empty-base.ensures.no_entry
