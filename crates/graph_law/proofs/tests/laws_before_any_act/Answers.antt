use Rattle.vec_graph.proofs.Shaping.{on_blocks_of}
use Rattle.graph_law.proofs.Nothing.{shaped_without, sound_without}
use Rattle.graph_law.proofs.tests.laws_before_any_act.Goals as goal

pub law_sound-requires-clause-shaped : goal.law_sound-requires-clause-shaped
law_sound-requires-clause-shaped c = shaped_without c.empty-base.result c.empty-base.ensures.no_nodes c.empty-base.ensures.no_entry c.empty-base.ensures.level_0 c.empty-base.ensures.hint_1 c.empty-base.ensures.one_block

pub law_known-requires-clause-shaped : goal.law_known-requires-clause-shaped
law_known-requires-clause-shaped c = shaped_without c.empty-base.result c.empty-base.ensures.no_nodes c.empty-base.ensures.no_entry c.empty-base.ensures.level_0 c.empty-base.ensures.hint_1 c.empty-base.ensures.one_block

pub law_scan-requires-clause-shaped : goal.law_scan-requires-clause-shaped
law_scan-requires-clause-shaped c = shaped_without c.empty-base.result c.empty-base.ensures.no_nodes c.empty-base.ensures.no_entry c.empty-base.ensures.level_0 c.empty-base.ensures.hint_1 c.empty-base.ensures.one_block

pub law_scan-requires-clause-sound : goal.law_scan-requires-clause-sound
law_scan-requires-clause-sound c = sound_without c.empty-base.result c.empty-base.ensures.no_nodes c.empty-base.ensures.no_entry

pub law_behind_drops-requires-clause-shaped : goal.law_behind_drops-requires-clause-shaped
law_behind_drops-requires-clause-shaped c = shaped_without c.empty-base.result c.empty-base.ensures.no_nodes c.empty-base.ensures.no_entry c.empty-base.ensures.level_0 c.empty-base.ensures.hint_1 c.empty-base.ensures.one_block

pub law_cleaned-requires-clause-shaped : goal.law_cleaned-requires-clause-shaped
law_cleaned-requires-clause-shaped c = shaped_without c.empty-base.result c.empty-base.ensures.no_nodes c.empty-base.ensures.no_entry c.empty-base.ensures.level_0 c.empty-base.ensures.hint_1 c.empty-base.ensures.one_block

pub law_cleaned-requires-clause-sound : goal.law_cleaned-requires-clause-sound
law_cleaned-requires-clause-sound c = sound_without c.empty-base.result c.empty-base.ensures.no_nodes c.empty-base.ensures.no_entry

pub law_doomed_count-requires : goal.law_doomed_count-requires
law_doomed_count-requires c = on_blocks_of c.empty-base.result (shaped_without c.empty-base.result c.empty-base.ensures.no_nodes c.empty-base.ensures.no_entry c.empty-base.ensures.level_0 c.empty-base.ensures.hint_1 c.empty-base.ensures.one_block)

pub law_marks-requires-clause-shaped : goal.law_marks-requires-clause-shaped
law_marks-requires-clause-shaped c = shaped_without c.empty-base.result c.empty-base.ensures.no_nodes c.empty-base.ensures.no_entry c.empty-base.ensures.level_0 c.empty-base.ensures.hint_1 c.empty-base.ensures.one_block
