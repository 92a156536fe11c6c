use Rattle.graph_law.proofs.Worked.{sound_doomed, sound_not_reached, names_deleted, leads_to_nothing, too_low, touched_then, not_touched_then, not_touched_later, behind_the_drop, before_a_drop, clean, not_clean, clean_from_2, not_clean_from_1}
use Rattle.graph_law.proofs.law.law_examples.Goals as goal

pub returns-clause-sound : goal.returns-clause-sound
returns-clause-sound c = sound_doomed

pub returns-clause-sound_unreached : goal.returns-clause-sound_unreached
returns-clause-sound_unreached c = sound_not_reached

pub returns-clause-not_sound_deleted : goal.returns-clause-not_sound_deleted
returns-clause-not_sound_deleted c = names_deleted

pub returns-clause-not_sound_missing : goal.returns-clause-not_sound_missing
returns-clause-not_sound_missing c = leads_to_nothing

pub returns-clause-not_sound_low : goal.returns-clause-not_sound_low
returns-clause-not_sound_low c = too_low

pub returns-clause-touched : goal.returns-clause-touched
returns-clause-touched c = touched_then

pub returns-clause-not_touched : goal.returns-clause-not_touched
returns-clause-not_touched c = not_touched_then

pub returns-clause-not_touched_later : goal.returns-clause-not_touched_later
returns-clause-not_touched_later c = not_touched_later

pub returns-clause-behind : goal.returns-clause-behind
returns-clause-behind c = behind_the_drop

pub returns-clause-not_behind : goal.returns-clause-not_behind
returns-clause-not_behind c = before_a_drop

pub returns-clause-clean : goal.returns-clause-clean
returns-clause-clean c = clean

pub returns-clause-not_clean : goal.returns-clause-not_clean
returns-clause-not_clean c = not_clean

pub returns-clause-clean_from : goal.returns-clause-clean_from
returns-clause-clean_from c = clean_from_2

pub returns-clause-not_clean_from : goal.returns-clause-not_clean_from
returns-clause-not_clean_from c = not_clean_from_1
