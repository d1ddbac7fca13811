use Rattle.am_scenario.proofs.Growing.{stays_sound, begins_sound}
use Rattle.am_scenario.proofs.line_laws.a_draft_stays_sound.Goals as goal

pub returns-clause-begins : goal.returns-clause-begins
returns-clause-begins c = begins_sound

pub returns-clause-stays : goal.returns-clause-stays
returns-clause-stays c = stays_sound
