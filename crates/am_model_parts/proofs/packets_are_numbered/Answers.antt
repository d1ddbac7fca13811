use Rattle.am_model_parts.proofs.Numbering.{history_numbered, numbered_place}
use Rattle.am_model_parts.proofs.packets_are_numbered.Goals as goal

pub returns-clause-history : goal.returns-clause-history
returns-clause-history c = history_numbered

pub returns-clause-place : goal.returns-clause-place
returns-clause-place c = numbered_place
