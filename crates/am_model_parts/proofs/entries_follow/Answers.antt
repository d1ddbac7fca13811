use Rattle.am_model_parts.proofs.Following.{work_next, move_next, call_next, want_next, carry_next}
use Rattle.am_model_parts.proofs.entries_follow.Goals as goal

pub returns-clause-work : goal.returns-clause-work
returns-clause-work c = work_next

pub returns-clause-moved : goal.returns-clause-moved
returns-clause-moved c = move_next

pub returns-clause-call : goal.returns-clause-call
returns-clause-call c = call_next

pub returns-clause-want : goal.returns-clause-want
returns-clause-want c = want_next

pub returns-clause-carry : goal.returns-clause-carry
returns-clause-carry c = carry_next
