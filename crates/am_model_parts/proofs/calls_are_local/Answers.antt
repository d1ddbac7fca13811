use Rattle.am_model_parts.proofs.Asking.{call_local, want_local, carry_local}
use Rattle.am_model_parts.proofs.calls_are_local.Goals as goal

pub returns-clause-call : goal.returns-clause-call
returns-clause-call c = call_local

pub returns-clause-want : goal.returns-clause-want
returns-clause-want c = want_local

pub returns-clause-carry : goal.returns-clause-carry
returns-clause-carry c = carry_local
