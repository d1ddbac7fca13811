-- What a drain leaves at its end.
use Rattle.am_model_scripts.proofs.Done.{scripts_are_done}
use Rattle.am_model_scripts.proofs.Links.{all_is_received}
use Rattle.am_model_scripts.specs.Standings.{IsAtRest}
use Rattle.am_model_drain.proofs.Receipts.{receipts_go_on}
use Rattle.am_model_drain.proofs.Rest.{NoRule, no_call_left, no_rule}
use Rattle.am_model_drain.proofs.Scripts.{scripts_go_on}
use Rattle.am_laws_runs.proofs.Pending.{none_pending}
use Rattle.am_laws_runs.proofs.Soundness.{drains_rest}
use Rattle.am_laws_runs.specs.Drained.{IsShortHistory}
use Rattle.am_laws_runs.specs.Left.{DrainsLeaveNothing, DrainsReceiveAll}
use Rattle.am_laws_runs.proofs.Drained.{drains_are_short}

pub drains_leave_nothing : DrainsLeaveNothing
drains_leave_nothing s past journal run logs scripts d =
    let short : IsShortHistory s journal = drains_are_short s past journal run logs d in
    let no : NoRule s journal = no_rule s journal d.drained.1.ended in
    let rest : IsAtRest s journal = drains_rest s past journal run.lawful d.drained short.history in
    record {
      rest = rest;
      scripts = scripts_are_done s journal (scripts_go_on s past journal scripts d.drained) (no_call_left s journal no.call);
      packets = no.receipt;
      settled = λ m accepted. none_pending s journal run.lawful short.history rest m accepted;
    }

pub drains_receive_all : DrainsReceiveAll
drains_receive_all s past journal drained order = all_is_received s journal (receipts_go_on s past journal order drained)
    (no_rule s journal drained.1.ended).receipt
