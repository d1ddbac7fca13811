-- What a drain makes of a good phase follows the scripts.
use Rattle.am_model_scripts.proofs.Done.{scripts_are_done}
use Rattle.am_model_scripts.proofs.Links.{all_is_received}
use Rattle.am_model_drain.specs.Laws.{DrainedFollows}
use Rattle.am_model_drain.proofs.Rest.{no_rule, no_call_left, rests_at_end}
use Rattle.am_model_drain.proofs.Scripts.{scripts_go_on}
use Rattle.am_model_drain.proofs.Receipts.{receipts_go_on}
use Rattle.am_model_drain.proofs.LastTries.{last_tries_come_last}
use Rattle.am_model_drain.proofs.Events.{events_are_of_run}

pub drained_follows : DrainedFollows
drained_follows scenario phase journal good (n, drained) sound =
    let no = no_rule scenario journal drained.ended in
    record {
      scripts = scripts_are_done scenario journal (scripts_go_on scenario phase journal good.scripts (n, drained)) (no_call_left scenario journal no.call);
      links = all_is_received scenario journal (receipts_go_on scenario phase journal good.in_order (n, drained)) no.receipt;
      last_tries = last_tries_come_last scenario phase journal good.is_phase (n, drained);
      rest = rests_at_end scenario journal sound drained.ended;
      events = events_are_of_run scenario phase journal good.events (n, drained);
      phases = record { phase = phase; is_phase = good.is_phase; drained = (n, drained) };
    }
