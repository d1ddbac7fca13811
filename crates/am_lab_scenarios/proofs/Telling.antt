-- A journal with its callers aside tells the same runs and fates.
use Rattle.std.proofs.Common.{◌≡◌, List, [], map, Some, None, refl, ap, if◌then◌else◌}
use Rattle.am_names.specs.Names.{has_serial}
use Rattle.am_names.specs.declared.EndpointId.{EndpointId}
use Rattle.am_names.specs.declared.MsgKind.{MsgKind}
use Rattle.am_names.specs.declared.Serial.{Serial}
use Rattle.am_office_entries.specs.declared.Actor.{Actor}
use Rattle.am_office_entries.specs.declared.Actor.TheVariants.{Outside}
use Rattle.am_office_entries.specs.declared.Call.{Call}
use Rattle.am_office_entries.specs.declared.Call.TheVariants as Calls
use Rattle.am_office_entries.specs.declared.Entry.{Entry}
use Rattle.am_office_entries.specs.declared.Event.{Event}
use Rattle.am_office_entries.specs.declared.Event.TheVariants as Events
use Rattle.am_office_entries.specs.declared.Outcome.{Outcome}
use Rattle.am_office_entries.specs.declared.Outcome.TheVariants as Out
use Rattle.am_office_entries.specs.Entries.{accepted_of, is_serial, passes, run_of, unknown_of}
use Rattle.am_office_entries.specs.Fates.{cause_of, causes_of, fate, fate_by, fate_of_accepted, is_accepted, is_run, is_unknown}
use Rattle.am_office_report.specs.Report.{listed, listed_with, run_at, run_in, runs_at, told}
use Rattle.am_lab_scenarios.specs.Spelling.Replays.{by_anyone}
use Rattle.am_lab_scenarios.specs.Replays.Callers.{CallersTellNothing, callers_aside, made_by_anyone}
use Rattle.am_lab_scenarios.proofs.ReplayLists.{any_stays, filter_map_stays, fold_stays}
use Rattle.am_lab_scenarios.proofs.Roles.{accepted_stays, cause_stays, run_stays, unknown_stays, whoever}

-- ---- fates

causes_stay : (journal : List Entry) (s : Serial) → causes_of (callers_aside journal) s ≡ causes_of journal s
causes_stay journal s = filter_map_stays made_by_anyone (λ (x : Entry). cause_of s x.event x.outcome) (cause_stays s) journal

left_unknown_stays : (journal : List Entry) (s : Serial) → is_unknown (callers_aside journal) s ≡ is_unknown journal s
left_unknown_stays journal s = any_stays made_by_anyone (λ (x : Entry). is_serial s (unknown_of x)) (λ x. ap (is_serial s) (unknown_stays x)) journal

ran_stays : (journal : List Entry) (s : Serial) → is_run (callers_aside journal) s ≡ is_run journal s
ran_stays journal s = any_stays made_by_anyone (λ (x : Entry). passes (has_serial s) (run_of x)) (λ x. ap (passes (has_serial s)) (run_stays x)) journal

was_accepted_stays : (journal : List Entry) (s : Serial) → is_accepted (callers_aside journal) s ≡ is_accepted journal s
was_accepted_stays journal s =
    any_stays made_by_anyone (λ (x : Entry). passes (has_serial s) (accepted_of x)) (λ x. ap (passes (has_serial s)) (accepted_stays x)) journal

end_stays : (journal : List Entry) (s : Serial) → fate_of_accepted (callers_aside journal) s ≡ fate_of_accepted journal s
end_stays journal s = λ i. fate_by (causes_stay journal s i) (left_unknown_stays journal s i) (ran_stays journal s i)

fate_stays : (journal : List Entry) (s : Serial) → fate (callers_aside journal) s ≡ fate journal s
fate_stays journal s = λ i. if was_accepted_stays journal s i then Some (end_stays journal s i) else None

-- ---- what the report tells

listed_stays : (journal : List Entry) → listed (callers_aside journal) ≡ listed journal
listed_stays journal =
    fold_stays made_by_anyone (λ (messages : List (Serial × MsgKind)) (x : Entry). listed_with messages (accepted_of x))
    (λ messages x. ap (listed_with messages) (accepted_stays x)) [] journal

told_stays : (journal : List Entry) → told (callers_aside journal) ≡ told journal
told_stays journal = λ i. map (λ (m : Serial × MsgKind). record { serial = m.0; kind = m.1; fate = end_stays journal m.0 i }) (listed_stays journal i)

called_run_stays : (actor : Actor) (end : EndpointId) (call : Call) (outcome : Outcome) →
    run_in (Events.Call Outside end call) outcome ≡ run_in (Events.Call actor end call) outcome
called_run_stays actor end Calls.Poll (Out.Ran (Some h) m r) = refl
called_run_stays actor end Calls.Poll (Out.Zero s w) = refl
called_run_stays actor end call outcome = refl

run_in_stays : (x : Entry) → run_in (by_anyone x.event) x.outcome ≡ run_in x.event x.outcome
run_in_stays x = whoever (λ (event : Event). run_in event x.outcome) (λ actor end call. called_run_stays actor end call x.outcome) (λ actor end. refl) x.event

runs_stay : (journal : List Entry) (e : EndpointId) → runs_at (callers_aside journal) e ≡ runs_at journal e
runs_stay journal e = filter_map_stays made_by_anyone (λ (x : Entry). run_at e (run_in x.event x.outcome)) (λ x. ap (run_at e) (run_in_stays x)) journal

pub tells_the_same : CallersTellNothing
tells_the_same journal = record { runs = runs_stay journal; fates = fate_stays journal; told' = told_stays journal }
