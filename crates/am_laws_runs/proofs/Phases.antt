-- A beginning of a drain with short logs is a short history, and a drain of a phase with short logs is whole or stopped.
use Rattle.std.specs.Prelude.{filter}
use Rattle.std.proofs.Common.{◌≡◌, ℕ, ◌*◌, ◌≤◌, ◌<◌, ◌^◌, Bool, List, [], ◌++◌, length, Some, sym, ap, ◌∙◌, subst, arith, append_assoc, append-nil}
use Rattle.std.proofs.Common.{length-append}
use Rattle.std.proofs.lemmas.List.Elements.{filter-append}
use Rattle.am_office_entries.specs.declared.Entry.{Entry}
use Rattle.am_office_entries.specs.Entries.{touches, touches_node}
use Rattle.am_model.specs.History.{IsHistory}
use Rattle.am_model.specs.Layout.{Layout}
use Rattle.am_model_scripts.specs.Layout.{layout_of}
use Rattle.am_model_scripts.proofs.Lawful.{lawful_layout}
use Rattle.am_model_drain.proofs.Stopped.{cut_off_is_stopped}
use Rattle.am_laws_runs.specs.Turns.Enabled.{IsOfRun}
use Rattle.am_laws_runs.proofs.Turning.{drains_make_runs}
use Rattle.am_laws_runs.specs.Short.{IsWithinLogs}
use Rattle.am_laws_runs.specs.Drained.{IsShortHistory, BeginningsAreShort, CutOffPhasesAreStopped, PhasesWithRoomAreWhole, RunsAreNotRefused}
use Rattle.am_laws_runs.proofs.Short.{journals_are_short}
use Rattle.am_laws_runs.proofs.Beginnings.{begins}
use Rattle.am_laws_runs.proofs.Drained.{IsCut, cut, far_below, cut_offs_are_short, drains_are_short, none_is_refused, no_logs}
use Rattle.am_laws_runs.proofs.Known.{runs_have_short_logs}

-- a beginning of a journal has no longer logs
fewer : (p : Entry → Bool) (front rest journal : List Entry) (most : ℕ) → journal ≡ front ++ rest → length (filter p journal) ≤ most →
    length (filter p front) ≤ most
fewer p front rest journal most is low =
    let whole : length (filter p journal) ≡ length (filter p front ++ filter p rest) = ap (λ (xs : List Entry). length (filter p xs)) is
    ∙ ap (λ (xs : List Entry). length xs) (filter-append p front rest) in
    omega (arith, low, whole, length-append (filter p front) (filter p rest))

front_within : (layout : Layout) (front rest journal : List Entry) → journal ≡ front ++ rest → IsWithinLogs layout journal → IsWithinLogs layout front
front_within layout front rest journal is within =
    record {
      ends = λ e known. fewer (touches e) front rest journal layout.log is (within.ends e known);
      nodes = λ node known. fewer (touches_node node) front rest journal layout.log is (within.nodes node known);
    }

pub beginnings_are_short : BeginningsAreShort
beginnings_are_short s past journal run within b = by_cut (cut (2 ^ 31) journal)
  where
    by_cut : IsCut (2 ^ 31) journal → IsShortHistory s journal
    by_cut c =
        let layout : Layout = layout_of s in
        let whole : b.planned ≡ c.front ++ (c.rest ++ b.begins.later) = b.begins.is_planned
        ∙ (ap (λ (xs : List Entry). xs ++ b.begins.later) c.is ∙ append_assoc c.front c.rest b.begins.later) in
        let h : IsHistory layout c.front = begins b.turns s past c.front (c.rest ++ b.begins.later) run (omega (arith, c.low)) (b.is_planned
        ∙ ap (λ (xs : List Entry). Some xs) whole) in
        let logs : IsWithinLogs layout c.front = front_within layout c.front c.rest journal c.is within in
        let short : length c.front ≤ 272 * s.log = journals_are_short layout c.front (lawful_layout s run.lawful) h logs in
        let none : c.rest ≡ [] = c.ends (far_below (length c.front) s.log short run.lawful.settings.log.1) in
        let same : c.front ≡ journal = sym (c.is ∙ (ap (λ (xs : List Entry). c.front ++ xs) none ∙ append-nil c.front)) in
        subst (λ (xs : List Entry). IsShortHistory s xs) same
        (record { history = h; logs = runs_have_short_logs s c.front (record { lawful = run.lawful; packet = run.packet; history = h }) logs; short = short })

pub cut_off_phases_are_stopped : CutOffPhasesAreStopped
cut_off_phases_are_stopped s phase journal part ok packet good within c =
    let run : IsOfRun s phase = record { lawful = ok; packet = packet; history = good.history } in
    cut_off_is_stopped s phase journal part good (cut_offs_are_short s phase journal part run (runs_have_short_logs s phase run within) c).logs c

pub phases_with_room_are_whole : PhasesWithRoomAreWhole
phases_with_room_are_whole s phase journal ok packet good within d =
    let run : IsOfRun s phase = record { lawful = ok; packet = packet; history = good.history } in
    let k = drains_are_short s phase journal run (runs_have_short_logs s phase run within) d in
    let few : length journal < 2 ^ 31 = far_below (length journal) s.log k.short ok.settings.log.1 in
    drains_make_runs s phase journal ok packet good d.drained (omega (arith, few))

pub runs_are_not_refused : RunsAreNotRefused
runs_are_not_refused s journal condition ok packet r =
    none_is_refused s [] journal condition (record { lawful = ok; packet = packet; history = tt }) (no_logs s) r
