-- The journal of a run obeys the laws of runs, whether it came to its end or met a full log.
use Rattle.std.specs.Prelude.{length}
use Rattle.std.proofs.Common.{◌≡◌, true, ◌≤◌, ◌<◌, ◌^◌, List, [], Result, Ok, Err, arith, refl, sym, subst}
use Rattle.am_names.specs.declared.Cause.{Cause}
use Rattle.am_names.specs.declared.Serial.{Serial}
use Rattle.am_office_entries.specs.declared.Entry.{Entry}
use Rattle.am_office_entries.specs.declared.Part.{Part}
use Rattle.am_model.specs.Layout.{Layout}
use Rattle.am_model.specs.Merge.{is_ordered}
use Rattle.am_model.specs.PostOffice.{PostOffice}
use Rattle.am_laws.proofs.OneFate.{one_fate}
use Rattle.am_scenario_types.specs.declared.parts.Network.TheVariants.{Packet}
use Rattle.am_scenario_types.specs.Lawful.{IsLawful}
use Rattle.am_scenario_types.specs.Lists.{ScenarioLists}
use Rattle.am_model_scripts.specs.Layout.{layout_of}
use Rattle.am_model_drain.specs.Cut.{IsDrainCutOff, IsDrainedWithRoom}
use Rattle.am_model_drain.specs.Follows.{IsGoodPhase, IsStoppedFor}
use Rattle.am_model_drain.proofs.Stopped.{cut_off_is_stopped}
use Rattle.am_laws_runs.specs.Turns.Enabled.{IsOfRun}
use Rattle.am_laws_runs.specs.Turns.Endings.{IsOrderly, WithholdsNothing}
use Rattle.am_laws_runs.specs.Turns.Runs.{IsWholeRun}
use Rattle.am_laws_runs.proofs.Nothing.{none_is_unknown}
use Rattle.am_laws_runs.proofs.Turning.{drains_make_runs}
use Rattle.am_laws_runs.proofs.Unknown.{unknown_is_withheld}
use Rattle.am_laws_runs.specs.Drained.{HasShortLogs, IsShortHistory}
use Rattle.am_laws_runs.proofs.Drained.{cut_offs_are_short, drains_are_short, empty_is_good_phase, far_below, no_logs}
use Rattle.am_laws_runs.proofs.Returns.{returns_are_for_good}
use Rattle.am_laws_runs.proofs.Stopped.{stopped_returns_are_for_good, stopped_runs_are_orderly}
use Rattle.am_cluster.specs.Runs.{EndsPhase, IsAloneCutOff, IsAloneStopped, IsFedRun, IsPhaseOfRun, IsRunCutOff, IsRunDone, IsRunStopped, ObeysRunLaws}
use Rattle.am_cluster_crew.specs.Fed.{IsFedPhase}
use Rattle.am_cluster.specs.declared.Finished.{Finished}
use Rattle.am_cluster.specs.declared.RunFault.{RunFault}
use Rattle.am_cluster.specs.declared.RunFault.TheVariants as Runs

pub whole_obeys : (s : ScenarioLists) (journal : List Entry) → IsLawful s → s.network ≡ Packet → IsWholeRun s journal → PostOffice (layout_of s) journal →
    is_ordered journal ≡ true → ObeysRunLaws s journal
whole_obeys s journal lawful packet whole laws order =
    let run : IsOfRun s journal = record { lawful = lawful; packet = packet; history = whole.history } in
    let orderly : IsOrderly s journal = record { run = run; in_order = whole.follows.links.in_order; last_tries = whole.follows.last_tries } in
    record {
      history = whole.history;
      order = order;
      laws = laws;
      fates = one_fate (layout_of s) journal whole.history;
      unknown = unknown_is_withheld s journal orderly;
      complete = λ (nothing : WithholdsNothing s) (serial : Serial). none_is_unknown s journal orderly nothing serial;
      for_good = λ (nothing : WithholdsNothing s) (serial : Serial) (cause : Cause) returned. returns_are_for_good s journal run whole.follows nothing serial
          cause returned;
    }

-- a drain with room of a good phase makes a whole run
phase_is_whole : (s : ScenarioLists) (phase journal : List Entry) → IsLawful s → s.network ≡ Packet → IsGoodPhase s phase → HasShortLogs s phase →
    IsDrainedWithRoom s phase journal → IsWholeRun s journal
phase_is_whole s phase journal lawful packet good logs d =
    let short : IsShortHistory s journal = drains_are_short s phase journal (record { lawful = lawful; packet = packet; history = good.history }) logs d in
    let few : length journal < 2 ^ 31 = far_below (length journal) s.log short.short lawful.settings.log.1 in
    drains_make_runs s phase journal lawful packet good d.drained (omega (arith, few))

-- one that meets a full log has the same rights
record IsCutOffOf (s : ScenarioLists) (part : Part) (journal : List Entry) : Type 0 where
  obeys : ObeysRunLaws s journal
  stopped : IsStoppedFor s part journal

cut_off_obeys : (s : ScenarioLists) (phase : List Entry) (part : Part) (journal : List Entry) → IsLawful s → s.network ≡ Packet → IsGoodPhase s phase →
    HasShortLogs s phase → IsDrainCutOff s phase part journal → PostOffice (layout_of s) journal → is_ordered journal ≡ true → IsCutOffOf s part journal
cut_off_obeys s phase part journal lawful packet good logs c laws order =
    let short : IsShortHistory s journal = cut_offs_are_short s phase journal part (record {
      lawful = lawful;
      packet = packet;
      history = good.history;
    }) logs c in
    let run : IsOfRun s journal = record { lawful = lawful; packet = packet; history = short.history } in
    let stopped : IsStoppedFor s part journal = cut_off_is_stopped s phase journal part good short.logs c in
    let orderly : IsOrderly s journal = stopped_runs_are_orderly s journal part run stopped in
    let few : length journal ≤ 2 ^ 32 = (let low = far_below (length journal) s.log short.short lawful.settings.log.1 in omega (arith, low)) in
    record {
      stopped = stopped;
      obeys =
          record {
            history = short.history;
            order = order;
            laws = laws;
            fates = one_fate (layout_of s) journal short.history;
            unknown = unknown_is_withheld s journal orderly;
            complete = λ (nothing : WithholdsNothing s) (serial : Serial). none_is_unknown s journal orderly nothing serial;
            for_good = λ (nothing : WithholdsNothing s) (serial : Serial) (cause : Cause) returned. stopped_returns_are_for_good s journal part run few stopped
                nothing serial cause returned;
          };
    }

pub alone_is_cut_off : (s : ScenarioLists) (part : Part) (journal : List Entry) → IsLawful s → s.network ≡ Packet → IsDrainCutOff s [] part journal →
    PostOffice (layout_of s) journal → is_ordered journal ≡ true → IsAloneCutOff s part journal
alone_is_cut_off s part journal lawful packet c laws order =
    let k : IsCutOffOf s part journal = cut_off_obeys s [] part journal lawful packet (empty_is_good_phase s) (no_logs s) c laws order in
    record { cut = c; obeys = k.obeys; stopped = k.stopped }

run_is_cut_off : (s : ScenarioLists) (phase : List Entry) (part : Part) (journal : List Entry) → IsLawful s → s.network ≡ Packet → IsPhaseOfRun s phase →
    IsDrainCutOff s phase part journal → PostOffice (layout_of s) journal → is_ordered journal ≡ true → IsRunCutOff s part journal
run_is_cut_off s phase part journal lawful packet made c laws order =
    let k : IsCutOffOf s part journal = cut_off_obeys s phase part journal lawful packet made.good made.logs c laws order in
    record { phase = phase; made = made; cut = c; obeys = k.obeys; stopped = k.stopped }

-- the phase of a run without turns is empty
pub empty_phase : (s : ScenarioLists) → IsPhaseOfRun s []
empty_phase s = record { good = empty_is_good_phase s; logs = no_logs s; none = λ (without : s.turns ≡ 0). refl }

pub alone_is_done : (s : ScenarioLists) (journal : List Entry) → IsDrainedWithRoom s [] journal → IsRunDone s journal
alone_is_done s journal d = record { phase = []; made = empty_phase s; drained = d }

pub alone_is_stopped : (s : ScenarioLists) (fault : RunFault) → IsAloneStopped s fault → IsRunStopped s fault
alone_is_stopped s (Runs.LogFull part journal) c = record { phase = []; made = empty_phase s; cut = c.cut; obeys = c.obeys; stopped = c.stopped }
alone_is_stopped s Runs.NoMemory c = c

-- ---- the same of the journal that a drain left, as it is handed out

pub handed_whole : (s : ScenarioLists) (phase end journal : List Entry) → IsLawful s → s.network ≡ Packet → IsGoodPhase s phase → HasShortLogs s phase →
    IsDrainedWithRoom s phase end → journal ≡ end → IsWholeRun s journal
handed_whole s phase end journal lawful packet good logs d is =
    subst (λ (j : List Entry). IsWholeRun s j) (sym is) (phase_is_whole s phase end lawful packet good logs d)

pub handed_obeys : (s : ScenarioLists) (phase end journal : List Entry) (layout : Layout) → IsLawful s → s.network ≡ Packet → IsGoodPhase s phase →
    HasShortLogs s phase → IsDrainedWithRoom s phase end → journal ≡ end → layout ≡ layout_of s → PostOffice layout end → is_ordered end ≡ true →
    ObeysRunLaws s journal
handed_obeys s phase end journal layout lawful packet good logs d is same laws order =
    subst (λ (j : List Entry). ObeysRunLaws s j) (sym is)
    (whole_obeys s end lawful packet (phase_is_whole s phase end lawful packet good logs d) (subst (λ (l : Layout). PostOffice l end) same laws) order)

pub handed_cut_off : (s : ScenarioLists) (phase : List Entry) (part : Part) (end journal : List Entry) (layout : Layout) → IsLawful s → s.network ≡ Packet →
    IsPhaseOfRun s phase → IsDrainCutOff s phase part end → journal ≡ end → layout ≡ layout_of s → PostOffice layout end → is_ordered end ≡ true →
    IsRunCutOff s part journal
handed_cut_off s phase part end journal layout lawful packet made c is same laws order =
    subst (λ (j : List Entry). IsRunCutOff s part j) (sym is)
    (run_is_cut_off s phase part end lawful packet made c (subst (λ (l : Layout). PostOffice l end) same laws) order)

-- ---- a run whose workers all found memory

pub fed_run : (s : ScenarioLists) (phase : List Entry) (r : Result Finished RunFault) → IsFedPhase s phase → EndsPhase s phase r → IsFedRun s r
fed_run s phase (Ok finished) fed ends = (phase, fed, ends)
fed_run s phase (Err (Runs.LogFull part journal)) fed ends = (phase, fed, ends)
fed_run s phase (Err Runs.NoMemory) fed ends = tt
