-- A run without threads is short, so it is whole or stopped.
use Rattle.std.specs.Prelude.{count_by, take}
use Rattle.std.proofs.Common.{◌≡◌, ℕ, zero, suc, ◌+◌, ◌*◌, ◌≤◌, ◌<◌, ◌^◌, List, [], ◌∷◌, ◌++◌, length, Some, None, refl, sym, ap, ◌∙◌, subst, arith}
use Rattle.std.proofs.Common.{append_assoc, append-nil, length-append}
use Rattle.std.proofs.lemmas.List.Sums.{length-filter}
use Rattle.am_lemmas.proofs.Lists.{each_of}
use Rattle.am_names.specs.declared.NodeId.{NodeId}
use Rattle.am_office_entries.specs.declared.Entry.{Entry}
use Rattle.am_office_entries.specs.declared.Part.TheVariants as Parts
use Rattle.am_office_entries.specs.Entries.{touches, touches_node}
use Rattle.am_model.specs.History.{IsHistory}
use Rattle.am_model.proofs.Each.{each_front}
use Rattle.am_scenario_types.specs.declared.parts.ThreadLine.{ThreadLine}
use Rattle.am_scenario_types.specs.Lists.{ScenarioLists}
use Rattle.am_model_scripts.specs.Layout.{layout_of}
use Rattle.am_model_scripts.proofs.Lawful.{lawful_layout}
use Rattle.am_model_scripts.specs.Links.{nodes_of}
use Rattle.am_model_scripts.specs.Scripts.{calls_of, script_of}
use Rattle.am_model_drain.specs.Drain.{after_turns}
use Rattle.am_model_drain.specs.Cut.{full_for, MeetsNoFullLog}
use Rattle.am_model_drain.proofs.Stopped.{cut_off_is_stopped}
use Rattle.am_laws_runs.specs.Turns.Enabled.{IsOfRun}
use Rattle.am_laws_runs.proofs.Turning.{drains_make_runs}
use Rattle.am_laws_runs.specs.Short.{IsWithinLogs}
use Rattle.am_laws_runs.specs.Drained.{HasShortLogs, IsShortHistory, RunsAreShort, CutOffsAreShort, DrainsAreShort, NoneIsRefused, EmptyIsGoodPhase}
use Rattle.am_laws_runs.specs.Drained.{CutOffRunsAreStopped, RunsAreWhole, RunsWithRoomAreWhole}
use Rattle.am_laws_runs.proofs.Short.{journals_are_short}
use Rattle.am_laws_runs.proofs.Beginnings.{begins, drains_are_not_refused}
use Rattle.am_laws_runs.proofs.Logs.{room_keeps_logs}

-- ---- short logs

within : (s : ScenarioLists) (journal : List Entry) → HasShortLogs s journal → IsWithinLogs (layout_of s) journal
within s journal logs =
    record {
      ends = λ e known. (let low : count_by (touches e) journal ≤ s.log = logs (Parts.Endpoint e) in omega (arith, low, length-filter (touches e) journal));
      nodes = λ node known. (let low : count_by (touches_node node) journal ≤ s.log = logs (Parts.Interface node) in
          omega (arith, low, length-filter (touches_node node) journal));
    }

pub runs_are_short : RunsAreShort
runs_are_short s journal run logs = journals_are_short (layout_of s) journal (lawful_layout s run.lawful) run.history (within s journal logs)

-- ---- what is made with room

-- a list as one that is cut at a place, or is no longer
pub record IsCut (most : ℕ) (xs : List Entry) : Type 0 where
  pub front : List Entry
  pub rest : List Entry
  pub is : xs ≡ front ++ rest
  pub low : length front ≤ most
  pub ends : length front < most → rest ≡ []

pub cut : (most : ℕ) (xs : List Entry) → IsCut most xs
cut zero xs = record { front = []; rest = xs; is = refl; low = omega arith; ends = λ less. absurd (omega (arith, less)) }
cut (suc most) [] = record { front = []; rest = []; is = refl; low = omega arith; ends = λ less. refl }
cut (suc most) (x ∷ xs) =
    let c : IsCut most xs = cut most xs in
    record {
      front = x ∷ c.front;
      rest = c.rest;
      is = ap (λ (ys : List Entry). x ∷ ys) c.is;
      low = omega (arith, c.low);
      ends = λ less. c.ends (omega (arith, less));
    }

pub far_below : (n log : ℕ) → n ≤ 272 * log → log ≤ 65536 → n < 2 ^ 31
far_below n log short low = omega (arith, short, low)

room_front : (s : ScenarioLists) (past xs ys : List Entry) → MeetsNoFullLog s past (xs ++ ys) → MeetsNoFullLog s past xs
room_front s past xs ys room = each_front (λ (before : List Entry) (x : Entry). full_for s before x ≡ None) past xs ys room

-- entries that some turns add with room make a short history
short_of : (n : ℕ) (s : ScenarioLists) (past added later : List Entry) → IsOfRun s past → HasShortLogs s past → MeetsNoFullLog s past added →
    after_turns n s past ≡ Some ((past ++ added) ++ later) → IsShortHistory s (past ++ added)
short_of n s past added later run logs room e =
    let start : length past ≤ 272 * s.log = runs_are_short s past run logs in
    by_cut start (cut (2 ^ 31) added)
  where
    front_short : (front rest : List Entry) → added ≡ front ++ rest → length (past ++ front) ≤ 2 ^ 32 → IsShortHistory s (past ++ front)
    front_short front rest is low =
        let whole : (past ++ added) ++ later ≡ (past ++ front) ++ (rest ++ later) =
        ap (λ (xs : List Entry). (past ++ xs) ++ later) is ∙ (ap (λ (xs : List Entry). xs ++ later) (sym (append_assoc past front rest))
        ∙ append_assoc (past ++ front) rest later) in
        let h : IsHistory (layout_of s) (past ++ front) = begins n s past (past ++ front) (rest ++ later) run low (e
        ∙ ap (λ (xs : List Entry). Some xs) whole) in
        let all : HasShortLogs s (past ++ front) = room_keeps_logs s past front logs (room_front s past front rest
        (subst (λ (xs : List Entry). MeetsNoFullLog s past xs) is room)) in
        record { history = h; logs = all; short = runs_are_short s (past ++ front) (record { lawful = run.lawful; packet = run.packet; history = h }) all }

    by_cut : length past ≤ 272 * s.log → IsCut (2 ^ 31) added → IsShortHistory s (past ++ added)
    by_cut start c =
        let both : length (past ++ c.front) ≡ length past + length c.front = length-append past c.front in
        let first : length past < 2 ^ 31 = far_below (length past) s.log start run.lawful.settings.log.1 in
        let front : IsShortHistory s (past ++ c.front) = front_short c.front c.rest c.is (omega (arith, both, first, c.low)) in
        let few : length (past ++ c.front) < 2 ^ 31 = far_below (length (past ++ c.front)) s.log front.short run.lawful.settings.log.1 in
        let none : c.rest ≡ [] = c.ends (omega (arith, few, both)) in
        let same : c.front ≡ added = sym (c.is ∙ (ap (λ (xs : List Entry). c.front ++ xs) none ∙ append-nil c.front)) in
        subst (λ (xs : List Entry). IsShortHistory s (past ++ xs)) same front

pub cut_offs_are_short : CutOffsAreShort
cut_offs_are_short s past journal part run logs c =
    let d = c.drained in
    subst (λ (xs : List Entry). IsShortHistory s xs) (sym d.made)
    (short_of d.turns s past d.added (d.next ∷ d.later) run logs c.room (d.planned ∙ ap (λ (xs : List Entry). Some (xs ++ d.next ∷ d.later)) d.made))

pub drains_are_short : DrainsAreShort
drains_are_short s past journal run logs d =
    subst (λ (xs : List Entry). IsShortHistory s xs) (sym d.made)
    (short_of d.drained.0 s past d.added [] run logs d.room (d.drained.1.made ∙ ap (λ (xs : List Entry). Some xs) (d.made
    ∙ sym (append-nil (past ++ d.added)))))

pub none_is_refused : NoneIsRefused
none_is_refused s past journal condition run logs r =
    let d = r.drained in
    let k : IsShortHistory s (past ++ d.added) = short_of d.turns s past d.added (d.next ∷ d.later) run logs r.room (d.planned
    ∙ ap (λ (xs : List Entry). Some (xs ++ d.next ∷ d.later)) d.made) in
    let same : length journal ≡ length (past ++ d.added) = ap (λ (xs : List Entry). length xs) d.made in
    let few : length (past ++ d.added) < 2 ^ 31 = far_below (length (past ++ d.added)) s.log k.short run.lawful.settings.log.1 in
    drains_are_not_refused s past journal condition run (omega (arith, same, few)) r

-- ---- the empty phase

pub empty_is_good_phase : EmptyIsGoodPhase
empty_is_good_phase s =
    record {
      history = tt;
      is_phase =
          record {
            inside = refl;
            threads = each_of (λ (t : ThreadLine). 0 ≤ s.turns) s.threads (λ t. omega arith);
            interfaces = each_of (λ (node : NodeId). 0 ≤ s.turns) (nodes_of s) (λ node. omega arith);
            drivers = each_of (λ (node : NodeId). 0 ≤ s.turns) (nodes_of s) (λ node. omega arith);
            no_last = tt;
          };
      scripts = each_of (λ (t : ThreadLine). calls_of t.id [] ≡ take (length (calls_of t.id [])) (script_of s t.id)) s.threads (λ t. refl);
      in_order = tt;
      events = refl;
    }

pub no_logs : (s : ScenarioLists) → HasShortLogs s []
no_logs s part = omega arith

pub cut_off_runs_are_stopped : CutOffRunsAreStopped
cut_off_runs_are_stopped s journal part ok packet c =
    let run : IsOfRun s [] = record { lawful = ok; packet = packet; history = tt } in
    cut_off_is_stopped s [] journal part (empty_is_good_phase s) (cut_offs_are_short s [] journal part run (no_logs s) c).logs c

pub runs_are_whole : RunsAreWhole
runs_are_whole s journal ok packet short d = drains_make_runs s [] journal ok packet (empty_is_good_phase s) d short

pub runs_with_room_are_whole : RunsWithRoomAreWhole
runs_with_room_are_whole s journal ok packet d =
    let run : IsOfRun s [] = record { lawful = ok; packet = packet; history = tt } in
    let k = drains_are_short s [] journal run (no_logs s) d in
    let few : length journal < 2 ^ 31 = far_below (length journal) s.log k.short ok.settings.log.1 in
    runs_are_whole s journal ok packet (omega (arith, few)) d.drained
