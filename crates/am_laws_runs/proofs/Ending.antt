-- A drain of a history with short logs comes to its end or to a full log, in at most as many turns as there is work.
use Rattle.std.proofs.Common.{◌≡◌, ◌⊎◌, inl, inr, ⊎_elim, ℕ, zero, suc, ◌*◌, ◌<◌, ◌≤◌, ◌^◌, List, [], ◌∷◌, ◌++◌, length, Option, Some, None, refl, sym, ap, ◌∙◌}
use Rattle.std.proofs.Common.{subst, arith, append_assoc, append-nil}
use Rattle.std.specs.Prelude.{option_and_then, option_map}
use Rattle.am_office_entries.specs.declared.Entry.{Entry}
use Rattle.am_office_entries.specs.declared.Part.{Part}
use Rattle.am_scenario_types.specs.Lists.{ScenarioLists}
use Rattle.am_model_drain.specs.declared.Turn.{Turn}
use Rattle.am_model_drain.specs.Cut.{full_for, MeetsNoFullLog}
use Rattle.am_model_drain.specs.Drain.{after_turn, after_turns}
use Rattle.am_model_drain.specs.Rules.{next_turn}
use Rattle.am_model_drain.proofs.Turns.{Extends, turn_by, turn_extends}
use Rattle.am_laws_runs.specs.Turns.Enabled.{IsOfRun}
use Rattle.am_laws_runs.specs.Turns.Work.{work}
use Rattle.am_laws_runs.proofs.Turning.{turns_may_follow}
use Rattle.am_laws_runs.specs.Drained.{HasShortLogs}
use Rattle.am_laws_runs.proofs.Drained.{far_below, no_logs, runs_are_short}
use Rattle.am_laws_runs.proofs.Logs.{room_keeps_logs}
use Rattle.am_laws_runs.specs.Ends.Falls.{ComesToFullLog, ComesToRest, DrainsComeToEnd, RunsComeToEnd}
use Rattle.am_laws_runs.proofs.EndTurns.{by_rule}

-- ---- entries with room, and the first that has none

-- entries with room, and then one that meets a full log
record MeetsFullLog (s : ScenarioLists) (past added : List Entry) : Type 0 where
  front : List Entry
  next : Entry
  later : List Entry
  part : Part
  is : added ≡ front ++ next ∷ later
  room : MeetsNoFullLog s past front
  full : full_for s (past ++ front) next ≡ Some part

first_full : (s : ScenarioLists) (past added : List Entry) → MeetsNoFullLog s past added ⊎ MeetsFullLog s past added
first_full s past [] = inl tt
first_full s past (x ∷ xs) = by_full (full_for s past x) refl (first_full s (past ++ x ∷ []) xs)
  where
    by_full : (o : Option Part) → full_for s past x ≡ o → MeetsNoFullLog s (past ++ x ∷ []) xs ⊎ MeetsFullLog s (past ++ x ∷ []) xs →
        MeetsNoFullLog s past (x ∷ xs) ⊎ MeetsFullLog s past (x ∷ xs)
    by_full (Some part) is later =
        inr (record {
          front = [];
          next = x;
          later = xs;
          part = part;
          is = refl;
          room = tt;
          full = ap (λ (ys : List Entry). full_for s ys x) (append-nil past)
              ∙ is;
        })
    by_full None is (inl room) = inl (is, room)
    by_full None is (inr m) =
        inr (record {
          front = x ∷ m.front;
          next = m.next;
          later = m.later;
          part = m.part;
          is = ap (λ (ys : List Entry). x ∷ ys) m.is;
          room = (is, m.room);
          full = ap (λ (ys : List Entry). full_for s ys m.next) (sym (append_assoc past (x ∷ []) m.front)) ∙ m.full;
        })

-- entries with room after entries with room
room_then : (s : ScenarioLists) (past xs ys : List Entry) → MeetsNoFullLog s past xs → MeetsNoFullLog s (past ++ xs) ys → MeetsNoFullLog s past (xs ++ ys)
room_then s past [] ys h k = subst (λ (b : List Entry). MeetsNoFullLog s b ys) (append-nil past) k
room_then s past (x ∷ xs) ys h k = (
  h.0,
  room_then s (past ++ x ∷ []) xs ys h.1 (subst (λ (b : List Entry). MeetsNoFullLog s b ys)
      (sym (append_assoc past (x ∷ []) xs)) k),
)

-- ---- one turn before what is to come

-- a turn whose entries have room
record TurnsWithRoom (s : ScenarioLists) (past next : List Entry) : Type 0 where
  added : List Entry
  made : next ≡ past ++ added
  room : MeetsNoFullLog s past added
  turn' : option_map (after_turn s past) (next_turn s past) ≡ Some next

turns_first : (n : ℕ) (s : ScenarioLists) (past next : List Entry) (o : Option (List Entry)) → option_map (after_turn s past) (next_turn s past) ≡ Some next →
    after_turns n s next ≡ o → after_turns (suc n) s past ≡ o
turns_first n s past next o first later = ap (option_and_then (after_turns n s)) first ∙ later

rest_after : (s : ScenarioLists) (past next : List Entry) (t : TurnsWithRoom s past next) (r : ComesToRest s next) → work s next < work s past →
    ComesToRest s past
rest_after s past next t r falls =
    let few = r.few in
    record {
      journal = r.journal;
      ends =
          record {
            drained = (
              suc r.ends.drained.0,
              record {
                made = turns_first r.ends.drained.0 s past next (Some r.journal) t.turn' r.ends.drained.1.made;
                ended = r.ends.drained.1.ended;
              },
            );
            added = t.added ++ r.ends.added;
            made = r.ends.made ∙ (ap (λ (xs : List Entry). xs ++ r.ends.added) t.made ∙ append_assoc past t.added r.ends.added);
            room = room_then s past t.added r.ends.added t.room (subst (λ (xs : List Entry). MeetsNoFullLog s xs r.ends.added) t.made r.ends.room);
          };
      few = omega (arith, few, falls);
    }

full_after : (s : ScenarioLists) (past next : List Entry) (t : TurnsWithRoom s past next) (f : ComesToFullLog s next) → work s next < work s past →
    ComesToFullLog s past
full_after s past next t f falls =
    let few = f.few in
    let d = f.ends.drained in
    record {
      part = f.part;
      journal = f.journal;
      ends =
          record {
            drained =
                record {
                  added = t.added ++ d.added;
                  next = d.next;
                  later = d.later;
                  turns = suc d.turns;
                  planned = turns_first d.turns s past next (Some (f.journal ++ d.next ∷ d.later)) t.turn' d.planned;
                  made = d.made ∙ (ap (λ (xs : List Entry). xs ++ d.added) t.made ∙ append_assoc past t.added d.added);
                };
            room = room_then s past t.added d.added t.room (subst (λ (xs : List Entry). MeetsNoFullLog s xs d.added) t.made f.ends.room);
            full = f.ends.full;
          };
      few = omega (arith, few, falls);
    }

-- a turn that has an entry which meets a full log
full_now : (s : ScenarioLists) (past next added : List Entry) → next ≡ past ++ added → option_map (after_turn s past) (next_turn s past) ≡ Some next →
    MeetsFullLog s past added → work s next < work s past → ComesToFullLog s past
full_now s past next added made first m falls =
    record {
      part = m.part;
      journal = past ++ m.front;
      ends =
          record {
            drained =
                record {
                  added = m.front;
                  next = m.next;
                  later = m.later;
                  turns = suc zero;
                  planned = turns_first zero s past next (Some ((past ++ m.front) ++ m.next ∷ m.later)) first (ap (λ (xs : List Entry). Some xs) (made
                      ∙ (ap (λ (xs : List Entry). past ++ xs) m.is ∙ sym (append_assoc past m.front (m.next ∷ m.later)))));
                  made = refl;
                };
            room = m.room;
            full = m.full;
          };
      few = omega (arith, falls);
    }

-- ---- the end

-- one turn, and then what the journal after it comes to
one_turn : (s : ScenarioLists) (past : List Entry) → IsOfRun s past → HasShortLogs s past →
    ((next : List Entry) → IsOfRun s next → HasShortLogs s next → work s next < work s past → ComesToRest s next ⊎ ComesToFullLog s next) →
    ComesToRest s past ⊎ ComesToFullLog s past
one_turn s past run logs later = by_turn (next_turn s past) refl
  where
    short : length past < 2 ^ 32
    short =
        let few : length past ≤ 272 * s.log = runs_are_short s past run logs in
        let less : length past < 2 ^ 31 = far_below (length past) s.log few run.lawful.settings.log.1 in
        omega (arith, less)

    by_turn : (o : Option Turn) → next_turn s past ≡ o → ComesToRest s past ⊎ ComesToFullLog s past
    by_turn None is =
        inl (record {
          journal = past;
          ends = record { drained = (zero, record { made = refl; ended = is }); added = []; made = sym (append-nil past); room = tt };
          few = omega arith;
        })
    by_turn (Some t) is =
        let next : List Entry = after_turn s past t in
        let run' : IsOfRun s next = record { lawful = run.lawful; packet = run.packet; history = turns_may_follow s past t run short is } in
        let falls : work s next < work s past = by_rule s past t run (turn_by s past t is) in
        let ex : Extends past next = turn_extends s past t in
        let first : option_map (after_turn s past) (next_turn s past) ≡ Some next = ap (option_map (after_turn s past)) is in
        ⊎_elim
        (λ (room : MeetsNoFullLog s past ex.0).
        let w : TurnsWithRoom s past next = record { added = ex.0; made = ex.1; room = room; turn' = first } in
        let logs' : HasShortLogs s next = subst (λ (xs : List Entry). HasShortLogs s xs) (sym ex.1) (room_keeps_logs s past ex.0 logs room) in
        ⊎_elim
        (λ (r : ComesToRest s next). inl (rest_after s past next w r falls))
        (λ (f : ComesToFullLog s next). inr (full_after s past next w f falls))
        (later next run' logs' falls))
        (λ (m : MeetsFullLog s past ex.0). inr (full_now s past next ex.0 ex.1 first m falls))
        (first_full s past ex.0)

ends_within : (most : ℕ) (s : ScenarioLists) (past : List Entry) → IsOfRun s past → HasShortLogs s past → work s past ≤ most →
    ComesToRest s past ⊎ ComesToFullLog s past
ends_within zero s past run logs low = one_turn s past run logs (λ next run' logs' falls. absurd (omega (arith, low, falls)))
ends_within (suc most) s past run logs low = one_turn s past run logs (λ next run' logs' falls. ends_within most s next run' logs' (omega (arith, low, falls)))

pub drains_come_to_end : DrainsComeToEnd
drains_come_to_end s past run logs = ends_within (work s past) s past run logs (omega arith)

pub runs_come_to_end : RunsComeToEnd
runs_come_to_end s lawful packet = drains_come_to_end s [] (record { lawful = lawful; packet = packet; history = tt }) (no_logs s)
