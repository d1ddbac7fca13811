-- Each turn of a drain leaves less work, so a drain ends by itself.
use Rattle.std.proofs.Common.{◌≡◌, ℕ, zero, suc, ◌<◌, ◌≤◌, ◌^◌, List, length, Option, Some, None, sym, ap, ◌∙◌, refl, subst, arith, length-append}
use Rattle.std.specs.Prelude.{fold, filter_map, option_map, option_and_then}
use Rattle.am_office_entries.specs.declared.Entry.{Entry}
use Rattle.am_scenario_types.specs.declared.parts.ScriptCall.{ScriptCall}
use Rattle.am_scenario_types.specs.Lists.{ScenarioLists}
use Rattle.am_model_scripts.proofs.Lists.{some_mapped}
use Rattle.am_model_drain.specs.declared.Turn.{Turn}
use Rattle.am_model_drain.specs.declared.Turn.TheVariants.{Once, Make}
use Rattle.am_model_drain.specs.Drain.{after_turn, after_turns}
use Rattle.am_model_drain.specs.Rules.{left_to, fewer, make_of, next_turn}
use Rattle.am_model_drain.proofs.Turns.{IsTurnBy, Receives, TimesOut, PagesIn, Sends, Makes, Polls, turn_by, turn_longer, turns_extend}
use Rattle.am_model_drain.proofs.TurnKinds.{Kind, Receipt, Plain, Call, kind_of}
use Rattle.am_laws_runs.specs.Turns.Endings.{EachTurnFalls}
use Rattle.am_laws_runs.specs.Turns.Enabled.{IsOfRun}
use Rattle.am_laws_runs.specs.Turns.Work.{work}
use Rattle.am_laws_runs.proofs.Falling.{page_ins_fall}
use Rattle.am_laws_runs.proofs.Turning.{turns_may_follow}
use Rattle.am_laws_runs.specs.Ends.Falls.{Falls, DrainsEnd}
use Rattle.am_laws_runs.proofs.TimeOuts.{time_outs_fall}
use Rattle.am_laws_runs.proofs.Receiving.{receipts_fall}
use Rattle.am_laws_runs.proofs.Sending.{sends_fall}
use Rattle.am_laws_runs.proofs.Calling.{calls_fall, polls_fall}

make_falls : (s : ScenarioLists) (past : List Entry) (call : ScriptCall) → IsOfRun s past → Kind s past (Make call) → Falls s past (Make call)
make_falls s past call run (Receipt event same due) = absurd (cc)
make_falls s past call run (Plain none plain) =
    let made = plain.no_call in absurd (cc)
make_falls s past call run (Call none due) = subst (λ (t : Turn). Falls s past t) due.1 (calls_fall s past due.0 run due.2.thread due.2.left)

pub by_rule : (s : ScenarioLists) (past : List Entry) (t : Turn) → IsOfRun s past → IsTurnBy s past t → Falls s past t
by_rule s past t run (Receives event r same) = receipts_fall s past t run (ap (option_map Once) r ∙ ap (λ (u : Turn). Some u) same)
by_rule s past t run (TimesOut r o) = time_outs_fall s past t run o
by_rule s past t run (PagesIn r o p) = page_ins_fall s past t run p
by_rule s past t run (Sends r o p q) = sends_fall s past t run o q
by_rule s past t run (Makes r o p q c) =
    let found = some_mapped make_of (fold fewer None (filter_map (left_to s past) s.threads)) t c in
    let kind : Kind s past (Make found.0.call) = subst (λ (u : Turn). Kind s past u) (sym found.2) (kind_of s past t (Makes r o p q c)) in
    subst (λ (u : Turn). Falls s past u) found.2 (make_falls s past found.0.call run kind)
by_rule s past t run (Polls r o p q c l) = polls_fall s past t run o q l

pub each_turn_falls : EachTurnFalls
each_turn_falls s past next run receipts short e =
    let found = some_mapped (after_turn s past) (next_turn s past) next e in
    subst (λ (xs : List Entry). work s xs < work s past) found.2 (by_rule s past found.0 run (turn_by s past found.0 found.1))

-- so many turns need as much work
turns_need : (s : ScenarioLists) (n : ℕ) (past journal : List Entry) → IsOfRun s past → after_turns n s past ≡ Some journal → length journal < 2 ^ 32 →
    n ≤ work s past
turns_need s zero past journal run e short = omega arith
turns_need s (suc n) past journal run e short = by_turn (next_turn s past) refl e (λ next run' rest. turns_need s n next journal run' rest short)
  where
    by_turn : (o : Option Turn) → next_turn s past ≡ o → option_and_then (after_turns n s) (option_map (after_turn s past) o) ≡ Some journal →
        ((next : List Entry) → IsOfRun s next → after_turns n s next ≡ Some journal → n ≤ work s next) → suc n ≤ work s past
    by_turn None is rest later = absurd (cc)
    by_turn (Some t) is rest later =
        let next : List Entry = after_turn s past t in
        let whole = turns_extend n s next journal rest in
        let longer : length past < length next = turn_longer s past t in
        let most : length next ≤ length journal = omega (arith, ap length whole.1, length-append next whole.0) in
        let run' : IsOfRun s next = record {
          lawful = run.lawful;
          packet = run.packet;
          history = turns_may_follow s past t run (omega (arith, longer, most, short)) is;
        } in
        omega (arith, by_rule s past t run (turn_by s past t is), later next run' rest)

pub drains_end : DrainsEnd
drains_end s past journal n run e short = turns_need s n past journal run e short
