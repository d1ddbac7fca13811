-- Each turn makes a history of a history.
use Rattle.std.proofs.Common.{◌<◌, ◌^◌, List, Some, None, length, subst, sym, ◌∙◌, ap, arith}
use Rattle.std.specs.Prelude.{fold, filter_map, option_map}
use Rattle.am_office_entries.specs.declared.Entry.{Entry}
use Rattle.am_scenario_types.specs.declared.parts.ScriptCall.{ScriptCall}
use Rattle.am_scenario_types.specs.Lists.{ScenarioLists}
use Rattle.am_model.specs.History.{IsHistory}
use Rattle.am_model_scripts.specs.Layout.{layout_of}
use Rattle.am_model_scripts.proofs.Lists.{some_mapped}
use Rattle.am_model_drain.specs.declared.Turn.{Turn}
use Rattle.am_model_drain.specs.declared.Turn.TheVariants.{Once, Make}
use Rattle.am_model_drain.specs.Drain.{after_turn}
use Rattle.am_model_drain.specs.Rules.{left_to, fewer, make_of}
use Rattle.am_model_drain.proofs.Turns.{IsTurnBy, Receives, TimesOut, PagesIn, Sends, Makes, Polls, turn_by, over_turns, turn_longer}
use Rattle.am_model_drain.proofs.TurnKinds.{Kind, Receipt, Plain, Call, kind_of}
use Rattle.am_model_drain.specs.Follows.{FollowsScripts}
use Rattle.am_laws_runs.proofs.Pending.{none_pending}
use Rattle.am_laws_runs.proofs.Soundness.{drains_follow}
use Rattle.am_laws_runs.specs.Turns.Runs.{DrainsMakeRuns}
use Rattle.am_laws_runs.specs.Turns.Enabled.{IsOfRun, TurnsMayFollow, DrainsMakeHistories}
use Rattle.am_laws_runs.proofs.Enabled.{MakesHistory, time_outs_may_follow, page_ins_may_follow, polls_may_follow}
use Rattle.am_laws_runs.proofs.Calls.{calls_may_follow}
use Rattle.am_laws_runs.proofs.Receipts.{receipts_may_follow}
use Rattle.am_laws_runs.proofs.Sends.{sends_may_follow}

make_follows : (s : ScenarioLists) (past : List Entry) (call : ScriptCall) → IsOfRun s past → Kind s past (Make call) → MakesHistory s past (Make call)
make_follows s past call run (Receipt event same due) = absurd (cc)
make_follows s past call run (Plain none plain) =
    let made = plain.no_call in absurd (cc)
make_follows s past call run (Call none due) = subst (λ (t : Turn). MakesHistory s past t) due.1 (calls_may_follow s past due.0 run due.2.left)

by_rule : (s : ScenarioLists) (past : List Entry) (t : Turn) → IsOfRun s past → length past < 2 ^ 32 → IsTurnBy s past t → MakesHistory s past t
by_rule s past t run short (Receives event r same) = receipts_may_follow s past t run short (ap (option_map Once) r ∙ ap (λ (u : Turn). Some u) same)
by_rule s past t run short (TimesOut r o) = time_outs_may_follow s past t run o
by_rule s past t run short (PagesIn r o p) = page_ins_may_follow s past t run p
by_rule s past t run short (Sends r o p q) = sends_may_follow s past t run o q
by_rule s past t run short (Makes r o p q c) =
    let found = some_mapped make_of (fold fewer None (filter_map (left_to s past) s.threads)) t c in
    let kind : Kind s past (Make found.0.call) = subst (λ (u : Turn). Kind s past u) (sym found.2) (kind_of s past t (Makes r o p q c)) in
    subst (λ (u : Turn). MakesHistory s past u) found.2 (make_follows s past found.0.call run kind)
by_rule s past t run short (Polls r o p q c l) = polls_may_follow s past t run p l

pub turns_may_follow : TurnsMayFollow
turns_may_follow s past t run short e = by_rule s past t run short (turn_by s past t e)

pub drains_make_histories : DrainsMakeHistories
drains_make_histories s past journal run (n, d) short =
    over_turns n s (λ (xs : List Entry). length xs < 2 ^ 32 → IsHistory (layout_of s) xs)
    (λ (xs : List Entry) (t : Turn) h rule low.
    let longer : length xs < length (after_turn s xs t) = turn_longer s xs t in
    let less : length xs < 2 ^ 32 = omega (arith, longer, low) in
    by_rule s xs t (record { lawful = run.lawful; packet = run.packet; history = h less }) less rule)
    past journal (λ low. run.history) d.made short

pub drains_make_runs : DrainsMakeRuns
drains_make_runs s phase journal ok packet good drained short =
    let h : IsHistory (layout_of s) journal = drains_make_histories s phase journal (record {
      lawful = ok;
      packet = packet;
      history = good.history;
    }) drained short in
    let follows : FollowsScripts s journal = drains_follow s phase journal ok good drained h in
    record { history = h; follows = follows; settled = λ m accepted. none_pending s journal ok h follows.rest m accepted }
