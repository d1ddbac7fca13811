-- Nothing speaks against what a round declares, nor against what its threads call.
use Rattle.std.proofs.Common.{◌≡◌, ℕ, zero, suc, ◌+◌, ◌*◌, ◌/◌, ◌%◌, ◌<◌, ◌≤◌, true, false, List, [], ◌∷◌, ◌++◌, length, drop, get_or, Option, Some, None}
use Rattle.std.proofs.Common.{refl, sym, ap, ◌∙◌, subst, arith, length-append, add-one}
use Rattle.std.specs.Prelude.{◌==◌, count_by, is_none, if◌then◌else◌}
use Rattle.std.specs.Option.{option_map}
use Rattle.std.proofs.lemmas.List.{drop_more, length_push}
use Rattle.std.proofs.lemmas.List.Sums.{sum_by_push, count_by-le-length}
use Rattle.std.proofs.lemmas.List.FromFn.{length-map-range_with_len}
use Rattle.am_lemmas.proofs.Numbers.{eqb_less}
use Rattle.am_lemmas.proofs.Numbered.{lines_more, key_finds}
use Rattle.am_names.specs.declared.EndpointId.{EndpointId}
use Rattle.am_names.specs.declared.NodeId.{NodeId}
use Rattle.am_office_entries.specs.declared.Call.{Call}
use Rattle.am_scenario_types.specs.declared.parts.EndLine.{EndLine}
use Rattle.am_scenario_types.specs.declared.parts.ThreadLine.{ThreadLine}
use Rattle.am_scenario_types.specs.declared.parts.ScriptCall.{ScriptCall}
use Rattle.am_scenario_types.specs.Lawful.{IsOn, node_of, thread_node}
use Rattle.am_scenario_types.specs.Lists.{ScenarioLists}
use Rattle.am_library_drafts.specs.Drafts.{call_fault, end_fault, is_good_call, names_nothing, node_numbered, thread_fault, with_calls, with_end, with_thread}
use Rattle.am_library_drafts.proofs.Welcome.{calls, ends, threads}
use Rattle.am_job.specs.declared.words.codes.CodedWord.{CodedWord}
use Rattle.am_job.specs.Ready.{IsReady}
use Rattle.am_job.specs.Rounds.{end_line, round_size, scenario, scripted, thread_line}
use Rattle.am_job.specs.Scripts.{map_to, on_owner, on_sender, script, sending, sendings}
use Rattle.am_job.proofs.Below.{ends_below, threads_below}
use Rattle.am_job.proofs.More.{send_all, send_more, sendings_cons}
use Rattle.am_job.proofs.Sizes.{few_calls}

-- ---- endpoints

abbrev pub with_ends : ScenarioLists → ℕ → ScenarioLists
with_ends s n = record s { ends = ends_below n }

pub no_ends : (s : ScenarioLists) → s.ends ≡ [] → s ≡ with_ends s 0
no_ends s none = λ i. record s { ends = none i }

pub end_welcome : (w id : ℕ) (s t : ScenarioLists) → w ≤ 8 → id < 2 * w → s.nodes ≡ w → t ≡ with_ends s id → end_fault t (node_numbered (id / 2)) ≡ None
end_welcome w id s t few less nodes so_far =
    subst (λ (d : ScenarioLists). end_fault d (node_numbered (id / 2)) ≡ None) (sym so_far)
    (ends (with_ends s id) (node_numbered (id / 2)) (omega (arith, less, nodes)) (omega (arith, few, less, length-map-range_with_len end_line 0 id))
    (omega (
      arith,
      few,
      less,
      count_by-le-length (λ (end : EndLine). end.node.0 == id / 2) (ends_below id),
      length-map-range_with_len end_line 0 id,
    )))

pub end_more : (id : ℕ) (s t u : ScenarioLists) → t ≡ with_ends s id → u ≡ with_end t (node_numbered (id / 2)) (record { 0 = 100 + id }) →
    u ≡ with_ends s (id + 1)
end_more id s t u so_far put =
    put
    ∙ ap (λ (d : ScenarioLists). with_end d (node_numbered (id / 2)) (record { 0 = 100 + id })) so_far
    ∙ (λ i. record s {
      ends = ends_below id ++ (record {
        id = record { 0 = length-map-range_with_len end_line 0 id i };
        node = node_numbered (id / 2);
        tag = record { 0 = 100 + id };
        disk = false;
      }) ∷ [];
    })
    ∙ (λ i. record s { ends = sym (lines_more end_line id) i })

-- ---- threads

abbrev pub with_threads : ScenarioLists → ℕ → ScenarioLists
with_threads s n = record s { threads = threads_below n }

pub no_threads : (s : ScenarioLists) → s.threads ≡ [] → s ≡ with_threads s 0
no_threads s none = λ i. record s { threads = none i }

counted : (node n : ℕ) → count_by (λ thread. thread.node.0 == node) (threads_below (n + 1)) ≡ count_by (λ thread. thread.node.0 ==
    node) (threads_below n) + (if n == node then 1 else 0)
counted node n =
    ap (λ (threads : List ThreadLine). count_by (λ thread. thread.node.0 == node) threads) (lines_more thread_line n)
    ∙ sum_by_push (λ thread. if thread.node.0 == node then 1 else 0) (threads_below n) (thread_line n)

none_yet : (node n : ℕ) → n ≤ node → count_by (λ thread. thread.node.0 == node) (threads_below n) ≡ 0
none_yet node zero before = refl
none_yet node (suc n) before =
    let other : (n == node) ≡ false = eqb_less n node (omega arith) in
    subst (λ (k : ℕ). count_by (λ thread. thread.node.0 == node) (threads_below k) ≡ 0) (add-one n)
    (counted node n ∙ rw other (omega (arith, none_yet node n (omega arith))))

pub thread_welcome : (w node : ℕ) (s t : ScenarioLists) → w ≤ 8 → node < w → s.nodes ≡ w → t ≡ with_threads s node → thread_fault t (node_numbered node) ≡ None
thread_welcome w node s t few less nodes so_far =
    subst (λ (d : ScenarioLists). thread_fault d (node_numbered node) ≡ None) (sym so_far)
    (threads (with_threads s node) (node_numbered node) (omega (arith, less, nodes))
    (omega (arith, few, less, length-map-range_with_len thread_line 0 node)) (omega (arith, none_yet node node (omega arith))))

pub thread_more : (node : ℕ) (s t u : ScenarioLists) → t ≡ with_threads s node → u ≡ with_thread t (node_numbered node) → u ≡ with_threads s (node + 1)
thread_more node s t u so_far put =
    put
    ∙ ap (λ (d : ScenarioLists). with_thread d (node_numbered node)) so_far
    ∙ (λ i. record s { threads = threads_below node ++ (record { id = length-map-range_with_len thread_line 0 node i; node = node_numbered node }) ∷ [] })
    ∙ (λ i. record s { threads = sym (lines_more thread_line node) i })

-- ---- what is declared is there

pub end_there : (id : EndpointId) (n : ℕ) → id.0 < n → IsOn (ends_below n) (record { 0 = id.0 / 2 }) id
end_there id n less = ap (λ (o : Option EndLine). option_map (λ end. end.node) o) (key_finds end_line (λ end. end.id.0) (λ k. refl) n id.0 less)

pub thread_there : (id n : ℕ) → id < n → thread_node (threads_below n) id ≡ Some (record { 0 = id })
thread_there id n less = ap (λ (o : Option ThreadLine). option_map (λ thread. thread.node) o)
    (key_finds thread_line (λ thread. thread.id) (λ k. refl) n id less)

-- ---- calls

-- a thread's call on an endpoint of its node
a_call : (w : ℕ) (s : ScenarioLists) (made : ScriptCall) → IsReady w (made ∷ []) s → made.thread < w → made.endpoint.0 / 2 ≡ made.thread →
    made.endpoint.0 < 2 * w → names_nothing s.ends made.call ≡ false → is_good_call made.call ≡ true → call_fault s made ≡ None
a_call w s made ready t same e names numbers =
    let on : IsOn (ends_below (2 * w)) (record { 0 = made.thread }) made.endpoint =
    subst (λ (k : ℕ). IsOn (ends_below (2 * w)) (record { 0 = k }) made.endpoint) same (end_there made.endpoint (2 * w) e) in
    calls s made (record {
      node = record { 0 = made.thread };
      thread = subst (λ (l : List ThreadLine). thread_node l made.thread ≡ Some (record { 0 = made.thread })) (sym ready.threads)
          (thread_there made.thread w t);
      endpoint = subst (λ (l : List EndLine). IsOn l (record { 0 = made.thread }) made.endpoint) (sym ready.ends) on;
      names = names;
      numbers = numbers;
      room = omega (arith, ready.room, length_push s.script made);
    })

pub owners_call : (w n : ℕ) (call : Call) (s : ScenarioLists) → n < w → IsReady w (on_owner n call ∷ []) s → names_nothing s.ends call ≡ false →
    is_good_call call ≡ true → call_fault s (on_owner n call) ≡ None
owners_call w n call s t ready names numbers = a_call w s (on_owner n call) ready t (omega arith) (omega (arith, t)) names numbers

pub senders_call : (w n : ℕ) (call : Call) (s : ScenarioLists) → n < w → IsReady w (on_sender n call ∷ []) s → names_nothing s.ends call ≡ false →
    is_good_call call ≡ true → call_fault s (on_sender n call) ≡ None
senders_call w n call s t ready names numbers = a_call w s (on_sender n call) ready t (omega arith) (omega (arith, t)) names numbers

pub a_map : (w n k : ℕ) (s : ScenarioLists) → n < w → k < w → IsReady w (on_sender n (map_to k) ∷ []) s → call_fault s (on_sender n (map_to k)) ≡ None
a_map w n k s t below ready =
    let there : node_of (ends_below (2 * w)) (record { 0 = 2 * k + 1 }) ≡ Some (record { 0 = (2 * k + 1) / 2 }) =
    end_there (record { 0 = 2 * k + 1 }) (2 * w) (omega (arith, below)) in
    senders_call w n (map_to k) s t ready
    (subst (λ (l : List EndLine). is_none (node_of l (record { 0 = 2 * k + 1 })) ≡ false) (sym ready.ends) (ap (λ (o : Option NodeId). is_none o) there)) refl

-- ---- a draft is ready for the rest

pub ready_for : (w : ℕ) (s t : ScenarioLists) (all before rest : List ScriptCall) → length before + length rest ≤ length all → IsReady w all s →
    t ≡ with_calls s before → IsReady w rest t
ready_for w s t all before rest few ready is =
    subst (λ (d : ScenarioLists). IsReady w rest d) (sym is) (record {
      ends = ready.ends;
      threads = ready.threads;
      room = omega (
        arith,
        few,
        ready.room,
        length-append (s.script ++ before) rest,
        length-append s.script before,
        length-append s.script all,
      );
    })

pub ready_at : (w : ℕ) (words : List CodedWord) (s : ScenarioLists) (turns : ℕ) → w ≤ 8 → length words ≤ round_size w → s ≡ scripted w turns [] →
    IsReady w (script w words) s
ready_at w words s turns few size is =
    subst (λ (d : ScenarioLists). IsReady w (script w words) d) (sym is) (record { ends = refl; threads = refl; room = few_calls w words few size })

-- a draft that is ready for some calls is ready for the first of them
pub ready_first : (w : ℕ) (s : ScenarioLists) (all first : List ScriptCall) → length first ≤ length all → IsReady w all s → IsReady w first s
ready_first w s all first few ready = record {
  ends = ready.ends;
  threads = ready.threads;
  room = omega (arith, few, ready.room, length-append s.script first, length-append s.script all);
}

-- ---- the whole

pub scenario_is : (w turns : ℕ) (words : List CodedWord) (s t : ScenarioLists) → s ≡ scripted w turns [] → t ≡ with_calls s (script w words) →
    t ≡ scenario w turns words
unfolding scenario
scenario_is w turns words s t opened made = made ∙ ap (λ (d : ScenarioLists). with_calls d (script w words)) opened

-- ---- word by word

-- before the word at a place: the calls of the words before it stand in the draft, and those of the others are still to come
pub record IsSending (w : ℕ) (words : List CodedWord) (start : ScenarioLists) (i : ℕ) (now : ScenarioLists) : Type 0 where
  pub same : now ≡ record start { script = now.script }
  pub sent : now.script ++ sendings w i (drop i words) ≡ start.script ++ sendings w 0 words

pub sending_none : (w : ℕ) (words : List CodedWord) (start : ScenarioLists) → IsSending w words start 0 start
sending_none w words start = record { same = refl; sent = refl }

pub ready_next : (w i : ℕ) (words : List CodedWord) (start now : ScenarioLists) (d : CodedWord) (n : ℕ) → i < length words → n ≡ i % w →
    IsReady w (sendings w 0 words) start → IsSending w words start i now → IsReady w (sending w n (get_or words i d)) now
ready_next w i words start now d n below is ready s =
    let word : CodedWord = get_or words i d in
    let rest : List ScriptCall = sendings w (i + 1) (drop (i + 1) words) in
    let next : sendings w i (drop i words) ≡ sending w n word ++ rest =
    ap (λ (l : List CodedWord). sendings w i l) (drop_more words i d below)
    ∙ sendings_cons w i word (drop (i + 1) words)
    ∙ ap (λ (k : ℕ). sending w k word ++ rest) (sym is) in
    record {
      ends = ap (λ (t : ScenarioLists). t.ends) s.same ∙ ready.ends;
      threads = ap (λ (t : ScenarioLists). t.threads) s.same ∙ ready.threads;
      room = omega (
        arith,
        ready.room,
        length-append now.script (sending w n word),
        length-append now.script (sendings w i (drop i words)),
        length-append (sending w n word) rest,
        ap (λ (l : List ScriptCall). length l) next,
        ap (λ (l : List ScriptCall). length l) s.sent,
      );
    }

pub sending_more : (w i : ℕ) (words : List CodedWord) (start was now : ScenarioLists) (d : CodedWord) (n : ℕ) → i < length words → n ≡ i % w →
    now ≡ with_calls was (sending w n (get_or words i d)) → IsSending w words start i was → IsSending w words start (i + 1) now
sending_more w i words start was now d n below is put s = record {
  same = put ∙ (λ j. record (s.same j) { script = ap (λ (t : ScenarioLists). t.script) (sym put) j });
  sent = send_more w i start.script was.script now.script words d n below is (ap (λ (t : ScenarioLists). t.script) put) s.sent;
}

pub sending_all : (w i : ℕ) (words : List CodedWord) (start now : ScenarioLists) → length words ≤ i → IsSending w words start i now →
    now ≡ with_calls start (sendings w 0 words)
sending_all w i words start now past s =
    s.same ∙ (λ j. record start { script = send_all w i start.script now.script words past s.sent j })
