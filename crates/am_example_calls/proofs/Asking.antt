-- What a round asks for, call by call.
use Rattle.std.proofs.Common.{◌≡◌, ℕ, zero, suc, ◌+◌, ◌<◌, ◌≤◌, Bool, true, false, List, [], ◌∷◌, ◌++◌, refl, sym, ap, ◌∙◌, subst, ◌⊎◌, ⊎_elim, length, arith}
use Rattle.std.specs.Prelude.{OnOk, Result}
use Rattle.std.specs.List.{Contains, list_all}
use Rattle.std.proofs.lemmas.Bool.{cases_lt}
use Rattle.std.proofs.lemmas.List.{append-nil}
use Rattle.std.proofs.lemmas.List.Elements.{Contains-append_cases, Contains-append_left, Contains-append_right, Contains-push}
use Rattle.std.proofs.lemmas.Result.{on_ok_weaker}
use Rattle.am_names.specs.declared.EndpointId.{EndpointId}
use Rattle.am_names.specs.declared.Tag.{Tag}
use Rattle.am_names.specs.declared.Words.{Words}
use Rattle.am_office_entries.specs.declared.Call.TheVariants as Calls
use Rattle.am_office_entries.specs.declared.HandlerKind.TheVariants.{Echo}
use Rattle.am_scenario_plan.specs.declared.plan.PlanLine.{PlanLine}
use Rattle.am_scenario_types.specs.declared.parts.ScriptCall.{ScriptCall}
use Rattle.am_scenario_types.specs.Lists.{ScenarioLists}
use Rattle.am_library_drafts.specs.declared.draft.DraftFault.{DraftFault}
use Rattle.am_library_drafts.specs.Drafts.{made, started, with_calls, with_nodes, with_plans, with_setting}
use Rattle.am_library_drafts.specs.declared.draft.Setting.TheVariants as Set
use Rattle.am_library_views.specs.Ends.{words_asked}
use Rattle.am_library.specs.Laws.{ScriptsGrow, leads, leaves_echoing}
use Rattle.am_example_calls.specs.declared.answers.Answer.{Answer}
use Rattle.am_example_calls.specs.declared.answers.Answer.TheVariants.{Heard, Unheard, NeverRan}
use Rattle.am_example_calls.specs.Answers.{answer_at, is_heard}
use Rattle.am_example_calls.specs.Calls.{call_at}
use Rattle.am_example_calls.specs.Rounds.{Asks, AsksFor, IsSetUp, Serves, open_call, server}

abbrev pub client : EndpointId
client = record { 0 = 1 }

-- ---- some calls more

-- calls that leave the server as it is ask for their words too
asks_calls : ScriptsGrow → (s t : ScenarioLists) (calls : List ScriptCall) → list_all (leaves_echoing server) calls ≡ true →
    list_all (leads server) calls ≡ true → t ≡ with_calls s calls → Asks (words_asked calls) s t
asks_calls grow s t calls echo lead is =
    subst (Asks (words_asked calls) s) (sym is)
    (record {
      asked = (grow s calls).asked;
      serves = λ (serves : Serves s).
          record {
            echoes = (grow s calls).echoes server serves.echoes echo;
            leads = (grow s calls).leads' server serves.leads lead;
          };
      plan = refl;
    })

-- the client's request, the two polls of the server and the client's own
asks_four : ScriptsGrow → (call : Words) (s t : ScenarioLists) (a b c d : ScriptCall) → t ≡ with_calls s (a ∷ b ∷ c ∷ d ∷ []) →
    a ≡ made 1 client (Calls.Request 0 1 call) → b ≡ made 0 server Calls.Poll → c ≡ made 0 server Calls.Poll → d ≡ made 1 client Calls.Poll →
    Asks (call ∷ []) s t
asks_four grow call s t a b c d is first second third last =
    asks_calls grow s t
    (made 1 client (Calls.Request 0 1 call) ∷ made 0 server Calls.Poll ∷ made 0 server Calls.Poll ∷ made 1 client Calls.Poll ∷ []) refl refl
    (is ∙ (λ i. with_calls s (first i ∷ second i ∷ third i ∷ last i ∷ [])))

-- so where the calls may be refused, of a call that has no answer
pub asks_call : ScriptsGrow → (call : Words) (answer : Answer) (s t : ScenarioLists) (a b c d : ScriptCall) (r : Result (Unit {0}) DraftFault) →
    (answer ≡ Unheard) ⊎ (answer ≡ NeverRan) → OnOk r (t ≡ with_calls s (a ∷ b ∷ c ∷ d ∷ [])) → a ≡ made 1 client (Calls.Request 0 1 call) →
    b ≡ made 0 server Calls.Poll → c ≡ made 0 server Calls.Poll → d ≡ made 1 client Calls.Poll → OnOk r (Asks (open_call call answer) s t)
asks_call grow call answer s t a b c d r unheard is first second third last =
    let asked : open_call call answer ≡ call ∷ [] =
    ⊎_elim (λ (e : answer ≡ Unheard). ap (open_call call) e) (λ (e : answer ≡ NeverRan). ap (open_call call) e) unheard in
    on_ok_weaker r (λ (so : t ≡ with_calls s (a ∷ b ∷ c ∷ d ∷ [])).
    subst (λ (ws : List Words). Asks ws s t) (sym asked) (asks_four grow call s t a b c d so first second third last)) is

-- nothing more
pub asks_none_more : (s : ScenarioLists) → Asks [] s s
asks_none_more s = record { asked = sym (append-nil (words_asked s.script)); serves = λ (serves : Serves s). serves; plan = refl }

-- ---- the set-up

pub is_set_up : (tries turns nodes : ℕ) (tag other : Tag) (plan : List PlanLine) (s r a b p t : ScenarioLists) (x y : ScriptCall) → s ≡ started 2 →
    r ≡ with_setting s (Set.Tries tries) → a ≡ with_setting r (Set.Turns turns) → b ≡ with_nodes a tag nodes → p ≡ with_plans b plan →
    t ≡ with_calls p (x ∷ y ∷ []) → x ≡ made 0 server (Calls.SetHandler 1 (Echo 1)) → y ≡ made 1 client (Calls.Map 0 server other 8) → IsSetUp plan t
is_set_up tries turns nodes tag other plan s r a b p t x y is_s is_r is_a is_b is_p is_t is_x is_y =
    let set : ScriptCall = made 0 server (Calls.SetHandler 1 (Echo 1)) in
    let map' : ScriptCall = made 1 client (Calls.Map 0 server other 8) in
    let script : p.script ≡ [] =
    ap (λ (u : ScenarioLists). u.script) is_p ∙ ap (λ (u : ScenarioLists). u.script) is_b ∙ ap (λ (u : ScenarioLists). u.script) is_a
    ∙ ap (λ (u : ScenarioLists). u.script) is_r ∙ ap (λ (u : ScenarioLists). u.script) is_s in
    let unplanned : b.plan ≡ [] =
    ap (λ (u : ScenarioLists). u.plan) is_b ∙ ap (λ (u : ScenarioLists). u.plan) is_a ∙ ap (λ (u : ScenarioLists). u.plan) is_r
    ∙ ap (λ (u : ScenarioLists). u.plan) is_s in
    subst (IsSetUp plan) (sym (is_t ∙ (λ i. with_calls p (is_x i ∷ is_y i ∷ []))))
    (record {
      serves = record {
        echoes = ap (λ (calls : List ScriptCall). list_all (leaves_echoing server) (calls ++ set ∷ map' ∷ [])) script;
        leads = ap (λ (calls : List ScriptCall). list_all (leads server) (calls ++ set ∷ map' ∷ [])) script;
      };
      asked = ap (λ (calls : List ScriptCall). words_asked (calls ++ set ∷ map' ∷ [])) script;
      plan' = ap (λ (u : ScenarioLists). u.plan) is_p ∙ ap (λ (lines : List PlanLine). lines ++ plan) unplanned;
    })

-- ---- call after call

pub asks_none : (arguments : List ℕ) (answers : List Answer) (plan : List PlanLine) (s : ScenarioLists) → IsSetUp plan s →
    AsksFor arguments answers plan 0 s
asks_none arguments answers plan s is = record {
  serves = is.serves;
  plan' = is.plan';
  calls = λ (words : Words) (has : Contains (words_asked s.script) words). absurd (nothing words (subst (λ (l : List Words). Contains l words) is.asked has));
  open' = λ (token : ℕ) (below : token < 0) (unheard : is_heard (answer_at answers token) ≡ false). absurd (omega arith);
}
  where
    nothing : (w : Words) → Contains [] w → ⊥
    nothing w (k, below, at) = omega arith

only_word : (v w : Words) → Contains (v ∷ []) w → v ≡ w
only_word v w (zero, below, is) = is
only_word v w (suc k, below, is) = absurd (omega arith)

is_opened : (call w : Words) (answer : Answer) → Contains (open_call call answer) w → w ≡ call
is_opened call w (Heard words) (k, below, is) = absurd (omega arith)
is_opened call w Unheard has = sym (only_word call w has)
is_opened call w NeverRan has = sym (only_word call w has)

opens : (call : Words) (answer : Answer) → is_heard answer ≡ false → Contains (open_call call answer) call
opens call (Heard words) is = absurd (cc)
opens call Unheard is = Contains-push [] call
opens call NeverRan is = Contains-push [] call

pub asks_more : (arguments : List ℕ) (answers : List Answer) (plan : List PlanLine) (count : ℕ) (s t : ScenarioLists) → count < length arguments →
    AsksFor arguments answers plan count s → Asks (open_call (call_at arguments count) (answer_at answers count)) s t →
    AsksFor arguments answers plan (count + 1) t
asks_more arguments answers plan count s t below so_far asks =
    let opened : List Words = open_call (call_at arguments count) (answer_at answers count) in record {
      serves = asks.serves so_far.serves;
      plan' = asks.plan ∙ so_far.plan';
      calls = λ (words : Words) (has : Contains (words_asked t.script) words).
          ⊎_elim (λ (old : Contains (words_asked s.script) words). so_far.calls words old)
          (λ (now : Contains opened words). (count, below, is_opened (call_at arguments count) words (answer_at answers count) now))
          (Contains-append_cases (words_asked s.script) opened words (subst (λ (l : List Words). Contains l words) asks.asked has));
      open' = λ (token : ℕ) (under : token < count + 1) (unheard : is_heard (answer_at answers token) ≡ false).
          subst (λ (l : List Words). Contains l (call_at arguments token)) (sym asks.asked)
          (⊎_elim
          (λ (old : token < count). Contains-append_left (words_asked s.script) opened (call_at arguments token) (so_far.open' token old unheard))
          (λ (now : count ≤ token).
          let same : count ≡ token = omega arith in
          Contains-append_right (words_asked s.script) opened (call_at arguments token)
          (subst (λ (k : ℕ). Contains opened (call_at arguments k)) same
          (opens (call_at arguments count) (answer_at answers count)
          (subst (λ (k : ℕ). is_heard (answer_at answers k) ≡ false) (sym same) unheard))))
          (cases_lt token count));
    }
