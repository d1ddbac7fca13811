-- What the calls of a round add to its script.
use Rattle.std.proofs.Common.{◌≡◌, ℕ, ◌+◌, Bool, ◌&&◌, ◌||◌, not, true, List, [], ◌∷◌, ◌++◌, refl, sym, ap, ◌∙◌, subst, arith, All}
use Rattle.std.specs.Prelude.{OnOk, Result}
use Rattle.std.specs.List.{list_all}
use Rattle.std.proofs.lemmas.List.Elements.{All-nil, All-push}
use Rattle.std.proofs.lemmas.Result.{on_ok_weaker}
use Rattle.am_lemmas.proofs.Numbers.{eqb_less}
use Rattle.am_names.specs.declared.Tag.{Tag}
use Rattle.am_names.specs.declared.Words.{Words}
use Rattle.am_office_entries.specs.declared.HandlerKind.TheVariants.{Add, Note}
use Rattle.am_office_entries.specs.declared.Call.{Call}
use Rattle.am_office_entries.specs.declared.Call.TheVariants as Calls
use Rattle.am_scenario_plan.specs.declared.plan.PlanLine.{PlanLine}
use Rattle.am_scenario_types.specs.declared.parts.ScriptCall.{ScriptCall}
use Rattle.am_scenario_types.specs.Lists.{ScenarioLists}
use Rattle.am_library_drafts.specs.declared.draft.DraftFault.{DraftFault}
use Rattle.am_library_drafts.specs.Drafts.{made, with_call, with_calls}
use Rattle.am_library_views.specs.Ends.{words_asked}
use Rattle.am_library.specs.Laws.{ScriptsGrow, is_adding, leads, leaves_adding}
use Rattle.am_example_reduce.specs.Rounds.{Asks, SendsSum, end_of, root}

-- four calls, each as it is
four : (s t : ScenarioLists) (a b c d v w x y : ScriptCall) → t ≡ with_calls s (a ∷ b ∷ c ∷ d ∷ []) → a ≡ v → b ≡ w → c ≡ x → d ≡ y →
    t ≡ with_calls s (v ∷ w ∷ x ∷ y ∷ [])
four s t a b c d v w x y is first second third last = is ∙ (λ i. with_calls s (first i ∷ second i ∷ third i ∷ last i ∷ []))

-- ---- a round that asks

pub asks_begin : (plan : List PlanLine) (s t : ScenarioLists) → s.script ≡ [] → s.plan ≡ plan →
    t ≡ with_call s (made 0 root (Calls.SetHandler 1 (Add 1))) → Asks plan [] t
asks_begin plan s t script planned next =
    let set : ScriptCall = made 0 root (Calls.SetHandler 1 (Add 1)) in
    subst (Asks plan []) (sym next)
    (record {
      plan' = planned;
      asked = ap (λ (calls : List ScriptCall). words_asked (calls ++ set ∷ [])) script;
      adds = ap (λ (calls : List ScriptCall). list_all (leaves_adding root) (calls ++ set ∷ [])) script;
      lead = ap (λ (calls : List ScriptCall). list_all (leads root) (calls ++ set ∷ [])) script;
    })

-- a call of another endpoint than the root leaves the root adding
other_adds : (thread node : ℕ) (call : Call) → leaves_adding root (made thread (end_of node) call) ≡ true
other_adds thread node call = ap (λ (b : Bool). not b || is_adding call) (eqb_less 0 (node + 1) (omega arith))

sent : (grow : ScriptsGrow) (plan : List PlanLine) (numbers : List Words) (node : ℕ) (tag : Tag) (words : Words) (s t : ScenarioLists)
    (a b c d : ScriptCall) → t ≡ with_calls s (a ∷ b ∷ c ∷ d ∷ []) → a ≡ made node (end_of node) (Calls.Map 0 root tag 1) →
    b ≡ made node (end_of node) (Calls.Request 0 1 words) → c ≡ made 0 root Calls.Poll → d ≡ made node (end_of node) Calls.Poll →
    Asks plan numbers s → Asks plan (numbers ++ words ∷ []) t
sent grow plan numbers node tag words s t a b c d is first second third last asks =
    let map' : Call = Calls.Map 0 root tag 1 in
    let request : Call = Calls.Request 0 1 words in
    let calls : List ScriptCall =
    made node (end_of node) map' ∷ made node (end_of node) request ∷ made 0 root Calls.Poll ∷ made node (end_of node) Calls.Poll ∷ [] in
    let more = grow s calls in
    let add : list_all (leaves_adding root) calls ≡ true =
    (λ i. other_adds node node map' i && (other_adds node node request i && (true && (other_adds node node Calls.Poll i && true)))) in
    subst (Asks plan (numbers ++ words ∷ []))
    (sym (four s t a b c d (made node (end_of node) map') (made node (end_of node) request) (made 0 root Calls.Poll) (made node (end_of node) Calls.Poll) is first second
    third last))
    (record {
      plan' = asks.plan';
      asked = more.asked ∙ ap (λ (ws : List Words). ws ++ words ∷ []) asks.asked;
      adds = more.adds root asks.adds add;
      lead = more.leads' root asks.lead refl;
    })

pub asks_sent : (grow : ScriptsGrow) (plan : List PlanLine) (numbers : List Words) (node : ℕ) (tag : Tag) (words : Words) (s t : ScenarioLists)
    (a b c d : ScriptCall) (r : Result (Unit {0}) DraftFault) → OnOk r (t ≡ with_calls s (a ∷ b ∷ c ∷ d ∷ [])) →
    a ≡ made node (end_of node) (Calls.Map 0 root tag 1) → b ≡ made node (end_of node) (Calls.Request 0 1 words) → c ≡ made 0 root Calls.Poll →
    d ≡ made node (end_of node) Calls.Poll → Asks plan numbers s → OnOk r (Asks plan (numbers ++ words ∷ []) t)
asks_sent grow plan numbers node tag words s t a b c d r is first second third last asks =
    on_ok_weaker r (λ (so : t ≡ with_calls s (a ∷ b ∷ c ∷ d ∷ [])). sent grow plan numbers node tag words s t a b c d so first second third last asks) is

-- ---- a round that tells

pub tells_begin : (plan : List PlanLine) (sum : ℕ) (s : ScenarioLists) → s.script ≡ [] → s.plan ≡ plan → SendsSum plan sum s
tells_begin plan sum s script planned = record {
  plan' = planned;
  told = subst (λ (calls : List ScriptCall). All (λ (w : Words). w.a ≡ sum) (words_asked calls)) (sym script) (All-nil (λ (w : Words). w.a ≡ sum));
}

pub tells_noted : (grow : ScriptsGrow) (plan : List PlanLine) (sum node : ℕ) (tag : Tag) (words : Words) (s t : ScenarioLists) (a b c d : ScriptCall) →
    words.a ≡ sum → t ≡ with_calls s (a ∷ b ∷ c ∷ d ∷ []) → a ≡ made node (end_of node) (Calls.SetHandler 1 Note) →
    b ≡ made 0 root (Calls.Map node (end_of node) tag 1) → c ≡ made 0 root (Calls.Request node 1 words) → d ≡ made node (end_of node) Calls.Poll →
    SendsSum plan sum s → SendsSum plan sum t
tells_noted grow plan sum node tag words s t a b c d same is first second third last tells =
    let set : ScriptCall = made node (end_of node) (Calls.SetHandler 1 Note) in
    let map' : ScriptCall = made 0 root (Calls.Map node (end_of node) tag 1) in
    let request : ScriptCall = made 0 root (Calls.Request node 1 words) in
    let poll : ScriptCall = made node (end_of node) Calls.Poll in
    subst (SendsSum plan sum) (sym (four s t a b c d set map' request poll is first second third last))
    (record {
      plan' = tells.plan';
      told = subst (λ (ws : List Words). All (λ (w : Words). w.a ≡ sum) ws) (sym (grow s (set ∷ map' ∷ request ∷ poll ∷ [])).asked)
          (All-push (λ (w : Words). w.a ≡ sum) (words_asked s.script) words tells.told same);
    })
