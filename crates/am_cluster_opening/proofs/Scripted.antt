-- The threads of a node are declared, and the numbers of their calls are in range.
use Rattle.std.specs.Prelude.{slice_get, nat_lt, ◌&&◌, ◌==◌, ◌||◌, filter}
use Rattle.std.specs.List.{All, list_any}
use Rattle.std.proofs.Common.{◌≡◌, ℕ, zero, suc, ◌≤◌, Bool, true, false, cond, List, [], ◌∷◌, length, Some, refl, sym, ap, ◌∙◌, subst, arith, lt-ltb, eqb-true}
use Rattle.std.proofs.Common.{eq-eqb}
use Rattle.std.proofs.lemmas.List.Sums.{count_by-le-length, length-filter}
use Rattle.am_lemmas.proofs.Lists.{Some-slice_get_map}
use Rattle.am_names.specs.declared.NodeId.{NodeId}
use Rattle.am_names.specs.Names.{same_node}
use Rattle.am_office_entries.specs.declared.Actor.TheVariants.{Outside, Thread}
use Rattle.am_office_entries.specs.declared.Event.TheVariants as Events
use Rattle.am_model.specs.Layout.{declared}
use Rattle.am_model.specs.History.{is_in_range, is_call_in_range}
use Rattle.am_scenario_types.specs.declared.parts.ScriptCall.{ScriptCall}
use Rattle.am_scenario_types.specs.declared.parts.ThreadLine.{ThreadLine}
use Rattle.am_scenario_types.specs.Lawful as lawful
use Rattle.am_scenario_types.specs.Lists.{ScenarioLists}
use Rattle.am_model_scripts.specs.Layout.{layout_of}
use Rattle.am_model_scripts.proofs.Lawful.{event_in_range}
use Rattle.am_model_scripts.specs.Follows.{is_thread}
use Rattle.am_model_scripts.specs.Scripts.{is_of_thread, script_of}
use Rattle.am_model_scripts.proofs.Declared.{thread_below_64, is_on_declared}
use Rattle.am_workers.specs.Turns.Callers.{IsScript}
use Rattle.am_cluster_opening.specs.Node.Openings.{threads_of}
use Rattle.am_cluster_opening.proofs.Lists.{got_kept}

-- ---- a thread of the node is declared

any_at : {X : Type 0} (q : X → Bool) (xs : List X) (k : ℕ) (x : X) → slice_get xs k ≡ Some x → q x ≡ true → list_any q xs ≡ true
any_at q [] k x h is = absurd (cc)
any_at q (y ∷ xs) zero x h is = let same : y ≡ x = cc in ap (λ (b : Bool). b || list_any q xs) (ap q same ∙ is)
any_at q (y ∷ xs) (suc k) x h is = by_test (q y) (any_at q xs k x h is)
  where
    by_test : (b : Bool) → list_any q xs ≡ true → (b || list_any q xs) ≡ true
    by_test true more = refl
    by_test false more = more

pub is_declared : (s : ScenarioLists) (node : NodeId) (k id : ℕ) → slice_get (threads_of s node) k ≡ Some id → is_thread s id ≡ true
is_declared s node k id h =
    let line = Some-slice_get_map (λ (t : ThreadLine). t.id) (filter (λ (t : ThreadLine). same_node node t.node) s.threads) k id h in
    let among = got_kept (λ (t : ThreadLine). same_node node t.node) s.threads k line.0 line.1 in
    any_at (λ (t : ThreadLine). t.id == id) s.threads among.0 line.0 among.1 (eq-eqb line.0.id id line.2)

-- ---- its calls are in range

all_at : {X : Type 0} (P : X → Type 0) (q : X → Bool) (xs : List X) (k : ℕ) (x : X) → All P xs → slice_get (filter q xs) k ≡ Some x → P x × (q x ≡ true)
all_at P q [] k x all e = absurd (cc)
all_at P q (y ∷ ys) k x all e = by_test (q y) refl k e (λ j h. all_at P q ys j x (λ i d lt. all (suc i) d (omega (arith, lt))) h)
  where
    by_test : (b : Bool) → q y ≡ b → (j : ℕ) → slice_get (cond b (y ∷ filter q ys) (filter q ys)) j ≡ Some x →
        ((i : ℕ) → slice_get (filter q ys) i ≡ Some x → P x × (q x ≡ true)) → P x × (q x ≡ true)
    by_test true is zero h later =
        let same : y ≡ x = cc in
        (subst P same (all zero y (omega arith)), sym (ap q same) ∙ is)
    by_test true is (suc j) h later = later j h
    by_test false is j h later = later j h

module _ (s : ScenarioLists) (c : ScriptCall) (ok : lawful.IsLawful s) (k : lawful.IsLawfulScriptCall s.ends s.threads (lawful.least_credits s.pool) c) where
  known : lawful.IsDeclared s.ends c.endpoint
  known = is_on_declared s k.placed.0 c.endpoint k.placed.1.1

  low : nat_lt c.thread 64 ≡ true
  low = lt-ltb c.thread 64 (thread_below_64 s.threads c.thread k.placed.0 s ok.threads k.placed.1.0)

  call_in_range : is_in_range (layout_of s) (Events.Call (Thread c.thread) c.endpoint c.call) ≡ true
  call_in_range =
      let outside : is_in_range (layout_of s) (Events.Call Outside c.endpoint c.call) ≡ true =
      event_in_range s (Events.Call Outside c.endpoint c.call) (refl, known, k.call) in
      ap (λ (b : Bool). b && declared (layout_of s) c.endpoint && is_call_in_range (layout_of s) c.call) low ∙ outside

  want_in_range : is_in_range (layout_of s) (Events.Want (Thread c.thread) c.endpoint) ≡ true
  want_in_range =
      let outside : is_in_range (layout_of s) (Events.Want Outside c.endpoint) ≡ true = event_in_range s (Events.Want Outside c.endpoint) (refl, known) in
      ap (λ (b : Bool). b && declared (layout_of s) c.endpoint) low ∙ outside

module _ (s : ScenarioLists) (thread : ℕ) (ok : lawful.IsLawful s) where
  made_at : (k : ℕ) (c : ScriptCall) → slice_get (script_of s thread) k ≡ Some c →
      lawful.IsLawfulScriptCall s.ends s.threads (lawful.least_credits s.pool) c × (is_of_thread thread c ≡ true)
  made_at k c h = all_at (lawful.IsLawfulScriptCall s.ends s.threads (lawful.least_credits s.pool)) (is_of_thread thread) s.script k c ok.script h

  own_at : (k : ℕ) (c : ScriptCall) → slice_get (script_of s thread) k ≡ Some c → c.thread ≡ thread
  own_at k c h = sym (eqb-true thread c.thread (made_at k c h).1)

  pub is_script : IsScript s thread (script_of s thread)
  is_script =
      record {
        script = refl;
        own = own_at;
        called = λ k c h. subst (λ (t : ℕ). is_in_range (layout_of s) (Events.Call (Thread t) c.endpoint c.call) ≡ true) (own_at k c h)
            (call_in_range s c ok (made_at k c h).0);
        wanted = λ k c h. subst (λ (t : ℕ). is_in_range (layout_of s) (Events.Want (Thread t) c.endpoint) ≡ true) (own_at k c h)
            (want_in_range s c ok (made_at k c h).0);
      }

  pub is_short : length (script_of s thread) ≤ 65536
  is_short =
      let counted = length-filter (is_of_thread thread) s.script in
      let most = count_by-le-length (is_of_thread thread) s.script in
      let few = ok.script_calls in
      omega (arith, counted, most, few)
