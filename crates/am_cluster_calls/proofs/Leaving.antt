-- The call that is left to a thread is the one that its scenario names, and its numbers are in range.
use Rattle.std.specs.Prelude.{slice_get, option_map, IfSome}
use Rattle.std.proofs.Common.{◌≡◌, ℕ, true, List, [], ◌∷◌, map, Option, Some, None, refl, sym, ap, ◌∙◌}
use Rattle.am_lemmas.proofs.Lists.{slice_get-map_Some, Some-slice_get_map}
use Rattle.am_office_entries.specs.declared.Entry.{Entry}
use Rattle.am_model.specs.History.{is_in_range}
use Rattle.am_scenario_types.specs.declared.parts.ScriptCall.{ScriptCall}
use Rattle.am_scenario_types.specs.declared.parts.ThreadLine.{ThreadLine}
use Rattle.am_scenario_types.specs.Lawful as lawful
use Rattle.am_scenario_types.specs.Lists.{ScenarioLists}
use Rattle.am_model_scripts.specs.Layout.{layout_of}
use Rattle.am_model_scripts.specs.Scripts.{is_of_thread}
use Rattle.am_model_drain.specs.Rules.{Left, left_after, left_to}
use Rattle.am_laws_runs.proofs.Calls.{All-filter_at, call_is_in_range}
use Rattle.am_cluster_drainer.specs.declared.LeftCall.{LeftCall}
use Rattle.am_cluster_drainer.specs.Reads.{call_event, left_of}
use Rattle.am_cluster_calls.specs.Threads.{Scripted, left_in, scripted_of}

-- ---- what is left

map_twice : {X Y Z : Type 0} (f : X → Y) (g : Y → Z) (xs : List X) → map g (map f xs) ≡ map (λ x. g (f x)) xs
map_twice f g [] = refl
map_twice f g (x ∷ xs) = ap (λ l. g (f x) ∷ l) (map_twice f g xs)

pub left_read : (s : ScenarioLists) (past : List Entry) (all : List Scripted) (k : ℕ) (t : Scripted) → all ≡ map (scripted_of s past) s.threads →
    slice_get all k ≡ Some t → slice_get (map (left_to s past) s.threads) k ≡ Some (left_in t)
left_read s past all k t is h =
    ap (λ (l : List (Option Left)). slice_get l k) (sym (map_twice (scripted_of s past) left_in s.threads))
    ∙ slice_get-map_Some left_in (map (scripted_of s past) s.threads) k t (ap (λ (l : List Scripted). slice_get l k) (sym is) ∙ h)

-- a call that is left to a thread is in range
pub left_in_range : (s : ScenarioLists) (past : List Entry) (line : ThreadLine) (n : ℕ) (c : ScriptCall) → lawful.IsLawful s →
    slice_get (scripted_of s past line).calls n ≡ Some c → is_in_range (layout_of s) (call_event c) ≡ true
left_in_range s past line n c ok at =
    (call_is_in_range s c ok (All-filter_at (lawful.IsLawfulScriptCall s.ends s.threads (lawful.least_credits s.pool)) (is_of_thread line.id) s.script n c
    ok.script at)).0

pub left_ranged : (s : ScenarioLists) (past : List Entry) (all : List Scripted) (k : ℕ) (t : Scripted) (o : Option LeftCall) → lawful.IsLawful s →
    all ≡ map (scripted_of s past) s.threads → slice_get all k ≡ Some t → option_map left_of o ≡ left_in t →
    IfSome o (λ (l : LeftCall). is_in_range (layout_of s) (call_event l.call) ≡ true)
left_ranged s past all k t None ok is at told = tt
left_ranged s past all k t (Some l) ok is at told = by_call (slice_get t.calls t.made) refl told
  where
    line : (x : ThreadLine) × (slice_get s.threads k ≡ Some x) × (scripted_of s past x ≡ t)
    line = Some-slice_get_map (scripted_of s past) s.threads k t (ap (λ (ts : List Scripted). slice_get ts k) (sym is) ∙ at)

    by_call : (c : Option ScriptCall) → slice_get t.calls t.made ≡ c → Some (left_of l) ≡ left_after t.made c →
        is_in_range (layout_of s) (call_event l.call) ≡ true
    by_call None here h = absurd (cc)
    by_call (Some c) here h =
        let both : left_of l ≡ record { after = t.made; call = c } = cc in
        let same : l.call ≡ c = ap (λ (x : Left). x.call) both in
        let there : slice_get (scripted_of s past line.0).calls t.made ≡ Some c = ap (λ (x : Scripted). slice_get x.calls t.made) line.2 ∙ here in
        ap (λ (x : ScriptCall). is_in_range (layout_of s) (call_event x)) same ∙ left_in_range s past line.0 t.made c ok there
