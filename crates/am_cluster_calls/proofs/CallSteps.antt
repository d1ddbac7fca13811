-- What a loop over entries makes of the threads, entry by entry.
use Rattle.std.specs.Prelude.{slice_index_or}
use Rattle.std.specs.Borrow.{Bor}
use Rattle.std.proofs.Common.{◌≡◌, ℕ, ◌+◌, ◌*◌, ◌<◌, ◌≤◌, List, [], ◌∷◌, map, length, take, Option, None, refl, sym, ap, ◌∙◌, subst, arith}
use Rattle.std.proofs.lemmas.List.{length-take-le}
use Rattle.am_office_entries.specs.declared.Entry.{Entry}
use Rattle.am_office_entries.specs.Logged.Behind.{entries_behind}
use Rattle.am_office_entries.proofs.Entries.{behind_next, length_behind}
use Rattle.am_scenario_types.specs.declared.parts.ScriptCall.{ScriptCall}
use Rattle.am_scenario_types.specs.Lists.{ScenarioLists}
use Rattle.am_model_scripts.specs.Scripts.{call_made}
use Rattle.am_cluster_calls.specs.Threads.{AreSmall, Scripted, scripted_of, with_call_if}
use Rattle.am_cluster_calls.proofs.CallsGrowing.{called_after, made_small}

within : (xs : List (Bor Entry)) (i : ℕ) → i < length xs → i < length (entries_behind xs)
within xs i lt = let e = length_behind xs in omega (arith, e, lt)

none_counted : (ts : List Scripted) → ts ≡ map (with_call_if None) ts
none_counted [] = refl
none_counted (t ∷ ts) = ap (λ (l : List Scripted). t ∷ l) (none_counted ts)

pub uncalled : (o : Option ScriptCall) (ts : List Scripted) → o ≡ None → ts ≡ map (with_call_if o) ts
uncalled o ts is = subst (λ (c : Option ScriptCall). ts ≡ map (with_call_if c) ts) (sym is) (none_counted ts)

pub called_step : (s : ScenarioLists) (xs : List (Bor Entry)) (i : ℕ) (d : Bor Entry) (old new : List Scripted) → i < length xs →
    old ≡ map (scripted_of s (take i (entries_behind xs))) s.threads → new ≡ map (with_call_if (call_made (slice_index_or xs i d).now.event)) old →
    new ≡ map (scripted_of s (take (i + 1) (entries_behind xs))) s.threads
called_step s xs i d old new lt was is =
    called_after s (take i (entries_behind xs)) (slice_index_or xs i d).now (slice_index_or xs i d).now.event old new refl was is
    ∙ ap (λ (l : List Entry). map (scripted_of s l) s.threads) (sym (behind_next xs i d lt))

pub small_at : (s : ScenarioLists) (xs : List (Bor Entry)) (i : ℕ) (all : List Scripted) → i < length xs → length (entries_behind xs) ≤ 272 * s.log →
    s.log ≤ 65536 → all ≡ map (scripted_of s (take i (entries_behind xs))) s.threads → AreSmall all
small_at s xs i all lt short low is =
    made_small s (take i (entries_behind xs)) all is
    (let inside = within xs i lt in let few = length-take-le i (entries_behind xs) (omega (arith, inside)) in omega (arith, few, inside, short))
    low
