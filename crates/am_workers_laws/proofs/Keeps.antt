-- A thread's entry keeps what its worker keeps.
use Rattle.std.specs.Prelude.{slice_get, drop}
use Rattle.std.specs.List.{filter, filter_map}
use Rattle.std.proofs.Common.{◌≡◌, ◌≢◌, ◌⊎◌, ⊎_elim, ℕ, ◌<◌, ◌≤◌, true, List, [], ◌∷◌, ◌++◌, length, Some, refl, sym, ap, ◌∙◌, subst, arith, append_assoc}
use Rattle.std.proofs.Common.{append-nil}
use Rattle.std.proofs.lemmas.List.{length_push}
use Rattle.std.proofs.lemmas.List.Elements.{filter-append, filter_map-append}
use Rattle.std.proofs.lemmas.Bool.{cases_eq}
use lib.Seq.{drop-append_seam}
use Rattle.am_office_entries.specs.declared.Entry.{Entry}
use Rattle.am_model.specs.History.{is_in_range}
use Rattle.am_model.specs.Layout.{AllAre}
use Rattle.am_model.proofs.Alls.{all_push}
use Rattle.am_model_merge.specs.Logs.{IsRising}
use Rattle.am_scenario_types.specs.declared.parts.ScriptCall.{ScriptCall}
use Rattle.am_model_scripts.specs.Follows.{is_by_thread}
use Rattle.am_model_scripts.specs.Scripts.{call_made, calls_of, is_of_thread}
use Rattle.am_model_scripts.specs.Layout.{layout_of}
use Rattle.am_places.specs.Rule.{Begins, inside_with, joined, known_at, tenure}
use Rattle.am_places.specs.declared.board.Known.{Known}
use Rattle.am_places.specs.declared.board.Tenure.{Tenure}
use Rattle.am_workers_laws.specs.Phases.Seats.{left_with}
use Rattle.am_workers_laws.specs.Phases.Then.{StandsAfter}
use Rattle.am_workers_laws.specs.Invariants.Keeps.{ThreadsGoOn}
use Rattle.am_workers_laws.specs.Invariants.Seats.{AreBorn, EndPass, seen_log}
use Rattle.am_workers_laws.specs.Invariants.Works.{IsThreadsThen}
use Rattle.am_workers_laws.proofs.Stands.{got_low, set_here, set_there, stays_keep}
use Rattle.am_workers_laws.proofs.Keeping.{joined_append}

pub all_within : (n m : ℕ) (xs : List Entry) → n ≤ m → AllAre (λ (y : Entry). y.stamp ≤ n) xs → AllAre (λ (y : Entry). y.stamp ≤ m) xs
all_within n m [] low h = tt
all_within n m (y ∷ ys) low h = (let less = h.0 in omega (arith, less, low), all_within n m ys low h.1)

pub rising_push : (n : ℕ) (xs : List Entry) (x : Entry) → IsRising xs → AllAre (λ (y : Entry). y.stamp ≤ n) xs → n < x.stamp → IsRising (xs ++ x ∷ [])
rising_push n [] x rising below later = (tt, tt)
rising_push n (y ∷ ys) x rising below later = (
  all_push (λ (z : Entry). y.stamp < z.stamp) ys x rising.0 (let less = below.0 in omega (arith, less, later)),
  rising_push n ys x rising.1 below.1 later,
)

calls_append : (t : ℕ) (xs ys : List Entry) → calls_of t (xs ++ ys) ≡ calls_of t xs ++ calls_of t ys
calls_append t xs ys =
    ap (filter (is_of_thread t)) (filter_map-append (λ (x : Entry). call_made x.event) xs ys)
    ∙ filter-append (is_of_thread t) (filter_map (λ (x : Entry). call_made x.event) xs) (filter_map (λ (x : Entry). call_made x.event) ys)

-- what stands in a log that has been left
pub left_log : (m : ℕ) (log : List (Tenure Entry)) (new : List Entry) →
    joined (log ++ tenure m (drop (length (joined log)) (joined log ++ new)) ∷ []) ≡ joined log ++ new
left_log m log new =
    joined_append log (tenure m (drop (length (joined log)) (joined log ++ new)) ∷ [])
    ∙ ap (λ (xs : List Entry). joined log ++ xs) (append-nil (drop (length (joined log)) (joined log ++ new)) ∙ drop-append_seam (joined log) new)

pub begins_then : (a b c : List Entry) → Begins a b → Begins b c → Begins a c
begins_then a b c h g = (g.0 ++ h.0, h.1 ∙ ap (λ (xs : List Entry). xs ++ h.0) g.1 ∙ append_assoc c g.0 h.0)

begins_joined : (ts us : List (Tenure Entry)) → Begins ts us → Begins (joined ts) (joined us)
begins_joined ts us h = (joined h.0, ap joined h.1 ∙ joined_append us h.0)

pub threads_go_on : ThreadsGoOn
threads_go_on s ids t turns next now clock k set place log v w x h step =
    record {
      made = h.made ++ x ∷ [];
      born = subst (AreBorn (layout_of s)) (sym step.stays.left.1) h.born;
      knows = stays_keep ids h.made (x ∷ []) k set place log v w h.knows step.only step.stays;
      guest = subst (λ (u : EndPass). u.mark ≢ u.seats) (sym step.stays.left.1) h.guest;
      clocked =
          record {
            rising = rising_push clock h.made x h.clocked.rising h.clocked.below step.later;
            below = all_push (λ (y : Entry). y.stamp ≤ x.stamp) h.made x (all_within clock x.stamp h.made (let less = step.later in
                omega (arith, less)) h.clocked.below) (omega arith);
            low = all_push _ h.made x h.clocked.low step.low;
          };
      own = all_push (λ (y : Entry). is_by_thread t y.event ≡ true) h.made x h.own step.own;
      few = (let few = h.few in let longer = length_push h.made x in omega (arith, few, longer));
      calls = calls_append t h.made (x ∷ []) ∙ ap (λ (cs : List ScriptCall). cs ++ calls_of t (x ∷ [])) h.calls ∙ sym step.calls;
      ranged = all_push (λ (y : Entry). is_in_range (layout_of s) y.event ≡ true) h.made x h.ranged step.ranged;
      right =
          λ logs seen.
          all_push (IsThreadsThen (layout_of s) logs) h.made x
          (h.right logs (λ j e at. begins_then (logs e) (seen_log j w) (seen_log j v) (seen j e at) (grown j)))
          (step.right logs (stands (logs set.id) (seen k set.id at_place)));
    }
  where
    at_place : slice_get ids k ≡ Some set.id
    at_place = h.knows.births k set step.stays.born

    low : k < length v.known
    low = subst (λ (n : ℕ). k < n) (sym h.knows.wide) (got_low ids k set.id at_place)

    after : Known Entry
    after = left_with v.mark (joined log ++ x ∷ []) place (inside_with step.stays.left.0 log (known_at k v))

    is_after : known_at k w ≡ left_with v.mark (joined log ++ x ∷ []) place (inside_with step.stays.left.0 log (known_at k v))
    is_after = ap (known_at k) step.stays.left.1 ∙ set_here v.known k (left_with v.mark (joined log ++ x ∷ []) place
        (inside_with step.stays.left.0 log (known_at k v))) low

    log_after : seen_log k w ≡ joined log ++ x ∷ []
    log_after = ap (λ (y : Known Entry). joined y.seen) is_after ∙ left_log v.mark log (x ∷ [])

    stands : (final : List Entry) → Begins final (seen_log k w) → StandsAfter final (joined log) x
    stands final b = (b.0, b.1 ∙ ap (λ (xs : List Entry). xs ++ b.0) log_after ∙ append_assoc (joined log) (x ∷ []) b.0)

    grown : (j : ℕ) → Begins (seen_log j w) (seen_log j v)
    grown j =
        ⊎_elim
        (λ (same : j ≡ k).
        subst (λ (n : ℕ). Begins (seen_log n w) (seen_log n v)) (sym same)
        (subst (λ (xs : List Entry). Begins xs (seen_log k v)) (sym log_after) (begins_then (joined log ++ x ∷ []) (joined log) (seen_log k v) (
          x ∷ [],
          refl,
        ) (begins_joined log (known_at k v).seen step.stays.begins))))
        (λ (other : j ≢ k). (
          [],
          ap (λ (u : EndPass). seen_log j u) step.stays.left.1
              ∙ ap (λ (y : Known Entry). joined y.seen) (set_there v.known k j (left_with v.mark (joined log ++ x ∷ []) place
              (inside_with step.stays.left.0 log (known_at k v))) other)
              ∙ sym (append-nil (seen_log j v)),
        ))
        (cases_eq j k)
