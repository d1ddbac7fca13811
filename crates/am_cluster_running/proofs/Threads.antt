-- No two workers have one thread.
use Rattle.std.specs.Prelude.{slice_get, slice_index_or}
use Rattle.std.specs.List.{AllPairs, filter}
use Rattle.std.specs.Option.{option_map}
use Rattle.std.proofs.Common.{◌≡◌, ◌≢◌, ◌⊎◌, inl, inr, ⊎_elim, ℕ, zero, suc, ◌<◌, ◌==◌, Bool, true, false, cond, List, [], ◌∷◌, length, Some, refl, sym, ap}
use Rattle.std.proofs.Common.{◌∙◌, subst, arith, eqb-true, eq-eqb, true≢false}
use Rattle.std.proofs.lemmas.Option.{same_Some, slice_get-map}
use Rattle.am_model.specs.Layout.{AllAre, node_at}
use Rattle.am_machine.proofs.PartLogs.{got_mapped}
use Rattle.am_scenario_types.specs.declared.parts.ThreadLine.{ThreadLine}
use Rattle.am_scenario_types.specs.Lists.{ScenarioLists}
use Rattle.am_workers_laws.proofs.Passes.{IsIn, all_in}
use Rattle.am_workers_laws.proofs.EndsDone.{in_got, in_parts, in_first, in_last}
use Rattle.am_workers_laws.proofs.HomesDone.{got_in}
use Rattle.am_cluster_running.specs.Uniting.Teams.{AreTeams, Team, TeamThread, all_threads, is_on, made_among, number_of_line, thread_of}

-- ---- the lines of threads

abbrev Rise : List ThreadLine → Type 0
Rise [] = Unit {0}
Rise (x ∷ xs) = AllAre (λ (y : ThreadLine). x.id < y.id) xs × Rise xs

above_first : (x : ThreadLine) (xs : List ThreadLine) → ((k : ℕ) (d : ThreadLine) → k < length xs → x.id < (slice_index_or xs k d).id) →
    AllAre (λ (y : ThreadLine). x.id < y.id) xs
above_first x [] h = tt
above_first x (y ∷ ys) h = (h 0 y (omega arith), above_first x ys (λ k d less. h (suc k) d (omega (arith, less))))

rise : (xs : List ThreadLine) → AllPairs (λ (a b : ThreadLine). a.id < b.id) xs → Rise xs
rise [] h = tt
rise (x ∷ xs) h = (
  above_first x xs (λ k d less. h 0 (suc k) d (omega arith) (omega (arith, less))),
  rise xs (λ i j d less short. h (suc i) (suc j) d (omega (arith, less)) (omega (arith, short))),
)

in_filter : (p : ThreadLine → Bool) (xs : List ThreadLine) (z : ThreadLine) → IsIn (filter p xs) z → IsIn xs z
in_filter p [] z h = absurd h
in_filter p (x ∷ xs) z h = by_test (p x) h (in_filter p xs z)
  where
    by_test : (b : Bool) → IsIn (cond b (x ∷ filter p xs) (filter p xs)) z → (IsIn (filter p xs) z → IsIn xs z) → IsIn (x ∷ xs) z
    by_test true g more = ⊎_elim (λ (here : x ≡ z). inl here) (λ (there : IsIn (filter p xs) z). inr (more there)) g
    by_test false g more = inr (more g)

-- the first line is no later one
not_later : (p : ThreadLine → Bool) (x : ThreadLine) (xs : List ThreadLine) (k : ℕ) (l : ThreadLine) → AllAre (λ (y : ThreadLine). x.id < y.id) xs →
    slice_get (filter p xs) k ≡ Some l → x.id ≡ l.id → ⊥
not_later p x xs k l above at same =
    let less = all_in (λ (y : ThreadLine). x.id < y.id) xs l above (in_filter p xs l (got_in (filter p xs) k l at)) in
    absurd (omega (arith, less, same))

lines_apart : (j k : ℕ) (xs : List ThreadLine) (a b : ℕ) (l m : ThreadLine) → Rise xs → slice_get (filter (is_on (node_at j)) xs) a ≡ Some l →
    slice_get (filter (is_on (node_at k)) xs) b ≡ Some m → l.id ≡ m.id → (j ≡ k) × (a ≡ b)
lines_apart j k [] a b l m rising at_l at_m same = absurd (cc)
lines_apart j k (x ∷ xs) a b l m rising at_l at_m same =
    by_tests (j == x.node.0) (k == x.node.0) a b refl refl at_l at_m (λ c d g h. lines_apart j k xs c d l m rising.1 g h same)
  where
    P : ThreadLine → Bool
    P = is_on (node_at j)

    Q : ThreadLine → Bool
    Q = is_on (node_at k)

    is_first : (y z : ThreadLine) → Some y ≡ Some z → y.id ≡ z.id
    is_first y z h = ap (λ (u : ThreadLine). u.id) (same_Some y z h)

    by_tests : (t u : Bool) (c d : ℕ) → (j == x.node.0) ≡ t → (k == x.node.0) ≡ u → slice_get (cond t (x ∷ filter P xs) (filter P xs)) c ≡ Some l →
        slice_get (cond u (x ∷ filter Q xs) (filter Q xs)) d ≡ Some m
        → ((e f : ℕ) → slice_get (filter P xs) e ≡ Some l → slice_get (filter Q xs) f ≡ Some m → (j ≡ k) × (e ≡ f)) → (j ≡ k) × (c ≡ d)
    by_tests true true zero zero on_j on_k g h more = (eqb-true j x.node.0 on_j ∙ sym (eqb-true k x.node.0 on_k), refl)
    by_tests true true zero (suc d) on_j on_k g h more = absurd (not_later Q x xs d m rising.0 h (is_first x l g ∙ same))
    by_tests true true (suc c) zero on_j on_k g h more = absurd (not_later P x xs c l rising.0 g (is_first x m h ∙ sym same))
    by_tests true true (suc c) (suc d) on_j on_k g h more = let r = more c d g h in (r.0, ap suc r.1)
    by_tests true false zero d on_j on_k g h more = absurd (not_later Q x xs d m rising.0 h (is_first x l g ∙ same))
    by_tests true false (suc c) d on_j on_k g h more = absurd (true≢false (sym on_j ∙ ap (λ (n : ℕ). n == x.node.0) (more c d g h).0 ∙ on_k))
    by_tests false true c zero on_j on_k g h more = absurd (not_later P x xs c l rising.0 g (is_first x m h ∙ sym same))
    by_tests false true c (suc d) on_j on_k g h more = absurd (true≢false (sym on_k ∙ ap (λ (n : ℕ). n == x.node.0) (sym (more c d g h).0) ∙ on_j))
    by_tests false false c d on_j on_k g h more = more c d g h

-- ---- the threads of all teams

-- where a thread is
pub record IsInTeam (teams : List Team) (w : TeamThread) : Type 0 where
  pub place : ℕ
  pub team : Team
  pub seat : ℕ
  pub at : slice_get teams place ≡ Some team
  pub there : slice_get team.threads seat ≡ Some w

pub in_team : (teams : List Team) (w : TeamThread) → IsIn (all_threads teams) w → IsInTeam teams w
in_team [] w h = absurd h
in_team (t ∷ ts) w h =
    ⊎_elim (λ (here : IsIn t.threads w). (let p = in_got t.threads w here in record { place = 0; team = t; seat = p.place; at = refl; there = p.at }))
    (λ (more : IsIn (all_threads ts) w). (let m = in_team ts w more in record {
      place = suc m.place;
      team = m.team;
      seat = m.seat;
      at = m.at;
      there = m.there;
    }))
    (in_parts t.threads (all_threads ts) w h)

from_team : (teams : List Team) (w : TeamThread) (p : IsInTeam teams w) → IsIn (all_threads teams) w
from_team teams w p = at teams p.place p.at
  where
    at : (ts : List Team) (k : ℕ) → slice_get ts k ≡ Some p.team → IsIn (all_threads ts) w
    at [] k is = absurd (cc)
    at (t ∷ ts) zero is =
        let here : t ≡ p.team = cc in
        in_first t.threads (all_threads ts) w (subst (λ (u : Team). IsIn u.threads w) (sym here) (got_in p.team.threads p.seat w p.there))
    at (t ∷ ts) (suc k) is = in_last t.threads (all_threads ts) w (at ts k is)

-- the first with the number, if there is one
pub record IsFirst (n : ℕ) (ws : List TeamThread) : Type 0 where
  pub worker : TeamThread
  pub there : IsIn ws worker
  pub number : worker.thread ≡ n
  pub made : made_among n ws ≡ worker.made

pub record IsNone (n : ℕ) (ws : List TeamThread) : Type 0 where
  pub none : made_among n ws ≡ []
  pub apart : (w : TeamThread) → IsIn ws w → w.thread ≢ n

pub first_of : (n : ℕ) (ws : List TeamThread) → IsFirst n ws ⊎ IsNone n ws
first_of n [] = inr (record { none = refl; apart = λ w h same. absurd h })
first_of n (w ∷ ws) = by_test (w.thread == n) refl (first_of n ws)
  where
    by_test : (b : Bool) → (w.thread == n) ≡ b → IsFirst n ws ⊎ IsNone n ws → IsFirst n (w ∷ ws) ⊎ IsNone n (w ∷ ws)
    by_test true is more = inl (record {
      worker = w;
      there = inl refl;
      number = eqb-true w.thread n is;
      made = ap (λ (b : Bool). cond b w.made (made_among n ws)) is;
    })
    by_test false is more =
        ⊎_elim (λ (f : IsFirst n ws). inl (record {
          worker = f.worker;
          there = inr f.there;
          number = f.number;
          made = ap (λ (b : Bool). cond b w.made (made_among n ws)) is ∙ f.made;
        }))
        (λ (f : IsNone n ws).
        inr
        (record {
          none = ap (λ (b : Bool). cond b w.made (made_among n ws)) is ∙ f.none;
          apart = λ u h same.
              ⊎_elim (λ (here : w ≡ u). absurd (true≢false (sym (eq-eqb w.thread n (ap (λ (z : TeamThread). z.thread) here ∙ same)) ∙ is)))
              (λ (there : IsIn ws u). f.apart u there same) h;
        }))
        more

module _ (s : ScenarioLists) (teams : List Team) (a : AreTeams s teams) where
  line_of : (w : TeamThread) (p : IsInTeam teams w) → (l : ThreadLine) × ((slice_get (filter (is_on (node_at p.place)) s.threads) p.seat ≡ Some l) ×
      (l.id ≡ w.thread))
  line_of w p =
      got_mapped number_of_line (filter (is_on (node_at p.place)) s.threads) p.seat w.thread
      (ap (λ (ns : List ℕ). slice_get ns p.seat) (sym (a.threads' p.place p.team p.at)) ∙ slice_get-map thread_of p.team.threads p.seat
      ∙ ap (option_map thread_of) p.there)

  one_thread : (v w : TeamThread) → IsInTeam teams v → IsInTeam teams w → v.thread ≡ w.thread → v ≡ w
  one_thread v w p q same =
      let l = line_of v p in
      let m = line_of w q in
      let r = lines_apart p.place q.place s.threads p.seat q.seat l.0 m.0 (rise s.threads a.lawful.threads_rise) l.1.0 m.1.0 (l.1.1 ∙ same ∙ sym m.1.1) in
      let team = same_Some p.team q.team (sym p.at ∙ ap (slice_get teams) r.0 ∙ q.at) in
      same_Some v w (sym p.there ∙ (λ i. slice_get (team i).threads (r.1 i)) ∙ q.there)

  -- what the thread of the worker made is what this worker made
  pub made_is : (w : TeamThread) → IsInTeam teams w → made_among w.thread (all_threads teams) ≡ w.made
  made_is w p =
      ⊎_elim
      (λ (f : IsFirst w.thread (all_threads teams)). f.made ∙ ap (λ (u : TeamThread). u.made)
      (one_thread f.worker w (in_team teams f.worker f.there) p f.number))
      (λ (f : IsNone w.thread (all_threads teams)). absurd (f.apart w (from_team teams w p) refl))
      (first_of w.thread (all_threads teams))
