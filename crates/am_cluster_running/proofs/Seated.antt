-- The seats of a node's workers, by their numbers.
use Rattle.std.specs.Prelude.{slice_get}
use Rattle.std.proofs.Common.{◌≡◌, ◌≢◌, ◌⊎◌, inl, inr, ⊎_elim, ℕ, zero, suc, ◌+◌, ◌<◌, ◌≤◌, ◌==◌, Bool, true, false, ◌||◌, List, [], ◌∷◌, ◌++◌, map, length}
use Rattle.std.proofs.Common.{Some, refl, sym, ap, ◌∙◌, subst, arith, eq-eqb}
use Rattle.am_names.specs.declared.NodeId.{NodeId}
use Rattle.am_model.specs.Layout.{AllAre}
use Rattle.am_model_parts.specs.Together.{ends_of}
use Rattle.am_scenario_types.specs.Lists.{ScenarioLists}
use Rattle.am_model_scripts.specs.Layout.{layout_of}
use Rattle.am_places.specs.Rule.{gathered, has}
use Rattle.am_workers_laws.specs.Phases.Makers.{Interface}
use Rattle.am_workers_laws.specs.Phases.Tenures.{IsSeat}
use Rattle.am_workers_laws.specs.Invariants.Seats.{EndPass}
use Rattle.am_workers_laws.specs.Ended.{HaveSeats, ThreadEnd, Worker, gathering, whole_pass}
use Rattle.am_workers_laws.proofs.Passes.{IsIn, KeepOwn, seats_same}
use Rattle.am_cluster_running.specs.Uniting.Teams.{AreSeated, Team, TeamThread, TeamsGather, gathered_in, keeper_in, node_end, worker_of_thread}

-- ---- marks in order

-- the marks of these are the numbers from n on
abbrev Numbered : ℕ → List Worker → Type 0
Numbered n [] = Unit {0}
Numbered n (w ∷ ws) = (w.pass.mark ≡ n) × Numbered (suc n) ws

numbered : (n : ℕ) (ws : List Worker) → ((k : ℕ) (w : Worker) → slice_get ws k ≡ Some w → w.pass.mark ≡ k + n) → Numbered n ws
numbered n [] h = tt
numbered n (w ∷ ws) h = ((let is = h 0 w refl in omega (arith, is)), numbered (suc n) ws (λ k u at. (let is = h (suc k) u at in omega (arith, is))))

-- those before the last, and the last
before_last : (n : ℕ) (ws : List Worker) (w : Worker) → Numbered n (ws ++ w ∷ []) → Numbered n ws × (w.pass.mark ≡ n + length ws)
before_last n [] w h = (tt, (let is = h.0 in omega (arith, is)))
before_last n (u ∷ us) w h = let more = before_last (suc n) us w h.1 in ((h.0, more.0), (let is = more.1 in omega (arith, is)))

others_above : (m n : ℕ) (ws : List Worker) → m < n → Numbered n ws → AllAre (λ (u : Worker). m ≢ u.pass.mark) ws
others_above m n [] less h = tt
others_above m n (w ∷ ws) less h = ((λ same. (let is = h.0 in absurd (omega (arith, less, is, same)))), others_above m (suc n) ws (omega (arith, less)) h.1)

others_below : (m n : ℕ) (ws : List Worker) → n + length ws ≤ m → Numbered n ws → AllAre (λ (u : Worker). m ≢ u.pass.mark) ws
others_below m n [] most h = tt
others_below m n (w ∷ ws) most h = ((λ same. (let is = h.0 in absurd (omega (arith, most, is, same)))), others_below m (suc n) ws (omega (arith, most)) h.1)

seats_apart : (n : ℕ) (ws : List Worker) → Numbered n ws → HaveSeats ws
seats_apart n [] h = tt
seats_apart n (w ∷ ws) h = (
  subst (λ (m : ℕ). AllAre (λ (u : Worker). m ≢ u.pass.mark) ws) (sym h.0) (others_above n (suc n) ws (omega arith) h.1),
  seats_apart (suc n) ws h.1,
)

all_seats : (seats n : ℕ) (ws : List Worker) → 0 < n → n + length ws ≤ suc seats → Numbered n ws → AllAre (λ (w : Worker). IsSeat seats w.pass.mark) ws
all_seats seats n [] some_seat most h = tt
all_seats seats n (w ∷ ws) some_seat most h = (
  (let is = h.0 in (omega (arith, is, some_seat), omega (arith, is, most))),
  all_seats seats (suc n) ws (omega arith) (omega (arith, most)) h.1,
)

-- the one with this mark
with_mark : (m n : ℕ) (ws : List Worker) → n ≤ m → m < n + length ws → Numbered n ws → (w : Worker) × (IsIn ws w × (w.pass.mark ≡ m))
with_mark m n [] low high h = absurd (omega (arith, low, high))
with_mark m n (w ∷ ws) low high h =
    ⊎_elim (λ (here : m ≡ n). (w, (inl refl, h.0 ∙ sym here))) (λ (later : suc n ≤ m). (let r = with_mark m (suc n) ws later (omega (arith, high)) h.1 in
    (r.0, (inr r.1.0, r.1.1))))
    (either m n low)
  where
    either : (a b : ℕ) → b ≤ a → (a ≡ b) ⊎ (suc b ≤ a)
    either zero zero le = inl refl
    either zero (suc b) le = absurd (omega (arith, le))
    either (suc a) zero le = inr (omega arith)
    either (suc a) (suc b) le = ⊎_elim (λ (same : a ≡ b). inl (ap suc same)) (λ (less : suc b ≤ a). inr (omega (arith, less))) (either a b (omega (arith, le)))

-- ---- the seats of a node

-- the driver's seat is the last
pub record IsSeatedTeam (node : NodeId) (t : Team) : Type 0 where
  pub seats : AllAre (λ (w : Worker). IsSeat t.driver.seats w.pass.mark) (keeper_in node t ∷ gathered_in node t)
  pub apart : HaveSeats (keeper_in node t ∷ gathered_in node t)

module _ (node : NodeId) (t : Team) (seated : AreSeated node t) (last : t.driver.mark ≡ t.driver.seats) where
  in_order : Numbered 1 (gathered_in node t ++ keeper_in node t ∷ [])
  in_order = numbered 1 (gathered_in node t ++ keeper_in node t ∷ []) (λ k w at. seated k w at)

  parts : Numbered 1 (gathered_in node t) × (t.driver.mark ≡ 1 + length (gathered_in node t))
  parts = before_last 1 (gathered_in node t) (keeper_in node t) in_order

  pub seated_team : IsSeatedTeam node t
  seated_team =
      let mark = parts.1 in
      record {
        seats = (
          (omega (arith, mark, last), omega (arith, last)),
          all_seats t.driver.seats 1 (gathered_in node t) (omega arith) (omega (arith, mark, last)) parts.0,
        );
        apart = (others_below t.driver.mark 1 (gathered_in node t) (omega (arith, mark)) parts.0, seats_apart 1 (gathered_in node t) parts.0);
      }

  -- each of the seats is a worker's
  seat_there : (m : ℕ) → 0 < m → m ≤ t.driver.seats → (w : Worker) × (IsIn (gathered_in node t ++ keeper_in node t ∷ []) w × (w.pass.mark ≡ m))
  seat_there m low high =
      with_mark m 1 (gathered_in node t ++ keeper_in node t ∷ []) (omega (arith, low)) (let mark = parts.1 in
      let long = pushed (gathered_in node t) (keeper_in node t) in omega (arith, high, mark, last, long)) in_order
    where
      pushed : (ws : List Worker) (w : Worker) → length (ws ++ w ∷ []) ≡ suc (length ws)
      pushed [] w = refl
      pushed (u ∷ us) w = ap suc (pushed us w)

-- ---- what is gathered

has_first : (m : ℕ) (xs ys : List ℕ) → has m xs ≡ true → has m (xs ++ ys) ≡ true
has_first m [] ys h = absurd (cc)
has_first m (x ∷ xs) ys h = by_test (x == m) h (has_first m xs ys)
  where
    by_test : (b : Bool) → (b || has m xs) ≡ true → (has m xs ≡ true → has m (xs ++ ys) ≡ true) → (b || has m (xs ++ ys)) ≡ true
    by_test true g more = refl
    by_test false g more = more g

has_last : (m : ℕ) (xs ys : List ℕ) → has m ys ≡ true → has m (xs ++ ys) ≡ true
has_last m [] ys h = h
has_last m (x ∷ xs) ys h = by_test (x == m) (has_last m xs ys h)
  where
    by_test : (b : Bool) → has m (xs ++ ys) ≡ true → (b || has m (xs ++ ys)) ≡ true
    by_test true more = refl
    by_test false more = more

keeps_own : (m : ℕ) (v : EndPass) (ws : List Worker) → has m v.keeps ≡ true → has m (gathering v ws).keeps ≡ true
keeps_own m v [] h = h
keeps_own m v (w ∷ ws) h = keeps_own m (gathered v w.pass) ws (has_first m v.keeps w.pass.keeps h)

own_mark : (v : EndPass) → v.keeps ≡ v.mark ∷ [] → has v.mark v.keeps ≡ true
own_mark v own = subst (λ (ms : List ℕ). has v.mark ms ≡ true) (sym own) (ap (λ (b : Bool). b || false) (eq-eqb v.mark v.mark refl))

keeps_each : (v : EndPass) (ws : List Worker) (w : Worker) → KeepOwn ws → IsIn ws w → has w.pass.mark (gathering v ws).keeps ≡ true
keeps_each v [] w own h = absurd h
keeps_each v (u ∷ us) w own h =
    ⊎_elim
    (λ (here : u ≡ w).
    subst (λ (z : Worker). has z.pass.mark (gathering (gathered v u.pass) us).keeps ≡ true) here
    (keeps_own u.pass.mark (gathered v u.pass) us (has_last u.pass.mark v.keeps u.pass.keeps (own_mark u.pass own.0))))
    (λ (there : IsIn us w). keeps_each (gathered v u.pass) us w own.1 there)
    h

own_pushed : (ws : List Worker) (w : Worker) → KeepOwn ws → w.pass.keeps ≡ w.pass.mark ∷ [] → KeepOwn (ws ++ w ∷ [])
own_pushed [] w own h = (h, tt)
own_pushed (u ∷ us) w own h = (own.0, own_pushed us w own.1 h)

threads_own : (s : ScenarioLists) (node : NodeId) (ws : List TeamThread) →
    AllAre (λ (w : TeamThread). ThreadEnd s (ends_of (layout_of s) node) w.thread w.made w.pass) ws → KeepOwn (map worker_of_thread ws)
threads_own s node [] h = tt
threads_own s node (w ∷ ws) h = (h.0.works.knows.keeps, threads_own s node ws h.1)

in_either : (ws : List Worker) (last w : Worker) → IsIn (ws ++ last ∷ []) w → IsIn ws w ⊎ (last ≡ w)
in_either [] last w h = ⊎_elim (λ (here : last ≡ w). inr here) (λ (none : ⊥). absurd none) h
in_either (u ∷ us) last w h =
    ⊎_elim (λ (here : u ≡ w). inl (inl here)) (λ (more : IsIn (us ++ last ∷ []) w). ⊎_elim (λ (a : IsIn us w). inl (inr a)) (λ (b : last ≡ w). inr b)
    (in_either us last w more)) h

pub teams_gather : TeamsGather
teams_gather s node t team m low high =
    ⊎_elim (λ (other : IsIn (gathered_in node t) seat.0). subst (λ (n : ℕ). has n (whole_pass (node_end node t)).keeps ≡ true) seat.1.1
    (keeps_each t.driver (gathered_in node t) seat.0 own other))
    (λ (keeper : keeper_in node t ≡ seat.0).
    subst (λ (n : ℕ). has n (whole_pass (node_end node t)).keeps ≡ true) (ap (λ (w : Worker). w.pass.mark) keeper ∙ seat.1.1)
    (keeps_own t.driver.mark t.driver (gathered_in node t) (own_mark t.driver team.driver'.works.knows.keeps)))
    (in_either (gathered_in node t) (keeper_in node t) seat.0 seat.1.0)
  where
    own : KeepOwn (gathered_in node t)
    own = own_pushed (map worker_of_thread t.threads) (record { maker = Interface node; pass = t.interface }) (threads_own s node t.threads team.threads')
        team.interface'.works.knows.keeps

    seat : (w : Worker) × (IsIn (gathered_in node t ++ keeper_in node t ∷ []) w × (w.pass.mark ≡ m))
    seat = seat_there node t team.seated team.driver'.works.can.last m low (let same = seats_same t.driver (gathered_in node t) in omega (arith, high, same))
