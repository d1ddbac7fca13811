-- Threads that are made one after the other, each at its seat.
use Rattle.std.specs.Prelude.{slice_get}
use Rattle.std.proofs.Common.{◌≡◌, ⊎_elim, ℕ, ◌+◌, ◌<◌, Some, List, [], ◌∷◌, ◌++◌, length, reverse, refl, sym, ◌∙◌, subst, arith}
use Rattle.std.proofs.lemmas.List.{length_push}
use Rattle.am_cluster_opening.specs.Node.Openings.{EndSeat}
use Rattle.am_scenario_types.specs.Lists.{ScenarioLists}
use Rattle.am_workers.specs.declared.workers.ThreadWorker.{ThreadWorker}
use Rattle.am_wire.proofs.Lists.{got_low, got_one, got_push}
use Rattle.am_cluster_opening.proofs.Lists.{AreTaking, taking_begins, taking_ends, taking_more, taking_next}
use Rattle.am_cluster_opening.specs.Making.{AreThreadsMade, IsThreadMade}

pub threads_begin : (s : ScenarioLists) (ids : List ℕ) (seats : List EndSeat) → AreThreadsMade s ids seats 0 []
threads_begin s ids seats = record { all = refl; each = λ k id seat w a b c. absurd (cc) }

pub threads_more : (s : ScenarioLists) (ids : List ℕ) (seats : List EndSeat) (n : ℕ) (ws : List ThreadWorker) (id : ℕ) (seat : EndSeat) (w : ThreadWorker) →
    AreThreadsMade s ids seats n ws → slice_get ids n ≡ Some id → slice_get seats n ≡ Some seat → IsThreadMade s id seat w →
    AreThreadsMade s ids seats (n + 1) (ws ++ w ∷ [])
threads_more s ids seats n ws id seat w made at there new =
    record {
      all = (let e = length_push ws w in let all = made.all in omega (arith, e, all));
      each = λ k i t v a b c.
          ⊎_elim (λ (was : slice_get ws k ≡ Some v). made.each k i t v a b was) (λ (last : (k ≡ length ws) × (v ≡ w)). at_end k i t v a b (last.0
          ∙ made.all) last.1) (got_push ws w k v c);
    }
  where
    at_end : (k i : ℕ) (t : EndSeat) (v : ThreadWorker) → slice_get ids k ≡ Some i → slice_get seats k ≡ Some t → k ≡ n → v ≡ w → IsThreadMade s i t v
    at_end k i t v a b here is =
        let same_id : id ≡ i = got_one ids n id i at (subst (λ (m : ℕ). slice_get ids m ≡ Some i) here a) in
        let same_seat : seat ≡ t = got_one seats n seat t there (subst (λ (m : ℕ). slice_get seats m ≡ Some t) here b) in
        subst (λ (x : ThreadWorker). IsThreadMade s i t x) (sym is) (subst (λ (x : EndSeat). IsThreadMade s i x w) same_seat
        (subst (λ (x : ℕ). IsThreadMade s x seat w) same_id new))

-- ---- one after the other

-- these threads were made, and of these seats threads are still to be made, the last first
pub record AreSeating (s : ScenarioLists) (ids : List ℕ) (whole rest : List EndSeat) (ws : List ThreadWorker) : Type 0 where
  pub taking : AreTaking whole rest (length ws)
  pub made : AreThreadsMade s ids whole (length ws) ws

pub seating_begins : (s : ScenarioLists) (ids : List ℕ) (whole : List EndSeat) → AreSeating s ids whole (reverse whole) []
seating_begins s ids whole = record { taking = taking_begins whole; made = threads_begin s ids whole }

module _ (s : ScenarioLists) (ids : List ℕ) (whole rest : List EndSeat) (seat : EndSeat) (ws : List ThreadWorker) (all : length whole ≡ length ids)
    (so : AreSeating s ids whole (rest ++ seat ∷ []) ws) where
  seat_next : slice_get whole (length ws) ≡ Some seat
  seat_next = taking_next whole rest seat (length ws) so.taking

  pub seating_low : length ws < length ids
  seating_low = let low = got_low whole (length ws) seat seat_next in omega (arith, low, all)

  pub seating_more : (id : ℕ) (w : ThreadWorker) → slice_get ids (length ws) ≡ Some id → IsThreadMade s id seat w → AreSeating s ids whole rest (ws ++ w ∷ [])
  seating_more id w at new =
      record {
        taking = subst (AreTaking whole rest) (sym (length_push ws w)) (taking_more whole rest seat (length ws) so.taking);
        made = subst (λ (n : ℕ). AreThreadsMade s ids whole n (ws ++ w ∷ [])) (sym (length_push ws w))
            (threads_more s ids whole (length ws) ws id seat w so.made at seat_next new);
      }

pub seating_ends : (s : ScenarioLists) (ids : List ℕ) (whole : List EndSeat) (ws : List ThreadWorker) → length whole ≡ length ids →
    AreSeating s ids whole [] ws → AreThreadsMade s ids whole (length ids) ws
seating_ends s ids whole ws all so = subst (λ (n : ℕ). AreThreadsMade s ids whole n ws) (sym (taking_ends whole (length ws) so.taking) ∙ all) so.made
