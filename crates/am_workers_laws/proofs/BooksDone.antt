-- What a book that was taken out has: it begins with what each worker has seen of it, and has just their entries that touch it.
use Rattle.std.specs.Prelude.{slice_get}
use Rattle.std.proofs.Common.{◌≡◌, inl, ℕ, ◌<◌, ◌≤◌, true, List, [], ◌∷◌, ◌++◌, Some, refl, sym, ap, ◌∙◌, subst, Contains}
use Rattle.std.proofs.lemmas.Option.{slice_get_within}
use Rattle.am_names.specs.declared.EndpointId.{EndpointId}
use Rattle.am_names.specs.declared.NodeId.{NodeId}
use Rattle.am_office_entries.specs.declared.Entry.{Entry}
use Rattle.am_office_entries.specs.Entries.{touches}
use Rattle.am_model_merge.specs.Logs.{IsRising}
use Rattle.am_model_parts.specs.Together.{ends_of}
use Rattle.am_scenario_types.specs.Lists.{ScenarioLists}
use Rattle.am_model_scripts.specs.Layout.{layout_of}
use Rattle.am_places.specs.Rule.{AllBegin, Begins, has, joined, known_at, of, tenure}
use Rattle.am_places.specs.declared.board.Known.{Known}
use Rattle.am_places.specs.declared.board.Tenure.{Tenure}
use Rattle.am_workers_laws.specs.declared.books.EndBook.{EndBook}
use Rattle.am_workers_laws.specs.Phases.Makers.{Driver, Interface, Maker, Thread}
use Rattle.am_workers_laws.specs.Phases.Seats.{IsTaken, KnowsItsOwn}
use Rattle.am_workers_laws.specs.Phases.Tenures.{IsEndOf, IsLogOf, IsSeat}
use Rattle.am_workers_laws.proofs.Seats.{taken_is_gathered}
use Rattle.am_workers_laws.proofs.Tenures.{tenures_log}
use Rattle.am_workers_laws.specs.Invariants.Seats.{EndPass, KnowsNode, seen_log}
use Rattle.am_workers_laws.proofs.Keeping.{joined_append}
use Rattle.am_workers_laws.specs.Ended.{IsNodeEnd, IsTakenOut, Keeps, KeepsAs, NodeEnd, RunEnd, Worker, gathering, whole_pass, workers}
use Rattle.am_workers_laws.proofs.Passes.{AreMine, AreWide, HasMark, IsIn, IsMine, IsWide, KeepOwn, all_begun, all_in, each_in, marked, of_worker, seats_same}
use Rattle.am_workers_laws.proofs.Passes.{worker_is, worker_of}

-- ---- the workers of a node

knows_as : (s : ScenarioLists) (r : RunEnd) (node : NodeId) (k : Maker) (v : EndPass) → KeepsAs s r node k v →
    KnowsNode (ends_of (layout_of s) node) (r.made k) v
knows_as s r node (Thread t) v h = subst (λ (xs : List Entry). KnowsNode (ends_of (layout_of s) node) xs v) h.same h.works.knows
knows_as s r node (Interface n) v h = subst (λ (m : NodeId). KnowsNode (ends_of (layout_of s) node) (r.made (Interface m)) v) (sym h.0) h.1.works.knows
knows_as s r node (Driver n) v h =
    subst (λ (m : NodeId). KnowsNode (ends_of (layout_of s) node) (r.made (Driver m)) v) (sym h.0)
    (subst (λ (xs : List Entry). KnowsNode (ends_of (layout_of s) node) xs v) h.1.same h.1.works.knows)

pub knows : (s : ScenarioLists) (r : RunEnd) (node : NodeId) → IsNodeEnd s r node → (w : Worker) → IsIn (workers (r.nodes node)) w →
    KnowsNode (ends_of (layout_of s) node) (r.made w.maker) w.pass
knows s r node end w h = knows_as s r node w.maker w.pass (all_in (Keeps s r node) (workers (r.nodes node)) w end.keeps h)

-- how many seats there are, and the worker of each
abbrev pub seats_in : NodeEnd → ℕ
seats_in n = n.keeper.pass.seats

abbrev pub seat_worker : NodeEnd → ℕ → Worker
seat_worker n m = worker_of m n.keeper (workers n)

-- ---- a book

-- an entry of a worker of the node that touches the endpoint
pub record IsEntryOf (r : RunEnd) (n : NodeEnd) (e : EndpointId) (x : Entry) : Type 0 where
  pub worker : Worker
  pub there : IsIn (workers n) worker
  pub made : Contains (r.made worker.maker) x
  pub touches' : touches e x ≡ true

pub record IsWholeBook (r : RunEnd) (n : NodeEnd) (e : EndpointId) (k : ℕ) (log : List Entry) : Type 0 where
  pub rising : IsRising log
  pub to : (x : Entry) → Contains log x → IsEntryOf r n e x
  pub from : (x : Entry) → IsEntryOf r n e x → Contains log x
  pub seen : (w : Worker) → IsIn (workers n) w → Begins log (seen_log k w.pass)

pub whole_book : (s : ScenarioLists) (r : RunEnd) (node : NodeId) (end : IsNodeEnd s r node) (k : ℕ) (e : EndpointId) (b : EndBook) →
    slice_get (ends_of (layout_of s) node) k ≡ Some e → IsTakenOut (whole_pass (r.nodes node)) k b → IsWholeBook r (r.nodes node) e k b.end.value.log
whole_book s r node end k e b at out =
    record {
      rising = subst IsRising out.comes.stands_for log_of.rising;
      to = λ x c. entry x ((log_of.entries x).0 (subst (λ (xs : List Entry). Contains xs x) (sym out.comes.stands_for) c));
      from = λ x o. subst (λ (xs : List Entry). Contains xs x) out.comes.stands_for ((log_of.entries x).1 (seat_entry x o));
      seen = λ w h. subst (λ (xs : List Entry). Begins xs (seen_log k w.pass)) out.comes.stands_for (joined_begins (known_at k w.pass).seen (begun w h));
    }
  where
    its : (w : Worker) → IsIn (workers (r.nodes node)) w → KnowsItsOwn (r.made w.maker) e w.pass.mark (known_at k w.pass)
    its w h = (knows s r node end w h).own k e at

    wide : AreWide k (workers (r.nodes node))
    wide = each_in (λ (w : Worker). IsWide k w.pass) (workers (r.nodes node)) (λ w h. subst (λ (m : ℕ). k < m) (sym (knows s r node end w h).wide)
        (slice_get_within (ends_of (layout_of s) node) k e at))

    mine : AreMine k (workers (r.nodes node))
    mine = each_in (λ (w : Worker). IsMine k w.pass) (workers (r.nodes node)) (λ w h. (its w h).mine)

    keep : KeepOwn (workers (r.nodes node))
    keep = each_in (λ (w : Worker). w.pass.keeps ≡ w.pass.mark ∷ []) (workers (r.nodes node)) (λ w h. (knows s r node end w h).keeps)

    seats_are : out.me.0.seats ≡ seats_in (r.nodes node)
    seats_are = out.knows.seats ∙ seats_same (r.nodes node).keeper.pass (r.nodes node).others

    kept : (m : ℕ) → IsSeat (seats_in (r.nodes node)) m → has m (whole_pass (r.nodes node)).keeps ≡ true
    kept m seat = end.gathered' m seat.0 (subst (λ (z : ℕ). m ≤ z) (sym (seats_same (r.nodes node).keeper.pass (r.nodes node).others)) seat.1)

    who_is : (m : ℕ) (h : HasMark (workers (r.nodes node)) m) → seat_worker (r.nodes node) m ≡ h.worker
    who_is m h = subst (λ (z : ℕ). seat_worker (r.nodes node) z ≡ h.worker) h.mark (worker_is (r.nodes node).keeper (workers (r.nodes node)) h.worker end.apart
        h.there)

    seat_of : (m : ℕ) → IsSeat (seats_in (r.nodes node)) m → HasMark (workers (r.nodes node)) m
    seat_of m seat = marked m (r.nodes node).keeper (r.nodes node).others keep (kept m seat)

    who_in : (m : ℕ) → IsSeat (seats_in (r.nodes node)) m → IsIn (workers (r.nodes node)) (seat_worker (r.nodes node) m)
    who_in m seat = let h = seat_of m seat in subst (λ (w : Worker). IsIn (workers (r.nodes node)) w) (sym (who_is m h)) h.there

    who_mark : (m : ℕ) → IsSeat (seats_in (r.nodes node)) m → (seat_worker (r.nodes node) m).pass.mark ≡ m
    who_mark m seat = let h = seat_of m seat in ap (λ (w : Worker). w.pass.mark) (who_is m h) ∙ h.mark

    who_knows : (m : ℕ) → IsSeat (seats_in (r.nodes node)) m →
        KnowsItsOwn (r.made (seat_worker (r.nodes node) m).maker) e m (known_at k (seat_worker (r.nodes node) m).pass)
    who_knows m seat =
        subst (λ (z : ℕ). KnowsItsOwn (r.made (seat_worker (r.nodes node) m).maker) e z (known_at k (seat_worker (r.nodes node) m).pass)) (who_mark m seat)
        (its (seat_worker (r.nodes node) m) (who_in m seat))

    begun : (w : Worker) → IsIn (workers (r.nodes node)) w → Begins out.log (known_at k w.pass).seen
    begun w h =
        all_in (λ (u : Worker). Begins out.log (known_at k u.pass).seen) (workers (r.nodes node)) w
        (all_begun out.log k (r.nodes node).keeper (r.nodes node).others wide
        (subst (λ (x : Known Entry). Begins out.log x.seen) out.knows.known out.comes.begins)
        (subst (λ (x : Known Entry). AllBegin out.log x.others) out.knows.known out.comes.passed))
        h

    all : (m : ℕ) → IsSeat (seats_in (r.nodes node)) m → of m out.log ≡ of m (known_at k (seat_worker (r.nodes node) m).pass).seen
    all m seat =
        let w = seat_worker (r.nodes node) m in
        out.comes.own_tenures m (subst (λ (ms : List ℕ). has m ms ≡ true) (sym out.knows.keeps) (kept m seat))
        ∙ ap (λ (x : Known Entry). of m x.made) out.knows.known
        ∙ subst (λ (z : ℕ). of z (known_at k (gathering (r.nodes node).keeper.pass (r.nodes node).others)).made ≡ of z (known_at k w.pass).made)
        (who_mark m seat)
        (of_worker k (r.nodes node).keeper (r.nodes node).others w wide mine end.apart (who_in m seat))
        ∙ sym (who_knows m seat).tenures

    opened : Begins out.log (tenure 0 [] ∷ [])
    opened =
        let first = begun (r.nodes node).keeper (inl refl) in
        let start = (its (r.nodes node).keeper (inl refl)).opened in
        (start.0 ++ first.0, first.1 ∙ ap (λ (ts : List (Tenure Entry)). ts ++ first.0) start.1)

    taken : IsTaken (seats_in (r.nodes node)) out.log (λ (m : ℕ). (known_at k (seat_worker (r.nodes node) m).pass).seen)
    taken =
        record {
          rest = opened.0;
          opens = opened.1;
          once = out.comes.opening;
          far = λ m above. out.comes.far m (subst (λ (z : ℕ). z < m) (sym seats_are) above);
          begins = λ m seat. begun (seat_worker (r.nodes node) m) (who_in m seat);
          all = all;
        }

    end_of : IsEndOf (seats_in (r.nodes node)) (λ (m : ℕ). r.made (seat_worker (r.nodes node) m).maker) e out.log
    end_of =
        record {
          seen = λ (m : ℕ). (known_at k (seat_worker (r.nodes node) m).pass).seen;
          gathered = taken_is_gathered (seats_in (r.nodes node)) out.log (λ (m : ℕ). (known_at k (seat_worker (r.nodes node) m).pass).seen) taken;
          rises = λ m seat. (who_knows m seat).rises;
          added = λ m seat. (who_knows m seat).added;
        }

    log_of : IsLogOf (seats_in (r.nodes node)) (λ (m : ℕ). r.made (seat_worker (r.nodes node) m).maker) e (joined out.log)
    log_of = tenures_log (seats_in (r.nodes node)) (λ (m : ℕ). r.made (seat_worker (r.nodes node) m).maker) e out.log end_of

    entry : (x : Entry) → (m : ℕ) × IsSeat (seats_in (r.nodes node)) m × Contains (r.made (seat_worker (r.nodes node) m).maker) x × (touches e x ≡ true) →
        IsEntryOf r (r.nodes node) e x
    entry x a = record { worker = seat_worker (r.nodes node) a.0; there = who_in a.0 a.1; made = a.2; touches' = a.3 }

    seat_entry : (x : Entry) → IsEntryOf r (r.nodes node) e x →
        (m : ℕ) × IsSeat (seats_in (r.nodes node)) m × Contains (r.made (seat_worker (r.nodes node) m).maker) x × (touches e x ≡ true)
    seat_entry x o = (
      o.worker.pass.mark,
      all_in (λ (w : Worker). IsSeat (seats_in (r.nodes node)) w.pass.mark) (workers (r.nodes node)) o.worker end.seats o.there,
      subst (λ (w : Worker). Contains (r.made w.maker) x) (sym (worker_is (r.nodes node).keeper (workers (r.nodes node)) o.worker end.apart o.there)) o.made,
      o.touches',
    )

    joined_begins : (ts : List (Tenure Entry)) → Begins out.log ts → Begins (joined out.log) (joined ts)
    joined_begins ts h = (joined h.0, ap joined h.1 ∙ joined_append ts h.0)
