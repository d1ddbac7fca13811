-- What the disk of a node holds at the end is what its driver saw last.
use Rattle.std.specs.Prelude.{slice_get}
use Rattle.std.specs.List.{filter, list_any}
use lib.ListN.{get_elem?}
use mathlib.Core.Option.{some}
use Rattle.std.proofs.lemmas.Option.{same_Some, slice_get_within}
use Rattle.std.proofs.Common.{◌≡◌, ⊎_elim, ℕ, ◌<◌, Bool, true, false, cond, ◌||◌, List, [], ◌∷◌, ◌++◌, Some, refl, sym, ap, ◌∙◌, subst, arith, append_assoc}
use Rattle.std.proofs.Common.{append-nil, Contains, Option}
use Rattle.am_names.specs.declared.EndpointId.{EndpointId}
use Rattle.am_names.specs.declared.NodeId.{NodeId}
use Rattle.am_names.specs.Names.{same_end}
use Rattle.am_office_entries.specs.declared.Entry.{Entry}
use Rattle.am_office_entries.specs.declared.Event.{Event}
use Rattle.am_office_entries.specs.declared.Event.TheVariants as Events
use Rattle.am_office_entries.specs.declared.Outcome.{Outcome}
use Rattle.am_office_entries.specs.Entries.{ends_touched, touches}
use Rattle.am_model.specs.Changes.{replay}
use Rattle.am_model.specs.Endpoint.{State, is_on_disk}
use Rattle.am_model.specs.History.{IsHistory, MayFollow, state_of}
use Rattle.am_model.specs.Layout.{AllAre, IsLawful, Layout, home, opening}
use Rattle.am_model.proofs.Each.{each_at, each_front}
use Rattle.am_laws_cluster.specs.Disk.Disk.{pages_out}
use Rattle.am_laws_cluster.proofs.Still.{stays}
use Rattle.am_model_parts.specs.Together.{ends_of}
use Rattle.am_model_merge.specs.Logs.{IsRising}
use Rattle.am_model_merge.proofs.Sorted.{Has, contains_has, has_contains, filter_has, has_last}
use Rattle.am_scenario_types.specs.Lists.{ScenarioLists}
use Rattle.am_scenario_types.specs.declared.parts.Network.TheVariants as Networks
use Rattle.am_model_scripts.specs.Layout.{is_direct, layout_of}
use Rattle.am_model_scripts.proofs.Lawful.{lawful_layout}
use Rattle.am_endpoint_body.specs.declared.settings.EndSettings.{EndSettings}
use Rattle.am_driver_moves.specs.declared.choice.EndView.{EndView}
use Rattle.am_endpoint.specs.View.{state_by}
use Rattle.am_swap_device.specs.Memory.{device_of}
use Rattle.am_driver_moves.specs.Pages.{HoldsBody}
use Rattle.am_places.specs.Rule.{Begins, known_at}
use Rattle.am_workers_laws.specs.Phases.Makers.{Driver, Interface, IsOfMaker, Maker, Thread}
use Rattle.am_workers_laws.proofs.Splits.{all_at, all_from}
use Rattle.am_workers_laws.proofs.Tenures.{own_in}
use Rattle.am_workers_laws.specs.Invariants.Drives.{KnowsPlace}
use Rattle.am_workers_laws.specs.Invariants.Seats.{IsBorn, seen_log}
use Rattle.am_workers_laws.proofs.Driving.{IsBornAt, born_at, born_low, line_at}
use Rattle.am_workers_laws.specs.Ended.{IsEnded, Keeps, KeepsAs, RunEnd, Worker, log_at, workers}
use Rattle.am_workers_laws.proofs.Passes.{IsIn, all_in}
use Rattle.am_workers_laws.proofs.HomesDone.{IsPlaced, placed}
use Rattle.am_workers_laws.proofs.BooksDone.{IsWholeBook}
use Rattle.am_workers_laws.proofs.Done.{IsDriverAt, book_of, log_is, part}

-- ---- where an endpoint lies while nothing pages it out

-- a journal up to where these passed, and what comes then
record IsSplit (p : Entry → Bool) (xs firsts lasts : List Entry) : Type 0 where
  pub before : List Entry
  pub after : List Entry
  pub whole : xs ≡ before ++ after
  pub first : filter p before ≡ firsts
  pub last : filter p after ≡ lasts

split_at : (p : Entry → Bool) (xs firsts lasts : List Entry) → filter p xs ≡ firsts ++ lasts → IsSplit p xs firsts lasts
split_at p xs [] lasts h = record { before = []; after = xs; whole = refl; first = refl; last = h }
split_at p [] (a ∷ firsts) lasts h = absurd (cc)
split_at p (x ∷ xs) (a ∷ firsts) lasts h = by_test (p x) refl h (split_at p xs firsts lasts) (split_at p xs (a ∷ firsts) lasts)
  where
    by_test : (b : Bool) → p x ≡ b → cond b (x ∷ filter p xs) (filter p xs) ≡ a ∷ (firsts ++ lasts) →
        (filter p xs ≡ firsts ++ lasts → IsSplit p xs firsts lasts) → (filter p xs ≡ a ∷ (firsts ++ lasts) → IsSplit p xs (a ∷ firsts) lasts) →
        IsSplit p (x ∷ xs) (a ∷ firsts) lasts
    by_test true is g with_it without =
        let head : x ≡ a = cc in
        let tail : filter p xs ≡ firsts ++ lasts = cc in
        let m = with_it tail in
        record {
          before = x ∷ m.before;
          after = m.after;
          whole = ap (λ (ys : List Entry). x ∷ ys) m.whole;
          first = ap (λ (b : Bool). cond b (x ∷ filter p m.before) (filter p m.before)) is ∙ (λ i. head i ∷ m.first i);
          last = m.last;
        }
    by_test false is g with_it without =
        let m = without g in
        record {
          before = x ∷ m.before;
          after = m.after;
          whole = ap (λ (ys : List Entry). x ∷ ys) m.whole;
          first = ap (λ (b : Bool). cond b (x ∷ filter p m.before) (filter p m.before)) is ∙ m.first;
          last = m.last;
        }

record IsStillOver (layout : Layout) (e : EndpointId) (before after : List Entry) : Type 0 where
  pub there : is_on_disk (state_of layout before e).head.place ≡ true
  pub body : (state_of layout (before ++ after) e).body ≡ (state_of layout before e).body

still_over : (layout : Layout) (e : EndpointId) (before after : List Entry) → layout.direct ≡ false → IsLawful layout → IsHistory layout (before ++ after) →
    AllAre (λ (x : Entry). pages_out e x.event ≡ false) after → is_on_disk (state_of layout (before ++ after) e).head.place ≡ true →
    IsStillOver layout e before after
still_over layout e before [] packet lawful history none on =
    record {
      there = subst (λ (xs : List Entry). is_on_disk (state_of layout xs e).head.place ≡ true) (append-nil before) on;
      body = ap (λ (xs : List Entry). (state_of layout xs e).body) (append-nil before);
    }
still_over layout e before (x ∷ xs) packet lawful history none on =
    let whole : before ++ x ∷ xs ≡ (before ++ x ∷ []) ++ xs = sym (append_assoc before (x ∷ []) xs) in
    let m =
    still_over layout e (before ++ x ∷ []) xs packet lawful (subst (IsHistory layout) whole history) none.1
    (subst (λ (ys : List Entry). is_on_disk (state_of layout ys e).head.place ≡ true) whole on) in
    let still = stays layout before x packet lawful (each_front (MayFollow layout) [] before (x ∷ xs) history)
    (each_at (MayFollow layout) [] before x xs history) e none.0 m.there in
    record { there = still.there; body = ap (λ (ys : List Entry). (state_of layout ys e).body) whole ∙ m.body ∙ still.body }

-- ---- what pages an endpoint out, its driver has seen

rising_apart : (xs ys : List Entry) (x : Entry) → IsRising (xs ++ ys) → Has xs x → Has ys x → ⊥
rising_apart [] ys x rising h g = absurd h
rising_apart (a ∷ more) ys x rising h g =
    ⊎_elim (λ (here : a ≡ x). (let less = all_at (λ (y : Entry). a.stamp < y.stamp) (more ++ ys) x rising.0 (has_last more ys x g) in
    let same = ap (λ (y : Entry). y.stamp) here in absurd (omega (arith, less, same))))
    (λ (later : Has more x). rising_apart more ys x rising.1 later g) h

pages_touches : (e : EndpointId) (event : Event) (o : Outcome) → pages_out e event ≡ true → list_any (same_end e) (ends_touched event o) ≡ true
pages_touches e (Events.PageOut node end) o h = ap (λ (b : Bool). b || false) h
pages_touches e event o h = absurd (cc)

-- a driver's node
record IsDriver (k : Maker) : Type 0 where
  pub node : NodeId
  pub is : k ≡ Driver node

driver_pages : (e : EndpointId) (k : Maker) (x : Entry) (event : Event) → x.event ≡ event → pages_out e event ≡ true → IsOfMaker k x → IsDriver k
driver_pages e (Driver node) x event is h of = record { node = node; is = refl }
driver_pages e (Thread t) x (Events.PageOut node end) is h of = absurd (cc)
driver_pages e (Interface n) x (Events.PageOut node end) is h of = absurd (cc)
driver_pages e (Thread t) x event is h of = absurd (cc)
driver_pages e (Interface n) x event is h of = absurd (cc)

-- the driver has seen each entry of its own
driver_saw : (s : ScenarioLists) (r : RunEnd) (node : NodeId) (f : IsDriverAt s r node) (k : ℕ) (e : EndpointId) (x : Entry) →
    slice_get (ends_of (layout_of s) node) k ≡ Some e → Contains (r.made (Driver node)) x → touches e x ≡ true → Has (seen_log k f.worker.pass) x
driver_saw s r node f k e x at has is =
    own_in f.worker.pass.mark (known_at k f.worker.pass).seen x
    (subst (λ (xs : List Entry). Has xs x) (sym (f.end.works.knows.own k e at).added)
    (filter_has (touches e) f.end.works.made x (contains_has f.end.works.made x (subst (λ (xs : List Entry). Contains xs x) (sym f.end.same) has)) is))

driver_same : (s : ScenarioLists) (r : RunEnd) (node n : NodeId) (w : Worker) → IsIn (workers (r.nodes node)) w →
    AllAre (Keeps s r node) (workers (r.nodes node)) → w.maker ≡ Driver n → n ≡ node
driver_same s r node n w h keeps is = (subst (λ (m : Maker). KeepsAs s r node m w.pass) is (all_in (Keeps s r node) (workers (r.nodes node)) w keeps h)).0

-- so nothing that the driver hasn't seen pages the endpoint out
pub not_paged : (s : ScenarioLists) (r : RunEnd) (end : IsEnded s r) (node : NodeId) (f : IsDriverAt s r node) (k : ℕ) (e : EndpointId)
    (log rest : List Entry) → slice_get (ends_of (layout_of s) node) k ≡ Some e → IsWholeBook r (r.nodes node) e k log →
    log ≡ seen_log k f.worker.pass ++ rest → (x : Entry) → Has rest x → pages_out e x.event ≡ true → ⊥
not_paged s r end node f k e log rest at book is x has pages =
    rising_apart (seen_log k f.worker.pass) rest x (subst IsRising is book.rising) saw has
  where
    there : Has log x
    there = subst (λ (xs : List Entry). Has xs x) (sym is) (has_last (seen_log k f.worker.pass) rest x has)

    saw : Has (seen_log k f.worker.pass) x
    saw =
        let o = book.to x (has_contains log x there) in
        let of : IsOfMaker o.worker.maker x = all_at (IsOfMaker o.worker.maker) (r.made o.worker.maker) x (part s r end o.worker.maker).kinds
        (contains_has (r.made o.worker.maker) x o.made) in
        let d = driver_pages e o.worker.maker x x.event refl pages of in
        let mine : Contains (r.made (Driver node)) x =
        subst (λ (m : Maker). Contains (r.made m) x) (d.is ∙ ap (λ (n : NodeId). Driver n)
        (driver_same s r node d.node o.worker o.there (end.nodes node f.declared).keeps d.is)) o.made in
        driver_saw s r node f k e x at mine (pages_touches e x.event x.outcome pages)

-- what is on disk at the end was there, with the same body, when the driver saw it last
pub on_disk_since : (layout : Layout) (e : EndpointId) (journal seen rest : List Entry) → layout.direct ≡ false → IsLawful layout → IsHistory layout journal →
    filter (touches e) journal ≡ seen ++ rest → ((x : Entry) → Has rest x → pages_out e x.event ≡ true → ⊥) →
    is_on_disk (state_of layout journal e).head.place ≡ true →
    (is_on_disk (replay e (opening layout e) seen).head.place ≡ true) × ((state_of layout journal e).body ≡ (replay e (opening layout e) seen).body)
on_disk_since layout e journal seen rest packet lawful history is none on = (
  subst (λ (xs : List Entry). is_on_disk (replay e (opening layout e) xs).head.place ≡ true) m.first still.there,
  ap (λ (xs : List Entry). (state_of layout xs e).body) m.whole ∙ still.body ∙ ap (λ (xs : List Entry). (replay e (opening layout e) xs).body) m.first,
)
  where
    m : IsSplit (touches e) journal seen rest
    m = split_at (touches e) journal seen rest is

    no_page : (x : Entry) → Has m.after x → pages_out e x.event ≡ false
    no_page x has = by_test (pages_out e x.event) refl
      where
        by_test : (b : Bool) → pages_out e x.event ≡ b → b ≡ false
        by_test false h = refl
        by_test true h = absurd (none x (subst (λ (xs : List Entry). Has xs x) m.last (filter_has (touches e) m.after x has
            (pages_touches e x.event x.outcome h))) h)

    still : IsStillOver layout e m.before m.after
    still =
        still_over layout e m.before m.after packet lawful (subst (IsHistory layout) m.whole history)
        (all_from (λ (x : Entry). pages_out e x.event ≡ false) m.after no_page)
        (subst (λ (xs : List Entry). is_on_disk (state_of layout xs e).head.place ≡ true) m.whole on)

-- ---- what the driver's disk holds

told : (s : ScenarioLists) (r : RunEnd) (node : NodeId) (f : IsDriverAt s r node) (k : ℕ) (e : EndpointId) → slice_get (ends_of (layout_of s) node) k ≡ Some e →
    IsBornAt f.worker.pass.births k
told s r node f k e at = born_at f.worker.pass.births k (let less = slice_get_within (ends_of (layout_of s) node) k e at in let all = f.end.works.knows.all in
    omega (arith, less, all))

-- it holds the body of an endpoint that lay on disk when its driver saw it last
held_there : (s : ScenarioLists) (r : RunEnd) (node : NodeId) (f : IsDriverAt s r node) (k : ℕ) (e : EndpointId) →
    slice_get (ends_of (layout_of s) node) k ≡ Some e → is_on_disk (replay e (opening (layout_of s) e) (seen_log k f.worker.pass)).head.place ≡ true →
    HoldsBody (r.nodes node).disk s.pool e (replay e (opening (layout_of s) e) (seen_log k f.worker.pass)).body
held_there s r node f k e at on =
    subst (λ (d : EndpointId). HoldsBody (r.nodes node).disk s.pool d (replay d (opening (layout_of s) d) seen).body) same
    (subst (λ (st : State). HoldsBody (r.nodes node).disk s.pool set.id (replay set.id st seen).body) born.opens
    (subst (λ (p : Option ℕ). HoldsBody (r.nodes node).disk p set.id (state_by set seen).body) born.pool
    (place.lies.disk there)))
  where
    seen : List Entry
    seen = seen_log k f.worker.pass

    set : EndSettings
    set = (told s r node f k e at).set

    is_told : get_elem? f.worker.pass.births k ≡ some set
    is_told = (told s r node f k e at).at

    born : IsBorn (layout_of s) set
    born = f.end.works.born k set is_told

    same : set.id ≡ e
    same = same_Some set.id e (sym (f.end.works.knows.births k set is_told) ∙ at)

    line : (l : EndView) × (slice_get f.end.view.ends k ≡ Some l)
    line = line_at f.end.view.ends k (let less = born_low f.worker.pass.births k set is_told in let all = f.end.works.can.all in omega (arith, less, all))

    place : KnowsPlace f.worker.pass.frames (device_of (r.nodes node).disk) f.worker.pass.mark k set line.0 (known_at k f.worker.pass)
    place = f.end.works.can.each k set line.0 is_told line.1

    there : is_on_disk (state_by set seen).head.place ≡ true
    there =
        subst (λ (st : State). is_on_disk (replay set.id st seen).head.place ≡ true) (sym born.opens)
        (subst (λ (d : EndpointId). is_on_disk (replay d (opening (layout_of s) d) seen).head.place ≡ true) (sym same) on)

-- and so of each that lies there at the end
pub held_at_end : (s : ScenarioLists) (r : RunEnd) (end : IsEnded s r) (node : NodeId) (f : IsDriverAt s r node) (e : EndpointId) (journal : List Entry) →
    s.network ≡ Networks.Packet → list_any (same_end e) (ends_of (layout_of s) node) ≡ true → IsHistory (layout_of s) journal →
    filter (touches e) journal ≡ log_at s r (home (layout_of s) e) e → is_on_disk (state_of (layout_of s) journal e).head.place ≡ true →
    HoldsBody (r.nodes node).disk s.pool e (state_of (layout_of s) journal e).body
held_at_end s r end node f e journal packet declared history own_log on =
    subst (HoldsBody (r.nodes node).disk s.pool e) (sym since.1) (held_there s r node f p.place e p.id since.0)
  where
    p : IsPlaced (ends_of (layout_of s) node) (r.nodes node).books e
    p = placed (ends_of (layout_of s) node) (r.nodes node).books e (end.nodes node f.declared).all declared

    whole : IsWholeBook r (r.nodes node) e p.place p.book.end.value.log
    whole = book_of s r end node f.declared e p

    begins : Begins p.book.end.value.log (seen_log p.place f.worker.pass)
    begins = whole.seen f.worker f.there'

    since : (is_on_disk (replay e (opening (layout_of s) e) (seen_log p.place f.worker.pass)).head.place ≡ true) ×
        ((state_of (layout_of s) journal e).body ≡ (replay e (opening (layout_of s) e) (seen_log p.place f.worker.pass)).body)
    since =
        on_disk_since (layout_of s) e journal (seen_log p.place f.worker.pass) begins.0 (ap is_direct packet) (lawful_layout s end.lawful) history
        (own_log ∙ log_is s r end node p.place e p.book p.id p.there ∙ begins.1)
        (λ x has pages. not_paged s r end node f p.place e p.book.end.value.log begins.0 p.id whole begins.1 x has pages)
        on
