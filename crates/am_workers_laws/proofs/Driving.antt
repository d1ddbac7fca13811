-- A look and a move keep what a driver keeps.
use Rattle.std.specs.Prelude.{not, slice_get, slice_index, slice_index_or, slice_set}
use Rattle.std.specs.List.{list_any}
use Rattle.std.proofs.Common.{◌≡◌, ◌≢◌, ◌⊎◌, ⊎_elim, ℕ, zero, suc, ◌+◌, ◌<◌, ◌≤◌, ◌==◌, Bool, true, false, cond, ◌||◌, ◌&&◌, List, [], ◌∷◌, ◌++◌, length, drop}
use Rattle.std.proofs.Common.{Option, Some, None, refl, sym, ap, ◌∙◌, subst, arith, append-nil, length-append, true≢false}
use Rattle.std.proofs.lemmas.Bool.{and_parts, cases_eq}
use lib.ListN.{get_elem?}
use mathlib.Core.Option.{some}
use Rattle.std.proofs.lemmas.List.{length-set}
use Rattle.am_lemmas.proofs.Numbers.{eqb_more}
use Rattle.am_lemmas.proofs.Bools.{and_first}
use Rattle.am_names.specs.declared.EndpointId.{EndpointId}
use Rattle.am_names.specs.declared.NodeId.{NodeId}
use Rattle.am_names.specs.Names.{same_end}
use Rattle.am_office_entries.specs.declared.Event.{Event}
use Rattle.am_office_entries.specs.declared.Event.TheVariants as Events
use Rattle.am_office_entries.specs.declared.Entry.{Entry}
use Rattle.am_endpoint_body.specs.declared.settings.EndSettings.{EndSettings}
use Rattle.am_swap_device.specs.Causes.{Device}
use Rattle.am_endpoint.specs.View.{state_by}
use Rattle.am_model.specs.Changes.{after}
use Rattle.am_model.specs.Endpoint.{State, fresh, is_in_a_frame, is_on_disk, is_on_host}
use Rattle.am_model.specs.History.{is_in_frame}
use Rattle.am_model.specs.Layout.{AllAre}
use Rattle.am_model.proofs.Names.{same_end-is}
use Rattle.am_model.proofs.Alls.{all_append}
use Rattle.am_model_parts.specs.Driver.{end_moved}
use Rattle.am_workers_laws.specs.Books.Books.{moves}
use Rattle.am_driver_moves.specs.Choice.Chosen.{IsOfLine, Suits}
use Rattle.am_driver_moves.specs.Choice.Lists.{ViewLists}
use Rattle.am_driver_moves.specs.Choice.Moves.{has_frame, is_free, is_leaving, is_open_on_host, next_move}
use Rattle.am_driver_moves.specs.Choice.Shown.{event_of}
use Rattle.am_driver_moves.specs.declared.choice.EndView.{EndView}
use Rattle.am_driver_moves.specs.declared.choice.Move.{Move}
use Rattle.am_driver_moves.specs.declared.choice.Move.TheVariants as Moves
use Rattle.am_driver_moves.proofs.Chosen.{moves_of_lines}
use Rattle.am_workers_laws.specs.Phases.Lying.{keeps_on_disk, moves_by, rests}
use Rattle.am_workers_laws.specs.Phases.Seats.{left_with}
use Rattle.am_workers_laws.proofs.Lying.{rests_then}
use Rattle.am_workers_laws.proofs.Seats.{of_append}
use Rattle.am_places.specs.Rule.{Begins, calm, inside_with, joined, known_at, nothing, of, stirs, tenure, with_known}
use Rattle.am_places.specs.declared.board.Known.{Known}
use Rattle.am_places.specs.declared.board.Tenure.{Tenure}
use Rattle.am_driver_moves.specs.Devices.{device_by, is_failed}
use Rattle.am_workers_laws.specs.Invariants.Drives.{CanDrive, KnowsPlace, LiesSo, LooksKeep, MovesKeep, frames_after, last_after, line_by, log_of, with_frames, with_line}
use Rattle.am_workers_laws.specs.Invariants.Seats.{EndPass, Stays}
use Rattle.am_workers_laws.proofs.Keeping.{joined_append}
use Rattle.am_workers_laws.proofs.Keeps.{left_log}
use Rattle.am_workers_laws.proofs.Lies.{LeavesFree, MaySo, frames_long, lies_beside, lies_moved, lies_on, owned_after}
use Rattle.am_workers_laws.proofs.Staying.{replay_append}
use Rattle.am_workers_laws.proofs.Stands.{set_here, set_there}

-- ---- lists

line_here : (xs : List EndView) (k : ℕ) (x : EndView) → k < length xs → slice_get (slice_set xs k x) k ≡ Some x
line_here [] k x h = absurd (omega (arith, h))
line_here (y ∷ ys) zero x h = refl
line_here (y ∷ ys) (suc k) x h = line_here ys k x (omega (arith, h))

pub line_there : (xs : List EndView) (k j : ℕ) (x : EndView) → j ≢ k → slice_get (slice_set xs k x) j ≡ slice_get xs j
line_there [] k j x h = refl
line_there (y ∷ ys) zero zero x h = absurd (h refl)
line_there (y ∷ ys) zero (suc j) x h = refl
line_there (y ∷ ys) (suc k) zero x h = refl
line_there (y ∷ ys) (suc k) (suc j) x h = line_there ys k j x (λ same. h (ap suc same))

pub born_low : (xs : List EndSettings) (k : ℕ) (x : EndSettings) → get_elem? xs k ≡ some x → k < length xs
born_low [] k x h = absurd (cc)
born_low (y ∷ ys) zero x h = omega arith
born_low (y ∷ ys) (suc k) x h = let less = born_low ys k x h in omega (arith, less)

line_low : (xs : List EndView) (k : ℕ) (x : EndView) → slice_get xs k ≡ Some x → k < length xs
line_low [] k x h = absurd (cc)
line_low (y ∷ ys) zero x h = omega arith
line_low (y ∷ ys) (suc k) x h = let less = line_low ys k x h in omega (arith, less)

-- an element at a place
pub record IsBornAt (xs : List EndSettings) (k : ℕ) : Type 0 where
  pub set : EndSettings
  pub at : get_elem? xs k ≡ some set

pub born_at : (xs : List EndSettings) (k : ℕ) → k < length xs → IsBornAt xs k
born_at [] k h = absurd (omega (arith, h))
born_at (x ∷ xs) zero h = record { set = x; at = refl }
born_at (x ∷ xs) (suc k) h = let m = born_at xs k (omega (arith, h)) in record { set = m.set; at = m.at }

-- ---- what others added doesn't move the endpoint

not_stirred : (xs : List Entry) → not (stirs moves xs) ≡ true → AllAre (λ (x : Entry). moves_by x.event ≡ false) xs
not_stirred [] h = tt
not_stirred (x ∷ xs) h = by_test (moves x) refl h (not_stirred xs)
  where
    by_test : (b : Bool) → moves x ≡ b → not (b || stirs moves xs) ≡ true → (not (stirs moves xs) ≡ true →
        AllAre (λ (y : Entry). moves_by y.event ≡ false) xs) → AllAre (λ (y : Entry). moves_by y.event ≡ false) (x ∷ xs)
    by_test true is g more = absurd (true≢false (sym g))
    by_test false is g more = (is, more g)

calm_still : (d : ℕ) (ts : List (Tenure Entry)) → calm moves d ts ≡ true → length (of 0 ts) ≡ 0 → length (of d ts) ≡ 0 →
    AllAre (λ (x : Entry). moves_by x.event ≡ false) (joined ts)
calm_still d [] c z o = tt
calm_still d (t ∷ ts) c z o = by_tests (t.by == 0) (t.by == d) c z o (calm_still d ts)
  where
    by_tests : (a b : Bool) → ((a || (b || not (stirs moves t.items))) && calm moves d ts) ≡ true → length (cond a (t.items ∷ of 0 ts) (of 0 ts)) ≡ 0 →
        length (cond b (t.items ∷ of d ts) (of d ts)) ≡ 0
        → (calm moves d ts ≡ true → length (of 0 ts) ≡ 0 → length (of d ts) ≡ 0 → AllAre (λ (x : Entry). moves_by x.event ≡ false) (joined ts)) →
        AllAre (λ (x : Entry). moves_by x.event ≡ false) (t.items ++ joined ts)
    by_tests true b g y p more = absurd (omega (arith, y))
    by_tests false true g y p more = absurd (omega (arith, p))
    by_tests false false g y p more =
        let parts = and_parts (not (stirs moves t.items)) (calm moves d ts) g in
        all_append (λ (x : Entry). moves_by x.event ≡ false) t.items (joined ts) (not_stirred t.items parts.0) (more parts.1 y p)

calm_then : (d : ℕ) (ts us : List (Tenure Entry)) → calm moves d (ts ++ us) ≡ true → calm moves d us ≡ true
calm_then d [] us h = h
calm_then d (t ∷ ts) us h = calm_then d ts us (and_parts ((t.by == 0) || ((t.by == d) || not (stirs moves t.items))) (calm moves d (ts ++ us)) h).1

none_more : (m : ℕ) (ts us : List (Tenure Entry)) → length (of m (ts ++ us)) ≡ length (of m ts) → length (of m us) ≡ 0
none_more m ts us h = let e : length (of m (ts ++ us)) ≡ length (of m ts) + length (of m us) = ap length (of_append m ts us)
    ∙ length-append (of m ts) (of m us) in omega (arith, e, h)

rests_first : (e : EndpointId) (s : State) (xs ys : List Entry) → rests e s (xs ++ ys) ≡ true → rests e s xs ≡ true
rests_first e s [] ys h = refl
rests_first e s (x ∷ xs) ys h = let parts = and_parts (keeps_on_disk s x) (rests e (after e s x) (xs ++ ys)) h in
    both (keeps_on_disk s x) (rests e (after e s x) xs) parts.0 (rests_first e (after e s x) xs ys parts.1)
  where
    both : (a b : Bool) → a ≡ true → b ≡ true → (a && b) ≡ true
    both true b h k = k
    both false b h k = h

-- what the driver's seat found at an endpoint
pub record IsFoundAt (k : ℕ) (set : EndSettings) (log : List (Tenure Entry)) (v : EndPass) : Type 0 where
  pub born : get_elem? v.births k ≡ some set
  pub begins : Begins log (known_at k v).seen
  pub own : of v.mark log ≡ of v.mark (known_at k v).made
  pub calm_log : calm moves v.seats log ≡ true
  pub once : length (of 0 log) ≡ 1
  pub rests' : rests set.id (fresh set.tag set.place) (joined log) ≡ true

pub found_of : (k : ℕ) (set : EndSettings) (place : ℕ) (log : List (Tenure Entry)) (new : List Entry) (v w : EndPass) → Stays k set place log new v w →
    IsFoundAt k set log v
found_of k set place log new v w s =
    record {
      born = s.born;
      begins = s.begins;
      own = s.own;
      calm_log = s.calm_log;
      once = s.once;
      rests' = rests_first set.id (fresh set.tag set.place) (joined log) new s.rests;
    }

-- what others added since the driver saw the endpoint last moves nothing
still_rest : (frames : List ℕ) (device : Device) (k : ℕ) (set : EndSettings) (line : EndView) (log : List (Tenure Entry)) (v : EndPass) → v.mark ≡ v.seats →
    KnowsPlace frames device v.mark k set line (known_at k v) → (f : IsFoundAt k set log v) →
    AllAre (λ (x : Entry). moves_by x.event ≡ false) (joined f.begins.0)
still_rest frames device k set line log v last p f =
    calm_still v.seats rest (calm_then v.seats seen rest (subst (λ (ts : List (Tenure Entry)). calm moves v.seats ts ≡ true) f.begins.1 f.calm_log))
    (none_more 0 seen rest (ap (λ (ts : List (Tenure Entry)). length (of 0 ts)) (sym f.begins.1) ∙ f.once ∙ sym p.once))
    (subst (λ (m : ℕ). length (of m rest) ≡ 0) last
    (none_more v.mark seen rest (ap (λ (ts : List (Tenure Entry)). length (of v.mark ts)) (sym f.begins.1) ∙ ap length f.own ∙ sym (ap length p.own))))
  where
    seen : List (Tenure Entry)
    seen = (known_at k v).seen

    rest : List (Tenure Entry)
    rest = f.begins.0

pub lies_found : (frames : List ℕ) (device : Device) (k : ℕ) (set : EndSettings) (line : EndView) (log : List (Tenure Entry)) (v : EndPass) → v.mark ≡ v.seats →
    KnowsPlace frames device v.mark k set line (known_at k v) → IsFoundAt k set log v → LiesSo frames device k set (state_by set (joined log))
lies_found frames device k set line log v last p f =
    subst (LiesSo frames device k set) (sym (ap (state_by set) whole ∙ replay_append set.id (fresh set.tag set.place) (joined seen) (joined rest)))
    (lies_on frames device k set (state_by set (joined seen)) (joined rest) p.lies
    (rests_then set.id (fresh set.tag set.place) (joined seen) (joined rest) (subst (λ (xs : List Entry). rests set.id (fresh set.tag set.place) xs ≡ true)
    whole f.rests'))
    (still_rest frames device k set line log v last p f))
  where
    seen : List (Tenure Entry)
    seen = (known_at k v).seen

    rest : List (Tenure Entry)
    rest = f.begins.0

    whole : joined log ≡ joined seen ++ joined rest
    whole = ap joined f.begins.1 ∙ joined_append seen rest

-- ---- what it knows when it has left

abbrev left_known : ℕ → ℕ → List (Tenure Entry) → List Entry → ℕ → EndPass → Known Entry
left_known k place log new before v = left_with v.mark (joined log ++ new) place (inside_with before log (known_at k v))

knows_left : (frames : List ℕ) (device : Device) (k place before : ℕ) (set : EndSettings) (line : EndView) (log : List (Tenure Entry)) (new : List Entry)
    (v : EndPass) → 0 < v.mark → IsFoundAt k set log v → line ≡ line_by set (joined log ++ new) → LiesSo frames device k set (state_by set (joined log ++ new))
    → KnowsPlace frames device v.mark k set line (left_known k place log new before v)
knows_left frames device k place before set line log new v marked f shows l =
    record {
      shows = shows ∙ ap (line_by set) (sym (left_log v.mark log new));
      lies = subst (λ (xs : List Entry). LiesSo frames device k set (state_by set xs)) (sym (left_log v.mark log new)) l;
      own = of_append v.mark log (t ∷ []) ∙ ap (λ (xs : List (List Entry)). xs ++ of v.mark (t ∷ [])) f.own
          ∙ sym (of_append v.mark (known_at k v).made (t ∷ []));
      once =
          ap length (of_append 0 log (t ∷ []))
          ∙ ap (λ (b : Bool). length (of 0 log ++ cond b (t.items ∷ []) [])) (eqb_more v.mark 0 marked)
          ∙ ap length (append-nil (of 0 log))
          ∙ f.once;
    }
  where
    t : Tenure Entry
    t = tenure v.mark (drop (length (joined log)) (joined log ++ new))

can_after : (frames : ℕ) (node : NodeId) (view : ViewLists) (device device' : Device) (fs : List ℕ) (line : EndView) (last : Option EndpointId) (v : EndPass)
    (k : ℕ)
    (set : EndSettings) (x : Known Entry) → CanDrive frames node view device v → get_elem? v.births k ≡ some set → length fs ≡ frames
    → ((f : ℕ) → f < frames → slice_index fs f ≤ length v.births) → KnowsPlace fs device' v.mark k set line x
    → ((j : ℕ) (other : EndSettings) (its : EndView) → j ≢ k → get_elem? v.births j ≡ some other → slice_get view.ends j ≡ Some its →
    KnowsPlace fs device' v.mark j other its (known_at j v))
    → CanDrive frames node (record view { ends = slice_set view.ends k line; last = last }) device' (with_known k x (with_frames fs v))
can_after frames node view device device' fs line last v k set x c born sized owned here others =
    record {
      last = c.last;
      marked = c.marked;
      drives = c.drives;
      all = length-set view.ends k line ∙ c.all;
      wide = length-set v.known k x ∙ c.wide;
      framed = c.framed;
      sized = sized;
      owned = owned;
      homes = c.homes;
      apart = c.apart;
      each = each;
    }
  where
    low : k < length v.births
    low = born_low v.births k set born

    each : (j : ℕ) (other : EndSettings) (its : EndView) → get_elem? v.births j ≡ some other → slice_get (slice_set view.ends k line) j ≡ Some its →
        KnowsPlace fs device' v.mark j other its (slice_index_or (slice_set v.known k x) j nothing)
    each j other its there at =
        ⊎_elim
        (λ (same : j ≡ k).
        (let same_set : set ≡ other = some_set (sym born ∙ ap (get_elem? v.births) (sym same) ∙ there) in
        let same_line : line ≡ its = some_line (sym (line_here view.ends k line (omega (arith, low, c.all)))
        ∙ ap (slice_get (slice_set view.ends k line)) (sym same) ∙ at) in
        let known : slice_index_or (slice_set v.known k x) j nothing ≡ x = ap (λ (n : ℕ). slice_index_or (slice_set v.known k x) n nothing) same
        ∙ set_here v.known k x (omega (arith, low, c.wide)) in
        coe 0 1 (i. KnowsPlace fs device' v.mark (sym same i) (same_set i) (same_line i) (sym known i)) here))
        (λ (apart : j ≢ k).
        subst (KnowsPlace fs device' v.mark j other its) (sym (set_there v.known k j x apart))
        (others j other its apart there (sym (line_there view.ends k j line apart) ∙ at)))
        (cases_eq j k)
      where
        some_set : some set ≡ some other → set ≡ other
        some_set e = cc

        some_line : Some line ≡ Some its → line ≡ its
        some_line e = cc

pub line_at : (xs : List EndView) (k : ℕ) → k < length xs → (line : EndView) × (slice_get xs k ≡ Some line)
line_at [] k h = absurd (omega (arith, h))
line_at (x ∷ xs) zero h = (x, refl)
line_at (x ∷ xs) (suc k) h = line_at xs k (omega (arith, h))

pub lies_there : (frames : ℕ) (node : NodeId) (view : ViewLists) (device : Device) (v : EndPass) (k : ℕ) (set : EndSettings) (log : List (Tenure Entry)) →
    CanDrive frames node view device v → IsFoundAt k set log v → LiesSo v.frames device k set (state_by set (joined log))
lies_there frames node view device v k set log c f =
    let low = born_low v.births k set f.born in
    let had = line_at view.ends k (omega (arith, low, c.all)) in
    lies_found v.frames device k set had.0 log v c.last (c.each k set had.0 f.born had.1) f

pub others_still : (frames : ℕ) (node : NodeId) (view : ViewLists) (device : Device) (v : EndPass) (k : ℕ) (set : EndSettings) (log : List (Tenure Entry)) →
    CanDrive frames node view device v → (f : IsFoundAt k set log v) → AllAre (λ (x : Entry). moves_by x.event ≡ false) (joined f.begins.0)
others_still frames node view device v k set log c f =
    let low = born_low v.births k set f.born in
    let had = line_at view.ends k (omega (arith, low, c.all)) in
    still_rest v.frames device k set had.0 log v c.last (c.each k set had.0 f.born had.1) f

pub looks_keep : LooksKeep
looks_keep frames node k view view' device v w c l =
    coe 0 1 (i. CanDrive frames node (sym l.shown i) device (sym l.stays.left.1 i))
    (can_after frames node view device device v.frames (line_by l.set (joined l.log)) view.last v k l.set (left_known k l.place l.log [] l.stays.left.0 v) c
    l.stays.born c.sized c.owned here (λ j other its apart there at. c.each j other its there at))
  where
    f : IsFoundAt k l.set l.log v
    f = found_of k l.set l.place l.log [] v w l.stays

    here : KnowsPlace v.frames device v.mark k l.set (line_by l.set (joined l.log)) (left_known k l.place l.log [] l.stays.left.0 v)
    here =
        knows_left v.frames device k l.place l.stays.left.0 l.set (line_by l.set (joined l.log)) l.log [] v c.marked f
        (ap (line_by l.set) (sym (append-nil (joined l.log))))
        (subst (λ (xs : List Entry). LiesSo v.frames device k l.set (state_by l.set xs)) (sym (append-nil (joined l.log)))
        (lies_there frames node view device v k l.set l.log c f))

-- ---- a move

pub moved_id : (e : EndpointId) (x event : Event) (d : EndpointId) → Some x ≡ Some event → end_moved x ≡ Some e → end_moved event ≡ Some d → e ≡ d
moved_id e x event d g there end = let same : x ≡ event = cc in let both : Some e ≡ Some d = sym there ∙ ap end_moved same ∙ end in cc

-- the endpoint that the rules move, as its line shows it
pub suits_here : (frames : ℕ) (node : NodeId) (view : ViewLists) (device : Device) (v : EndPass) (k : ℕ) (set : EndSettings) (log : List Entry)
    (event : Event) →
    CanDrive frames node view device v → get_elem? v.births k ≡ some set → event_of node (next_move (with_line k (line_by set log) view)) ≡ Some event →
    end_moved event ≡ Some set.id
    → Suits (with_line k (line_by set log) view) (next_move (with_line k (line_by set log) view)) (line_by set log)
suits_here frames node view device v k set log event c born is end =
    ⊎_elim (λ (none : move ≡ Moves.Nothing). absurd (nothing_moves (ap (event_of node) (sym none) ∙ is))) at_line (moves_of_lines shown)
  where
    line : EndView
    line = line_by set log

    shown : ViewLists
    shown = with_line k line view

    move : Move
    move = next_move shown

    nothing_moves : None ≡ Some event → ⊥
    nothing_moves e = cc

    low : k < length view.ends
    low = let less = born_low v.births k set born in omega (arith, less, c.all)

    id_of : (m : Move) (l : EndView) → Suits shown m l → event_of node m ≡ Some event → l.id ≡ set.id
    id_of (Moves.Unload e) l s g = s.0 ∙ moved_id e (Events.Unload node e) event set.id g refl end
    id_of (Moves.PageIn e) l s g = s.0 ∙ moved_id e (Events.PageIn node e) event set.id g refl end
    id_of (Moves.Load e frame) l s g = s.0 ∙ moved_id e (Events.Load node e frame) event set.id g refl end
    id_of (Moves.Drain e) l s g = s.0 ∙ moved_id e (Events.Drain node e) event set.id g refl end
    id_of (Moves.PageOut e) l s g = s.0 ∙ moved_id e (Events.PageOut node e) event set.id g refl end
    id_of Moves.Nothing l s g = absurd s

    at_line : IsOfLine shown move → Suits shown move line
    at_line o = subst (Suits shown move) (sym same_line) o.suits
      where
        id : o.line.id ≡ set.id
        id = id_of move o.line o.suits is

        same_place : o.place ≡ k
        same_place =
            ⊎_elim (λ (same : o.place ≡ k). same)
            (λ (other : o.place ≢ k).
            (let at : slice_get view.ends o.place ≡ Some o.line = sym (line_there view.ends k o.place line other) ∙ o.at in
            let less = line_low view.ends o.place o.line at in
            let b = born_at v.births o.place (omega (arith, less, c.all)) in
            let p = c.each o.place b.set o.line b.at at in
            absurd (other (c.apart o.place k b.set set b.at born (ap (λ (l : EndView). l.id) (sym p.shows) ∙ id)))))
            (cases_eq o.place k)

        same_line : line ≡ o.line
        same_line = some_line (sym (line_here view.ends k line low) ∙ ap (slice_get (slice_set view.ends k line)) (sym same_place) ∙ o.at)
          where
            some_line : Some line ≡ Some o.line → line ≡ o.line
            some_line e = cc

pub same_event : (x event : Event) → Some x ≡ Some event → x ≡ event
same_event x event h = cc

-- so it lies as the move asks
pub may_of : (shown : ViewLists) (node : NodeId) (set : EndSettings) (log : List Entry) (frames : List ℕ) (m : Move) (event : Event) →
    Suits shown m (line_by set log) → event_of node m ≡ Some event → length frames ≡ shown.frames → MaySo frames (state_by set log) event
may_of shown node set log frames (Moves.Unload e) event s is long =
    let l = line_by set log in
    let framed : is_in_a_frame (state_by set log).head.place ≡ true = and_first (has_frame l) l.draining (and_first (is_leaving l) (l.in_flight == 0) s.1) in
    subst (MaySo frames (state_by set log)) (same_event (Events.Unload node e) event is) framed
may_of shown node set log frames (Moves.PageIn e) event s is long =
    let l = line_by set log in
    let away : is_on_disk (state_by set log).head.place ≡ true = and_first (is_on_disk l.place) l.wanted s.1 in
    subst (MaySo frames (state_by set log)) (same_event (Events.PageIn node e) event is) away
may_of shown node set log frames (Moves.Load e frame) event s is long =
    let l = line_by set log in
    let host : is_on_host (state_by set log).head.place ≡ true = and_first (is_on_host l.place) (not l.closed) (and_first (is_open_on_host l) l.wanted s.1) in
    subst (MaySo frames (state_by set log)) (same_event (Events.Load node e frame) event is) (host, (let less = s.3 in omega (arith, less, long)))
may_of shown node set log frames (Moves.Drain e) event s is long =
    let framed : is_in_a_frame (state_by set log).head.place ≡ true = s.1 in
    subst (MaySo frames (state_by set log)) (same_event (Events.Drain node e) event is) framed
may_of shown node set log frames (Moves.PageOut e) event s is long =
    let l = line_by set log in
    let host : is_on_host (state_by set log).head.place ≡ true =
    and_first (is_on_host l.place) (not l.closed) (and_first (is_open_on_host l) (not l.wanted) s.1) in
    subst (MaySo frames (state_by set log)) (same_event (Events.PageOut node e) event is) host
may_of shown node set log frames Moves.Nothing event s is long = absurd s

pub free_at : (xs : List EndView) (j frame : ℕ) (its : EndView) → is_free xs frame ≡ true → slice_get xs j ≡ Some its → is_in_frame frame its.place ≡ false
free_at [] j frame its free at = absurd (cc)
free_at (x ∷ xs) j frame its free at = by_test (is_in_frame frame x.place) refl free j at (λ i. free_at xs i frame its)
  where
    by_test : (b : Bool) → is_in_frame frame x.place ≡ b → not (b || list_any (λ (e : EndView). is_in_frame frame e.place) xs) ≡ true → (i : ℕ) →
        slice_get (x ∷ xs) i ≡ Some its
        → ((m : ℕ) → is_free xs frame ≡ true → slice_get xs m ≡ Some its → is_in_frame frame its.place ≡ false) → is_in_frame frame its.place ≡ false
    by_test true is none i here more = absurd (true≢false (sym none))
    by_test false is none zero here more = let same : x ≡ its = cc in ap (λ (e : EndView). is_in_frame frame e.place) (sym same) ∙ is
    by_test false is none (suc i) here more = more i none here

-- and no other endpoint lies in the frame that it is loaded into
leaves_free : (shown : ViewLists) (node : NodeId) (line : EndView) (m : Move) (event : Event) (j : ℕ) (its : EndView) (s : State) → Suits shown m line →
    event_of node m ≡ Some event → slice_get shown.ends j ≡ Some its → its.place ≡ s.head.place → LeavesFree s event
leaves_free shown node line (Moves.Unload e) event j its s suits is at place = subst (LeavesFree s) (same_event (Events.Unload node e) event is) tt
leaves_free shown node line (Moves.PageIn e) event j its s suits is at place = subst (LeavesFree s) (same_event (Events.PageIn node e) event is) tt
leaves_free shown node line (Moves.Load e frame) event j its s suits is at place =
    subst (LeavesFree s) (same_event (Events.Load node e frame) event is) (ap (is_in_frame frame) (sym place) ∙ free_at shown.ends j frame its suits.2 at)
leaves_free shown node line (Moves.Drain e) event j its s suits is at place = subst (LeavesFree s) (same_event (Events.Drain node e) event is) tt
leaves_free shown node line (Moves.PageOut e) event j its s suits is at place = subst (LeavesFree s) (same_event (Events.PageOut node e) event is) tt
leaves_free shown node line Moves.Nothing event j its s suits is at place = absurd suits

-- what it found doesn't depend on the frames
pub unframed : (frames : List ℕ) (k : ℕ) (set : EndSettings) (log : List (Tenure Entry)) (v : EndPass) → IsFoundAt k set log (with_frames frames v) →
    IsFoundAt k set log v
unframed frames k set log v f = record { born = f.born; begins = f.begins; own = f.own; calm_log = f.calm_log; once = f.once; rests' = f.rests' }

pub moves_keep : MovesKeep
moves_keep frames node k clock view view' device device' v w x c m =
    coe 0 1 (i. CanDrive frames node (sym m.shown i) (sym m.answered.device i) (sym m.stays.left.1 i))
    (can_after frames node view device after_device after_frames (line_by m.set (joined m.log ++ x ∷ [])) (last_after (next_move view) view.last) v k m.set
    (left_known k m.place m.log (x ∷ []) m.stays.left.0 v) c m.stays.born
    (frames_long k x.event s.head.place v.frames ∙ c.sized)
    (λ f less. owned_after v.frames device k m.set (joined m.log) x.event (length v.births) f lies may (born_low v.births k m.set m.stays.born)
    (c.owned f less))
    here others)
  where
    s : State
    s = state_by m.set (joined m.log)

    after_frames : List ℕ
    after_frames = frames_after k x.event s.head.place v.frames

    after_device : Device
    after_device = device_by (is_failed x.outcome) device (log_of m.set m.log) x.event

    f : IsFoundAt k m.set m.log v
    f = unframed after_frames k m.set m.log v (found_of k m.set m.place m.log (x ∷ []) (with_frames after_frames v) w m.stays)

    lies : LiesSo v.frames device k m.set s
    lies = lies_there frames node view device v k m.set m.log c f

    shown : ViewLists
    shown = with_line k (line_by m.set (joined m.log)) view

    event : event_of node (next_move shown) ≡ Some x.event
    event = ap (event_of node) m.still ∙ m.event

    suits : Suits shown (next_move shown) (line_by m.set (joined m.log))
    suits = suits_here frames node view device v k m.set (joined m.log) x.event c m.stays.born event m.end

    may : MaySo v.frames s x.event
    may = may_of shown node m.set (joined m.log) v.frames (next_move shown) x.event suits event (c.sized ∙ sym c.framed)

    grown : state_by m.set (joined m.log ++ x ∷ []) ≡ after m.set.id s x
    grown = replay_append m.set.id (fresh m.set.tag m.set.place) (joined m.log) (x ∷ [])

    here : KnowsPlace after_frames after_device v.mark k m.set (line_by m.set (joined m.log ++ x ∷ [])) (left_known k m.place m.log (x ∷ []) m.stays.left.0 v)
    here =
        knows_left after_frames after_device k m.place m.stays.left.0 m.set (line_by m.set (joined m.log ++ x ∷ [])) m.log (x ∷ []) v c.marked f refl
        (subst (LiesSo after_frames after_device k m.set) (sym grown) (lies_moved v.frames device k m.set (joined m.log) x.event x.outcome lies may
        m.answered.outcome
        m.answered.valid))

    others : (j : ℕ) (other : EndSettings) (its : EndView) → j ≢ k → get_elem? v.births j ≡ some other → slice_get view.ends j ≡ Some its →
        KnowsPlace after_frames after_device v.mark j other its (known_at j v)
    others j other its apart there at =
        let p = c.each j other its there at in
        let free = leaves_free shown node (line_by m.set (joined m.log)) (next_move shown) x.event j its (state_by other (joined (known_at j v).seen)) suits
        event (line_there view.ends k j (line_by m.set (joined m.log)) apart ∙ at) (ap (λ (l : EndView). l.place) p.shows) in
        record {
          shows = p.shows;
          lies = lies_beside v.frames device k m.set (joined m.log) j other (state_by other (joined (known_at j v).seen)) x.event (is_failed x.outcome) apart
              (other_id (same_end other.id m.set.id) refl) lies p.lies may free;
          own = p.own;
          once = p.once;
        }
      where
        other_id : (b : Bool) → same_end other.id m.set.id ≡ b → b ≡ false
        other_id true is = absurd (apart (c.apart j k other m.set there m.stays.born (same_end-is other.id m.set.id is)))
        other_id false is = refl
