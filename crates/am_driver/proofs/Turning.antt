-- What a driver's looks and its move come to.
use Rattle.std.specs.Prelude.{position, slice_get}
use Rattle.std.specs.List.{position_or_len}
use Rattle.std.proofs.Common.{◌≡◌, ⊎_elim, ℕ, zero, suc, ◌+◌, ◌<◌, ◌≤◌, false, List, [], ◌∷◌, length, Option, Some, None, Ok, Err, get_or, refl, sym, ap, ◌∙◌}
use Rattle.std.proofs.Common.{subst, arith, eq-eqb, true≢false}
use Rattle.std.proofs.lemmas.Grind.{common_steps}
use Rattle.std.proofs.lemmas.List.Quantifiers.{position-Some}
use Rattle.std.proofs.lemmas.Option.{get_or_from_slice_get, slice_get-get_or, slice_get_within}
use Rattle.std.proofs.lemmas.List.Sums.{fails_before_first}
use Rattle.std.proofs.lemmas.List.{length-set}
use lib.ListN.{get_elem?}
use mathlib.Core.Option.{some}
use Rattle.am_names.specs.declared.EndpointId.{EndpointId}
use Rattle.am_names.specs.declared.NodeId.{NodeId}
use Rattle.am_names.specs.Names.{same_end}
use Rattle.am_office_entries.specs.declared.Event.{Event}
use Rattle.am_office_entries.specs.declared.Event.TheVariants as Events
use Rattle.am_office_entries.specs.declared.Place.TheVariants.{Host}
use Rattle.am_endpoint_body.specs.declared.settings.EndSettings.{EndSettings}
use Rattle.am_swap_device.specs.Causes.{Device}
use Rattle.am_endpoint.specs.View.{state_by}
use Rattle.am_office_entries.specs.declared.Entry.{Entry}
use Rattle.am_model.proofs.Names.{same_end-is}
use Rattle.am_model_parts.specs.Driver.{end_moved}
use Rattle.am_driver_moves.specs.Choice.Chosen.{IsOfLine, Suits}
use Rattle.am_driver_moves.specs.Choice.Lists.{ViewLists}
use Rattle.am_driver_moves.specs.Choice.Moves.{next_move}
use Rattle.am_driver_moves.specs.Choice.Shown.{event_of}
use Rattle.am_driver_moves.specs.declared.choice.EndView.{EndView}
use Rattle.am_driver_moves.specs.declared.choice.Move.{Move}
use Rattle.am_driver_moves.specs.declared.choice.Move.TheVariants as Moves
use Rattle.am_driver_moves.proofs.Chosen.{moves_of_lines}
use Rattle.am_places.specs.Rule.{joined}
use Rattle.am_scenario_types.specs.Lists.{ScenarioLists}
use Rattle.am_workers_laws.specs.Invariants.Drivers.{IsDriverOf}
use Rattle.am_workers_laws.specs.Invariants.Drives.{CanDrive, LooksTo, frames_after, line_by, with_frames}
use Rattle.am_workers_laws.specs.Invariants.Seats.{EndPass, Ids, SameSeat}
use Rattle.am_workers_laws.specs.Invariants.Works.{DriverWorks}
use Rattle.am_workers_laws.proofs.Drivers.{can_wait, drivers_go_on, drivers_look, drivers_rest, drivers_wait}
use Rattle.am_workers_laws.proofs.Driving.{looks_keep, moved_id, moves_keep, same_event}
use Rattle.am_workers_laws.proofs.Same.{busy_same, stays_same}
use Rattle.am_driver.specs.Turns.{Answer, DriverTurns, IsAtMove, IsFull, IsHeld, IsLate, IsSpent, IsStarved, MeetsSeat, MoveTurns}
use Rattle.am_driver.specs.declared.turns.DriverFault.TheVariants as Faults
use Rattle.am_driver.specs.declared.turns.DriverTurn.TheVariants as Turns

-- ---- looks

pub looks_can : (n frames : ℕ) (node : NodeId) (view view' : ViewLists) (device : Device) (v w : EndPass) → CanDrive frames node view device v →
    LooksTo n view view' v w → CanDrive frames node view' device w
looks_can zero frames node view view' device v w c l = coe 0 1 (i. CanDrive frames node (sym l.0 i) device (sym l.1 i)) c
looks_can (suc n) frames node view view' device v w c l = looks_keep frames node n l.0 view' device l.1 w (looks_can n frames node view l.0 device v l.1 c l.2)
    l.3

pub looks_works : (n : ℕ) (s : ScenarioLists) (ids : Ids) (node : NodeId) (turns clock : ℕ) (view view' : ViewLists) (device : Device) (v w : EndPass) →
    DriverWorks s ids node turns clock view device v → LooksTo n view view' v w → DriverWorks s ids node turns clock view' device w
looks_works zero s ids node turns clock view view' device v w h l = coe 0 1 (i. DriverWorks s ids node turns clock (sym l.0 i) device (sym l.1 i)) h
looks_works (suc n) s ids node turns clock view view' device v w h l =
    drivers_look s ids node turns n clock l.0 view' device l.1 w (looks_works n s ids node turns clock view l.0 device v l.1 h l.2) l.3

pub looks_long : (n : ℕ) (view view' : ViewLists) (v w : EndPass) → LooksTo n view view' v w → length view.ends ≡ length view'.ends
looks_long zero view view' v w l = ap (λ (z : ViewLists). length z.ends) (sym l.0)
looks_long (suc n) view view' v w l =
    looks_long n view l.0 v l.1 l.2 ∙ sym (ap (λ (z : ViewLists). length z.ends) l.3.shown ∙ length-set l.0.ends n (line_by l.3.set (joined l.3.log)))

pub stopped_can : (holder frames : ℕ) (node : NodeId) (view view' : ViewLists) (device : Device) (v w : EndPass) → CanDrive frames node view device v →
    MeetsSeat holder view view' v w → CanDrive frames node view' device w
stopped_can holder frames node view view' device v w c l = can_wait frames node l.k holder view' device l.between w
    (looks_can l.looked frames node view view' device v l.between c l.looks) l.busy

pub stopped_works : (holder : ℕ) (s : ScenarioLists) (ids : Ids) (node : NodeId) (turns clock : ℕ) (view view' : ViewLists) (device : Device) (v w : EndPass) →
    DriverWorks s ids node turns clock view device v → MeetsSeat holder view view' v w → DriverWorks s ids node (turns + 1) clock view' device w
stopped_works holder s ids node turns clock view view' device v w h l =
    drivers_rest s ids node turns clock view' device w
    (drivers_wait s ids node turns l.k holder clock view' device l.between w (looks_works l.looked s ids node turns clock view view' device v l.between h
    l.looks)
    l.busy)

-- ---- the move

same_now : (s : ScenarioLists) (ids : Ids) (node : NodeId) (turns clock now : ℕ) (view : ViewLists) (device device' : Device) (w : EndPass) → now ≡ clock →
    device' ≡ device → DriverWorks s ids node turns clock view device w → DriverWorks s ids node (turns + 1) now view device' w
same_now s ids node turns clock now view device device' w later same h =
    drivers_rest s ids node turns now view device' w (coe 0 1 (i. DriverWorks s ids node turns (sym later i) view (sym same i) w) h)

pub moved_can : (frames : ℕ) (node : NodeId) (k clock now : ℕ) (shown view' : ViewLists) (device device' : Device) (u w : EndPass) (r : Answer) →
    CanDrive frames node shown device u → MoveTurns node k clock now shown view' device device' u w r → CanDrive frames node view' device' w
moved_can frames node k clock now shown view' device device' u w (Ok (Turns.Did x)) c m = moves_keep frames node k clock shown view' device device' u w x c m.0
moved_can frames node k clock now shown view' device device' u w (Ok (Turns.Busy holder)) c m =
    coe 0 1 (i. CanDrive frames node (sym m.1 i) (sym m.2.1 i) w) (can_wait frames node k holder shown device u w c m.0)
moved_can frames node k clock now shown view' device device' u w (Ok (Turns.Stale e)) c m =
    subst (λ (t : Device). CanDrive frames node view' t w) (sym m.1.1) (looks_keep frames node k shown view' device u w c m.0.look)
moved_can frames node k clock now shown view' device device' u w (Ok (Turns.Spent e)) c m =
    subst (λ (t : Device). CanDrive frames node view' t w) (sym m.1.1) (looks_keep frames node k shown view' device u w c m.0.look)
moved_can frames node k clock now shown view' device device' u w (Ok Turns.Nothing) c m = absurd m
moved_can frames node k clock now shown view' device device' u w (Err (Faults.LogFull e)) c m =
    subst (λ (t : Device). CanDrive frames node view' t w) (sym m.1.1) (looks_keep frames node k shown view' device u w c m.0.look)
moved_can frames node k clock now shown view' device device' u w (Err Faults.NoMemory) c m =
    subst (λ (t : Device). CanDrive frames node view' t w) (sym m.2.1) (looks_keep frames node k shown view' device u w c m.1.look)

pub moved_works : (s : ScenarioLists) (ids : Ids) (node : NodeId) (turns k clock now : ℕ) (shown view' : ViewLists) (device device' : Device) (u w : EndPass)
    (r : Answer) → IsDriverOf s ids node turns → DriverWorks s ids node turns clock shown device u →
    MoveTurns node k clock now shown view' device device' u w r →
    DriverWorks s ids node (turns + 1) now view' device' w
moved_works s ids node turns k clock now shown view' device device' u w (Ok (Turns.Did x)) d h m =
    subst (λ (n : ℕ). DriverWorks s ids node (turns + 1) n view' device' w) (sym m.1) (drivers_go_on s ids node turns k clock shown view' device device' u w x d
    h
    m.0)
moved_works s ids node turns k clock now shown view' device device' u w (Ok (Turns.Busy holder)) d h m =
    subst (λ (z : ViewLists). DriverWorks s ids node (turns + 1) now z device' w) (sym m.1)
    (same_now s ids node turns clock now shown device device' w m.2.0 m.2.1 (drivers_wait s ids node turns k holder clock shown device u w h m.0))
moved_works s ids node turns k clock now shown view' device device' u w (Ok (Turns.Stale e)) d h m =
    same_now s ids node turns clock now view' device device' w m.1.0 m.1.1 (drivers_look s ids node turns k clock shown view' device u w h m.0.look)
moved_works s ids node turns k clock now shown view' device device' u w (Ok (Turns.Spent e)) d h m =
    same_now s ids node turns clock now view' device device' w m.1.0 m.1.1 (drivers_look s ids node turns k clock shown view' device u w h m.0.look)
moved_works s ids node turns k clock now shown view' device device' u w (Ok Turns.Nothing) d h m = absurd m
moved_works s ids node turns k clock now shown view' device device' u w (Err (Faults.LogFull e)) d h m =
    same_now s ids node turns clock now view' device device' w m.1.0 m.1.1 (drivers_look s ids node turns k clock shown view' device u w h m.0.look)
moved_works s ids node turns k clock now shown view' device device' u w (Err Faults.NoMemory) d h m =
    same_now s ids node turns clock now view' device device' w m.2.0 m.2.1 (drivers_look s ids node turns k clock shown view' device u w h m.1.look)

-- ---- the line of the endpoint that is moved

blank : EndpointId → EndView
blank e = record { id = e; place = Host; wanted = false; draining = false; closed = false; in_flight = 0 }

pub record IsFoundLine (e : EndpointId) (xs : List EndView) (k : ℕ) : Type 0 where
  pub low : k < length xs
  pub line : EndView
  pub at : slice_get xs k ≡ Some line
  pub id : line.id ≡ e

pub line_found : (e : EndpointId) (xs : List EndView) (k : ℕ) → position (λ (l : EndView). same_end e l.id) xs ≡ Some k → IsFoundLine e xs k
line_found e xs k is =
    let t = position-Some (λ (l : EndView). same_end e l.id) xs k (blank e) is in
    record { low = t.0; line = get_or xs k (blank e); at = slice_get-get_or xs k (blank e) t.0; id = sym (same_end-is e (get_or xs k (blank e)).id t.1) }

-- an event that moves the endpoint of a line names the endpoint that was born at its place
pub named_there : (frames : ℕ) (node : NodeId) (view : ViewLists) (device : Device) (v : EndPass) (event : Event) (e : EndpointId) (k : ℕ) →
    CanDrive frames node view device v → end_moved event ≡ Some e → position (λ (l : EndView). same_end e l.id) view.ends ≡ Some k → (set : EndSettings) →
    get_elem? v.births k ≡ some set → end_moved event ≡ Some set.id
named_there frames node view device v event e k can moved is set born =
    let found = line_found e view.ends k is in
    moved ∙ ap (λ (d : EndpointId). Some d) (sym found.id ∙ ap (λ (l : EndView). l.id) (can.each k set found.line born found.at).shows)

past_all : (e : EndpointId) (xs : List EndView) → position (λ (l : EndView). same_end e l.id) xs ≡ None →
    length xs ≤ position_or_len (λ (l : EndView). same_end e l.id) xs
past_all e xs none_is = grind (arith, common_steps)

line_missing : (e : EndpointId) (xs : List EndView) (j : ℕ) (line : EndView) → slice_get xs j ≡ Some line → line.id ≡ e →
    position (λ (l : EndView). same_end e l.id) xs ≡ None → ⊥
line_missing e xs j line at id none_is =
    let past = past_all e xs none_is in let near = slice_get_within xs j line at in
    let fails : same_end e (get_or xs j (blank e)).id ≡ false = fails_before_first (λ (l : EndView). same_end e l.id) xs j (blank e) (omega arith) in
    let there : get_or xs j (blank e) ≡ line = get_or_from_slice_get xs j line (blank e) at in
    true≢false (sym (ap (same_end e) (ap (λ (l : EndView). l.id) there ∙ id) ∙ eq-eqb e.0 e.0 refl) ∙ fails)

-- a move that has an event moves an endpoint
pub moves_one : (node : NodeId) (m : Move) (event : Event) → event_of node m ≡ Some event → end_moved event ≡ None → ⊥
moves_one node (Moves.Unload e) event is none = let bad : ◌≡◌ {A = Option EndpointId} (Some e) None = ap end_moved (same_event (Events.Unload node e) event is)
    ∙ none in cc
moves_one node (Moves.PageIn e) event is none = let bad : ◌≡◌ {A = Option EndpointId} (Some e) None = ap end_moved (same_event (Events.PageIn node e) event is)
    ∙ none in cc
moves_one node (Moves.Load e frame) event is none = let bad : ◌≡◌ {A = Option EndpointId} (Some e) None =
    ap end_moved (same_event (Events.Load node e frame) event is) ∙ none in cc
moves_one node (Moves.Drain e) event is none = let bad : ◌≡◌ {A = Option EndpointId} (Some e) None = ap end_moved (same_event (Events.Drain node e) event is)
    ∙ none in cc
moves_one node (Moves.PageOut e) event is none = let bad : ◌≡◌ {A = Option EndpointId} (Some e) None =
    ap end_moved (same_event (Events.PageOut node e) event is) ∙ none in cc
moves_one node Moves.Nothing event is none = cc

-- and one that has none is none
pub nothing_of : (node : NodeId) (m : Move) → event_of node m ≡ None → m ≡ Moves.Nothing
nothing_of node (Moves.Unload e) none = absurd (cc)
nothing_of node (Moves.PageIn e) none = absurd (cc)
nothing_of node (Moves.Load e frame) none = absurd (cc)
nothing_of node (Moves.Drain e) none = absurd (cc)
nothing_of node (Moves.PageOut e) none = absurd (cc)
nothing_of node Moves.Nothing none = refl

suits_id : (view : ViewLists) (node : NodeId) (m : Move) (l : EndView) (event : Event) (d : EndpointId) → Suits view m l → event_of node m ≡ Some event →
    end_moved event ≡ Some d → l.id ≡ d
suits_id view node (Moves.Unload e) l event d s is end = s.0 ∙ moved_id e (Events.Unload node e) event d is refl end
suits_id view node (Moves.PageIn e) l event d s is end = s.0 ∙ moved_id e (Events.PageIn node e) event d is refl end
suits_id view node (Moves.Load e frame) l event d s is end = s.0 ∙ moved_id e (Events.Load node e frame) event d is refl end
suits_id view node (Moves.Drain e) l event d s is end = s.0 ∙ moved_id e (Events.Drain node e) event d is refl end
suits_id view node (Moves.PageOut e) l event d s is end = s.0 ∙ moved_id e (Events.PageOut node e) event d is refl end
suits_id view node Moves.Nothing l event d s is end = absurd s

-- the endpoint that the rules move has a line
pub has_line : (view : ViewLists) (node : NodeId) (event : Event) (e : EndpointId) → event_of node (next_move view) ≡ Some event → end_moved event ≡ Some e →
    position (λ (l : EndView). same_end e l.id) view.ends ≡ None → ⊥
has_line view node event e is end none_is =
    ⊎_elim {C = ⊥} (λ (nothing : next_move view ≡ Moves.Nothing). no_event (ap (event_of node) (sym nothing) ∙ is))
    (λ (o : IsOfLine view (next_move view)). line_missing e view.ends o.place o.line o.at (suits_id view node (next_move view) o.line event e o.suits is end)
    none_is)
    (moves_of_lines view)
  where
    no_event : None ≡ Some event → ⊥
    no_event h = cc

-- ---- the seat

pub same_then : (u v w : EndPass) → SameSeat u v → SameSeat v w → SameSeat u w
same_then u v w g h = record { mark = h.mark ∙ g.mark; seats = h.seats ∙ g.seats; births = h.births ∙ g.births }

pub looks_same : (n : ℕ) (view view' : ViewLists) (v w : EndPass) → LooksTo n view view' v w → SameSeat v w
looks_same zero view view' v w l = record {
  mark = ap (λ (x : EndPass). x.mark) l.1;
  seats = ap (λ (x : EndPass). x.seats) l.1;
  births = ap (λ (x : EndPass). x.births) l.1;
}
looks_same (suc n) view view' v w l = same_then v l.1 w (looks_same n view l.0 v l.1 l.2) (stays_same n l.3.set l.3.place l.3.log [] l.1 w l.3.stays)

pub stopped_same : (holder : ℕ) (view view' : ViewLists) (v w : EndPass) → MeetsSeat holder view view' v w → SameSeat v w
stopped_same holder view view' v w l = same_then v l.between w (looks_same l.looked view view' v l.between l.looks) (busy_same l.k holder l.between w l.busy)

held_same : (k : ℕ) (e : EndpointId) (Why : ViewLists → EndSettings → List Entry → Type 0) (shown view' : ViewLists) (u w : EndPass) →
    IsHeld k e Why shown view' u w → SameSeat u w
held_same k e Why shown view' u w h = stays_same k h.look.set h.look.place h.look.log [] u w h.look.stays

moved_same : (node : NodeId) (k clock now : ℕ) (shown view' : ViewLists) (device device' : Device) (u w : EndPass) (r : Answer) →
    MoveTurns node k clock now shown view' device device' u w r → SameSeat u w
moved_same node k clock now shown view' device device' u w (Ok (Turns.Did x)) m =
    let s = stays_same k m.0.set m.0.place m.0.log (x ∷ []) (with_frames (frames_after k x.event (state_by m.0.set (joined m.0.log)).head.place u.frames) u) w
    m.0.stays in
    record { mark = s.mark; seats = s.seats; births = s.births }
moved_same node k clock now shown view' device device' u w (Ok (Turns.Busy holder)) m = busy_same k holder u w m.0
moved_same node k clock now shown view' device device' u w (Ok (Turns.Stale e)) m = held_same k e (IsLate view') shown view' u w m.0
moved_same node k clock now shown view' device device' u w (Ok (Turns.Spent e)) m = held_same k e (IsSpent clock view') shown view' u w m.0
moved_same node k clock now shown view' device device' u w (Ok Turns.Nothing) m = absurd m
moved_same node k clock now shown view' device device' u w (Err (Faults.LogFull e)) m = held_same k e (IsFull view') shown view' u w m.0
moved_same node k clock now shown view' device device' u w (Err Faults.NoMemory) m = held_same k m.0 (IsStarved view') shown view' u w m.1

-- the same seat after the looks and the move
pub turned_same : (n : ℕ) (node : NodeId) (k clock now : ℕ) (view shown view' : ViewLists) (device device' : Device) (v u w : EndPass) (r : Answer) →
    LooksTo n view shown v u → MoveTurns node k clock now shown view' device device' u w r → SameSeat v w
turned_same n node k clock now view shown view' device device' v u w r looks m =
    same_then v u w (looks_same n view shown v u looks) (moved_same node k clock now shown view' device device' u w r m)

-- ---- the turn

-- the looks and then the move are a turn
pub turns_so : (n : ℕ) (node : NodeId) (k clock now : ℕ) (view shown view' : ViewLists) (device device' : Device) (v u w : EndPass) (event : Event)
    (r : Answer) →
    LooksTo n view shown v u → event_of node (next_move shown) ≡ Some event → ((set : EndSettings) → get_elem? u.births k ≡ some set →
    end_moved event ≡ Some set.id)
    → MoveTurns node k clock now shown view' device device' u w r → DriverTurns n node clock now view view' device device' v w r
turns_so n node k clock now view shown view' device device' v u w event r looks chosen end m = by_answer r m
  where
    at_move : (a : Answer) → MoveTurns node k clock now shown view' device device' u w a → IsAtMove n node clock now view view' device device' v w a
    at_move a m = record { k = k; shown = shown; between = u; looks = looks; event = event; chosen = chosen; end = end; turn = m }

    by_answer : (a : Answer) → MoveTurns node k clock now shown view' device device' u w a → DriverTurns n node clock now view view' device device' v w a
    by_answer (Ok (Turns.Did x)) m = at_move (Ok (Turns.Did x)) m
    by_answer (Ok (Turns.Busy holder)) m = (
      record {
        looked = n;
        k = k;
        between = u;
        looks = subst (λ (z : ViewLists). LooksTo n view z v u) (sym m.1) looks;
        busy = m.0;
      },
      m.2,
    )
    by_answer (Ok (Turns.Stale e)) m = at_move (Ok (Turns.Stale e)) m
    by_answer (Ok (Turns.Spent e)) m = at_move (Ok (Turns.Spent e)) m
    by_answer (Ok Turns.Nothing) m = absurd m
    by_answer (Err (Faults.LogFull e)) m = at_move (Err (Faults.LogFull e)) m
    by_answer (Err Faults.NoMemory) m = at_move (Err Faults.NoMemory) m
