-- Each move is enabled in the state that the view shows.
use Rattle.std.proofs.Common.{◌≡◌, ℕ, ◌<◌, Bool, true, false, ◌&&◌, List, [], ◌∷◌, Option, Some, None, refl, sym, ◌∙◌, ap, subst, arith, lt-ltb}
use Rattle.std.specs.Prelude.{is_some, not, nat_lt, ◌==◌}
use Rattle.std.specs.List.{find, list_any, range_with_len}
use Rattle.std.specs.Option.{option_map, option_or}
use Rattle.std.proofs.lemmas.Bool.{and_from, not-true}
use Rattle.am_lemmas.proofs.Bools.{and_first, and_second}
use Rattle.am_lemmas.proofs.Options.{cond-None}
use Rattle.am_names.specs.declared.EndpointId.{EndpointId}
use Rattle.am_names.specs.declared.NodeId.{NodeId}
use Rattle.am_names.specs.Names.{same_end, same_node}
use Rattle.am_office_entries.specs.declared.Entry.{Entry}
use Rattle.am_office_entries.specs.declared.Place.{Place}
use Rattle.am_model.specs.Endpoint.{is_resident, is_on_disk, is_on_host}
use Rattle.am_model.specs.Layout.{Layout, EndSetting, declared, has_id}
use Rattle.am_model.specs.History.{is_home, is_in_frame, is_frame_held, state_of}
use Rattle.am_driver_moves.specs.declared.choice.EndView.{EndView}
use Rattle.am_driver_moves.specs.declared.choice.Move.{Move}
use Rattle.am_driver_moves.specs.declared.choice.Move.TheVariants as Moves
use Rattle.am_driver_moves.specs.Choice.Lists.{ViewLists}
use Rattle.am_driver_moves.specs.Choice.Moves.{has_frame, is_leaving, is_next, is_after, may_unload, wants_memory, wants_frame, may_page_out, is_open_on_host, is_free}
use Rattle.am_driver_moves.specs.Choice.Moves.{free_frame, next_framed, must_drain, is_crowded, given, load_into, unload, page_in, load, drain, page_out, first_move}
use Rattle.am_driver_moves.specs.Choice.Moves.{next_move}
use Rattle.am_driver_moves.specs.Choice.Shown.{ShowsEnd, Shows, is_line_of, IsEnabledWhereShown}
use Rattle.am_driver_moves.proofs.Found.{IsFound, Finds, found, finds, weaker, is_anything, not_true}
use Rattle.am_model.proofs.Names.{same_end-is, same_end-refl}
use Rattle.am_model.proofs.PlaceKinds.{framed_is_resident}
use Rattle.am_driver_moves.proofs.Frames.{range_below}

node_in : (layout : Layout) (past : List Entry) (node : NodeId) (view : ViewLists) → Shows layout past node view → nat_lt node.0 layout.nodes ≡ true
node_in layout past node view shows = lt-ltb _ _ shows.node_declared

is_declared : (layout : Layout) (past : List Entry) (node : NodeId) (e : EndView) → ShowsEnd layout past node e → declared layout e.id ≡ true
is_declared layout past node e line =
    weaker (λ (s : EndSetting). same_end e.id s.id && same_node node s.node) (has_id e.id) (λ s h. and_first (same_end e.id s.id) (same_node node s.node) h)
    layout.ends line.home

-- what a line says of the place, as the state has it
placed : (test : Place → Bool) (layout : Layout) (past : List Entry) (node : NodeId) (e : EndView) → ShowsEnd layout past node e → test e.place ≡ true →
    test (state_of layout past e.id).head.place ≡ true
placed test layout past node e line h = sym (ap test line.place) ∙ h

at_node : (layout : Layout) (past : List Entry) (node : NodeId) (view : ViewLists) (e : EndView) → Shows layout past node view → ShowsEnd layout past node e →
    (declared layout e.id && nat_lt node.0 layout.nodes) ≡ true
at_node layout past node view e shows line = and_from (declared layout e.id) (nat_lt node.0 layout.nodes) (is_declared layout past node e line)
    (node_in layout past node view shows)

unload_enabled : (view : ViewLists) (e : EndView) → find may_unload view.ends ≡ Some e → IsEnabledWhereShown view (Moves.Unload e.id)
unload_enabled view e h layout past node shows =
    let one : IsFound (ShowsEnd layout past node) may_unload view.ends e = found (ShowsEnd layout past node) may_unload view.ends e shows.right h in
    let line : ShowsEnd layout past node e = one.holds in
    let leaving : is_leaving e ≡ true = and_first (is_leaving e) (e.in_flight == 0) one.passes in
    let landed : (e.in_flight == 0) ≡ true = and_second (is_leaving e) (e.in_flight == 0) one.passes in
    let resident : is_resident e.place ≡ true = framed_is_resident e.place (and_first (has_frame e) e.draining leaving) in (
      at_node layout past node view e shows line,
      cond-None _ _ _ shows.packet
          (cond-None _ _ _ (not_true _ line.home)
          (cond-None _ _ _ (not_true _ (placed is_resident layout past node e line resident))
          (cond-None _ _ _ (not_true _ (sym line.draining ∙ and_second (has_frame e) e.draining leaving))
          (cond-None _ _ _ (not_true _ (sym (ap (λ (n : ℕ). n == 0) line.in_flight) ∙ landed)) refl)))),
    )

page_in_enabled : (view : ViewLists) (e : EndView) → find wants_memory view.ends ≡ Some e → IsEnabledWhereShown view (Moves.PageIn e.id)
page_in_enabled view e h layout past node shows =
    let one : IsFound (ShowsEnd layout past node) wants_memory view.ends e = found (ShowsEnd layout past node) wants_memory view.ends e shows.right h in
    let line : ShowsEnd layout past node e = one.holds in (
      at_node layout past node view e shows line,
      cond-None _ _ _ shows.packet
          (cond-None _ _ _ (not_true _ line.home)
          (cond-None _ _ _ (not_true _ (placed is_on_disk layout past node e line (and_first (is_on_disk e.place) e.wanted one.passes))) refl)),
    )

record IsOpenOnHost (layout : Layout) (past : List Entry) (e : EndView) : Type 0 where
  on_host : not (is_on_host (state_of layout past e.id).head.place) ≡ false
  unclosed : (state_of layout past e.id).head.closed ≡ false

open_on_host : (layout : Layout) (past : List Entry) (node : NodeId) (e : EndView) → ShowsEnd layout past node e → is_open_on_host e ≡ true →
    IsOpenOnHost layout past e
open_on_host layout past node e line h =
    record {
      on_host = not_true _ (placed is_on_host layout past node e line (and_first (is_on_host e.place) (not e.closed) h));
      unclosed = sym line.closed ∙ not-true e.closed (and_second (is_on_host e.place) (not e.closed) h);
    }

-- a frame that is free in the view is held by no endpoint of the node
free_in : (layout : Layout) (past : List Entry) (node : NodeId) (view : ViewLists) (frame : ℕ) → Shows layout past node view → is_free view.ends frame ≡ true →
    is_frame_held layout past node frame ≡ false
free_in layout past node view frame shows free = by_test (is_frame_held layout past node frame) refl
  where
    at_home : (s : EndSetting) → same_node node s.node ≡ true → (same_end s.id s.id && same_node node s.node) ≡ true
    at_home s h = and_from (same_end s.id s.id) (same_node node s.node) (same_end-refl s.id) h

    held : (s : EndSetting) (e : EndView) → ShowsEnd layout past node e → same_end s.id e.id ≡ true →
        is_in_frame frame (state_of layout past s.id).head.place ≡ true → is_in_frame frame e.place ≡ true
    held s e line same h =
        let id : s.id ≡ e.id = same_end-is s.id e.id same in
        ap (is_in_frame frame) line.place ∙ (ap (λ (n : EndpointId). is_in_frame frame (state_of layout past n).head.place) (sym id) ∙ h)

    by_line : (s : EndSetting) → Finds (ShowsEnd layout past node) (is_line_of s.id) view.ends →
        is_in_frame frame (state_of layout past s.id).head.place ≡ true → false ≡ true
    by_line s line h =
        sym (not-true (list_any (λ (e : EndView). is_in_frame frame e.place) view.ends) free)
        ∙ line.found.among (λ (e : EndView). is_in_frame frame e.place) (held s line.value line.found.holds line.found.passes h)

    by_setting : Finds (λ (s : EndSetting). Unit {0}) (λ (s : EndSetting). same_node node s.node && is_in_frame frame (state_of layout past s.id).head.place)
        layout.ends → false ≡ true
    by_setting one =
        let s : EndSetting = one.value in
        let here : same_node node s.node ≡ true = and_first (same_node node s.node) (is_in_frame frame (state_of layout past s.id).head.place) one.found.passes
        in
        let home : is_home layout s.id node ≡ true = one.found.among (λ (t : EndSetting). same_end s.id t.id && same_node node t.node) (at_home s here) in
        by_line s (finds (ShowsEnd layout past node) (is_line_of s.id) view.ends shows.right (shows.whole s.id home))
        (and_second (same_node node s.node) (is_in_frame frame (state_of layout past s.id).head.place) one.found.passes)

    by_test : (b : Bool) → is_frame_held layout past node frame ≡ b → is_frame_held layout past node frame ≡ false
    by_test true h = h ∙ sym (by_setting (finds (λ (s : EndSetting). Unit {0}) (λ (s : EndSetting). same_node node s.node && is_in_frame frame
        (state_of layout past s.id).head.place) layout.ends (is_anything layout.ends) h))
    by_test false h = h

load_enabled : (view : ViewLists) (e : EndView) (frame : ℕ) → free_frame view ≡ Some frame → find wants_frame view.ends ≡ Some e →
    IsEnabledWhereShown view (Moves.Load e.id frame)
load_enabled view e frame is_frame h layout past node shows =
    let one : IsFound (ShowsEnd layout past node) wants_frame view.ends e = found (ShowsEnd layout past node) wants_frame view.ends e shows.right h in
    let line : ShowsEnd layout past node e = one.holds in
    let free : IsFound (λ (k : ℕ). k < view.frames) (is_free view.ends) (range_with_len 0 view.frames) frame =
    found (λ (k : ℕ). k < view.frames) (is_free view.ends) (range_with_len 0 view.frames) frame (range_below 0 view.frames view.frames (omega arith))
    is_frame in
    let open_there : IsOpenOnHost layout past e = open_on_host layout past node e line (and_first (is_open_on_host e) e.wanted one.passes) in
    let below : frame < view.frames = free.holds in
    let in_layout : nat_lt frame layout.frames ≡ true = ap (λ (n : ℕ). nat_lt frame n) (sym shows.frames) ∙ lt-ltb _ _ below in (
      and_from (declared layout e.id && nat_lt node.0 layout.nodes) (nat_lt frame layout.frames) (at_node layout past node view e shows line) in_layout,
      cond-None _ _ _ shows.packet
          (cond-None _ _ _ (not_true _ line.home)
          (cond-None _ _ _ open_there.on_host
          (cond-None _ _ _ open_there.unclosed
          (cond-None _ _ _ (free_in layout past node view frame shows free.passes) refl)))),
    )

page_out_enabled : (view : ViewLists) (e : EndView) → find may_page_out view.ends ≡ Some e → IsEnabledWhereShown view (Moves.PageOut e.id)
page_out_enabled view e h layout past node shows =
    let one : IsFound (ShowsEnd layout past node) may_page_out view.ends e = found (ShowsEnd layout past node) may_page_out view.ends e shows.right h in
    let line : ShowsEnd layout past node e = one.holds in
    let open_there : IsOpenOnHost layout past e = open_on_host layout past node e line (and_first (is_open_on_host e) (not e.wanted) one.passes) in (
      at_node layout past node view e shows line,
      cond-None _ _ _ shows.packet
          (cond-None _ _ _ (not_true _ line.home)
          (cond-None _ _ _ open_there.on_host
          (cond-None _ _ _ open_there.unclosed refl))),
    )

-- an endpoint in a frame may be drained where none in a frame is draining
drain_enabled : (view : ViewLists) (p : EndView → Bool) (e : EndView) → list_any is_leaving view.ends ≡ false →
    ((x : EndView) → p x ≡ true → has_frame x ≡ true) → find p view.ends ≡ Some e → IsEnabledWhereShown view (Moves.Drain e.id)
drain_enabled view p e none framed h layout past node shows =
    let one : IsFound (ShowsEnd layout past node) p view.ends e = found (ShowsEnd layout past node) p view.ends e shows.right h in
    let line : ShowsEnd layout past node e = one.holds in
    let here : has_frame e ≡ true = framed e one.passes in
    let undrained : e.draining ≡ false = by_test e.draining refl here one none in (
      at_node layout past node view e shows line,
      cond-None _ _ _ shows.packet
          (cond-None _ _ _ (not_true _ line.home)
          (cond-None _ _ _ (not_true _ (placed is_resident layout past node e line (framed_is_resident e.place here)))
          (cond-None _ _ _ (sym line.draining ∙ undrained) refl))),
    )
  where
    by_test : {P : EndView → Type 0} (b : Bool) → e.draining ≡ b → has_frame e ≡ true → IsFound P p view.ends e → list_any is_leaving view.ends ≡ false →
        e.draining ≡ false
    by_test false is here one none = is
    by_test true is here one none = is ∙ (sym (one.among is_leaving (and_from (has_frame e) e.draining here is)) ∙ none)

-- a rule that names a move names one that is enabled
by_map : (view : ViewLists) (f : EndView → Move) (o : Option EndView) (move : Move) → ((e : EndView) → o ≡ Some e → IsEnabledWhereShown view (f e)) →
    option_map f o ≡ Some move → IsEnabledWhereShown view move
by_map view f None move each h = absurd (cc)
by_map view f (Some e) move each h = let is : f e ≡ move = cc in subst (IsEnabledWhereShown view) is (each e refl)

by_load : (view : ViewLists) (frame : Option ℕ) (end : Option EndView) (move : Move) → ((k : ℕ) (e : EndView) → frame ≡ Some k → end ≡ Some e →
    IsEnabledWhereShown view (Moves.Load e.id k)) → load_into frame end ≡ Some move → IsEnabledWhereShown view move
by_load view None end move each h = absurd (cc)
by_load view (Some k) None move each h = absurd (cc)
by_load view (Some k) (Some e) move each h = let is : Moves.Load e.id k ≡ move = cc in subst (IsEnabledWhereShown view) is (each k e refl refl)

given_some : {X : Type 0} (b : Bool) (o : Option X) (x : X) → given b o ≡ Some x → (b ≡ true) × (o ≡ Some x)
given_some true o x h = (refl, h)
given_some false o x h = absurd (cc)

by_next : (view : ViewLists) (e : EndView) → list_any is_leaving view.ends ≡ false → next_framed view ≡ Some e → IsEnabledWhereShown view (Moves.Drain e.id)
by_next view e none h = by_found (find (is_next view.last) view.ends) refl h
  where
    by_found : (o : Option EndView) → find (is_next view.last) view.ends ≡ o → option_or o (find has_frame view.ends) ≡ Some e →
        IsEnabledWhereShown view (Moves.Drain e.id)
    by_found None is h = drain_enabled view has_frame e none (λ x p. p) h
    by_found (Some d) is h = drain_enabled view (is_next view.last) e none (λ x p. and_first (has_frame x) (is_after view.last x) p) (is ∙ h)

first_enabled : (view : ViewLists) (o : Option Move) (rest : List (Option Move)) → ((move : Move) → o ≡ Some move → IsEnabledWhereShown view move) →
    IsEnabledWhereShown view (first_move rest) → IsEnabledWhereShown view (first_move (o ∷ rest))
first_enabled view None rest each more = more
first_enabled view (Some move) rest each more = each move refl

pub enabled : (view : ViewLists) → IsEnabledWhereShown view (next_move view)
enabled view =
    first_enabled view (unload view) _ (λ move. by_map view (λ (e : EndView). Moves.Unload e.id) (find may_unload view.ends) move (unload_enabled view))
    (first_enabled view (page_in view) _ (λ move. by_map view (λ (e : EndView). Moves.PageIn e.id) (find wants_memory view.ends) move (page_in_enabled view))
    (first_enabled view (load view) _ (λ move. by_load view (free_frame view) (find wants_frame view.ends) move (λ k e is end. load_enabled view e k is end))
    (first_enabled view (drain view) _ (λ move. by_map view (λ (e : EndView). Moves.Drain e.id) (given (must_drain view) (next_framed view)) move
    (λ e h. drained e (given_some (must_drain view) (next_framed view) e h)))
    (first_enabled view (page_out view) [] (λ move. by_map view (λ (e : EndView). Moves.PageOut e.id) (given (is_crowded view) (find may_page_out view.ends))
    move (λ e h. page_out_enabled view e (given_some (is_crowded view) (find may_page_out view.ends) e h).1))
    (λ layout past node shows. tt)))))
  where
    drained : (e : EndView) → (must_drain view ≡ true) × (next_framed view ≡ Some e) → IsEnabledWhereShown view (Moves.Drain e.id)
    drained e (must, next) =
        by_next view e (not-true (list_any is_leaving view.ends) (and_second (list_any wants_frame view.ends && not (is_some (free_frame view)))
        (not (list_any is_leaving view.ends)) must)) next
