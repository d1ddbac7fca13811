-- The choice is nothing just where no rule applies.
use Rattle.std.proofs.Common.{◌≡◌, ◌≢◌, Bool, true, false, ◌&&◌, ◌||◌, List, [], ◌∷◌, Option, Some, None, refl, sym, ◌∙◌, ap}
use Rattle.std.specs.Prelude.{is_some}
use Rattle.std.specs.List.{find, list_any}
use Rattle.std.specs.Option.{option_map, option_or}
use Rattle.am_lemmas.proofs.Bools.{and_first}
use Rattle.am_driver_moves.specs.declared.choice.EndView.{EndView}
use Rattle.am_driver_moves.specs.declared.choice.Move.{Move}
use Rattle.am_driver_moves.specs.declared.choice.Move.TheVariants as Moves
use Rattle.am_driver_moves.specs.Choice.Lists.{ViewLists}
use Rattle.am_driver_moves.specs.Choice.Moves.{has_frame, is_next, is_after, may_unload, wants_memory, wants_frame, may_page_out, free_frame, next_framed, must_drain}
use Rattle.am_driver_moves.specs.Choice.Moves.{is_crowded, given, load_into, unload, page_in, load, drain, page_out, first_move, next_move, NoRuleApplies}
use Rattle.am_driver_moves.proofs.Found.{some_found, weaker}

some_map : {X Y : Type 0} (f : X → Y) (o : Option X) → is_some (option_map f o) ≡ is_some o
some_map f None = refl
some_map f (Some x) = refl

some_given : {X : Type 0} (b : Bool) (o : Option X) → is_some (given b o) ≡ (b && is_some o)
some_given true o = refl
some_given false o = refl

some_or : {X : Type 0} (a b : Option X) → is_some (option_or a b) ≡ (is_some a || is_some b)
some_or None b = refl
some_or (Some x) b = refl

some_load : (frame : Option _) (end : Option EndView) → is_some (load_into frame end) ≡ (is_some end && is_some frame)
some_load None None = refl
some_load None (Some e) = refl
some_load (Some frame) None = refl
some_load (Some frame) (Some e) = refl

absorbed : (a b : Bool) → (a ≡ true → b ≡ true) → (a || b) ≡ b
absorbed true b h = sym (h refl)
absorbed false b h = refl

-- an endpoint is next in a frame where there is one in a frame
some_next : (view : ViewLists) → is_some (next_framed view) ≡ list_any has_frame view.ends
some_next view =
    let p : EndView → Bool = is_next view.last in
    some_or (find p view.ends) (find has_frame view.ends)
    ∙ (ap (λ (b : Bool). b || is_some (find has_frame view.ends)) (some_found p view.ends)
    ∙ (ap (λ (b : Bool). list_any p view.ends || b) (some_found has_frame view.ends)
    ∙ absorbed (list_any p view.ends) (list_any has_frame view.ends) (weaker p has_frame (λ e h. and_first (has_frame e) (is_after view.last e) h) view.ends)))

some_drain : (view : ViewLists) → is_some (drain view) ≡ (must_drain view && list_any has_frame view.ends)
some_drain view =
    some_map (λ (e : EndView). Moves.Drain e.id) (given (must_drain view) (next_framed view))
    ∙ (some_given (must_drain view) (next_framed view) ∙ ap (λ (b : Bool). must_drain view && b) (some_next view))

some_page_out : (view : ViewLists) → is_some (page_out view) ≡ (is_crowded view && list_any may_page_out view.ends)
some_page_out view =
    some_map (λ (e : EndView). Moves.PageOut e.id) (given (is_crowded view) (find may_page_out view.ends))
    ∙ (some_given (is_crowded view) (find may_page_out view.ends) ∙ ap (λ (b : Bool). is_crowded view && b) (some_found may_page_out view.ends))

some_of_load : (view : ViewLists) → is_some (load view) ≡ (list_any wants_frame view.ends && is_some (free_frame view))
some_of_load view =
    some_load (free_frame view) (find wants_frame view.ends)
    ∙ ap (λ (b : Bool). b && is_some (free_frame view)) (some_found wants_frame view.ends)

some_unload : (view : ViewLists) → is_some (unload view) ≡ list_any may_unload view.ends
some_unload view = some_map (λ (e : EndView). Moves.Unload e.id) (find may_unload view.ends) ∙ some_found may_unload view.ends

some_page_in : (view : ViewLists) → is_some (page_in view) ≡ list_any wants_memory view.ends
some_page_in view = some_map (λ (e : EndView). Moves.PageIn e.id) (find wants_memory view.ends) ∙ some_found wants_memory view.ends

-- no rule names the move Nothing
real_map : (f : EndView → Move) → ((e : EndView) → f e ≢ Moves.Nothing) → (o : Option EndView) → option_map f o ≢ Some Moves.Nothing
real_map f real None h = cc
real_map f real (Some e) h = real e (cc)

real_load : (frame : Option _) (end : Option EndView) → load_into frame end ≢ Some Moves.Nothing
real_load None end h = cc
real_load (Some frame) None h = cc
real_load (Some frame) (Some e) h = cc

passed : (o : Option Move) (rest : List (Option Move)) → o ≢ Some Moves.Nothing → first_move (o ∷ rest) ≡ Moves.Nothing →
    (is_some o ≡ false) × (first_move rest ≡ Moves.Nothing)
passed None rest real h = (refl, h)
passed (Some move) rest real h = absurd (real (ap (λ (m : Move). Some m) h))

passing : (o : Option Move) (rest : List (Option Move)) → is_some o ≡ false → first_move rest ≡ Moves.Nothing → first_move (o ∷ rest) ≡ Moves.Nothing
passing None rest e h = h
passing (Some move) rest e h = absurd (cc)

pub nothing_applies : (view : ViewLists) → next_move view ≡ Moves.Nothing → NoRuleApplies view
nothing_applies view h =
    let f5 : List (Option Move) = [] in
    let f4 : List (Option Move) = page_out view ∷ f5 in
    let f3 : List (Option Move) = drain view ∷ f4 in
    let f2 : List (Option Move) = load view ∷ f3 in
    let f1 : List (Option Move) = page_in view ∷ f2 in
    let h1 : (is_some (unload view) ≡ false) × (first_move f1 ≡ Moves.Nothing) =
    passed (unload view) f1 (real_map (λ (e : EndView). Moves.Unload e.id) (λ e w. cc) (find may_unload view.ends)) h in
    let h2 : (is_some (page_in view) ≡ false) × (first_move f2 ≡ Moves.Nothing) =
    passed (page_in view) f2 (real_map (λ (e : EndView). Moves.PageIn e.id) (λ e w. cc) (find wants_memory view.ends)) h1.1 in
    let h3 : (is_some (load view) ≡ false) × (first_move f3 ≡ Moves.Nothing) =
    passed (load view) f3 (real_load (free_frame view) (find wants_frame view.ends)) h2.1 in
    let h4 : (is_some (drain view) ≡ false) × (first_move f4 ≡ Moves.Nothing) =
    passed (drain view) f4 (real_map (λ (e : EndView). Moves.Drain e.id) (λ e w. cc) (given (must_drain view) (next_framed view))) h3.1 in
    let h5 : (is_some (page_out view) ≡ false) × (first_move f5 ≡ Moves.Nothing) =
    passed (page_out view) f5 (real_map (λ (e : EndView). Moves.PageOut e.id) (λ e w. cc) (given (is_crowded view) (find may_page_out view.ends))) h4.1 in
    record {
      unload = sym (some_unload view) ∙ h1.0;
      page_in = sym (some_page_in view) ∙ h2.0;
      load = sym (some_of_load view) ∙ h3.0;
      drain = sym (some_drain view) ∙ h4.0;
      page_out = sym (some_page_out view) ∙ h5.0;
    }

pub applies_nothing : (view : ViewLists) → NoRuleApplies view → next_move view ≡ Moves.Nothing
applies_nothing view none =
    let f4 : List (Option Move) = page_out view ∷ [] in
    let f3 : List (Option Move) = drain view ∷ f4 in
    let f2 : List (Option Move) = load view ∷ f3 in
    let f1 : List (Option Move) = page_in view ∷ f2 in
    passing (unload view) f1 (some_unload view ∙ none.unload)
    (passing (page_in view) f2 (some_page_in view ∙ none.page_in)
    (passing (load view) f3 (some_of_load view ∙ none.load)
    (passing (drain view) f4 (some_drain view ∙ none.drain)
    (passing (page_out view) [] (some_page_out view ∙ none.page_out) refl))))
