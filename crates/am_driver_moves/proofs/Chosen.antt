-- The rules choose a move of an endpoint whose line may be moved so.
use Rattle.std.proofs.Common.{◌≡◌, ◌⊎◌, inl, inr, ℕ, suc, ◌<◌, Bool, true, false, ◌&&◌, cond, List, [], ◌∷◌, Option, Some, None, refl, sym, ◌∙◌, ap, subst}
use Rattle.std.proofs.Common.{arith}
use Rattle.std.specs.Prelude.{is_some, not, slice_get}
use Rattle.std.specs.List.{find, list_any, range_with_len}
use Rattle.std.specs.Option.{option_map, option_or}
use Rattle.std.proofs.lemmas.Bool.{and_from, not-true}
use Rattle.am_lemmas.proofs.Bools.{and_first, and_second}
use Rattle.am_driver_moves.specs.declared.choice.EndView.{EndView}
use Rattle.am_driver_moves.specs.declared.choice.Move.{Move}
use Rattle.am_driver_moves.specs.declared.choice.Move.TheVariants as Moves
use Rattle.am_driver_moves.specs.Choice.Chosen.{IsOfLine, MovesOfLines}
use Rattle.am_driver_moves.specs.Choice.Lists.{ViewLists}
use Rattle.am_driver_moves.specs.Choice.Moves.{has_frame, is_leaving, is_next, is_after, may_unload, wants_memory, wants_frame, may_page_out, is_free, free_frame}
use Rattle.am_driver_moves.specs.Choice.Moves.{next_framed, must_drain, is_crowded, given, load_into, unload, page_in, load, drain, page_out, first_move}
use Rattle.am_driver_moves.proofs.Found.{IsFound, found, is_anything}
use Rattle.am_driver_moves.proofs.Frames.{range_below}

-- what is found stands somewhere, and passes
record IsAt (p : EndView → Bool) (xs : List EndView) (x : EndView) : Type 0 where
  pub place : ℕ
  pub at : slice_get xs place ≡ Some x
  pub passes : p x ≡ true

found_at : (p : EndView → Bool) (xs : List EndView) (x : EndView) → find p xs ≡ Some x → IsAt p xs x
found_at p [] x h = absurd (cc)
found_at p (y ∷ ys) x h = by_test (p y) refl h (found_at p ys x)
  where
    by_test : (b : Bool) → p y ≡ b → cond b (Some y) (find p ys) ≡ Some x → (find p ys ≡ Some x → IsAt p ys x) → IsAt p (y ∷ ys) x
    by_test true is h more = let same : y ≡ x = cc in record { place = 0; at = ap (λ (z : EndView). Some z) same; passes = ap p (sym same) ∙ is }
    by_test false is h more = let m = more h in record { place = suc m.place; at = m.at; passes = m.passes }

by_map : (view : ViewLists) (f : EndView → Move) (o : Option EndView) (move : Move) → ((e : EndView) → o ≡ Some e → IsOfLine view (f e)) →
    option_map f o ≡ Some move → IsOfLine view move
by_map view f None move each h = absurd (cc)
by_map view f (Some e) move each h = let is : f e ≡ move = cc in subst (IsOfLine view) is (each e refl)

by_load : (view : ViewLists) (frame : Option ℕ) (end : Option EndView) (move : Move) → ((k : ℕ) (e : EndView) → frame ≡ Some k → end ≡ Some e →
    IsOfLine view (Moves.Load e.id k)) → load_into frame end ≡ Some move → IsOfLine view move
by_load view None end move each h = absurd (cc)
by_load view (Some k) None move each h = absurd (cc)
by_load view (Some k) (Some e) move each h = let is : Moves.Load e.id k ≡ move = cc in subst (IsOfLine view) is (each k e refl refl)

given_some : {X : Type 0} (b : Bool) (o : Option X) (x : X) → given b o ≡ Some x → (b ≡ true) × (o ≡ Some x)
given_some true o x h = (refl, h)
given_some false o x h = absurd (cc)

unloads : (view : ViewLists) (e : EndView) → find may_unload view.ends ≡ Some e → IsOfLine view (Moves.Unload e.id)
unloads view e h = let a = found_at may_unload view.ends e h in record { place = a.place; line = e; at = a.at; suits = (refl, a.passes) }

pages_in : (view : ViewLists) (e : EndView) → find wants_memory view.ends ≡ Some e → IsOfLine view (Moves.PageIn e.id)
pages_in view e h = let a = found_at wants_memory view.ends e h in record { place = a.place; line = e; at = a.at; suits = (refl, a.passes) }

pages_out : (view : ViewLists) (e : EndView) → find may_page_out view.ends ≡ Some e → IsOfLine view (Moves.PageOut e.id)
pages_out view e h = let a = found_at may_page_out view.ends e h in record { place = a.place; line = e; at = a.at; suits = (refl, a.passes) }

loads : (view : ViewLists) (e : EndView) (frame : ℕ) → free_frame view ≡ Some frame → find wants_frame view.ends ≡ Some e →
    IsOfLine view (Moves.Load e.id frame)
loads view e frame free h =
    let a = found_at wants_frame view.ends e h in
    let f : IsFound (λ (k : ℕ). k < view.frames) (is_free view.ends) (range_with_len 0 view.frames) frame =
    found (λ (k : ℕ). k < view.frames) (is_free view.ends) (range_with_len 0 view.frames) frame (range_below 0 view.frames view.frames (omega arith)) free
    in
    record { place = a.place; line = e; at = a.at; suits = (refl, a.passes, f.passes, f.holds) }

-- one in a frame is not draining, where none in a frame is
drains : (view : ViewLists) (p : EndView → Bool) (e : EndView) → list_any is_leaving view.ends ≡ false → ((x : EndView) → p x ≡ true → has_frame x ≡ true) →
    find p view.ends ≡ Some e → IsOfLine view (Moves.Drain e.id)
drains view p e none framed h =
    let a = found_at p view.ends e h in
    let one : IsFound (λ (x : EndView). Unit {0}) p view.ends e = found (λ (x : EndView). Unit {0}) p view.ends e (is_anything view.ends) h in
    record { place = a.place; line = e; at = a.at; suits = (refl, framed e a.passes, by_test e.draining refl (framed e a.passes) one) }
  where
    by_test : (b : Bool) → e.draining ≡ b → has_frame e ≡ true → IsFound (λ (x : EndView). Unit {0}) p view.ends e → e.draining ≡ false
    by_test false is here one = is
    by_test true is here one = is ∙ (sym (one.among is_leaving (and_from (has_frame e) e.draining here is)) ∙ none)

by_next : (view : ViewLists) (e : EndView) → list_any is_leaving view.ends ≡ false → next_framed view ≡ Some e → IsOfLine view (Moves.Drain e.id)
by_next view e none h = by_found (find (is_next view.last) view.ends) refl h
  where
    by_found : (o : Option EndView) → find (is_next view.last) view.ends ≡ o → option_or o (find has_frame view.ends) ≡ Some e →
        IsOfLine view (Moves.Drain e.id)
    by_found None is h = drains view has_frame e none (λ x p. p) h
    by_found (Some d) is h = drains view (is_next view.last) e none (λ x p. and_first (has_frame x) (is_after view.last x) p) (is ∙ h)

first_chosen : (view : ViewLists) (o : Option Move) (rest : List (Option Move)) → ((move : Move) → o ≡ Some move → IsOfLine view move) →
    ((first_move rest ≡ Moves.Nothing) ⊎ IsOfLine view (first_move rest)) → ((first_move (o ∷ rest) ≡ Moves.Nothing) ⊎ IsOfLine view (first_move (o ∷ rest)))
first_chosen view None rest each more = more
first_chosen view (Some move) rest each more = inr (each move refl)

pub moves_of_lines : MovesOfLines
moves_of_lines view =
    first_chosen view (unload view) _ (λ move. by_map view (λ (e : EndView). Moves.Unload e.id) (find may_unload view.ends) move (unloads view))
    (first_chosen view (page_in view) _ (λ move. by_map view (λ (e : EndView). Moves.PageIn e.id) (find wants_memory view.ends) move (pages_in view))
    (first_chosen view (load view) _ (λ move. by_load view (free_frame view) (find wants_frame view.ends) move (λ k e is end. loads view e k is end))
    (first_chosen view (drain view) _ (λ move. by_map view (λ (e : EndView). Moves.Drain e.id) (given (must_drain view) (next_framed view)) move
    (λ e h. drained e (given_some (must_drain view) (next_framed view) e h)))
    (first_chosen view (page_out view) [] (λ move. by_map view (λ (e : EndView). Moves.PageOut e.id) (given (is_crowded view) (find may_page_out view.ends))
    move (λ e h. pages_out view e (given_some (is_crowded view) (find may_page_out view.ends) e h).1))
    (inl refl)))))
  where
    drained : (e : EndView) → (must_drain view ≡ true) × (next_framed view ≡ Some e) → IsOfLine view (Moves.Drain e.id)
    drained e (must, next) =
        by_next view e (not-true (list_any is_leaving view.ends) (and_second (list_any wants_frame view.ends && not (is_some (free_frame view)))
        (not (list_any is_leaving view.ends)) must)) next
