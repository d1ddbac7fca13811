-- The rule says what the words and the books are.
use Rattle.std.proofs.Common.{◌≡◌, ◌≢◌, ◌↔◌, inl, inr, [], ◌∷◌, ℕ, zero, suc, ◌+◌, ◌<◌, ◌≤◌, ◌==◌, ◌||◌, not, Bool, true, false, List, length, get_or, sym, ◌∙◌}
use Rattle.std.proofs.Common.{ap, subst, ⊎_elim, true≢false, ne_eqb, arith}
use mathlib.Core.Option.{some, some-injective}
use lib.ListN.{get_elem?}
use Rattle.std.specs.Prelude.{Some, slice_get}
use Rattle.std.proofs.lemmas.Bool.{cases_eq}
use Rattle.atomic_table.proofs.Lists.{at_longer, at_map}
use Rattle.am_names.specs.declared.EndpointId.{EndpointId}
use Rattle.am_places.proofs.Ends.{and_left, and_right, both_ways, held_by, which}
use Rattle.am_places.proofs.Steps.{at_map_back}
use Rattle.am_places.specs.Rule.{At, FrameFits, Line, calm, column, has, joined, known_at, line, stirs, word_of}
use Rattle.am_places.specs.declared.board.Pass.{Pass}
use Rattle.am_places.specs.declared.board.Tenure.{Tenure}
use Rattle.am_places_stays.specs.Moments.Moments.{FrameWordsFitPlaces, FrameWordsNameOwners, FreeBooksLieThere, HoldersAreSeats, HoldersHaveSeenAll, HoldersSayTheyHold}
use Rattle.am_places_stays.specs.Moments.Moments.{IsFrame, IsOf, Moment, OnlyTheDriverMoves, holder, owner, shown}

same_end : (d e : EndpointId) → d.0 ≡ e.0 → d ≡ e
same_end d e h = λ i. record { 0 = h i }

-- of what a seat other than the driver's has done
calm_at : {I : Type 0} (moves : I → Bool) (d i : ℕ) (ts : List (Tenure I)) (x : Tenure I) → calm moves d ts ≡ true → get_elem? ts i ≡ some x → 0 < x.by →
    x.by ≢ d → stirs moves x.items ≡ false
calm_at {I} moves d i [] x h at pos other = absurd cc
calm_at {I} moves d zero (t ∷ ts) x h at pos other =
    let is : t ≡ x = some-injective t x at in
    let here : (x.by == 0) || ((x.by == d) || not (stirs moves x.items)) ≡ true =
    subst (λ (u : Tenure I). (u.by == 0) || ((u.by == d) || not (stirs moves u.items)) ≡ true) is
    (and_left ((t.by == 0) || ((t.by == d) || not (stirs moves t.items))) (calm moves d ts) h) in
    let rest : not (stirs moves x.items) ≡ true = sym (ap (λ (b : Bool). b || ((x.by == d) || not (stirs moves x.items))) (ne_eqb x.by 0 (λ e. omega arith))
    ∙ ap (λ (b : Bool). b || not (stirs moves x.items)) (ne_eqb x.by d other)) ∙ here in
    ⊎_elim (λ (yes : stirs moves x.items ≡ true). absurd (true≢false (sym rest ∙ ap not yes))) (λ no. no) (which (stirs moves x.items))
calm_at {I} moves d (suc i) (t ∷ ts) x h at pos other = calm_at moves d i ts x (and_right ((t.by == 0) || ((t.by == d) || not (stirs moves t.items)))
    (calm moves d ts) h) at pos other

module _ {B I T : Type 0} (items : B → List I) (birth : B → T) (stands : B → ℕ) (moves : I → Bool) (t : Moment items birth stands moves) where
  abbrev views : List (Pass I T)
  views = t.state.views

  abbrev Here : ℕ → Type 0
  Here k = At items birth stands moves t.kept.facts k (holder items birth stands moves t k) (shown items birth stands moves t k) (get_elem? t.state.homes k)
      (column k views)

  pub only_the_driver_moves : OnlyTheDriverMoves items birth stands moves t
  only_the_driver_moves p k i v x live near at pos other =
      let r : Here k = t.kept.each k near in let seen = r.seen p (line k v) (at_map (line k) views p v live.0) in
      let told = t.kept.told p v live.0 live.1 in
      calm_at moves t.kept.facts.driver i r.log x r.calm_log (ap (λ (l : List (Tenure I)). get_elem? l i) seen.1
      ∙ at_longer (known_at k v).seen seen.0 i x at) pos (λ e. other (e ∙ sym told.1))

  pub free_books_lie_there : FreeBooksLieThere items birth stands moves t
  free_books_lie_there k near none = let r : Here k = t.kept.each k near in ⊎_elim
      (λ free. (
        free.1,
        record {
          home = free.2;
          born = λ p v live. ap (λ (l : List T). get_elem? l k) (t.kept.told p v live.0 live.1).0 ∙ free.3.1;
          shows = free.3.2;
          log = r.log;
          whole = free.3.0;
          seen = λ p v at. r.seen p (line k v) (at_map (line k) views p v at);
          calm_log = λ p v live. subst (λ (d : ℕ). calm moves d r.log ≡ true) (sym (t.kept.told p v live.0 live.1).1) r.calm_log;
        },
      ))
      (λ held. absurd (let pos = held.5 in omega (arith, none, pos)))
      r.lies

  pub holders_have_seen_all : HoldersHaveSeenAll items birth stands moves t
  holders_have_seen_all p k v at near inside =
      let r : Here k = t.kept.each k near in
      let h = held_by items birth stands moves t.kept.facts k (holder items birth stands moves t k) (shown items birth stands moves t k)
      (get_elem? t.state.homes k) (column k views) r p (line k v) (at_map (line k) views p v at) inside in
      record {
        alone = λ q w there yes. ⊎_elim (λ (e : q ≡ p). e) (λ ne. both_ways (known_at k w).inside yes (h.6 q (line k w) (at_map (line k) views q w there) ne))
            (cases_eq q p);
        all = λ q w there. let b = r.seen q (line k w) (at_map (line k) views q w there) in (b.0, h.3 ∙ b.1);
        shows = h.4 ∙ ap (λ (l : List (Tenure I)). word_of (known_at k v).place (length (joined l))) (sym h.3);
      }

  pub holders_say_they_hold : HoldersSayTheyHold items birth stands moves t
  holders_say_they_hold p k v at seats near = let r : Here k = t.kept.each k near in (
    (λ inside. (held_by items birth stands moves t.kept.facts k (holder items birth stands moves t k) (shown items birth stands moves t k)
        (get_elem? t.state.homes k) (column k views) r p (line k v) (at_map (line k) views p v at) inside).0),
    (λ is. ⊎_elim
        (λ free. absurd (let none = free.0 in let pos = seats.marked in omega (arith, none, pos, is)))
        (λ held. let w = at_map_back (line k) views held.0 held.1 held.2 in
        let keeps : has v.mark w.0.keeps ≡ true = ap (λ (m : ℕ). has m w.0.keeps) (sym is)
        ∙ ap (λ (l : Line I). has (holder items birth stands moves t k) l.keeps) (w.2) ∙ held.6 in
        let place : p ≡ held.0 = t.kept.apart p held.0 v.mark v w.0 at w.1 seats.own keeps in
        let one : w.0 ≡ v = some-injective w.0 v (sym w.1 ∙ ap (get_elem? views) (sym place) ∙ at) in
        ap (λ (u : Pass I T). (known_at k u).inside) (sym one) ∙ ap (λ (l : Line I). l.known.inside) w.2 ∙ held.3)
        r.lies),
  )

  pub holders_are_seats : HoldersAreSeats items birth stands moves t
  holders_are_seats k near taken = let r : Here k = t.kept.each k near in ⊎_elim
      (λ free. absurd (taken free.0))
      (λ held. let w = at_map_back (line k) views held.0 held.1 held.2 in
      let mark : holder items birth stands moves t k ≡ w.0.mark = held.4 ∙ ap (λ (l : Line I). l.mark) (sym w.2) in
      let keeps : has (holder items birth stands moves t k) w.0.keeps ≡ true = ap (λ (l : Line I). has (holder items birth stands moves t k) l.keeps) w.2
      ∙ held.6 in
      record {
        p = held.0;
        seat = w.0;
        there = w.1;
        seats = record { marked = subst (λ (m : ℕ). 0 < m) mark held.5; own = ap (λ (m : ℕ). has m w.0.keeps) (sym mark) ∙ keeps };
        mark = mark;
        few = λ q u live. subst (λ (m : ℕ). holder items birth stands moves t k ≤ m) (sym (t.kept.told q u live.0 live.1).1)
            (t.kept.few held.0 (holder items birth stands moves t k) w.0 w.1 keeps);
      })
      r.lies

  abbrev claim : ℕ → ℕ
  claim f = get_or t.kept.facts.claims f 0

  in_claims : (f : ℕ) → IsFrame items birth stands moves t f → f < length t.kept.facts.claims
  in_claims f frame = let wide = t.kept.wide in omega (arith, wide, frame)

  -- a frame word that names an endpoint
  claimed_for : (k f : ℕ) (e : EndpointId) → IsOf items birth stands moves t k e → IsFrame items birth stands moves t f →
      owner items birth stands moves t f ≡ e.0 + 1 → claim f ≡ k + 1
  claimed_for k f e is frame names = ⊎_elim
      (λ none. absurd (let zero_in = none.1 in omega (arith, zero_in, names)))
      (λ one. let j = one.0 in let number = one.5 in let same : one.1 ≡ e = same_end one.1 e (omega (arith, number, names)) in
      let place : j ≡ k = is.apart j (one.3 ∙ ap (λ (d : EndpointId). Some d) same) in let claimed = one.2 in omega (arith, place, claimed))
      (t.kept.framed f (in_claims f frame))

  -- and one that is claimed for an endpoint
  names_its : (k f : ℕ) (e : EndpointId) → IsOf items birth stands moves t k e → IsFrame items birth stands moves t f → claim f ≡ k + 1 →
      owner items birth stands moves t f ≡ e.0 + 1
  names_its k f e is frame claimed = ⊎_elim
      (λ none. absurd (let zero_in = none.0 in omega (arith, zero_in, claimed)))
      (λ one. let j = one.0 in let for = one.2 in let place : j ≡ k = omega (arith, for, claimed) in
      let both : Some one.1 ≡ Some e = sym one.3 ∙ ap (slice_get t.ids) place ∙ is.is in let same : one.1 ≡ e = cc in one.5
      ∙ ap (λ (d : EndpointId). d.0 + 1) same)
      (t.kept.framed f (in_claims f frame))

  pub frame_words_fit_places : FrameWordsFitPlaces items birth stands moves t
  frame_words_fit_places p k v e live is other =
      let r : Here k = t.kept.each k is.place in let told = t.kept.told p v live.0 live.1 in
      let by : (place : ℕ) → FrameFits t.kept.facts.claims k place → (f : ℕ) → IsFrame items birth stands moves t f →
      (owner items birth stands moves t f ≡ e.0 + 1) ↔ (place ≡ 2 + f) = λ place fits f frame. (
        (λ names. (fits.1 f (in_claims f frame)).0 (claimed_for k f e is frame names)),
        (λ lies. names_its k f e is frame ((fits.1 f (in_claims f frame)).1 lies)),
      ) in
      ⊎_elim
      (λ free. (stands free.1, length (items free.1), free.3.2, by (stands free.1) free.3.4))
      (λ held. (held.1.known.place, length (joined r.log), held.8, by held.1.known.place (held.11 (λ at. other (at ∙ sym told.1)))))
      r.lies

  pub frame_words_name_owners : FrameWordsNameOwners items birth stands moves t
  frame_words_name_owners p k f v e live is frame names = ⊎_elim
      (λ (inside : holder items birth stands moves t k ≡ v.seats). inr (record {
        inside = inside;
        claimed = λ q w at drives. ap (λ (l : List ℕ). get_or l f 0) (t.kept.drives q w at drives) ∙ claimed_for k f e is frame names;
      }))
      (λ other. let fit = frame_words_fit_places p k v e live is other in inl (
        fit.1,
        fit.2
            ∙ ap (λ (place : ℕ). word_of place fit.1) ((fit.3 f frame).0 names),
      ))
      (cases_eq (holder items birth stands moves t k) v.seats)
