-- How a stay changes what is known of a seat.
use Rattle.std.proofs.Common.{◌≡◌, ℕ, ◌<◌, ◌≢◌, Bool, true, false, List, [], ◌∷◌, ◌++◌, zero, suc, ◌||◌, get_or, set, drop, length, sym, refl, ap, ◌∙◌, subst}
use Rattle.std.proofs.Common.{⊎_elim, append-nil, append_assoc, eq-eqb, length-set, get_or-set_same, get_or-set_other}
use Rattle.std.specs.Prelude.{None, ◌==◌, if◌then◌else◌}
use Rattle.std.proofs.lemmas.Bool.{cases_eq}
use Rattle.std.proofs.Math.Seq.{drop-append_seam}
use mathlib.Core.Option.{some}
use lib.ListN.{get_elem?}
use Rattle.atomic_table.specs.Table.{rest}
use Rattle.atomic_table.specs.Seated.{TableId}
use Rattle.am_names.specs.declared.EndpointId.{EndpointId}
use Rattle.am_places.specs.Rule.{Begins, Comes, FrameFits, added, joined, known_at, with_known, inside_with, published_with, outside, nothing}
use Rattle.am_places.specs.Rule.{seat_numbered, opened, opener, stirs, tenure, with_frame}
use Rattle.am_places.specs.declared.board.Known.{Known}
use Rattle.am_places.specs.declared.board.Pass.{Pass}
use Rattle.am_places.specs.declared.board.Tenure.{Tenure}
use Rattle.am_places.proofs.Ends.{begins_longer, joined-append}
use Rattle.am_places_stays.specs.Stays.{AllBy, BeganWith, IsInside, IsNew, IsWaiting, Token, added_at, seen_at}

pub all_by-append : {I : Type 0} (m : ℕ) (ts us : List (Tenure I)) → AllBy m ts → AllBy m us → AllBy m (ts ++ us)
all_by-append m [] us h k = k
all_by-append m (t ∷ ts) us h k = (h.0, all_by-append m ts us h.1 k)

pub drop_all : {X : Type 0} (xs : List X) → drop (length xs) xs ≡ []
drop_all [] = refl
drop_all (x ∷ xs) = drop_all xs

pub stirs-append : {I : Type 0} (moves : I → Bool) (xs ys : List I) → stirs moves xs ≡ false → stirs moves ys ≡ false → stirs moves (xs ++ ys) ≡ false
stirs-append moves [] ys h k = k
stirs-append moves (x ∷ xs) ys h k = by_test (moves x) h (stirs-append moves xs ys)
  where
    by_test : (b : Bool) → (b || stirs moves xs) ≡ false → (stirs moves xs ≡ false → stirs moves ys ≡ false → stirs moves (xs ++ ys) ≡ false) →
        (b || stirs moves (xs ++ ys)) ≡ false
    by_test true e more = e
    by_test false e more = more e k

-- what one item adds, or none
pub one_calm : {I : Type 0} (moves : I → Bool) (b : Bool) (x : I) → moves x ≡ false → stirs moves (if b then x ∷ [] else []) ≡ false
one_calm moves true x h = ap (λ (z : Bool). z || false) h
one_calm moves false x h = refl

pub at_last : {X : Type 0} (l : List X) (x : X) → get_elem? (l ++ x ∷ []) (length l) ≡ some x
at_last [] x = refl
at_last (y ∷ l) x = at_last l x

module _ {I T : Type 0} where
  -- what a change at one position leaves of another
  pub elsewhere_same : (at : ℕ) (x : Known I) (v w : Pass I T) → w ≡ with_known at x v → (k : ℕ) → k ≢ at → known_at k w ≡ known_at k v
  elsewhere_same at x v w is k ne = ap (known_at k) is ∙ get_or-set_other v.known at k x nothing ne

  pub here_now : (at : ℕ) (x : Known I) (v w : Pass I T) → at < length v.known → w ≡ with_known at x v → known_at at w ≡ x
  here_now at x v w near is = ap (known_at at) is ∙ get_or-set_same v.known at x nothing near

  -- a fact of each position holds after a change of one, where it does there
  pub at_each : (P : Known I → Type 0) (at : ℕ) (x : Known I) (v w : Pass I T) → at < length v.known → w ≡ with_known at x v → P x →
      ((k : ℕ) → P (known_at k v)) → (k : ℕ) → P (known_at k w)
  at_each P at x v w near is here all k = ⊎_elim
      (λ (e : k ≡ at). subst P (sym (ap (λ (m : ℕ). known_at m w) e ∙ here_now at x v w near is)) here)
      (λ (ne : k ≢ at). subst P (sym (elsewhere_same at x v w is k ne)) (all k))
      (cases_eq k at)

module _ {B I T : Type 0} (items : B → List I) (birth : B → T) (stands : B → ℕ) (moves : I → Bool) where
  abbrev P : Type 0
  P = Pass I T

  abbrev S : Type 0
  S = Token B I T

  abbrev Inside : TableId → ℕ → S → B → Type 0
  Inside = IsInside items birth stands moves

  pub enters : (id : TableId) (at mark : ℕ) (was now : S) (log : List (Tenure I)) (b : B) → IsWaiting id was → now.table_id ≡ was.table_id →
      at < length was.me.0.known
      → was.me.0.mark ≡ mark → was.me.0.drives ≡ (mark == was.me.0.seats) → Comes items birth stands moves at was.me log b
      → now.me ≡ (with_known at (inside_with (stands b) log (known_at at was.me.0)) was.me.0, (at, None) ∷ was.me.1) → Inside id at now b
  enters id at mark was now log b w same near its drives comes is =
      let v : P = was.me.0 in let x : Known I = inside_with (stands b) log (known_at at v) in let z : P = with_known at x v in
      let u : now.me.0 ≡ z = ap (λ m. m.0) is in
      let there : known_at at now.me.0 ≡ x = here_now at x v now.me.0 near u in
      let whole : seen_at at now.me.0 ≡ items b = ap (λ (k : Known I). joined k.seen) there ∙ comes.stands_for in
      record {
        table = same ∙ w.table;
        hand = ap (λ m. m.1) is ∙ ap (λ m. (at, None) ∷ m) w.hand;
        inside = ap (λ (k : Known I). k.inside) there;
        elsewhere = λ k ne near'. ap (λ (m : Known I). m.inside) (elsewhere_same at x v now.me.0 u k ne)
            ∙ w.outside k (subst (λ (m : ℕ). k < m) (ap (λ (m : P). length m.known) u ∙ length-set v.known at x) near');
        keeps = ap (λ (m : P). m.keeps) u ∙ w.keeps ∙ ap (λ (m : P). m.mark ∷ []) (sym u);
        own = λ k. subst (λ (m : ℕ). AllBy m (known_at k now.me.0).made) (ap (λ (m : P). m.mark) (sym u))
            (at_each (λ (y : Known I). AllBy v.mark y.made) at x v now.me.0 near u (w.own at) w.own k);
        born = ap (λ (m : P). get_elem? m.births at) u ∙ comes.born;
        grown = ([], sym whole ∙ sym (append-nil (seen_at at now.me.0)));
        stays = λ _. sym (ap (λ (k : Known I). k.place) there);
        still = λ _. ap (λ (l : List I). stirs moves (drop (length l) (items b))) whole ∙ ap (stirs moves) (drop_all (items b));
        small = comes.small;
        fits = λ e. subst (λ (m : List ℕ). FrameFits m at (stands b)) (ap (λ (m : P). m.frames) (sym u)) (comes.in_frame (drives
            ∙ eq-eqb mark v.seats (sym its ∙ ap (λ (m : P). m.mark) (sym u) ∙ e ∙ ap (λ (m : P). m.seats) u)));
      }

  pub entered_seen : (at : ℕ) (was now : S) (log : List (Tenure I)) (b : B) → at < length was.me.0.known → Comes items birth stands moves at was.me log b
      → now.me ≡ (with_known at (inside_with (stands b) log (known_at at was.me.0)) was.me.0, (at, None) ∷ was.me.1) → seen_at at now.me.0 ≡ items b
  entered_seen at was now log b near comes is = ap (λ (k : Known I). joined k.seen) (here_now at (inside_with (stands b) log (known_at at was.me.0)) was.me.0
      now.me.0 near (ap (λ m. m.0) is)) ∙ comes.stands_for

  -- a book to which items were added that do not move, and that is where it was
  pub adds : (id : TableId) (at : ℕ) (token : S) (b c : B) (xs : List I) → birth c ≡ birth b → stands c ≡ stands b → items c ≡ items b ++ xs →
      stirs moves xs ≡ false → Inside id at token b → Inside id at token c
  adds id at token b c xs birth_is placed more calm i =
      let seen : List I = seen_at at token.me.0 in
      let behind : drop (length seen) (items c) ≡ i.grown.0 ++ xs = ap (drop (length seen)) (more ∙ ap (λ m. m ++ xs) i.grown.1
      ∙ append_assoc seen i.grown.0 xs) ∙ drop-append_seam seen (i.grown.0 ++ xs) in
      let before : drop (length seen) (items b) ≡ i.grown.0 = ap (drop (length seen)) i.grown.1 ∙ drop-append_seam seen i.grown.0 in
      record {
        table = i.table;
        hand = i.hand;
        inside = i.inside;
        elsewhere = i.elsewhere;
        keeps = i.keeps;
        own = i.own;
        born = i.born ∙ ap some (sym birth_is);
        grown = (i.grown.0 ++ xs, more ∙ ap (λ m. m ++ xs) i.grown.1 ∙ append_assoc seen i.grown.0 xs);
        stays = λ ne. placed ∙ i.stays ne;
        still = λ ne. ap (stirs moves) behind ∙ stirs-append moves i.grown.0 xs (ap (stirs moves) (sym before) ∙ i.still ne) calm;
        small = subst (λ (m : ℕ). m < 256) (sym placed) i.small;
        fits = λ e. subst (FrameFits token.me.0.frames at) (sym placed) (i.fits e);
      }

  abbrev left_with : ℕ → ℕ → B → P → Known I
  left_with at m b v = outside (published_with items stands m b (known_at at v))

  pub leaves : (id : TableId) (at m : ℕ) (was now : S) (b : B) → Inside id at was b → now.table_id ≡ was.table_id → at < length was.me.0.known →
      m ≡ was.me.0.mark
      → now.me ≡ (with_known at (outside (published_with items stands m b (known_at at was.me.0))) was.me.0, rest was.me.1) → IsWaiting id now
  leaves id at m was now b i same near its is =
      let v : P = was.me.0 in let x : Known I = left_with at m b v in let u : now.me.0 ≡ with_known at x v = ap (λ m. m.0) is in record {
        table = same ∙ i.table;
        hand = ap (λ m. m.1) is ∙ ap rest i.hand;
        outside = λ k near'. ⊎_elim
            (λ (e : k ≡ at). ap (λ (j : ℕ). (known_at j now.me.0).inside) e ∙ ap (λ (y : Known I). y.inside) (here_now at x v now.me.0 near u))
            (λ (ne : k ≢ at). ap (λ (y : Known I). y.inside) (elsewhere_same at x v now.me.0 u k ne)
            ∙ i.elsewhere k ne (subst (λ (j : ℕ). k < j) (ap (λ (p : P). length p.known) u ∙ length-set v.known at x) near'))
            (cases_eq k at);
        keeps = ap (λ (p : P). p.keeps) u ∙ i.keeps ∙ ap (λ (p : P). p.mark ∷ []) (sym u);
        own = λ k. subst (λ (j : ℕ). AllBy j (known_at k now.me.0).made) (ap (λ (p : P). p.mark) (sym u))
            (at_each (λ (y : Known I). AllBy v.mark y.made) at x v now.me.0 near u (all_by-append v.mark (known_at at v).made
            (added items stands m b (known_at at v) ∷ []) (i.own at) (its, tt)) i.own k);
      }

  pub left_added : (at m : ℕ) (was now : S) (b : B) → at < length was.me.0.known →
      now.me ≡ (with_known at (outside (published_with items stands m b (known_at at was.me.0))) was.me.0, rest was.me.1)
      → added_at at now.me.0 ≡ added_at at was.me.0 ++ drop (length (seen_at at was.me.0)) (items b)
  left_added at m was now b near is =
      let v : P = was.me.0 in let more : List I = drop (length (seen_at at v)) (items b) in
      ap (λ (y : Known I). joined y.made) (here_now at (left_with at m b v) v now.me.0 near (ap (λ m. m.0) is))
      ∙ joined-append (known_at at v).made (added items stands m b (known_at at v) ∷ []) ∙ ap (λ (l : List I). added_at at v ++ l) (append-nil more)

  pub left_began : (at m : ℕ) (was now : S) (b : B) → at < length was.me.0.known →
      now.me ≡ (with_known at (outside (published_with items stands m b (known_at at was.me.0))) was.me.0, rest was.me.1)
      → (k : ℕ) (xs : List I) → BeganWith k xs was.me.0 → BeganWith k xs now.me.0
  left_began at m was now b near is k xs began =
      let v : P = was.me.0 in let x : Known I = left_with at m b v in let u : now.me.0 ≡ with_known at x v = ap (λ m. m.0) is in ⊎_elim
      (λ (e : k ≡ at). subst (λ (j : ℕ). BeganWith j xs now.me.0) (sym e) (subst (λ (y : Known I). Begins y.seen (tenure 0 xs ∷ []))
      (sym (here_now at x v now.me.0 near u))
      (begins_longer (known_at at v).seen (added items stands m b (known_at at v) ∷ []) (tenure 0 xs ∷ []) (subst (λ (j : ℕ). BeganWith j xs v) e began))))
      (λ (ne : k ≢ at). subst (λ (y : Known I). Begins y.seen (tenure 0 xs ∷ [])) (sym (elsewhere_same at x v now.me.0 u k ne)) began)
      (cases_eq k at)

  -- after a claim or a free by the driver, where the book's place goes along
  pub reframes : (id : TableId) (at f x : ℕ) (was now : S) (b c : B) → Inside id at was b → now.table_id ≡ was.table_id →
      now.me ≡ (with_frame f x was.me.0, was.me.1)
      → was.me.0.mark ≡ was.me.0.seats → birth c ≡ birth b → items c ≡ items b → stands c < 256 → FrameFits (set was.me.0.frames f x) at (stands c) →
      Inside id at now c
  reframes id at f x was now b c i same is drives birth_is lines small fits =
      let u = ap (λ m. m.0) is in let its : now.me.0.mark ≡ now.me.0.seats = ap (λ (m : P). m.mark) u ∙ drives ∙ ap (λ (m : P). m.seats) (sym u) in record {
        table = same ∙ i.table;
        hand = ap (λ m. m.1) is ∙ i.hand;
        inside = ap (λ (m : P). (known_at at m).inside) u ∙ i.inside;
        elsewhere = λ k ne near. ap (λ (m : P). (known_at k m).inside) u ∙ i.elsewhere k ne (subst (λ (m : ℕ). k < m) (ap (λ (m : P). length m.known) u) near);
        keeps = ap (λ (m : P). m.keeps) u ∙ i.keeps ∙ ap (λ (m : P). m.mark ∷ []) (sym u);
        own = subst (λ (m : P). (k : ℕ) → AllBy m.mark (known_at k m).made) (sym u) i.own;
        born = ap (λ (m : P). get_elem? m.births at) u ∙ i.born ∙ ap some (sym birth_is);
        grown = (i.grown.0, lines ∙ i.grown.1 ∙ ap (λ (m : P). seen_at at m ++ i.grown.0) (sym u));
        stays = λ ne. absurd (ne its);
        still = λ ne. absurd (ne its);
        small = small;
        fits = λ _. subst (λ (m : List ℕ). FrameFits m at (stands c)) (ap (λ (m : P). m.frames) (sym u)) fits;
      }

  -- ---- a seat of a new list

  all_outside : (bs : List B) (j : ℕ) → (get_or (opened items birth stands moves bs) j nothing).inside ≡ false
  all_outside [] j = refl
  all_outside (b ∷ bs) zero = refl
  all_outside (b ∷ bs) (suc j) = all_outside bs j

  none_made : (bs : List B) (j : ℕ) → (get_or (opened items birth stands moves bs) j nothing).made ≡ []
  none_made [] j = refl
  none_made (b ∷ bs) zero = refl
  none_made (b ∷ bs) (suc j) = none_made bs j

  began_so : (bs : List B) (j : ℕ) (b : B) → get_elem? bs j ≡ some b →
      Begins (get_or (opened items birth stands moves bs) j nothing).seen (tenure 0 (items b) ∷ [])
  began_so [] j b at = absurd cc
  began_so (c ∷ bs) zero b at = let is : c ≡ b = cc in ([], ap (λ (d : B). tenure 0 (items d) ∷ []) is)
  began_so (c ∷ bs) (suc j) b at = began_so bs j b at

  pub is_new : (books : List B) (ids : List EndpointId) (k seats frames : ℕ) (id : TableId) (token : S) → token.table_id ≡ id →
      length token.me.0.frames ≡ frames → token.me ≡ (seat_numbered k (opener items birth stands moves books ids seats frames), []) →
      IsNew items id books k seats frames token
  is_new books ids k seats frames id token same framed is = let u = ap (λ m. m.0) is in record {
    waiting = record {
      table = same;
      hand = ap (λ m. m.1) is;
      outside = λ j _. ap (λ (m : P). (known_at j m).inside) u ∙ all_outside books j;
      keeps = ap (λ (m : P). m.keeps) u ∙ ap (λ (m : P). m.mark ∷ []) (sym u);
      own = λ j. subst (λ (ts : List (Tenure I)). AllBy token.me.0.mark ts) (sym (ap (λ (m : P). (known_at j m).made) u ∙ none_made books j)) tt;
    };
    mark = ap (λ (m : P). m.mark) u;
    all_seats = ap (λ (m : P). m.seats) u;
    all_frames = framed;
    added = λ j. ap (λ (m : P). added_at j m) u ∙ ap joined (none_made books j);
    began = λ j b at. subst (λ (m : P). BeganWith j (items b) m) (sym u) (began_so books j b at);
  }
