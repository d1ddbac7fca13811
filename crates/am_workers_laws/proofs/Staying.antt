-- A guest that has entered an endpoint and added entries that don't move it: it may leave, and what it knows then.
use Rattle.std.specs.Prelude.{slice_index_or, slice_set}
use Rattle.std.proofs.Common.{◌≡◌, ◌≢◌, ⊎_elim, arith, ℕ, ◌<◌, Bool, true, false, ◌||◌, List, [], ◌∷◌, ◌++◌, length, drop, Option, None, sym, refl, ap, ◌∙◌}
use Rattle.std.proofs.Common.{subst, set-set, get_or-set_same}
use Rattle.std.proofs.lemmas.List.{length-set}
use Rattle.std.proofs.lemmas.Bool.{cases_eq}
use lib.Seq.{drop-append_seam}
use Rattle.atomic_table.specs.Seated.{TableId}
use Rattle.atomic_table.specs.Table.{Me, rest}
use Rattle.atomic_table.specs.declared.shared.Seat.{Seat}
use Rattle.am_names.specs.declared.EndpointId.{EndpointId}
use Rattle.am_office_entries.specs.declared.Entry.{Entry}
use Rattle.am_endpoint.specs.View.{EndpointView, state_by}
use Rattle.am_model.specs.Changes.{after, replay}
use Rattle.am_model.specs.Endpoint.{State, fresh}
use Rattle.am_model.specs.Layout.{AllAre}
use Rattle.am_model_merge.specs.Logs.{IsRising}
use Rattle.am_workers_laws.specs.Books.Books.{moves, stands_at}
use Rattle.am_workers_laws.specs.declared.books.EndBook.{EndBook}
use Rattle.am_workers_laws.specs.Phases.Lying.{PlacesAreKept, moves_by, rests}
use Rattle.am_workers_laws.specs.Phases.Seats.{left_with}
use Rattle.am_places.specs.Codes.{place_code}
use Rattle.am_places.specs.declared.board.Known.{Known}
use Rattle.am_places.specs.declared.board.Tenure.{Tenure}
use Rattle.am_places.specs.Rule.{Begins, Comes, IsOutside, has, inside_with, joined, known_at, nothing, outside, published_with, stirs, with_known}
use Rattle.am_workers_laws.specs.Invariants.Drives.{with_frames}
use Rattle.am_workers_laws.specs.Invariants.Seats.{EndPass, IsIdle, Stays}
use Rattle.am_workers_laws.proofs.Stands.{set_here, set_there}

-- what a book stands for
pub items_of : EndBook → List Entry
items_of b = b.end.value.log

abbrev pub M : Type 0
M = Me (Option EndBook) EndPass

-- no event of a list moves the endpoint
abbrev pub AreStill : List Entry → Type 0
AreStill new = AllAre (λ (x : Entry). moves x ≡ false) new

stirs_none : (new : List Entry) → AreStill new → stirs moves new ≡ false
stirs_none [] h = refl
stirs_none (x ∷ xs) h = ap (λ (b : Bool). b || stirs moves xs) h.0 ∙ stirs_none xs h.1

all_still : (new : List Entry) → AreStill new → AllAre (λ (x : Entry). moves_by x.event ≡ false) new
all_still [] h = tt
all_still (x ∷ xs) h = (h.0, all_still xs h.1)

pub replay_append : (e : EndpointId) (s : State) (xs ys : List Entry) → replay e s (xs ++ ys) ≡ replay e (replay e s xs) ys
replay_append e s [] ys = refl
replay_append e s (x ∷ xs) ys = replay_append e (after e s x) xs ys

-- the endpoint lies where it lay
pub stands_still : PlacesAreKept → (e f : EndpointView) (new : List Entry) → f.settings ≡ e.settings → f.log ≡ e.log ++ new → AreStill new →
    stands_at f ≡ stands_at e
stands_still kept e f new set log h =
    (λ i. place_code (state_by (set i) (log i)).head.place)
    ∙ ap (λ (s : State). place_code s.head.place) (replay_append e.settings.id (fresh e.settings.tag e.settings.place) e.log new)
    ∙ ap place_code (kept.still e.settings.id (state_by e.settings e.log) new (all_still new h))

-- the seat has entered the endpoint k and found this book, which stands for these tenures
pub record Entered (k : ℕ) (me now : M) (b : EndBook) (log : List (Tenure Entry)) : Type 0 where
  pub near : k < length me.0.known
  pub hand : me.1 ≡ []
  pub outside : IsOutside me.0
  pub comes : Comes (λ (b : EndBook). b.end.value.log) (λ (b : EndBook). b.end.value.settings) (λ (b : EndBook). stands_at b.end.value) moves k me log b
  pub is : now ≡ (with_known k (inside_with (stands_at b.end.value) log (known_at k me.0)) me.0, (k, None) ∷ me.1)

pub known_now : (k : ℕ) (me now : M) (b : EndBook) (log : List (Tenure Entry)) → Entered k me now b log →
    known_at k now.0 ≡ inside_with (stands_at b.end.value) log (known_at k me.0)
known_now k me now b log e =
    ap (λ (m : M). known_at k m.0) e.is
    ∙ get_or-set_same me.0.known k (inside_with (stands_at b.end.value) log (known_at k me.0)) nothing e.near

pub seen_now : (k : ℕ) (me now : M) (b : EndBook) (log : List (Tenure Entry)) → Entered k me now b log → joined (known_at k now.0).seen ≡ b.end.value.log
seen_now k me now b log e = ap (λ (x : Known Entry). joined x.seen) (known_now k me now b log e) ∙ e.comes.stands_for

pub begins_now : (k : ℕ) (me now : M) (b : EndBook) (log : List (Tenure Entry)) (f : EndpointView) (new : List Entry) → Entered k me now b log →
    f.log ≡ b.end.value.log ++ new → Begins f.log (joined (known_at k now.0).seen)
begins_now k me now b log f new e grown = (new, grown ∙ ap (λ (xs : List Entry). xs ++ new) (sym (seen_now k me now b log e)))

pub stays_now : PlacesAreKept → (k : ℕ) (me now : M) (b : EndBook) (log : List (Tenure Entry)) (f : EndpointView) (new : List Entry) → Entered k me now b log →
    f.settings ≡ b.end.value.settings → f.log ≡ b.end.value.log ++ new → AreStill new
    → stands_at f ≡ (known_at k now.0).place
stays_now kept k me now b log f new e set grown h = stands_still kept b.end.value f new set grown h
    ∙ sym (ap (λ (x : Known Entry). x.place) (known_now k me now b log e))

pub still_now : (k : ℕ) (me now : M) (b : EndBook) (log : List (Tenure Entry)) (f : EndpointView) (new : List Entry) → Entered k me now b log →
    f.log ≡ b.end.value.log ++ new → AreStill new
    → stirs moves (drop (length (joined (known_at k now.0).seen)) f.log) ≡ false
still_now k me now b log f new e grown h =
    (λ i. stirs moves (drop (length (seen_now k me now b log e i)) (grown i)))
    ∙ ap (stirs moves) (drop-append_seam b.end.value.log new)
    ∙ stirs_none new h

pub small_now : PlacesAreKept → (k : ℕ) (me now : M) (b : EndBook) (log : List (Tenure Entry)) (f : EndpointView) (new : List Entry) → Entered k me now b log →
    f.settings ≡ b.end.value.settings → f.log ≡ b.end.value.log ++ new → AreStill new → stands_at f < 256
small_now kept k me now b log f new e set grown h = subst (λ (n : ℕ). n < 256) (sym (stands_still kept b.end.value f new set grown h)) e.comes.small

-- what the seat is when it has left the book
pub record Left (k m : ℕ) (now last : M) (c : EndBook) : Type 0 where
  pub mark : m ≡ now.0.mark
  pub is : last ≡ (
    with_known k (outside (published_with (λ (b : EndBook). b.end.value.log) (λ (b : EndBook). stands_at b.end.value) m c (known_at k now.0)))
        now.0,
    rest now.1,
  )

left_pass : (k : ℕ) (me now last : M) (b c : EndBook) (log : List (Tenure Entry)) (new : List Entry) (m : ℕ) → Entered k me now b log → Left k m now last c →
    c.end.value.log ≡ b.end.value.log ++ new
    → last.0 ≡ with_known k (left_with me.0.mark (joined log ++ new) (stands_at c.end.value) (inside_with (stands_at b.end.value) log (known_at k me.0))) me.0
left_pass k me now last b c log new m e l grown =
    ap (λ (z : M). z.0) l.is
    ∙ (λ i. with_known k (left_with (marked i) (whole i) (stands_at c.end.value) (known_now k me now b log e i)) (e.is i).0)
    ∙ (λ i. record me.0 {
      known = set-set me.0.known k (inside_with (stands_at b.end.value) log (known_at k me.0))
          (left_with me.0.mark (joined log ++ new) (stands_at c.end.value) (inside_with (stands_at b.end.value) log (known_at k me.0))) i;
    })
  where
    marked : m ≡ me.0.mark
    marked = l.mark ∙ ap (λ (z : M). z.0.mark) e.is

    whole : c.end.value.log ≡ joined log ++ new
    whole = grown ∙ ap (λ (xs : List Entry). xs ++ new) (sym e.comes.stands_for)

pub stayed : (k : ℕ) (me now last : M) (b c : EndBook) (log : List (Tenure Entry)) (new : List Entry) (m : ℕ) → has me.0.mark me.0.keeps ≡ true →
    Entered k me now b log → Left k m now last c → c.end.value.settings ≡ b.end.value.settings → c.end.value.log ≡ b.end.value.log ++ new
    → Stays k b.end.value.settings (stands_at c.end.value) log new me.0 last.0
stayed k me now last b c log new m mine e l set grown =
    record {
      born = e.comes.born;
      begins = e.comes.begins;
      own = e.comes.own_tenures me.0.mark mine;
      calm_log = e.comes.calm_log;
      once = e.comes.opening;
      rising = subst IsRising whole c.kept.rising;
      rests = coe 0 1 (i. rests (set i).id (fresh (set i).tag (set i).place) (whole i) ≡ true) c.kept.rests;
      left = (stands_at b.end.value, left_pass k me now last b c log new m e l grown);
    }
  where
    whole : c.end.value.log ≡ joined log ++ new
    whole = grown ∙ ap (λ (xs : List Entry). xs ++ new) (sym e.comes.stands_for)

-- ---- as the code has it: the place is the one that the book in hand names

-- what the seat is before it enters
pub record Stands (k : ℕ) (me : M) : Type 0 where
  pub near : k < length me.0.known
  pub hand : me.1 ≡ []
  pub outside : IsOutside me.0
  pub mine : has me.0.mark me.0.keeps ≡ true

pub stands_of : (k n n' m : ℕ) (me : M) → n' ≡ n → length me.0.known ≡ n' → k < n → me.1 ≡ [] → IsOutside me.0 → me.0.mark ≡ m → has m me.0.keeps ≡ true →
    Stands k me
stands_of k n n' m me same long near hand outside marked mine =
    record { near = subst (λ (z : ℕ). k < z) (sym (long ∙ same)) near; hand = hand; outside = outside; mine = ap (λ (z : ℕ). has z me.0.keeps) marked ∙ mine }

abbrev pub FoundThere : ℕ → ℕ → M → M → EndBook → Type 0
FoundThere k at me now b =
    (log : List (Tenure Entry)) × (at ≡ k) × Comes (λ (b : EndBook). b.end.value.log) (λ (b : EndBook). b.end.value.settings)
    (λ (b : EndBook). stands_at b.end.value) moves k me log b
    × (now ≡ (with_known k (inside_with (stands_at b.end.value) log (known_at k me.0)) me.0, (k, None) ∷ me.1))

pub entered_there : (k at : ℕ) (me now : M) (b : EndBook) → Stands k me → (w : FoundThere k at me now b) → Entered k me now b w.0
entered_there k at me now b s w = record { near = s.near; hand = s.hand; outside = s.outside; comes = w.2; is = w.3 }

pub may_grow : (k at : ℕ) (me now : M) (b : EndBook) (f : EndpointView) (new : List Entry) → Stands k me → FoundThere k at me now b →
    f.log ≡ b.end.value.log ++ new → Begins f.log (joined (known_at at now.0).seen)
may_grow k at me now b f new s w grown = subst (λ (j : ℕ). Begins f.log (joined (known_at j now.0).seen)) (sym w.1)
    (begins_now k me now b w.0 f new (entered_there k at me now b s w) grown)

pub may_stay : PlacesAreKept → (k at : ℕ) (me now : M) (b : EndBook) (f : EndpointView) (new : List Entry) → Stands k me → FoundThere k at me now b →
    f.settings ≡ b.end.value.settings → f.log ≡ b.end.value.log ++ new → AreStill new
    → stands_at f ≡ (known_at at now.0).place
may_stay kept k at me now b f new s w set grown h = subst (λ (j : ℕ). stands_at f ≡ (known_at j now.0).place) (sym w.1)
    (stays_now kept k me now b w.0 f new (entered_there k at me now b s w) set grown h)

pub is_small : PlacesAreKept → (k at : ℕ) (me now : M) (b : EndBook) (f : EndpointView) (new : List Entry) → Stands k me → FoundThere k at me now b →
    f.settings ≡ b.end.value.settings → f.log ≡ b.end.value.log ++ new → AreStill new → stands_at f < 256
is_small kept k at me now b f new s w set grown h = small_now kept k me now b w.0 f new (entered_there k at me now b s w) set grown h

pub may_still : (k at : ℕ) (me now : M) (b : EndBook) (f : EndpointView) (new : List Entry) → Stands k me → FoundThere k at me now b →
    f.log ≡ b.end.value.log ++ new → AreStill new
    → stirs moves (drop (length (joined (known_at at now.0).seen)) f.log) ≡ false
may_still k at me now b f new s w grown h = subst (λ (j : ℕ). stirs moves (drop (length (joined (known_at j now.0).seen)) f.log) ≡ false) (sym w.1)
    (still_now k me now b w.0 f new (entered_there k at me now b s w) grown h)

pub stayed_there : (k at : ℕ) (me now last : M) (b c : EndBook) (new : List Entry) (m : ℕ) → Stands k me → (w : FoundThere k at me now b) → m ≡ now.0.mark
    → last ≡ (
      with_known at (outside (published_with (λ (b : EndBook). b.end.value.log) (λ (b : EndBook). stands_at b.end.value) m c (known_at at now.0)))
          now.0,
      rest now.1,
    ) → c.end.value.settings ≡ b.end.value.settings → c.end.value.log ≡ b.end.value.log ++ new
    → Stays k b.end.value.settings (stands_at c.end.value) w.0 new me.0 last.0
stayed_there k at me now last b c new m s w marked is set grown =
    stayed k me now last b c w.0 new m s.mine (entered_there k at me now b s w)
    (record {
      mark = marked;
      is = subst (λ (j : ℕ). last ≡ (
        with_known j
            (outside (published_with (λ (b : EndBook). b.end.value.log) (λ (b : EndBook). stands_at b.end.value) m c (known_at j now.0))) now.0,
        rest now.1,
      )) w.1
          is;
    }) set grown

-- ---- a driver, which may claim or free a frame before it leaves

pub stayed_with : (fs : List ℕ) (k : ℕ) (me now between last : M) (b c : EndBook) (log : List (Tenure Entry)) (new : List Entry) (m : ℕ) →
    has me.0.mark me.0.keeps ≡ true → Entered k me now b log → between ≡ (with_frames fs now.0, now.1) → Left k m between last c →
    c.end.value.settings ≡ b.end.value.settings → c.end.value.log ≡ b.end.value.log ++ new
    → Stays k b.end.value.settings (stands_at c.end.value) log new (with_frames fs me.0) last.0
stayed_with fs k me now between last b c log new m mine e framed l set grown =
    record {
      born = e.comes.born;
      begins = e.comes.begins;
      own = e.comes.own_tenures me.0.mark mine;
      calm_log = e.comes.calm_log;
      once = e.comes.opening;
      rising = subst IsRising whole c.kept.rising;
      rests = coe 0 1 (i. rests (set i).id (fresh (set i).tag (set i).place) (whole i) ≡ true) c.kept.rests;
      left = (stands_at b.end.value, left);
    }
  where
    whole : c.end.value.log ≡ joined log ++ new
    whole = grown ∙ ap (λ (xs : List Entry). xs ++ new) (sym e.comes.stands_for)

    marked : m ≡ me.0.mark
    marked = l.mark ∙ ap (λ (z : M). z.0.mark) framed ∙ ap (λ (z : M). z.0.mark) e.is

    known : known_at k between.0 ≡ inside_with (stands_at b.end.value) log (known_at k me.0)
    known = ap (λ (z : M). known_at k z.0) framed ∙ known_now k me now b log e

    inner : between.0 ≡ with_known k (inside_with (stands_at b.end.value) log (known_at k me.0)) (with_frames fs me.0)
    inner = ap (λ (z : M). z.0) framed ∙ ap (λ (z : M). with_frames fs z.0) e.is

    left : last.0 ≡ with_known k (left_with me.0.mark (joined log ++ new) (stands_at c.end.value) (inside_with (stands_at b.end.value) log (known_at k me.0)))
        (with_frames fs me.0)
    left =
        ap (λ (z : M). z.0) l.is
        ∙ (λ i. with_known k (left_with (marked i) (whole i) (stands_at c.end.value) (known i)) (inner i))
        ∙ (λ i. record (with_frames fs me.0) {
          known = set-set me.0.known k (inside_with (stands_at b.end.value) log (known_at k me.0))
              (left_with me.0.mark (joined log ++ new) (stands_at c.end.value) (inside_with (stands_at b.end.value) log (known_at k me.0))) i;
        })

pub driver_stayed : (fs : List ℕ) (k at : ℕ) (me now between last : M) (b c : EndBook) (new : List Entry) (m : ℕ) → Stands k me →
    (w : FoundThere k at me now b) → between ≡ (with_frames fs now.0, now.1) → m ≡ between.0.mark
    → last ≡ (
      with_known at (outside (published_with (λ (b : EndBook). b.end.value.log) (λ (b : EndBook). stands_at b.end.value) m c (known_at at between.0)))
          between.0,
      rest between.1,
    ) → c.end.value.settings ≡ b.end.value.settings → c.end.value.log ≡ b.end.value.log ++ new
    → Stays k b.end.value.settings (stands_at c.end.value) w.0 new (with_frames fs me.0) last.0
driver_stayed fs k at me now between last b c new m s w framed marked is set grown =
    stayed_with fs k me now between last b c w.0 new m s.mine (entered_there k at me now b s w) framed
    (record {
      mark = marked;
      is = subst (λ (j : ℕ). last ≡ (
        with_known j
            (outside (published_with (λ (b : EndBook). b.end.value.log) (λ (b : EndBook). stands_at b.end.value) m c (known_at j between.0))) between.0,
        rest between.1,
      )) w.1 is;
    }) set grown

-- an enter leaves the claims of frames
pub same_frames : (k at : ℕ) (me now : M) (b : EndBook) → FoundThere k at me now b → now ≡ (with_frames me.0.frames now.0, now.1)
same_frames k at me now b w = w.3 ∙ (λ i. (with_frames me.0.frames (sym w.3 i).0, (sym w.3 i).1))

-- a seat that has left is between turns
pub left_idle : (id : TableId) (fs : List ℕ) (k at : ℕ) (me now between : M) (b : EndBook) (y : Known Entry) (last : Seat (Option EndBook) EndPass) →
    Stands k me → FoundThere k at me now b → between ≡ (with_frames fs now.0, now.1) → y.inside ≡ false
    → last.me ≡ (with_known at y between.0, rest between.1) → last.table_id ≡ id → IsIdle id last
left_idle id fs k at me now between b y last s w framed out is table =
    record {
      table = table;
      hand = ap (λ (z : M). z.1) is ∙ ap (λ (z : M). rest z.1) framed ∙ ap (λ (z : M). rest z.1) w.3 ∙ s.hand;
      outside = subst IsOutside (sym whole) all_outside;
    }
  where
    x : Known Entry
    x = inside_with (stands_at b.end.value) w.0 (known_at k me.0)

    inner : between.0 ≡ with_frames fs (with_known k x me.0)
    inner = ap (λ (z : M). z.0) framed ∙ ap (λ (z : M). with_frames fs z.0) w.3

    whole : last.me.0 ≡ with_known at y (with_frames fs (with_known k x me.0))
    whole = ap (λ (z : M). z.0) is ∙ ap (with_known at y) inner

    long : length (slice_set me.0.known k x) ≡ length me.0.known
    long = length-set me.0.known k x

    all_outside : IsOutside (with_known at y (with_frames fs (with_known k x me.0)))
    all_outside j low =
        ⊎_elim
        (λ (same : j ≡ at).
        (let near : at < length (slice_set me.0.known k x) = (let n = s.near in let e = w.1 in omega (arith, n, e, long)) in
        ap (λ (z : Known Entry). z.inside) (ap (λ (n : ℕ). slice_index_or (slice_set (slice_set me.0.known k x) at y) n nothing) same
        ∙ set_here (slice_set me.0.known k x) at y near) ∙ out))
        (λ (other : j ≢ at).
        ap (λ (z : Known Entry). z.inside) (set_there (slice_set me.0.known k x) at j y other ∙ set_there me.0.known k j x (λ same. other (same ∙ sym w.1)))
        ∙ s.outside j (let e = length-set (slice_set me.0.known k x) at y in omega (arith, low, e, long)))
        (cases_eq j at)
