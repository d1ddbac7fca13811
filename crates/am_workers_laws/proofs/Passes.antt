-- What a pass knows that has gathered others.
use Rattle.std.specs.Prelude.{slice_index_or}
use Rattle.std.proofs.Common.{◌≡◌, ◌⊎◌, ◌≢◌, inl, inr, ⊎_elim, ℕ, zero, suc, ◌<◌, ◌==◌, Bool, true, false, cond, ◌||◌, List, [], ◌∷◌, ◌++◌, length, refl, sym}
use Rattle.std.proofs.Common.{ap, ◌∙◌, subst, arith, append_assoc, append-nil, eqb-true, eq-eqb, true≢false, Contains}
use Rattle.am_office_entries.specs.declared.Entry.{Entry}
use Rattle.am_model.specs.Layout.{AllAre}
use Rattle.am_places.specs.Rule.{AllBegin, Begins, both_at, both_known, gathered, has, known_at, nothing, of}
use Rattle.am_places.specs.declared.board.Known.{Known}
use Rattle.am_places.specs.declared.board.Tenure.{Tenure}
use Rattle.am_workers_laws.proofs.Seats.{of_append}
use Rattle.am_workers_laws.specs.Invariants.Seats.{EndPass}
use Rattle.am_workers_laws.specs.Ended.{HaveSeats, Worker, gathering}

-- ---- what stands in a list

abbrev pub IsIn : {X : Type 0} → List X → X → Type 0
IsIn [] z = ⊥
IsIn (y ∷ ys) z = (y ≡ z) ⊎ IsIn ys z

pub contains_in : {X : Type 0} (xs : List X) (z : X) → Contains xs z → IsIn xs z
contains_in {X} xs z c = at xs c.0 c.1 c.2
  where
    at : (ys : List X) (k : ℕ) → k < length ys → slice_index_or ys k z ≡ z → IsIn ys z
    at [] k lt is = absurd (omega (arith, lt))
    at (y ∷ ys) zero lt is = inl is
    at (y ∷ ys) (suc k) lt is = inr (at ys k (omega (arith, lt)) is)

pub all_in : {X : Type 0} (P : X → Type 0) (xs : List X) (x : X) → AllAre P xs → IsIn xs x → P x
all_in P [] x all h = absurd h
all_in P (y ∷ ys) x all h = ⊎_elim (λ (here : y ≡ x). subst P here all.0) (λ (there : IsIn ys x). all_in P ys x all.1 there) h

pub each_in : {X : Type 0} (P : X → Type 0) (xs : List X) → ((x : X) → IsIn xs x → P x) → AllAre P xs
each_in P [] h = tt
each_in P (y ∷ ys) h = (h y (inl refl), each_in P ys (λ x there. h x (inr there)))

-- ---- two passes as one

pub both_length : (xs ys : List (Known Entry)) → length (both_known xs ys) ≡ length xs
both_length [] ys = refl
both_length (x ∷ xs) [] = refl
both_length (x ∷ xs) (y ∷ ys) = ap suc (both_length xs ys)

both_there : (k : ℕ) (xs ys : List (Known Entry)) → k < length xs → k < length ys →
    slice_index_or (both_known xs ys) k nothing ≡ both_at (slice_index_or xs k nothing) (slice_index_or ys k nothing)
both_there k [] ys a b = absurd (omega (arith, a))
both_there k (x ∷ xs) [] a b = absurd (omega (arith, b))
both_there zero (x ∷ xs) (y ∷ ys) a b = refl
both_there (suc k) (x ∷ xs) (y ∷ ys) a b = both_there k xs ys (omega (arith, a)) (omega (arith, b))

abbrev pub IsWide : ℕ → EndPass → Type 0
IsWide k v = k < length v.known

abbrev pub AreWide : ℕ → List Worker → Type 0
AreWide k ws = AllAre (λ (w : Worker). IsWide k w.pass) ws

known_gathered : (k : ℕ) (v w : EndPass) → IsWide k v → IsWide k w → known_at k (gathered v w) ≡ both_at (known_at k v) (known_at k w)
known_gathered k v w a b = both_there k v.known w.known a b

wide_gathered : (k : ℕ) (v w : EndPass) → IsWide k v → IsWide k (gathered v w)
wide_gathered k v w a = subst (λ (n : ℕ). k < n) (sym (both_length v.known w.known)) a

-- ---- the tenures of a mark

-- those that the passes keep
made_by : ℕ → ℕ → List Worker → List (List Entry)
made_by m k [] = []
made_by m k (w ∷ ws) = of m (known_at k w.pass).made ++ made_by m k ws

of_gathering : (m k : ℕ) (v : EndPass) (ws : List Worker) → IsWide k v → AreWide k ws →
    of m (known_at k (gathering v ws)).made ≡ of m (known_at k v).made ++ made_by m k ws
unfolding made_by
of_gathering m k v [] a b = sym (append-nil (of m (known_at k v).made))
of_gathering m k v (w ∷ ws) a b =
    of_gathering m k (gathered v w.pass) ws (wide_gathered k v w.pass a) b.1
    ∙ ap (λ (x : Known Entry). of m x.made ++ made_by m k ws) (known_gathered k v w.pass a b.0)
    ∙ ap (λ (xs : List (List Entry)). xs ++ made_by m k ws) (of_append m (known_at k v).made (known_at k w.pass).made)
    ∙ append_assoc (of m (known_at k v).made) (of m (known_at k w.pass).made) (made_by m k ws)

-- all tenures that the pass keeps are its own
abbrev pub IsMine : ℕ → EndPass → Type 0
IsMine k v = AllAre (λ (t : Tenure Entry). t.by ≡ v.mark) (known_at k v).made

abbrev pub AreMine : ℕ → List Worker → Type 0
AreMine k ws = AllAre (λ (w : Worker). IsMine k w.pass) ws

none_of : (n m : ℕ) (ts : List (Tenure Entry)) → AllAre (λ (t : Tenure Entry). t.by ≡ n) ts → m ≢ n → of m ts ≡ []
none_of n m [] h k = refl
none_of n m (t ∷ ts) h k = by_test (t.by == m) refl (none_of n m ts h.1 k)
  where
    by_test : (b : Bool) → (t.by == m) ≡ b → of m ts ≡ [] → cond b (t.items ∷ of m ts) (of m ts) ≡ []
    by_test true is more = absurd (k (sym (eqb-true t.by m is) ∙ h.0))
    by_test false is more = more

made_none : (m k : ℕ) (ws : List Worker) → AreMine k ws → AllAre (λ (u : Worker). m ≢ u.pass.mark) ws → made_by m k ws ≡ []
unfolding made_by
made_none m k [] mine apart = refl
made_none m k (u ∷ us) mine apart = ap (λ (xs : List (List Entry)). xs ++ made_by m k us) (none_of u.pass.mark m (known_at k u.pass).made mine.0 apart.0)
    ∙ made_none m k us mine.1 apart.1

made_one : (k : ℕ) (ws : List Worker) (w : Worker) → AreMine k ws → HaveSeats ws → IsIn ws w →
    made_by w.pass.mark k ws ≡ of w.pass.mark (known_at k w.pass).made
unfolding made_by
made_one k [] w mine apart h = absurd h
made_one k (u ∷ us) w mine apart h =
    ⊎_elim
    (λ (here : u ≡ w). subst (λ (z : Worker). of z.pass.mark (known_at k u.pass).made ++ made_by z.pass.mark k us ≡ of z.pass.mark (known_at k z.pass).made)
    here first)
    (λ (there : IsIn us w).
    ap (λ (xs : List (List Entry)). xs ++ made_by w.pass.mark k us)
    (none_of u.pass.mark w.pass.mark (known_at k u.pass).made mine.0 (λ same. all_in (λ (z : Worker). u.pass.mark ≢ z.pass.mark) us w apart.0 there (sym same)))
    ∙ made_one k us w mine.1 apart.1 there)
    h
  where
    first : of u.pass.mark (known_at k u.pass).made ++ made_by u.pass.mark k us ≡ of u.pass.mark (known_at k u.pass).made
    first = ap (λ (xs : List (List Entry)). of u.pass.mark (known_at k u.pass).made ++ xs) (made_none u.pass.mark k us mine.1 apart.0)
        ∙ append-nil (of u.pass.mark (known_at k u.pass).made)

-- the tenures of a worker's mark that the keeper knows are the worker's own
pub of_worker : (k : ℕ) (keeper : Worker) (others : List Worker) (w : Worker) → AreWide k (keeper ∷ others) → AreMine k (keeper ∷ others) →
    HaveSeats (keeper ∷ others) → IsIn (keeper ∷ others) w → of w.pass.mark (known_at k (gathering keeper.pass others)).made ≡
    of w.pass.mark (known_at k w.pass).made
unfolding made_by
of_worker k keeper others w wide mine apart h = of_gathering w.pass.mark k keeper.pass others wide.0 wide.1 ∙ made_one k (keeper ∷ others) w mine apart h

-- ---- what each had seen

all_begin_parts : (whole : List (Tenure Entry)) (xs ys : List (List (Tenure Entry))) → AllBegin whole (xs ++ ys) → AllBegin whole xs × AllBegin whole ys
all_begin_parts whole [] ys h = (tt, h)
all_begin_parts whole (x ∷ xs) ys h = let more = all_begin_parts whole xs ys h.1 in ((h.0, more.0), more.1)

record HasBegun (log : List (Tenure Entry)) (k : ℕ) (v : EndPass) : Type 0 where
  pub seen : Begins log (known_at k v).seen
  pub others : AllBegin log (known_at k v).others

abbrev pub AreBegun : List (Tenure Entry) → ℕ → List Worker → Type 0
AreBegun log k ws = AllAre (λ (w : Worker). Begins log (known_at k w.pass).seen) ws

begun_more : (log : List (Tenure Entry)) (k : ℕ) (v : EndPass) (w : Worker) (ws : List Worker) → IsWide k v → IsWide k w.pass →
    HasBegun log k (gathered v w.pass) × AreBegun log k ws → HasBegun log k v × AreBegun log k (w ∷ ws)
begun_more log k v w ws a b more = (record { seen = subst (λ (x : Known Entry). Begins log x.seen) known more.0.seen; others = parts.0 }, (parts.1.0, more.1))
  where
    known : known_at k (gathered v w.pass) ≡ both_at (known_at k v) (known_at k w.pass)
    known = known_gathered k v w.pass a b

    parts : AllBegin log (known_at k v).others × AllBegin log ((known_at k w.pass).seen ∷ (known_at k w.pass).others)
    parts = all_begin_parts log (known_at k v).others ((known_at k w.pass).seen ∷ (known_at k w.pass).others)
        (subst (λ (x : Known Entry). AllBegin log x.others) known more.0.others)

begun : (log : List (Tenure Entry)) (k : ℕ) (v : EndPass) (ws : List Worker) → IsWide k v → AreWide k ws → HasBegun log k (gathering v ws) →
    HasBegun log k v × AreBegun log k ws
begun log k v [] a b h = (h, tt)
begun log k v (w ∷ ws) a b h = begun_more log k v w ws a b.0 (begun log k (gathered v w.pass) ws (wide_gathered k v w.pass a) b.1 h)

pub all_begun : (log : List (Tenure Entry)) (k : ℕ) (keeper : Worker) (others : List Worker) → AreWide k (keeper ∷ others) →
    Begins log (known_at k (gathering keeper.pass others)).seen → AllBegin log (known_at k (gathering keeper.pass others)).others →
    AreBegun log k (keeper ∷ others)
all_begun log k keeper others wide seen passed = let all = begun log k keeper.pass others wide.0 wide.1 (record { seen = seen; others = passed }) in
    (all.0.seen, all.1)

-- ---- the seats

has_parts : (m : ℕ) (xs ys : List ℕ) → has m (xs ++ ys) ≡ true → (has m xs ≡ true) ⊎ (has m ys ≡ true)
has_parts m [] ys h = inr h
has_parts m (x ∷ xs) ys h = by_test (x == m) h (has_parts m xs ys)
  where
    by_test : (b : Bool) → (b || has m (xs ++ ys)) ≡ true → (has m (xs ++ ys) ≡ true → (has m xs ≡ true) ⊎ (has m ys ≡ true)) →
        ((b || has m xs) ≡ true) ⊎ (has m ys ≡ true)
    by_test true g more = inl refl
    by_test false g more = more g

-- one of them has this mark
pub record HasMark (ws : List Worker) (m : ℕ) : Type 0 where
  pub worker : Worker
  pub there : IsIn ws worker
  pub mark : worker.pass.mark ≡ m

abbrev pub KeepOwn : List Worker → Type 0
KeepOwn ws = AllAre (λ (w : Worker). w.pass.keeps ≡ w.pass.mark ∷ []) ws

own_mark : (m : ℕ) (v : EndPass) → v.keeps ≡ v.mark ∷ [] → has m v.keeps ≡ true → v.mark ≡ m
own_mark m v own h = by_test (v.mark == m) refl (subst (λ (ms : List ℕ). has m ms ≡ true) own h)
  where
    by_test : (b : Bool) → (v.mark == m) ≡ b → (b || false) ≡ true → v.mark ≡ m
    by_test true is g = eqb-true v.mark m is
    by_test false is g = absurd (true≢false (sym g))

kept_by : (m : ℕ) (v : EndPass) (ws : List Worker) → KeepOwn ws → has m (gathering v ws).keeps ≡ true → (has m v.keeps ≡ true) ⊎ HasMark ws m
kept_by m v [] own h = inl h
kept_by m v (w ∷ ws) own h =
    ⊎_elim
    (λ (a : has m (v.keeps ++ w.pass.keeps) ≡ true).
    ⊎_elim (λ (b : has m v.keeps ≡ true). inl b) (λ (b : has m w.pass.keeps ≡ true). inr (record {
      worker = w;
      there = inl refl;
      mark = own_mark m w.pass own.0 b;
    })) (has_parts m v.keeps w.pass.keeps a))
    (λ (a : HasMark ws m). inr (record { worker = a.worker; there = inr a.there; mark = a.mark }))
    (kept_by m (gathered v w.pass) ws own.1 h)

-- each mark that the keeper keeps is a worker's
pub marked : (m : ℕ) (keeper : Worker) (others : List Worker) → KeepOwn (keeper ∷ others) → has m (gathering keeper.pass others).keeps ≡ true →
    HasMark (keeper ∷ others) m
marked m keeper others own h =
    ⊎_elim
    (λ (a : has m keeper.pass.keeps ≡ true). record { worker = keeper; there = inl refl; mark = own_mark m keeper.pass own.0 a })
    (λ (a : HasMark others m). record { worker = a.worker; there = inr a.there; mark = a.mark })
    (kept_by m keeper.pass others own.1 h)

pub seats_same : (v : EndPass) (ws : List Worker) → (gathering v ws).seats ≡ v.seats
seats_same v [] = refl
seats_same v (w ∷ ws) = seats_same (gathered v w.pass) ws

pub births_same : (v : EndPass) (ws : List Worker) → (gathering v ws).births ≡ v.births
births_same v [] = refl
births_same v (w ∷ ws) = births_same (gathered v w.pass) ws

-- the worker whose seat it is
pub worker_of : ℕ → Worker → List Worker → Worker
worker_of m d [] = d
worker_of m d (w ∷ ws) = cond (w.pass.mark == m) w (worker_of m d ws)

pub worker_is : (d : Worker) (ws : List Worker) (w : Worker) → HaveSeats ws → IsIn ws w → worker_of w.pass.mark d ws ≡ w
unfolding worker_of
worker_is d [] w apart h = absurd h
worker_is d (u ∷ us) w apart h =
    ⊎_elim
    (λ (here : u ≡ w). ap (λ (b : Bool). cond b u (worker_of w.pass.mark d us)) (eq-eqb u.pass.mark w.pass.mark (ap (λ (z : Worker). z.pass.mark) here)) ∙ here)
    (λ (there : IsIn us w). by_test (u.pass.mark == w.pass.mark) refl there (worker_is d us w apart.1 there))
    h
  where
    by_test : (b : Bool) → (u.pass.mark == w.pass.mark) ≡ b → IsIn us w → worker_of w.pass.mark d us ≡ w → cond b u (worker_of w.pass.mark d us) ≡ w
    by_test true is there more = absurd (all_in (λ (z : Worker). u.pass.mark ≢ z.pass.mark) us w apart.0 there (eqb-true u.pass.mark w.pass.mark is))
    by_test false is there more = more
