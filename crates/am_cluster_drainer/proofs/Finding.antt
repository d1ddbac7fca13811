-- Finding by reading one after the other.
use Rattle.std.proofs.Common.{◌≡◌, ℕ, zero, suc, ◌+◌, ◌≤◌, List, [], ◌∷◌, Option, Some, None, Bool, true, false, cond, map, length, drop, refl, sym, ◌∙◌, ap}
use Rattle.std.proofs.Common.{subst, eqb-true, arith, rules}
use Rattle.std.specs.Prelude.{◌&&◌, ◌==◌, not, find, filter, slice_get, option_map, IfSome}
use Rattle.am_model.specs.Endpoint.{front, front_of}
use Rattle.am_model_scripts.specs.Links.{first_some}
use Rattle.am_model_scripts.specs.Standings.{Standing}
use Rattle.am_model_scripts.proofs.Lists.{none_mapped}
use Rattle.am_model_drain.specs.declared.Turn.{Turn}
use Rattle.am_model_drain.specs.Rules.{has_reply, has_request, finds_room, next_sender, send_front, send_of, next_send}
use Rattle.am_model.specs.declared.Queued.{Queued}
use Rattle.am_cluster_drainer.specs.declared.EndMail.{EndMail}
use Rattle.am_model.specs.Layout.{Layout}
use Rattle.am_cluster_drainer.specs.Reads.{mail_of, is_seat, is_turn_in_range}
use Rattle.am_cluster_drainer.specs.Choices.{send_by}

-- ---- one element more

record IsNext {X Y : Type 0} (read : X → Y) (xs : List X) (i : ℕ) (y : Y) : Type 0 where
  x : X
  reads : read x ≡ y
  drops : drop i xs ≡ x ∷ drop (suc i) xs

next_in : {X Y : Type 0} (read : X → Y) (xs : List X) (i : ℕ) (y : Y) → slice_get (map read xs) i ≡ Some y → IsNext read xs i y
next_in read [] i y e = absurd (cc)
next_in read (x ∷ xs) zero y e = record { x = x; reads = cc; drops = refl }
next_in read (x ∷ xs) (suc i) y e =
    let next : IsNext read xs i y = next_in read xs i y e in
    record { x = next.x; reads = next.reads; drops = next.drops }

drop_more : {X : Type 0} (xs : List X) (i : ℕ) → drop (suc i) xs ≡ drop (i + 1) xs
drop_more xs i =
    let one : suc i ≡ i + 1 = omega arith in
    ap (λ (n : ℕ). drop n xs) one

drop_none : {X : Type 0} (i : ℕ) → drop {A = X} i [] ≡ []
drop_none zero = refl
drop_none (suc i) = refl

drop_past : {X : Type 0} (i : ℕ) (xs : List X) → length xs ≤ i → drop i xs ≡ []
drop_past i [] h = drop_none i
drop_past zero (x ∷ xs) h = absurd (omega (arith, h))
drop_past (suc i) (x ∷ xs) h = drop_past i xs (omega (arith, h))

-- ---- the first that passes

abbrev pub read_from : {X Y : Type 0} → (X → Y) → (Y → Bool) → ℕ → List X → Option Y
read_from read passes i xs = option_map read (find (λ x. passes (read x)) (drop i xs))

found_first : {X Y : Type 0} (read : X → Y) (passes : Y → Bool) (x : X) (y : Y) (xs : List X) → read x ≡ y → passes y ≡ true →
    option_map read (cond (passes (read x)) (Some x) (find (λ z. passes (read z)) xs)) ≡ Some y
found_first read passes x y xs e f =
    ap (λ (b : Bool). option_map read (cond b (Some x) (find (λ z. passes (read z)) xs))) (ap passes e ∙ f) ∙ ap (λ z. let o : Option _ = Some z in o) e

found_later : {X Y : Type 0} (read : X → Y) (passes : Y → Bool) (x : X) (y : Y) (xs : List X) → read x ≡ y → passes y ≡ false →
    option_map read (cond (passes (read x)) (Some x) (find (λ z. passes (read z)) xs)) ≡ option_map read (find (λ z. passes (read z)) xs)
found_later read passes x y xs e f = ap (λ (b : Bool). option_map read (cond b (Some x) (find (λ z. passes (read z)) xs))) (ap passes e ∙ f)

pub read_here : {X Y : Type 0} (read : X → Y) (passes : Y → Bool) (xs : List X) (i : ℕ) (y : Y) → slice_get (map read xs) i ≡ Some y → passes y ≡ true →
    read_from read passes i xs ≡ Some y
read_here read passes xs i y e f =
    let next = next_in read xs i y e in
    ap (λ zs. option_map read (find (λ z. passes (read z)) zs)) next.drops ∙ found_first read passes next.x y (drop (suc i) xs) next.reads f

pub read_not : {X Y : Type 0} (read : X → Y) (passes : Y → Bool) (xs : List X) (i : ℕ) (y : Y) → slice_get (map read xs) i ≡ Some y → passes y ≡ false →
    read_from read passes (i + 1) xs ≡ read_from read passes i xs
read_not read passes xs i y e f =
    let next = next_in read xs i y e in
    let later = ap (λ zs. option_map read (find (λ z. passes (read z)) zs)) next.drops ∙ found_later read passes next.x y (drop (suc i) xs) next.reads f in
    sym (later ∙ ap (λ zs. option_map read (find (λ z. passes (read z)) zs)) (drop_more xs i))

pub read_past : {X Y : Type 0} (read : X → Y) (passes : Y → Bool) (xs : List X) (i : ℕ) → length xs ≤ i → read_from read passes i xs ≡ None
read_past read passes xs i h = ap (λ zs. option_map read (find (λ z. passes (read z)) zs)) (drop_past i xs h)

-- ---- how many pass

abbrev pub count_from : {X Y : Type 0} → (X → Y) → (Y → Bool) → ℕ → List X → ℕ
count_from read passes i xs = length (filter (λ x. passes (read x)) (drop i xs))

counted_one : {X : Type 0} (b : Bool) (x : X) (xs : List X) → b ≡ true → length (cond b (x ∷ xs) xs) ≡ length xs + 1
counted_one true x xs e = omega arith
counted_one false x xs e = absurd (cc)

counted_none : {X : Type 0} (b : Bool) (x : X) (xs : List X) → b ≡ false → length (cond b (x ∷ xs) xs) ≡ length xs
counted_none true x xs e = absurd (cc)
counted_none false x xs e = refl

pub count_here : {X Y : Type 0} (read : X → Y) (passes : Y → Bool) (xs : List X) (i : ℕ) (y : Y) → slice_get (map read xs) i ≡ Some y → passes y ≡ true →
    count_from read passes i xs ≡ count_from read passes (i + 1) xs + 1
count_here read passes xs i y e f =
    let next = next_in read xs i y e in
    ap (λ zs. length (filter (λ z. passes (read z)) zs)) next.drops
    ∙ (counted_one (passes (read next.x)) next.x (filter (λ z. passes (read z)) (drop (suc i) xs)) (ap passes next.reads ∙ f)
    ∙ ap (λ zs. length (filter (λ z. passes (read z)) zs) + 1) (drop_more xs i))

pub count_not : {X Y : Type 0} (read : X → Y) (passes : Y → Bool) (xs : List X) (i : ℕ) (y : Y) → slice_get (map read xs) i ≡ Some y → passes y ≡ false →
    count_from read passes i xs ≡ count_from read passes (i + 1) xs
count_not read passes xs i y e f =
    let next = next_in read xs i y e in
    ap (λ zs. length (filter (λ z. passes (read z)) zs)) next.drops
    ∙ (counted_none (passes (read next.x)) next.x (filter (λ z. passes (read z)) (drop (suc i) xs)) (ap passes next.reads ∙ f)
    ∙ ap (λ zs. length (filter (λ z. passes (read z)) zs)) (drop_more xs i))

pub count_past : {X Y : Type 0} (read : X → Y) (passes : Y → Bool) (xs : List X) (i : ℕ) → length xs ≤ i → count_from read passes i xs ≡ 0
count_past read passes xs i h = ap (λ zs. length (filter (λ z. passes (read z)) zs)) (drop_past i xs h)

-- ---- one test after another

found_step : {X : Type 0} (p q : X → Bool) (b : Bool) (x : X) (xs : List X) → p x ≡ b → find q (filter p xs) ≡ find (λ z. p z && q z) xs →
    find q (cond b (x ∷ filter p xs) (filter p xs)) ≡ cond (b && q x) (Some x) (find (λ z. p z && q z) xs)
found_step p q true x xs e h = ap (λ o. cond (q x) (Some x) o) h
found_step p q false x xs e h = h

pub find_filtered : {X : Type 0} (p q : X → Bool) (xs : List X) → find q (filter p xs) ≡ find (λ x. p x && q x) xs
find_filtered p q [] = refl
find_filtered p q (x ∷ xs) = found_step p q (p x) x xs refl (find_filtered p q xs)

-- ---- the sender

-- where no endpoint has a reply, its front message is the front of its requests
front_request : (ends : List Standing) (s : Standing) (replies requests : List Queued) → (not (length replies == 0)) ≡ false → s.state.body.replies ≡ replies →
    s.state.body.requests ≡ requests → finds_room ends (front s.state) ≡ has_request ends s
front_request ends s [] [] none e f =
    ap (λ rs. finds_room ends (front_of rs s.state.body.requests)) e ∙ (ap (λ qs. finds_room ends (front_of [] qs)) f
    ∙ sym (ap (λ qs. finds_room ends (slice_get qs 0)) f))
front_request ends s [] (q ∷ qs) none e f =
    ap (λ rs. finds_room ends (front_of rs s.state.body.requests)) e ∙ (ap (λ ps. finds_room ends (front_of [] ps)) f
    ∙ sym (ap (λ ps. finds_room ends (slice_get ps 0)) f))
front_request ends s (r ∷ rs) requests none e f =
    absurd (omega (arith, eqb-true (length (r ∷ rs)) 0 (not_false (length (r ∷ rs) == 0) none)))
  where
    not_false : (b : Bool) → not b ≡ false → b ≡ true
    not_false true h = refl
    not_false false h = absurd (cc)

cond_none : {X : Type 0} (b : Bool) (x : X) (o : Option X) → cond b (Some x) o ≡ None → (b ≡ false) × (o ≡ None)
cond_none true x o e = absurd (cc)
cond_none false x o e = (refl, e)

find_same : {X : Type 0} (b c : Bool) (x : X) (o r : Option X) → b ≡ c → o ≡ r → cond b (Some x) o ≡ cond c (Some x) r
find_same b c x o r e f = ap (λ (d : Bool). cond d (Some x) o) e ∙ ap (λ (t : Option _). cond c (Some x) t) f

requests_found : (ends xs : List Standing) → find has_reply xs ≡ None → find (λ (s : Standing). finds_room ends (front s.state)) xs ≡ find (has_request ends) xs
requests_found ends [] e = refl
requests_found ends (s ∷ xs) e =
    let none = cond_none (has_reply s) s (find has_reply xs) e in
    find_same (finds_room ends (front s.state)) (has_request ends s) s (find (λ (z : Standing). finds_room ends (front z.state)) xs)
    (find (has_request ends) xs)
    (front_request ends s s.state.body.replies s.state.body.requests none.0 refl refl)
    (requests_found ends xs none.1)

first_mapped : {X Y : Type 0} (f : X → Y) (a b : Option X) (y : Y) → option_map f a ≡ Some y → option_map f (first_some (a ∷ b ∷ [])) ≡ Some y
first_mapped f None b y e = absurd (cc)
first_mapped f (Some x) b y e = e

second_mapped : {X : Type 0} (a b : Option X) → a ≡ None → first_some (a ∷ b ∷ []) ≡ b
second_mapped None None e = refl
second_mapped None (Some x) e = refl
second_mapped (Some x) b e = absurd (cc)

pub reply_sends : (ends : List Standing) (m : EndMail) → option_map mail_of (find has_reply ends) ≡ Some m → option_map mail_of (next_sender ends) ≡ Some m
reply_sends ends m e = first_mapped mail_of (find has_reply ends) (find (has_request ends) ends) m e

pub request_sends : (ends : List Standing) → option_map mail_of (find has_reply ends) ≡ None →
    option_map mail_of (find (λ (s : Standing). finds_room ends (front s.state)) ends) ≡ option_map mail_of (next_sender ends)
request_sends ends e =
    let none = none_mapped mail_of (find has_reply ends) e in
    ap (option_map mail_of) (requests_found ends ends none ∙ sym (second_mapped (find has_reply ends) (find (has_request ends) ends) none))

abbrev send_read : Option EndMail → Option Turn
send_read None = None
send_read (Some m) = send_by m m.front

send_fronts : (s : Standing) (o : Option Queued) → send_by (mail_of s) o ≡ send_front s o
send_fronts s None = refl
send_fronts s (Some q) = refl

sends_read : (o : Option Standing) → send_read (option_map mail_of o) ≡ send_of o
sends_read None = refl
sends_read (Some s) = send_fronts s (front s.state)

pub send_some : (ends : List Standing) (m : EndMail) → Some m ≡ option_map mail_of (next_sender ends) → send_by m m.front ≡ next_send ends
send_some ends m e = ap send_read e ∙ sends_read (next_sender ends)

pub send_none : (ends : List Standing) → None ≡ option_map mail_of (next_sender ends) → None ≡ next_send ends
send_none ends e = ap send_read e ∙ sends_read (next_sender ends)

-- a send has its numbers in range where its endpoint has
pub sent_in_range : (layout : Layout) (m : EndMail) (o : Option Queued) (r : Option Turn) → is_seat layout m.node m.id ≡ true → r ≡ send_by m o →
    IfSome r (λ t. is_turn_in_range layout t ≡ true)
sent_in_range layout m o r seat e = subst (λ (u : Option Turn). IfSome u (λ t. is_turn_in_range layout t ≡ true)) (sym e) (by_front o)
  where
    by_front : (q : Option Queued) → IfSome (send_by m q) (λ t. is_turn_in_range layout t ≡ true)
    by_front None = search rules
    by_front (Some q) = search (rules, seat)
