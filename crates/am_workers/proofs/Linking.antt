-- The links of a node, when one of them changed.
use Rattle.std.specs.Prelude.{is_some, slice_get, slice_index_or, slice_set}
use Rattle.std.proofs.Common.{◌≡◌, ◌≢◌, ◌⊎◌, inl, inr, ⊎_elim, ℕ, zero, suc, ◌<◌, ◌≤◌, ◌==◌, Bool, true, false, cond, List, [], ◌∷◌, ◌++◌, length, get_or}
use Rattle.std.proofs.Common.{Option, Some, None, OnOk, Result, Ok, Err, refl, sym, ap, ◌∙◌, subst, arith, append-nil, eqb-true, eq-eqb, true≢false}
use Rattle.std.proofs.lemmas.Option.{slice_get-get_or, slice_get_within}
use Rattle.std.proofs.lemmas.List.{length-set}
use Rattle.am_lemmas.proofs.Lists.{slice_get-set_elsewhere}
use Rattle.am_names.specs.declared.NodeId.{NodeId}
use Rattle.am_names.specs.declared.Packet.{Packet}
use Rattle.am_model.specs.Packets.{receiver_of}
use Rattle.am_wire.specs.Links.{SameEnd, SameLink, emitted, received, spare}
use Rattle.am_wire.specs.declared.receiving.LinkIn.{LinkIn}
use Rattle.am_wire.specs.declared.sending.LinkOut.{LinkOut}
use Rattle.am_workers.specs.Turns.Servers.{sent_to}
use Rattle.am_workers_laws.specs.Invariants.Works.{Hand, held_from}
use Rattle.am_workers.specs.AtWork.{SameIns, SameOuts, sent_by, sent_on, taken_by, taken_on}
use Rattle.am_workers.specs.Ways.{AreKept, HaveRoom, HaveRoomBut}

-- ---- lists

pub at_index : {X : Type 0} (xs : List X) (k : ℕ) (x : X) → k < length xs → x ≡ slice_index_or xs k x → slice_get xs k ≡ Some x
at_index [] k x h is = absurd (omega (arith, h))
at_index (y ∷ xs) zero x h is = ap Some (sym is)
at_index (y ∷ xs) (suc k) x h is = at_index xs k x (omega (arith, h)) is

-- what stands at a place after a write
pub got_set : {X : Type 0} (xs : List X) (i k : ℕ) (v x : X) → slice_get (slice_set xs i v) k ≡ Some x →
    ((k ≡ i) × (x ≡ v)) ⊎ ((k ≢ i) × (slice_get xs k ≡ Some x))
got_set [] i k v x h = absurd (cc)
got_set (y ∷ xs) zero zero v x h = inl (refl, cc)
got_set (y ∷ xs) zero (suc k) v x h = inr ((λ q. omega (arith, q)), h)
got_set (y ∷ xs) (suc i) zero v x h = inr ((λ q. omega (arith, q)), h)
got_set (y ∷ xs) (suc i) (suc k) v x h = ⊎_elim (λ here. inl (ap suc here.0, here.1)) (λ there. inr ((λ q. there.0 (omega (arith, q))), there.1))
    (got_set xs i k v x h)

-- a list as long has an element where the other has one
pub as_there : {X : Type 0} (xs ys : List X) (k : ℕ) (y : X) → length ys ≡ length xs → slice_get ys k ≡ Some y → (x : X) × (slice_get xs k ≡ Some x)
as_there xs ys k y all at = let lt : k < length ys = slice_get_within ys k y at in (get_or xs k y, slice_get-get_or xs k y (omega (arith, lt, all)))

pub same_got : {X : Type 0} (o : Option X) (x y : X) → o ≡ Some x → o ≡ Some y → x ≡ y
same_got o x y a b = cc

-- ---- the same link

pub link_itself : (o : LinkOut) → SameLink o o
link_itself o = record { plan = refl; from = refl; to = refl; ring = ((refl, refl, refl, refl), refl) }

pub link_then : (o p q : LinkOut) → SameLink o p → SameLink p q → SameLink o q
link_then o p q h g =
    record {
      plan = g.plan ∙ h.plan;
      from = g.from ∙ h.from;
      to = g.to ∙ h.to;
      ring = ((g.ring.0.0 ∙ h.ring.0.0, g.ring.0.1 ∙ h.ring.0.1, g.ring.0.2 ∙ h.ring.0.2, g.ring.0.3 ∙ h.ring.0.3), g.ring.1 ∙ h.ring.1);
    }

pub end_itself : (i : LinkIn) → SameEnd i i
end_itself i = ((refl, refl, refl, refl), refl)

pub end_then : (i j k : LinkIn) → SameEnd i j → SameEnd j k → SameEnd i k
end_then i j k h g = ((g.0.0 ∙ h.0.0, g.0.1 ∙ h.0.1, g.0.2 ∙ h.0.2, g.0.3 ∙ h.0.3), g.1 ∙ h.1)

-- ---- the same links

pub outs_itself : (a : List LinkOut) → SameOuts a a
outs_itself a = record { all = refl; each = λ k o p at there. subst (λ (z : LinkOut). SameLink o z) (same_got (slice_get a k) o p at there) (link_itself o) }

pub outs_then : (a b c : List LinkOut) → SameOuts a b → SameOuts b c → SameOuts a c
outs_then a b c h g =
    record {
      all = g.all ∙ h.all;
      each = λ k o q at there. (let p : (x : LinkOut) × (slice_get b k ≡ Some x) = as_there b c k q g.all there in
          link_then o p.0 q (h.each k o p.0 at p.1) (g.each k p.0 q p.1 there));
    }

set_link : (a : List LinkOut) (k : ℕ) (o p : LinkOut) → slice_get a k ≡ Some o → SameLink o p → (j : ℕ) (x y : LinkOut) → slice_get a j ≡ Some x →
    slice_get (slice_set a k p) j ≡ Some y → SameLink x y
set_link a k o p here same j x y at there = ⊎_elim written elsewhere (got_set a k j p y there)
  where
    written : (j ≡ k) × (y ≡ p) → SameLink x y
    written e = let was : o ≡ x = same_got (slice_get a j) o x (ap (slice_get a) e.0 ∙ here) at in
        subst (λ (z : LinkOut). SameLink x z) (sym e.1) (subst (λ (z : LinkOut). SameLink z p) was same)

    elsewhere : (j ≢ k) × (slice_get a j ≡ Some y) → SameLink x y
    elsewhere e = subst (λ (z : LinkOut). SameLink x z) (same_got (slice_get a j) x y at e.1) (link_itself x)

pub outs_set : (a : List LinkOut) (k : ℕ) (o p : LinkOut) → slice_get a k ≡ Some o → SameLink o p → SameOuts a (slice_set a k p)
outs_set a k o p here same = record { all = length-set a k p; each = set_link a k o p here same }

pub ins_itself : (a : List LinkIn) → SameIns a a
ins_itself a = record { all = refl; each = λ k o p at there. subst (λ (z : LinkIn). SameEnd o z) (same_got (slice_get a k) o p at there) (end_itself o) }

pub ins_then : (a b c : List LinkIn) → SameIns a b → SameIns b c → SameIns a c
ins_then a b c h g =
    record {
      all = g.all ∙ h.all;
      each = λ k o q at there. (let p : (x : LinkIn) × (slice_get b k ≡ Some x) = as_there b c k q g.all there in
          end_then o p.0 q (h.each k o p.0 at p.1) (g.each k p.0 q p.1 there));
    }

set_end : (a : List LinkIn) (k : ℕ) (o p : LinkIn) → slice_get a k ≡ Some o → SameEnd o p → (j : ℕ) (x y : LinkIn) → slice_get a j ≡ Some x →
    slice_get (slice_set a k p) j ≡ Some y → SameEnd x y
set_end a k o p here same j x y at there = ⊎_elim written elsewhere (got_set a k j p y there)
  where
    written : (j ≡ k) × (y ≡ p) → SameEnd x y
    written e = let was : o ≡ x = same_got (slice_get a j) o x (ap (slice_get a) e.0 ∙ here) at in
        subst (λ (z : LinkIn). SameEnd x z) (sym e.1) (subst (λ (z : LinkIn). SameEnd z p) was same)

    elsewhere : (j ≢ k) × (slice_get a j ≡ Some y) → SameEnd x y
    elsewhere e = subst (λ (z : LinkIn). SameEnd x z) (same_got (slice_get a j) x y at e.1) (end_itself x)

pub ins_set : (a : List LinkIn) (k : ℕ) (o p : LinkIn) → slice_get a k ≡ Some o → SameEnd o p → SameIns a (slice_set a k p)
ins_set a k o p here same = record { all = length-set a k p; each = set_end a k o p here same }

-- ---- what was emitted and taken

pub here_set : {X : Type 0} (xs : List X) (k : ℕ) (o p : X) → slice_get xs k ≡ Some o → slice_get (slice_set xs k p) k ≡ Some p
here_set [] k o p here = absurd (cc)
here_set (x ∷ xs) zero o p here = refl
here_set (x ∷ xs) (suc k) o p here = here_set xs k o p here

sent_set : (a : List LinkOut) (k n : ℕ) (o p : LinkOut) → slice_get a k ≡ Some o →
    sent_on (slice_get (slice_set a k p) n) ≡ cond (n == k) (emitted p) (sent_on (slice_get a n))
sent_set a k n o p here = by_test (n == k) refl
  where
    by_test : (b : Bool) → (n == k) ≡ b → sent_on (slice_get (slice_set a k p) n) ≡ cond b (emitted p) (sent_on (slice_get a n))
    by_test true is = ap sent_on (ap (slice_get (slice_set a k p)) (eqb-true n k is) ∙ here_set a k o p here)
    by_test false is = ap sent_on (slice_get-set_elsewhere a k n p (λ same. true≢false (sym (eq-eqb n k same) ∙ is)))

taken_set : (a : List LinkIn) (k n : ℕ) (o p : LinkIn) → slice_get a k ≡ Some o →
    taken_on (slice_get (slice_set a k p) n) ≡ cond (n == k) (received p) (taken_on (slice_get a n))
taken_set a k n o p here = by_test (n == k) refl
  where
    by_test : (b : Bool) → (n == k) ≡ b → taken_on (slice_get (slice_set a k p) n) ≡ cond b (received p) (taken_on (slice_get a n))
    by_test true is = ap taken_on (ap (slice_get (slice_set a k p)) (eqb-true n k is) ∙ here_set a k o p here)
    by_test false is = ap taken_on (slice_get-set_elsewhere a k n p (λ same. true≢false (sym (eq-eqb n k same) ∙ is)))

-- nothing more was emitted on the link that changed
pub kept_set : (a : List LinkOut) (k : ℕ) (o p : LinkOut) → slice_get a k ≡ Some o → SameLink o p → emitted p ≡ emitted o → AreKept a (slice_set a k p)
kept_set a k o p here same sent = record { same = outs_set a k o p here same; sent = λ to. sent_set a k to.0 o p here ∙ by_test to (to.0 == k) refl }
  where
    by_test : (to : NodeId) (b : Bool) → (to.0 == k) ≡ b → cond b (emitted p) (sent_on (slice_get a to.0)) ≡ sent_on (slice_get a to.0)
    by_test to true is = sent ∙ sym (ap sent_on (ap (slice_get a) (eqb-true to.0 k is) ∙ here))
    by_test to false is = refl

pub kept_itself : (a : List LinkOut) → AreKept a a
kept_itself a = record { same = outs_itself a; sent = λ to. refl }

pub kept_then : (a b c : List LinkOut) → AreKept a b → AreKept b c → AreKept a c
kept_then a b c h g = record { same = outs_then a b c h.same g.same; sent = λ to. g.sent to ∙ h.sent to }

-- a packet more was emitted on the link to its receiver
pub sent_more : (a : List LinkOut) (k : ℕ) (o p : LinkOut) (packet : Packet) → k ≡ (receiver_of packet).0 → slice_get a k ≡ Some o →
    emitted p ≡ emitted o ++ packet ∷ [] → (to : NodeId) → sent_by (slice_set a k p) to ≡ sent_by a to ++ sent_to to (Some packet)
sent_more a k o p packet at here more to = sent_set a k to.0 o p here ∙ by_test (to.0 == k) refl
    ∙ ap (λ (n : ℕ). sent_on (slice_get a to.0) ++ cond (to.0 == n) (packet ∷ []) []) at
  where
    by_test : (b : Bool) → (to.0 == k) ≡ b → cond b (emitted p) (sent_on (slice_get a to.0)) ≡ sent_on (slice_get a to.0) ++ cond b (packet ∷ []) []
    by_test true is = more ∙ ap (λ (xs : List Packet). xs ++ packet ∷ []) (sym (ap sent_on (ap (slice_get a) (eqb-true to.0 k is) ∙ here)))
    by_test false is = sym (append-nil (sent_on (slice_get a to.0)))

-- a packet was taken out of a link
pub taken_one : (a : List LinkIn) (k : ℕ) (i j : LinkIn) (node : NodeId) (packet : Packet) → k ≡ node.0 → slice_get a k ≡ Some i →
    received j ≡ received i ++ packet ∷ [] → (from : NodeId) → taken_by (slice_set a k j) from ≡ taken_by a from ++ held_from from (Some (node, packet))
taken_one a k i j node packet at here more from = taken_set a k from.0 i j here ∙ by_test (from.0 == k) refl
    ∙ ap (λ (n : ℕ). taken_on (slice_get a from.0) ++ cond (from.0 == n) (packet ∷ []) []) at
  where
    by_test : (b : Bool) → (from.0 == k) ≡ b → cond b (received j) (taken_on (slice_get a from.0)) ≡ taken_on (slice_get a from.0) ++ cond b (packet ∷ []) []
    by_test true is = more ∙ ap (λ (xs : List Packet). xs ++ packet ∷ []) (sym (ap taken_on (ap (slice_get a) (eqb-true from.0 k is) ∙ here)))
    by_test false is = sym (append-nil (taken_on (slice_get a from.0)))

-- none was
pub taken_none : (a : List LinkIn) (k : ℕ) (i j : LinkIn) → slice_get a k ≡ Some i → received j ≡ received i → (from : NodeId) →
    taken_by (slice_set a k j) from ≡ taken_by a from ++ []
taken_none a k i j here same from = taken_set a k from.0 i j here ∙ by_test (from.0 == k) refl
  where
    by_test : (b : Bool) → (from.0 == k) ≡ b → cond b (received j) (taken_on (slice_get a from.0)) ≡ taken_on (slice_get a from.0) ++ []
    by_test true is = same ∙ sym (ap taken_on (ap (slice_get a) (eqb-true from.0 k is) ∙ here)) ∙ sym (append-nil (taken_on (slice_get a from.0)))
    by_test false is = sym (append-nil (taken_on (slice_get a from.0)))

-- where no packet was taken, what was taken is as it was
pub taken_nothing : (a b : List LinkIn) (hand : Hand) → is_some hand ≡ false → ((from : NodeId) → taken_by b from ≡ taken_by a from ++ held_from from hand) →
    (from : NodeId) → taken_by b from ≡ taken_by a from
taken_nothing a b None none taken from = taken from ∙ append-nil (taken_by a from)
taken_nothing a b (Some h) none taken from = absurd (true≢false none)

-- ---- room

pub room_set : (a : List LinkOut) (k : ℕ) (o p : LinkOut) → slice_get a k ≡ Some o → spare p ≡ spare o → HaveRoom a → HaveRoom (slice_set a k p)
room_set a k o p here same room j x at = ⊎_elim written elsewhere (got_set a k j p x at)
  where
    written : (j ≡ k) × (x ≡ p) → 1 ≤ spare x
    written e = subst (λ (z : LinkOut). 1 ≤ spare z) (sym e.1) (subst (λ (n : ℕ). 1 ≤ n) (sym same) (room k o here))

    elsewhere : (j ≢ k) × (slice_get a j ≡ Some x) → 1 ≤ spare x
    elsewhere e = room j x e.1

-- each has room but the one that was written
pub room_but : (a : List LinkOut) (k : ℕ) (p : LinkOut) → HaveRoom a → HaveRoomBut k (slice_set a k p)
room_but a k p room j x at apart = ⊎_elim written elsewhere (got_set a k j p x at)
  where
    written : (j ≡ k) × (x ≡ p) → 1 ≤ spare x
    written e = absurd (apart e.0)

    elsewhere : (j ≢ k) × (slice_get a j ≡ Some x) → 1 ≤ spare x
    elsewhere e = room j x e.1

pub others_set : (a : List LinkOut) (k : ℕ) (p : LinkOut) → HaveRoomBut k a → HaveRoomBut k (slice_set a k p)
others_set a k p room j x at apart = ⊎_elim written elsewhere (got_set a k j p x at)
  where
    written : (j ≡ k) × (x ≡ p) → 1 ≤ spare x
    written e = absurd (apart e.0)

    elsewhere : (j ≢ k) × (slice_get a j ≡ Some x) → 1 ≤ spare x
    elsewhere e = room j x e.1 e.0

-- each has room where the one without got some
pub room_made : (a : List LinkOut) (k : ℕ) (p : LinkOut) → HaveRoomBut k a → 1 ≤ spare p → HaveRoom (slice_set a k p)
room_made a k p room one j x at = ⊎_elim written elsewhere (got_set a k j p x at)
  where
    written : (j ≡ k) × (x ≡ p) → 1 ≤ spare x
    written e = subst (λ (z : LinkOut). 1 ≤ spare z) (sym e.1) one

    elsewhere : (j ≢ k) × (slice_get a j ≡ Some x) → 1 ≤ spare x
    elsewhere e = room j x e.1 e.0

-- and where it got some if a call went well, each has if it did
pub room_if : {T E : Type 0} (r : Result T E) (a : List LinkOut) (k : ℕ) (p : LinkOut) → HaveRoomBut k a → OnOk r (1 ≤ spare p) →
    OnOk r (HaveRoom (slice_set a k p))
room_if (Ok x) a k p room one = room_made a k p room one
room_if (Err e) a k p room one = one

-- where the one without is none of them, each has
pub room_past : (a : List LinkOut) (k : ℕ) → length a ≤ k → HaveRoomBut k a → HaveRoom a
room_past a k past room j x at = room j x at (λ e. (let lt : j < length a = slice_get_within a j x at in omega (arith, lt, past, e)))

pub room_but_any : (a : List LinkOut) (k : ℕ) → HaveRoom a → HaveRoomBut k a
room_but_any a k room j x at apart = room j x at
