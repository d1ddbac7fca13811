-- The ends of a channel, one entry more.
use Rattle.std.specs.Prelude.{slice_get}
use Rattle.std.proofs.Common.{◌≡◌, ◌⊎◌, inl, inr, ⊎_elim, ℕ, zero, suc, ◌+◌, Bool, true, false, cond, ◌||◌, List, [], ◌∷◌, ◌++◌, Option, Some, None, refl, ap}
use Rattle.std.proofs.Common.{◌∙◌, subst, if◌then◌else◌}
use Rattle.std.proofs.lemmas.List.{reverse-append}
use Rattle.std.specs.List.{find, filter, filter_map, cons_option}
use Rattle.am_names.specs.declared.NodeId.{NodeId}
use Rattle.am_names.specs.declared.Packet.{Packet}
use Rattle.am_office_entries.specs.declared.Entry.{Entry}
use Rattle.am_model.specs.Channels.{Channel, last_such, sequence, bound_message, bound_by, sent_message, attempt, attempt_by, attempt_in, mark, mark_by}
use Rattle.am_model.specs.Channels.{mark_in, binds, sends, frees, decides, emitted, is_on_link}
use Rattle.am_office_entries.specs.Entries.{emitted_of}
use Rattle.am_model.proofs.Received.{bit}
use Rattle.std.proofs.lemmas.List.Sums.{sum_by_push}

pub last_such_push : (p : Entry → Bool) (xs : List Entry) (x : Entry) → last_such p (xs ++ x ∷ []) ≡ (if p x then Some x else last_such p xs)
last_such_push p xs x = ap (find p) (reverse-append xs (x ∷ []))

pub sequence_push : (c : Channel) (xs : List Entry) (x : Entry) → sequence c (xs ++ x ∷ []) ≡ sequence c xs + bit (binds c x.event x.outcome)
sequence_push c xs x = sum_by_push (λ (y : Entry). bit (binds c y.event y.outcome)) xs x

pub attempt_push : (c : Channel) (xs : List Entry) (x : Entry) (t : Bool) → sends c x.event x.outcome ≡ t →
    attempt c (xs ++ x ∷ []) ≡ (if t then attempt_in x.outcome else attempt c xs)
attempt_push c xs x t is = ap attempt_by (last_such_push (λ (y : Entry). sends c y.event y.outcome) xs x) ∙ rw is (by_test t)
  where
    by_test : (b : Bool) → attempt_by (if b then Some x else last_such (λ (y : Entry). sends c y.event y.outcome) xs) ≡
        (if b then attempt_in x.outcome else attempt c xs)
    by_test true = refl
    by_test false = refl

pub bound_push : (c : Channel) (xs : List Entry) (x : Entry) (t : Bool) → (binds c x.event x.outcome || frees c x.event x.outcome) ≡ t →
    bound_message c (xs ++ x ∷ []) ≡ (if t then sent_message x.outcome else bound_message c xs)
bound_push c xs x t is = ap bound_by (last_such_push (λ (y : Entry). binds c y.event y.outcome || frees c y.event y.outcome) xs x) ∙ rw is (by_test t)
  where
    by_test : (b : Bool) → bound_by (if b then Some x else last_such (λ (y : Entry). binds c y.event y.outcome || frees c y.event y.outcome) xs) ≡
        (if b then sent_message x.outcome else bound_message c xs)
    by_test true = refl
    by_test false = refl

pub mark_push : (c : Channel) (xs : List Entry) (x : Entry) (t : Bool) → decides c x.event x.outcome ≡ t →
    mark c (xs ++ x ∷ []) ≡ (if t then mark_in x.outcome else mark c xs)
mark_push c xs x t is = ap mark_by (last_such_push (λ (y : Entry). decides c y.event y.outcome) xs x) ∙ rw is (by_test t)
  where
    by_test : (b : Bool) → mark_by (if b then Some x else last_such (λ (y : Entry). decides c y.event y.outcome) xs) ≡
        (if b then mark_in x.outcome else mark c xs)
    by_test true = refl
    by_test false = refl

-- the packet is emitted by one of these entries
abbrev pub EmittedIn : Packet → List Entry → Type 0
EmittedIn p [] = ⊥
EmittedIn p (x ∷ xs) = (emitted_of x ≡ Some p) ⊎ EmittedIn p xs

pub emitted_more : (p : Packet) (xs : List Entry) (x : Entry) → EmittedIn p (xs ++ x ∷ []) → EmittedIn p xs ⊎ (emitted_of x ≡ Some p)
emitted_more p [] x h = ⊎_elim (λ here. inr here) (λ none. absurd none) h
emitted_more p (y ∷ xs) x h = ⊎_elim (λ here. inl (inl here)) (λ later. ⊎_elim (λ there. inl (inr there)) (λ here. inr here) (emitted_more p xs x later)) h

emitted_at : (node peer : NodeId) (xs : List Packet) (k : ℕ) (p : Packet) → slice_get (filter (is_on_link node peer) xs) k ≡ Some p →
    (i : ℕ) × (slice_get xs i ≡ Some p) × (is_on_link node peer p ≡ true)
emitted_at node peer [] k p e = absurd (cc)
emitted_at node peer (x ∷ xs) k p e = by_test (is_on_link node peer x) refl k e (λ j f. emitted_at node peer xs j p f)
  where
    by_test : (b : Bool) → is_on_link node peer x ≡ b → (j : ℕ) →
        slice_get (cond b (x ∷ filter (is_on_link node peer) xs) (filter (is_on_link node peer) xs)) j ≡ Some p →
        ((j : ℕ) → slice_get (filter (is_on_link node peer) xs) j ≡ Some p → (i : ℕ) × (slice_get xs i ≡ Some p) × (is_on_link node peer p ≡ true)) →
        (i : ℕ) × (slice_get (x ∷ xs) i ≡ Some p) × (is_on_link node peer p ≡ true)
    by_test true on zero f more = let same : x ≡ p = cc in (zero, f, subst (λ (q : Packet). is_on_link node peer q ≡ true) same on)
    by_test true on (suc j) f more = let r = more j f in (suc r.0, r.1, r.2)
    by_test false on j f more = let r = more j f in (suc r.0, r.1, r.2)

emitted_of_at : (xs : List Entry) (k : ℕ) (p : Packet) → slice_get (filter_map emitted_of xs) k ≡ Some p → EmittedIn p xs
emitted_of_at [] k p e = absurd (cc)
emitted_of_at (x ∷ xs) k p e = by_packet (emitted_of x) refl k e (λ j f. emitted_of_at xs j p f)
  where
    by_packet : (q : Option Packet) → emitted_of x ≡ q → (j : ℕ) → slice_get (cons_option q (filter_map emitted_of xs)) j ≡ Some p →
        ((j : ℕ) → slice_get (filter_map emitted_of xs) j ≡ Some p → EmittedIn p xs) → (emitted_of x ≡ Some p) ⊎ EmittedIn p xs
    by_packet None is j f more = inr (more j f)
    by_packet (Some q) is zero f more = inl (is ∙ f)
    by_packet (Some q) is (suc j) f more = inr (more j f)

-- a packet that was taken from a link was emitted on it
pub was_emitted : (node peer : NodeId) (xs : List Entry) (k : ℕ) (p : Packet) → slice_get (emitted node peer xs) k ≡ Some p →
    EmittedIn p xs × (is_on_link node peer p ≡ true)
was_emitted node peer xs k p e = let r = emitted_at node peer (filter_map emitted_of xs) k p e in (emitted_of_at xs r.0 p r.1, r.2)
