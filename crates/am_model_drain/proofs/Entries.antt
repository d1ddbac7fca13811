-- The entry of an event that is in range and enabled may follow.
use Rattle.std.proofs.Common.{◌≡◌, ℕ, zero, suc, ◌+◌, ◌<◌, List, [], ◌∷◌, Option, Some, None, Bool, true, false, map, length, refl, ◌∙◌, ap, cond, arith}
use Rattle.std.proofs.Common.{lt-ltb}
use Rattle.std.specs.Prelude.{◌&&◌, ◌||◌, not, nat_lt, max, fold, filter, filter_map, slice_get, MatchOption}
use Rattle.std.specs.List.{list_all, cons_option, range_with_len}
use Rattle.std.proofs.lemmas.Bool.{and_parts, and_from, or_right}
use Rattle.am_names.specs.declared.NodeId.{NodeId}
use Rattle.am_names.specs.declared.Packet.{Packet}
use Rattle.am_names.specs.declared.Verdict.{Verdict}
use Rattle.am_office_entries.specs.declared.Event.{Event}
use Rattle.am_office_entries.specs.declared.Event.TheVariants as Events
use Rattle.am_office_entries.specs.declared.Outcome.{Outcome}
use Rattle.am_office_entries.specs.declared.Outcome.TheVariants as Out
use Rattle.am_office_entries.specs.declared.Entry.{Entry}
use Rattle.am_office_entries.specs.Entries.{share_part, answer_by, answer_packet, parcel, emitted_in, emitted_of}
use Rattle.am_model.specs.Channels.{emitted, is_on_link}
use Rattle.am_model.specs.History.{is_packet_before, is_taken_before, outcome_of}
use Rattle.am_model.specs.Packets.{stamp_of}
use Rattle.am_model_drain.specs.Made.{later_stamp, next_entry, next_stamp, EntryMayFollow, EntryIsStep}

below : (a : ℕ) (xs : List Entry) (n : ℕ) → fold later_stamp a xs < n → a < n
below a [] n h = h
below a (x ∷ xs) n h =
    let most : max a x.stamp < n = below (max a x.stamp) xs n h in
    omega (arith, most)

stamp_below : (a : ℕ) (x : Entry) (xs : List Entry) (n : ℕ) → fold later_stamp a (x ∷ xs) < n → x.stamp < n
stamp_below a x xs n h =
    let most : max a x.stamp < n = below (max a x.stamp) xs n h in
    omega (arith, most)

later_than_all : (shares : Entry → Bool) (a : ℕ) (xs : List Entry) (n : ℕ) → fold later_stamp a xs < n →
    list_all (λ (y : Entry). not (shares y) || nat_lt y.stamp n) xs ≡ true
later_than_all shares a [] n h = refl
later_than_all shares a (x ∷ xs) n h =
    and_from (not (shares x) || nat_lt x.stamp n) (list_all (λ (y : Entry). not (shares y) || nat_lt y.stamp n) xs)
    (or_right (not (shares x)) (nat_lt x.stamp n) (lt-ltb x.stamp n (stamp_below a x xs n h)))
    (later_than_all shares (max a x.stamp) xs n h)

-- a packet has the stamp of the entry that emits it
abbrev pub HasStamp : ℕ → Option Packet → Type 0
HasStamp stamp o = MatchOption o (Unit {0}) (λ (p : Packet). stamp_of p ≡ stamp)

parcel_stamp : (node : NodeId) (stamp : ℕ) (outcome : Outcome) → HasStamp stamp (parcel node stamp outcome)
parcel_stamp node stamp (Out.Sent m peer channel seq attempt number) = refl
parcel_stamp node stamp outcome = tt

answer_stamp : (node peer : NodeId) (channel seq attempt stamp : ℕ) (o : Option (ℕ × Verdict)) →
    HasStamp stamp (answer_packet node peer channel seq attempt stamp o)
answer_stamp node peer channel seq attempt stamp None = tt
answer_stamp node peer channel seq attempt stamp (Some answer) = refl

emitted_stamp : (stamp : ℕ) (event : Event) (outcome : Outcome) → HasStamp stamp (emitted_in stamp event outcome)
emitted_stamp stamp (Events.Bind node end) outcome = parcel_stamp node stamp outcome
emitted_stamp stamp (Events.Expire node peer channel) outcome = parcel_stamp node stamp outcome
emitted_stamp stamp (Events.Receive node peer number) (Out.Received channel seq attempt result) =
    answer_stamp node peer channel seq attempt stamp (answer_by result)
emitted_stamp stamp (Events.Receive node peer number) outcome = tt
emitted_stamp stamp event outcome = tt

is_below : ℕ → Packet → Bool
is_below n p = nat_lt (stamp_of p) n

below_step : (n stamp : ℕ) (o : Option Packet) (rest : List Packet) → MatchOption o (Unit {0}) (λ (p : Packet). stamp_of p ≡ stamp) → stamp < n →
    list_all (is_below n) rest ≡ true → list_all (is_below n) (cons_option o rest) ≡ true
unfolding is_below
below_step n stamp None rest of h all = all
below_step n stamp (Some p) rest of h all =
    and_from (nat_lt (stamp_of p) n) (list_all (is_below n) rest) (lt-ltb (stamp_of p) n (omega (arith, of, h))) all

emitted_below : (a : ℕ) (xs : List Entry) (n : ℕ) → fold later_stamp a xs < n → list_all (is_below n) (filter_map emitted_of xs) ≡ true
emitted_below a [] n h = refl
emitted_below a (x ∷ xs) n h =
    below_step n x.stamp (emitted_of x) (filter_map emitted_of xs) (emitted_stamp x.stamp x.event x.outcome) (stamp_below a x xs n h)
    (emitted_below (max a x.stamp) xs n h)

keeps_step : (r : Packet → Bool) (b : Bool) (p : Packet) (rest kept : List Packet) → (r p && list_all r rest) ≡ true →
    (list_all r rest ≡ true → list_all r kept ≡ true) → list_all r (cond b (p ∷ kept) kept) ≡ true
keeps_step r true p rest kept all h = and_from (r p) (list_all r kept) (and_parts (r p) (list_all r rest) all).0 (h (and_parts (r p) (list_all r rest) all).1)
keeps_step r false p rest kept all h = h (and_parts (r p) (list_all r rest) all).1

filter_keeps : (r q : Packet → Bool) (ps : List Packet) → list_all r ps ≡ true → list_all r (filter q ps) ≡ true
filter_keeps r q [] all = refl
filter_keeps r q (p ∷ ps) all = keeps_step r (q p) p ps (filter q ps) all (filter_keeps r q ps)

got_below : (n : ℕ) (ps : List Packet) (k : ℕ) → list_all (is_below n) ps ≡ true → is_packet_before n (slice_get ps k) ≡ true
unfolding is_below
got_below n [] k all = refl
got_below n (p ∷ ps) zero all = (and_parts (nat_lt (stamp_of p) n) (list_all (is_below n) ps) all).0
got_below n (p ∷ ps) (suc k) all = got_below n ps k (and_parts (nat_lt (stamp_of p) n) (list_all (is_below n) ps) all).1

taken : (n : ℕ) (past : List Entry) (event : Event) → fold later_stamp 0 past < n → is_taken_before n past event ≡ true
taken n past (Events.Receive node peer number) h =
    got_below n (emitted peer node past) _ (filter_keeps (is_below n) (is_on_link peer node) (filter_map emitted_of past) (emitted_below 0 past n h))
taken n past event h = refl

pub entry_may_follow : EntryMayFollow
entry_may_follow layout past event ranged enabled =
    let x : Entry = next_entry layout past event in
    let above : fold later_stamp 0 past < next_stamp past = omega arith in
    record {
      in_range = ranged;
      enabled = enabled;
      outcome = refl;
      later = and_from _ _ (later_than_all (share_part x) 0 past (next_stamp past) above) (taken (next_stamp past) past event above);
    }

-- where the stamps rise by one, the greatest is the last
greatest : (a : ℕ) (xs : List Entry) → map (λ (x : Entry). x.stamp) xs ≡ range_with_len (a + 1) (length xs) → fold later_stamp a xs ≡ a + length xs
greatest a [] e = omega arith
greatest a (x ∷ xs) e =
    let first : x.stamp ≡ a + 1 = cc in
    let rest : map (λ (y : Entry). y.stamp) xs ≡ range_with_len (a + 1 + 1) (length xs) = cc in
    let most : max a x.stamp ≡ a + 1 = omega (arith, first) in
    ap (λ (n : ℕ). fold later_stamp n xs) most ∙ (greatest (a + 1) xs rest ∙ omega arith)

pub entry_is_step : EntryIsStep
entry_is_step layout past event walked =
    let last : fold later_stamp 0 past ≡ 0 + length past = greatest 0 past walked.stamped in
    let stamp : next_stamp past ≡ length past + 1 = omega (arith, last) in
    λ i. record { stamp = stamp i; event = event; outcome = outcome_of layout past event }
