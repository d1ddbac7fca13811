-- The words of an entry hold lower-case letters, digits, full stops and hyphens alone.
use Rattle.std.proofs.Common.{◌≡◌, ℕ, zero, suc, ◌<◌, ◌%◌, ◌/◌, Bool, true, false, ◌==◌, List, [], ◌∷◌, ◌++◌, codes, Option, Some, None, refl, arith, drop}
use Rattle.std.proofs.Common.{if◌then◌else◌}
use Rattle.std.proofs.lemmas.Bool.Decides.{nat_tests}
use Rattle.std.specs.Fmt.{decimal, digits, digits_onto, digit_glyph}
use Rattle.std.specs.List.{list_all}
use Rattle.am_names.specs.declared.Cause.{Cause}
use Rattle.am_names.specs.declared.Cause.TheVariants as Causes
use Rattle.am_names.specs.declared.EndpointId.{EndpointId}
use Rattle.am_names.specs.declared.NodeId.{NodeId}
use Rattle.am_names.specs.declared.Message.{Message}
use Rattle.am_names.specs.declared.Serial.{Serial}
use Rattle.am_names.specs.declared.Tag.{Tag}
use Rattle.am_names.specs.declared.Verdict.{Verdict}
use Rattle.am_names.specs.declared.Verdict.TheVariants as Verdicts
use Rattle.am_names.specs.declared.Why.{Why}
use Rattle.am_names.specs.declared.Why.TheVariants as Whys
use Rattle.am_office_entries.specs.declared.Actor.{Actor}
use Rattle.am_office_entries.specs.declared.Actor.TheVariants as Actors
use Rattle.am_office_entries.specs.declared.HandlerKind.{HandlerKind}
use Rattle.am_office_entries.specs.declared.HandlerKind.TheVariants as HandlerKinds
use Rattle.am_office_entries.specs.declared.Mask.{Mask}
use Rattle.am_office_entries.specs.declared.Mask.TheVariants as Masks
use Rattle.am_office_entries.specs.declared.Call.{Call}
use Rattle.am_office_entries.specs.declared.Call.TheVariants as Calls
use Rattle.am_office_entries.specs.declared.Event.{Event}
use Rattle.am_office_entries.specs.declared.Event.TheVariants as Events
use Rattle.am_office_entries.specs.declared.Refusal.{Refusal}
use Rattle.am_office_entries.specs.declared.Refusal.TheVariants as Refusals
use Rattle.am_office_entries.specs.declared.Received.{Received}
use Rattle.am_office_entries.specs.declared.Received.TheVariants as Got
use Rattle.am_office_entries.specs.declared.Outcome.{Outcome}
use Rattle.am_office_entries.specs.declared.Outcome.TheVariants as Out
use Rattle.am_office_text.specs.Words.{Word, spaced, serial, tag, cause, verdict, why}
use Rattle.am_office_text.specs.EntryLines.Lines.{actor, interface, driver, who, handler_kind, mask, call, what, refusal, handler, sends, received, outcome}
use Rattle.am_lab_page.specs.Json.Objects.{spread}
use Rattle.am_lab_page.specs.Json.Laws.{NothingIsEscaped, are_plain, is_plain}
use Rattle.am_lab_xml.proofs.Bools.{all_of_both, first, second, joined}

-- ---- numbers

glyph_is_plain : (d : ℕ) → d < 10 → is_plain (digit_glyph false d) ≡ true
glyph_is_plain d small = grind (arith, nat_tests)

either : (b : Bool) (x y : List ℕ) → are_plain x ≡ true → are_plain y ≡ true → are_plain (if b then x else y) ≡ true
either true x y h k = h
either false x y h k = k

digits_are_text : (k n : ℕ) (behind : List ℕ) → are_plain behind ≡ true → are_plain (digits_onto k 10 false n behind) ≡ true
digits_are_text zero n behind h = h
digits_are_text (suc k) n behind h =
    let digit : ℕ = digit_glyph false (n % 10) in
    let more : are_plain (digit ∷ behind) ≡ true = joined (is_plain digit) (are_plain behind) (glyph_is_plain (n % 10) (omega arith)) h in
    either (n / 10 == 0) (digit ∷ behind) (digits_onto k 10 false (n / 10) (digit ∷ behind)) more (digits_are_text k (n / 10) (digit ∷ behind) more)

pub number_is_plain : (n : ℕ) → are_plain (decimal n) ≡ true
unfolding digits
number_is_plain n = digits_are_text 64 n [] refl

-- ---- words

pub serial_is_plain : (s : Serial) → are_plain (serial s) ≡ true
unfolding serial
serial_is_plain s =
    all_of_both is_plain (decimal s.source.0 ++ codes ".") (decimal s.count) (all_of_both is_plain (decimal s.source.0) (codes ".")
    (number_is_plain s.source.0) refl) (number_is_plain s.count)

tag_is_plain : (t : Tag) → are_plain (tag t) ≡ true
unfolding tag
tag_is_plain t = either (t.0 == 0) (codes "none") _ refl (either (t.0 == 18446744073709551615) (codes "all") (decimal t.0) refl (number_is_plain t.0))

cause_is_plain : (c : Cause) → are_plain (cause c) ≡ true
unfolding cause
cause_is_plain Causes.NoEndpoint = refl
cause_is_plain Causes.NotResident = refl
cause_is_plain Causes.BadTag = refl
cause_is_plain Causes.BadHandler = refl
cause_is_plain Causes.QueueFull = refl
cause_is_plain Causes.NoRequest = refl

verdict_is_plain : (v : Verdict) → are_plain (verdict v) ≡ true
unfolding verdict
verdict_is_plain Verdicts.Accepted = refl
verdict_is_plain (Verdicts.Refused c) = cause_is_plain c

why_is_plain : (w : Why) → are_plain (why w) ≡ true
unfolding why
why_is_plain Whys.Unknown = refl
why_is_plain (Whys.Refused c) = cause_is_plain c

mask_is_plain : (m : Mask) → are_plain (mask m) ≡ true
unfolding mask
mask_is_plain Masks.NoEvents = refl
mask_is_plain Masks.NotEmpty = refl

handler_is_plain : (h : Option ℕ) → are_plain (handler h) ≡ true
unfolding handler
handler_is_plain None = refl
handler_is_plain (Some n) = number_is_plain n

actor_is_plain : (a : Actor) → are_plain (actor a) ≡ true
unfolding actor
actor_is_plain (Actors.Thread t) = number_is_plain t
actor_is_plain Actors.Outside = refl

interface_is_plain : (n : NodeId) → are_plain (interface n) ≡ true
unfolding interface
interface_is_plain n = number_is_plain n.0

driver_is_plain : (n : NodeId) → are_plain (driver n) ≡ true
unfolding driver
driver_is_plain n = number_is_plain n.0

who_is_plain : (e : Event) → are_plain (who e) ≡ true
unfolding who
who_is_plain (Events.Call by e c) = actor_is_plain by
who_is_plain (Events.Want by e) = actor_is_plain by
who_is_plain (Events.Carry e) = refl
who_is_plain (Events.Bind n e) = interface_is_plain n
who_is_plain (Events.Expire n p c) = interface_is_plain n
who_is_plain (Events.Receive n p k) = interface_is_plain n
who_is_plain (Events.Drain n e) = driver_is_plain n
who_is_plain (Events.Unload n e) = driver_is_plain n
who_is_plain (Events.Load n e f) = driver_is_plain n
who_is_plain (Events.PageOut n e) = driver_is_plain n
who_is_plain (Events.PageIn n e) = driver_is_plain n

-- ---- lists of words

ArePlain : List Word → Type 0
ArePlain words = list_all are_plain words ≡ true

none : ArePlain []
unfolding ArePlain
none = refl

more : (word : Word) (words : List Word) → are_plain word ≡ true → ArePlain words → ArePlain (word ∷ words)
unfolding ArePlain
more word words h k = joined (are_plain word) (list_all are_plain words) h k

a_number : (n : ℕ) (words : List Word) → ArePlain words → ArePlain (decimal n ∷ words)
a_number n words h = more (decimal n) words (number_is_plain n) h

kind_is_plain : (k : HandlerKind) → ArePlain (handler_kind k)
unfolding handler_kind
kind_is_plain HandlerKinds.Note = more _ _ refl none
kind_is_plain (HandlerKinds.Echo r) = more _ _ refl (a_number r _ none)
kind_is_plain (HandlerKinds.Add r) = more _ _ refl (a_number r _ none)

call_is_plain : (e : EndpointId) (c : Call) → ArePlain (call e c)
unfolding call
call_is_plain e (Calls.Request i h w) =
    more _ _ refl (a_number e.0 _ (a_number i _ (a_number h _ (a_number w.a _ (a_number w.b _ (a_number w.c _ (a_number w.d _ none)))))))
call_is_plain e Calls.Poll = more _ _ refl (a_number e.0 _ none)
call_is_plain e (Calls.SetTag t) = more _ _ refl (a_number e.0 _ (more _ _ (tag_is_plain t) none))
call_is_plain e (Calls.Map i name t c) =
    more _ _ refl (a_number e.0 _ (a_number i _ (a_number name.0 _ (more _ _ (tag_is_plain t) (a_number c _ none)))))
call_is_plain e (Calls.Unmap i) = more _ _ refl (a_number e.0 _ (a_number i _ none))
call_is_plain e (Calls.SetHandler h k) = more _ _ refl (a_number e.0 _ (a_number h _ (kind_is_plain k)))
call_is_plain e (Calls.GiveUp s) = more _ _ refl (a_number e.0 _ (more _ _ (serial_is_plain s) none))
call_is_plain e Calls.Close = more _ _ refl (a_number e.0 _ none)
call_is_plain e (Calls.Test m) = more _ _ refl (a_number e.0 _ (more _ _ (mask_is_plain m) none))

what_is_plain : (e : Event) → ArePlain (what e)
unfolding what
what_is_plain (Events.Call by e c) = call_is_plain e c
what_is_plain (Events.Want by e) = more _ _ refl (a_number e.0 _ none)
what_is_plain (Events.Carry e) = more _ _ refl (a_number e.0 _ none)
what_is_plain (Events.Bind n e) = more _ _ refl (a_number e.0 _ none)
what_is_plain (Events.Expire n p c) = more _ _ refl (a_number p.0 _ (a_number c _ none))
what_is_plain (Events.Receive n p k) = more _ _ refl (a_number p.0 _ (a_number k _ none))
what_is_plain (Events.Drain n e) = more _ _ refl (a_number e.0 _ none)
what_is_plain (Events.Unload n e) = more _ _ refl (a_number e.0 _ none)
what_is_plain (Events.Load n e f) = more _ _ refl (a_number e.0 _ (a_number f _ none))
what_is_plain (Events.PageOut n e) = more _ _ refl (a_number e.0 _ none)
what_is_plain (Events.PageIn n e) = more _ _ refl (a_number e.0 _ none)

refusal_is_plain : (r : Refusal) → ArePlain (refusal r)
unfolding refusal
refusal_is_plain Refusals.Closed = more _ _ refl none
refusal_is_plain Refusals.OwnTagNone = more _ _ refl none
refusal_is_plain Refusals.BadIndex = more _ _ refl none
refusal_is_plain Refusals.NotMapped = more _ _ refl none
refusal_is_plain Refusals.NoCredit = more _ _ refl none
refusal_is_plain Refusals.TableFull = more _ _ refl none
refusal_is_plain Refusals.SendFull = more _ _ refl none
refusal_is_plain Refusals.InUse = more _ _ refl none
refusal_is_plain (Refusals.OverShare k) = more _ _ refl (a_number k _ none)
refusal_is_plain (Refusals.Held l m o) = more _ _ refl (a_number l _ (a_number m _ (a_number o _ none)))
refusal_is_plain (Refusals.Outstanding k) = more _ _ refl (a_number k _ none)
refusal_is_plain Refusals.Reserved = more _ _ refl none
refusal_is_plain Refusals.NoRequest = more _ _ refl none

sends_is_plain : (r : Option Message) → ArePlain (sends r)
unfolding sends
sends_is_plain None = none
sends_is_plain (Some r) = more _ _ refl (more _ _ (serial_is_plain r.serial) none)

received_is_plain : (r : Received) → ArePlain (received r)
unfolding received
received_is_plain (Got.Accepted m k) = more _ _ refl (more _ _ (serial_is_plain m.serial) (more _ _ refl (a_number k _ none)))
received_is_plain (Got.Refused m c k) = more _ _ refl (more _ _ (serial_is_plain m.serial) (more _ _ (cause_is_plain c) (more _ _ refl (a_number k _ none))))
received_is_plain (Got.Again s v k) = more _ _ refl (more _ _ (serial_is_plain s) (more _ _ (verdict_is_plain v) (more _ _ refl (a_number k _ none))))
received_is_plain Got.Stale = more _ _ refl none
received_is_plain (Got.Delivered s) = more _ _ refl (more _ _ (serial_is_plain s) none)
received_is_plain (Got.Requeued s c used) = more _ _ refl (more _ _ (serial_is_plain s) (more _ _ (cause_is_plain c) none))
received_is_plain (Got.Returned s c) = more _ _ refl (more _ _ (serial_is_plain s) (more _ _ (cause_is_plain c) none))
received_is_plain Got.Nothing = more _ _ refl none

outcome_is_plain : (o : Outcome) → ArePlain (outcome o)
unfolding outcome
outcome_is_plain Out.Silent = none
outcome_is_plain Out.Done = more _ _ refl none
outcome_is_plain (Out.Requested m) = more _ _ refl (more _ _ (serial_is_plain m.serial) none)
outcome_is_plain (Out.Refused r) = more _ _ refl (refusal_is_plain r)
outcome_is_plain (Out.Zero s w) = more _ _ refl (more _ _ (serial_is_plain s) (more _ _ (why_is_plain w) none))
outcome_is_plain (Out.Ran h m r) = more _ _ refl (more _ _ (serial_is_plain m.serial) (more _ _ (handler_is_plain h) (sends_is_plain r)))
outcome_is_plain Out.Blocked = more _ _ refl none
outcome_is_plain Out.Empty = more _ _ refl none
outcome_is_plain Out.Ready = more _ _ refl none
outcome_is_plain Out.Quiet = more _ _ refl none
outcome_is_plain Out.Failed = more _ _ refl none
outcome_is_plain (Out.Accepted m) = more _ _ refl (more _ _ (serial_is_plain m.serial) none)
outcome_is_plain (Out.Requeued m c used) = more _ _ refl (more _ _ (serial_is_plain m.serial) (more _ _ (cause_is_plain c) none))
outcome_is_plain (Out.Returned m c) = more _ _ refl (more _ _ (serial_is_plain m.serial) (more _ _ (cause_is_plain c) none))
outcome_is_plain (Out.Sent m p c q a k) =
    more _ _ refl (more _ _ (serial_is_plain m.serial) (a_number p.0 _ (a_number c _ (a_number q _ (a_number a _ (a_number k _ none))))))
outcome_is_plain (Out.Delivered s) = more _ _ refl (more _ _ (serial_is_plain s) none)
outcome_is_plain (Out.Unknown s) = more _ _ refl (more _ _ (serial_is_plain s) none)
outcome_is_plain (Out.Received channel seq attempt result) = received_is_plain result

spaced_is_plain : (words : List Word) → ArePlain words → are_plain (spaced words) ≡ true
unfolding spaced ArePlain
spaced_is_plain [] h = refl
spaced_is_plain (word ∷ words) h =
    all_of_both is_plain (codes " " ++ word) (spaced words) (first (are_plain word) (list_all are_plain words) h)
    (spaced_is_plain words (second (are_plain word) (list_all are_plain words) h))

dropped : (text : List ℕ) → are_plain text ≡ true → are_plain (drop 1 text) ≡ true
dropped [] h = refl
dropped (byte ∷ text) h = second (is_plain byte) (are_plain text) h

spread_is_plain : (words : List Word) → ArePlain words → are_plain (spread words) ≡ true
spread_is_plain words h = dropped (spaced words) (spaced_is_plain words h)

pub nothing_is_escaped : NothingIsEscaped
nothing_is_escaped x =
    record {
      actor = who_is_plain x.event;
      event = spread_is_plain (what x.event) (what_is_plain x.event);
      outcome' = spread_is_plain (outcome x.outcome) (outcome_is_plain x.outcome);
    }
