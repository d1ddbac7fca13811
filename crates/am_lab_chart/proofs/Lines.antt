-- The line of an entry is a text of printable ASCII.
use Rattle.std.proofs.Common.{◌≡◌, ℕ, zero, suc, ◌<◌, ◌%◌, ◌/◌, Bool, true, false, ◌==◌, List, [], ◌∷◌, ◌++◌, codes, Option, Some, None, refl, arith}
use Rattle.std.proofs.Common.{if◌then◌else◌}
use Rattle.std.proofs.lemmas.Bool.Decides.{nat_tests}
use Rattle.std.specs.Fmt.{decimal, digits, digits_onto, digit_glyph}
use Rattle.std.specs.List.{list_all}
use Rattle.am_names.specs.declared.Cause.{Cause}
use Rattle.am_names.specs.declared.Cause.TheVariants as Causes
use Rattle.am_names.specs.declared.EndpointId.{EndpointId}
use Rattle.am_names.specs.declared.NodeId.{NodeId}
use Rattle.am_names.specs.declared.Message.{Message}
use Rattle.am_names.specs.declared.Serial.{Serial}
use Rattle.am_names.specs.declared.Tag.{Tag}
use Rattle.am_names.specs.declared.Verdict.{Verdict}
use Rattle.am_names.specs.declared.Verdict.TheVariants as Verdicts
use Rattle.am_names.specs.declared.Why.{Why}
use Rattle.am_names.specs.declared.Why.TheVariants as Whys
use Rattle.am_office_entries.specs.declared.Actor.{Actor}
use Rattle.am_office_entries.specs.declared.Actor.TheVariants as Actors
use Rattle.am_office_entries.specs.declared.HandlerKind.{HandlerKind}
use Rattle.am_office_entries.specs.declared.HandlerKind.TheVariants as HandlerKinds
use Rattle.am_office_entries.specs.declared.Mask.{Mask}
use Rattle.am_office_entries.specs.declared.Mask.TheVariants as Masks
use Rattle.am_office_entries.specs.declared.Call.{Call}
use Rattle.am_office_entries.specs.declared.Call.TheVariants as Calls
use Rattle.am_office_entries.specs.declared.Event.{Event}
use Rattle.am_office_entries.specs.declared.Event.TheVariants as Events
use Rattle.am_office_entries.specs.declared.Refusal.{Refusal}
use Rattle.am_office_entries.specs.declared.Refusal.TheVariants as Refusals
use Rattle.am_office_entries.specs.declared.Received.{Received}
use Rattle.am_office_entries.specs.declared.Received.TheVariants as Got
use Rattle.am_office_entries.specs.declared.Outcome.{Outcome}
use Rattle.am_office_entries.specs.declared.Outcome.TheVariants as Out
use Rattle.am_office_entries.specs.declared.Entry.{Entry}
use Rattle.am_office_text.specs.Words.{Word, spaced, serial, tag, cause, verdict, why}
use Rattle.am_office_text.specs.EntryLines.Lines.{actor, interface, driver, who, handler_kind, mask, call, what, refusal, handler, sends, received, outcome, after_arrow}
use Rattle.am_check_lines.specs.Grammar.{printed}
use Rattle.am_lab_chart.specs.Captions.{joined as joined_words}
use Rattle.am_lab_xml.specs.Escaped.{is_allowed, is_text}
use Rattle.am_lab_xml.proofs.Bools.{all_of_both, first, second, joined}

-- ---- numbers

glyph_is_allowed : (d : ℕ) → d < 10 → is_allowed (digit_glyph false d) ≡ true
glyph_is_allowed d small = grind (arith, nat_tests)

either : (b : Bool) (x y : List ℕ) → is_text x ≡ true → is_text y ≡ true → is_text (if b then x else y) ≡ true
either true x y h k = h
either false x y h k = k

digits_are_text : (k n : ℕ) (behind : List ℕ) → is_text behind ≡ true → is_text (digits_onto k 10 false n behind) ≡ true
digits_are_text zero n behind h = h
digits_are_text (suc k) n behind h =
    let digit : ℕ = digit_glyph false (n % 10) in
    let more : is_text (digit ∷ behind) ≡ true = joined (is_allowed digit) (is_text behind) (glyph_is_allowed (n % 10) (omega arith)) h in
    either (n / 10 == 0) (digit ∷ behind) (digits_onto k 10 false (n / 10) (digit ∷ behind)) more (digits_are_text k (n / 10) (digit ∷ behind) more)

pub number_is_text : (n : ℕ) → is_text (decimal n) ≡ true
unfolding digits
number_is_text n = digits_are_text 64 n [] refl

-- ---- words

pub serial_is_text : (s : Serial) → is_text (serial s) ≡ true
unfolding serial
serial_is_text s =
    all_of_both is_allowed (decimal s.source.0 ++ codes ".") (decimal s.count) (all_of_both is_allowed (decimal s.source.0) (codes ".")
    (number_is_text s.source.0) refl) (number_is_text s.count)

pub tag_is_text : (t : Tag) → is_text (tag t) ≡ true
unfolding tag
tag_is_text t = either (t.0 == 0) (codes "none") _ refl (either (t.0 == 18446744073709551615) (codes "all") (decimal t.0) refl (number_is_text t.0))

cause_is_text : (c : Cause) → is_text (cause c) ≡ true
unfolding cause
cause_is_text Causes.NoEndpoint = refl
cause_is_text Causes.NotResident = refl
cause_is_text Causes.BadTag = refl
cause_is_text Causes.BadHandler = refl
cause_is_text Causes.QueueFull = refl
cause_is_text Causes.NoRequest = refl

verdict_is_text : (v : Verdict) → is_text (verdict v) ≡ true
unfolding verdict
verdict_is_text Verdicts.Accepted = refl
verdict_is_text (Verdicts.Refused c) = cause_is_text c

why_is_text : (w : Why) → is_text (why w) ≡ true
unfolding why
why_is_text Whys.Unknown = refl
why_is_text (Whys.Refused c) = cause_is_text c

mask_is_text : (m : Mask) → is_text (mask m) ≡ true
unfolding mask
mask_is_text Masks.NoEvents = refl
mask_is_text Masks.NotEmpty = refl

handler_is_text : (h : Option ℕ) → is_text (handler h) ≡ true
unfolding handler
handler_is_text None = refl
handler_is_text (Some n) = number_is_text n

actor_is_text : (a : Actor) → is_text (actor a) ≡ true
unfolding actor
actor_is_text (Actors.Thread t) = number_is_text t
actor_is_text Actors.Outside = refl

interface_is_text : (n : NodeId) → is_text (interface n) ≡ true
unfolding interface
interface_is_text n = number_is_text n.0

driver_is_text : (n : NodeId) → is_text (driver n) ≡ true
unfolding driver
driver_is_text n = number_is_text n.0

who_is_text : (e : Event) → is_text (who e) ≡ true
unfolding who
who_is_text (Events.Call by e c) = actor_is_text by
who_is_text (Events.Want by e) = actor_is_text by
who_is_text (Events.Carry e) = refl
who_is_text (Events.Bind n e) = interface_is_text n
who_is_text (Events.Expire n p c) = interface_is_text n
who_is_text (Events.Receive n p k) = interface_is_text n
who_is_text (Events.Drain n e) = driver_is_text n
who_is_text (Events.Unload n e) = driver_is_text n
who_is_text (Events.Load n e f) = driver_is_text n
who_is_text (Events.PageOut n e) = driver_is_text n
who_is_text (Events.PageIn n e) = driver_is_text n

-- ---- lists of words

pub AreTexts : List Word → Type 0
AreTexts words = list_all is_text words ≡ true

pub none : AreTexts []
unfolding AreTexts
none = refl

pub more : (word : Word) (words : List Word) → is_text word ≡ true → AreTexts words → AreTexts (word ∷ words)
unfolding AreTexts
more word words h k = joined (is_text word) (list_all is_text words) h k

pub a_number : (n : ℕ) (words : List Word) → AreTexts words → AreTexts (decimal n ∷ words)
a_number n words h = more (decimal n) words (number_is_text n) h

-- words that are texts, one behind the other, are a text
pub joined_is_text : (words : List Word) → AreTexts words → is_text (joined_words words) ≡ true
unfolding AreTexts
joined_is_text [] h = refl
joined_is_text (word ∷ words) h =
    all_of_both is_allowed word (joined_words words) (first (is_text word) (list_all is_text words) h)
    (joined_is_text words (second (is_text word) (list_all is_text words) h))

kind_is_text : (k : HandlerKind) → AreTexts (handler_kind k)
unfolding handler_kind
kind_is_text HandlerKinds.Note = more _ _ refl none
kind_is_text (HandlerKinds.Echo r) = more _ _ refl (a_number r _ none)
kind_is_text (HandlerKinds.Add r) = more _ _ refl (a_number r _ none)

call_is_text : (e : EndpointId) (c : Call) → AreTexts (call e c)
unfolding call
call_is_text e (Calls.Request i h w) =
    more _ _ refl (a_number e.0 _ (a_number i _ (a_number h _ (a_number w.a _ (a_number w.b _ (a_number w.c _ (a_number w.d _ none)))))))
call_is_text e Calls.Poll = more _ _ refl (a_number e.0 _ none)
call_is_text e (Calls.SetTag t) = more _ _ refl (a_number e.0 _ (more _ _ (tag_is_text t) none))
call_is_text e (Calls.Map i name t c) =
    more _ _ refl (a_number e.0 _ (a_number i _ (a_number name.0 _ (more _ _ (tag_is_text t) (a_number c _ none)))))
call_is_text e (Calls.Unmap i) = more _ _ refl (a_number e.0 _ (a_number i _ none))
call_is_text e (Calls.SetHandler h k) = more _ _ refl (a_number e.0 _ (a_number h _ (kind_is_text k)))
call_is_text e (Calls.GiveUp s) = more _ _ refl (a_number e.0 _ (more _ _ (serial_is_text s) none))
call_is_text e Calls.Close = more _ _ refl (a_number e.0 _ none)
call_is_text e (Calls.Test m) = more _ _ refl (a_number e.0 _ (more _ _ (mask_is_text m) none))

what_is_text : (e : Event) → AreTexts (what e)
unfolding what
what_is_text (Events.Call by e c) = call_is_text e c
what_is_text (Events.Want by e) = more _ _ refl (a_number e.0 _ none)
what_is_text (Events.Carry e) = more _ _ refl (a_number e.0 _ none)
what_is_text (Events.Bind n e) = more _ _ refl (a_number e.0 _ none)
what_is_text (Events.Expire n p c) = more _ _ refl (a_number p.0 _ (a_number c _ none))
what_is_text (Events.Receive n p k) = more _ _ refl (a_number p.0 _ (a_number k _ none))
what_is_text (Events.Drain n e) = more _ _ refl (a_number e.0 _ none)
what_is_text (Events.Unload n e) = more _ _ refl (a_number e.0 _ none)
what_is_text (Events.Load n e f) = more _ _ refl (a_number e.0 _ (a_number f _ none))
what_is_text (Events.PageOut n e) = more _ _ refl (a_number e.0 _ none)
what_is_text (Events.PageIn n e) = more _ _ refl (a_number e.0 _ none)

refusal_is_text : (r : Refusal) → AreTexts (refusal r)
unfolding refusal
refusal_is_text Refusals.Closed = more _ _ refl none
refusal_is_text Refusals.OwnTagNone = more _ _ refl none
refusal_is_text Refusals.BadIndex = more _ _ refl none
refusal_is_text Refusals.NotMapped = more _ _ refl none
refusal_is_text Refusals.NoCredit = more _ _ refl none
refusal_is_text Refusals.TableFull = more _ _ refl none
refusal_is_text Refusals.SendFull = more _ _ refl none
refusal_is_text Refusals.InUse = more _ _ refl none
refusal_is_text (Refusals.OverShare k) = more _ _ refl (a_number k _ none)
refusal_is_text (Refusals.Held l m o) = more _ _ refl (a_number l _ (a_number m _ (a_number o _ none)))
refusal_is_text (Refusals.Outstanding k) = more _ _ refl (a_number k _ none)
refusal_is_text Refusals.Reserved = more _ _ refl none
refusal_is_text Refusals.NoRequest = more _ _ refl none

sends_is_text : (r : Option Message) → AreTexts (sends r)
unfolding sends
sends_is_text None = none
sends_is_text (Some r) = more _ _ refl (more _ _ (serial_is_text r.serial) none)

received_is_text : (r : Received) → AreTexts (received r)
unfolding received
received_is_text (Got.Accepted m k) = more _ _ refl (more _ _ (serial_is_text m.serial) (more _ _ refl (a_number k _ none)))
received_is_text (Got.Refused m c k) = more _ _ refl (more _ _ (serial_is_text m.serial) (more _ _ (cause_is_text c) (more _ _ refl (a_number k _ none))))
received_is_text (Got.Again s v k) = more _ _ refl (more _ _ (serial_is_text s) (more _ _ (verdict_is_text v) (more _ _ refl (a_number k _ none))))
received_is_text Got.Stale = more _ _ refl none
received_is_text (Got.Delivered s) = more _ _ refl (more _ _ (serial_is_text s) none)
received_is_text (Got.Requeued s c used) = more _ _ refl (more _ _ (serial_is_text s) (more _ _ (cause_is_text c) none))
received_is_text (Got.Returned s c) = more _ _ refl (more _ _ (serial_is_text s) (more _ _ (cause_is_text c) none))
received_is_text Got.Nothing = more _ _ refl none

outcome_is_text : (o : Outcome) → AreTexts (outcome o)
unfolding outcome
outcome_is_text Out.Silent = none
outcome_is_text Out.Done = more _ _ refl none
outcome_is_text (Out.Requested m) = more _ _ refl (more _ _ (serial_is_text m.serial) none)
outcome_is_text (Out.Refused r) = more _ _ refl (refusal_is_text r)
outcome_is_text (Out.Zero s w) = more _ _ refl (more _ _ (serial_is_text s) (more _ _ (why_is_text w) none))
outcome_is_text (Out.Ran h m r) = more _ _ refl (more _ _ (serial_is_text m.serial) (more _ _ (handler_is_text h) (sends_is_text r)))
outcome_is_text Out.Blocked = more _ _ refl none
outcome_is_text Out.Empty = more _ _ refl none
outcome_is_text Out.Ready = more _ _ refl none
outcome_is_text Out.Quiet = more _ _ refl none
outcome_is_text Out.Failed = more _ _ refl none
outcome_is_text (Out.Accepted m) = more _ _ refl (more _ _ (serial_is_text m.serial) none)
outcome_is_text (Out.Requeued m c used) = more _ _ refl (more _ _ (serial_is_text m.serial) (more _ _ (cause_is_text c) none))
outcome_is_text (Out.Returned m c) = more _ _ refl (more _ _ (serial_is_text m.serial) (more _ _ (cause_is_text c) none))
outcome_is_text (Out.Sent m p c q a k) =
    more _ _ refl (more _ _ (serial_is_text m.serial) (a_number p.0 _ (a_number c _ (a_number q _ (a_number a _ (a_number k _ none))))))
outcome_is_text (Out.Delivered s) = more _ _ refl (more _ _ (serial_is_text s) none)
outcome_is_text (Out.Unknown s) = more _ _ refl (more _ _ (serial_is_text s) none)
outcome_is_text (Out.Received channel seq attempt result) = received_is_text result

arrow_is_text : (words : List Word) → AreTexts words → AreTexts (after_arrow words)
arrow_is_text [] h = h
arrow_is_text (word ∷ words) h = more (codes "->") (word ∷ words) refl h

spaced_is_text : (words : List Word) → AreTexts words → is_text (spaced words) ≡ true
unfolding spaced AreTexts
spaced_is_text [] h = refl
spaced_is_text (word ∷ words) h =
    all_of_both is_allowed (codes " " ++ word) (spaced words) (first (is_text word) (list_all is_text words) h)
    (spaced_is_text words (second (is_text word) (list_all is_text words) h))

both_are_texts : (a b : List Word) → AreTexts a → AreTexts b → AreTexts (a ++ b)
unfolding AreTexts
both_are_texts a b h k = all_of_both is_text a b h k

pub line_is_text : (x : Entry) → is_text (printed x) ≡ true
line_is_text x =
    let words : List Word = what x.event ++ after_arrow (outcome x.outcome) in
    all_of_both is_allowed (who x.event) (spaced words) (who_is_text x.event)
    (spaced_is_text words (both_are_texts (what x.event) (after_arrow (outcome x.outcome)) (what_is_text x.event)
    (arrow_is_text (outcome x.outcome) (outcome_is_text x.outcome))))
