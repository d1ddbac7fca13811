-- No printed line has a newline in it.
use Rattle.std.proofs.Common.{◌≡◌, ℕ, zero, suc, ◌/◌, ◌%◌, ◌+◌, Bool, true, false, eqb, ltb, cond, List, [], ◌∷◌, ◌++◌, Option, Some, None, refl, inl, inr}
use Rattle.std.proofs.Common.{arith}
use Rattle.std.specs.Prelude.{codes}
use Rattle.std.specs.Fmt.{decimal, digits, digits_onto, digit_glyph}
use Rattle.std.specs.List.{list_all}
use Rattle.std.proofs.lemmas.Bool.{cases_Bool, ne_eqb, and_parts}
use Rattle.std.proofs.lemmas.List.Folds.{list_all-append}
use Rattle.am_names.specs.declared.Cause.{Cause}
use Rattle.am_names.specs.declared.Cause.TheVariants as Causes
use Rattle.am_names.specs.declared.EndpointId.{EndpointId}
use Rattle.am_names.specs.declared.Message.{Message}
use Rattle.am_names.specs.declared.Serial.{Serial}
use Rattle.am_names.specs.declared.Tag.{Tag}
use Rattle.am_names.specs.declared.Verdict.{Verdict}
use Rattle.am_names.specs.declared.Verdict.TheVariants as Verdicts
use Rattle.am_names.specs.declared.Why.{Why}
use Rattle.am_names.specs.declared.Why.TheVariants as Whys
use Rattle.am_office_entries.specs.declared.Actor.TheVariants as Actors
use Rattle.am_office_entries.specs.declared.Call.{Call}
use Rattle.am_office_entries.specs.declared.Call.TheVariants as Calls
use Rattle.am_office_entries.specs.declared.Entry.{Entry}
use Rattle.am_office_entries.specs.declared.Event.{Event}
use Rattle.am_office_entries.specs.declared.Event.TheVariants as Events
use Rattle.am_office_entries.specs.declared.HandlerKind.{HandlerKind}
use Rattle.am_office_entries.specs.declared.HandlerKind.TheVariants as Kinds
use Rattle.am_office_entries.specs.declared.Mask.{Mask}
use Rattle.am_office_entries.specs.declared.Mask.TheVariants as Masks
use Rattle.am_office_entries.specs.declared.Outcome.{Outcome}
use Rattle.am_office_entries.specs.declared.Outcome.TheVariants as Out
use Rattle.am_office_entries.specs.declared.Received.{Received}
use Rattle.am_office_entries.specs.declared.Received.TheVariants as Got
use Rattle.am_office_entries.specs.declared.Refusal.{Refusal}
use Rattle.am_office_entries.specs.declared.Refusal.TheVariants as Refusals
use Rattle.am_office_text.specs.Words.{Word, spaced, serial, tag, cause, verdict, why}
use Rattle.am_office_text.specs.EntryLines.Lines.{who, what, actor, interface, driver, call, handler_kind, mask, refusal, handler, sends, received, outcome, after_arrow}
use Rattle.am_check_lines.specs.Grammar.{printed}
use Rattle.am_check_lines.proofs.Cuts.{is_free}

-- a word has no newline
abbrev IsWhole : List ℕ → Type 0
IsWhole word = is_free 10 word ≡ true

abbrev AreWhole : List Word → Type 0
AreWhole words = list_all (is_free 10) words ≡ true

whole_cons : (byte : ℕ) (word : List ℕ) → eqb byte 10 ≡ false → IsWhole word → IsWhole (byte ∷ word)
whole_cons byte word other h = rw (other, h) refl

whole_append : (xs ys : List ℕ) → IsWhole xs → IsWhole ys → IsWhole (xs ++ ys)
whole_append xs ys h k = rw (list_all-append _ xs ys, h, k) refl

-- ---- numbers, of any size

glyph_is : (digit : ℕ) → eqb (digit_glyph false digit) 10 ≡ false
glyph_is digit = elim (cases_Bool (ltb digit 10)) [
  | inl t ↦ rw t (ne_eqb (48 + digit) 10 (λ e. omega arith))
  | inr f ↦ rw f (ne_eqb (87 + digit) 10 (λ e. omega arith))
]

either : (test : Bool) (xs ys : List ℕ) → IsWhole xs → IsWhole ys → IsWhole (cond test xs ys)
either true xs ys h k = h
either false xs ys h k = k

digits_whole : (count n : ℕ) (digits : List ℕ) → IsWhole digits → IsWhole (digits_onto count 10 false n digits)
digits_whole zero n digits h = h
digits_whole (suc count) n digits h =
    let first : List ℕ = digit_glyph false (n % 10) ∷ digits in
    let more : IsWhole first = whole_cons (digit_glyph false (n % 10)) digits (glyph_is (n % 10)) h in
    either (eqb (n / 10) 0) first (digits_onto count 10 false (n / 10) first) more (digits_whole count (n / 10) first more)

pub decimal_whole : (n : ℕ) → IsWhole (decimal n)
unfolding digits
decimal_whole n = digits_whole 64 n [] refl

-- ---- words

tag_whole : (t : Tag) → IsWhole (tag t)
unfolding tag
tag_whole t = either (eqb t.0 0) (codes "none") _ refl (either (eqb t.0 18446744073709551615) (codes "all") (decimal t.0) refl (decimal_whole t.0))

serial_whole : (s : Serial) → IsWhole (serial s)
unfolding serial
serial_whole s = whole_append (decimal s.source.0 ++ codes ".") (decimal s.count) (whole_append (decimal s.source.0) (codes ".") (decimal_whole s.source.0)
    refl) (decimal_whole s.count)

cause_whole : (c : Cause) → IsWhole (cause c)
unfolding cause
cause_whole Causes.NoEndpoint = refl
cause_whole Causes.NotResident = refl
cause_whole Causes.BadTag = refl
cause_whole Causes.BadHandler = refl
cause_whole Causes.QueueFull = refl
cause_whole Causes.NoRequest = refl

verdict_whole : (v : Verdict) → IsWhole (verdict v)
unfolding verdict
verdict_whole Verdicts.Accepted = refl
verdict_whole (Verdicts.Refused c) = cause_whole c

why_whole : (w : Why) → IsWhole (why w)
unfolding why
why_whole Whys.Unknown = refl
why_whole (Whys.Refused c) = cause_whole c

mask_whole : (m : Mask) → IsWhole (mask m)
unfolding mask
mask_whole Masks.NoEvents = refl
mask_whole Masks.NotEmpty = refl

-- ---- who acts, and what happens

who_whole : (e : Event) → IsWhole (who e)
unfolding who actor interface driver
who_whole (Events.Call (Actors.Thread t) e c) = decimal_whole t
who_whole (Events.Call Actors.Outside e c) = refl
who_whole (Events.Want (Actors.Thread t) e) = decimal_whole t
who_whole (Events.Want Actors.Outside e) = refl
who_whole (Events.Carry e) = refl
who_whole (Events.Bind n e) = decimal_whole n.0
who_whole (Events.Expire n p c) = decimal_whole n.0
who_whole (Events.Receive n p k) = decimal_whole n.0
who_whole (Events.Drain n e) = decimal_whole n.0
who_whole (Events.Unload n e) = decimal_whole n.0
who_whole (Events.Load n e f) = decimal_whole n.0
who_whole (Events.PageOut n e) = decimal_whole n.0
who_whole (Events.PageIn n e) = decimal_whole n.0

kind_whole : (k : HandlerKind) → AreWhole (handler_kind k)
unfolding handler_kind
kind_whole Kinds.Note = refl
kind_whole (Kinds.Echo r) = simp decimal_whole
kind_whole (Kinds.Add r) = simp decimal_whole

call_whole : (e : EndpointId) (c : Call) → AreWhole (call e c)
unfolding call
call_whole e (Calls.Request i h w) = simp decimal_whole
call_whole e Calls.Poll = simp decimal_whole
call_whole e (Calls.SetTag t) = simp (decimal_whole, tag_whole)
call_whole e (Calls.Map i name t c) = simp (decimal_whole, tag_whole)
call_whole e (Calls.Unmap i) = simp decimal_whole
call_whole e (Calls.SetHandler i k) = simp (decimal_whole, kind_whole)
call_whole e (Calls.GiveUp s) = simp (decimal_whole, serial_whole)
call_whole e Calls.Close = simp decimal_whole
call_whole e (Calls.Test m) = simp (decimal_whole, mask_whole)

what_whole : (e : Event) → AreWhole (what e)
unfolding what
what_whole (Events.Call a e c) = call_whole e c
what_whole (Events.Want a e) = simp decimal_whole
what_whole (Events.Carry e) = simp decimal_whole
what_whole (Events.Bind node e) = simp decimal_whole
what_whole (Events.Expire node p c) = simp decimal_whole
what_whole (Events.Receive node p k) = simp decimal_whole
what_whole (Events.Drain node e) = simp decimal_whole
what_whole (Events.Unload node e) = simp decimal_whole
what_whole (Events.Load node e f) = simp decimal_whole
what_whole (Events.PageOut node e) = simp decimal_whole
what_whole (Events.PageIn node e) = simp decimal_whole

-- ---- what came of it

refusal_whole : (r : Refusal) → AreWhole (refusal r)
unfolding refusal
refusal_whole Refusals.Closed = refl
refusal_whole Refusals.OwnTagNone = refl
refusal_whole Refusals.BadIndex = refl
refusal_whole Refusals.NotMapped = refl
refusal_whole Refusals.NoCredit = refl
refusal_whole Refusals.TableFull = refl
refusal_whole Refusals.SendFull = refl
refusal_whole Refusals.InUse = refl
refusal_whole (Refusals.OverShare k) = simp decimal_whole
refusal_whole (Refusals.Held l m o) = simp decimal_whole
refusal_whole (Refusals.Outstanding k) = simp decimal_whole
refusal_whole Refusals.Reserved = refl
refusal_whole Refusals.NoRequest = refl

handler_whole : (h : Option ℕ) → IsWhole (handler h)
unfolding handler
handler_whole None = refl
handler_whole (Some h) = decimal_whole h

sends_whole : (m : Option Message) → AreWhole (sends m)
unfolding sends
sends_whole None = refl
sends_whole (Some m) = simp serial_whole

received_whole : (r : Received) → AreWhole (received r)
unfolding received
received_whole (Got.Accepted m k) = simp (serial_whole, decimal_whole)
received_whole (Got.Refused m c k) = simp (serial_whole, cause_whole, decimal_whole)
received_whole (Got.Again s v k) = simp (serial_whole, verdict_whole, decimal_whole)
received_whole Got.Stale = refl
received_whole (Got.Delivered s) = simp serial_whole
received_whole (Got.Requeued s c used) = simp (serial_whole, cause_whole)
received_whole (Got.Returned s c) = simp (serial_whole, cause_whole)
received_whole Got.Nothing = refl

outcome_whole : (o : Outcome) → AreWhole (outcome o)
unfolding outcome
outcome_whole Out.Silent = refl
outcome_whole Out.Done = refl
outcome_whole (Out.Requested m) = simp serial_whole
outcome_whole (Out.Refused r) = refusal_whole r
outcome_whole (Out.Zero s w) = simp (serial_whole, why_whole)
outcome_whole (Out.Ran h m r) = simp (serial_whole, handler_whole, sends_whole)
outcome_whole Out.Blocked = refl
outcome_whole Out.Empty = refl
outcome_whole Out.Ready = refl
outcome_whole Out.Quiet = refl
outcome_whole Out.Failed = refl
outcome_whole (Out.Accepted m) = simp serial_whole
outcome_whole (Out.Requeued m c used) = simp (serial_whole, cause_whole)
outcome_whole (Out.Returned m c) = simp (serial_whole, cause_whole)
outcome_whole (Out.Sent m p c q a k) = simp (serial_whole, decimal_whole)
outcome_whole (Out.Delivered s) = simp serial_whole
outcome_whole (Out.Unknown s) = simp serial_whole
outcome_whole (Out.Received channel seq attempt result) = received_whole result

-- ---- the line

after_whole : (words : List Word) → AreWhole words → AreWhole (after_arrow words)
after_whole [] h = refl
after_whole (word ∷ words) h = h

spaced_whole : (words : List Word) → AreWhole words → IsWhole (spaced words)
unfolding spaced
spaced_whole [] h = refl
spaced_whole (word ∷ words) h =
    let p = and_parts (is_free 10 word) (list_all (is_free 10) words) h in
    whole_append (32 ∷ word) (spaced words) p.0 (spaced_whole words p.1)

pub printed_whole : (x : Entry) → is_free 10 (printed x) ≡ true
printed_whole x =
    let after : AreWhole (after_arrow (outcome x.outcome)) = after_whole (outcome x.outcome) (outcome_whole x.outcome) in
    let words : AreWhole (what x.event ++ after_arrow (outcome x.outcome)) =
    rw (list_all-append (is_free 10) (what x.event) (after_arrow (outcome x.outcome)), what_whole x.event, after) refl in
    whole_append (who x.event) (spaced (what x.event ++ after_arrow (outcome x.outcome))) (who_whole x.event)
    (spaced_whole (what x.event ++ after_arrow (outcome x.outcome)) words)
