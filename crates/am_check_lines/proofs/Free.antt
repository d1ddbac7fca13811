-- No word that an event is printed as has a space.
use Rattle.std.proofs.Common.{◌≡◌, true, refl}
use Rattle.std.specs.List.{list_all}
use Rattle.am_names.specs.declared.EndpointId.{EndpointId}
use Rattle.am_office_entries.specs.declared.Actor.TheVariants as Actors
use Rattle.am_office_entries.specs.declared.HandlerKind.{HandlerKind}
use Rattle.am_office_entries.specs.declared.HandlerKind.TheVariants as Kinds
use Rattle.am_office_entries.specs.declared.Mask.{Mask}
use Rattle.am_office_entries.specs.declared.Mask.TheVariants as Masks
use Rattle.am_office_entries.specs.declared.Call.{Call}
use Rattle.am_office_entries.specs.declared.Call.TheVariants as Calls
use Rattle.am_office_entries.specs.declared.Event.{Event}
use Rattle.am_office_entries.specs.declared.Event.TheVariants as Events
use Rattle.am_office_text.specs.EntryLines.Lines.{who, what, actor, interface, driver, call, handler_kind, mask}
use Rattle.am_check_lines.specs.Grammar.{IsByte, AreNumbersOf, AreNumbersOfCall, AreNumbersOfKind}
use Rattle.am_check_lines.proofs.Printed.{byte_free, four_free, eight_free, tag_free, serial_free}
use Rattle.am_check_lines.proofs.Cuts.{is_free}

pub who_free : (e : Event) → AreNumbersOf e → is_free 32 (who e) ≡ true
unfolding who actor interface driver
who_free (Events.Call (Actors.Thread t) e c) n = byte_free t n.0
who_free (Events.Call Actors.Outside e c) n = refl
who_free (Events.Want (Actors.Thread t) e) n = byte_free t n.0
who_free (Events.Want Actors.Outside e) n = refl
who_free (Events.Carry e) n = refl
who_free (Events.Bind node e) n = byte_free node.0 n.0
who_free (Events.Expire node p c) n = byte_free node.0 n.0
who_free (Events.Receive node p k) n = byte_free node.0 n.0
who_free (Events.Drain node e) n = byte_free node.0 n.0
who_free (Events.Unload node e) n = byte_free node.0 n.0
who_free (Events.Load node e f) n = byte_free node.0 n.0
who_free (Events.PageOut node e) n = byte_free node.0 n.0
who_free (Events.PageIn node e) n = byte_free node.0 n.0

kind_free : (k : HandlerKind) → AreNumbersOfKind k → list_all (is_free 32) (handler_kind k) ≡ true
unfolding handler_kind
kind_free Kinds.Note n = refl
kind_free (Kinds.Echo r) n = rw (byte_free r n) refl
kind_free (Kinds.Add r) n = rw (byte_free r n) refl

mask_free : (m : Mask) → is_free 32 (mask m) ≡ true
unfolding mask
mask_free Masks.NoEvents = refl
mask_free Masks.NotEmpty = refl

call_free : (e : EndpointId) (c : Call) → IsByte e.0 → AreNumbersOfCall c → list_all (is_free 32) (call e c) ≡ true
unfolding call
call_free e (Calls.Request i h w) b n =
    rw (byte_free e.0 b, byte_free i n.0, byte_free h n.1, eight_free w.a n.2.0, eight_free w.b n.2.1, eight_free w.c n.2.2, eight_free w.d n.2.3) refl
call_free e Calls.Poll b n = rw (byte_free e.0 b) refl
call_free e (Calls.SetTag t) b n = rw (byte_free e.0 b, tag_free t n) refl
call_free e (Calls.Map i name t c) b n = rw (byte_free e.0 b, byte_free i n.0, byte_free name.0 n.1, tag_free t n.2, byte_free c n.3) refl
call_free e (Calls.Unmap i) b n = rw (byte_free e.0 b, byte_free i n) refl
call_free e (Calls.SetHandler i k) b n = rw (byte_free e.0 b, byte_free i n.0) (kind_free k n.1)
call_free e (Calls.GiveUp s) b n = rw (byte_free e.0 b, serial_free s n) refl
call_free e Calls.Close b n = rw (byte_free e.0 b) refl
call_free e (Calls.Test m) b n = rw (byte_free e.0 b, mask_free m) refl

pub what_free : (e : Event) → AreNumbersOf e → list_all (is_free 32) (what e) ≡ true
unfolding what
what_free (Events.Call a e c) n = call_free e c n.1 n.2
what_free (Events.Want a e) n = rw (byte_free e.0 n.1) refl
what_free (Events.Carry e) n = rw (byte_free e.0 n) refl
what_free (Events.Bind node e) n = rw (byte_free e.0 n.1) refl
what_free (Events.Expire node p c) n = rw (byte_free p.0 n.1, byte_free c n.2) refl
what_free (Events.Receive node p k) n = rw (byte_free p.0 n.1, four_free k n.2) refl
what_free (Events.Drain node e) n = rw (byte_free e.0 n.1) refl
what_free (Events.Unload node e) n = rw (byte_free e.0 n.1) refl
what_free (Events.Load node e f) n = rw (byte_free e.0 n.1, byte_free f n.2) refl
what_free (Events.PageOut node e) n = rw (byte_free e.0 n.1) refl
what_free (Events.PageIn node e) n = rw (byte_free e.0 n.1) refl
