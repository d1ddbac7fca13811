-- The words that an event is printed as are read back as that event.
use Rattle.std.proofs.Common.{◌≡◌, ℕ, List, ◌∷◌, ◌++◌, Some, refl, ◌∙◌}
use Rattle.std.specs.Fmt.{decimal}
use Rattle.am_lemmas.specs.Options.{◌>>=◌}
use Rattle.am_names.specs.declared.EndpointId.{EndpointId}
use Rattle.am_names.specs.declared.NodeId.{NodeId}
use Rattle.am_names.specs.declared.Serial.{Serial}
use Rattle.am_names.specs.declared.Tag.{Tag}
use Rattle.am_office_entries.specs.declared.Actor.{Actor}
use Rattle.am_office_entries.specs.declared.Actor.TheVariants as Actors
use Rattle.am_office_entries.specs.declared.HandlerKind.{HandlerKind}
use Rattle.am_office_entries.specs.declared.HandlerKind.TheVariants as Kinds
use Rattle.am_office_entries.specs.declared.Mask.{Mask}
use Rattle.am_office_entries.specs.declared.Mask.TheVariants as Masks
use Rattle.am_office_entries.specs.declared.Call.{Call}
use Rattle.am_office_entries.specs.declared.Call.TheVariants as Calls
use Rattle.am_office_entries.specs.declared.Event.{Event}
use Rattle.am_office_entries.specs.declared.Event.TheVariants as Events
use Rattle.am_office_text.specs.Words.{Word, tag, serial}
use Rattle.am_office_text.specs.EntryLines.Lines.{who, what, actor, interface, driver, call, handler_kind, mask}
use Rattle.am_check_lines.specs.Grammar.{IsByte, IsFourBytes, IsEightBytes, IsSerial, AreNumbersOf, AreNumbersOfCall, AreNumbersOfKind}
use Rattle.am_check_lines.specs.Reading.{Read, word_at, number_at, byte_at, count_at, long_at, end_at, node_at, tag_at, serial_at, lettered, head_of}
use Rattle.am_check_lines.specs.Reading.{request_at, poll_at, set_tag_at, map_at, unmap_at, echo_at, add_at, kind_at, set_handler_at, give_up_at, close_at}
use Rattle.am_check_lines.specs.Reading.{mask_at, test_at, call_at, call_event_at, want_at, thread_at, carry_at, outside_at, bind_at, expire_at, receive_at}
use Rattle.am_check_lines.specs.Reading.{interface_at, load_at, move_at, driver_at, happening_at, event_at}
use Rattle.am_check_lines.proofs.Printed.{byte_read, four_read, eight_read, tag_read, serial_read}

-- the word of a number, an endpoint, a node at the front
byte_here : (n : ℕ) (rest : List (List ℕ)) → IsByte n → byte_at (decimal n ∷ rest) ≡ Some (n, rest)
unfolding byte_at number_at word_at
byte_here n rest h = rw (byte_read n h) refl

count_here : (n : ℕ) (rest : List (List ℕ)) → IsFourBytes n → count_at (decimal n ∷ rest) ≡ Some (n, rest)
unfolding count_at number_at word_at
count_here n rest h = rw (four_read n h) refl

long_here : (n : ℕ) (rest : List (List ℕ)) → IsEightBytes n → long_at (decimal n ∷ rest) ≡ Some (n, rest)
unfolding long_at number_at word_at
long_here n rest h = rw (eight_read n h) refl

end_here : (e : EndpointId) (rest : List (List ℕ)) → IsByte e.0 → end_at (decimal e.0 ∷ rest) ≡ Some (e, rest)
unfolding end_at
end_here e rest h = rw (byte_here e.0 rest h) refl

node_here : (n : NodeId) (rest : List (List ℕ)) → IsByte n.0 → node_at (decimal n.0 ∷ rest) ≡ Some (n, rest)
unfolding node_at
node_here n rest h = rw (byte_here n.0 rest h) refl

tag_here : (t : Tag) (rest : List (List ℕ)) → IsEightBytes t.0 → tag_at (tag t ∷ rest) ≡ Some (t, rest)
unfolding tag_at word_at
tag_here t rest h = rw (tag_read t h) refl

serial_here : (s : Serial) (rest : List (List ℕ)) → IsSerial s → serial_at (serial s ∷ rest) ≡ Some (s, rest)
unfolding serial_at word_at
serial_here s rest h = rw (serial_read s h) refl

kind_here : (k : HandlerKind) (rest : List (List ℕ)) → AreNumbersOfKind k → kind_at (handler_kind k ++ rest) ≡ Some (k, rest)
unfolding kind_at word_at handler_kind echo_at add_at
kind_here Kinds.Note rest h = refl
kind_here (Kinds.Echo r) rest h = rw (byte_here r rest h) refl
kind_here (Kinds.Add r) rest h = rw (byte_here r rest h) refl

mask_here : (m : Mask) (rest : List (List ℕ)) → mask_at (mask m ∷ rest) ≡ Some (m, rest)
unfolding mask_at word_at mask
mask_here Masks.NoEvents rest = refl
mask_here Masks.NotEmpty rest = refl

-- what is read behind a verb
abbrev taken : (Word → List Word → Read Event) → List Word → Read Event
taken read words = word_at words >>= (λ verb. read verb.0 verb.1)

call_back : (a : Actor) (e : EndpointId) (c : Call) (rest : List Word) → IsByte e.0 → AreNumbersOfCall c →
    taken (call_event_at a) (call e c ++ rest) ≡ Some (Events.Call a e c, rest)
unfolding call word_at call_event_at call_at request_at poll_at set_tag_at map_at unmap_at set_handler_at give_up_at close_at test_at
call_back a e (Calls.Request i h w) rest b n =
    rw (end_here e _ b, byte_here i _ n.0, byte_here h _ n.1, long_here w.a _ n.2.0, long_here w.b _ n.2.1, long_here w.c _ n.2.2, long_here w.d _ n.2.3) refl
call_back a e Calls.Poll rest b n = rw (end_here e rest b) refl
call_back a e (Calls.SetTag t) rest b n = rw (end_here e _ b, tag_here t rest n) refl
call_back a e (Calls.Map i name t c) rest b n = rw (end_here e _ b, byte_here i _ n.0, end_here name _ n.1, tag_here t _ n.2, byte_here c rest n.3) refl
call_back a e (Calls.Unmap i) rest b n = rw (end_here e _ b, byte_here i rest n) refl
call_back a e (Calls.SetHandler i k) rest b n = rw (end_here e _ b, byte_here i _ n.0, kind_here k rest n.1) refl
call_back a e (Calls.GiveUp s) rest b n = rw (end_here e _ b, serial_here s rest n) refl
call_back a e Calls.Close rest b n = rw (end_here e rest b) refl
call_back a e (Calls.Test m) rest b n = rw (end_here e _ b, mask_here m rest) refl

-- no verb of a call is that of a want or a carry
outside_calls : (e : EndpointId) (c : Call) (rest : List Word) → taken outside_at (call e c ++ rest) ≡ taken (call_event_at Actors.Outside) (call e c ++ rest)
unfolding call word_at outside_at
outside_calls e (Calls.Request i h w) rest = refl
outside_calls e Calls.Poll rest = refl
outside_calls e (Calls.SetTag t) rest = refl
outside_calls e (Calls.Map i name t c) rest = refl
outside_calls e (Calls.Unmap i) rest = refl
outside_calls e (Calls.SetHandler i k) rest = refl
outside_calls e (Calls.GiveUp s) rest = refl
outside_calls e Calls.Close rest = refl
outside_calls e (Calls.Test m) rest = refl

thread_calls : (t : ℕ) (e : EndpointId) (c : Call) (rest : List Word) →
    taken (thread_at t) (call e c ++ rest) ≡ taken (call_event_at (Actors.Thread t)) (call e c ++ rest)
unfolding call word_at thread_at
thread_calls t e (Calls.Request i h w) rest = refl
thread_calls t e Calls.Poll rest = refl
thread_calls t e (Calls.SetTag x) rest = refl
thread_calls t e (Calls.Map i name x c) rest = refl
thread_calls t e (Calls.Unmap i) rest = refl
thread_calls t e (Calls.SetHandler i k) rest = refl
thread_calls t e (Calls.GiveUp s) rest = refl
thread_calls t e Calls.Close rest = refl
thread_calls t e (Calls.Test m) rest = refl

pub event_back : (e : Event) (rest : List Word) → AreNumbersOf e → event_at (who e ∷ (what e ++ rest)) ≡ Some (e, rest)
unfolding event_at word_at who what actor interface driver head_of lettered happening_at want_at thread_at carry_at outside_at bind_at expire_at receive_at
    interface_at load_at move_at driver_at
event_back (Events.Call (Actors.Thread t) e c) rest n = rw (byte_read t n.0) (thread_calls t e c rest ∙ call_back (Actors.Thread t) e c rest n.1 n.2)
event_back (Events.Call Actors.Outside e c) rest n = outside_calls e c rest ∙ call_back Actors.Outside e c rest n.1 n.2
event_back (Events.Want (Actors.Thread t) e) rest n = rw (byte_read t n.0, end_here e rest n.1) refl
event_back (Events.Want Actors.Outside e) rest n = rw (end_here e rest n.1) refl
event_back (Events.Carry e) rest n = rw (end_here e rest n) refl
event_back (Events.Bind node e) rest n = rw (byte_read node.0 n.0, end_here e rest n.1) refl
event_back (Events.Expire node p c) rest n = rw (byte_read node.0 n.0, node_here p _ n.1, byte_here c rest n.2) refl
event_back (Events.Receive node p k) rest n = rw (byte_read node.0 n.0, node_here p _ n.1, count_here k rest n.2) refl
event_back (Events.Drain node e) rest n = rw (byte_read node.0 n.0, end_here e rest n.1) refl
event_back (Events.Unload node e) rest n = rw (byte_read node.0 n.0, end_here e rest n.1) refl
event_back (Events.Load node e f) rest n = rw (byte_read node.0 n.0, end_here e _ n.1, byte_here f rest n.2) refl
event_back (Events.PageOut node e) rest n = rw (byte_read node.0 n.0, end_here e rest n.1) refl
event_back (Events.PageIn node e) rest n = rw (byte_read node.0 n.0, end_here e rest n.1) refl
