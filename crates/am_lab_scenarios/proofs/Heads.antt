-- What the first word of a line says, and when the line is in its place.
use Rattle.std.proofs.Common.{◌≡◌, ℕ, ◌<◌, ◌≤◌, ◌^◌, true, false, eqb, ltb, not, ◌&&◌, List, ◌∷◌, ◌++◌, Option, Some, Ok, refl, arith}
use Rattle.std.specs.Prelude.{codes, is_some}
use Rattle.std.specs.Fmt.{decimal}
use Rattle.std.specs.List.{slice_index}
use Rattle.std.specs.Str.{bytes_eq}
use Rattle.std.proofs.lemmas.Bool.{ne_eqb, le-ltb}
use Rattle.am_lexer.specs.Text.{number_of}
use Rattle.am_office_entries.specs.declared.Actor.TheVariants as Actors
use Rattle.am_office_entries.specs.declared.Event.{Event}
use Rattle.am_office_entries.specs.declared.Event.TheVariants as Events
use Rattle.am_office_text.specs.Words.{Word}
use Rattle.am_office_text.specs.EntryLines.Lines.{who, actor, interface, driver}
use Rattle.am_scenario_types.specs.declared.parts.Form.{Form}
use Rattle.am_scenario_types.specs.declared.parts.Form.TheVariants.{Step}
use Rattle.am_scenario.specs.declared.drafts.settings.Version.{Version}
use Rattle.am_scenario.specs.declared.drafts.line.Line.{Line}
use Rattle.am_scenario.specs.Drafts.Said.{Said, with_line, node_count}
use Rattle.am_scenario.specs.declared.lines.head.Head.{Head}
use Rattle.am_scenario.specs.declared.lines.head.Head.TheVariants as head
use Rattle.am_scenario.specs.Lines.Heads.{head_of, setting_name_of, declaration_of, actor_of, section_of, is_of_form}
use Rattle.am_scenario.specs.Lines.Lines.{words_say}
use Rattle.am_scenario.specs.Order.{after_words, placed}
use Rattle.am_lab_scenarios.proofs.Words.{is_word, number_read, number_differs, numbered_word}
use Rattle.am_lab_scenarios.proofs.Calls.{head_for, IsLawfulHere}

-- ---- the first word

outside_head : (version : Option Version) → head_of version (codes "x") ≡ Some head.Outside
unfolding head_of setting_name_of declaration_of actor_of
outside_head version = refl

numbered_thread : (version : Option Version) (digits : List ℕ) (n : ℕ) → bytes_eq digits (codes "ries") ≡ false → bytes_eq digits (codes "urns") ≡ false →
    bytes_eq digits (codes "hread") ≡ false → number_of digits ≡ Some n
    → head_of version (116 ∷ digits) ≡ Some (head.OfThread n)
unfolding head_of setting_name_of declaration_of actor_of
numbered_thread version digits n tries turns thread read = rw (tries, turns, thread, read) refl

numbered_interface : (version : Option Version) (digits : List ℕ) (n : ℕ) → number_of digits ≡ Some n →
    head_of version (105 ∷ digits) ≡ Some (head.OfInterface n)
unfolding head_of setting_name_of declaration_of actor_of
numbered_interface version digits n read = rw read refl

numbered_driver : (version : Option Version) (digits : List ℕ) (n : ℕ) → number_of digits ≡ Some n → head_of version (100 ∷ digits) ≡ Some (head.OfDriver n)
unfolding head_of setting_name_of declaration_of actor_of
numbered_driver version digits n read = rw read refl

pub thread_head : (version : Option Version) (t : ℕ) → t < 2 ^ 64 → head_of version (codes "t" ++ decimal t) ≡ Some (head.OfThread t)
thread_head version t h =
    numbered_thread version (decimal t) t (number_differs t 114 (codes "ies") h (omega arith)) (number_differs t 117 (codes "rns") h (omega arith))
    (number_differs t 104 (codes "read") h (omega arith)) (number_read t h)

interface_head : (version : Option Version) (n : ℕ) → n < 2 ^ 64 → head_of version (codes "i" ++ decimal n) ≡ Some (head.OfInterface n)
interface_head version n h = numbered_interface version (decimal n) n (number_read n h)

driver_head : (version : Option Version) (n : ℕ) → n < 2 ^ 64 → head_of version (codes "d" ++ decimal n) ≡ Some (head.OfDriver n)
driver_head version n h = numbered_driver version (decimal n) n (number_read n h)

pub thread_word : (t : ℕ) → t < 2 ^ 64 → is_word (codes "t" ++ decimal t) ≡ true
thread_word t h = numbered_word 116 t refl h

-- ---- the first word of a step's event

pub record IsStepHead (version : Option Version) (e : Event) : Type 0 where
  pub named : head_of version (who e) ≡ Some (head_for e)
  pub word : is_word (who e) ≡ true
  pub no_comment : eqb (slice_index (who e) 0) 35 ≡ false
  pub section : section_of (head_for e) ≡ 4
  pub of_form : is_of_form Step (head_for e) ≡ true

outside_is : (version : Option Version) (e : Event) → who e ≡ codes "x" → head_for e ≡ head.Outside → IsStepHead version e
outside_is version e is says = record {
  named = rw (is, says) (outside_head version);
  word = rw is refl;
  no_comment = rw is refl;
  section = rw says refl;
  of_form = rw says refl;
}

interface_is : (version : Option Version) (e : Event) (n : ℕ) → n < 2 ^ 64 → who e ≡ codes "i" ++ decimal n → head_for e ≡ head.OfInterface n →
    IsStepHead version e
interface_is version e n small is says = record {
  named = rw (is, says) (interface_head version n small);
  word = rw is (numbered_word 105 n refl small);
  no_comment = rw is refl;
  section = rw says refl;
  of_form = rw says refl;
}

driver_is : (version : Option Version) (e : Event) (n : ℕ) → n < 2 ^ 64 → who e ≡ codes "d" ++ decimal n → head_for e ≡ head.OfDriver n → IsStepHead version e
driver_is version e n small is says = record {
  named = rw (is, says) (driver_head version n small);
  word = rw is (numbered_word 100 n refl small);
  no_comment = rw is refl;
  section = rw says refl;
  of_form = rw says refl;
}

pub step_head : (said : Said) (e : Event) → node_count said.settings ≤ 16 → IsLawfulHere said e → IsStepHead said.version e
unfolding who actor interface driver
step_head said (Events.Call (Actors.Thread t) e c) few h = absurd (cc (h.0))
step_head said (Events.Call Actors.Outside e c) few h = outside_is said.version (Events.Call Actors.Outside e c) refl refl
step_head said (Events.Want (Actors.Thread t) e) few h = absurd (cc (h.0))
step_head said (Events.Want Actors.Outside e) few h = outside_is said.version (Events.Want Actors.Outside e) refl refl
step_head said (Events.Carry e) few h = outside_is said.version (Events.Carry e) refl refl
step_head said (Events.Bind n e) few h = interface_is said.version (Events.Bind n e) n.0 (omega (arith, h.0)) refl refl
step_head said (Events.Expire n p c) few h = interface_is said.version (Events.Expire n p c) n.0 (omega (arith, h.0)) refl refl
step_head said (Events.Receive n p k) few h = interface_is said.version (Events.Receive n p k) n.0 (omega (arith, h.0)) refl refl
step_head said (Events.Drain n e) few h = driver_is said.version (Events.Drain n e) n.0 (omega (arith, h.0)) refl refl
step_head said (Events.Unload n e) few h = driver_is said.version (Events.Unload n e) n.0 (omega (arith, h.0)) refl refl
step_head said (Events.Load n e f) few h = driver_is said.version (Events.Load n e f) n.0 (omega (arith, h.0)) refl refl
step_head said (Events.PageOut n e) few h = driver_is said.version (Events.PageOut n e) n.0 (omega (arith, h.0)) refl refl
step_head said (Events.PageIn n e) few h = driver_is said.version (Events.PageIn n e) n.0 (omega (arith, h.0)) refl refl

-- ---- a line in its place

pub after_here : (form : Form) (number : ℕ) (said : Said) (first : Word) (words : List Word) (h : Head) (section : ℕ) (l : Line)
    → eqb (slice_index first 0) 35 ≡ false → head_of said.version first ≡ Some h → section_of h ≡ section → 1 ≤ said.section → said.section ≤ section →
    is_of_form form h ≡ true
    → (ltb 2 section && not (is_some said.settings.network && is_some said.settings.nodes)) ≡ false → words_say form said h words ≡ Ok l
    → after_words form number said (first ∷ words) ≡ Ok (with_line number (record said { section = section }) l)
unfolding after_words placed
after_here form number said first words h section l comment named is some low of_form known says =
    let begun : eqb said.section 0 ≡ false = ne_eqb said.section 0 (λ e. omega arith) in
    let in_place : ltb section said.section ≡ false = le-ltb section said.section low in
    rw (comment, named, is, begun, in_place, of_form, known, says, is) refl
