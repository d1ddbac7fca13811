-- The numbers of messages with each fate, message by message.
use Rattle.std.proofs.Common.{◌≡◌, ℕ, ◌+◌, ◌^◌, ◌<◌, Bool, true, false, List, refl, sym, ap, ◌∙◌, length, take, get_or, arith}
use Rattle.std.proofs.lemmas.List.{length-take-le}
use Rattle.std.proofs.lemmas.List.Sums.{count_by-le-length, count_by_more_no, count_by_more_yes}
use Rattle.am_office_entries.specs.declared.endings.Fate.{Fate}
use Rattle.am_office_report.specs.declared.messages.MessageFate.{MessageFate}
use Rattle.am_office_report.specs.declared.totals.Totals.{Totals}
use Rattle.am_office_report.specs.Report.{number, has_run, was_returned, is_unknown, is_unknown_but_ran, is_pending}
use Rattle.am_office_report.specs.Tables.{one_more, with_fate, totals_in, HasRoom}

number_by : (p : Fate → Bool) (ms : List MessageFate) (i : ℕ) (d : MessageFate) (b : Bool) → i < length ms → p (get_or ms i d).fate ≡ b →
    number p (take (i + 1) ms) ≡ one_more b (number p (take i ms))
number_by p ms i d true below is = count_by_more_yes (λ (m : MessageFate). p m.fate) ms i d below is
number_by p ms i d false below is = count_by_more_no (λ (m : MessageFate). p m.fate) ms i d below is

number_next : (p : Fate → Bool) (ms : List MessageFate) (i : ℕ) (d : MessageFate) → i < length ms →
    number p (take (i + 1) ms) ≡ one_more (p (get_or ms i d).fate) (number p (take i ms))
number_next p ms i d below = number_by p ms i d (p (get_or ms i d).fate) below refl

same_totals : (a b c d e v w x y z : ℕ) → a ≡ v → b ≡ w → c ≡ x → d ≡ y → e ≡ z →
    (let t : Totals = record { ran = a; returned = b; unknown = c; unknown_but_ran = d; pending = e } in t) ≡ record {
      ran = v;
      returned = w;
      unknown = x;
      unknown_but_ran = y;
      pending = z;
    }
same_totals a b c d e v w x y z e1 e2 e3 e4 e5 = rw (e1, e2, e3, e4, e5) refl

pub totals_next : (ms : List MessageFate) (i : ℕ) (d : MessageFate) (t u : Totals) → i < length ms → t ≡ totals_in (take i ms) →
    u ≡ with_fate t (get_or ms i d).fate → u ≡ totals_in (take (i + 1) ms)
totals_next ms i d t u below before is =
    is
    ∙ ap (λ (x : Totals). with_fate x (get_or ms i d).fate) before
    ∙ sym (same_totals _ _ _ _ _ _ _ _ _ _ (number_next has_run ms i d below) (number_next was_returned ms i d below) (number_next is_unknown ms i d below)
    (number_next is_unknown_but_ran ms i d below) (number_next is_pending ms i d below))

small : (p : Fate → Bool) (ms : List MessageFate) (i n : ℕ) → i < length ms → length ms < 2 ^ 64 → n ≡ number p (take i ms) → n + 1 < 2 ^ 64
small p ms i n below fits is =
    let few = count_by-le-length (λ (m : MessageFate). p m.fate) (take i ms) in
    let taken = length-take-le i ms (omega arith) in
    omega (arith, few, taken, is)

pub room : (ms : List MessageFate) (i : ℕ) (t : Totals) → i < length ms → length ms < 2 ^ 64 → t ≡ totals_in (take i ms) → HasRoom t
room ms i t below fits is = record {
  ran = small has_run ms i t.ran below fits (ap (λ (x : Totals). x.ran) is);
  returned = small was_returned ms i t.returned below fits (ap (λ (x : Totals). x.returned) is);
  unknown = small is_unknown ms i t.unknown below fits (ap (λ (x : Totals). x.unknown) is);
  unknown_but_ran = small is_unknown_but_ran ms i t.unknown_but_ran below fits (ap (λ (x : Totals). x.unknown_but_ran) is);
  pending = small is_pending ms i t.pending below fits (ap (λ (x : Totals). x.pending) is);
}
