use Rattle.std.proofs.Common.{◌≡◌, ◌<◌, ◌-◌, ◌++◌, ◌∷◌, ◌∙◌, Option, Some, None, List, length, sym, subst}
use Rattle.std.specs.Borrow.{Bor}
use Rattle.am_office_entries.specs.declared.Entry.{Entry}
use Rattle.std.specs.Prelude.{IsPermutation, slice_get, sum_by}
use Rattle.std.specs.BinaryHeap.{heap_items}
use Rattle.std.specs.declared.cmp.Reverse.{Reverse}
use Rattle.std.proofs.lemmas.List.Sorted.{IsPermutation-refl}
use Rattle.am_machine_journal.specs.declared.merge.heads.Head.{Head}
use Rattle.am_machine_journal.specs.Merge.Heads.{IsFirstOf, IsHead, option_reversed}
use Rattle.am_machine_journal.specs.Merge.Joined.{lists_of}
use Rattle.am_machine_journal.proofs.Firsts.{first_again, none_left, reversed}
use Rattle.am_machine_journal.proofs.Joining.{IsReached, IsTaken, begins, ends, fewer, goes_on, left_of}
use Rattle.am_machine_journal.proofs.Lasts.{IsOf, IsOfLast, again_is, head_is_of, of_added}
use Rattle.am_machine_journal.proofs.Standing.{in_front}
use Rattle.am_machine_journal.proofs.merge.by_heads.Goals as goal

is_head : (logs : List (Bor (List Entry))) (first : Option Head) (h : Head) (heads : List (Reverse Head)) (out : List Entry) → first ≡ Some h →
    IsReached (lists_of logs) (option_reversed first ++ heads) out → IsHead (lists_of logs) h
is_head logs first h heads out is reached =
    (subst (λ (o : Option Head). IsReached (lists_of logs) (option_reversed o ++ heads) out) is reached).heads' (reversed h) (in_front (reversed h) heads)

pub loop-first-init : goal.loop-first-init
loop-first-init c =
    let all = option_reversed c.taken-first.result ++ heap_items c.taken-first.new.heads in
    record {
      reached =
          subst (IsReached (lists_of c.args.logs.now) all) (sym c.in_ok-journal.ensures)
          (begins (lists_of c.args.logs.now) all (first_again (lists_of c.args.logs.now) (heap_items c.in_ok-heads.heads) all c.taken-first.ensures.same
          c.in_ok-heads.ensures.first));
      order = c.taken-first.ensures.order c.in_ok-heads.ensures.order;
      first = c.taken-first.ensures.first c.in_ok-heads.ensures.order;
      last = subst (λ (xs : List Entry). IsOfLast None (slice_get xs (length xs - 1))) (sym c.in_ok-journal.ensures) tt;
    }

-- the first head is of its entry
head_of_entry : (c : goal.After-first_of-first) → IsOf c.in-Some.head c.entry_of.result.now
head_of_entry c = head_is_of (lists_of c.args.logs.now) c.in-Some.head c.entry_of.result.now
    (is_head c.args.logs.now c.loop-first.first c.in-Some.head (heap_items c.loop-first.heads) c.loop-first.journal c.in-Some.is
    c.loop-first.invariant.reached) c.entry_of.ensures.shown

pub add-requires : goal.add-requires
add-requires c =
    c.is_again.ensures
    ∙ again_is c.loop-first.last (slice_get c.loop-first.journal (length c.loop-first.journal - 1)) c.in-Some.head c.entry_of.result.now
    c.loop-first.invariant.last
    (head_is_of (lists_of c.args.logs.now) c.in-Some.head c.entry_of.result.now (is_head c.args.logs.now c.loop-first.first c.in-Some.head
    (heap_items c.loop-first.heads) c.loop-first.journal c.in-Some.is c.loop-first.invariant.reached) c.entry_of.ensures.shown)

pub entry_of-requires : goal.entry_of-requires
entry_of-requires c = is_head c.args.logs.now c.loop-first.first c.in-Some.head (heap_items c.loop-first.heads) c.loop-first.journal c.in-Some.is
    c.loop-first.invariant.reached

-- the first head is taken
taken_first : (c : goal.After-first_of-first) → IsTaken (lists_of c.args.logs.now) (reversed c.in-Some.head ∷ heap_items c.loop-first.heads)
    (heap_items c.loop-first.heads) (option_reversed c.first_of-first.result ++ heap_items c.first_of-first.new.heads) c.loop-first.journal c.in-Some.head
    c.entry_of.result.now
taken_first c =
    record {
      rising = c.requires.rising;
      one = c.requires.one;
      popped = IsPermutation-refl (reversed c.in-Some.head ∷ heap_items c.loop-first.heads);
      top = subst (λ (o : Option Head). IsFirstOf o (heap_items c.loop-first.heads)) c.in-Some.is c.loop-first.invariant.first;
      here = c.entry_of.ensures.shown;
      pushed =
          subst (λ (o : Option Head). IsPermutation (option_reversed o ++ heap_items c.loop-first.heads)
          (option_reversed c.first_of-first.result ++ heap_items c.first_of-first.new.heads)) c.next_head-next.ensures
          c.first_of-first.ensures.same;
    }

pub loop-first-smaller : goal.loop-first-smaller
loop-first-smaller c =
    let more = option_reversed c.first_of-first.result ++ heap_items c.first_of-first.new.heads in
    let logs = lists_of c.args.logs.now in
    subst (λ (o : Option Head). sum_by (left_of logs) more < sum_by (left_of logs) (option_reversed o ++ heap_items c.loop-first.heads)) (sym c.in-Some.is)
    (fewer logs (reversed c.in-Some.head ∷ heap_items c.loop-first.heads) (heap_items c.loop-first.heads) more c.loop-first.journal c.in-Some.head
    c.entry_of.result.now (taken_first c))

pub loop-first-preserved : goal.loop-first-preserved
loop-first-preserved c =
    let more = option_reversed c.first_of-first.result ++ heap_items c.first_of-first.new.heads in
    let logs = lists_of c.args.logs.now in
    let reached = subst (λ (o : Option Head). IsReached logs (option_reversed o ++ heap_items c.loop-first.heads) c.loop-first.journal) c.in-Some.is
    c.loop-first.invariant.reached in
    record {
      reached =
          subst (IsReached logs more) (sym c.in_ok-add.ensures)
          (goes_on logs (reversed c.in-Some.head ∷ heap_items c.loop-first.heads) (heap_items c.loop-first.heads) more c.loop-first.journal c.in-Some.head
          c.entry_of.result.now reached (taken_first c));
      order = c.first_of-first.ensures.order c.loop-first.invariant.order;
      first = c.first_of-first.ensures.first c.loop-first.invariant.order;
      last = subst (λ (xs : List Entry). IsOfLast (Some c.in-Some.head) (slice_get xs (length xs - 1))) (sym c.in_ok-add.ensures)
          (of_added c.loop-first.last c.in-Some.head c.entry_of.result.now c.loop-first.journal (head_of_entry c) c.loop-first.invariant.last);
    }

pub returns : goal.returns
returns c =
    let none = none_left c.loop-first.first (heap_items c.loop-first.heads) c.in_default.is c.loop-first.invariant.first in
    ends (lists_of c.args.logs.now) c.loop-first.journal c.requires.one
    (subst (λ (hs : List (Reverse Head)). IsReached (lists_of c.args.logs.now) hs c.loop-first.journal) none c.loop-first.invariant.reached)
