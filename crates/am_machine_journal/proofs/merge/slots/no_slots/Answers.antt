use Rattle.std.specs.Borrow.{Bor}
use Rattle.std.specs.List.{All}
use Rattle.std.proofs.Common.{◌≡◌, ◌-◌, List, [], Option, None, take, vec_len, refl, ap, subst, sym, ◌∙◌, arith}
use Rattle.std.proofs.Math.Seq.{take-nil}
use Rattle.std.proofs.lemmas.List.Elements.{All-append, All-replicate}
use Rattle.std.specs.Prelude.{replicate}
use Rattle.am_office_entries.specs.declared.Entry.{Entry}
use Rattle.am_machine_journal.proofs.merge.slots.no_slots.Goals as goal

abbrev Slot : Type 0
Slot = Option (Bor Entry)

abbrev IsEmpty : Slot → Type 0
IsEmpty slot = slot ≡ None

nothing : All IsEmpty []
nothing k d lt = absurd (omega (arith, lt))

pub returns : goal.returns
returns c =
    let n = c.args.count in
    let slots = c.new-slots.result in
    subst (All IsEmpty) (sym c.in_ok-resize.ensures.items)
    (All-append IsEmpty (take n slots.items) (replicate (n - vec_len slots) None)
    (subst (All IsEmpty) (sym (ap (λ (ss : List Slot). take n ss) c.new-slots.ensures.items ∙ take-nil n)) nothing)
    (All-replicate IsEmpty (n - vec_len slots) None refl))
