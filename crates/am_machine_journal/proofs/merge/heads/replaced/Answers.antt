use Rattle.std.proofs.Common.{rules, sym, subst, ◌∷◌}
use Rattle.std.specs.Prelude.{IsPermutation}
use Rattle.std.specs.BinaryHeap.{IsUpperBound, heap_items}
use Rattle.std.specs.BinaryHeap.PeekMut.{peek_mut_rest}
use Rattle.std.specs.declared.cmp.Reverse.{Reverse}
use Rattle.std.proofs.lemmas.Option.{MatchOption-at_some}
use Rattle.am_machine_journal.specs.declared.merge.heads.Head.{Head}
use Rattle.am_machine_journal.specs.Merge.Heads.{head_cmp}
use Rattle.am_machine_journal.proofs.Firsts.{first_from_top, in_place}
use Rattle.am_machine_journal.proofs.merge.heads.replaced.Goals as goal

pub returns-clause-same : goal.returns-clause-same
returns-clause-same c =
    let top = c.unwrap-top.result in
    let held = MatchOption-at_some _ _ top c.unwrap-top.ensures c.peek_mut.ensures.permutation in
    let out = subst (λ (x : Reverse Head). IsPermutation (heap_items c.args.heads.now) (x ∷ peek_mut_rest top)) (sym c.deref.ensures) held in
    let put = c.drop-top.ensures.permutation (search rules) in
    let same = in_place c.args.head c.deref.result.now.0 _ _ _ out put in
    search rules

pub returns-clause-first : goal.returns-clause-first
returns-clause-first c = λ order.
    let greatest = MatchOption-at_some _ _ c.unwrap-top.result c.unwrap-top.ensures c.peek_mut.ensures.greatest in
    first_from_top c.deref.result.now.0 (heap_items c.args.heads.now)
    (subst (λ (x : Reverse Head). IsUpperBound (λ (a b : Reverse Head). head_cmp b.0 a.0) x (heap_items c.args.heads.now)) (sym c.deref.ensures)
    (greatest order))
