use Rattle.std.specs.Prelude.{slice_get}
use Rattle.std.proofs.Common.{◌≡◌, ◌<◌, ◌∙◌, ◌++◌, ℕ, List, [], IfSome, Some, ap, append-nil, arith, refl, rules, subst, sym, length}
use Rattle.am_names.specs.declared.Packet.{Packet}
use Rattle.am_model.specs.Layout.{node_at}
use Rattle.am_workers_laws.specs.Invariants.Works.{held_from}
use Rattle.am_wire.specs.Links.{known}
use Rattle.am_wire.specs.declared.receiving.LinkIn.{LinkIn}
use Rattle.am_workers.specs.Turns.Chosen.{place_after}
use Rattle.am_workers.specs.AtWork.{taken_by}
use Rattle.am_workers.specs.WorkerTurns.{place_on}
use Rattle.am_workers.proofs.Linking.{ins_itself, ins_then, taken_nothing}
use Rattle.am_workers.proofs.Looking.{all_passed, none_more, none_taken, on_more, on_none, one_taken, rest_more}
use Rattle.am_workers.proofs.ways.take_next.Goals as goal

pub returns-then-is_some-clause-same : goal.returns-then-is_some-clause-same
returns-then-is_some-clause-same c = ins_then c.args.ins.now.items c.loop-step.ins.items c.take_at-taken.new.ins.items c.loop-step.invariant.same
    c.take_at-taken.ensures.same

pub loop-step-preserved : goal.loop-step-preserved
loop-step-preserved c =
    let t = c.take_at-taken in let i = c.loop-step.invariant in let a = c.args.ins.now.items in let b = c.loop-step.ins.items in let n = c.loop-step.step in
    let from = c.args.from.now in let whole = i.all in let same = i.same.all in let test = c.loop-step-test.true in let few : n < length a = omega (arith, test, whole, same) in
    let counted : c.len-count.result ≡ length a = omega (arith, whole, same) in let none = sym c.is_some.ensures ∙ c.if-is_some.false in
    record {
      within = c.place_after.ensures.within (let low = i.within in omega (arith, low));
      all = i.all ∙ sym t.ensures.same.all;
      same = ins_then a b t.new.ins.items i.same t.ensures.same;
      here = c.place_after.ensures.value ∙ ap (λ (k : ℕ). place_after k c.len-count.result) i.here
          ∙ ap (λ (m : ℕ). place_after (place_on from (length a) n) m) counted ∙ on_more from (length a) n c.requires.from few;
      none = none_more a b from n c.requires.from few i.none i.rest
          (λ x at. none_taken t.result ((y : LinkIn) → slice_get b c.loop-step.from ≡ Some y → known y ≡ []) none t.ensures.none x
          (ap (λ (k : ℕ). slice_get b k) i.here ∙ at));
      rest = rest_more a b t.new.ins.items from n c.requires.from i.rest (λ k apart. t.ensures.others k (λ e. apart (e ∙ i.here)));
      taken = λ node. taken_nothing b t.new.ins.items t.result none t.ensures.taken node
          ∙ i.taken node;
    }

pub loop-step-init : goal.loop-step-init
loop-step-init c =
    let a = c.args.ins.now.items in let from = c.args.from.now in let low = c.requires.from in
    let counted : c.len-count.result ≡ length a = search rules in
    record {
      within = omega (arith, low, counted);
      all = counted;
      same = ins_itself a;
      here = sym (on_none from (length a) low);
      none = λ n i before at. absurd (omega (arith, before));
      rest = λ m late few. refl;
      taken = λ node. refl;
    }

pub returns-clause-from : goal.returns-clause-from
returns-clause-from c = let low = c.loop-step.invariant.within in let all = c.loop-step.invariant.all in omega (arith, low, all)

pub returns-clause-same : goal.returns-clause-same
returns-clause-same c = c.loop-step.invariant.same

pub returns-clause-taken : goal.returns-clause-taken
returns-clause-taken c node = c.loop-step.invariant.taken node ∙ sym (append-nil (taken_by c.args.ins.now.items node))

pub returns-clause-first : goal.returns-clause-first
returns-clause-first c =
    let i = c.loop-step.invariant in let a = c.args.ins.now.items in let whole = i.all in let same = i.same.all in
    let past = c.loop-step-test.false in let end = c.loop-step.auto.step-end in
    all_passed a c.args.from.now c.loop-step.from c.loop-step.step c.requires.from (omega (arith, whole, same, past, end)) i.here i.none

pub returns-then-is_some-clause-from : goal.returns-then-is_some-clause-from
returns-then-is_some-clause-from c =
    let low = c.loop-step.invariant.within in let whole = c.loop-step.invariant.all in let same = c.take_at-taken.ensures.same.all in
    let next = c.place_after.ensures.within (omega (arith, low)) in omega (arith, next, whole, same)

pub returns-then-is_some-clause-taken : goal.returns-then-is_some-clause-taken
returns-then-is_some-clause-taken c node =
    let t = c.take_at-taken in
    t.ensures.taken node ∙ ap (λ (got : List Packet). got ++ held_from node t.result) (c.loop-step.invariant.taken node)

pub returns-then-is_some-clause-first : goal.returns-then-is_some-clause-first
returns-then-is_some-clause-first c =
    let t = c.take_at-taken in let i = c.loop-step.invariant in let a = c.args.ins.now.items in let n = c.loop-step.step in
    let from = c.args.from.now in let whole = i.all in let same = i.same.all in let test = c.loop-step-test.true in
    let few : n < length a = omega (arith, test, whole, same) in let counted : c.len-count.result ≡ length a = omega (arith, whole, same) in
    one_taken t.result a from c.place_after.result n (sym c.is_some.ensures ∙ c.if-is_some.true) few
    (subst (λ (k : ℕ). IfSome t.result (λ held. held.0 ≡ node_at k)) i.here t.ensures.node)
    (c.place_after.ensures.value ∙ ap (λ (k : ℕ). place_after k c.len-count.result) i.here
    ∙ ap (λ (m : ℕ). place_after (place_on from (length a) n) m) counted ∙ on_more from (length a) n c.requires.from few)
    i.none

pub take_at-taken-requires-clause-at : goal.take_at-taken-requires-clause-at
take_at-taken-requires-clause-at c = let low = c.loop-step.invariant.within in let all = c.loop-step.invariant.all in omega (arith, low, all)

pub take_at-taken-requires-clause-few : goal.take_at-taken-requires-clause-few
take_at-taken-requires-clause-few c = let same = c.loop-step.invariant.same.all in let few = c.requires.few in omega (arith, same, few)
