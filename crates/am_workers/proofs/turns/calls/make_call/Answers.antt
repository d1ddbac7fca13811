use Rattle.std.proofs.Common.{◌≡◌, ◌≢◌, ◌<◌, ◌^◌, Err, false, length, max, ap, ◌∙◌, subst, sym}
use Rattle.am_workers_laws.specs.Books.Books.{IsBook}
use Rattle.am_endpoint.specs.declared.settings.EndFault.{EndFault}
use Rattle.am_endpoint.specs.View.{EndpointView, state_after}
use Rattle.am_model.specs.Parts.{last_stamp}
use Rattle.am_model.specs.Endpoint.{is_on_disk}
use Rattle.am_workers.specs.Turns.Turns.{IsCall}
use Rattle.am_workers.proofs.Answering.{due_here}
use Rattle.am_workers.proofs.TurnBooks.{call_keeps, called_book, not_full}
use Rattle.am_workers.proofs.turns.calls.make_call.Goals as goal

pub invariant_of-book : goal.invariant_of-book
invariant_of-book c =
    let e = c.deref_mut.result.now in let same = sym c.deref_mut.ensures.value in
    record {
      kept = called_book e c.call.new.self c.call.result c.args.clock (subst IsBook same c.args.book.now.kept) c.call.ensures.settings c.call.ensures.logged
          c.call.ensures.err c.call.ensures.full c.call.ensures.stamp
          (call_keeps (state_after e) c.call.result (subst (λ (d : EndpointView). is_on_disk (state_after d).head.place ≡ false) same c.requires.here));
    }

pub returns-in-Ok-clause-found : goal.returns-in-Ok-clause-found
returns-in-Ok-clause-found c =
    let same = sym c.deref_mut.ensures.value in
    subst (λ (d : EndpointView). IsCall c.args.thread c.args.call c.args.clock d.settings d.log c.in-Ok.entry) c.deref_mut.ensures.value
    (record {
      here = subst (λ (d : EndpointView). is_on_disk (state_after d).head.place ≡ false) same c.requires.here;
      event = c.in-Ok.ensures.event;
      outcome = c.in-Ok.ensures.outcome;
      stamped = c.in-Ok.ensures.stamp;
      low = subst (λ (d : EndpointView). max c.args.clock (last_stamp d.log) < 2 ^ 63) same c.requires.low;
    })

pub returns-in-Err-LogFull-clause-found : goal.returns-in-Err-LogFull-clause-found
returns-in-Err-LogFull-clause-found c =
    let v = c.args.book.now.end.value in let f = c.in-Err-LogFull in (
      due_here c.args.clock v.settings v.log c.requires.here c.requires.low,
      subst (λ (d : EndpointView). length d.log ≡ d.settings.log) c.deref_mut.ensures.value (c.call.ensures.full.0 (f.is
          ∙ ap (λ (x : EndFault). Err x) f.field-0-is)),
    )

pub returns-in-Err-NoMemory-clause-found : goal.returns-in-Err-NoMemory-clause-found
returns-in-Err-NoMemory-clause-found c =
    let v = c.args.book.now.end.value in let f = c.in-Err-NoMemory in let e = c.deref_mut.result.now in (
      due_here c.args.clock v.settings v.log c.requires.here c.requires.low,
      subst (λ (d : EndpointView). length d.log ≢ d.settings.log) c.deref_mut.ensures.value (not_full c.call.result (length e.log ≡ e.settings.log) (f.is
          ∙ ap (λ (x : EndFault). Err x) f.field-0-is) c.call.ensures.full),
    )
