use Rattle.std.proofs.Common.{◌≡◌, ◌≢◌, Err, length, ap, ◌∙◌, subst, sym}
use Rattle.am_office_entries.specs.declared.Actor.TheVariants.{Thread}
use Rattle.am_workers_laws.specs.Books.Books.{IsBook}
use Rattle.am_endpoint.specs.declared.settings.EndFault.{EndFault}
use Rattle.am_endpoint.specs.View.{EndpointView, state_after}
use Rattle.am_workers.proofs.Answering.{due_away}
use Rattle.am_workers.proofs.TurnBooks.{called_book, not_full, want_keeps}
use Rattle.am_workers.proofs.turns.calls.make_want.Goals as goal

pub invariant_of-book : goal.invariant_of-book
invariant_of-book c =
    let e = c.deref_mut.result.now in
    record {
      kept = called_book e c.want.new.self c.want.result c.args.clock (subst IsBook (sym c.deref_mut.ensures.value) c.args.book.now.kept)
          c.want.ensures.settings c.want.ensures.logged c.want.ensures.err c.want.ensures.full c.want.ensures.stamp
          (want_keeps (state_after e) c.want.result (Thread c.args.thread) e.settings.id c.want.ensures.event);
    }

pub returns-in-Err-LogFull-clause-found : goal.returns-in-Err-LogFull-clause-found
returns-in-Err-LogFull-clause-found c =
    let v = c.args.book.now.end.value in let f = c.in-Err-LogFull in (
      due_away c.args.clock v.settings v.log c.requires.unwanted c.requires.low,
      subst (λ (d : EndpointView). length d.log ≡ d.settings.log) c.deref_mut.ensures.value (c.want.ensures.full.0 (f.is
          ∙ ap (λ (x : EndFault). Err x) f.field-0-is)),
    )

pub returns-in-Err-NoMemory-clause-found : goal.returns-in-Err-NoMemory-clause-found
returns-in-Err-NoMemory-clause-found c =
    let v = c.args.book.now.end.value in let f = c.in-Err-NoMemory in let e = c.deref_mut.result.now in (
      due_away c.args.clock v.settings v.log c.requires.unwanted c.requires.low,
      subst (λ (d : EndpointView). length d.log ≢ d.settings.log) c.deref_mut.ensures.value (not_full c.want.result (length e.log ≡ e.settings.log) (f.is
          ∙ ap (λ (x : EndFault). Err x) f.field-0-is) c.want.ensures.full),
    )
