use Rattle.std.proofs.Common.{Err, ap, subst}
use Rattle.am_iface.specs.Turns.{IsFull}
use Rattle.am_iface.specs.View.{own}
use Rattle.am_model.specs.declared.EntryFault.{EntryFault}
use Rattle.am_model.specs.Endpoint.{State}
use Rattle.am_model_parts.specs.Interface.{failing_at}
use Rattle.am_workers.proofs.TurnBooks.{TellsDisabled, TellsFull}
use Rattle.am_workers.proofs.WorkTurns.{alone_found, alone_full, alone_not_disabled, alone_starved}
use Rattle.am_workers.proofs.turns.services.work_alone.Goals as goal

pub returns-in-Ok : goal.returns-in-Ok
returns-in-Ok c =
    alone_found c.args.interface.now c.turn_alone.new.self c.args.work.now c.in-Ok.turned c.requires.alone c.in-Ok.ensures.disabled c.in-Ok.ensures.event
    c.in-Ok.ensures.outcome c.in-Ok.ensures.stamp c.in-Ok.ensures.out c.in-Ok.ensures.logged c.requires.tries c.requires.last c.requires.packet c.requires.passed

pub returns-in-Err-NotEnabled : goal.returns-in-Err-NotEnabled
returns-in-Err-NotEnabled c =
    let i = c.args.interface.now in let w = c.args.work.now in let f = c.in-Err-NotEnabled in
    absurd (alone_not_disabled i w f.field-0-0 c.requires.alone c.requires.passed
    (λ (s : State). subst (λ (x : EntryFault). TellsDisabled (Err x) (failing_at (own i) s w)) f.field-0-is (f.ensures.disabled s)))

pub returns-in-Err-LogFull : goal.returns-in-Err-LogFull
returns-in-Err-LogFull c =
    let i = c.args.interface.now in let w = c.args.work.now in let f = c.in-Err-LogFull in
    alone_full i c.turn_alone.new.self w f.field-0-0 f.ensures.err c.requires.passed
    (λ (s : State). subst (λ (x : EntryFault). TellsFull (Err x) (failing_at (own i) s w) (IsFull i)) f.field-0-is (f.ensures.full s))

pub returns-in-Err-NoMemory : goal.returns-in-Err-NoMemory
returns-in-Err-NoMemory c =
    let i = c.args.interface.now in let w = c.args.work.now in let f = c.in-Err-NoMemory in
    alone_starved i c.turn_alone.new.self w f.ensures.err c.requires.passed (λ (s : State). f.ensures.starved s (ap (λ (x : EntryFault). Err x) f.field-0-is))
