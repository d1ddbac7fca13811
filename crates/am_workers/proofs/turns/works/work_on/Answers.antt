use Rattle.std.proofs.Common.{◌≡◌, ◌<◌, ◌^◌, ◌∙◌, ◌++◌, ◌∷◌, [], Err, Some, ap, append-nil, false, true, refl, subst, sym}
use Rattle.am_iface.specs.With.{KnowsHome}
use Rattle.am_workers_laws.specs.Books.Books.{IsBook}
use Rattle.am_endpoint.specs.View.{EndpointView, state_after}
use Rattle.am_iface.specs.View.{own}
use Rattle.am_iface.specs.With.{IsFullOf}
use Rattle.am_model.specs.declared.EntryFault.{EntryFault}
use Rattle.am_model_parts.specs.Granted.{FitsEndpoint}
use Rattle.am_model_parts.specs.Interface.{failing_at, home_in, needs}
use Rattle.am_model.specs.Parts.{last_stamp}
use Rattle.am_model.specs.Endpoint.{is_direct}
use Rattle.am_workers.specs.Turns.Tests.{passes}
use Rattle.am_workers.specs.Turns.Turns.{InterfaceFound, MayBounce, SettlesHere}
use Rattle.am_workers.specs.declared.turns.turns.InterfaceTurn.TheVariants as Worked
use Rattle.am_workers.proofs.TurnBooks.{TellsDisabled, TellsFull, worked_book}
use Rattle.am_workers.proofs.Resting.{turn_keeps}
use Rattle.am_workers.proofs.WorkTurns.{can_false, full_found, starved_found, worked_found}
use Rattle.am_workers.proofs.turns.works.work_on.Goals as goal

pub invariant_of-book : goal.invariant_of-book
invariant_of-book c =
    let e = c.deref_mut.result.now in let i = c.args.interface.now in let w = c.args.work.now in let same = sym c.deref_mut.ensures.value in
    record {
      kept = worked_book e c.turn_with.new.endpoint i w c.turn_with.result (failing_at (own i) (state_after e) w) (subst IsBook same c.args.book.now.kept)
          c.turn_with.ensures.settings_there c.turn_with.ensures.logged_there c.turn_with.ensures.err_there c.turn_with.ensures.disabled
          c.turn_with.ensures.full c.turn_with.ensures.stamp
          (turn_keeps i e w c.turn_with.result (subst (λ (d : EndpointView). needs (own i) w ≡ Some d.settings.id) same c.requires.needs)
          c.turn_with.ensures.disabled c.turn_with.ensures.event c.turn_with.ensures.outcome
          (subst (λ (d : EndpointView). FitsEndpoint (own i) (state_after d) w) same c.requires.flies)
          (subst (λ (d : EndpointView). is_direct (state_after d).head.place ≡ false) same c.requires.network)
          (subst (λ (d : EndpointView). SettlesHere (state_after d) w) same c.requires.here)
          (subst (λ (d : EndpointView). MayBounce i.settings.bounces (state_after d) w) same c.requires.bounces));
    }

pub returns-in-Ok-clause-found : goal.returns-in-Ok-clause-found
returns-in-Ok-clause-found c =
    let i = c.args.interface.now in let w = c.args.work.now in let same = sym c.deref_mut.ensures.value in
    subst (λ (d : EndpointView). InterfaceFound w i c.turn_with.new.self (Worked.Made c.in-Ok.turned) d.settings d.log) c.deref_mut.ensures.value
    (worked_found c.deref_mut.result.now i c.turn_with.new.self w c.in-Ok.turned (subst (λ (d : EndpointView). needs (own i) w ≡ Some d.settings.id) same
    c.requires.needs) c.in-Ok.ensures.disabled c.in-Ok.ensures.event c.in-Ok.ensures.outcome c.in-Ok.ensures.stamp c.in-Ok.ensures.out
    c.in-Ok.ensures.logged
    (subst (λ (d : EndpointView). MayBounce i.settings.bounces (state_after d) w) same c.requires.bounces) c.requires.last
    (subst (λ (d : EndpointView). last_stamp d.log < 2 ^ 63) same c.requires.last_there) c.requires.packet
    (subst (λ (d : EndpointView). passes w i d.settings d.log ≡ true) same c.requires.passed))

pub returns-in-Err-LogFull-clause-found : goal.returns-in-Err-LogFull-clause-found
returns-in-Err-LogFull-clause-found c =
    let e = c.deref_mut.result.now in let i = c.args.interface.now in let w = c.args.work.now in let same = sym c.deref_mut.ensures.value in
    subst (λ (d : EndpointView). InterfaceFound w i c.turn_with.new.self Worked.Full d.settings d.log) c.deref_mut.ensures.value
    (full_found e i c.turn_with.new.self c.in-Err-LogFull.field-0-0 (failing_at (own i) (state_after e) w)
    (subst (λ (f : EntryFault). TellsFull (Err f) (failing_at (own i) (state_after e) w) (IsFullOf i e)) c.in-Err-LogFull.field-0-is
    c.in-Err-LogFull.ensures.full) c.in-Err-LogFull.ensures.err (passes w i e.settings e.log)
    (subst (λ (d : EndpointView). passes w i d.settings d.log ≡ true) same c.requires.passed))

pub returns-in-Err-NoMemory-clause-found : goal.returns-in-Err-NoMemory-clause-found
returns-in-Err-NoMemory-clause-found c =
    let e = c.deref_mut.result.now in let i = c.args.interface.now in let w = c.args.work.now in let f = c.in-Err-NoMemory in
    let same = sym c.deref_mut.ensures.value in
    subst (λ (d : EndpointView). InterfaceFound w i c.turn_with.new.self Worked.NoMemory d.settings d.log) c.deref_mut.ensures.value
    (starved_found e i c.turn_with.new.self (failing_at (own i) (state_after e) w)
    (subst (λ (x : EntryFault). TellsDisabled (Err x) (failing_at (own i) (state_after e) w)) f.field-0-is f.ensures.disabled)
    (subst (λ (x : EntryFault). TellsFull (Err x) (failing_at (own i) (state_after e) w) (IsFullOf i e)) f.field-0-is f.ensures.full) f.ensures.err
    (passes w i e.settings e.log) (subst (λ (d : EndpointView). passes w i d.settings d.log ≡ true) same c.requires.passed))

pub returns-in-Err-NotEnabled-clause-found : goal.returns-in-Err-NotEnabled-clause-found
returns-in-Err-NotEnabled-clause-found c =
    let e = c.deref_mut.result.now in let i = c.args.interface.now in let w = c.args.work.now in let f = c.in-Err-NotEnabled in
    subst (λ (d : EndpointView). InterfaceFound w i c.turn_with.new.self Worked.NotYet d.settings d.log) c.deref_mut.ensures.value (
      f.ensures.err,
      can_false (passes w i e.settings e.log) (failing_at (own i) (state_after e) w) f.field-0-0
          ((subst (λ (x : EntryFault). TellsDisabled (Err x) (failing_at (own i) (state_after e) w)) f.field-0-is f.ensures.disabled f.field-0-0).0 refl),
    )

pub turn_with-requires-clause-needs : goal.turn_with-requires-clause-needs
turn_with-requires-clause-needs c =
    subst (λ (d : EndpointView). needs (own c.args.interface.now) c.args.work.now ≡ Some d.settings.id) (sym c.deref_mut.ensures.value) c.requires.needs

pub turn_with-requires-clause-home : goal.turn_with-requires-clause-home
turn_with-requires-clause-home c =
    subst (λ (d : EndpointView). home_in (own c.args.interface.now) d.settings.id ≡ Some d.settings.node) (sym c.deref_mut.ensures.value) c.requires.home

pub turn_with-requires-clause-network : goal.turn_with-requires-clause-network
turn_with-requires-clause-network c =
    subst (λ (d : EndpointView). is_direct (state_after d).head.place ≡ false) (sym c.deref_mut.ensures.value) c.requires.network

pub turn_with-requires-clause-bounces : goal.turn_with-requires-clause-bounces
turn_with-requires-clause-bounces c =
    subst (λ (d : EndpointView). d.settings.bounces ≡ c.args.interface.now.settings.bounces) (sym c.deref_mut.ensures.value) c.requires.limit

pub turn_with-requires-clause-known : goal.turn_with-requires-clause-known
turn_with-requires-clause-known c =
    subst (λ (d : EndpointView). KnowsHome (own c.args.interface.now) (state_after d) c.args.work.now) (sym c.deref_mut.ensures.value) c.requires.known

pub turn_with-requires-clause-flies : goal.turn_with-requires-clause-flies
turn_with-requires-clause-flies c =
    subst (λ (d : EndpointView). FitsEndpoint (own c.args.interface.now) (state_after d) c.args.work.now) (sym c.deref_mut.ensures.value) c.requires.flies

pub returns-in-Ok-clause-added : goal.returns-in-Ok-clause-added
returns-in-Ok-clause-added c =
    c.in-Ok.ensures.logged_there ∙ ap (λ (d : EndpointView). d.log ++ c.in-Ok.turned.entry ∷ []) c.deref_mut.ensures.value

pub returns-in-Err-LogFull-clause-added : goal.returns-in-Err-LogFull-clause-added
returns-in-Err-LogFull-clause-added c =
    c.in-Err-LogFull.ensures.err_there ∙ ap (λ (d : EndpointView). d.log) c.deref_mut.ensures.value ∙ sym (append-nil c.args.book.now.end.value.log)

pub returns-in-Err-NoMemory-clause-added : goal.returns-in-Err-NoMemory-clause-added
returns-in-Err-NoMemory-clause-added c =
    c.in-Err-NoMemory.ensures.err_there ∙ ap (λ (d : EndpointView). d.log) c.deref_mut.ensures.value ∙ sym (append-nil c.args.book.now.end.value.log)

pub returns-in-Err-NotEnabled-clause-added : goal.returns-in-Err-NotEnabled-clause-added
returns-in-Err-NotEnabled-clause-added c =
    c.in-Err-NotEnabled.ensures.err_there ∙ ap (λ (d : EndpointView). d.log) c.deref_mut.ensures.value ∙ sym (append-nil c.args.book.now.end.value.log)
