use Rattle.std.proofs.Common.{◌≡◌, ◌++◌, ◌∷◌, [], Bool, List, Some, inr, refl, sym, ap, ◌∙◌, subst}
use Rattle.std.proofs.lemmas.Result.{err_from_is_err_and}
use Rattle.am_office_entries.specs.declared.Event.TheVariants as Events
use Rattle.am_office_entries.specs.declared.Entry.{Entry}
use Rattle.am_endpoint_body.specs.declared.settings.EndSettings.{EndSettings}
use Rattle.am_model.specs.Tables.{page_ended}
use Rattle.am_swap_device.specs.Causes.{Device, IsAsTold, device_after, held_with}
use Rattle.am_swap_device.specs.declared.swap.SwapFault.TheVariants as faults
use Rattle.am_driver_moves.specs.Devices.{fault_by, is_failed}
use Rattle.am_driver_moves.proofs.Paged.{may_page_out}
use Rattle.am_driver_moves.proofs.pages.page_out.Goals as goal

pub page_out-requires-clause-allowed : goal.page_out-requires-clause-allowed
page_out-requires-clause-allowed g c =
    let x : Entry = record { stamp = c.args.stamp; event = Events.PageOut c.args.node c.args.end; outcome = c.page_ended.result } in
    may_page_out c.args.endpoint.now c.room.new.self c.args.node c.args.end c.in_ok-failed.failed x c.room.ensures.settings c.room.ensures.log c.requires.can
    refl c.page_ended.ensures.outcome

pub returns-clause-moves : goal.returns-clause-moves
returns-clause-moves g c =
    let d : Device = g.S.Swap.device c.args.swap.now in
    let x : Entry = record { stamp = c.args.stamp; event = Events.PageOut c.args.node c.args.end; outcome = c.page_ended.result } in
    let is : is_failed c.page_ended.result ≡ c.in_ok-failed.failed = c.page_ended.ensures.failed in
    let key : c.id.result ≡ c.args.endpoint.now.settings.id = c.id.ensures ∙ ap (λ (t : EndSettings). t.id) c.room.ensures.settings in
    let bytes = c.as_slice.ensures.value ∙ c.in_ok-image.ensures.image in
    record {
      entry = refl;
      answered = record {
        outcome = c.page_ended.ensures.outcome ∙ ap page_ended (sym is);
        told = λ paged. subst (λ (b : Bool). IsAsTold b d.fails d.calls) (sym is) c.in_ok-failed.ensures.called.0;
        device = c.in_ok-failed.ensures.called.1 ∙ λ i. device_after (sym is i) d (held_with d.held (key i) (bytes i));
        valid = c.in_ok-image.ensures.valid;
      };
      settings = c.page_out.ensures.settings ∙ c.room.ensures.settings;
      log = c.page_out.ensures.log ∙ ap (λ (xs : List Entry). xs ++ x ∷ []) c.room.ensures.log;
    }

pub returns-in_err-failed-clause-tells : goal.returns-in_err-failed-clause-tells
returns-in_err-failed-clause-tells g c =
    let key : c.id.result ≡ c.args.endpoint.now.settings.id = c.id.ensures ∙ ap (λ (t : EndSettings). t.id) c.room.ensures.settings in
    let bytes = c.as_slice.ensures.value ∙ c.in_ok-image.ensures.image in
    let p = err_from_is_err_and c.from_residual-in_err-failed.result c.from_residual-in_err-failed.ensures.1 in
    rw p.1
    (inr (coe 0 1 (i. g.S.Swap.tells c.args.swap.now c.write.new.swap (key i) (Some (bytes i)) (Some faults.NoMemory)) c.in_err-failed.ensures.tells))

pub returns-clause-tells : goal.returns-clause-tells
returns-clause-tells g c =
    let key : c.id.result ≡ c.args.endpoint.now.settings.id = c.id.ensures ∙ ap (λ (t : EndSettings). t.id) c.room.ensures.settings in
    let bytes = c.as_slice.ensures.value ∙ c.in_ok-image.ensures.image in
    coe 0 1 (i. g.S.Swap.tells c.args.swap.now c.write.new.swap (key i) (Some (bytes i)) (fault_by (sym c.page_ended.ensures.failed i)))
    c.in_ok-failed.ensures.tells
