use Rattle.std.specs.Prelude.{◌==◌}
use Rattle.std.proofs.Common.{◌≡◌, Bool, true, false, length, Some, None, sym, ap, ◌∙◌, if◌then◌else◌}
use Rattle.am_names.specs.declared.EndpointId.{EndpointId}
use Rattle.am_office_entries.specs.declared.Part.TheVariants as Parts
use Rattle.am_iface.specs.Refusals.{full_here}
use Rattle.am_iface.proofs.Refusing.{full_is}
use Rattle.am_iface.proofs.Interface.full_with.Goals as goal

pub returns-then-is_full : goal.returns-then-is_full
returns-then-is_full c =
    let v = c.args.self.now in
    let e = c.args.endpoint.now in
    let at : (length e.log == e.settings.log) ≡ true = sym (full_is c.is_full.result (length e.log) e.settings.log c.is_full.ensures.full) ∙ c.if-is_full.true in
    ap (λ (id : EndpointId). Some (Parts.Endpoint id)) c.id.ensures
    ∙ ap (λ (b : Bool). if b then Some (Parts.Endpoint e.settings.id) else full_here v) (sym at)

pub returns-else-is_full : goal.returns-else-is_full
returns-else-is_full c =
    let v = c.args.self.now in
    let e = c.args.endpoint.now in
    let at : (length e.log == e.settings.log) ≡ false = sym (full_is c.is_full.result (length e.log) e.settings.log c.is_full.ensures.full) ∙ c.if-is_full.false in
    c.full_here.ensures ∙ ap (λ (b : Bool). if b then Some (Parts.Endpoint e.settings.id) else full_here v) (sym at)
