use Rattle.std.specs.Prelude.{◌==◌}
use Rattle.std.proofs.Common.{◌≡◌, Bool, true, false, length, Some, None, sym, ap, ◌∙◌, if◌then◌else◌}
use Rattle.am_names.specs.declared.NodeId.{NodeId}
use Rattle.am_office_entries.specs.declared.Part.TheVariants as Parts
use Rattle.am_iface.proofs.Refusing.{full_is}
use Rattle.am_iface.proofs.Interface.full_here.Goals as goal

pub returns-then-is_full : goal.returns-then-is_full
returns-then-is_full c =
    let v = c.args.self.now in
    let at : (length v.log == v.settings.log) ≡ true = sym (full_is c.is_full.result (length v.log) v.settings.log c.is_full.ensures.full) ∙ c.if-is_full.true in
    ap (λ (n : NodeId). Some (Parts.Interface n)) c.node.ensures
    ∙ ap (λ (b : Bool). if b then Some (Parts.Interface v.settings.node) else None) (sym at)

pub returns-else-is_full : goal.returns-else-is_full
returns-else-is_full c =
    let v = c.args.self.now in
    let at : (length v.log == v.settings.log) ≡ false = sym (full_is c.is_full.result (length v.log) v.settings.log c.is_full.ensures.full) ∙ c.if-is_full.false in
    ap (λ (b : Bool). if b then Some (Parts.Interface v.settings.node) else None) (sym at)
