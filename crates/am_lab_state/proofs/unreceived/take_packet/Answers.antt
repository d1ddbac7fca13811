use Rattle.std.proofs.Common.{◌==◌, ℕ, sym, ap, ◌∙◌}
use Rattle.std.specs.List.{position}
use Rattle.am_lab_state.proofs.Taking.{none_to_take}
use Rattle.am_lab_state.proofs.unreceived.take_packet.Goals as goal

pub returns-in-None : goal.returns-in-None
returns-in-None c =
    let none = ap (position (λ (other : ℕ). c.args.number == other)) (sym c.as_slice.ensures.value) ∙ sym c.place_of.ensures ∙ c.in-None.is in
    none_to_take (λ (other : ℕ). c.args.number == other) c.args.left.now.items none
