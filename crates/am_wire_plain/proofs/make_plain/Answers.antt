use Rattle.std.proofs.Common.{◌≡◌, ℕ, ap, ◌∙◌}
use Rattle.std.specs.Prelude.{Option}
use Rattle.std.proofs.lemmas.Result.{IfOk-weaker}
use Rattle.am_scenario_plan.specs.declared.plan.LinkFault.{LinkFault}
use Rattle.am_wire_release.specs.Faults.{said}
use Rattle.am_wire_relay.specs.Relays.{faults_of}
use Rattle.am_wire_plain.specs.Plain.{IsFaultless}
use Rattle.am_wire_plain.proofs.make_plain.Goals as goal

pub returns-clause-faultless : goal.returns-clause-faultless
returns-clause-faultless g c =
    IfOk-weaker c.make_relay.result (λ ends. faults_of ends.0 ≡ said c.new.result) (λ ends. IsFaultless ends.0)
    (λ ends same place. ap (λ (faults : ℕ → Option LinkFault). faults place) same ∙ c.new.ensures place)
    c.make_relay.ensures.faults
