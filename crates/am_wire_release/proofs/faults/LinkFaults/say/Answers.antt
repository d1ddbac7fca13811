use Rattle.std.proofs.Common.{◌==◌, ◌∙◌, ℕ, List, ap, cond, Some, Bool}
use Rattle.am_lemmas.proofs.Numbers.{nat_cmp-is_eq}
use Rattle.am_wire_release.specs.Faults.{said}
use Rattle.am_wire_release.proofs.faults.LinkFaults.say.Goals.{in-Ok, in-Err}
use Rattle.am_wire_release.proofs.faults.LinkFaults.say.Goals as goal

pub returns-clause-ok : goal.returns-clause-ok
returns-clause-ok c = elim c.match-insert.branch [
  | in-Ok w ↦ rw w.result-is (λ (other : ℕ). w.in-Ok.ensures.updates.0 other
      ∙ ap (λ (b : Bool). cond b (Some c.args.fault) (said c.self.inside.places.entries other)) (nat_cmp-is_eq c.args.place other)
      ∙ ap (λ (es : List _). cond (other == c.args.place) (Some c.args.fault) (said es other)) c.self.view_is)
  | in-Err w ↦ rw w.result-is tt
]
