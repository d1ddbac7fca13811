use Rattle.am_wire.specs.Links.{SameLink}
use Rattle.am_parts_tests.proofs.links.tests.offer_all.Given as goal

abbrev pub invariant-loop-number : goal.invariant-loop-number
invariant-loop-number l = record { same : SameLink l.initial.out l.out }
