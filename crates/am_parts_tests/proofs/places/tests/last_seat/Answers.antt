use Rattle.std.proofs.Common.{ap, ◌∙◌, sym, [], ◌∷◌, ◌++◌, length, length-append}
use Rattle.std.specs.Option.{option_to_list}
use lib.ListN.{get_elem?}
use Rattle.atomic_table.proofs.Lists.{at_longer}
use Rattle.am_parts_tests.proofs.Gathering.{at_last}
use Rattle.am_parts_tests.proofs.places.tests.last_seat.Goals as goal

pub returns-clause-list : goal.returns-clause-list
returns-clause-list c k s at = c.requires k s (ap (λ z. get_elem? z k) c.pop.ensures.items
    ∙ at_longer c.pop.new.self.items (option_to_list c.pop.result) k s at)

pub returns-clause-seat : goal.returns-clause-seat
returns-clause-seat c = let s = c.in_ok-seat.seat in let new = c.pop.new.self.items in
    let all = c.pop.ensures.items ∙ ap (λ z. new ++ option_to_list z) c.in_ok-seat.was in
    let t = c.requires (length new) s (ap (λ z. get_elem? z (length new)) all ∙ at_last new s) in
    (t.0, t.1 ∙ sym (ap length all ∙ length-append new (s ∷ [])), t.2, t.3)
