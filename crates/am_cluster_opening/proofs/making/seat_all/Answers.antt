use Rattle.std.proofs.Common.{◌≡◌, Option, List, [], ◌∷◌, ◌++◌, length, ap, ◌∙◌, arith}
use Rattle.std.proofs.lemmas.List.{length_push}
use Rattle.std.specs.Option.{option_to_list}
use Rattle.am_cluster_opening.specs.Node.Openings.{EndSeat}
use Rattle.am_cluster_opening.proofs.making.seat_all.Goals as goal

pub open_threads-requires : goal.open_threads-requires
open_threads-requires c =
    let first : c.args.seats.now.items ≡ c.pop.new.self.items ++ c.unwrap-driver.result ∷ [] = c.pop.ensures.items
    ∙ ap (λ (x : Option EndSeat). c.pop.new.self.items ++ option_to_list x) c.unwrap-driver.ensures in
    let second : c.pop.new.self.items ≡ c.pop-2.new.self.items ++ c.unwrap-interface.result ∷ [] = c.pop-2.ensures.items
    ∙ ap (λ (x : Option EndSeat). c.pop-2.new.self.items ++ option_to_list x) c.unwrap-interface.ensures in
    let all = c.requires in
    let a : length c.args.seats.now.items ≡ length (c.pop.new.self.items ++ c.unwrap-driver.result ∷ []) = ap length first in
    let b : length c.pop.new.self.items ≡ length (c.pop-2.new.self.items ++ c.unwrap-interface.result ∷ []) = ap length second in
    let d = length_push c.pop.new.self.items c.unwrap-driver.result in
    let e = length_push c.pop-2.new.self.items c.unwrap-interface.result in
    omega (arith, all, a, b, d, e)

pub returns : goal.returns
returns c =
    let first : c.args.seats.now.items ≡ c.pop.new.self.items ++ c.unwrap-driver.result ∷ [] = c.pop.ensures.items
    ∙ ap (λ (x : Option EndSeat). c.pop.new.self.items ++ option_to_list x) c.unwrap-driver.ensures in
    let second : c.pop.new.self.items ≡ c.pop-2.new.self.items ++ c.unwrap-interface.result ∷ [] = c.pop-2.ensures.items
    ∙ ap (λ (x : Option EndSeat). c.pop-2.new.self.items ++ option_to_list x) c.unwrap-interface.ensures in
    record {
      guests = c.pop-2.new.self.items;
      seats' = first ∙ ap (λ (l : List EndSeat). l ++ c.unwrap-driver.result ∷ []) second;
      threads' = c.in_ok-threads.ensures;
    }
