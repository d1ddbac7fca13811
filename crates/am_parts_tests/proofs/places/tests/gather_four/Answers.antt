use Rattle.std.proofs.Common.{ap, ◌∙◌, [], ◌∷◌, ℕ}
use Rattle.am_places.specs.Rule.{gathered}
use Rattle.am_parts_tests.proofs.Gathering.{all_gathered}
use Rattle.am_parts_tests.proofs.places.tests.gather_four.Goals as goal

pub returns-clause-gathered : goal.returns-clause-gathered
returns-clause-gathered c = let r = c.requires in let one : ℕ = 1 in let a = c.args.third.token.me.0 in let b = c.args.second.token.me.0 in
    let d = c.args.first.token.me.0 in let e = c.args.zeroth.token.me.0 in
    let u = ap (λ m. m.0) c.gather.ensures.gathered in let v = ap (λ m. m.0) c.gather-2.ensures.gathered
    ∙ ap (λ q. gathered q b) u in let w = ap (λ m. m.0) c.gather-3.ensures.gathered
    ∙ ap (λ q. gathered q d) v in
    all_gathered c.args.driver.now.token.me.0 a b d e _ (r.driver.0.keeps ∙ ap (λ (m : ℕ). m ∷ []) r.driver.1) (r.third.0.keeps
    ∙ ap (λ (m : ℕ). m ∷ []) r.third.1) (r.second.0.keeps ∙ ap (λ (m : ℕ). m ∷ []) r.second.1)
    (r.first.0.keeps ∙ ap (λ (m : ℕ). m ∷ []) r.first.1) (r.zeroth.0.keeps
    ∙ ap (λ (m : ℕ). m ∷ []) r.zeroth.1) r.driver.2 (ap (λ m. m.0) c.gather-4.ensures.gathered ∙ ap (λ q. gathered q e) w)
