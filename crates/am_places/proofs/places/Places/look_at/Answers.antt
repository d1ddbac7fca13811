use Rattle.std.proofs.Common.{arith, refl, sym, ap, ap₂, ◌∙◌, ◌≡◌, ℕ, ◌+◌, ◌*◌, ◌/◌, ◌<◌, ◌≤◌, subst, length}
use Rattle.am_places.specs.Codes.{place_code}
use Rattle.am_places.specs.Rule.{AllWithin, word_of, read, known_at, joined, holder_word, state_word}
use Rattle.am_places.proofs.Steps.{looks, counts}
use Rattle.am_places.proofs.Words.{word_parts}
use Rattle.am_places.proofs.places.Places.look_at.Goals as goal

pub load-holder-requires : goal.load-holder-requires
load-holder-requires g c = let m = c.args.seat.now.marked in (
  c.requires.seat,
  omega arith,
  looks g.B.Book.items g.B.Book.birth g.B.Book.stands g.B.Book.moves c.args.self.now.board.shared.key.1.value.items _ _ _ _ (omega arith) m.0,
)

pub load-state-requires : goal.load-state-requires
load-state-requires g c = let m = c.args.seat.now.marked in (
  c.load-holder.ensures.0
      ∙ c.requires.seat,
  omega arith,
  counts g.B.Book.items g.B.Book.birth g.B.Book.stands g.B.Book.moves c.args.self.now.board.shared.key.1.value.items _ _ _ _
      (omega arith) (ap (λ z. z.0.live) c.load-holder.ensures.2.1 ∙ m.0),
)

pub overflow_cast-result : goal.overflow_cast-result
overflow_cast-result g c = let t = c.load-state.ensures.2.0 c.args.at refl in
    let few : c.load-state.result / 65536 < 4294967296 =
    subst (λ (z : ℕ). z < 4294967296) (sym (word_parts c.load-state.result t.0 t.1 t.2 t.3).1) t.4 in omega arith

pub returns-clause-read : goal.returns-clause-read
returns-clause-read g c = let h = c.load-holder.ensures.2.1 in let s = c.load-state.ensures.2 in let t = s.0 c.args.at refl in
    let y : ℕ = c.load-state.result in let p : ℕ = t.0 in let n : ℕ = t.1 in let is : y ≡ 256 * p + 65536 * n = t.2 in
    let parts = word_parts y p n is t.3 in let p_is = parts.0 in let n_is = parts.1 in
    s.1 ∙ ap (λ z. (read (state_word c.args.at) y z.0, z.1)) h
    ∙ ap (λ (z : ℕ). (
      read (state_word c.args.at) z (read (holder_word c.args.at) c.load-holder.result c.args.seat.now.token.me.0),
      c.args.seat.now.token.me.1,
    )) (is ∙ sym (ap₂ word_of (c.place_of.ensures ∙ p_is) n_is))
    ∙ ap (λ (z : ℕ). (
      read (state_word c.args.at) (word_of (place_code c.place_of.result) (y / 65536))
          (read (holder_word c.args.at) z c.args.seat.now.token.me.0),
      c.args.seat.now.token.me.1,
    )) (sym c.holder_of.ensures)

pub returns-clause-count : goal.returns-clause-count
returns-clause-count g c = let h = c.load-holder.ensures.2.1 in let s = c.load-state.ensures.2 in let t = s.0 c.args.at refl in
    let n : ℕ = t.1 in let n_is = (word_parts c.load-state.result t.0 n t.2 t.3).1 in
    subst (λ (z : ℕ). length (joined (known_at c.args.at c.args.seat.now.token.me.0).seen) ≤ z) (sym n_is)
    (subst (λ z. length (joined (known_at c.args.at z.0).seen) ≤ n) h t.5)

pub returns-clause-gathered : goal.returns-clause-gathered
returns-clause-gathered g c = let h = c.load-holder.ensures.2.1 in let s = c.load-state.ensures.2 in let t = s.0 c.args.at refl in
    let n : ℕ = t.1 in let n_is = (word_parts c.load-state.result t.0 n t.2 t.3).1 in
    subst (λ (z : ℕ). AllWithin z (known_at c.args.at c.args.seat.now.token.me.0).others) (sym n_is)
    (subst (λ z. AllWithin n (known_at c.args.at z.0).others) h t.6)
