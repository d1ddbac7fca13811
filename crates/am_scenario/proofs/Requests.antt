-- A request, its four words read together.
use Rattle.std.proofs.Common.{◌≡◌, ℕ, List, Option, Result, Ok, Err, refl, sym, ◌∙◌}
use Rattle.am_lexer.specs.declared.what.What.{What}
use Rattle.am_lexer.specs.Fields.{◌>>=◌, number_at, within}
use Rattle.am_names.specs.declared.NodeId.{NodeId}
use Rattle.am_names.specs.declared.Words.{Words}
use Rattle.am_office_entries.specs.declared.Call.TheVariants.{Request}
use Rattle.am_scenario.specs.Drafts.Said.{Said}
use Rattle.am_scenario.specs.Lines.Places.{end_at}
use Rattle.am_scenario.specs.Lines.Calls.{four_at, request_at}

regrouped : {A B C : Type 0} (r : Result A What) (f : A → Result B What) (g : B → Result C What) → ((r >>= f) >>= g) ≡ (r >>= λ x. f x >>= g)
regrouped (Err what) f g = refl
regrouped (Ok x) f g = refl

same_behind : {A B : Type 0} (r : Result A What) (f g : A → Result B What) → ((x : A) → f x ≡ g x) → (r >>= f) ≡ (r >>= g)
same_behind (Err what) f g same = refl
same_behind (Ok x) f g same = same x

one_by_one : {C : Type 0} (words : List (List ℕ)) (g : (Words × List (List ℕ)) → Result C What) → (four_at words >>= g) ≡
    (number_at words >>= λ a. number_at a.1 >>= λ b. number_at b.1 >>= λ c. number_at c.1 >>= λ d.
    g (record { a = a.0; b = b.0; c = c.0; d = d.0 }, d.1))
unfolding four_at
one_by_one words g =
    regrouped (number_at words) _ g ∙ same_behind (number_at words) _ _ (λ a.
    regrouped (number_at a.1) _ g ∙ same_behind (number_at a.1) _ _ (λ b.
    regrouped (number_at b.1) _ g ∙ same_behind (number_at b.1) _ _ (λ c.
    regrouped (number_at c.1) _ g)))

pub by_four : (said : Said) (wanted : Option NodeId) (words : List (List ℕ)) → request_at said wanted words ≡
    (end_at said wanted words >>= λ end. within 0 255 end.1 >>= λ index. within 0 255 index.1 >>= λ handler. four_at handler.1 >>= λ four.
    Ok ((end.0, Request index.0 handler.0 four.0), four.1))
unfolding request_at
by_four said wanted words =
    same_behind (end_at said wanted words) _ _ (λ end. same_behind (within 0 255 end.1) _ _ (λ index. same_behind (within 0 255 index.1) _ _ (λ handler.
    sym (one_by_one handler.1 (λ four. Ok ((end.0, Request index.0 handler.0 four.0), four.1))))))
