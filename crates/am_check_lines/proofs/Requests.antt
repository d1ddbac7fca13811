-- A request, its four words read together.
use Rattle.std.proofs.Common.{◌≡◌, List, Option, Some, None, refl, sym, ◌∙◌}
use Rattle.am_lemmas.specs.Options.{◌>>=◌}
use Rattle.am_names.specs.declared.Words.{Words}
use Rattle.am_office_entries.specs.declared.Call.TheVariants as Calls
use Rattle.am_office_text.specs.Words.{Word}
use Rattle.am_check_lines.specs.Reading.{byte_at, long_at, end_at, four_at, request_at}

regrouped : {A B C : Type 0} (o : Option A) (f : A → Option B) (g : B → Option C) → ((o >>= f) >>= g) ≡ (o >>= λ x. f x >>= g)
regrouped None f g = refl
regrouped (Some x) f g = refl

same_behind : {A B : Type 0} (o : Option A) (f g : A → Option B) → ((x : A) → f x ≡ g x) → (o >>= f) ≡ (o >>= g)
same_behind None f g same = refl
same_behind (Some x) f g same = same x

one_by_one : {C : Type 0} (words : List Word) (g : (Words × List Word) → Option C) → (four_at words >>= g) ≡
    (long_at words >>= λ a. long_at a.1 >>= λ b. long_at b.1 >>= λ c. long_at c.1 >>= λ d. g (record { a = a.0; b = b.0; c = c.0; d = d.0 }, d.1))
unfolding four_at
one_by_one words g =
    regrouped (long_at words) _ g ∙ same_behind (long_at words) _ _ (λ a.
    regrouped (long_at a.1) _ g ∙ same_behind (long_at a.1) _ _ (λ b.
    regrouped (long_at b.1) _ g ∙ same_behind (long_at b.1) _ _ (λ c.
    regrouped (long_at c.1) _ g)))

pub by_four : (words : List Word) → request_at words ≡
    (end_at words >>= λ end. byte_at end.1 >>= λ index. byte_at index.1 >>= λ handler. four_at handler.1 >>= λ four.
    Some ((end.0, Calls.Request index.0 handler.0 four.0), four.1))
unfolding request_at
by_four words =
    same_behind (end_at words) _ _ (λ end. same_behind (byte_at end.1) _ _ (λ index. same_behind (byte_at index.1) _ _ (λ handler.
    sym (one_by_one handler.1 (λ four. Some ((end.0, Calls.Request index.0 handler.0 four.0), four.1))))))
