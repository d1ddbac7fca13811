-- Spans are joined, and spread out they are the values.
use Rattle.std.proofs.Common.{◌≡◌, ℕ, ◌+◌, ◌-◌, ◌≤◌, Bool, true, false, List, [], ◌∷◌, ◌++◌, length, refl, sym, ap, ◌∙◌, arith, append_assoc}
use Rattle.std.proofs.Math.ListN.{replicate}
use Rattle.std.proofs.lemmas.List.{append-nil, replicate-append-replicate}
use Rattle.std.proofs.lemmas.Grind.{flat_map-append}
use Rattle.am_lab_picture.specs.declared.data.Span.{Span}
use Rattle.am_lab_picture.specs.Spans.{Tracked, SpansAreValues, AreJoined, begun, ended_at, followed, followed_by, span, spread, values_of}

module _ {X : Type 0} where
  -- ---- spread out

  -- spans with one more at the end
  spread_push : (xs : List (Span X)) (s : Span X) → spread (xs ++ s ∷ []) ≡ spread xs ++ values_of s
  spread_push xs s = flat_map-append values_of xs (s ∷ []) ∙ ap (λ (l : List X). spread xs ++ l) (append-nil (values_of s))

  replicate_by : (a b : ℕ) (x : X) → a ≡ b → replicate a x ≡ replicate b x
  replicate_by a b x e = ap (λ (n : ℕ). replicate n x) e

  replicate_more : (n m : ℕ) (x : X) → n ≡ m + 1 → replicate n x ≡ replicate m x ++ x ∷ []
  replicate_more n m x e = replicate_by n (m + 1) x e ∙ sym (replicate-append-replicate m 1 x)

  -- what stands stays for one line more
  longer : (t : Tracked X) (line : ℕ) (x : X) → t.from ≤ line → t.value ≡ x → spread (ended_at t (line + 1)) ≡ spread (ended_at t line) ++ x ∷ []
  longer t line x low is =
      let more : replicate (line + 1 - t.from) t.value ≡ replicate (line - t.from) t.value ++ t.value ∷ [] =
      replicate_more (line + 1 - t.from) (line - t.from) t.value (omega (arith, low)) in
      spread_push t.ended (span t.value t.from (line + 1))
      ∙ ap (λ (l : List X). spread t.ended ++ l) (more ∙ ap (λ (y : X). replicate (line - t.from) t.value ++ y ∷ []) is)
      ∙ sym (append_assoc (spread t.ended) (replicate (line - t.from) t.value) (x ∷ []))
      ∙ ap (λ (l : List X). l ++ x ∷ []) (sym (spread_push t.ended (span t.value t.from line)))

  -- something else stands for one line
  other : (t : Tracked X) (line : ℕ) (x : X) → spread (ended_at (followed_by false t x line) (line + 1)) ≡ spread (ended_at t line) ++ x ∷ []
  other t line x =
      spread_push (t.ended ++ span t.value t.from line ∷ []) (span x line (line + 1))
      ∙ ap (λ (l : List X). spread (ended_at t line) ++ l) (replicate_by (line + 1 - line) 1 x (omega arith))

  module _ (same : X → X → Bool) (decides : (x y : X) → same x y ≡ true → x ≡ y) where
    step_by : (b : Bool) (t : Tracked X) (line : ℕ) (x : X) → t.from ≤ line → (b ≡ true → t.value ≡ x) →
        spread (ended_at (followed_by b t x line) (line + 1)) ≡ spread (ended_at t line) ++ x ∷ []
    step_by true t line x low is = longer t line x low (is refl)
    step_by false t line x low is = other t line x

    low_by : (b : Bool) (t : Tracked X) (line : ℕ) (x : X) → t.from ≤ line → (followed_by b t x line).from ≤ line + 1
    low_by true t line x low = omega (arith, low)
    low_by false t line x low = omega arith

    spread_followed : (t : Tracked X) (line until : ℕ) (xs : List X) → t.from ≤ line → until ≡ line + length xs →
        spread (ended_at (followed same t line xs) until) ≡ spread (ended_at t line) ++ xs
    spread_followed t line until [] low e =
        let here : until ≡ line = omega (arith, e) in
        ap (λ (n : ℕ). spread (ended_at t n)) here ∙ sym (append-nil (spread (ended_at t line)))
    spread_followed t line until (x ∷ xs) low e =
        let b = same t.value x in
        spread_followed (followed_by b t x line) (line + 1) until xs (low_by b t line x low) (omega (arith, e))
        ∙ ap (λ (l : List X). l ++ xs) (step_by b t line x low (decides t.value x))
        ∙ append_assoc (spread (ended_at t line)) (x ∷ []) xs

  -- ---- joined

  joined_push : (line from until : ℕ) (xs : List (Span X)) (x : X) → AreJoined line xs from → AreJoined line (xs ++ span x from until ∷ []) until
  joined_push line from until [] x e = (sym e, refl)
  joined_push line from until (s ∷ xs) x e = (e.0, joined_push s.until from until xs x e.1)

  joined_by : (b : Bool) (first : ℕ) (t : Tracked X) (line : ℕ) (x : X) → AreJoined first t.ended t.from →
      AreJoined first (followed_by b t x line).ended (followed_by b t x line).from
  joined_by true first t line x e = e
  joined_by false first t line x e = joined_push first t.from line t.ended t.value e

  joined_followed : (same : X → X → Bool) (first : ℕ) (t : Tracked X) (line : ℕ) (xs : List X) → AreJoined first t.ended t.from →
      AreJoined first (followed same t line xs).ended (followed same t line xs).from
  joined_followed same first t line [] e = e
  joined_followed same first t line (x ∷ xs) e =
      joined_followed same first (followed_by (same t.value x) t x line) (line + 1) xs (joined_by (same t.value x) first t line x e)

  -- ---- both

  pub spans_are_values : SpansAreValues X
  spans_are_values same decides line x xs =
      let t = followed same (begun x line) (line + 1) xs in
      let first : spread (ended_at (begun x line) (line + 1)) ≡ x ∷ [] = append-nil (replicate (line + 1 - line) x)
      ∙ replicate_by (line + 1 - line) 1 x (omega arith) in (
        spread_followed same decides (begun x line) (line + 1) (line + 1 + length xs) xs (omega arith) refl ∙ ap (λ (l : List X). l ++ xs) first,
        joined_push line t.from (line + 1 + length xs) t.ended t.value (joined_followed same line (begun x line) (line + 1) xs refl),
      )
