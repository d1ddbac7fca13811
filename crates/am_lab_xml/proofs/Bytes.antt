-- How a byte is written, and how it is read.
use Rattle.std.proofs.Common.{◌≡◌, ℕ, Bool, true, false, eqb, List, [], ◌∷◌, ◌++◌, codes, refl, ap, sym, ◌∙◌, subst, None}
use borrow.Author.Tests.{eqb-true}
use Rattle.am_lab_xml.specs.Escaped.{escaped_byte, meant, is_allowed, is_printable, is_text, escaped, read_from, unescaped}
use Rattle.am_lab_xml.specs.Grammar.{is_plain}
use Rattle.am_lab_xml.proofs.Bools.{first, second}

module _ (P : ℕ → List ℕ → Type 0) (amp : P 38 (codes "&amp;")) (less : P 60 (codes "&lt;")) (greater : P 62 (codes "&gt;")) (quote : P 34 (codes "&quot;"))
    (apostrophe : P 39 (codes "&apos;")) (feed : P 10 (codes "&#10;")) (plain : (b : ℕ) → is_plain b ≡ true → P b (b ∷ [])) (other : (b : ℕ) →
    is_allowed b ≡ false → P b (codes "?")) where
  at : (b c : ℕ) → eqb b c ≡ true → P c (escaped_byte c) → P b (escaped_byte b)
  at b c e h = subst (λ (x : ℕ). P x (escaped_byte x)) (sym (eqb-true b c e)) h

  by_tests : (b : ℕ) (t1 t2 t3 t4 t5 t6 t7 : Bool) → eqb b 38 ≡ t1 → eqb b 60 ≡ t2 → eqb b 62 ≡ t3 → eqb b 34 ≡ t4 → eqb b 39 ≡ t5 → eqb b 10 ≡ t6 →
      is_printable b ≡ t7 → P b (escaped_byte b)
  unfolding escaped_byte
  by_tests b true t2 t3 t4 t5 t6 t7 e1 e2 e3 e4 e5 e6 e7 = at b 38 e1 amp
  by_tests b false true t3 t4 t5 t6 t7 e1 e2 e3 e4 e5 e6 e7 = at b 60 e2 less
  by_tests b false false true t4 t5 t6 t7 e1 e2 e3 e4 e5 e6 e7 = at b 62 e3 greater
  by_tests b false false false true t5 t6 t7 e1 e2 e3 e4 e5 e6 e7 = at b 34 e4 quote
  by_tests b false false false false true t6 t7 e1 e2 e3 e4 e5 e6 e7 = at b 39 e5 apostrophe
  by_tests b false false false false false true t7 e1 e2 e3 e4 e5 e6 e7 = at b 10 e6 feed
  by_tests b false false false false false false true e1 e2 e3 e4 e5 e6 e7 = rw (e1, e2, e3, e4, e5, e6, e7) (plain b (rw (e7, e1, e2, e3, e4, e5) refl))
  by_tests b false false false false false false false e1 e2 e3 e4 e5 e6 e7 = rw (e1, e2, e3, e4, e5, e6, e7) (other b (rw (e6, e7) refl))

  -- what holds of the five bytes, of a line feed, of a plain byte and of any other, each as it is written, holds of every byte
  pub of_written : (b : ℕ) → P b (escaped_byte b)
  of_written b = by_tests b (eqb b 38) (eqb b 60) (eqb b 62) (eqb b 34) (eqb b 39) (eqb b 10) (is_printable b) refl refl refl refl refl refl refl

IsReadAs : ℕ → List ℕ → Type 0
IsReadAs b written = is_allowed b ≡ true → (rest : List ℕ) → read_from None (written ++ rest) ≡ b ∷ read_from None rest

plain_is_read : (b : ℕ) → is_plain b ≡ true → IsReadAs b (b ∷ [])
unfolding IsReadAs
plain_is_read b plain allowed rest = by_test (eqb b 38) refl
  where
    by_test : (answer : Bool) → eqb b 38 ≡ answer → read_from None ((b ∷ []) ++ rest) ≡ b ∷ read_from None rest
    by_test false e = rw e refl
    by_test true e = let same : b ≡ 38 = eqb-true b 38 e in let wrong : false ≡ true = subst (λ (x : ℕ). is_plain x ≡ true) same plain in cc

byte_is_read : (b : ℕ) → IsReadAs b (escaped_byte b)
unfolding IsReadAs meant
byte_is_read b = of_written IsReadAs (λ h rest. refl) (λ h rest. refl) (λ h rest. refl) (λ h rest. refl) (λ h rest. refl) (λ h rest. refl) plain_is_read
    (λ c no_byte h rest. let wrong : false ≡ true = sym no_byte ∙ h in cc) b

-- a text is read out of what is written for it
pub escape_is_read : (text : List ℕ) → is_text text ≡ true → unescaped (escaped text) ≡ text
unfolding IsReadAs
escape_is_read [] h = refl
escape_is_read (b ∷ text) h =
    byte_is_read b (first (is_allowed b) (is_text text) h) (escaped text)
    ∙ ap (λ (t : List ℕ). b ∷ t) (escape_is_read text (second (is_allowed b) (is_text text) h))
