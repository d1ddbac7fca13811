-- Bytes: lists of numbers below 256, and the eight of them that a word has.
use Rattle.std.proofs.Common.{◌≡◌, ℕ, zero, suc, lit<, ◌+◌, ◌<◌, ◌≤◌, List, [], ◌∷◌, ◌++◌, refl, sym, ap, ◌∙◌, length, take, drop, get_or, replicate, arith}
use Rattle.std.specs.Int.{w64, to_be_bytes, from_be_bytes}
use Rattle.std.proofs.lemmas.Nat.{be_bytes_8}
use Rattle.std.proofs.lemmas.List.{get_or-drop, length-take, length-drop, take-append-drop, append_assoc, drop-drop, take_all}
use Rattle.am_lemmas.specs.Bytes.{AreBytes}

-- ---- bytes of a part

pub bytes-take : (n : ℕ) (bytes : List ℕ) → AreBytes bytes → AreBytes (take n bytes)
bytes-take zero bytes small i = lit< tt
bytes-take (suc n) [] small i = lit< tt
bytes-take (suc n) (b ∷ bytes) small zero = small zero
bytes-take (suc n) (b ∷ bytes) small (suc i) = bytes-take n bytes (λ (j : ℕ). small (suc j)) i

pub bytes-drop : (n : ℕ) (bytes : List ℕ) → AreBytes bytes → AreBytes (drop n bytes)
bytes-drop n bytes small i = rw (get_or-drop n bytes i 0) (small (n + i))

pub bytes-padded : (bytes : List ℕ) (n : ℕ) → AreBytes bytes → AreBytes (bytes ++ replicate n 0)
bytes-padded [] zero small i = lit< tt
bytes-padded [] (suc n) small zero = lit< tt
bytes-padded [] (suc n) small (suc i) = bytes-padded [] n small i
bytes-padded (b ∷ bytes) n small zero = small zero
bytes-padded (b ∷ bytes) n small (suc i) = bytes-padded bytes n (λ (j : ℕ). small (suc j)) i

-- ---- words of eight bytes

-- a word is what the first eight bytes make
front : (bytes : List ℕ) → from_be_bytes w64 bytes ≡ from_be_bytes w64 (take 8 bytes)
front [] = refl
front (a ∷ []) = refl
front (a ∷ b ∷ []) = refl
front (a ∷ b ∷ c ∷ []) = refl
front (a ∷ b ∷ c ∷ d ∷ []) = refl
front (a ∷ b ∷ c ∷ d ∷ e ∷ []) = refl
front (a ∷ b ∷ c ∷ d ∷ e ∷ f ∷ []) = refl
front (a ∷ b ∷ c ∷ d ∷ e ∷ f ∷ g ∷ []) = refl
front (a ∷ b ∷ c ∷ d ∷ e ∷ f ∷ g ∷ h ∷ rest) = refl

-- eight bytes as a word, and back
word_back : (bytes : List ℕ) → 8 ≤ length bytes → AreBytes bytes → to_be_bytes w64 (from_be_bytes w64 bytes) ≡ take 8 bytes
word_back bytes enough small = be_bytes_8 (take 8 bytes) (from_be_bytes w64 bytes) (rw (length-take 8 bytes) (omega arith)) (bytes-take 8 bytes small)
    (front bytes)

thirds : (bytes : List ℕ) → length bytes ≡ 24 → (take 8 bytes ++ take 8 (drop 8 bytes)) ++ take 8 (drop 16 bytes) ≡ bytes
thirds bytes size =
    let last : take 8 (drop 16 bytes) ≡ drop 8 (drop 8 bytes) = take_all 8 (drop 16 bytes) (rw (length-drop 16 bytes) (omega arith))
    ∙ sym (drop-drop 8 8 bytes) in
    append_assoc (take 8 bytes) (take 8 (drop 8 bytes)) (take 8 (drop 16 bytes))
    ∙ ap (λ (rest : List ℕ). take 8 bytes ++ rest) (ap (λ (rest : List ℕ). take 8 (drop 8 bytes) ++ rest) last ∙ take-append-drop 8 (drop 8 bytes))
    ∙ take-append-drop 8 bytes

joined : (a a' b b' c c' : List ℕ) → a ≡ a' → b ≡ b' → c ≡ c' → (a ++ b) ++ c ≡ (a' ++ b') ++ c'
joined a a' b b' c c' p q r = cc

-- 24 bytes as three words, and back
pub three_words_back : (bytes : List ℕ) → length bytes ≡ 24 → AreBytes bytes →
    (to_be_bytes w64 (from_be_bytes w64 (drop 0 bytes)) ++ to_be_bytes w64 (from_be_bytes w64 (drop 8 bytes))) ++ to_be_bytes w64
    (from_be_bytes w64 (drop 16 bytes)) ≡ bytes
three_words_back bytes size small =
    joined _ _ _ _ _ _
    (word_back bytes (omega arith) small)
    (word_back (drop 8 bytes) (rw (length-drop 8 bytes) (omega arith)) (bytes-drop 8 bytes small))
    (word_back (drop 16 bytes) (rw (length-drop 16 bytes) (omega arith)) (bytes-drop 16 bytes small))
    ∙ thirds bytes size
