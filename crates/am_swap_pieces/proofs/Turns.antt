-- Parts that are written one after another stand there in turn.
use Rattle.std.proofs.Common.{◌≡◌, ℕ, List, [], ◌∷◌, ◌++◌, sym, ap, ◌∙◌, append_assoc}
use Rattle.std.proofs.lemmas.List.{append-nil}
use Rattle.am_swap_image.specs.Image.{in_turn}

-- a part, and the others behind it
pub then_parts : (before after last part : List ℕ) (parts : List (List ℕ)) → after ≡ before ++ part → last ≡ after ++ in_turn parts →
    last ≡ before ++ in_turn (part ∷ parts)
then_parts before after last part parts p q = q ∙ (ap (λ (w : List ℕ). w ++ in_turn parts) p ∙ append_assoc before part (in_turn parts))

pub no_parts : (last : List ℕ) → last ≡ last ++ in_turn []
no_parts last = sym (append-nil last)

pub four : (o o1 o2 o3 o4 a b c d : List ℕ) → o1 ≡ o ++ a → o2 ≡ o1 ++ b → o3 ≡ o2 ++ c → o4 ≡ o3 ++ d → o4 ≡ o ++ in_turn (a ∷ b ∷ c ∷ d ∷ [])
four o o1 o2 o3 o4 a b c d ea eb ec ed =
    then_parts o o1 o4 a (b ∷ c ∷ d ∷ []) ea
    (then_parts o1 o2 o4 b (c ∷ d ∷ []) eb (then_parts o2 o3 o4 c (d ∷ []) ec (then_parts o3 o4 o4 d [] ed (no_parts o4))))

pub nine : (o o1 o2 o3 o4 o5 o6 o7 o8 o9 a b c d e f g h i : List ℕ) → o1 ≡ o ++ a → o2 ≡ o1 ++ b → o3 ≡ o2 ++ c → o4 ≡ o3 ++ d → o5 ≡ o4 ++ e → o6 ≡ o5 ++ f →
    o7 ≡ o6 ++ g → o8 ≡ o7 ++ h → o9 ≡ o8 ++ i → o9 ≡ o ++ in_turn (a ∷ b ∷ c ∷ d ∷ e ∷ f ∷ g ∷ h ∷ i ∷ [])
nine o o1 o2 o3 o4 o5 o6 o7 o8 o9 a b c d e f g h i ea eb ec ed ee ef eg eh ei =
    then_parts o o1 o9 a (b ∷ c ∷ d ∷ e ∷ f ∷ g ∷ h ∷ i ∷ []) ea
    (then_parts o1 o2 o9 b (c ∷ d ∷ e ∷ f ∷ g ∷ h ∷ i ∷ []) eb
    (then_parts o2 o3 o9 c (d ∷ e ∷ f ∷ g ∷ h ∷ i ∷ []) ec
    (then_parts o3 o4 o9 d (e ∷ f ∷ g ∷ h ∷ i ∷ []) ed
    (then_parts o4 o5 o9 e (f ∷ g ∷ h ∷ i ∷ []) ee
    (then_parts o5 o6 o9 f (g ∷ h ∷ i ∷ []) ef
    (then_parts o6 o7 o9 g (h ∷ i ∷ []) eg (then_parts o7 o8 o9 h (i ∷ []) eh (then_parts o8 o9 o9 i [] ei (no_parts o9)))))))))

pub eleven : (o o1 o2 o3 o4 o5 o6 o7 o8 o9 o10 o11 a b c d e f g h i j k : List ℕ) → o1 ≡ o ++ a → o2 ≡ o1 ++ b → o3 ≡ o2 ++ c → o4 ≡ o3 ++ d → o5 ≡ o4 ++ e →
    o6 ≡ o5 ++ f → o7 ≡ o6 ++ g → o8 ≡ o7 ++ h → o9 ≡ o8 ++ i → o10 ≡ o9 ++ j → o11 ≡ o10 ++ k →
    o11 ≡ o ++ in_turn (a ∷ b ∷ c ∷ d ∷ e ∷ f ∷ g ∷ h ∷ i ∷ j ∷ k ∷ [])
eleven o o1 o2 o3 o4 o5 o6 o7 o8 o9 o10 o11 a b c d e f g h i j k ea eb ec ed ee ef eg eh ei ej ek =
    then_parts o o1 o11 a (b ∷ c ∷ d ∷ e ∷ f ∷ g ∷ h ∷ i ∷ j ∷ k ∷ []) ea
    (then_parts o1 o2 o11 b (c ∷ d ∷ e ∷ f ∷ g ∷ h ∷ i ∷ j ∷ k ∷ []) eb
    (then_parts o2 o3 o11 c (d ∷ e ∷ f ∷ g ∷ h ∷ i ∷ j ∷ k ∷ []) ec
    (then_parts o3 o4 o11 d (e ∷ f ∷ g ∷ h ∷ i ∷ j ∷ k ∷ []) ed
    (then_parts o4 o5 o11 e (f ∷ g ∷ h ∷ i ∷ j ∷ k ∷ []) ee
    (then_parts o5 o6 o11 f (g ∷ h ∷ i ∷ j ∷ k ∷ []) ef
    (then_parts o6 o7 o11 g (h ∷ i ∷ j ∷ k ∷ []) eg
    (then_parts o7 o8 o11 h (i ∷ j ∷ k ∷ []) eh
    (then_parts o8 o9 o11 i (j ∷ k ∷ []) ei
    (then_parts o9 o10 o11 j (k ∷ []) ej
    (then_parts o10 o11 o11 k [] ek (no_parts o11)))))))))))
