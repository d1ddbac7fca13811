-- The word of the outside, and words whose second byte is a digit.
use Rattle.std.specs.Prelude.{codes, slice_index}
use Rattle.std.proofs.Common.{◌≡◌, ℕ, Bool, true, false, List, [], ◌∷◌, Option, Some, None, refl, sym, ap, ◌∙◌, inl, inr}
use Rattle.std.specs.Str.{bytes_eq}
use Rattle.std.proofs.lemmas.Bool.{cases_Bool}
use Rattle.std.proofs.lemmas.Slice.Eq.{bytes_eq-Decides}
use Rattle.am_lexer.specs.Text.{is_digit}
use Rattle.am_scenario.specs.declared.drafts.settings.Version.{Version}
use Rattle.am_scenario.specs.declared.lines.head.Head.TheVariants as head
use Rattle.am_scenario.specs.Lines.Heads.{head_of, setting_name_of, declaration_of, actor_of, has_digit}

outside_is : (version : Option Version) → head_of version (120 ∷ []) ≡ Some head.Outside
unfolding head_of setting_name_of declaration_of actor_of
outside_is version = refl

pub outside_named : (version : Option Version) (word : List ℕ) → bytes_eq word (120 ∷ []) ≡ true → Some head.Outside ≡ head_of version word
outside_named version word e = let same : word ≡ 120 ∷ [] = (bytes_eq-Decides word (120 ∷ [])).0 e in rw same (sym (outside_is version))

-- No keyword has a digit in its second place.
unlike : (word keyword : List ℕ) → has_digit word ≡ true → has_digit keyword ≡ false → bytes_eq word keyword ≡ false
unlike word keyword digit none = elim (cases_Bool (bytes_eq word keyword)) [
  | inl same ↦ (let equal : word ≡ keyword = (bytes_eq-Decides word keyword).0 same in
      let both : true ≡ false = sym digit ∙ ap has_digit equal ∙ none in absurd (cc))
  | inr other ↦ other
]

no_setting : (version : Option Version) (word : List ℕ) → has_digit word ≡ true → setting_name_of version word ≡ None
unfolding setting_name_of
no_setting version word digit =
    rw (unlike word (codes "network") digit refl)
    (rw (unlike word (codes "nodes") digit refl)
    (rw (unlike word (codes "frames") digit refl)
    (rw (unlike word (codes "channels") digit refl)
    (rw (unlike word (codes "tries") digit refl)
    (rw (unlike word (codes "bounces") digit refl)
    (rw (unlike word (codes "keep") digit refl)
    (rw (unlike word (codes "log") digit refl)
    (rw (unlike word (codes "turns") digit refl)
    (rw (unlike word (codes "pool") digit refl) refl)))))))))

no_declaration : (word : List ℕ) → has_digit word ≡ true → declaration_of word ≡ None
unfolding declaration_of
no_declaration word digit =
    rw (unlike word (codes "endpoint") digit refl)
    (rw (unlike word (codes "bundle") digit refl)
    (rw (unlike word (codes "thread") digit refl)
    (rw (unlike word (codes "plan") digit refl)
    (rw (unlike word (codes "swapfault") digit refl) refl))))

pub actor_named : (version : Option Version) (word : List ℕ) → has_digit word ≡ true → actor_of word ≡ head_of version word
unfolding head_of
actor_named version word digit =
    rw (unlike word (codes "am2") digit refl)
    (rw (no_setting version word digit)
    (rw (no_declaration word digit) refl))
