-- The texts of the elements with which others begin are found in a tree's text.
use Rattle.std.proofs.Common.{◌≡◌, ℕ, Bool, true, false, ◌&&◌, eqb, List, [], ◌∷◌, ◌++◌, codes, map, bytes_eq, refl, ap, sym, ◌∙◌, append_assoc, append-nil}
use Rattle.am_lab_xml.specs.Escaped.{escaped, unescaped}
use Rattle.am_lab_xml.specs.Reading.{are_led, begins, behind, first_text, first_texts, first_texts_in, holds_text, is_bare, is_led, start_tag, text_of, up_to_tag}
use Rattle.am_lab_xml.specs.Trees.{Content, Named, are_names, attributes, closing, is_name, is_sound, name_of, printed}
use Rattle.am_lab_xml.specs.Trees.{Content as Contents}
use Rattle.am_lab_xml.proofs.Bools.{and_assoc, and_true, first, second}
use Rattle.am_lab_xml.proofs.Found.{behind_opening, closing_passed, empty_passed, escaped_begins_none, laid, opens, other_found, skip, spread, text_begins_none}
use Rattle.am_lab_xml.proofs.Found.{text_is_read, up_to}

-- ---- a text that begins with two others, one behind the other

begins_both : (a b bytes : List ℕ) → begins (a ++ b) bytes ≡ (begins a bytes && begins b (behind a bytes))
begins_both [] b bytes = refl
begins_both (x ∷ a) b [] = refl
begins_both (x ∷ a) b (y ∷ bytes) = ap (λ (t : Bool). eqb y x && t) (begins_both a b bytes) ∙ and_assoc (eqb y x) (begins a bytes) (begins b (behind a bytes))

behind_both : (a b bytes : List ℕ) → behind (a ++ b) bytes ≡ behind b (behind a bytes)
behind_both [] b bytes = refl
behind_both (x ∷ a) [] [] = refl
behind_both (x ∷ a) (z ∷ b) [] = refl
behind_both (x ∷ a) b (y ∷ bytes) = behind_both a b bytes

-- what stands behind a name's own tag
behind_own : (name n more : List ℕ) → bytes_eq n name ≡ true → behind (name ++ codes ">") (n ++ 62 ∷ more) ≡ more
behind_own [] [] more h = refl
behind_own [] (b ∷ n) more h = cc
behind_own (a ∷ name) [] more h = cc
behind_own (a ∷ name) (b ∷ n) more h = behind_own name n more (second (eqb b a) (bytes_eq n name) h)

-- ---- bytes and tags that are passed over

module _ (outer name : List ℕ) where
  byte_passed : (b : ℕ) (bytes : List ℕ) → eqb b 60 ≡ false → first_texts_in outer name (b ∷ bytes) ≡ first_texts_in outer name bytes
  byte_passed b bytes h = rw h refl

  both_begin : (bytes : List ℕ) → begins ((outer ++ codes ">") ++ start_tag name) bytes
      ≡ (begins (outer ++ codes ">") bytes && begins (start_tag name) (behind (outer ++ codes ">") bytes))
  both_begin bytes = begins_both (outer ++ codes ">") (start_tag name) bytes

  tag_passed : (bytes : List ℕ) → begins (outer ++ codes ">") bytes ≡ false → first_texts_in outer name (60 ∷ bytes) ≡ first_texts_in outer name bytes
  tag_passed bytes h = rw (both_begin bytes, h) refl

  taken : (bytes : List ℕ) → begins (outer ++ codes ">") bytes ≡ true → begins (start_tag name) (behind (outer ++ codes ">") bytes) ≡ true →
      first_texts_in outer name (60 ∷ bytes)
      ≡ unescaped (up_to_tag (behind ((outer ++ codes ">") ++ start_tag name) bytes)) ∷ first_texts_in outer name bytes
  taken bytes h k = rw (both_begin bytes, h, k) refl

-- ---- what a content begins with

leads : (name : List ℕ) (content : Content) (more : List ℕ) → is_name name ≡ true → is_sound content ≡ true → is_led name content ≡ true →
    begins (start_tag name) (printed content ++ more) ≡ true
leads name (Contents.Element n given inside) more h sound led =
    let names = are_names (map name_of given) in
    let front : (is_name n && names) ≡ true = first (is_name n && names) (is_sound inside) sound in
    ap (λ (t : List ℕ). begins (name ++ codes ">") t) (laid n (attributes given) (codes ">") (printed inside) (closing n) more)
    ∙ opens name n given 62 (printed inside ++ (closing n ++ more)) h (first (is_name n) names front) refl
    ∙ and_true (is_bare name n given)
    ∙ first (is_bare name n given) (holds_text inside) led
leads name (Contents.Both a b) more h sound led =
    ap (begins (start_tag name)) (append_assoc (printed a) (printed b) more)
    ∙ leads name a (printed b ++ more) h (first (is_sound a) (is_sound b) sound) led
leads name Contents.Nothing more h sound led = cc
leads name (Contents.Text text) more h sound led = cc
leads name Contents.Break more h sound led = cc
leads name (Contents.Empty n given) more h sound led = cc

-- an element's text, behind its own tag
own_text : (name n : List ℕ) (given : List Named) (inside : Content) (more : List ℕ) → is_bare name n given ≡ true → holds_text inside ≡ true →
    unescaped (up_to_tag (behind (name ++ codes ">") (n ++ (attributes given ++ 62 ∷ (printed inside ++ (closing n ++ more)))))) ≡ text_of inside
own_text name n [] inside more bare holds =
    ap (λ (t : List ℕ). unescaped (up_to_tag t)) (behind_own name n (printed inside ++ (closing n ++ more)) bare)
    ∙ ap unescaped (up_to (printed inside) ((47 ∷ n ++ codes ">") ++ more) (text_begins_none inside holds))
    ∙ text_is_read inside holds
own_text name n (a ∷ given) inside more bare holds = cc

led_text : (name : List ℕ) (content : Content) (more : List ℕ) → is_led name content ≡ true →
    unescaped (up_to_tag (behind (start_tag name) (printed content ++ more))) ≡ first_text content
led_text name (Contents.Element n given inside) more led =
    ap (λ (t : List ℕ). unescaped (up_to_tag (behind (name ++ codes ">") t))) (laid n (attributes given) (codes ">") (printed inside) (closing n) more)
    ∙ own_text name n given inside more (first (is_bare name n given) (holds_text inside) led) (second (is_bare name n given) (holds_text inside) led)
led_text name (Contents.Both a b) more led =
    ap (λ (t : List ℕ). unescaped (up_to_tag (behind (start_tag name) t))) (append_assoc (printed a) (printed b) more) ∙ led_text name a (printed b ++ more) led
led_text name Contents.Nothing more led = cc
led_text name (Contents.Text text) more led = cc
led_text name Contents.Break more led = cc
led_text name (Contents.Empty n given) more led = cc

-- ---- a content in front of a rest, as a reader passes over it

Finds : List ℕ → List ℕ → Content → Type 0
Finds outer name content = (rest : List ℕ) → first_texts_in outer name (printed content ++ rest) ≡ first_texts outer content ++ first_texts_in outer name rest

-- an outer element with no attributes
own_found : (outer name n : List ℕ) (inside : Content) (rest : List ℕ) → is_name outer ≡ true → is_name name ≡ true → is_name n ≡ true → bytes_eq n outer ≡ true →
    is_sound inside ≡ true → is_led name inside ≡ true → Finds outer name inside →
    first_texts_in outer name (60 ∷ spread n [] (printed inside) rest) ≡ first_text inside ∷ (first_texts outer inside ++ first_texts_in outer name rest)
unfolding spread Finds
own_found outer name n inside rest g h k same sound led finds =
    let more : List ℕ = printed inside ++ (closing n ++ rest) in
    let own : behind (outer ++ codes ">") (n ++ 62 ∷ more) ≡ more = behind_own outer n more same in
    let text : unescaped (up_to_tag (behind ((outer ++ codes ">") ++ start_tag name) (n ++ 62 ∷ more))) ≡ first_text inside =
    ap (λ (t : List ℕ). unescaped (up_to_tag t)) (behind_both (outer ++ codes ">") (start_tag name) (n ++ 62 ∷ more)
    ∙ ap (behind (start_tag name)) own)
    ∙ led_text name inside (closing n ++ rest) led in
    taken outer name (n ++ 62 ∷ more) (opens outer n [] 62 more g k refl ∙ and_true (bytes_eq n outer) ∙ same)
    (ap (begins (start_tag name)) own ∙ leads name inside (closing n ++ rest) h sound led)
    ∙ ap (λ (t : List ℕ). t ∷ first_texts_in outer name (n ++ 62 ∷ more)) text
    ∙ ap (λ (t : List (List ℕ)). first_text inside ∷ t)
    (behind_opening outer (first_texts_in outer name) (byte_passed outer name) (tag_passed outer name) n [] (printed inside) rest k refl
    ∙ finds (closing n ++ rest)
    ∙ ap (λ (t : List (List ℕ)). first_texts outer inside ++ t)
    (closing_passed outer (first_texts_in outer name) (byte_passed outer name) (tag_passed outer name) n rest g k))

by_bare : (outer name n : List ℕ) (given : List Named) (inside : Content) (rest : List ℕ) → is_name outer ≡ true → is_name name ≡ true → is_name n ≡ true →
    are_names (map name_of given) ≡ true → is_sound inside ≡ true → are_led outer name (Contents.Element n given inside) ≡ true →
    (are_led outer name inside ≡ true → Finds outer name inside) → (bare : Bool) → is_bare outer n given ≡ bare →
    first_texts_in outer name (60 ∷ spread n given (printed inside) rest) ≡ first_texts outer (Contents.Element n given inside)
    ++ first_texts_in outer name rest
unfolding Finds
by_bare outer name n [] inside rest g h k names sound are finds true e =
    let both : (is_led name inside && are_led outer name inside) ≡ true = rw e at are in
    rw e (own_found outer name n inside rest g h k e sound (first (is_led name inside) (are_led outer name inside) both)
    (finds (second (is_led name inside) (are_led outer name inside) both)))
by_bare outer name n (a ∷ given) inside rest g h k names sound are finds true e = cc
by_bare outer name n given inside rest g h k names sound are finds false e =
    rw e (other_found outer (first_texts_in outer name) (byte_passed outer name) (tag_passed outer name) n given inside (first_texts outer inside) rest g k names
    e (finds (rw e at are)))

finds : (outer name : List ℕ) → is_name outer ≡ true → is_name name ≡ true → (content : Content) → is_sound content ≡ true → are_led outer name content ≡ true →
    Finds outer name content
unfolding Finds spread
finds outer name g h Contents.Nothing sound are rest = refl
finds outer name g h (Contents.Text text) sound are rest =
    skip outer (first_texts_in outer name) (byte_passed outer name) (tag_passed outer name) (escaped text) rest (escaped_begins_none text)
finds outer name g h Contents.Break sound are rest = refl
finds outer name g h (Contents.Empty n given) sound are rest =
    empty_passed outer (first_texts_in outer name) (byte_passed outer name) (tag_passed outer name) n given rest g
    (first (is_name n) (are_names (map name_of given)) sound) (second (is_name n) (are_names (map name_of given)) sound)
finds outer name g h (Contents.Element n given inside) sound are rest =
    let names = are_names (map name_of given) in
    let front : (is_name n && names) ≡ true = first (is_name n && names) (is_sound inside) sound in
    let held : is_sound inside ≡ true = second (is_name n && names) (is_sound inside) sound in
    ap (λ (t : List ℕ). first_texts_in outer name (60 ∷ t)) (laid n (attributes given) (codes ">") (printed inside) (closing n) rest)
    ∙ by_bare outer name n given inside rest g h (first (is_name n) names front) (second (is_name n) names front) held are
    (finds outer name g h inside held) (is_bare outer n given) refl
finds outer name g h (Contents.Both a b) sound are rest =
    ap (first_texts_in outer name) (append_assoc (printed a) (printed b) rest)
    ∙ finds outer name g h a (first (is_sound a) (is_sound b) sound) (first (are_led outer name a) (are_led outer name b) are) (printed b ++ rest)
    ∙ ap (λ (t : List (List ℕ)). first_texts outer a ++ t)
    (finds outer name g h b (second (is_sound a) (is_sound b) sound) (second (are_led outer name a) (are_led outer name b) are) rest)
    ∙ sym (append_assoc (first_texts outer a) (first_texts outer b) (first_texts_in outer name rest))

pub first_texts_are_found : (outer name : List ℕ) (content : Content) → is_name outer ≡ true → is_name name ≡ true → is_sound content ≡ true →
    are_led outer name content ≡ true → first_texts_in outer name (printed content) ≡ first_texts outer content
unfolding Finds
first_texts_are_found outer name content g h sound are =
    ap (first_texts_in outer name) (sym (append-nil (printed content))) ∙ finds outer name g h content sound are [] ∙ append-nil (first_texts outer content)
