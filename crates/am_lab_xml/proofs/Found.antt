-- The texts of a tree's elements are found in its text.
use Rattle.std.proofs.Common.{◌≡◌, ℕ, Bool, true, false, ◌&&◌, not, eqb, List, [], ◌∷◌, ◌++◌, codes, map, bytes_eq, refl, ap, sym, ◌∙◌, append_assoc}
use Rattle.std.proofs.Common.{append-nil}
use Rattle.std.specs.List.{list_all, list_any}
use Rattle.am_lab_xml.specs.Escaped.{escaped, escaped_byte, unescaped}
use Rattle.am_lab_xml.specs.Grammar.{is_plain}
use Rattle.am_lab_xml.specs.Reading.{begins, behind_tag, up_to_tag, texts_in, is_bare, text_of, texts, holds_text, are_texts}
use Rattle.am_lab_xml.specs.Trees.{Content, Named, attribute, attributes, name_of, is_letter, is_name, is_name_byte, are_names, is_sound, printed, closing}
use Rattle.am_lab_xml.specs.Trees.{Content as Contents}
use Rattle.am_lab_xml.proofs.Bools.{first, second, joined, and_true, and_false, and_assoc, apart, all_of_both, all_weaker, not_so}
use Rattle.am_lab_xml.proofs.Bytes.{of_written, escape_is_read}

-- ---- bytes that begin no tag

abbrev no_tag : ℕ → Bool
no_tag b = not (eqb b 60)

abbrev pub has_no_tag : List ℕ → Bool
has_no_tag bytes = list_all no_tag bytes

Writes : ℕ → List ℕ → Type 0
Writes b written = has_no_tag written ≡ true

plain_begins_none : (b : ℕ) → is_plain b ≡ true → has_no_tag (b ∷ []) ≡ true
plain_begins_none b plain = rw (apart is_plain b 60 plain refl) refl

writes : (b : ℕ) → Writes b (escaped_byte b)
unfolding Writes
writes b = of_written Writes refl refl refl refl refl refl plain_begins_none (λ c no_byte. refl) b

pub escaped_begins_none : (text : List ℕ) → has_no_tag (escaped text) ≡ true
unfolding Writes
escaped_begins_none [] = refl
escaped_begins_none (b ∷ text) = all_of_both no_tag (escaped_byte b) (escaped text) (writes b) (escaped_begins_none text)

name_byte_begins_none : (b : ℕ) → is_name_byte b ≡ true → no_tag b ≡ true
name_byte_begins_none b h = rw (apart is_name_byte b 60 h refl) refl

letter_is_name_byte : (b : ℕ) → is_letter b ≡ true → is_name_byte b ≡ true
letter_is_name_byte b h = rw h refl

-- a name is made of the bytes of names
pub bytes_of_name : (name : List ℕ) → is_name name ≡ true → list_all is_name_byte name ≡ true
bytes_of_name [] h = refl
bytes_of_name (b ∷ name) h =
    joined (is_name_byte b) (list_all is_name_byte name) (letter_is_name_byte b (first (is_letter b) (list_all is_name_byte name) h))
    (second (is_letter b) (list_all is_name_byte name) h)

name_begins_none : (name : List ℕ) → is_name name ≡ true → has_no_tag name ≡ true
name_begins_none name h = all_weaker is_name_byte no_tag name_byte_begins_none name (bytes_of_name name h)

attribute_begins_none : (a : Named) → is_name a.name ≡ true → has_no_tag (attribute a) ≡ true
unfolding attribute
attribute_begins_none a h =
    all_of_both no_tag (codes " " ++ a.name ++ codes "=\"" ++ escaped a.value) (codes "\"")
    (all_of_both no_tag (codes " " ++ a.name ++ codes "=\"") (escaped a.value)
    (all_of_both no_tag (codes " " ++ a.name) (codes "=\"") (all_of_both no_tag (codes " ") a.name refl (name_begins_none a.name h)) refl)
    (escaped_begins_none a.value))
    refl

attributes_begin_none : (given : List Named) → are_names (map name_of given) ≡ true → has_no_tag (attributes given) ≡ true
attributes_begin_none [] h = refl
attributes_begin_none (a ∷ given) h =
    let names : List (List ℕ) = map name_of given in
    let other : Bool = not (list_any (bytes_eq a.name) names) in
    let front : (is_name a.name && other) ≡ true = first (is_name a.name && other) (are_names names) h in
    all_of_both no_tag (attribute a) (attributes given) (attribute_begins_none a (first (is_name a.name) other front))
    (attributes_begin_none given (second (is_name a.name && other) (are_names names) h))

-- ---- tags

-- the bytes of another name, or of one that goes on, are no tag of a name
pub begins_name : (name n : List ℕ) (d : ℕ) (more : List ℕ) → list_all is_name_byte name ≡ true → list_all is_name_byte n ≡ true → is_name_byte d ≡ false →
    begins (name ++ codes ">") (n ++ d ∷ more) ≡ (bytes_eq n name && eqb d 62)
begins_name [] [] d more h k ends = and_true (eqb d 62)
begins_name [] (b ∷ n) d more h k ends = rw (apart is_name_byte b 62 (first (is_name_byte b) (list_all is_name_byte n) k) refl) refl
begins_name (a ∷ name) [] d more h k ends =
    rw (apart (λ x. not (is_name_byte x)) d a (rw ends refl) (rw (first (is_name_byte a) (list_all is_name_byte name) h) refl)) refl
begins_name (a ∷ name) (b ∷ n) d more h k ends =
    ap (λ (t : Bool). eqb b a && t) (begins_name name n d more (second (is_name_byte a) (list_all is_name_byte name) h)
    (second (is_name_byte b) (list_all is_name_byte n) k) ends)
    ∙ and_assoc (eqb b a) (bytes_eq n name) (eqb d 62)

-- only the tag of this name with no attributes begins so
pub opens : (name n : List ℕ) (given : List Named) (d : ℕ) (more : List ℕ) → is_name name ≡ true → is_name n ≡ true → is_name_byte d ≡ false →
    begins (name ++ codes ">") (n ++ (attributes given ++ d ∷ more)) ≡ (is_bare name n given && eqb d 62)
unfolding attribute
opens name n [] d more h k ends = begins_name name n d more (bytes_of_name name h) (bytes_of_name n k) ends
opens name n (a ∷ given) d more h k ends =
    begins_name name n 32 ((a.name ++ codes "=\"" ++ escaped a.value ++ codes "\"" ++ attributes given) ++ d ∷ more) (bytes_of_name name h) (bytes_of_name n k)
    refl
    ∙ and_false (bytes_eq n name)

pub laid : (n given x inside c rest : List ℕ) → ((((n ++ given) ++ x) ++ inside) ++ c) ++ rest ≡ n ++ (given ++ (x ++ (inside ++ (c ++ rest))))
laid n given x inside c rest = simp append_assoc

pub laid_empty : (n given x rest : List ℕ) → ((n ++ given) ++ x) ++ rest ≡ n ++ (given ++ (x ++ rest))
laid_empty n given x rest = simp append_assoc

-- what stands behind the `<` of an element
unfoldable pub spread : List ℕ → List Named → List ℕ → List ℕ → List ℕ
spread n given inside rest = n ++ (attributes given ++ 62 ∷ (inside ++ (closing n ++ rest)))

-- A reader who goes over the bytes from the left, and finds nothing where no tag begins, nor at a tag that isn't that of a name with
-- no attributes.
module _ (name : List ℕ) (found : List ℕ → List (List ℕ)) (plain : (b : ℕ) (bytes : List ℕ) → eqb b 60 ≡ false → found (b ∷ bytes) ≡ found bytes)
    (passed : (bytes : List ℕ) → begins (name ++ codes ">") bytes ≡ false → found (60 ∷ bytes) ≡ found bytes) where
  pub skip : (text rest : List ℕ) → has_no_tag text ≡ true → found (text ++ rest) ≡ found rest
  skip [] rest h = refl
  skip (b ∷ text) rest h =
      plain b (text ++ rest) (not_so (eqb b 60) (first (no_tag b) (has_no_tag text) h)) ∙ skip text rest (second (no_tag b) (has_no_tag text) h)

  pub closing_passed : (n rest : List ℕ) → is_name name ≡ true → is_name n ≡ true → found (closing n ++ rest) ≡ found rest
  closing_passed n rest h k =
      passed ((47 ∷ n ++ codes ">") ++ rest) (begins_name name [] 47 ((n ++ codes ">") ++ rest) (bytes_of_name name h) refl refl
      ∙ and_false (bytes_eq [] name))
      ∙ skip (47 ∷ n ++ codes ">") rest (all_of_both no_tag (47 ∷ n) (codes ">") (name_begins_none n k) refl)

  pub empty_passed : (n : List ℕ) (given : List Named) (rest : List ℕ) → is_name name ≡ true → is_name n ≡ true → are_names (map name_of given) ≡ true →
      found ((codes "<" ++ n ++ attributes given ++ codes "/>") ++ rest) ≡ found rest
  empty_passed n given rest h k names =
      ap (λ (t : List ℕ). found (60 ∷ t)) (laid_empty n (attributes given) (codes "/>") rest)
      ∙ passed (n ++ (attributes given ++ 47 ∷ 62 ∷ rest)) (opens name n given 47 (62 ∷ rest) h k refl ∙ and_false (is_bare name n given))
      ∙ skip n (attributes given ++ 47 ∷ 62 ∷ rest) (name_begins_none n k)
      ∙ skip (attributes given) (47 ∷ 62 ∷ rest) (attributes_begin_none given names)
      ∙ skip (codes "/>") rest refl

  pub behind_opening : (n : List ℕ) (given : List Named) (inside rest : List ℕ) → is_name n ≡ true → are_names (map name_of given) ≡ true →
      found (spread n given inside rest) ≡ found (inside ++ (closing n ++ rest))
  unfolding spread
  behind_opening n given inside rest k names =
      skip n (attributes given ++ 62 ∷ (inside ++ (closing n ++ rest))) (name_begins_none n k)
      ∙ skip (attributes given) (62 ∷ (inside ++ (closing n ++ rest))) (attributes_begin_none given names)
      ∙ plain 62 (inside ++ (closing n ++ rest)) refl

  -- an element of another name, or with attributes
  pub other_found : (n : List ℕ) (given : List Named) (inside : Content) (held : List (List ℕ)) (rest : List ℕ) → is_name name ≡ true → is_name n ≡ true →
      are_names (map name_of given) ≡ true → is_bare name n given ≡ false → ((rest : List ℕ) → found (printed inside ++ rest) ≡ held ++ found rest) →
      found (60 ∷ spread n given (printed inside) rest) ≡ held ++ found rest
  unfolding spread
  other_found n given inside held rest h k names other finds =
      passed (spread n given (printed inside) rest) (opens name n given 62 (printed inside ++ (closing n ++ rest)) h k refl
      ∙ and_true (is_bare name n given) ∙ other)
      ∙ behind_opening n given (printed inside) rest k names
      ∙ finds (closing n ++ rest)
      ∙ ap (λ (t : List (List ℕ)). held ++ t) (closing_passed n rest h k)

-- ---- the text of an element

behind_name : (n more : List ℕ) → list_all is_name_byte n ≡ true → behind_tag (n ++ 62 ∷ more) ≡ up_to_tag more
behind_name [] more h = refl
behind_name (b ∷ n) more h =
    rw (apart is_name_byte b 62 (first (is_name_byte b) (list_all is_name_byte n) h) refl)
    (behind_name n more (second (is_name_byte b) (list_all is_name_byte n) h))

pub up_to : (text more : List ℕ) → has_no_tag text ≡ true → up_to_tag (text ++ 60 ∷ more) ≡ text
up_to [] more h = refl
up_to (b ∷ text) more h =
    rw (not_so (eqb b 60) (first (no_tag b) (has_no_tag text) h)) (ap (λ (t : List ℕ). b ∷ t) (up_to text more (second (no_tag b) (has_no_tag text) h)))

pub text_begins_none : (inside : Content) → holds_text inside ≡ true → has_no_tag (printed inside) ≡ true
text_begins_none (Contents.Text text) h = escaped_begins_none text
text_begins_none Contents.Nothing h = cc
text_begins_none Contents.Break h = cc
text_begins_none (Contents.Empty n given) h = cc
text_begins_none (Contents.Element n given inside) h = cc
text_begins_none (Contents.Both a b) h = cc

pub text_is_read : (inside : Content) → holds_text inside ≡ true → unescaped (printed inside) ≡ text_of inside
text_is_read (Contents.Text text) h = escape_is_read text h
text_is_read Contents.Nothing h = cc
text_is_read Contents.Break h = cc
text_is_read (Contents.Empty n given) h = cc
text_is_read (Contents.Element n given inside) h = cc
text_is_read (Contents.Both a b) h = cc

-- an element's text in front of a rest, as a reader passes over it
Finds : List ℕ → Content → Type 0
Finds name content = (rest : List ℕ) → texts_in name (printed content ++ rest) ≡ texts name content ++ texts_in name rest

byte_passed : (name : List ℕ) (b : ℕ) (bytes : List ℕ) → eqb b 60 ≡ false → texts_in name (b ∷ bytes) ≡ texts_in name bytes
byte_passed name b bytes h = rw h refl

tag_passed : (name bytes : List ℕ) → begins (name ++ codes ">") bytes ≡ false → texts_in name (60 ∷ bytes) ≡ texts_in name bytes
tag_passed name bytes h = rw h refl

taken : (name bytes : List ℕ) → begins (name ++ codes ">") bytes ≡ true → texts_in name (60 ∷ bytes) ≡ unescaped (behind_tag bytes) ∷ texts_in name bytes
taken name bytes h = rw h refl

-- an element of this name with no attributes
own_found : (name n : List ℕ) (inside : Content) (rest : List ℕ) → is_name name ≡ true → is_name n ≡ true → bytes_eq n name ≡ true → holds_text inside ≡ true →
    texts_in name (60 ∷ spread n [] (printed inside) rest) ≡ text_of inside ∷ texts_in name rest
unfolding spread
own_found name n inside rest h k same holds =
    let more : List ℕ = printed inside ++ (closing n ++ rest) in
    let behind : behind_tag (n ++ 62 ∷ more) ≡ printed inside = behind_name n more (bytes_of_name n k)
    ∙ up_to (printed inside) ((47 ∷ n ++ codes ">") ++ rest) (text_begins_none inside holds) in
    let read : unescaped (behind_tag (n ++ 62 ∷ more)) ≡ text_of inside = ap unescaped behind ∙ text_is_read inside holds in
    taken name (n ++ 62 ∷ more) (opens name n [] 62 more h k refl ∙ and_true (bytes_eq n name) ∙ same)
    ∙ ap (λ (t : List ℕ). t ∷ texts_in name (n ++ 62 ∷ more)) read
    ∙ ap (λ (t : List (List ℕ)). text_of inside ∷ t)
    (behind_opening name (texts_in name) (byte_passed name) (tag_passed name) n [] (printed inside) rest k refl
    ∙ skip name (texts_in name) (byte_passed name) (tag_passed name) (printed inside) (closing n ++ rest) (text_begins_none inside holds)
    ∙ closing_passed name (texts_in name) (byte_passed name) (tag_passed name) n rest h k)

by_bare : (name n : List ℕ) (given : List Named) (inside : Content) (rest : List ℕ) → is_name name ≡ true → is_name n ≡ true →
    are_names (map name_of given) ≡ true → are_texts name (Contents.Element n given inside) ≡ true → (are_texts name inside ≡ true → Finds name inside) →
    (bare : Bool) → is_bare name n given ≡ bare → texts_in name (60 ∷ spread n given (printed inside) rest) ≡ texts name
    (Contents.Element n given inside) ++ texts_in name rest
unfolding Finds
by_bare name n [] inside rest h k names are finds true e = rw e (own_found name n inside rest h k e (rw e at are))
by_bare name n (a ∷ given) inside rest h k names are finds true e = cc
by_bare name n given inside rest h k names are finds false e =
    rw e (other_found name (texts_in name) (byte_passed name) (tag_passed name) n given inside (texts name inside) rest h k names e (finds (rw e at are)))

element_found : (name n : List ℕ) (given : List Named) (inside : Content) → is_name name ≡ true → is_sound (Contents.Element n given inside) ≡ true →
    are_texts name (Contents.Element n given inside) ≡ true → (is_sound inside ≡ true → are_texts name inside ≡ true → Finds name inside) →
    Finds name (Contents.Element n given inside)
unfolding spread Finds
element_found name n given inside h sound are finds rest =
    let names = are_names (map name_of given) in
    let front : (is_name n && names) ≡ true = first (is_name n && names) (is_sound inside) sound in
    ap (λ (t : List ℕ). texts_in name (60 ∷ t)) (laid n (attributes given) (codes ">") (printed inside) (closing n) rest)
    ∙ by_bare name n given inside rest h (first (is_name n) names front) (second (is_name n) names front) are
    (finds (second (is_name n && names) (is_sound inside) sound)) (is_bare name n given) refl

finds : (name : List ℕ) → is_name name ≡ true → (content : Content) → is_sound content ≡ true → are_texts name content ≡ true → Finds name content
unfolding Finds
finds name h Contents.Nothing sound are rest = refl
finds name h (Contents.Text text) sound are rest =
    skip name (texts_in name) (byte_passed name) (tag_passed name) (escaped text) rest (escaped_begins_none text)
finds name h Contents.Break sound are rest = refl
finds name h (Contents.Empty n given) sound are rest =
    empty_passed name (texts_in name) (byte_passed name) (tag_passed name) n given rest h (first (is_name n) (are_names (map name_of given)) sound) (second (is_name n) (are_names (map name_of given)) sound)
finds name h (Contents.Element n given inside) sound are rest = element_found name n given inside h sound are (finds name h inside) rest
finds name h (Contents.Both a b) sound are rest =
    ap (texts_in name) (append_assoc (printed a) (printed b) rest)
    ∙ finds name h a (first (is_sound a) (is_sound b) sound) (first (are_texts name a) (are_texts name b) are) (printed b ++ rest)
    ∙ ap (λ (t : List (List ℕ)). texts name a ++ t) (finds name h b (second (is_sound a) (is_sound b) sound) (second (are_texts name a) (are_texts name b) are)
    rest)
    ∙ sym (append_assoc (texts name a) (texts name b) (texts_in name rest))

pub texts_are_found : (name : List ℕ) (content : Content) → is_name name ≡ true → is_sound content ≡ true → are_texts name content ≡ true →
    texts_in name (printed content) ≡ texts name content
unfolding Finds
texts_are_found name content h sound are =
    ap (texts_in name) (sym (append-nil (printed content))) ∙ finds name h content sound are [] ∙ append-nil (texts name content)
