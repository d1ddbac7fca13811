-- What is printed is well formed.
use Rattle.std.proofs.Common.{◌≡◌, ℕ, Bool, true, ◌&&◌, not, List, [], ◌∷◌, ◌++◌, codes, map, bytes_eq, refl}
use Rattle.std.specs.List.{list_any}
use Rattle.am_lab_xml.specs.Escaped.{escaped, escaped_byte}
use Rattle.am_lab_xml.specs.Grammar.{IsCharacters, AreAttributes, IsContent, IsDocument}
use Rattle.am_lab_xml.specs.Grammar.{IsReference as References}
use Rattle.am_lab_xml.specs.Grammar.{IsCharacters as Chars}
use Rattle.am_lab_xml.specs.Grammar.{AreAttributes as Listed}
use Rattle.am_lab_xml.specs.Grammar.{IsContent as Formed}
use Rattle.am_lab_xml.specs.Trees.{Content, Named, attribute, attributes, name_of, is_name, are_names, is_sound, printed}
use Rattle.am_lab_xml.specs.Trees.{Content as Contents}
use Rattle.am_lab_xml.proofs.Bools.{first, second, not_so}
use Rattle.am_lab_xml.proofs.Bytes.{of_written}

Goes : ℕ → List ℕ → Type 0
Goes b written = (rest : List ℕ) → IsCharacters rest → IsCharacters (written ++ rest)

goes : (b : ℕ) → Goes b (escaped_byte b)
unfolding Goes
goes b =
    of_written Goes (λ rest h. Chars.Reference (codes "amp") rest References.Amp h) (λ rest h. Chars.Reference (codes "lt") rest References.Less h)
    (λ rest h. Chars.Reference (codes "gt") rest References.Greater h) (λ rest h. Chars.Reference (codes "quot") rest References.Quote h)
    (λ rest h. Chars.Reference (codes "apos") rest References.Apostrophe h) (λ rest h. Chars.Reference (codes "#10") rest References.Feed h)
    (λ c plain rest h. Chars.Plain c rest plain h) (λ c no_byte rest h. Chars.Plain 63 rest refl h) b

pub characters : (text : List ℕ) → IsCharacters (escaped text)
unfolding Goes
characters [] = Chars.Nothing
characters (b ∷ text) = goes b (escaped text) (characters text)

pub listed : (given : List Named) → are_names (map name_of given) ≡ true → AreAttributes (map name_of given) (attributes given)
unfolding attribute
listed [] h = Listed.Nothing
listed (a ∷ given) h =
    let names : List (List ℕ) = map name_of given in
    let other : Bool = not (list_any (bytes_eq a.name) names) in
    let front : (is_name a.name && other) ≡ true = first (is_name a.name && other) (are_names names) h in
    Listed.More a.name (escaped a.value) (attributes given) names (first (is_name a.name) other front)
    (not_so (list_any (bytes_eq a.name) names) (second (is_name a.name) other front)) (characters a.value)
    (listed given (second (is_name a.name && other) (are_names names) h))

pub formed : (content : Content) → is_sound content ≡ true → IsContent (printed content)
formed Contents.Nothing h = Formed.Characters [] Chars.Nothing
formed (Contents.Text text) h = Formed.Characters (escaped text) (characters text)
formed Contents.Break h = Formed.Break
formed (Contents.Empty name given) h =
    let names = are_names (map name_of given) in
    Formed.Empty name (attributes given) (map name_of given) (first (is_name name) names h) (listed given (second (is_name name) names h))
formed (Contents.Element name given inside) h =
    let names = are_names (map name_of given) in
    let front : (is_name name && names) ≡ true = first (is_name name && names) (is_sound inside) h in
    Formed.Element name (attributes given) (printed inside) (map name_of given) (first (is_name name) names front)
    (listed given (second (is_name name) names front)) (formed inside (second (is_name name && names) (is_sound inside) h))
formed (Contents.Both a b) h =
    Formed.Both (printed a) (printed b) (formed a (first (is_sound a) (is_sound b) h)) (formed b (second (is_sound a) (is_sound b) h))

pub document : (name : List ℕ) (given : List Named) (inside : Content) → is_sound (Contents.Element name given inside) ≡ true →
    IsDocument (printed (Contents.Both (Contents.Element name given inside) Contents.Break))
document name given inside h =
    let names = are_names (map name_of given) in
    let front : (is_name name && names) ≡ true = first (is_name name && names) (is_sound inside) h in
    record {
      name = name;
      given = attributes given;
      names = map name_of given;
      inside = printed inside;
      is_name' = first (is_name name) names front;
      attributes = listed given (second (is_name name) names front);
      content = formed inside (second (is_name name && names) (is_sound inside) h);
      is = refl;
    }
