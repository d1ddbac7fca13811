-- The elements of a tree, with their attributes, are found in its text.
use Rattle.std.proofs.Common.{◌≡◌, ℕ, Bool, true, ◌&&◌, not, eqb, List, [], ◌∷◌, ◌++◌, codes, map, bytes_eq, refl, ap, sym, ◌∙◌, append_assoc, append-nil}
use Rattle.std.specs.List.{list_all, list_any}
use Rattle.am_lab_xml.specs.Escaped.{escaped, escaped_byte}
use Rattle.am_lab_xml.specs.Grammar.{is_plain}
use Rattle.am_lab_xml.specs.Elements.{Tagged, Stands, named, with_value, elements_from, elements_in, elements, has_text, are_readable}
use Rattle.am_lab_xml.specs.Elements.{Stands as At}
use Rattle.am_lab_xml.specs.Trees.{Content, Named, attribute, attributes, name_of, is_name, is_name_byte, are_names, is_sound, printed, closing, opening}
use Rattle.am_lab_xml.specs.Trees.{Content as Contents}
use Rattle.am_lab_xml.proofs.Bools.{first, second, apart, all_of_both, not_so}
use Rattle.am_lab_xml.proofs.Bytes.{of_written, escape_is_read}
use Rattle.am_lab_xml.proofs.Found.{bytes_of_name, escaped_begins_none, has_no_tag}

-- over these bytes a reader finds these elements, and stands elsewhere behind them
Reads : Stands → List ℕ → List Tagged → Stands → Type 0
Reads at bytes found to = (rest : List ℕ) → elements_from at (bytes ++ rest) ≡ found ++ elements_from to rest

-- over two texts, one behind the other
both : (at mid to : Stands) (a b : List ℕ) (found more : List Tagged) → Reads at a found mid → Reads mid b more to → Reads at (a ++ b) (found ++ more) to
unfolding Reads
both at mid to a b found more h k rest =
    ap (elements_from at) (append_assoc a b rest) ∙ h (b ++ rest) ∙ ap (λ (t : List Tagged). found ++ t) (k rest)
    ∙ sym (append_assoc found more (elements_from to rest))

-- ---- bytes that lead no further

outside : (text : List ℕ) → has_no_tag text ≡ true → Reads At.Outside text [] At.Outside
unfolding Reads
outside [] h rest = refl
outside (b ∷ text) h rest =
    rw (not_so (eqb b 60) (first (not (eqb b 60)) (has_no_tag text) h)) (outside text (second (not (eqb b 60)) (has_no_tag text) h) rest)

in_name : (so n : List ℕ) → list_all is_name_byte n ≡ true → Reads (At.InName so) n [] (At.InName (so ++ n))
unfolding Reads
in_name so [] h rest = ap (λ (t : List ℕ). elements_from (At.InName t) rest) (sym (append-nil so))
in_name so (b ∷ n) h rest =
    let is = first (is_name_byte b) (list_all is_name_byte n) h in
    rw (apart is_name_byte b 32 is refl, apart is_name_byte b 62 is refl, apart is_name_byte b 47 is refl)
    (in_name (so ++ b ∷ []) n (second (is_name_byte b) (list_all is_name_byte n) h) rest
    ∙ ap (λ (t : List ℕ). elements_from (At.InName t) rest) (append_assoc so (b ∷ []) n))

in_attribute : (e : Tagged) (so n : List ℕ) → list_all is_name_byte n ≡ true → Reads (At.InAttribute e so) n [] (At.InAttribute e (so ++ n))
unfolding Reads
in_attribute e so [] h rest = ap (λ (t : List ℕ). elements_from (At.InAttribute e t) rest) (sym (append-nil so))
in_attribute e so (b ∷ n) h rest =
    let is = first (is_name_byte b) (list_all is_name_byte n) h in
    rw (
      apart is_name_byte b 34 is refl,
      apart is_name_byte b 62 is refl,
      apart is_name_byte b 61 is refl,
      apart is_name_byte b 47 is refl,
      apart is_name_byte b 32 is refl,
    )
    (in_attribute e (so ++ b ∷ []) n (second (is_name_byte b) (list_all is_name_byte n) h) rest
    ∙ ap (λ (t : List ℕ). elements_from (At.InAttribute e t) rest) (append_assoc so (b ∷ []) n))

abbrev no_quote : ℕ → Bool
no_quote b = not (eqb b 34)

abbrev has_no_quote : List ℕ → Bool
has_no_quote bytes = list_all no_quote bytes

WritesNone : ℕ → List ℕ → Type 0
WritesNone b written = has_no_quote written ≡ true

plain_is_none : (b : ℕ) → is_plain b ≡ true → has_no_quote (b ∷ []) ≡ true
plain_is_none b plain = rw (apart is_plain b 34 plain refl) refl

writes_none : (b : ℕ) → WritesNone b (escaped_byte b)
unfolding WritesNone
writes_none b = of_written WritesNone refl refl refl refl refl refl plain_is_none (λ c no_byte. refl) b

escaped_has_none : (text : List ℕ) → has_no_quote (escaped text) ≡ true
unfolding WritesNone
escaped_has_none [] = refl
escaped_has_none (b ∷ text) = all_of_both no_quote (escaped_byte b) (escaped text) (writes_none b) (escaped_has_none text)

in_value : (e : Tagged) (n so text : List ℕ) → has_no_quote text ≡ true → Reads (At.InValue e n so) text [] (At.InValue e n (so ++ text))
unfolding Reads
in_value e n so [] h rest = ap (λ (t : List ℕ). elements_from (At.InValue e n t) rest) (sym (append-nil so))
in_value e n so (b ∷ text) h rest =
    rw (not_so (eqb b 34) (first (no_quote b) (has_no_quote text) h))
    (in_value e n (so ++ b ∷ []) text (second (no_quote b) (has_no_quote text) h) rest
    ∙ ap (λ (t : List ℕ). elements_from (At.InValue e n t) rest) (append_assoc so (b ∷ []) text))

in_end : (n : List ℕ) → list_all is_name_byte n ≡ true → Reads At.InEnd n [] At.InEnd
unfolding Reads
in_end [] h rest = refl
in_end (b ∷ n) h rest =
    rw (apart is_name_byte b 62 (first (is_name_byte b) (list_all is_name_byte n) h) refl)
    (in_end n (second (is_name_byte b) (list_all is_name_byte n) h) rest)

-- ---- attributes

abbrev with : Tagged → Named → Tagged
with e a = record { name = e.name; given = e.given ++ a ∷ [] }

-- a value that was written stands for itself
value_is_read : (e : Tagged) (a : Named) → has_text a ≡ true → with_value e a.name (escaped a.value) ≡ with e a
value_is_read e a h =
    ap (λ (v : List ℕ). record { name = e.name; given = e.given ++ record { name = a.name; value = v } ∷ [] }) (escape_is_read a.value h)

-- behind the space in front of an attribute
attribute_read : (e : Tagged) (a : Named) → is_name a.name ≡ true → has_text a ≡ true →
    Reads (At.InAttribute e []) (a.name ++ codes "=\"" ++ escaped a.value ++ codes "\"") [] (At.InAttribute (with e a) [])
unfolding Reads
attribute_read e a is text rest =
    let n = a.name in
    let v = escaped a.value in
    let named_so = in_attribute e [] n (bytes_of_name n is) in
    let begun : Reads (At.InAttribute e n) (codes "=\"") [] (At.InValue e n []) = λ more. refl in
    let valued = in_value e n [] v (escaped_has_none a.value) in
    let ended : Reads (At.InValue e n v) (codes "\"") [] (At.InAttribute (with e a) []) =
    λ more. ap (λ (t : Tagged). elements_from (At.InAttribute t []) more) (value_is_read e a text) in
    both (At.InAttribute e []) (At.InValue e n v) (At.InAttribute (with e a) []) (n ++ codes "=\"" ++ v) (codes "\"") [] []
    (both (At.InAttribute e []) (At.InValue e n []) (At.InValue e n v) (n ++ codes "=\"") v [] []
    (both (At.InAttribute e []) (At.InAttribute e n) (At.InValue e n []) n (codes "=\"") [] [] named_so begun) valued) ended rest

-- behind an attribute or none, further ones
attributes_read : (e : Tagged) (given : List Named) → are_names (map name_of given) ≡ true → list_all has_text given ≡ true →
    Reads (At.InAttribute e []) (attributes given) [] (At.InAttribute (record { name = e.name; given = e.given ++ given }) [])
unfolding Reads attribute
attributes_read e [] h text rest = ap (λ (t : List Named). elements_from (At.InAttribute (record { name = e.name; given = t }) []) rest) (sym (append-nil e.given))
attributes_read e (a ∷ given) h text rest =
    let names : List (List ℕ) = map name_of given in
    let other : Bool = not (list_any (bytes_eq a.name) names) in
    let front : (is_name a.name && other) ≡ true = first (is_name a.name && other) (are_names names) h in
    let one = attribute_read e a (first (is_name a.name) other front) (first (has_text a) (list_all has_text given) text) in
    let more = attributes_read (with e a) given (second (is_name a.name && other) (are_names names) h)
    (second (has_text a) (list_all has_text given) text) in
    both (At.InAttribute e []) (At.InAttribute (with e a) []) (At.InAttribute (record { name = e.name; given = (e.given ++ a ∷ []) ++ given }) [])
    (a.name ++ codes "=\"" ++ escaped a.value ++ codes "\"") (attributes given) [] [] one more rest
    ∙ ap (λ (t : List Named). elements_from (At.InAttribute (record { name = e.name; given = t }) []) rest) (append_assoc e.given (a ∷ []) given)

-- ---- tags

abbrev tagged : List ℕ → List Named → Tagged
tagged name given = record { name = name; given = given }

-- a tag that ends in so many bytes: `>` or `/>`
abbrev Ends : List ℕ → Type 0
Ends ending =
    ((b : ℕ) (name : List ℕ) → Reads (At.InName (b ∷ name)) ending (named (b ∷ name) ∷ []) At.Outside)
    × ((e : Tagged) → Reads (At.InAttribute e []) ending (e ∷ []) At.Outside)

-- a tag with attributes or none
tag_read : (ending name : List ℕ) (given : List Named) → is_name name ≡ true → are_names (map name_of given) ≡ true → list_all has_text given ≡ true →
    Ends ending → Reads At.Outside (codes "<" ++ name ++ attributes given ++ ending) (tagged name given ∷ []) At.Outside
unfolding Reads attribute
tag_read ending [] given is names text ends rest = cc
tag_read ending (b ∷ name) [] is names text ends rest =
    let n : List ℕ = b ∷ name in
    let begun : Reads At.Outside (codes "<") [] (At.InName []) = λ more. refl in
    both At.Outside (At.InName n) At.Outside ((codes "<" ++ n) ++ []) ending [] (named n ∷ [])
    (both At.Outside (At.InName n) (At.InName n) (codes "<" ++ n) [] [] []
    (both At.Outside (At.InName []) (At.InName n) (codes "<") n [] [] begun (in_name [] n (bytes_of_name n is))) (λ more. refl)) (ends.0 b name) rest
tag_read ending (b ∷ name) (a ∷ given) is names text ends rest =
    let n : List ℕ = b ∷ name in
    let begun : Reads At.Outside (codes "<") [] (At.InName []) = λ more. refl in
    -- the space in front of the first attribute leads from the name to the attributes
    let spaced : Reads (At.InName n) (attributes (a ∷ given)) [] (At.InAttribute (tagged n (a ∷ given)) []) =
    attributes_read (named n) (a ∷ given) names text in
    both At.Outside (At.InAttribute (tagged n (a ∷ given)) []) At.Outside (codes "<" ++ n ++ attributes (a ∷ given)) ending [] (tagged n (a ∷ given) ∷ [])
    (both At.Outside (At.InName n) (At.InAttribute (tagged n (a ∷ given)) []) (codes "<" ++ n) (attributes (a ∷ given)) [] []
    (both At.Outside (At.InName []) (At.InName n) (codes "<") n [] [] begun (in_name [] n (bytes_of_name n is))) spaced) (ends.1 (tagged n (a ∷ given))) rest

ends_open : Ends (codes ">")
unfolding Reads
ends_open = (λ b name rest. refl, λ e rest. refl)

ends_empty : Ends (codes "/>")
unfolding Reads
ends_empty = (λ b name rest. refl, λ e rest. refl)

closing_read : (name : List ℕ) → is_name name ≡ true → Reads At.Outside (closing name) [] At.Outside
unfolding Reads
closing_read name is rest =
    let begun : Reads At.Outside (codes "</") [] At.InEnd = λ more. refl in
    let ended : Reads At.InEnd (codes ">") [] At.Outside = λ more. refl in
    both At.Outside At.InEnd At.Outside (codes "</" ++ name) (codes ">") [] []
    (both At.Outside At.InEnd At.InEnd (codes "</") name [] [] begun (in_end name (bytes_of_name name is))) ended rest

-- ---- trees

reads : (content : Content) → is_sound content ≡ true → are_readable content ≡ true → Reads At.Outside (printed content) (elements content) At.Outside
unfolding Reads
reads Contents.Nothing sound text rest = refl
reads (Contents.Text words) sound text rest = outside (escaped words) (escaped_begins_none words) rest
reads Contents.Break sound text rest = refl
reads (Contents.Empty name given) sound text rest =
    let names = are_names (map name_of given) in
    tag_read (codes "/>") name given (first (is_name name) names sound) (second (is_name name) names sound) text ends_empty rest
reads (Contents.Element name given inside) sound text rest =
    let names = are_names (map name_of given) in
    let front : (is_name name && names) ≡ true = first (is_name name && names) (is_sound inside) sound in
    let is = first (is_name name) names front in
    let opened = tag_read (codes ">") name given is (second (is_name name) names front) (first (list_all has_text given) (are_readable inside) text) ends_open in
    let held = reads inside (second (is_name name && names) (is_sound inside) sound) (second (list_all has_text given) (are_readable inside) text) in
    both At.Outside At.Outside At.Outside (opening name given ++ printed inside) (closing name) (tagged name given ∷ elements inside) []
    (both At.Outside At.Outside At.Outside (opening name given) (printed inside) (tagged name given ∷ []) (elements inside) opened held)
    (closing_read name is) rest
    ∙ ap (λ (t : List Tagged). tagged name given ∷ t) (ap (λ (t : List Tagged). t ++ elements_from At.Outside rest) (append-nil (elements inside)))
reads (Contents.Both a b) sound text rest =
    both At.Outside At.Outside At.Outside (printed a) (printed b) (elements a) (elements b)
    (reads a (first (is_sound a) (is_sound b) sound) (first (are_readable a) (are_readable b) text))
    (reads b (second (is_sound a) (is_sound b) sound) (second (are_readable a) (are_readable b) text)) rest

pub elements_are_found : (content : Content) → is_sound content ≡ true → are_readable content ≡ true → elements_in (printed content) ≡ elements content
unfolding Reads
elements_are_found content sound text =
    ap elements_in (sym (append-nil (printed content))) ∙ reads content sound text [] ∙ append-nil (elements content)
