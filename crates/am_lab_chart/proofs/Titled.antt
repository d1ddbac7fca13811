-- Contents that are sound, and the titles that they hold.
use Rattle.std.proofs.Common.{◌≡◌, ℕ, Bool, true, false, ◌&&◌, List, [], ◌∷◌, ◌++◌, codes, flat_map, map, refl, if◌then◌else◌}
use Rattle.am_lab_chart.specs.Captions.{holding, joined, title, titled}
use Rattle.am_lab_chart.proofs.Lines.{AreTexts, joined_is_text}
use Rattle.am_lab_xml.specs.Escaped.{is_text}
use Rattle.am_lab_xml.specs.Reading.{are_led, are_texts, first_texts, is_bare, texts}
use Rattle.am_lab_xml.specs.Trees.{Content, Named, are_names, each, is_name, is_sound, name_of}
use Rattle.am_lab_xml.specs.Trees.{Content as Contents}

-- sound; these are the texts of its title elements, which hold texts alone, and of those with which its rows begin
pub record Holds (rows titles : List (List ℕ)) (content : Content) : Type 0 where
  pub sound : is_sound content ≡ true
  pub plain : are_texts (codes "title") content ≡ true
  pub led : are_led (codes "g") (codes "title") content ≡ true
  pub titles' : texts (codes "title") content ≡ titles
  pub rows' : first_texts (codes "g") content ≡ rows

-- and it has no rows
abbrev pub Has : List (List ℕ) → Content → Type 0
Has titles content = Holds [] titles content

pub nothing : Has [] Contents.Nothing
nothing = record { sound = refl; plain = refl; led = refl; titles' = refl; rows' = refl }

pub break : Has [] Contents.Break
break = record { sound = refl; plain = refl; led = refl; titles' = refl; rows' = refl }

pub both : {q r s t : List (List ℕ)} (a b : Content) → Holds q s a → Holds r t b → Holds (q ++ r) (s ++ t) (Contents.Both a b)
both a b h k =
    record {
      sound = rw (h.sound, k.sound) refl;
      plain = rw (h.plain, k.plain) refl;
      led = rw (h.led, k.led) refl;
      titles' = rw (h.titles', k.titles') refl;
      rows' = rw (h.rows', k.rows') refl;
    }

pub element : {r t : List (List ℕ)} (name : List ℕ) (given : List Named) (inside : Content) → (is_name name && are_names (map name_of given)) ≡ true →
    is_bare (codes "title") name given ≡ false → is_bare (codes "g") name given ≡ false → Holds r t inside → Holds r t (Contents.Element name given inside)
element name given inside names other no_row h =
    record {
      sound = rw (names, h.sound) refl;
      plain = rw other h.plain;
      led = rw no_row h.led;
      titles' = rw other h.titles';
      rows' = rw no_row h.rows';
    }

pub either : (b : Bool) (a c : Content) (s t : List (List ℕ)) → Has s a → Has t c → Has (if b then s else t) (if b then a else c)
either true a c s t h k = h
either false a c s t h k = k

pub choice : {t : List (List ℕ)} (b : Bool) (a c : Content) → Has t a → Has t c → Has t (if b then a else c)
choice true a c h k = h
choice false a c h k = k

pub a_text : (t : List ℕ) → Has [] (Contents.Text t)
a_text t = record { sound = refl; plain = refl; led = refl; titles' = refl; rows' = refl }

pub a_title : (t : List ℕ) → is_text t ≡ true → Has (t ∷ []) (title t)
unfolding holding
a_title t h = record { sound = refl; plain = h; led = refl; titles' = refl; rows' = refl }

-- an element under a title
pub under_title : (name : List ℕ) (given : List Named) (told words : List (List ℕ)) → (is_name name && are_names (map name_of given)) ≡ true →
    is_bare (codes "title") name given ≡ false → is_bare (codes "g") name given ≡ false → AreTexts told → Has (joined told ∷ []) (titled name given told words)
unfolding titled
under_title name given told words names other no_row h =
    element name given (Contents.Both (title (joined told)) (Contents.Text (joined words))) names other no_row
    (both (title (joined told)) (Contents.Text (joined words)) (a_title (joined told) (joined_is_text told h)) (a_text (joined words)))

module _ {X : Type 0} where
  pub each_has : (f : X → Content) → ((x : X) → Has [] (f x)) → (xs : List X) → Has [] (each f xs)
  each_has f h [] = nothing
  each_has f h (x ∷ xs) = both (f x) (each f xs) (h x) (each_has f h xs)

  pub each_with : (f : X → Content) (titles : X → List (List ℕ)) → ((x : X) → Has (titles x) (f x)) → (xs : List X) → Has (flat_map titles xs) (each f xs)
  each_with f titles h [] = nothing
  each_with f titles h (x ∷ xs) = both (f x) (each f xs) (h x) (each_with f titles h xs)

  pub each_under : (f : X → Content) (title : X → List ℕ) → ((x : X) → Has (title x ∷ []) (f x)) → (xs : List X) → Has (map title xs) (each f xs)
  each_under f title h [] = nothing
  each_under f title h (x ∷ xs) = both (f x) (each f xs) (h x) (each_under f title h xs)

  pub each_row : (f : X → Content) (title : X → List ℕ) → ((x : X) → Holds (title x ∷ []) (title x ∷ []) (f x)) → (xs : List X) →
      Holds (map title xs) (map title xs) (each f xs)
  each_row f title h [] = nothing
  each_row f title h (x ∷ xs) = both (f x) (each f xs) (h x) (each_row f title h xs)
