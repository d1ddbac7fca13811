-- What is known of the places in a line.
use Rattle.std.proofs.Common.{◌≡◌, ℕ, ◌+◌, ◌<◌, ◌≤◌, ◌^◌, Bool, true, false, List, [], ◌∷◌, take, drop, Option, Some, None, refl, sym, ap, ◌∙◌, subst, arith}
use Rattle.std.proofs.Common.{rules}
use Rattle.std.specs.Prelude.{◌==◌, ◌&&◌, nat_lt, nat_le, if◌then◌else◌, IsSome, codes}
use Rattle.std.specs.List.{All, position}
use Rattle.std.specs.Option.{option_map}
use Rattle.std.specs.Str.{bytes_eq}
use Rattle.std.proofs.lemmas.List.Elements.{All-nil, All-cons}
use Rattle.std.proofs.lemmas.Bool.{and_parts, ltb-true, eqb-true, leb-true}
use Rattle.am_lemmas.proofs.Lists.{find_passes}
use Rattle.am_lexer.specs.declared.what.What.TheVariants.{BadNumber, OutOfRange, Undeclared}
use Rattle.am_lexer.specs.Text.{number_of, value_after}
use Rattle.am_lexer.specs.Fields.{or_else, word_at, number_at, within}
use Rattle.am_names.specs.declared.EndpointId.{EndpointId}
use Rattle.am_names.specs.declared.NodeId.{NodeId}
use Rattle.am_names.specs.declared.Tag.{Tag}
use Rattle.am_names.specs.declared.Serial.{Serial}
use Rattle.am_bundle.specs.Lists.{BundleLists}
use Rattle.am_scenario_types.specs.declared.parts.EndLine.{EndLine}
use Rattle.am_scenario_types.specs.Lawful.{IsWithin, IsDeclared, IsOn, IsLawfulSerial}
use Rattle.am_scenario.specs.declared.drafts.settings.Settings.{Settings}
use Rattle.am_scenario.specs.Drafts.Said.{Said, node_count, end_of, bundle_of}
use Rattle.am_scenario.specs.Lines.Places.{below, node_at, is_wanted, end_word, end_at, is_there, is_on, are_on, bundle_at, tag_at, and_then, serial_of}
use Rattle.am_scenario.specs.Lines.Places.{serial_at}
use Rattle.am_scenario.proofs.Meets.{Meets, refuses, gives, bind, test, anything, found}

-- ---- numbers

if_some : {A : Type 0} (b : Bool) (x y : A) → (if b then Some x else None) ≡ Some y → (b ≡ true) × (x ≡ y)
if_some true x y e = (refl, cc)
if_some false x y e = absurd (cc)

pub number_is_small : (word : List ℕ) (n : ℕ) → number_of word ≡ Some n → n < 2 ^ 64
unfolding number_of
number_is_small word n e =
    let fits = if_some _ _ _ e in
    let small : nat_lt (value_after 0 word) (2 ^ 64) ≡ true = (and_parts _ _ fits.0).1 in
    subst (λ (m : ℕ). m < 2 ^ 64) fits.1 (ltb-true _ _ small)

pub a_number : (words : List (List ℕ)) → Meets (λ (n : ℕ × List (List ℕ)). n.0 < 2 ^ 64) (number_at words)
unfolding number_at
a_number words =
    bind (word_at words) _ (anything (word_at words)) (λ word _.
    bind (or_else BadNumber (number_of word.0)) _ (found BadNumber (number_of word.0)) (λ n e.
    gives (λ (n : ℕ × List (List ℕ)). n.0 < 2 ^ 64) (n, word.1) (number_is_small word.0 n e)))

pub is_within : (low high : ℕ) (words : List (List ℕ)) → Meets (λ (n : ℕ × List (List ℕ)). IsWithin low high n.0) (within low high words)
unfolding within
is_within low high words =
    bind (number_at words) _ (anything (number_at words)) (λ n _.
    test (nat_le low n.0 && nat_le n.0 high) _ _
    (λ e. let ranges = and_parts (nat_le low n.0) (nat_le n.0 high) e in gives (λ (n : ℕ × List (List ℕ)). IsWithin low high n.0) n (
      leb-true low n.0 ranges.0,
      leb-true n.0 high ranges.1,
    ))
    (λ e. refuses (λ (n : ℕ × List (List ℕ)). IsWithin low high n.0) OutOfRange))

pub is_below : (limit : ℕ) (words : List (List ℕ)) → Meets (λ (n : ℕ × List (List ℕ)). n.0 < limit) (below limit words)
unfolding below
is_below limit words =
    bind (number_at words) _ (anything (number_at words)) (λ n _.
    test (nat_lt n.0 limit) _ _
    (λ e. gives (λ (n : ℕ × List (List ℕ)). n.0 < limit) n (ltb-true n.0 limit e))
    (λ e. refuses (λ (n : ℕ × List (List ℕ)). n.0 < limit) OutOfRange))

pub a_node : (settings : Settings) (words : List (List ℕ)) → Meets (λ (n : NodeId × List (List ℕ)). n.0.0 < node_count settings) (node_at settings words)
unfolding node_at
a_node settings words =
    bind (below (node_count settings) words) _ (is_below (node_count settings) words) (λ n h.
    gives (λ (n : NodeId × List (List ℕ)). n.0.0 < node_count settings) (record { 0 = n.0 }, n.1) h)

pub a_tag : (words : List (List ℕ)) → Meets (λ (t : Tag × List (List ℕ)). t.0.0 < 2 ^ 64) (tag_at words)
unfolding tag_at
a_tag words =
    let Small : (Tag × List (List ℕ)) → Type 0 = λ t. t.0.0 < 2 ^ 64 in
    bind (word_at words) _ (anything (word_at words)) (λ word _.
    test (bytes_eq word.0 (codes "none")) _ _ (λ e. gives Small (record { 0 = 0 }, word.1) (omega arith)) (λ e1.
    test (bytes_eq word.0 (codes "all")) _ _ (λ e. gives Small (record { 0 = 0xffff_ffff_ffff_ffff }, word.1) (omega arith)) (λ e2.
    bind (or_else BadNumber (number_of word.0)) _ (found BadNumber (number_of word.0)) (λ n e.
    gives Small (record { 0 = n }, word.1) (number_is_small word.0 n e)))))

-- ---- serials

and_then_some : {A B : Type 0} (o : Option A) (f : A → Option B) (y : B) → and_then o f ≡ Some y → (x : A) × (f x ≡ Some y)
and_then_some (Some x) f y e = (x, e)
and_then_some None f y e = absurd (cc)

serial_is_small : (word : List ℕ) (serial : Serial) → serial_of word ≡ Some serial → IsLawfulSerial serial
unfolding serial_of
serial_is_small word serial e =
    let dot = and_then_some (position (λ byte. byte == 46) word) _ serial e in
    let source = and_then_some (number_of (take dot.0 word)) _ serial dot.1 in
    let count = and_then_some (number_of (drop (dot.0 + 1) word)) _ serial source.1 in
    let fits = if_some (nat_le source.0 255 && nat_le count.0 0xffff_ffff) _ serial count.1 in
    let ranges = and_parts (nat_le source.0 255) (nat_le count.0 0xffff_ffff) fits.0 in
    let first : source.0 ≤ 255 = leb-true _ _ ranges.0 in
    let second : count.0 ≤ 0xffff_ffff = leb-true _ _ ranges.1 in
    subst (λ (s : Serial). IsLawfulSerial s) fits.1 (first, omega arith)

pub a_serial : (words : List (List ℕ)) → Meets (λ (s : Serial × List (List ℕ)). IsLawfulSerial s.0) (serial_at words)
unfolding serial_at
a_serial words =
    bind (word_at words) _ (anything (word_at words)) (λ word _.
    bind (or_else BadNumber (serial_of word.0)) _ (found BadNumber (serial_of word.0)) (λ s e.
    gives (λ (s : Serial × List (List ℕ)). IsLawfulSerial s.0) (s, word.1) (serial_is_small word.0 s e)))

-- ---- endpoints and bundles

-- the endpoint that was found is declared under its own number, on its node
pub found_is_on : (said : Said) (id : ℕ) (end : EndLine) → end_of said id ≡ Some end → IsOn said.ends end.node end.id
found_is_on said id end e =
    let same : end.id.0 ≡ id = eqb-true end.id.0 id (find_passes (λ end. end.id.0 == id) said.ends end e) in
    let again : end_of said end.id.0 ≡ Some end = ap (λ (n : ℕ). end_of said n) same ∙ e in
    ap (λ (o : Option EndLine). option_map (λ end. end.node) o) again

-- an endpoint that is declared, on the node that is wanted, if one is
abbrev pub IsEndFor : Said → Option NodeId → EndpointId → Type 0
IsEndFor said None id = IsDeclared said.ends id
IsEndFor said (Some node) id = IsOn said.ends node id

pub on_is_declared : (ends : List EndLine) (node : NodeId) (id : EndpointId) → IsOn ends node id → IsDeclared ends id
on_is_declared ends node id h = subst (λ (o : Option NodeId). IsSome o) (sym h) (search rules)

wanted_is_end : (said : Said) (wanted : Option NodeId) (end : EndLine) → is_wanted wanted end.node ≡ true → IsOn said.ends end.node end.id →
    IsEndFor said wanted end.id
wanted_is_end said None end same on = on_is_declared said.ends end.node end.id on
wanted_is_end said (Some node) end same on =
    let equal : end.node.0 ≡ node.0 = eqb-true end.node.0 node.0 same in
    let nodes : end.node ≡ node = ap (λ (n : ℕ). let r : NodeId = record { 0 = n } in r) equal in
    on ∙ ap (λ (n : NodeId). Some n) nodes

-- a word for an endpoint
pub an_end_word : (said : Said) (wanted : Option NodeId) (word : List ℕ)
    → Meets (λ (end : EndLine). IsOn said.ends end.node end.id × IsEndFor said wanted end.id) (end_word said wanted word)
unfolding end_word
an_end_word said wanted word =
    let Good : EndLine → Type 0 = λ end. IsOn said.ends end.node end.id × IsEndFor said wanted end.id in
    bind (or_else BadNumber (number_of word)) _ (anything (or_else BadNumber (number_of word))) (λ id _.
    bind (or_else Undeclared (end_of said id)) _ (found Undeclared (end_of said id)) (λ end e.
    test (is_wanted wanted end.node) _ _
    (λ same. let on = found_is_on said id end e in gives Good end (on, wanted_is_end said wanted end same on))
    (λ other. refuses Good OutOfRange)))

pub an_end : (said : Said) (wanted : Option NodeId) (words : List (List ℕ)) →
    Meets (λ (end : EndpointId × List (List ℕ)). IsEndFor said wanted end.0) (end_at said wanted words)
unfolding end_at
an_end said wanted words =
    bind (word_at words) _ (anything (word_at words)) (λ word _.
    bind (end_word said wanted word.0) _ (an_end_word said wanted word.0) (λ end h.
    gives (λ (end : EndpointId × List (List ℕ)). IsEndFor said wanted end.0) (end.id, word.1) h.1))

there_is_on : (node : NodeId) (o : Option EndLine) → is_there node o ≡ true → option_map (λ end. end.node) o ≡ Some node
there_is_on node (Some end) e =
    let equal : end.node.0 ≡ node.0 = eqb-true end.node.0 node.0 e in
    ap (λ (n : ℕ). let r : Option NodeId = Some (record { 0 = n }) in r) equal
there_is_on node None e = absurd (cc)

pub all_are_on : (said : Said) (node : NodeId) (members : List EndpointId) → are_on said node members ≡ true → All (IsOn said.ends node) members
all_are_on said node [] e = All-nil (IsOn said.ends node)
all_are_on said node (member ∷ members) e =
    let parts = and_parts (is_on said node member) (are_on said node members) e in
    All-cons (IsOn said.ends node) member members (there_is_on node (end_of said member.0) parts.0) (all_are_on said node members parts.1)

pub a_bundle : (said : Said) (node : NodeId) (words : List (List ℕ)) →
    Meets (λ (bundle : BundleLists × List (List ℕ)). All (IsOn said.ends node) bundle.0.members) (bundle_at said node words)
unfolding bundle_at
a_bundle said node words =
    let Good : (BundleLists × List (List ℕ)) → Type 0 = λ bundle. All (IsOn said.ends node) bundle.0.members in
    bind (number_at words) _ (anything (number_at words)) (λ number _.
    bind (or_else Undeclared (bundle_of said number.0)) _ (found Undeclared (bundle_of said number.0)) (λ bundle e.
    test (are_on said node bundle.members) _ _
    (λ on. gives Good (bundle, number.1) (all_are_on said node bundle.members on))
    (λ off. refuses Good OutOfRange)))
