-- What decoding finds, by what is found as lists.
use Rattle.std.specs.Prelude.{◌≡◌, ◌↔◌, ℕ, true, Option, None, Some, List, [], IfErr, Result, Ok, Err, is_some}
use Rattle.std.proofs.Common.{refl, sym, ap, subst, ◌∙◌}
use Rattle.am_names.specs.declared.EndpointId.{EndpointId}
use Rattle.am_endpoint_body.specs.Views.{View}
use Rattle.am_model.specs.Endpoint.{Body}
use Rattle.am_swap_image.specs.Reading.{whole_body}
use Rattle.am_swap_image.proofs.Bodies.{each_body_has_its_image, is_written, whole_again}
use Rattle.am_swap_codec.specs.Decodes.{Decodes, reads_as_body}
use Rattle.am_swap.specs.Decoded.{FindsEach, NoBodyHas}

-- the lists that were found
pub found_lists : (e : EndpointId) (pool : Option ℕ) (bytes : List ℕ) (found : Option Body) (b : Body) → found ≡ Some b → Decodes e pool bytes found →
    Decodes e pool bytes (Some b)
found_lists e pool bytes found b is h = subst (λ (o : Option Body). Decodes e pool bytes o) is h

-- each body whose image the bytes are is the one that is made of the lists
pub finds_each : (e : EndpointId) (pool : Option ℕ) (bytes : List ℕ) (b : Body) (w : View) → Decodes e pool bytes (Some b) →
    w ≡ record { pool = pool; body = b; flights = [] } → FindsEach e pool bytes (Some w)
finds_each e pool bytes b w found is v i =
    let body : b ≡ v.body = each_body_has_its_image e pool b v.body found.1 i.valid (found.0 ∙ sym i.image_is) in
    let whole : w ≡ v = is ∙ ap (λ (c : Body). let u : View = record { pool = pool; body = c; flights = [] } in u) body
    ∙ ap (λ (p : Option ℕ). let u : View = record { pool = p; body = v.body; flights = [] } in u) (sym i.own_pool)
    ∙ ap (λ (xs : List ℕ). let u : View = record { pool = v.pool; body = v.body; flights = xs } in u) (sym i.none_flies) in
    ap (λ (u : View). Some u) whole

-- a body was found, so one has the bytes
pub some_has : (e : EndpointId) (pool : Option ℕ) (bytes : List ℕ) (b : Body) (w : View) → Decodes e pool bytes (Some b) →
    (Some w ≡ None) ↔ NoBodyHas e pool bytes
some_has e pool bytes b w found = ((λ h. absurd (let both : Some w ≡ None = h in cc)), (λ none. absurd (none b found.1 found.0)))

pub none_has : (e : EndpointId) (pool : Option ℕ) (bytes : List ℕ) (found : Option Body) → found ≡ None → Decodes e pool bytes found →
    ◌≡◌ {A = Option View} None None ↔ NoBodyHas e pool bytes
none_has e pool bytes found is h = ((λ none. subst (λ (o : Option Body). Decodes e pool bytes o) is h), (λ none. refl))

-- bytes in which a body was found read as a body, whatever is answered
pub some_reads : {T E : Type 0} (answer : Result T E) (e : EndpointId) (pool : Option ℕ) (bytes : List ℕ) (b : Body) → Decodes e pool bytes (Some b) →
    IfErr answer (λ fault. reads_as_body e bytes ≡ true)
some_reads (Ok found') e pool bytes b found = tt
some_reads (Err fault) e pool bytes b found =
    ap (λ (read : Option Body). is_some read) (ap (whole_body e) (sym found.0) ∙ whole_again e b (is_written e pool b found.1))
