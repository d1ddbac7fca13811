-- What a body holds, in numbers.
use Rattle.std.proofs.Common.{◌≡◌, ℕ, ◌+◌, ◌≤◌, List, length, ap, ◌∙◌, arith}
use Rattle.std.specs.List.{count_by}
use Rattle.std.proofs.lemmas.List.{length-map}
use Rattle.am_names.specs.Names.{is_reply, is_request}
use Rattle.am_block.specs.declared.Descriptor.{Descriptor}
use Rattle.am_model.specs.Calls.{messages_held}
use Rattle.am_model.specs.Endpoint.{replies_held, requests_held}
use Rattle.am_model.specs.declared.Flying.{Flying}
use Rattle.am_model.specs.declared.Notice.{Notice}
use Rattle.am_endpoint_body.specs.declared.Body.TheInside.{Inside}
use Rattle.am_endpoint_body.specs.declared.walks.Sought.TheVariants as Soughts
use Rattle.am_endpoint_body.specs.Kept.{IsSound, view_of}
use Rattle.am_endpoint_body.specs.Views.{View, descriptor_at, flying_in, notice_in, queued_in, seen}
use Rattle.am_endpoint_body.specs.Walks.{is_sought_at}
use Rattle.am_endpoint_body.proofs.Seen.{count-seen}

length-seen : {X : Type 0} (f : Descriptor → X) (ds : List Descriptor) (xs : List ℕ) → length (seen f ds xs) ≡ length xs
length-seen f ds xs = length-map xs (λ s. f (descriptor_at ds s))

pub requests_counted : (i : Inside) (v : View) (a b c : ℕ) → view_of i ≡ v → a ≡ length i.block.requests →
    b ≡ count_by (λ s. is_sought_at Soughts.Request i.block s) i.block.in_flight → c ≡ count_by (λ s. is_sought_at Soughts.Request i.block s) i.block.notices →
    a + b + c ≡ requests_held v.body
requests_counted i v a b c e queued flying back =
    let fs = count-seen flying_in (λ (f : Flying). is_request f.message) i.block.descriptors i.block.in_flight in
    let ns = count-seen notice_in (λ (n : Notice). is_request n.message) i.block.descriptors i.block.notices in
    let here : a + b + c ≡ requests_held (view_of i).body = omega (
      arith,
      queued,
      flying,
      back,
      fs,
      ns,
      length-seen queued_in i.block.descriptors i.block.requests,
    ) in
    here ∙ ap (λ (w : View). requests_held w.body) e

pub replies_counted : (i : Inside) (v : View) (a b c : ℕ) → view_of i ≡ v → a ≡ length i.block.replies →
    b ≡ count_by (λ s. is_sought_at Soughts.Reply i.block s) i.block.in_flight → c ≡ count_by (λ s. is_sought_at Soughts.Reply i.block s) i.block.notices →
    a + b + c ≡ replies_held v.body
replies_counted i v a b c e queued flying back =
    let fs = count-seen flying_in (λ (f : Flying). is_reply f.message) i.block.descriptors i.block.in_flight in
    let ns = count-seen notice_in (λ (n : Notice). is_reply n.message) i.block.descriptors i.block.notices in
    let here : a + b + c ≡ replies_held (view_of i).body = omega (
      arith,
      queued,
      flying,
      back,
      fs,
      ns,
      length-seen queued_in i.block.descriptors i.block.replies,
    ) in
    here ∙ ap (λ (w : View). replies_held w.body) e

pub messages_counted : (i : Inside) (v : View) (a b c d : ℕ) → view_of i ≡ v → a ≡ length i.block.requests → b ≡ length i.block.replies →
    c ≡ length i.block.in_flight → d ≡ length i.block.notices → a + b + c + d ≡ messages_held v.body
messages_counted i v a b c d e requests replies flying back =
    let here : a + b + c + d ≡ messages_held (view_of i).body =
    omega (
      arith,
      requests,
      replies,
      flying,
      back,
      length-seen queued_in i.block.descriptors i.block.requests,
      length-seen queued_in i.block.descriptors i.block.replies,
      length-seen flying_in i.block.descriptors i.block.in_flight,
      length-seen notice_in i.block.descriptors i.block.notices,
    ) in
    here ∙ ap (λ (w : View). messages_held w.body) e

-- four lists together are no longer than there are slots
pub four_few : (i : Inside) → IsSound i → length i.block.requests + length i.block.replies + length i.block.in_flight + length i.block.notices ≤ 80
four_few i ok = omega (arith, ok.block.all_stand, ok.slots)
