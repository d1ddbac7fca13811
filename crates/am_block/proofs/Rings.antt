-- What taking out and putting in leave of a ring.
use Rattle.std.proofs.Common.{append_assoc, append-nil, ◌≡◌, ◌≢◌, ℕ, ◌<◌, List, [], ◌∷◌, ◌++◌, length, get_or, refl, sym, ap, ◌∙◌, subst, arith}
use Rattle.std.proofs.Common.{get_or-set_other, get_or-set_same}
use Rattle.std.proofs.Math.ListN.{set, length-set}
use Rattle.am_block.specs.Ring.{Path, Ring, chain, Off, Apart}

-- x is none of the numbers that a path leaves
abbrev pub SourcesOff : ℕ → ℕ → List ℕ → Type 0
SourcesOff x a [] = Unit {0}
SourcesOff x a (b ∷ bs) = (a ≢ x) × SourcesOff x b bs

-- the last number of a path
abbrev pub last_of : ℕ → List ℕ → ℕ
last_of a [] = a
last_of a (b ∷ bs) = last_of b bs

-- the first of vs, or else h
abbrev pub first_of : List ℕ → ℕ → ℕ
first_of [] h = h
first_of (v ∷ vs) h = v

pub frame : (nx pv : List ℕ) (p v q w a : ℕ) (bs : List ℕ) → SourcesOff p a bs → Off q bs → Path nx pv a bs → Path (set nx p v) (set pv q w) a bs
frame nx pv p v q w a [] so to h = tt
frame nx pv p v q w a (b ∷ bs) so to h =
    let n1 : a ≢ p = so.0 in let n2 : b ≢ q = to.0 in
    (get_or-set_other nx p a v 0 n1 ∙ h.0, get_or-set_other pv q b w 0 n2 ∙ h.1, frame nx pv p v q w b bs so.1 to.1 h.2)

pub path-last : (nx pv : List ℕ) (a s : ℕ) (us ws : List ℕ) → Path nx pv a (us ++ s ∷ ws) → get_or pv s 0 ≡ last_of a us
path-last nx pv a s [] ws h = h.1
path-last nx pv a s (u ∷ us) ws h = path-last nx pv u s us ws h.2

pub path-next : (nx pv : List ℕ) (a s h : ℕ) (us vs : List ℕ) → Path nx pv a (us ++ s ∷ (vs ++ h ∷ [])) → get_or nx s 0 ≡ first_of vs h
path-next nx pv a s h [] [] k = k.2.0
path-next nx pv a s h [] (v ∷ vs) k = k.2.0
path-next nx pv a s h (u ∷ us) vs k = path-next nx pv u s h us vs k.2

-- behind the number that is taken out, no source is p, and nothing points to the first again
abbrev pub TailOff : ℕ → List ℕ → ℕ → Type 0
TailOff p [] h = Unit {0}
TailOff p (v ∷ vs) h = SourcesOff p v (vs ++ h ∷ []) × Off v (vs ++ h ∷ [])

-- the number s is taken out of a path
taken : (nx pv : List ℕ) (a s h p q : ℕ) (us vs : List ℕ) → Path nx pv a (us ++ s ∷ (vs ++ h ∷ [])) → p ≡ last_of a us → q ≡ first_of vs h → p < length nx →
    q < length pv
    → SourcesOff p a us → Off q us → TailOff p vs h → Path (set nx p q) (set pv q p) a (us ++ (vs ++ h ∷ []))
taken nx pv a s h p q [] [] k ep eq lp lq c1 c2 c3 = (
  ap (λ x. get_or (set nx p q) x 0) (sym ep) ∙ get_or-set_same nx p q 0 lp ∙ eq,
  ap (λ x. get_or (set pv q p) x 0) (sym eq) ∙ get_or-set_same pv q p 0 lq
      ∙ ep,
  tt,
)
taken nx pv a s h p q [] (v ∷ vs) k ep eq lp lq c1 c2 c3 =
    let P : ℕ → Type 0 = λ x. Off x (vs ++ h ∷ []) in (
      ap (λ x. get_or (set nx p q) x 0) (sym ep) ∙ get_or-set_same nx p q 0 lp ∙ eq,
      ap (λ x. get_or (set pv q p) x 0) (sym eq) ∙ get_or-set_same pv q p 0 lq ∙ ep,
      frame nx pv p q q p v (vs ++ h ∷ []) c3.0 (subst P (sym eq) c3.1) k.2.2,
    )
taken nx pv a s h p q (u ∷ us) vs k ep eq lp lq c1 c2 c3 =
    (get_or-set_other nx p a q 0 c1.0 ∙ k.0, get_or-set_other pv q u p 0 c2.0 ∙ k.1, taken nx pv u s h p q us vs k.2 ep eq lp lq c1.1 c2.1 c3)

-- the number s is put at the end of a path
put : (nx pv : List ℕ) (a s h t : ℕ) (xs : List ℕ) → Path nx pv a (xs ++ h ∷ []) → t ≡ last_of a xs → t < length nx → s < length nx → s < length pv →
    h < length pv
    → SourcesOff t a xs → a ≢ s → Off s xs → Off h xs → h ≢ s → Path (set (set nx t s) s h) (set (set pv s t) h s) a (xs ++ s ∷ h ∷ [])
put nx pv a s h t [] k et lt ls ls' lh c1 n c2 c3 hs =
    let sh : s ≢ h = λ e. hs (sym e) in
    let l1 : s < length (set nx t s) = omega (arith, length-set nx t s) in
    let l2 : h < length (set pv s t) = omega (arith, length-set pv s t) in (
      get_or-set_other (set nx t s) s a h 0 n ∙ ap (λ x. get_or (set nx t s) x 0) (sym et) ∙ get_or-set_same nx t s 0 lt,
      get_or-set_other (set pv s t) h s s 0 sh ∙ get_or-set_same pv s t 0 ls' ∙ et,
      (
        get_or-set_same (set nx t s) s h 0 l1,
        get_or-set_same (set pv s t) h s 0 l2,
        tt,
      ),
    )
put nx pv a s h t (x ∷ xs) k et lt ls ls' lh c1 n c2 c3 hs = (
  get_or-set_other (set nx t s) s a h 0 n ∙ get_or-set_other nx t a s 0 c1.0 ∙ k.0,
  get_or-set_other (set pv s t) h x s 0 c3.0 ∙ get_or-set_other pv s x t 0 c2.0 ∙ k.1,
  put nx pv x s h t xs k.2 et lt ls ls' lh c1.1 c2.0 c2.1 c3.1 hs,
)

pub ring-chain : (nx pv : List ℕ) (a h : ℕ) (xs : List ℕ) → Path nx pv a (xs ++ h ∷ []) → chain nx (get_or nx a 0) (length xs) ≡ xs
ring-chain nx pv a h [] k = refl
ring-chain nx pv a h (x ∷ xs) k = ap (λ y. y ∷ chain nx (get_or nx y 0) (length xs)) k.0 ∙ ap (λ ys. x ∷ ys) (ring-chain nx pv x h xs k.2)

-- what being apart says
pub off-left : (x : ℕ) (us ws : List ℕ) → Off x (us ++ ws) → Off x us
off-left x [] ws h = tt
off-left x (u ∷ us) ws h = (h.0, off-left x us ws h.1)

pub off-right : (x : ℕ) (us ws : List ℕ) → Off x (us ++ ws) → Off x ws
off-right x [] ws h = h
off-right x (u ∷ us) ws h = off-right x us ws h.1

pub off-append : (x : ℕ) (us ws : List ℕ) → Off x us → Off x ws → Off x (us ++ ws)
off-append x [] ws h k = k
off-append x (u ∷ us) ws h k = (h.0, off-append x us ws h.1 k)

apart-right : (us ws : List ℕ) → Apart (us ++ ws) → Apart ws
apart-right [] ws h = h
apart-right (u ∷ us) ws h = apart-right us ws h.1

off-last : (x u : ℕ) (us ws : List ℕ) → Off x (u ∷ (us ++ ws)) → last_of u us ≢ x
off-last x u [] ws h = h.0
off-last x u (v ∷ us) ws h = off-last x v us ws h.1

last-off : (a : ℕ) (us ws : List ℕ) → Apart (a ∷ (us ++ ws)) → Off (last_of a us) ws
last-off a [] ws h = h.0
last-off a (u ∷ us) ws h = last-off u us ws h.1

sources-last : (a : ℕ) (us ws : List ℕ) → Apart (a ∷ (us ++ ws)) → SourcesOff (last_of a us) a us
sources-last a [] ws h = tt
sources-last a (u ∷ us) ws h = let n : last_of u us ≢ a = off-last a u us ws h.0 in ((λ e. n (sym e)), sources-last u us ws h.1)

pub sources-off : (p a h : ℕ) (xs : List ℕ) → a ≢ p → Off p xs → SourcesOff p a (xs ++ h ∷ [])
sources-off p a h [] n o = (n, tt)
sources-off p a h (x ∷ xs) n o = (n, sources-off p x h xs o.0 o.1)

first-off : (s v : ℕ) (us vs : List ℕ) → Apart (us ++ s ∷ v ∷ vs) → Off v us
first-off s v [] vs h = tt
first-off s v (u ∷ us) vs h = let n : v ≢ u = (off-right u us (s ∷ v ∷ vs) h.0).1.0 in ((λ e. n (sym e)), first-off s v us vs h.1)

q-off : (h s : ℕ) (us vs : List ℕ) → Apart (h ∷ (us ++ s ∷ vs)) → Off (first_of vs h) us
q-off h s us [] a = off-left h us (s ∷ []) a.0
q-off h s us (v ∷ vs) a = first-off s v us vs a.1

tail-off : (h s : ℕ) (us vs : List ℕ) → Apart (h ∷ (us ++ s ∷ vs)) → TailOff (last_of h us) vs h
tail-off h s us [] a = tt
tail-off h s us (v ∷ vs) a =
    let p : Off (last_of h us) (s ∷ v ∷ vs) = last-off h us (s ∷ v ∷ vs) a in
    let t : Apart (s ∷ v ∷ vs) = apart-right us (s ∷ v ∷ vs) a.1 in
    let n : v ≢ h = (off-right h us (s ∷ v ∷ vs) a.0).1.0 in
    (sources-off (last_of h us) v h vs p.1.0 p.1.1, off-append v vs (h ∷ []) t.1.0 ((λ e. n (sym e)), tt))

-- a ring loses s
pub ring-take : (nx pv : List ℕ) (h s : ℕ) (us vs : List ℕ) → Apart (h ∷ (us ++ s ∷ vs)) → Ring nx pv h (us ++ s ∷ vs) → get_or pv s 0 < length nx →
    get_or nx s 0 < length pv
    → Ring (set nx (get_or pv s 0) (get_or nx s 0)) (set pv (get_or nx s 0) (get_or pv s 0)) h (us ++ vs)
ring-take nx pv h s us vs a r lp lq =
    let k : Path nx pv h (us ++ s ∷ (vs ++ h ∷ [])) = subst (λ (zs : List ℕ). Path nx pv h zs) (append_assoc us (s ∷ vs) (h ∷ [])) r in
    let ep = path-last nx pv h s us (vs ++ h ∷ []) k in
    let eq = path-next nx pv h s h us vs k in
    let p = get_or pv s 0 in
    let q = get_or nx s 0 in
    subst (λ (zs : List ℕ). Path (set nx p q) (set pv q p) h zs) (sym (append_assoc us vs (h ∷ [])))
    (taken nx pv h s h p q us vs k ep eq lp lq
    (subst (λ (x : ℕ). SourcesOff x h us) (sym ep) (sources-last h us (s ∷ vs) a))
    (subst (λ (x : ℕ). Off x us) (sym eq) (q-off h s us vs a))
    (subst (λ (x : ℕ). TailOff x vs h) (sym ep) (tail-off h s us vs a)))

-- another ring stays
pub ring-frame : (nx pv : List ℕ) (p v q w h : ℕ) (xs : List ℕ) → Off p (h ∷ xs) → Off q (h ∷ xs) → Ring nx pv h xs → Ring (set nx p v) (set pv q w) h xs
ring-frame nx pv p v q w h xs op oq r = frame nx pv p v q w h (xs ++ h ∷ []) (sources-off p h h xs op.0 op.1) (off-append q xs (h ∷ []) oq.1 (oq.0, tt)) r

-- a ring gets s at its end
pub ring-put : (nx pv : List ℕ) (h s : ℕ) (xs : List ℕ) → Apart (h ∷ xs) → Off s (h ∷ xs) → Ring nx pv h xs → get_or pv h 0 < length nx → s < length nx →
    s < length pv → h < length pv
    → Ring (set (set nx (get_or pv h 0) s) s h) (set (set pv s (get_or pv h 0)) h s) h (xs ++ s ∷ [])
ring-put nx pv h s xs a o r lt ls ls' lh =
    let t = get_or pv h 0 in
    let et = path-last nx pv h h xs [] r in
    let a' : Apart (h ∷ (xs ++ [])) = subst (λ (zs : List ℕ). Apart (h ∷ zs)) (sym (append-nil xs)) a in
    subst (λ (zs : List ℕ). Path (set (set nx t s) s h) (set (set pv s t) h s) h zs) (sym (append_assoc xs (s ∷ []) (h ∷ [])))
    (put nx pv h s h t xs r et lt ls ls' lh
    (subst (λ (x : ℕ). SourcesOff x h xs) (sym et) (sources-last h xs [] a'))
    o.0 o.1 a.0 o.0)
