-- Which parcels a receiver takes no more, in numbers.
use Rattle.std.proofs.Common.{◌≡◌, ℕ, ◌+◌, ◌<◌, ◌≤◌, arith}

-- The receiver at a point of its life: its incarnation, the newest sender that it met, and its mark, which weighs 1 if it
-- accepted and else 0.
pub record Point : Type 0 where
  pub incarnation : ℕ
  pub newest : ℕ
  pub seq : ℕ
  pub attempt : ℕ
  pub weight : ℕ

-- a parcel's numbers
pub record Numbers : Type 0 where
  pub receiver : ℕ
  pub sender : ℕ
  pub seq : ℕ
  pub attempt : ℕ

-- the receiver takes no parcel with these numbers any more
pub record IsClosed (o : Point) (p : Numbers) : Type 0 where
  pub life : p.receiver ≤ o.incarnation
  pub sender' : p.receiver ≡ o.incarnation → p.sender ≤ o.newest
  pub binding : p.receiver ≡ o.incarnation → p.sender ≡ o.newest → p.seq ≤ o.seq
  pub try : p.receiver ≡ o.incarnation → p.sender ≡ o.newest → p.seq ≡ o.seq → o.weight ≡ 0 → p.attempt ≤ o.attempt

-- it takes no parcel of this binding any more
pub record IsSettled (o : Point) (p : Numbers) : Type 0 where
  pub life : p.receiver ≤ o.incarnation
  pub sender' : p.receiver ≡ o.incarnation → p.sender ≤ o.newest
  pub binding : p.receiver ≡ o.incarnation → p.sender ≡ o.newest → p.seq ≤ o.seq
  pub accepted : p.receiver ≡ o.incarnation → p.sender ≡ o.newest → p.seq ≡ o.seq → 1 ≤ o.weight

-- the receiver takes a parcel with these numbers
pub record IsFresh (o : Point) (p : Numbers) : Type 0 where
  pub own : p.receiver ≡ o.incarnation
  pub met : p.sender ≡ o.newest
  pub later : o.seq ≤ p.seq
  pub again : p.seq ≡ o.seq → (o.weight ≡ 0) × (o.attempt < p.attempt)

-- two parcels of one binding
pub record IsSame (p q : Numbers) : Type 0 where
  pub receiver : p.receiver ≡ q.receiver
  pub sender' : p.sender ≡ q.sender
  pub seq : p.seq ≡ q.seq

-- a closed parcel isn't fresh
pub not_fresh : (o : Point) (p : Numbers) → IsClosed o p → IsFresh o p → ⊥
not_fresh o p c f =
    let same : p.seq ≡ o.seq = omega (arith, c.binding f.own f.met) in
    let again : (o.weight ≡ 0) × (o.attempt < p.attempt) = f.again same in
    omega (arith, c.try f.own f.met same again.0)

-- a parcel of a settled binding is closed
pub settled_closed : (o : Point) (p q : Numbers) → IsSettled o p → IsSame p q → IsClosed o q
settled_closed o p q c same =
    record {
      life = omega arith;
      sender' = λ e. omega (arith, c.sender' (omega arith));
      binding = λ e g. omega (arith, c.binding (omega arith) (omega arith));
      try = λ e g h k. omega (arith, c.accepted (omega arith) (omega arith) (omega arith));
    }

-- a closed parcel closes those of its binding with no later attempt
pub earlier_closed : (o : Point) (p q : Numbers) → IsClosed o p → IsSame p q → q.attempt ≤ p.attempt → IsClosed o q
earlier_closed o p q c same le =
    record {
      life = omega arith;
      sender' = λ e. omega (arith, c.sender' (omega arith));
      binding = λ e g. omega (arith, c.binding (omega arith) (omega arith));
      try = λ e g h k. omega (arith, c.try (omega arith) (omega arith) (omega arith) k);
    }

-- the point after a fresh parcel with a verdict of this weight
abbrev pub kept : Point → Numbers → ℕ → Point
kept o p weight = record { incarnation = o.incarnation; newest = o.newest; seq = p.seq; attempt = p.attempt; weight = weight }

-- what is closed or settled stays so, when a fresh parcel is decided on
pub closed_kept : (o : Point) (p f : Numbers) (weight : ℕ) → IsClosed o p → IsFresh o f → IsClosed (kept o f weight) p
closed_kept o p f weight c is =
    record {
      life = c.life;
      sender' = c.sender';
      binding = λ e g. omega (arith, c.binding e g);
      try = λ e g h k.
          let same : p.seq ≡ o.seq = omega (arith, c.binding e g) in
          let again : (o.weight ≡ 0) × (o.attempt < f.attempt) = is.again (omega arith) in
          omega (arith, c.try e g same again.0);
    }

pub settled_kept : (o : Point) (p f : Numbers) (weight : ℕ) → IsSettled o p → IsFresh o f → IsSettled (kept o f weight) p
settled_kept o p f weight c is =
    record {
      life = c.life;
      sender' = c.sender';
      binding = λ e g. omega (arith, c.binding e g);
      accepted = λ e g h.
          let same : p.seq ≡ o.seq = omega (arith, c.binding e g) in
          let again : (o.weight ≡ 0) × (o.attempt < f.attempt) = is.again (omega arith) in
          omega (arith, c.accepted e g same);
    }

-- the fresh parcel itself is closed then, and settled where it is accepted
pub fresh_closed : (o : Point) (f : Numbers) (weight : ℕ) → IsFresh o f → IsClosed (kept o f weight) f
fresh_closed o f weight is =
    record { life = omega (arith, is.own); sender' = λ e. omega (arith, is.met); binding = λ e g. omega arith; try = λ e g h k. omega arith }

pub fresh_settled : (o : Point) (f : Numbers) → IsFresh o f → IsSettled (kept o f 1) f
fresh_settled o f is =
    record { life = omega (arith, is.own); sender' = λ e. omega (arith, is.met); binding = λ e g. omega arith; accepted = λ e g h. omega arith }

-- the point once a later sender is met
abbrev pub met : Point → ℕ → Point
met o sender = record { incarnation = o.incarnation; newest = sender; seq = 0; attempt = 0; weight = 0 }

pub closed_met : (o : Point) (p : Numbers) (sender : ℕ) → IsClosed o p → o.newest < sender → IsClosed (met o sender) p
closed_met o p sender c h =
    record {
      life = c.life;
      sender' = λ e. omega (arith, c.sender' e);
      binding = λ e g. absurd (omega (arith, c.sender' e));
      try = λ e g k w. absurd (omega (arith, c.sender' e));
    }

pub settled_met : (o : Point) (p : Numbers) (sender : ℕ) → IsSettled o p → o.newest < sender → IsSettled (met o sender) p
settled_met o p sender c h =
    record {
      life = c.life;
      sender' = λ e. omega (arith, c.sender' e);
      binding = λ e g. absurd (omega (arith, c.sender' e));
      accepted = λ e g k. absurd (omega (arith, c.sender' e));
    }

-- the point after a restart
abbrev pub restarted : Point → Point
restarted o = record { incarnation = o.incarnation + 1; newest = 0; seq = 0; attempt = 0; weight = 0 }

pub closed_restarted : (o : Point) (p : Numbers) → p.receiver ≤ o.incarnation → IsClosed (restarted o) p
closed_restarted o p h =
    record { life = omega arith; sender' = λ e. absurd (omega arith); binding = λ e g. absurd (omega arith); try = λ e g k w. absurd (omega arith) }

pub settled_restarted : (o : Point) (p : Numbers) → p.receiver ≤ o.incarnation → IsSettled (restarted o) p
settled_restarted o p h =
    record { life = omega arith; sender' = λ e. absurd (omega arith); binding = λ e g. absurd (omega arith); accepted = λ e g k. absurd (omega arith) }
