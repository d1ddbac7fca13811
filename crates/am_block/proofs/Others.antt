-- Two lists are the same or have nothing in common.
use Rattle.std.proofs.Common.{◌≡◌, ◌≢◌, ℕ, ◌+◌, ◌≤◌, ◌⊎◌, List, refl, inl, inr, arith}
use Rattle.am_block.specs.Lengths.{head, length_of, with_length}
use Rattle.am_block.specs.declared.lengths.Lengths.{Lengths}
use Rattle.am_block.specs.Pools.{Pools, slots, with_slots, times, standings}
use Rattle.am_block.specs.declared.List.{List as Which}
use Rattle.am_block.specs.declared.List.TheVariants.{Free, Requests, Replies, InFlight, Notices, Received}

pub record Other (a b : Which) : Type 0 where
  pub kept : (p : Pools) (xs : List ℕ) → slots (with_slots p a xs) b ≡ slots p b
  pub shared : (p : Pools) (x : ℕ) → times x (slots p a) + times x (slots p b) ≤ standings p x
  pub lengths : (l : Lengths) (m : ℕ) → length_of (with_length l a m) b ≡ length_of l b
  pub heads : (n : ℕ) → head n a ≢ head n b

pub compare : (a b : Which) → (a ≡ b) ⊎ Other a b
compare Free Free = inl refl
compare Free Requests = inr (record { kept = λ p xs. refl; shared = λ p x. omega arith; lengths = λ l m. refl; heads = λ n e. omega arith })
compare Free Replies = inr (record { kept = λ p xs. refl; shared = λ p x. omega arith; lengths = λ l m. refl; heads = λ n e. omega arith })
compare Free InFlight = inr (record { kept = λ p xs. refl; shared = λ p x. omega arith; lengths = λ l m. refl; heads = λ n e. omega arith })
compare Free Notices = inr (record { kept = λ p xs. refl; shared = λ p x. omega arith; lengths = λ l m. refl; heads = λ n e. omega arith })
compare Free Received = inr (record { kept = λ p xs. refl; shared = λ p x. omega arith; lengths = λ l m. refl; heads = λ n e. omega arith })
compare Requests Free = inr (record { kept = λ p xs. refl; shared = λ p x. omega arith; lengths = λ l m. refl; heads = λ n e. omega arith })
compare Requests Requests = inl refl
compare Requests Replies = inr (record { kept = λ p xs. refl; shared = λ p x. omega arith; lengths = λ l m. refl; heads = λ n e. omega arith })
compare Requests InFlight = inr (record { kept = λ p xs. refl; shared = λ p x. omega arith; lengths = λ l m. refl; heads = λ n e. omega arith })
compare Requests Notices = inr (record { kept = λ p xs. refl; shared = λ p x. omega arith; lengths = λ l m. refl; heads = λ n e. omega arith })
compare Requests Received = inr (record { kept = λ p xs. refl; shared = λ p x. omega arith; lengths = λ l m. refl; heads = λ n e. omega arith })
compare Replies Free = inr (record { kept = λ p xs. refl; shared = λ p x. omega arith; lengths = λ l m. refl; heads = λ n e. omega arith })
compare Replies Requests = inr (record { kept = λ p xs. refl; shared = λ p x. omega arith; lengths = λ l m. refl; heads = λ n e. omega arith })
compare Replies Replies = inl refl
compare Replies InFlight = inr (record { kept = λ p xs. refl; shared = λ p x. omega arith; lengths = λ l m. refl; heads = λ n e. omega arith })
compare Replies Notices = inr (record { kept = λ p xs. refl; shared = λ p x. omega arith; lengths = λ l m. refl; heads = λ n e. omega arith })
compare Replies Received = inr (record { kept = λ p xs. refl; shared = λ p x. omega arith; lengths = λ l m. refl; heads = λ n e. omega arith })
compare InFlight Free = inr (record { kept = λ p xs. refl; shared = λ p x. omega arith; lengths = λ l m. refl; heads = λ n e. omega arith })
compare InFlight Requests = inr (record { kept = λ p xs. refl; shared = λ p x. omega arith; lengths = λ l m. refl; heads = λ n e. omega arith })
compare InFlight Replies = inr (record { kept = λ p xs. refl; shared = λ p x. omega arith; lengths = λ l m. refl; heads = λ n e. omega arith })
compare InFlight InFlight = inl refl
compare InFlight Notices = inr (record { kept = λ p xs. refl; shared = λ p x. omega arith; lengths = λ l m. refl; heads = λ n e. omega arith })
compare InFlight Received = inr (record { kept = λ p xs. refl; shared = λ p x. omega arith; lengths = λ l m. refl; heads = λ n e. omega arith })
compare Notices Free = inr (record { kept = λ p xs. refl; shared = λ p x. omega arith; lengths = λ l m. refl; heads = λ n e. omega arith })
compare Notices Requests = inr (record { kept = λ p xs. refl; shared = λ p x. omega arith; lengths = λ l m. refl; heads = λ n e. omega arith })
compare Notices Replies = inr (record { kept = λ p xs. refl; shared = λ p x. omega arith; lengths = λ l m. refl; heads = λ n e. omega arith })
compare Notices InFlight = inr (record { kept = λ p xs. refl; shared = λ p x. omega arith; lengths = λ l m. refl; heads = λ n e. omega arith })
compare Notices Notices = inl refl
compare Notices Received = inr (record { kept = λ p xs. refl; shared = λ p x. omega arith; lengths = λ l m. refl; heads = λ n e. omega arith })
compare Received Free = inr (record { kept = λ p xs. refl; shared = λ p x. omega arith; lengths = λ l m. refl; heads = λ n e. omega arith })
compare Received Requests = inr (record { kept = λ p xs. refl; shared = λ p x. omega arith; lengths = λ l m. refl; heads = λ n e. omega arith })
compare Received Replies = inr (record { kept = λ p xs. refl; shared = λ p x. omega arith; lengths = λ l m. refl; heads = λ n e. omega arith })
compare Received InFlight = inr (record { kept = λ p xs. refl; shared = λ p x. omega arith; lengths = λ l m. refl; heads = λ n e. omega arith })
compare Received Notices = inr (record { kept = λ p xs. refl; shared = λ p x. omega arith; lengths = λ l m. refl; heads = λ n e. omega arith })
compare Received Received = inl refl

pub slots-same : (p : Pools) (a : Which) (xs : List ℕ) → slots (with_slots p a xs) a ≡ xs
slots-same p Free xs = refl
slots-same p Requests xs = refl
slots-same p Replies xs = refl
slots-same p InFlight xs = refl
slots-same p Notices xs = refl
slots-same p Received xs = refl

pub head-ge : (n : ℕ) (a : Which) → n ≤ head n a
head-ge n Free = omega arith
head-ge n Requests = omega arith
head-ge n Replies = omega arith
head-ge n InFlight = omega arith
head-ge n Notices = omega arith
head-ge n Received = omega arith

pub len-same : (l : Lengths) (a : Which) (m : ℕ) → length_of (with_length l a m) a ≡ m
len-same l Free m = refl
len-same l Requests m = refl
len-same l Replies m = refl
len-same l InFlight m = refl
len-same l Notices m = refl
len-same l Received m = refl

pub descriptors-with_slots : (p : Pools) (a : Which) (xs : List ℕ) → (with_slots p a xs).descriptors ≡ p.descriptors
descriptors-with_slots p Free xs = refl
descriptors-with_slots p Requests xs = refl
descriptors-with_slots p Replies xs = refl
descriptors-with_slots p InFlight xs = refl
descriptors-with_slots p Notices xs = refl
descriptors-with_slots p Received xs = refl
