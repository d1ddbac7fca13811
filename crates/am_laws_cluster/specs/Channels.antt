pub mod LateAttempt
