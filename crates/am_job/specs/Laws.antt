-- What jobs send.
use Rattle.std.specs.Prelude.{◌≡◌, ℕ, ◌<◌, ◌≤◌, List}
use Rattle.am_lemmas.specs.Bytes.{AreBytes}
use Rattle.am_job.specs.Words.Texts.{short_words}
use Rattle.am_job.specs.Asked.{asked_by}
use Rattle.am_job.specs.Rounds.{job_of}

-- a job sends the short words of its text, each as often as it stands there, in order
abbrev pub JobsSendWords : Type 0
JobsSendWords = (w turns : ℕ) (text : List ℕ) → 0 < w → w ≤ 8 → AreBytes text → asked_by (job_of w turns text) ≡ short_words text
