-- What is kept of a session: which of its commands have acted.
use Rattle.std.specs.Prelude.{◌≡◌, ℕ, ◌+◌, ◌<◌, ◌==◌, ◌&&◌, List, length, slice_get, find, Some}
use Rattle.delos_types.specs.declared.entry.Entry.{Entry}
use Rattle.legal_journal.specs.declared.events.Event.{Event}
use Rattle.virtual_log.specs.Holding.{Holds}
use Rattle.engine_api.specs.declared.act.Act.{Act}
use Rattle.engine_api.specs.Acted.{asked_in}
use Rattle.engine_api.specs.Order.{gap_from}
use Rattle.engine_steps.specs.declared.layout.Kept.{Kept}
use Rattle.engine_steps.specs.Replies.{reply_text}
use Rattle.log_laws.specs.State.{acts_in}
use Rattle.base_engine.specs.Reading.{IsFront}

-- in a log, rank r of session s acted so
pub record ActedSo (log : List Entry) (s r : ℕ) (k : Kept) : Type 0 where
  pub act : Act
  pub found : find (λ a. (a.session == s) && (a.rank == r)) (acts_in log) ≡ Some act
  pub is : k ≡ record { place = act.place; reply = reply_text act.reply }

-- the first ranks of session s acted so in a log, and maybe more
pub record AreAnswers (log : List Entry) (s : ℕ) (answers : List Kept) : Type 0 where
  pub each : (i : ℕ) (k : Kept) → slice_get answers i ≡ Some k → ActedSo log s (i + 1) k
  pub below : length answers < gap_from (asked_in 0 log) s 1

-- these are all of its ranks that acted
pub record AreAllAnswers (log : List Entry) (s : ℕ) (answers : List Kept) : Type 0 where
  pub each : (i : ℕ) (k : Kept) → slice_get answers i ≡ Some k → ActedSo log s (i + 1) k
  pub all : gap_from (asked_in 0 log) s 1 ≡ length answers + 1

-- in each front of the log of this length
abbrev pub InFront : List Event → ℕ → (List Entry → Type 0) → Type 0
InFront seen cursor P = (log : List Entry) → length log ≡ cursor → IsFront Holds seen log → P log
