-- What many clerks do, each with a part of its own.
use Rattle.std.specs.Prelude.{◌≡◌, ◌<◌, ◌+◌, ◌-◌, ℕ, suc, List, [], ◌∷◌, ◌++◌, length, slice_index_or, None}
use Rattle.pass_lock.specs.Journal.{Part}
use Rattle.pass_lock.specs.Pass.{LockId, Known, numbered, all_parts}
use Rattle.pass_lock_rows.specs.declared.desk.Event.{Event}
use Rattle.pass_lock_rows.specs.Turns.{Maker, Worked, IsDone}

-- clerk i has part i, and saw nothing
pub record AllFresh (lock : LockId) (ms : List Maker) : Type 0 where
  pub each : (i : ℕ) (d : Maker) → i < length ms → slice_index_or ms i d ≡ record { lock = lock; who = i; seen = [] }

-- each clerk did its work
pub record AllWorked (turns : ℕ) (ms ms' : List Maker) : Type 0 where
  pub each : (i : ℕ) (d : Maker) → i < length ms → Worked turns (slice_index_or ms i d) (slice_index_or ms' i d)

-- clerk i has part i, and the events that it made were seen with it
pub record IsBack (lock : LockId) (turns i : ℕ) (m : Maker) : Type 0 where
  pub lock_is : m.lock ≡ lock
  pub who_is : m.who ≡ i
  pub done : IsDone turns i m.seen

pub record AllBack (lock : LockId) (turns : ℕ) (ms : List Maker) : Type 0 where
  pub each : (i : ℕ) (d : Maker) → i < length ms → IsBack lock turns i (slice_index_or ms i d)

-- the parts are those from number k on, and with each the events were seen that its clerk made
abbrev pub EndedFrom : ℕ → ℕ → List (Part Event) → Type 0
EndedFrom turns k [] = Unit {0}
EndedFrom turns k (p ∷ ps) = (p.0 ≡ k) × IsDone turns k p.1 × EndedFrom turns (suc k) ps

-- the pass has all parts again: those of the clerks below `count`, from number `left` on, and those that no clerk had
pub record Collected (lock : LockId) (count turns left : ℕ) (pass : Known Event) : Type 0 where
  pub ended : List (Part Event)
  pub counted : length ended + left ≡ count
  pub is : pass ≡ record { lock = lock; parts = ended ++ numbered count (all_parts - count); made = pass.made; turn = None }
  pub each : EndedFrom turns left ended

abbrev pub AllEnded : LockId → ℕ → ℕ → Known Event → Type 0
AllEnded lock count turns pass = Collected lock count turns 0 pass
