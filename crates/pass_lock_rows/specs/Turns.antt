-- What clerks make of a journal.
use Rattle.std.specs.Prelude.{◌≡◌, ◌≢◌, ◌≤◌, ℕ, zero, suc, ◌==◌, List, [], ◌∷◌, ◌++◌}
use Rattle.std.specs.List.{All, filter}
use Rattle.pass_lock.specs.Journal.{Part}
use Rattle.pass_lock.specs.Pass.{LockId}
use Rattle.pass_lock_rows.specs.declared.desk.Event.{Event}

-- what a clerk knows: at which lock it is, who it is, and the journal so far
pub record Maker : Type 0 where
  pub lock : LockId
  pub who : ℕ
  pub seen : List Event

-- what was seen with the first part
abbrev pub seen_by : List (Part Event) → List Event
seen_by [] = []
seen_by (p ∷ ps) = p.1

abbrev pub event : ℕ → ℕ → Event
event who n = record { who = who; n = n }

abbrev pub IsSameMaker : Maker → Maker → Type 0
IsSameMaker m m' = (m'.lock ≡ m.lock) × (m'.who ≡ m.who)

-- events of others came after what was seen
abbrev pub Waits : Maker → Maker → Type 0
Waits m m' = IsSameMaker m m' × (between : List Event) × (m'.seen ≡ m.seen ++ between) × All (λ e. e.who ≢ m.who) between

-- events of others came, and then the own event n
abbrev pub Makes : Maker → ℕ → Maker → Type 0
Makes m n m' = IsSameMaker m m' × (between : List Event) × (m'.seen ≡ (m.seen ++ between) ++ event m.who n ∷ []) × All (λ e. e.who ≢ m.who) between

-- the events of `who`, in order
abbrev pub own : ℕ → List Event → List Event
own who events = filter (λ e. e.who == who) events

-- the events of `who` from 0 to n - 1
abbrev pub counted : ℕ → ℕ → List Event
counted who zero = []
counted who (suc n) = counted who n ++ event who n ∷ []

-- it made the events 0 to n - 1 and no others, in order
abbrev pub Made : Maker → ℕ → Maker → Type 0
Made m n m' = IsSameMaker m m' × (own m.who m'.seen ≡ own m.who m.seen ++ counted m.who n)

-- it made at most so many
pub record Worked (turns : ℕ) (m m' : Maker) : Type 0 where
  pub made : ℕ
  pub few : made ≤ turns
  pub in_order : Made m made m'

-- the events of `who` are the events 0 to n - 1, each once and in order, for some n up to `turns`
abbrev pub IsDone : ℕ → ℕ → List Event → Type 0
IsDone turns who events = (made : ℕ) × (made ≤ turns) × (own who events ≡ counted who made)
