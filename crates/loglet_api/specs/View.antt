-- What a loglet shows.
use Rattle.std.specs.Prelude.{◌≡◌, ℕ, ◌+◌, ◌<◌, nat_eq, Bool, false, Option, None, IsSome, List, [], length}
use Rattle.std.specs.Map.{lookup}
use Rattle.delos_types.specs.declared.entry.Entry.{Entry}
use Rattle.loglet_api.specs.declared.call.Task.{Task}
use Rattle.loglet_api.specs.declared.call.Kind.{Kind}

-- an open operation: its task, what held as it began, and what is left to do
pub record Operation : Type 0 where
  pub task : Task
  pub size : ℕ
  pub reach : ℕ
  pub firm : ℕ
  pub shut : Bool
  pub faults : ℕ
  pub down : ℕ
  -- the first number counts first; (0, 0) once the operation is decided
  pub left : ℕ × ℕ

pub record LogletView : Type 0 where
  -- these never change
  pub kind : Kind
  pub servers : ℕ
  -- the fewest servers whose silence may leave an operation without its answer
  pub quorum : ℕ
  -- the greatest length of the log
  pub room : ℕ
  -- the greatest first number of what is left of an operation as it begins
  pub rounds : ℕ
  -- how many operations may be begun
  pub limit : ℕ
  -- positions below the cut are trimmed; the log has the entries from there on, acknowledged or not
  pub cut : ℕ
  pub log : List Entry
  -- the greatest length that was answered by Placed, Settled or OpenTail
  pub reach : ℕ
  -- the least length that was answered by SealedTail
  pub cap : Option ℕ
  -- the greatest length that was answered in any way
  pub firm : ℕ
  -- the loglet is sealed
  pub shut : Bool
  -- the open operations, by ticket
  pub operations : List (ℕ × Operation)
  pub faults : ℕ
  -- how many servers are down
  pub down : ℕ
  -- how many operations were begun, how many of them are Seals, and how many answers were NoQuorum
  pub begun : ℕ
  pub seals : ℕ
  pub lacks : ℕ

-- the length of the log, trimmed positions included
abbrev pub size_of : LogletView → ℕ
size_of v = v.cut + length v.log

-- the operation of a ticket, where it is open
abbrev pub operation_at : List (ℕ × Operation) → ℕ → Option Operation
operation_at operations t = lookup (nat_eq t) operations

abbrev pub IsOpen : LogletView → ℕ → Type 0
IsOpen v t = IsSome (operation_at v.operations t)

-- something is left to do
abbrev pub IsUndecided : Operation → Type 0
IsUndecided o = 0 < o.left.0 + o.left.1

-- nothing is left to do but to take the answer
abbrev pub IsDecided : Operation → Type 0
IsDecided o = o.left.0 + o.left.1 ≡ 0

-- nothing was begun, and nothing failed
pub record IsFresh (v : LogletView) : Type 0 where
  pub cut : v.cut ≡ 0
  pub log : v.log ≡ []
  pub reach : v.reach ≡ 0
  pub cap : v.cap ≡ None
  pub firm : v.firm ≡ 0
  pub shut : v.shut ≡ false
  pub operations : v.operations ≡ []
  pub faults : v.faults ≡ 0
  pub down : v.down ≡ 0
  pub begun : v.begun ≡ 0
  pub seals : v.seals ≡ 0
  pub lacks : v.lacks ≡ 0
