-- Open and late rows, and the faults that were counted.
use Rattle.std.specs.Prelude.{◌≡◌, ℕ, ◌+◌, ◌≤◌, Bool, true, false, not, ◌&&◌, ◌||◌, nat_le, ◌==◌, if◌then◌else◌, List, [], ◌∷◌, ◌++◌, Option, Some, None, length, filter, sum_by, slice_get, get_or, ◌-◌}
use Rattle.std.specs.List.{list_all, list_any}
use Rattle.delos_types.specs.declared.cause.Cause.{Cause}
use Rattle.delos_types.specs.declared.cause.Cause.TheVariants as cause
use Rattle.loglet_api.specs.View.{LogletView, size_of}
use Rattle.fitting_run.specs.Yard.{Shown}
use Rattle.fitting_run.specs.Tests.{where_some, some_is}
use Rattle.fitting_run.specs.Answered.{Answered, same_session, before_barrier, is_logged, is_open, cause_of, is_late}

-- Causes stand in the yard

-- the loglet takes no more entries, or no more operations
abbrev pub is_full : LogletView → Bool
is_full v = (size_of v == v.room) || (v.begun == v.limit)

abbrev pub lacks_of : Option LogletView → ℕ
lacks_of None = 0
lacks_of (Some v) = v.lacks

abbrev pub faults_of : Option LogletView → ℕ
faults_of None = 0
faults_of (Some v) = v.faults

-- the faults of a node's disk
abbrev pub disk_faults : List ℕ → ℕ → ℕ
disk_faults disks node = get_or disks (node - 1) 0

-- so many servers of the loglet weren't reached, of those whose silence may leave an operation without its answer, and that was counted
abbrev pub lacked : ℕ → LogletView → Bool
lacked unreached v = nat_le 1 unreached && nat_le v.quorum unreached && nat_le unreached v.servers && nat_le 1 v.lacks && nat_le 1 v.faults

-- that loglet lacked so many servers; it is full; the register failed; or the node's disk
abbrev pub stands : Shown → ℕ → Cause → Bool
stands yard node (cause.NoQuorum id unreached) = some_is (slice_get yard.cells id) (lacked unreached)
stands yard node (cause.Full id) = some_is (slice_get yard.cells id) is_full
stands yard node cause.Meta = nat_le 1 yard.register.faults
stands yard node cause.Store = nat_le 1 (disk_faults yard.disks node)

-- Which rows were opened, and which of them stand alone

-- the rows that pass a test, which sees the rows before each
abbrev pub picked : {A : Type 0} → (List A → A → Bool) → List A → List A → List A
picked test before [] = []
picked test before (a ∷ rest) = (if test before a then a ∷ [] else []) ++ picked test (before ++ a ∷ []) rest

abbrev pub is_broken : Answered → Bool
is_broken a = is_open a.row.outcome || is_late a.row.outcome

-- a logged row of an earlier phase was open or late, which stops the session of b
abbrev pub stops : Answered → Answered → Bool
stops b a = same_session a b && before_barrier a b && is_logged a && is_broken a

abbrev pub same_turn : Answered → Answered → Bool
same_turn a b = (a.line.node == b.line.node) && (a.line.phase == b.line.phase)

-- a logged line of the session of b, in the phase of b
abbrev pub logs_beside : Answered → Answered → Bool
logs_beside b a = same_session a b && (a.line.phase == b.line.phase) && is_logged a

-- a read, with no logged line of its session earlier in its phase; so is each line that is of no session
abbrev pub is_alone : List Answered → Answered → Bool
is_alone before b = not (is_logged b || list_any (logs_beside b) before)

-- How often a cause must have come; which causes are one is told by the row's node

-- open by such a cause, and its session wasn't stopped before its phase; a line of no session is opened where it is open
abbrev pub is_opened : (ℕ → Cause → Bool) → List Answered → Answered → Bool
is_opened by before b = some_is (cause_of b.row.outcome) (by b.line.node) && not (list_any (stops b) before)

-- how many pairs of a node and a phase these rows have
abbrev pub turns_of : List Answered → ℕ
turns_of [] = 0
turns_of (a ∷ rest) = (if list_any (same_turn a) rest then 0 else 1) + turns_of rest

-- Each opened row that stands alone is an occasion of its own; all other opened rows of one node and phase are one.
abbrev pub occasions : (ℕ → Cause → Bool) → List Answered → ℕ
occasions by told =
    length (picked (λ before b. is_opened by before b && is_alone before b) [] told)
    + turns_of (picked (λ before b. is_opened by before b && not (is_alone before b)) [] told)

abbrev pub lacks_quorum : ℕ → ℕ → Cause → Bool
lacks_quorum cell node (cause.NoQuorum id unreached) = id == cell
lacks_quorum cell node other = false

abbrev pub finds_full : ℕ → ℕ → Cause → Bool
finds_full cell node (cause.Full id) = id == cell
finds_full cell node other = false

abbrev pub lacks_register : ℕ → Cause → Bool
lacks_register node cause.Meta = true
lacks_register node other = false

-- a store is one cause for each node
abbrev pub lacks_store : ℕ → ℕ → Cause → Bool
lacks_store n node cause.Store = node == n
lacks_store n node other = false

-- the faults of a loglet that is full
abbrev pub refusals_of : LogletView → ℕ
refusals_of v = if is_full v then v.faults else 0

-- each cause stands in the yard, and came as often as the rows need that it opened
pub record FaultsAreCounted (told : List Answered) (yard : Shown) : Type 0 where
  pub causes : list_all (λ a. where_some (cause_of a.row.outcome) (stands yard a.line.node)) told ≡ true
  pub lacks : (cell : ℕ) → occasions (lacks_quorum cell) told ≤ lacks_of (slice_get yard.cells cell)
  pub refusals : (cell : ℕ) → occasions (finds_full cell) told ≤ faults_of (slice_get yard.cells cell)
  pub register : occasions lacks_register told ≤ yard.register.faults
  -- a store that fails is opened again, and only where the disk fails once more then is it a cause
  pub stores : (node : ℕ) → occasions (lacks_store node) told ≤ disk_faults yard.disks node - 1
  -- the nodes and phases with a late row
  pub late : turns_of (filter (λ a. is_late a.row.outcome) told)
      ≤ sum_by (λ v. v.lacks) yard.cells + sum_by refusals_of yard.cells + yard.register.faults + sum_by (λ n. n) yard.disks
