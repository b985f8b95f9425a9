-- A file loglet is a quorum cell of one server: which cells it may be, and the steps that each call takes in them.
use Rattle.std.specs.Prelude.{◌≡◌, ℕ, ◌≤◌, ◌^◌, Bool, false, replicate, List, [], ◌∷◌, ◌++◌, length, drop, Option, Some, None}
use Rattle.loglet_api.specs.declared.call.Answer.{Answer}
use Rattle.loglet_api.specs.declared.call.Kind.TheVariants.{File}
use Rattle.loglet_api.specs.declared.call.Op.{Op}
use Rattle.loglet_api.specs.declared.call.Op.TheVariants.{Append, Settle, Tail, Seal, Read, Trim}
use Rattle.loglet_api.specs.declared.call.Refused.TheVariants.{Memory}
use Rattle.loglet_api.specs.declared.call.LogletCall.{LogletCall}
use Rattle.loglet_api.specs.declared.call.LogletCall.TheVariants as calls
use Rattle.loglet_api.specs.declared.call.LogletAnswer.{LogletAnswer}
use Rattle.loglet_api.specs.declared.call.LogletAnswer.TheVariants.{Refusal, Taken, Restarted}
use Rattle.loglet_api.specs.View.{operation_at}
use Rattle.loglet_api.specs.Step.{LogletStep, task_of}
use Rattle.quorum_cell.specs.declared.message.Ask.{Ask}
use Rattle.quorum_cell.specs.declared.message.Ask.TheVariants.{Tail as AskTail, Read as AskRead}
use Rattle.quorum_cell.specs.declared.operation.Aim.{Aim}
use Rattle.quorum_cell.specs.declared.operation.Aim.TheVariants as aims
use Rattle.quorum_cell.specs.declared.operation.Outcome.{Outcome}
use Rattle.quorum_cell.specs.declared.operation.Wish.{Wish}
use Rattle.quorum_cell.specs.declared.operation.CellStep.{CellStep}
use Rattle.quorum_cell.specs.declared.operation.CellStep.TheVariants.{Begin, Restart, RestartFails, Decide, Take, Forget}
use Rattle.quorum_cell.specs.Servers.{Server}
use Rattle.quorum_cell.specs.Cells.{Cell, Operation, operation, server, start}
use Rattle.quorum_cell.specs.Steps.{run_cell}
use Rattle.quorum_cell.specs.Law.{IsLawful}
use Rattle.cell_views.specs.Views.{Manner, IsSpelled, cell_view, op_of, taken}
use Rattle.file_loglet.specs.Asking.{asks}
use Rattle.file_loglet.specs.Celling.{task_for, AreWished, IsAsking}
use Rattle.file_loglet.specs.Pending.{answer_at, told_at}
use Rattle.file_loglet.specs.File.{FileView}

---- the cells that it may be

-- what it tells that its cell doesn't know: its kind, and that one carry is left of an operation that is undecided
abbrev pub manner : Manner
manner = record { kind = File; rounds = 1; left = λ t. (1, 0) }

-- The cell at its start: one empty server that is up. The faults that its disk had before name none.
abbrev pub start_at : ℕ → ℕ → Cell
start_at room faults = record (start 1 room (2 ^ 62)) { faults = replicate faults 1 }

-- What an operation is answered is what it came to in the cell, if that is taken where the cut is here. One that has no
-- answer came to nothing yet.
abbrev pub IsToldAs : ℕ → Operation → Option Answer → Type 0
IsToldAs cut o None = o.closed ≡ false → o.decided ≡ None
IsToldAs cut o (Some answer) = (o.closed ≡ false) × (taken cut o o.decided ≡ Some (told_at (task_of (op_of o.aim)) cut answer))

-- a trim waits for no position above the cut
abbrev pub IsWithin : ℕ → Operation → Type 0
IsWithin cut o = (n : ℕ) → o.aim ≡ aims.Trim n → o.want ≤ cut

-- It shows what clients see of the cell, the open operations in any order; its server is that of the cell, and its answers are what the operations came to.
pub record IsCellOf (v : FileView) (c : Cell) : Type 0 where
  pub lawful : IsLawful c
  pub spelled : IsSpelled c
  pub shows : v.loglet ≡ record (cell_view manner c) { operations = v.loglet.operations }
  pub operations : (t : ℕ) → operation_at v.loglet.operations t ≡ operation_at (cell_view manner c).operations t
  pub server : c.servers ≡ v.server ∷ []
  pub told : (t : ℕ) → IsToldAs c.cut (operation c t) (answer_at v.answers t)
  pub wants : (t : ℕ) → IsWithin c.cut (operation c t)

---- the steps of a carry

-- What an operation asks first: an Append and a Settle how long the server is, a Read for the entry.
abbrev pub asks_first : Aim → List Ask
asks_first (aims.Append e) = AskTail ∷ []
asks_first (aims.Settle n) = AskTail ∷ []
asks_first aims.Tail = []
asks_first aims.Seal = []
asks_first (aims.Read p) = AskRead p ∷ []
asks_first (aims.Trim n) = []

-- what operation t asks of this server, in turn
abbrev pub asks_in : Cell → ℕ → Server → List Ask
asks_in c t s = asks_first (operation c t).aim ++ asks (drop c.cut c.entries) c.cut s (operation c t).size_before (task_for (operation c t).aim)

-- The first of them were sent. Each came to the server, which answered or stopped inside the write, and the answer came to
-- the operation.
pub record HasAsked (c : Cell) (t : ℕ) (steps : List CellStep) : Type 0 where
  pub asked : List Ask
  pub rest : List Ask
  pub are : asked ++ rest ≡ asks_in c t (server c 0)
  pub wishes : List Wish
  pub sent : AreWished c.entries c.cut (operation c t).aim wishes asked
  pub asking : IsAsking t (length c.requests) (length c.replies) wishes steps

-- and then the operation came to something
pub record IsCarry (c : Cell) (t : ℕ) (steps : List CellStep) : Type 0 where
  pub asking : List CellStep
  pub asks : HasAsked c t asking
  pub outcome : Outcome
  pub are : steps ≡ asking ++ Decide t outcome ∷ []

---- each call

abbrev pub aim_of : Op → Aim
aim_of (Append e) = aims.Append e
aim_of (Settle n) = aims.Settle n
aim_of Tail = aims.Tail
aim_of Seal = aims.Seal
aim_of (Read p) = aims.Read p
aim_of (Trim n) = aims.Trim n

-- without memory nothing is done; a refusal as full is a step too, which counts a fault
abbrev pub BeginSteps : Op → LogletAnswer → List CellStep → Type 0
BeginSteps op (Refusal Memory) steps = steps ≡ []
BeginSteps op answer steps = steps ≡ Begin (aim_of op) ∷ []

-- without memory it came to nothing, but may have asked some
abbrev pub CarrySteps : Cell → ℕ → LogletAnswer → List CellStep → Type 0
CarrySteps c t (Refusal Memory) steps = HasAsked c t steps
CarrySteps c t answer steps = IsCarry c t steps

-- an answer closes the operation; one that is undecided stays as it is
abbrev pub IsTake : ℕ → Option Answer → List CellStep → Type 0
IsTake t None steps = steps ≡ []
IsTake t (Some answer) steps = steps ≡ Take t ∷ []

-- the client is told what the operation came to in the cell
abbrev pub TakeSteps : Cell → ℕ → LogletAnswer → List CellStep → Type 0
TakeSteps c t (Taken answer) steps = (taken c.cut (operation c t) (operation c t).decided ≡ answer) × IsTake t answer steps
TakeSteps c t answer steps = ⊥

-- the server finds the write inside which it stopped done or not; of one that is up this changes nothing
abbrev pub RestartSteps : ℕ → LogletAnswer → List CellStep → Type 0
RestartSteps i (Refusal Memory) steps = steps ≡ []
RestartSteps i (Restarted false) steps = steps ≡ RestartFails i ∷ []
RestartSteps i answer steps = (kept : Bool) × (steps ≡ Restart i kept ∷ [])

-- what is left, a stop that is only armed, and a stray take no step
abbrev pub StepsOf : Cell → LogletCall → LogletAnswer → List CellStep → Type 0
StepsOf c (calls.Begin op) answer steps = BeginSteps op answer steps
StepsOf c (calls.Carry t word) answer steps = CarrySteps c t answer steps
StepsOf c (calls.Take t) answer steps = TakeSteps c t answer steps
StepsOf c (calls.Forget t) answer steps = steps ≡ Forget t ∷ []
StepsOf c (calls.Restart i word) answer steps = RestartSteps i answer steps
StepsOf c call answer steps = steps ≡ []

-- the loglet is afterwards the cell before it, gone on by the steps of the call
pub record Reaches (c : Cell) (call : LogletCall) (answer : LogletAnswer) (after : FileView) : Type 0 where
  pub steps : List CellStep
  pub are : StepsOf c call answer steps
  pub cell : IsCellOf after (run_cell steps c)

-- a call of a file loglet: a step of a loglet, and in each cell that the loglet may be these steps
pub record FileStep (before : FileView) (call : LogletCall) (answer : LogletAnswer) (after : FileView) : Type 0 where
  pub loglet : LogletStep before.loglet call answer after.loglet
  pub cells : (c : Cell) → IsCellOf before c → Reaches c call answer after

-- a list of calls
abbrev pub FileRun : FileView → List (LogletCall × LogletAnswer) → FileView → Type 0
FileRun before [] after = after ≡ before
FileRun before (call ∷ more) after = (mid : FileView) × FileStep before call.0 call.1 mid × FileRun mid more after
