-- What steps of a cell are that are no client's call: a message of an operation that came or was lost, one that came again, a server that stopped, came up or didn't.
use Rattle.std.specs.Prelude.{◌≡◌, ℕ, ◌+◌, Bool, true, false, not, ◌&&◌, ◌==◌, nat_lt, if◌then◌else◌, List, [], ◌∷◌, ◌++◌, length, slice_get, is_some, Option, None, Some}
use Rattle.std.specs.List.{list_any}
use Rattle.loglet_api.specs.declared.call.Kind.TheVariants.{File}
use Rattle.loglet_api.specs.declared.call.LogletCall.{LogletCall}
use Rattle.loglet_api.specs.declared.call.LogletCall.TheVariants.{Carry as CallCarry, Stray as CallStray, Restart as CallRestart}
use Rattle.loglet_api.specs.declared.call.LogletAnswer.{LogletAnswer}
use Rattle.loglet_api.specs.declared.call.LogletAnswer.TheVariants.{Carried as CarryDone, Strayed as StrayDone, Restarted}
use Rattle.quorum_cell.specs.declared.message.Request.{Request}
use Rattle.quorum_cell.specs.declared.message.Reply.{Reply}
use Rattle.quorum_cell.specs.declared.operation.Outcome.{Outcome}
use Rattle.quorum_cell.specs.declared.operation.CellStep.{CellStep}
use Rattle.quorum_cell.specs.declared.operation.CellStep.TheVariants.{Begin, RequestComes, RequestStops, ReplyComes, Lose, Restart, RestartFails, Decide, Take, Forget}
use Rattle.quorum_cell.specs.Servers.{writes, restarted}
use Rattle.quorum_cell.specs.Cells.{Cell, server, operation}
use Rattle.quorum_cell.specs.Tallies.{may_decide}
use Rattle.quorum_cell.specs.Steps.{waits, cell_step}
use Rattle.cell_views.specs.Views.{Manner, calls}
use Rattle.cell_steps.specs.declared.moved.Moved.{Moved}
use Rattle.cell_steps.specs.declared.moved.Moved.TheVariants.{Nothing, Carried, Lost, Strayed, Stopped, Up, Stayed, Decided}

-- the numbers of the requests, and of the replies, that came
pub record Came : Type 0 where
  pub requests : List ℕ
  pub replies : List ℕ

abbrev pub none_came : Came
none_came = record { requests = []; replies = [] }

abbrev pub has_come : List ℕ → ℕ → Bool
has_come came k = list_any (λ j. j == k) came

---- what a step is

-- a message carries its operation where that waits for it, and the message comes for the first time
abbrev pub carries : Cell → Bool → ℕ → Bool
carries c again t = waits (operation c t) && not again

-- a message of operation t comes, to server i or from it
abbrev pub comes_as : Bool → ℕ → ℕ → Moved
comes_as carried t i = if carried then Carried t i else Strayed i

abbrev pub request_as : Cell → Bool → Option Request → Moved
request_as c again None = Nothing
request_as c again (Some q) = comes_as (carries c again q.ticket) q.ticket q.server

abbrev pub reply_as : Cell → Bool → Option Reply → Moved
reply_as c again None = Nothing
reply_as c again (Some r) = comes_as (carries c again r.ticket) r.ticket r.server

-- a server stops inside a write, so it has one to make
abbrev pub may_stop : Cell → Request → Bool
may_stop c q = let s = server c q.server in s.up && writes s q.ask

abbrev pub stop_as : Cell → Bool → Option Request → Moved
stop_as c again None = Nothing
stop_as c again (Some q) = if may_stop c q then Stopped q.ticket q.server (carries c again q.ticket) else Nothing

abbrev pub loss_as : Cell → Option Request → Moved
loss_as c None = Nothing
loss_as c (Some q) = if waits (operation c q.ticket) then Lost q.ticket q.server else Nothing

abbrev pub is_down : Cell → ℕ → Bool
is_down c i = nat_lt i (length c.servers) && not (server c i).up

-- the write inside which the server stopped stands where it was kept
abbrev pub restart_as : Cell → ℕ → Bool → Moved
restart_as c i kept = if is_down c i then Up i (kept && is_some (server c i).torn) else Nothing

abbrev pub stay_as : Cell → ℕ → Moved
stay_as c i = if is_down c i then Stayed i else Nothing

abbrev pub decision_as : Cell → ℕ → Outcome → Moved
decision_as c t a = let o = operation c t in if waits o && may_decide (length c.servers) c.cut o o.aim a then Decided t else Nothing

-- what a step is, where these messages came before
abbrev pub moved : Cell → Came → CellStep → Moved
moved c came (RequestComes k) = request_as c (has_come came.requests k) (slice_get c.requests k)
moved c came (RequestStops k) = stop_as c (has_come came.requests k) (slice_get c.requests k)
moved c came (ReplyComes k) = reply_as c (has_come came.replies k) (slice_get c.replies k)
moved c came (Lose k) = loss_as c (slice_get c.requests k)
moved c came (Restart i kept) = restart_as c i kept
moved c came (RestartFails i) = stay_as c i
moved c came (Decide t a) = decision_as c t a
moved c came _ = Nothing

---- which messages came

abbrev pub noted : List ℕ → ℕ → Bool → List ℕ
noted came k true = came ++ k ∷ []
noted came k false = came

abbrev pub stops_at : Cell → Option Request → Bool
stops_at c None = false
stops_at c (Some q) = may_stop c q

abbrev pub came_after : Cell → Came → CellStep → Came
came_after c came (RequestComes k) = record came { requests = noted came.requests k (is_some (slice_get c.requests k)) }
came_after c came (RequestStops k) = record came { requests = noted came.requests k (stops_at c (slice_get c.requests k)) }
came_after c came (ReplyComes k) = record came { replies = noted came.replies k (is_some (slice_get c.replies k)) }
came_after c came _ = came

---- what it changes

-- the server of the fault that it counts
abbrev pub fault_of : Moved → List ℕ
fault_of (Lost t i) = i ∷ []
fault_of (Stopped t i carried) = i ∷ []
fault_of (Stayed i) = i ∷ []
fault_of m = []

-- whether server j is up then, which was so before
abbrev pub up_after : Moved → ℕ → Bool → Bool
up_after (Stopped t i carried) j up = if i == j then false else up
up_after (Up i stood) j up = if i == j then true else up
up_after m j up = up

-- whether it is server j that it may change
abbrev pub touches : Moved → ℕ → Bool
touches (Carried t i) j = i == j
touches (Strayed i) j = i == j
touches (Stopped t i carried) j = i == j
touches (Up i stood) j = i == j
touches m j = false

-- a cell went on as this tells
pub record IsTold (c : Cell) (m : Moved) (d : Cell) : Type 0 where
  pub faults : d.faults ≡ c.faults ++ fault_of m
  pub up : (j : ℕ) → (server d j).up ≡ up_after m j (server c j).up
  pub others : (j : ℕ) → touches m j ≡ false → server d j ≡ server c j
  -- a server that comes up finds the write done or not
  pub found : (i : ℕ) (stood : Bool) → m ≡ Up i stood → server d i ≡ restarted (server c i) stood (server c i).torn

---- what it is to clients

-- the call of a loglet that it is: a message that came or was lost is a carry of its operation, and so is its end; one that came again is a stray; a restart is one of that server
abbrev pub call_as : Moved → List (LogletCall × LogletAnswer)
call_as Nothing = []
call_as (Carried t i) = (CallCarry t 0, CarryDone) ∷ []
call_as (Lost t i) = (CallCarry t 0, CarryDone) ∷ []
call_as (Strayed i) = (CallStray 0, StrayDone) ∷ []
call_as (Stopped t i true) = (CallCarry t 0, CarryDone) ∷ []
call_as (Stopped t i false) = (CallStray 0, StrayDone) ∷ []
call_as (Up i stood) = (CallRestart i 0, Restarted true) ∷ []
call_as (Stayed i) = (CallRestart i 0, Restarted false) ∷ []
call_as (Decided t) = (CallCarry t 0, CarryDone) ∷ []

abbrev pub told_at : Cell → Came → CellStep → List (LogletCall × LogletAnswer)
told_at c came (Begin aim) = calls c (Begin aim)
told_at c came (Take t) = calls c (Take t)
told_at c came (Forget t) = calls c (Forget t)
told_at c came step = call_as (moved c came step)

-- of each step of a list
abbrev pub told_of : List CellStep → Cell → Came → List (LogletCall × LogletAnswer)
told_of [] c came = []
told_of (step ∷ steps) c came = told_at c came step ++ told_of steps (cell_step c step) (came_after c came step)

-- whether it carries the operation of this ticket: once, or not
abbrev pub once : ℕ → ℕ → ℕ
once t u = if t == u then 1 else 0

abbrev pub carry_of : ℕ → Moved → ℕ
carry_of t (Carried u i) = once t u
carry_of t (Lost u i) = once t u
carry_of t (Stopped u i true) = once t u
carry_of t (Decided u) = once t u
carry_of t m = 0

-- how many of these steps do
abbrev pub carries_of : List CellStep → Cell → Came → ℕ → ℕ
carries_of [] c came t = 0
carries_of (step ∷ steps) c came t = carry_of t (moved c came step) + carries_of steps (cell_step c step) (came_after c came step) t

-- what is left of each operation that is undecided is one more than its carries that are to come
abbrev pub left_for : (ℕ → ℕ) → Manner
left_for n = record { kind = File; rounds = 0; left = λ t. (0, 1 + n t) }
