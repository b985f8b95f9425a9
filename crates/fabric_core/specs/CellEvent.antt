-- One event of a cell.
use Rattle.std.specs.Prelude.{◌≡◌, ◌≢◌, ◌⊎◌, ℕ, Bool, true, false, List, [], ◌∷◌, ◌++◌, slice_get, slice_set, Option, None, Some, Result, Ok, Err}
use Rattle.std.specs.declared.alloc.AllocError.{AllocError}
use Rattle.loglet_api.specs.declared.call.Answer.{Answer}
use Rattle.loglet_api.specs.declared.call.Answer.TheVariants.{Got}
use Rattle.loglet_api.specs.declared.call.LogletCall.TheVariants as call
use Rattle.loglet_api.specs.declared.call.LogletAnswer.TheVariants as answer
use Rattle.loglet_api.specs.View.{LogletView}
use Rattle.loglet_api.specs.Run.{LogletRun}
use Rattle.loglet_api.specs.Servers.{ServersView, ServesAll}
use Rattle.legal_journal.specs.declared.events.FabricCall.{FabricCall}
use Rattle.legal_journal.specs.declared.events.FabricCall.TheVariants.{Begin, Carry, Forget}
use Rattle.legal_journal.specs.declared.events.FabricAnswer.{FabricAnswer}
use Rattle.legal_journal.specs.declared.events.FabricAnswer.TheVariants.{Begun, Done, NoTicket, Gone, Memory}
use Rattle.legal_journal.specs.declared.events.Event.{Event}
use Rattle.fabric_core.specs.Runs.{LogletSteps, CarriesFirst, StepsOf, MayTake, ServersLack}

-- an answer that is an entry
abbrev pub IsGot : Answer → Type 0
IsGot (Got e) = Unit {0}
IsGot a = ⊥

-- a loglet and its servers
pub record Worked : Type 0 where
  pub loglet : LogletView
  pub serving : ServersView

-- these calls, one after another, are steps of the loglet, and do to its servers what they say
pub record Works (old : Worked) (steps : LogletSteps) (new : Worked) : Type 0 where
  pub run : LogletRun old.loglet steps new.loglet
  pub served : ServesAll old.serving steps new.serving

-- an open operation was carried once, where it was undecided, and its answer taken, where it was decided then
abbrev pub CarriedOnce : Worked → ℕ → ℕ → Result (Option Answer) AllocError → Worked → Type 0
CarriedOnce old t word (Ok (Some a)) new = (steps : LogletSteps) × CarriesFirst t word ((call.Take t, answer.Taken (Some a)) ∷ []) steps × Works old steps new
CarriedOnce old t word (Ok None) new = Works old ((call.Carry t word, answer.Carried) ∷ (call.Take t, answer.Taken None) ∷ []) new
CarriedOnce old t word (Err e) new = (new.loglet ≡ old.loglet) × MayTake old.serving (call.Carry t word) new.serving

-- the tickets that are open after the event
abbrev pub marks_after : List Bool → FabricCall → FabricAnswer → List Bool
marks_after marks (Begin i op) (Begun t) = marks ++ true ∷ []
marks_after marks (Carry i t word) (Done a) = slice_set marks t false
marks_after marks (Carry i t word) Memory = slice_set marks t false
marks_after marks (Forget i t) Gone = slice_set marks t false
marks_after marks c a = marks

-- no such ticket is open
abbrev pub IsMissed : List Bool → FabricCall → FabricAnswer → Type 0
IsMissed marks (Carry i t word) NoTicket = slice_get marks t ≢ Some true
IsMissed marks (Forget i t) NoTicket = slice_get marks t ≢ Some true
IsMissed marks c a = Unit {0}

-- a loglet, its servers, the marks of its tickets, and the journal
pub record CellView : Type 0 where
  pub loglet : LogletView
  pub serving : ServersView
  pub marks : List Bool
  pub journal : List Event

-- The event is recorded as it happened: its calls of the loglet are steps, they do to its servers what they say, and the
-- marks follow.
pub record Happens (old : CellView) (who : ℕ) (c : FabricCall) (a : FabricAnswer) (new : CellView) : Type 0 where
  pub steps : LogletSteps
  pub are : StepsOf c a steps
  pub run : LogletRun old.loglet steps new.loglet
  pub served : ServesAll old.serving steps new.serving
  pub missed : IsMissed old.marks c a
  pub marked : new.marks ≡ marks_after old.marks c a
  pub recorded : new.journal ≡ old.journal ++ record { who = who; call = c; answer = a } ∷ []

-- There was no memory: all is as it was, but for writes that a server's disk took before.
pub record Wants (old : CellView) (c : FabricCall) (a : FabricAnswer) (new : CellView) : Type 0 where
  pub answer : a ≡ Memory
  pub loglet : new.loglet ≡ old.loglet
  pub served : ServersLack old.serving c new.serving
  pub marked : new.marks ≡ old.marks
  pub journal : new.journal ≡ old.journal

-- an event, or want of memory
abbrev pub Applies : CellView → ℕ → FabricCall → FabricAnswer → CellView → Type 0
Applies old who c a new = Happens old who c a new ⊎ Wants old c a new

-- An event that closes and opens no ticket is recorded as it happened.
pub record Serves (old : Worked) (before : List Event) (who : ℕ) (c : FabricCall) (a : FabricAnswer) (new : Worked) (now : List Event) : Type 0 where
  pub steps : LogletSteps
  pub are : StepsOf c a steps
  pub run : LogletRun old.loglet steps new.loglet
  pub served : ServesAll old.serving steps new.serving
  pub recorded : now ≡ before ++ record { who = who; call = c; answer = a } ∷ []

-- There was no memory: the loglet shows what it showed, but a disk may have been reopened, or have taken writes.
pub record ServerLacks (old : Worked) (before : List Event) (c : FabricCall) (a : FabricAnswer) (new : Worked) (now : List Event) : Type 0 where
  pub answer : a ≡ Memory
  pub loglet : new.loglet ≡ old.loglet
  pub served : ServersLack old.serving c new.serving
  pub journal : now ≡ before

abbrev pub ServerApplies : Worked → List Event → ℕ → FabricCall → FabricAnswer → Worked → List Event → Type 0
ServerApplies old before who c a new now = Serves old before who c a new now ⊎ ServerLacks old before c a new now
