-- What a fabric shows, and what holds of it.
use Rattle.std.specs.Prelude.{◌≡◌, ◌≢◌, ◌⊎◌, ℕ, ◌+◌, ◌≤◌, Bool, true, MatchBool, List, [], ◌++◌, length, map, slice_get, Option, Some, None}
use Rattle.delos_types.specs.declared.chain.Chain.{Chain}
use Rattle.loglet_api.specs.declared.call.Kind.{Kind}
use Rattle.loglet_api.specs.View.{LogletView, Operation, operation_at}
use Rattle.loglet_api.specs.Sound.{IsSound}
use Rattle.loglet_api.specs.Step.{task_of}
use Rattle.loglet_api.specs.Keeps.{work_of}
use Rattle.loglet_api.specs.Run.{LogletRun}
use Rattle.loglet_api.specs.Servers.{ServersView, ServesAll}
use Rattle.legal_journal.specs.Law.{Law}
use Rattle.legal_journal.specs.declared.events.FabricCall.{FabricCall}
use Rattle.legal_journal.specs.declared.events.FabricAnswer.{FabricAnswer}
use Rattle.legal_journal.specs.declared.events.Event.{Event}
use Rattle.legal_journal.specs.Told.{Running}
use Rattle.legal_journal.specs.Journal.{CellState, RegisterState, State, state_of, IsLegal, IsCurrent, patience}
use Rattle.legal_journal.specs.Turns.{OwnEvents}
use Rattle.register_api.specs.View.{RegisterView}
use Rattle.fabric_core.specs.Runs.{LogletSteps, StepsOf, is_on, RegisterDoes, RegisterLacks, ServersLack, is_on_register, HasRun, HasRegisterRun}

-- the loglets of the shelf, the servers of each, the register, and the journal of all events
pub record FabricView : Type 0 where
  pub cells : List LogletView
  pub serving : List ServersView
  pub register : RegisterView
  pub journal : List Event

-- an open operation is as the journal tells it
abbrev pub MatchesOperation : Option Running → Option Operation → Type 0
MatchesOperation None None = Unit {0}
MatchesOperation (Some r) (Some o) =
    (o.task ≡ task_of r.op) × (o.size ≡ r.size) × (o.reach ≡ r.reach) × (o.firm ≡ r.firm) × (r.sealed ≡ true → o.shut ≡ true)
MatchesOperation None (Some o) = ⊥
MatchesOperation (Some r) None = ⊥

-- A loglet is as the journal tells it: equal in all that answers tell, sealed where one told so; and the carries that the
-- journal counts are paid for by what is left of the operation.
pub record IsAsTold (c : CellState) (v : LogletView) : Type 0 where
  pub cut : v.cut ≡ c.told.cut
  pub log : v.log ≡ c.told.log
  pub reach : v.reach ≡ c.told.reach
  pub cap : v.cap ≡ c.told.cap
  pub firm : v.firm ≡ c.told.firm
  pub begun : v.begun ≡ c.told.begun
  pub seals : v.seals ≡ c.told.seals
  pub lacks : v.lacks ≡ c.told.lacks
  pub sealed : c.told.sealed ≡ true → v.shut ≡ true
  pub operations : (t : ℕ) → MatchesOperation (c.told.ops t) (operation_at v.operations t)
  pub left : (t : ℕ) (o : Operation) → operation_at v.operations t ≡ Some o → c.carried t + work_of o.left ≤ patience
  pub sound : IsSound v

-- a ticket is marked where it is open
abbrev pub IsMarked : Option Running → Option Bool → Type 0
IsMarked (Some r) mark = mark ≡ Some true
IsMarked None mark = mark ≢ Some true

-- the marks of a cell's tickets
pub record AreMarked (c : CellState) (marks : List Bool) : Type 0 where
  pub count : length marks ≡ c.told.begun
  pub each : (t : ℕ) → IsMarked (c.told.ops t) (slice_get marks t)

-- A register is as the journal tells it: it gave last what is known; what stands is that, or the write that faulted; and a
-- write that a reopening may find is the one that faulted, over what is known.
pub record IsRegisterAsTold (r : RegisterState) (v : RegisterView) : Type 0 where
  pub down : v.down ≡ r.down
  pub given : v.given ≡ r.version
  pub given_chain : v.given_chain ≡ r.chain
  pub current : IsCurrent r v.version v.chain
  pub torn : (c : Chain) → v.asked ≡ Some c → (r.asked ≡ Some c) × (v.version ≡ r.version) × (v.chain ≡ r.chain)

pub record CellOk (w : State) (i : ℕ) (journal : List Event) (v : LogletView) (mark : Option (List Bool)) : Type 0 where
  pub told : IsAsTold (w.cells i) v
  pub here : List Bool
  pub is : mark ≡ Some here
  pub marked : AreMarked (w.cells i) here
  pub ran : HasRun i journal v

-- the journal is legal, each loglet's events are a run of it, and all is as the journal tells
pub record FabricOk (law : Law) (kinds : List Kind) (f : FabricView) (marks : List (List Bool)) : Type 0 where
  pub legal : IsLegal law f.journal
  pub shelf_is : map (λ v. v.servers) f.cells ≡ law.shelf
  pub kinds_are : map (λ v. v.kind) f.cells ≡ kinds
  pub cells : (i : ℕ) (v : LogletView) → slice_get f.cells i ≡ Some v → CellOk (state_of f.journal) i f.journal v (slice_get marks i)
  pub register : IsRegisterAsTold (state_of f.journal).register f.register
  pub register_ran : HasRegisterRun f.journal f.register

-- the own events of a call are added
pub record Adds (old : List Event) (who : ℕ) (call : FabricCall) (answer : FabricAnswer) (new : List Event) : Type 0 where
  pub own : List Event
  pub event : OwnEvents who call answer own
  pub added : new ≡ old ++ own

-- The loglet of this number goes on by the calls that the event makes of it, and its servers by the same calls. An event of
-- another cell, or of the register, makes none, and leaves it as it was.
pub record ActsOn (i : ℕ) (call : FabricCall) (answer : FabricAnswer) (old new : FabricView) : Type 0 where
  pub steps : LogletSteps
  pub are : MatchBool (is_on i call) (StepsOf call answer steps) (steps ≡ [])
  pub cell : (u : LogletView) → slice_get old.cells i ≡ Some u → (v : LogletView) × (slice_get new.cells i ≡ Some v) × LogletRun u steps v
  pub served : (u : ServersView) → slice_get old.serving i ≡ Some u → (v : ServersView) × (slice_get new.serving i ≡ Some v) × ServesAll u steps v

-- what the call and its answer do to each loglet, to its servers and to the register, from the state before it
pub record Acts (old : FabricView) (call : FabricCall) (answer : FabricAnswer) (new : FabricView) : Type 0 where
  pub cells : length new.cells ≡ length old.cells
  pub serving : length new.serving ≡ length old.serving
  pub each : (i : ℕ) → ActsOn i call answer old new
  pub register : MatchBool (is_on_register call) (RegisterDoes old.register call answer new.register) (new.register ≡ old.register)

-- A call for which memory was wanting, and which is no event: all is as it was, but for the disk of the register or server
-- that was to be reopened, and the count of writes of a register that was to be written.
pub record Lacks (old : FabricView) (call : FabricCall) (new : FabricView) : Type 0 where
  pub cells : new.cells ≡ old.cells
  pub serving : length new.serving ≡ length old.serving
  pub each : (i : ℕ) (u : ServersView) → slice_get old.serving i ≡ Some u → (v : ServersView) × (slice_get new.serving i ≡ Some v) × MatchBool (is_on i call) (ServersLack u call v) (v ≡ u)
  pub register : RegisterLacks old.register call new.register
  pub journal : new.journal ≡ old.journal

-- A call adds its event, the journal stays legal, and what the event tells is what was done, from the state before; with
-- Memory there is no event, but for a Carry's.
pub record Keeps (law : Law) (old : FabricView) (who : ℕ) (call : FabricCall) (answer : FabricAnswer) (new : FabricView) : Type 0 where
  pub adds : Adds old.journal who call answer new.journal
  pub legal : IsLegal law new.journal
  pub same : new.journal ≡ old.journal → Lacks old call new
  pub acts : Lacks old call new ⊎ Acts old call answer new
