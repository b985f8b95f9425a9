-- Which calls of its loglets and its register a fabric makes for an event, and that those of each are a run.
use Rattle.std.specs.Prelude.{◌≡◌, ◌⊎◌, ◌==◌, ℕ, ◌≤◌, nat_lt, Bool, true, false, MatchBool, List, [], ◌∷◌, None, Some, Ok}
use Rattle.loglet_api.specs.declared.call.Refused.TheVariants as refused
use Rattle.loglet_api.specs.declared.call.LogletCall.{LogletCall}
use Rattle.loglet_api.specs.declared.call.LogletCall.TheVariants as call
use Rattle.loglet_api.specs.declared.call.LogletAnswer.{LogletAnswer}
use Rattle.loglet_api.specs.declared.call.LogletAnswer.TheVariants as answer
use Rattle.loglet_api.specs.View.{LogletView, IsFresh}
use Rattle.loglet_api.specs.Run.{LogletRun}
use Rattle.loglet_api.specs.Servers.{ServersView, Serves}
use Rattle.register_api.specs.declared.answer.ReadAnswer.TheVariants as read
use Rattle.register_api.specs.declared.answer.WriteAnswer.TheVariants as write
use Rattle.register_api.specs.View as register
use Rattle.register_api.specs.View.{RegisterView, armed_by}
use Rattle.register_api.specs.Calls.{Reads, Writes, Reopens, TakesOne, Tries}
use Rattle.legal_journal.specs.declared.events.FabricCall.{FabricCall}
use Rattle.legal_journal.specs.declared.events.FabricCall.TheVariants.{Begin, Carry, Forget, ReadChain, WriteChain, Stop, Mend, Stray, StopMeta, MendMeta}
use Rattle.legal_journal.specs.declared.events.FabricAnswer.{FabricAnswer}
use Rattle.legal_journal.specs.declared.events.FabricAnswer.TheVariants.{Begun, Full, Done, Going, NoTicket, Gone, At, Down, Written, Conflict, MetaFault, Set, Memory}
use Rattle.legal_journal.specs.declared.events.Event.{Event}

abbrev pub LogletSteps : Type 0
LogletSteps = List (LogletCall × LogletAnswer)

-- an undecided operation is carried once before this
abbrev pub CarriesFirst : ℕ → ℕ → LogletSteps → LogletSteps → Type 0
CarriesFirst t word rest steps = (steps ≡ (call.Carry t word, answer.Carried) ∷ rest) ⊎ (steps ≡ rest)

-- the calls of the cell's loglet, with their answers; a ticket that isn't open needs none
abbrev pub StepsOf : FabricCall → FabricAnswer → LogletSteps → Type 0
StepsOf (Begin i op) (Begun t) steps = steps ≡ (call.Begin op, answer.Begun t) ∷ []
StepsOf (Begin i op) Full steps = steps ≡ (call.Begin op, answer.Refusal refused.Full) ∷ []
StepsOf (Carry i t word) Going steps = steps ≡ (call.Carry t word, answer.Carried) ∷ (call.Take t, answer.Taken None) ∷ []
StepsOf (Carry i t word) (Done a) steps = CarriesFirst t word ((call.Take t, answer.Taken (Some a)) ∷ []) steps
StepsOf (Carry i t word) Memory steps = CarriesFirst t word ((call.Forget t, answer.Forgotten) ∷ []) steps
StepsOf (Carry i t word) NoTicket steps = steps ≡ []
StepsOf (Forget i t) Gone steps = steps ≡ (call.Forget t, answer.Forgotten) ∷ []
StepsOf (Forget i t) NoTicket steps = steps ≡ []
StepsOf (Stop i server n) (Set true) steps = steps ≡ (call.Stop server n, answer.Stopped) ∷ []
StepsOf (Mend i server word) (Set b) steps = steps ≡ (call.Restart server word, answer.Restarted b) ∷ []
StepsOf (Stray i word) (Set true) steps = steps ≡ (call.Stray word, answer.Strayed) ∷ []
StepsOf c a steps = ⊥

-- the call is of this cell
abbrev pub is_on : ℕ → FabricCall → Bool
is_on i (Begin j op) = i == j
is_on i (Carry j t word) = i == j
is_on i (Forget j t) = i == j
is_on i (Stop j server n) = i == j
is_on i (Mend j server word) = i == j
is_on i (Stray j word) = i == j
is_on i ReadChain = false
is_on i (WriteChain x c) = false
is_on i (StopMeta n) = false
is_on i (MendMeta word) = false

-- what the event calls of this cell's loglet
abbrev pub StepsOn : ℕ → Event → LogletSteps → Type 0
StepsOn i e steps = MatchBool (is_on i e.call) (StepsOf e.call e.answer steps) (steps ≡ [])

-- The events of cell i are a run of its loglet, from one view to another.
abbrev pub CellRun : ℕ → LogletView → List Event → LogletView → Type 0
CellRun i old [] new = new ≡ old
CellRun i old (e ∷ es) new =
    (mid : LogletView) × ((steps : LogletSteps) × StepsOn i e steps × LogletRun old steps mid) × CellRun i mid es new

-- The events of cell i are a run of its loglet from a fresh one to this one. What never changes of a loglet is the same of
-- both, so there is one such opening.
pub record HasRun (i : ℕ) (events : List Event) (now : LogletView) : Type 0 where
  pub opening : LogletView
  pub fresh : IsFresh opening
  pub kind : now.kind ≡ opening.kind
  pub servers : now.servers ≡ opening.servers
  pub quorum : now.quorum ≡ opening.quorum
  pub room : now.room ≡ opening.room
  pub rounds : now.rounds ≡ opening.rounds
  pub limit : now.limit ≡ opening.limit
  pub run : CellRun i opening events now

-- what the call and its answer do to the register
abbrev pub RegisterDoes : RegisterView → FabricCall → FabricAnswer → RegisterView → Type 0
RegisterDoes old ReadChain (At version chain) new = Reads old (Ok (read.At version chain)) new
RegisterDoes old ReadChain Down new = Reads old (Ok read.Down) new
RegisterDoes old (WriteChain x c) (Written version) new = Writes old x c (Ok (write.Written version)) new
RegisterDoes old (WriteChain x c) (Conflict version chain) new = Writes old x c (Ok (write.Conflict version chain)) new
RegisterDoes old (WriteChain x c) MetaFault new = Writes old x c (Ok write.MetaFault) new
RegisterDoes old (WriteChain x c) Down new = Writes old x c (Ok write.Down) new
RegisterDoes old (StopMeta n) (Set true) new = new ≡ armed_by old n
RegisterDoes old (MendMeta word) (Set b) new = Reopens old word (Ok b) new
RegisterDoes old call answer new = ⊥

-- the call is of the register
abbrev pub is_on_register : FabricCall → Bool
is_on_register ReadChain = true
is_on_register (WriteChain x c) = true
is_on_register (StopMeta n) = true
is_on_register (MendMeta word) = true
is_on_register (Begin j op) = false
is_on_register (Carry j t word) = false
is_on_register (Forget j t) = false
is_on_register (Stop j server n) = false
is_on_register (Mend j server word) = false
is_on_register (Stray j word) = false

-- A call for which memory was wanting is no event. It may have taken one of the writes that an armed register counts, and
-- not the last, or have reopened the disk of a register that is down.
abbrev pub RegisterLacks : RegisterView → FabricCall → RegisterView → Type 0
RegisterLacks old (WriteChain x c) new = TakesOne old.armed new.armed × (new ≡ record old { armed = new.armed })
RegisterLacks old (MendMeta word) new = (new ≡ old) ⊎ (Tries old word new × (new ≡ record old { word = new.word }))
RegisterLacks old call new = new ≡ old

-- the servers after a call of a loglet that wasn't made, or was refused for memory
abbrev pub MayTake : ServersView → LogletCall → ServersView → Type 0
MayTake old c new = (new ≡ old) ⊎ Serves old c (answer.Refusal refused.Memory) new

-- .. and some of those that a server's disk counts, or have reopened it
abbrev pub ServersLack : ServersView → FabricCall → ServersView → Type 0
ServersLack old (Carry i t word) new = MayTake old (call.Carry t word) new
ServersLack old (Mend i server word) new = MayTake old (call.Restart server word) new
ServersLack old (Stray i word) new = MayTake old (call.Stray word) new
ServersLack old call new = new ≡ old

-- what such calls of the register come to, one after another
pub record Drifts (old new : RegisterView) : Type 0 where
  pub is : new ≡ record old { armed = new.armed; word = new.word }
  pub fewer : new.armed ≤ old.armed
  pub still : nat_lt 0 new.armed ≡ nat_lt 0 old.armed
  pub word : old.down ≡ false → new.word ≡ old.word

-- what the event does to the register, after calls that are no events
pub record RegisterStep (old : RegisterView) (e : Event) (new : RegisterView) : Type 0 where
  pub before : RegisterView
  pub drifted : Drifts old before
  pub does : MatchBool (is_on_register e.call) (RegisterDoes before e.call e.answer new) (new ≡ before)

-- The events are a run of the register, with such calls between them and at the end.
abbrev pub RegisterRun : RegisterView → List Event → RegisterView → Type 0
RegisterRun old [] new = Drifts old new
RegisterRun old (e ∷ es) new =
    (mid : RegisterView) × RegisterStep old e mid × RegisterRun mid es new

-- the events are a run of the register from a fresh one to this one
pub record HasRegisterRun (events : List Event) (now : RegisterView) : Type 0 where
  pub opening : RegisterView
  pub fresh : register.IsFresh opening
  pub run : RegisterRun opening events now
