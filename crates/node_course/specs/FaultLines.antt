-- Lines that break or mend parts of a run, or have old messages come again.
use Rattle.std.specs.Prelude.{◌≡◌, ◌≢◌, ◌⊎◌, ℕ, zero, suc, ◌+◌, ◌%◌, ◌<◌, ◌≤◌, ◌==◌, true, cond, List, [], ◌∷◌, ◌++◌, length, replicate, slice_get, Some}
use Rattle.std.specs.List.{AllByRecursion}
use Rattle.legal_journal.specs.declared.events.Event.{Event}
use Rattle.legal_journal.specs.FaultCalls.{is_fault, faults_made, made_by}
use Rattle.legal_journal.specs.declared.events.FabricCall.{FabricCall}
use Rattle.legal_journal.specs.declared.events.FabricCall.TheVariants as call
use Rattle.legal_journal.specs.Journal.{HasServer}
use Rattle.replica_api.specs.Replica.{ReplicaView, armed_by}
use Rattle.base_engine.specs.Arming.{LeavesArming}
use Rattle.script_text.specs.declared.asks.NamedLine.{NamedLine}
use Rattle.script_text.specs.declared.asks.Asks.TheVariants.{Admin}
use Rattle.script_text.specs.declared.line.Admin.TheVariants.{Retire}
use Rattle.script_text.specs.declared.faults.FaultAsk.{FaultAsk}
use Rattle.script_text.specs.declared.faults.FaultAsk.TheVariants.{Stop, Break, BreakMeta, Mend, MendMeta, Stir}
use Rattle.script_text.specs.declared.faults.FaultLine.{FaultLine}

-- Whose events those are

-- an event of number 0, which is no node: it reads the chain, breaks or mends something, or has an old message come again
abbrev pub IsOutside : Event → Type 0
IsOutside e = (e.who ≡ 0) × ((e.call ≡ call.ReadChain) ⊎ (is_fault e.call ≡ true))

abbrev pub AreOutside : List Event → Type 0
AreOutside events = AllByRecursion IsOutside events

-- What they do

-- the call by which a line breaks or mends as its phase begins, if it does; what it mends it mends by its number
abbrev pub call_by : ℕ → FaultAsk → List FabricCall
call_by number (Stop node after) = []
call_by number (Break cell server after) = call.Stop cell server after ∷ []
call_by number (BreakMeta after) = call.StopMeta after ∷ []
call_by number (Mend cell server) = call.Mend cell server number ∷ []
call_by number MendMeta = call.MendMeta number ∷ []
call_by number (Stir turns) = []

-- those of a phase, in the order of its lines
abbrev pub calls_in : ℕ → List FaultLine → List FabricCall
calls_in phase [] = []
calls_in phase (f ∷ fs) = cond (f.phase == phase) (call_by f.number f.asks) [] ++ calls_in phase fs

-- how many old messages a line has come again
abbrev pub turns_by : FaultAsk → ℕ
turns_by (Stop node after) = 0
turns_by (Break cell server after) = 0
turns_by (BreakMeta after) = 0
turns_by (Mend cell server) = 0
turns_by MendMeta = 0
turns_by (Stir turns) = turns

-- .. and all lines of a phase
abbrev pub turns_in : ℕ → List FaultLine → ℕ
turns_in phase [] = 0
turns_in phase (f ∷ fs) = cond (f.phase == phase) (turns_by f.asks) 0 + turns_in phase fs

-- n turns from turn i on, over so many cells: each has an old message of a cell come again, by the turn's number
abbrev pub strays_from : ℕ → ℕ → ℕ → List FabricCall
strays_from cells i zero = []
strays_from cells i (suc n) = call.Stray (i % cells) i ∷ strays_from cells (suc i) n

-- the turns of a phase
abbrev pub strays_in : ℕ → ℕ → List FaultLine → List FabricCall
strays_in cells phase faults = strays_from cells 0 (turns_in phase faults)

-- what fault lines do to the fabric in the phases below this one, phase by phase
abbrev pub acts_before : ℕ → List FaultLine → ℕ → List FabricCall
acts_before cells faults zero = []
acts_before cells faults (suc phase) = acts_before cells faults phase ++ (calls_in phase faults ++ strays_in cells phase faults)

-- the counts with which a line arms node n's disk
abbrev pub stops_by : ℕ → FaultAsk → List ℕ
stops_by n (Stop node after) = cond (node == n) (after ∷ []) []
stops_by n ask = []

-- .. and all lines of a phase, in their order
abbrev pub stops_in : ℕ → ℕ → List FaultLine → List ℕ
stops_in n phase [] = []
stops_in n phase (f ∷ fs) = cond (f.phase == phase) (stops_by n f.asks) [] ++ stops_in n phase fs

-- .. in all phases below this one
abbrev pub stops_before : ℕ → List FaultLine → ℕ → List ℕ
stops_before n faults zero = []
stops_before n faults (suc phase) = stops_before n faults phase ++ stops_in n phase faults

-- The disk was armed with these counts, one after another, and by nothing else.
abbrev pub ArmedBy : List ℕ → ReplicaView → ReplicaView → Type 0
ArmedBy [] old new = LeavesArming 0 old new
ArmedBy (after ∷ afters) old new = (before : ReplicaView) × LeavesArming 0 old before × ArmedBy afters (armed_by before after) new

-- Who has a part in a phase

-- a line of the phase is node n's
pub record HasLineIn (lines : List NamedLine) (phase n : ℕ) : Type 0 where
  pub at : ℕ
  pub line : NamedLine
  pub is : slice_get lines at ≡ Some line
  pub phase_is : line.phase ≡ phase
  pub node_is : line.node ≡ n

-- a line of the phase stops node n's disk
pub record HasStopIn (faults : List FaultLine) (phase n : ℕ) : Type 0 where
  pub at : ℕ
  pub line : FaultLine
  pub is : slice_get faults at ≡ Some line
  pub phase_is : line.phase ≡ phase
  pub after : ℕ
  pub asks_is : line.asks ≡ Stop n after

abbrev pub HasPartIn : List NamedLine → List FaultLine → ℕ → ℕ → Type 0
HasPartIn lines faults phase n = HasLineIn lines phase n ⊎ HasStopIn faults phase n

-- Which lines there may be

-- what the line names is there: servers of the shelf, one of so many nodes
abbrev pub NamesThere : List ℕ → ℕ → FaultAsk → Type 0
NamesThere shelf nodes (Stop node after) = (1 ≤ node) × (node ≤ nodes)
NamesThere shelf nodes (Break cell server after) = HasServer shelf cell server
NamesThere shelf nodes (BreakMeta after) = Unit {0}
NamesThere shelf nodes (Mend cell server) = HasServer shelf cell server
NamesThere shelf nodes MendMeta = Unit {0}
NamesThere shelf nodes (Stir turns) = turns ≤ 1000000

-- the line stands behind so many lines that name a node: none of those is of a later phase, and none of the others of an earlier one
pub record StandsAmong (lines : List NamedLine) (f : FaultLine) : Type 0 where
  pub above : (k : ℕ) (l : NamedLine) → slice_get lines k ≡ Some l → k < f.before → l.phase ≤ f.phase
  pub below : (k : ℕ) (l : NamedLine) → slice_get lines k ≡ Some l → f.before ≤ k → f.phase ≤ l.phase

-- no line stops a node behind one by which it leaves
abbrev pub StopsMembers : List NamedLine → ℕ → FaultAsk → Type 0
StopsMembers lines before (Stop node after) = (k : ℕ) (l : NamedLine) → slice_get lines k ≡ Some l → k < before → l.node ≡ node → l.asks ≢ Admin Retire
StopsMembers lines before ask = Unit {0}

-- the fault lines of a run with these lines, over this shelf
pub record AreFaultLines (lines : List NamedLine) (faults : List FaultLine) (shelf : List ℕ) (nodes : ℕ) : Type 0 where
  pub few : length faults ≤ 20000
  pub rise : (i j : ℕ) (f g : FaultLine) → slice_get faults i ≡ Some f → slice_get faults j ≡ Some g → i < j → (f.phase ≤ g.phase) × (f.before ≤ g.before)
  pub among : (i : ℕ) (f : FaultLine) → slice_get faults i ≡ Some f → StandsAmong lines f
  pub there : (i : ℕ) (f : FaultLine) → slice_get faults i ≡ Some f → NamesThere shelf nodes f.asks
  pub stay : (i : ℕ) (f : FaultLine) → slice_get faults i ≡ Some f → StopsMembers lines f.before f.asks

-- the fault lines of a phase and of later ones begin there
pub record FaultsBeginAt (faults : List FaultLine) (from phase : ℕ) : Type 0 where
  pub before : (i : ℕ) (f : FaultLine) → slice_get faults i ≡ Some f → i < from → f.phase < phase
  pub behind : (i : ℕ) (f : FaultLine) → slice_get faults i ≡ Some f → from ≤ i → phase ≤ f.phase

-- those of this phase are the ones from `from` up to `to`
pub record AreOfPhase (faults : List FaultLine) (phase from to : ℕ) : Type 0 where
  pub range : (from ≤ to) × (to ≤ length faults)
  pub begins : FaultsBeginAt faults from phase
  pub ends : FaultsBeginAt faults to (phase + 1)

-- What came of all of them

-- Number 0 made these calls, phase by phase as the fault lines ask, and nobody made others; as nodes closed the register was opened again,
-- with word 0, so often.
pub record HaveActed (cells : ℕ) (faults : List FaultLine) (opened : ℕ) (journal : List Event) : Type 0 where
  pub phases : ℕ
  pub all : (i : ℕ) (f : FaultLine) → slice_get faults i ≡ Some f → f.phase < phases
  pub made : faults_made journal ≡ made_by 0 (acts_before cells faults phases ++ replicate opened (call.MendMeta 0))
