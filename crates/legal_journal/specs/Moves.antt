-- What the calls of a fabric and their answers do: a move of one cell, a move of the register, or nothing that a
-- journal tells more of.
use Rattle.std.specs.Prelude.{ℕ, Bool, true}
use Rattle.loglet_api.specs.declared.call.Op.{Op}
use Rattle.loglet_api.specs.declared.call.Answer.{Answer}
use Rattle.delos_types.specs.declared.chain.Chain.{Chain}
use Rattle.legal_journal.specs.declared.events.FabricCall.{FabricCall}
use Rattle.legal_journal.specs.declared.events.FabricCall.TheVariants.{Begin, Carry, Forget, ReadChain, WriteChain, Stop, Mend, Stray, StopMeta, MendMeta}
use Rattle.legal_journal.specs.declared.events.FabricAnswer.{FabricAnswer}
use Rattle.legal_journal.specs.declared.events.FabricAnswer.TheVariants.{Begun, Full, Done, Going, NoTicket, Gone, At, Down, Written, Conflict, MetaFault, Set, Memory}
use Rattle.legal_journal.specs.declared.events.Event.{Event}

pub data CellMove : Type 0 where
  Begins : (op : Op) (ticket : ℕ) → CellMove
  -- carries the operation and leaves it undecided
  Carries : (ticket : ℕ) → CellMove
  Answers : (ticket : ℕ) (a : Answer) → CellMove
  -- closes the operation without an answer: it was forgotten, or the entry that it got couldn't be copied
  Drops : (ticket : ℕ) → CellMove
  -- no such ticket is open
  Misses : (ticket : ℕ) → CellMove

pub data RegisterMove : Type 0 where
  Gives : (version : ℕ) (chain : Chain) → RegisterMove
  Conflicts : (expected version : ℕ) (chain : Chain) → RegisterMove
  Writes : (expected : ℕ) (chain : Chain) (version : ℕ) → RegisterMove
  -- a write of which it isn't known whether it stands
  Faults : (expected : ℕ) (chain : Chain) → RegisterMove
  -- the register is down
  Fails : RegisterMove
  Mends : Bool → RegisterMove

pub data Move : Type 0 where
  OnCell : (cell : ℕ) → CellMove → Move
  OnRegister : RegisterMove → Move
  Nothing : Move
  -- the call is never answered so
  Never : Move

abbrev pub move_of : FabricCall → FabricAnswer → Move
move_of (Begin i op) (Begun t) = OnCell i (Begins op t)
move_of (Begin i op) Full = Nothing
move_of (Carry i t w) Going = OnCell i (Carries t)
move_of (Carry i t w) (Done a) = OnCell i (Answers t a)
move_of (Carry i t w) Memory = OnCell i (Drops t)
move_of (Carry i t w) NoTicket = OnCell i (Misses t)
move_of (Forget i t) Gone = OnCell i (Drops t)
move_of (Forget i t) NoTicket = OnCell i (Misses t)
move_of ReadChain (At v c) = OnRegister (Gives v c)
move_of ReadChain Down = OnRegister Fails
move_of (WriteChain x c) (Written v) = OnRegister (Writes x c v)
move_of (WriteChain x c) (Conflict v d) = OnRegister (Conflicts x v d)
move_of (WriteChain x c) MetaFault = OnRegister (Faults x c)
move_of (WriteChain x c) Down = OnRegister Fails
move_of (MendMeta w) (Set b) = OnRegister (Mends b)
move_of (Stop i s n) (Set true) = Nothing
move_of (Mend i s w) (Set b) = Nothing
move_of (Stray i w) (Set true) = Nothing
move_of (StopMeta n) (Set true) = Nothing
move_of call answer = Never

abbrev pub move : Event → Move
move e = move_of e.call e.answer
