-- The cause of each fault: an own event of the call.
use Rattle.std.specs.Prelude.{◌≡◌, ℕ, List, [], ◌∷◌, ◌++◌}
use Rattle.loglet_api.specs.declared.call.Answer.{Answer}
use Rattle.loglet_api.specs.declared.call.Answer.TheVariants as answers
use Rattle.legal_journal.specs.declared.events.Event.{Event}
use Rattle.legal_journal.specs.declared.events.FabricCall.{FabricCall}
use Rattle.legal_journal.specs.declared.events.FabricCall.TheVariants.{Begin, Carry}
use Rattle.legal_journal.specs.declared.events.FabricAnswer.{FabricAnswer}
use Rattle.legal_journal.specs.declared.events.FabricAnswer.TheVariants as fabric
use Rattle.virtual_log.specs.declared.fault.Fault.{Fault}
use Rattle.virtual_log.specs.declared.fault.Fault.TheVariants.{NoQuorum, Full, Meta, Memory}
use Rattle.virtual_log.specs.Turning.{HasEvent}

-- too few servers of loglet id were left, by so many
abbrev pub IsLack : ℕ → ℕ → FabricCall → FabricAnswer → Type 0
IsLack id unreached (Carry i t word) (fabric.Done (answers.NoQuorum u)) = (i ≡ id) × (u ≡ unreached)
IsLack id unreached c a = ⊥

-- loglet id had no room
abbrev pub IsFullOf : ℕ → FabricCall → FabricAnswer → Type 0
IsFullOf id (Begin i op) fabric.Full = i ≡ id
IsFullOf id c a = ⊥

-- the register failed or was down
abbrev pub IsMetaFault : FabricAnswer → Type 0
IsMetaFault fabric.MetaFault = Unit {0}
IsMetaFault fabric.Down = Unit {0}
IsMetaFault a = ⊥

abbrev pub Causes : ℕ → Fault → Event → Type 0
Causes who (NoQuorum id unreached) e = (e.who ≡ who) × IsLack id unreached e.call e.answer
Causes who (Full id) e = (e.who ≡ who) × IsFullOf id e.call e.answer
Causes who Meta e = (e.who ≡ who) × IsMetaFault e.answer
Causes who Memory e = Unit {0}

-- the fault is want of memory, or an own event since old answered so
abbrev pub HasCause : ℕ → List Event → Fault → List Event → Type 0
HasCause who old Memory new = Unit {0}
HasCause who old (NoQuorum id unreached) new = HasEvent old (Causes who (NoQuorum id unreached)) new
HasCause who old (Full id) new = HasEvent old (Causes who (Full id)) new
HasCause who old Meta new = HasEvent old (Causes who Meta) new

-- the loglet's answer doesn't tell of too few servers
abbrev pub IsCalmAnswer : Answer → Type 0
IsCalmAnswer (answers.NoQuorum u) = ⊥
IsCalmAnswer a = Unit {0}

-- the answer is the cause of no fault
abbrev pub IsCalm : FabricAnswer → Type 0
IsCalm (fabric.Done a) = IsCalmAnswer a
IsCalm fabric.Full = ⊥
IsCalm fabric.MetaFault = ⊥
IsCalm fabric.Down = ⊥
IsCalm a = Unit {0}

-- .. no answer to who's is
abbrev pub AreCalm : ℕ → List Event → Type 0
AreCalm who [] = Unit {0}
AreCalm who (e ∷ es) = (e.who ≡ who → IsCalm e.answer) × AreCalm who es

-- no own event since old tells of a fault
pub record CalmSince (who : ℕ) (old new : List Event) : Type 0 where
  pub more : List Event
  pub seen : new ≡ old ++ more
  pub calm : AreCalm who more
