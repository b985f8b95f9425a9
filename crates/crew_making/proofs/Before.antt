-- Before any event.
use Rattle.std.proofs.Common.{refl, inl, ℕ, []}
use Rattle.legal_journal.specs.Law.{Law}
use Rattle.legal_journal.specs.declared.events.FabricCall.{FabricCall}
use Rattle.legal_journal.specs.declared.events.FabricCall.TheVariants.{Begin, Carry, Forget, ReadChain, WriteChain, Stop, Mend, Stray, StopMeta, MendMeta}
use Rattle.legal_journal.specs.declared.events.FabricAnswer.TheVariants.{Memory}
use Rattle.legal_journal.specs.Journal.{IsLegal}
use Rattle.legal_journal.specs.Turns.{OwnEvents, IsTurn}

own_none : (who : ℕ) (call : FabricCall) → OwnEvents who call Memory []
own_none who (Carry i t word) = inl refl
own_none who (Begin i op) = refl
own_none who (Forget i t) = refl
own_none who ReadChain = refl
own_none who (WriteChain x c) = refl
own_none who (Stop i server n) = refl
own_none who (Mend i server word) = refl
own_none who (Stray i word) = refl
own_none who (StopMeta n) = refl
own_none who (MendMeta word) = refl

-- a call without a fabric
pub no_turn : (law : Law) (who : ℕ) (call : FabricCall) → IsLegal law [] → IsTurn law who [] call Memory []
no_turn law who call legal = record { others = []; own = []; apart = tt; event = own_none who call; seen = refl; legal = legal }
