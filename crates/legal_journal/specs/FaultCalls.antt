-- Calls by which a part of a fabric is broken or mended, or an old message comes again.
use Rattle.std.specs.Prelude.{◌≡◌, ℕ, Bool, true, false, cond, List, [], ◌∷◌, ◌++◌, map}
use Rattle.legal_journal.specs.declared.events.FabricCall.{FabricCall}
use Rattle.legal_journal.specs.declared.events.FabricCall.TheVariants.{Begin, Carry, Forget, ReadChain, WriteChain, Stop, Mend, Stray, StopMeta, MendMeta}
use Rattle.legal_journal.specs.declared.events.Event.{Event}

abbrev pub is_fault : FabricCall → Bool
is_fault (Begin i op) = false
is_fault (Carry i t word) = false
is_fault (Forget i t) = false
is_fault ReadChain = false
is_fault (WriteChain x c) = false
is_fault (Stop i server n) = true
is_fault (Mend i server word) = true
is_fault (Stray i word) = true
is_fault (StopMeta n) = true
is_fault (MendMeta word) = true

-- those of a journal, in their order, each with the number of its user
abbrev pub faults_made : List Event → List (ℕ × FabricCall)
faults_made [] = []
faults_made (e ∷ es) = cond (is_fault e.call) ((e.who, e.call) ∷ []) [] ++ faults_made es

-- these calls, as the user's of this number
abbrev pub made_by : ℕ → List FabricCall → List (ℕ × FabricCall)
made_by who calls = map (λ call. (who, call)) calls

-- none of these is by who
abbrev pub NoneBy : ℕ → List Event → Type 0
NoneBy who [] = Unit {0}
NoneBy who (e ∷ es) = (e.who ≡ who → is_fault e.call ≡ false) × NoneBy who es

-- who made none of them since old
pub record MakesNone (who : ℕ) (old new : List Event) : Type 0 where
  pub more : List Event
  pub seen : new ≡ old ++ more
  pub none : NoneBy who more
