-- Which events write a chain.
use Rattle.std.specs.Prelude.{◌≡◌, ◌≢◌, ℕ, ◌<◌, List, [], ◌∷◌, ◌++◌, Option, Some, None}
use Rattle.delos_types.specs.declared.chain.Chain.{Chain}
use Rattle.chain_map.specs.Chain.{last_segment}
use Rattle.legal_journal.specs.declared.events.Event.{Event}
use Rattle.legal_journal.specs.Moves.{Move, OnRegister, Writes, Faults, move}

-- the chain that an event wrote: it stands, or it isn't known whether it does
abbrev pub chain_by : Move → Option Chain
chain_by (OnRegister (Writes expected c version)) = Some c
chain_by (OnRegister (Faults expected c)) = Some c
chain_by m = None

-- no event of who's wrote a chain
abbrev pub WriteNone : ℕ → List Event → Type 0
WriteNone who [] = Unit {0}
WriteNone who (e ∷ es) = (e.who ≡ who → chain_by (move e) ≡ None) × WriteNone who es

-- no event of who's since old wrote a chain
pub record WroteNone (who : ℕ) (old new : List Event) : Type 0 where
  pub more : List Event
  pub seen : new ≡ old ++ more
  pub none : WriteNone who more

-- another than who wrote a chain that goes on behind loglet id
pub record IsAnothers (who id : ℕ) (e : Event) : Type 0 where
  pub apart : e.who ≢ who
  pub chain : Chain
  pub wrote : chain_by (move e) ≡ Some chain
  pub behind : id < (last_segment chain).id
