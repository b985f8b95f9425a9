-- What a register gave last, and how many of its reopenings failed, as a journal tells it.
use Rattle.std.specs.Prelude.{ℕ, Bool, true, false, List, [], ◌∷◌, Option, Some, None, unwrap_or, count_by}
use Rattle.delos_types.specs.declared.chain.Chain.{Chain}
use Rattle.chain_map.specs.Chain.{first_chain}
use Rattle.legal_journal.specs.declared.events.FabricCall.{FabricCall}
use Rattle.legal_journal.specs.declared.events.FabricCall.TheVariants.{ReadChain, WriteChain, MendMeta}
use Rattle.legal_journal.specs.declared.events.FabricAnswer.{FabricAnswer}
use Rattle.legal_journal.specs.declared.events.FabricAnswer.TheVariants.{At, Written, Conflict, Set}
use Rattle.legal_journal.specs.declared.events.Event.{Event}

-- the version and chain that a read gave
abbrev pub read_gift : FabricAnswer → Option (ℕ × Chain)
read_gift (At version chain) = Some (version, chain)
read_gift answer = None

-- those that a write of this chain gave
abbrev pub write_gift : Chain → FabricAnswer → Option (ℕ × Chain)
write_gift chain (Written version) = Some (version, chain)
write_gift chain (Conflict version standing) = Some (version, standing)
write_gift chain answer = None

-- those that an event gave
abbrev pub gift_of : FabricCall → FabricAnswer → Option (ℕ × Chain)
gift_of ReadChain answer = read_gift answer
gift_of (WriteChain expected chain) answer = write_gift chain answer
gift_of call answer = None

-- those that were given last, where these were before
abbrev pub given_from : ℕ × Chain → List Event → ℕ × Chain
given_from before [] = before
given_from before (e ∷ es) = given_from (unwrap_or (gift_of e.call e.answer) before) es

-- those that were given last, or the first ones
abbrev pub given_last : List Event → ℕ × Chain
given_last events = given_from (1, first_chain) events

-- a reopening that failed
abbrev pub is_miss : FabricCall → FabricAnswer → Bool
is_miss (MendMeta word) (Set false) = true
is_miss call answer = false

-- how many reopenings failed
abbrev pub misses_in : List Event → ℕ
misses_in events = count_by (λ e. is_miss e.call e.answer) events
