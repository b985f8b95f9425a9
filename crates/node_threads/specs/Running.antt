-- The log while the nodes work.
use Rattle.std.specs.Prelude.{◌≡◌, ℕ, ◌<◌, ◌≤◌, Some, IsSome}
use Rattle.delos_types.specs.declared.chain.Chain.{Chain}
use Rattle.delos_types.specs.declared.entry.Entry.{Entry}
use Rattle.chain_map.specs.Chain.{IsChain}
use Rattle.legal_journal.specs.Journal.{State, log_at, tail_of, trim_of}
use Rattle.legal_journal.specs.Laws.{Continues, IsClosedAtTails, Stands}

-- From one moment to a later one: at each position that both logs have they agree, none is missing from the trim up to the tail, what stood
-- stands or is trimmed, and each chain that was given then is given still, is a chain, and each of its closed segments ends at a sealed tail
-- that its loglet answered.
pub record LogGoesOn (early late : State) : Type 0 where
  pub goes : Continues early late
  pub agrees : (pos : ℕ) (e f : Entry) → log_at early pos ≡ Some e → log_at late pos ≡ Some f → e ≡ f
  pub whole : (pos : ℕ) → trim_of late ≤ pos → pos < tail_of early → IsSome (log_at late pos)
  pub stands : (pos : ℕ) (e : Entry) → Stands early pos e → Stands late pos e
  pub chain : (version : ℕ) (c : Chain) → early.register.given version ≡ Some c → IsChain c
  pub closed : (version : ℕ) (c : Chain) → early.register.given version ≡ Some c → IsClosedAtTails late c
