-- Which entries a journal appended, and to which positions it raised its trim.
use Rattle.std.specs.Prelude.{◌⊎◌, ◌≤◌, ℕ, List, filter_map, Contains, Option, Some, None}
use Rattle.delos_types.specs.declared.entry.Entry.{Entry}
use Rattle.loglet_api.specs.declared.call.Op.TheVariants.{Append}
use Rattle.legal_journal.specs.declared.events.FabricCall.{FabricCall}
use Rattle.legal_journal.specs.declared.events.FabricCall.TheVariants.{Begin, WriteChain}
use Rattle.legal_journal.specs.declared.events.FabricAnswer.{FabricAnswer}
use Rattle.legal_journal.specs.declared.events.FabricAnswer.TheVariants.{Begun, Written, MetaFault}
use Rattle.legal_journal.specs.declared.events.Event.{Event}
use Rattle.legal_journal.specs.Journal.{state_of, Shows}

-- the entry that the call began to append
abbrev pub entry_begun : FabricCall → FabricAnswer → Option Entry
entry_begun (Begin cell (Append e)) (Begun ticket) = Some e
entry_begun call answer = None

-- the entries that were begun to be appended, in order
abbrev pub appended : List Event → List Entry
appended events = filter_map (λ e. entry_begun e.call e.answer) events

-- the trim of a chain that was written, or may have been
abbrev pub trim_written : FabricCall → FabricAnswer → Option ℕ
trim_written (WriteChain expected chain) (Written version) = Some chain.trim
trim_written (WriteChain expected chain) MetaFault = Some chain.trim
trim_written call answer = None

-- the trims of the chains that were written, or may have been, in order
abbrev pub raised : List Event → List ℕ
raised events = filter_map (λ e. trim_written e.call e.answer) events

-- no chain was written, nor may have been, whose trim is above m
abbrev pub TrimsUpTo : ℕ → List Event → Type 0
TrimsUpTo m events = (n : ℕ) → Contains (raised events) n → n ≤ m

-- of what was begun to be appended since, each entry is one of before, or such a one
abbrev pub Adds : (Entry → Type 0) → List Event → List Event → Type 0
Adds P old new = (e : Entry) → Contains (appended new) e → Contains (appended old) e ⊎ P e

-- what the log shows has a beginning that lets it be trimmed to n
pub record Frees (floor : List Entry → ℕ → Type 0) (seen : List Event) (n : ℕ) : Type 0 where
  pub log : List Entry
  pub shows : Shows (state_of seen).shown log
  pub each : (e : Entry) → Contains log e → Contains (appended seen) e
  pub free : floor log n
