-- What a log tells a node.
use Rattle.std.specs.Prelude.{◌≡◌, ℕ, List, slice_get, Some}
use Rattle.delos_types.specs.declared.entry.Entry.{Entry}
use Rattle.legal_journal.specs.declared.events.Event.{Event}
use Rattle.virtual_log.specs.declared.extend.Extension.{Extension}
use Rattle.virtual_log.specs.Extending.{IsExtension}

-- the log holds these entries from position 0 on
abbrev pub IsFront : (List Event → ℕ → Entry → Type 0) → List Event → List Entry → Type 0
IsFront holds seen log = (pos : ℕ) (e : Entry) → slice_get log pos ≡ Some e → holds seen pos e

-- what a replacement of the last loglet says, by the version of the chain that the log goes by then
abbrev pub IsExtendedBy : ℕ → ℕ → List Event → ℕ → ℕ → List Event → Extension → Type 0
IsExtendedBy cells who old known known' new answer = (version : ℕ) × IsExtension cells who old known known' version new answer
