-- What a virtual log says of a replacement of its last loglet, as a node asks for it.
use Rattle.std.proofs.Common.{◌≡◌, ℕ, ◌≤◌, List, arith}
use Rattle.std.specs.Prelude.{Result, Ok, Err, IfOk, OnErr}
use Rattle.std.proofs.Math.Nat.{le-max_left}
use Rattle.legal_journal.specs.declared.events.Event.{Event}
use Rattle.virtual_log.specs.declared.extend.Extension.{Extension}
use Rattle.virtual_log.specs.declared.extend.Extension.TheVariants.{Extended, Moved, NoSpare}
use Rattle.virtual_log.specs.declared.fault.Fault.{Fault}
use Rattle.virtual_log.specs.Extending.{IsExtension}
use Rattle.base_engine.specs.Reading.{IsExtendedBy}

pub extended_by : (cells who : ℕ) (old : List Event) (known known' version : ℕ) (new : List Event) (r : Result Extension Fault) → IfOk r (IsExtension cells who old known known' version new) → IfOk r (IsExtendedBy cells who old known known' new)
extended_by cells who old known known' version new (Ok x) h = (version, h)
extended_by cells who old known known' version new (Err f) h = h

-- no less is known then
pub known_grows : (cells who : ℕ) (old : List Event) (known known' version : ℕ) (new : List Event) (r : Result Extension Fault) → IfOk r (IsExtension cells who old known known' version new) → OnErr r (known' ≡ known) → known ≤ known'
known_grows cells who old known known' version new (Ok (Extended v start)) h k = omega (arith, le-max_left known start, h.follows.1.1)
known_grows cells who old known known' version new (Ok (Moved v)) h k = omega (arith, h.follows.1.1)
known_grows cells who old known known' version new (Ok NoSpare) h k = omega (arith, h.follows.2)
known_grows cells who old known known' version new (Err f) h k = omega (arith, k)
