-- What a node's lines that asked for a replacement of the last loglet did to the chain, or found done.
use Rattle.std.specs.Prelude.{◌≡◌, ℕ, ◌+◌, ◌<◌, ◌≤◌, List, ◌∷◌, ◌++◌, Option}
use Rattle.delos_types.specs.declared.chain.Chain.{Chain}
use Rattle.chain_map.specs.Chain.{last_id, last_segment}
use Rattle.legal_journal.specs.declared.events.Event.{Event}
use Rattle.legal_journal.specs.Journal.{state_of, tail_of}
use Rattle.journal_laws.specs.Versions.{IsFurther, write}
use Rattle.virtual_log.specs.Turning.{HasEvent}
use Rattle.virtual_log.specs.Writing.{IsAnothers}
use Rattle.virtual_log.specs.declared.extend.Extension.{Extension}
use Rattle.virtual_log.specs.declared.extend.Extension.TheVariants.{Extended, Moved, NoSpare}
use Rattle.node_lines.specs.Chains.{GoesFurther}
use Rattle.script_text.specs.declared.asks.NamedLine.{NamedLine}
use Rattle.script_text.specs.declared.asks.Asks.{Asks}
use Rattle.script_text.specs.declared.asks.Asks.TheVariants as asks
use Rattle.node_lines.specs.declared.lines.Looked.{Looked}
use Rattle.node_lines.specs.declared.lines.Looked.TheVariants as looked
use Rattle.node_course.specs.Moments.{NodeCourse, moment}
use Rattle.node_course.specs.Played.{Came, went_further}

-- who wrote a chain that stands under this version, whose last segment begins there
pub record HasWritten (who version start : ℕ) (journal : List Event) : Type 0 where
  pub expected : ℕ
  pub chain : Chain
  pub begins : (last_segment chain).start ≡ start
  pub before : List Event
  pub after : List Event
  pub seen : journal ≡ before ++ write who expected chain version ∷ after

-- the log was so long at some time between these moments
pub record WasSoLong (old new : List Event) (size : ℕ) : Type 0 where
  pub from : tail_of (state_of old) ≤ size
  pub upto : size ≤ tail_of (state_of new)

-- another than who wrote a chain since old, which goes on behind the last loglet of then
abbrev pub IsPassed : ℕ → List Event → List Event → Type 0
IsPassed who old new = HasEvent old (IsAnothers who (last_id (state_of old).register.chain)) new

-- Between two moments the last loglet was replaced by who, or by another; or there was none to replace it with, over a shelf of so
-- many.
abbrev pub IsReplaced : ℕ → ℕ → List Event → List Event → Extension → Type 0
IsReplaced cells who old new (Extended version start) = GoesFurther (state_of old).register (state_of new).register version start × HasWritten who version start new × WasSoLong old new start
IsReplaced cells who old new (Moved version) = IsFurther (state_of old).register (state_of new).register version × IsPassed who old new
IsReplaced cells who old new NoSpare = last_id (state_of new).register.chain + 1 ≡ cells

-- of two lines, the first of an earlier phase than the other, or of an earlier line of the same node: the later has the higher version
abbrev pub GoesBefore : Extension → Extension → Type 0
GoesBefore (Extended v s) (Extended w r) = v < w
GoesBefore (Extended v s) (Moved w) = v < w
GoesBefore (Moved v) (Extended w r) = v < w
GoesBefore (Moved v) (Moved w) = v < w
GoesBefore NoSpare (Extended w r) = ⊥
GoesBefore NoSpare (Moved w) = ⊥
GoesBefore x NoSpare = Unit {0}

-- it is asked of a node itself
abbrev pub AsksNode : Asks → Type 0
AsksNode (asks.Admin a) = Unit {0}
AsksNode (asks.Logged s r command) = ⊥
AsksNode (asks.Look s query) = ⊥

-- Of the node's lines that were played: each came to what the chain tells by the moment at which the next phase began.
pub record Replaced (lines : List NamedLine) (looks : List (Option Looked)) (n : ℕ) (c : NodeCourse) (cells : ℕ) : Type 0 where
  pub each : (i : ℕ) (l : NamedLine) (x : Extension) → Came lines looks n i l (looked.Extended x) → IsReplaced cells n (moment c l.phase) (moment c (l.phase + 1)) x
  -- no line replaced the last loglet that didn't ask its node to
  pub asked : (i : ℕ) (l : NamedLine) (x : Extension) → Came lines looks n i l (looked.Extended x) → AsksNode l.asks
  pub order : (i j : ℕ) (l m : NamedLine) (x y : Extension) → Came lines looks n i l (looked.Extended x) → Came lines looks n j m (looked.Extended y) → i < j → GoesBefore x y
  -- each that found the chain further on has a loglet of its own
  pub ids : went_further n lines looks ≤ last_id (state_of c.seen).register.chain
