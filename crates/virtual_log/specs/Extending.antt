-- What a replacement of the last loglet says.
use Rattle.std.specs.Prelude.{◌≡◌, ℕ, ◌+◌, ◌<◌, max, List, [], ◌∷◌, ◌++◌}
use Rattle.delos_types.specs.declared.chain.Segment.{Segment}
use Rattle.delos_types.specs.declared.chain.Chain.{Chain}
use Rattle.chain_map.specs.Chain.{last_segment}
use Rattle.chain_map.specs.Step.{extended}
use Rattle.legal_journal.specs.declared.events.Event.{Event}
use Rattle.legal_journal.specs.declared.events.FabricCall.TheVariants.{ReadChain, WriteChain}
use Rattle.legal_journal.specs.declared.events.FabricAnswer.TheVariants.{At, Written, Conflict}
use Rattle.legal_journal.specs.Turns.{AreOthers}
use Rattle.virtual_log.specs.declared.extend.Extension.{Extension}
use Rattle.virtual_log.specs.declared.extend.Extension.TheVariants.{Extended, Moved, NoSpare}
use Rattle.virtual_log.specs.Turning.{HasEvent}
use Rattle.virtual_log.specs.Writing.{WroteNone, IsAnothers}
use Rattle.virtual_log.specs.Sealing.{SealsOnly}

-- An own write stands under this version, over a chain whose last segment was still this one: it closes that segment, and
-- goes on from start in the next loglet.
pub record IsWritten (who : ℕ) (old : List Event) (last : Segment) (version start : ℕ) (new : List Event) : Type 0 where
  pub expected : ℕ
  pub before : Chain
  pub at : ℕ
  pub event : HasEvent old (λ e. e ≡ record { who = who; call = WriteChain expected (extended before at); answer = Written version }) new
  pub last_is : last_segment before ≡ last
  pub start_is : start ≡ last.start + at

-- An own write was refused: under this version a chain stands in which that segment is closed.
pub record IsRefused (who : ℕ) (old : List Event) (last : Segment) (version : ℕ) (new : List Event) : Type 0 where
  pub expected : ℕ
  pub asked : Chain
  pub chain : Chain
  pub event : HasEvent old (λ e. e ≡ record { who = who; call = WriteChain expected asked; answer = Conflict version chain }) new
  pub behind : last.id < (last_segment chain).id

-- An own write was refused, and since old another wrote a chain that goes on behind that segment's loglet.
pub record IsPassed (who : ℕ) (old : List Event) (last : Segment) (version : ℕ) (new : List Event) : Type 0 where
  pub refused : IsRefused who old last version new
  pub another : HasEvent old (IsAnothers who last.id) new

-- what comes of the writes that close the last segment; known grows by the start that was answered
abbrev pub Closes : ℕ → List Event → Segment → ℕ → ℕ → ℕ → List Event → Extension → Type 0
Closes who old last known known' version' new (Extended version start) =
    IsWritten who old last version start new × (known' ≡ max known start) × (version' ≡ version)
Closes who old last known known' version' new (Moved version) =
    IsRefused who old last version new × WroteNone who old new × (known' ≡ known) × (version' ≡ version)
Closes who old last known known' version' new NoSpare = ⊥

-- how the last segment was closed
abbrev pub IsClosed : ℕ → List Event → Segment → ℕ → ℕ → ℕ → List Event → Extension → Type 0
IsClosed who old last known known' version' new (Extended version start) =
    IsWritten who old last version start new × (known' ≡ max known start) × (version' ≡ version)
IsClosed who old last known known' version' new (Moved version) =
    IsPassed who old last version new × (known' ≡ known) × (version' ≡ version)
IsClosed who old last known known' version' new NoSpare = ⊥

-- what follows the first look, by which this is the last segment of the chain
abbrev pub Follows : ℕ → ℕ → List Event → Segment → ℕ → ℕ → ℕ → List Event → List Event → Extension → Type 0
Follows cells who looked last known known' version' rest new NoSpare =
    (last.id + 1 ≡ cells) × (rest ≡ []) × (known' ≡ known)
Follows cells who looked last known known' version' rest new (Extended version start) =
    (last.id + 1 < cells) × IsClosed who looked last known known' version' new (Extended version start)
Follows cells who looked last known known' version' rest new (Moved version) =
    (last.id + 1 < cells) × IsClosed who looked last known known' version' new (Moved version)

-- The first own event since old reads the chain. There is no next loglet exactly where the last one of that chain is the
-- last of the shelf, and then it is the only own event. After it who began at most one Seal, of that last one.
pub record IsExtension (cells who : ℕ) (old : List Event) (known known' version' : ℕ) (new : List Event) (answer : Extension) : Type 0 where
  pub others : List Event
  pub apart : AreOthers who others
  pub version : ℕ
  pub chain : Chain
  pub looked : List Event
  pub look : looked ≡ (old ++ others) ++ record { who = who; call = ReadChain; answer = At version chain } ∷ []
  pub rest : List Event
  pub seen : new ≡ looked ++ rest
  pub follows : Follows cells who looked (last_segment chain) known known' version' rest new answer
  pub seals : SealsOnly who (last_segment chain).id rest
