-- With which words a call carries.
use Rattle.std.specs.Prelude.{◌≡◌, ◌==◌, ◌⊎◌, ℕ, cond, List, [], ◌∷◌, ◌++◌, Result, Ok, Err}
use Rattle.fate_words.specs.Drawing.{Draws}
use Rattle.legal_journal.specs.declared.events.Event.{Event}
use Rattle.legal_journal.specs.declared.events.FabricCall.{FabricCall}
use Rattle.legal_journal.specs.declared.events.FabricCall.TheVariants.{Carry}
use Rattle.virtual_log.specs.declared.fault.Fault.{Fault}
use Rattle.virtual_log.specs.declared.fault.Fault.TheVariants.{Memory}

-- the word of a call that carries
abbrev pub word_of : FabricCall → List ℕ
word_of (Carry i t word) = word ∷ []
word_of call = []

-- the words with which who carried, in their order, whatever the carries were answered
abbrev pub words_by : ℕ → List Event → List ℕ
words_by who [] = []
words_by who (e ∷ es) = cond (e.who == who) (word_of e.call) [] ++ words_by who es

-- who carried nothing since old
pub record SaysNone (who : ℕ) (old new : List Event) : Type 0 where
  pub more : List Event
  pub seen : new ≡ old ++ more
  pub none : words_by who more ≡ []

-- The words with which who carried since old are those that a chooser gave, in that order, as it went from where it stood before
-- to where it stands after: it gave no other, and none was used twice.
pub record SaysDrawn (gives : List ℕ → ℕ → List ℕ → Type 0) (who : ℕ) (before : List ℕ) (old : List Event) (after : List ℕ) (new : List Event) : Type 0 where
  pub more : List Event
  pub seen : new ≡ old ++ more
  pub drawn : Draws gives before (words_by who more) after

-- .. but one, the last that it gave, may be left
pub record SparesOne (gives : List ℕ → ℕ → List ℕ → Type 0) (who : ℕ) (before : List ℕ) (old : List Event) (after : List ℕ) (new : List Event) : Type 0 where
  pub last : List ℕ
  pub says : SaysDrawn gives who before old last new
  pub spare : (after ≡ last) ⊎ ((word : ℕ) × Draws gives last (word ∷ []) after)

-- None is left by a fault. Want of memory may leave one: a carry for which memory is wanting is no event.
abbrev pub DrawsBy : (List ℕ → ℕ → List ℕ → Type 0) → ℕ → List ℕ → List Event → Fault → List ℕ → List Event → Type 0
DrawsBy gives who before old Memory after new = SparesOne gives who before old after new
DrawsBy gives who before old fault after new = SaysDrawn gives who before old after new

-- the words with which who carried since old are those that the chooser gave, but for what want of memory leaves
abbrev pub DrawsOwn : {A : Type 0} → (List ℕ → ℕ → List ℕ → Type 0) → ℕ → List ℕ → List Event → Result A Fault → List ℕ → List Event → Type 0
DrawsOwn gives who before old (Ok a) after new = SaysDrawn gives who before old after new
DrawsOwn gives who before old (Err fault) after new = DrawsBy gives who before old fault after new
