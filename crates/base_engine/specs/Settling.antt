-- What becomes of outstanding entries, and which causes that gives.
use Rattle.std.specs.Prelude.{◌≡◌, ◌<◌, ◌≤◌, ◌+◌, ℕ, Bool, true, false, ◌==◌, if◌then◌else◌, List, [], ◌∷◌, ◌++◌, Option, Some, None, filter_map, length}
use Rattle.delos_types.specs.declared.entry.Entry.{Entry}
use Rattle.delos_types.specs.Spelling.{IsSpellable}
use Rattle.delos_types.specs.declared.cause.Cause.{Cause}
use Rattle.legal_journal.specs.declared.events.Event.{Event}
use Rattle.legal_journal.specs.Journal.{state_of}
use Rattle.legal_journal.specs.Laws.{Stands}
use Rattle.engine_api.specs.declared.content.Content.{Content}
use Rattle.engine_api.specs.declared.content.Content.TheVariants as content
use Rattle.engine_api.specs.declared.content.Placed.{Placed}
use Rattle.engine_api.specs.Items.{unpack}
use Rattle.virtual_log.specs.Turning.{IsAbove}
use Rattle.virtual_log.specs.Attempts.{own_begun, own_refused}
use Rattle.base_engine.specs.declared.outbox.Outbox.{Outbox}
use Rattle.base_engine.specs.declared.outbox.Given.{Given}
use Rattle.base_engine.specs.declared.fault.Fault.{Fault}
use Rattle.base_engine.specs.declared.fault.Fault.TheVariants.{Because, Memory}
use Rattle.base_engine.specs.Causes.{HasEventOf}

-- the entries that aren't settled, the causes that were given, in order, and the first that no settling has answered
pub record OutboxView : Type 0 where
  pub entries : List Entry
  pub given : List Given
  pub unsettled : Option Cause

abbrev pub view_of : Outbox → OutboxView
view_of o = record { entries = o.entries.items; given = o.given.items; unsettled = o.unsettled }

-- an entry was appended at a position, or failed for a cause
pub data Fate : Type 0 where
  Landed : ℕ → Fate
  Lost : Cause → Fate

-- It stands at its position and is held there, which is above each one, and not below any tail, that was answered before;
-- or an own event since then answered so.
abbrev pub Meets : (List Event → ℕ → Entry → Type 0) → ℕ → List Event → Entry → Fate → List Event → Type 0
Meets holds who old e (Landed pos) new = Stands (state_of new) pos e × holds new pos e × IsAbove who old pos new
Meets holds who old e (Lost cause) new = HasEventOf who old cause new

abbrev pub session_of : Content → Option ℕ
session_of (content.Session session rank command) = Some session
session_of (content.Alive node position) = None
session_of (content.Leave node) = None
session_of (content.Trim position) = None

abbrev pub sessions_among : List Placed → List ℕ
sessions_among placed = filter_map (λ p. session_of p.content) placed

-- the sessions of an entry's items
abbrev pub sessions_in : Entry → List ℕ
sessions_in e = sessions_among (unpack 0 e)

-- a cause is given to these sessions, where there is one
abbrev pub given_to : List ℕ → Cause → List Given
given_to [] cause = []
given_to (s ∷ ss) cause = record { sessions = s ∷ ss; cause = cause } ∷ []

-- an entry that failed gives its cause to all its sessions
abbrev pub gives : Entry → Fate → List Given
gives e (Landed pos) = []
gives e (Lost cause) = given_to (sessions_in e) cause

-- the first cause stays
abbrev pub first_of : Option Cause → Fate → Option Cause
first_of (Some cause) fate = Some cause
first_of None (Landed pos) = None
first_of None (Lost cause) = Some cause

-- the oldest entry meets its fate, and gives its cause
pub record Carried (holds : List Event → ℕ → Entry → Type 0) (who : ℕ) (old : List Event) (was : OutboxView) (new : List Event) (is : OutboxView) : Type 0 where
  pub entry : Entry
  pub fate : Fate
  pub oldest : was.entries ≡ entry ∷ is.entries
  pub met : Meets holds who old entry fate new
  pub gained : is.given ≡ was.given ++ gives entry fate
  pub unsettled : is.unsettled ≡ first_of was.unsettled fate

-- Each entry in turn meets its fate, from moment to moment, and gives its cause.
abbrev pub Settles : (List Event → ℕ → Entry → Type 0) → ℕ → List Event → List Entry → List Event → List Given → Option Cause → Option Cause → Type 0
Settles holds who old [] new given before after = (new ≡ old) × (given ≡ []) × (after ≡ before)
Settles holds who old (e ∷ es) new given before after =
    (mid : List Event) × (fate : Fate) × (rest : List Given)
    × Meets holds who old e fate mid × (given ≡ gives e fate ++ rest) × Settles holds who mid es new rest (first_of before fate) after

-- Each entry in turn was appended, from moment to moment, at a position that is known then.
abbrev pub Lands : (List Event → ℕ → Entry → Type 0) → ℕ → List Event → List Entry → List Event → ℕ → Type 0
Lands holds who old [] new known = new ≡ old
Lands holds who old (e ∷ es) new known =
    (mid : List Event) × (pos : ℕ) × Meets holds who old e (Landed pos) mid × (pos < known) × Lands holds who mid es new known

-- the oldest entry was
pub record LandsOldest (holds : List Event → ℕ → Entry → Type 0) (who : ℕ) (old : List Event) (was : List Entry) (new : List Event) (is : List Entry) (known : ℕ) : Type 0 where
  pub entry : Entry
  pub position : ℕ
  pub oldest : was ≡ entry ∷ is
  pub met : Meets holds who old entry (Landed position) new
  pub within : position < known

-- Who began so many appends since old, beyond those that were refused by loglets that were sealed.
pub record Begins (who n : ℕ) (old new : List Event) : Type 0 where
  pub more : List Event
  pub seen : new ≡ old ++ more
  pub count : own_begun who more ≡ own_refused who more + n

-- .. one for each of these entries at most
abbrev pub BeginsEachOnce : ℕ → List Event → List Entry → List Event → Type 0
BeginsEachOnce who old es new = (n : ℕ) × (n ≤ length es) × Begins who n old new

-- who may append this entry
pub record MaySend (may : ℕ → Entry → Type 0) (who : ℕ) (e : Entry) : Type 0 where
  pub allowed : may who e
  pub spelled : IsSpellable e

-- the first of the entries are settled, the others wait on
pub record Settled (holds : List Event → ℕ → Entry → Type 0) (who : ℕ) (old : List Event) (was : OutboxView) (new : List Event) (is : OutboxView) : Type 0 where
  pub done : List Entry
  pub given : List Given
  pub all : was.entries ≡ done ++ is.entries
  pub gained : is.given ≡ was.given ++ given
  pub moment : List Event
  pub fates : Settles holds who old done moment given was.unsettled is.unsettled
  pub rest : (more : List Event) × (new ≡ moment ++ more)

-- a settling is answered by the first cause since the last one
pub record Answers (holds : List Event → ℕ → Entry → Type 0) (who : ℕ) (old : List Event) (was : OutboxView) (cause : Option Cause) (new : List Event) (is : OutboxView) : Type 0 where
  pub settled : Settled holds who old was new (record { entries = is.entries; given = is.given; unsettled = cause })
  pub none : is.entries ≡ []
  pub answered : is.unsettled ≡ None

abbrev pub Failing : (List Event → ℕ → Entry → Type 0) → ℕ → List Event → OutboxView → Fault → List Event → OutboxView → Type 0
Failing holds who old was Memory new is = Settled holds who old was new is
Failing holds who old was (Because cause) new is = Answers holds who old was (Some cause) new is

-- the session is among these
abbrev pub has_session : ℕ → List ℕ → Bool
has_session session [] = false
has_session session (s ∷ ss) = if s == session then true else has_session session ss

-- the first cause that a session was given
abbrev pub cause_in : ℕ → List Given → Option Cause
cause_in session [] = None
cause_in session (g ∷ gs) = if has_session session g.sessions then Some g.cause else cause_in session gs
