-- What one node knows of a run, and the moments at which its phases began.
use Rattle.std.specs.Prelude.{◌≡◌, ℕ, ◌+◌, ◌==◌, ◌&&◌, Bool, List, [], ◌∷◌, ◌++◌, get_or}
use Rattle.delos_types.specs.declared.cause.Cause.{Cause}
use Rattle.legal_journal.specs.declared.events.Event.{Event}
use Rattle.legal_journal.specs.Journal.{state_of, tail_of}
use Rattle.run_laws.specs.Ended.{Fault}

-- The journal, as far as the node has seen it; the present phase; the journals as phases began, up to the present phase's; the
-- faults that came to the node, but for those of its lines' own looks; and the phases in which its sessions were stopped, of those
-- that were.
pub record NodeCourse : Type 0 where
  pub seen : List Event
  pub phase : ℕ
  pub begins : List (List Event)
  pub faults : List Fault
  pub when : ℕ → ℕ

-- the journal as a phase began; of a phase to come, the present one
abbrev pub moment : NodeCourse → ℕ → List Event
moment c p = get_or c.begins p c.seen

-- the tail of the log as a phase began
abbrev pub tails : NodeCourse → ℕ → ℕ
tails c p = tail_of (state_of (moment c p))

-- the course of a node that has seen nothing yet, as the first phase begins
abbrev pub first_course : NodeCourse
first_course = record { seen = []; phase = 0; begins = [] ∷ []; faults = []; when = λ s. 0 }

-- the course as the next phase begins
abbrev pub next_phase : NodeCourse → NodeCourse
next_phase c = record c { phase = c.phase + 1; begins = c.begins ++ c.seen ∷ [] }

-- .. once others have made these events
abbrev pub and_then : NodeCourse → List Event → NodeCourse
and_then c more = record c { seen = c.seen ++ more }

-- A course goes on, in its phase.
pub record GoesOn (c c' : NodeCourse) : Type 0 where
  pub phase : c'.phase ≡ c.phase
  pub begins : c'.begins ≡ c.begins
  pub more : List Event
  pub seen : c'.seen ≡ c.seen ++ more
  pub came : List Fault
  pub gained : c'.faults ≡ c.faults ++ came

-- the cause is such a one, and came to this node
abbrev pub at_node : ℕ → (Cause → Bool) → ℕ → Cause → Bool
at_node n kind node cause = (node == n) && kind cause
