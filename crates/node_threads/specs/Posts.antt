-- Nodes at their parts of the lock.
use Rattle.std.specs.Prelude.{◌≡◌, ◌&&◌, ℕ, suc, ◌<◌, Bool, true, List, [], ◌∷◌, map, length, slice_index_or, Option, Some, None}
use Rattle.std.specs.List.{AllByRecursion}
use Rattle.legal_journal.specs.Law.{Law}
use Rattle.legal_journal.specs.declared.events.Event.{Event}
use Rattle.replica_api.specs.Replica.{Meaning}
use Rattle.script_text.specs.declared.asks.NamedLine.{NamedLine}
use Rattle.script_text.specs.declared.faults.FaultLine.{FaultLine}
use Rattle.turn_scopes.specs.Seats.{SeatView}
use Rattle.locked_turns.specs.Locked.{LockedView}
use Rattle.node_lines.specs.declared.desk.Desk.{Desk}
use Rattle.node_lines.specs.declared.lines.Looked.{Looked}
use Rattle.node_crew.specs.declared.note.Note.{Note}
use Rattle.node_crew.specs.Notes.{noted}
use Rattle.node_threads.specs.Parts.{CanTakePart, TookPart}

-- a node in a phase: its access and its worker, which are both there but while it works; what its lines came to; and whether memory sufficed
pub record PostView (W : Type 0) : Type 0 where
  pub access : Option LockedView
  pub worker : Option W
  pub notes : List Note
  pub sufficed : Bool

abbrev pub view_of : ℕ → List Event → LockedView
view_of who seen = record { who = who; seen = seen }

-- what was seen with the access
abbrev pub seen_of : Option LockedView → List Event
seen_of None = []
seen_of (Some l) = l.seen

-- whose the access is
abbrev pub who_of : Option LockedView → ℕ
who_of None = 0
who_of (Some l) = l.who

abbrev pub cons_some : {W : Type 0} → Option W → List W → List W
cons_some None ws = ws
cons_some (Some w) ws = w ∷ ws

module _ {W : Type 0} where
  -- node n hasn't begun, and has seen this journal
  abbrev pub seated : ℕ → List Event → W → PostView W
  seated n journal w = record { access = Some (view_of n journal); worker = Some w; notes = []; sufficed = true }

  -- so have the nodes from this number on
  abbrev pub seated_from : ℕ → List Event → List W → List (PostView W)
  seated_from n journal [] = []
  seated_from n journal (w ∷ ws) = seated n journal w ∷ seated_from (suc n) journal ws

  -- what was seen at each post
  abbrev pub seens : List (PostView W) → List (List Event)
  seens posts = map (λ p. seen_of p.access) posts

  -- the workers, in their order
  abbrev pub workers_of : List (PostView W) → List W
  workers_of [] = []
  workers_of (p ∷ ps) = cons_some p.worker (workers_of ps)

  -- what lines came to, once it is written down, the last node's first
  abbrev pub looks_after : List (Option Looked) → List (PostView W) → List (Option Looked)
  looks_after looks [] = looks
  looks_after looks (p ∷ ps) = noted (looks_after looks ps) p.notes

  abbrev pub all_sufficed : List (PostView W) → Bool
  all_sufficed [] = true
  all_sufficed (p ∷ ps) = p.sufficed && all_sufficed ps

  -- the post has the part of node n, and its worker
  pub record Has (n : ℕ) (p : PostView W) : Type 0 where
    pub seen : List Event
    pub access_is : p.access ≡ Some (view_of n seen)
    pub worker : W
    pub worker_is : p.worker ≡ Some worker

  abbrev pub AllHave : ℕ → List (PostView W) → Type 0
  AllHave n [] = Unit {0}
  AllHave n (p ∷ ps) = Has n p × AllHave (suc n) ps

  -- what was noted is of lines below this number
  abbrev pub AllNoted : ℕ → List (PostView W) → Type 0
  AllNoted lines posts = AllByRecursion (λ p. AllByRecursion (λ note. note.line < lines) p.notes) posts

  module _ (law : Law) (meaning : Meaning) (lines : List NamedLine) (faults : List FaultLine) (phase from to : ℕ) (seat : W → SeatView) (desks : W → List Desk) where
    -- the post's node can take its part in the phase
    pub record MayWork (p : PostView W) : Type 0 where
      pub n : ℕ
      pub journal : List Event
      pub worker : W
      pub is : p ≡ seated n journal worker
      pub can : CanTakePart law meaning lines faults phase from to n journal (seat worker) (desks worker)

    -- it took it
    pub record Worked (p p' : PostView W) : Type 0 where
      pub n : ℕ
      pub journal : List Event
      pub before : W
      pub was : p ≡ seated n journal before
      pub seen : List Event
      pub access_is : p'.access ≡ Some (view_of n seen)
      pub after : W
      pub worker_is : p'.worker ≡ Some after
      pub part : TookPart law meaning lines faults phase from to n journal (seat before) (desks before) seen (seat after) (desks after) p'.notes p'.sufficed

    pub record AllMayWork (ps : List (PostView W)) : Type 0 where
      pub each : (i : ℕ) (d : PostView W) → i < length ps → MayWork (slice_index_or ps i d)

    pub record AllWorked (ps ps' : List (PostView W)) : Type 0 where
      pub each : (i : ℕ) (d : PostView W) → i < length ps → Worked (slice_index_or ps i d) (slice_index_or ps' i d)
