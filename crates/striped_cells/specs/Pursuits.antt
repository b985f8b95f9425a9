-- The operations of a cell in stripes.
use Rattle.std.specs.Prelude.{ℕ, Bool, false, not, ◌||◌, nat_le, if◌then◌else◌, List, [], map, slice_get, Option, None, Some, is_some, option_map}
use Rattle.loglet_api.specs.declared.call.Answer.{Answer}
use Rattle.loglet_api.specs.declared.call.Kind.TheVariants.{File}
use Rattle.loglet_api.specs.declared.call.Task.{Task}
use Rattle.loglet_api.specs.declared.call.Task.TheVariants.{Reading}
use Rattle.loglet_api.specs.View.{LogletView}
use Rattle.striped_loglet.specs.declared.plan.Asked.{Asked}
use Rattle.striped_loglet.specs.declared.plan.Plan.{Plan}
use Rattle.striped_loglet.specs.declared.plan.Heard.{Heard}
use Rattle.striped_loglet.specs.declared.plan.Heard.TheVariants.{On, Decided}
use Rattle.striped_loglet.specs.declared.stripe.Inner.{Inner}
use Rattle.striped_loglet.specs.Plans.{told_at}
use Rattle.striped_loglet.specs.State.{Plain}

-- an operation that goes round the stripes
pub record Pursuit : Type 0 where
  pub asked : Asked
  -- which stripes were sealed as it began
  pub sealed_before : List Bool
  pub plan : Plan
  -- what a stripe is doing for it
  pub inner : Option Inner
  -- once it is decided
  pub answer : Option Answer
  pub closed : Bool

-- of a stripe, whether it was sealed, and nothing else
abbrev pub seen_sealed : Bool → LogletView
seen_sealed b = record { kind = File; servers = 1; quorum = 1; room = 1; rounds = 0; limit = 0; cut = 0; log = []; reach = 0; cap = None; firm = 0; shut = b; operations = []; faults = 0; down = 0; begun = 0; seals = 0; lacks = 0 }

abbrev pub plain_of : Pursuit → Plain
plain_of p = record { asked = p.asked; before = map seen_sealed p.sealed_before; plan = p.plan; inner = p.inner; answer = p.answer }

abbrev pub if_open : Option Pursuit → Option Pursuit
if_open None = None
if_open (Some p) = if p.closed then None else Some p

-- the operation of a ticket, where it is open
abbrev pub open_at : List Pursuit → ℕ → Option Pursuit
open_at operations t = if_open (slice_get operations t)

abbrev pub plain_at : List Pursuit → ℕ → Option Plain
plain_at operations t = option_map plain_of (open_at operations t)

-- it asks the next stripe: it waits for none, and has no answer
abbrev pub is_waiting : Pursuit → Bool
is_waiting p = not (is_some p.inner || is_some p.answer)

-- a Read of a position of which no answer had spoken as it began
abbrev pub is_unspoken : Task → ℕ → Bool
is_unspoken (Reading q) firm = nat_le firm q
is_unspoken task firm = false

-- what an answer of a stripe comes to
abbrev pub heard_so : Pursuit → Heard → Pursuit
heard_so p (On plan) = record p { plan = plan; inner = None; answer = None }
heard_so p (Decided answer) = record p { inner = None; answer = Some answer }

-- what the client is told, where the cut is here
abbrev pub answer_at : ℕ → Option Pursuit → Option Answer
answer_at cut None = None
answer_at cut (Some p) = option_map (told_at p.asked.task cut) p.answer
