-- What stands behind the view of a striped loglet, as plain values.
use Rattle.std.specs.Prelude.{ℕ, zero, suc, ◌+◌, ◌-◌, ◌*◌, ◌^◌, nat_eq, min, Option, None, Some, List, [], ◌∷◌, map, length}
use Rattle.std.specs.Option.{option_map}
use Rattle.std.specs.HashMap.{HashMap, get}
use Rattle.std.specs.Map.{lookup}
use Rattle.std.specs.declared.hash.FoldHasher.{FoldHasher}
use Rattle.std.specs.declared.hash.BuildHasherDefault.{BuildHasherDefault}
use Rattle.loglet_api.specs.declared.call.Answer.{Answer}
use Rattle.loglet_api.specs.View.{LogletView, Operation}
use Rattle.striped_loglet.specs.declared.marks.Marks.{Marks}
use Rattle.striped_loglet.specs.declared.shape.Shape.{Shape}
use Rattle.striped_loglet.specs.declared.plan.Asked.{Asked}
use Rattle.striped_loglet.specs.declared.plan.Plan.{Plan}
use Rattle.striped_loglet.specs.declared.plan.Stage.{Stage}
use Rattle.striped_loglet.specs.declared.plan.Stage.TheVariants.{First, Sealing, Last}
use Rattle.striped_loglet.specs.declared.stripe.Inner.{Inner}
use Rattle.striped_loglet.specs.declared.pending.Pending.{Pending}
use Rattle.striped_loglet.specs.Views.{total, any_shut, least_of, joined}

-- an open operation: what was asked, the stripes as it began, how far it has got, what a stripe is doing for it, its answer
pub record Plain : Type 0 where
  pub asked : Asked
  pub before : List LogletView
  pub plan : Plan
  pub inner : Option Inner
  pub answer : Option Answer

pub record State : Type 0 where
  pub views : List LogletView
  pub shape : Shape
  pub marks : Marks
  -- the open operations, by ticket
  pub at : ℕ → Option Plain

-- an open operation as contracts see it: what was asked, how far it has got, what a stripe is doing for it, its answer
pub record Work : Type 0 where
  pub asked : Asked
  pub plan : Plan
  pub inner : Option Inner
  pub answer : Option Answer

-- how many rounds follow
abbrev pub rounds_behind : Stage → ℕ
rounds_behind First = 2
rounds_behind Sealing = 1
rounds_behind Last = 0

-- how many operations of stripes may still begin for it
abbrev pub to_begin : ℕ → Plan → ℕ
to_begin count plan = rounds_behind plan.stage * count + (count - plan.next)

-- what is left to do: so many turns of a stripe, and what is left of the one that is under way
abbrev pub left_of : ℕ → ℕ → Plan → Option Inner → Option Answer → ℕ × ℕ
left_of turn count plan inner (Some answer) = (0, 0)
left_of turn count plan None None = (to_begin count plan * turn, 0)
left_of turn count plan (Some x) None = (to_begin count plan * turn + (x.rounds + 1), x.steps)

-- the operation as the loglet shows it
abbrev pub operation_of : ℕ → ℕ → Plain → Operation
operation_of turn count p =
    record { task = p.asked.task; size = p.asked.size; reach = p.asked.reach; firm = p.asked.firm; shut = any_shut p.before; faults = p.asked.faults; down = p.asked.down; left = left_of turn count p.plan p.inner p.answer }

abbrev pub shown_at : ℕ → ℕ → (ℕ → Option Plain) → ℕ → Option Operation
shown_at turn count at q = option_map (operation_of turn count) (at q)

abbrev pub put_first : {A : Type 0} → ℕ → Option A → List (ℕ × A) → List (ℕ × A)
put_first t None os = os
put_first t (Some o) os = (t, o) ∷ os

-- the open operations of tickets below this one, the latest first
abbrev pub open_below : {A : Type 0} → (ℕ → Option A) → ℕ → List (ℕ × A)
open_below at zero = []
open_below at (suc t) = put_first t (at t) (open_below at t)

-- a number of each ticket below this one, all together
abbrev pub sum_below : (ℕ → ℕ) → ℕ → ℕ
sum_below f zero = 0
sum_below f (suc t) = f t + sum_below f t

-- faults of the stripes and refusals, in a word of 64 bits that stands still at its end
abbrev pub counted : ℕ → ℕ → ℕ
counted faults refusals = min (faults + refusals) (2 ^ 64 - 1)

abbrev pub count_of : State → ℕ
count_of s = length s.views

abbrev pub faults_of : State → ℕ
faults_of s = counted (total (λ v. v.faults) s.views) s.marks.refusals

abbrev pub down_of : State → ℕ
down_of s = total (λ v. v.down) s.views

abbrev pub loglet_of : State → LogletView
loglet_of s = record {
  kind = s.shape.kind;
  servers = s.shape.servers;
  quorum = least_of (map (λ v. v.quorum) s.views);
  room = s.shape.room;
  rounds = s.shape.rounds;
  limit = s.shape.limit;
  cut = s.marks.cut;
  log = joined s.views s.marks.cut (s.marks.size - s.marks.cut);
  reach = s.marks.reach;
  cap = s.marks.cap;
  firm = s.marks.firm;
  shut = any_shut s.views;
  operations = open_below (shown_at s.shape.turn (count_of s) s.at) s.marks.begun;
  faults = faults_of s;
  down = down_of s;
  begun = s.marks.begun;
  seals = s.marks.seals;
  lacks = s.marks.lacks;
}

abbrev pub work_of : Plain → Work
work_of p = record { asked = p.asked; plan = p.plan; inner = p.inner; answer = p.answer }

-- what is under way for each open operation, by ticket
abbrev pub works_of : State → List (ℕ × Work)
works_of s = open_below (λ q. option_map work_of (s.at q)) s.marks.begun

-- what is under way for the operation of a ticket
abbrev pub work_at : List (ℕ × Work) → ℕ → Option Work
work_at works t = lookup (nat_eq t) works

-- what a stripe is doing for an operation
abbrev pub inner_of : Option Work → Option Inner
inner_of None = None
inner_of (Some w) = w.inner

-- the open operations, by ticket
abbrev pub PendingMap : Type 0 → Type 0
PendingMap L = HashMap ℕ (Pending L) (BuildHasherDefault FoldHasher)

module _ {L : Type 0} (view : L → LogletView) where
  abbrev pub plain_of : Pending L → Plain
  plain_of p = record { asked = p.asked; before = map view p.before.value.items; plan = p.plan; inner = p.inner; answer = p.answer }

  abbrev pub plain_at : PendingMap L → ℕ → Option Plain
  plain_at pending q = option_map plain_of (get nat_eq pending q)

  abbrev pub state_of : Shape → List L → Marks → PendingMap L → State
  state_of shape stripes marks pending = record { views = map view stripes; shape = shape; marks = marks; at = plain_at pending }
