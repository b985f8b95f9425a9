-- Changes of the open operations.
use Rattle.std.specs.Prelude.{◌≡◌, ℕ, nat_eq, Option, None, Some}
use Rattle.std.specs.HashMap.{get, Updates}
use Rattle.loglet_api.specs.declared.call.Answer.{Answer}
use Rattle.striped_loglet.specs.declared.plan.Plan.{Plan}
use Rattle.striped_loglet.specs.declared.stripe.Inner.{Inner}
use Rattle.striped_loglet.specs.declared.pending.Pending.{Pending}
use Rattle.striped_loglet.specs.declared.pending.Decided.{Decided}
use Rattle.striped_loglet.specs.State.{PendingMap}

module _ {L : Type 0} where
  -- the operation of the ticket has got so far now
  abbrev pub Sets : PendingMap L → ℕ → Plan → Option Inner → Option Answer → PendingMap L → Type 0
  Sets old t plan inner answer new = (p : Pending L) → get nat_eq old t ≡ Some p → Updates nat_eq old new t (Some (record p { plan = plan; inner = inner; answer = answer }))

  -- the operation of the ticket has no answer yet
  abbrev pub Waits : PendingMap L → ℕ → Type 0
  Waits pending t = (p : Pending L) → get nat_eq pending t ≡ Some p → p.answer ≡ None

  -- the operation of the ticket is taken out, with its answer
  pub record TakesOut (old : PendingMap L) (t : ℕ) (d : Decided) (new : PendingMap L) : Type 0 where
    pub p : Pending L
    pub was : get nat_eq old t ≡ Some p
    pub task : p.asked.task ≡ d.task
    pub size : p.asked.size ≡ d.size
    pub answer : p.answer ≡ Some d.answer
    pub rest : Updates nat_eq old new t None
