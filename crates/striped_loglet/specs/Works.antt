-- What becomes of the stripes' operations.
use Rattle.std.specs.Prelude.{◌≡◌, ◌⊎◌, ℕ, ◌≤◌, nat_eq, min, if◌then◌else◌, Option, None, Some, Result, Ok, Err, List, length, set, slice_get}
use Rattle.loglet_api.specs.declared.call.Op.{Op}
use Rattle.loglet_api.specs.declared.call.Op.TheVariants.{Trim}
use Rattle.loglet_api.specs.declared.call.Answer.{Answer}
use Rattle.loglet_api.specs.declared.call.Answer.TheVariants.{Beyond, TrimDone, NoQuorum}
use Rattle.loglet_api.specs.declared.call.Task.{Task}
use Rattle.loglet_api.specs.declared.call.Task.TheVariants.{Trimming}
use Rattle.loglet_api.specs.declared.call.Refused.{Refused}
use Rattle.loglet_api.specs.declared.call.Refused.TheVariants.{Full, Memory}
use Rattle.loglet_api.specs.declared.call.LogletCall.TheVariants.{Begin, Forget}
use Rattle.loglet_api.specs.declared.call.LogletAnswer.TheVariants.{Begun, Forgotten}
use Rattle.loglet_api.specs.View.{LogletView, size_of}
use Rattle.loglet_api.specs.Step.{LogletStep, HasLeft, task_of, bumped}
use Rattle.stripe_rule.specs.Stripes.{standing}
use Rattle.striped_loglet.specs.declared.plan.Heard.{Heard}
use Rattle.striped_loglet.specs.declared.plan.Heard.TheVariants.{On, Decided}
use Rattle.striped_loglet.specs.declared.stripe.Inner.{Inner}
use Rattle.striped_loglet.specs.declared.stripe.Outcome.{Outcome}
use Rattle.striped_loglet.specs.declared.stripe.Outcome.TheVariants.{Going, Answered}
use Rattle.striped_loglet.specs.Plans.{first_plan, plan_behind, target_of, asked_of, heard_by, told_at, IsUnspoken}
use Rattle.striped_loglet.specs.Calls.{Starts, CarriedOn}
use Rattle.striped_loglet.specs.Views.{AllTrimmed}
use Rattle.striped_loglet.specs.State.{Work, work_at, inner_of}
use Rattle.striped_loglet.specs.Striped.{StripedView}

-- this ticket has this now, and each other what it had
abbrev pub PutsWork : List (ℕ × Work) → ℕ → Option Work → List (ℕ × Work) → Type 0
PutsWork old t work new = (q : ℕ) → work_at new q ≡ (if nat_eq t q then work else work_at old q)

-- ---- What a Trim asks of the stripes, and when it is done

-- It asks a stripe to let go of just as many of its positions as stand below the loglet's cut, which is at least what the
-- Trim named of what was there for good as it began.
abbrev pub AsksShare : Task → ℕ → ℕ → ℕ → ℕ → Op → Type 0
AsksShare (Trimming n) reach cut stripe count op = (op ≡ Trim (standing count stripe cut)) × (min n reach ≤ cut)
AsksShare task reach cut stripe count op = Unit {0}

-- A stripe answers that it let go of its share, or that too few of its servers answered, and nothing else.
abbrev pub LetsGo : Task → Outcome → Type 0
LetsGo task (Going y) = Unit {0}
LetsGo (Trimming n) (Answered TrimDone) = Unit {0}
LetsGo (Trimming n) (Answered (NoQuorum unreached)) = Unit {0}
LetsGo (Trimming n) (Answered answer) = ⊥
LetsGo task (Answered answer) = Unit {0}

-- Once it is done each stripe let go of what it has of the positions that were to be trimmed.
abbrev pub IsTrimmed : Task → ℕ → Answer → List LogletView → Type 0
IsTrimmed (Trimming n) reach TrimDone views = AllTrimmed views (min n reach)
IsTrimmed task reach answer views = Unit {0}

-- ---- Begin

-- an operation as it begins, and what a stripe is doing for it then
abbrev pub begun_work : LogletView → Op → Option Inner → Work
begun_work v op inner =
    record { asked = record { task = task_of op; size = size_of v; reach = v.reach; firm = v.firm; faults = v.faults; down = v.down }; plan = first_plan (task_of op); inner = inner; answer = None }

-- The loglet began an operation: an Append begins on the stripe that has the next position, all else on none yet.
pub record BeginsOn (old : StripedView) (op : Op) (t : ℕ) (new : StripedView) : Type 0 where
  pub work : Option Inner
  pub starts : Starts old.stripes op (size_of old.loglet) (Ok work) new.stripes
  pub works : PutsWork old.works t (Some (begun_work old.loglet op work)) new.works
  pub rest : new ≡ record old { loglet = new.loglet; stripes = new.stripes; works = new.works }

-- One that is refused begins on no stripe; a refusal as full is counted, and want of memory changes nothing.
abbrev pub BeginsBy : StripedView → Op → Result ℕ Refused → StripedView → Type 0
BeginsBy old op (Ok t) new = BeginsOn old op t new
BeginsBy old op (Err Full) new = new ≡ record old { loglet = new.loglet; refusals = bumped old.refusals }
BeginsBy old op (Err Memory) new = new ≡ old

-- ---- Carry

-- an operation once it heard this
abbrev pub heard_work : Work → Heard → Work
heard_work w (On plan) = record w { plan = plan; inner = None; answer = None }
heard_work w (Decided answer) = record w { inner = None; answer = Some answer }

-- .. once carrying what a stripe was doing for it came to this
abbrev pub carried_work : Work → Inner → ℕ → Outcome → Work
carried_work w x count (Going y) = record w { inner = Some y; answer = None }
carried_work w x count (Answered answer) = heard_work w (heard_by w.asked.task w.asked.size w.plan x.stripe count answer)

-- what a stripe was doing for the operation was carried, once, where it was undecided; where it is decided then, its answer was taken
pub record GoesOn (old : StripedView) (t word : ℕ) (w : Work) (x : Inner) (new : StripedView) : Type 0 where
  pub before : LogletView
  pub after : LogletView
  pub outcome : Outcome
  pub is : slice_get old.stripes x.stripe ≡ Some before
  pub carried : CarriedOn before x word (Ok outcome) after
  pub trims : LetsGo w.asked.task outcome
  pub stripes : new.stripes ≡ set old.stripes x.stripe after
  pub works : PutsWork old.works t (Some (carried_work w x (length old.stripes) outcome)) new.works

-- the stripe that the plan names was asked what the plan asks of it
pub record AsksNext (old : StripedView) (t : ℕ) (w : Work) (new : StripedView) : Type 0 where
  pub spoken : ¬ (IsUnspoken w.asked.task w.asked.firm)
  pub before : LogletView
  pub after : LogletView
  pub inner : Inner
  pub stripe : inner.stripe ≡ target_of w.asked.task (length old.stripes) w.plan
  pub is : slice_get old.stripes inner.stripe ≡ Some before
  pub step : LogletStep before (Begin (asked_of w.asked.task w.asked.size w.plan.stage old.loglet.cut inner.stripe (length old.stripes))) (Begun inner.ticket) after
  pub left : HasLeft after inner.ticket inner.rounds inner.steps
  pub trims : AsksShare w.asked.task w.asked.reach old.loglet.cut inner.stripe (length old.stripes) (asked_of w.asked.task w.asked.size w.plan.stage old.loglet.cut inner.stripe (length old.stripes))
  pub stripes : new.stripes ≡ set old.stripes inner.stripe after
  pub works : PutsWork old.works t (Some (record w { plan = plan_behind w.asked.task (length old.stripes) w.plan; inner = Some inner; answer = None })) new.works

-- a Read is beyond the log
pub record TellsBeyond (old : StripedView) (t : ℕ) (w : Work) (new : StripedView) : Type 0 where
  pub unspoken : IsUnspoken w.asked.task w.asked.firm
  pub stripes : new.stripes ≡ old.stripes
  pub works : PutsWork old.works t (Some (record w { inner = None; answer = Some (Beyond w.asked.firm) })) new.works

abbrev pub CarriesBy : {U : Type 0} → StripedView → ℕ → ℕ → Work → Option Inner → Result U Refused → StripedView → Type 0
CarriesBy old t word w (Some x) (Ok u) new = GoesOn old t word w x new
CarriesBy old t word w None (Ok u) new = AsksNext old t w new ⊎ TellsBeyond old t w new
CarriesBy old t word w x (Err refused) new = new ≡ record old { servings = new.servings }

-- The loglet carried an operation: what a stripe is doing for this very one, or the next stripe is asked.
pub record CarriesWork {U : Type 0} (old : StripedView) (t word : ℕ) (result : Result U Refused) (new : StripedView) : Type 0 where
  pub work : Work
  pub is : work_at old.works t ≡ Some work
  pub undecided : work.answer ≡ None
  pub does : CarriesBy old t word work work.inner result new
  pub rest : new ≡ record old { loglet = new.loglet; stripes = new.stripes; servings = new.servings; works = new.works; given = new.given }

-- ---- Take

-- the answer of an operation, for which no stripe is at work any more, was taken
pub record TakesOne (old : StripedView) (t : ℕ) (answer : Answer) (new : StripedView) : Type 0 where
  pub work : Work
  pub is : work_at old.works t ≡ Some work
  pub idle : work.inner ≡ None
  pub decided : Answer
  pub decided_is : work.answer ≡ Some decided
  pub told : answer ≡ told_at work.asked.task old.loglet.cut decided
  pub trimmed : IsTrimmed work.asked.task work.asked.reach decided old.stripes
  pub works : PutsWork old.works t None new.works

-- .. or it wasn't there yet
abbrev pub TakesWork : StripedView → ℕ → Option Answer → StripedView → Type 0
TakesWork old t None new = new ≡ old
TakesWork old t (Some answer) new = TakesOne old t answer new

-- ---- Forget

-- a stripe forgot what it was doing
pub record ForgetsAt (old : List LogletView) (x : Inner) (new : List LogletView) : Type 0 where
  pub before : LogletView
  pub after : LogletView
  pub is : slice_get old x.stripe ≡ Some before
  pub step : LogletStep before (Forget x.ticket) Forgotten after
  pub rest : new ≡ set old x.stripe after

abbrev pub ForgetsInner : List LogletView → Option Inner → List LogletView → Type 0
ForgetsInner old None new = new ≡ old
ForgetsInner old (Some x) new = ForgetsAt old x new

-- The loglet forgot an operation, and a stripe what it was doing for it.
pub record ForgetsWork (old : StripedView) (t : ℕ) (new : StripedView) : Type 0 where
  pub stripe : ForgetsInner old.stripes (inner_of (work_at old.works t)) new.stripes
  pub works : PutsWork old.works t None new.works
  pub rest : new ≡ record old { loglet = new.loglet; stripes = new.stripes; works = new.works }
