-- One call of a stripe, with what is noted of it.
use Rattle.std.specs.Prelude.{◌≡◌, ◌⊎◌, ℕ, ◌/◌, ◌%◌, Option, None, Some, Result, Ok, Err, List, length, set, slice_get}
use Rattle.loglet_api.specs.declared.call.Op.{Op}
use Rattle.loglet_api.specs.declared.call.Refused.{Refused}
use Rattle.loglet_api.specs.declared.call.Answer.TheVariants.{Beyond}
use Rattle.loglet_api.specs.declared.call.LogletCall.{LogletCall}
use Rattle.loglet_api.specs.declared.call.LogletCall.TheVariants.{Begin, Carry, Take, Stray}
use Rattle.loglet_api.specs.declared.call.LogletAnswer.{LogletAnswer}
use Rattle.loglet_api.specs.declared.call.LogletAnswer.TheVariants.{Begun, Refusal, Carried, Taken}
use Rattle.loglet_api.specs.View.{LogletView}
use Rattle.loglet_api.specs.Step.{LogletStep, HasLeft, IsUndecidedAt, IsAppend}
use Rattle.striped_loglet.specs.declared.stripe.Inner.{Inner}
use Rattle.striped_loglet.specs.declared.stripe.Outcome.{Outcome}
use Rattle.striped_loglet.specs.declared.pending.Course.{Course}
use Rattle.striped_loglet.specs.declared.plan.Plan.{Plan}
use Rattle.striped_loglet.specs.declared.plan.Heard.{Heard}
use Rattle.striped_loglet.specs.declared.plan.Heard.TheVariants.{On, Decided}
use Rattle.striped_loglet.specs.Plans.{heard_by, target_of, asked_of, plan_behind, IsUnspoken}
use Rattle.striped_loglet.specs.State.{PendingMap}
use Rattle.striped_loglet.specs.Shapes.{HasServer}
use Rattle.striped_loglet.specs.Pendings.{Sets}
use Rattle.striped_loglet.specs.declared.stripe.Outcome.TheVariants.{Going, Answered}

-- a stripe was asked to begin an operation
abbrev pub BegunOn : LogletView → ℕ → Op → Result Inner Refused → LogletView → Type 0
BegunOn old i op (Ok x) new = LogletStep old (Begin op) (Begun x.ticket) new × (x.stripe ≡ i) × HasLeft new x.ticket x.rounds x.steps
BegunOn old i op (Err refused) new = LogletStep old (Begin op) (Refusal refused) new

-- an operation of a stripe was carried, where it was undecided, and answered where it is decided then
abbrev pub CarriedOn : LogletView → Inner → ℕ → Result Outcome Refused → LogletView → Type 0
CarriedOn old x word (Ok (Going y)) new =
    LogletStep old (Carry x.ticket word) Carried new × IsUndecidedAt new x.ticket × (y ≡ record x { rounds = y.rounds; steps = y.steps }) × HasLeft new x.ticket y.rounds y.steps
CarriedOn old x word (Ok (Answered answer)) new =
    (mid : LogletView) × ((mid ≡ old) ⊎ LogletStep old (Carry x.ticket word) Carried mid) × LogletStep mid (Take x.ticket) (Taken (Some answer)) new
CarriedOn old x word (Err refused) new = LogletStep old (Carry x.ticket word) (Refusal refused) new

-- the answer of an operation of a stripe was taken, or what is left of it was looked at
abbrev pub TakenOn : LogletView → Inner → Outcome → LogletView → Type 0
TakenOn old x (Going y) new = IsUndecidedAt old x.ticket × (new ≡ old) × (y ≡ record x { rounds = y.rounds; steps = y.steps }) × HasLeft new x.ticket y.rounds y.steps
TakenOn old x (Answered answer) new = LogletStep old (Take x.ticket) (Taken (Some answer)) new

-- an Append of a log of this size begins on the stripe that has the next position; all else begins nothing yet
pub record StartsOn (old : List LogletView) (op : Op) (size : ℕ) (new : List LogletView) (x : Inner) : Type 0 where
  pub append : IsAppend op
  pub before : LogletView
  pub after : LogletView
  pub stripe : x.stripe ≡ size % length old
  pub is : slice_get old x.stripe ≡ Some before
  pub step : LogletStep before (Begin op) (Begun x.ticket) after
  pub left : HasLeft after x.ticket x.rounds x.steps
  pub rest : new ≡ set old x.stripe after

pub record IsRefused (old : List LogletView) (op : Op) (size : ℕ) (new : List LogletView) (refused : Refused) : Type 0 where
  pub append : IsAppend op
  pub before : LogletView
  pub after : LogletView
  pub is : slice_get old (size % length old) ≡ Some before
  pub step : LogletStep before (Begin op) (Refusal refused) after
  pub rest : new ≡ set old (size % length old) after

abbrev pub Starts : List LogletView → Op → ℕ → Result (Option Inner) Refused → List LogletView → Type 0
Starts old op size (Ok None) new = ¬ (IsAppend op) × (new ≡ old)
Starts old op size (Ok (Some x)) new = StartsOn old op size new x
Starts old op size (Err refused) new = IsRefused old op size new refused

-- a call of one server is a call of the stripe that has it
pub record CallsServer (old : List LogletView) (server : ℕ) (call : ℕ → LogletCall) (answer : LogletAnswer) (new : List LogletView) : Type 0 where
  pub stripe : ℕ
  pub inner : ℕ
  pub place : HasServer old server stripe inner
  pub after : LogletView
  pub step : LogletStep place.view (call inner) answer after
  pub rest : new ≡ set old stripe after

-- a stray is one of the stripe that its word picks
pub record Strays (old : List LogletView) (word : ℕ) (answer : LogletAnswer) (new : List LogletView) : Type 0 where
  pub before : LogletView
  pub after : LogletView
  pub is : slice_get old (word % length old) ≡ Some before
  pub step : LogletStep before (Stray (word / length old)) answer after
  pub rest : new ≡ set old (word % length old) after

module _ {L : Type 0} where
  -- the open operation goes on so
  abbrev pub Hears : PendingMap L → ℕ → Plan → Heard → PendingMap L → Type 0
  Hears old t plan (On more) new = Sets old t more None None new
  Hears old t plan (Decided answer) new = Sets old t plan None (Some answer) new

  -- and so by what carrying the stripe's operation came to
  abbrev pub HearsOf : PendingMap L → ℕ → Course → Inner → ℕ → Outcome → PendingMap L → Type 0
  HearsOf old t course x count (Going y) new = Sets old t course.plan (Some y) None new
  HearsOf old t course x count (Answered answer) new = Hears old t course.plan (heard_by course.asked.task course.asked.size course.plan x.stripe count answer) new

  -- a stripe's operation was carried for an open one
  pub record CarriedInner (old : List LogletView) (pold : PendingMap L) (t : ℕ) (course : Course) (x : Inner) (word : ℕ) (new : List LogletView) (pnew : PendingMap L) : Type 0 where
    pub before : LogletView
    pub after : LogletView
    pub outcome : Outcome
    pub is : slice_get old x.stripe ≡ Some before
    pub carried : CarriedOn before x word (Ok outcome) after
    pub rest : new ≡ set old x.stripe after
    pub hears : HearsOf pold t course x (length old) outcome pnew

  pub record RefusedInner (old : List LogletView) (pold : PendingMap L) (x : Inner) (word : ℕ) (refused : Refused) (new : List LogletView) (pnew : PendingMap L) : Type 0 where
    pub before : LogletView
    pub after : LogletView
    pub is : slice_get old x.stripe ≡ Some before
    pub carried : CarriedOn before x word (Err refused) after
    pub rest : new ≡ set old x.stripe after
    pub same : pnew ≡ pold

  abbrev pub CarriesInner : {U : Type 0} → List LogletView → PendingMap L → ℕ → Course → Inner → ℕ → Result U Refused → List LogletView → PendingMap L → Type 0
  CarriesInner old pold t course x word (Ok u) new pnew = CarriedInner old pold t course x word new pnew
  CarriesInner old pold t course x word (Err refused) new pnew = RefusedInner old pold x word refused new pnew

  -- the next stripe was asked for an open operation
  pub record BegunNext (old : List LogletView) (pold : PendingMap L) (t : ℕ) (course : Course) (cut : ℕ) (new : List LogletView) (pnew : PendingMap L) : Type 0 where
    pub spoken : ¬ (IsUnspoken course.asked.task course.asked.firm)
    pub before : LogletView
    pub after : LogletView
    pub inner : Inner
    pub stripe : inner.stripe ≡ target_of course.asked.task (length old) course.plan
    pub is : slice_get old inner.stripe ≡ Some before
    pub step : LogletStep before (Begin (asked_of course.asked.task course.asked.size course.plan.stage cut inner.stripe (length old))) (Begun inner.ticket) after
    pub left : HasLeft after inner.ticket inner.rounds inner.steps
    pub rest : new ≡ set old inner.stripe after
    pub sets : Sets pold t (plan_behind course.asked.task (length old) course.plan) (Some inner) None pnew

  -- a Read is beyond the log
  pub record IsBeyond (old : List LogletView) (pold : PendingMap L) (t : ℕ) (course : Course) (new : List LogletView) (pnew : PendingMap L) : Type 0 where
    pub unspoken : IsUnspoken course.asked.task course.asked.firm
    pub rest : new ≡ old
    pub sets : Sets pold t course.plan None (Some (Beyond course.asked.firm)) pnew

  pub record RefusedNext (old : List LogletView) (pold : PendingMap L) (course : Course) (cut : ℕ) (refused : Refused) (new : List LogletView) (pnew : PendingMap L) : Type 0 where
    pub before : LogletView
    pub after : LogletView
    pub stripe : ℕ
    pub target : stripe ≡ target_of course.asked.task (length old) course.plan
    pub is : slice_get old stripe ≡ Some before
    pub step : LogletStep before (Begin (asked_of course.asked.task course.asked.size course.plan.stage cut stripe (length old))) (Refusal refused) after
    pub rest : new ≡ set old stripe after
    pub same : pnew ≡ pold

  abbrev pub BeginsNext : {U : Type 0} → List LogletView → PendingMap L → ℕ → Course → ℕ → Result U Refused → List LogletView → PendingMap L → Type 0
  BeginsNext old pold t course cut (Ok u) new pnew = BegunNext old pold t course cut new pnew ⊎ IsBeyond old pold t course new pnew
  BeginsNext old pold t course cut (Err refused) new pnew = RefusedNext old pold course cut refused new pnew
