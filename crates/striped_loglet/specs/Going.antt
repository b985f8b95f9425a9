-- What holds of the fields of a striped loglet.
use Rattle.std.specs.Prelude.{◌≡◌, ◌≢◌, ◌⊎◌, ℕ, ◌+◌, ◌-◌, ◌*◌, ◌/◌, ◌%◌, ◌^◌, ◌<◌, ◌≤◌, nat_lt, min, if◌then◌else◌, true, false, Option, None, Some, map, length, slice_get}
use Rattle.std.specs.Option.{ForSome}
use Rattle.stripe_rule.specs.Stripes.{covered, share}
use Rattle.loglet_api.specs.declared.call.Answer.{Answer}
use Rattle.loglet_api.specs.declared.call.Answer.TheVariants.{Placed, Settled, OpenTail, SealedTail, SealDone, Got, CutAt, Beyond, TrimDone, Sealed, NoQuorum}
use Rattle.loglet_api.specs.declared.call.Task.{Task}
use Rattle.loglet_api.specs.declared.call.Task.TheVariants.{Placing, Settling, Finding, Sealing, Reading, Trimming}
use Rattle.loglet_api.specs.View.{LogletView, Operation, operation_at, size_of}
use Rattle.loglet_api.specs.Sound.{IsSound}
use Rattle.loglet_api.specs.Step.{RoseBy, IsAtMost, task_of}
use Rattle.striped_loglet.specs.declared.plan.Plan.{Plan}
use Rattle.striped_loglet.specs.declared.plan.Stage.{Stage}
use Rattle.striped_loglet.specs.declared.plan.Stage.TheVariants.{First, Last}
use Rattle.striped_loglet.specs.declared.plan.Stage.TheVariants.{Sealing as SealingStage}
use Rattle.striped_loglet.specs.declared.stripe.Inner.{Inner}
use Rattle.striped_loglet.specs.Views.{total, least_of, entry_at, AllShut, NoneShut, AllReach, AllFirm, AllTrimmed, IsCapped}
use Rattle.striped_loglet.specs.Plans.{finding_of}
use Rattle.striped_loglet.specs.State.{Plain, State, rounds_behind, sum_below, count_of, faults_of, down_of}

-- how many operations of stripe i may still begin for an open one
abbrev pub owed_by : ℕ → Option Answer → Plan → ℕ
owed_by i (Some answer) plan = 0
owed_by i None plan = rounds_behind plan.stage + (if nat_lt i plan.next then 0 else 1)

abbrev pub owed : ℕ → Option Plain → ℕ
owed i None = 0
owed i (Some p) = owed_by i p.answer p.plan

abbrev pub one_open : Option Plain → ℕ
one_open None = 0
one_open (Some p) = 1

-- what holds of a stripe
pub record IsStripe (s : State) (i : ℕ) (v : LogletView) : Type 0 where
  pub sound : IsSound v
  pub room : count_of s * v.room ≡ s.shape.room
  pub rounds : v.rounds + 2 ≤ s.shape.turn
  pub limit : 4 * s.shape.limit ≤ v.limit
  -- it has its share of the log, and lets go of no more than its share
  pub size : size_of v ≡ share (count_of s) i s.marks.size
  pub cut : v.cut ≤ share (count_of s) i s.marks.cut
  -- what the loglet told is covered
  pub reach : s.marks.reach ≤ covered (count_of s) i v.reach
  pub firm : s.marks.firm ≤ covered (count_of s) i v.firm
  -- at most four operations of a stripe for one of the loglet
  pub begun : v.begun + sum_below (λ t. owed i (s.at t)) s.marks.begun ≤ 4 * s.marks.begun
  pub seals : 1 ≤ v.seals → 1 ≤ s.marks.seals

-- the stripe on which an Append places its entry
abbrev pub IsOwn : Task → ℕ → ℕ → ℕ → Type 0
IsOwn Placing size count i = i ≡ size % count
IsOwn (Settling n) size count i = ⊥
IsOwn Finding size count i = ⊥
IsOwn Sealing size count i = ⊥
IsOwn (Reading q) size count i = ⊥
IsOwn (Trimming n) size count i = ⊥

-- the stripe wasn't sealed as the operation began
abbrev pub WasOpen : Plain → ℕ → Type 0
WasOpen p i = (b : LogletView) → slice_get p.before i ≡ Some b → b.shut ≡ false

-- what a stripe's answer in this round of a Tail leaves
abbrev pub HasTold : Stage → Plain → ℕ → ℕ → LogletView → Type 0
HasTold First p count i v = (p.plan.tail ≤ covered count i v.reach) × WasOpen p i
HasTold SealingStage p count i v = v.shut ≡ true
HasTold Last p count i v = p.plan.tail ≤ covered count i v.firm

-- what a stripe's answer leaves
abbrev pub HasHeard : Task → Plain → ℕ → ℕ → LogletView → Type 0
HasHeard Placing p count i v = (p.asked.size + 1 ≤ covered count i v.reach) × WasOpen p i
HasHeard (Settling n) p count i v = (min n p.asked.size ≤ covered count i v.reach) × WasOpen p i
HasHeard Finding p count i v = HasTold p.plan.stage p count i v
HasHeard Sealing p count i v = v.shut ≡ true
HasHeard (Reading q) p count i v = Unit {0}
HasHeard (Trimming n) p count i v = share count i (min n p.asked.reach) ≤ v.cut

-- what a stripe is doing for an operation
abbrev pub IsFor : Task → Plain → ℕ → ℕ → Operation → Task → Type 0
IsFor Placing p count i o Placing = (i ≡ p.asked.size % count) × (o.size ≡ p.asked.size / count)
IsFor Placing p count i o (Settling k) = (i ≢ p.asked.size % count) × (k ≡ share count i p.asked.size) × (k ≤ o.size)
IsFor (Settling n) p count i o (Settling k) = (k ≡ share count i (min n p.asked.size)) × (k ≤ o.size)
IsFor Finding p count i o task = task ≡ task_of (finding_of p.plan.stage)
IsFor Sealing p count i o task = task ≡ Sealing
IsFor (Reading q) p count i o task = (task ≡ Reading (q / count)) × (i ≡ q % count) × (q < p.asked.firm)
IsFor (Trimming n) p count i o (Trimming k) = Unit {0}
IsFor mine p count i o task = ⊥

-- a stripe's operation that is under way for an open one
pub record IsAsked (s : State) (p : Plain) (x : Inner) (v : LogletView) : Type 0 where
  pub operation : Operation
  pub is : operation_at v.operations x.ticket ≡ Some operation
  pub for : IsFor p.asked.task p (count_of s) x.stripe operation operation.task
  pub left : IsAtMost operation.left (x.rounds, x.steps)
  pub rounds : x.rounds ≤ v.rounds
  pub steps : x.steps < 2 ^ 53 * v.servers
  pub reach : p.asked.reach ≤ covered (count_of s) x.stripe operation.reach
  pub firm : p.asked.firm ≤ covered (count_of s) x.stripe operation.firm
  pub shut : (b : LogletView) → slice_get p.before x.stripe ≡ Some b → b.shut ≡ true → operation.shut ≡ true
  pub again : p.asked.task ≡ Finding → p.plan.stage ≡ Last → operation.shut ≡ true
  -- it lets go of no less than its share of what is to be trimmed
  pub trims : (n : ℕ) → p.asked.task ≡ Trimming n → share (count_of s) x.stripe (min n p.asked.reach) ≤ v.cut
  -- what the stripe lacks now, the loglet lacks too
  pub lack : RoseBy ((operation.down - p.asked.down) + (v.faults - operation.faults)) p.asked.faults (faults_of s)

-- the stripe has answered in this round
pub record IsDone (p : Plain) (count i : ℕ) : Type 0 where
  pub asked : (i < p.plan.next) ⊎ IsOwn p.asked.task p.asked.size count i
  pub told : (x : Inner) → p.inner ≡ Some x → i ≢ x.stripe

-- what holds of an operation that is undecided
pub record IsGoing (s : State) (p : Plain) : Type 0 where
  pub next : p.plan.next ≤ count_of s
  pub stage : (p.asked.task ≡ Finding) ⊎ (p.plan.stage ≡ Last)
  pub waits : p.inner ≡ None → p.plan.next < count_of s
  pub skips : p.inner ≡ None → p.asked.task ≡ Placing → p.plan.next ≢ p.asked.size % count_of s
  pub single : (q : ℕ) → p.asked.task ≡ Reading q → p.inner ≡ None → p.plan.next ≡ 0
  pub sealing : p.plan.stage ≡ SealingStage → 1 ≤ s.marks.seals
  pub done : (i : ℕ) (v : LogletView) → slice_get s.views i ≡ Some v → IsDone p (count_of s) i → HasHeard p.asked.task p (count_of s) i v
  -- a Tail's length so far
  pub above : p.plan.stage ≡ First → p.asked.reach ≤ p.plan.tail
  pub all_shut : p.asked.task ≡ Finding → p.plan.stage ≡ Last → AllShut s.views
  pub capped : p.asked.task ≡ Finding → p.plan.stage ≡ Last → (p.plan.tail ≡ 2 ^ 64 - 1) ⊎ IsCapped s.views p.plan.tail
  pub tail : p.plan.tail < 2 ^ 64
  pub inner : (x : Inner) → p.inner ≡ Some x → x.stripe < count_of s
  pub asks : (x : Inner) (v : LogletView) → p.inner ≡ Some x → slice_get s.views x.stripe ≡ Some v → IsAsked s p x v

-- enough servers of one stripe were out of reach
pub record IsLacking (s : State) (p : Plain) (unreached : ℕ) : Type 0 where
  pub enough : least_of (map (λ v. v.quorum) s.views) ≤ unreached
  pub servers : unreached ≤ s.shape.servers
  pub faults : RoseBy (unreached - p.asked.down) p.asked.faults (faults_of s)

-- the answer fits what the stripes show, and goes on to fit
abbrev pub Fits : State → Plain → Task → Answer → Type 0
Fits s p Placing (Placed q) = (q ≡ p.asked.size) × NoneShut p.before × AllReach s.views (p.asked.size + 1)
Fits s p Placing Sealed = (i : ℕ) × (v : LogletView) × (slice_get s.views i ≡ Some v) × (v.shut ≡ true)
Fits s p (Settling n) Settled = NoneShut p.before × AllReach s.views (min n p.asked.size)
Fits s p (Settling n) Sealed = (i : ℕ) × (v : LogletView) × (slice_get s.views i ≡ Some v) × (v.shut ≡ true)
Fits s p Finding (OpenTail t) = (p.asked.reach ≤ t) × NoneShut p.before × AllReach s.views t
Fits s p Finding (SealedTail t) = AllShut s.views × AllFirm s.views t × IsCapped s.views t
Fits s p Sealing SealDone = AllShut s.views
Fits s p (Reading q) (Beyond n) = (p.asked.firm ≤ q) × (n ≡ p.asked.firm)
Fits s p (Reading q) (Got e) = (q < p.asked.firm) × (s.marks.cut ≤ q → entry_at s.views q ≡ Some e)
Fits s p (Reading q) (CutAt n) = q < s.marks.cut
Fits s p (Reading q) (NoQuorum unreached) = (q < p.asked.firm) × IsLacking s p unreached
Fits s p (Trimming n) TrimDone = AllTrimmed s.views (min n p.asked.reach)
Fits s p task (NoQuorum unreached) = IsLacking s p unreached
Fits s p task answer = ⊥

-- what holds of an open operation
pub record IsPending (s : State) (t : ℕ) (p : Plain) : Type 0 where
  pub ticket : t < s.marks.begun
  pub size : p.asked.size ≤ s.marks.size
  pub placing : p.asked.task ≡ Placing → p.asked.size < s.marks.size
  pub reach : p.asked.reach ≤ s.marks.reach
  pub firm : p.asked.firm ≤ s.marks.firm
  pub before : length p.before ≡ count_of s
  pub shut : (i : ℕ) (b v : LogletView) → slice_get p.before i ≡ Some b → slice_get s.views i ≡ Some v → b.shut ≡ true → v.shut ≡ true
  pub faults : p.asked.faults ≤ faults_of s
  pub down : RoseBy (down_of s - p.asked.down) p.asked.faults (faults_of s)
  pub sealing : p.asked.task ≡ Sealing → 1 ≤ s.marks.seals
  pub trimming : (n : ℕ) → p.asked.task ≡ Trimming n → min n p.asked.reach ≤ s.marks.cut
  pub going : p.answer ≡ None → IsGoing s p
  pub alone : (answer : Answer) → p.answer ≡ Some answer → p.inner ≡ None
  pub told : ForSome p.answer (Fits s p p.asked.task)

-- what holds of the numbers that never change
pub record IsShaped (s : State) : Type 0 where
  pub count : (2 ≤ count_of s) × (count_of s ≤ 8)
  pub servers : s.shape.servers ≡ total (λ v. v.servers) s.views
  pub few : s.shape.servers ≤ 64
  pub room : (1 ≤ s.shape.room) × (s.shape.room ≤ 2 ^ 32)
  pub rounds : s.shape.rounds ≡ (3 * count_of s + 1) * s.shape.turn
  pub turn : s.shape.turn ≤ 2 ^ 24 + 2

-- no two operations wait for one operation of a stripe
abbrev pub AreApart : (ℕ → Option Plain) → Type 0
AreApart at = (t u : ℕ) (p q : Plain) (x y : Inner) → at t ≡ Some p → at u ≡ Some q → p.inner ≡ Some x → q.inner ≡ Some y → x.stripe ≡ y.stripe → x.ticket ≡ y.ticket → t ≡ u

pub record IsStriped (s : State) : Type 0 where
  pub shaped : IsShaped s
  pub stripes : (i : ℕ) (v : LogletView) → slice_get s.views i ≡ Some v → IsStripe s i v
  pub cut : s.marks.cut ≤ s.marks.reach
  pub reach : s.marks.reach ≤ s.marks.firm
  pub firm : s.marks.firm ≤ s.marks.size
  pub size : s.marks.size ≤ s.shape.room
  pub cap : ForSome s.marks.cap (λ c. (c ≤ s.marks.firm) × IsCapped s.views c)
  pub begun : s.marks.begun ≤ s.shape.limit
  pub seals : s.marks.seals ≤ s.marks.begun
  pub lacks : s.marks.lacks + sum_below (λ t. one_open (s.at t)) s.marks.begun ≤ s.marks.begun
  pub pending : (t : ℕ) (p : Plain) → s.at t ≡ Some p → IsPending s t p
  pub apart : AreApart s.at
