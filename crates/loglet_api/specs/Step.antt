-- The steps that a loglet may take.
use Rattle.std.specs.Prelude.{◌≡◌, ℕ, ◌+◌, ◌-◌, ◌^◌, ◌<◌, ◌≤◌, ◌⊎◌, ◌==◌, min, max, Bool, true, false, if◌then◌else◌, Option, None, Some, List, [], ◌∷◌, ◌++◌, drop, slice_get}
use Rattle.delos_types.specs.declared.entry.Entry.{Entry}
use Rattle.delos_types.specs.Spelling.{IsSpellable}
use Rattle.loglet_api.specs.declared.call.Op.{Op}
use Rattle.loglet_api.specs.declared.call.Op.TheVariants.{Append, Settle, Tail, Seal, Read, Trim}
use Rattle.loglet_api.specs.declared.call.Task.{Task}
use Rattle.loglet_api.specs.declared.call.Task.TheVariants.{Placing, Settling, Finding, Sealing, Reading, Trimming}
use Rattle.loglet_api.specs.declared.call.Answer.{Answer}
use Rattle.loglet_api.specs.declared.call.Answer.TheVariants.{Placed, Settled, OpenTail, SealedTail, SealDone, Got, CutAt, Beyond, TrimDone, Sealed, NoQuorum}
use Rattle.loglet_api.specs.declared.call.Refused.TheVariants.{Full, Memory}
use Rattle.loglet_api.specs.declared.call.LogletCall.{LogletCall}
use Rattle.loglet_api.specs.declared.call.LogletCall.TheVariants.{Begin, Carry, Take, Forget, Left, Stray, Stop, Restart}
use Rattle.loglet_api.specs.declared.call.LogletAnswer.{LogletAnswer}
use Rattle.loglet_api.specs.declared.call.LogletAnswer.TheVariants.{Begun, Refusal, Carried, Taken, Forgotten, LeftIs, Strayed, Stopped, Restarted}
use Rattle.loglet_api.specs.View.{Operation, LogletView, size_of, operation_at, IsOpen, IsUndecided, IsDecided}
use Rattle.loglet_api.specs.Sound.{IsSound}

-- Counts of faults are words of 64 bits, which stand still at their end.

-- the count rose by at least n, or stands at its end
abbrev pub RoseBy : ℕ → ℕ → ℕ → Type 0
RoseBy n before now = min (before + n) (2 ^ 64 - 1) ≤ now

-- one more
abbrev pub bumped : ℕ → ℕ
bumped n = min (n + 1) (2 ^ 64 - 1)

-- When a call may be made.

abbrev pub CanBegin : Op → Type 0
CanBegin (Append e) = IsSpellable e
CanBegin (Settle n) = Unit {0}
CanBegin Tail = Unit {0}
CanBegin Seal = Unit {0}
CanBegin (Read p) = Unit {0}
CanBegin (Trim n) = Unit {0}

-- an open operation that isn't decided
pub record IsUndecidedAt (v : LogletView) (t : ℕ) : Type 0 where
  pub operation : Operation
  pub is : operation_at v.operations t ≡ Some operation
  pub undecided : IsUndecided operation

abbrev pub CanCall : LogletView → LogletCall → Type 0
CanCall v (Begin op) = CanBegin op
CanCall v (Carry t word) = IsUndecidedAt v t
CanCall v (Take t) = IsOpen v t
CanCall v (Forget t) = IsOpen v t
CanCall v (Left t) = IsOpen v t
CanCall v (Stray word) = Unit {0}
CanCall v (Stop server after) = server < v.servers
CanCall v (Restart server word) = server < v.servers

-- Operations change one at a time, or get nearer to their end.

-- this ticket has this now, and each other what it had
abbrev pub PutsOperation : List (ℕ × Operation) → ℕ → Option Operation → List (ℕ × Operation) → Type 0
PutsOperation old t o new = (q : ℕ) → operation_at new q ≡ (if t == q then o else operation_at old q)

-- the first numbers are compared first
abbrev pub IsBelow : ℕ × ℕ → ℕ × ℕ → Type 0
IsBelow a b = (a.0 < b.0) ⊎ ((a.0 ≡ b.0) × (a.1 < b.1))

abbrev pub IsAtMost : ℕ × ℕ → ℕ × ℕ → Type 0
IsAtMost a b = (a.0 < b.0) ⊎ ((a.0 ≡ b.0) × (a.1 ≤ b.1))

-- the same operation, with no more left to do
abbrev pub Advances : Option Operation → Option Operation → Type 0
Advances None None = Unit {0}
Advances (Some a) (Some b) = (b ≡ record a { left = b.left }) × IsAtMost b.left a.left
Advances None (Some b) = ⊥
Advances (Some a) None = ⊥

-- `carry`, `stray` and `restart` change these alone
pub record Moves (old new : LogletView) : Type 0 where
  pub rest : new ≡ record old { shut = new.shut; operations = new.operations; faults = new.faults; down = new.down }
  pub shut : old.shut ≡ true → new.shut ≡ true
  pub faults : old.faults ≤ new.faults
  pub down : RoseBy (new.down - old.down) old.faults new.faults
  pub operations : (q : ℕ) → Advances (operation_at old.operations q) (operation_at new.operations q)

-- Begin.

abbrev pub IsAppend : Op → Type 0
IsAppend (Append e) = Unit {0}
IsAppend (Settle n) = ⊥
IsAppend Tail = ⊥
IsAppend Seal = ⊥
IsAppend (Read p) = ⊥
IsAppend (Trim n) = ⊥

-- the operation can't be begun any more
abbrev pub IsFull : LogletView → Op → Type 0
IsFull v op = (IsAppend op × (size_of v ≡ v.room)) ⊎ (v.begun ≡ v.limit)

-- the entries that it adds
abbrev pub entries_of : Op → List Entry
entries_of (Append e) = e ∷ []
entries_of (Settle n) = []
entries_of Tail = []
entries_of Seal = []
entries_of (Read p) = []
entries_of (Trim n) = []

-- the cut once it is begun
abbrev pub cut_by : Op → ℕ → ℕ → ℕ
cut_by (Trim n) cut reach = max cut (min n reach)
cut_by (Append e) cut reach = cut
cut_by (Settle n) cut reach = cut
cut_by Tail cut reach = cut
cut_by Seal cut reach = cut
cut_by (Read p) cut reach = cut

abbrev pub cut_after : LogletView → Op → ℕ
cut_after v op = cut_by op v.cut v.reach

abbrev pub seals_of : Op → ℕ
seals_of Seal = 1
seals_of (Append e) = 0
seals_of (Settle n) = 0
seals_of Tail = 0
seals_of (Read p) = 0
seals_of (Trim n) = 0

-- what it is to do
abbrev pub task_of : Op → Task
task_of (Append e) = Placing
task_of (Settle n) = Settling n
task_of Tail = Finding
task_of Seal = Sealing
task_of (Read p) = Reading p
task_of (Trim n) = Trimming n

abbrev pub begun_operation : LogletView → Op → ℕ × ℕ → Operation
begun_operation v op left =
    record { task = task_of op; size = size_of v; reach = v.reach; firm = v.firm; shut = v.shut; faults = v.faults; down = v.down; left = left }

pub record Begins (old : LogletView) (op : Op) (t : ℕ) (new : LogletView) : Type 0 where
  pub room : ¬ (IsFull old op)
  -- tickets are the numbers of the operations begun before
  pub ticket : t ≡ old.begun
  pub left : ℕ × ℕ
  pub operation : PutsOperation old.operations t (Some (begun_operation old op left)) new.operations
  pub rest : new ≡ record old {
    cut = cut_after old op;
    log = drop (cut_after old op - old.cut) old.log ++ entries_of op;
    operations = new.operations;
    begun = old.begun + 1;
    seals = old.seals + seals_of op;
  }

-- Take.

-- the length that an Append or a Settle speaks of
abbrev pub wanted_by : Task → ℕ → ℕ
wanted_by Placing size = size + 1
wanted_by (Settling n) size = min n size
wanted_by Finding size = 0
wanted_by Sealing size = 0
wanted_by (Reading p) size = 0
wanted_by (Trimming n) size = 0

abbrev pub wanted : Operation → ℕ
wanted o = wanted_by o.task o.size

-- enough servers were down as the operation's message came, failed it, or lost it
pub record IsLack (v : LogletView) (o : Operation) (unreached : ℕ) : Type 0 where
  pub enough : v.quorum ≤ unreached
  pub servers : unreached ≤ v.servers
  pub faults : RoseBy (unreached - o.down) o.faults v.faults

-- the operation may be answered so, in this view
abbrev pub MayAnswer : LogletView → Operation → Task → Answer → Type 0
MayAnswer v o Placing (Placed p) = (p ≡ o.size) × (o.shut ≡ false)
MayAnswer v o Placing Sealed = v.shut ≡ true
MayAnswer v o (Settling n) Settled = o.shut ≡ false
MayAnswer v o (Settling n) Sealed = v.shut ≡ true
MayAnswer v o Finding (OpenTail t) = (o.reach ≤ t) × (o.shut ≡ false)
MayAnswer v o Finding (SealedTail t) = (v.reach ≤ t) × (v.shut ≡ true)
MayAnswer v o Sealing SealDone = v.shut ≡ true
-- what is trimmed now, else what no answer had spoken of as the Read began, else the entry that stands there
MayAnswer v o (Reading p) (CutAt n) = (p < v.cut) × (n ≡ v.cut)
MayAnswer v o (Reading p) (Beyond n) = (v.cut ≤ p) × (o.firm ≤ p) × (n ≡ o.firm)
MayAnswer v o (Reading p) (Got e) = (v.cut ≤ p) × (p < o.firm) × (slice_get v.log (p - v.cut) ≡ Some e)
MayAnswer v o (Reading p) (NoQuorum unreached) = (v.cut ≤ p) × (p < o.firm) × IsLack v o unreached
MayAnswer v o (Trimming n) TrimDone = Unit {0}
MayAnswer v o task (NoQuorum unreached) = IsLack v o unreached
-- no other answer is given
MayAnswer v o task answer = ⊥

-- the length that a majority has for good, by an answer to an operation that speaks of this length
abbrev pub told_reach : ℕ → Answer → ℕ
told_reach length (Placed p) = p + 1
told_reach length Settled = length
told_reach length (OpenTail t) = t
told_reach length answer = 0

-- the length that an answer speaks of in any way
abbrev pub told_firm : ℕ → Answer → ℕ
told_firm length (Placed p) = p + 1
told_firm length Settled = length
told_firm length (OpenTail t) = t
told_firm length (SealedTail t) = t
told_firm length answer = 0

-- the least sealed tail
abbrev pub told_cap : Answer → Option ℕ → Option ℕ
told_cap (SealedTail t) None = Some t
told_cap (SealedTail t) (Some c) = Some (min c t)
told_cap answer cap = cap

abbrev pub told_lacks : Answer → ℕ
told_lacks (NoQuorum unreached) = 1
told_lacks answer = 0

pub record TakesAnswer (old : LogletView) (t : ℕ) (answer : Answer) (new : LogletView) : Type 0 where
  pub operation : Operation
  pub is : operation_at old.operations t ≡ Some operation
  pub decided : IsDecided operation
  pub may : MayAnswer old operation operation.task answer
  pub closed : PutsOperation old.operations t None new.operations
  pub rest : new ≡ record old {
    reach = max old.reach (told_reach (wanted operation) answer);
    firm = max old.firm (told_firm (wanted operation) answer);
    cap = told_cap answer old.cap;
    operations = new.operations;
    lacks = old.lacks + told_lacks answer;
  }

-- Carry.

-- the open operation has less left to do
pub record Falls (old new : LogletView) (t : ℕ) : Type 0 where
  pub before : Operation
  pub after : Operation
  pub was : operation_at old.operations t ≡ Some before
  pub is : operation_at new.operations t ≡ Some after
  pub less : IsBelow after.left before.left

pub record Carries (old : LogletView) (t : ℕ) (new : LogletView) : Type 0 where
  pub moves : Moves old new
  pub falls : Falls old new t

-- Forget, and the count of what is left.

pub record Forgets (old : LogletView) (t : ℕ) (new : LogletView) : Type 0 where
  pub closed : PutsOperation old.operations t None new.operations
  pub rest : new ≡ record old { operations = new.operations }

pub record HasLeft (v : LogletView) (t a b : ℕ) : Type 0 where
  pub operation : Operation
  pub is : operation_at v.operations t ≡ Some operation
  pub left : operation.left ≡ (a, b)

-- Restart.

pub record Restarts (old : LogletView) (succeeded : Bool) (new : LogletView) : Type 0 where
  pub moves : Moves old new
  -- it fails only where a fault came
  pub failed : succeeded ≡ false → RoseBy 1 old.faults new.faults
  -- else that server is up now
  pub up : succeeded ≡ true → new.down < new.servers
  -- where no server is down, nothing is done
  pub idle : old.down ≡ 0 → (succeeded ≡ true) × (new ≡ old)

-- what a call that may be made does
abbrev pub Does : LogletView → LogletCall → LogletAnswer → LogletView → Type 0
Does old (Begin op) (Begun t) new = Begins old op t new
Does old (Begin op) (Refusal Full) new = IsFull old op × (new ≡ record old { faults = bumped old.faults })
Does old (Carry t word) Carried new = Carries old t new
Does old (Take t) (Taken None) new = IsUndecidedAt old t × (new ≡ old)
Does old (Take t) (Taken (Some answer)) new = TakesAnswer old t answer new
Does old (Forget t) Forgotten new = Forgets old t new
Does old (Left t) (LeftIs a b) new = HasLeft old t a b × (new ≡ old)
Does old (Stray word) Strayed new = Moves old new
Does old (Stop server after) Stopped new = new ≡ old
Does old (Restart server word) (Restarted up) new = Restarts old up new
-- where there is no memory, nothing changes
Does old (Begin op) (Refusal Memory) new = new ≡ old
Does old (Carry t word) (Refusal Memory) new = new ≡ old
Does old (Stray word) (Refusal Memory) new = new ≡ old
Does old (Restart server word) (Refusal Memory) new = new ≡ old
-- no other answer is given
Does old call answer new = ⊥

-- One step of a loglet.
pub record LogletStep (old : LogletView) (call : LogletCall) (answer : LogletAnswer) (new : LogletView) : Type 0 where
  pub before : IsSound old
  pub can : CanCall old call
  pub does : Does old call answer new
  pub after : IsSound new
