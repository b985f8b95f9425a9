-- How an operation goes round the stripes.
use Rattle.std.specs.Prelude.{ℕ, ◌+◌, ◌-◌, ◌/◌, ◌%◌, ◌^◌, ◌≤◌, ◌==◌, nat_lt, min, if◌then◌else◌}
use Rattle.stripe_rule.specs.Stripes.{covered, share}
use Rattle.loglet_api.specs.declared.call.Op.{Op}
use Rattle.loglet_api.specs.declared.call.Op.TheVariants.{Append, Settle, Tail, Seal, Read, Trim}
use Rattle.loglet_api.specs.declared.call.Answer.{Answer}
use Rattle.loglet_api.specs.declared.call.Answer.TheVariants.{Placed, Settled, OpenTail, SealedTail, SealDone, Got, CutAt, Beyond, TrimDone, Sealed, NoQuorum}
use Rattle.loglet_api.specs.declared.call.Task.{Task}
use Rattle.loglet_api.specs.declared.call.Task.TheVariants.{Placing, Settling, Finding, Sealing, Reading, Trimming}
use Rattle.striped_loglet.specs.declared.plan.Stage.{Stage}
use Rattle.striped_loglet.specs.declared.plan.Stage.TheVariants.{First, Last}
use Rattle.striped_loglet.specs.declared.plan.Stage.TheVariants.{Sealing as SealingStage}
use Rattle.striped_loglet.specs.declared.plan.Plan.{Plan}
use Rattle.striped_loglet.specs.declared.plan.Heard.{Heard}
use Rattle.striped_loglet.specs.declared.plan.Heard.TheVariants.{On, Decided}

-- how many entries an operation adds
abbrev pub added_by : Op → ℕ
added_by (Append e) = 1
added_by (Settle n) = 0
added_by Tail = 0
added_by Seal = 0
added_by (Read p) = 0
added_by (Trim n) = 0

-- a Tail has three rounds, and all else one
abbrev pub first_stage : Task → Stage
first_stage Finding = First
first_stage Placing = Last
first_stage (Settling n) = Last
first_stage Sealing = Last
first_stage (Reading p) = Last
first_stage (Trimming n) = Last

-- a round before anything was asked in it
abbrev pub fresh_round : Stage → Plan
fresh_round stage = record { stage = stage; next = 0; tail = 2 ^ 64 - 1 }

abbrev pub first_plan : Task → Plan
first_plan task = fresh_round (first_stage task)

-- a Read asks one stripe alone
abbrev pub next_behind : Task → ℕ → ℕ → ℕ
next_behind (Reading p) count next = count
next_behind Placing count next = next + 1
next_behind (Settling n) count next = next + 1
next_behind Finding count next = next + 1
next_behind Sealing count next = next + 1
next_behind (Trimming n) count next = next + 1

abbrev pub plan_behind : Task → ℕ → Plan → Plan
plan_behind task count plan = record plan { next = next_behind task count plan.next }

-- the stripe that is asked next
abbrev pub target_of : Task → ℕ → Plan → ℕ
target_of (Reading p) count plan = p % count
target_of Placing count plan = plan.next
target_of (Settling n) count plan = plan.next
target_of Finding count plan = plan.next
target_of Sealing count plan = plan.next
target_of (Trimming n) count plan = plan.next

-- what a round of a Tail asks
abbrev pub finding_of : Stage → Op
finding_of SealingStage = Seal
finding_of First = Tail
finding_of Last = Tail

-- what a stripe is asked: the positions of the whole log that it has
abbrev pub asked_of : Task → ℕ → Stage → ℕ → ℕ → ℕ → Op
asked_of Placing size stage cut stripe count = Settle (share count stripe size)
asked_of (Settling n) size stage cut stripe count = Settle (share count stripe (min n size))
asked_of Finding size stage cut stripe count = finding_of stage
asked_of Sealing size stage cut stripe count = Seal
asked_of (Reading p) size stage cut stripe count = Read (p / count)
asked_of (Trimming n) size stage cut stripe count = Trim (share count stripe cut)

-- an Append's own stripe isn't asked to settle
abbrev pub skipped : Task → ℕ → ℕ → ℕ → ℕ
skipped Placing size count next = if next == size % count then next + 1 else next
skipped (Settling n) size count next = next
skipped Finding size count next = next
skipped Sealing size count next = next
skipped (Reading p) size count next = next
skipped (Trimming n) size count next = next

-- what it comes to once every stripe answered in this round
abbrev pub round_told : Stage → ℕ → Heard
round_told First tail = Decided (OpenTail tail)
round_told SealingStage tail = On (fresh_round Last)
round_told Last tail = Decided (SealedTail tail)

abbrev pub all_told : Task → ℕ → Plan → Heard
all_told Placing size plan = Decided (Placed size)
all_told (Settling n) size plan = Decided Settled
all_told Finding size plan = round_told plan.stage plan.tail
all_told Sealing size plan = Decided SealDone
all_told (Reading p) size plan = Decided TrimDone
all_told (Trimming n) size plan = Decided TrimDone

abbrev pub went_on : Task → ℕ → ℕ → Plan → Heard
went_on task size count plan =
    if nat_lt (skipped task size count plan.next) count then On (record plan { next = skipped task size count plan.next }) else all_told task size plan

abbrev pub lowered : Plan → ℕ → ℕ → ℕ → Plan
lowered plan t stripe count = record plan { tail = min plan.tail (covered count stripe t) }

abbrev pub sealed_heard : Stage → Task → ℕ → Plan → ℕ → ℕ → ℕ → Heard
sealed_heard First task size plan stripe count t = On (fresh_round SealingStage)
sealed_heard SealingStage task size plan stripe count t = went_on task size count (lowered plan t stripe count)
sealed_heard Last task size plan stripe count t = went_on task size count (lowered plan t stripe count)

-- what an operation comes to by an answer of a stripe
abbrev pub heard_by : Task → ℕ → Plan → ℕ → ℕ → Answer → Heard
heard_by task size plan stripe count (Placed p) = went_on task size count plan
heard_by task size plan stripe count Settled = went_on task size count plan
heard_by task size plan stripe count SealDone = went_on task size count plan
heard_by task size plan stripe count TrimDone = went_on task size count plan
heard_by task size plan stripe count (OpenTail t) = went_on task size count (lowered plan t stripe count)
heard_by task size plan stripe count (SealedTail t) = sealed_heard plan.stage task size plan stripe count t
heard_by task size plan stripe count (Got e) = Decided (Got e)
heard_by task size plan stripe count (CutAt n) = Decided (CutAt n)
heard_by task size plan stripe count (Beyond n) = Decided (Beyond n)
heard_by task size plan stripe count Sealed = Decided Sealed
heard_by task size plan stripe count (NoQuorum u) = Decided (NoQuorum u)

-- the tail that an answer tells; 0 where it tells none
abbrev pub told_tail : Answer → ℕ
told_tail (OpenTail t) = t
told_tail (SealedTail t) = t
told_tail answer = 0

-- a Read of a position of which no answer had spoken as it began
abbrev pub IsUnspoken : Task → ℕ → Type 0
IsUnspoken (Reading q) firm = firm ≤ q
IsUnspoken Placing firm = ⊥
IsUnspoken (Settling n) firm = ⊥
IsUnspoken Finding firm = ⊥
IsUnspoken Sealing firm = ⊥
IsUnspoken (Trimming n) firm = ⊥

-- what an operation is told where the cut is here: a position below it is trimmed
abbrev pub told_at : Task → ℕ → Answer → Answer
told_at (Reading q) cut answer = if nat_lt q cut then CutAt cut else answer
told_at task cut answer = answer
