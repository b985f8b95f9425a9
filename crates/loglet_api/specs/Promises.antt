-- What a loglet promises over a whole run, whatever is called in between.
use Rattle.std.specs.Prelude.{◌≡◌, ℕ, ◌-◌, ◌<◌, ◌≤◌, Some, List, slice_get}
use Rattle.delos_types.specs.declared.entry.Entry.{Entry}
use Rattle.loglet_api.specs.declared.call.Answer.TheVariants.{Placed, OpenTail, SealedTail, Beyond}
use Rattle.loglet_api.specs.declared.call.Op.{Op}
use Rattle.loglet_api.specs.declared.call.Op.TheVariants.{Append, Tail, Read}
use Rattle.loglet_api.specs.declared.call.LogletCall.{LogletCall}
use Rattle.loglet_api.specs.declared.call.LogletCall.TheVariants.{Begin}
use Rattle.loglet_api.specs.declared.call.LogletAnswer.{LogletAnswer}
use Rattle.loglet_api.specs.declared.call.LogletAnswer.TheVariants.{Begun}
use Rattle.loglet_api.specs.View.{LogletView}
use Rattle.loglet_api.specs.Step.{LogletStep}
use Rattle.loglet_api.specs.Run.{LogletRun}
use Rattle.loglet_api.specs.Says.{Answers}

-- some calls lead from one moment to the other
abbrev pub LeadsTo : LogletView → LogletView → Type 0
LeadsTo old new = (steps : List (LogletCall × LogletAnswer)) × LogletRun old steps new

-- the operation is begun
abbrev pub BeginsAs : LogletView → Op → ℕ → LogletView → Type 0
BeginsAs old op t new = LogletStep old (Begin op) (Begun t) new

-- an entry whose Append is answered Placed stands at that position from then on, until it is trimmed
abbrev pub PlacedStays : Type 0
PlacedStays = (a b c d z : LogletView) (e : Entry) (t p : ℕ)
    → BeginsAs a (Append e) t b → LeadsTo b c → Answers c t (Placed p) d → LeadsTo d z
    → z.cut ≤ p → slice_get z.log (p - z.cut) ≡ Some e

-- a Read that begins after a position was acknowledged never tells it to be beyond the log
abbrev pub PlacedIsRead : Type 0
PlacedIsRead = (a b c d y z : LogletView) (t u p n : ℕ)
    → Answers a t (Placed p) b → LeadsTo b c → BeginsAs c (Read p) u d → LeadsTo d y → ¬ (Answers y u (Beyond n) z)

-- a Tail that begins after a position was acknowledged is above it
abbrev pub TailIsAbove : Type 0
TailIsAbove = (a b c d y z : LogletView) (t u p n : ℕ)
    → Answers a t (Placed p) b → LeadsTo b c → BeginsAs c Tail u d → LeadsTo d y → Answers y u (OpenTail n) z → p < n

-- a sealed tail is above each position that was acknowledged before it, and each one after
abbrev pub SealedTailIsAbove : Type 0
SealedTailIsAbove = (a b c d : LogletView) (t u p n : ℕ)
    → Answers a t (Placed p) b → LeadsTo b c → Answers c u (SealedTail n) d → p < n

abbrev pub NothingAboveSealedTail : Type 0
NothingAboveSealedTail = (a b c d : LogletView) (t u p n : ℕ)
    → Answers a t (SealedTail n) b → LeadsTo b c → Answers c u (Placed p) d → p < n
