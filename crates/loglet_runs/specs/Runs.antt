-- Any list of calls of a loglet, where those that may not be made are skipped.
use Rattle.std.specs.Prelude.{◌≡◌, ℕ, nat_eq, List, [], ◌∷◌, is_some, All}
use Rattle.std.specs.HashSet.{HashSet, contains}
use Rattle.std.specs.declared.hash.FoldHasher.{FoldHasher}
use Rattle.std.specs.declared.hash.BuildHasherDefault.{BuildHasherDefault}
use Rattle.loglet_api.specs.declared.call.LogletCall.{LogletCall}
use Rattle.loglet_api.specs.declared.call.LogletCall.TheVariants.{Begin}
use Rattle.loglet_api.specs.declared.call.LogletAnswer.{LogletAnswer}
use Rattle.loglet_api.specs.declared.call.LogletAnswer.TheVariants.{Skipped}
use Rattle.loglet_api.specs.View.{LogletView, operation_at}
use Rattle.loglet_api.specs.Sound.{IsSound}
use Rattle.loglet_api.specs.Step.{CanCall, CanBegin, LogletStep}

-- one call: it is made, or it may not be made, is skipped, and changes nothing
abbrev pub OpsStep : LogletView → LogletCall → LogletAnswer → LogletView → Type 0
OpsStep old call Skipped new = ¬ (CanCall old call) × (new ≡ old)
OpsStep old call answer new = LogletStep old call answer new

-- one call after another
abbrev pub OpsRun : LogletView → List LogletCall → List LogletAnswer → LogletView → Type 0
OpsRun old [] [] new = new ≡ old
OpsRun old (call ∷ calls) (answer ∷ answers) new = (mid : LogletView) × OpsStep old call answer mid × OpsRun mid calls answers new
OpsRun old [] (answer ∷ answers) new = ⊥
OpsRun old (call ∷ calls) [] new = ⊥

-- the calls that were made, with their answers
abbrev pub made : List LogletCall → List LogletAnswer → List (LogletCall × LogletAnswer)
made (call ∷ calls) (Skipped ∷ answers) = made calls answers
made (call ∷ calls) (answer ∷ answers) = (call, answer) ∷ made calls answers
made calls answers = []

-- the entry that a call brings is one that some bytes spell
abbrev pub CanBring : LogletCall → Type 0
CanBring (Begin op) = CanBegin op
CanBring call = Unit {0}

abbrev pub BringsSpellable : List LogletCall → Type 0
BringsSpellable calls = All CanBring calls

-- no operation is open
abbrev pub IsClosed : LogletView → Type 0
IsClosed v = v.operations ≡ []

abbrev pub TicketSet : Type 0
TicketSet = HashSet ℕ (BuildHasherDefault FoldHasher)

-- a moment of a run: just these tickets are open, and there are so many servers
pub record Tracks (v : LogletView) (servers : ℕ) (open_tickets : TicketSet) : Type 0 where
  pub sound : IsSound v
  pub servers_are : v.servers ≡ servers
  pub each : (q : ℕ) → is_some (operation_at v.operations q) ≡ contains nat_eq open_tickets q
