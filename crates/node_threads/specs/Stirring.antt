-- What number 0, which is no node, does beside the nodes.
use Rattle.std.specs.Prelude.{◌≡◌, ℕ, ◌==◌, Bool, true, cond, List, [], ◌∷◌, ◌++◌}
use Rattle.std.specs.List.{AllByRecursion}
use Rattle.legal_journal.specs.declared.events.FabricCall.{FabricCall}
use Rattle.legal_journal.specs.declared.events.Event.{Event}
use Rattle.legal_journal.specs.FaultCalls.{is_fault, faults_made, made_by}
use Rattle.node_threads.specs.Outset.{MakesCalls}

-- the calls of one user, in their order
abbrev pub calls_by : ℕ → List Event → List FabricCall
calls_by who [] = []
calls_by who (e ∷ es) = cond (e.who == who) (e.call ∷ []) [] ++ calls_by who es

-- Each event since is of another user, or one by which number 0 breaks or mends something or has an old message come again. Where memory
-- sufficed, these are its calls.
pub record Stirred (calls : List FabricCall) (old new : List Event) (sufficed : Bool) : Type 0 where
  pub more : List Event
  pub seen : new ≡ old ++ more
  pub faults : AllByRecursion (λ e. e.who ≡ 0 → is_fault e.call ≡ true) more
  pub made : sufficed ≡ true → calls_by 0 more ≡ calls

-- Since then number 0 made these calls among those by which parts are broken or mended or old messages come again, and nobody made others of
-- them.
pub record MakesFaults (calls : List FabricCall) (old new : List Event) : Type 0 where
  pub more : List Event
  pub seen : new ≡ old ++ more
  pub made : faults_made more ≡ made_by 0 calls

-- In a phase number 0 made the calls with which it begins, before anybody did anything, and then those others beside the nodes; and nobody
-- broke or mended anything else.
pub record ActsInPhase (begun strays : List FabricCall) (old new : List Event) : Type 0 where
  pub between : List Event
  pub begins : MakesCalls begun old between
  pub beside : MakesFaults strays between new
