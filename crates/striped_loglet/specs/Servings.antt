-- The servers of a striped loglet: those of its stripes, one after another.
use Rattle.std.specs.Prelude.{◌≡◌, ◌⊎◌, ℕ, ◌/◌, ◌%◌, Option, None, Some, Result, Ok, Err, List, [], ◌∷◌, ◌++◌, length, set, slice_get}
use Rattle.loglet_api.specs.declared.call.Refused.{Refused}
use Rattle.loglet_api.specs.declared.call.LogletCall.{LogletCall}
use Rattle.loglet_api.specs.declared.call.LogletCall.TheVariants.{Carry, Stray}
use Rattle.loglet_api.specs.declared.call.LogletAnswer.{LogletAnswer}
use Rattle.loglet_api.specs.declared.call.LogletAnswer.TheVariants.{Refusal, Carried}
use Rattle.loglet_api.specs.View.{LogletView}
use Rattle.loglet_api.specs.Servers.{ServerState, ServersView, Serves}
use Rattle.striped_loglet.specs.declared.stripe.Inner.{Inner}
use Rattle.striped_loglet.specs.Shapes.{HasServer}

-- the servers of all stripes
abbrev pub states_of : List ServersView → List ServerState
states_of [] = []
states_of (v ∷ vs) = v.states ++ states_of vs

-- what a call of one server does to the servers of the stripe that has it, and what that stripe is handed
pub record ServesServer (views : List LogletView) (old : List ServersView) (server : ℕ) (call : ℕ → LogletCall) (answer : LogletAnswer) (new : List ServersView) : Type 0 where
  pub stripe : ℕ
  pub inner : ℕ
  pub place : HasServer views server stripe inner
  pub before : ServersView
  pub after : ServersView
  pub is : slice_get old stripe ≡ Some before
  pub serves : Serves before (call inner) answer after
  pub rest : new ≡ set old stripe after

-- what a stray does to the servers of the stripe that its word picks: the rest of it is that stripe's word
pub record ServesStray (old : List ServersView) (word : ℕ) (answer : LogletAnswer) (new : List ServersView) : Type 0 where
  pub before : ServersView
  pub after : ServersView
  pub is : slice_get old (word % length old) ≡ Some before
  pub serves : Serves before (Stray (word / length old)) answer after
  pub rest : new ≡ set old (word % length old) after

-- what carrying an operation of a stripe does to its servers: nothing where that was decided
abbrev pub ServesCarry : {A : Type 0} → ServersView → ℕ → ℕ → Result A Refused → ServersView → Type 0
ServesCarry old t word (Ok outcome) new = (new ≡ old) ⊎ Serves old (Carry t word) Carried new
ServesCarry old t word (Err refused) new = Serves old (Carry t word) (Refusal refused) new

-- an operation of one stripe was carried by this word, once
pub record CarriesOne (old : List ServersView) (i t word : ℕ) (answer : LogletAnswer) (new : List ServersView) : Type 0 where
  pub before : ServersView
  pub after : ServersView
  pub is : slice_get old i ≡ Some before
  pub serves : Serves before (Carry t word) answer after
  pub rest : new ≡ set old i after

abbrev pub CarriesAt : List ServersView → ℕ → ℕ → ℕ → LogletAnswer → List ServersView → Type 0
CarriesAt old i t word answer new = (new ≡ old) ⊎ CarriesOne old i t word answer new

-- What a carry does to the servers of the stripes, by what a stripe is doing for its operation: that is handed the word,
-- once, or nothing is done to any where that was decided, or where no stripe is at work.
abbrev pub CarriesFor : List ServersView → Option Inner → ℕ → LogletAnswer → List ServersView → Type 0
CarriesFor old None word answer new = new ≡ old
CarriesFor old (Some x) word answer new = CarriesAt old x.stripe x.ticket word answer new
