-- What is seen of a loglet's servers, and what each call does to them.
use Rattle.std.specs.Prelude.{◌≡◌, ◌⊎◌, ℕ, zero, suc, ◌+◌, ◌≤◌, nat_lt, Bool, true, false, if◌then◌else◌, List, [], ◌∷◌}
use Rattle.loglet_api.specs.declared.call.LogletCall.{LogletCall}
use Rattle.loglet_api.specs.declared.call.LogletCall.TheVariants.{Carry, Stray, Stop, Restart}
use Rattle.loglet_api.specs.declared.call.LogletAnswer.{LogletAnswer}
use Rattle.loglet_api.specs.declared.call.LogletAnswer.TheVariants.{Refusal, Carried, Strayed, Stopped, Restarted}
use Rattle.loglet_api.specs.declared.call.Refused.TheVariants.{Memory}
use Rattle.loglet_api.specs.Step.{bumped}

-- Whether a server is up; which of the next writes of its disk stops inside itself, counted from 1 (0 for none, and where
-- it is down); the word by which its disk was reopened last, and how often that failed; and how many stops and restarts of
-- it were asked for.
pub record ServerState : Type 0 where
  pub up : Bool
  pub armed : ℕ
  pub word : ℕ
  pub faults : ℕ
  pub stops : ℕ
  pub restarts : ℕ

-- the servers by number; the word that the last carry or stray was given; and how many carries and strays there were
pub record ServersView : Type 0 where
  pub states : List ServerState
  pub told : ℕ
  pub carries : ℕ
  pub strays : ℕ

-- how many are down
abbrev pub downs_of : List ServerState → ℕ
downs_of [] = 0
downs_of (s ∷ ss) = (if s.up then 0 else 1) + downs_of ss

-- a server that was up went down: its disk counted a fault
pub record GoesDown (old new : ServerState) : Type 0 where
  pub was : old.up ≡ true
  pub is : new ≡ record old { up = false; armed = 0; faults = bumped old.faults }

-- one that is up wrote; a carry of a loglet of one server writes a record for each entry that isn't stored yet. The armed write wasn't among them.
pub record Writes (old new : ServerState) : Type 0 where
  pub up : old.up ≡ true
  pub is : new ≡ record old { armed = new.armed }
  pub fewer : new.armed ≤ old.armed
  pub still : nat_lt 0 new.armed ≡ nat_lt 0 old.armed

-- some writes were taken, not the armed one, before memory was wanting for the next
pub record TakesSome (old new : ServerState) : Type 0 where
  pub is : new ≡ record old { armed = new.armed }
  pub fewer : new.armed ≤ old.armed
  pub still : nat_lt 0 new.armed ≡ nat_lt 0 old.armed

-- so of each
abbrev pub TakeSome : List ServerState → List ServerState → Type 0
TakeSome [] [] = Unit {0}
TakeSome (s ∷ ss) (t ∷ ts) = TakesSome s t × TakeSome ss ts
TakeSome [] (t ∷ ts) = ⊥
TakeSome (s ∷ ss) [] = ⊥

-- it is as it was, wrote, or went down
abbrev pub Wears : ServerState → ServerState → Type 0
Wears s t = (t ≡ s) ⊎ (Writes s t ⊎ GoesDown s t)

-- so is each
abbrev pub Wear : List ServerState → List ServerState → Type 0
Wear [] [] = Unit {0}
Wear (s ∷ ss) (t ∷ ts) = Wears s t × Wear ss ts
Wear [] (t ∷ ts) = ⊥
Wear (s ∷ ss) [] = ⊥

-- the server of this number changes so, and no other
abbrev pub ChangesAt : (ServerState → ServerState → Type 0) → ℕ → List ServerState → List ServerState → Type 0
ChangesAt R i [] ts = ⊥
ChangesAt R i (s ∷ ss) [] = ⊥
ChangesAt R zero (s ∷ ss) (t ∷ ts) = R s t × (ts ≡ ss)
ChangesAt R (suc i) (s ∷ ss) (t ∷ ts) = (t ≡ s) × ChangesAt R i ss ts

-- one that is up is armed with the count; at one that is down the stop is counted, and nothing else
abbrev pub IsArmed : ℕ → ServerState → ServerState → Type 0
IsArmed after s t = t ≡ record s { armed = if s.up then after else 0; stops = bumped s.stops }

-- a disk that was to be reopened by this word was, or refused
abbrev pub Tries : ℕ → ServerState → ServerState → Type 0
Tries word s t = (t.word ≡ word) ⊎ (t.word ≡ s.word)

-- It is up now, and where it was down its disk was reopened by the word; or it is down still, and its disk counted a fault.
abbrev pub RestartsTo : ℕ → Bool → ServerState → ServerState → Type 0
RestartsTo word true s t = t ≡ record s { up = true; word = if s.up then s.word else word; restarts = bumped s.restarts }
RestartsTo word false s t = (s.up ≡ false) × Tries word s t × (t ≡ record s { word = t.word; faults = bumped s.faults; restarts = bumped s.restarts })

-- without memory it is down still, if its disk was reopened
abbrev pub MayReopen : ℕ → ServerState → ServerState → Type 0
MayReopen word s t = (t ≡ s) ⊎ ((s.up ≡ false) × (t ≡ record s { word = word }))

-- What a call with its answer does to the servers. No other call does anything, nor one that is refused, but for writes
-- that were taken before memory was wanting, and the word of a disk that was reopened before.
abbrev pub Serves : ServersView → LogletCall → LogletAnswer → ServersView → Type 0
Serves old (Carry t word) Carried new = Wear old.states new.states × (new ≡ record old { states = new.states; told = word; carries = bumped old.carries })
Serves old (Stray word) Strayed new = Wear old.states new.states × (new ≡ record old { states = new.states; told = word; strays = bumped old.strays })
Serves old (Carry t word) (Refusal Memory) new = TakeSome old.states new.states × (new ≡ record old { states = new.states })
Serves old (Stray word) (Refusal Memory) new = TakeSome old.states new.states × (new ≡ record old { states = new.states })
Serves old (Stop server after) Stopped new = ChangesAt (IsArmed after) server old.states new.states × (new ≡ record old { states = new.states })
Serves old (Restart server word) (Restarted up) new = ChangesAt (RestartsTo word up) server old.states new.states × (new ≡ record old { states = new.states })
Serves old (Restart server word) (Refusal Memory) new = ChangesAt (MayReopen word) server old.states new.states × (new ≡ record old { states = new.states })
Serves old call answer new = new ≡ old

-- .. and what several do, one after another
abbrev pub ServesAll : ServersView → List (LogletCall × LogletAnswer) → ServersView → Type 0
ServesAll old [] new = new ≡ old
ServesAll old (step ∷ steps) new = (mid : ServersView) × Serves old step.0 step.1 mid × ServesAll mid steps new
