-- What the calls of a register do.
use Rattle.std.specs.Prelude.{◌≡◌, ◌≢◌, ◌⊎◌, ℕ, ◌+◌, ◌-◌, ◌≤◌, nat_lt, Bool, true, false, if◌then◌else◌, Option, Some, None, Result, Ok, Err}
use Rattle.std.specs.declared.alloc.AllocError.{AllocError}
use Rattle.delos_types.specs.declared.chain.Chain.{Chain}
use Rattle.register_api.specs.declared.answer.ReadAnswer.{ReadAnswer}
use Rattle.register_api.specs.declared.answer.ReadAnswer.TheVariants as read
use Rattle.register_api.specs.declared.answer.WriteAnswer.{WriteAnswer}
use Rattle.register_api.specs.declared.answer.WriteAnswer.TheVariants as write
use Rattle.register_api.specs.View.{RegisterView, bumped}

-- The two writes of a record were taken of the count of an armed disk, with at most four more where it was compacted, and
-- not the last: it is armed where it was.
pub record TakesRecord (old new : ℕ) : Type 0 where
  pub first : old ≢ 1
  pub second : old ≢ 2
  pub taken : new ≤ old - 2
  pub at_most : old ≤ new + 6
  pub still : nat_lt 0 new ≡ nat_lt 0 old

-- at most one was, and not the last
pub record TakesOne (old new : ℕ) : Type 0 where
  pub fewer : new ≤ old
  pub at_most : old ≤ new + 1
  pub still : nat_lt 0 new ≡ nat_lt 0 old

-- the register tells what stands
abbrev pub gives : RegisterView → RegisterView
gives v = record v { given = v.version; given_chain = v.chain }

-- it was down, and that is one fault more
pub record IsDown (old new : RegisterView) : Type 0 where
  pub was : old.down ≡ true
  pub counted : new ≡ record old { faults = bumped old.faults }

pub record GivesNow (old : RegisterView) (version : ℕ) (chain : Chain) (new : RegisterView) : Type 0 where
  pub up : old.down ≡ false
  pub version_is : version ≡ old.version
  pub chain_is : chain ≡ old.chain
  pub told : new ≡ gives old

abbrev pub Reads : RegisterView → Result ReadAnswer AllocError → RegisterView → Type 0
Reads old (Ok (read.At version chain)) new = GivesNow old version chain new
Reads old (Ok read.Down) new = IsDown old new
Reads old (Err e) new = new ≡ old

-- the chain stands under the next version
abbrev pub replaced : RegisterView → Chain → RegisterView
replaced v chain = record v { version = v.version + 1; chain = chain; given = v.version + 1; given_chain = chain }

pub record Replaces (old : RegisterView) (expected : ℕ) (chain : Chain) (version : ℕ) (new : RegisterView) : Type 0 where
  pub up : old.down ≡ false
  pub expected_is : expected ≡ old.version
  pub version_is : version ≡ old.version + 1
  pub stands : new ≡ record (replaced old chain) { armed = new.armed }
  pub writes : TakesRecord old.armed new.armed

-- it failed in the write, and is down
pub record Fails (old : RegisterView) (expected : ℕ) (chain : Chain) (new : RegisterView) : Type 0 where
  pub up : old.down ≡ false
  pub expected_is : expected ≡ old.version
  pub torn : new ≡ record old { asked = Some chain; stands = new.stands; down = true; armed = 0; faults = bumped old.faults }

abbrev pub Writes : RegisterView → ℕ → Chain → Result WriteAnswer AllocError → RegisterView → Type 0
Writes old expected chain (Ok (write.Written version)) new = Replaces old expected chain version new
Writes old expected chain (Ok (write.Conflict version standing)) new = GivesNow old version standing new × (expected ≢ old.version)
Writes old expected chain (Ok write.MetaFault) new = Fails old expected chain new
Writes old expected chain (Ok write.Down) new = IsDown old new
Writes old expected chain (Err e) new = TakesOne old.armed new.armed × (new ≡ record old { armed = new.armed })

-- it is up again, with the write in which it failed or without: with it where its record stands
abbrev pub reopened : RegisterView → Bool → Option Chain → RegisterView
reopened v kept None = record v { asked = None; stands = false; down = false }
reopened v kept (Some chain) =
    let whole = record v { asked = None; stands = false; down = false } in
    if kept then record whole { version = v.version + 1; chain = chain } else whole

-- the disk of one that was down was reopened by this word, or refused
abbrev pub Tries : RegisterView → ℕ → RegisterView → Type 0
Tries old word new = (old.down ≡ true) × ((new.word ≡ word) ⊎ (new.word ≡ old.word))

-- Where it is up nothing is done. Else its disk is reopened by the word, or failed, which counts one fault and one miss.
-- Without memory it stays down, though its disk may have been reopened.
abbrev pub Reopens : RegisterView → ℕ → Result Bool AllocError → RegisterView → Type 0
Reopens old word (Ok true) new = (old.down ≡ false → new ≡ record old { reopenings = bumped old.reopenings })
    × (old.down ≡ true → (kept : Bool) × (old.stands ≡ true → kept ≡ true) × (new ≡ record (reopened old kept old.asked) { word = word; reopenings = bumped old.reopenings }))
Reopens old word (Ok false) new = Tries old word new × (new ≡ record old { faults = bumped old.faults; misses = bumped old.misses; word = new.word; reopenings = bumped old.reopenings })
Reopens old word (Err e) new = (new ≡ old) ⊎ (Tries old word new × (new ≡ record old { word = new.word }))
