-- The pass of the lock from which the nodes get their parts.
use Rattle.std.specs.Prelude.{◌≡◌, ℕ, suc, List, [], ◌∷◌, length, None}
use Rattle.legal_journal.specs.Law.{Law}
use Rattle.legal_journal.specs.declared.events.Event.{Event}
use Rattle.legal_journal.specs.Journal.{IsLegal}
use Rattle.pass_lock.specs.Journal.{Part, IsKnown, Signed}
use Rattle.pass_lock.specs.Pass.{LockId, Known, numbered, all_parts, brought, first_seen}

-- whose an event is
abbrev pub signer : Event → ℕ
signer e = e.who

-- the journal that was seen with the pass's first part
abbrev pub journal_of : Known Event → List Event
journal_of pass = first_seen pass.parts

-- all parts, with each of which the same journal was seen, and no turn
abbrev pub IsRested : LockId → Known Event → Type 0
IsRested lock pass = pass ≡ record { lock = lock; parts = brought (journal_of pass) (numbered 0 all_parts); made = pass.made; turn = None }

-- parts with which this was seen, numbered from k on
abbrev pub parts_from : ℕ → List (List Event) → List (Part Event)
parts_from k [] = []
parts_from k (seen ∷ seens) = (k, seen) ∷ parts_from (suc k) seens

-- the same parts, with which a legal journal was seen that begins with all that was seen with each of them
pub record HasCaughtUp (law : Law) (old new : Known Event) : Type 0 where
  pub journal : List Event
  pub known : IsKnown signer journal old.parts
  pub is : new ≡ record old { parts = brought journal old.parts; made = new.made }
  pub legal : IsLegal law journal
  pub signed : length old.parts ≡ all_parts → Signed signer old.parts journal
