-- Copies of messages: which is kept, and what one does that comes again.
use Rattle.std.specs.Prelude.{◌≡◌, ℕ, ◌^◌, ◌<◌, ◌≤◌, ◌++◌, Bool, true, false, ◌&&◌, if◌then◌else◌, nat_lt, List, [], ◌∷◌, get_or, set, slice_get, option_map, length, Option, Some, None, ⊤}
use Rattle.delos_types.specs.declared.entry.Entry.{Entry}
use Rattle.delos_types.specs.Spelling.{IsSpellable}
use Rattle.fate_words.specs.declared.fates.Fate.{Fate}
use Rattle.fate_words.specs.declared.fates.Fate.TheVariants.{DeliverAndKeep}
use Rattle.fate_words.specs.Words.{fate_of}
use Rattle.native_bag.specs.Bags.{most_strays}
use Rattle.quorum_cell.specs.declared.message.Ask.{Ask}
use Rattle.quorum_cell.specs.declared.message.Ask.TheVariants as ask
use Rattle.quorum_cell.specs.declared.message.Told.{Told}
use Rattle.quorum_cell.specs.declared.operation.Outcome.{Outcome}
use Rattle.log_server.specs.View.{View}
use Rattle.log_server.specs.Answers.{Answers as ServerAnswers}
use Rattle.native_plan.specs.declared.pending.Pending.{Pending}
use Rattle.native_plan.specs.declared.message.Errand.{Errand}
use Rattle.native_plan.specs.declared.message.Message.{Message}
use Rattle.native_plan.specs.declared.message.Message.TheVariants.{Asked, Told as Answered}
use Rattle.native_plan.specs.declared.message.Phase.{Phase}
use Rattle.native_plan.specs.declared.message.Phase.TheVariants.{Reading}
use Rattle.native_plan.specs.Members.{no_member, due_of}
use Rattle.native_plan.specs.Strays.{errand_in, is_asked, HearsAgain}
use Rattle.native_ties.specs.Parts.{asked_by}
use Rattle.native_loglet.specs.declared.mail.Mail.{Mail}
use Rattle.native_loglet.specs.declared.mail.Mail.TheVariants as mail
use Rattle.native_loglet.specs.Natives.{Native, PendingList, look_in}
use Rattle.native_loglet.specs.Moving.{FailsAs, picked_by}

---- which is kept

-- a copy of the message that operation t has on its way to or from server i: a request with what its server is asked as it comes
abbrev pub mail_of : List Entry → ℕ → ℕ → ℕ → Option Message → Option Mail
mail_of entries cut t i None = None
mail_of entries cut t i (Some (Asked e)) = option_map (λ a. mail.Asked t i a) (asked_by entries cut (due_of cut e))
mail_of entries cut t i (Some (Answered e told)) = Some (mail.Told t i e told)

abbrev pub is_kept : Fate → Bool
is_kept DeliverAndKeep = true
is_kept fate = false

-- by this fate one is kept, where there is room, and by no other
abbrev pub kept_by : Fate → Bool → Option Mail → Option Mail
kept_by fate room copy = if is_kept fate && room then copy else None

-- the copy that stays behind of the message that the word moves, where so many are kept
abbrev pub copy_of : List Entry → ℕ → ℕ → ℕ → ℕ → Option Pending → Option Mail
copy_of entries cut t word kept None = None
copy_of entries cut t word kept (Some p) = kept_by (fate_of word) (nat_lt kept most_strays) (mail_of entries cut t (picked_by word p) (get_or p.members.items (picked_by word p) no_member).message)

-- the copy that a carry of operation t keeps
abbrev pub copy_in : Native → ℕ → ℕ → Option Mail
copy_in a t word = copy_of a.entries a.marks.cut t word (length a.strays) (look_in a.pending t)

-- it is the last of those that are kept then
abbrev pub kept_after : Option Mail → List Mail → List Mail
kept_after None strays = strays
kept_after (Some copy) strays = strays ++ copy ∷ []

---- what one does that comes again

-- an operation that is open and undecided hears the servers that it asks, and no other operation hears any
abbrev pub hears_in : Option Outcome → Phase → ℕ → Bool
hears_in None phase i = is_asked phase i
hears_in (Some a) phase i = false

abbrev pub hears_of : Option Pending → ℕ → Bool
hears_of None i = false
hears_of (Some p) i = hears_in p.outcome p.phase i

-- an operation that is undecided hears an answer of server i to this errand, and one that is decided stays
abbrev pub HearsOpen : Option Outcome → ℕ → ℕ → Errand → Told → Pending → Option Pending → Type 0
HearsOpen None cut i e z p now = (q : Pending) × (now ≡ Some q) × HearsAgain cut i e z p q
HearsOpen (Some a) cut i e z p now = now ≡ Some p

abbrev pub HearsIn : ℕ → ℕ → Errand → Told → Option Pending → Option Pending → Type 0
HearsIn cut i e z None now = now ≡ None
HearsIn cut i e z (Some p) now = HearsOpen p.outcome cut i e z p now

-- an answer of server i comes to operation t, and to no other
pub record HearsAt (cut t i : ℕ) (e : Errand) (z : Told) (old new : PendingList) : Type 0 where
  pub hears : HearsIn cut i e z (look_in old t) (look_in new t)
  pub others : (q : ℕ) → (q ≡ t → ⊥) → look_in new q ≡ look_in old q

-- a copy of a request comes to server i, which answers, or whose disk fails; and the answer comes to the operation
pub record AsksAgain (cut t i : ℕ) (a : Ask) (old new : PendingList) (before after : List View) (failed : Bool) : Type 0 where
  pub told : Told
  pub was : View
  pub is : View
  pub there : slice_get before i ≡ Some was
  pub answers : ServerAnswers was a told is
  pub servers : after ≡ set before i is
  pub fault : FailsAs told failed
  pub hears : HearsAt cut t i (errand_in a) told old new

-- nothing but an operation changes
pub record TellsAgain (cut t i : ℕ) (e : Errand) (z : Told) (old new : PendingList) (before after : List View) (failed : Bool) : Type 0 where
  pub hears : HearsAt cut t i e z old new
  pub servers : after ≡ before
  pub fault : failed ≡ false

-- nothing comes
pub record Rests (old new : PendingList) (before after : List View) (failed : Bool) : Type 0 where
  pub pending : (t : ℕ) → look_in new t ≡ look_in old t
  pub servers : after ≡ before
  pub fault : failed ≡ false

-- this copy comes again, where there is one
abbrev pub ComesAgain : ℕ → Option Mail → PendingList → PendingList → List View → List View → Bool → Type 0
ComesAgain cut None old new before after failed = Rests old new before after failed
ComesAgain cut (Some (mail.Asked t i a)) old new before after failed = AsksAgain cut t i a old new before after failed
ComesAgain cut (Some (mail.Told t i e z)) old new before after failed = TellsAgain cut t i e z old new before after failed

---- what may come again

-- what a server may be asked
abbrev pub CanAsk : Ask → Type 0
CanAsk (ask.Store p e) = (p < 2 ^ 32) × IsSpellable e
CanAsk (ask.Repair p e) = (p < 2 ^ 32) × IsSpellable e
CanAsk (ask.Trim n) = n ≤ 2 ^ 32
CanAsk a = ⊤

-- a copy is to or from one of n servers
abbrev pub CanCome : ℕ → Mail → Type 0
CanCome n (mail.Asked t i a) = (i < n) × CanAsk a
CanCome n (mail.Told t i e z) = i < n

-- an operation that hears of n servers
pub record CanHear (n : ℕ) (p : Pending) : Type 0 where
  pub members : length p.members.items ≡ n
  pub few : n ≤ 7
  pub turns : (j : ℕ) → p.phase ≡ Reading j → j < 2 ^ 32
