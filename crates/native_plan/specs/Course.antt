-- What an operation knows, beside the quorum cell that it is a part of.
use Rattle.std.specs.Prelude.{◌≡◌, ℕ, ◌+◌, ◌*◌, ◌<◌, ◌≤◌, ◌⊎◌, Bool, true, false, ◌||◌, nat_le, List, [], ◌∷◌, ◌++◌, length, get_or, Some, None, is_some, ⊤}
use Rattle.std.specs.List.{list_any}
use Rattle.quorum_cell.specs.declared.operation.Aim.{Aim}
use Rattle.quorum_cell.specs.declared.operation.Aim.TheVariants.{Append as AimAppend, Settle as AimSettle, Tail as AimTail, Seal as AimSeal, Read as AimRead, Trim as AimTrim}
use Rattle.quorum_cell.specs.declared.operation.Outcome.TheVariants.{Found}
use Rattle.majority_rule.specs.Majority.{is_majority}
use Rattle.quorum_cell.specs.Servers.{Server, length_of}
use Rattle.quorum_cell.specs.Cells.{Cell, Operation, server, server_before, is_seal}
use Rattle.quorum_cell.specs.Tallies.{heard_from, open_at, open_within as open_up_to, sealed_at, sealed_within as sealed_up_to, mended_to, trimmed_to, says_sealed, open_told, mended_told, unreached, may_decide}
use Rattle.quorum_cell.specs.declared.message.Ask.{Ask}
use Rattle.quorum_cell.specs.declared.message.Ask.TheVariants as ask
use Rattle.quorum_cell.specs.declared.message.Told.{Told}
use Rattle.quorum_cell.specs.declared.message.Told.TheVariants.{Down, DiskFault, Sealed, Unsealed, Ack, Got, Short, Cut, Trimmed}
use Rattle.quorum_cell.specs.declared.message.Reply.{Reply}
use Rattle.native_plan.specs.declared.message.Errand.{Errand}
use Rattle.native_plan.specs.declared.message.Errand.TheVariants.{Store, Seal, Tail, Repair, Read, Trim}
use Rattle.native_plan.specs.declared.member.Member.{Member}
use Rattle.native_plan.specs.declared.aims.Aims.{Aims}
use Rattle.native_plan.specs.declared.message.Phase.{Phase}
use Rattle.native_plan.specs.declared.message.Phase.TheVariants.{Filling, Asking, Opening, Shutting, Sealing, Mending, Reading, Trimming}
use Rattle.native_plan.specs.declared.judge.Verdict.{Verdict}
use Rattle.native_plan.specs.declared.judge.Verdict.TheVariants.{Done, Go}
use Rattle.native_plan.specs.Members.{no_member}
use Rattle.native_plan.specs.Plans.{is_done, rank_of}

-- what it knows of server i was told to it
pub record Knows (s : Server) (o : Operation) (i : ℕ) (m : Member) : Type 0 where
  pub opened : (k : ℕ) → m.opened ≡ Some k → heard_from (open_at k) o i ≡ true
  pub sealed : (k : ℕ) → m.sealed ≡ Some k → heard_from (sealed_at k) o i ≡ true
  pub mended : (k : ℕ) → m.sealed ≡ Some k → heard_from (mended_to m.at) o i ≡ true
  pub opened_within : (k : ℕ) → m.opened ≡ Some k → k ≤ m.at
  pub sealed_within : (k : ℕ) → m.sealed ≡ Some k → k ≤ m.at
  pub trimmed : (n : ℕ) → o.aim ≡ AimTrim n → m.passed ≡ true → heard_from (trimmed_to o.want) o i ≡ true
  pub missed : (p : ℕ) → o.aim ≡ AimRead p → m.passed ≡ true → length_of (server_before o i) ≤ p
  pub untrimmed : (n : ℕ) → o.aim ≡ AimTrim n → m.sealed ≡ None
  -- it gives up just those that the rule gives up
  pub unreached_is : unreached o i ≡ m.unreached
  -- the server is at least this long
  pub long : m.at ≤ length_of s

-- the operations that bring servers to their length, and those that end where servers are sealed
abbrev pub Fills : Aim → Type 0
Fills (AimAppend e) = ⊤
Fills (AimSettle n) = ⊤
Fills _ = ⊥

abbrev pub Shuts : Aim → Type 0
Shuts (AimAppend e) = ⊤
Shuts (AimSettle n) = ⊤
Shuts AimSeal = ⊤
Shuts _ = ⊥

-- the phases of each kind of operation
abbrev pub AimsAt : ℕ → Aim → Phase → Type 0
AimsAt place aim Filling = Fills aim
AimsAt place aim Asking = aim ≡ AimTail
AimsAt place aim (Opening t) = aim ≡ AimTail
AimsAt place aim Shutting = Shuts aim
AimsAt place aim Sealing = aim ≡ AimTail
AimsAt place aim (Mending t) = aim ≡ AimTail
AimsAt place aim (Reading j) = aim ≡ AimRead place
AimsAt place aim Trimming = (n : ℕ) × (aim ≡ AimTrim n)

-- t is the greatest length that some majority told while open, and entries stand there
pub record IsOpenTail (c : Cell) (o : Operation) (t : ℕ) : Type 0 where
  pub within : is_majority (length c.servers) (heard_from (open_up_to t) o) ≡ true
  pub told : list_any (open_at t) o.heard ≡ true
  pub there : t ≤ length c.entries

-- and while sealed
pub record IsSealedTail (c : Cell) (o : Operation) (t : ℕ) : Type 0 where
  pub within : is_majority (length c.servers) (heard_from (sealed_up_to t) o) ≡ true
  pub told : list_any (sealed_at t) o.heard ≡ true
  pub there : t ≤ length c.entries

-- the servers before this one were asked, those behind it not yet
pub record HaveTurned (ms : List Member) (j : ℕ) : Type 0 where
  pub here : j < length ms
  pub after : (i : ℕ) → j < i → ((get_or ms i no_member).passed || (get_or ms i no_member).unreached) ≡ false
  pub before : (i : ℕ) → i < j → ((get_or ms i no_member).passed || (get_or ms i no_member).unreached) ≡ true

-- what was told before the operation came into the phase
abbrev pub PhaseFits : Cell → Operation → List Member → Phase → Type 0
PhaseFits c o ms (Opening t) = IsOpenTail c o t
PhaseFits c o ms (Mending t) = IsSealedTail c o t
PhaseFits c o ms Sealing = list_any says_sealed o.heard ≡ true
PhaseFits c o ms Shutting = (is_seal o.aim || list_any says_sealed o.heard) ≡ true
PhaseFits c o ms (Reading j) = HaveTurned ms j
PhaseFits c o ms _ = ⊤

-- an open operation that goes on in this phase
pub record IsOnCourse (c : Cell) (o : Operation) (aims : Aims) (ms : List Member) : Type 0 where
  pub odd : (k : ℕ) × (length c.servers ≡ 2 * k + 1)
  pub few : length c.servers ≤ 7
  pub all : length ms ≡ length c.servers
  pub knows : (i : ℕ) → i < length c.servers → Knows (server c i) o i (get_or ms i no_member)
  pub want : o.want ≡ aims.want
  pub cut : aims.cut ≡ c.cut
  pub firm : o.firm_before ≡ aims.firm
  -- as it began more than half had all of which answers had spoken
  pub held : is_majority (length c.servers) (λ i. nat_le o.firm_before (length_of (server_before o i))) ≡ true
  pub want_there : aims.phase ≡ Filling → o.want ≤ length c.entries
  pub aims_at : AimsAt aims.place o.aim aims.phase
  pub phase : PhaseFits c o ms aims.phase

-- it goes on in a phase that follows, and some server is wanted
pub record GoesOn (c : Cell) (o : Operation) (aims : Aims) (ms : List Member) (phase : Phase) : Type 0 where
  pub aims_at : AimsAt aims.place o.aim phase
  pub fits : PhaseFits c o ms phase
  pub nearer : (rank_of phase < rank_of aims.phase) ⊎ (phase ≡ aims.phase)
  pub wanted : ((i : ℕ) → i < length ms → is_done phase aims.want i (get_or ms i no_member) ≡ true) → ⊥

-- the cell allows what the operation comes to, and an entry is found only where one was got
abbrev pub IsAllowed : Cell → Operation → Aims → List Member → Bool → Verdict → Type 0
IsAllowed c o aims ms got (Done a) = (may_decide (length c.servers) c.cut o o.aim a ≡ true) × (a ≡ Found → got ≡ true)
IsAllowed c o aims ms got (Go phase) = GoesOn c o aims ms phase

---- messages on their way

-- the operation with one reply more
abbrev pub with_reply : Operation → Reply → Operation
with_reply o r = record o { heard = o.heard ++ r ∷ [] }

-- what brings a server to this length
abbrev pub FillsTo : ℕ → ℕ → Member → Errand → Type 0
FillsTo goal cut m Tail = goal ≤ m.at
FillsTo goal cut m Trim = (m.at < goal) × (m.at < cut)
FillsTo goal cut m (Store p) = (p ≡ m.at) × (m.at < goal)
FillsTo goal cut m e = ⊥

abbrev pub MendsTo : ℕ → ℕ → Member → Errand → Type 0
MendsTo t cut m Seal = is_some m.sealed ≡ false
MendsTo t cut m Trim = (m.at < t) × (m.at < cut) × (is_some m.sealed ≡ true)
MendsTo t cut m (Repair p) = (p ≡ m.at) × (m.at < t) × (is_some m.sealed ≡ true)
MendsTo t cut m e = ⊥

-- an operation in this phase sends this
abbrev pub IsPlanned : Phase → ℕ → ℕ → ℕ → Member → Errand → Type 0
IsPlanned Filling cut want place m e = FillsTo want cut m e
IsPlanned Asking cut want place m e = e ≡ Tail
IsPlanned (Opening t) cut want place m e = FillsTo t cut m e
IsPlanned Shutting cut want place m e = e ≡ Seal
IsPlanned Sealing cut want place m e = e ≡ Seal
IsPlanned (Mending t) cut want place m e = MendsTo t cut m e
IsPlanned (Reading j) cut want place m e = e ≡ Read place
IsPlanned Trimming cut want place m e = (e ≡ Trim) × (want ≤ cut)

-- the request has this ask
abbrev pub IsAskOf : Errand → Ask → Type 0
IsAskOf (Store p) (ask.Store q x) = p ≡ q
IsAskOf Seal ask.Seal = ⊤
IsAskOf Tail ask.Tail = ⊤
IsAskOf (Repair p) (ask.Repair q x) = p ≡ q
IsAskOf (Read p) (ask.Read q) = p ≡ q
IsAskOf Trim (ask.Trim n) = ⊤
IsAskOf e a = ⊥

-- what only servers are asked that weren't found sealed
abbrev pub IsOpenAsk : Errand → Type 0
IsOpenAsk (Store p) = ⊤
IsOpenAsk Tail = ⊤
IsOpenAsk e = ⊥

-- An answer of server i to this errand came.
pub record Comes (s : Server) (o : Operation) (i : ℕ) (m : Member) (r : Reply) (e : Errand) (told : Told) : Type 0 where
  pub server : r.server ≡ i
  pub told_is : r.told ≡ told
  pub asked : IsAskOf e r.ask
  -- it speaks of no more than the server has
  pub opened : (n : ℕ) → open_told r.ask r.told ≡ Some n → n ≤ length_of s
  pub mended : (n : ℕ) → mended_told r.ask r.told ≡ Some n → n ≤ length_of s
  pub let_go : (n : ℕ) → told ≡ Trimmed n → n ≤ length_of s
  pub unsealed : IsOpenAsk e → m.sealed ≡ None
  -- only a Read reads, and a Trim only trims
  pub reads : (p : ℕ) → o.aim ≡ AimRead p → e ≡ Read p
  pub is_read : (p : ℕ) → e ≡ Read p → o.aim ≡ AimRead p
  pub trims : (n : ℕ) → o.aim ≡ AimTrim n → e ≡ Trim

-- how far a server let go, for a Trim and for others
abbrev pub LetsGo : Phase → ℕ → ℕ → ℕ → Type 0
LetsGo Trimming want at n = want ≤ n
LetsGo phase want at n = at < n

-- an answer of a server that was `before` as the operation began, under this cut
abbrev pub ToldWell : Server → ℕ → Phase → ℕ → Member → Errand → Told → Type 0
ToldWell before cut phase want m e Down = ⊤
ToldWell before cut phase want m e DiskFault = ⊤
ToldWell before cut phase want m (Store p) (Sealed n) = m.at ≤ n
ToldWell before cut phase want m (Store p) (Ack n) = m.at < n
ToldWell before cut phase want m Tail (Sealed n) = m.at ≤ n
ToldWell before cut phase want m Tail (Unsealed n) = m.at ≤ n
ToldWell before cut phase want m Seal (Sealed n) = m.at ≤ n
ToldWell before cut phase want m (Repair p) (Ack n) = m.at < n
ToldWell before cut phase want m (Read p) (Got x) = ⊤
ToldWell before cut phase want m (Read p) (Short n) = length_of before ≤ p
ToldWell before cut phase want m (Read p) (Cut b) = p < cut
ToldWell before cut phase want m Trim (Trimmed n) = LetsGo phase want m.at n
ToldWell before cut phase want m e told = ⊥

-- the answer ends a Read
abbrev pub EndsRead : Errand → Told → Type 0
EndsRead (Read p) (Got x) = ⊤
EndsRead (Read p) (Cut b) = ⊤
EndsRead e told = ⊥
