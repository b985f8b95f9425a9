-- An open operation as a part of its quorum cell.
use Rattle.std.specs.Prelude.{◌≡◌, ℕ, ◌-◌, ◌<◌, ◌≤◌, ◌*◌, ◌^◌, ◌⊎◌, true, false, not, List, length, get_or, set, drop, slice_get, nat_lt, if◌then◌else◌, Option, Some, None, All, [], ◌∷◌, ⊤, option_map}
use Rattle.delos_types.specs.declared.entry.Entry.{Entry}
use Rattle.loglet_api.specs.Step.{task_of}
use Rattle.quorum_cell.specs.declared.message.Ask.{Ask}
use Rattle.quorum_cell.specs.declared.message.Ask.TheVariants as ask
use Rattle.quorum_cell.specs.declared.message.Request.{Request}
use Rattle.quorum_cell.specs.declared.message.Reply.{Reply}
use Rattle.quorum_cell.specs.declared.message.Told.{Told}
use Rattle.quorum_cell.specs.declared.message.Told.TheVariants.{Trimmed}
use Rattle.quorum_cell.specs.declared.operation.Loss.{Loss}
use Rattle.quorum_cell.specs.declared.operation.Aim.{Aim}
use Rattle.quorum_cell.specs.declared.operation.Aim.TheVariants.{Read as AimRead}
use Rattle.quorum_cell.specs.declared.operation.Outcome.TheVariants.{Found}
use Rattle.quorum_cell.specs.declared.operation.CellStep.{CellStep}
use Rattle.quorum_cell.specs.Steps.{run_cell, ask_for, wanted}
use Rattle.cell_views.specs.Views.{IsStray}
use Rattle.majority_rule.specs.Majority.{is_majority, votes_below}
use Rattle.quorum_cell.specs.Servers.{Server, length_of, is_sealed}
use Rattle.quorum_cell.specs.Cells.{Cell, Operation, operation, server, server_before, is_shut, down}
use Rattle.quorum_cell.specs.Tallies.{tries_lost}
use Rattle.cell_views.specs.Views.{counted, op_of}
use Rattle.native_plan.specs.declared.member.Member.{Member}
use Rattle.native_plan.specs.declared.pending.Pending.{Pending}
use Rattle.native_plan.specs.declared.pending.Start.{Start}
use Rattle.quorum_cell.specs.declared.operation.Wish.{Wish}
use Rattle.quorum_cell.specs.declared.operation.Wish.TheVariants as wish
use Rattle.native_plan.specs.declared.message.Errand.{Errand}
use Rattle.native_plan.specs.declared.message.Errand.TheVariants.{Store, Seal, Tail, Repair, Read, Trim}
use Rattle.native_plan.specs.declared.message.Message.{Message}
use Rattle.native_plan.specs.declared.message.Message.TheVariants.{Asked, Told as Answered}
use Rattle.native_plan.specs.declared.message.Phase.TheVariants.{Trimming}
use Rattle.native_plan.specs.declared.aims.Aims.{Aims}
use Rattle.native_plan.specs.Members.{no_member, new_member, most_tries}
use Rattle.native_plan.specs.Plans.{is_done, goal_of}
use Rattle.native_plan.specs.Pendings.{aims_of, plan_left}
use Rattle.native_plan.specs.Course.{IsOnCourse, IsPlanned, IsAskOf, ToldWell}

-- a message of operation t to server i, of which so many tries were lost
pub record LostSo (c : Cell) (o : Operation) (t i losses : ℕ) : Type 0 where
  pub message : ℕ
  pub request : Request
  pub is : slice_get c.requests message ≡ Some request
  pub ticket : request.ticket ≡ t
  pub to_server : request.server ≡ i
  pub tries : tries_lost o message ≡ losses

-- none was lost, or so many
abbrev pub IsPooled : Cell → Operation → ℕ → ℕ → ℕ → Type 0
IsPooled c o t i losses = (losses ≡ 0) ⊎ LostSo c o t i losses

-- server i sent operation t this answer to this errand
pub record HasReply (c : Cell) (t i : ℕ) (e : Errand) (told : Told) : Type 0 where
  pub number : ℕ
  pub reply : Reply
  pub is : slice_get c.replies number ≡ Some reply
  pub ticket : reply.ticket ≡ t
  pub of_server : reply.server ≡ i
  pub told_is : reply.told ≡ told
  pub asked : IsAskOf e reply.ask
  pub let_go : (n : ℕ) → told ≡ Trimmed n → n ≤ length_of (server c i)

-- the message that the member has is one that is wanted
pub record OnItsWay (c : Cell) (o : Operation) (t i : ℕ) (aims : Aims) (m : Member) (e : Errand) : Type 0 where
  pub planned : IsPlanned aims.phase c.cut aims.want aims.place m e
  pub unmet : is_done aims.phase aims.want i m ≡ false
  pub few : m.losses < most_tries
  pub pooled : IsPooled c o t i m.losses

pub record ToldSo (c : Cell) (o : Operation) (t i : ℕ) (aims : Aims) (m : Member) (e : Errand) (told : Told) : Type 0 where
  pub way : OnItsWay c o t i aims m e
  pub reply : HasReply c t i e told
  pub well : ToldWell (server_before o i) c.cut aims.phase aims.want m e told

abbrev pub IsCarried : Cell → Operation → ℕ → ℕ → Aims → Member → Option Message → Type 0
IsCarried c o t i aims m None = is_done aims.phase aims.want i m ≡ true
IsCarried c o t i aims m (Some (Asked e)) = OnItsWay c o t i aims m e
IsCarried c o t i aims m (Some (Answered e told)) = ToldSo c o t i aims m e told

-- each try that was lost is of a message to its server
abbrev pub NamesRequest : Cell → Loss → Type 0
NamesRequest c l = (q : Request) × (slice_get c.requests l.message ≡ Some q) × (q.server ≡ l.server)

-- an operation that goes on
pub record Goes (c : Cell) (t : ℕ) (p : Pending) : Type 0 where
  pub course : IsOnCourse c (operation c t) (aims_of c.cut p) p.members.items
  pub carried : (i : ℕ) → i < length c.servers → IsCarried c (operation c t) t i (aims_of c.cut p) (get_or p.members.items i no_member) (get_or p.members.items i no_member).message
  pub losses : All (NamesRequest c) (operation c t).lost
  pub ungot : p.got ≡ None
  -- a Trim lets go of no more than the loglet does
  pub trimming : p.phase ≡ Trimming → p.want ≤ c.cut
  pub wanted : ((i : ℕ) → i < length p.members.items → is_done p.phase p.want i (get_or p.members.items i no_member) ≡ true) → ⊥

-- the entry that a Read found
pub record HasFound (c : Cell) (t : ℕ) (p : Pending) : Type 0 where
  pub entry : Entry
  pub got : p.got ≡ Some entry
  pub is : (q : ℕ) → (operation c t).aim ≡ AimRead q → slice_get c.entries q ≡ Some entry

-- what an open operation shows is what its cell has of it
pub record Shows (c : Cell) (t : ℕ) (p : Pending) : Type 0 where
  pub is_open : (operation c t).closed ≡ false
  pub task : task_of (op_of (operation c t).aim) ≡ p.task
  pub size : (operation c t).size_before ≡ p.size
  pub reach : (operation c t).reach_before ≡ p.reach
  pub firm : (operation c t).firm_before ≡ p.firm
  pub shut : is_majority (length c.servers) (λ i. is_sealed (server_before (operation c t) i)) ≡ p.shut
  pub faults : counted (operation c t).faults_before ≡ p.faults
  pub down : votes_below (length c.servers) (λ i. not (server_before (operation c t) i).up) ≡ p.down

-- an open operation, decided or not
pub record IsPartOf (c : Cell) (t : ℕ) (p : Pending) : Type 0 where
  pub shows : Shows c t p
  pub outcome : (operation c t).decided ≡ p.outcome
  pub goes : p.outcome ≡ None → Goes c t p
  pub found : p.outcome ≡ Some Found → HasFound c t p

-- what is noted as an operation begins is what holds of its cell
pub record StartsIn (c : Cell) (aim : Aim) (start : Start) : Type 0 where
  pub size : start.size ≡ length c.entries
  pub reach : start.reach ≡ c.reach
  pub firm : start.firm ≡ c.firm
  pub shut : start.shut ≡ is_shut c
  pub faults : start.faults ≡ counted (length c.faults)
  pub down : start.down ≡ down c
  pub want : start.want ≡ wanted c aim

-- of each server nothing is known but a length that it has
pub record AreKnown (c : Cell) (known : List Member) : Type 0 where
  pub all : length known ≡ length c.servers
  pub each : (i : ℕ) → i < length c.servers → (at : ℕ) × (get_or known i no_member ≡ new_member at) × (at ≤ length_of (server c i))

-- every message ever sent is there still
pub record Extends (c d : Cell) : Type 0 where
  pub requests : (k : ℕ) (q : Request) → slice_get c.requests k ≡ Some q → slice_get d.requests k ≡ Some q
  pub replies : (k : ℕ) (r : Reply) → slice_get c.replies k ≡ Some r → slice_get d.replies k ≡ Some r

-- what an operation wishes to send for an errand
abbrev pub wish_of : Errand → Wish
wish_of (Store p) = wish.Store p
wish_of Seal = wish.Seal
wish_of Tail = wish.Tail
wish_of (Repair p) = wish.Repair p
wish_of (Read p) = wish.Read
wish_of Trim = wish.Trim

-- the entry at a position, where these are kept from the cut on
abbrev pub entry_at : ℕ → List Entry → ℕ → Option Entry
entry_at cut kept p = if nat_lt p cut then None else slice_get kept (p - cut)

-- what a server is asked for an errand, where these entries are kept from the cut on
abbrev pub asked_by : List Entry → ℕ → Errand → Option Ask
asked_by kept cut (Store p) = option_map (λ e. ask.Store p e) (entry_at cut kept p)
asked_by kept cut Seal = Some ask.Seal
asked_by kept cut Tail = Some ask.Tail
asked_by kept cut (Repair p) = option_map (λ e. ask.Repair p e) (entry_at cut kept p)
asked_by kept cut (Read p) = Some (ask.Read p)
asked_by kept cut Trim = Some (ask.Trim cut)

-- the operation may send what its errand says, with an entry that isn't below the cut
pub record IsAllowed (c : Cell) (t : ℕ) (e : Errand) : Type 0 where
  pub ask : Ask
  pub is : asked_by (drop c.cut c.entries) c.cut e ≡ Some ask
  pub allowed : ask_for c (operation c t) (wish_of e) ≡ Some ask

-- something is left to do of an operation on n servers that goes on, and not too much
pub record IsBounded (n : ℕ) (p : Pending) : Type 0 where
  pub goal : goal_of p.phase p.want ≤ 2 ^ 32
  pub some : 0 < (plan_left p).1
  pub first : (plan_left p).0 ≤ 7
  pub second : (plan_left p).1 < 2 ^ 53 * n

-- steps that are nobody's call
abbrev pub AreStrays : List CellStep → Type 0
AreStrays [] = ⊤
AreStrays (step ∷ steps) = IsStray step × AreStrays steps

-- an operation goes on by steps of its cell, which leave the other operations and the servers alone; the faults are these then
pub record GoesBy (c : Cell) (t : ℕ) (faults : List ℕ) (p : Pending) : Type 0 where
  pub steps : List CellStep
  pub strays : AreStrays steps
  pub part : IsPartOf (run_cell steps c) t p
  pub others : (q : ℕ) → (q ≡ t → ⊥) → operation (run_cell steps c) q ≡ operation c q
  pub servers : (run_cell steps c).servers ≡ c.servers
  pub faults_are : (run_cell steps c).faults ≡ faults

-- server i answered the operation by steps of the cell, and is this now; the faults are these
pub record AnswersBy (c : Cell) (t i : ℕ) (s : Server) (faults : List ℕ) (p : Pending) : Type 0 where
  pub steps : List CellStep
  pub strays : AreStrays steps
  pub part : IsPartOf (run_cell steps c) t p
  pub others : (q : ℕ) → operation (run_cell steps c) q ≡ operation c q
  pub servers : (run_cell steps c).servers ≡ set c.servers i s
  pub faults_are : (run_cell steps c).faults ≡ faults
