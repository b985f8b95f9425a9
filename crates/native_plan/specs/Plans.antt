-- What an operation sends, and what it comes to.
use Rattle.std.specs.Prelude.{◌≡◌, ℕ, ◌<◌, ◌+◌, ◌-◌, max, Bool, true, false, not, ◌&&◌, ◌||◌, ◌==◌, nat_le, nat_lt, if◌then◌else◌, List, [], ◌∷◌, length, count_by, get_or, Some, None}
use Rattle.std.specs.List.{list_any, list_all}
use Rattle.loglet_api.specs.declared.call.Op.{Op}
use Rattle.loglet_api.specs.declared.call.Op.TheVariants as op
use Rattle.loglet_api.specs.declared.call.Task.{Task}
use Rattle.loglet_api.specs.declared.call.Task.TheVariants.{Reading as ReadingTask}
use Rattle.majority_rule.specs.Majority.{majority}
use Rattle.quorum_cell.specs.declared.operation.Outcome.TheVariants.{Reached, OpenTail, SealedTail, Shut, Found, Gone, Beyond, TrimDone, NoQuorum}
use Rattle.native_plan.specs.declared.member.Member.{Member}
use Rattle.native_plan.specs.declared.message.Errand.{Errand}
use Rattle.native_plan.specs.declared.message.Errand.TheVariants.{Store, Seal, Tail, Repair, Read, Trim}
use Rattle.native_plan.specs.declared.message.Phase.{Phase}
use Rattle.native_plan.specs.declared.message.Phase.TheVariants.{Filling, Asking, Opening, Shutting, Sealing, Mending, Reading, Trimming}
use Rattle.native_plan.specs.declared.message.Message.TheVariants.{Asked}
use Rattle.native_plan.specs.declared.judge.Verdict.{Verdict}
use Rattle.native_plan.specs.declared.judge.Verdict.TheVariants.{Done, Go}
use Rattle.native_plan.specs.Members.{no_member, is_out, is_opened, is_opened_to, is_found_sealed, is_mended_to, is_passed, is_unreached, opened_of, sealed_of, due_of}

abbrev pub place_of : Task → ℕ
place_of (ReadingTask p) = p
place_of _ = 0

abbrev pub first_phase : Op → Phase
first_phase (op.Append e) = Filling
first_phase (op.Settle n) = Filling
first_phase op.Tail = Asking
first_phase op.Seal = Shutting
first_phase (op.Read p) = Reading 0
first_phase (op.Trim n) = Trimming

-- the length to which servers are brought
abbrev pub goal_of : Phase → ℕ → ℕ
goal_of Filling want = want
goal_of (Opening t) want = t
goal_of (Mending t) want = t
goal_of _ want = 0

-- below which length servers are brought
abbrev pub end_of : Phase → ℕ → ℕ
end_of Filling want = want + 1
end_of (Opening t) want = t + 1
end_of (Mending t) want = t + 1
end_of _ want = 0

-- how many phases may follow
abbrev pub rank_of : Phase → ℕ
rank_of Filling = 1
rank_of Asking = 3
rank_of (Opening t) = 2
rank_of Shutting = 0
rank_of Sealing = 1
rank_of (Mending t) = 0
rank_of (Reading j) = 7 - j
rank_of Trimming = 0

---- what it sends

-- nothing more is wanted of this server
abbrev pub is_met : Phase → ℕ → ℕ → Member → Bool
is_met Filling want i m = is_found_sealed m || is_opened_to want m
is_met Asking want i m = is_found_sealed m || is_opened m
is_met (Opening t) want i m = is_found_sealed m || is_opened_to t m
is_met Shutting want i m = is_found_sealed m
is_met Sealing want i m = is_found_sealed m
is_met (Mending t) want i m = is_mended_to t m
is_met (Reading j) want i m = not (i == j) || m.passed
is_met Trimming want i m = m.passed

-- nothing is sent to it
abbrev pub is_done : Phase → ℕ → ℕ → Member → Bool
is_done phase want i m = m.unreached || is_met phase want i m

-- to bring a server to this length
abbrev pub fill_of : ℕ → ℕ → ℕ → Errand
fill_of goal cut at = if nat_le goal at then Tail else due_of cut (Store at)

abbrev pub errand_of : Phase → ℕ → ℕ → ℕ → Member → Errand
errand_of Filling cut want place m = fill_of want cut m.at
errand_of Asking cut want place m = Tail
errand_of (Opening t) cut want place m = fill_of t cut m.at
errand_of Shutting cut want place m = Seal
errand_of Sealing cut want place m = Seal
errand_of (Mending t) cut want place m = if is_found_sealed m then due_of cut (Repair m.at) else Seal
errand_of (Reading j) cut want place m = Read place
errand_of Trimming cut want place m = Trim

-- a server is sent what it is to be sent, unless a message that is kept is on its way
abbrev pub sent_on : Bool → Errand → Member → Member
sent_on true e m = record m { losses = 0; message = None }
sent_on false e m = record m { losses = 0; message = Some (Asked e) }

abbrev pub resent : Phase → ℕ → ℕ → ℕ → Bool → ℕ → Member → Member
resent phase cut want place keep i m = if keep && is_out m then m else sent_on (is_done phase want i m) (errand_of phase cut want place m) m

-- and so is each of them
pub record Resends (phase : Phase) (cut want place : ℕ) (keep : Bool) (old new : List Member) : Type 0 where
  pub as_many : length new ≡ length old
  pub each : (i : ℕ) → i < length old → get_or new i no_member ≡ resent phase cut want place keep i (get_or old i no_member)

---- what it comes to

-- more than half of the members pass
abbrev pub many : (Member → Bool) → List Member → Bool
many test ms = nat_le (majority (length ms)) (count_by test ms)

abbrev pub greatest : (Member → ℕ) → List Member → ℕ
greatest f [] = 0
greatest f (m ∷ ms) = max (f m) (greatest f ms)

-- more than half are unreached
abbrev pub lacking : List Member → Verdict → Verdict
lacking ms other = if many is_unreached ms then Done (NoQuorum (count_by is_unreached ms)) else other

abbrev pub is_settled : ℕ → Member → Bool
is_settled want m = m.unreached || (is_found_sealed m || is_opened_to want m)

abbrev pub judged_filling : ℕ → List Member → Verdict
judged_filling want ms = lacking ms (if many (is_opened_to want) ms then Done Reached else (if many is_found_sealed ms then Done Shut else (if list_all (is_settled want) ms then Go Shutting else Go Filling)))

abbrev pub judged_shutting : List Member → Verdict
judged_shutting ms = lacking ms (if many is_found_sealed ms then Done Shut else Go Shutting)

abbrev pub judged_mending : ℕ → List Member → Verdict
judged_mending t ms = lacking ms (if many (is_mended_to t) ms then Done (SealedTail t) else Go (Mending t))

abbrev pub judged_sealing : List Member → Verdict
judged_sealing ms = lacking ms (if many is_found_sealed ms then judged_mending (greatest sealed_of ms) ms else Go Sealing)

abbrev pub judged_opening : ℕ → List Member → Verdict
judged_opening t ms = if list_any is_found_sealed ms then judged_sealing ms else lacking ms (if many (is_opened_to t) ms then Done (OpenTail t) else Go (Opening t))

abbrev pub judged_asking : List Member → Verdict
judged_asking ms = if list_any is_found_sealed ms then judged_sealing ms else lacking ms (if many is_opened ms then judged_opening (greatest opened_of ms) ms else Go Asking)

abbrev pub judged_next : ℕ → List Member → Verdict
judged_next j ms = if nat_lt (j + 1) (length ms) then Go (Reading (j + 1)) else Done (NoQuorum (count_by is_unreached ms))

-- a read of place p asks the servers in turn
abbrev pub judged_reading : ℕ → ℕ → ℕ → ℕ → Bool → List Member → Verdict
judged_reading cut firm p j got ms = if nat_le firm p then Done Beyond else (if nat_lt p cut then Done Gone else (if got then Done Found else lacking ms (if is_met (Reading j) 0 j (get_or ms j no_member) || is_unreached (get_or ms j no_member) then judged_next j ms else Go (Reading j))))

abbrev pub judged_trimming : List Member → Verdict
judged_trimming ms = lacking ms (if many is_passed ms then Done TrimDone else Go Trimming)

abbrev pub judged : Phase → ℕ → ℕ → ℕ → ℕ → Bool → List Member → Verdict
judged Filling want cut firm place got ms = judged_filling want ms
judged Asking want cut firm place got ms = judged_asking ms
judged (Opening t) want cut firm place got ms = judged_opening t ms
judged Shutting want cut firm place got ms = judged_shutting ms
judged Sealing want cut firm place got ms = judged_sealing ms
judged (Mending t) want cut firm place got ms = judged_mending t ms
judged (Reading j) want cut firm place got ms = judged_reading cut firm place j got ms
judged Trimming want cut firm place got ms = judged_trimming ms
