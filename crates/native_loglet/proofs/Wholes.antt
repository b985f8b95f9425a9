-- Each call of a native loglet, by its fields.
use Rattle.std.proofs.Common.{◌≡◌, ℕ, ◌+◌, ◌-◌, ◌^◌, ◌<◌, Bool, true, false, sym, subst, List, length, get_or, set, Some, min, max}
use Rattle.std.specs.Prelude.{not}
use Rattle.native_loglet.specs.Natives.{UpdatesAt}
use Rattle.delos_types.specs.declared.entry.Entry.{Entry}
use Rattle.loglet_api.specs.declared.call.Answer.{Answer}
use Rattle.loglet_api.specs.declared.call.Op.{Op}
use Rattle.loglet_api.specs.declared.call.Refused.TheVariants.{Full}
use Rattle.loglet_api.specs.declared.call.LogletCall.{LogletCall}
use Rattle.loglet_api.specs.declared.call.LogletCall.TheVariants.{Begin as CallBegin, Carry as CallCarry, Take as CallTake, Restart as CallRestart}
use Rattle.loglet_api.specs.declared.call.LogletAnswer.{LogletAnswer}
use Rattle.loglet_api.specs.declared.call.LogletAnswer.TheVariants.{Begun, Carried, Refusal, Taken, Restarted}
use Rattle.loglet_api.specs.View.{LogletView}
use Rattle.loglet_api.specs.Step.{LogletStep, CanCall, cut_by, seals_of, wanted_by, told_reach, told_firm, told_cap, told_lacks}
use Rattle.quorum_cell.specs.Servers.{restarted}
use Rattle.log_server.specs.View.{View}
use Rattle.native_plan.specs.declared.pending.Pending.{Pending}
use Rattle.native_loglet.specs.declared.marks.Marks.{Marks}
use Rattle.native_loglet.specs.declared.closing.Decided.{Decided}
use Rattle.native_loglet.specs.Faults.{faults_after}
use Rattle.native_loglet.specs.Natives.{Native, PendingList, look_in, loglet_of}
use Rattle.native_loglet.specs.Moving.{BeginsOn, CarriesAt}
use Rattle.native_loglet.specs.declared.mail.Mail.{Mail}
use Rattle.native_loglet.specs.Copies.{copy_in, kept_after}
use Rattle.native_loglet.specs.Closing.{TakesOut, answer_for}
use Rattle.native_loglet.proofs.Alike.{IsOwned}
use Rattle.native_loglet.proofs.Restarting.{restarts_owned}
use Rattle.native_loglet.proofs.Messages.{carries_owned}
use Rattle.native_loglet.proofs.Taking.{takes_owned}
use Rattle.native_loglet.proofs.Beginning.{IsFullFor, start_of, refuses_owned, begins_owned, begun_entries}

-- a loglet is owned, and a call led to it
abbrev pub LedTo : LogletView → LogletCall → LogletAnswer → Native → Type 0
LedTo v call answer b = IsOwned b × LogletStep v call answer (loglet_of b)

pub takes_whole : (a : Native) (n : PendingList) (marks : Marks) (v : LogletView) (t : ℕ) (d : Decided) (y : Answer) (size : ℕ) → loglet_of a ≡ v → IsOwned a → CanCall v (CallTake t) → TakesOut a.pending t d n → Some y ≡ answer_for a.marks.cut d → size ≡ wanted_by d.task d.size
    → marks ≡ record a.marks { reach = max a.marks.reach (told_reach size y); firm = max a.marks.firm (told_firm size y); cap = told_cap y a.marks.cap; lacks = a.marks.lacks + told_lacks y } → LedTo v (CallTake t) (Taken (Some y)) (record a { pending = n; marks = marks })
takes_whole a n marks v t d y size e h can o answers sized is = subst (λ (x : Marks). LedTo v (CallTake t) (Taken (Some y)) (record a { pending = n; marks = x })) (sym is) (takes_owned a n v t d y size e h can o answers sized)

pub carries_whole : (a : Native) (ws : List View) (n : PendingList) (ms : List Mail) (marks : Marks) (v : LogletView) (t word : ℕ) (failed : Bool) → loglet_of a ≡ v → IsOwned a → CanCall v (CallCarry t word)
    → ((p : Pending) → look_in a.pending t ≡ Some p → CarriesAt a.entries a.marks.cut t word p a.pending n a.replicas ws failed) → ms ≡ kept_after (copy_in a t word) a.strays → marks ≡ record a.marks { faults = faults_after failed a.marks.faults }
    → LedTo v (CallCarry t word) Carried (record a { replicas = ws; pending = n; strays = ms; marks = marks })
carries_whole a ws n ms marks v t word failed e h can moved kept is = subst (λ (x : Marks). LedTo v (CallCarry t word) Carried (record a { replicas = ws; pending = n; strays = ms; marks = x })) (sym is) (carries_owned a ws n ms v t word failed e h can moved kept)

pub restarts_whole : (a : Native) (marks : Marks) (v : LogletView) (i word : ℕ) (was is : View) (up : Bool) → loglet_of a ≡ v → IsOwned a → i < length a.replicas → was ≡ get_or a.replicas i was
    → (was.server.up ≡ true → (up ≡ true) × (is.server ≡ was.server)) → (up ≡ true → (kept : Bool) × (is.server ≡ restarted was.server kept was.server.torn)) → (up ≡ false → is.server ≡ was.server)
    → marks ≡ record a.marks { faults = faults_after (not up) a.marks.faults } → LedTo v (CallRestart i word) (Restarted up) (record a { replicas = set a.replicas i is; marks = marks })
restarts_whole a marks v i word was is up e h here there calm rose failed m = subst (λ (x : Marks). LedTo v (CallRestart i word) (Restarted up) (record a { replicas = set a.replicas i is; marks = x })) (sym m) (restarts_owned a v i word was is up e h here there calm rose failed)

pub refuses_whole : (a : Native) (marks : Marks) (v : LogletView) (op : Op) → loglet_of a ≡ v → IsOwned a → CanCall v (CallBegin op) → IsFullFor a op → marks ≡ record a.marks { faults = min (a.marks.faults + 1) (2 ^ 64 - 1) } → LedTo v (CallBegin op) (Refusal Full) (record a { marks = marks })
refuses_whole a marks v op e h can full is = subst (λ (x : Marks). LedTo v (CallBegin op) (Refusal Full) (record a { marks = x })) (sym is) (refuses_owned a v op e h can full)

pub begins_whole : (a : Native) (es : List Entry) (marks : Marks) (v : LogletView) (op : Op) (p : Pending) (n : PendingList) → loglet_of a ≡ v → IsOwned a → CanCall v (CallBegin op) → (IsFullFor a op → ⊥) → BeginsOn a.replicas op (start_of a op) (cut_by op a.marks.cut a.marks.reach) p
    → UpdatesAt a.pending n a.marks.begun (Some p) → es ≡ begun_entries a op → marks ≡ record a.marks { cut = cut_by op a.marks.cut a.marks.reach; begun = a.marks.begun + 1; seals = a.marks.seals + seals_of op }
    → LedTo v (CallBegin op) (Begun a.marks.begun) (record a { entries = es; pending = n; marks = marks })
begins_whole a es marks v op p n e h can space b u entries is =
    subst (λ (xs : List Entry). LedTo v (CallBegin op) (Begun a.marks.begun) (record a { entries = xs; pending = n; marks = marks })) (sym entries)
    (subst (λ (x : Marks). LedTo v (CallBegin op) (Begun a.marks.begun) (record a { entries = begun_entries a op; pending = n; marks = x })) (sym is) (begins_owned a v op p n e h can space b u))
