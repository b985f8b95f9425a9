-- Each call is a step of the loglet, and steps of each cell that it may be.
use Rattle.std.proofs.Common.{◌≡◌, ℕ, ◌+◌, ◌-◌, ◌^◌, ◌%◌, ◌<◌, Bool, true, false, refl, sym, ap, subst, List, [], ◌∷◌, length, get_or, set, Some, None, min, max}
use Rattle.std.specs.Prelude.{not, slice_get}
use Rattle.native_loglet.specs.Natives.{UpdatesAt}
use Rattle.delos_types.specs.declared.entry.Entry.{Entry}
use Rattle.loglet_api.specs.declared.call.Answer.{Answer}
use Rattle.loglet_api.specs.declared.call.Op.{Op}
use Rattle.loglet_api.specs.declared.call.Refused.TheVariants.{Full}
use Rattle.loglet_api.specs.declared.call.LogletCall.{LogletCall}
use Rattle.loglet_api.specs.declared.call.LogletCall.TheVariants.{Begin as CallBegin, Carry as CallCarry, Take as CallTake, Forget as CallForget, Stray as CallStray, Restart as CallRestart}
use Rattle.loglet_api.specs.declared.call.LogletAnswer.{LogletAnswer}
use Rattle.loglet_api.specs.declared.call.LogletAnswer.TheVariants.{Begun, Carried, Refusal, Taken, Forgotten, Strayed, Restarted}
use Rattle.loglet_api.specs.View.{LogletView}
use Rattle.loglet_api.specs.Step.{CanCall, Does, cut_by, seals_of, wanted_by, told_reach, told_firm, told_cap, told_lacks}
use Rattle.quorum_cell.specs.declared.operation.CellStep.TheVariants.{Forget}
use Rattle.quorum_cell.specs.Servers.{restarted}
use Rattle.quorum_cell.specs.Cells.{Cell}
use Rattle.log_server.specs.View.{View}
use Rattle.native_plan.specs.declared.pending.Pending.{Pending}
use Rattle.native_loglet.specs.declared.marks.Marks.{Marks}
use Rattle.native_loglet.specs.declared.closing.Decided.{Decided}
use Rattle.native_loglet.specs.Faults.{faults_after}
use Rattle.native_loglet.specs.Natives.{Native, NativeView, PendingList, look_in, loglet_of}
use Rattle.native_loglet.specs.Moving.{BeginsOn, CarriesAt}
use Rattle.native_loglet.specs.declared.mail.Mail.{Mail}
use Rattle.native_loglet.specs.Copies.{copy_in, kept_after, ComesAgain}
use Rattle.native_loglet.specs.Closing.{TakesOut, Waits, answer_for}
use Rattle.native_loglet.specs.Steps.{StepsOf, Reaches, NativeStep}
use Rattle.native_loglet.proofs.Alike.{IsOwned, Alike, shows, alike_tied, step_alike, forgets_owned}
use Rattle.native_loglet.proofs.Stepping.{Keeps, forgets}
use Rattle.native_loglet.proofs.Restarting.{restarts_in}
use Rattle.native_loglet.proofs.Messages.{carries_in}
use Rattle.native_loglet.proofs.Strays.{strays_in, strays_step}
use Rattle.native_loglet.proofs.Taking.{takes_in, waits_in, waits_owned}
use Rattle.native_loglet.proofs.Beginning.{IsFullFor, start_of, refuses_in, begins_in, begun_entries}
use Rattle.native_loglet.proofs.Wholes.{takes_whole, carries_whole, restarts_whole, refuses_whole, begins_whole}

---- what is seen of the loglet is what its parts are

pub goes_from : {told carried strayed : ℕ} (a : Native) (w : NativeView) (call : LogletCall) (answer : LogletAnswer) (b : Native) → record { loglet = loglet_of a; replicas = a.replicas; told = told; carried = carried; strayed = strayed; parts = a } ≡ w → CanCall w.loglet call
    → (CanCall (loglet_of a) call → NativeStep a call answer b) → NativeStep w.parts call answer b
goes_from a w call answer b e can f = subst (λ (x : Native). NativeStep x call answer b) (ap (λ (x : NativeView). x.parts) e) (f (subst (λ (x : LogletView). CanCall x call) (sym (shows a w e)) can))

---- a call that takes no step

pub stays_goes : (a b : Native) (call : LogletCall) (answer : LogletAnswer) → IsOwned a → Alike a b → CanCall (loglet_of a) call → Does (loglet_of a) call answer (loglet_of a) → ((c : Cell) → StepsOf a c call answer []) → NativeStep a call answer b
stays_goes a b call answer h k can does none = record {
  loglet = step_alike a b (loglet_of a) call answer refl h k can does;
  cells = λ c t. record { steps = []; are = none c; cell = alike_tied a b c k t };
}

pub same_goes : {told carried strayed : ℕ} (a : Native) (w : NativeView) (call : LogletCall) (answer : LogletAnswer) → record { loglet = loglet_of a; replicas = a.replicas; told = told; carried = carried; strayed = strayed; parts = a } ≡ w → CanCall w.loglet call → IsOwned a
    → Does (loglet_of a) call answer (loglet_of a) → ((c : Cell) → StepsOf a c call answer []) → NativeStep w.parts call answer w.parts
same_goes a w call answer e can h does none =
    let same : Alike a a = record { room = refl; entries = refl; servers = refl; marks = refl; strays = refl; pending = λ t. refl } in
    subst (λ (x : Native). NativeStep x call answer x) (ap (λ (x : NativeView). x.parts) e) (stays_goes a a call answer h same (subst (λ (x : LogletView). CanCall x call) (sym (shows a w e)) can) does none)

pub waits_goes : (a b : Native) (t : ℕ) → IsOwned a → Alike a b → CanCall (loglet_of a) (CallTake t) → Waits a.pending t → NativeStep a (CallTake t) (Taken None) b
waits_goes a b t h k can waits = record {
  loglet = waits_owned a b (loglet_of a) t refl h can k waits;
  cells = λ c z. waits_in a b t c z can k waits;
}

---- the others

pub carries_goes : (a : Native) (ws : List View) (n : PendingList) (ms : List Mail) (marks : Marks) (t word : ℕ) (failed : Bool) → IsOwned a → CanCall (loglet_of a) (CallCarry t word)
    → ((p : Pending) → look_in a.pending t ≡ Some p → CarriesAt a.entries a.marks.cut t word p a.pending n a.replicas ws failed) → ms ≡ kept_after (copy_in a t word) a.strays → marks ≡ record a.marks { faults = faults_after failed a.marks.faults }
    → NativeStep a (CallCarry t word) Carried (record a { replicas = ws; pending = n; strays = ms; marks = marks })
carries_goes a ws n ms marks t word failed h can moved kept is = record {
  loglet = (carries_whole a ws n ms marks (loglet_of a) t word failed refl h can moved kept is).1;
  cells = λ c k. subst (λ (x : Marks). Reaches a c (CallCarry t word) Carried (record a { replicas = ws; pending = n; strays = ms; marks = x })) (sym is) (carries_in a ws n ms (loglet_of a) t word failed c refl k can moved kept).0;
}

pub strays_goes : (a : Native) (ws : List View) (n : PendingList) (marks : Marks) (word : ℕ) (failed : Bool) → IsOwned a → ComesAgain a.marks.cut (slice_get a.strays (word % length a.strays)) a.pending n a.replicas ws failed → marks ≡ record a.marks { faults = faults_after failed a.marks.faults }
    → NativeStep a (CallStray word) Strayed (record a { replicas = ws; pending = n; marks = marks })
strays_goes a ws n marks word failed h comes is = subst (λ (x : Marks). NativeStep a (CallStray word) Strayed (record a { replicas = ws; pending = n; marks = x })) (sym is) (record {
  loglet = strays_step a ws n word failed h comes;
  cells = λ c k. (strays_in a ws n word failed c k comes).0;
})

pub takes_goes : (a : Native) (n : PendingList) (marks : Marks) (t : ℕ) (d : Decided) (y : Answer) (size : ℕ) → IsOwned a → CanCall (loglet_of a) (CallTake t) → TakesOut a.pending t d n → Some y ≡ answer_for a.marks.cut d → size ≡ wanted_by d.task d.size
    → marks ≡ record a.marks { reach = max a.marks.reach (told_reach size y); firm = max a.marks.firm (told_firm size y); cap = told_cap y a.marks.cap; lacks = a.marks.lacks + told_lacks y } → NativeStep a (CallTake t) (Taken (Some y)) (record a { pending = n; marks = marks })
takes_goes a n marks t d y size h can o answers sized is = record {
  loglet = (takes_whole a n marks (loglet_of a) t d y size refl h can o answers sized is).1;
  cells = λ c k. subst (λ (x : Marks). Reaches a c (CallTake t) (Taken (Some y)) (record a { pending = n; marks = x })) (sym is) (takes_in a n t d y size c k o answers sized);
}

pub forgets_goes : (a b : Native) (t : ℕ) → IsOwned a → CanCall (loglet_of a) (CallForget t) → Keeps a b → b.marks ≡ a.marks → UpdatesAt a.pending b.pending t None → NativeStep a (CallForget t) Forgotten b
forgets_goes a b t h can k marks u = record {
  loglet = (forgets_owned a b (loglet_of a) t refl h can k marks u).1;
  cells = λ c z. record { steps = Forget t ∷ []; are = refl; cell = (forgets a b c (loglet_of a) t refl z can k marks u).0 };
}

pub restarts_goes : (a : Native) (marks : Marks) (i word : ℕ) (was is : View) (up : Bool) → IsOwned a → i < length a.replicas → was ≡ get_or a.replicas i was
    → (was.server.up ≡ true → (up ≡ true) × (is.server ≡ was.server)) → (up ≡ true → (kept : Bool) × (is.server ≡ restarted was.server kept was.server.torn)) → (up ≡ false → is.server ≡ was.server)
    → marks ≡ record a.marks { faults = faults_after (not up) a.marks.faults } → NativeStep a (CallRestart i word) (Restarted up) (record a { replicas = set a.replicas i is; marks = marks })
restarts_goes a marks i word was is up h here there calm rose failed m = record {
  loglet = (restarts_whole a marks (loglet_of a) i word was is up refl h here there calm rose failed m).1;
  cells = λ c k. subst (λ (x : Marks). Reaches a c (CallRestart i word) (Restarted up) (record a { replicas = set a.replicas i is; marks = x })) (sym m) (restarts_in a c i word was is up k here there calm rose failed);
}

pub refuses_goes : (a : Native) (marks : Marks) (op : Op) → IsOwned a → CanCall (loglet_of a) (CallBegin op) → IsFullFor a op → marks ≡ record a.marks { faults = min (a.marks.faults + 1) (2 ^ 64 - 1) } → NativeStep a (CallBegin op) (Refusal Full) (record a { marks = marks })
refuses_goes a marks op h can full is = record {
  loglet = (refuses_whole a marks (loglet_of a) op refl h can full is).1;
  cells = λ c k. subst (λ (x : Marks). Reaches a c (CallBegin op) (Refusal Full) (record a { marks = x })) (sym is) (refuses_in a op c k can full);
}

pub begins_goes : (a : Native) (es : List Entry) (marks : Marks) (op : Op) (p : Pending) (n : PendingList) → IsOwned a → CanCall (loglet_of a) (CallBegin op) → (IsFullFor a op → ⊥) → BeginsOn a.replicas op (start_of a op) (cut_by op a.marks.cut a.marks.reach) p
    → UpdatesAt a.pending n a.marks.begun (Some p) → es ≡ begun_entries a op → marks ≡ record a.marks { cut = cut_by op a.marks.cut a.marks.reach; begun = a.marks.begun + 1; seals = a.marks.seals + seals_of op }
    → NativeStep a (CallBegin op) (Begun a.marks.begun) (record a { entries = es; pending = n; marks = marks })
begins_goes a es marks op p n h can space b u entries is = record {
  loglet = (begins_whole a es marks (loglet_of a) op p n refl h can space b u entries is).1;
  cells = λ c k. subst (λ (xs : List Entry). Reaches a c (CallBegin op) (Begun a.marks.begun) (record a { entries = xs; pending = n; marks = marks })) (sym entries)
      (subst (λ (x : Marks). Reaches a c (CallBegin op) (Begun a.marks.begun) (record a { entries = begun_entries a op; pending = n; marks = x })) (sym is) (begins_in a op p n c k can space b u));
}
