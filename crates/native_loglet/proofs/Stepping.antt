-- The calls of a native loglet as steps of a loglet.
use Rattle.std.proofs.Common.{◌≡◌, ℕ, zero, suc, ◌^◌, ◌<◌, ◌≤◌, true, false, nat_eq, refl, sym, ◌∙◌, ap, subst, arith, List, [], ◌∷◌, map, length, drop, Option, Some, None, inl, inr}
use Rattle.std.specs.Prelude.{◌⊎◌, slice_get, is_some}
use Rattle.native_loglet.specs.Natives.{UpdatesAt}
use Rattle.std.proofs.lemmas.Bool.{false≢true, cases_eq, ne_eqb}
use Rattle.std.proofs.lemmas.Option.{none-some}
use Rattle.std.proofs.lemmas.List.{length-set}
use Rattle.delos_types.specs.declared.entry.Entry.{Entry}
use Rattle.loglet_api.specs.declared.call.LogletCall.{LogletCall}
use Rattle.loglet_api.specs.declared.call.LogletCall.TheVariants.{Forget as CallForget, Carry as CallCarry}
use Rattle.loglet_api.specs.declared.call.LogletAnswer.{LogletAnswer}
use Rattle.loglet_api.specs.declared.call.LogletAnswer.TheVariants.{Forgotten, Carried}
use Rattle.loglet_api.specs.View.{LogletView, operation_at}
use Rattle.loglet_api.specs.Sound.{IsSound}
use Rattle.loglet_api.specs.Run.{LogletRun}
use Rattle.loglet_api.specs.Step.{LogletStep, CanCall, Does, Moves, IsBelow, IsAtMost}
use Rattle.quorum_cell.specs.declared.operation.CellStep.{CellStep}
use Rattle.quorum_cell.specs.declared.operation.CellStep.TheVariants.{Forget}
use Rattle.quorum_cell.specs.Cells.{Cell, Operation, operation, seals, lacks, is_seal, is_lack}
use Rattle.quorum_cell.specs.Steps.{cell_step, run_cell, put_operation, forget}
use Rattle.quorum_cell.specs.Law.{Later}
use Rattle.quorum_cell.proofs.Runs.{run_later, step_later}
use Rattle.quorum_cell.proofs.Lawful.{step_lawful}
use Rattle.cell_views.specs.Views.{Manner, IsManner, IsNearer, BringsSpelled, cell_view, calls, counted}
use Rattle.cell_views.proofs.Sounds.{view_sound, open_known}
use Rattle.cell_views.proofs.Opened.{opened, opened_is}
use Rattle.cell_views.proofs.Moves.{Stirs, count_same}
use Rattle.cell_views.proofs.Calls.{step_runs, spelled_after}
use Rattle.log_server.specs.View.{View}
use Rattle.native_plan.specs.declared.pending.Pending.{Pending}
use Rattle.native_plan.specs.Pendings.{plan_left, left_now}
use Rattle.native_ties.specs.Parts.{IsPartOf, IsBounded, Extends, AreStrays}
use Rattle.native_ties.proofs.Parts.{part_later}
use Rattle.native_ties.proofs.Hearing.{put_there, put_other}
use Rattle.native_ties.proofs.Bounds.{bounded}
use Rattle.native_loglet.specs.declared.marks.Marks.{Marks}
use Rattle.native_loglet.specs.Natives.{Native, server_in, shown, look_in, loglet_of, left_for, left_in, manner_of, IsOpenAs, IsMail, IsCellOf}
use Rattle.native_loglet.specs.declared.mail.Mail.{Mail}
use Rattle.native_loglet.proofs.Mails.{strays_stay, same_strays}
use Rattle.native_loglet.proofs.Extending.{run_extends}
use Rattle.native_loglet.proofs.Viewing.{part_shown, FitsLeft, view_is, manner_with, fits_own, manner_is}
use Rattle.native_loglet.proofs.Stirring.{run_stirs, run_moves, run_lawful, run_spelled}

---- it is sound

pub own_view : (a : Native) (c : Cell) → IsCellOf a c → loglet_of a ≡ cell_view (manner_of a) c
own_view a c h = view_is a c (manner_of a).left (fits_own a) h

pub tied_sound : (a : Native) (c : Cell) → IsCellOf a c → IsSound (loglet_of a)
tied_sound a c h = subst IsSound (sym (own_view a c h)) (view_sound (manner_of a) c (manner_is a c h) h.lawful h.spelled)

pub step_of : (a b : Native) (c d : Cell) (v : LogletView) (call : LogletCall) (answer : LogletAnswer) → loglet_of a ≡ v → IsCellOf a c → IsCellOf b d → CanCall v call → Does (loglet_of a) call answer (loglet_of b) → LogletStep v call answer (loglet_of b)
step_of a b c d v call answer e h k can does = record {
  before = subst IsSound e (tied_sound a c h);
  can = can;
  does = subst (λ (x : LogletView). Does x call answer (loglet_of b)) e does;
  after = tied_sound b d k;
}

pub step_same : (a : Native) (c : Cell) (v : LogletView) (call : LogletCall) (answer : LogletAnswer) → loglet_of a ≡ v → IsCellOf a c → CanCall v call → Does (loglet_of a) call answer (loglet_of a) → LogletStep v call answer v
step_same a c v call answer e h can does = subst (λ (x : LogletView). LogletStep v call answer x) e (step_of a a c c v call answer e h h can does)

---- a step of the cell that is one call

from_one : (v w : LogletView) (x : LogletCall × LogletAnswer) → LogletRun v (x ∷ []) w → LogletStep v x.0 x.1 w
from_one v w x r = subst (λ (z : LogletView). LogletStep v x.0 x.1 z) (sym r.2) r.1

pub same_manner : (a b : Native) (left : ℕ → ℕ × ℕ) → length b.replicas ≡ length a.replicas → manner_with b left ≡ manner_with a left
same_manner a b left many = rw many refl

-- what the cell does by a step that is this call the loglet does
pub call_of : (a b : Native) (c : Cell) (step : CellStep) (v : LogletView) (call : LogletCall) (answer : LogletAnswer) → loglet_of a ≡ v → IsCellOf a c → IsCellOf b (cell_step c step) → BringsSpelled step → length b.replicas ≡ length a.replicas
    → (left : ℕ → ℕ × ℕ) → FitsLeft left a.pending → FitsLeft left b.pending → IsManner (length c.servers) (manner_with a left)
    → calls c step ≡ (call, answer) ∷ [] → LogletStep v call answer (loglet_of b)
call_of a b c step v call answer e h k spelled many left fits_a fits_b manner is =
    let r : LogletRun (cell_view (manner_with a left) c) (calls c step) (cell_view (manner_with a left) (cell_step c step)) = step_runs (manner_with a left) c step manner h.lawful h.spelled spelled in
    let one : LogletStep (cell_view (manner_with a left) c) call answer (cell_view (manner_with a left) (cell_step c step)) = from_one _ _ (call, answer) (subst (λ xs. LogletRun (cell_view (manner_with a left) c) xs (cell_view (manner_with a left) (cell_step c step))) is r) in
    let before : cell_view (manner_with a left) c ≡ v = sym (view_is a c left fits_a h) ∙ e in
    let after : cell_view (manner_with a left) (cell_step c step) ≡ loglet_of b = sym (view_is b (cell_step c step) left fits_b k ∙ ap (λ (m : Manner). cell_view m (cell_step c step)) (same_manner a b left many)) in
    subst (λ (x : LogletView). LogletStep x call answer (loglet_of b)) before (subst (λ (x : LogletView). LogletStep (cell_view (manner_with a left) c) call answer x) after one)

---- which operations are open

pub open_there : (a : Native) (c : Cell) (t : ℕ) (z : Option Pending) → look_in a.pending t ≡ z → IsCellOf a c → IsOpenAs c t z
open_there a c t z e h = subst (IsOpenAs c t) e (h.operations t)

-- the operation that is shown is there
shown_there : (a : Native) (c : Cell) (t : ℕ) (z : Option Pending) → IsOpenAs c t z → is_some (opened (length c.servers) (manner_of a).left t (operation c t)) ≡ true → (p : Pending) × (z ≡ Some p)
shown_there a c t None closed h = absurd (false≢true (sym (ap is_some (none_is c)) ∙ h))
  where
    none_is : (d : Cell) → opened (length c.servers) (manner_of a).left t (operation c t) ≡ None
    none_is d = rw closed refl
shown_there a c t (Some p) part h = (p, refl)

pub open_is : (a : Native) (c : Cell) (v : LogletView) (t : ℕ) → loglet_of a ≡ v → IsCellOf a c → is_some (operation_at v.operations t) ≡ true → (p : Pending) × (look_in a.pending t ≡ Some p)
open_is a c v t e h there =
    let seen : operation_at v.operations t ≡ opened (length c.servers) (manner_of a).left t (operation c t) = ap (λ (x : LogletView). operation_at x.operations t) (sym e ∙ own_view a c h) ∙ opened_is (length c.servers) (manner_of a).left t c.operations in
    shown_there a c t (look_in a.pending t) (h.operations t) (sym (ap is_some seen) ∙ there)

pub seen_is : (a : Native) (c : Cell) (t : ℕ) (p : Pending) → IsCellOf a c → look_in a.pending t ≡ Some p → operation_at (loglet_of a).operations t ≡ Some (shown p)
seen_is a c t p h is =
    let part : IsPartOf c t p = open_there a c t (Some p) is h in
    ap (λ (x : LogletView). operation_at x.operations t) (own_view a c h) ∙ opened_is (length c.servers) (manner_of a).left t c.operations
    ∙ rw part.shows.is_open (ap (λ o. Some o) (part_shown c t p (left_in (look_in a.pending t)) (λ w. rw (is, w) refl) part))

---- forget

pub not_at : (t q : ℕ) → (q ≡ t → ⊥) → nat_eq t q ≡ false
not_at t q n = ne_eqb t q (λ e. n (sym e))

pub kept_left : (a b : Native) (t : ℕ) → UpdatesAt a.pending b.pending t None → FitsLeft (manner_of a).left b.pending
kept_left a b t u q p is waiting = by (cases_eq q t)
  where
    by : (q ≡ t) ⊎ (q ≡ t → ⊥) → (manner_of a).left q ≡ plan_left p
    by (inl same) = absurd (none-some p (sym u.1 ∙ sym (ap (look_in b.pending) same) ∙ is))
    by (inr other) = fits_own a q p (sym (u.2 q (not_at t q other)) ∙ is) waiting

-- the other operations go on as they were in a cell that leaves them alone
pub others_open : (a b : Native) (c d : Cell) (t : ℕ) → IsCellOf a c → Later c d → Extends c d → ((q : ℕ) → (q ≡ t → ⊥) → operation d q ≡ operation c q) → ((q : ℕ) → (q ≡ t → ⊥) → look_in b.pending q ≡ look_in a.pending q) → IsOpenAs d t (look_in b.pending t) → (q : ℕ) → IsOpenAs d q (look_in b.pending q)
others_open a b c d t h later extends same kept here q = by (cases_eq q t)
  where
    later_as : (z : Option Pending) → (q ≡ t → ⊥) → IsOpenAs c q z → IsOpenAs d q z
    later_as None other o = ap (λ (x : Operation). x.closed) (same q other) ∙ o
    later_as (Some p) other o = part_later c d q p later extends (same q other) o

    by : (q ≡ t) ⊎ (q ≡ t → ⊥) → IsOpenAs d q (look_in b.pending q)
    by (inl e) = subst (λ k. IsOpenAs d k (look_in b.pending k)) (sym e) here
    by (inr other) = subst (IsOpenAs d q) (sym (kept q other)) (later_as (look_in a.pending q) other (h.operations q))

---- an operation is put in the place of a ticket

-- the fields that no such step touches
pub record Keeps (a b : Native) : Type 0 where
  pub room : b.room ≡ a.room
  pub entries : b.entries ≡ a.entries
  pub replicas : b.replicas ≡ a.replicas
  pub cut : b.marks.cut ≡ a.marks.cut
  pub faults : b.marks.faults ≡ a.marks.faults
  pub begun : b.marks.begun ≡ a.marks.begun
  pub seals_are : b.marks.seals ≡ a.marks.seals
  pub strays : b.strays ≡ a.strays

closes : (c : Cell) (t : ℕ) → (operation c t).closed ≡ false → forget c t ≡ put_operation c t (record (operation c t) { closed = true })
closes c t h = rw h refl

forget_tied : (a b : Native) (c : Cell) (t : ℕ) → IsCellOf a c → (operation c t).closed ≡ false → Keeps a b → b.marks ≡ a.marks → UpdatesAt a.pending b.pending t None → IsCellOf b (cell_step c (Forget t))
forget_tied a b c t h is_open k marks u = record {
  lawful = step_lawful c (Forget t) h.lawful;
  spelled = spelled_after c (Forget t) h.spelled tt;
  odd = (h.odd.0, ap (λ (x : Cell). length x.servers) is ∙ h.odd.1);
  few = omega (arith, h.few, ap (λ (x : Cell). length x.servers) is);
  room = ap (λ (x : Cell). x.room) is ∙ h.room ∙ sym k.room;
  limit = ap (λ (x : Cell). x.limit) is ∙ h.limit;
  entries = ap (λ (x : Cell). drop x.cut x.entries) is ∙ h.entries ∙ sym k.entries;
  servers = ap (λ (x : Cell). x.servers) is ∙ h.servers ∙ sym (ap (map server_in) k.replicas);
  cut = ap (λ (x : Cell). x.cut) is ∙ h.cut ∙ sym k.cut;
  reach = ap (λ (x : Cell). x.reach) is ∙ h.reach ∙ sym (ap (λ (m : Marks). m.reach) marks);
  firm = ap (λ (x : Cell). x.firm) is ∙ h.firm ∙ sym (ap (λ (m : Marks). m.firm) marks);
  cap = ap (λ (x : Cell). x.cap) is ∙ h.cap ∙ sym (ap (λ (m : Marks). m.cap) marks);
  faults = ap (λ (x : Cell). counted (length x.faults)) is ∙ h.faults ∙ sym k.faults;
  begun = ap (λ (x : Cell). length x.operations) is ∙ length-set c.operations t _ ∙ h.begun ∙ sym k.begun;
  seals_are = ap seals is ∙ count_same (λ (x : Operation). is_seal x.aim) c.operations t _ refl ∙ h.seals_are ∙ sym k.seals_are;
  lacks_are = ap lacks is ∙ count_same (λ (x : Operation). is_lack x.given) c.operations t _ refl ∙ h.lacks_are ∙ sym (ap (λ (m : Marks). m.lacks) marks);
  operations = others_open a b c (cell_step c (Forget t)) t h (step_later c (Forget t)) (record { requests = λ n q e. ap (λ (x : Cell). slice_get x.requests n) is ∙ e; replies = λ n r e. ap (λ (x : Cell). slice_get x.replies n) is ∙ e }) (λ q n. ap (λ (x : Cell). operation x q) is ∙ put_other c t q _ n) (λ q n. u.2 q (not_at t q n)) here;
  strays = same_strays a.strays b.strays (IsMail (cell_step c (Forget t))) k.strays (strays_stay a c (cell_step c (Forget t)) h (step_later c (Forget t)) (run_extends (Forget t ∷ []) c));
}
  where
    is : cell_step c (Forget t) ≡ put_operation c t (record (operation c t) { closed = true })
    is = closes c t is_open

    here : IsOpenAs (cell_step c (Forget t)) t (look_in b.pending t)
    here = subst (IsOpenAs (cell_step c (Forget t)) t) (sym u.1) (ap (λ (x : Cell). (operation x t).closed) is ∙ ap (λ (o : Operation). o.closed) (put_there c t (record (operation c t) { closed = true }) (open_known c t is_open)))

pub forgets : (a b : Native) (c : Cell) (v : LogletView) (t : ℕ) → loglet_of a ≡ v → IsCellOf a c → CanCall v (CallForget t) → Keeps a b → b.marks ≡ a.marks → UpdatesAt a.pending b.pending t None → IsCellOf b (cell_step c (Forget t)) × LogletStep v (CallForget t) Forgotten (loglet_of b)
forgets a b c v t e h can k marks u =
    let z : (p : Pending) × (look_in a.pending t ≡ Some p) = open_is a c v t e h can in
    let part : IsPartOf c t z.0 = open_there a c t (Some z.0) z.1 h in
    let tied : IsCellOf b (cell_step c (Forget t)) = forget_tied a b c t h part.shows.is_open k marks u in
    (tied, call_of a b c (Forget t) v (CallForget t) Forgotten e h tied tt (ap (λ (vs : List View). length vs) k.replicas) (manner_of a).left (fits_own a) (kept_left a b t u) (manner_is a c h) (rw part.shows.is_open refl))

---- an undecided operation goes on by steps that are nobody's call

-- what it is in the cell, and that less is left of it
pub record GoesOn (a b : Native) (c : Cell) (t : ℕ) (p q : Pending) (Are : List CellStep → Type 0) : Type 0 where
  pub steps : List CellStep
  pub are : Are steps
  pub strays : AreStrays steps
  pub part : IsPartOf (run_cell steps c) t q
  pub others : (k : ℕ) → (k ≡ t → ⊥) → operation (run_cell steps c) k ≡ operation c k
  pub extends : Extends c (run_cell steps c)
  pub servers : (run_cell steps c).servers ≡ map server_in b.replicas
  pub faults : counted (length (run_cell steps c).faults) ≡ b.marks.faults
  pub less : IsBelow (left_now q) (left_now p)

-- what only steps that are nobody's call changed is a cell's still
pub stirred_tied : (a b : Native) (c : Cell) (steps : List CellStep) → IsCellOf a c → AreStrays steps → (run_cell steps c).servers ≡ map server_in b.replicas → counted (length (run_cell steps c).faults) ≡ b.marks.faults
    → b.room ≡ a.room → b.entries ≡ a.entries → b.marks ≡ record a.marks { faults = b.marks.faults } → ((t : ℕ) → IsOpenAs (run_cell steps c) t (look_in b.pending t)) → ((n : ℕ) (m : Mail) → slice_get b.strays n ≡ Some m → IsMail (run_cell steps c) m) → IsCellOf b (run_cell steps c)
stirred_tied a b c steps h strays servers faults room entries marks operations mails = record {
  lawful = run_lawful steps c h.lawful;
  spelled = run_spelled steps c strays h.spelled;
  odd = (h.odd.0, s.servers ∙ h.odd.1);
  few = omega (arith, h.few, s.servers);
  room = s.room ∙ h.room ∙ sym room;
  limit = s.limit ∙ h.limit;
  entries = ap (λ k. drop k (run_cell steps c).entries) s.cut ∙ ap (λ (es : List Entry). drop c.cut es) s.entries ∙ h.entries ∙ sym entries;
  servers = servers;
  cut = s.cut ∙ h.cut ∙ sym (ap (λ (m : Marks). m.cut) marks);
  reach = s.reach ∙ h.reach ∙ sym (ap (λ (m : Marks). m.reach) marks);
  firm = s.firm ∙ h.firm ∙ sym (ap (λ (m : Marks). m.firm) marks);
  cap = s.cap ∙ h.cap ∙ sym (ap (λ (m : Marks). m.cap) marks);
  faults = faults;
  begun = s.begun ∙ h.begun ∙ sym (ap (λ (m : Marks). m.begun) marks);
  seals_are = s.seals ∙ h.seals_are ∙ sym (ap (λ (m : Marks). m.seals) marks);
  lacks_are = s.lacks ∙ h.lacks_are ∙ sym (ap (λ (m : Marks). m.lacks) marks);
  operations = operations;
  strays = mails;
}
  where
    s : Stirs (manner_of a).left (manner_of a).left c (run_cell steps c)
    s = run_stirs (manner_of a).left (manner_of a).left steps c strays (λ k. inr (refl, omega arith))

-- all operations stay what they are in a cell that leaves them alone
pub all_open : (a : Native) (c d : Cell) → IsCellOf a c → Later c d → Extends c d → ((q : ℕ) → operation d q ≡ operation c q) → (q : ℕ) → IsOpenAs d q (look_in a.pending q)
all_open a c d h later extends same q = by (look_in a.pending q) (h.operations q)
  where
    by : (z : Option Pending) → IsOpenAs c q z → IsOpenAs d q z
    by None o = ap (λ (x : Operation). x.closed) (same q) ∙ o
    by (Some p) o = part_later c d q p later extends (same q) o

pub carry_tied : (a b : Native) (c : Cell) (t : ℕ) (p q : Pending) (Are : List CellStep → Type 0) → IsCellOf a c → (g : GoesOn a b c t p q Are) → b.room ≡ a.room → b.entries ≡ a.entries → b.marks ≡ record a.marks { faults = b.marks.faults } → look_in b.pending t ≡ Some q → ((k : ℕ) → (k ≡ t → ⊥) → look_in b.pending k ≡ look_in a.pending k) → ((n : ℕ) (m : Mail) → slice_get b.strays n ≡ Some m → IsMail (run_cell g.steps c) m) → IsCellOf b (run_cell g.steps c)
carry_tied a b c t p q Are h g room entries marks is kept mails = stirred_tied a b c g.steps h g.strays g.servers g.faults room entries marks (others_open a b c (run_cell g.steps c) t h (run_later g.steps c) g.extends g.others kept (subst (IsOpenAs (run_cell g.steps c) t) (sym is) g.part)) mails

-- no more is left of any
nearer_in : (z y : Option Pending) (p q : Pending) → z ≡ Some p → y ≡ Some q → p.outcome ≡ None → 0 < (plan_left p).1 → IsBelow (left_now q) (left_now p) → IsAtMost (left_in y) (left_in z)
nearer_in z y p q e f waiting some less = rw (e, f) (by q.outcome refl)
  where
    least : (k : ℕ × ℕ) → 0 < k.1 → IsAtMost (0, 1) k
    least k l = at k.0 refl
      where
        at : (n : ℕ) → k.0 ≡ n → IsAtMost (0, 1) k
        at zero x = inr (sym x, l)
        at (suc n) x = inl (omega (arith, x))

    below : (x y : ℕ × ℕ) → IsBelow x y → IsAtMost x y
    below x y (inl l) = inl l
    below x y (inr l) = inr (l.0, omega (arith, l.1))

    by : (o : Option Rattle.quorum_cell.specs.declared.operation.Outcome.Outcome) → q.outcome ≡ o → IsAtMost (left_for q.outcome (plan_left q)) (left_for p.outcome (plan_left p))
    by None x = rw (x, waiting) (below (plan_left q) (plan_left p) (rw (x, waiting) at less))
    by (Some o) x = rw (x, waiting) (least (plan_left p) some)

pub carries : (a b : Native) (c : Cell) (v : LogletView) (t word : ℕ) (p q : Pending) (Are : List CellStep → Type 0) → loglet_of a ≡ v → IsCellOf a c → CanCall v (CallCarry t word) → (g : GoesOn a b c t p q Are) → b.room ≡ a.room → b.entries ≡ a.entries → length b.replicas ≡ length a.replicas → b.marks ≡ record a.marks { faults = b.marks.faults }
    → look_in a.pending t ≡ Some p → p.outcome ≡ None → look_in b.pending t ≡ Some q → ((k : ℕ) → (k ≡ t → ⊥) → look_in b.pending k ≡ look_in a.pending k) → ((n : ℕ) (m : Mail) → slice_get b.strays n ≡ Some m → IsMail (run_cell g.steps c) m) → IsCellOf b (run_cell g.steps c) × LogletStep v (CallCarry t word) Carried (loglet_of b)
carries a b c v t word p q Are e h can g room entries many marks was waiting is kept mails =
    let tied : IsCellOf b (run_cell g.steps c) = carry_tied a b c t p q Are h g room entries marks is kept mails in
    let small : length c.entries ≤ 2 ^ 32 = omega (arith, h.lawful.law.quorum.fits, h.lawful.shape.room.1) in
    let bound : IsBounded (length c.servers) p = bounded c t p (open_there a c t (Some p) was h) waiting small in
    let moved : Moves (cell_view (manner_of a) c) (cell_view (record (manner_of a) { left = (manner_of b).left }) (run_cell g.steps c)) = run_moves (manner_of a) (manner_of b).left g.steps c g.strays (near bound.some) in
    let after : loglet_of b ≡ cell_view (record (manner_of a) { left = (manner_of b).left }) (run_cell g.steps c) = own_view b (run_cell g.steps c) tied ∙ ap (λ (m : Manner). cell_view m (run_cell g.steps c)) (same_manner a b (manner_of b).left many) in
    let moves : Moves (loglet_of a) (loglet_of b) = subst (λ (x : LogletView). Moves x (loglet_of b)) (sym (own_view a c h)) (subst (λ (x : LogletView). Moves (cell_view (manner_of a) c) x) (sym after) moved) in (
      tied,
      step_of a b c (run_cell g.steps c) v (CallCarry t word) Carried e h tied can (record {
        moves = moves;
        falls = record { before = shown p; after = shown q; was = seen_is a c t p h was; is = seen_is b (run_cell g.steps c) t q tied is; less = g.less };
      }),
    )
  where
    near : 0 < (plan_left p).1 → IsNearer (manner_of a).left (manner_of b).left
    near some k = by (cases_eq k t)
      where
        same : left_in (look_in b.pending k) ≡ left_in (look_in a.pending k) → IsAtMost (left_in (look_in b.pending k)) (left_in (look_in a.pending k))
        same x = rw x (inr (refl, omega arith))

        by : (k ≡ t) ⊎ (k ≡ t → ⊥) → IsAtMost ((manner_of b).left k) ((manner_of a).left k)
        by (inl x) = nearer_in (look_in a.pending k) (look_in b.pending k) p q (ap (look_in a.pending) x ∙ was) (ap (look_in b.pending) x ∙ is) waiting some g.less
        by (inr n) = same (ap left_in (kept k n))
