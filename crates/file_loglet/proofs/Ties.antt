-- A file loglet beside a cell that it may be.
use Rattle.std.proofs.Common.{◌≡◌, ℕ, ◌<◌, ◌≤◌, Bool, true, false, set, get_or, refl, sym, ◌∙◌, ap, subst, arith, List, [], ◌∷◌, length, Option, Some, None, inl, inr}
use Rattle.std.specs.Prelude.{◌⊎◌, not, nat_lt, nat_le, if◌then◌else◌}
use Rattle.std.proofs.lemmas.Bool.{false≢true, cases_eq, cases_Bool, ne_eqb, eq-eqb, eqb-true, leb-true}
use Rattle.std.proofs.lemmas.Bool.Decides.{nat_tests}
use Rattle.std.proofs.lemmas.Option.{none-some, same_Some}
use Rattle.std.proofs.lemmas.List.{get_or-set_same, get_or-set_other}
use Rattle.delos_types.specs.declared.entry.Entry.{Entry}
use Rattle.loglet_api.specs.declared.call.Answer.{Answer}
use Rattle.loglet_api.specs.declared.call.LogletCall.{LogletCall}
use Rattle.loglet_api.specs.declared.call.LogletAnswer.{LogletAnswer}
use Rattle.loglet_api.specs.View.{LogletView, Operation as OpenOperation, operation_at}
use Rattle.loglet_api.specs.Run.{LogletRun}
use Rattle.loglet_api.specs.Step.{LogletStep, task_of}
use Rattle.majority_rule.specs.Majority.{is_majority, votes_below}
use Rattle.quorum_cell.specs.declared.message.Request.{Request}
use Rattle.quorum_cell.specs.declared.message.Reply.{Reply}
use Rattle.quorum_cell.specs.declared.operation.Aim.{Aim}
use Rattle.quorum_cell.specs.declared.operation.Aim.TheVariants as aims
use Rattle.quorum_cell.specs.declared.operation.Outcome.{Outcome}
use Rattle.quorum_cell.specs.declared.operation.Outcome.TheVariants.{Reached, OpenTail, SealedTail, Shut, Found, Gone, Beyond, TrimDone, NoQuorum}
use Rattle.quorum_cell.specs.declared.operation.CellStep.{CellStep}
use Rattle.quorum_cell.specs.Servers.{Server, length_of, is_sealed}
use Rattle.quorum_cell.specs.Cells.{Cell, Operation, operation, no_operation, no_server, is_shut, down}
use Rattle.quorum_cell.specs.Steps.{cell_step, run_cell, given_outcome}
use Rattle.quorum_cell.specs.Tallies.{may_decide}
use Rattle.quorum_cell.specs.Law.{IsLawful, ServerHolds}
use Rattle.cell_views.specs.Views.{IsManner, IsSpelled, BringsSpelled, counted as cell_counted, cell_view, calls, left_of as cell_left, op_of, operation_view, taken, answer_of}
use Rattle.cell_views.proofs.Calls.{step_runs}
use Rattle.cell_views.proofs.Opened.{opened, opened_is}
use Rattle.cell_views.proofs.Sounds.{open_known}
use Rattle.file_loglet.specs.Held.{Held}
use Rattle.file_loglet.specs.declared.marks.Marks.{Marks}
use Rattle.file_loglet.specs.Pending.{PendingMap, left_of, answer_at, PutsAnswer, told_at}
use Rattle.file_loglet.specs.File.{FileView, file_view, counted, down_of}
use Rattle.file_loglet.specs.Steps.{manner, IsToldAs, IsWithin, IsCellOf}
use Rattle.file_loglet.proofs.Maps.{behind, answer_shown, answer_in}
use Rattle.file_loglet.proofs.Stills.{IsAlike, alike_same, Still, Shows, AreStrays, shows_still, run_still, run_lawful, run_spelled, there_alike}
use Rattle.file_loglet.proofs.Deciding.{one_majority, one_down}

---- what is shown of the server, and of what is left to do

pub record Seen (v : FileView) : Type 0 where
  pub shut : v.loglet.shut ≡ is_sealed v.server
  pub down : v.loglet.down ≡ down_of v.server.up
  pub faults : v.loglet.faults ≡ counted v.disk.faults v.refusals
  pub lefts : (t : ℕ) (o : OpenOperation) → operation_at v.loglet.operations t ≡ Some o → o.left ≡ left_of (answer_at v.answers t)

pub seen_new : (room : ℕ) (es : List Entry) (held : Held) (marks : Marks) (m : PendingMap) → Seen (file_view room es held marks m)
seen_new room es held marks m = record {
  shut = refl;
  down = refl;
  faults = refl;
  lefts = λ t o is. (let w = behind m t o is in ap (λ (x : OpenOperation). x.left) (sym w.2) ∙ ap left_of (sym (answer_shown m t ∙ ap answer_in w.1)));
}

pub seen_old : (room : ℕ) (es : List Entry) (held : Held) (marks : Marks) (m : PendingMap) (w : FileView) → file_view room es held marks m ≡ w → Seen w
seen_old room es held marks m w e = subst Seen e (seen_new room es held marks m)

pub shows_of : (v : FileView) (c : Cell) → IsCellOf v c → Shows v.loglet (cell_view manner c)
shows_of v c h = record { shows = h.shows; operations = λ t. subst (λ (x : Option OpenOperation). IsAlike (operation_at (cell_view manner c).operations t) x) (sym (h.operations t)) (alike_same (operation_at (cell_view manner c).operations t)) }

-- an answer stands beside an outcome
left_same : (cut : ℕ) (o : Operation) (x : Option Answer) → o.closed ≡ false → IsToldAs cut o x → left_of x ≡ cell_left o.decided (1, 0)
left_same cut o None open_ told = sym (ap (λ (z : Option Outcome). cell_left z (1, 0)) (told open_))
left_same cut o (Some y) open_ told = by o.decided refl told.1
  where
    by : (z : Option Outcome) → o.decided ≡ z → taken cut o z ≡ Some (told_at (task_of (op_of o.aim)) cut y) → (0, 0) ≡ cell_left z (1, 0)
    by None e k = absurd (none-some _ k)
    by (Some a) e k = refl

-- an operation that clients see of the cell is open there
opened_there : (c : Cell) (t : ℕ) (z : OpenOperation) → operation_at (cell_view manner c).operations t ≡ Some z → ((operation c t).closed ≡ false) × (operation_view (length c.servers) (operation c t) (1, 0) ≡ z)
opened_there c t z h = by (operation c t).closed refl (sym (opened_is (length c.servers) manner.left t c.operations) ∙ h)
  where
    opens : (operation c t).closed ≡ false → opened (length c.servers) manner.left t (operation c t) ≡ Some (operation_view (length c.servers) (operation c t) (1, 0))
    opens f = rw f refl

    by : (b : Bool) → (operation c t).closed ≡ b → opened (length c.servers) manner.left t (operation c t) ≡ Some z → ((operation c t).closed ≡ false) × (operation_view (length c.servers) (operation c t) (1, 0) ≡ z)
    by true e k = absurd (none-some z (sym (rw e refl) ∙ k))
    by false e k = (e, same_Some _ _ (sym (opens e) ∙ k))

-- what is left is the same too
pub exact : (v : FileView) (c : Cell) → Shows v.loglet (cell_view manner c) → Seen v → ((t : ℕ) → IsToldAs c.cut (operation c t) (answer_at v.answers t)) → (t : ℕ) → operation_at v.loglet.operations t ≡ operation_at (cell_view manner c).operations t
exact v c e seen told t = by (operation_at (cell_view manner c).operations t) refl (operation_at v.loglet.operations t) refl
  where
    alike : (x y : Option OpenOperation) → operation_at (cell_view manner c).operations t ≡ x → operation_at v.loglet.operations t ≡ y → IsAlike x y
    alike x y p q = subst (λ (z : Option OpenOperation). IsAlike z y) p (subst (λ (z : Option OpenOperation). IsAlike (operation_at (cell_view manner c).operations t) z) q (e.operations t))

    by : (x : Option OpenOperation) → operation_at (cell_view manner c).operations t ≡ x → (y : Option OpenOperation) → operation_at v.loglet.operations t ≡ y → operation_at v.loglet.operations t ≡ operation_at (cell_view manner c).operations t
    by None p None q = q ∙ sym p
    by None p (Some a) q = absurd (alike None (Some a) p q)
    by (Some b) p None q = absurd (alike (Some b) None p q)
    by (Some b) p (Some a) q =
        let there = opened_there c t b p in
        let left : a.left ≡ b.left = seen.lefts t a q ∙ left_same c.cut (operation c t) (answer_at v.answers t) there.0 (told t) ∙ ap (λ (o : OpenOperation). o.left) there.1 in
        let same : a ≡ b = alike (Some b) (Some a) p q ∙ ap (λ (l : ℕ × ℕ). record b { left = l }) left in
        q ∙ ap (λ (o : OpenOperation). Some o) same ∙ sym p

shut_one : (c : Cell) (s : Server) → c.servers ≡ s ∷ [] → is_shut c ≡ is_sealed s
shut_one c s e = ap (λ (ss : List Server). is_majority (length ss) (λ i. is_sealed (get_or ss i no_server))) e ∙ one_majority (λ i. is_sealed (get_or (s ∷ []) i no_server))

down_one : (c : Cell) (s : Server) → c.servers ≡ s ∷ [] → down c ≡ down_of s.up
down_one c s e = ap (λ (ss : List Server). votes_below (length ss) (λ i. not (get_or ss i no_server).up)) e ∙ by s.up refl
  where
    by : (b : Bool) → s.up ≡ b → votes_below 1 (λ i. not (get_or (s ∷ []) i no_server).up) ≡ down_of b
    by true u = one_down false (λ i. not (get_or (s ∷ []) i no_server).up) (ap not u)
    by false u = one_down true (λ i. not (get_or (s ∷ []) i no_server).up) (ap not u)

---- what its law says

pub server_holds : (v : FileView) (c : Cell) → IsCellOf v c → ServerHolds c v.server
server_holds v c h = subst (ServerHolds c) (ap (λ (ss : List Server). get_or ss 0 no_server) h.server) (h.lawful.law.quorum.servers 0)

pub firm_within : (v : FileView) (c : Cell) → IsCellOf v c → c.firm ≤ length_of v.server
firm_within v c h = leb-true c.firm (length_of v.server) (sym (one_majority (λ i. nat_le c.firm (length_of (get_or (v.server ∷ []) i no_server))))
    ∙ sym (ap (λ (ss : List Server). is_majority (length ss) (λ i. nat_le c.firm (length_of (get_or ss i no_server)))) h.server) ∙ h.lawful.law.quorum.firm)

---- nothing is shown of what a call did

pub same_tied : (old new : FileView) (c : Cell) → IsCellOf old c → new.loglet ≡ old.loglet → new.answers ≡ old.answers → new.server ≡ old.server → IsCellOf new c
same_tied old new c h loglet answers server = record {
  lawful = h.lawful;
  spelled = h.spelled;
  shows = subst (λ (x : LogletView). x ≡ record (cell_view manner c) { operations = x.operations }) (sym loglet) h.shows;
  operations = λ t. ap (λ (x : LogletView). operation_at x.operations t) loglet ∙ h.operations t;
  server = h.server ∙ ap (λ (s : Server). s ∷ []) (sym server);
  told = λ t. subst (λ (xs : List (ℕ × Option Answer)). IsToldAs c.cut (operation c t) (answer_at xs t)) (sym answers) (h.told t);
  wants = h.wants;
}

---- steps that are nobody's call

-- the loglet is the cell that these steps led to
pub tied : (old new : FileView) (c : Cell) (steps : List CellStep) (qs : List Request) (rs : List Reply) (os : List Operation) (fs : List ℕ) → IsCellOf old c → AreStrays steps
    → run_cell steps c ≡ record c { servers = new.server ∷ []; requests = qs; replies = rs; operations = os; faults = fs } → Still old.loglet new.loglet → Seen new → cell_counted (length fs) ≡ new.loglet.faults
    → ((q : ℕ) → IsToldAs c.cut (get_or os q no_operation) (answer_at new.answers q)) → ((q : ℕ) → IsWithin c.cut (get_or os q no_operation)) → IsCellOf new (run_cell steps c)
tied old new c steps qs rs os fs h strays is still seen faults told wants =
    let d : Cell = run_cell steps c in
    let one : d.servers ≡ new.server ∷ [] = ap (λ (x : Cell). x.servers) is in
    let shown = shows_still old.loglet new.loglet (cell_view manner c) (cell_view manner d) (shows_of old c h) still (run_still steps c strays)
    (shut_one d new.server one ∙ sym seen.shut) (ap (λ (x : Cell). cell_counted (length x.faults)) is ∙ faults) (down_one d new.server one ∙ sym seen.down) in
    let tells : (q : ℕ) → IsToldAs d.cut (operation d q) (answer_at new.answers q) = λ q. subst (λ (x : Cell). IsToldAs x.cut (operation x q) (answer_at new.answers q)) (sym is) (told q) in
    record {
      lawful = run_lawful steps c h.lawful;
      spelled = run_spelled steps c strays h.spelled;
      shows = shown.shows;
      operations = exact new d shown seen tells;
      server = one;
      told = tells;
      wants = λ q. subst (λ (x : Cell). IsWithin x.cut (operation x q)) (sym is) (wants q);
    }

---- what operations are told

-- one operation is put in the place of a ticket, and has another answer
pub told_put : (cut : ℕ) (os : List Operation) (t : ℕ) (o : Operation) (old new : List (ℕ × Option Answer)) → t < length os → ((q : ℕ) → IsToldAs cut (get_or os q no_operation) (answer_at old q)) → IsToldAs cut o (answer_at new t)
    → ((q : ℕ) → (q ≡ t → ⊥) → answer_at new q ≡ answer_at old q) → (q : ℕ) → IsToldAs cut (get_or (set os t o) q no_operation) (answer_at new q)
told_put cut os t o old new lt before here others q = by (cases_eq q t)
  where
    by : (q ≡ t) ⊎ (q ≡ t → ⊥) → IsToldAs cut (get_or (set os t o) q no_operation) (answer_at new q)
    by (inl e) = subst (λ k. IsToldAs cut (get_or (set os t o) k no_operation) (answer_at new k)) (sym e) (subst (λ (x : Operation). IsToldAs cut x (answer_at new t)) (sym (get_or-set_same os t o no_operation lt)) here)
    by (inr n) = subst (λ (x : Operation). IsToldAs cut x (answer_at new q)) (sym (get_or-set_other os t q o no_operation n)) (subst (IsToldAs cut (get_or os q no_operation)) (sym (others q n)) (before q))

pub puts_here : (old new : List (ℕ × Option Answer)) (t : ℕ) (x : Option Answer) → PutsAnswer old t x new → answer_at new t ≡ x
puts_here old new t x p = p t ∙ rw (eq-eqb t t refl) refl

pub puts_other : (old new : List (ℕ × Option Answer)) (t : ℕ) (x : Option Answer) → PutsAnswer old t x new → (q : ℕ) → (q ≡ t → ⊥) → answer_at new q ≡ answer_at old q
puts_other old new t x p q n = p q ∙ rw (ne_eqb t q (λ e. n (sym e))) refl

---- what is open

pub manner_is : (c : Cell) → IsLawful c → IsManner (length c.servers) manner
manner_is c law = record {
  rounds = omega arith;
  undecided = λ t. omega arith;
  first = λ t. omega arith;
  second = λ t. omega (arith, law.shape.servers.0);
}

-- the operation of a ticket that the loglet shows is open in the cell, and is what it shows
pub record OpenIn (c : Cell) (t : ℕ) (a : OpenOperation) : Type 0 where
  pub is_open : (operation c t).closed ≡ false
  pub known : t < length c.operations
  pub shown : a ≡ record (operation_view (length c.servers) (operation c t) (1, 0)) { left = a.left }

pub open_in : (v : FileView) (c : Cell) (t : ℕ) (a : OpenOperation) → IsCellOf v c → operation_at v.loglet.operations t ≡ Some a → OpenIn c t a
open_in v c t a h is =
    let x = there_alike v.loglet (cell_view manner c) t a (shows_of v c h) is in
    let parts = opened_there c t x.0 x.1 in
    record { is_open = parts.0; known = open_known c t parts.0; shown = x.2 ∙ ap (λ (b : OpenOperation). record b { left = a.left }) (sym parts.1) }

---- a step that is one call

from_one : (v w : LogletView) (x : LogletCall × LogletAnswer) → LogletRun v (x ∷ []) w → LogletStep v x.0 x.1 w
from_one v w x r = subst (λ (z : LogletView). LogletStep v x.0 x.1 z) (sym r.2) r.1

pub call_of : (c : Cell) (step : CellStep) (call : LogletCall) (answer : LogletAnswer) → IsLawful c → IsSpelled c → BringsSpelled step → calls c step ≡ (call, answer) ∷ [] → LogletStep (cell_view manner c) call answer (cell_view manner (cell_step c step))
call_of c step call answer law spelled brings is =
    from_one (cell_view manner c) (cell_view manner (cell_step c step)) (call, answer)
    (subst (λ xs. LogletRun (cell_view manner c) xs (cell_view manner (cell_step c step))) is (step_runs manner c step (manner_is c law) law spelled brings))

---- the cut goes on

lt_of : (p n : ℕ) → nat_lt p n ≡ true → p < n
lt_of p n h = grind (arith, nat_tests)

-- an outcome that isn't of the cut is told alike at each
same_at : (cut later : ℕ) (o : Operation) (aim : Aim) (a : Outcome) → (a ≡ Gone → ⊥) → answer_of later o aim a ≡ answer_of cut o aim a
same_at cut later o (aims.Append e) Reached n = refl
same_at cut later o aim Reached n = refl
same_at cut later o aim (OpenTail t) n = refl
same_at cut later o aim (SealedTail t) n = refl
same_at cut later o aims.Seal Shut n = refl
same_at cut later o aim Shut n = refl
same_at cut later o (aims.Read p) Found n = refl
same_at cut later o aim Found n = refl
same_at cut later o aim Gone n = absurd (n refl)
same_at cut later o aim Beyond n = refl
same_at cut later o aim TrimDone n = refl
same_at cut later o aim (NoQuorum u) n = refl

-- what was told of an outcome that its tally allowed
moved_on : (n cut later : ℕ) (o : Operation) (aim : Aim) (a : Outcome) (y : Answer) → cut ≤ later → may_decide n cut o aim a ≡ true → answer_of cut o aim (given_outcome cut aim a) ≡ Some (told_at (task_of (op_of aim)) cut y) → answer_of later o aim (given_outcome later aim a) ≡ Some (told_at (task_of (op_of aim)) later y)
moved_on n cut later o (aims.Read p) a y le may h = by (nat_lt p later) refl
  where
    stays : nat_lt p later ≡ false → nat_lt p cut ≡ false
    stays e = elim (cases_Bool (nat_lt p cut)) [ inl below ↦ (let less = lt_of p cut below in absurd (false≢true (sym e ∙ Rattle.std.proofs.lemmas.Bool.lt-ltb p later (omega (arith, less, le))))) | inr kept ↦ kept ]

    by : (b : Bool) → nat_lt p later ≡ b → answer_of later o (aims.Read p) (if b then Gone else a) ≡ Some (if b then Rattle.loglet_api.specs.declared.call.Answer.TheVariants.CutAt later else y)
    by true e = refl
    by false e = same_at cut later o (aims.Read p) a (λ g. false≢true (sym (stays e) ∙ sym (ap (may_decide n cut o (aims.Read p)) g) ∙ may)) ∙ (rw (stays e) at h)
moved_on n cut later o (aims.Append e) a y le may h = same_at cut later o (aims.Append e) a (λ g. false≢true (sym (ap (may_decide n cut o (aims.Append e)) g) ∙ may)) ∙ h
moved_on n cut later o (aims.Settle m) a y le may h = same_at cut later o (aims.Settle m) a (λ g. false≢true (sym (ap (may_decide n cut o (aims.Settle m)) g) ∙ may)) ∙ h
moved_on n cut later o aims.Tail a y le may h = same_at cut later o aims.Tail a (λ g. false≢true (sym (ap (may_decide n cut o aims.Tail) g) ∙ may)) ∙ h
moved_on n cut later o aims.Seal a y le may h = same_at cut later o aims.Seal a (λ g. false≢true (sym (ap (may_decide n cut o aims.Seal) g) ∙ may)) ∙ h
moved_on n cut later o (aims.Trim m) a y le may h = same_at cut later o (aims.Trim m) a (λ g. false≢true (sym (ap (may_decide n cut o (aims.Trim m)) g) ∙ may)) ∙ h

pub told_later : (c : Cell) (later t : ℕ) (x : Option Answer) → IsLawful c → c.cut ≤ later → IsToldAs c.cut (operation c t) x → IsToldAs later (operation c t) x
told_later c later t None law le h = h
told_later c later t (Some y) law le h = (h.0, by (operation c t).decided refl h.1)
  where
    by : (z : Option Outcome) → (operation c t).decided ≡ z → taken c.cut (operation c t) z ≡ Some (told_at (task_of (op_of (operation c t).aim)) c.cut y) → taken later (operation c t) z ≡ Some (told_at (task_of (op_of (operation c t).aim)) later y)
    by None e k = absurd (none-some _ k)
    by (Some a) e k = moved_on (length c.servers) c.cut later (operation c t) (operation c t).aim a y le ((law.law.quorum.operations t).justified a e) k
