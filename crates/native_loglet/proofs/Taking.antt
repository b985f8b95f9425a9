-- An answer is taken: it is what the client of the cell's operation is told.
use Rattle.std.proofs.Common.{◌≡◌, ℕ, ◌+◌, ◌^◌, ◌<◌, ◌≤◌, Bool, true, false, cond, refl, sym, ◌∙◌, ap, subst, arith, [], ◌∷◌, length, drop, set, Option, Some, None, max}
use Rattle.std.specs.Prelude.{is_some, IsSome, nat_lt, slice_get, count_by, option_map, if◌then◌else◌}
use Rattle.native_loglet.specs.Natives.{UpdatesAt}
use Rattle.std.proofs.lemmas.Bool.{false≢true, true≢false}
use Rattle.std.proofs.lemmas.Option.{same_Some}
use Rattle.std.proofs.lemmas.List.{length-set}
use Rattle.std.proofs.lemmas.List.Sums.{sum_by-set}
use Rattle.delos_types.specs.declared.entry.Entry.{Entry}
use Rattle.loglet_api.specs.declared.call.Answer.{Answer}
use Rattle.loglet_api.specs.declared.call.Answer.TheVariants.{Got, CutAt}
use Rattle.loglet_api.specs.declared.call.Task.{Task}
use Rattle.loglet_api.specs.declared.call.Task.TheVariants.{Reading}
use Rattle.loglet_api.specs.declared.call.LogletCall.TheVariants.{Take as CallTake}
use Rattle.loglet_api.specs.declared.call.LogletAnswer.TheVariants.{Taken}
use Rattle.loglet_api.specs.View.{LogletView, size_of, IsOpen}
use Rattle.loglet_api.specs.Sound.{IsSound}
use Rattle.loglet_api.specs.Step.{LogletStep, CanCall, IsUndecidedAt, task_of, wanted_by, told_reach, told_firm, told_cap, told_lacks}
use Rattle.quorum_cell.specs.declared.operation.Aim.{Aim}
use Rattle.quorum_cell.specs.declared.operation.Aim.TheVariants.{Append as AimAppend, Settle as AimSettle, Tail as AimTail, Seal as AimSeal, Read as AimRead, Trim as AimTrim}
use Rattle.quorum_cell.specs.declared.operation.Outcome.{Outcome}
use Rattle.quorum_cell.specs.declared.operation.Outcome.TheVariants.{Reached, OpenTail, SealedTail, Shut, Found, Gone, Beyond, TrimDone, NoQuorum}
use Rattle.quorum_cell.specs.declared.operation.CellStep.TheVariants.{Take}
use Rattle.quorum_cell.specs.Cells.{Cell, Operation, operation, no_operation, is_seal, is_lack, seals, lacks}
use Rattle.quorum_cell.specs.Tallies.{may_decide, entry_heard}
use Rattle.quorum_cell.specs.Outcomes.{OutcomeHolds}
use Rattle.quorum_cell.specs.Steps.{cell_step, give, given_outcome, reached, shown as shown_length, cap_after}
use Rattle.quorum_cell.specs.Law.{QuorumLaw}
use Rattle.quorum_cell.proofs.Conclusions.{outcome_holds}
use Rattle.quorum_cell.proofs.Lawful.{step_lawful}
use Rattle.quorum_cell.proofs.Runs.{step_later}
use Rattle.cell_views.specs.Views.{counted, answer_of, taken, op_of}
use Rattle.cell_views.proofs.Calls.{given_to, spelled_after}
use Rattle.cell_views.proofs.Moves.{count_same}
use Rattle.cell_views.proofs.Sounds.{open_known}
use Rattle.cell_views.proofs.Tells.{Tells, tells}
use Rattle.native_plan.specs.declared.pending.Pending.{Pending}
use Rattle.native_plan.specs.Pendings.{plan_left, left_by, left_now}
use Rattle.native_ties.specs.Parts.{IsPartOf, HasFound, IsBounded}
use Rattle.native_ties.proofs.Bounds.{bounded}
use Rattle.native_ties.proofs.Hearing.{put_there, put_other}
use Rattle.native_loglet.specs.declared.closing.Decided.{Decided}
use Rattle.native_loglet.specs.Steps.{Reaches}
use Rattle.native_loglet.specs.Natives.{Native, PendingList, shown, look_in, loglet_of, manner_of, IsOpenAs, IsCellOf}
use Rattle.native_loglet.specs.Closing.{TakesOut, Waits, answer_by, is_cut, answer_for}
use Rattle.native_loglet.proofs.Viewing.{fits_own, manner_is}
use Rattle.native_loglet.proofs.Mails.{strays_stay}
use Rattle.native_loglet.proofs.Extending.{run_extends}
use Rattle.native_loglet.proofs.Stepping.{tied_sound, call_of, open_is, open_there, seen_is, not_at, kept_left, others_open}
use Rattle.native_loglet.proofs.Alike.{IsOwned, Alike, alike_tied, step_alike}

---- what it is answered

by_outcome : (n cut : ℕ) (o : Operation) (got : Option Entry) (aim : Aim) (x : Outcome) → may_decide n cut o aim x ≡ true → (x ≡ Found → (q : ℕ) → aim ≡ AimRead q → entry_heard q o.heard ≡ got)
    → answer_by cut (task_of (op_of aim)) o.size_before o.firm_before got x ≡ answer_of cut o aim x
by_outcome n cut o got (AimAppend e) Reached h f = refl
by_outcome n cut o got (AimAppend e) Shut h f = refl
by_outcome n cut o got (AimAppend e) (NoQuorum u) h f = refl
by_outcome n cut o got (AimAppend e) _ h f = absurd (false≢true h)
by_outcome n cut o got (AimSettle m) Reached h f = refl
by_outcome n cut o got (AimSettle m) Shut h f = refl
by_outcome n cut o got (AimSettle m) (NoQuorum u) h f = refl
by_outcome n cut o got (AimSettle m) _ h f = absurd (false≢true h)
by_outcome n cut o got AimTail (OpenTail t) h f = refl
by_outcome n cut o got AimTail (SealedTail t) h f = refl
by_outcome n cut o got AimTail (NoQuorum u) h f = refl
by_outcome n cut o got AimTail _ h f = absurd (false≢true h)
by_outcome n cut o got AimSeal Shut h f = refl
by_outcome n cut o got AimSeal (NoQuorum u) h f = refl
by_outcome n cut o got AimSeal _ h f = absurd (false≢true h)
by_outcome n cut o got (AimRead q) Found h f = ap (option_map (λ e. Got e)) (sym (f refl q refl))
by_outcome n cut o got (AimRead q) Gone h f = refl
by_outcome n cut o got (AimRead q) Beyond h f = refl
by_outcome n cut o got (AimRead q) (NoQuorum u) h f = refl
by_outcome n cut o got (AimRead q) _ h f = absurd (false≢true h)
by_outcome n cut o got (AimTrim m) TrimDone h f = refl
by_outcome n cut o got (AimTrim m) (NoQuorum u) h f = refl
by_outcome n cut o got (AimTrim m) _ h f = absurd (false≢true h)

by_cut : (n cut : ℕ) (o : Operation) (got : Option Entry) (aim : Aim) (x : Outcome) → may_decide n cut o aim x ≡ true → (x ≡ Found → (q : ℕ) → aim ≡ AimRead q → entry_heard q o.heard ≡ got)
    → (if is_cut (task_of (op_of aim)) cut then Some (CutAt cut) else answer_by cut (task_of (op_of aim)) o.size_before o.firm_before got x) ≡ answer_of cut o aim (given_outcome cut aim x)
by_cut n cut o got (AimAppend e) x h f = by_outcome n cut o got (AimAppend e) x h f
by_cut n cut o got (AimSettle m) x h f = by_outcome n cut o got (AimSettle m) x h f
by_cut n cut o got AimTail x h f = by_outcome n cut o got AimTail x h f
by_cut n cut o got AimSeal x h f = by_outcome n cut o got AimSeal x h f
by_cut n cut o got (AimTrim m) x h f = by_outcome n cut o got (AimTrim m) x h f
by_cut n cut o got (AimRead q) x h f = by (nat_lt q cut)
  where
    by : (b : Bool) → (if b then Some (CutAt cut) else answer_by cut (Reading q) o.size_before o.firm_before got x) ≡ answer_of cut o (AimRead q) (if b then Gone else x)
    by true = refl
    by false = by_outcome n cut o got (AimRead q) x h f

same_place : (p q : ℕ) (aim : Aim) → aim ≡ AimRead p → aim ≡ AimRead q → p ≡ q
same_place p q aim e f = cc

-- the entry that a read got is the one that it heard first
found_same : (c : Cell) (t : ℕ) (p : Pending) → QuorumLaw c → IsPartOf c t p → p.outcome ≡ Some Found → (q : ℕ) → (operation c t).aim ≡ AimRead q → entry_heard q (operation c t).heard ≡ p.got
found_same c t p law part z q aim =
    let g : HasFound c t p = part.found z in
    let w : OutcomeHolds c (operation c t) Found = outcome_holds c law t Found (part.outcome ∙ z) in
    let same : w.0 ≡ q = same_place w.0 q (operation c t).aim w.1 aim in
    let entry_same : w.3.0 ≡ g.entry = same_Some _ _ (sym w.3.2 ∙ ap (slice_get c.entries) same ∙ g.is q aim) in
    ap (λ k. entry_heard k (operation c t).heard) (sym same) ∙ w.3.1 ∙ ap (λ e. Some e) entry_same ∙ sym g.got

-- the code's answer is the cell's
answer_is : (c : Cell) (t : ℕ) (p : Pending) (cut : ℕ) (d : Decided) → QuorumLaw c → IsPartOf c t p → c.cut ≡ cut → p.task ≡ d.task → p.size ≡ d.size → p.firm ≡ d.firm → p.got ≡ d.got → p.outcome ≡ Some d.outcome
    → answer_for cut d ≡ answer_of c.cut (operation c t) (operation c t).aim (given_outcome c.cut (operation c t).aim d.outcome)
answer_is c t p cut d law part cuts task size firm got outcome =
    let may = (law.operations t).justified d.outcome (part.outcome ∙ outcome) in
    let heard = λ (x : d.outcome ≡ Found) (q : ℕ) (aim : (operation c t).aim ≡ AimRead q). found_same c t p law part (outcome ∙ ap (λ y. Some y) x) q aim ∙ got in
    let tasks : d.task ≡ task_of (op_of (operation c t).aim) = sym task ∙ sym part.shows.task in
    let sizes : d.size ≡ (operation c t).size_before = sym size ∙ sym part.shows.size in
    let firms : d.firm ≡ (operation c t).firm_before = sym firm ∙ sym part.shows.firm in
    ap {B = Option Answer} (λ k. answer_for k d) (sym cuts)
    ∙ ap {B = Option Answer} (λ z. if is_cut z c.cut then Some (CutAt c.cut) else answer_by c.cut z d.size d.firm d.got d.outcome) tasks
    ∙ ap {B = Option Answer} (λ z. if is_cut (task_of (op_of (operation c t).aim)) c.cut then Some (CutAt c.cut) else answer_by c.cut (task_of (op_of (operation c t).aim)) z d.firm d.got d.outcome) sizes
    ∙ ap {B = Option Answer} (λ z. if is_cut (task_of (op_of (operation c t).aim)) c.cut then Some (CutAt c.cut) else answer_by c.cut (task_of (op_of (operation c t).aim)) (operation c t).size_before z d.got d.outcome) firms
    ∙ by_cut (length c.servers) c.cut (operation c t) d.got (operation c t).aim d.outcome may heard

---- it is given

-- the loglet after an answer was given to an operation that speaks of a length
abbrev pub taken_to : Native → PendingList → Answer → ℕ → Native
taken_to a n y size = record a { pending = n; marks = record a.marks { reach = max a.marks.reach (told_reach size y); firm = max a.marks.firm (told_firm size y); cap = told_cap y a.marks.cap; lacks = a.marks.lacks + told_lacks y } }

take_is : (c : Cell) (t : ℕ) (x : Outcome) → (operation c t).closed ≡ false → (operation c t).decided ≡ Some x → cell_step c (Take t) ≡ give c t (operation c t) (Some x)
take_is c t x h z = by (operation c t).closed h ∙ ap (give c t (operation c t)) z
  where
    by : (b : Bool) → b ≡ false → (if b then c else give c t (operation c t) (operation c t).decided) ≡ give c t (operation c t) (operation c t).decided
    by true e = absurd (true≢false e)
    by false e = refl

module _ (a : Native) (n : PendingList) (c : Cell) (t : ℕ) (p : Pending) (x : Outcome) (y : Answer) (size : ℕ) (h : IsCellOf a c) (part : IsPartOf c t p) (outcome : p.outcome ≡ Some x) (u : UpdatesAt a.pending n t None)
    (z : Tells (manner_of a) c t (operation c t).aim x (given_outcome c.cut (operation c t).aim x)) (same : z.answer ≡ y) (sized : wanted_by p.task p.size ≡ size) where
  is : cell_step c (Take t) ≡ give c t (operation c t) (Some x)
  is = take_is c t x part.shows.is_open (part.outcome ∙ outcome)

  known : t < length c.operations
  known = open_known c t part.shows.is_open

  none : (operation c t).given ≡ None
  none = (h.lawful.law.quorum.operations t).ungiven part.shows.is_open

  wanted : wanted_by (task_of (op_of (operation c t).aim)) (operation c t).size_before ≡ size
  wanted = ap (λ (k : Task). wanted_by k (operation c t).size_before) part.shows.task ∙ ap (wanted_by p.task) part.shows.size ∙ sized

  reach_is : reached (operation c t) x ≡ told_reach size y
  reach_is = z.reach ∙ ap (λ k. told_reach k z.answer) wanted ∙ ap (told_reach size) same

  firm_is : shown_length (operation c t) x ≡ told_firm size y
  firm_is = z.firm ∙ ap (λ k. told_firm k z.answer) wanted ∙ ap (told_firm size) same

  cap_is : cap_after c.cap x ≡ told_cap y a.marks.cap
  cap_is = z.cap ∙ ap (told_cap z.answer) h.cap ∙ ap (λ (w : Answer). told_cap w a.marks.cap) same

  lacks_is : count_by (λ (o : Operation). is_lack o.given) (set c.operations t (given_to c t x)) ≡ a.marks.lacks + told_lacks y
  lacks_is =
      let more : count_by (λ (o : Operation). is_lack o.given) (set c.operations t (given_to c t x)) ≡ lacks c + told_lacks z.answer = omega (arith, sum_by-set (λ (o : Operation). cond (is_lack o.given) 1 0) c.operations t (given_to c t x) no_operation known, z.lacks, ap {B = ℕ} (λ w. cond (is_lack w) 1 0) none) in
      more ∙ ap (λ k. k + told_lacks z.answer) h.lacks_are ∙ ap (λ (w : Answer). a.marks.lacks + told_lacks w) same

  here : IsOpenAs (cell_step c (Take t)) t (look_in n t)
  here = subst (IsOpenAs (cell_step c (Take t)) t) (sym u.1) (ap (λ (d : Cell). (operation d t).closed) is ∙ ap (λ (o : Operation). o.closed) (put_there c t (given_to c t x) known))

  pub take_tied : IsCellOf (taken_to a n y size) (cell_step c (Take t))
  take_tied = record {
    lawful = step_lawful c (Take t) h.lawful;
    spelled = spelled_after c (Take t) h.spelled tt;
    odd = (h.odd.0, ap (λ (d : Cell). length d.servers) is ∙ h.odd.1);
    few = omega (arith, h.few, ap (λ (d : Cell). length d.servers) is);
    room = ap (λ (d : Cell). d.room) is ∙ h.room;
    limit = ap (λ (d : Cell). d.limit) is ∙ h.limit;
    entries = ap (λ (d : Cell). drop d.cut d.entries) is ∙ h.entries;
    servers = ap (λ (d : Cell). d.servers) is ∙ h.servers;
    cut = ap (λ (d : Cell). d.cut) is ∙ h.cut;
    reach = ap (λ (d : Cell). d.reach) is ∙ ap (λ k. max k (reached (operation c t) x)) h.reach ∙ ap (max a.marks.reach) reach_is;
    firm = ap (λ (d : Cell). d.firm) is ∙ ap (λ k. max k (shown_length (operation c t) x)) h.firm ∙ ap (max a.marks.firm) firm_is;
    cap = ap (λ (d : Cell). d.cap) is ∙ cap_is;
    faults = ap (λ (d : Cell). counted (length d.faults)) is ∙ h.faults;
    begun = ap (λ (d : Cell). length d.operations) is ∙ length-set c.operations t _ ∙ h.begun;
    seals_are = ap seals is ∙ count_same (λ (o : Operation). is_seal o.aim) c.operations t (given_to c t x) refl ∙ h.seals_are;
    lacks_are = ap lacks is ∙ lacks_is;
    operations = others_open a (taken_to a n y size) c (cell_step c (Take t)) t h (step_later c (Take t)) (run_extends (Take t ∷ []) c) (λ q other. ap (λ (d : Cell). operation d q) is ∙ put_other c t q (given_to c t x) other) (λ q other. u.2 q (not_at t q other)) here;
    strays = strays_stay a c (cell_step c (Take t)) h (step_later c (Take t)) (run_extends (Take t ∷ []) c);
  }

tells_of : (a : Native) (c : Cell) (t : ℕ) (p : Pending) (x : Outcome) → IsCellOf a c → IsPartOf c t p → p.outcome ≡ Some x → Tells (manner_of a) c t (operation c t).aim x (given_outcome c.cut (operation c t).aim x)
tells_of a c t p x h part outcome = tells (manner_of a) c h.lawful t (operation c t).aim refl x ((h.lawful.law.quorum.operations t).justified x (part.outcome ∙ outcome)) (outcome_holds c h.lawful.law.quorum t x (part.outcome ∙ outcome))

-- what an operation of the cell that was taken out is
record Out (a : Native) (n : PendingList) (c : Cell) (t : ℕ) (d : Decided) (y : Answer) (size : ℕ) : Type 0 where
  p : Pending
  part : IsPartOf c t p
  outcome : p.outcome ≡ Some d.outcome
  answer : answer_of c.cut (operation c t) (operation c t).aim (given_outcome c.cut (operation c t).aim d.outcome) ≡ Some y
  tied : IsCellOf (taken_to a n y size) (cell_step c (Take t))

out_of : (a : Native) (n : PendingList) (c : Cell) (t : ℕ) (d : Decided) (y : Answer) (size : ℕ) → IsCellOf a c → TakesOut a.pending t d n → Some y ≡ answer_for a.marks.cut d → size ≡ wanted_by d.task d.size → Out a n c t d y size
out_of a n c t d y size h o answers sized =
    let part : IsPartOf c t o.p = open_there a c t (Some o.p) o.was h in
    let told = tells_of a c t o.p d.outcome h part o.outcome in
    let answer : answer_of c.cut (operation c t) (operation c t).aim (given_outcome c.cut (operation c t).aim d.outcome) ≡ Some y = sym (answers ∙ answer_is c t o.p a.marks.cut d h.lawful.law.quorum part h.cut o.task o.size o.firm o.got o.outcome) in
    let same : told.answer ≡ y = same_Some _ _ (sym told.is ∙ answer) in
    let wanted : wanted_by o.p.task o.p.size ≡ size = ap (λ (k : Task). wanted_by k o.p.size) o.task ∙ ap (wanted_by d.task) o.size ∙ sym sized in
    record {
      p = o.p;
      part = part;
      outcome = o.outcome;
      answer = answer;
      tied = take_tied a n c t o.p d.outcome y size h part o.outcome o.rest told same wanted;
    }

-- an answer is taken, whole
pub takes_owned : (a : Native) (n : PendingList) (v : LogletView) (t : ℕ) (d : Decided) (y : Answer) (size : ℕ) → loglet_of a ≡ v → IsOwned a → CanCall v (CallTake t) → TakesOut a.pending t d n → Some y ≡ answer_for a.marks.cut d → size ≡ wanted_by d.task d.size
    → IsOwned (taken_to a n y size) × LogletStep v (CallTake t) (Taken (Some y)) (loglet_of (taken_to a n y size))
takes_owned a n v t d y size e h can o answers sized =
    let x : Out a n h.0 t d y size = out_of a n h.0 t d y size h.1 o answers sized in
    let decided : taken h.0.cut (operation h.0 t) (operation h.0 t).decided ≡ Some y = ap (taken h.0.cut (operation h.0 t)) (x.part.outcome ∙ x.outcome) ∙ x.answer in (
      (cell_step h.0 (Take t), x.tied),
      call_of a (taken_to a n y size) h.0 (Take t) v (CallTake t) (Taken (Some y)) e h.1 x.tied tt refl (manner_of a).left (fits_own a) (kept_left a (taken_to a n y size) t o.rest) (manner_is a h.0 h.1)
          (rw (x.part.shows.is_open, decided) refl),
    )

pub takes_in : (a : Native) (n : PendingList) (t : ℕ) (d : Decided) (y : Answer) (size : ℕ) (c : Cell) → IsCellOf a c → TakesOut a.pending t d n → Some y ≡ answer_for a.marks.cut d → size ≡ wanted_by d.task d.size
    → Reaches a c (CallTake t) (Taken (Some y)) (taken_to a n y size)
takes_in a n t d y size c h o answers sized =
    let x : Out a n c t d y size = out_of a n c t d y size h o answers sized in
    record { steps = Take t ∷ []; are = (ap (taken c.cut (operation c t)) (x.part.outcome ∙ x.outcome) ∙ x.answer, refl); cell = x.tied }

-- the lengths that are told fit words
pub taken_small : (a : Native) (n : PendingList) (t : ℕ) (d : Decided) (y : Answer) (size : ℕ) → IsOwned a → TakesOut a.pending t d n → Some y ≡ answer_for a.marks.cut d → size ≡ wanted_by d.task d.size
    → (told_reach size y < 2 ^ 64) × (told_firm size y < 2 ^ 64) × (a.marks.lacks + 1 < 2 ^ 64)
taken_small a n t d y size h o answers sized =
    let x : Out a n h.0 t d y size = out_of a n h.0 t d y size h.1 o answers sized in
    let s : IsSound (loglet_of (taken_to a n y size)) = tied_sound (taken_to a n y size) (cell_step h.0 (Take t)) x.tied in
    let before : IsSound (loglet_of a) = tied_sound a h.0 h.1 in
    let reach : max a.marks.reach (told_reach size y) ≤ max a.marks.firm (told_firm size y) = s.reach in
    let firm : max a.marks.firm (told_firm size y) ≤ size_of (loglet_of (taken_to a n y size)) = s.firm in
    let within : size_of (loglet_of (taken_to a n y size)) ≤ a.room = s.size in
    let room : a.room ≤ 2 ^ 32 = s.shape.room.1 in
    let lacks_few : a.marks.lacks ≤ a.marks.begun = before.lacks in
    let begun_few : a.marks.begun ≤ 2 ^ 62 = before.begun in
    (omega (arith, reach, firm, within, room), omega (arith, firm, within, room), omega (arith, lacks_few, begun_few))

pub size_small : (a : Native) (n : PendingList) (t : ℕ) (d : Decided) → IsOwned a → TakesOut a.pending t d n → d.size + 1 < 2 ^ 64
size_small a n t d h o =
    let part : IsPartOf h.0 t o.p = open_there a h.0 t (Some o.p) o.was h.1 in
    let size : (operation h.0 t).size_before ≤ length h.0.entries = (h.1.lawful.law.quorum.operations t).size in
    omega (arith, size, part.shows.size, o.size, h.1.lawful.law.quorum.fits, h.1.lawful.shape.room.1)

pub found_got : (a : Native) (n : PendingList) (t : ℕ) (d : Decided) → IsOwned a → TakesOut a.pending t d n → d.outcome ≡ Found → IsSome d.got
found_got a n t d h o found =
    let part : IsPartOf h.0 t o.p = open_there a h.0 t (Some o.p) o.was h.1 in
    ap is_some (sym o.got ∙ (part.found (o.outcome ∙ ap (λ y. Some y) found)).got)

---- it isn't decided

pub waits_owned : (a b : Native) (v : LogletView) (t : ℕ) → loglet_of a ≡ v → IsOwned a → CanCall v (CallTake t) → Alike a b → Waits a.pending t → LogletStep v (CallTake t) (Taken None) (loglet_of b)
waits_owned a b v t e h can k waits =
    let z : (p : Pending) × (look_in a.pending t ≡ Some p) = open_is a h.0 v t e h.1 can in
    let waiting : z.0.outcome ≡ None = waits z.0 z.1 in
    let small : length h.0.entries ≤ 2 ^ 32 = omega (arith, h.1.lawful.law.quorum.fits, h.1.lawful.shape.room.1) in
    let bound : IsBounded (length h.0.servers) z.0 = bounded h.0 t z.0 (open_there a h.0 t (Some z.0) z.1 h.1) waiting small in
    let left : left_now z.0 ≡ plan_left z.0 = ap (λ w. left_by w (plan_left z.0)) waiting in
    let some : 0 < (left_now z.0).0 + (left_now z.0).1 = subst (λ (l : ℕ × ℕ). 0 < l.0 + l.1) (sym left) (omega (arith, bound.some)) in
    let undecided : IsUndecidedAt (loglet_of a) t = record { operation = shown z.0; is = seen_is a h.0 t z.0 h.1 z.1; undecided = some } in
    step_alike a b v (CallTake t) (Taken None) e h k can (undecided, refl)

pub waits_in : (a b : Native) (t : ℕ) (c : Cell) → IsCellOf a c → IsOpen (loglet_of a) t → Alike a b → Waits a.pending t → Reaches a c (CallTake t) (Taken None) b
waits_in a b t c h can k waits =
    let z : (p : Pending) × (look_in a.pending t ≡ Some p) = open_is a c (loglet_of a) t refl h can in
    let part : IsPartOf c t z.0 = open_there a c t (Some z.0) z.1 h in
    record { steps = []; are = (ap (taken c.cut (operation c t)) (part.outcome ∙ waits z.0 z.1), refl); cell = alike_tied a b c k h }
