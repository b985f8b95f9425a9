-- Lists of calls of a file loglet.
use Rattle.std.proofs.Common.{◌≡◌, ℕ, zero, suc, ◌+◌, ◌-◌, ◌<◌, ◌≤◌, Bool, true, false, refl, sym, ◌∙◌, ap, subst, arith, List, [], ◌∷◌, ◌++◌, length, get_or, drop, Option, Some, None, min, max}
use Rattle.std.specs.Prelude.{nat_le, nat_lt, if◌then◌else◌, slice_get, option_map, Contains}
use Rattle.std.proofs.lemmas.Bool.{leb-true}
use Rattle.std.proofs.lemmas.Option.{none-some, same_Some}
use Rattle.delos_types.specs.declared.entry.Entry.{Entry}
use Rattle.loglet_api.specs.declared.call.Answer.{Answer}
use Rattle.loglet_api.specs.declared.call.Answer.TheVariants.{Placed, SealedTail as TailSealed, TrimDone as Trimmed, NoQuorum as Lacking, CutAt}
use Rattle.loglet_api.specs.declared.call.LogletCall.{LogletCall}
use Rattle.loglet_api.specs.declared.call.LogletCall.TheVariants.{Begin as CallBegin, Take as CallTake}
use Rattle.loglet_api.specs.declared.call.Op.TheVariants.{Append}
use Rattle.loglet_api.specs.declared.call.LogletAnswer.{LogletAnswer}
use Rattle.loglet_api.specs.declared.call.LogletAnswer.TheVariants.{Begun, Taken}
use Rattle.loglet_api.specs.View.{LogletView}
use Rattle.loglet_api.specs.Run.{LogletRun}
use Rattle.loglet_api.specs.Step.{LogletStep, Begins, TakesAnswer, told_cap}
use Rattle.majority_rule.specs.Majority.{is_majority}
use Rattle.quorum_cell.specs.declared.operation.Aim.{Aim}
use Rattle.quorum_cell.specs.declared.operation.Aim.TheVariants.{Append as AimAppend, Settle as AimSettle, Tail as AimTail, Seal as AimSeal, Read as AimRead, Trim as AimTrim}
use Rattle.quorum_cell.specs.declared.operation.Outcome.{Outcome}
use Rattle.quorum_cell.specs.declared.operation.Outcome.TheVariants.{Reached, OpenTail, SealedTail, Shut, Found, Gone, Beyond, TrimDone, NoQuorum}
use Rattle.quorum_cell.specs.declared.operation.CellStep.{CellStep}
use Rattle.quorum_cell.specs.Servers.{Server, length_of, unsealed_length}
use Rattle.quorum_cell.specs.Cells.{Cell, Operation, operation, no_server}
use Rattle.quorum_cell.specs.Tallies.{entry_heard}
use Rattle.quorum_cell.specs.Steps.{run_cell, begin, given_outcome}
use Rattle.quorum_cell.specs.Law.{QuorumLaw, ServerHolds, Later}
use Rattle.quorum_cell.specs.Outcomes.{IsTrimmed, RestsOnCauses}
use Rattle.quorum_cell.proofs.Lists.{slice_get_drop}
use Rattle.quorum_cell.proofs.Conclusions.{outcome_holds, reach_stays}
use Rattle.quorum_cell.proofs.Grounds.{outcome_rests}
use Rattle.quorum_cell.proofs.Runs.{run_later}
use Rattle.quorum_cell.proofs.Steps.{unsealed_within}
use Rattle.cell_views.specs.Views.{taken, answer_of}
use Rattle.file_loglet.proofs.Aims.{run_aim, begun_aim}
use Rattle.file_loglet.proofs.Deciding.{one_majority}
use Rattle.quorum_cell.proofs.Runs.{run_cell-append}
use Rattle.file_loglet.specs.File.{FileView}
use Rattle.file_loglet.specs.Steps.{IsCellOf, Reaches, FileStep, FileRun}
use Rattle.file_loglet.specs.Standing.{Stands}

pub run_in : (calls : List (LogletCall × LogletAnswer)) (a b : FileView) (c : Cell) → IsCellOf a c → FileRun a calls b → (steps : List CellStep) × IsCellOf b (run_cell steps c)
run_in [] a b c h r = ([], subst (λ (x : FileView). IsCellOf x c) (sym r) h)
run_in (call ∷ calls) a b c h r =
    let one : Reaches c call.0 call.1 r.0 = r.1.cells c h in
    let rest : (steps : List CellStep) × IsCellOf b (run_cell steps (run_cell one.steps c)) = run_in calls r.0 b (run_cell one.steps c) one.cell r.2 in
    (one.steps ++ rest.0, subst (λ (x : Cell). IsCellOf b x) (sym (run_cell-append one.steps rest.0 c)) rest.1)

pub run_shown : (calls : List (LogletCall × LogletAnswer)) (a b : FileView) → FileRun a calls b → LogletRun a.loglet calls b.loglet
run_shown [] a b r = ap (λ (x : FileView). x.loglet) r
run_shown (call ∷ calls) a b r = (r.0.loglet, r.1.loglet, run_shown calls r.0 b r.2)

-- the numbers that both have
cut_is : (a : FileView) (c : Cell) → IsCellOf a c → a.loglet.cut ≡ c.cut
cut_is a c h = ap (λ (v : LogletView). v.cut) h.shows

log_is : (a : FileView) (c : Cell) → IsCellOf a c → a.loglet.log ≡ drop c.cut c.entries
log_is a c h = ap (λ (v : LogletView). v.log) h.shows

reach_is : (a : FileView) (c : Cell) → IsCellOf a c → a.loglet.reach ≡ c.reach
reach_is a c h = ap (λ (v : LogletView). v.reach) h.shows

cap_is : (a : FileView) (c : Cell) → IsCellOf a c → a.loglet.cap ≡ c.cap
cap_is a c h = ap (λ (v : LogletView). v.cap) h.shows

begun_is : (a : FileView) (c : Cell) → IsCellOf a c → a.loglet.begun ≡ length c.operations
begun_is a c h = ap (λ (v : LogletView). v.begun) h.shows

---- what was told

-- from a cell to a later one
goes_later : (a b : FileView) (c d : Cell) → IsCellOf a c → IsCellOf b d → Later c d → (a.loglet.reach ≤ b.loglet.reach) × ((t : ℕ) → a.loglet.cap ≡ Some t → (u : ℕ) × (b.loglet.cap ≡ Some u) × (u ≤ t))
goes_later a b c d h k l = (
  omega (arith, l.reach, reach_is a c h, reach_is b d k),
  λ t e. (let x : (u : ℕ) × (d.cap ≡ Some u) × (u ≤ t) = l.cap t (sym (cap_is a c h) ∙ e) in (x.0, cap_is b d k ∙ x.1, x.2)),
)

told_placed : (a b : FileView) (t p : ℕ) → LogletStep a.loglet (CallTake t) (Taken (Some (Placed p))) b.loglet → p < b.loglet.reach
told_placed a b t p s =
    let x : TakesAnswer a.loglet t (Placed p) b.loglet = s.does in
    let reach : b.loglet.reach ≡ max a.loglet.reach (p + 1) = ap (λ (v : LogletView). v.reach) x.rest in
    omega (arith, reach)

told_sealed : (a b : FileView) (t n : ℕ) → LogletStep a.loglet (CallTake t) (Taken (Some (TailSealed n))) b.loglet → (u : ℕ) × (b.loglet.cap ≡ Some u) × (u ≤ n)
told_sealed a b t n s =
    let x : TakesAnswer a.loglet t (TailSealed n) b.loglet = s.does in
    let cap : b.loglet.cap ≡ told_cap (TailSealed n) a.loglet.cap = ap (λ (v : LogletView). v.cap) x.rest in
    by a.loglet.cap cap
  where
    by : (z : Option ℕ) → b.loglet.cap ≡ told_cap (TailSealed n) z → (u : ℕ) × (b.loglet.cap ≡ Some u) × (u ≤ n)
    by None e = (n, e, omega arith)
    by (Some m) e = (min m n, e, omega arith)

-- what is answered in a list of calls is told after it
placed_in : (calls : List (LogletCall × LogletAnswer)) (a b : FileView) (c : Cell) (t p k : ℕ) → IsCellOf a c → FileRun a calls b → k < length calls → get_or calls k (CallTake t, Taken (Some (Placed p))) ≡ (CallTake t, Taken (Some (Placed p))) → p < b.loglet.reach
placed_in [] a b c t p k h r l e = absurd (omega (arith, l))
placed_in (call ∷ calls) a b c t p zero h r l e =
    let one : Reaches c call.0 call.1 r.0 = r.1.cells c h in
    let rest : (steps : List CellStep) × IsCellOf b (run_cell steps (run_cell one.steps c)) = run_in calls r.0 b (run_cell one.steps c) one.cell r.2 in
    let step : LogletStep a.loglet (CallTake t) (Taken (Some (Placed p))) r.0.loglet = subst (λ (x : LogletCall × LogletAnswer). LogletStep a.loglet x.0 x.1 r.0.loglet) e r.1.loglet in
    omega (arith, told_placed a r.0 t p step, (goes_later r.0 b _ _ one.cell rest.1 (run_later rest.0 (run_cell one.steps c))).0)
placed_in (call ∷ calls) a b c t p (suc k) h r l e = placed_in calls r.0 b (run_cell (r.1.cells c h).steps c) t p k (r.1.cells c h).cell r.2 (omega (arith, l)) e

sealed_in : (calls : List (LogletCall × LogletAnswer)) (a b : FileView) (c : Cell) (t n k : ℕ) → IsCellOf a c → FileRun a calls b → k < length calls → get_or calls k (CallTake t, Taken (Some (TailSealed n))) ≡ (CallTake t, Taken (Some (TailSealed n))) → (u : ℕ) × (b.loglet.cap ≡ Some u) × (u ≤ n)
sealed_in [] a b c t n k h r l e = absurd (omega (arith, l))
sealed_in (call ∷ calls) a b c t n zero h r l e =
    let one : Reaches c call.0 call.1 r.0 = r.1.cells c h in
    let rest : (steps : List CellStep) × IsCellOf b (run_cell steps (run_cell one.steps c)) = run_in calls r.0 b (run_cell one.steps c) one.cell r.2 in
    let step : LogletStep a.loglet (CallTake t) (Taken (Some (TailSealed n))) r.0.loglet = subst (λ (x : LogletCall × LogletAnswer). LogletStep a.loglet x.0 x.1 r.0.loglet) e r.1.loglet in
    let told : (u : ℕ) × (r.0.loglet.cap ≡ Some u) × (u ≤ n) = told_sealed a r.0 t n step in
    let after : (u : ℕ) × (b.loglet.cap ≡ Some u) × (u ≤ told.0) = (goes_later r.0 b _ _ one.cell rest.1 (run_later rest.0 (run_cell one.steps c))).1 told.0 told.1 in
    (after.0, after.1, omega (arith, after.2, told.2))
sealed_in (call ∷ calls) a b c t n (suc k) h r l e = sealed_in calls r.0 b (run_cell (r.1.cells c h).steps c) t n k (r.1.cells c h).cell r.2 (omega (arith, l)) e

---- entries stand

-- what was reached stands in the cell
stands_in : (a : FileView) (c : Cell) (p : ℕ) (e : Entry) → IsCellOf a c → p < c.reach → slice_get c.entries p ≡ Some e → Stands a p e
stands_in a c p e h below is = record {
  entry = λ kept. (let place : c.cut + (p - a.loglet.cut) ≡ p = omega (arith, kept, cut_is a c h) in ap (λ (es : List Entry). slice_get es (p - a.loglet.cut)) (log_is a c h) ∙ slice_get_drop c.cut c.entries (p - a.loglet.cut) ∙ ap (slice_get c.entries) place ∙ is);
  stored = omega (arith, below, long);
  copy = λ base. (let place : a.server.base + (p - a.server.base) ≡ p = omega (arith, base) in here.same (p - a.server.base) (omega (arith, base, below, long)) ∙ ap (slice_get c.entries) place ∙ is);
}
  where
    here : ServerHolds c a.server
    here = subst (ServerHolds c) (ap (λ (ss : List Server). get_or ss 0 no_server) h.server) (h.lawful.law.quorum.servers 0)

    reached : nat_le c.reach (unsealed_length a.server) ≡ true
    reached = sym (one_majority (λ i. nat_le c.reach (unsealed_length (get_or (a.server ∷ []) i no_server)))) ∙ sym (ap (λ (ss : List Server). is_majority (length ss) (λ i. nat_le c.reach (unsealed_length (get_or ss i no_server)))) h.server) ∙ h.lawful.law.quorum.reached

    long : c.reach ≤ length_of a.server
    long = (let le : c.reach ≤ unsealed_length a.server = leb-true _ _ reached in let within : unsealed_length a.server ≤ length_of a.server = unsealed_within c a.server here in omega (arith, le, within))

-- no position that was told is past a sealed tail that was told
pub placed_below : (a b : FileView) (calls : List (LogletCall × LogletAnswer)) (c : Cell) (t s p n : ℕ) → IsCellOf a c → FileRun a calls b → Contains calls (CallTake t, Taken (Some (Placed p))) → Contains calls (CallTake s, Taken (Some (TailSealed n))) → p < n
placed_below a b calls c t s p n h r placed sealed =
    let mid : (steps : List CellStep) × IsCellOf b (run_cell steps c) = run_in calls a b c h r in
    let now : Cell = run_cell mid.0 c in
    let law : QuorumLaw now = mid.1.lawful.law.quorum in
    let told : p < b.loglet.reach = placed_in calls a b c t p placed.0 h r placed.1 placed.2 in
    let cap : (u : ℕ) × (b.loglet.cap ≡ Some u) × (u ≤ n) = sealed_in calls a b c s n sealed.0 h r sealed.1 sealed.2 in
    let under : now.reach ≤ cap.0 = reach_stays now now law law (run_later [] now) cap.0 (sym (cap_is b now mid.1) ∙ cap.1) in
    omega (arith, told, reach_is b now mid.1, under, cap.2)

---- what an answer tells of its outcome

lack_of : (cut : ℕ) (o : Operation) (aim : Aim) (a : Outcome) (u : ℕ) → answer_of cut o aim a ≡ Some (Lacking u) → a ≡ NoQuorum u
lack_of cut o (AimAppend e) Reached u h = absurd (cc)
lack_of cut o aim Reached u h = absurd (cc)
lack_of cut o aim (OpenTail t) u h = absurd (cc)
lack_of cut o aim (SealedTail t) u h = absurd (cc)
lack_of cut o AimSeal Shut u h = absurd (cc)
lack_of cut o aim Shut u h = absurd (cc)
lack_of cut o (AimRead p) Found u h = absurd (by (entry_heard p o.heard) h)
  where
    by : (z : Option Entry) → option_map (λ e. Rattle.loglet_api.specs.declared.call.Answer.TheVariants.Got e) z ≡ Some (Lacking u) → ⊥
    by None e = cc
    by (Some x) e = cc
lack_of cut o aim Found u h = absurd (cc)
lack_of cut o aim Gone u h = absurd (cc)
lack_of cut o aim Beyond u h = absurd (cc)
lack_of cut o aim TrimDone u h = absurd (cc)
lack_of cut o aim (NoQuorum n) u h = (let same : Lacking n ≡ Lacking u = same_Some _ _ h in let n_is : n ≡ u = cc in ap NoQuorum n_is)

trim_of : (cut : ℕ) (o : Operation) (aim : Aim) (a : Outcome) → answer_of cut o aim a ≡ Some Trimmed → a ≡ TrimDone
trim_of cut o (AimAppend e) Reached h = absurd (cc)
trim_of cut o aim Reached h = absurd (cc)
trim_of cut o aim (OpenTail t) h = absurd (cc)
trim_of cut o aim (SealedTail t) h = absurd (cc)
trim_of cut o AimSeal Shut h = absurd (cc)
trim_of cut o aim Shut h = absurd (cc)
trim_of cut o (AimRead p) Found h = absurd (by (entry_heard p o.heard) h)
  where
    by : (z : Option Entry) → option_map (λ e. Rattle.loglet_api.specs.declared.call.Answer.TheVariants.Got e) z ≡ Some Trimmed → ⊥
    by None e = cc
    by (Some x) e = cc
trim_of cut o aim Found h = absurd (cc)
trim_of cut o aim Gone h = absurd (cc)
trim_of cut o aim Beyond h = absurd (cc)
trim_of cut o aim TrimDone h = refl
trim_of cut o aim (NoQuorum n) h = absurd (cc)

-- an answer that tells of no cut gives what was decided
given_of : (cut : ℕ) (o : Operation) (aim : Aim) (a : Outcome) (y : Answer) → (CutAt cut ≡ y → ⊥) → answer_of cut o aim (given_outcome cut aim a) ≡ Some y → answer_of cut o aim a ≡ Some y
given_of cut o (AimRead p) a y other h = by (nat_lt p cut) h
  where
    by : (b : Bool) → answer_of cut o (AimRead p) (if b then Gone else a) ≡ Some y → answer_of cut o (AimRead p) a ≡ Some y
    by true e = absurd (other (same_Some _ _ e))
    by false e = e
given_of cut o (AimAppend e) a y other h = h
given_of cut o (AimSettle m) a y other h = h
given_of cut o AimTail a y other h = h
given_of cut o AimSeal a y other h = h
given_of cut o (AimTrim m) a y other h = h

-- what was taken was decided
taken_of : (cut : ℕ) (o : Operation) (z : Option Outcome) (y : Answer) → (CutAt cut ≡ y → ⊥) → taken cut o z ≡ Some y → (a : Outcome) × (z ≡ Some a) × (answer_of cut o o.aim a ≡ Some y)
taken_of cut o None y other h = absurd (none-some y h)
taken_of cut o (Some a) y other h = (a, refl, given_of cut o o.aim a y other h)

pub lacks_have_causes : (a b : FileView) (c : Cell) (t u : ℕ) → IsCellOf a c → FileStep a (CallTake t) (Taken (Some (Lacking u))) b → RestsOnCauses c (operation c t) u
lacks_have_causes a b c t u h s =
    let one : Reaches c (CallTake t) (Taken (Some (Lacking u))) b = s.cells c h in
    let x : (o : Outcome) × ((operation c t).decided ≡ Some o) × (answer_of c.cut (operation c t) (operation c t).aim o ≡ Some (Lacking u)) = taken_of c.cut (operation c t) (operation c t).decided (Lacking u) (λ e. cc) one.are.0 in
    let is : x.0 ≡ NoQuorum u = lack_of c.cut (operation c t) (operation c t).aim x.0 u x.2 in
    outcome_rests c h.lawful.law.quorum t (NoQuorum u) (x.1 ∙ ap (λ o. Some o) is)

pub trims_gone : (a b : FileView) (c : Cell) (t : ℕ) → IsCellOf a c → FileStep a (CallTake t) (Taken (Some Trimmed)) b → IsTrimmed c (operation c t)
trims_gone a b c t h s =
    let one : Reaches c (CallTake t) (Taken (Some Trimmed)) b = s.cells c h in
    let x : (o : Outcome) × ((operation c t).decided ≡ Some o) × (answer_of c.cut (operation c t) (operation c t).aim o ≡ Some Trimmed) = taken_of c.cut (operation c t) (operation c t).decided Trimmed (λ e. cc) one.are.0 in
    let is : x.0 ≡ TrimDone = trim_of c.cut (operation c t) (operation c t).aim x.0 x.2 in
    outcome_holds c h.lawful.law.quorum t TrimDone (x.1 ∙ ap (λ o. Some o) is)

---- an append's own entry stands

-- an operation that began is there in the cell, with its aim
began_there : (a b : FileView) (c : Cell) (e : Entry) (t : ℕ) → IsCellOf a c → (s : FileStep a (CallBegin (Append e)) (Begun t) b) → (d : Cell) × IsCellOf b d × (t < length d.operations) × ((operation d t).aim ≡ AimAppend e)
began_there a b c e t h s =
    let one : Reaches c (CallBegin (Append e)) (Begun t) b = s.cells c h in
    let is : run_cell one.steps c ≡ begin c (AimAppend e) = ap (λ (steps : List CellStep). run_cell steps c) one.are in
    let tied : IsCellOf b (begin c (AimAppend e)) = subst (λ (x : Cell). IsCellOf b x) is one.cell in
    let x : Begins a.loglet (Append e) t b.loglet = s.loglet.does in
    let more : b.loglet.begun ≡ a.loglet.begun + 1 = ap (λ (v : LogletView). v.begun) x.rest in
    let ticket : t ≡ length c.operations = x.ticket ∙ begun_is a c h in
    let longer : length (begin c (AimAppend e)).operations ≡ length c.operations + 1 = omega (arith, begun_is b (begin c (AimAppend e)) tied, more, begun_is a c h) in
    (begin c (AimAppend e), tied, omega (arith, longer, ticket), subst (λ k. (operation (begin c (AimAppend e)) k).aim ≡ AimAppend e) (sym ticket) (begun_aim c (AimAppend e) longer))

-- an append that is answered its position reached its length there
placed_of : (cut : ℕ) (o : Operation) (e : Entry) (a : Outcome) (p : ℕ) → answer_of cut o (AimAppend e) a ≡ Some (Placed p) → o.size_before ≡ p
placed_of cut o e Reached p h = (let same : Placed o.size_before ≡ Placed p = same_Some _ _ h in let is : o.size_before ≡ p = cc in is)
placed_of cut o e (OpenTail t) p h = absurd (cc)
placed_of cut o e (SealedTail t) p h = absurd (cc)
placed_of cut o e Shut p h = absurd (cc)
placed_of cut o e Found p h = absurd (cc)
placed_of cut o e Gone p h = absurd (cc)
placed_of cut o e Beyond p h = absurd (cc)
placed_of cut o e TrimDone p h = absurd (cc)
placed_of cut o e (NoQuorum u) p h = absurd (cc)

pub placed_stands : (a b w d l : FileView) (calls more : List (LogletCall × LogletAnswer)) (c : Cell) (e : Entry) (t p : ℕ) → IsCellOf a c → FileStep a (CallBegin (Append e)) (Begun t) b → FileRun b calls w → FileStep w (CallTake t) (Taken (Some (Placed p))) d
    → FileRun d more l → Stands d p e × Stands l p e
placed_stands a b w d l calls more c e t p h began next took rest =
    let x : (x : Cell) × IsCellOf b x × (t < length x.operations) × ((operation x t).aim ≡ AimAppend e) = began_there a b c e t h began in
    let mid : (steps : List CellStep) × IsCellOf w (run_cell steps x.0) = run_in calls b w x.0 x.1 next in
    let v : Cell = run_cell mid.0 x.0 in
    let aim : (operation v t).aim ≡ AimAppend e = run_aim mid.0 x.0 t x.2 ∙ x.3 in
    let one : Reaches v (CallTake t) (Taken (Some (Placed p))) d = took.cells v mid.1 in
    let told : (o : Outcome) × ((operation v t).decided ≡ Some o) × (answer_of v.cut (operation v t) (operation v t).aim o ≡ Some (Placed p)) = taken_of v.cut (operation v t) (operation v t).decided (Placed p) (λ z. cc) one.are.0 in
    let size : (operation v t).size_before ≡ p = placed_of v.cut (operation v t) e told.0 p (ap {B = Option Answer} (λ (y : Aim). answer_of v.cut (operation v t) y told.0) (sym aim) ∙ told.2) in
    let there : slice_get v.entries p ≡ Some e = ap (slice_get v.entries) (sym size) ∙ ((mid.1.lawful.law.quorum.operations t).placed e aim).1 in
    let now : Cell = run_cell one.steps v in
    let after : Later v now = run_later one.steps v in
    let reached : p < now.reach = (let y : p < d.loglet.reach = told_placed w d t p took.loglet in omega (arith, y, reach_is d now one.cell)) in
    let last : (steps : List CellStep) × IsCellOf l (run_cell steps now) = run_in more d l now one.cell rest in
    let later : Later now (run_cell last.0 now) = run_later last.0 now in
    let here : slice_get now.entries p ≡ Some e = after.entries p e there in
    (stands_in d now p e one.cell reached here, stands_in l (run_cell last.0 now) p e last.1 (omega (arith, reached, later.reach)) (later.entries p e here))
