-- Lists of calls of a native loglet.
use Rattle.std.proofs.Common.{◌≡◌, ℕ, zero, suc, ◌+◌, ◌-◌, ◌<◌, ◌≤◌, Bool, true, false, refl, sym, ◌∙◌, ap, subst, arith, List, [], ◌∷◌, ◌++◌, length, get_or, Option, Some, None, min, max}
use Rattle.std.specs.Prelude.{nat_le, nat_lt, if◌then◌else◌, slice_get, option_map, Contains}
use Rattle.std.proofs.lemmas.Bool.{lt-ltb, leb-true}
use Rattle.std.proofs.lemmas.Option.{none-some, same_Some}
use Rattle.std.proofs.lemmas.List.{length-map}
use Rattle.delos_types.specs.declared.entry.Entry.{Entry}
use Rattle.loglet_api.specs.declared.call.Answer.{Answer}
use Rattle.loglet_api.specs.declared.call.Answer.TheVariants.{Placed, SealedTail as TailSealed, TrimDone as Trimmed, NoQuorum as Lacking, CutAt}
use Rattle.loglet_api.specs.declared.call.LogletCall.{LogletCall}
use Rattle.loglet_api.specs.declared.call.LogletCall.TheVariants.{Begin as CallBegin, Take as CallTake}
use Rattle.loglet_api.specs.declared.call.Op.TheVariants.{Append}
use Rattle.loglet_api.specs.declared.call.LogletAnswer.{LogletAnswer}
use Rattle.loglet_api.specs.declared.call.LogletAnswer.TheVariants.{Begun, Taken}
use Rattle.loglet_api.specs.View.{LogletView}
use Rattle.loglet_api.specs.Run.{LogletRun}
use Rattle.loglet_api.specs.Step.{LogletStep, Begins, TakesAnswer}
use Rattle.majority_rule.specs.Majority.{is_majority}
use Rattle.majority_rule.proofs.Majorities.{majority_stays}
use Rattle.quorum_cell.specs.declared.operation.Aim.{Aim}
use Rattle.quorum_cell.specs.declared.operation.Aim.TheVariants.{Append as AimAppend, Settle as AimSettle, Tail as AimTail, Seal as AimSeal, Read as AimRead, Trim as AimTrim}
use Rattle.quorum_cell.specs.declared.operation.Outcome.{Outcome}
use Rattle.quorum_cell.specs.declared.operation.Outcome.TheVariants.{Reached, OpenTail, SealedTail, Shut, Found, Gone, Beyond, TrimDone, NoQuorum}
use Rattle.quorum_cell.specs.declared.operation.CellStep.{CellStep}
use Rattle.quorum_cell.specs.Servers.{Server, length_of, unsealed_length}
use Rattle.quorum_cell.specs.Cells.{Cell, Operation, operation, server, no_server}
use Rattle.quorum_cell.specs.Tallies.{entry_heard}
use Rattle.quorum_cell.specs.Steps.{run_cell, begin, given_outcome}
use Rattle.quorum_cell.specs.Law.{QuorumLaw, ServerHolds, Later}
use Rattle.quorum_cell.specs.Outcomes.{IsTrimmed, RestsOnCauses}
use Rattle.quorum_cell.proofs.Lists.{slice_get_drop}
use Rattle.quorum_cell.proofs.Conclusions.{outcome_holds, reach_stays}
use Rattle.quorum_cell.proofs.Grounds.{outcome_rests}
use Rattle.quorum_cell.proofs.Runs.{run_later}
use Rattle.quorum_cell.proofs.Steps.{unsealed_within}
use Rattle.cell_views.specs.Views.{taken, answer_of}
use Rattle.native_loglet.proofs.Aims.{run_aim, begun_aim}
use Rattle.native_loglet.specs.Natives.{Native, server_in, loglet_of, IsCellOf}
use Rattle.native_loglet.specs.Moving.{server_at}
use Rattle.native_loglet.specs.Standing.{Stands}
use Rattle.native_loglet.specs.Steps.{Reaches, NativeStep, NativeRun}

run_append : (xs ys : List CellStep) (c : Cell) → run_cell (xs ++ ys) c ≡ run_cell ys (run_cell xs c)
run_append [] ys c = refl
run_append (x ∷ xs) ys c = run_append xs ys (Rattle.quorum_cell.specs.Steps.cell_step c x)

pub run_in : (calls : List (LogletCall × LogletAnswer)) (a b : Native) (c : Cell) → IsCellOf a c → NativeRun a calls b → (steps : List CellStep) × IsCellOf b (run_cell steps c)
run_in [] a b c h r = ([], subst (λ (x : Native). IsCellOf x c) (sym r) h)
run_in (call ∷ calls) a b c h r =
    let one : Reaches a c call.0 call.1 r.0 = r.1.cells c h in
    let rest : (steps : List CellStep) × IsCellOf b (run_cell steps (run_cell one.steps c)) = run_in calls r.0 b (run_cell one.steps c) one.cell r.2 in
    (one.steps ++ rest.0, subst (λ (x : Cell). IsCellOf b x) (sym (run_append one.steps rest.0 c)) rest.1)

pub run_shown : (calls : List (LogletCall × LogletAnswer)) (a b : Native) → NativeRun a calls b → LogletRun (loglet_of a) calls (loglet_of b)
run_shown [] a b r = ap loglet_of r
run_shown (call ∷ calls) a b r = (loglet_of r.0, r.1.loglet, run_shown calls r.0 b r.2)

---- what was told

-- from a cell to a later one
goes_later : (a b : Native) (c d : Cell) → IsCellOf a c → IsCellOf b d → Later c d → (a.marks.reach ≤ b.marks.reach) × ((t : ℕ) → a.marks.cap ≡ Some t → (u : ℕ) × (b.marks.cap ≡ Some u) × (u ≤ t))
goes_later a b c d h k l = (
  omega (arith, l.reach, h.reach, k.reach),
  λ t e. (let x : (u : ℕ) × (d.cap ≡ Some u) × (u ≤ t) = l.cap t (h.cap ∙ e) in (x.0, sym k.cap ∙ x.1, x.2)),
)

told_placed : (a b : Native) (t p : ℕ) → LogletStep (loglet_of a) (CallTake t) (Taken (Some (Placed p))) (loglet_of b) → p < b.marks.reach
told_placed a b t p s =
    let x : TakesAnswer (loglet_of a) t (Placed p) (loglet_of b) = s.does in
    let reach : b.marks.reach ≡ max a.marks.reach (p + 1) = ap (λ (v : LogletView). v.reach) x.rest in
    omega (arith, reach)

told_sealed : (a b : Native) (t n : ℕ) → LogletStep (loglet_of a) (CallTake t) (Taken (Some (TailSealed n))) (loglet_of b) → (u : ℕ) × (b.marks.cap ≡ Some u) × (u ≤ n)
told_sealed a b t n s =
    let x : TakesAnswer (loglet_of a) t (TailSealed n) (loglet_of b) = s.does in
    let cap : b.marks.cap ≡ Rattle.loglet_api.specs.Step.told_cap (TailSealed n) a.marks.cap = ap (λ (v : LogletView). v.cap) x.rest in
    by a.marks.cap cap
  where
    by : (z : Option ℕ) → b.marks.cap ≡ Rattle.loglet_api.specs.Step.told_cap (TailSealed n) z → (u : ℕ) × (b.marks.cap ≡ Some u) × (u ≤ n)
    by None e = (n, e, omega arith)
    by (Some m) e = (min m n, e, omega arith)

-- what is answered in a list of calls is told after it
placed_in : (calls : List (LogletCall × LogletAnswer)) (a b : Native) (c : Cell) (t p k : ℕ) → IsCellOf a c → NativeRun a calls b → k < length calls → get_or calls k (CallTake t, Taken (Some (Placed p))) ≡ (CallTake t, Taken (Some (Placed p))) → p < b.marks.reach
placed_in [] a b c t p k h r l e = absurd (omega (arith, l))
placed_in (call ∷ calls) a b c t p zero h r l e =
    let one : Reaches a c call.0 call.1 r.0 = r.1.cells c h in
    let rest : (steps : List CellStep) × IsCellOf b (run_cell steps (run_cell one.steps c)) = run_in calls r.0 b (run_cell one.steps c) one.cell r.2 in
    let step : LogletStep (loglet_of a) (CallTake t) (Taken (Some (Placed p))) (loglet_of r.0) = subst (λ (x : LogletCall × LogletAnswer). LogletStep (loglet_of a) x.0 x.1 (loglet_of r.0)) e r.1.loglet in
    omega (arith, told_placed a r.0 t p step, (goes_later r.0 b _ _ one.cell rest.1 (run_later rest.0 (run_cell one.steps c))).0)
placed_in (call ∷ calls) a b c t p (suc k) h r l e = placed_in calls r.0 b (run_cell (r.1.cells c h).steps c) t p k (r.1.cells c h).cell r.2 (omega (arith, l)) e

sealed_in : (calls : List (LogletCall × LogletAnswer)) (a b : Native) (c : Cell) (t n k : ℕ) → IsCellOf a c → NativeRun a calls b → k < length calls → get_or calls k (CallTake t, Taken (Some (TailSealed n))) ≡ (CallTake t, Taken (Some (TailSealed n))) → (u : ℕ) × (b.marks.cap ≡ Some u) × (u ≤ n)
sealed_in [] a b c t n k h r l e = absurd (omega (arith, l))
sealed_in (call ∷ calls) a b c t n zero h r l e =
    let one : Reaches a c call.0 call.1 r.0 = r.1.cells c h in
    let rest : (steps : List CellStep) × IsCellOf b (run_cell steps (run_cell one.steps c)) = run_in calls r.0 b (run_cell one.steps c) one.cell r.2 in
    let step : LogletStep (loglet_of a) (CallTake t) (Taken (Some (TailSealed n))) (loglet_of r.0) = subst (λ (x : LogletCall × LogletAnswer). LogletStep (loglet_of a) x.0 x.1 (loglet_of r.0)) e r.1.loglet in
    let told : (u : ℕ) × (r.0.marks.cap ≡ Some u) × (u ≤ n) = told_sealed a r.0 t n step in
    let after : (u : ℕ) × (b.marks.cap ≡ Some u) × (u ≤ told.0) = (goes_later r.0 b _ _ one.cell rest.1 (run_later rest.0 (run_cell one.steps c))).1 told.0 told.1 in
    (after.0, after.1, omega (arith, after.2, told.2))
sealed_in (call ∷ calls) a b c t n (suc k) h r l e = sealed_in calls r.0 b (run_cell (r.1.cells c h).steps c) t n k (r.1.cells c h).cell r.2 (omega (arith, l)) e

---- entries stand

-- what was reached stands in the cell
stands_in : (a : Native) (c : Cell) (p : ℕ) (e : Entry) → IsCellOf a c → p < c.reach → slice_get c.entries p ≡ Some e → Stands a p e
stands_in a c p e h below is = record {
  entry = λ kept. (let place : c.cut + (p - a.marks.cut) ≡ p = omega (arith, kept, h.cut) in ap (λ (es : List Entry). slice_get es (p - a.marks.cut)) (sym h.entries) ∙ slice_get_drop c.cut c.entries (p - a.marks.cut) ∙ ap (slice_get c.entries) place ∙ is);
  majority = subst (λ n. is_majority n (λ i. nat_lt p (length_of (server_at a.replicas i))) ≡ true) (length-map a.replicas server_in) (subst (λ (ss : List Server). is_majority (length ss) (λ i. nat_lt p (length_of (get_or ss i no_server))) ≡ true) h.servers long);
  copies = λ i base within. subst (λ (s : Server). s.base ≤ p → p < length_of s → slice_get s.entries (p - s.base) ≡ Some e) (ap (λ (ss : List Server). get_or ss i no_server) h.servers) (copied i) base within;
}
  where
    law : QuorumLaw c
    law = h.lawful.law.quorum

    long : is_majority (length c.servers) (λ i. nat_lt p (length_of (server c i))) ≡ true
    long = majority_stays (length c.servers) (λ i. nat_le c.reach (unsealed_length (server c i))) (λ i. nat_lt p (length_of (server c i))) (λ i _ x. lt-ltb _ _ (omega (arith, below, leb-true _ _ x, unsealed_within c (server c i) (law.servers i)))) law.reached

    copied : (i : ℕ) → (server c i).base ≤ p → p < length_of (server c i) → slice_get (server c i).entries (p - (server c i).base) ≡ Some e
    copied i base within =
        let holds : ServerHolds c (server c i) = law.servers i in
        let place : (server c i).base + (p - (server c i).base) ≡ p = omega (arith, base) in
        holds.same (p - (server c i).base) (omega (arith, base, within)) ∙ ap (slice_get c.entries) place ∙ is

-- no position that was told is past a sealed tail that was told
pub placed_below : (a b : Native) (calls : List (LogletCall × LogletAnswer)) (c : Cell) (t s p n : ℕ) → IsCellOf a c → NativeRun a calls b → Contains calls (CallTake t, Taken (Some (Placed p))) → Contains calls (CallTake s, Taken (Some (TailSealed n))) → p < n
placed_below a b calls c t s p n h r placed sealed =
    let mid : (steps : List CellStep) × IsCellOf b (run_cell steps c) = run_in calls a b c h r in
    let now : Cell = run_cell mid.0 c in
    let law : QuorumLaw now = mid.1.lawful.law.quorum in
    let told : p < b.marks.reach = placed_in calls a b c t p placed.0 h r placed.1 placed.2 in
    let cap : (u : ℕ) × (b.marks.cap ≡ Some u) × (u ≤ n) = sealed_in calls a b c s n sealed.0 h r sealed.1 sealed.2 in
    let under : now.reach ≤ cap.0 = reach_stays now now law law (run_later [] now) cap.0 (mid.1.cap ∙ cap.1) in
    omega (arith, told, mid.1.reach, under, cap.2)

---- what an answer tells of its outcome

lack_of : (cut : ℕ) (o : Operation) (aim : Aim) (a : Outcome) (u : ℕ) → answer_of cut o aim a ≡ Some (Lacking u) → a ≡ NoQuorum u
lack_of cut o (AimAppend e) Reached u h = absurd (cc)
lack_of cut o aim Reached u h = absurd (cc)
lack_of cut o aim (OpenTail t) u h = absurd (cc)
lack_of cut o aim (SealedTail t) u h = absurd (cc)
lack_of cut o AimSeal Shut u h = absurd (cc)
lack_of cut o aim Shut u h = absurd (cc)
lack_of cut o (AimRead p) Found u h = absurd (by (entry_heard p o.heard) h)
  where
    by : (z : Option Entry) → option_map (λ e. Rattle.loglet_api.specs.declared.call.Answer.TheVariants.Got e) z ≡ Some (Lacking u) → ⊥
    by None e = cc
    by (Some x) e = cc
lack_of cut o aim Found u h = absurd (cc)
lack_of cut o aim Gone u h = absurd (cc)
lack_of cut o aim Beyond u h = absurd (cc)
lack_of cut o aim TrimDone u h = absurd (cc)
lack_of cut o aim (NoQuorum n) u h = (let same : Lacking n ≡ Lacking u = same_Some _ _ h in let n_is : n ≡ u = cc in ap NoQuorum n_is)

trim_of : (cut : ℕ) (o : Operation) (aim : Aim) (a : Outcome) → answer_of cut o aim a ≡ Some Trimmed → a ≡ TrimDone
trim_of cut o (AimAppend e) Reached h = absurd (cc)
trim_of cut o aim Reached h = absurd (cc)
trim_of cut o aim (OpenTail t) h = absurd (cc)
trim_of cut o aim (SealedTail t) h = absurd (cc)
trim_of cut o AimSeal Shut h = absurd (cc)
trim_of cut o aim Shut h = absurd (cc)
trim_of cut o (AimRead p) Found h = absurd (by (entry_heard p o.heard) h)
  where
    by : (z : Option Entry) → option_map (λ e. Rattle.loglet_api.specs.declared.call.Answer.TheVariants.Got e) z ≡ Some Trimmed → ⊥
    by None e = cc
    by (Some x) e = cc
trim_of cut o aim Found h = absurd (cc)
trim_of cut o aim Gone h = absurd (cc)
trim_of cut o aim Beyond h = absurd (cc)
trim_of cut o aim TrimDone h = refl
trim_of cut o aim (NoQuorum n) h = absurd (cc)

-- an answer that tells of no cut gives what was decided
given_of : (cut : ℕ) (o : Operation) (aim : Aim) (a : Outcome) (y : Answer) → (CutAt cut ≡ y → ⊥) → answer_of cut o aim (given_outcome cut aim a) ≡ Some y → answer_of cut o aim a ≡ Some y
given_of cut o (AimRead p) a y other h = by (nat_lt p cut) h
  where
    by : (b : Bool) → answer_of cut o (AimRead p) (if b then Gone else a) ≡ Some y → answer_of cut o (AimRead p) a ≡ Some y
    by true e = absurd (other (same_Some _ _ e))
    by false e = e
given_of cut o (AimAppend e) a y other h = h
given_of cut o (AimSettle m) a y other h = h
given_of cut o AimTail a y other h = h
given_of cut o AimSeal a y other h = h
given_of cut o (AimTrim m) a y other h = h

-- what was taken was decided
taken_of : (cut : ℕ) (o : Operation) (z : Option Outcome) (y : Answer) → (CutAt cut ≡ y → ⊥) → taken cut o z ≡ Some y → (a : Outcome) × (z ≡ Some a) × (answer_of cut o o.aim a ≡ Some y)
taken_of cut o None y other h = absurd (none-some y h)
taken_of cut o (Some a) y other h = (a, refl, given_of cut o o.aim a y other h)

pub lacks_have_causes : (a b : Native) (c : Cell) (t u : ℕ) → IsCellOf a c → NativeStep a (CallTake t) (Taken (Some (Lacking u))) b → RestsOnCauses c (operation c t) u
lacks_have_causes a b c t u h s =
    let one : Reaches a c (CallTake t) (Taken (Some (Lacking u))) b = s.cells c h in
    let x : (o : Outcome) × ((operation c t).decided ≡ Some o) × (answer_of c.cut (operation c t) (operation c t).aim o ≡ Some (Lacking u)) = taken_of c.cut (operation c t) (operation c t).decided (Lacking u) (λ e. cc) one.are.0 in
    let is : x.0 ≡ NoQuorum u = lack_of c.cut (operation c t) (operation c t).aim x.0 u x.2 in
    outcome_rests c h.lawful.law.quorum t (NoQuorum u) (x.1 ∙ ap (λ o. Some o) is)

pub trims_gone : (a b : Native) (c : Cell) (t : ℕ) → IsCellOf a c → NativeStep a (CallTake t) (Taken (Some Trimmed)) b → IsTrimmed c (operation c t)
trims_gone a b c t h s =
    let one : Reaches a c (CallTake t) (Taken (Some Trimmed)) b = s.cells c h in
    let x : (o : Outcome) × ((operation c t).decided ≡ Some o) × (answer_of c.cut (operation c t) (operation c t).aim o ≡ Some Trimmed) = taken_of c.cut (operation c t) (operation c t).decided Trimmed (λ e. cc) one.are.0 in
    let is : x.0 ≡ TrimDone = trim_of c.cut (operation c t) (operation c t).aim x.0 x.2 in
    outcome_holds c h.lawful.law.quorum t TrimDone (x.1 ∙ ap (λ o. Some o) is)

---- an append's own entry stands

-- an operation that began is there in the cell, with its aim
began_there : (a b : Native) (c : Cell) (e : Entry) (t : ℕ) → IsCellOf a c → (s : NativeStep a (CallBegin (Append e)) (Begun t) b) → (d : Cell) × IsCellOf b d × (t < length d.operations) × ((operation d t).aim ≡ AimAppend e)
began_there a b c e t h s =
    let one : Reaches a c (CallBegin (Append e)) (Begun t) b = s.cells c h in
    let is : run_cell one.steps c ≡ begin c (AimAppend e) = ap (λ (steps : List CellStep). run_cell steps c) one.are in
    let tied : IsCellOf b (begin c (AimAppend e)) = subst (λ (x : Cell). IsCellOf b x) is one.cell in
    let x : Begins (loglet_of a) (Append e) t (loglet_of b) = s.loglet.does in
    let more : b.marks.begun ≡ a.marks.begun + 1 = ap (λ (v : LogletView). v.begun) x.rest in
    let ticket : t ≡ length c.operations = x.ticket ∙ sym h.begun in
    let longer : length (begin c (AimAppend e)).operations ≡ length c.operations + 1 = omega (arith, tied.begun, more, h.begun) in
    (begin c (AimAppend e), tied, omega (arith, longer, ticket), subst (λ k. (operation (begin c (AimAppend e)) k).aim ≡ AimAppend e) (sym ticket) (begun_aim c (AimAppend e) longer))

-- an append that is answered its position reached its length there
placed_of : (cut : ℕ) (o : Operation) (e : Entry) (a : Outcome) (p : ℕ) → answer_of cut o (AimAppend e) a ≡ Some (Placed p) → o.size_before ≡ p
placed_of cut o e Reached p h = (let same : Placed o.size_before ≡ Placed p = same_Some _ _ h in let is : o.size_before ≡ p = cc in is)
placed_of cut o e (OpenTail t) p h = absurd (cc)
placed_of cut o e (SealedTail t) p h = absurd (cc)
placed_of cut o e Shut p h = absurd (cc)
placed_of cut o e Found p h = absurd (cc)
placed_of cut o e Gone p h = absurd (cc)
placed_of cut o e Beyond p h = absurd (cc)
placed_of cut o e TrimDone p h = absurd (cc)
placed_of cut o e (NoQuorum u) p h = absurd (cc)

pub placed_stands : (a b w d l : Native) (calls more : List (LogletCall × LogletAnswer)) (c : Cell) (e : Entry) (t p : ℕ) → IsCellOf a c → NativeStep a (CallBegin (Append e)) (Begun t) b → NativeRun b calls w → NativeStep w (CallTake t) (Taken (Some (Placed p))) d
    → NativeRun d more l → Stands d p e × Stands l p e
placed_stands a b w d l calls more c e t p h began next took rest =
    let x : (x : Cell) × IsCellOf b x × (t < length x.operations) × ((operation x t).aim ≡ AimAppend e) = began_there a b c e t h began in
    let mid : (steps : List CellStep) × IsCellOf w (run_cell steps x.0) = run_in calls b w x.0 x.1 next in
    let v : Cell = run_cell mid.0 x.0 in
    let aim : (operation v t).aim ≡ AimAppend e = run_aim mid.0 x.0 t x.2 ∙ x.3 in
    let one : Reaches w v (CallTake t) (Taken (Some (Placed p))) d = took.cells v mid.1 in
    let told : (o : Outcome) × ((operation v t).decided ≡ Some o) × (answer_of v.cut (operation v t) (operation v t).aim o ≡ Some (Placed p)) = taken_of v.cut (operation v t) (operation v t).decided (Placed p) (λ z. cc) one.are.0 in
    let size : (operation v t).size_before ≡ p = placed_of v.cut (operation v t) e told.0 p (ap {B = Option Answer} (λ (y : Aim). answer_of v.cut (operation v t) y told.0) (sym aim) ∙ told.2) in
    let there : slice_get v.entries p ≡ Some e = ap (slice_get v.entries) (sym size) ∙ ((mid.1.lawful.law.quorum.operations t).placed e aim).1 in
    let now : Cell = run_cell one.steps v in
    let after : Later v now = run_later one.steps v in
    let reached : p < now.reach = (let y : p < d.marks.reach = told_placed w d t p took.loglet in omega (arith, y, one.cell.reach)) in
    let last : (steps : List CellStep) × IsCellOf l (run_cell steps now) = run_in more d l now one.cell rest in
    let later : Later now (run_cell last.0 now) = run_later last.0 now in
    let here : slice_get now.entries p ≡ Some e = after.entries p e there in
    (stands_in d now p e one.cell reached here, stands_in l (run_cell last.0 now) p e last.1 (omega (arith, reached, later.reach)) (later.entries p e here))
