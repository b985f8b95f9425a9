-- What a loglet promises over a whole run.
use Rattle.std.proofs.Common.{◌≡◌, ℕ, ◌+◌, ◌-◌, ◌<◌, ◌≤◌, ◌⊎◌, nat_eq, true, false, min, Option, None, Some, List, [], ◌∷◌, ◌++◌, length, drop, refl, inl, inr, ap, subst, sym, ◌∙◌, arith, length-append}
use Rattle.std.specs.Prelude.{slice_get}
use Rattle.std.proofs.lemmas.Bool.{cases_Bool}
use Rattle.std.proofs.lemmas.Bool.Decides.{nat_tests}
use Rattle.delos_types.specs.declared.entry.Entry.{Entry}
use Rattle.loglet_api.specs.declared.call.Op.{Op}
use Rattle.loglet_api.specs.declared.call.Op.TheVariants.{Append, Tail, Read}
use Rattle.loglet_api.specs.declared.call.Task.TheVariants.{Reading}
use Rattle.loglet_api.specs.declared.call.Answer.TheVariants.{Placed, SealedTail}
use Rattle.loglet_api.specs.declared.call.Refused.TheVariants.{Full, Memory}
use Rattle.loglet_api.specs.declared.call.LogletCall.{LogletCall}
use Rattle.loglet_api.specs.declared.call.LogletCall.TheVariants.{Begin, Carry, Take, Forget, Left, Stray, Stop, Restart}
use Rattle.loglet_api.specs.declared.call.LogletAnswer.{LogletAnswer}
use Rattle.loglet_api.specs.declared.call.LogletAnswer.TheVariants.{Begun, Refusal, Carried, Taken, Forgotten, LeftIs, Strayed, Stopped, Restarted}
use Rattle.loglet_api.specs.View.{LogletView, Operation, size_of, operation_at}
use Rattle.loglet_api.specs.Step.{LogletStep, Does, Advances, PutsOperation, begun_operation, told_cap}
use Rattle.loglet_api.specs.Run.{LogletRun}
use Rattle.loglet_api.specs.Keeps.{Keeps}
use Rattle.loglet_api.specs.Says.{Answers}
use Rattle.loglet_api.specs.Promises.{LeadsTo, BeginsAs, PlacedStays, PlacedIsRead, TailIsAbove, SealedTailIsAbove, NothingAboveSealedTail}
use Rattle.loglet_api.proofs.Keeps.{step_keeps, run_keeps, keeps_on}
use Rattle.loglet_api.proofs.Says.{may_placed, may_open_tail, may_sealed_tail, may_beyond}

-- what became of an operation: it is closed for good, or is still the same, apart from what is left
pub record Stays (t : ℕ) (o : Operation) (v : LogletView) : Type 0 where
  pub begun : t < v.begun
  pub now : (operation_at v.operations t ≡ None) ⊎ ((p : Operation) × (operation_at v.operations t ≡ Some p) × (p ≡ record o { left = p.left }))

advanced : (x y : Option Operation) (o : Operation) → Advances x y → (x ≡ None) ⊎ ((p : Operation) × (x ≡ Some p) × (p ≡ record o { left = p.left }))
    → (y ≡ None) ⊎ ((p : Operation) × (y ≡ Some p) × (p ≡ record o { left = p.left }))
advanced None None o a h = inl refl
advanced (Some x) (Some y) o a (inl none) = absurd (cc)
advanced (Some x) (Some y) o a (inr same) =
    let e : x ≡ same.0 = (let f = same.1 in cc) in
    inr (y, refl, a.0 ∙ ap (λ (q : Operation). record q { left = y.left }) (e ∙ same.2))
advanced None (Some y) o a h = absurd a
advanced (Some x) None o a h = absurd a

-- another ticket changes, or this one is closed
closed_or_kept : (t u : ℕ) (o : Operation) (old new : List (ℕ × Operation)) → PutsOperation old u None new
    → (operation_at old t ≡ None) ⊎ ((p : Operation) × (operation_at old t ≡ Some p) × (p ≡ record o { left = p.left }))
    → (operation_at new t ≡ None) ⊎ ((p : Operation) × (operation_at new t ≡ Some p) × (p ≡ record o { left = p.left }))
closed_or_kept t u o old new puts h =
    let now = puts t in
    elim (cases_Bool (nat_eq u t)) [
      | inl same ↦ inl (rw same at now)
      | inr other ↦ (let kept : operation_at new t ≡ operation_at old t = rw other at now in
          elim h [ inl none ↦ inl (kept ∙ none) | inr there ↦ inr (there.0, kept ∙ there.1, there.2) ])
    ]

-- a later ticket is begun
begun_or_kept : (t u : ℕ) (o w : Operation) (old new : List (ℕ × Operation)) → t < u → PutsOperation old u (Some w) new
    → (operation_at old t ≡ None) ⊎ ((p : Operation) × (operation_at old t ≡ Some p) × (p ≡ record o { left = p.left }))
    → (operation_at new t ≡ None) ⊎ ((p : Operation) × (operation_at new t ≡ Some p) × (p ≡ record o { left = p.left }))
begun_or_kept t u o w old new lt puts h =
    let now = puts t in
    let other : nat_eq u t ≡ false = grind (arith, nat_tests) in
    let kept : operation_at new t ≡ operation_at old t = rw other at now in
    elim h [ inl none ↦ inl (kept ∙ none) | inr there ↦ inr (there.0, kept ∙ there.1, there.2) ]

stays_same : (t : ℕ) (o : Operation) (old new : LogletView) → new ≡ old → Stays t o old → Stays t o new
stays_same t o old new e h = rw e h

stays_does : (t : ℕ) (o : Operation) (old new : LogletView) (call : LogletCall) (answer : LogletAnswer) → Does old call answer new → Stays t o old → old.begun ≤ new.begun → Stays t o new
stays_does t o old new (Begin op) (Begun u) d h le =
    record { begun = omega (arith, h.begun); now = begun_or_kept t u o (begun_operation old op d.left) old.operations new.operations (omega (arith, h.begun, d.ticket)) d.operation h.now }
stays_does t o old new (Begin op) (Refusal Full) d h le = rw d.1 (record { begun = h.begun; now = h.now })
stays_does t o old new (Carry u word) Carried d h le = record { begun = omega (arith, h.begun); now = advanced _ _ o (d.moves.operations t) h.now }
stays_does t o old new (Take u) (Taken None) d h le = stays_same t o old new d.1 h
stays_does t o old new (Take u) (Taken (Some answer)) d h le = record { begun = omega (arith, h.begun); now = closed_or_kept t u o old.operations new.operations d.closed h.now }
stays_does t o old new (Forget u) Forgotten d h le = record { begun = omega (arith, h.begun); now = closed_or_kept t u o old.operations new.operations d.closed h.now }
stays_does t o old new (Left u) (LeftIs a b) d h le = stays_same t o old new d.1 h
stays_does t o old new (Stray word) Strayed d h le = record { begun = omega (arith, h.begun); now = advanced _ _ o (d.operations t) h.now }
stays_does t o old new (Stop server after) Stopped d h le = stays_same t o old new d h
stays_does t o old new (Restart server word) (Restarted up) d h le = record { begun = omega (arith, h.begun); now = advanced _ _ o (d.moves.operations t) h.now }
stays_does t o old new (Begin op) (Refusal Memory) d h le = stays_same t o old new d h
stays_does t o old new (Carry u word) (Refusal Memory) d h le = stays_same t o old new d h
stays_does t o old new (Stray word) (Refusal Memory) d h le = stays_same t o old new d h
stays_does t o old new (Restart server word) (Refusal Memory) d h le = stays_same t o old new d h
stays_does t o old new call answer d h le = absurd d

stays_step : (t : ℕ) (o : Operation) (old new : LogletView) (call : LogletCall) (answer : LogletAnswer) → LogletStep old call answer new → Stays t o old → Stays t o new
stays_step t o old new call answer s h = stays_does t o old new call answer s.does h (step_keeps old call answer new s).begun

stays_run : (t : ℕ) (o : Operation) (old new : LogletView) (steps : List (LogletCall × LogletAnswer)) → LogletRun old steps new → Stays t o old → Stays t o new
stays_run t o old new [] r h = stays_same t o old new r h
stays_run t o old new (step ∷ steps) r h = stays_run t o r.0 new steps r.2 (stays_step t o old r.0 step.0 step.1 r.1 h)

-- an operation that is open later is the one that was begun
still : (t : ℕ) (o p : Operation) (v : LogletView) → Stays t o v → operation_at v.operations t ≡ Some p → p ≡ record o { left = p.left }
still t o p v h is =
    elim h.now [
      | inl none ↦ absurd (cc)
      | inr there ↦ (let e : there.0 ≡ p = (let f = sym there.1 ∙ is in cc) in subst (λ (q : Operation). q ≡ record o { left = q.left }) e there.2)
    ]

-- what was begun, at each later moment
pub begun_stays : (old : LogletView) (op : Op) (t : ℕ) (new later : LogletView) (p : Operation) → (b : BeginsAs old op t new) → LeadsTo new later → operation_at later.operations t ≡ Some p → p ≡ record (begun_operation old op b.does.left) { left = p.left }
begun_stays old op t new later p b leads is =
    let o = begun_operation old op b.does.left in
    let same : nat_eq t t ≡ true = grind (arith, nat_tests) in
    let here : operation_at new.operations t ≡ Some o = (let now = b.does.operation t in rw same at now) in
    let lt : t < new.begun = (b.after.operations t o here).ticket in
    let h : Stays t o new = record { begun = lt; now = inr (o, here, refl) } in
    still t o p later (stays_run t o new later leads.0 leads.1 h) is

leads_keeps : (old new : LogletView) → LeadsTo old new → Keeps old new
leads_keeps old new r = run_keeps old r.0 new r.1

at_end : (xs : List Entry) (e : Entry) → slice_get (xs ++ e ∷ []) (length xs) ≡ Some e
at_end [] e = refl
at_end (x ∷ xs) e = at_end xs e

-- the entry that an Append adds
appended : (a b : LogletView) (e : Entry) (t : ℕ) → BeginsAs a (Append e) t b → (slice_get b.log (size_of a - b.cut) ≡ Some e) × (size_of b ≡ size_of a + 1)
appended a b e t s =
    let none : a.cut - a.cut ≡ 0 = omega arith in
    let cut : b.cut ≡ a.cut = ap (λ (v : LogletView). v.cut) s.does.rest in
    let log : b.log ≡ a.log ++ e ∷ [] = ap (λ (v : LogletView). v.log) s.does.rest ∙ ap (λ (n : ℕ). drop n a.log ++ e ∷ []) none in
    let place : size_of a - b.cut ≡ length a.log = omega (arith, cut) in
    let longer : length b.log ≡ length a.log + 1 = ap length log ∙ length-append a.log (e ∷ []) in
    (rw (place, log) (at_end a.log e), omega (arith, cut, longer))

-- what Placed acknowledges
acknowledged : (a b : LogletView) (t p : ℕ) → Answers a t (Placed p) b → (p + 1 ≤ b.reach) × (p + 1 ≤ b.firm)
acknowledged a b t p s =
    let reach = ap (λ (v : LogletView). v.reach) s.does.rest in
    let firm = ap (λ (v : LogletView). v.firm) s.does.rest in
    (omega (arith, reach), omega (arith, firm))

pub stays : PlacedStays
stays a b c d z e t p begins bc answered dz le =
    let o = answered.does.operation in
    let size : p ≡ size_of a = (may_placed c o o.task p answered.does.may).0 ∙ ap (λ (x : Operation). x.size) (begun_stays a (Append e) t b c o begins bc answered.does.is) in
    let new = appended a b e t begins in
    let keeps = keeps_on b c z (leads_keeps b c bc) (keeps_on c d z (step_keeps c _ _ d answered) (leads_keeps d z dz)) in
    keeps.entries p le (omega (arith, size, new.1)) ∙ ap (λ (n : ℕ). slice_get b.log (n - b.cut)) size ∙ new.0

same_place : (p q : ℕ) → Reading q ≡ Reading p → q ≡ p
same_place p q e = cc

pub is_read : PlacedIsRead
is_read a b c d y z t u p n placed bc begins dy beyond =
    let o = beyond.does.operation in
    let same = begun_stays c (Read p) u d y o begins dy beyond.does.is in
    let task : o.task ≡ Reading p = ap (λ (x : Operation). x.task) same in
    let firm : o.firm ≡ c.firm = ap (λ (x : Operation). x.firm) same in
    let m = may_beyond y o o.task n beyond.does.may in
    let place : m.0 ≡ p = same_place p m.0 (sym m.1 ∙ task) in
    let keeps = leads_keeps b c bc in
    let known = (acknowledged a b t p placed).1 in
    omega (arith, known, keeps.firm, firm, place, m.2)

pub open_tail : TailIsAbove
open_tail a b c d y z t u p n placed bc begins dy tail =
    let o = tail.does.operation in
    let same = begun_stays c Tail u d y o begins dy tail.does.is in
    let reach : o.reach ≡ c.reach = ap (λ (x : Operation). x.reach) same in
    let m = may_open_tail y o o.task n tail.does.may in
    let keeps = leads_keeps b c bc in
    let known = (acknowledged a b t p placed).0 in
    omega (arith, known, keeps.reach, reach, m)

pub sealed_tail : SealedTailIsAbove
sealed_tail a b c d t u p n placed bc tail =
    let o = tail.does.operation in
    let m = may_sealed_tail c o o.task n tail.does.may in
    let keeps = leads_keeps b c bc in
    let known = (acknowledged a b t p placed).0 in
    omega (arith, known, keeps.reach, m.0)

cap_of : (cap : Option ℕ) (n : ℕ) → (k : ℕ) × (told_cap (SealedTail n) cap ≡ Some k) × (k ≤ n)
cap_of None n = (n, refl, omega arith)
cap_of (Some c) n = (min c n, refl, omega arith)

pub sealed_for_good : NothingAboveSealedTail
sealed_for_good a b c d t u p n tail bc placed =
    let k = cap_of a.cap n in
    let cap : b.cap ≡ Some k.0 = ap (λ (v : LogletView). v.cap) tail.does.rest ∙ k.1 in
    let keeps = keeps_on b c d (leads_keeps b c bc) (step_keeps c _ _ d placed) in
    let later = keeps.cap k.0 cap in
    let sound = placed.after.cap later.0 later.1 in
    let known = (acknowledged c d u p placed).0 in
    omega (arith, known, sound.1, later.2, k.2)
