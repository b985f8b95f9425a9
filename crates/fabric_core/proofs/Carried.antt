-- An operation that is carried once, where it is undecided, and taken.
use Rattle.std.proofs.Common.{◌≡◌, inl, inr, ℕ, ◌+◌, max, [], ◌∷◌, Option, Some, None, Ok, refl, sym, ap, ◌∙◌, subst, arith}
use Rattle.loglet_api.specs.declared.call.Answer.{Answer}
use Rattle.loglet_api.specs.declared.call.Answer.TheVariants.{Got, Placed, Settled, OpenTail, SealedTail, SealDone, CutAt, Beyond, TrimDone, Sealed, NoQuorum}
use Rattle.loglet_api.specs.declared.call.LogletCall.TheVariants as call
use Rattle.loglet_api.specs.declared.call.LogletAnswer.TheVariants as answer
use Rattle.loglet_api.specs.View.{LogletView, Operation}
use Rattle.loglet_api.specs.Step.{LogletStep, HasLeft}
use Rattle.loglet_api.specs.Run.{LogletRun}
use Rattle.loglet_api.specs.Servers.{Serves, ServesAll}
use Rattle.fabric_core.specs.Runs.{LogletSteps, CarriesFirst}
use Rattle.fabric_core.specs.CellEvent.{IsGot, Worked, Works, CarriedOnce}

-- a decided one isn't carried
pub decided_taken : (v new : Worked) (t word a b : ℕ) (r : Option Answer) → HasLeft v.loglet t a b → a ≡ 0 → b ≡ 0 → LogletStep v.loglet (call.Take t) (answer.Taken r) new.loglet → Serves v.serving (call.Take t) (answer.Taken r) new.serving → CarriedOnce v t word (Ok r) new
decided_taken v new t word a b (Some x) h p q s d = ((call.Take t, answer.Taken (Some x)) ∷ [], inr refl, record { run = (new.loglet, s, refl); served = (new.serving, d, refl) })
decided_taken v new t word a b None h p q s d =
    let u = s.does.0 in
    let both : Some h.operation ≡ Some u.operation = sym h.is ∙ u.is in
    let same : h.operation ≡ u.operation = cc in
    let none : u.operation.left ≡ (a, b) = ap (λ (o : Operation). o.left) (sym same) ∙ h.left in
    let first : u.operation.left.0 ≡ a = ap (λ (x : ℕ × ℕ). x.0) none in
    let second : u.operation.left.1 ≡ b = ap (λ (x : ℕ × ℕ). x.1) none in
    absurd (omega (arith, u.undecided))

pub carried_taken : (v mid new : Worked) (t word : ℕ) (r : Option Answer) → LogletStep v.loglet (call.Carry t word) answer.Carried mid.loglet → Serves v.serving (call.Carry t word) answer.Carried mid.serving → LogletStep mid.loglet (call.Take t) (answer.Taken r) new.loglet → Serves mid.serving (call.Take t) (answer.Taken r) new.serving → CarriedOnce v t word (Ok r) new
carried_taken v mid new t word (Some x) s d k e = ((call.Carry t word, answer.Carried) ∷ (call.Take t, answer.Taken (Some x)) ∷ [], inl refl, record { run = (mid.loglet, s, (new.loglet, k, refl)); served = (mid.serving, d, (new.serving, e, refl)) })
carried_taken v mid new t word None s d k e = record { run = (mid.loglet, s, (new.loglet, k, refl)); served = (mid.serving, d, (new.serving, e, refl)) }

-- to take an entry and to forget leave the same loglet
got_forgotten : (v new : LogletView) (t : ℕ) (a : Answer) → IsGot a → LogletStep v (call.Take t) (answer.Taken (Some a)) new → LogletStep v (call.Forget t) answer.Forgotten new
got_forgotten v new t (Got e) g s =
    let d = s.does in
    let at : max v.reach 0 ≡ v.reach = omega arith in
    let on : max v.firm 0 ≡ v.firm = omega arith in
    let lacks : v.lacks + 0 ≡ v.lacks = omega arith in
    record {
      before = s.before;
      can = s.can;
      after = s.after;
      does = record {
        closed = d.closed;
        rest = d.rest ∙ (ap (λ n. record v { reach = n; firm = max v.firm 0; operations = new.operations; lacks = v.lacks + 0 }) at
            ∙ (ap (λ n. record v { firm = n; operations = new.operations; lacks = v.lacks + 0 }) on
            ∙ ap (λ n. record v { operations = new.operations; lacks = n }) lacks));
      };
    }
got_forgotten v new t (Placed p) g s = absurd g
got_forgotten v new t Settled g s = absurd g
got_forgotten v new t (OpenTail n) g s = absurd g
got_forgotten v new t (SealedTail n) g s = absurd g
got_forgotten v new t SealDone g s = absurd g
got_forgotten v new t (CutAt n) g s = absurd g
got_forgotten v new t (Beyond n) g s = absurd g
got_forgotten v new t TrimDone g s = absurd g
got_forgotten v new t Sealed g s = absurd g
got_forgotten v new t (NoQuorum u) g s = absurd g

-- an entry that was got and lost is an operation that was forgotten
pub got_dropped : (v new : Worked) (t word : ℕ) (a : Answer) → IsGot a → CarriedOnce v t word (Ok (Some a)) new → (steps : LogletSteps) × CarriesFirst t word ((call.Forget t, answer.Forgotten) ∷ []) steps × Works v steps new
got_dropped v new t word a g h = by_case h.0 h.1 h.2
  where
    by_case : (steps : LogletSteps) → CarriesFirst t word ((call.Take t, answer.Taken (Some a)) ∷ []) steps → Works v steps new → (steps : LogletSteps) × CarriesFirst t word ((call.Forget t, answer.Forgotten) ∷ []) steps × Works v steps new
    by_case steps (inl e) w =
        let r : LogletRun v.loglet ((call.Carry t word, answer.Carried) ∷ (call.Take t, answer.Taken (Some a)) ∷ []) new.loglet = subst (λ s. LogletRun v.loglet s new.loglet) e w.run in
        let d : ServesAll v.serving ((call.Carry t word, answer.Carried) ∷ (call.Take t, answer.Taken (Some a)) ∷ []) new.serving = subst (λ s. ServesAll v.serving s new.serving) e w.served in (
          (call.Carry t word, answer.Carried) ∷ (call.Forget t, answer.Forgotten) ∷ [],
          inl refl,
          record {
            run = (r.0, r.1, (r.2.0, got_forgotten r.0 r.2.0 t a g r.2.1, r.2.2));
            served = (d.0, d.1, (d.2.0, d.2.1, d.2.2));
          },
        )
    by_case steps (inr e) w =
        let r : LogletRun v.loglet ((call.Take t, answer.Taken (Some a)) ∷ []) new.loglet = subst (λ s. LogletRun v.loglet s new.loglet) e w.run in
        let d : ServesAll v.serving ((call.Take t, answer.Taken (Some a)) ∷ []) new.serving = subst (λ s. ServesAll v.serving s new.serving) e w.served in (
          (call.Forget t, answer.Forgotten) ∷ [],
          inr refl,
          record { run = (r.0, got_forgotten v.loglet r.0 t a g r.1, r.2); served = (d.0, d.1, d.2) },
        )
