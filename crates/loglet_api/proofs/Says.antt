-- What the answers of a loglet say follows from the steps.
use Rattle.std.proofs.Common.{◌≡◌, ℕ, ◌-◌, ◌≤◌, true, false, Some, refl, inl, inr, ap, ◌∙◌, arith}
use Rattle.std.specs.Prelude.{slice_get}
use Rattle.std.proofs.lemmas.Bool.{cases_lt}
use Rattle.delos_types.specs.declared.entry.Entry.{Entry}
use Rattle.loglet_api.specs.declared.call.Task.{Task}
use Rattle.loglet_api.specs.declared.call.Task.TheVariants.{Placing, Settling, Finding, Sealing, Reading, Trimming}
use Rattle.loglet_api.specs.declared.call.Answer.TheVariants.{Placed, OpenTail, SealedTail, Got, Beyond, NoQuorum}
use Rattle.loglet_api.specs.View.{LogletView, Operation}
use Rattle.loglet_api.specs.Step.{MayAnswer, IsLack}
use Rattle.loglet_api.specs.Says.{HasCause, GotIsThere, BeyondWasUnspoken, PlacedBeforeSeal, LackHasCause, SealedTailCovers, TrimStopsAtReach}

may_got : (v : LogletView) (o : Operation) (task : Task) (e : Entry) → MayAnswer v o task (Got e) → (p : ℕ) × (task ≡ Reading p) × (v.cut ≤ p) × (slice_get v.log (p - v.cut) ≡ Some e)
may_got v o (Reading p) e m = (p, refl, m.0, m.2)
may_got v o Placing e m = absurd m
may_got v o (Settling n) e m = absurd m
may_got v o Finding e m = absurd m
may_got v o Sealing e m = absurd m
may_got v o (Trimming n) e m = absurd m

pub may_beyond : (v : LogletView) (o : Operation) (task : Task) (n : ℕ) → MayAnswer v o task (Beyond n) → (p : ℕ) × (task ≡ Reading p) × (o.firm ≤ p) × (n ≡ o.firm)
may_beyond v o (Reading p) n m = (p, refl, m.1, m.2)
may_beyond v o Placing n m = absurd m
may_beyond v o (Settling k) n m = absurd m
may_beyond v o Finding n m = absurd m
may_beyond v o Sealing n m = absurd m
may_beyond v o (Trimming k) n m = absurd m

pub may_placed : (v : LogletView) (o : Operation) (task : Task) (p : ℕ) → MayAnswer v o task (Placed p) → (p ≡ o.size) × (o.shut ≡ false)
may_placed v o Placing p m = m
may_placed v o (Reading k) p m = absurd m
may_placed v o (Settling k) p m = absurd m
may_placed v o Finding p m = absurd m
may_placed v o Sealing p m = absurd m
may_placed v o (Trimming k) p m = absurd m

pub may_open_tail : (v : LogletView) (o : Operation) (task : Task) (t : ℕ) → MayAnswer v o task (OpenTail t) → o.reach ≤ t
may_open_tail v o Finding t m = m.0
may_open_tail v o Placing t m = absurd m
may_open_tail v o (Reading k) t m = absurd m
may_open_tail v o (Settling k) t m = absurd m
may_open_tail v o Sealing t m = absurd m
may_open_tail v o (Trimming k) t m = absurd m

pub may_sealed_tail : (v : LogletView) (o : Operation) (task : Task) (t : ℕ) → MayAnswer v o task (SealedTail t) → (v.reach ≤ t) × (v.shut ≡ true)
may_sealed_tail v o Finding t m = m
may_sealed_tail v o Placing t m = absurd m
may_sealed_tail v o (Reading k) t m = absurd m
may_sealed_tail v o (Settling k) t m = absurd m
may_sealed_tail v o Sealing t m = absurd m
may_sealed_tail v o (Trimming k) t m = absurd m

may_lack : (v : LogletView) (o : Operation) (task : Task) (u : ℕ) → MayAnswer v o task (NoQuorum u) → IsLack v o u
may_lack v o (Reading k) u m = m.2
may_lack v o Placing u m = m
may_lack v o (Settling k) u m = m
may_lack v o Finding u m = m
may_lack v o Sealing u m = m
may_lack v o (Trimming k) u m = m

lack_cause : (v : LogletView) (o : Operation) (u : ℕ) → 1 ≤ v.quorum → IsLack v o u → HasCause v o
lack_cause v o u q l =
    elim (cases_lt 0 o.down) [
      | inl some ↦ inl some
      | inr none ↦ inr (omega (arith, l.enough, l.faults))
    ]

pub got : GotIsThere
got old t e new s = (s.does.operation, s.does.is, may_got old s.does.operation s.does.operation.task e s.does.may)

pub beyond : BeyondWasUnspoken
beyond old t n new s = (s.does.operation, s.does.is, may_beyond old s.does.operation s.does.operation.task n s.does.may)

pub placed : PlacedBeforeSeal
placed old t p new s = (s.does.operation, s.does.is, may_placed old s.does.operation s.does.operation.task p s.does.may)

pub lack : LackHasCause
lack old t u new s = (s.does.operation, s.does.is, lack_cause old s.does.operation u s.before.shape.quorum.0 (may_lack old s.does.operation s.does.operation.task u s.does.may))

pub sealed_tail : SealedTailCovers
sealed_tail old t n new s =
    let m = may_sealed_tail old s.does.operation s.does.operation.task n s.does.may in
    (m.1, m.0, ap (λ (v : LogletView). v.reach) s.does.rest ∙ omega arith)

pub trimmed : TrimStopsAtReach
trimmed old t n new s = let e = ap (λ (v : LogletView). v.cut) s.does.rest in (e, omega (arith, e, s.before.cut))
