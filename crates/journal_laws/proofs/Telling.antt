-- How the faults of a journal come of its events.
use Rattle.std.proofs.Common.{◌≡◌, refl, ap, ◌∙◌, ℕ, ◌+◌, cond, Bool, List, [], ◌∷◌, ◌++◌, Option, Some, None, arith}
use Rattle.std.specs.Prelude.{All, count_by}
use Rattle.std.proofs.lemmas.List.Sums.{sum_by-append}
use Rattle.std.proofs.lemmas.List.Elements.{All-nil, All-cons}
use Rattle.delos_types.specs.declared.cause.Cause.{Cause}
use Rattle.delos_types.specs.declared.cause.Cause.TheVariants as cause
use Rattle.loglet_api.specs.declared.call.Op.{Op}
use Rattle.loglet_api.specs.declared.call.Answer.TheVariants as answers
use Rattle.legal_journal.specs.declared.events.Event.{Event}
use Rattle.legal_journal.specs.declared.events.FabricCall.{FabricCall}
use Rattle.legal_journal.specs.declared.events.FabricCall.TheVariants.{Begin, Carry}
use Rattle.legal_journal.specs.declared.events.FabricAnswer.{FabricAnswer}
use Rattle.legal_journal.specs.declared.events.FabricAnswer.TheVariants as fabric
use Rattle.journal_laws.specs.Faults.{fault_of, faults_in}

count_by-append : {A : Type 0} (p : A → Bool) (xs ys : List A) → count_by p (xs ++ ys) ≡ count_by p xs + count_by p ys
count_by-append p xs ys = sum_by-append (λ x. cond (p x) 1 0) xs ys

-- how often the fault of an event counts
abbrev pub weight : (Cause → Bool) → Option Cause → ℕ
weight P None = 0
weight P (Some c) = cond (P c) 1 0

pub count-more : (P : Cause → Bool) (e : Event) (es : List Event) → count_by P (faults_in (e ∷ es)) ≡ weight P (fault_of e.answer e.call) + count_by P (faults_in es)
count-more P e es = by (fault_of e.answer e.call) refl
  where
    by : (o : Option Cause) → fault_of e.answer e.call ≡ o → count_by P (faults_in (e ∷ es)) ≡ weight P o + count_by P (faults_in es)
    by None h = rw h (let k : count_by P (faults_in es) ≡ 0 + count_by P (faults_in es) = omega arith in k)
    by (Some c) h = rw h (count_by-append P (c ∷ []) (faults_in es) ∙ (let k : 0 + cond (P c) 1 0 + count_by P (faults_in es) ≡ cond (P c) 1 0 + count_by P (faults_in es) = omega arith in k))

-- what holds of the fault of an event, and of those of the events after it
pub all-more : (Q : Cause → Type 0) (e : Event) (es : List Event) → ((c : Cause) → fault_of e.answer e.call ≡ Some c → Q c) → All Q (faults_in es) → All Q (faults_in (e ∷ es))
all-more Q e es first rest = by (fault_of e.answer e.call) refl
  where
    by : (o : Option Cause) → fault_of e.answer e.call ≡ o → All Q (faults_in (e ∷ es))
    by None h = rw h rest
    by (Some c) h = rw h (All-cons Q c (faults_in es) (first c h) rest)

pub all-none : (Q : Cause → Type 0) → All Q (faults_in [])
all-none Q = All-nil Q

-- The events that tell a fault.

pub record IsLackAt (i unreached : ℕ) (c : FabricCall) (a : FabricAnswer) : Type 0 where
  pub ticket : ℕ
  pub word : ℕ
  pub called : c ≡ Carry i ticket word
  pub answered : a ≡ fabric.Done (answers.NoQuorum unreached)

same_lack : (i u j v : ℕ) → Some (cause.NoQuorum j v) ≡ Some (cause.NoQuorum i u) → (j ≡ i) × (v ≡ u)
same_lack i u j v h = (cc, cc)

pub lack_at : (i u : ℕ) (a : FabricAnswer) (c : FabricCall) → fault_of a c ≡ Some (cause.NoQuorum i u) → IsLackAt i u c a
lack_at i u (fabric.Done (answers.NoQuorum v)) (Carry j t word) h =
    let same = same_lack i u j v h in
    record { ticket = t; word = word; called = ap (λ x. Carry x t word) same.0; answered = ap (λ x. fabric.Done (answers.NoQuorum x)) same.1 }
lack_at i u fabric.Full (Begin j op) h = absurd (cc)
lack_at i u a c h = absurd (cc)

pub record IsFullAt (i : ℕ) (c : FabricCall) (a : FabricAnswer) : Type 0 where
  pub op : Op
  pub called : c ≡ Begin i op
  pub answered : a ≡ fabric.Full

pub full_at : (i : ℕ) (a : FabricAnswer) (c : FabricCall) → fault_of a c ≡ Some (cause.Full i) → IsFullAt i c a
full_at i fabric.Full (Begin j op) h = record { op = op; called = let same : j ≡ i = cc in ap (λ x. Begin x op) same; answered = refl }
full_at i (fabric.Done (answers.NoQuorum v)) (Carry j t word) h = absurd (cc)
full_at i a c h = absurd (cc)
