-- Events of number 0, which is no node: they append nothing, and begin no Seal.
use Rattle.std.proofs.Common.{◌≡◌, refl, sym, ap, subst, ◌⊎◌, inl, inr, ⊎_elim, ℕ, suc, ◌≤◌, true, false, List, [], ◌∷◌, ◌++◌, None, arith}
use Rattle.std.specs.Prelude.{Contains}
use Rattle.delos_types.specs.declared.entry.Entry.{Entry}
use Rattle.legal_journal.specs.declared.events.Event.{Event}
use Rattle.legal_journal.specs.declared.events.FabricAnswer.{FabricAnswer}
use Rattle.legal_journal.specs.declared.events.FabricCall.{FabricCall}
use Rattle.legal_journal.specs.declared.events.FabricCall.TheVariants.{Begin, Carry, Forget, ReadChain, WriteChain, Stop, Mend, Stray, StopMeta, MendMeta}
use Rattle.legal_journal.specs.FaultCalls.{is_fault}
use Rattle.legal_journal.specs.Sealing.{begins_seal, is_seal}
use Rattle.legal_journal.specs.Turns.{AreOthers}
use Rattle.journal_laws.specs.Changes.{appended, entry_begun}
use Rattle.journal_laws.proofs.Changes.{adds_none, appended_parts}
use Rattle.run_laws.proofs.Members.{Among, contained-among}
use Rattle.node_lines.specs.Workers.{appended_by}
use Rattle.node_lines.proofs.Own.{own_more, own_stays, some_begun}
use Rattle.node_course.specs.FaultLines.{AreOutside, IsOutside}

-- by the call

fault_begins_none : (call : FabricCall) (answer : FabricAnswer) → is_fault call ≡ true → entry_begun call answer ≡ None
fault_begins_none (Begin i op) answer h = absurd (cc)
fault_begins_none (Carry i t word) answer h = absurd (cc)
fault_begins_none (Forget i t) answer h = absurd (cc)
fault_begins_none ReadChain answer h = absurd (cc)
fault_begins_none (WriteChain x c) answer h = absurd (cc)
fault_begins_none (Stop i server n) answer h = refl
fault_begins_none (Mend i server word) answer h = refl
fault_begins_none (Stray i word) answer h = refl
fault_begins_none (StopMeta n) answer h = refl
fault_begins_none (MendMeta word) answer h = refl

fault_seals_none : (call : FabricCall) → is_fault call ≡ true → is_seal call ≡ false
fault_seals_none (Begin i op) h = absurd (cc)
fault_seals_none (Carry i t word) h = refl
fault_seals_none (Forget i t) h = refl
fault_seals_none ReadChain h = refl
fault_seals_none (WriteChain x c) h = refl
fault_seals_none (Stop i server n) h = refl
fault_seals_none (Mend i server word) h = refl
fault_seals_none (Stray i word) h = refl
fault_seals_none (StopMeta n) h = refl
fault_seals_none (MendMeta word) h = refl

begins_none : (call : FabricCall) (answer : FabricAnswer) → (call ≡ ReadChain) ⊎ (is_fault call ≡ true) → entry_begun call answer ≡ None
begins_none call answer (inl is) = subst (λ k. entry_begun k answer ≡ None) (sym is) refl
begins_none call answer (inr is) = fault_begins_none call answer is

seals_none : (call : FabricCall) → (call ≡ ReadChain) ⊎ (is_fault call ≡ true) → is_seal call ≡ false
seals_none call (inl is) = ap is_seal is
seals_none call (inr is) = fault_seals_none call is

-- Of such events

-- it begins no Seal
pub outside_unsealing : (es : List Event) (e : Event) → AreOutside es → Among es e → begins_seal e ≡ false
outside_unsealing [] e r h = absurd h
outside_unsealing (x ∷ es) e r (inl same) = subst (λ y. begins_seal y ≡ false) same (seals_none x.call r.0.1)
outside_unsealing (x ∷ es) e r (inr later) = outside_unsealing es e r.1 later

-- none of them appends an entry
pub outside_appended : (es : List Event) → AreOutside es → appended es ≡ []
outside_appended [] r = refl
outside_appended (e ∷ es) r = rw (begins_none e.call e.answer r.0.1) (outside_appended es r.1)

-- what was appended then was before
pub outside_unsaid : (more : List Event) → AreOutside more → (early : List Event) (e : Entry) → Contains (appended (early ++ more)) e → Contains (appended early) e
outside_unsaid more outside early e has = ⊎_elim (λ (was : Contains (appended early) e). was) (λ (none : ⊥). absurd none) (adds_none (λ x. ⊥) early more (outside_appended more outside) e has)

-- they are by another than any node
pub outside_others : (n : ℕ) → 1 ≤ n → (es : List Event) → AreOutside es → AreOthers n es
outside_others n least [] r = tt
outside_others n least (e ∷ es) r = (λ same. absurd (let zero_is = r.0.0 in omega (arith, same, zero_is, least)), outside_others n least es r.1)

-- what was appended another appended
pub some_other : (es : List Event) (x : Entry) → Contains (appended es) x → (e : Event) × Contains es e × (IsOutside e → ⊥) × Contains (appended_by e.who es) x
some_other [] x h = absurd (omega (arith, h.1))
some_other (e ∷ es) x h = ⊎_elim
    (λ (now : Contains (appended (e ∷ [])) x).
    let b = some_begun (e ∷ []) x now in
    let same : b.0 ≡ e = only b.0 (contained-among (e ∷ []) b.0 b.1) in
    let none : IsOutside e → ⊥ = λ outside. let left = subst (λ xs. Contains xs x) (outside_appended (e ∷ []) (outside, tt)) now in omega (arith, left.1) in
    (e, (0, omega arith, refl), none, own_stays e.who (e ∷ []) es x (subst (λ (y : Event). Contains (appended_by y.who (e ∷ [])) x) same b.2)))
    (λ (later : Contains (appended es) x).
    let r = some_other es x later in
    (r.0, (suc r.1.0, omega (arith, r.1.1), r.1.2), r.2, own_more r.0.who (e ∷ []) es x r.3))
    (appended_parts (e ∷ []) es x h)
  where
    only : (y : Event) → Among (e ∷ []) y → y ≡ e
    only y (inl same) = sym same
    only y (inr later) = absurd later
