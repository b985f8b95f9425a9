-- A user whom nobody is beside.
use Rattle.std.proofs.Common.{◌≡◌, ⊎_elim, ℕ, Bool, true, false, cond, List, [], ◌∷◌, ◌++◌, refl, sym, ap, ◌∙◌, subst, arith, append-nil}
use Rattle.std.specs.Prelude.{◌==◌, ◌&&◌, count_by}
use Rattle.std.proofs.lemmas.Bool.Decides.{nat_tests}
use Rattle.std.proofs.lemmas.List.Sums.{sum_by-cons}
use Rattle.legal_journal.specs.Law.{Law}
use Rattle.legal_journal.specs.declared.events.FabricCall.{FabricCall}
use Rattle.legal_journal.specs.declared.events.FabricAnswer.{FabricAnswer}
use Rattle.legal_journal.specs.declared.events.Event.{Event}
use Rattle.legal_journal.specs.Journal.{state_of, IsLegal}
use Rattle.legal_journal.specs.FaultCalls.{is_fault}
use Rattle.legal_journal.specs.Turns.{MayCall}
use Rattle.legal_journal.specs.Sealing.{begins_seal, own_seals, Unsealed}
use Rattle.virtual_log.specs.Sealing.{SealsNone}
use Rattle.fabric_core.specs.Fabric.{Adds}
use Rattle.turn_scopes.specs.Alone.{IsAlone, AreOwn, OwnSince}
use Rattle.turn_scopes.specs.Beside.{MayTake, IsTaken, AreAmong, Since, IsNarrower, Narrows}
use Rattle.turn_scopes.proofs.Seals.{own_seals-cons, one_if}

-- what it adds is what it takes
pub adds_taken : (law : Law) (beside : ℕ → Type 0) (who : ℕ) (old : List Event) (call : FabricCall) (answer : FabricAnswer) (new : List Event)
    → Adds old who call answer new → IsLegal law new → IsTaken law beside who old call answer new
adds_taken law beside who old call answer new adds legal = record {
  others = [];
  own = adds.own;
  between = tt;
  event = adds.event;
  seen = adds.added ∙ ap (λ (l : List Event). l ++ adds.own) (sym (append-nil old));
  legal = legal;
}

-- what may be taken may be called at once
pub taken_at_once : (law : Law) (beside : ℕ → Type 0) (who : ℕ) (seen : List Event) (call : FabricCall)
    → MayTake law beside who seen call → IsLegal law seen → MayCall (state_of seen) law who call
taken_at_once law beside who seen call take legal =
    subst (λ (es : List Event). MayCall (state_of es) law who call) (append-nil seen)
    (take.behind [] tt (subst (IsLegal law) (sym (append-nil seen)) legal))

-- a scope that is narrower than the rules binds nobody beside, since there is nobody
pub narrows_alone : (scope law : Law) (beside : ℕ → Type 0) → IsAlone beside → IsNarrower scope law → Narrows scope law beside
narrows_alone scope law beside alone narrower = record {
  narrower = narrower;
  others = λ user e b h. absurd (alone.nobody user b);
  trims = λ user b seen n legal free. absurd (alone.nobody user b);
}

-- so is the user later
pub alone_still : (beside : ℕ → ℕ → Type 0) (who now : ℕ) → now ≡ who → IsAlone (beside who) → IsAlone (beside now)
alone_still beside who now same alone = subst (λ w. IsAlone (beside w)) (sym same) alone

own_of : (who : ℕ) (beside : ℕ → Type 0) → IsAlone beside → (es : List Event) → AreAmong who beside es → AreOwn who es
own_of who beside alone [] h = tt
own_of who beside alone (e ∷ es) h = (⊎_elim (λ (k : (e.who ≡ who) × (is_fault e.call ≡ false)). k.0) (λ (k : beside e.who). absurd (alone.nobody e.who k)) h.0, own_of who beside alone es h.1)

-- all events are its own
pub own_since : (who : ℕ) (beside : ℕ → Type 0) (old new : List Event) → IsAlone beside → Since who beside old new → OwnSince who old new
own_since who beside old new alone h = record { more = h.more; seen = h.seen; own = own_of who beside alone h.more h.among }

-- all Seals are its own then
pub all_seals : (who : ℕ) (es : List Event) → AreOwn who es → own_seals who es ≡ count_by begins_seal es
all_seals who [] h = refl
all_seals who (e ∷ es) h = omega (arith, own_seals-cons who e es, sum_by-cons (λ (x : Event). cond (begins_seal x) 1 0) e es, all_seals who es h.1, by (begins_seal e) (e.who == who) refl)
  where
    by : (a b : Bool) → (e.who == who) ≡ b → one_if (a && b) ≡ cond a 1 0
    by true true is = refl
    by true false is = absurd (let same : e.who ≡ who = h.0 in let t : (e.who == who) ≡ true = grind (arith, nat_tests, same) in let x : true ≡ false = sym t ∙ is in cc)
    by false b is = refl

cancel : (xs ys zs : List Event) → xs ++ ys ≡ xs ++ zs → ys ≡ zs
cancel [] ys zs h = h
cancel (x ∷ xs) ys zs h = cancel xs ys zs (let e : xs ++ ys ≡ xs ++ zs = cc in e)

-- so where it began no Seal, none was begun
pub unsealed_own : (who : ℕ) (old new : List Event) → OwnSince who old new → SealsNone who old new → Unsealed old new
unsealed_own who old new h k =
    let same : k.more ≡ h.more = cancel old k.more h.more (sym k.seen ∙ h.seen) in
    record { more = h.more; seen = h.seen; none = sym (all_seals who h.more h.own) ∙ (ap (own_seals who) (sym same) ∙ k.none) }
