-- How many Seals were begun among events.
use Rattle.std.proofs.Common.{◌≡◌, ◌⊎◌, inl, inr, ℕ, zero, suc, ◌+◌, ◌<◌, Bool, true, false, cond, List, [], ◌∷◌, ◌++◌, refl, sym, ap, ◌∙◌, subst, arith, append_assoc}
use Rattle.std.specs.Prelude.{count_by}
use Rattle.std.proofs.lemmas.List.{append-nil}
use Rattle.std.proofs.lemmas.List.Sums.{sum_by-append}
use Rattle.loglet_api.specs.declared.call.Op.TheVariants.{Seal}
use Rattle.legal_journal.specs.declared.events.FabricCall.{FabricCall}
use Rattle.legal_journal.specs.declared.events.FabricCall.TheVariants.{Begin, Carry}
use Rattle.legal_journal.specs.declared.events.FabricAnswer.{FabricAnswer}
use Rattle.legal_journal.specs.declared.events.FabricAnswer.TheVariants.{Memory}
use Rattle.legal_journal.specs.declared.events.Event.{Event}
use Rattle.legal_journal.specs.Turns.{HasRight, OwnEvents}
use Rattle.legal_journal.specs.Sealing.{is_seal, begins_seal, Unsealed, SealsBy}

-- of two parts of a journal
pub count-append : (P : Event → Bool) (xs ys : List Event) → count_by P (xs ++ ys) ≡ count_by P xs + count_by P ys
count-append P xs ys = sum_by-append (λ e. cond (P e) 1 0) xs ys

pub unsealed_none : (a : List Event) → Unsealed a a
unsealed_none a = record { more = []; seen = sym (append-nil a); none = refl }

pub unsealed_both : (a b c : List Event) → Unsealed a b → Unsealed b c → Unsealed a c
unsealed_both a b c f g = record {
  more = f.more ++ g.more;
  seen = g.seen ∙ (ap (λ l. l ++ g.more) f.seen ∙ append_assoc a f.more g.more);
  none = omega (arith, count-append begins_seal f.more g.more, f.none, g.none);
}

-- where none may be begun, none is
pub unsealed_by : (a b : List Event) → SealsBy ⊥ a b → Unsealed a b
unsealed_by a b h = record { more = h.more; seen = h.seen; none = by (count_by begins_seal h.more) h.right }
  where
    by : (n : ℕ) → (0 < n → ⊥) → n ≡ 0
    by zero f = refl
    by (suc n) f = absurd (f (omega arith))

-- the events of a call: one, or none
pub one_or_none : (who : ℕ) (call : FabricCall) (answer : FabricAnswer) (own : List Event) → OwnEvents who call answer own → (own ≡ []) ⊎ (own ≡ record { who = who; call = call; answer = answer } ∷ [])
one_or_none who (Carry i t x) Memory own h = h
one_or_none who call Memory own h = inl h
one_or_none who call answer own h = inr h

right_of : (seals : ℕ → Type 0) (who : ℕ) (call : FabricCall) → HasRight seals who call → is_seal call ≡ true → seals who
right_of seals who (Begin i Seal) h e = h
right_of seals who call h e = absurd (cc)

pub seals_none : (may : Type 0) (a : List Event) → SealsBy may a a
seals_none may a = record { more = []; seen = sym (append-nil a); right = λ h. absurd (omega (arith, h)) }

-- .. and then the events of a call that who has the right to make
pub seals_more : (seals : ℕ → Type 0) (who : ℕ) (call : FabricCall) (answer : FabricAnswer) (old mid own new : List Event) → SealsBy (seals who) old mid → HasRight seals who call → (own ≡ []) ⊎ (own ≡ record { who = who; call = call; answer = answer } ∷ []) → new ≡ mid ++ own → SealsBy (seals who) old new
seals_more seals who call answer old mid own new h may event is = record {
  more = h.more ++ own;
  seen = is ∙ (ap (λ l. l ++ own) h.seen ∙ append_assoc old h.more own);
  right = λ some. by (count_by begins_seal h.more) refl event (subst (λ n. 0 < n) (count-append begins_seal h.more own) some);
}
  where
    by_call : (b : Bool) → is_seal call ≡ b → 0 < cond b 1 0 → seals who
    by_call true e l = right_of seals who call may e
    by_call false e l = absurd (omega (arith, l))

    by : (n : ℕ) → count_by begins_seal h.more ≡ n → (own ≡ []) ⊎ (own ≡ record { who = who; call = call; answer = answer } ∷ []) → 0 < n + count_by begins_seal own → seals who
    by (suc n) e x l = h.right (omega (arith, e))
    by zero e (inl none) l = absurd (let same = ap (count_by begins_seal) none in omega (arith, l, same))
    by zero e (inr one) l = by_call (is_seal call) refl (let same = ap (count_by begins_seal) one in omega (arith, l, same))
