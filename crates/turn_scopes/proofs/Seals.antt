-- Which Seals a user began beside others.
use Rattle.std.proofs.Common.{◌≡◌, ◌⊎◌, inl, inr, ℕ, zero, suc, ◌+◌, ◌<◌, Bool, true, false, cond, List, [], ◌∷◌, ◌++◌, refl, sym, ap, ◌∙◌, arith, append_assoc, append-nil}
use Rattle.std.specs.Prelude.{◌==◌, ◌&&◌}
use Rattle.std.proofs.lemmas.Bool.Decides.{nat_tests}
use Rattle.std.proofs.lemmas.List.Sums.{sum_by-cons}
use Rattle.loglet_api.specs.declared.call.Op.TheVariants.{Seal}
use Rattle.legal_journal.specs.declared.events.FabricCall.{FabricCall}
use Rattle.legal_journal.specs.declared.events.FabricCall.TheVariants.{Begin}
use Rattle.legal_journal.specs.declared.events.FabricAnswer.{FabricAnswer}
use Rattle.legal_journal.specs.declared.events.Event.{Event}
use Rattle.legal_journal.specs.Turns.{AreOthers, HasRight}
use Rattle.legal_journal.specs.Sealing.{is_seal, begins_seal, own_seals}
use Rattle.legal_journal.proofs.Sealing.{count-append}
use Rattle.virtual_log.specs.Sealing.{SealsNone}
use Rattle.turn_scopes.specs.Beside.{SealsByRight}

-- how an event counts
abbrev pub one_if : Bool → ℕ
one_if b = cond b 1 0

pub own_seals-cons : (who : ℕ) (e : Event) (es : List Event) → own_seals who (e ∷ es) ≡ one_if (begins_seal e && (e.who == who)) + own_seals who es
own_seals-cons who e es = sum_by-cons (λ (x : Event). cond (begins_seal x && (x.who == who)) 1 0) e es

-- others began none of them
others_none : (who : ℕ) (es : List Event) → AreOthers who es → own_seals who es ≡ 0
others_none who [] h = refl
others_none who (e ∷ es) h = omega (arith, own_seals-cons who e es, not_its (begins_seal e) (e.who == who) refl, others_none who es h.1)
  where
    not_its : (a b : Bool) → (e.who == who) ≡ b → one_if (a && b) ≡ 0
    not_its a true is = let same : e.who ≡ who = grind (arith, nat_tests) in absurd (h.0 same)
    not_its true false is = refl
    not_its false false is = refl

right_of : (seals : ℕ → Type 0) (who : ℕ) (call : FabricCall) → HasRight seals who call → is_seal call ≡ true → seals who
right_of seals who (Begin i Seal) h e = h
right_of seals who call h e = absurd (cc)

pub right_none : (may : Type 0) (who : ℕ) (old new : List Event) → old ≡ new → SealsByRight may who old new
right_none may who old new is = record { more = []; seen = sym is ∙ sym (append-nil old); right = λ h. absurd (omega (arith, h)) }

-- .. nor since, where others' events came, and then those of a call that who has the right to make
pub right_more : (seals : ℕ → Type 0) (who : ℕ) (call : FabricCall) (answer : FabricAnswer) (old seen others own new : List Event) → SealsByRight (seals who) who old seen → AreOthers who others → HasRight seals who call → (own ≡ []) ⊎ (own ≡ record { who = who; call = call; answer = answer } ∷ []) → new ≡ (seen ++ others) ++ own → SealsByRight (seals who) who old new
right_more seals who call answer old seen others own new h apart may event is = record {
  more = h.more ++ (others ++ own);
  seen = is ∙ (append_assoc seen others own ∙ (ap (λ (l : List Event). l ++ (others ++ own)) h.seen ∙ append_assoc old h.more (others ++ own)));
  right = λ some. by (own_seals who h.more) refl event
      (omega (arith, some, counted h.more (others ++ own), counted others own, others_none who others apart));
}
  where
    counted : (xs ys : List Event) → own_seals who (xs ++ ys) ≡ own_seals who xs + own_seals who ys
    counted xs ys = count-append (λ (e : Event). begins_seal e && (e.who == who)) xs ys

    by_call : (b c : Bool) → is_seal call ≡ b → 0 < one_if (b && c) → seals who
    by_call true c e l = right_of seals who call may e
    by_call false c e l = absurd (omega (arith, l))

    by : (n : ℕ) → own_seals who h.more ≡ n → (own ≡ []) ⊎ (own ≡ record { who = who; call = call; answer = answer } ∷ []) → 0 < n + own_seals who own → seals who
    by (suc n) e x l = h.right (omega (arith, e))
    by zero e (inl none) l = absurd (let same = ap (own_seals who) none in omega (arith, l, same))
    by zero e (inr one) l = by_call (is_seal call) (who == who) refl (let same = ap (own_seals who) one in omega (arith, l, same))

-- where it may begin none, it began none
pub seals_none : (who : ℕ) (old new : List Event) → SealsByRight ⊥ who old new → SealsNone who old new
seals_none who old new h = record { more = h.more; seen = h.seen; none = by (own_seals who h.more) h.right }
  where
    by : (n : ℕ) → (0 < n → ⊥) → n ≡ 0
    by zero f = refl
    by (suc n) f = absurd (f (omega arith))

pub right_any : (may : Type 0) (who : ℕ) (old new : List Event) → SealsByRight ⊥ who old new → SealsByRight may who old new
right_any may who old new h = record { more = h.more; seen = h.seen; right = λ some. absurd (h.right some) }

-- one after the other
pub right_both : (may : Type 0) (who : ℕ) (a b c : List Event) → SealsByRight may who a b → SealsByRight may who b c → SealsByRight may who a c
right_both may who a b c h k = record {
  more = h.more ++ k.more;
  seen = k.seen ∙ (ap (λ (l : List Event). l ++ k.more) h.seen ∙ append_assoc a h.more k.more);
  right = λ some. by (own_seals who h.more) refl (omega (arith, some, count-append (λ (e : Event). begins_seal e && (e.who == who)) h.more k.more));
}
  where
    by : (n : ℕ) → own_seals who h.more ≡ n → 0 < n + own_seals who k.more → may
    by (suc n) e l = h.right (omega (arith, e))
    by zero e l = k.right (omega (arith, l))
