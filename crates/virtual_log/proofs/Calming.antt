-- Turns that tell of no fault.
use Rattle.std.proofs.Common.{◌≡◌, ◌⊎◌, inl, inr, ℕ, List, [], ◌∷◌, ◌++◌, sym, ap, ◌∙◌, subst, append_assoc}
use Rattle.std.proofs.lemmas.List.{append-nil}
use Rattle.legal_journal.specs.Law.{Law}
use Rattle.legal_journal.specs.declared.events.Event.{Event}
use Rattle.legal_journal.specs.declared.events.FabricCall.{FabricCall}
use Rattle.legal_journal.specs.declared.events.FabricAnswer.{FabricAnswer}
use Rattle.legal_journal.specs.Turns.{AreOthers, IsTurn}
use Rattle.legal_journal.proofs.Sealing.{one_or_none}
use Rattle.virtual_log.specs.Causes.{IsCalm, AreCalm, CalmSince}

others_calm : (who : ℕ) (es : List Event) → AreOthers who es → AreCalm who es
others_calm who [] h = tt
others_calm who (e ∷ es) h = (λ same. absurd (h.0 same), others_calm who es h.1)

calm_append : (who : ℕ) (xs ys : List Event) → AreCalm who xs → AreCalm who ys → AreCalm who (xs ++ ys)
calm_append who [] ys h k = k
calm_append who (x ∷ xs) ys h k = (h.0, calm_append who xs ys h.1 k)

-- no event tells anything
pub calm_refl : (who : ℕ) (a : List Event) → CalmSince who a a
calm_refl who a = record { more = []; seen = sym (append-nil a); calm = tt }

-- a calm part, and then what whoever is the same saw
pub calm_then : (who user : ℕ) (a b c : List Event) → user ≡ who → CalmSince who a b → CalmSince user b c → CalmSince who a c
calm_then who user a b c same f g =
    let h = subst (λ k. CalmSince k b c) same g in record {
      more = f.more ++ h.more;
      seen = h.seen ∙ (ap (λ l. l ++ h.more) f.seen ∙ append_assoc a f.more h.more);
      calm = calm_append who f.more h.more f.calm h.calm;
    }

module _ (law : Law) (who : ℕ) (old : List Event) where
  -- one turn
  pub turn_calm : (call : FabricCall) (answer : FabricAnswer) (new : List Event) → IsTurn law who old call answer new → IsCalm answer → CalmSince who old new
  turn_calm call answer new t calm = record {
    more = t.others ++ t.own;
    seen = t.seen ∙ append_assoc old t.others t.own;
    calm = calm_append who t.others t.own (others_calm who t.others t.apart) (by (one_or_none who call answer t.own t.event));
  }
    where
      by : (t.own ≡ []) ⊎ (t.own ≡ record { who = who; call = call; answer = answer } ∷ []) → AreCalm who t.own
      by (inl none) = subst (AreCalm who) (sym none) tt
      by (inr one) = subst (AreCalm who) (sym one) (λ _. calm, tt)
