-- Which operations turns leave open.
use Rattle.std.proofs.Common.{◌≡◌, ◌⊎◌, inl, inr, ℕ, List, [], ◌∷◌, ◌++◌, Option, None, Some, Result, Ok, Err, refl, sym, ap, ◌∙◌, subst, append_assoc}
use Rattle.std.proofs.lemmas.List.{append-nil}
use Rattle.legal_journal.specs.Law.{Law}
use Rattle.legal_journal.specs.declared.events.Event.{Event}
use Rattle.legal_journal.specs.declared.events.FabricCall.{FabricCall}
use Rattle.legal_journal.specs.declared.events.FabricCall.TheVariants.{Forget}
use Rattle.legal_journal.specs.declared.events.FabricAnswer.{FabricAnswer}
use Rattle.legal_journal.specs.Turns.{AreOthers, IsTurn}
use Rattle.legal_journal.proofs.Sealing.{one_or_none}
use Rattle.virtual_log.specs.declared.fault.Fault.{Fault}
use Rattle.virtual_log.specs.declared.fault.Fault.TheVariants.{NoQuorum, Full, Meta, Memory}
use Rattle.virtual_log.specs.Operating.{Operation, Hands, HandsEach, Operates, LeftBy, ClosesOwn}

others_hand : (who : ℕ) (now : Option Operation) (es : List Event) → AreOthers who es → HandsEach who now es now
others_hand who now [] h = refl
others_hand who now (e ∷ es) h = (now, inr (h.0, refl), others_hand who now es h.1)

hands_append : (who : ℕ) (a b c : Option Operation) (xs ys : List Event) → HandsEach who a xs b → HandsEach who b ys c → HandsEach who a (xs ++ ys) c
hands_append who a b c [] ys h k = subst (λ o. HandsEach who o ys c) h k
hands_append who a b c (x ∷ xs) ys h k = (h.0, h.1, hands_append who h.0 b c xs ys h.2 k)

-- no event hands anything
pub operates_refl : (who : ℕ) (now : Option Operation) (a : List Event) → Operates who now now a a
operates_refl who now a = record { more = []; seen = sym (append-nil a); hands = refl }

operates_trans : (who : ℕ) (x y z : Option Operation) (a b c : List Event) → Operates who x y a b → Operates who y z b c → Operates who x z a c
operates_trans who x y z a b c f g = record {
  more = f.more ++ g.more;
  seen = g.seen ∙ (ap (λ l. l ++ g.more) f.seen ∙ append_assoc a f.more g.more);
  hands = hands_append who x y z f.more g.more f.hands g.hands;
}

-- what whoever is the same does next
pub operates_then : {x y z : Option Operation} (who user : ℕ) (a b c : List Event) → user ≡ who → Operates who x y a b → Operates user y z b c → Operates who x z a c
operates_then {x} {y} {z} who user a b c same f g = operates_trans who x y z a b c f (subst (λ k. Operates k y z b c) same g)

-- where nothing is left open, none is whatever the fault, and whatever is answered
pub left_none : (who : ℕ) (a b : List Event) (fault : Fault) → Operates who None None a b → LeftBy who a fault b
left_none who a b Memory h = (None, h)
left_none who a b (NoQuorum id unreached) h = h
left_none who a b (Full id) h = h
left_none who a b Meta h = h

pub closes_none : {A : Type 0} (who : ℕ) (a b : List Event) (r : Result A Fault) → Operates who None None a b → ClosesOwn who a r b
closes_none who a b (Ok x) h = h
closes_none who a b (Err fault) h = left_none who a b fault h

-- what is left by what whoever is the same does next
pub left_then : (who user : ℕ) (a b c : List Event) (fault : Fault) → user ≡ who → Operates who None None a b → LeftBy user b fault c → LeftBy who a fault c
left_then who user a b c Memory same f g = (g.0, operates_then who user a b c same f g.1)
left_then who user a b c (NoQuorum id unreached) same f g = operates_then who user a b c same f g
left_then who user a b c (Full id) same f g = operates_then who user a b c same f g
left_then who user a b c Meta same f g = operates_then who user a b c same f g

module _ (law : Law) (who : ℕ) (old : List Event) where
  turn_by : (before last : Option Operation) (call : FabricCall) (answer : FabricAnswer) (new : List Event) → (t : IsTurn law who old call answer new) → HandsEach who before t.own last → Operates who before last old new
  turn_by before last call answer new t h = record {
    more = t.others ++ t.own;
    seen = t.seen ∙ append_assoc old t.others t.own;
    hands = hands_append who before before last t.others t.own (others_hand who before t.others t.apart) h;
  }

  -- a turn that has its event
  pub turn_hands : (before last : Option Operation) (call : FabricCall) (answer : FabricAnswer) (new : List Event) → (t : IsTurn law who old call answer new)
      → t.own ≡ record { who = who; call = call; answer = answer } ∷ [] → Hands before call answer last → Operates who before last old new
  turn_hands before last call answer new t own h =
      turn_by before last call answer new t (subst (λ es. HandsEach who before es last) (sym own) (last, inl (refl, h), refl))

  -- a turn after which the same is at hand, also where it has no event
  pub turn_keeps : (now : Option Operation) (call : FabricCall) (answer : FabricAnswer) (new : List Event) → IsTurn law who old call answer new → Hands now call answer now → Operates who now now old new
  turn_keeps now call answer new t h = turn_by now now call answer new t (by (one_or_none who call answer t.own t.event))
    where
      by : (t.own ≡ []) ⊎ (t.own ≡ record { who = who; call = call; answer = answer } ∷ []) → HandsEach who now t.own now
      by (inl none) = subst (λ es. HandsEach who now es now) (sym none) refl
      by (inr one) = subst (λ es. HandsEach who now es now) (sym one) (now, inl (refl, h), refl)

  -- a closing of the operation at hand, whatever is answered
  pub turn_forgets : (o : Operation) (answer : FabricAnswer) (new : List Event) → IsTurn law who old (Forget o.loglet o.ticket) answer new → (left : Option Operation) × Operates who (Some o) left old new
  turn_forgets o answer new t = by (one_or_none who (Forget o.loglet o.ticket) answer t.own t.event)
    where
      by : (t.own ≡ []) ⊎ (t.own ≡ record { who = who; call = Forget o.loglet o.ticket; answer = answer } ∷ []) → (left : Option Operation) × Operates who (Some o) left old new
      by (inl none) = (Some o, turn_by (Some o) (Some o) (Forget o.loglet o.ticket) answer new t (subst (λ es. HandsEach who (Some o) es (Some o)) (sym none) refl))
      by (inr one) = (None, turn_hands (Some o) None (Forget o.loglet o.ticket) answer new t one (refl, refl, refl))
