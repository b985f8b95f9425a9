-- One thread alone takes turns.
use Rattle.std.proofs.Common.{◌≡◌, ℕ, List, [], ◌∷◌, ◌++◌, refl, sym, ap, ◌∙◌, subst}
use Rattle.legal_journal.specs.Law.{Law}
use Rattle.legal_journal.specs.declared.events.Event.{Event}
use Rattle.legal_journal.specs.declared.events.FabricCall.{FabricCall}
use Rattle.legal_journal.specs.declared.events.FabricAnswer.{FabricAnswer}
use Rattle.legal_journal.specs.Journal.{state_of, IsLegal}
use Rattle.legal_journal.specs.Turns.{MayCall, MayTurn, IsTurn}
use Rattle.fabric_core.specs.Fabric.{Adds}

nil : (xs : List Event) → xs ++ [] ≡ xs
nil [] = refl
nil (x ∷ xs) = ap (λ l. x ∷ l) (nil xs)

module _ (law : Law) (who : ℕ) (old : List Event) (call : FabricCall) where
  -- what may be called after any events of others may be called at once
  pub may_now : MayTurn law who old call → IsLegal law old → MayCall (state_of old) law who call
  may_now may_turn legal =
      subst (λ (es : List Event). MayCall (state_of es) law who call) (nil old) (may_turn [] tt (subst (IsLegal law) (sym (nil old)) legal))

  -- a call of one thread alone is a turn
  pub turn_of : (answer : FabricAnswer) (new : List Event) → Adds old who call answer new → IsLegal law new → IsTurn law who old call answer new
  turn_of answer new a legal = record {
    others = [];
    own = a.own;
    apart = tt;
    event = a.event;
    seen = a.added ∙ ap (λ l. l ++ a.own) (sym (nil old));
    legal = legal;
  }
