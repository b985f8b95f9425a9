-- The chain that was read last is told of any register that is as the journal tells.
use Rattle.std.proofs.Common.{◌≡◌, refl, sym, ap, ◌∙◌, subst, ◌⊎◌, inl, inr, ℕ, ◌+◌, true, false, List, [], ◌∷◌, ◌++◌, Some, None, arith, append_assoc}
use Rattle.chain_map.specs.Chain.{is_chain}
use Rattle.register_api.specs.View.{RegisterView}
use Rattle.legal_journal.specs.Law.{Law}
use Rattle.legal_journal.specs.declared.events.Event.{Event}
use Rattle.legal_journal.specs.declared.events.FabricCall.{FabricCall}
use Rattle.legal_journal.specs.declared.events.FabricCall.TheVariants.{ReadChain, MendMeta}
use Rattle.legal_journal.specs.declared.events.FabricAnswer.{FabricAnswer}
use Rattle.legal_journal.specs.declared.events.FabricAnswer.TheVariants.{At, Down}
use Rattle.legal_journal.specs.Moves.{move, move_of}
use Rattle.legal_journal.specs.Journal.{State, start, state_of, after, IsAllowed, IsLegal}
use Rattle.legal_journal.proofs.Legal.{IsLegalFrom-split, after_all-append}
use Rattle.fabric_core.specs.Fabric.{FabricView, IsRegisterAsTold}
use Rattle.fabric_core.specs.Runs.{HasRegisterRun}
use Rattle.fitting_run.specs.declared.told.Told.{Told}
use Rattle.fitting_run.specs.Fits.{ChainIsRegistered}
use Rattle.last_chain.specs.declared.last.LastChain.{LastChain}
use Rattle.last_chain.specs.Last.{IsLast, AsksOnce, AskedOnce, calls_of}
use Rattle.last_chain.proofs.Misses.{counted}

-- an event of this call came last
record EndsBy (call : FabricCall) (events : List Event) : Type 0 where
  before : List Event
  event : Event
  is : events ≡ before ++ event ∷ []
  call_is : event.call ≡ call

ends-one : (es : List Event) (k : FabricCall) → calls_of es ≡ k ∷ [] → EndsBy k es
ends-one [] k h = absurd (cc)
ends-one (e ∷ []) k h = record { before = []; event = e; is = refl; call_is = first e.call k h }
  where
    first : (a b : FabricCall) → a ∷ [] ≡ b ∷ [] → a ≡ b
    first a b h = cc
ends-one (e ∷ f ∷ es) k h = absurd (cc)

ends-three : (es : List Event) (a b k : FabricCall) → calls_of es ≡ a ∷ b ∷ k ∷ [] → EndsBy k es
ends-three [] a b k h = absurd (cc)
ends-three (e ∷ []) a b k h = absurd (cc)
ends-three (e ∷ f ∷ []) a b k h = absurd (cc)
ends-three (e ∷ f ∷ g ∷ []) a b k h = record { before = e ∷ f ∷ []; event = g; is = refl; call_is = third e.call f.call g.call h }
  where
    third : (x y z : FabricCall) → x ∷ y ∷ z ∷ [] ≡ a ∷ b ∷ k ∷ [] → z ≡ k
    third x y z h = cc
ends-three (e ∷ f ∷ g ∷ i ∷ es) a b k h = absurd (cc)

ends-asked : (es : List Event) → AskedOnce (calls_of es) → EndsBy ReadChain es
ends-asked es (inl h) = ends-one es ReadChain h
ends-asked es (inr h) = ends-three es ReadChain (MendMeta 0) ReadChain h

module _ (law : Law) where
  -- after a read that was answered, no write is in doubt
  read_settles : (w : State) (who : ℕ) (answer : FabricAnswer) → IsAllowed w law who (move_of ReadChain answer) → (after w who (move_of ReadChain answer)).register.down ≡ false → (after w who (move_of ReadChain answer)).register.asked ≡ None
  read_settles w who (At v c) h up = refl
  read_settles w who Down h up = absurd (let t : true ≡ false = sym h ∙ up in cc)
  read_settles w who answer h up = absurd h

  call_settles : (w : State) (who : ℕ) (call : FabricCall) (answer : FabricAnswer) → call ≡ ReadChain → IsAllowed w law who (move_of call answer) → (after w who (move_of call answer)).register.down ≡ false → (after w who (move_of call answer)).register.asked ≡ None
  call_settles w who call answer is h up =
      subst (λ k. (after w who (move_of k answer)).register.asked ≡ None) (sym is)
      (read_settles w who answer (subst (λ k. IsAllowed w law who (move_of k answer)) is h) (subst (λ k. (after w who (move_of k answer)).register.down ≡ false) is up))

  pub asked_none : (early journal : List Event) → IsLegal law journal → AsksOnce early journal → (state_of journal).register.down ≡ false → (state_of journal).register.asked ≡ None
  asked_none early journal legal a up =
      let e = ends-asked a.more a.calls in
      let whole : journal ≡ (early ++ e.before) ++ e.event ∷ [] = a.seen ∙ (ap (λ l. early ++ l) e.is ∙ sym (append_assoc early e.before (e.event ∷ []))) in
      let steps = IsLegalFrom-split law start (early ++ e.before) (e.event ∷ []) (subst (IsLegal law) whole legal).steps in
      let state : state_of journal ≡ after (state_of (early ++ e.before)) e.event.who (move e.event) = ap state_of whole ∙ after_all-append start (early ++ e.before) (e.event ∷ []) in
      ap (λ (w : State). w.register.asked) state ∙ call_settles (state_of (early ++ e.before)) e.event.who e.event.call e.event.answer e.call_is steps.1.0.allowed (sym (ap (λ (w : State). w.register.down) state) ∙ up)

  pub registered : (early : List Event) (l : LastChain) (f : FabricView) (v : RegisterView) (o : Told) → IsLegal law f.journal → AsksOnce early f.journal → IsLast l f → IsRegisterAsTold (state_of f.journal).register f.register
      → HasRegisterRun f.journal f.register → IsRegisterAsTold (state_of f.journal).register v → HasRegisterRun f.journal v → o.version ≡ l.version → o.chain ≡ l.chain → o.down ≡ l.down → ChainIsRegistered o v
  registered early l f v o legal asks last mine ran told run version chain down = record {
    joins = ap is_chain chain ∙ last.joins;
    version = version ∙ (last.version ∙ (mine.given ∙ sym told.given));
    chain = chain ∙ (last.chain ∙ (mine.given_chain ∙ sym told.given_chain));
    current = λ up. by up told.current;
    down = down ∙ (last.down ∙ (mine.down ∙ sym told.down));
    missed = λ is.
        let here : f.register.down ≡ true = mine.down ∙ (sym told.down ∙ is) in
        let least = last.missed here in
        let a = counted f.journal f.register ran in
        let b = counted f.journal v run in
        omega (arith, least, a, b);
  }
    where
      by : v.down ≡ false → ((v.version ≡ (state_of f.journal).register.version) × (v.chain ≡ (state_of f.journal).register.chain)) ⊎ ((v.version ≡ (state_of f.journal).register.version + 1) × ((state_of f.journal).register.asked ≡ Some v.chain)) → (v.version ≡ v.given) × (v.chain ≡ v.given_chain)
      by up (inl h) = (h.0 ∙ sym told.given, h.1 ∙ sym told.given_chain)
      by up (inr h) = absurd (let none = asked_none early f.journal legal asks (sym told.down ∙ up) in let t : None ≡ Some v.chain = sym none ∙ h.1 in cc)
