-- A refused write, and two that stand.
use Rattle.std.proofs.Common.{◌≡◌, refl, sym, ap, ◌∙◌, subst, ⊎_elim, ℕ, ◌<◌, ◌≤◌, List, [], ◌∷◌, ◌++◌, Some, arith, append_assoc}
use Rattle.std.proofs.lemmas.Bool.{cases_lt}
use Rattle.delos_types.specs.declared.chain.Chain.{Chain}
use Rattle.chain_map.specs.Chain.{last_id}
use Rattle.legal_journal.specs.Law.{Law}
use Rattle.legal_journal.specs.declared.events.Event.{Event}
use Rattle.legal_journal.specs.declared.events.FabricCall.TheVariants.{WriteChain}
use Rattle.legal_journal.specs.declared.events.FabricAnswer.TheVariants.{Written, Conflict}
use Rattle.legal_journal.specs.Journal.{State, state_of, IsLegal}
use Rattle.legal_journal.specs.Laws.{Continues}
use Rattle.legal_journal.proofs.Legal.{sound, legal_front, goes_on}
use Rattle.legal_journal.proofs.Taken.{took}
use Rattle.journal_laws.specs.Versions.{IsFurther}

module _ (law : Law) where
  -- a later journal
  on : (early more late : List Event) → late ≡ early ++ more → IsLegal law late → Continues (state_of early) (state_of late)
  on early more late is legal = subst (λ (es : List Event). Continues (state_of early) (state_of es)) (sym is) (goes_on law early more (subst (IsLegal law) is legal))

  pub refused : (who expected version : ℕ) (asked chain : Chain) (looked before after : List Event)
      → IsLegal law ((looked ++ before) ++ record { who = who; call = WriteChain expected asked; answer = Conflict version chain } ∷ after)
      → last_id (state_of looked).register.chain < last_id chain
      → IsFurther (state_of looked).register (state_of ((looked ++ before) ++ record { who = who; call = WriteChain expected asked; answer = Conflict version chain } ∷ after)).register version
  refused who expected version asked chain looked before after legal behind =
      let e : Event = record { who = who; call = WriteChain expected asked; answer = Conflict version chain } in
      let wrote : List Event = (looked ++ before) ++ e ∷ [] in
      let new : List Event = (looked ++ before) ++ e ∷ after in
      let seen : new ≡ wrote ++ after = sym (append_assoc (looked ++ before) (e ∷ []) after) in
      let front = legal_front law wrote after (subst (IsLegal law) seen legal) in
      let step : wrote ≡ looked ++ (before ++ e ∷ []) = append_assoc looked before (e ∷ []) in
      let k = took law looked before e wrote front refl in
      let to_new = on wrote after new seen legal in
      let to_wrote = on looked (before ++ e ∷ []) wrote step front in
      let early = legal_front law looked (before ++ e ∷ []) (subst (IsLegal law) step front) in
      let version_is : (state_of wrote).register.version ≡ version = ap (λ (y : State). y.register.version) k.now in
      let chain_is : (state_of wrote).register.chain ≡ chain = ap (λ (y : State). y.register.chain) k.now in
      let high : last_id (state_of looked).register.chain < last_id (state_of wrote).register.chain = omega (arith, behind, ap last_id chain_is) in
      record {
        above = ⊎_elim
            (λ (h : (state_of looked).register.version < version). h)
            (λ (h : version ≤ (state_of looked).register.version). absurd (
            let same : (state_of looked).register.version ≡ (state_of wrote).register.version = omega (arith, h, version_is, to_wrote.version) in
            let was = to_wrote.given (state_of looked).register.version (state_of looked).register.chain (sound law looked early).given in
            let both : Some (state_of looked).register.chain ≡ Some (state_of wrote).register.chain = sym was ∙ (ap (state_of wrote).register.given same ∙ (sound law wrote front).given) in
            let one : (state_of looked).register.chain ≡ (state_of wrote).register.chain = cc in
            omega (arith, high, ap last_id one)))
            (cases_lt (state_of looked).register.version version);
        within = omega (arith, version_is, to_new.version);
        next = omega (arith, high, to_new.last);
      }

  pub differ : (who by expected wanted version second : ℕ) (c d : Chain) (before between after : List Event)
      → IsLegal law ((before ++ record { who = who; call = WriteChain expected c; answer = Written version } ∷ between) ++ record { who = by; call = WriteChain wanted d; answer = Written second } ∷ after)
      → version < second
  differ who by expected wanted version second c d before between after legal =
      let e : Event = record { who = who; call = WriteChain expected c; answer = Written version } in
      let f : Event = record { who = by; call = WriteChain wanted d; answer = Written second } in
      let first : List Event = before ++ e ∷ [] in
      let early : List Event = before ++ e ∷ between in
      let wrote : List Event = early ++ f ∷ [] in
      let seen : early ++ f ∷ after ≡ wrote ++ after = sym (append_assoc early (f ∷ []) after) in
      let front = legal_front law wrote after (subst (IsLegal law) seen legal) in
      let early_legal = legal_front law early (f ∷ []) front in
      let split : early ≡ first ++ between = sym (append_assoc before (e ∷ []) between) in
      let first_legal = legal_front law first between (subst (IsLegal law) split early_legal) in
      let a = took law before [] e first first_legal (none before e) in
      let b = took law early [] f wrote front (none early f) in
      let first_is : (state_of first).register.version ≡ version = ap (λ (y : State). y.register.version) a.now in
      let goes = on first between early split early_legal in
      omega (arith, first_is, goes.version, b.before.version, b.allowed.1, b.allowed.3)
    where
      none : (es : List Event) (x : Event) → es ++ x ∷ [] ≡ (es ++ []) ++ x ∷ []
      none es x = sym (append_assoc es [] (x ∷ []))
