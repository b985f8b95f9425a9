-- The chain is asked for, and the register opened again.
use Rattle.std.proofs.Common.{◌≡◌, ◌⊎◌, inl, inr, ⊎_elim, refl, sym, ap, ◌∙◌, subst, append_assoc, append-nil, ℕ, ◌+◌, cond, Bool, true, false, List, [], ◌∷◌, ◌++◌, length, Some, None, arith}
use Rattle.std.proofs.lemmas.List.Sums.{sum_by_push}
use Rattle.delos_types.specs.declared.chain.Chain.{Chain}
use Rattle.chain_map.specs.Chain.{is_chain}
use Rattle.legal_journal.specs.Law.{Law}
use Rattle.legal_journal.specs.declared.events.FabricCall.{FabricCall}
use Rattle.legal_journal.specs.declared.events.FabricCall.TheVariants.{Carry, ReadChain, MendMeta}
use Rattle.legal_journal.specs.declared.events.FabricAnswer.{FabricAnswer}
use Rattle.legal_journal.specs.declared.events.FabricAnswer.TheVariants.{At, Down, Set, Memory}
use Rattle.legal_journal.specs.declared.events.Event.{Event}
use Rattle.legal_journal.specs.Moves.{move_of}
use Rattle.legal_journal.specs.Journal.{RegisterState, State, state_of, start, after, known, IsLegal}
use Rattle.legal_journal.specs.Turns.{OwnEvents}
use Rattle.legal_journal.proofs.Chains.{chain_ok}
use Rattle.legal_journal.proofs.Legal.{after_all-append, IsLegalFrom-split, sound}
use Rattle.fabric_core.specs.Fabric.{FabricView, Adds, IsRegisterAsTold}
use Rattle.fabric_core.specs.Runs.{HasRegisterRun}
use Rattle.turn_scopes.specs.Alone.{AreOwn}
use Rattle.last_chain.specs.Gifts.{is_miss, misses_in, given_last}
use Rattle.last_chain.specs.Last.{IsLast, Watches, Makes, AsksOnce, StaysDown, Opened}
use Rattle.last_chain.proofs.Gifts.{knows_last}
use Rattle.last_chain.proofs.Misses.{counted}

-- The events of a call.

own_cases : (who : ℕ) (call : FabricCall) (answer : FabricAnswer) (own : List Event) → OwnEvents who call answer own → (own ≡ []) ⊎ (own ≡ record { who = who; call = call; answer = answer } ∷ [])
own_cases who (Carry i t x) Memory own h = h
own_cases who call Memory own h = inl h
own_cases who call answer own h = inr h

module _ (who : ℕ) (call : FabricCall) (answer : FabricAnswer) (old new : List Event) where
  abbrev e : Event
  e = record { who = who; call = call; answer = answer }

  -- what is told after one event
  told_after : new ≡ old ++ e ∷ [] → state_of new ≡ after (state_of old) who (move_of call answer)
  told_after added = ap state_of added ∙ after_all-append start old (e ∷ [])

  pub watches : Adds old who call answer new → ((w : State) → (after w who (move_of call answer)).cells ≡ w.cells) → Watches who old new
  watches adds leaves = ⊎_elim
      (λ (none : adds.own ≡ []).
      let same : new ≡ old = adds.added ∙ (ap (λ l. old ++ l) none ∙ append-nil old) in
      record {
        since = record { more = adds.own; seen = adds.added; own = subst (AreOwn who) (sym none) tt };
        cells = ap (λ l. (state_of l).cells) same;
      })
      (λ (one : adds.own ≡ e ∷ []). record {
        since = record { more = adds.own; seen = adds.added; own = subst (AreOwn who) (sym one) (refl, tt) };
        cells = ap (λ (w : State). w.cells) (told_after (adds.added ∙ ap (λ l. old ++ l) one)) ∙ leaves (state_of old);
      })
      (own_cases who call answer adds.own adds.event)

-- these calls leave what is told of the loglets

pub read_leaves : (w : State) (who : ℕ) (a : FabricAnswer) → (after w who (move_of ReadChain a)).cells ≡ w.cells
read_leaves w who (At v c) = refl
read_leaves w who Down = refl
read_leaves w who a = refl

pub mend_leaves : (w : State) (who word : ℕ) (a : FabricAnswer) → (after w who (move_of (MendMeta word) a)).cells ≡ w.cells
mend_leaves w who word (Set b) = refl
mend_leaves w who word a = refl

own-append : (who : ℕ) (xs ys : List Event) → AreOwn who xs → AreOwn who ys → AreOwn who (xs ++ ys)
own-append who [] ys h k = k
own-append who (x ∷ xs) ys h k = (h.0, own-append who xs ys h.1 k)

pub watches_on : (who : ℕ) (a b c : List Event) → Watches who a b → Watches who b c → Watches who a c
watches_on who a b c h k = record {
  since = record {
    more = h.since.more ++ k.since.more;
    seen = k.since.seen ∙ (ap (λ l. l ++ k.since.more) h.since.seen ∙ append_assoc a h.since.more k.since.more);
    own = own-append who h.since.more k.since.more h.since.own k.since.own;
  };
  cells = k.cells ∙ h.cells;
}

-- The calls.

pub asks_one : (who : ℕ) (a b : List Event) → Makes who ReadChain a b → AsksOnce a b
asks_one who a b h = record { more = record { who = who; call = ReadChain; answer = h.answer } ∷ []; seen = h.added; calls = inl refl }

pub asks_three : (who : ℕ) (a b c d : List Event) → Makes who ReadChain a b → Makes who (MendMeta 0) b c → Makes who ReadChain c d → AsksOnce a d
asks_three who a b c d h k l =
    let one : Event = record { who = who; call = ReadChain; answer = h.answer } in
    let two : Event = record { who = who; call = MendMeta 0; answer = k.answer } in
    let three : Event = record { who = who; call = ReadChain; answer = l.answer } in
    record {
      more = one ∷ two ∷ three ∷ [];
      seen = l.added ∙ (ap (λ x. x ++ three ∷ []) (k.added ∙ (ap (λ x. x ++ two ∷ []) h.added ∙ append_assoc a (one ∷ []) (two ∷ []))) ∙ append_assoc a (one ∷ two ∷ []) (three ∷ []));
      calls = inr refl;
    }

-- What the register gave.

module _ (law : Law) where
  joined : (journal : List Event) → IsLegal law journal → is_chain (state_of journal).register.chain ≡ true
  joined journal legal =
      let ok = sound law journal legal in
      chain_ok (length law.shelf) (state_of journal) (state_of journal).register.version (state_of journal).register.chain ok ok.given

  -- it is up then
  pub up_then : (who v : ℕ) (c : Chain) (old new : FabricView) → Adds old.journal who ReadChain (At v c) new.journal → IsRegisterAsTold (state_of new.journal).register new.register → new.register.down ≡ false
  up_then who v c old new adds told =
      told.down ∙ ap (λ (w : State). w.register.down) (told_after who ReadChain (At v c) old.journal new.journal (adds.added ∙ ap (λ l. old.journal ++ l) adds.event))

  pub gave : (who v : ℕ) (c : Chain) (old new : FabricView) → Adds old.journal who ReadChain (At v c) new.journal → IsLegal law new.journal → IsRegisterAsTold (state_of new.journal).register new.register
      → IsLast (record { version = v; chain = c; down = false }) new
  gave who v c old new adds legal told =
      let r : (state_of new.journal).register ≡ known (state_of old.journal).register v c =
      ap (λ (w : State). w.register) (told_after who ReadChain (At v c) old.journal new.journal (adds.added ∙ ap (λ l. old.journal ++ l) adds.event)) in
      let t = subst (λ (x : RegisterState). IsRegisterAsTold x new.register) r told in
      record {
        joins = subst (λ (x : Chain). is_chain x ≡ true) (ap (λ (x : RegisterState). x.chain) r) (joined new.journal legal);
        version = sym t.given;
        chain = sym t.given_chain;
        current = λ _. ⊎_elim
            (λ (h : (new.register.version ≡ v) × (new.register.chain ≡ c)). (h.0 ∙ sym t.given, h.1 ∙ sym t.given_chain))
            (λ (h : (new.register.version ≡ v + 1) × (None ≡ Some new.register.chain)). absurd (let no = h.1 in cc))
            t.current;
        down = sym t.down;
        missed = λ d. absurd (let up = t.down in cc);
        told = sym (ap (λ (x : RegisterState). x.chain) r);
      }

  pub stays_down : (who : ℕ) (old new : FabricView) → Adds old.journal who ReadChain Down new.journal → IsLegal law new.journal
      → IsRegisterAsTold (state_of old.journal).register old.register → IsRegisterAsTold (state_of new.journal).register new.register → StaysDown old new
  stays_down who old new adds legal before told =
      let e : Event = record { who = who; call = ReadChain; answer = Down } in
      let added : new.journal ≡ old.journal ++ e ∷ [] = adds.added ∙ ap (λ l. old.journal ++ l) adds.event in
      let parts = IsLegalFrom-split law start old.journal (e ∷ []) (subst (IsLegal law) added legal).steps in
      let was : (state_of old.journal).register.down ≡ true = parts.1.0.allowed in
      let same : (state_of new.journal).register ≡ (state_of old.journal).register = ap (λ (w : State). w.register) (told_after who ReadChain Down old.journal new.journal added) in
      record { was = before.down ∙ was; now = told.down ∙ (ap (λ (x : RegisterState). x.down) same ∙ was) }

  -- where it is down still, that failed
  pub opened : (who word : ℕ) (up : Bool) (old new : FabricView) → Adds old.journal who (MendMeta word) (Set up) new.journal → IsRegisterAsTold (state_of new.journal).register new.register → Opened new
  opened who word true old new adds told =
      let added = adds.added ∙ ap (λ l. old.journal ++ l) adds.event in
      let r : (state_of new.journal).register.down ≡ false = ap (λ (w : State). w.register.down) (told_after who (MendMeta word) (Set true) old.journal new.journal added) in
      let up : new.register.down ≡ false = told.down ∙ r in
      λ d. absurd (cc)
  opened who word false old new adds told =
      let e : Event = record { who = who; call = MendMeta word; answer = Set false } in
      let added : new.journal ≡ old.journal ++ e ∷ [] = adds.added ∙ ap (λ l. old.journal ++ l) adds.event in
      let k : misses_in new.journal ≡ misses_in old.journal + 1 = ap misses_in added ∙ sum_by_push (λ (x : Event). cond (is_miss x.call x.answer) 1 0) old.journal e in
      λ d. omega (arith, k)

  -- what a register that is down gave last is found in the journal
  pub found : (v : ℕ) (c : Chain) (f : FabricView) → f.register.down ≡ true → Opened f → (v, c) ≡ given_last f.journal → IsLegal law f.journal → HasRegisterRun f.journal f.register
      → IsRegisterAsTold (state_of f.journal).register f.register → IsLast (record { version = v; chain = c; down = true }) f
  found v c f down failed given legal ran told =
      let k = knows_last f.journal in
      let version : v ≡ (state_of f.journal).register.version = ap (λ (g : ℕ × Chain). g.0) given ∙ sym k.0 in
      let chain : c ≡ (state_of f.journal).register.chain = ap (λ (g : ℕ × Chain). g.1) given ∙ sym k.1 in
      let misses = counted f.journal f.register ran in
      record {
        joins = subst (λ (x : Chain). is_chain x ≡ true) (sym chain) (joined f.journal legal);
        version = version ∙ sym told.given;
        chain = chain ∙ sym told.given_chain;
        current = λ up. absurd (cc);
        down = sym down;
        missed = λ d. (let some = failed d in omega (arith, misses, some));
        told = chain;
      }
