-- Whose writes let the chain go on behind a loglet.
use Rattle.std.proofs.Common.{◌≡◌, ◌≢◌, ◌⊎◌, inl, inr, ⊎_elim, ℕ, ◌<◌, ◌≤◌, List, [], ◌∷◌, ◌++◌, length, Option, Some, None, Bool, true, false, refl, sym, ap, ◌∙◌, subst, arith, append_assoc}
use Rattle.std.specs.Prelude.{◌==◌}
use Rattle.std.proofs.lemmas.Bool.{cases_lt}
use Rattle.std.proofs.lemmas.Bool.Decides.{nat_tests}
use Rattle.delos_types.specs.declared.entry.Entry.{Entry}
use Rattle.delos_types.specs.declared.chain.Chain.{Chain}
use Rattle.chain_map.specs.Chain.{last_segment}
use Rattle.legal_journal.specs.Law.{Law}
use Rattle.legal_journal.specs.declared.events.Event.{Event}
use Rattle.legal_journal.specs.declared.events.FabricCall.{FabricCall}
use Rattle.legal_journal.specs.declared.events.FabricAnswer.{FabricAnswer}
use Rattle.legal_journal.specs.declared.events.FabricCall.TheVariants.{ReadChain, WriteChain}
use Rattle.legal_journal.specs.declared.events.FabricAnswer.TheVariants.{At, Conflict}
use Rattle.legal_journal.specs.Moves.{RegisterMove, Gives, Conflicts, Writes, Faults, Fails, Mends, Move, OnCell, OnRegister, Nothing, Never, move, move_of}
use Rattle.legal_journal.specs.Journal.{State, RegisterState, IsCurrent, RegisterAllowed, IsAllowed, register_after, after, after_all, state_of, start, IsLegal, IsLegalFrom}
use Rattle.legal_journal.specs.Turns.{AreOthers, IsTurn}
use Rattle.legal_journal.proofs.Legal.{IsLegalFrom-split, after_all-append, legal_front, goes_on}
use Rattle.legal_journal.proofs.Sealing.{one_or_none}
use Rattle.legal_journal.proofs.Taken.{took}
use Rattle.virtual_log.specs.Turning.{HasEvent}
use Rattle.virtual_log.specs.Writing.{chain_by, WriteNone, WroteNone, IsAnothers}

-- What an own turn wrote

others_write : (who : ℕ) (es : List Event) → AreOthers who es → WriteNone who es
others_write who [] h = tt
others_write who (e ∷ es) h = (λ same. absurd (h.0 same), others_write who es h.1)

pub write_append : (who : ℕ) (xs ys : List Event) → WriteNone who xs → WriteNone who ys → WriteNone who (xs ++ ys)
write_append who [] ys h k = k
write_append who (x ∷ xs) ys h k = (h.0, write_append who xs ys h.1 k)

-- a turn whose event writes nothing
pub turn_wrote : (law : Law) (who : ℕ) (old : List Event) (call : FabricCall) (answer : FabricAnswer) (new : List Event) → (t : IsTurn law who old call answer new)
    → t.own ≡ record { who = who; call = call; answer = answer } ∷ [] → chain_by (move_of call answer) ≡ None → WroteNone who old new
turn_wrote law who old call answer new t own none = record {
  more = t.others ++ record { who = who; call = call; answer = answer } ∷ [];
  seen = t.seen ∙ (ap (λ es. (old ++ t.others) ++ es) own ∙ append_assoc old t.others (record { who = who; call = call; answer = answer } ∷ []));
  none = write_append who t.others _ (others_write who t.others t.apart) (λ _. none, tt);
}

-- .. or that has none
pub turn_quiet : (law : Law) (who : ℕ) (old : List Event) (call : FabricCall) (answer : FabricAnswer) (new : List Event) → IsTurn law who old call answer new
    → chain_by (move_of call answer) ≡ None → WroteNone who old new
turn_quiet law who old call answer new t none = record {
  more = t.others ++ t.own;
  seen = t.seen ∙ append_assoc old t.others t.own;
  none = write_append who t.others t.own (others_write who t.others t.apart) (by (one_or_none who call answer t.own t.event));
}
  where
    by : (t.own ≡ []) ⊎ (t.own ≡ record { who = who; call = call; answer = answer } ∷ []) → WriteNone who t.own
    by (inl empty) = subst (WriteNone who) (sym empty) tt
    by (inr one) = subst (WriteNone who) (sym one) (λ _. none, tt)

pub wrote_refl : (who : ℕ) (a : List Event) → a ≡ a ++ [] → WroteNone who a a
wrote_refl who a nil = record { more = []; seen = nil; none = tt }

pub wrote_trans : (who : ℕ) (a b c : List Event) → WroteNone who a b → WroteNone who b c → WroteNone who a c
wrote_trans who a b c f g = record {
  more = f.more ++ g.more;
  seen = g.seen ∙ (ap (λ l. l ++ g.more) f.seen ∙ append_assoc a f.more g.more);
  none = write_append who f.more g.more f.none g.none;
}

pub wrote_by : (who user : ℕ) (a b : List Event) → user ≡ who → WroteNone user a b → WroteNone who a b
wrote_by who user a b same h = subst (λ k. WroteNone k a b) same h

-- How far the chain goes

-- neither the chain that is known nor one whose write faulted goes on behind loglet id
record IsUpTo (id : ℕ) (r : RegisterState) : Type 0 where
  chain : (last_segment r.chain).id ≤ id
  asked : (c : Chain) → r.asked ≡ Some c → (last_segment c).id ≤ id

none_asked : (id : ℕ) (c : Chain) → None ≡ Some c → (last_segment c).id ≤ id
none_asked id c e = absurd (cc)

given_upto : (id : ℕ) (r : RegisterState) (v : ℕ) (c : Chain) → IsCurrent r v c → IsUpTo id r → (last_segment c).id ≤ id
given_upto id r v c (inl h) u = subst (λ (x : Chain). (last_segment x).id ≤ id) (sym h.1) u.chain
given_upto id r v c (inr h) u = u.asked c h.1

register_upto : (w : State) (floor : List Entry → ℕ → Type 0) (cells id : ℕ) (m : RegisterMove) → RegisterAllowed w floor cells m → ((c : Chain) → chain_by (OnRegister m) ≡ Some c → (last_segment c).id ≤ id) → IsUpTo id w.register → IsUpTo id (register_after w.register m)
register_upto w floor cells id (Gives v c) a low u = record { chain = given_upto id w.register v c a.1 u; asked = none_asked id }
register_upto w floor cells id (Conflicts x v c) a low u = record { chain = given_upto id w.register v c a.1 u; asked = none_asked id }
register_upto w floor cells id (Writes x c v) a low u = record { chain = low c refl; asked = none_asked id }
register_upto w floor cells id (Faults x c) a low u = record { chain = u.chain; asked = λ d e. low d e }
register_upto w floor cells id Fails a low u = u
register_upto w floor cells id (Mends b) a low u = record { chain = u.chain; asked = u.asked }

step_upto : (w : State) (law : Law) (who id : ℕ) (m : Move) → IsAllowed w law who m → ((c : Chain) → chain_by m ≡ Some c → (last_segment c).id ≤ id) → IsUpTo id w.register → IsUpTo id (after w who m).register
step_upto w law who id (OnCell i m) a low u = u
step_upto w law who id (OnRegister m) a low u = register_upto w law.floor (length law.shelf) id m a low u
step_upto w law who id Nothing a low u = u
step_upto w law who id Never a low u = u

-- an event among these is another's write behind loglet id
record HasAnothers (who id : ℕ) (es : List Event) : Type 0 where
  before : List Event
  event : Event
  after : List Event
  is : IsAnothers who id event
  seen : es ≡ before ++ event ∷ after

here : (who id : ℕ) (e : Event) (es : List Event) → IsAnothers who id e → HasAnothers who id (e ∷ es)
here who id e es h = record { before = []; event = e; after = es; is = h; seen = refl }

there : (who id : ℕ) (e : Event) (es : List Event) → HasAnothers who id es → HasAnothers who id (e ∷ es)
there who id e es h = record { before = e ∷ h.before; event = h.event; after = h.after; is = h.is; seen = ap (λ l. e ∷ l) h.seen }

-- another wrote so, or the event writes nothing behind loglet id
one_upto : (who id : ℕ) (e : Event) → (e.who ≡ who → chain_by (move e) ≡ None) → IsAnothers who id e ⊎ ((c : Chain) → chain_by (move e) ≡ Some c → (last_segment c).id ≤ id)
one_upto who id e own = by (chain_by (move e)) refl
  where
    none_by : chain_by (move e) ≡ None → (c : Chain) → chain_by (move e) ≡ Some c → (last_segment c).id ≤ id
    none_by n c k = none_asked id c (sym n ∙ k)

    same_by : (d : Chain) → chain_by (move e) ≡ Some d → (last_segment d).id ≤ id → (c : Chain) → chain_by (move e) ≡ Some c → (last_segment c).id ≤ id
    same_by d h low c k =
        let both : Some d ≡ Some c = sym h ∙ k in
        let same : d ≡ c = cc in
        subst (λ (x : Chain). (last_segment x).id ≤ id) same low

    by_who : (d : Chain) → chain_by (move e) ≡ Some d → id < (last_segment d).id → (b : Bool) → (e.who == who) ≡ b → IsAnothers who id e ⊎ ((c : Chain) → chain_by (move e) ≡ Some c → (last_segment c).id ≤ id)
    by_who d h up true t = inr (none_by (own (let same : e.who ≡ who = grind (arith, nat_tests) in same)))
    by_who d h up false t = inl (record { apart = (let other : e.who ≢ who = grind (arith, nat_tests) in other); chain = d; wrote = h; behind = up })

    by : (o : Option Chain) → chain_by (move e) ≡ o → IsAnothers who id e ⊎ ((c : Chain) → chain_by (move e) ≡ Some c → (last_segment c).id ≤ id)
    by None h = inr (none_by h)
    by (Some d) h =
        ⊎_elim
        (λ (up : id < (last_segment d).id). by_who d h up (e.who == who) refl)
        (λ (low : (last_segment d).id ≤ id). inr (same_by d h low))
        (cases_lt id (last_segment d).id)

module _ (law : Law) (who : ℕ) where
  -- where who wrote nothing, another wrote behind loglet id, or the chain goes no further
  all_upto : (id : ℕ) (w : State) (es : List Event) → IsLegalFrom w law es → WriteNone who es → IsUpTo id w.register → HasAnothers who id es ⊎ IsUpTo id (after_all w es).register
  all_upto id w [] legal none u = inr u
  all_upto id w (e ∷ es) legal none u =
      ⊎_elim
      (λ (h : IsAnothers who id e). inl (here who id e es h))
      (λ (low : (c : Chain) → chain_by (move e) ≡ Some c → (last_segment c).id ≤ id).
      ⊎_elim
      (λ (h : HasAnothers who id es). inl (there who id e es h))
      (λ (k : IsUpTo id (after_all (after w e.who (move e)) es).register). inr k)
      (all_upto id (after w e.who (move e)) es legal.1 none.1 (step_upto w law e.who id (move e) legal.0.allowed low u)))
      (one_upto who id e none.0)

  -- Since a look at the chain who wrote nothing, and the chain goes on behind the last loglet that it saw: another wrote so.
  pub another_wrote : (a others new : List Event) (v : ℕ) (c : Chain) (looked : List Event) → IsLegal law new → looked ≡ (a ++ others) ++ record { who = who; call = ReadChain; answer = At v c } ∷ []
      → WroteNone who looked new → (last_segment c).id < (last_segment (state_of new).register.chain).id → HasEvent looked (IsAnothers who (last_segment c).id) new
  another_wrote a others new v c looked legal look none up =
      let id = (last_segment c).id in
      let whole = subst (IsLegal law) none.seen legal in
      let parts = IsLegalFrom-split law start looked none.more whole.steps in
      let k = took law a others _ looked (legal_front law looked none.more whole) look in
      let begins : IsUpTo id (state_of looked).register = subst (λ (w : State). IsUpTo id w.register) (sym k.now) (record { chain = omega arith; asked = none_asked id }) in
      let now : state_of new ≡ after_all (state_of looked) none.more = ap state_of none.seen ∙ after_all-append start looked none.more in
      ⊎_elim
      (λ (h : HasAnothers who id none.more). record {
        event = h.event;
        is = h.is;
        before = h.before;
        after = h.after;
        seen = none.seen ∙ (ap (λ l. looked ++ l) h.seen ∙ sym (append_assoc looked h.before (h.event ∷ h.after)));
      })
      (λ (u : IsUpTo id (after_all (state_of looked) none.more).register).
      let low = (subst (λ (w : State). IsUpTo id w.register) (sym now) u).chain in
      absurd (omega (arith, low, up)))
      (all_upto id (state_of looked) none.more parts.1 none.none begins)

  -- a refusal tells of a chain, which the log's isn't behind
  pub refusal_tells : (a new : List Event) (x v : ℕ) (d c : Chain) → IsLegal law new → HasEvent a (λ e. e ≡ record { who = who; call = WriteChain x d; answer = Conflict v c }) new
      → (last_segment c).id ≤ (last_segment (state_of new).register.chain).id
  refusal_tells a new x v d c legal h =
      let e : Event = record { who = who; call = WriteChain x d; answer = Conflict v c } in
      let told : new ≡ ((a ++ h.before) ++ e ∷ []) ++ h.after = h.seen ∙ (ap (λ (y : Event). (a ++ h.before) ++ y ∷ h.after) h.is ∙ sym (append_assoc (a ++ h.before) (e ∷ []) h.after)) in
      let whole = subst (IsLegal law) told legal in
      let front = legal_front law ((a ++ h.before) ++ e ∷ []) h.after whole in
      let k = took law a h.before e ((a ++ h.before) ++ e ∷ []) front refl in
      let at : (state_of ((a ++ h.before) ++ e ∷ [])).register.chain ≡ c = ap (λ (w : State). w.register.chain) k.now in
      let on = goes_on law ((a ++ h.before) ++ e ∷ []) h.after whole in
      let up = subst (λ es. (last_segment (state_of ((a ++ h.before) ++ e ∷ [])).register.chain).id ≤ (last_segment (state_of es).register.chain).id) (sym told) on.last in
      omega (arith, up, ap (λ (y : Chain). (last_segment y).id) at)
