-- Who began to append what.
use Rattle.std.proofs.Common.{◌≡◌, ◌⊎◌, inl, inr, refl, sym, ap, ◌∙◌, subst, ⊎_elim, ℕ, suc, ◌<◌, Bool, true, false, cond, List, [], ◌∷◌, ◌++◌, length, Option, Some, None, arith}
use Rattle.std.specs.Prelude.{Contains, ◌==◌}
use Rattle.std.specs.List.{cons_option}
use Rattle.std.proofs.lemmas.Bool.Decides.{nat_tests}
use Rattle.std.proofs.lemmas.List.Elements.{Contains-push, Contains-push_cases}
use Rattle.delos_types.specs.declared.entry.Entry.{Entry}
use Rattle.loglet_api.specs.declared.call.Op.{Op}
use Rattle.loglet_api.specs.declared.call.Op.TheVariants.{Append, Settle, Tail, Seal, Read, Trim}
use Rattle.legal_journal.specs.Law.{Law}
use Rattle.legal_journal.specs.declared.events.FabricCall.{FabricCall}
use Rattle.legal_journal.specs.declared.events.FabricCall.TheVariants.{Begin, Carry, Forget, ReadChain, WriteChain, Stop, Mend, Stray, StopMeta, MendMeta}
use Rattle.legal_journal.specs.declared.events.FabricAnswer.{FabricAnswer}
use Rattle.legal_journal.specs.declared.events.FabricAnswer.TheVariants.{Begun, Full, Done, Going, NoTicket, Gone, At, Down, Written, Conflict, MetaFault, Set, Memory}
use Rattle.legal_journal.specs.declared.events.Event.{Event}
use Rattle.legal_journal.specs.Moves.{move, move_of}
use Rattle.legal_journal.specs.Journal.{State, start, after, MayBegin, IsAllowed, IsLegalFrom, IsLegal}
use Rattle.journal_laws.specs.Changes.{entry_begun, appended}
use Rattle.journal_laws.specs.Own.{own}
use Rattle.journal_laws.proofs.Changes.{appended_stays, appended_more, appended_parts}
use Rattle.engine_api.specs.declared.content.Content.TheVariants.{Alive, Leave}
use Rattle.engine_api.specs.declared.content.Placed.{Placed}
use Rattle.engine_api.specs.Items.{unpack}
use Rattle.node_lines.specs.Workers.{appended_by, HasNotLeft, MayRun, OwnAdds}

-- Event by event

none_in : {X : Type 0} (x : X) → Contains [] x → ⊥
none_in x h = omega (arith, h.1)

just_in : (o : Option Entry) (e : Entry) → Contains (cons_option o []) e → o ≡ Some e
just_in None e h = absurd (none_in e h)
just_in (Some y) e h = ⊎_elim (λ (k : Contains [] e). absurd (none_in e k)) (λ (k : y ≡ e). ap (λ (z : Entry). Some z) k) (Contains-push_cases [] y e h)

in_just : (o : Option Entry) (e : Entry) → o ≡ Some e → Contains (cons_option o []) e
in_just o e is = subst (λ (p : Option Entry). Contains (cons_option p []) e) (sym is) (Contains-push [] e)

module _ (x : Event) (xs : List Event) (e : Entry) where
  first_or_later : Contains (appended (x ∷ xs)) e → (entry_begun x.call x.answer ≡ Some e) ⊎ Contains (appended xs) e
  first_or_later h =
      ⊎_elim
      (λ (k : Contains (appended (x ∷ [])) e). inl (just_in (entry_begun x.call x.answer) e k))
      (λ (k : Contains (appended xs) e). inr k)
      (appended_parts (x ∷ []) xs e h)

  at_first : entry_begun x.call x.answer ≡ Some e → Contains (appended (x ∷ xs)) e
  at_first begun = appended_stays (x ∷ []) xs e (in_just (entry_begun x.call x.answer) e begun)

  at_later : Contains (appended xs) e → Contains (appended (x ∷ xs)) e
  at_later h = appended_more (x ∷ []) xs e h

module _ (who : ℕ) (x : Event) (xs : List Event) (e : Entry) where
  own_first_or_later : Contains (appended_by who (x ∷ xs)) e → ((x.who ≡ who) × (entry_begun x.call x.answer ≡ Some e)) ⊎ Contains (appended_by who xs) e
  own_first_or_later h = by (x.who == who) refl h
    where
      by : (b : Bool) → (x.who == who) ≡ b → Contains (appended (cond b (x ∷ own who xs) (own who xs))) e → ((x.who ≡ who) × (entry_begun x.call x.answer ≡ Some e)) ⊎ Contains (appended_by who xs) e
      by true is k =
          let same : x.who ≡ who = grind (arith, nat_tests, is) in
          ⊎_elim
          (λ (begun : entry_begun x.call x.answer ≡ Some e). inl (same, begun))
          (λ (later : Contains (appended (own who xs)) e). inr later)
          (first_or_later x (own who xs) e k)
      by false is k = inr k

  own_at_first : x.who ≡ who → entry_begun x.call x.answer ≡ Some e → Contains (appended_by who (x ∷ xs)) e
  own_at_first same begun = by (x.who == who) refl
    where
      by : (b : Bool) → (x.who == who) ≡ b → Contains (appended (cond b (x ∷ own who xs) (own who xs))) e
      by true is = at_first x (own who xs) e begun
      by false is = absurd (let t : (x.who == who) ≡ true = grind (arith, nat_tests, same) in let f : true ≡ false = sym t ∙ is in cc)

  own_at_later : Contains (appended_by who xs) e → Contains (appended_by who (x ∷ xs)) e
  own_at_later h = by (x.who == who)
    where
      by : (b : Bool) → Contains (appended (cond b (x ∷ own who xs) (own who xs))) e
      by true = at_later x (own who xs) e h
      by false = h

-- what who appended was appended
pub own_appended : (who : ℕ) (es : List Event) (e : Entry) → Contains (appended_by who es) e → Contains (appended es) e
own_appended who [] e h = h
own_appended who (x ∷ xs) e h =
    ⊎_elim
    (λ (k : (x.who ≡ who) × (entry_begun x.call x.answer ≡ Some e)). at_first x xs e k.1)
    (λ (k : Contains (appended_by who xs) e). at_later x xs e (own_appended who xs e k))
    (own_first_or_later who x xs e h)

-- One journal after another

pub own_stays : (who : ℕ) (a b : List Event) (e : Entry) → Contains (appended_by who a) e → Contains (appended_by who (a ++ b)) e
own_stays who [] b e h = absurd (none_in e h)
own_stays who (x ∷ xs) b e h =
    ⊎_elim
    (λ (k : (x.who ≡ who) × (entry_begun x.call x.answer ≡ Some e)). own_at_first who x (xs ++ b) e k.0 k.1)
    (λ (k : Contains (appended_by who xs) e). own_at_later who x (xs ++ b) e (own_stays who xs b e k))
    (own_first_or_later who x xs e h)

pub own_more : (who : ℕ) (a b : List Event) (e : Entry) → Contains (appended_by who b) e → Contains (appended_by who (a ++ b)) e
own_more who [] b e h = h
own_more who (x ∷ xs) b e h = own_at_later who x (xs ++ b) e (own_more who xs b e h)

-- what was appended somebody appended, by one of the events
pub some_begun : (es : List Event) (x : Entry) → Contains (appended es) x → (e : Event) × Contains es e × Contains (appended_by e.who es) x
some_begun [] x h = absurd (none_in x h)
some_begun (e ∷ es) x h =
    ⊎_elim
    (λ (begun : entry_begun e.call e.answer ≡ Some x). (e, (0, omega arith, refl), own_at_first e.who e es x refl begun))
    (λ (later : Contains (appended es) x).
    let r = some_begun es x later in
    (r.0, (suc r.1.0, omega (arith, r.1.1), r.1.2), own_at_later r.0.who e es x r.2))
    (first_or_later e es x h)

-- What who adds

pub own_adds_trans : (who : ℕ) (P : Entry → Type 0) (a b c : List Event) → OwnAdds who P a b → OwnAdds who P b c → OwnAdds who P a c
own_adds_trans who P a b c f g = λ e h. ⊎_elim (λ (k : Contains (appended_by who b) e). f e k) (λ (k : P e). inr k) (g e h)

pub own_adds_wider : (who : ℕ) (P Q : Entry → Type 0) (a b : List Event) → ((e : Entry) → P e → Q e) → OwnAdds who P a b → OwnAdds who Q a b
own_adds_wider who P Q a b wider f = λ e h. ⊎_elim (λ (k : Contains (appended_by who a) e). inl k) (λ (k : P e). inr (wider e k)) (f e h)

-- By the rules

module _ (law : Law) where
  begun_may : (w : State) (who : ℕ) (call : FabricCall) (answer : FabricAnswer) (e : Entry) → IsAllowed w law who (move_of call answer) → entry_begun call answer ≡ Some e → law.may who e
  begun_may w who (Begin i (Append x)) (Begun t) e h is = let same : x ≡ e = cc in subst (law.may who) same h.0.1
  begun_may w who call answer e h is = absurd (cc)

  may_from : (w : State) (es : List Event) (who : ℕ) (e : Entry) → IsLegalFrom w law es → Contains (appended_by who es) e → law.may who e
  may_from w [] who e h c = absurd (none_in e c)
  may_from w (x ∷ xs) who e h c =
      ⊎_elim
      (λ (k : (x.who ≡ who) × (entry_begun x.call x.answer ≡ Some e)). subst (λ u. law.may u e) k.0 (begun_may w x.who x.call x.answer e h.0.allowed k.1))
      (λ (k : Contains (appended_by who xs) e). may_from (after w x.who (move x)) xs who e h.1 k)
      (own_first_or_later who x xs e c)

  -- what who appended it was allowed to
  pub own_may : (events : List Event) (who : ℕ) (e : Entry) → IsLegal law events → Contains (appended_by who events) e → law.may who e
  own_may events who e legal h = may_from start events who e legal.steps h

module _ (law : Law) (may' : ℕ → Entry → Type 0) where
  begin_by : (w : State) (cells who i t : ℕ) (op : Op) → ((e : Entry) → entry_begun (Begin i op) (Begun t) ≡ Some e → law.may who e → may' who e) → MayBegin w law.may cells who i op → MayBegin w may' cells who i op
  begin_by w cells who i t (Append e) f h = (h.0, f e refl h.1)
  begin_by w cells who i t (Settle n) f h = h
  begin_by w cells who i t Tail f h = h
  begin_by w cells who i t Seal f h = h
  begin_by w cells who i t (Read p) f h = h
  begin_by w cells who i t (Trim n) f h = h

  -- what one event appends, the other rules allow
  allowed_by : (w : State) (who : ℕ) (call : FabricCall) (answer : FabricAnswer) → ((e : Entry) → entry_begun call answer ≡ Some e → law.may who e → may' who e)
      → IsAllowed w law who (move_of call answer) → IsAllowed w (record law { may = may' }) who (move_of call answer)
  allowed_by w who (Begin i op) (Begun t) f h = (begin_by w (length law.shelf) who i t op f h.0, h.1, h.2)
  allowed_by w who (Begin i op) Full f h = h
  allowed_by w who (Carry i t x) Going f h = h
  allowed_by w who (Carry i t x) (Done y) f h = h
  allowed_by w who (Carry i t x) Memory f h = h
  allowed_by w who (Carry i t x) NoTicket f h = h
  allowed_by w who (Forget i t) Gone f h = h
  allowed_by w who (Forget i t) NoTicket f h = h
  allowed_by w who ReadChain (At v c) f h = h
  allowed_by w who ReadChain Down f h = h
  allowed_by w who (WriteChain x c) (Written v) f h = h
  allowed_by w who (WriteChain x c) (Conflict v d) f h = h
  allowed_by w who (WriteChain x c) MetaFault f h = h
  allowed_by w who (WriteChain x c) Down f h = h
  allowed_by w who (MendMeta x) (Set y) f h = h
  allowed_by w who (Stop i s n) (Set true) f h = h
  allowed_by w who (Mend i s x) (Set y) f h = h
  allowed_by w who (Stray i x) (Set true) f h = h
  allowed_by w who (StopMeta n) (Set true) f h = h
  allowed_by w who call answer f h = absurd h

  from_own : (w : State) (es : List Event) → ((who : ℕ) (e : Entry) → Contains (appended_by who es) e → law.may who e → may' who e) → IsLegalFrom w law es → IsLegalFrom w (record law { may = may' }) es
  from_own w [] f h = tt
  from_own w (x ∷ xs) f h = (
    record { there = h.0.there; allowed = allowed_by w x.who x.call x.answer (λ e is. f x.who e (own_at_first x.who x xs e refl is)) h.0.allowed },
    from_own (after w x.who (move x)) xs (λ who e c. f who e (own_at_later who x xs e c)) h.1,
  )

  -- A journal is legal by other rules too, where they let each user append what it appended.
  pub legal_own : (events : List Event) → IsLegal law events → ((who : ℕ) (e : Entry) → Contains (appended_by who events) e → law.may who e → may' who e) → IsLegal (record law { may = may' }) events
  legal_own events h f = record { least = h.least; most = h.most; steps = from_own start events f h.steps }

-- each entry that was appended somebody appended
some_appended : (es : List Event) (e : Entry) → Contains (appended es) e → (who : ℕ) × Contains (appended_by who es) e
some_appended [] e h = absurd (none_in e h)
some_appended (x ∷ xs) e h =
    ⊎_elim
    (λ (begun : entry_begun x.call x.answer ≡ Some e). (x.who, own_at_first x.who x xs e refl begun))
    (λ (later : Contains (appended xs) e). let r = some_appended xs e later in (r.0, own_at_later r.0 x xs e r.1))
    (first_or_later x xs e h)

-- By the rules of a run a node itself tells what is told of it

module _ (law scope : Law) (run : MayRun law) (allows : (user : ℕ) (e : Entry) → scope.may user e → law.may user e) (journal : List Event) (legal : IsLegal scope journal) where
  appender : (e : Entry) → Contains (appended journal) e → (who : ℕ) × Contains (appended_by who journal) e × law.may who e
  appender e h = let s = some_appended journal e h in (s.0, s.1, allows s.0 e (own_may scope journal s.0 e legal s.1))

  pub reported_by : (node n : ℕ) (e : Entry) (p : Placed) → Contains (appended journal) e → Contains (unpack 0 e) p → p.content ≡ Alive node n → Contains (appended_by node journal) e
  reported_by node n e p h there is = let s = appender e h in subst (λ u. Contains (appended_by u journal) e) (run.reports s.0 node n e p s.2 there is) s.1

  left_by : (node : ℕ) (e : Entry) (p : Placed) → Contains (appended journal) e → Contains (unpack 0 e) p → p.content ≡ Leave node → Contains (appended_by node journal) e
  left_by node e p h there is = let s = appender e h in subst (λ u. Contains (appended_by u journal) e) (run.leaves s.0 node e p s.2 there is) s.1

  -- a node that hadn't left, and since told no leave, hasn't
  pub stays_on : (who : ℕ) (P : Entry → Type 0) (old : List Event) → HasNotLeft who old → OwnAdds who P old journal → ((e : Entry) (p : Placed) → P e → Contains (unpack 0 e) p → p.content ≡ Leave who → ⊥) → HasNotLeft who journal
  stays_on who P old stays adds none = λ e p h there is. ⊎_elim
      (λ (was : Contains (appended_by who old) e). stays e p (own_appended who old e was) there is)
      (λ (k : P e). none e p k there is)
      (adds e (left_by who e p h there is))
