-- What a journal knows of its register is what was given last.
use Rattle.std.proofs.Common.{◌≡◌, refl, sym, ap, subst, ℕ, zero, suc, ◌-◌, ◌<◌, ◌≤◌, true, List, [], ◌∷◌, length, take, get_or, arith}
use Rattle.std.specs.Prelude.{unwrap_or}
use Rattle.delos_types.specs.declared.chain.Chain.{Chain}
use Rattle.legal_journal.specs.declared.events.FabricCall.{FabricCall}
use Rattle.legal_journal.specs.declared.events.FabricCall.TheVariants.{Begin, Carry, Forget, ReadChain, WriteChain, Stop, Mend, Stray, StopMeta, MendMeta}
use Rattle.legal_journal.specs.declared.events.FabricAnswer.{FabricAnswer}
use Rattle.legal_journal.specs.declared.events.FabricAnswer.TheVariants.{Begun, Full, Done, Going, NoTicket, Gone, At, Down, Written, Conflict, MetaFault, Set, Memory}
use Rattle.legal_journal.specs.declared.events.Event.{Event}
use Rattle.legal_journal.specs.Moves.{move_of, move}
use Rattle.legal_journal.specs.Journal.{State, state_of, start, after, after_all}
use Rattle.last_chain.specs.Gifts.{gift_of, given_from, given_last}

-- the state knows these
abbrev Knows : State → ℕ × Chain → Type 0
Knows w g = (w.register.version ≡ g.0) × (w.register.chain ≡ g.1)

knows_more : (w : State) (who : ℕ) (g : ℕ × Chain) (c : FabricCall) (a : FabricAnswer) → Knows w g → Knows (after w who (move_of c a)) (unwrap_or (gift_of c a) g)
knows_more w who g ReadChain (At v c) h = (refl, refl)
knows_more w who g ReadChain Down h = h
knows_more w who g (WriteChain x c) (Written v) h = (refl, refl)
knows_more w who g (WriteChain x c) (Conflict v d) h = (refl, refl)
knows_more w who g (WriteChain x c) MetaFault h = h
knows_more w who g (WriteChain x c) Down h = h
knows_more w who g (MendMeta x) (Set y) h = h
knows_more w who g (Begin i op) (Begun t) h = h
knows_more w who g (Begin i op) Full h = h
knows_more w who g (Carry i t x) Going h = h
knows_more w who g (Carry i t x) (Done y) h = h
knows_more w who g (Carry i t x) Memory h = h
knows_more w who g (Carry i t x) NoTicket h = h
knows_more w who g (Forget i t) Gone h = h
knows_more w who g (Forget i t) NoTicket h = h
knows_more w who g (Stop i s n) (Set true) h = h
knows_more w who g (Mend i s x) (Set y) h = h
knows_more w who g (Stray i x) (Set true) h = h
knows_more w who g (StopMeta n) (Set true) h = h
knows_more w who g c a h = h

knows_all : (w : State) (g : ℕ × Chain) (es : List Event) → Knows w g → Knows (after_all w es) (given_from g es)
knows_all w g [] h = h
knows_all w g (e ∷ es) h = knows_all (after w e.who (move e)) (unwrap_or (gift_of e.call e.answer) g) es (knows_more w e.who g e.call e.answer h)

pub knows_last : (events : List Event) → ((state_of events).register.version ≡ (given_last events).0) × ((state_of events).register.chain ≡ (given_last events).1)
knows_last events = knows_all start _ events (refl, refl)

-- A walk back: the event at n is the last of the first n + 1.

given_back : (g : ℕ × Chain) (xs : List Event) (n : ℕ) (e : Event) → n < length xs → get_or xs n e ≡ e → given_from g (take (suc n) xs) ≡ unwrap_or (gift_of e.call e.answer) (given_from g (take n xs))
given_back g [] n e h is = absurd (omega arith)
given_back g (x ∷ xs) zero e h is = ap (λ (y : Event). unwrap_or (gift_of y.call y.answer) g) is
given_back g (x ∷ xs) (suc n) e h is = given_back (unwrap_or (gift_of x.call x.answer) g) xs n e (omega arith) is

pub steps_back : (xs : List Event) (left : ℕ) (e : Event) → 0 < left → left ≤ length xs → get_or xs (left - 1) e ≡ e
    → given_last (take left xs) ≡ unwrap_or (gift_of e.call e.answer) (given_last (take (left - 1) xs))
steps_back xs zero e some within is = absurd (omega (arith, some))
steps_back xs (suc n) e some within is =
    let at : suc n - 1 ≡ n = omega arith in
    subst (λ k. get_or xs k e ≡ e → given_last (take (suc n) xs) ≡ unwrap_or (gift_of e.call e.answer) (given_last (take k xs))) (sym at)
    (λ here. given_back _ xs n e (omega (arith, within)) here) is
