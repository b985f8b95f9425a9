-- Who is alone, and what that says of the events that come.
use Rattle.std.proofs.Common.{◌≡◌, ◌≢◌, ◌⊎◌, inl, inr, ℕ, zero, suc, ◌+◌, ◌-◌, ◌≤◌, List, [], ◌∷◌, ◌++◌, length, drop, refl, sym, ap, ◌∙◌, subst, ⊎_elim, arith}
use Rattle.std.proofs.lemmas.List.{length-append}
use Rattle.legal_journal.specs.Law.{Law}
use Rattle.legal_journal.specs.declared.events.Event.{Event}
use Rattle.legal_journal.specs.declared.events.FabricCall.{FabricCall}
use Rattle.legal_journal.specs.declared.events.FabricCall.TheVariants.{Carry}
use Rattle.legal_journal.specs.declared.events.FabricAnswer.{FabricAnswer}
use Rattle.legal_journal.specs.declared.events.FabricAnswer.TheVariants.{Memory}
use Rattle.legal_journal.specs.Journal.{state_of, IsLegal}
use Rattle.legal_journal.specs.Turns.{AreOthers, OwnEvents, MayCall, MayTurn, IsTurn}
use Rattle.fabric_core.specs.Fabric.{Adds}
use Rattle.fabric_core.proofs.OneThread.{may_now, turn_of}
use Rattle.virtual_log.specs.Turning.{Later}
use Rattle.worked_nodes.specs.Apart.{AreBy, SecondView, IsAlone, ActsApart}

own_by : (who : ℕ) (call : FabricCall) (answer : FabricAnswer) (own : List Event) → OwnEvents who call answer own → AreBy who own
own_by who (Carry i t w) Memory own (inl e) = subst (AreBy who) (sym e) tt
own_by who (Carry i t w) Memory own (inr e) = subst (AreBy who) (sym e) (refl, tt)
own_by who call Memory own h = subst (AreBy who) (sym h) tt
own_by who call answer own h = subst (AreBy who) (sym h) (refl, tt)

drop_more : (xs ys : List Event) (n : ℕ) → n ≤ length xs → drop n (xs ++ ys) ≡ drop n xs ++ ys
drop_more xs ys zero h = refl
drop_more [] ys (suc n) h = absurd (omega arith)
drop_more (x ∷ xs) ys (suc n) h = drop_more xs ys n (omega arith)

drop_all : (xs ys : List Event) → drop (length xs) (xs ++ ys) ≡ ys
drop_all [] ys = refl
drop_all (x ∷ xs) ys = drop_all xs ys

by_more : (who : ℕ) (xs ys : List Event) → AreBy who xs → AreBy who ys → AreBy who (xs ++ ys)
by_more who [] ys h k = k
by_more who (x ∷ xs) ys h k = (h.0, by_more who xs ys h.1 k)

others_of : (who : ℕ) (es : List Event) → who ≢ 1 → AreBy who es → AreOthers 1 es
others_of who [] h k = tt
others_of who (e ∷ es) h k = (λ x. h (sym k.0 ∙ x), others_of who es h k.1)

nil : (xs : List Event) → xs ≡ xs ++ []
nil [] = refl
nil (x ∷ xs) = ap (λ l. x ∷ l) (nil xs)

-- a number that was just given
pub numbered : (who n : ℕ) (j : List Event) → (who ≡ 0) ⊎ (who ≡ n + 2) → n ≡ length j → IsAlone who j
numbered who n j (inl e) at = record { other = λ x. absurd (omega (arith, e, x)); within = λ l. absurd (omega (arith, e)); by = λ l. absurd (omega (arith, e)) }
numbered who n j (inr e) at =
    let start : who - 2 ≡ length j = omega (arith, e, at) in record {
      other = λ x. absurd (omega (arith, e, x));
      within = λ l. omega (arith, start);
      by = λ l. subst (AreBy who) (sym (ap (λ k. drop k j) start ∙ (ap (drop (length j)) (nil j) ∙ drop_all j []))) tt;
    }

-- own events keep it so
pub alone_more : (who : ℕ) (j now : List Event) (call : FabricCall) (answer : FabricAnswer) → IsAlone who j → Adds j who call answer now → IsAlone who now
alone_more who j now call answer h a =
    let longer : length now ≡ length j + length a.own = ap length a.added ∙ length-append j a.own in record {
      other = h.other;
      within = λ l. let k = h.within l in omega (arith, k, longer);
      by = λ l. subst (AreBy who) (sym (ap (drop (who - 2)) a.added ∙ drop_more j a.own (who - 2) (h.within l)))
          (by_more who (drop (who - 2) j) a.own (h.by l) (own_by who call answer a.own a.event));
    }

module _ (law : Law) where
  pub nothing_apart : (old new : List Event) → new ≡ old → IsLegal law new → ActsApart law old new
  nothing_apart old new is legal = record { others = []; apart = tt; seen = is ∙ nil old; legal = legal }

  -- what a user may do after any events of others, it may do now
  pub may_alone : (who : ℕ) (j : List Event) (s : SecondView) (call : FabricCall) → record { who = who; journal = j } ≡ s → MayTurn law s.who s.journal call → IsLegal law j → MayCall (state_of j) law who call
  may_alone who j s call is turn legal = may_now law who j call (subst (λ (x : SecondView). MayTurn law x.who x.journal call) (sym is) turn) legal

  -- its event is a turn
  pub turn_alone : (who : ℕ) (j : List Event) (s : SecondView) (call : FabricCall) (answer : FabricAnswer) (new : List Event) → record { who = who; journal = j } ≡ s → Adds j who call answer new → IsLegal law new → IsTurn law s.who s.journal call answer new
  turn_alone who j s call answer new is a legal = subst (λ (x : SecondView). IsTurn law x.who x.journal call answer new) is (turn_of law who j call answer new a legal)

  -- What came since a user's number was given is by that user: first the journal, then the number, then its events.
  pub acted_apart : (first : List Event) (old new : SecondView) (who : ℕ) (j : List Event) → old.journal ≡ first → (old.who ≡ 0) ⊎ (old.who ≡ length old.journal + 2) → old.who ≢ 0 → Later law old.journal new.journal → new.who ≡ old.who → record { who = who; journal = j } ≡ new → IsAlone who j → ActsApart law first new.journal
  acted_apart first old new who j same number some later is_who is alone =
      let h : IsAlone old.who new.journal = subst (λ k. IsAlone k new.journal) is_who (subst (λ (x : SecondView). IsAlone x.who x.journal) is alone) in
      let at : old.who ≡ length old.journal + 2 = ⊎_elim (λ (z : old.who ≡ 0). absurd (some z)) (λ (e : old.who ≡ length old.journal + 2). e) number in
      let start : old.who - 2 ≡ length old.journal = omega (arith, at) in
      let rest : drop (old.who - 2) new.journal ≡ later.more = ap (λ k. drop k new.journal) start ∙ (ap (drop (length old.journal)) later.seen ∙ drop_all old.journal later.more) in record {
        others = later.more;
        apart = others_of old.who later.more h.other (subst (AreBy old.who) rest (h.by (omega (arith, at))));
        seen = later.seen ∙ ap (λ l. l ++ later.more) same;
        legal = later.legal;
      }

  -- what the first user may do after any events of others, it may do now
  pub may_first : (old mid : List Event) (call : FabricCall) → ActsApart law old mid → MayTurn law 1 old call → MayCall (state_of mid) law 1 call
  may_first old mid call x turn = subst (λ es. MayCall (state_of es) law 1 call) (sym x.seen) (turn x.others x.apart (subst (IsLegal law) x.seen x.legal))

  -- what others did and an own event are a turn
  pub turn_first : (old mid new : List Event) (call : FabricCall) (answer : FabricAnswer) → ActsApart law old mid → Adds mid 1 call answer new → IsLegal law new → IsTurn law 1 old call answer new
  turn_first old mid new call answer x a legal = record {
    others = x.others;
    own = a.own;
    apart = x.apart;
    event = a.event;
    seen = a.added ∙ ap (λ l. l ++ a.own) x.seen;
    legal = legal;
  }
