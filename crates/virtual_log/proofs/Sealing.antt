-- Which Seals turns begin.
use Rattle.std.proofs.Common.{◌≡◌, ◌≢◌, ◌⊎◌, inl, inr, ℕ, ◌≤◌, ◌&&◌, Bool, true, false, cond, List, [], ◌∷◌, ◌++◌, refl, sym, ap, ◌∙◌, subst, arith, append_assoc, zero-add}
use Rattle.std.specs.Prelude.{◌==◌, count_by}
use Rattle.std.proofs.lemmas.List.{append-nil}
use Rattle.std.proofs.lemmas.Bool.Decides.{nat_tests}
use Rattle.delos_types.specs.declared.chain.Chain.{Chain}
use Rattle.chain_map.specs.Chain.{last_segment}
use Rattle.loglet_api.specs.declared.call.Op.{Op}
use Rattle.loglet_api.specs.declared.call.Op.TheVariants.{Seal}
use Rattle.legal_journal.specs.Law.{Law}
use Rattle.legal_journal.specs.declared.events.Event.{Event}
use Rattle.legal_journal.specs.declared.events.FabricCall.{FabricCall}
use Rattle.legal_journal.specs.declared.events.FabricCall.TheVariants.{Begin, ReadChain}
use Rattle.legal_journal.specs.declared.events.FabricAnswer.{FabricAnswer}
use Rattle.legal_journal.specs.declared.events.FabricAnswer.TheVariants.{At}
use Rattle.legal_journal.specs.Turns.{AreOthers, IsTurn}
use Rattle.legal_journal.specs.Sealing.{is_seal, is_seal_on, begins_seal, begins_seal_on, own_seals, own_seals_on}
use Rattle.legal_journal.proofs.Sealing.{count-append, one_or_none}
use Rattle.virtual_log.specs.Sealing.{SealsNone, SealsOnly, SealsAt, SealsAfter}

-- Counts

not_both : (b : Bool) → (b && false) ≡ false
not_both true = refl
not_both false = refl

-- .. of one event
pub one : (Q : Event → Bool) (e : Event) → count_by Q (e ∷ []) ≡ cond (Q e) 1 0
one Q e = zero-add (cond (Q e) 1 0)

-- events of others aren't counted
pub others_none : (P : Event → Bool) (who : ℕ) (es : List Event) → AreOthers who es → count_by (λ e. P e && (e.who == who)) es ≡ 0
others_none P who [] h = refl
others_none P who (e ∷ es) h =
    let Q : Event → Bool = λ x. P x && (x.who == who) in
    let other : (e.who == who) ≡ false = (let apart = h.0 in grind (arith, nat_tests)) in
    let here : Q e ≡ false = ap (λ b. P e && b) other ∙ not_both (P e) in
    omega (arith, count-append Q (e ∷ []) es, one Q e, ap {B = ℕ} (λ b. cond b 1 0) here, others_none P who es h.1)

-- .. nor is an event of which the test doesn't hold
pub one_none : (P : Event → Bool) (who : ℕ) (e : Event) → P e ≡ false → count_by (λ x. P x && (x.who == who)) (e ∷ []) ≡ 0
one_none P who e other = one (λ x. P x && (x.who == who)) e ∙ ap (λ b. cond (b && (e.who == who)) 1 0) other

one_most : (P : Event → Bool) (who : ℕ) (e : Event) → count_by (λ x. P x && (x.who == who)) (e ∷ []) ≤ 1
one_most P who e = omega (arith, one (λ x. P x && (x.who == who)) e, by (P e && (e.who == who)))
  where
    by : (b : Bool) → cond b 1 0 ≤ 1
    by true = omega arith
    by false = omega arith

-- a Seal of one loglet is none of another
apart_on : (i id : ℕ) (op : Op) → i ≢ id → is_seal_on i (Begin id op) ≡ false
apart_on i id Seal apart = grind (arith, nat_tests)
apart_on i id op apart = refl

-- where none is begun at all, none is on a loglet
none_on : (i : ℕ) (call : FabricCall) → is_seal call ≡ false → is_seal_on i call ≡ false
none_on i (Begin j Seal) other = absurd (cc)
none_on i call other = refl

-- Times at which none is begun

pub seals_refl : (who : ℕ) (a : List Event) → SealsNone who a a
seals_refl who a = record { more = []; seen = sym (append-nil a); none = refl }

pub seals_trans : (who : ℕ) (a b c : List Event) → SealsNone who a b → SealsNone who b c → SealsNone who a c
seals_trans who a b c f g = record {
  more = f.more ++ g.more;
  seen = g.seen ∙ (ap (λ l. l ++ g.more) f.seen ∙ append_assoc a f.more g.more);
  none = omega (arith, count-append (λ e. begins_seal e && (e.who == who)) f.more g.more, f.none, g.none);
}

pub seals_as : (who user : ℕ) (a b : List Event) → user ≡ who → SealsNone user a b → SealsNone who a b
seals_as who user a b same h = subst (λ k. SealsNone k a b) same h

-- none is begun next, by whoever is the same
pub seals_then : (who user : ℕ) (a b c : List Event) → user ≡ who → SealsNone who a b → SealsNone user b c → SealsNone who a c
seals_then who user a b c same f g = seals_trans who a b c f (seals_as who user b c same g)

module _ (law : Law) (who : ℕ) (old : List Event) where
  -- a turn that begins none
  pub turn_none : (call : FabricCall) (answer : FabricAnswer) (new : List Event) → IsTurn law who old call answer new → is_seal call ≡ false → SealsNone who old new
  turn_none call answer new t other = record {
    more = t.others ++ t.own;
    seen = t.seen ∙ append_assoc old t.others t.own;
    none = omega (arith, count-append (λ e. begins_seal e && (e.who == who)) t.others t.own, others_none begins_seal who t.others t.apart, by (one_or_none who call answer t.own t.event));
  }
    where
      by : (t.own ≡ []) ⊎ (t.own ≡ record { who = who; call = call; answer = answer } ∷ []) → own_seals who t.own ≡ 0
      by (inl none) = ap (own_seals who) none
      by (inr one) = ap (own_seals who) one ∙ one_none begins_seal who (record { who = who; call = call; answer = answer }) other

  -- a turn that begins an operation
  pub turn_at : (id : ℕ) (op : Op) (answer : FabricAnswer) (new : List Event) → IsTurn law who old (Begin id op) answer new → SealsAt who id old new
  turn_at id op answer new t = record {
    more = t.others ++ t.own;
    seen = t.seen ∙ append_assoc old t.others t.own;
    only = record {
      once = omega (arith, count-append (λ e. begins_seal e && (e.who == who)) t.others t.own, others_none begins_seal who t.others t.apart, most (one_or_none who (Begin id op) answer t.own t.event));
      elsewhere = λ i apart. omega (arith, count-append (λ e. begins_seal_on i e && (e.who == who)) t.others t.own, others_none (begins_seal_on i) who t.others t.apart, by i apart (one_or_none who (Begin id op) answer t.own t.event));
    };
  }
    where
      most : (t.own ≡ []) ⊎ (t.own ≡ record { who = who; call = Begin id op; answer = answer } ∷ []) → own_seals who t.own ≤ 1
      most (inl none) = subst (λ l. own_seals who l ≤ 1) (sym none) (omega arith)
      most (inr one) = subst (λ l. own_seals who l ≤ 1) (sym one) (one_most begins_seal who (record { who = who; call = Begin id op; answer = answer }))

      by : (i : ℕ) → i ≢ id → (t.own ≡ []) ⊎ (t.own ≡ record { who = who; call = Begin id op; answer = answer } ∷ []) → own_seals_on who i t.own ≡ 0
      by i apart (inl none) = ap (own_seals_on who i) none
      by i apart (inr one) = ap (own_seals_on who i) one ∙ one_none (begins_seal_on i) who (record { who = who; call = Begin id op; answer = answer }) (apart_on i id op apart)

-- what doesn't count as a Seal is none on a loglet
less_on : (who i : ℕ) (es : List Event) → own_seals_on who i es ≤ own_seals who es
less_on who i [] = omega arith
less_on who i (e ∷ es) =
    let P : Event → Bool = λ x. begins_seal_on i x && (x.who == who) in
    let Q : Event → Bool = λ x. begins_seal x && (x.who == who) in
    omega (arith, count-append P (e ∷ []) es, count-append Q (e ∷ []) es, one P e, one Q e, less_on who i es, by (begins_seal e) refl (e.who == who))
  where
    by : (b : Bool) → begins_seal e ≡ b → (own : Bool) → cond (begins_seal_on i e && own) 1 0 ≤ cond (begins_seal e && own) 1 0
    by false is own = subst (λ b. cond (b && own) 1 0 ≤ cond (begins_seal e && own) 1 0) (sym (none_on i e.call is)) (omega arith)
    by true is own = subst (λ b. cond (begins_seal_on i e && own) 1 0 ≤ cond (b && own) 1 0) (sym is) (less (begins_seal_on i e) own)
      where
        less : (b own : Bool) → cond (b && own) 1 0 ≤ cond own 1 0
        less true own = omega arith
        less false true = omega arith
        less false false = omega arith

-- Seals of one loglet

pub only_none : (who id : ℕ) (es : List Event) → own_seals who es ≡ 0 → SealsOnly who id es
only_none who id es h = record { once = omega (arith, h); elsewhere = λ i apart. omega (arith, h, less_on who i es) }

pub at_none : (who id : ℕ) (a b : List Event) → SealsNone who a b → SealsAt who id a b
at_none who id a b h = record { more = h.more; seen = h.seen; only = only_none who id h.more h.none }

pub at_then : (who id : ℕ) (a b c : List Event) → SealsAt who id a b → SealsNone who b c → SealsAt who id a c
at_then who id a b c f g = record {
  more = f.more ++ g.more;
  seen = g.seen ∙ (ap (λ l. l ++ g.more) f.seen ∙ append_assoc a f.more g.more);
  only = record {
    once = omega (arith, count-append (λ e. begins_seal e && (e.who == who)) f.more g.more, f.only.once, g.none);
    elsewhere = λ i apart. omega (arith, count-append (λ e. begins_seal_on i e && (e.who == who)) f.more g.more, f.only.elsewhere i apart, less_on who i g.more, g.none);
  };
}

-- a look at the chain, and then Seals of its last loglet
pub after_look : (who : ℕ) (old others looked new : List Event) (v : ℕ) (c : Chain) → AreOthers who others → looked ≡ (old ++ others) ++ record { who = who; call = ReadChain; answer = At v c } ∷ [] → SealsAt who (last_segment c).id looked new → SealsAfter who old new
after_look who old others looked new v c apart look h = record {
  others = others;
  apart = apart;
  version = v;
  chain = c;
  looked = looked;
  look = look;
  rest = h.more;
  seen = h.seen;
  only = h.only;
}

-- .. by whoever is the same, of whichever loglet is
pub at_same : (who user id last : ℕ) (a b : List Event) → user ≡ who → id ≡ last → SealsAt user id a b → SealsAt who last a b
at_same who user id last a b same is h = subst (λ k. SealsAt k last a b) same (subst (λ n. SealsAt user n a b) is h)
