-- How often turns begin an append.
use Rattle.std.proofs.Common.{◌≡◌, ◌⊎◌, inl, inr, ℕ, ◌+◌, ◌&&◌, Bool, true, false, cond, List, [], ◌∷◌, ◌++◌, refl, sym, ap, ◌∙◌, subst, arith, append_assoc}
use Rattle.std.specs.Prelude.{◌==◌}
use Rattle.std.proofs.lemmas.List.{append-nil}
use Rattle.std.proofs.lemmas.Bool.Decides.{nat_tests}
use Rattle.delos_types.specs.declared.entry.Entry.{Entry}
use Rattle.loglet_api.specs.declared.call.Op.{Op}
use Rattle.loglet_api.specs.declared.call.Op.TheVariants.{Append}
use Rattle.loglet_api.specs.declared.call.Answer.{Answer}
use Rattle.loglet_api.specs.declared.call.Answer.TheVariants.{Sealed}
use Rattle.legal_journal.specs.Law.{Law}
use Rattle.legal_journal.specs.declared.events.Event.{Event}
use Rattle.legal_journal.specs.declared.events.FabricCall.{FabricCall}
use Rattle.legal_journal.specs.declared.events.FabricCall.TheVariants.{Begin, Carry}
use Rattle.legal_journal.specs.declared.events.FabricAnswer.{FabricAnswer}
use Rattle.legal_journal.specs.declared.events.FabricAnswer.TheVariants.{Begun, Done, Full}
use Rattle.legal_journal.specs.declared.events.FabricAnswer.TheVariants as fabric
use Rattle.legal_journal.specs.Turns.{AreOthers, IsTurn}
use Rattle.legal_journal.proofs.Sealing.{count-append, one_or_none}
use Rattle.virtual_log.specs.declared.fault.Fault.{Fault}
use Rattle.virtual_log.specs.declared.fault.Fault.TheVariants.{NoQuorum, Meta, Memory}
use Rattle.virtual_log.specs.declared.fault.Fault.TheVariants as fault
use Rattle.virtual_log.specs.Attempts.{is_begun, is_refused, own_begun, own_refused, IsOf, AreOf, Attempts, AppendsOnce, AppendsNone, Idles, AppendsAtMostOnce, appends_in, refused_by}
use Rattle.virtual_log.proofs.Sealing.{one, others_none, one_none}

abbrev begins : Event → Bool
begins e = is_begun e.call e.answer

abbrev refuses : Event → Bool
refuses e = is_refused e.answer

same_user : (who : ℕ) → (who == who) ≡ true
same_user who = grind (arith, nat_tests)

others_of : (who : ℕ) (entry : Entry) (es : List Event) → AreOthers who es → AreOf who entry es
others_of who entry [] h = tt
others_of who entry (e ∷ es) h = (λ is. absurd (h.0 is), others_of who entry es h.1)

of_append : (who : ℕ) (entry : Entry) (xs ys : List Event) → AreOf who entry xs → AreOf who entry ys → AreOf who entry (xs ++ ys)
of_append who entry [] ys h k = k
of_append who entry (x ∷ xs) ys h k = (h.0, of_append who entry xs ys h.1 k)

no_more : (n : ℕ) → n + 0 ≡ 0 + n
no_more n = omega arith

-- One call after another

attempts_refl : (who : ℕ) (entry : Entry) (n : ℕ) (a : List Event) → Attempts who entry n n a a
attempts_refl who entry n a = record { more = []; seen = sym (append-nil a); count = no_more n; only = tt }

attempts_trans : (who : ℕ) (entry : Entry) (i j k : ℕ) (a b c : List Event) → Attempts who entry i j a b → Attempts who entry j k b c → Attempts who entry i k a c
attempts_trans who entry i j k a b c f g = record {
  more = f.more ++ g.more;
  seen = g.seen ∙ (ap (λ l. l ++ g.more) f.seen ∙ append_assoc a f.more g.more);
  count = omega (arith, count-append (λ e. is_begun e.call e.answer && (e.who == who)) f.more g.more, count-append (λ e. is_refused e.answer && (e.who == who)) f.more g.more, f.count, g.count);
  only = of_append who entry f.more g.more f.only g.only;
}

-- .. by whoever is the same
pub attempts_then : {i j k : ℕ} (who user : ℕ) (entry : Entry) (a b c : List Event) → user ≡ who → Attempts who entry i j a b → Attempts user entry j k b c → Attempts who entry i k a c
attempts_then {i} {j} {k} who user entry a b c same f g = attempts_trans who entry i j k a b c f (subst (λ u. Attempts u entry j k b c) same g)

-- a carry that is answered, behind what began none
pub carried_then : (who user : ℕ) (entry : Entry) (n : ℕ) (a b c : List Event) → user ≡ who → AppendsNone who entry a b → Attempts user entry n 0 b c → Attempts who entry n 0 a c
carried_then who user entry n a b c same f g =
    let h = subst (λ u. Attempts u entry n 0 b c) same g in
    record {
      more = f.more ++ h.more;
      seen = h.seen ∙ (ap (λ l. l ++ h.more) f.seen ∙ append_assoc a f.more h.more);
      count = omega (arith, count-append (λ e. is_begun e.call e.answer && (e.who == who)) f.more h.more, count-append (λ e. is_refused e.answer && (e.who == who)) f.more h.more, f.count, h.count);
      only = of_append who entry f.more h.more f.only h.only;
    }

-- where one may have placed it before, it may have after
pub one_stays : (who : ℕ) (entry : Entry) (a b : List Event) → AppendsNone who entry a b → Attempts who entry 1 1 a b
one_stays who entry a b h = record { more = h.more; seen = h.seen; count = omega (arith, h.count); only = h.only }

pub idle_refl : (who : ℕ) (a : List Event) → Idles who a a
idle_refl who a entry = attempts_refl who entry 0 a

pub idle_as : (who user : ℕ) (a b : List Event) → user ≡ who → Idles user a b → Idles who a b
idle_as who user a b same h = subst (λ k. Idles k a b) same h

pub idle_trans : (who : ℕ) (a b c : List Event) → Idles who a b → Idles who b c → Idles who a c
idle_trans who a b c f g entry = attempts_trans who entry 0 0 0 a b c (f entry) (g entry)

pub idle_then : (who user : ℕ) (a b c : List Event) → user ≡ who → Idles who a b → Idles user b c → Idles who a c
idle_then who user a b c same f g = idle_trans who a b c f (idle_as who user b c same g)

-- Faults

pub at_most_none : (who : ℕ) (entry : Entry) (a b : List Event) (f : Fault) → AppendsNone who entry a b → AppendsAtMostOnce who entry a f b
at_most_none who entry a b Memory h = inl h
at_most_none who entry a b (NoQuorum id unreached) h = inl h
at_most_none who entry a b (fault.Full id) h = h
at_most_none who entry a b Meta h = h

none_then : (who user : ℕ) (entry : Entry) (a b c : List Event) → user ≡ who → AppendsNone who entry a b → AppendsNone user entry b c ⊎ AppendsOnce user entry b c → AppendsNone who entry a c ⊎ AppendsOnce who entry a c
none_then who user entry a b c same f (inl g) = inl (attempts_then who user entry a b c same f g)
none_then who user entry a b c same f (inr g) = inr (attempts_then who user entry a b c same f g)

pub at_most_then : (who user : ℕ) (entry : Entry) (a b c : List Event) (f : Fault) → user ≡ who → AppendsNone who entry a b → AppendsAtMostOnce user entry b f c → AppendsAtMostOnce who entry a f c
at_most_then who user entry a b c Memory same f g = none_then who user entry a b c same f g
at_most_then who user entry a b c (NoQuorum id unreached) same f g = none_then who user entry a b c same f g
at_most_then who user entry a b c (fault.Full id) same f g = attempts_then who user entry a b c same f g
at_most_then who user entry a b c Meta same f g = attempts_then who user entry a b c same f g

-- Single turns

begun_one : (i t : ℕ) (op : Op) → cond (is_begun (Begin i op) (Begun t) && true) 1 0 ≡ appends_in op
begun_one i t (Append e) = refl
begun_one i t op = refl

pub full_begun : (i : ℕ) (op : Op) → is_begun (Begin i op) Full ≡ false
full_begun i (Append e) = refl
full_begun i op = refl

pub memory_begun : (i : ℕ) (op : Op) → is_begun (Begin i op) fabric.Memory ≡ false
memory_begun i (Append e) = refl
memory_begun i op = refl

refused_one : (a : Answer) → cond (is_refused (Done a) && true) 1 0 ≡ refused_by a
refused_one Sealed = refl
refused_one a = refl

module _ (law : Law) (who : ℕ) (old : List Event) where
  turn_by : (entry : Entry) (before after : ℕ) (call : FabricCall) (answer : FabricAnswer) (new : List Event) (t : IsTurn law who old call answer new) → before + own_begun who t.own ≡ own_refused who t.own + after → AreOf who entry t.own → Attempts who entry before after old new
  turn_by entry before after call answer new t h of = record {
    more = t.others ++ t.own;
    seen = t.seen ∙ append_assoc old t.others t.own;
    count = omega (arith, count-append (λ e. is_begun e.call e.answer && (e.who == who)) t.others t.own, count-append (λ e. is_refused e.answer && (e.who == who)) t.others t.own, others_none begins who t.others t.apart, others_none refuses who t.others t.apart, h);
    only = of_append who entry t.others t.own (others_of who entry t.others t.apart) of;
  }

  -- a turn that begins none, and tells of none that it was refused
  pub turn_of : (call : FabricCall) (answer : FabricAnswer) (new : List Event) (entry : Entry) → IsTurn law who old call answer new → is_begun call answer ≡ false → is_refused answer ≡ false → IsOf entry call → AppendsNone who entry old new
  turn_of call answer new entry t begun refused of = turn_by entry 0 0 call answer new t (count (one_or_none who call answer t.own t.event)) (only (one_or_none who call answer t.own t.event))
    where
      event : Event
      event = record { who = who; call = call; answer = answer }

      count : (t.own ≡ []) ⊎ (t.own ≡ event ∷ []) → 0 + own_begun who t.own ≡ own_refused who t.own + 0
      count (inl none) = subst (λ es. 0 + own_begun who es ≡ own_refused who es + 0) (sym none) refl
      count (inr is) = subst (λ es. 0 + own_begun who es ≡ own_refused who es + 0) (sym is) (omega (arith, one_none begins who event begun, one_none refuses who event refused))

      only : (t.own ≡ []) ⊎ (t.own ≡ event ∷ []) → AreOf who entry t.own
      only (inl none) = subst (AreOf who entry) (sym none) tt
      only (inr is) = subst (AreOf who entry) (sym is) (λ _. of, tt)

  -- .. nor asks for one
  pub turn_idles : (call : FabricCall) (answer : FabricAnswer) (new : List Event) → IsTurn law who old call answer new → is_begun call answer ≡ false → is_refused answer ≡ false → ((entry : Entry) → IsOf entry call) → Idles who old new
  turn_idles call answer new t begun refused of entry = turn_of call answer new entry t begun refused (of entry)

  -- a turn that begins an operation
  pub turn_begins : (i : ℕ) (op : Op) (ticket : ℕ) (new : List Event) (entry : Entry) → IsTurn law who old (Begin i op) (Begun ticket) new → IsOf entry (Begin i op) → Attempts who entry 0 (appends_in op) old new
  turn_begins i op ticket new entry t of =
      let event : Event = record { who = who; call = Begin i op; answer = Begun ticket } in
      let begun : own_begun who (event ∷ []) ≡ appends_in op = one (λ e. begins e && (e.who == who)) event ∙ (ap (λ b. cond (is_begun (Begin i op) (Begun ticket) && b) 1 0) (same_user who) ∙ begun_one i ticket op) in
      turn_by entry 0 (appends_in op) (Begin i op) (Begun ticket) new t
      (subst (λ es. 0 + own_begun who es ≡ own_refused who es + appends_in op) (sym t.event) (omega (arith, begun, one_none refuses who event refl)))
      (subst (AreOf who entry) (sym t.event) (λ _. of, tt))

  -- a turn that answers one
  pub turn_answers : (i ticket word : ℕ) (a : Answer) (new : List Event) (entry : Entry) → IsTurn law who old (Carry i ticket word) (Done a) new → Attempts who entry (refused_by a) 0 old new
  turn_answers i ticket word a new entry t =
      let event : Event = record { who = who; call = Carry i ticket word; answer = Done a } in
      let refused : own_refused who (event ∷ []) ≡ refused_by a = one (λ e. refuses e && (e.who == who)) event ∙ (ap (λ b. cond (is_refused (Done a) && b) 1 0) (same_user who) ∙ refused_one a) in
      turn_by entry (refused_by a) 0 (Carry i ticket word) (Done a) new t
      (subst (λ es. refused_by a + own_begun who es ≡ own_refused who es + 0) (sym t.event) (omega (arith, refused, one_none begins who event refl)))
      (subst (AreOf who entry) (sym t.event) (λ _. tt, tt))
