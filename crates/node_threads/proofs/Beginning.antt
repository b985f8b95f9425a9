-- What number 0 makes as a phase begins.
use Rattle.std.proofs.Common.{◌≡◌, ◌≢◌, refl, sym, ap, ◌∙◌, subst, ◌⊎◌, inl, inr, ⊎_elim, ℕ, suc, Bool, true, false, cond, List, [], ◌∷◌, ◌++◌, length, Option, None, append-nil, append_assoc, arith}
use Rattle.std.specs.Prelude.{map, MatchBool}
use Rattle.std.specs.List.{All, Contains}
use Rattle.std.proofs.lemmas.List.{map-append}
use Rattle.std.proofs.lemmas.List.Elements.{All-nil, All-cons}
use Rattle.legal_journal.specs.Law.{Law}
use Rattle.legal_journal.specs.declared.events.FabricCall.{FabricCall}
use Rattle.legal_journal.specs.declared.events.FabricCall.TheVariants.{Begin, Carry, Forget, ReadChain, WriteChain, Stop, Mend, Stray, StopMeta, MendMeta}
use Rattle.legal_journal.specs.declared.events.FabricAnswer.{FabricAnswer}
use Rattle.legal_journal.specs.declared.events.FabricAnswer.TheVariants.{Memory}
use Rattle.legal_journal.specs.declared.events.Event.{Event}
use Rattle.legal_journal.specs.FaultCalls.{is_fault, faults_made, made_by}
use Rattle.legal_journal.specs.Journal.{State, Exists, IsLegal}
use Rattle.legal_journal.specs.Turns.{MayAsk, MayCall, OwnEvents}
use Rattle.legal_journal.proofs.Sealing.{one_or_none}
use Rattle.pass_lock.specs.Journal.{IsKnown, Signed, Turn, numbers}
use Rattle.pass_lock.specs.Pass.{Known, LockId, all_parts, brought, first_seen, numbered}
use Rattle.pass_lock.proofs.Known.{brought-again}
use Rattle.turn_scopes.specs.Alone.{AreOwn}
use Rattle.node_course.specs.FaultLines.{AreOutside}
use Rattle.node_threads.specs.Outset.{GoesOutside, MakesCalls}
use Rattle.node_threads.specs.Passes.{IsRested, journal_of, signer}
use Rattle.node_threads.proofs.Faults.{AreFaults}
use Rattle.node_threads.proofs.Joining.{closed_same, rested_size}
use Rattle.node_threads.proofs.Numbers.{brought_again, first_brought}

-- anybody may break or mend what is there
fault_asks : (w : State) (law : Law) (who : ℕ) (call : FabricCall) → is_fault call ≡ true → MayAsk w law who call
fault_asks w law who (Begin i op) f = absurd (cc)
fault_asks w law who (Carry i t word) f = absurd (cc)
fault_asks w law who (Forget i t) f = absurd (cc)
fault_asks w law who ReadChain f = absurd (cc)
fault_asks w law who (WriteChain x c) f = absurd (cc)
fault_asks w law who (Stop i server n) f = tt
fault_asks w law who (Mend i server word) f = tt
fault_asks w law who (Stray i word) f = tt
fault_asks w law who (StopMeta n) f = tt
fault_asks w law who (MendMeta word) f = tt

pub may_act : (w : State) (law : Law) (who : ℕ) (call : FabricCall) → is_fault call ≡ true → Exists law.shelf call → MayCall w law who call
may_act w law who call f there = record { there = there; asks = fault_asks w law who call f }

-- the events of such a call: one, or none for want of memory
pub fault_own : (who : ℕ) (call : FabricCall) (answer : FabricAnswer) (own : List Event) → is_fault call ≡ true → OwnEvents who call answer own → ((answer ≡ Memory) × (own ≡ [])) ⊎ (own ≡ record { who = who; call = call; answer = answer } ∷ [])
fault_own who (Carry i t x) answer own f h = absurd (cc)
fault_own who call Memory own f h = inl (refl, h)
fault_own who call answer own f h = inr h

pub was_made : (b : Bool) (who : ℕ) (call : FabricCall) (answer : FabricAnswer) (own : List Event) → MatchBool b (answer ≢ Memory) (answer ≡ Memory) → b ≡ true → is_fault call ≡ true → OwnEvents who call answer own → own ≡ record { who = who; call = call; answer = answer } ∷ []
was_made true who call answer own m is f h = ⊎_elim
    (λ (none : (answer ≡ Memory) × (own ≡ [])). absurd (m none.0))
    (λ (one : own ≡ record { who = who; call = call; answer = answer } ∷ []). one)
    (fault_own who call answer own f h)
was_made false who call answer own m is f h = absurd (cc)

-- a call's events are signed by the first of all parts
first_number : (j was : List Event) (k n : ℕ) → Contains (numbers (brought j (brought was (numbered k (suc n))))) k
unfolding numbered
first_number j was k n = (0, omega arith, refl)

pub own_signed : (j was : List Event) (call : FabricCall) (answer : FabricAnswer) (own : List Event) → OwnEvents 0 call answer own → Signed signer (brought j (brought was (numbered 0 all_parts))) own
own_signed j was call answer own h = let ns : List ℕ = numbers (brought j (brought was (numbered 0 all_parts))) in ⊎_elim
    (λ (none : own ≡ []). subst (All (λ (e : Event). Contains ns e.who)) (sym none) (All-nil (λ (e : Event). Contains ns e.who)))
    (λ (one : own ≡ record { who = 0; call = call; answer = answer } ∷ []). subst (All (λ (e : Event). Contains ns e.who)) (sym one)
    (All-cons (λ (e : Event). Contains ns e.who) (record { who = 0; call = call; answer = answer }) [] (first_number j was 0 65535) (All-nil (λ (e : Event). Contains ns e.who))))
    (one_or_none 0 call answer own h)

-- the same parts, with which another journal was seen
pub rested_on : (lock : LockId) (journal : List Event) (p p' : Known Event) → IsRested lock p → p'.lock ≡ p.lock → p'.turn ≡ None → p'.parts ≡ brought journal p.parts → (journal_of p' ≡ journal) × IsRested lock p'
rested_on lock journal p p' rested lock_is turn_is parts =
    let back : brought journal p.parts ≡ brought journal (numbered 0 all_parts) = ap (λ (x : Known Event). brought journal x.parts) rested ∙ brought_again journal (journal_of p) 0 all_parts in
    let parts' : p'.parts ≡ brought journal (numbered 0 all_parts) = parts ∙ back in
    let first : first_seen p'.parts ≡ journal = ap first_seen parts' ∙ first_brought journal 0 all_parts (omega arith) in
    let now : p'.parts ≡ brought (first_seen p'.parts) (numbered 0 all_parts) = parts' ∙ ap (λ (j : List Event). brought j (numbered 0 all_parts)) (sym first) in
    let lock' : p'.lock ≡ lock = lock_is ∙ ap (λ (x : Known Event). x.lock) rested in
    (first, λ i. record { lock = lock' i; parts = now i; made = p'.made; turn = turn_is i })

-- the pass with all parts found what it had seen, and leaves what was added
pub record Acted (lock : LockId) (was now : List Event) (old new : Known Event) : Type 0 where
  pub same : was ≡ journal_of old
  pub first : journal_of new ≡ now
  pub rested : IsRested lock new

pub acted : (lock : LockId) (was now : List Event) (old mid new : Known Event) (t : Option (ℕ × List Event)) (m : List (Turn Event)) → IsRested lock old → IsKnown signer was old.parts → (length old.parts ≡ all_parts → Signed signer old.parts was)
    → mid ≡ record old { parts = brought was old.parts; turn = t } → new ≡ record mid { parts = brought now mid.parts; made = m; turn = None } → Acted lock was now old new
acted lock was now old mid new t m rested known signed enter leave =
    let lock_is : new.lock ≡ old.lock = ap (λ (k : Known Event). k.lock) leave ∙ ap (λ (k : Known Event). k.lock) enter in
    let turn_is : new.turn ≡ None = ap (λ (k : Known Event). k.turn) leave in
    let parts : new.parts ≡ brought now old.parts = ap (λ (k : Known Event). k.parts) leave ∙ (ap (λ (k : Known Event). brought now k.parts) enter ∙ brought-again now was old.parts) in
    let r = rested_on lock now old new rested lock_is turn_is parts in
    record { same = closed_same lock old was rested known (signed (rested_size lock old rested)); first = r.0; rested = r.1 }

-- One call after another

pub makes_none : (j : List Event) → MakesCalls [] j j
makes_none j = record { more = []; seen = sym (append-nil j); own = tt; calls_are = refl }

pub makes_one : (call : FabricCall) (answer : FabricAnswer) (old own new : List Event) → own ≡ record { who = 0; call = call; answer = answer } ∷ [] → new ≡ old ++ own → MakesCalls (call ∷ []) old new
makes_one call answer old own new one is = record { more = own; seen = is; own = subst (AreOwn 0) (sym one) (refl, tt); calls_are = ap (map (λ (e : Event). e.call)) one }

own_join : (xs ys : List Event) → AreOwn 0 xs → AreOwn 0 ys → AreOwn 0 (xs ++ ys)
own_join [] ys h k = k
own_join (x ∷ xs) ys h k = (h.0, own_join xs ys h.1 k)

pub makes_both : (xs ys : List FabricCall) (a b c : List Event) → MakesCalls xs a b → MakesCalls ys b c → MakesCalls (xs ++ ys) a c
makes_both xs ys a b c h k = record {
  more = h.more ++ k.more;
  seen = k.seen ∙ (ap (λ (l : List Event). l ++ k.more) h.seen ∙ append_assoc a h.more k.more);
  own = own_join h.more k.more h.own k.own;
  calls_are = map-append (λ (e : Event). e.call) h.more k.more ∙ (ap (λ l. l ++ map (λ (e : Event). e.call) k.more) h.calls_are ∙ ap (λ l. xs ++ l) k.calls_are);
}

pub goes_none : (law : Law) (j : List Event) → GoesOutside law j j
goes_none law j = record { more = []; seen = sym (append-nil j); outside = tt; legal = inl refl }

pub goes_own : (law : Law) (call : FabricCall) (answer : FabricAnswer) (old own new : List Event) → is_fault call ≡ true → OwnEvents 0 call answer own → new ≡ old ++ own → IsLegal law new → GoesOutside law old new
goes_own law call answer old own new f h is legal = record {
  more = own;
  seen = is;
  outside = ⊎_elim
      (λ (none : own ≡ []). subst AreOutside (sym none) tt)
      (λ (one : own ≡ record { who = 0; call = call; answer = answer } ∷ []). subst AreOutside (sym one) ((refl, inr f), tt))
      (one_or_none 0 call answer own h);
  legal = inr legal;
}

outside_join : (xs ys : List Event) → AreOutside xs → AreOutside ys → AreOutside (xs ++ ys)
outside_join [] ys h k = k
outside_join (x ∷ xs) ys h k = (h.0, outside_join xs ys h.1 k)

pub goes_both : (law : Law) (a b c : List Event) → GoesOutside law a b → GoesOutside law b c → GoesOutside law a c
goes_both law a b c h k = record {
  more = h.more ++ k.more;
  seen = k.seen ∙ (ap (λ (l : List Event). l ++ k.more) h.seen ∙ append_assoc a h.more k.more);
  outside = outside_join h.more k.more h.outside k.outside;
  legal = ⊎_elim
      (λ (none : k.more ≡ []).
      let same : c ≡ b = k.seen ∙ (ap (λ (l : List Event). b ++ l) none ∙ append-nil b) in ⊎_elim
      (λ (before : h.more ≡ []). inl (ap (λ (l : List Event). l ++ k.more) before ∙ none))
      (λ (legal : IsLegal law b). inr (subst (IsLegal law) (sym same) legal))
      h.legal)
      (λ (legal : IsLegal law c). inr legal)
      k.legal;
}

-- what was made is told
pub made_faults : (calls : List FabricCall) (more : List Event) → AreFaults calls → AreOwn 0 more → map (λ (e : Event). e.call) more ≡ calls → faults_made more ≡ made_by 0 calls
made_faults calls more f own is = subst (λ cs. faults_made more ≡ made_by 0 cs) is (told more own (subst AreFaults (sym is) f))
  where
    told : (es : List Event) → AreOwn 0 es → AreFaults (map (λ (e : Event). e.call) es) → faults_made es ≡ made_by 0 (map (λ (e : Event). e.call) es)
    told [] o g = refl
    told (e ∷ es) o g =
        ap (λ b. cond b ((e.who, e.call) ∷ []) [] ++ faults_made es) g.0
        ∙ (ap (λ n. (n, e.call) ∷ faults_made es) o.0 ∙ ap (λ l. (0, e.call) ∷ l) (told es o.1 g.1))
