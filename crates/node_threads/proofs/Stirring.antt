-- Number 0 has old messages come again, beside the nodes.
use Rattle.std.proofs.Common.{◌≡◌, ◌≢◌, refl, sym, ap, ◌∙◌, subst, ◌⊎◌, ⊎_elim, ℕ, suc, ◌+◌, ◌-◌, ◌%◌, ◌<◌, ◌≤◌, Bool, true, false, cond, List, [], ◌∷◌, ◌++◌, append-nil, append_assoc, arith, eq-eqb, ne_eqb}
use Rattle.std.specs.Prelude.{◌==◌, MatchBool}
use Rattle.std.specs.List.{AllByRecursion}
use Rattle.legal_journal.specs.Law.{Law}
use Rattle.legal_journal.specs.declared.events.FabricCall.{FabricCall}
use Rattle.legal_journal.specs.declared.events.FabricCall.TheVariants.{Stray}
use Rattle.legal_journal.specs.declared.events.FabricAnswer.{FabricAnswer}
use Rattle.legal_journal.specs.declared.events.FabricAnswer.TheVariants.{Memory}
use Rattle.legal_journal.specs.declared.events.Event.{Event}
use Rattle.legal_journal.specs.FaultCalls.{is_fault, faults_made, made_by}
use Rattle.legal_journal.specs.Turns.{OwnEvents}
use Rattle.legal_journal.proofs.Sealing.{one_or_none}
use Rattle.turn_scopes.specs.Beside.{AreBeside, IsTaken}
use Rattle.node_course.specs.FaultLines.{strays_from}
use Rattle.node_threads.specs.Stirring.{Stirred, calls_by}
use Rattle.node_threads.proofs.Beginning.{was_made}

-- each event of number 0 breaks or mends something, or has an old message come again
abbrev pub OwnFaults : List Event → Type 0
OwnFaults es = AllByRecursion (λ e. e.who ≡ 0 → is_fault e.call ≡ true) es

-- these calls are left to make
pub record Stirring (all left : List FabricCall) (old new : List Event) : Type 0 where
  pub more : List Event
  pub seen : new ≡ old ++ more
  pub faults : OwnFaults more
  pub made : calls_by 0 more ++ left ≡ all

pub faults_join : (xs ys : List Event) → OwnFaults xs → OwnFaults ys → OwnFaults (xs ++ ys)
faults_join [] ys h k = k
faults_join (x ∷ xs) ys h k = (h.0, faults_join xs ys h.1 k)

pub calls_append : (who : ℕ) (xs ys : List Event) → calls_by who (xs ++ ys) ≡ calls_by who xs ++ calls_by who ys
calls_append who [] ys = refl
calls_append who (x ∷ xs) ys =
    ap (λ l. cond (x.who == who) (x.call ∷ []) [] ++ l) (calls_append who xs ys)
    ∙ sym (append_assoc (cond (x.who == who) (x.call ∷ []) []) (calls_by who xs) (calls_by who ys))

-- others' events
others_faults : (beside : ℕ → Type 0) → ((user : ℕ) → beside user → user ≢ 0) → (es : List Event) → AreBeside beside es → OwnFaults es
others_faults beside apart [] b = tt
others_faults beside apart (e ∷ es) b = (λ own. absurd (apart e.who b.0 own), others_faults beside apart es b.1)

others_calls : (beside : ℕ → Type 0) → ((user : ℕ) → beside user → user ≢ 0) → (es : List Event) → AreBeside beside es → calls_by 0 es ≡ []
others_calls beside apart [] b = refl
others_calls beside apart (e ∷ es) b =
    ap (λ t. cond t (e.call ∷ []) [] ++ calls_by 0 es) (ne_eqb e.who 0 (apart e.who b.0))
    ∙ others_calls beside apart es b.1

pub stirs_none : (all : List FabricCall) (j : List Event) → Stirring all all j j
stirs_none all j = record { more = []; seen = sym (append-nil j); faults = tt; made = refl }

-- the turns that are left
pub strays_next : (cells i turns : ℕ) → i < turns → strays_from cells i (turns - i) ≡ Stray (i % cells) i ∷ strays_from cells (i + 1) (turns - (i + 1))
strays_next cells i turns low =
    let left : turns - i ≡ suc (turns - (i + 1)) = omega (arith, low) in
    let one : suc i ≡ i + 1 = omega arith in
    ap (strays_from cells i) left ∙ ap (λ k. Stray (i % cells) i ∷ strays_from cells k (turns - (i + 1))) one

pub strays_first : (cells turns : ℕ) → strays_from cells 0 (turns - 0) ≡ strays_from cells 0 turns
strays_first cells turns = let e : turns - 0 ≡ turns = omega arith in ap (strays_from cells 0) e

pub strays_over : (cells i turns : ℕ) → turns ≤ i → strays_from cells i (turns - i) ≡ []
strays_over cells i turns high = let e : turns - i ≡ 0 = omega (arith, high) in ap (strays_from cells i) e

module _ (law : Law) (beside : ℕ → Type 0) (apart : (user : ℕ) → beside user → user ≢ 0) (all left : List FabricCall) (cell word : ℕ) (answer : FabricAnswer) (old now new : List Event) where
  abbrev stray : FabricCall
  stray = Stray cell word

  abbrev event : Event
  event = record { who = 0; call = Stray cell word; answer = answer }

  own_faults : (own : List Event) → OwnEvents 0 stray answer own → OwnFaults own
  own_faults own h = ⊎_elim
      (λ (none : own ≡ []). subst OwnFaults (sym none) tt)
      (λ (one : own ≡ event ∷ []). subst OwnFaults (sym one) (λ own. refl, tt))
      (one_or_none 0 stray answer own h)

  module _ (b : Bool) (was : MatchBool b (answer ≢ Memory) (answer ≡ Memory)) (t : IsTaken law beside 0 now stray answer new) (before : List FabricCall) (is : before ≡ stray ∷ left) (s : Stirring all before old now) where
    seen : new ≡ old ++ (s.more ++ (t.others ++ t.own))
    seen = t.seen ∙ (append_assoc now t.others t.own ∙ (ap (λ l. l ++ (t.others ++ t.own)) s.seen ∙ append_assoc old s.more (t.others ++ t.own)))

    faults : OwnFaults (s.more ++ (t.others ++ t.own))
    faults = faults_join s.more (t.others ++ t.own) s.faults (faults_join t.others t.own (others_faults beside apart t.others t.between) (own_faults t.own t.event))

    calls : calls_by 0 (s.more ++ (t.others ++ t.own)) ≡ calls_by 0 s.more ++ calls_by 0 t.own
    calls = calls_append 0 s.more (t.others ++ t.own)
        ∙ ap (λ l. calls_by 0 s.more ++ l) (calls_append 0 t.others t.own ∙ ap (λ l. l ++ calls_by 0 t.own) (others_calls beside apart t.others t.between))

    -- one turn more
    pub stirs_more : b ≡ true → Stirring all left old new
    stirs_more made = record {
      more = s.more ++ (t.others ++ t.own);
      seen = seen;
      faults = faults;
      made = ap (λ l. l ++ left) (calls ∙ ap (λ es. calls_by 0 s.more ++ calls_by 0 es) (was_made b 0 stray answer t.own was made refl t.event))
          ∙ (append_assoc (calls_by 0 s.more) (stray ∷ []) left ∙ (ap (λ l. calls_by 0 s.more ++ l) (sym is) ∙ s.made));
    }

    -- memory didn't suffice
    pub stirs_no_more : Stirred all old new false
    stirs_no_more = record { more = s.more ++ (t.others ++ t.own); seen = seen; faults = faults; made = λ so. absurd (cc) }

-- all were made
pub all_stirred : (all left : List FabricCall) (old new : List Event) → left ≡ [] → Stirring all left old new → Stirred all old new true
all_stirred all left old new none s = record {
  more = s.more;
  seen = s.seen;
  faults = s.faults;
  made = λ so. sym (append-nil (calls_by 0 s.more)) ∙ (ap (λ l. calls_by 0 s.more ++ l) (sym none) ∙ s.made);
}

-- what a journal tells, where none but number 0 makes faults, and it makes nothing else
pub told_faults : (es : List Event) → AllByRecursion (λ e. (e.who ≡ 0) ⊎ (is_fault e.call ≡ false)) es → OwnFaults es → faults_made es ≡ made_by 0 (calls_by 0 es)
told_faults [] h k = refl
told_faults (e ∷ es) h k = ⊎_elim
    (λ (own : e.who ≡ 0).
    ap (λ b. cond b ((e.who, e.call) ∷ []) [] ++ faults_made es) (k.0 own)
    ∙ (ap (λ n. (n, e.call) ∷ faults_made es) own
    ∙ (ap (λ l. (0, e.call) ∷ l) (told_faults es h.1 k.1)
    ∙ ap (λ b. made_by 0 (cond b (e.call ∷ []) [] ++ calls_by 0 es)) (sym (eq-eqb e.who 0 own)))))
    (λ (none : is_fault e.call ≡ false).
    let other : e.who ≢ 0 = λ own. clash (is_fault e.call) (k.0 own) none in
    ap (λ b. cond b ((e.who, e.call) ∷ []) [] ++ faults_made es) none
    ∙ (told_faults es h.1 k.1
    ∙ ap (λ b. made_by 0 (cond b (e.call ∷ []) [] ++ calls_by 0 es)) (sym (ne_eqb e.who 0 other))))
    h.0
  where
    clash : (b : Bool) → b ≡ true → b ≡ false → ⊥
    clash true t f = absurd (cc)
    clash false t f = absurd (cc)

-- nothing was to do
pub stirred_none : (cells turns : ℕ) (journal : List Event) (sufficed : Bool) → turns ≡ 0 → Stirred (strays_from cells 0 turns) journal journal sufficed
stirred_none cells turns journal sufficed none = record { more = []; seen = sym (append-nil journal); faults = tt; made = λ so. ap (strays_from cells 0) (sym none) }
