-- Which faults the events of a closing run are.
use Rattle.std.proofs.Common.{◌≡◌, refl, sym, ap, ◌∙◌, subst, inl, inr, ◌⊎◌, ⊎_elim, ℕ, zero, suc, ◌+◌, ◌≤◌, Bool, true, false, cond, List, [], ◌∷◌, ◌++◌, map, arith, append_assoc, append-nil}
use Rattle.std.specs.Prelude.{replicate}
use Rattle.std.specs.List.{AllByRecursion}
use Rattle.legal_journal.specs.declared.events.Event.{Event}
use Rattle.legal_journal.specs.declared.events.FabricCall.{FabricCall}
use Rattle.legal_journal.specs.declared.events.FabricCall.TheVariants.{ReadChain, MendMeta}
use Rattle.legal_journal.specs.FaultCalls.{is_fault, faults_made, made_by}
use Rattle.turn_scopes.specs.Alone.{AreOwn, IsAlone}
use Rattle.turn_scopes.specs.Beside.{AreAmong, Since}
use Rattle.node_course.specs.FaultLines.{AreOutside}
use Rattle.last_chain.specs.Last.{calls_of}
use Rattle.run_closing.specs.Opening.{MakesNoFaults, MendsOnly}

-- a user's call
abbrev entry : ℕ → FabricCall → ℕ × FabricCall
entry who call = (who, call)

pub made_by-append : (who : ℕ) (xs ys : List FabricCall) → made_by who (xs ++ ys) ≡ made_by who xs ++ made_by who ys
made_by-append who [] ys = refl
made_by-append who (x ∷ xs) ys = ap (λ l. entry who x ∷ l) (made_by-append who xs ys)

pub faults-append : (xs ys : List Event) → faults_made (xs ++ ys) ≡ faults_made xs ++ faults_made ys
faults-append [] ys = refl
faults-append (x ∷ xs) ys =
    ap (λ l. cond (is_fault x.call) (entry x.who x.call ∷ []) [] ++ l) (faults-append xs ys)
    ∙ sym (append_assoc (cond (is_fault x.call) (entry x.who x.call ∷ []) []) (faults_made xs) (faults_made ys))

-- a node that nobody is beside makes none
none_among : (who : ℕ) (beside : ℕ → Type 0) → IsAlone beside → (es : List Event) → AreAmong who beside es → faults_made es ≡ []
none_among who beside alone [] h = refl
none_among who beside alone (e ∷ es) h =
    let none : is_fault e.call ≡ false = ⊎_elim (λ (k : (e.who ≡ who) × (is_fault e.call ≡ false)). k.1) (λ (k : beside e.who). absurd (alone.nobody e.who k)) h.0 in
    ap (λ b. cond b (entry e.who e.call ∷ []) [] ++ faults_made es) none ∙ none_among who beside alone es h.1

pub quiet_since : (who : ℕ) (beside : ℕ → Type 0) (old new : List Event) → IsAlone beside → Since who beside old new → MakesNoFaults old new
quiet_since who beside old new alone h =
    ap faults_made h.seen ∙ (faults-append old h.more ∙ (ap (λ l. faults_made old ++ l) (none_among who beside alone h.more h.among) ∙ append-nil (faults_made old)))

-- Events of one user, by their calls

-- the faults among these calls
pub only_faults : List FabricCall → List FabricCall
only_faults [] = []
only_faults (k ∷ ks) = cond (is_fault k) (k ∷ []) [] ++ only_faults ks

own_faults : (who : ℕ) (es : List Event) → AreOwn who es → faults_made es ≡ made_by who (only_faults (calls_of es))
unfolding only_faults
own_faults who [] own = refl
own_faults who (e ∷ es) own = one (is_fault e.call) ∙ ap (λ l. made_by who (cond (is_fault e.call) (e.call ∷ []) []) ++ l) (own_faults who es own.1) ∙ sym (made_by-append who (cond (is_fault e.call) (e.call ∷ []) []) (only_faults (calls_of es)))
  where
    one : (b : Bool) → cond b (entry e.who e.call ∷ []) [] ++ faults_made es ≡ made_by who (cond b (e.call ∷ []) []) ++ faults_made es
    one true = ap (λ n. entry n e.call ∷ faults_made es) own.0
    one false = refl

pub mends_only : (most times : ℕ) (old new more : List Event) → times ≤ most → new ≡ old ++ more → AreOwn 0 more → only_faults (calls_of more) ≡ replicate times (MendMeta 0) → MendsOnly most old new
mends_only most times old new more few seen own is = record {
  times = times;
  few = few;
  made = ap faults_made seen ∙ (faults-append old more ∙ ap (λ l. faults_made old ++ l) (own_faults 0 more own ∙ ap (made_by 0) is));
}

-- the chain was read alone
pub read_none : (calls : List FabricCall) → calls ≡ ReadChain ∷ [] → only_faults calls ≡ replicate 0 (MendMeta 0)
unfolding only_faults
read_none calls is = ap only_faults is

pub mended_once : (calls : List FabricCall) → calls ≡ ReadChain ∷ MendMeta 0 ∷ [] → only_faults calls ≡ replicate 1 (MendMeta 0)
unfolding only_faults
mended_once calls is = ap only_faults is

pub mended_between : (calls : List FabricCall) → calls ≡ ReadChain ∷ MendMeta 0 ∷ ReadChain ∷ [] → only_faults calls ≡ replicate 1 (MendMeta 0)
unfolding only_faults
mended_between calls is = ap only_faults is

-- what stands before closing, and after
pub mends_on : (most : ℕ) (old mid new : List Event) → MendsOnly most old mid → MakesNoFaults mid new → MendsOnly most old new
mends_on most old mid new h quiet = record { times = h.times; few = h.few; made = quiet ∙ h.made }

-- Events of number 0

abbrev IsOf : FabricCall → Type 0
IsOf call = (call ≡ ReadChain) ⊎ (is_fault call ≡ true)

outside_by : (es : List Event) → AreOwn 0 es → AllByRecursion IsOf (calls_of es) → AreOutside es
outside_by [] own all = tt
outside_by (e ∷ es) own all = ((own.0, all.0), outside_by es own.1 all.1)

pub outside_calls : (es : List Event) (calls : List FabricCall) → calls_of es ≡ calls → AllByRecursion IsOf calls → AreOwn 0 es → AreOutside es
outside_calls es calls is all own = outside_by es own (subst (AllByRecursion IsOf) (sym is) all)
