-- What fault lines ask for, line by line and phase by phase.
use Rattle.std.proofs.Common.{◌≡◌, ◌≢◌, refl, sym, ap, ◌∙◌, ⊎_elim, ℕ, zero, suc, ◌+◌, ◌<◌, ◌≤◌, Bool, true, false, cond, List, [], ◌∷◌, ◌++◌, Some, drop, append-nil, append_assoc, arith, eq-eqb, ne_eqb}
use Rattle.std.specs.Prelude.{◌==◌, slice_get}
use Rattle.std.specs.List.{AllByRecursion}
use Rattle.std.proofs.lemmas.Bool.{cases_lt}
use Rattle.std.proofs.lemmas.List.{map-append}
use Rattle.legal_journal.specs.declared.events.FabricCall.{FabricCall}
use Rattle.legal_journal.specs.declared.events.Event.{Event}
use Rattle.legal_journal.specs.FaultCalls.{is_fault, faults_made, made_by}
use Rattle.script_text.specs.declared.faults.FaultAsk.{FaultAsk}
use Rattle.script_text.specs.declared.faults.FaultAsk.TheVariants.{Stop, Break, BreakMeta, Mend, MendMeta, Stir}
use Rattle.script_text.specs.declared.faults.FaultLine.{FaultLine}
use Rattle.node_course.specs.FaultLines.{AreOfPhase, FaultsBeginAt, NamesThere, acts_before, call_by, calls_in, strays_from, strays_in, turns_by, turns_in}
use Rattle.node_threads.specs.Outset.{CanBegin, NameParts}

some_is : {A : Type 0} (x y : A) → Some x ≡ Some y → x ≡ y
some_is x y e = cc

drop_one : {A : Type 0} (xs : List A) (i : ℕ) (x : A) → slice_get xs i ≡ Some x → drop i xs ≡ x ∷ drop (suc i) xs
drop_one [] i x at = absurd (cc)
drop_one (y ∷ ys) zero x at = ap (λ z. z ∷ ys) (some_is y x at)
drop_one (y ∷ ys) (suc i) x at = drop_one ys i x at

get_drop : {A : Type 0} (d : ℕ) (xs : List A) (k : ℕ) → slice_get (drop d xs) k ≡ slice_get xs (d + k)
get_drop zero xs k = let e : k ≡ 0 + k = omega arith in ap (slice_get xs) e
get_drop (suc d) [] k = refl
get_drop (suc d) (x ∷ xs) k = let e : suc (d + k) ≡ suc d + k = omega arith in get_drop d xs k ∙ ap (slice_get (x ∷ xs)) e

-- A line of another phase, and one of the phase

calls_other : (phase : ℕ) (f : FaultLine) (fs : List FaultLine) → f.phase ≢ phase → calls_in phase (f ∷ fs) ≡ calls_in phase fs
calls_other phase f fs ne = ap (λ b. cond b (call_by f.number f.asks) [] ++ calls_in phase fs) (ne_eqb f.phase phase ne)

calls_same : (phase : ℕ) (f : FaultLine) (fs : List FaultLine) → f.phase ≡ phase → calls_in phase (f ∷ fs) ≡ call_by f.number f.asks ++ calls_in phase fs
calls_same phase f fs is = ap (λ b. cond b (call_by f.number f.asks) [] ++ calls_in phase fs) (eq-eqb f.phase phase is)

turns_other : (phase : ℕ) (f : FaultLine) (fs : List FaultLine) → f.phase ≢ phase → turns_in phase (f ∷ fs) ≡ turns_in phase fs
turns_other phase f fs ne = let none : 0 + turns_in phase fs ≡ turns_in phase fs = omega arith in ap (λ b. cond b (turns_by f.asks) 0 + turns_in phase fs) (ne_eqb f.phase phase ne) ∙ none

turns_same : (phase : ℕ) (f : FaultLine) (fs : List FaultLine) → f.phase ≡ phase → turns_in phase (f ∷ fs) ≡ turns_by f.asks + turns_in phase fs
turns_same phase f fs is = ap (λ b. cond b (turns_by f.asks) 0 + turns_in phase fs) (eq-eqb f.phase phase is)

-- Lines of other phases alone

abbrev NoneOf : ℕ → List FaultLine → Type 0
NoneOf phase fs = (i : ℕ) (f : FaultLine) → slice_get fs i ≡ Some f → f.phase ≢ phase

calls_none : (phase : ℕ) (fs : List FaultLine) → NoneOf phase fs → calls_in phase fs ≡ []
calls_none phase [] h = refl
calls_none phase (f ∷ fs) h = calls_other phase f fs (h 0 f refl) ∙ calls_none phase fs (λ i g at. h (suc i) g at)

turns_none : (phase : ℕ) (fs : List FaultLine) → NoneOf phase fs → turns_in phase fs ≡ 0
turns_none phase [] h = refl
turns_none phase (f ∷ fs) h = turns_other phase f fs (h 0 f refl) ∙ turns_none phase fs (λ i g at. h (suc i) g at)

calls_from : (phase n : ℕ) (fs : List FaultLine) → ((i : ℕ) (f : FaultLine) → slice_get fs i ≡ Some f → i < n → f.phase ≢ phase) → calls_in phase (drop n fs) ≡ calls_in phase fs
calls_from phase zero fs h = refl
calls_from phase (suc n) [] h = refl
calls_from phase (suc n) (f ∷ fs) h = calls_from phase n fs (λ i g at low. h (suc i) g at (omega (arith, low))) ∙ sym (calls_other phase f fs (h 0 f refl (omega arith)))

turns_from : (phase n : ℕ) (fs : List FaultLine) → ((i : ℕ) (f : FaultLine) → slice_get fs i ≡ Some f → i < n → f.phase ≢ phase) → turns_in phase (drop n fs) ≡ turns_in phase fs
turns_from phase zero fs h = refl
turns_from phase (suc n) [] h = refl
turns_from phase (suc n) (f ∷ fs) h = turns_from phase n fs (λ i g at low. h (suc i) g at (omega (arith, low))) ∙ sym (turns_other phase f fs (h 0 f refl (omega arith)))

-- The lines of a phase are those from `from` up to `to`
module _ (faults : List FaultLine) (phase from to : ℕ) (a : AreOfPhase faults phase from to) where
  earlier : (i : ℕ) (f : FaultLine) → slice_get faults i ≡ Some f → i < from → f.phase ≢ phase
  earlier i f at low is = let h = a.begins.before i f at low in omega (arith, h, is)

  later : NoneOf phase (drop to faults)
  later i f at is = let h = a.ends.behind (to + i) f (sym (get_drop to faults i) ∙ at) (omega arith) in omega (arith, h, is)

  inside : (i : ℕ) (f : FaultLine) → slice_get faults i ≡ Some f → from ≤ i → i < to → f.phase ≡ phase
  inside i f at low high = let h = a.begins.behind i f at low in let k = a.ends.before i f at high in omega (arith, h, k)

  pub calls_begin : calls_in phase (drop from faults) ≡ calls_in phase faults
  calls_begin = calls_from phase from faults earlier

  pub calls_next : (i : ℕ) (f : FaultLine) → slice_get faults i ≡ Some f → from ≤ i → i < to → calls_in phase (drop i faults) ≡ call_by f.number f.asks ++ calls_in phase (drop (suc i) faults)
  calls_next i f at low high = ap (calls_in phase) (drop_one faults i f at) ∙ calls_same phase f (drop (suc i) faults) (inside i f at low high)

  pub calls_end : calls_in phase (drop to faults) ≡ []
  calls_end = calls_none phase (drop to faults) later

  pub turns_begin : turns_in phase (drop from faults) ≡ turns_in phase faults
  turns_begin = turns_from phase from faults earlier

  pub turns_next : (i : ℕ) (f : FaultLine) → slice_get faults i ≡ Some f → from ≤ i → i < to → turns_in phase (drop i faults) ≡ turns_by f.asks + turns_in phase (drop (suc i) faults)
  turns_next i f at low high = ap (turns_in phase) (drop_one faults i f at) ∙ turns_same phase f (drop (suc i) faults) (inside i f at low high)

  pub turns_end : turns_in phase (drop to faults) ≡ 0
  turns_end = turns_none phase (drop to faults) later

-- What a line asks for is there

can_begin : (shelf : List ℕ) (nodes number : ℕ) (ask : FaultAsk) → NamesThere shelf nodes ask → CanBegin shelf (call_by number ask)
can_begin shelf nodes number (Stop node after) h = tt
can_begin shelf nodes number (Break cell server after) h = (h, tt)
can_begin shelf nodes number (BreakMeta after) h = (tt, tt)
can_begin shelf nodes number (Mend cell server) h = (h, tt)
can_begin shelf nodes number MendMeta h = (tt, tt)
can_begin shelf nodes number (Stir turns) h = tt

pub line_begins : (shelf : List ℕ) (faults : List FaultLine) (i : ℕ) (f : FaultLine) → NameParts shelf faults → slice_get faults i ≡ Some f → CanBegin shelf (call_by f.number f.asks)
line_begins shelf faults i f parts at = can_begin shelf parts.nodes f.number f.asks (parts.there i f at)

few_of : (shelf : List ℕ) (nodes : ℕ) (ask : FaultAsk) → NamesThere shelf nodes ask → turns_by ask ≤ 1000000
few_of shelf nodes (Stop node after) h = omega arith
few_of shelf nodes (Break cell server after) h = omega arith
few_of shelf nodes (BreakMeta after) h = omega arith
few_of shelf nodes (Mend cell server) h = omega arith
few_of shelf nodes MendMeta h = omega arith
few_of shelf nodes (Stir turns) h = h

pub few_turns : (shelf : List ℕ) (faults : List FaultLine) → NameParts shelf faults → (i : ℕ) (f : FaultLine) → slice_get faults i ≡ Some f → turns_by f.asks ≤ 1000000
few_turns shelf faults parts i f at = few_of shelf parts.nodes f.asks (parts.there i f at)

-- All that is made by fault lines is a fault

abbrev pub AreFaults : List FabricCall → Type 0
AreFaults calls = AllByRecursion (λ call. is_fault call ≡ true) calls

faults_join : (xs ys : List FabricCall) → AreFaults xs → AreFaults ys → AreFaults (xs ++ ys)
faults_join [] ys h k = k
faults_join (x ∷ xs) ys h k = (h.0, faults_join xs ys h.1 k)

pub by_fault : (number : ℕ) (ask : FaultAsk) → AreFaults (call_by number ask)
by_fault number (Stop node after) = tt
by_fault number (Break cell server after) = (refl, tt)
by_fault number (BreakMeta after) = (refl, tt)
by_fault number (Mend cell server) = (refl, tt)
by_fault number MendMeta = (refl, tt)
by_fault number (Stir turns) = tt

by_cond : (b : Bool) (calls : List FabricCall) → AreFaults calls → AreFaults (cond b calls [])
by_cond true calls h = h
by_cond false calls h = tt

pub calls_are_faults : (phase : ℕ) (fs : List FaultLine) → AreFaults (calls_in phase fs)
calls_are_faults phase [] = tt
calls_are_faults phase (f ∷ fs) = faults_join (cond (f.phase == phase) (call_by f.number f.asks) []) (calls_in phase fs) (by_cond (f.phase == phase) (call_by f.number f.asks) (by_fault f.number f.asks)) (calls_are_faults phase fs)

-- Phases without fault lines

-- the lines of both phases begin at the same place: no phase from the one up to the other has any
pub acts_idle : (cells : ℕ) (faults : List FaultLine) (next p d q : ℕ) → q ≡ d + p → FaultsBeginAt faults next p → FaultsBeginAt faults next q → acts_before cells faults q ≡ acts_before cells faults p
acts_idle cells faults next p zero q is b e = let same : q ≡ p = omega (arith, is) in ap (acts_before cells faults) same
acts_idle cells faults next p (suc d) q is b e =
    let one : q ≡ suc (d + p) = omega (arith, is) in
    let mid : FaultsBeginAt faults next (d + p) = record {
      before = λ i f at low. let h = b.before i f at low in omega (arith, h);
      behind = λ i f at high. let h = e.behind i f at high in omega (arith, h, is);
    } in
    let none : NoneOf (d + p) faults = λ i f at same. ⊎_elim
    (λ (low : i < next). let h = b.before i f at low in omega (arith, h, same))
    (λ (high : next ≤ i). let h = e.behind i f at high in omega (arith, h, same, is))
    (cases_lt i next) in
    ap (acts_before cells faults) one
    ∙ (ap (λ cs. acts_before cells faults (d + p) ++ (cs ++ strays_in cells (d + p) faults)) (calls_none (d + p) faults none)
    ∙ (ap (λ n. acts_before cells faults (d + p) ++ strays_from cells 0 n) (turns_none (d + p) faults none)
    ∙ (append-nil (acts_before cells faults (d + p)) ∙ acts_idle cells faults next p d (d + p) refl b mid)))

-- Journals

pub faults_append : (xs ys : List Event) → faults_made (xs ++ ys) ≡ faults_made xs ++ faults_made ys
faults_append [] ys = refl
faults_append (x ∷ xs) ys =
    ap (λ l. cond (is_fault x.call) ((x.who, x.call) ∷ []) [] ++ l) (faults_append xs ys)
    ∙ sym (append_assoc (cond (is_fault x.call) ((x.who, x.call) ∷ []) []) (faults_made xs) (faults_made ys))

pub made_append : (who : ℕ) (xs ys : List FabricCall) → made_by who (xs ++ ys) ≡ made_by who xs ++ made_by who ys
made_append who xs ys = map-append (λ call. (who, call)) xs ys
