-- From phase to phase.
use Rattle.std.proofs.Common.{◌≡◌, refl, sym, ap, ◌∙◌, inl, ⊎_elim, ℕ, zero, suc, ◌+◌, ◌-◌, ◌<◌, ◌≤◌, List, [], ◌∷◌, ◌++◌, Some, length, append-nil, append_assoc, arith}
use Rattle.std.specs.Prelude.{slice_get}
use Rattle.std.proofs.lemmas.Bool.{cases_lt}
use Rattle.std.proofs.lemmas.Option.{slice_get_within}
use Rattle.legal_journal.specs.Law.{Law}
use Rattle.legal_journal.specs.declared.events.FabricCall.{FabricCall}
use Rattle.legal_journal.specs.declared.events.Event.{Event}
use Rattle.legal_journal.specs.FaultCalls.{faults_made, made_by}
use Rattle.script_text.specs.declared.asks.NamedLine.{NamedLine}
use Rattle.script_text.specs.declared.faults.FaultLine.{FaultLine}
use Rattle.run_laws.proofs.Members.{Among, all-at, contained-among, contains-among}
use Rattle.node_course.specs.Script.{AreLines, BeginsAt}
use Rattle.node_course.specs.FaultLines.{AreFaultLines, FaultsBeginAt, HaveActed, IsOutside, acts_before, calls_in, strays_in}
use Rattle.node_course.proofs.Lines.{phase_before}
use Rattle.node_crew.proofs.Working.{among_parts}
use Rattle.node_threads.specs.Outset.{GoesOutside, NameParts}
use Rattle.node_threads.specs.Phases.{EndsFaults, EndsPhase, IsNextPhase, WentOn}
use Rattle.node_threads.specs.Stirring.{ActsInPhase}
use Rattle.node_threads.proofs.Faults.{acts_idle, calls_are_faults, faults_append, made_append}
use Rattle.node_threads.proofs.Beginning.{made_faults}

some_of : {A : Type 0} (xs : List A) (i : ℕ) → i < length xs → (x : A) × (slice_get xs i ≡ Some x)
some_of [] i low = absurd (omega arith)
some_of (x ∷ xs) zero low = (x, refl)
some_of (x ∷ xs) (suc i) low = some_of xs i (omega arith)

some_is : {A : Type 0} (x y : A) → Some x ≡ Some y → x ≡ y
some_is x y e = cc

not_below : (n m : ℕ) → n ≡ m → n < m → ⊥
not_below n m e h = absurd (omega (arith, e, h))

pub names_parts : (lines : List NamedLine) (faults : List FaultLine) (shelf : List ℕ) (nodes : ℕ) → AreFaultLines lines faults shelf nodes → NameParts shelf faults
names_parts lines faults shelf nodes are = record { nodes = nodes; few = are.few; there = are.there }

-- The lines of the next phase begin where those of the phase before end.
pub lines_come : (lines : List NamedLine) (home : ℕ → ℕ) (nodes from p q : ℕ) → AreLines lines home nodes → BeginsAt lines from p → p ≤ q → ((l : NamedLine) → slice_get lines from ≡ Some l → q ≤ l.phase) → BeginsAt lines from q
lines_come lines home nodes from p q are b up first = record {
  before = λ i l at low. let h = b.before i l at low in omega (arith, h, up);
  behind = λ i l at high.
      let inside = slice_get_within lines i l at in
      let one = some_of lines from (omega (arith, inside, high)) in
      let rise = phase_before lines home nodes are from i one.0 l one.1 at high in
      let low = first one.0 one.1 in
      omega (arith, rise, low);
}

module _ (lines : List NamedLine) (faults : List FaultLine) (shelf : List ℕ) (nodes : ℕ) (are : AreFaultLines lines faults shelf nodes) where
  rises : (i j : ℕ) (f g : FaultLine) → slice_get faults i ≡ Some f → slice_get faults j ≡ Some g → i ≤ j → f.phase ≤ g.phase
  rises i j f g here there up = ⊎_elim
      (λ (less : i < j). (are.rise i j f g here there less).0)
      (λ (more : j ≤ i).
      let same : i ≡ j = omega (arith, up, more) in
      let one : f ≡ g = some_is f g (sym here ∙ (ap (slice_get faults) same ∙ there)) in
      let e = ap (λ (x : FaultLine). x.phase) one in omega (arith, e))
      (cases_lt i j)

  pub faults_come : (next p q : ℕ) → FaultsBeginAt faults next p → p ≤ q → ((f : FaultLine) → slice_get faults next ≡ Some f → q ≤ f.phase) → FaultsBeginAt faults next q
  faults_come next p q b up first = record {
    before = λ i f at low. let h = b.before i f at low in omega (arith, h, up);
    behind = λ i f at high.
        let inside = slice_get_within faults i f at in
        let one = some_of faults next (omega (arith, inside, high)) in
        let rise = rises next i one.0 f one.1 at high in
        let low = first one.0 one.1 in
        omega (arith, rise, low);
  }

  pub faults_end : (next until phase : ℕ) → FaultsBeginAt faults next phase → EndsFaults faults next until phase → FaultsBeginAt faults until (phase + 1)
  faults_end next until phase b e = record {
    before = λ i f at low. ⊎_elim
        (λ (early : i < next). let h = b.before i f at early in omega (arith, h))
        (λ (late : next ≤ i). let h = e.inside i f late low at in omega (arith, h))
        (cases_lt i next);
    behind = λ i f at high.
        let inside = slice_get_within faults i f at in
        let one = some_of faults until (omega (arith, inside, high)) in
        let rise = rises until i one.0 f one.1 at high in
        let above = e.behind one.0 one.1 in
        omega (arith, rise, above);
  }

-- the next phase is none that is over
pub phase_up : (lines : List NamedLine) (from : ℕ) (faults : List FaultLine) (next p q : ℕ) → BeginsAt lines from p → FaultsBeginAt faults next p → IsNextPhase lines from faults next q → p ≤ q
phase_up lines from faults next p q b f n = ⊎_elim
    (λ (x : (l : NamedLine) × (slice_get lines from ≡ Some l) × (l.phase ≡ q)). let h = b.behind from x.0 x.1 (omega arith) in let e = x.2 in omega (arith, h, e))
    (λ (x : (l : FaultLine) × (slice_get faults next ≡ Some l) × (l.phase ≡ q)). let h = f.behind next x.0 x.1 (omega arith) in let e = x.2 in omega (arith, h, e))
    n.one

-- at least one of both goes on
pub goes_further : (lines : List NamedLine) (from to : ℕ) (faults : List FaultLine) (next until phase : ℕ) → from ≤ to → next ≤ until → IsNextPhase lines from faults next phase → EndsPhase lines from to phase → EndsFaults faults next until phase → from + next < to + until
goes_further lines from to faults next until phase up more n e f = ⊎_elim
    (λ (x : (l : NamedLine) × (slice_get lines from ≡ Some l) × (l.phase ≡ phase)). ⊎_elim
    (λ (less : from < to). omega (arith, less, more))
    (λ (back : to ≤ from).
    let same : from ≡ to = omega (arith, up, back) in
    absurd (not_below phase x.0.phase (sym x.2) (e.next x.0 (ap (slice_get lines) (sym same) ∙ x.1))))
    (cases_lt from to))
    (λ (x : (l : FaultLine) × (slice_get faults next ≡ Some l) × (l.phase ≡ phase)). ⊎_elim
    (λ (less : next < until). omega (arith, less, up))
    (λ (back : until ≤ next).
    let same : next ≡ until = omega (arith, more, back) in
    absurd (not_below phase x.0.phase (sym x.2) (f.behind x.0 (ap (slice_get faults) (sym same) ∙ x.1))))
    (cases_lt next until))
    n.one

-- What was broken and mended

acts_made : (phase : ℕ) (faults : List FaultLine) (strays : List FabricCall) (old new : List Event) → ActsInPhase (calls_in phase faults) strays old new → faults_made new ≡ faults_made old ++ made_by 0 (calls_in phase faults ++ strays)
acts_made phase faults strays old new a =
    let b = a.begins in
    let w = a.beside in
    ap faults_made w.seen
    ∙ (faults_append a.between w.more
    ∙ (ap (λ l. l ++ faults_made w.more) (ap faults_made b.seen ∙ faults_append old b.more)
    ∙ (append_assoc (faults_made old) (faults_made b.more) (faults_made w.more)
    ∙ (ap (λ l. faults_made old ++ (l ++ faults_made w.more)) (made_faults (calls_in phase faults) b.more (calls_are_faults phase faults) b.own b.calls_are)
    ∙ (ap (λ l. faults_made old ++ (made_by 0 (calls_in phase faults) ++ l)) w.made
    ∙ ap (λ l. faults_made old ++ l) (sym (made_append 0 (calls_in phase faults) strays)))))))

pub acts_more : (cells : ℕ) (faults : List FaultLine) (next p q : ℕ) (old new : List Event) → p ≤ q → FaultsBeginAt faults next p → FaultsBeginAt faults next q → faults_made old ≡ made_by 0 (acts_before cells faults p)
    → ActsInPhase (calls_in q faults) (strays_in cells q faults) old new → faults_made new ≡ made_by 0 (acts_before cells faults (q + 1))
acts_more cells faults next p q old new up b e was a =
    let d : q ≡ (q - p) + p = omega (arith, up) in
    let idle : acts_before cells faults p ≡ acts_before cells faults q = sym (acts_idle cells faults next p (q - p) q d b e) in
    let one : suc q ≡ q + 1 = omega arith in
    acts_made q faults (strays_in cells q faults) old new a
    ∙ (ap (λ l. l ++ made_by 0 (calls_in q faults ++ strays_in cells q faults)) (was ∙ ap (made_by 0) idle)
    ∙ (sym (made_append 0 (acts_before cells faults q) (calls_in q faults ++ strays_in cells q faults))
    ∙ ap (λ k. made_by 0 (acts_before cells faults k)) one))

pub have_acted : (cells : ℕ) (faults : List FaultLine) (next phase : ℕ) (journal : List Event) → length faults ≤ next → FaultsBeginAt faults next phase → faults_made journal ≡ made_by 0 (acts_before cells faults phase) → HaveActed cells faults 0 journal
have_acted cells faults next phase journal over b made = record {
  phases = phase;
  all = λ i f at. let inside = slice_get_within faults i f at in b.before i f at (omega (arith, inside, over));
  made = made ∙ ap (made_by 0) (sym (append-nil (acts_before cells faults phase)));
}

-- Whose events they are

pub went_outside : (law : Law) (lines : List NamedLine) (faults : List FaultLine) (phase nodes : ℕ) (a b : List Event) → GoesOutside law a b → WentOn lines faults phase nodes a b
went_outside law lines faults phase nodes a b h = record { later = h.more; is = h.seen; each = λ e has. inl (all-at IsOutside h.more e h.outside (contained-among h.more e has)) }

pub went_both : (lines : List NamedLine) (faults : List FaultLine) (phase nodes : ℕ) (a b c : List Event) → WentOn lines faults phase nodes a b → WentOn lines faults phase nodes b c → WentOn lines faults phase nodes a c
went_both lines faults phase nodes a b c h k = record {
  later = h.later ++ k.later;
  is = k.is ∙ (ap (λ l. l ++ k.later) h.is ∙ append_assoc a h.later k.later);
  each = λ e has. ⊎_elim
      (λ (then : Among h.later e). h.each e (contains-among h.later e then))
      (λ (since : Among k.later e). k.each e (contains-among k.later e since))
      (among_parts h.later k.later e (contained-among (h.later ++ k.later) e has));
}
