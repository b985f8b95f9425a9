-- Whose the events of a phase are.
use Rattle.std.proofs.Common.{◌≡◌, refl, sym, ap, ◌∙◌, subst, ◌⊎◌, inl, inr, ⊎_elim, ℕ, zero, suc, ◌+◌, ◌<◌, ◌≤◌, List, [], ◌∷◌, ◌++◌, length, arith, append-nil, append_assoc}
use Rattle.std.specs.Prelude.{Contains, get_or}
use Rattle.std.proofs.lemmas.Bool.{cases_lt}
use Rattle.legal_journal.specs.declared.events.Event.{Event}
use Rattle.turn_scopes.specs.Alone.{AreOwn, OwnSince}
use Rattle.script_text.specs.declared.asks.NamedLine.{NamedLine}
use Rattle.script_text.specs.declared.faults.FaultLine.{FaultLine}
use Rattle.run_laws.proofs.Members.{Among, contained-among, contains-among}
use Rattle.node_course.specs.FaultLines.{HasLineIn, HasPartIn, IsOutside}
use Rattle.node_course.specs.Script.{BeginsAt}
use Rattle.node_crew.specs.Turns.{HasOne}
use Rattle.node_crew.specs.Crews.{AreAtWork, AreOfPhases, SealsOfNodes}
use Rattle.node_crew.proofs.Playing.{phase_is}

-- Elements

module _ {A : Type 0} where
  pub get_within : (xs : List A) (p : ℕ) (d e : A) → p < length xs → get_or xs p d ≡ get_or xs p e
  get_within [] p d e low = absurd (omega (arith, low))
  get_within (x ∷ xs) zero d e low = refl
  get_within (x ∷ xs) (suc p) d e low = get_within xs p d e (omega (arith, low))

  pub get_beyond : (xs : List A) (p : ℕ) (d : A) → length xs ≤ p → get_or xs p d ≡ d
  get_beyond [] p d high = refl
  get_beyond (x ∷ xs) zero d high = absurd (omega (arith, high))
  get_beyond (x ∷ xs) (suc p) d high = get_beyond xs p d (omega (arith, high))

  pub get_pushed : (xs : List A) (p : ℕ) (d : A) → get_or (xs ++ d ∷ []) p d ≡ get_or xs p d
  get_pushed [] zero d = refl
  get_pushed [] (suc p) d = refl
  get_pushed (x ∷ xs) zero d = refl
  get_pushed (x ∷ xs) (suc p) d = get_pushed xs p d

  pub among_parts : (xs ys : List A) (x : A) → Among (xs ++ ys) x → Among xs x ⊎ Among ys x
  among_parts [] ys x m = inr m
  among_parts (z ∷ xs) ys x (inl same) = inl (inl same)
  among_parts (z ∷ xs) ys x (inr later) = ⊎_elim (λ (h : Among xs x). inl (inr h)) (λ (h : Among ys x). inr h) (among_parts xs ys x later)

-- the events of one node are all its own
pub own_who : (who : ℕ) (es : List Event) (e : Event) → AreOwn who es → Among es e → e.who ≡ who
own_who who [] e own m = absurd m
own_who who (x ∷ es) e own (inl same) = ap (λ (y : Event). y.who) (sym same) ∙ own.0
own_who who (x ∷ es) e own (inr later) = own_who who es e own.1 later

-- Phases

-- nothing happened
pub at_work_none : (lines : List NamedLine) (faults : List FaultLine) (phase : ℕ) (journal : List Event) → AreAtWork lines faults phase journal journal
at_work_none lines faults phase journal = record { more = []; seen = sym (append-nil journal); each = λ e has. absurd (contained-among [] e has) }

-- a line from `from` up to `to` is of the phase whose lines those are
pub has_line_in : (lines : List NamedLine) (from to phase n : ℕ) → BeginsAt lines from phase → BeginsAt lines to (phase + 1) → HasOne lines from to n → HasLineIn lines phase n
has_line_in lines from to phase n starts ends one = record {
  at = one.at;
  line = one.line;
  is = one.is;
  phase_is = phase_is lines from to one.at phase one.line starts ends one.behind one.within one.is;
  node_is = one.node;
}

-- Moments

-- what came of a phase that is over stays so
pub worked_before : (lines : List NamedLine) (faults : List FaultLine) (phase : ℕ) (begins : List (List Event)) (journal journal' : List Event) (p : ℕ) → length begins ≡ phase + 1 → p + 1 ≤ phase
    → AreAtWork lines faults p (get_or begins p journal) (get_or begins (p + 1) journal) → AreAtWork lines faults p (get_or begins p journal') (get_or begins (p + 1) journal')
worked_before lines faults phase begins journal journal' p long over h =
    subst (λ j. AreAtWork lines faults p j (get_or begins (p + 1) journal')) (get_within begins p journal journal' (omega (arith, long, over)))
    (subst (AreAtWork lines faults p (get_or begins p journal)) (get_within begins (p + 1) journal journal' (omega (arith, long, over))) h)

-- The present phase goes on, by events of number 0, and of nodes with a part in it.
module _ (lines : List NamedLine) (faults : List FaultLine) (phase : ℕ) (begins : List (List Event)) (journal later whole : List Event) (long : length begins ≡ phase + 1) (seen : whole ≡ journal ++ later)
    (each : (e : Event) → Contains later e → IsOutside e ⊎ HasPartIn lines faults phase e.who) where
  works_now : AreAtWork lines faults phase (get_or begins phase journal) (get_or begins (phase + 1) journal) → AreAtWork lines faults phase (get_or begins phase whole) (get_or begins (phase + 1) whole)
  works_now a =
      let first : get_or begins phase journal ≡ get_or begins phase whole = get_within begins phase journal whole (omega (arith, long)) in
      let was : get_or begins (phase + 1) journal ≡ journal = get_beyond begins (phase + 1) journal (omega (arith, long)) in
      let last : get_or begins (phase + 1) whole ≡ whole = get_beyond begins (phase + 1) whole (omega (arith, long)) in
      record {
        more = a.more ++ later;
        seen = last ∙ (seen ∙ (ap (λ es. es ++ later) (sym was ∙ a.seen) ∙ (append_assoc (get_or begins phase journal) a.more later ∙ ap (λ es. es ++ (a.more ++ later)) first)));
        each = λ e has. ⊎_elim
            (λ (old : Among a.more e). a.each e (contains-among a.more e old))
            (λ (new : Among later e). each e (contains-among later e new))
            (among_parts a.more later e (contained-among (a.more ++ later) e has));
      }

  -- so it is of all phases then
  pub worked_on : AreOfPhases lines faults phase begins journal → AreOfPhases lines faults phase begins whole
  worked_on h = λ i l get low. ⊎_elim
      (λ (early : l.phase < phase). worked_before lines faults phase begins journal whole l.phase long (omega (arith, early)) (h i l get low))
      (λ (late : phase ≤ l.phase).
      let same : phase ≡ l.phase = omega (arith, low, late) in
      subst (λ p. AreAtWork lines faults p (get_or begins p whole) (get_or begins (p + 1) whole)) same
      (works_now (subst (λ p. AreAtWork lines faults p (get_or begins p journal) (get_or begins (p + 1) journal)) (sym same) (h i l get low))))
      (cases_lt l.phase phase)

-- Seals

pub seals_more : (nodes n : ℕ) (old new : List Event) → 1 ≤ n → n ≤ nodes → OwnSince n old new → SealsOfNodes nodes old → SealsOfNodes nodes new
seals_more nodes n old new least most since h = λ e has is. ⊎_elim
    (λ (was : Among old e). h e (contains-among old e was) is)
    (λ (now : Among since.more e). let same = own_who n since.more e since.own now in (omega (arith, same, least), omega (arith, same, most)))
    (among_parts old since.more e (contained-among (old ++ since.more) e (subst (λ es. Contains es e) since.seen has)))
