-- Where segments begin: behind all that the log had of the loglets before, and no lower as the chain goes on.
use Rattle.std.proofs.Common.{◌≡◌, sym, ap, ◌∙◌, subst, ⊎_elim, ℕ, ◌+◌, ◌<◌, ◌≤◌, List, [], ◌∷◌, ◌++◌, Some, length, arith, append_assoc}
use Rattle.std.proofs.lemmas.Bool.{cases_lt}
use Rattle.delos_types.specs.declared.chain.Chain.{Chain}
use Rattle.chain_map.specs.Chain.{last_id, last_segment as last_segment_of}
use Rattle.legal_journal.specs.Law.{Law}
use Rattle.legal_journal.specs.declared.events.Event.{Event}
use Rattle.legal_journal.specs.Journal.{State, IsLegal, last_segment, state_of, tail_of}
use Rattle.legal_journal.specs.Laws.{Continues}
use Rattle.legal_journal.proofs.Legal.{goes_on, legal_front, sound}
use Rattle.legal_journal.proofs.Sound.{open_tail, reach_le_end}
use Rattle.legal_journal.proofs.Taken.{took}
use Rattle.journal_laws.specs.Versions.{write}

module _ (law : Law) (old new : List Event) (was : IsLegal law old) (legal : IsLegal law new) (on : Continues (state_of old) (state_of new)) where
  -- a loglet behind the last one of then
  pub begins_high : (i s : ℕ) → (state_of new).starts i ≡ Some s → last_id (state_of old).register.chain < i → tail_of (state_of old) ≤ s
  begins_high i s at low =
      let ok = sound law old was in
      let now = sound law new legal in
      let last = last_segment (state_of old) in
      let o = now.order last.id i last.start s low (on.starts last.id last.start ok.last) at in
      let reach = reach_le_end ((state_of new).cells last.id) o.0 (now.cell last.id) o.1 in
      let far = (on.cell last.id).reach in
      let up = o.2 in
      let tail = open_tail (length law.shelf) (state_of old) ok in
      omega (arith, reach, far, up, tail)

  -- the last segment of a later chain
  pub start_rises : (last_segment (state_of old)).start ≤ (last_segment (state_of new)).start
  start_rises =
      let ok = sound law old was in
      let now = sound law new legal in
      let last = last_segment (state_of old) in
      ⊎_elim
      (λ (low : last.id < (last_segment (state_of new)).id).
      let high = begins_high (last_segment (state_of new)).id (last_segment (state_of new)).start now.last low in
      let tail = open_tail (length law.shelf) (state_of old) ok in
      omega (arith, high, tail))
      (λ (high : (last_segment (state_of new)).id ≤ last.id).
      let up = on.last in
      let same : last.id ≡ (last_segment (state_of new)).id = omega (arith, high, up) in
      let both : Some last.start ≡ Some (last_segment (state_of new)).start = sym (on.starts last.id last.start ok.last) ∙ (ap (state_of new).starts same ∙ now.last) in
      let is : last.start ≡ (last_segment (state_of new)).start = cc in
      omega (arith, is))
      (cases_lt last.id (last_segment (state_of new)).id)

-- of two writes the later one's last segment doesn't begin lower
pub writes_rise : (law : Law) (a b x y v w : ℕ) (c d : Chain) (before between after : List Event) → IsLegal law ((before ++ write a x c v ∷ between) ++ write b y d w ∷ after)
    → (last_segment_of c).start ≤ (last_segment_of d).start
writes_rise law a b x y v w c d before between after legal =
    let e = write a x c v in
    let f = write b y d w in
    let first : List Event = before ++ e ∷ [] in
    let early : List Event = before ++ e ∷ between in
    let wrote : List Event = early ++ f ∷ [] in
    let seen : early ++ f ∷ after ≡ wrote ++ after = sym (append_assoc early (f ∷ []) after) in
    let front = legal_front law wrote after (subst (IsLegal law) seen legal) in
    let split : wrote ≡ first ++ (between ++ f ∷ []) = ap (λ l. l ++ f ∷ []) (sym (append_assoc before (e ∷ []) between)) ∙ append_assoc first between (f ∷ []) in
    let whole = subst (IsLegal law) split front in
    let first_legal = legal_front law first (between ++ f ∷ []) whole in
    let on = subst (λ es. Continues (state_of first) (state_of es)) (sym split) (goes_on law first (between ++ f ∷ []) whole) in
    let one = took law before [] e first first_legal (none before e) in
    let other = took law early [] f wrote front (none early f) in
    let first_is : (last_segment (state_of first)).start ≡ (last_segment_of c).start = ap (λ (s : State). (last_segment s).start) one.now in
    let then_is : (last_segment (state_of wrote)).start ≡ (last_segment_of d).start = ap (λ (s : State). (last_segment s).start) other.now in
    let rise = start_rises law first wrote first_legal front on in
    omega (arith, first_is, then_is, rise)
  where
    none : (es : List Event) (z : Event) → es ++ z ∷ [] ≡ (es ++ []) ++ z ∷ []
    none es z = sym (append_assoc es [] (z ∷ []))
