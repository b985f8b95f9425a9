-- Each loglet below the last one of a chain was sealed.
use Rattle.std.proofs.Common.{◌≡◌, refl, sym, ap, ◌∙◌, subst, inl, inr, ⊎_elim, ℕ, zero, suc, ◌+◌, ◌<◌, ◌≤◌, Bool, true, false, cond, List, [], ◌∷◌, length, Option, Some, None, arith}
use Rattle.std.specs.Prelude.{count_by, Contains}
use Rattle.std.specs.List.{cons_option}
use Rattle.std.proofs.lemmas.Bool.{cases_lt}
use Rattle.std.proofs.lemmas.Bool.Decides.{nat_tests}
use Rattle.std.proofs.lemmas.List.Elements.{Contains-append_left, Contains-append_right, Contains-push}
use Rattle.std.proofs.lemmas.List.Sums.{sum_by-cons}
use Rattle.delos_types.specs.declared.chain.Segment.{Segment}
use Rattle.delos_types.specs.declared.chain.Chain.{Chain}
use Rattle.chain_map.specs.Chain.{last_id, last_of_segments}
use Rattle.chain_map.specs.Step.{extended_segments}
use Rattle.loglet_api.specs.declared.call.Op.TheVariants.{Seal}
use Rattle.legal_journal.specs.Law.{Law}
use Rattle.legal_journal.specs.declared.events.Event.{Event}
use Rattle.legal_journal.specs.declared.events.FabricCall.{FabricCall}
use Rattle.legal_journal.specs.declared.events.FabricCall.TheVariants.{Begin}
use Rattle.legal_journal.specs.Moves.{RegisterMove, Gives, Conflicts, Writes, Faults, Fails, Mends, Move, OnCell, OnRegister, Nothing, Never, move}
use Rattle.legal_journal.specs.Journal.{State, register_after, after, after_all, state_of, start, ends, IsCurrent, MayFollow, RegisterAllowed, IsAllowed, IsLegalFrom, IsLegal}
use Rattle.legal_journal.specs.Sealing.{is_seal, is_seal_on, begins_seal, begins_seal_on}
use Rattle.legal_journal.proofs.Cells.{put_cases}
use Rattle.legal_journal.proofs.Log.{last_of_segments-extended_segments, rest_of}
use Rattle.legal_journal.proofs.Sound.{StateOk, step_ok}
use Rattle.legal_journal.proofs.Legal.{sound, start_ok}
use Rattle.journal_laws.proofs.Sealed.{seals_after}
use Rattle.journal_laws.proofs.Asked.{tail_asked}
use Rattle.journal_laws.specs.Seals.{seal_of, seals_in}
use Rattle.journal_laws.proofs.Counting.{as_long}

-- The list of Seals

-- how an event counts
abbrev one_if : Bool → ℕ
one_if b = cond b 1 0

abbrev weight : Option ℕ → ℕ
weight None = 0
weight (Some i) = 1

listed-length : (o : Option ℕ) (xs : List ℕ) → length (cons_option o xs) ≡ weight o + length xs
listed-length None xs = omega arith
listed-length (Some i) xs = omega arith

is_one : (c : FabricCall) → weight (seal_of c) ≡ one_if (is_seal c)
is_one (Begin i Seal) = refl
is_one c = refl

-- it has one element for each
pub one_each : (es : List Event) → length (seals_in es) ≡ count_by begins_seal es
one_each [] = refl
one_each (e ∷ es) = omega (arith, listed-length (seal_of e.call) (seals_in es), is_one e.call, sum_by-cons (λ (x : Event). cond (begins_seal x) 1 0) e es, one_each es)

in_it : (i : ℕ) (c : FabricCall) → is_seal_on i c ≡ true → seal_of c ≡ Some i
in_it i (Begin j Seal) is = let same : j ≡ i = grind (arith, nat_tests) in ap (λ (k : ℕ). Some k) same
in_it i c is = absurd (cc)

later : (o : Option ℕ) (xs : List ℕ) (i : ℕ) → Contains xs i → Contains (cons_option o xs) i
later None xs i h = h
later (Some j) xs i h = Contains-append_right (j ∷ []) xs i h

-- a loglet on which one was begun is in it
listed : (i : ℕ) (es : List Event) → 0 < count_by (begins_seal_on i) es → Contains (seals_in es) i
listed i [] h = absurd (omega (arith, h))
listed i (e ∷ es) h = by (is_seal_on i e.call) refl (λ k. listed i es k)
  where
    counted : count_by (begins_seal_on i) (e ∷ es) ≡ one_if (is_seal_on i e.call) + count_by (begins_seal_on i) es
    counted = sum_by-cons (λ (x : Event). cond (begins_seal_on i x) 1 0) e es

    by : (b : Bool) → is_seal_on i e.call ≡ b → (0 < count_by (begins_seal_on i) es → Contains (seals_in es) i) → Contains (seals_in (e ∷ es)) i
    by true is rest = subst (λ (o : Option ℕ). Contains (cons_option o (seals_in es)) i) (sym (in_it i e.call is)) (Contains-append_left (i ∷ []) (seals_in es) i (Contains-push [] i))
    by false is rest = let none : one_if (is_seal_on i e.call) ≡ 0 = ap one_if is in later (seal_of e.call) (seals_in es) i (rest (omega (arith, h, counted, none)))

-- The chain

-- each loglet up to the chain's last one had its segment start somewhere
abbrev HasStarts : State → Type 0
HasStarts w = (i : ℕ) → i ≤ last_id w.register.chain → (s : ℕ) × (w.starts i ≡ Some s)

module _ (law : Law) (w : State) (ok : StateOk (length law.shelf) w) where
  by_extended : (ss : List Segment) (at : ℕ) → ss ≡ extended_segments w.register.chain.segments at → (last_of_segments ss).id ≤ last_id w.register.chain + 1
  by_extended ss at is =
      let last : (last_of_segments ss).id ≡ last_id w.register.chain + 1 = ap (λ (xs : List Segment). (last_of_segments xs).id) is ∙ ap (λ (s : Segment). s.id) (last_of_segments-extended_segments (ends w.cells) ok.id ok.from w.register.chain.segments at ok.joined) in
      omega (arith, last)

  by_kept : (c : Chain) (n : ℕ) → (last_of_segments c.segments).id ≡ last_id w.register.chain → last_id c ≤ last_id w.register.chain + 1
  by_kept c n is = omega (arith, is)

  -- a write takes the chain one loglet further at most
  followed : (c : Chain) → MayFollow w law.floor (length law.shelf) w.register.chain c → last_id c ≤ last_id w.register.chain + 1
  followed c (inl x) = by_extended c.segments x.at (ap (λ (d : Chain). d.segments) x.is)
  followed c (inr x) = by_kept c x.0.trim
      (ap (λ (d : Chain). last_id d) x.0.is ∙ ap (λ (s : Segment). s.id) (rest_of (ends w.cells) x.0.trim ok.id ok.from w.register.chain.segments ok.joined).last)

  told : (v : ℕ) (c : Chain) → IsCurrent w.register v c → last_id c ≤ last_id w.register.chain + 1
  told v c (inl x) = let same = ap last_id x.1 in omega (arith, same)
  told v c (inr x) = ⊎_elim
      (λ e. by_extended c.segments e.at e.segments)
      (λ r. by_kept c c.trim (ap (λ (ss : List Segment). (last_of_segments ss).id) r.segments ∙ ap (λ (s : Segment). s.id) (rest_of (ends w.cells) c.trim ok.id ok.from w.register.chain.segments ok.joined).last))
      (ok.asked c x.1)

  one_further : (m : RegisterMove) → RegisterAllowed w law.floor (length law.shelf) m → last_id (register_after w.register m).chain ≤ last_id w.register.chain + 1
  one_further (Gives v c) h = told v c h.1
  one_further (Conflicts x v c) h = told v c h.1
  one_further (Writes x c v) h = followed c h.2
  one_further (Faults x c) h = omega arith
  one_further Fails h = omega arith
  one_further (Mends b) h = omega arith

  by_move : (who : ℕ) (m : Move) → IsAllowed w law who m → HasStarts w → HasStarts (after w who m)
  by_move who (OnCell i m) h s = s
  by_move who Nothing h s = s
  by_move who Never h s = absurd h
  by_move who (OnRegister m) h s = λ i upto.
      put_cases (λ (o : Option ℕ). (n : ℕ) × (o ≡ Some n)) w.starts (last_of_segments (register_after w.register m).chain.segments).id (Some (last_of_segments (register_after w.register m).chain.segments).start) i
      (λ same. ((last_of_segments (register_after w.register m).chain.segments).start, refl))
      (λ other. s i (⊎_elim
      (λ (low : i < (last_of_segments (register_after w.register m).chain.segments).id). let far = one_further m h in omega (arith, low, far))
      (λ (high : (last_of_segments (register_after w.register m).chain.segments).id ≤ i). absurd (other (omega (arith, upto, high))))
      (cases_lt i (last_of_segments (register_after w.register m).chain.segments).id)))

module _ (law : Law) where
  from : (w : State) (es : List Event) → StateOk (length law.shelf) w → IsLegalFrom w law es → HasStarts w → HasStarts (after_all w es)
  from w [] ok h s = s
  from w (e ∷ es) ok h s =
      from (after w e.who (move e)) es (step_ok law w e.who (move e) ok h.0.allowed).0 h.1
      (by_move law w ok e.who (move e) h.0.allowed s)

  at_start : HasStarts start
  at_start zero upto = (0, refl)
  at_start (suc i) upto = absurd (omega (arith, upto))

  -- a loglet below the last one answered a sealed tail, so a Seal was begun on it
  asked : (es : List Event) (i : ℕ) → IsLegal law es → i < last_id (state_of es).register.chain → 0 < count_by (begins_seal_on i) es
  asked es i legal below =
      let ok = sound law es legal in
      let starts = from start es (start_ok (length law.shelf) legal.least legal.most) legal.steps at_start in
      let here = starts i (omega (arith, below)) in
      let end = ok.order i (last_id (state_of es).register.chain) here.0 _ below here.1 ok.last in
      omega (arith, tail_asked law es i end.0 legal end.1, seals_after start i es)

  pub is_sealed : (es : List Event) (i : ℕ) → IsLegal law es → i < last_id (state_of es).register.chain → Contains (seals_in es) i
  is_sealed es i legal below = listed i es (asked es i legal below)

  pub as_far : (es : List Event) → IsLegal law es → last_id (state_of es).register.chain ≤ count_by begins_seal es
  as_far es legal = omega (arith, as_long (last_id (state_of es).register.chain) (seals_in es) (λ i below. is_sealed es i legal below), one_each es)
