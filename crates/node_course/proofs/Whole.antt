-- Versions of the chain count its loglets and trims; where nothing is trimmed, it has a segment for each loglet up to its last one.
use Rattle.std.proofs.Common.{◌≡◌, refl, sym, ap, ◌∙◌, subst, inl, inr, ℕ, ◌+◌, ◌<◌, ◌≤◌, ◌==◌, ◌&&◌, nat_le, Bool, true, false, if◌then◌else◌, List, [], ◌∷◌, length, arith, eq-eqb, eqb-true, le-leb}
use Rattle.std.proofs.lemmas.Bool.{and_from}
use Rattle.std.proofs.lemmas.Bool.Decides.{nat_tests}
use Rattle.delos_types.specs.declared.entry.Entry.{Entry}
use Rattle.delos_types.specs.declared.chain.Segment.{Segment}
use Rattle.delos_types.specs.declared.chain.Chain.{Chain}
use Rattle.chain_map.specs.Chain.{first_chain, last_of_segments, last_id}
use Rattle.chain_map.specs.Step.{extended_segments}
use Rattle.legal_journal.specs.Law.{Law}
use Rattle.legal_journal.specs.declared.events.Event.{Event}
use Rattle.legal_journal.specs.Moves.{RegisterMove, Gives, Conflicts, Writes, Faults, Fails, Mends, Move, OnCell, OnRegister, Nothing, Never, move}
use Rattle.legal_journal.specs.Journal.{State, MayFollow, IsCurrent, RegisterAllowed, IsAllowed, register_after, after, after_all, state_of, start, ends, trim_of, IsLegal, IsLegalFrom}
use Rattle.legal_journal.proofs.Log.{Joined, kept, last_of_segments-extended_segments, next, rest_of}
use Rattle.legal_journal.proofs.Sound.{StateOk, Follows, step_ok}
use Rattle.legal_journal.proofs.Legal.{start_ok}
use Rattle.fitting_run.specs.Replacements.{goes_by_ones}

-- Each version behind the first made one loglet more, or trimmed the log; where nothing is trimmed, each loglet has a segment.
record IsWhole (v : ℕ) (c : Chain) : Type 0 where
  pub least : last_id c + 1 ≤ v
  pub trimmed : 1 ≤ c.trim → last_id c + 2 ≤ v
  pub version : c.trim ≡ 0 → v ≡ last_id c + 1
  pub segments : c.trim ≡ 0 → length c.segments ≡ last_id c + 1

more_segments : (es : ℕ → List ℕ) (i a : ℕ) (ss : List Segment) (t : ℕ) → Joined es i a ss → length (extended_segments ss t) ≡ length ss + 1
more_segments es i a [] t j = absurd j
more_segments es i a (s ∷ []) t j = refl
more_segments es i a (s ∷ r ∷ rs) t j = omega (arith, more_segments es (i + 1) (a + j.2.0) (r ∷ rs) t j.2.3)

module _ (cells : ℕ) (w : State) (ok : StateOk cells w) (h : IsWhole w.register.version w.register.chain) where
  abbrev next_version : ℕ
  next_version = w.register.version + 1

  -- the chain went on in one loglet more
  extended_whole : (c : Chain) (t : ℕ) → c.trim ≡ w.register.chain.trim → c.segments ≡ extended_segments w.register.chain.segments t → IsWhole next_version c
  extended_whole c t trim is =
      let old = w.register.chain in
      let last : last_of_segments c.segments ≡ next (last_of_segments old.segments) t = ap last_of_segments is ∙ last_of_segments-extended_segments (ends w.cells) ok.id ok.from old.segments t ok.joined in
      let id : last_id c ≡ last_id old + 1 = ap (λ (s : Segment). s.id) last in
      let more : length c.segments ≡ length old.segments + 1 = ap (λ (ss : List Segment). length ss) is ∙ more_segments (ends w.cells) ok.id ok.from old.segments t ok.joined in
      record {
        least = omega (arith, id, h.least);
        trimmed = λ some. omega (arith, id, h.trimmed (omega (arith, some, trim)));
        version = λ none. omega (arith, id, h.version (sym trim ∙ none));
        segments = λ none. omega (arith, id, more, h.segments (sym trim ∙ none));
      }

  -- it was trimmed further
  raised_whole : (c : Chain) → w.register.chain.trim < c.trim → c.segments ≡ kept c.trim w.register.chain.segments → IsWhole next_version c
  raised_whole c above is =
      let old = w.register.chain in
      let last : last_of_segments c.segments ≡ last_of_segments old.segments = ap last_of_segments is ∙ (rest_of (ends w.cells) c.trim ok.id ok.from old.segments ok.joined).last in
      let id : last_id c ≡ last_id old = ap (λ (s : Segment). s.id) last in
      record {
        least = omega (arith, id, h.least);
        trimmed = λ some. omega (arith, id, h.least);
        version = λ none. absurd (omega (arith, above, none));
        segments = λ none. absurd (omega (arith, above, none));
      }

  by_following : (c : Chain) → Follows (ends w.cells) cells w.register.chain c → IsWhole next_version c
  by_following c (inl x) = extended_whole c x.at x.trim x.segments
  by_following c (inr x) = raised_whole c x.above x.segments

  by_writing : (floor : List Entry → ℕ → Type 0) (c : Chain) → MayFollow w floor cells w.register.chain c → IsWhole next_version c
  by_writing floor c (inl x) = extended_whole c x.at (ap (λ (d : Chain). d.trim) x.is) (ap (λ (d : Chain). d.segments) x.is)
  by_writing floor c (inr x) =
      let trim : c.trim ≡ x.0.trim = ap (λ (d : Chain). d.trim) x.0.is in
      raised_whole c (omega (arith, x.0.above, trim)) (subst (λ n. c.segments ≡ kept n w.register.chain.segments) (sym trim) (ap (λ (d : Chain). d.segments) x.0.is))

  by_telling : (v : ℕ) (c : Chain) → IsCurrent w.register v c → IsWhole v c
  by_telling v c (inl x) = subst (λ n. IsWhole n c) (sym x.0) (subst (IsWhole w.register.version) (sym x.1) h)
  by_telling v c (inr x) = subst (λ n. IsWhole n c) (sym x.0) (by_following c (ok.asked c x.1))

  register_whole : (floor : List Entry → ℕ → Type 0) (m : RegisterMove) → RegisterAllowed w floor cells m → IsWhole (register_after w.register m).version (register_after w.register m).chain
  register_whole floor (Gives v c) a = by_telling v c a.1
  register_whole floor (Conflicts x v c) a = by_telling v c a.1
  register_whole floor (Writes x c v) a = subst (λ n. IsWhole n c) (let one : next_version ≡ v = omega (arith, a.1, a.3) in one) (by_writing floor c a.2)
  register_whole floor (Faults x c) a = h
  register_whole floor Fails a = h
  register_whole floor (Mends b) a = h

  move_whole : (law : Law) → length law.shelf ≡ cells → (who : ℕ) (m : Move) → IsAllowed w law who m → IsWhole (after w who m).register.version (after w who m).register.chain
  move_whole law size who (OnCell i m) a = h
  move_whole law size who (OnRegister m) a = register_whole law.floor m (subst (λ k. RegisterAllowed w law.floor k m) size a)
  move_whole law size who Nothing a = h
  move_whole law size who Never a = h

counted : (v : ℕ) (c : Chain) → IsWhole v c → goes_by_ones v c ≡ true
counted v c h = by (c.trim == 0) refl
  where
    by : (t : Bool) → (c.trim == 0) ≡ t → (if t then (v == last_id c + 1) && (length c.segments == last_id c + 1) else nat_le (last_id c + 2) v) ≡ true
    by true is =
        let none = eqb-true c.trim 0 is in
        and_from (v == last_id c + 1) (length c.segments == last_id c + 1) (eq-eqb v (last_id c + 1) (h.version none)) (eq-eqb (length c.segments) (last_id c + 1) (h.segments none))
    by false is =
        let some : 1 ≤ c.trim = grind (arith, nat_tests, is) in
        le-leb (last_id c + 2) v (h.trimmed some)

least_one : (n : ℕ) → n ≡ 0 → n + 1 ≤ 1
least_one n e = omega (arith, e)

not_trimmed : (n : ℕ) → n ≡ 0 → 1 ≤ n → ⊥
not_trimmed n e some = omega (arith, e, some)

first_whole : IsWhole 1 first_chain
first_whole = record {
  least = least_one (last_id first_chain) refl;
  trimmed = λ some. absurd (not_trimmed first_chain.trim refl some);
  version = λ none. refl;
  segments = λ none. refl;
}

module _ (law : Law) where
  all_whole : (w : State) (es : List Event) → StateOk (length law.shelf) w → IsLegalFrom w law es → IsWhole w.register.version w.register.chain → IsWhole (after_all w es).register.version (after_all w es).register.chain
  all_whole w [] ok legal h = h
  all_whole w (e ∷ es) ok legal h =
      all_whole (after w e.who (move e)) es (step_ok law w e.who (move e) ok legal.0.allowed).0 legal.1 (move_whole (length law.shelf) w ok h law refl e.who (move e) legal.0.allowed)

  whole : (seen : List Event) → IsLegal law seen → IsWhole (state_of seen).register.version (state_of seen).register.chain
  whole seen legal = all_whole start seen (start_ok (length law.shelf) legal.least legal.most) legal.steps first_whole

  pub journal_whole : (seen : List Event) → IsLegal law seen → trim_of (state_of seen) ≡ 0 → length (state_of seen).register.chain.segments ≡ last_id (state_of seen).register.chain + 1
  journal_whole seen legal none = (whole seen legal).segments none

  -- the version is as the chain tells
  pub journal_counted : (seen : List Event) → IsLegal law seen → goes_by_ones (state_of seen).register.version (state_of seen).register.chain ≡ true
  journal_counted seen legal = counted (state_of seen).register.version (state_of seen).register.chain (whole seen legal)
