-- What leaves the tail of the log where it is.
use Rattle.std.proofs.Common.{◌≡◌, ◌≢◌, ℕ, ◌+◌, max, List, ◌∷◌, ◌++◌, Bool, true, false, refl, sym, ap, ◌∙◌, subst, arith}
use Rattle.std.specs.Prelude.{unwrap_or, ◌==◌}
use Rattle.std.proofs.lemmas.Bool.Decides.{nat_tests}
use Rattle.chain_map.specs.Chain.{last_of_segments}
use Rattle.loglet_api.specs.declared.call.Op.{Op}
use Rattle.loglet_api.specs.declared.call.Answer.{Answer}
use Rattle.loglet_api.specs.Step.{told_reach}
use Rattle.legal_journal.specs.Law.{Law}
use Rattle.legal_journal.specs.Told.{Told, Running, wanted}
use Rattle.legal_journal.specs.declared.events.Event.{Event}
use Rattle.legal_journal.specs.Shown.{end_of}
use Rattle.legal_journal.specs.Moves.{Begins, Answers}
use Rattle.legal_journal.specs.Journal.{CellState, State, RegisterState, cell_after, state_of, reach, last_segment, tail_of}
use Rattle.legal_journal.proofs.Cells.{put_cases, put_other}
use Rattle.virtual_log.specs.Turning.{OnlyOwn, Still, Later, Opened, Answered}
use Rattle.virtual_log.proofs.Owning.{own_split, still_others}

-- the register is as it was, and the answers of each loglet reach as far
pub record Level (old new : State) : Type 0 where
  pub register : new.register ≡ old.register
  pub reaches : (i : ℕ) → reach new.cells i ≡ reach old.cells i

level_trans : (a b c : State) → Level a b → Level b c → Level a c
level_trans a b c f g = record { register = g.register ∙ f.register; reaches = λ i. g.reaches i ∙ f.reaches i }

still_level : (a b : State) → Still a b → Level a b
still_level a b s = record { register = s.register; reaches = λ i. ap (λ (c : Told). c.reach) (s.told i) }

pub level_tail : (a b : State) → Level a b → tail_of b ≡ tail_of a
level_tail a b l =
    let s = last_segment a in
    ap (λ (r : RegisterState). end_of (reach b.cells) (last_of_segments r.chain.segments)) l.register ∙ ap (λ n. unwrap_or s.end (s.start + n)) (l.reaches s.id)

-- a begun operation moves no tail
begun_level : (who : ℕ) (old new : List Event) (i t : ℕ) (op : Op) → (o : Opened who old i op t new) → Level (state_of (old ++ o.first.others)) (state_of new)
begun_level who old new i t op o =
    let w = state_of (old ++ o.first.others) in
    subst (λ (x : State). Level w x) (sym o.now) (record {
      register = refl;
      reaches = λ j. put_cases (λ (c : CellState). c.told.reach ≡ reach w.cells j) w.cells i (cell_after who (w.cells i) (Begins op t)) j (λ e. ap (reach w.cells) (sym e)) (λ _. refl);
    })

-- nor does an answer that tells of no length
answered_level : (who : ℕ) (old new : List Event) (i t : ℕ) (r : Running) (a : Answer) → told_reach (wanted r) a ≡ 0 → (x : Answered who old i t r a new) → Level (state_of x.moment) (state_of new)
answered_level who old new i t r a silent x = record { register = ap (λ (w : State). w.register) x.now; reaches = λ j. by_test j (j == i) refl }
  where
    w : State
    w = state_of x.moment

    by_test : (j : ℕ) (b : Bool) → (j == i) ≡ b → reach (state_of new).cells j ≡ reach w.cells j
    by_test j true b =
        let same : j ≡ i = grind (arith, nat_tests) in
        let told : reach (state_of new).cells i ≡ max (reach w.cells i) (told_reach (wanted r) a) = ap (λ (y : Told). y.reach) x.told in
        subst (λ k. reach (state_of new).cells k ≡ reach w.cells k) (sym same) (omega (arith, told, silent))
    by_test j false b =
        let apart : j ≢ i = grind (arith, nat_tests) in
        ap (λ (y : State). reach y.cells j) x.now ∙ ap (λ (c : CellState). c.told.reach) (put_other w.cells i (cell_after who (w.cells i) (Answers t a)) j apart)

-- an operation of which nobody's event came between moves no tail, where its answer tells of no length
pub silent_level : (law : Law) (who : ℕ) (old mid new : List Event) (i t : ℕ) (op : Op) (r : Running) (a : Answer) → told_reach (wanted r) a ≡ 0 → Later law old mid → Later law mid new → Opened who old i op t mid → Answered who mid i t r a new → OnlyOwn who old new → Level (state_of old) (state_of new)
silent_level law who old mid new i t op r a silent first second o x alone =
    let begin = old ++ o.first.others in
    let parts = own_split who old mid new first.more second.more first.seen second.seen alone in
    let front = own_split who old begin mid o.first.others (o.first.event ∷ o.first.rest) refl o.first.seen parts.0 in
    let back = own_split who mid x.moment new x.since.0 x.rest.0 x.since.1 x.rest.1 parts.1 in
    level_trans (state_of old) (state_of begin) (state_of new) (still_level (state_of old) (state_of begin) (still_others who old o.first.others o.first.apart front.0))
    (level_trans (state_of begin) (state_of mid) (state_of new) (begun_level who old mid i t op o)
    (level_trans (state_of mid) (state_of x.moment) (state_of new) (still_level (state_of mid) (state_of x.moment) (x.still back.0)) (answered_level who mid new i t r a silent x)))
