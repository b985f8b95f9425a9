-- What a turn brings.
use Rattle.std.proofs.Common.{◌≡◌, ◌≢◌, ℕ, List, [], ◌∷◌, ◌++◌, length, Some, None, refl, sym, ap, ◌∙◌, subst, arith}
use Rattle.delos_types.specs.declared.entry.Entry.{Entry}
use Rattle.legal_journal.specs.Law.{Law}
use Rattle.legal_journal.specs.Told.{Running}
use Rattle.legal_journal.specs.declared.events.Event.{Event}
use Rattle.legal_journal.specs.Moves.{CellMove, Begins, Carries, Answers, Drops, Misses, Move, OnCell, OnRegister, Nothing, Never, move}
use Rattle.legal_journal.specs.Journal.{CellState, State, cell_after, answered_by, after, after_all, state_of, start, IsOwn, CellAllowed, IsAllowed, IsLegalFrom, IsLegal}
use Rattle.legal_journal.specs.Laws.{Continues}
use Rattle.legal_journal.specs.Turns.{AreOthers}
use Rattle.legal_journal.proofs.Cells.{CellOk, put_cases, put_other}
use Rattle.legal_journal.proofs.Sound.{StateOk, step_ok}
use Rattle.legal_journal.proofs.Legal.{sound, legal_front, goes_on, after_all-append, IsLegalFrom-split}

-- the ticket is still open and who's, and no carry was counted
pub record Keeps (c : CellState) (who t count : ℕ) (r : Running) : Type 0 where
  pub own : IsOwn c who t r
  pub carried : c.carried t ≡ count

module _ (w : State) (may : ℕ → Entry → Type 0) (cells who by j t : ℕ) (r : Running) (apart : by ≢ who) (ok : CellOk (w.cells j)) (own : IsOwn (w.cells j) who t r) where
  not_theirs : (u : ℕ) (q : Running) → IsOwn (w.cells j) by u q → t ≢ u
  not_theirs u q theirs e = apart (sym theirs.own ∙ (ap (w.cells j).owner (sym e) ∙ own.own))

  own_move : (m : CellMove) → CellAllowed w may cells by j m → Keeps (cell_after by (w.cells j) m) who t ((w.cells j).carried t) r
  own_move (Begins op u) a =
      let fresh = (ok.ops t r own.is_open).ticket in
      let other : t ≢ u = λ e. absurd (omega (arith, fresh, a.2)) in record {
        own = record { is_open = put_other (w.cells j).told.ops u _ t other ∙ own.is_open; own = put_other (w.cells j).owner u by t other ∙ own.own };
        carried = put_other (w.cells j).carried u 0 t other;
      }
  own_move (Carries u) a = record {
    own = record { is_open = own.is_open; own = own.own };
    carried = put_other (w.cells j).carried u _ t (not_theirs u a.0.0 a.0.1);
  }
  own_move (Answers u x) a = record {
    own = record {
      is_open = subst (λ o. (answered_by (w.cells j).told u x o).ops t ≡ Some r) (sym a.1.is_open) (put_other (w.cells j).told.ops u None t (not_theirs u a.0 a.1) ∙ own.is_open);
      own = own.own;
    };
    carried = refl;
  }
  own_move (Drops u) a = record {
    own = record { is_open = put_other (w.cells j).told.ops u None t (not_theirs u a.0 a.1) ∙ own.is_open; own = own.own };
    carried = refl;
  }
  own_move (Misses u) a = record { own = own; carried = refl }

own_step : (w : State) (law : Law) (who by i t : ℕ) (r : Running) (m : Move) → by ≢ who → StateOk (length law.shelf) w → IsOwn (w.cells i) who t r → IsAllowed w law by m → Keeps ((after w by m).cells i) who t ((w.cells i).carried t) r
own_step w law who by i t r (OnCell j m) apart ok own a =
    put_cases (λ (c : CellState). Keeps c who t ((w.cells i).carried t) r) w.cells j (cell_after by (w.cells j) m) i
    (λ e. let at : IsOwn (w.cells j) who t r = subst (λ k. IsOwn (w.cells k) who t r) e own in
    subst (λ k. Keeps (cell_after by (w.cells j) m) who t ((w.cells k).carried t) r) (sym e) (own_move w law.may (length law.shelf) who by j t r apart (ok.cell j) at m a))
    (λ _. record { own = own; carried = refl })
own_step w law who by i t r (OnRegister m) apart ok own a = record { own = own; carried = refl }
own_step w law who by i t r Nothing apart ok own a = record { own = own; carried = refl }
own_step w law who by i t r Never apart ok own a = absurd a

-- events of others leave an own ticket open, and don't count
pub own_stays : (w : State) (law : Law) (who i t : ℕ) (r : Running) (es : List Event) → AreOthers who es → StateOk (length law.shelf) w → IsLegalFrom w law es → IsOwn (w.cells i) who t r → Keeps ((after_all w es).cells i) who t ((w.cells i).carried t) r
own_stays w law who i t r [] apart ok legal own = record { own = own; carried = refl }
own_stays w law who i t r (e ∷ es) apart ok legal own =
    let one = own_step w law who e.who i t r (move e) apart.0 ok own legal.0.allowed in
    let rest = own_stays (after w e.who (move e)) law who i t r es apart.1 (step_ok law w e.who (move e) ok legal.0.allowed).0 legal.1 one.own in
    record { own = rest.own; carried = rest.carried ∙ one.carried }

-- a turn with one own event: the moment before it, and what the event does there
pub record Took (law : Law) (old others : List Event) (e : Event) (new : List Event) : Type 0 where
  pub ok : StateOk (length law.shelf) (state_of (old ++ others))
  pub before : Continues (state_of old) (state_of (old ++ others))
  pub legal_others : IsLegalFrom (state_of old) law others
  pub allowed : IsAllowed (state_of (old ++ others)) law e.who (move e)
  pub now : state_of new ≡ after (state_of (old ++ others)) e.who (move e)
  pub now_ok : StateOk (length law.shelf) (state_of new)
  pub goes : Continues (state_of (old ++ others)) (state_of new)

pub took : (law : Law) (old others : List Event) (e : Event) (new : List Event) → IsLegal law new → new ≡ (old ++ others) ++ e ∷ [] → Took law old others e new
took law old others e new legal is =
    let whole : IsLegal law ((old ++ others) ++ e ∷ []) = subst (IsLegal law) is legal in
    let front = legal_front law (old ++ others) (e ∷ []) whole in
    let parts = IsLegalFrom-split law start (old ++ others) (e ∷ []) whole.steps in
    let w = state_of (old ++ others) in
    let now : state_of new ≡ after w e.who (move e) = ap state_of is ∙ after_all-append start (old ++ others) (e ∷ []) in
    let ok = sound law (old ++ others) front in
    let step = step_ok law w e.who (move e) ok parts.1.0.allowed in record {
      ok = ok;
      before = goes_on law old others front;
      legal_others = (IsLegalFrom-split law start old others front.steps).1;
      allowed = parts.1.0.allowed;
      now = now;
      now_ok = subst (StateOk (length law.shelf)) (sym now) step.0;
      goes = subst (λ (x : State). Continues w x) (sym now) step.1;
    }
