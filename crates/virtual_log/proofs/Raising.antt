-- The writes that raise the trim of a chain.
use Rattle.std.proofs.Common.{◌≡◌, inl, inr, ℕ, zero, suc, ◌<◌, ◌≤◌, ◌^◌, List, [], ◌∷◌, ◌++◌, length, Some, refl, sym, ap, ◌∙◌, subst, ⊎_elim, arith, append_assoc}
use Rattle.std.specs.Prelude.{slice_get}
use Rattle.delos_types.specs.declared.entry.Entry.{Entry}
use Rattle.delos_types.specs.declared.chain.Segment.{Segment}
use Rattle.delos_types.specs.declared.chain.Chain.{Chain}
use Rattle.chain_map.specs.Chain.{last_of_segments, last_segment}
use Rattle.chain_map.specs.Step.{dropped_below}
use Rattle.legal_journal.specs.Law.{Law}
use Rattle.legal_journal.specs.declared.events.Event.{Event}
use Rattle.legal_journal.specs.declared.events.FabricCall.TheVariants.{WriteChain, ReadChain}
use Rattle.legal_journal.specs.declared.events.FabricAnswer.TheVariants.{Written, At}
use Rattle.legal_journal.specs.Journal.{State, state_of, IsLegal, IsFree, ends}
use Rattle.legal_journal.specs.Laws.{Continues}
use Rattle.legal_journal.specs.Turns.{IsTurn, MayTurn}
use Rattle.legal_journal.proofs.Log.{rest_of}
use Rattle.legal_journal.proofs.Legal.{sound, goes_on}
use Rattle.virtual_log.specs.Turning.{Looked, LooksAt, HasEvent}
use Rattle.virtual_log.specs.Log.{GoesBy}
use Rattle.virtual_log.specs.declared.write.Change.TheVariants.{Raise}
use Rattle.virtual_log.specs.declared.write.Settled.{Settled}
use Rattle.virtual_log.specs.declared.write.Settled.TheVariants as settled
use Rattle.virtual_log.specs.Changing.{Has, Settles}
use Rattle.virtual_log.specs.Truncating.{IsRaised, IsTold, IsHigh, IsTruncated}
use Rattle.virtual_log.proofs.OneTurn.{nil, turn_later, event_since, event_until}
use Rattle.virtual_log.proofs.Replacing.{last_started, written_given}
use Rattle.virtual_log.proofs.Going.{goes_onto}

some_at : (xs : List Entry) (i : ℕ) → i < length xs → (x : Entry) × (slice_get xs i ≡ Some x)
some_at [] i h = absurd (omega arith)
some_at (x ∷ xs) zero h = (x, refl)
some_at (x ∷ xs) (suc i) h = some_at xs i (omega arith)

-- what may be trimmed stays so
pub free_later : (a b : State) (floor : List Entry → ℕ → Type 0) (n : ℕ) → Continues a b → IsFree a.shown floor n → IsFree b.shown floor n
free_later a b floor n on f = record {
  log = f.log;
  shows = λ i l. let x = some_at f.log i l in on.shown i x.0 (f.shows i l ∙ x.1) ∙ sym x.1;
  free = f.free;
}

-- the own event of a read comes first
abbrev pub looks_now : (who v : ℕ) (c : Chain) (a b : List Event) → Looked who a v c b → LooksAt who a c b
looks_now who v c a b l = record { others = l.others; apart = l.apart; version = v; looked = b; look = l.seen; rest = []; seen = nil b }

-- .. and stays first
abbrev pub looks_later : (who : ℕ) (c : Chain) (a b e more : List Event) → e ≡ b ++ more → LooksAt who a c b → LooksAt who a c e
looks_later who c a b e more is h = record {
  others = h.others;
  apart = h.apart;
  version = h.version;
  looked = h.looked;
  look = h.look;
  rest = h.rest ++ more;
  seen = is ∙ (ap (λ l. l ++ more) h.seen ∙ append_assoc h.looked h.rest more);
}

-- what was told by the own event of a read
pub looked_told : (who v : ℕ) (c : Chain) (a b : List Event) → Looked who a v c b → HasEvent a (IsTold who v c) b
looked_told who v c a b l = record {
  event = record { who = who; call = ReadChain; answer = At v c };
  is = (refl, (refl, refl));
  before = l.others;
  after = [];
  seen = l.seen;
}

module _ (law : Law) (who : ℕ) (old : List Event) (v k n : ℕ) (c : Chain) (legal : IsLegal law old) (goes : GoesBy (state_of old) v c k) where
  -- what is known lies below the ends of all shelves
  pub known_small : k ≤ 2 ^ 38
  known_small =
      let ok = sound law old legal in
      let s = last_segment c in
      let cell = ok.cell s.id in
      let at = last_started (length law.shelf) (state_of old) v c ok goes.given in
      omega (arith, goes.reached, ok.rooms s.id s.start at, ok.ids s.id s.start at, ok.shelf, ok.few, cell.reach, cell.firm, cell.room)

  pub may_raise : (d : Chain) → d ≡ dropped_below c n → c.trim < n → n ≤ k → IsFree (state_of old).shown law.floor n → MayTurn law who old (WriteChain v d)
  may_raise d is rise low free others apart now =
      let on = goes_on law old others now in
      let trim : n ≡ d.trim = ap (λ (x : Chain). x.trim) (sym is) in
      record {
        there = tt;
        asks = (
          c,
          on.given v c goes.given,
          inr (
            record { trim = n; above = rise; small = omega (arith, low, known_small); is = is },
            subst (IsFree (state_of (old ++ others)).shown law.floor) trim (free_later (state_of old) (state_of (old ++ others)) law.floor n on free),
          ),
        );
      }

  pub raised_goes : (m : ℕ) (d e : Chain) (new : List Event) → d ≡ dropped_below c n → e ≡ d → IsTurn law who old (WriteChain v d) (Written m) new → GoesBy (state_of new) m e k
  raised_goes m d e new is copy h =
      let later = turn_later law who old (WriteChain v d) (Written m) new h in
      let given : (state_of new).register.given m ≡ Some e = written_given law who old v c d goes.given m new h ∙ ap (λ (x : Chain). Some x) (sym copy) in
      let g = (sound law old legal).olds v c goes.given in
      let last : last_segment e ≡ last_segment c = ap (λ (x : Chain). last_of_segments x.segments) (copy ∙ is) ∙ (rest_of (ends (state_of old).cells) n g.id g.from c.segments g.joined).last in
      goes_onto law v k m c e old new legal later goes given (omega (arith, ap (λ (s : Segment). s.id) last))

pub raised_since : (who : ℕ) (a b : List Event) (n m : ℕ) (new more : List Event) → b ≡ a ++ more → IsRaised who b n m new → IsRaised who a n m new
raised_since who a b n m new more is w = record {
  expected = w.expected;
  before = w.before;
  above = w.above;
  event = event_since (λ e. e ≡ record { who = who; call = WriteChain w.expected (dropped_below w.before n); answer = Written m }) a b new more is w.event;
}

-- a truncation between two moments is one between an earlier and a later one
pub truncated_in : (who : ℕ) (a b c d : List Event) (n m trim : ℕ) (before after : List Event) → b ≡ a ++ before → d ≡ c ++ after → IsTruncated who b n m trim c → IsTruncated who a n m trim d
truncated_in who a b c d n m trim before after is is' t = record {
  reached = t.reached;
  how = ⊎_elim
      (λ (x : IsRaised who b n m c × (trim ≡ n)).
      let w = raised_since who a b n m c before is x.0 in
      inl (
        record {
          expected = w.expected;
          before = w.before;
          above = w.above;
          event = event_until (λ e. e ≡ record { who = who; call = WriteChain w.expected (dropped_below w.before n); answer = Written m }) a c d after is' w.event;
        },
        x.1,
      ))
      (λ (x : IsHigh who b n m trim c). inr (record {
        chain = x.chain;
        trim_is = x.trim_is;
        event = event_until (IsTold who m x.chain) a c d after is' (event_since (IsTold who m x.chain) a b c before is x.event);
      }))
      t.how;
}

-- what a raise of the trim came to
pub truncated_by : (who : ℕ) (old new : List Event) (n v : ℕ) (c : Chain) (o : Settled) → Has (Raise n) c → Settles who old (Raise n) v c new o → IsTruncated who old n v c.trim new
truncated_by who old new n v c settled.Written has m = record { reached = has; how = inl (record { expected = m.expected; before = m.before; above = m.lacks; event = m.event }, ap (λ (x : Chain). x.trim) m.chain_is) }
truncated_by who old new n v c settled.Found has m = record {
  reached = has;
  how = inr (record {
    chain = c;
    trim_is = refl;
    event = record { event = m.event.event; is = subst (IsTold who v c) (sym m.event.is) (refl, (refl, refl)); before = m.event.before; after = m.event.after; seen = m.event.seen };
  });
}
