-- What single turns bring.
use Rattle.std.proofs.Common.{◌≡◌, ℕ, ◌+◌, ◌<◌, List, [], ◌∷◌, ◌++◌, length, Some, refl, sym, ap, ◌∙◌, subst, arith, append_assoc}
use Rattle.delos_types.specs.declared.chain.Chain.{Chain}
use Rattle.loglet_api.specs.declared.call.Op.{Op}
use Rattle.loglet_api.specs.declared.call.Answer.{Answer}
use Rattle.loglet_api.specs.declared.call.Answer.TheVariants as answers
use Rattle.legal_journal.specs.Law.{Law}
use Rattle.legal_journal.specs.Told.{Running, MayAnswer, started}
use Rattle.legal_journal.specs.declared.events.Event.{Event}
use Rattle.legal_journal.specs.declared.events.FabricCall.{FabricCall}
use Rattle.legal_journal.specs.declared.events.FabricAnswer.{FabricAnswer}
use Rattle.legal_journal.specs.declared.events.FabricCall.TheVariants.{Begin, Carry, Forget, ReadChain, WriteChain}
use Rattle.legal_journal.specs.declared.events.FabricAnswer.TheVariants.{Begun, Full, Done, Going, At, MetaFault, Down}
use Rattle.legal_journal.specs.Moves.{Begins, Carries, Answers}
use Rattle.legal_journal.specs.Journal.{CellState, State, cell_after, answered_by, state_of, start, IsOwn, IsLegal, IsLegalFrom, patience}
use Rattle.legal_journal.specs.Laws.{Continues}
use Rattle.legal_journal.specs.Turns.{AreOthers, IsTurn, MayTurn}
use Rattle.legal_journal.proofs.Cells.{put_cases, put_same}
use Rattle.legal_journal.proofs.Legal.{IsLegalFrom-split, after_all-append, sound, goes_on}
use Rattle.legal_journal.proofs.Taken.{Keeps, own_stays, took}
use Rattle.virtual_log.specs.declared.fault.Fault.{Fault}
use Rattle.virtual_log.specs.declared.fault.Fault.TheVariants as fault
use Rattle.virtual_log.specs.Turning.{OnlyOwn, Still, Later, Looked, FirstTurn, Opened, Answered, HasEvent, IsAnswer}
use Rattle.virtual_log.specs.Causes.{Causes, HasCause}
use Rattle.virtual_log.proofs.Owning.{own_split, still_trans, still_others}

pub nil : (xs : List Event) → xs ≡ xs ++ []
nil [] = refl
nil (x ∷ xs) = ap (λ l. x ∷ l) (nil xs)

module _ (law : Law) (who : ℕ) (old new : List Event) where
  pub look_ok : (v : ℕ) (c : Chain) → IsTurn law who old ReadChain (At v c) new → Looked who old v c new
  look_ok v c t =
      let k = took law old t.others _ new t.legal (t.seen ∙ ap (λ es. (old ++ t.others) ++ es) t.event) in record {
        others = t.others;
        apart = t.apart;
        seen = t.seen ∙ ap (λ es. (old ++ t.others) ++ es) t.event;
        version_is = ap (λ (w : State). w.register.version) k.now;
        chain_is = ap (λ (w : State). w.register.chain) k.now;
      }

  pub begin_ok : (i : ℕ) (op : Op) (t : ℕ) → IsTurn law who old (Begin i op) (Begun t) new → Opened who old i op t new
  begin_ok i op t h =
      let k = took law old h.others _ new h.legal (h.seen ∙ ap (λ es. (old ++ h.others) ++ es) h.event) in
      let w = state_of (old ++ h.others) in
      let at : (state_of new).cells i ≡ cell_after who (w.cells i) (Begins op t) = ap (λ (x : State). x.cells i) k.now ∙ put_same w.cells i (cell_after who (w.cells i) (Begins op t)) in
      record {
        first = record { others = h.others; apart = h.apart; event = record { who = who; call = Begin i op; answer = Begun t }; own = refl; rest = []; seen = h.seen ∙ ap (λ es. (old ++ h.others) ++ es) h.event };
        own = subst (λ (c : CellState). IsOwn c who t (started (w.cells i).told op)) (sym at) (record {
          is_open = put_same (w.cells i).told.ops t _;
          own = put_same (w.cells i).owner t who;
        });
        event = record { event = record { who = who; call = Begin i op; answer = Begun t }; is = refl; before = h.others; after = []; seen = h.seen ∙ ap (λ es. (old ++ h.others) ++ es) h.event };
        now = k.now;
      }

  -- an own ticket may be carried, whatever others do first
  pub may_carry : (i t word : ℕ) (r : Running) → i < length law.shelf → IsLegal law old → IsOwn ((state_of old).cells i) who t r → MayTurn law who old (Carry i t word)
  may_carry i t word r l now own others apart legal =
      let parts = IsLegalFrom-split law start old others legal.steps in
      let keeps = own_stays (state_of old) law who i t r others apart (sound law old now) parts.1 own in
      record { there = l; asks = λ q h. ap (λ (w : State). (w.cells i).owner t) (after_all-append start old others) ∙ keeps.own.own }

  -- the cell just before an own carry
  pub kept : (i t : ℕ) (r : Running) (others : List Event) → AreOthers who others → IsLegal law old → IsLegalFrom (state_of old) law others → IsOwn ((state_of old).cells i) who t r → Keeps ((state_of (old ++ others)).cells i) who t (((state_of old).cells i).carried t) r
  kept i t r others apart now legal own =
      subst (λ (w : State). Keeps (w.cells i) who t (((state_of old).cells i).carried t) r) (sym (after_all-append start old others)) (own_stays (state_of old) law who i t r others apart (sound law old now) legal own)

  pub going_ok : (i t word : ℕ) (r : Running) → IsLegal law old → IsTurn law who old (Carry i t word) Going new → IsOwn ((state_of old).cells i) who t r → IsOwn ((state_of new).cells i) who t r × ((((state_of new).cells i).carried t ≡ ((state_of old).cells i).carried t + 1) × (((state_of old).cells i).carried t < patience))
  going_ok i t word r was h own =
      let k = took law old h.others _ new h.legal (h.seen ∙ ap (λ es. (old ++ h.others) ++ es) h.event) in
      let w = state_of (old ++ h.others) in
      let keeps = kept i t r h.others h.apart was k.legal_others own in
      let at : (state_of new).cells i ≡ cell_after who (w.cells i) (Carries t) = ap (λ (x : State). x.cells i) k.now ∙ put_same w.cells i (cell_after who (w.cells i) (Carries t)) in
      let count : ((state_of new).cells i).carried t ≡ (w.cells i).carried t + 1 = ap (λ (c : CellState). c.carried t) at ∙ put_same (w.cells i).carried t _ in
      (subst (λ (c : CellState). IsOwn c who t r) (sym at) (record { is_open = keeps.own.is_open; own = keeps.own.own }), (omega (arith, count, keeps.carried), omega (arith, k.allowed.1, keeps.carried)))

  pub done_ok : (i t word : ℕ) (r : Running) (a : Answer) → IsLegal law old → IsTurn law who old (Carry i t word) (Done a) new → IsOwn ((state_of old).cells i) who t r → Answered who old i t r a new
  done_ok i t word r a was h own =
      let seen = h.seen ∙ ap (λ es. (old ++ h.others) ++ es) h.event in
      let k = took law old h.others _ new h.legal seen in
      let w = state_of (old ++ h.others) in
      let keeps = kept i t r h.others h.apart was k.legal_others own in
      let at : (state_of new).cells i ≡ cell_after who (w.cells i) (Answers t a) = ap (λ (x : State). x.cells i) k.now ∙ put_same w.cells i (cell_after who (w.cells i) (Answers t a)) in
      let q = k.allowed.0 in
      let both : Some q ≡ Some r = sym k.allowed.1.is_open ∙ keeps.own.is_open in
      let same : q ≡ r = cc in record {
        moment = old ++ h.others;
        since = (h.others, refl);
        rest = (h.own, h.seen);
        may = subst (λ (x : Running). MayAnswer (w.cells i).told x x.op a) same k.allowed.2;
        told = ap (λ (c : CellState). c.told) at ∙ ap (answered_by (w.cells i).told t a) keeps.own.is_open;
        ends = ap (λ (c : CellState). c.ends) at;
        event = record { event = record { who = who; call = Carry i t word; answer = Done a }; is = (word, refl); before = h.others; after = []; seen = seen };
        now = k.now;
        still = still_others who old h.others h.apart;
      }

  -- an own carry that leaves the operation undecided changes nothing that is told
  pub going_still : (i t word : ℕ) → IsTurn law who old (Carry i t word) Going new → OnlyOwn who old new → Still (state_of old) (state_of new)
  going_still i t word h alone =
      let k = took law old h.others _ new h.legal (h.seen ∙ ap (λ es. (old ++ h.others) ++ es) h.event) in
      let w = state_of (old ++ h.others) in
      let carried = cell_after who (w.cells i) (Carries t) in
      let front = own_split who old (old ++ h.others) new h.others h.own refl h.seen alone in
      still_trans (state_of old) w (state_of new) (still_others who old h.others h.apart front.0)
      (subst (λ (x : State). Still w x) (sym k.now) (record {
        register = refl;
        told = λ j. put_cases (λ (c : CellState). c.told ≡ (w.cells j).told) w.cells i carried j (λ e. ap (λ n. (w.cells n).told) (sym e)) (λ _. refl);
      }))

  -- a fault by the own event of a turn
  pub full_cause : (i : ℕ) (op : Op) → IsTurn law who old (Begin i op) Full new → HasCause who old (fault.Full i) new
  full_cause i op h = record { event = record { who = who; call = Begin i op; answer = Full }; is = (refl, refl); before = h.others; after = []; seen = h.seen ∙ ap (λ es. (old ++ h.others) ++ es) h.event }

  pub down_cause : IsTurn law who old ReadChain Down new → HasCause who old fault.Meta new
  down_cause h = record { event = record { who = who; call = ReadChain; answer = Down }; is = (refl, tt); before = h.others; after = []; seen = h.seen ∙ ap (λ es. (old ++ h.others) ++ es) h.event }

  pub meta_cause : (x : ℕ) (d : Chain) → IsTurn law who old (WriteChain x d) MetaFault new → HasCause who old fault.Meta new
  meta_cause x d h = record { event = record { who = who; call = WriteChain x d; answer = MetaFault }; is = (refl, tt); before = h.others; after = []; seen = h.seen ∙ ap (λ es. (old ++ h.others) ++ es) h.event }

  pub gone_cause : (x : ℕ) (d : Chain) → IsTurn law who old (WriteChain x d) Down new → HasCause who old fault.Meta new
  gone_cause x d h = record { event = record { who = who; call = WriteChain x d; answer = Down }; is = (refl, tt); before = h.others; after = []; seen = h.seen ∙ ap (λ es. (old ++ h.others) ++ es) h.event }

pub later_refl : (law : Law) (es : List Event) → IsLegal law es → Later law es es
later_refl law es h = record { more = []; seen = nil es; legal = h }

pub later_trans : (law : Law) (a b c : List Event) → Later law a b → Later law b c → Later law a c
later_trans law a b c f g = record {
  more = f.more ++ g.more;
  seen = g.seen ∙ (ap (λ l. l ++ g.more) f.seen ∙ append_assoc a f.more g.more);
  legal = g.legal;
}

pub later_continues : (law : Law) (a b : List Event) → Later law a b → Continues (state_of a) (state_of b)
later_continues law a b h =
    subst (λ es. Continues (state_of a) (state_of es)) (sym h.seen) (goes_on law a h.more (subst (IsLegal law) h.seen h.legal))

pub turn_later : (law : Law) (who : ℕ) (old : List Event) (call : FabricCall) (answer : FabricAnswer) (new : List Event) → IsTurn law who old call answer new → Later law old new
turn_later law who old call answer new t = record { more = t.others ++ t.own; seen = t.seen ∙ append_assoc old t.others t.own; legal = t.legal }

pub own_by : (c : CellState) (a b t : ℕ) (r : Running) → a ≡ b → IsOwn c b t r → IsOwn c a t r
own_by c a b t r e h = subst (λ k. IsOwn c k t r) (sym e) h

-- an event since a later moment is one since an earlier one
pub event_since : (P : Event → Type 0) (a b c more : List Event) → b ≡ a ++ more → HasEvent b P c → HasEvent a P c
event_since P a b c more is h = record {
  event = h.event;
  is = h.is;
  before = more ++ h.before;
  after = h.after;
  seen = h.seen ∙ (ap (λ l. (l ++ h.before) ++ h.event ∷ h.after) is ∙ ap (λ l. l ++ h.event ∷ h.after) (append_assoc a more h.before));
}

-- and one before an earlier moment is one before a later one
pub event_until : (P : Event → Type 0) (a b c more : List Event) → c ≡ b ++ more → HasEvent a P b → HasEvent a P c
event_until P a b c more is h = record {
  event = h.event;
  is = h.is;
  before = h.before;
  after = h.after ++ more;
  seen = is ∙ (ap (λ l. l ++ more) h.seen ∙ append_assoc (a ++ h.before) (h.event ∷ h.after) more);
}

pub cause_since : (who : ℕ) (f : Fault) (a b c more : List Event) → b ≡ a ++ more → HasCause who b f c → HasCause who a f c
cause_since who fault.Memory a b c more is h = tt
cause_since who (fault.NoQuorum id u) a b c more is h = event_since (Causes who (fault.NoQuorum id u)) a b c more is h
cause_since who (fault.Full id) a b c more is h = event_since (Causes who (fault.Full id)) a b c more is h
cause_since who fault.Meta a b c more is h = event_since (Causes who fault.Meta) a b c more is h

-- an answer that tells of too few servers is a cause
pub lack_cause : (who i t u : ℕ) (old new : List Event) → HasEvent old (λ e. IsAnswer who i t (answers.NoQuorum u) e) new → HasCause who old (fault.NoQuorum i u) new
lack_cause who i t u old new h = record {
  event = h.event;
  before = h.before;
  after = h.after;
  seen = h.seen;
  is = subst (Causes who (fault.NoQuorum i u)) (sym h.is.1) (refl, (refl, refl));
}

-- an answer since a later moment is one since an earlier one
pub answered_since : (who : ℕ) (a b c : List Event) (i t : ℕ) (r : Running) (x : Answer) (more : List Event) → b ≡ a ++ more → (OnlyOwn who a b → Still (state_of a) (state_of b)) → Answered who b i t r x c → Answered who a i t r x c
answered_since who a b c i t r x more is before h = record {
  moment = h.moment;
  since = (more ++ h.since.0, h.since.1 ∙ (ap (λ l. l ++ h.since.0) is ∙ append_assoc a more h.since.0));
  rest = h.rest;
  may = h.may;
  told = h.told;
  ends = h.ends;
  event = event_since (λ e. IsAnswer who i t x e) a b c more is h.event;
  now = h.now;
  still = λ alone.
      let parts = own_split who a b h.moment more h.since.0 is h.since.1 alone in
      still_trans (state_of a) (state_of b) (state_of h.moment) (before parts.0) (h.still parts.1);
}

-- what was first stays first
abbrev pub first_later : (who : ℕ) (a b c more : List Event) → c ≡ b ++ more → FirstTurn who a b → FirstTurn who a c
first_later who a b c more is f = record {
  others = f.others;
  apart = f.apart;
  event = f.event;
  own = f.own;
  rest = f.rest ++ more;
  seen = is ∙ (ap (λ es. es ++ more) f.seen ∙ append_assoc (a ++ f.others) (f.event ∷ f.rest) more);
}

-- a ticket that was who's at an earlier moment may be closed, whether it is open still
pub may_drop : (law : Law) (who : ℕ) (a b : List Event) (i t : ℕ) (r : Running) → i < length law.shelf → IsLegal law a → Later law a b → IsOwn ((state_of a).cells i) who t r → MayTurn law who b (Forget i t)
may_drop law who a b i t r l was later own others apart legal =
    let whole = later_trans law a b (b ++ others) later (record { more = others; seen = refl; legal = legal }) in
    let begun = (((sound law a was).cell i).ops t r own.is_open).ticket in
    record { there = l; asks = λ q h. ((later_continues law a (b ++ others) whole).cell i).owner t begun ∙ own.own }
