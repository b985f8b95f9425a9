-- The writes that change a chain.
use Rattle.std.proofs.Common.{◌≡◌, ◌↔◌, ⊎_elim, ℕ, ◌+◌, ◌<◌, ◌≤◌, ◌^◌, List, [], ◌++◌, length, Bool, true, false, Some, refl, sym, ap, ◌∙◌, subst, arith}
use Rattle.std.specs.Prelude.{Contains}
use Rattle.std.proofs.lemmas.Bool.{cases_lt}
use Rattle.delos_types.specs.declared.chain.Segment.{Segment}
use Rattle.delos_types.specs.declared.chain.Chain.{Chain}
use Rattle.chain_map.specs.Chain.{IsChain, last_of_segments, last_segment}
use Rattle.chain_map.specs.Step.{extended}
use Rattle.legal_journal.specs.Law.{Law}
use Rattle.legal_journal.specs.declared.events.Event.{Event}
use Rattle.legal_journal.specs.declared.events.FabricCall.TheVariants.{WriteChain}
use Rattle.legal_journal.specs.declared.events.FabricAnswer.TheVariants.{Written, Conflict}
use Rattle.legal_journal.specs.Journal.{state_of, IsLegal, ends}
use Rattle.legal_journal.specs.Turns.{IsTurn, MayTurn}
use Rattle.legal_journal.proofs.Log.{next, rest_of, last_of_segments-extended_segments}
use Rattle.legal_journal.proofs.Legal.{sound}
use Rattle.legal_journal.proofs.Chains.{chain_ok}
use Rattle.virtual_log.specs.declared.write.Change.{Change}
use Rattle.virtual_log.specs.declared.write.Change.TheVariants.{Close, Raise}
use Rattle.virtual_log.specs.declared.write.Settled.{Settled}
use Rattle.virtual_log.specs.declared.write.Settled.TheVariants as settled
use Rattle.virtual_log.specs.Turning.{Later}
use Rattle.virtual_log.specs.Writing.{WroteNone}
use Rattle.virtual_log.specs.Log.{GoesBy}
use Rattle.virtual_log.specs.Changing.{with_change, Lacks, Has, Admits, IsGranted, IsMade, IsLost, Settles}
use Rattle.virtual_log.proofs.OneTurn.{turn_later, later_continues, event_since}
use Rattle.virtual_log.proofs.Writing.{turn_quiet, wrote_trans}
use Rattle.virtual_log.proofs.Replacing.{fits, may_write, written_given, lost_ok}
use Rattle.virtual_log.proofs.Going.{goes_later, goes_onto, goes_behind}
use Rattle.virtual_log.proofs.Closing.{same_last}
use Rattle.virtual_log.proofs.Raising.{free_later, may_raise, raised_goes}

-- what was allowed stays so
pub granted_later : (law : Law) (k : ℕ) (old new : List Event) (x : Change) → Later law old new → IsGranted law.floor (state_of old) k x → IsGranted law.floor (state_of new) k x
granted_later law k old new (Close last t) later told = ((later_continues law old new later).cell last.id).ends t told
granted_later law k old new (Raise n) later h = (h.0, free_later (state_of old) (state_of new) law.floor n (later_continues law old new later) h.1)

module _ (law : Law) (who : ℕ) (old : List Event) (v k : ℕ) (c : Chain) (legal : IsLegal law old) (goes : GoesBy (state_of old) v c k) where
  pub is_chain : IsChain c
  is_chain = chain_ok (length law.shelf) (state_of old) v c (sound law old legal) goes.given

  -- the sealed tail is one of the last loglet
  told_last : (last : Segment) (t : ℕ) → last_segment c ≡ last → Contains ((state_of old).cells last.id).ends t → Contains ((state_of old).cells (last_segment c).id).ends t
  told_last last t is told = subst (λ (s : Segment). Contains ((state_of old).cells s.id).ends t) (sym is) told

  pub admits : (x : Change) → IsGranted law.floor (state_of old) k x → Lacks x c → Admits x c
  admits (Close last t) told is = let f = fits (length law.shelf) (state_of old) v t c (sound law old legal) goes.given (told_last last t is told) in (f.seam, omega (arith, f.spare, f.few))
  admits (Raise n) free low = low

  pub may_change : (x : Change) (d : Chain) → IsGranted law.floor (state_of old) k x → Lacks x c → d ≡ with_change x c → MayTurn law who old (WriteChain v d)
  may_change (Close last t) d told is made = may_write law who old v t c d goes.given (told_last last t is told) made legal
  may_change (Raise n) d free low made = may_raise law who old v k n c legal goes d made low free.0 free.1

  -- the chain behind the last loglet
  behind : (t : ℕ) (d : Chain) → d ≡ extended c t → (last_segment c).id < (last_segment d).id
  behind t d made =
      let g = (sound law old legal).olds v c goes.given in
      let last_is : last_segment d ≡ next (last_segment c) t = ap (λ (x : Chain). last_of_segments x.segments) made ∙ last_of_segments-extended_segments (ends (state_of old).cells) g.id g.from c.segments t g.joined in
      omega (arith, ap (λ (s : Segment). s.id) last_is)

  pub changed_has : (x : Change) (d : Chain) → Lacks x c → d ≡ with_change x c → Has x d
  changed_has (Close last t) d is made = let up = behind t d made in omega (arith, up, ap (λ (s : Segment). s.id) is)
  changed_has (Raise n) d low made = omega (arith, ap (λ (x : Chain). x.trim) made)

  pub changed_rises : (x : Change) (d : Chain) → d ≡ with_change x c → (last_segment c).id ≤ (last_segment d).id
  changed_rises (Close last t) d made = omega (arith, behind t d made)
  changed_rises (Raise n) d made =
      let g = (sound law old legal).olds v c goes.given in
      let last_is : last_segment d ≡ last_segment c = ap (λ (x : Chain). last_of_segments x.segments) made ∙ (rest_of (ends (state_of old).cells) n g.id g.from c.segments g.joined).last in
      omega (arith, ap (λ (s : Segment). s.id) last_is)

  pub changed_goes : (x : Change) (n : ℕ) (d e : Chain) (new : List Event) → Lacks x c → d ≡ with_change x c → e ≡ d → IsTurn law who old (WriteChain v d) (Written n) new → GoesBy (state_of new) n e k
  changed_goes (Close last t) n d e new is made copy h =
      let given : (state_of new).register.given n ≡ Some e = written_given law who old v c d goes.given n new h ∙ ap (λ (x : Chain). Some x) (sym copy) in
      goes_behind law old new v k n c e (last_segment c) legal (turn_later law who old (WriteChain v d) (Written n) new h) goes refl given (behind t e (copy ∙ made))
  changed_goes (Raise m) n d e new low made copy h = raised_goes law who old v k m c legal goes n d e new made copy h

  pub changed_made : (x : Change) (n : ℕ) (d e : Chain) (new : List Event) → Lacks x c → d ≡ with_change x c → e ≡ d → IsTurn law who old (WriteChain v d) (Written n) new → IsMade who old x n e new
  changed_made x n d e new lacks made copy h = record {
    expected = v;
    before = c;
    given = (goes_later law old new v k c (turn_later law who old (WriteChain v d) (Written n) new h) goes).given;
    lacks = lacks;
    event = record {
      event = record { who = who; call = WriteChain v d; answer = Written n };
      is = ap (λ (y : Chain). record { who = who; call = WriteChain v y; answer = Written n }) made;
      before = h.others;
      after = [];
      seen = h.seen ∙ ap (λ es. (old ++ h.others) ++ es) h.event;
    };
    chain_is = copy ∙ made;
  }

  -- Where a write is refused

  pub lost_goes : (n : ℕ) (d e : Chain) (new : List Event) → IsTurn law who old (WriteChain v d) (Conflict n e) new → GoesBy (state_of new) n e k
  lost_goes n d e new h =
      let x = lost_ok law who old v c d goes.given n e new h in
      goes_onto law v k n c e old new legal (turn_later law who old (WriteChain v d) (Conflict n e) new h) goes x.given x.last

  pub lost_rises : (n : ℕ) (d e : Chain) (new : List Event) → IsTurn law who old (WriteChain v d) (Conflict n e) new → (last_segment c).id ≤ (last_segment e).id
  lost_rises n d e new h = (lost_ok law who old v c d goes.given n e new h).last

  -- the version is later, and not great
  pub lost_later : (n : ℕ) (d e : Chain) (new : List Event) → IsTurn law who old (WriteChain v d) (Conflict n e) new → (v < n) × (n ≤ 2 ^ 38 + 64)
  lost_later n d e new h = let x = lost_ok law who old v c d goes.given n e new h in (x.later, x.few)

  pub lost : (n : ℕ) (d e : Chain) (new : List Event) → IsTurn law who old (WriteChain v d) (Conflict n e) new → IsLost who old n e new
  lost n d e new h = record {
    expected = v;
    asked = d;
    event = record { event = record { who = who; call = WriteChain v d; answer = Conflict n e }; is = refl; before = h.others; after = []; seen = h.seen ∙ ap (λ es. (old ++ h.others) ++ es) h.event };
    quiet = turn_quiet law who old (WriteChain v d) (Conflict n e) new h refl;
  }

  -- a chain that hasn't the change lacks it
  pub lacks_still : (x : Change) (n : ℕ) (d e : Chain) (new : List Event) → Lacks x c → IsTurn law who old (WriteChain v d) (Conflict n e) new → (b : Bool) → b ≡ false → ((b ≡ true) ↔ Has x e) → Lacks x e
  lacks_still (Close last t) n d e new is h b off test =
      let x = lost_ok law who old v c d goes.given n e new h in
      let on = goes_later law old new v k c (turn_later law who old (WriteChain v d) (Conflict n e) new h) goes in
      let low : (last_segment e).id ≤ last.id = ⊎_elim
      (λ (up : last.id < (last_segment e).id). let yes : true ≡ false = sym (test.1 up) ∙ off in absurd (cc))
      (λ (l : (last_segment e).id ≤ last.id). l)
      (cases_lt last.id (last_segment e).id) in
      same_last (length law.shelf) (state_of new) v n c e (sound law new h.legal) on.given x.given (omega (arith, x.last, low, ap (λ (s : Segment). s.id) is)) ∙ is
  lacks_still (Raise m) n d e new low h b off test =
      ⊎_elim
      (λ (l : e.trim < m). l)
      (λ (up : m ≤ e.trim). let yes : true ≡ false = sym (test.1 up) ∙ off in absurd (cc))
      (cases_lt e.trim m)

-- what came of writes since a later moment came of the writes since an earlier one, where there was no other that stands
pub settled_since : (who user : ℕ) (a b new more : List Event) (x : Change) (n : ℕ) (c : Chain) (o : Settled) → user ≡ who → b ≡ a ++ more → WroteNone who a b → Settles user b x n c new o → Settles who a x n c new o
settled_since who user a b new more x n c settled.Written same is quiet h =
    let w = subst (λ u. IsMade u b x n c new) same h in record {
      expected = w.expected;
      before = w.before;
      given = w.given;
      lacks = w.lacks;
      event = event_since (λ e. e ≡ record { who = who; call = WriteChain w.expected (with_change x w.before); answer = Written n }) a b new more is w.event;
      chain_is = w.chain_is;
    }
settled_since who user a b new more x n c settled.Found same is quiet h =
    let w = subst (λ u. IsLost u b n c new) same h in record {
      expected = w.expected;
      asked = w.asked;
      event = event_since (λ e. e ≡ record { who = who; call = WriteChain w.expected w.asked; answer = Conflict n c }) a b new more is w.event;
      quiet = wrote_trans who a b new quiet w.quiet;
    }
