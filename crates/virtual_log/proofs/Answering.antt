-- Which answers never come.
use Rattle.std.proofs.Common.{◌≡◌, ◌≢◌, ℕ, ◌+◌, ◌<◌, List, [], ◌∷◌, ◌++◌, Some, None, refl, sym, ap, ◌∙◌, subst, ⊎_elim, arith}
use Rattle.std.specs.Prelude.{Contains}
use Rattle.delos_types.specs.declared.entry.Entry.{Entry}
use Rattle.delos_types.specs.declared.chain.Chain.{Chain}
use Rattle.chain_map.specs.Chain.{last_of_segments}
use Rattle.loglet_api.specs.declared.call.Op.{Op}
use Rattle.loglet_api.specs.declared.call.Op.TheVariants.{Append, Tail, Seal, Read, Trim}
use Rattle.loglet_api.specs.declared.call.Answer.{Answer}
use Rattle.loglet_api.specs.declared.call.Answer.TheVariants as answers
use Rattle.legal_journal.specs.Law.{Law}
use Rattle.legal_journal.specs.Told.{Told, Running, MayAnswer, started}
use Rattle.legal_journal.specs.declared.events.Event.{Event}
use Rattle.legal_journal.specs.declared.events.FabricCall.{FabricCall}
use Rattle.legal_journal.specs.declared.events.FabricAnswer.{FabricAnswer}
use Rattle.legal_journal.specs.declared.events.FabricCall.TheVariants.{Begin, Carry, Forget, ReadChain, WriteChain}
use Rattle.legal_journal.specs.declared.events.FabricAnswer.TheVariants.{Begun, Full, Done, Going, Gone, NoTicket, At, Down, Written, Conflict, MetaFault, Memory}
use Rattle.legal_journal.specs.Moves.{Never, move_of}
use Rattle.legal_journal.specs.Journal.{state_of, ends, IsOwn, IsAllowed, IsLegal}
use Rattle.legal_journal.specs.Turns.{IsTurn}
use Rattle.legal_journal.proofs.Log.{closed_or_last}
use Rattle.legal_journal.proofs.Taken.{took}
use Rattle.virtual_log.specs.Turning.{Later, Opened, Answered}
use Rattle.virtual_log.specs.Log.{GoesBy}
use Rattle.virtual_log.proofs.OneTurn.{kept}
use Rattle.virtual_log.proofs.Appending.{moments}
use Rattle.virtual_log.proofs.Reading.{Place, below_end, reached_by}

-- Of a fabric

module _ (law : Law) (who : ℕ) (old new : List Event) where
  never : (call : FabricCall) (answer : FabricAnswer) → (t : IsTurn law who old call answer new) → t.own ≡ record { who = who; call = call; answer = answer } ∷ [] → move_of call answer ≡ Never → ⊥
  never call answer t own is =
      let k = took law old t.others _ new t.legal (t.seen ∙ ap (λ es. (old ++ t.others) ++ es) own) in
      subst (IsAllowed (state_of (old ++ t.others)) law who) is k.allowed

  pub look_answers : (answer : FabricAnswer) → IsTurn law who old ReadChain answer new → ((v : ℕ) (c : Chain) → answer ≢ At v c) → answer ≢ Down → answer ≢ Memory → ⊥
  look_answers (At v c) t at down memory = at v c refl
  look_answers Down t at down memory = down refl
  look_answers Memory t at down memory = memory refl
  look_answers a t at down memory = never ReadChain a t t.event refl

  pub begin_answers : (i : ℕ) (op : Op) (answer : FabricAnswer) → IsTurn law who old (Begin i op) answer new → ((t : ℕ) → answer ≢ Begun t) → answer ≢ Full → answer ≢ Memory → ⊥
  begin_answers i op (Begun n) t begun full memory = begun n refl
  begin_answers i op Full t begun full memory = full refl
  begin_answers i op Memory t begun full memory = memory refl
  begin_answers i op a t begun full memory = never (Begin i op) a t t.event refl

  pub write_answers : (x : ℕ) (c : Chain) (answer : FabricAnswer) → IsTurn law who old (WriteChain x c) answer new → ((v : ℕ) → answer ≢ Written v) → ((v : ℕ) (d : Chain) → answer ≢ Conflict v d) → answer ≢ MetaFault → answer ≢ Down → answer ≢ Memory → ⊥
  write_answers x c (Written v) t written conflict fault down memory = written v refl
  write_answers x c (Conflict v d) t written conflict fault down memory = conflict v d refl
  write_answers x c MetaFault t written conflict fault down memory = fault refl
  write_answers x c Down t written conflict fault down memory = down refl
  write_answers x c Memory t written conflict fault down memory = memory refl
  write_answers x c a t written conflict fault down memory = never (WriteChain x c) a t t.event refl

  pub forget_answers : (i n : ℕ) (answer : FabricAnswer) → IsTurn law who old (Forget i n) answer new → answer ≢ Gone → answer ≢ NoTicket → answer ≢ Memory → ⊥
  forget_answers i n Gone t gone none memory = gone refl
  forget_answers i n NoTicket t gone none memory = none refl
  forget_answers i n Memory t gone none memory = memory refl
  forget_answers i n a t gone none memory = never (Forget i n) a t t.event refl

  -- an own ticket stays open until it is answered
  pub carry_answers : (i n word : ℕ) (r : Running) (answer : FabricAnswer) → IsLegal law old → IsOwn ((state_of old).cells i) who n r → IsTurn law who old (Carry i n word) answer new → ((a : Answer) → answer ≢ Done a) → answer ≢ Going → answer ≢ Memory → ⊥
  carry_answers i n word r (Done a) was own t done going memory = done a refl
  carry_answers i n word r Going was own t done going memory = going refl
  carry_answers i n word r Memory was own t done going memory = memory refl
  carry_answers i n word r NoTicket was own t done going memory =
      let k = took law old t.others _ new t.legal (t.seen ∙ ap (λ es. (old ++ t.others) ++ es) t.event) in
      let keeps = kept law who old new i n r t.others t.apart was k.legal_others own in
      let both : None ≡ Some r = sym k.allowed ∙ keeps.own.is_open in
      absurd (cc)
  carry_answers i n word r a was own t done going memory = never (Carry i n word) a t t.event refl

-- Of a loglet

pub append_answers : (c : Told) (r : Running) (e : Entry) (a : Answer) → MayAnswer c r (Append e) a → ((p : ℕ) → a ≢ answers.Placed p) → a ≢ answers.Sealed → ((u : ℕ) → a ≢ answers.NoQuorum u) → ⊥
append_answers c r e (answers.Placed p) h placed sealed lack = placed p refl
append_answers c r e answers.Sealed h placed sealed lack = sealed refl
append_answers c r e (answers.NoQuorum u) h placed sealed lack = lack u refl
append_answers c r e a h placed sealed lack = h

pub tail_answers : (c : Told) (r : Running) (a : Answer) → MayAnswer c r Tail a → ((n : ℕ) → a ≢ answers.OpenTail n) → ((n : ℕ) → a ≢ answers.SealedTail n) → ((u : ℕ) → a ≢ answers.NoQuorum u) → ⊥
tail_answers c r (answers.OpenTail n) h opens ends lack = opens n refl
tail_answers c r (answers.SealedTail n) h opens ends lack = ends n refl
tail_answers c r (answers.NoQuorum u) h opens ends lack = lack u refl
tail_answers c r a h opens ends lack = h

pub seal_answers : (c : Told) (r : Running) (a : Answer) → MayAnswer c r Seal a → a ≢ answers.SealDone → ((u : ℕ) → a ≢ answers.NoQuorum u) → ⊥
seal_answers c r answers.SealDone h done lack = done refl
seal_answers c r (answers.NoQuorum u) h done lack = lack u refl
seal_answers c r a h done lack = h

pub trim_answers : (c : Told) (r : Running) (n : ℕ) (a : Answer) → MayAnswer c r (Trim n) a → a ≢ answers.TrimDone → ((u : ℕ) → a ≢ answers.NoQuorum u) → ⊥
trim_answers c r n answers.TrimDone h done lack = done refl
trim_answers c r n (answers.NoQuorum u) h done lack = lack u refl
trim_answers c r n a h done lack = h

pub read_answers : (c : Told) (r : Running) (p : ℕ) (a : Answer) → MayAnswer c r (Read p) a → ((e : Entry) → a ≢ answers.Got e) → ((n : ℕ) → a ≢ answers.CutAt n) → ((u : ℕ) → a ≢ answers.NoQuorum u) → ((n : ℕ) → a ≢ answers.Beyond n) → ⊥
read_answers c r p (answers.Got e) h got cut lack beyond = got e refl
read_answers c r p (answers.CutAt n) h got cut lack beyond = cut n refl
read_answers c r p (answers.NoQuorum u) h got cut lack beyond = lack u refl
read_answers c r p (answers.Beyond n) h got cut lack beyond = beyond n refl
read_answers c r p a h got cut lack beyond = h

-- a read of a known position isn't beyond what answers spoke of
pub never_beyond : (law : Law) (who : ℕ) (old mid new : List Event) (v known pos id index t n : ℕ) (c : Chain) → IsLegal law old → GoesBy (state_of old) v c known → pos < known → Place (state_of old) c pos id index → (first : Later law old mid) → Later law mid new → (o : Opened who old id (Read index) t mid) → Answered who mid id t (started ((state_of (old ++ o.first.others)).cells id).told (Read index)) (answers.Beyond n) new → ⊥
never_beyond law who old mid new v known pos id index t n c legal g low p first second o x =
    let w = state_of (old ++ o.first.others) in
    let m = moments law who old mid new id p.segment.start t (Read index) (answers.Beyond n) (started (w.cells id).told (Read index)) legal first second o x p.started in
    let joined = m.begin_ok.olds v c (m.to_begin.given v c g.given) in
    let cell = m.begin_ok.cell id in
    ⊎_elim
    (λ (y : p.segment ≡ last_of_segments c.segments).
    let far = reached_by (state_of old) v known pos id index c g low p y in
    absurd (omega (arith, far, (m.to_begin.cell id).reach, cell.reach, x.may.1)))
    (λ (y : (t : ℕ) × (p.segment.end ≡ Some (p.segment.start + t)) × Contains (ends w.cells p.segment.id) t).
    let end = below_end pos (p.segment.start + y.0) p.segment.end y.1 p.holds.below in
    let told = (m.begin_ok.cell p.segment.id).ends y.0 y.2 in
    absurd (omega (arith, end, p.at, told.3, x.may.1, ap (λ k. (w.cells k).told.firm) p.id_is)))
    (closed_or_last (ends w.cells) joined.id joined.from c.segments p.segment joined.joined p.in_chain)
