-- The writes that close the last segment of a chain.
use Rattle.std.proofs.Common.{◌≡◌, ℕ, ◌+◌, ◌<◌, ◌^◌, max, List, [], ◌∷◌, ◌++◌, length, Some, refl, sym, ap, ◌∙◌, subst, arith}
use Rattle.std.specs.Prelude.{Contains}
use Rattle.delos_types.specs.declared.chain.Segment.{Segment}
use Rattle.delos_types.specs.declared.chain.Chain.{Chain}
use Rattle.chain_map.specs.Chain.{last_of_segments, last_segment}
use Rattle.chain_map.specs.Step.{extended}
use Rattle.legal_journal.specs.Law.{Law}
use Rattle.legal_journal.specs.declared.events.Event.{Event}
use Rattle.legal_journal.specs.declared.events.FabricCall.TheVariants.{ReadChain, WriteChain}
use Rattle.legal_journal.specs.declared.events.FabricAnswer.TheVariants.{At, Written, Conflict}
use Rattle.legal_journal.specs.Journal.{State, state_of, IsLegal, ends}
use Rattle.legal_journal.proofs.Log.{next, last_open, last_of_segments-extended_segments}
use Rattle.legal_journal.proofs.Sound.{StateOk}
use Rattle.legal_journal.proofs.Legal.{sound}
use Rattle.virtual_log.specs.Log.{GoesBy}
use Rattle.virtual_log.specs.declared.write.Change.TheVariants.{Close}
use Rattle.virtual_log.specs.Changing.{IsMade}
use Rattle.virtual_log.specs.declared.extend.Extension.{Extension}
use Rattle.virtual_log.specs.declared.extend.Extension.TheVariants.{Extended, Moved, NoSpare}
use Rattle.virtual_log.specs.Extending.{IsWritten, IsRefused, Closes, IsClosed, Follows}
use Rattle.virtual_log.specs.Writing.{WroteNone}
use Rattle.virtual_log.proofs.OneTurn.{event_since}
use Rattle.virtual_log.proofs.Writing.{wrote_trans, another_wrote, refusal_tells}
use Rattle.virtual_log.proofs.Replacing.{fits, last_started}
use Rattle.virtual_log.proofs.Going.{goes_further}

segment_is : (a b : Segment) → a.id ≡ b.id → a.start ≡ b.start → a.end ≡ b.end → a ≡ b
segment_is a b i s e =
    ap (λ n. record { id = n; start = a.start; end = a.end }) i
    ∙ (ap (λ n. record { id = b.id; start = n; end = a.end }) s ∙ ap (λ o. record { id = b.id; start = b.start; end = o }) e)

-- two known chains with one last loglet have one last segment
pub same_last : (cells : ℕ) (w : State) (v n : ℕ) (c d : Chain) → StateOk cells w → w.register.given v ≡ Some c → w.register.given n ≡ Some d → (last_segment c).id ≡ (last_segment d).id → last_segment d ≡ last_segment c
same_last cells w v n c d ok given given' same =
    let g = ok.olds v c given in
    let h = ok.olds n d given' in
    let both : Some (last_segment c).start ≡ Some (last_segment d).start = sym (last_started cells w v c ok given) ∙ (ap w.starts same ∙ last_started cells w n d ok given') in
    let start_is : (last_segment d).start ≡ (last_segment c).start = cc in
    segment_is (last_segment d) (last_segment c) (sym same) start_is (last_open (ends w.cells) h.id h.from d.segments h.joined ∙ sym (last_open (ends w.cells) g.id g.from c.segments g.joined))

module _ (law : Law) where
  -- where a sealed tail was answered the chain goes on
  pub seam : (es : List Event) (v k t : ℕ) (c : Chain) → IsLegal law es → GoesBy (state_of es) v c k → Contains ((state_of es).cells (last_segment c).id).ends t → (last_segment c).start + t < 2 ^ 64
  seam es v k t c legal goes told = (fits (length law.shelf) (state_of es) v t c (sound law es legal) goes.given told).seam

  -- more is known where the last segment was closed
  pub closed_goes : (who : ℕ) (old new : List Event) (last : Segment) (t n k k' start : ℕ) (c : Chain) → IsLegal law new → IsMade who old (Close last t) n c new → GoesBy (state_of new) n c k → start ≡ last.start + t → k' ≡ max k start → GoesBy (state_of new) n c k'
  closed_goes who old new last t n k k' start c legal m goes start_is max_is =
      let g = (sound law new legal).olds m.expected m.before m.given in
      let last_is : last_segment c ≡ next (last_segment m.before) t = ap (λ (x : Chain). last_of_segments x.segments) m.chain_is ∙ last_of_segments-extended_segments (ends (state_of new).cells) g.id g.from m.before.segments t g.joined in
      goes_further law new n k start k' c (last_segment c) goes refl (omega (arith, start_is, ap (λ (s : Segment). s.start) last_is, ap (λ (s : Segment). s.start) m.lacks)) max_is

pub closed_so : (who : ℕ) (old new : List Event) (last s : Segment) (t n : ℕ) (c : Chain) → last ≡ s → IsMade who old (Close last t) n c new → IsWritten who old s n (last.start + t) new
closed_so who old new last s t n c is m = record {
  expected = m.expected;
  before = m.before;
  at = t;
  event = m.event;
  last_is = m.lacks ∙ is;
  start_is = ap (λ (x : Segment). x.start + t) is;
}

-- what was written or refused since a later moment was since an earlier one
pub written_since : (who : ℕ) (a b : List Event) (s z : Segment) (n start : ℕ) (new more : List Event) → b ≡ a ++ more → s ≡ z → IsWritten who b s n start new → IsWritten who a z n start new
written_since who a b s z n start new more is same w = record {
  expected = w.expected;
  before = w.before;
  at = w.at;
  event = event_since (λ e. e ≡ record { who = who; call = WriteChain w.expected (extended w.before w.at); answer = Written n }) a b new more is w.event;
  last_is = w.last_is ∙ same;
  start_is = w.start_is ∙ ap (λ (x : Segment). x.start + w.at) same;
}

pub refusal_since : (who : ℕ) (a b : List Event) (s z : Segment) (n : ℕ) (new more : List Event) → b ≡ a ++ more → s ≡ z → IsRefused who b s n new → IsRefused who a z n new
refusal_since who a b s z n new more is same w = record {
  expected = w.expected;
  asked = w.asked;
  chain = w.chain;
  event = event_since (λ e. e ≡ record { who = who; call = WriteChain w.expected w.asked; answer = Conflict n w.chain }) a b new more is w.event;
  behind = subst (λ (x : Segment). x.id < (last_segment w.chain).id) same w.behind;
}

-- what the writes since a later moment came to, by a look at the chain before it
pub closed_since : (law : Law) (who v : ℕ) (c : Chain) (old others a b new more : List Event) → IsLegal law new → a ≡ (old ++ others) ++ record { who = who; call = ReadChain; answer = At v c } ∷ []
    → b ≡ a ++ more → WroteNone who a b → (k k' v' : ℕ) (x : Extension) → Closes who b (last_segment c) k k' v' new x → IsClosed who a (last_segment c) k k' v' new x
closed_since law who v c old others a b new more legal look is quiet k k' v' (Extended n start) h = (written_since who a b (last_segment c) (last_segment c) n start new more is refl h.0, h.1, h.2)
closed_since law who v c old others a b new more legal look is quiet k k' v' (Moved n) h =
    let far = refusal_tells law who b new h.0.expected n h.0.asked h.0.chain legal h.0.event in
    let up : (last_segment c).id < (last_segment (state_of new).register.chain).id = omega (arith, far, h.0.behind) in (
      record {
        refused = refusal_since who a b (last_segment c) (last_segment c) n new more is refl h.0;
        another = another_wrote law who old others new v c a legal look (wrote_trans who a b new quiet h.1) up;
      },
      h.2,
      h.3,
    )
closed_since law who v c old others a b new more legal look is quiet k k' v' NoSpare h = absurd h

pub follows_closed : (cells who : ℕ) (a : List Event) (s : Segment) (k k' v' : ℕ) (rest new : List Event) (x : Extension) → s.id + 1 < cells → IsClosed who a s k k' v' new x → Follows cells who a s k k' v' rest new x
follows_closed cells who a s k k' v' rest new (Extended n start) l h = (l, h)
follows_closed cells who a s k k' v' rest new (Moved n) l h = (l, h)
follows_closed cells who a s k k' v' rest new NoSpare l h = absurd h
