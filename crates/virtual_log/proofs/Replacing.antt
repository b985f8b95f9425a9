-- The writes of a replacement.
use Rattle.std.proofs.Common.{◌≡◌, ◌≢◌, inl, inr, ℕ, ◌+◌, ◌<◌, ◌≤◌, ◌^◌, List, ◌++◌, length, Some, None, Bool, true, false, refl, sym, ap, ◌∙◌, arith}
use Rattle.std.specs.Prelude.{Contains, nat_lt}
use Rattle.std.proofs.lemmas.Bool.Decides.{nat_tests}
use Rattle.delos_types.specs.declared.chain.Segment.{Segment}
use Rattle.delos_types.specs.declared.chain.Chain.{Chain}
use Rattle.chain_map.specs.Chain.{last_of_segments, IsChain}
use Rattle.chain_map.specs.Step.{extended}
use Rattle.legal_journal.specs.Law.{Law}
use Rattle.legal_journal.specs.declared.events.Event.{Event}
use Rattle.legal_journal.specs.declared.events.FabricCall.TheVariants.{WriteChain}
use Rattle.legal_journal.specs.declared.events.FabricAnswer.TheVariants.{Written, Conflict}
use Rattle.legal_journal.specs.Journal.{State, state_of, IsLegal, last_segment, ends, IsCurrent}
use Rattle.legal_journal.specs.Turns.{IsTurn, MayTurn}
use Rattle.legal_journal.proofs.Log.{last_starts}
use Rattle.legal_journal.proofs.Sound.{StateOk}
use Rattle.legal_journal.proofs.Legal.{sound, goes_on}
use Rattle.legal_journal.proofs.Chains.{chain_ok}
use Rattle.legal_journal.proofs.Cells.{put_same}
use Rattle.legal_journal.proofs.Taken.{took}
use Rattle.virtual_log.specs.Turning.{Looked}

-- the last segment of a chain that was given started where the chain says
pub last_started : (cells : ℕ) (w : State) (v : ℕ) (c : Chain) → StateOk cells w → w.register.given v ≡ Some c → w.starts (last_of_segments c.segments).id ≡ Some (last_of_segments c.segments).start
last_started cells w v c ok given =
    let g = ok.olds v c given in
    g.start (last_of_segments c.segments).id (last_of_segments c.segments).start (last_starts (ends w.cells) g.id g.from c.segments g.joined)

-- an answered sealed tail of the last cell of a known chain: there is a next cell, and the numbers fit
pub record Fits (cells : ℕ) (c : Chain) (t : ℕ) : Type 0 where
  pub chain : IsChain c
  pub spare : (last_of_segments c.segments).id + 1 < cells
  pub few : cells ≤ 64
  pub seam : (last_of_segments c.segments).start + t < 2 ^ 64

pub fits : (cells : ℕ) (w : State) (v t : ℕ) (c : Chain) → StateOk cells w → w.register.given v ≡ Some c → Contains (w.cells (last_of_segments c.segments).id).ends t → Fits cells c t
fits cells w v t c ok given told =
    let i = (last_of_segments c.segments).id in
    let cell = ok.cell i in
    let end = cell.ends t told in
    let sealed = (cell.cap end.0 end.1).1 in
    let start = ok.rooms i (last_of_segments c.segments).start (last_started cells w v c ok given) in
    let spare = ok.spare i (cell.seals sealed) in record {
      chain = chain_ok cells w v c ok given;
      spare = spare;
      few = ok.few;
      seam = omega (arith, start, spare, ok.few, end.3, cell.firm, cell.room);
    }

-- a conflict brings a later version, and a chain whose last cell is no earlier
pub record Lost (v : ℕ) (c : Chain) (n : ℕ) (e : Chain) (new : List Event) : Type 0 where
  pub later : v < n
  pub given : (state_of new).register.given n ≡ Some e
  pub last : (last_of_segments c.segments).id ≤ (last_of_segments e.segments).id
  pub is_last : last_segment (state_of new) ≡ last_of_segments e.segments
  pub few : n ≤ 2 ^ 38 + 64

module _ (law : Law) (who : ℕ) (old : List Event) (v : ℕ) (c d : Chain) (given : (state_of old).register.given v ≡ Some c) where
  pub written_given : (n : ℕ) (new : List Event) → IsTurn law who old (WriteChain v d) (Written n) new → (state_of new).register.given n ≡ Some d
  written_given n new h =
      let k = took law old h.others _ new h.legal (h.seen ∙ ap (λ es. (old ++ h.others) ++ es) h.event) in
      ap (λ (x : State). x.register.given n) k.now ∙ put_same (state_of (old ++ h.others)).register.given n (Some d)

  pub lost_ok : (n : ℕ) (e : Chain) (new : List Event) → IsTurn law who old (WriteChain v d) (Conflict n e) new → Lost v c n e new
  lost_ok n e new h =
      let k = took law old h.others _ new h.legal (h.seen ∙ ap (λ es. (old ++ h.others) ++ es) h.event) in
      let w = state_of (old ++ h.others) in
      let chain_is : (state_of new).register.chain ≡ e = ap (λ (x : State). x.register.chain) k.now in
      let version_is : (state_of new).register.version ≡ n = ap (λ (x : State). x.register.version) k.now in
      let ok = k.now_ok in
      let given_now = k.goes.given v c (k.before.given v c given) in
      let old_one = ok.olds v c given_now in
      let below : v ≤ w.register.version = born w v c k.ok (k.before.given v c given) in
      let is_last : last_segment (state_of new) ≡ last_of_segments e.segments = ap (λ (x : Chain). last_of_segments x.segments) chain_is in
      record {
        later = rises w n e below k.allowed.2 k.allowed.1;
        given = ap (state_of new).register.given (sym version_is) ∙ (ok.given ∙ ap (λ x. Some x) chain_is);
        last = omega (arith, old_one.last, ap (λ (s : Segment). s.id) is_last);
        is_last = is_last;
        few = omega (arith, version_is, ok.version, ok.trim, ok.shelf, h.legal.most);
      }
    where
      born : (w : State) (x : ℕ) (y : Chain) → StateOk (length law.shelf) w → w.register.given x ≡ Some y → x ≤ w.register.version
      born w x y ok g = by_test (nat_lt w.register.version x) refl
        where
          by_test : (b : Bool) → nat_lt w.register.version x ≡ b → x ≤ w.register.version
          by_test true b = let l : w.register.version < x = grind (arith, nat_tests) in let no : Some y ≡ None = sym g ∙ ok.unborn x l in absurd (cc)
          by_test false b = grind (arith, nat_tests)

      rises : (w : State) (m : ℕ) (y : Chain) → v ≤ w.register.version → v ≢ m → IsCurrent w.register m y → v < m
      rises w m y l apart (inl x) = omega arith
      rises w m y l apart (inr x) = omega arith

module _ (law : Law) (who : ℕ) (old : List Event) (v t : ℕ) (c d : Chain) (given : (state_of old).register.given v ≡ Some c) (told : Contains ((state_of old).cells (last_of_segments c.segments).id).ends t) (is : d ≡ extended c t) where
  pub may_write : IsLegal law old → MayTurn law who old (WriteChain v d)
  may_write legal others apart now =
      let goes = goes_on law old others now in
      let f = fits (length law.shelf) (state_of old) v t c (sound law old legal) given told in
      record { there = tt; asks = (c, goes.given v c given, inl (record { at = t; told = (goes.cell (last_of_segments c.segments).id).ends t told; spare = f.spare; is = is })) }

-- a chain that the register just gave
pub given_now : (law : Law) (who v : ℕ) (c : Chain) (old new : List Event) → IsLegal law new → Looked who old v c new → (state_of new).register.given v ≡ Some c
given_now law who v c old new legal l =
    let w = state_of new in
    ap w.register.given (sym l.version_is) ∙ ((sound law new legal).given ∙ ap (λ x. Some x) l.chain_is)

-- the last segment of a chain that was just given is no earlier than one that started
pub later_last : (law : Law) (who v i s : ℕ) (c : Chain) (old new : List Event) → IsLegal law new → Looked who old v c new → (state_of new).starts i ≡ Some s → i ≤ (last_of_segments c.segments).id
later_last law who v i s c old new legal l at =
    omega (arith, (sound law new legal).ids i s at, ap (λ (x : Chain). (last_of_segments x.segments).id) l.chain_is)
