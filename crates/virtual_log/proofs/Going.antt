-- The chain that a virtual log goes by stays one that it may go by.
use Rattle.std.specs.Prelude.{nat_lt}
use Rattle.std.proofs.lemmas.Bool.Decides.{nat_tests}
use Rattle.std.proofs.Common.{◌≡◌, ℕ, ◌+◌, ◌-◌, ◌<◌, ◌≤◌, ◌^◌, max, List, [], length, Bool, true, false, None, Some, refl, sym, ap, ◌∙◌, subst, arith}
use Rattle.delos_types.specs.declared.chain.Segment.{Segment}
use Rattle.delos_types.specs.declared.chain.Chain.{Chain}
use Rattle.chain_map.specs.Chain.{first_chain, last_segment, last_of_segments}
use Rattle.legal_journal.specs.Law.{Law}
use Rattle.legal_journal.specs.declared.events.Event.{Event}
use Rattle.legal_journal.specs.Journal.{state_of, IsLegal, tail_of, trim_of}
use Rattle.legal_journal.proofs.Cells.{put_same}
use Rattle.legal_journal.proofs.Sound.{reach_le_end}
use Rattle.legal_journal.proofs.Legal.{sound, goes_on}
use Rattle.virtual_log.specs.Turning.{Later, Looked}
use Rattle.virtual_log.specs.Log.{GoesBy}
use Rattle.virtual_log.proofs.OneTurn.{later_continues}
use Rattle.virtual_log.proofs.Appending.{reach_below}
use Rattle.virtual_log.proofs.Replacing.{last_started, given_now}

module _ (law : Law) where
  -- the last segment of the chain started where the chain says
  pub last_there : (es : List Event) (v k : ℕ) (c : Chain) (s : Segment) → IsLegal law es → GoesBy (state_of es) v c k → s ≡ last_segment c → (state_of es).starts s.id ≡ Some s.start
  last_there es v k c s legal g is =
      subst (λ (x : Segment). (state_of es).starts x.id ≡ Some x.start) (sym is) (last_started (length law.shelf) (state_of es) v c (sound law es legal) g.given)

  -- the last loglet of a chain that was given is in the shelf
  pub last_within : (es : List Event) (v k : ℕ) (c : Chain) (s : Segment) → IsLegal law es → GoesBy (state_of es) v c k → s ≡ last_segment c → (s.id < length law.shelf) × (length law.shelf ≤ 64)
  last_within es v k c s legal g is =
      let ok = sound law es legal in
      (omega (arith, (ok.olds v c g.given).last, ok.shelf, ap (λ (x : Segment). x.id) is), ok.few)

  pub there_later : (a b : List Event) (i s : ℕ) → Later law a b → (state_of a).starts i ≡ Some s → (state_of b).starts i ≡ Some s
  there_later a b i s later at = (later_continues law a b later).starts i s at

  pub goes_later : (a b : List Event) (v k : ℕ) (c : Chain) → Later law a b → GoesBy (state_of a) v c k → GoesBy (state_of b) v c k
  goes_later a b v k c later g =
      let on = later_continues law a b later in
      record { given = on.given v c g.given; reached = omega (arith, g.reached, (on.cell (last_segment c).id).reach) }

  -- more is known, as far as the answers of the last loglet reach
  pub goes_further : (es : List Event) (v k n m : ℕ) (c : Chain) (s : Segment) → GoesBy (state_of es) v c k → s ≡ last_segment c → n ≤ s.start + ((state_of es).cells s.id).told.reach → m ≡ max k n → GoesBy (state_of es) v c m
  goes_further es v k n m c s g is low max_is =
      let at : n ≤ (last_segment c).start + ((state_of es).cells (last_segment c).id).told.reach = subst (λ (x : Segment). n ≤ x.start + ((state_of es).cells x.id).told.reach) is low in
      record { given = g.given; reached = omega (arith, g.reached, at, max_is) }

  pub reach_fits : (es : List Event) (i s n : ℕ) → IsLegal law es → (state_of es).starts i ≡ Some s → n ≤ s + ((state_of es).cells i).told.reach → n < 2 ^ 64
  reach_fits es i s n legal at low =
      let ok = sound law es legal in
      let cell = ok.cell i in
      omega (arith, ok.rooms i s at, ok.ids i s at, ok.shelf, legal.most, cell.reach, cell.firm, cell.room)

  -- the chain behind a loglet starts no lower than what is known
  pub goes_behind : (a b : List Event) (v k n : ℕ) (c d : Chain) (s : Segment) → IsLegal law a → Later law a b → GoesBy (state_of a) v c k → s ≡ last_segment c → (state_of b).register.given n ≡ Some d → s.id < (last_of_segments d.segments).id → GoesBy (state_of b) n d k
  goes_behind a b v k n c d s legal later g is given behind =
      let ok = sound law b later.legal in
      let on = goes_later a b v k c later g in
      let at = there_later a b s.id s.start later (last_there a v k c s legal g is) in
      let next = last_started (length law.shelf) (state_of b) n d ok given in
      let below = ok.order s.id (last_of_segments d.segments).id s.start (last_of_segments d.segments).start behind at next in
      let far = reach_le_end ((state_of b).cells s.id) below.0 (ok.cell s.id) below.1 in
      let known : k ≤ s.start + ((state_of b).cells s.id).told.reach = subst (λ (x : Segment). k ≤ x.start + ((state_of b).cells x.id).told.reach) (sym is) on.reached in
      record { given = given; reached = omega (arith, known, far, below.2) }

  -- a loop that goes behind a loglet ends
  pub fewer : (es : List Event) (v k i : ℕ) (c : Chain) → IsLegal law es → GoesBy (state_of es) v c k → i < (last_segment c).id → length law.shelf - (last_segment c).id < length law.shelf - i
  fewer es v k i c legal g up =
      let ok = sound law es legal in
      omega (arith, up, (ok.olds v c g.given).last, ok.shelf)

  -- a chain that was given and whose last loglet is no earlier may be gone by
  pub goes_onto : (v k n : ℕ) (c d : Chain) (a b : List Event) → IsLegal law a → Later law a b → GoesBy (state_of a) v c k → (state_of b).register.given n ≡ Some d → (last_segment c).id ≤ (last_segment d).id → GoesBy (state_of b) n d k
  goes_onto v k n c d a b legal later g given up = by_test (nat_lt (last_segment c).id (last_segment d).id) refl
    where
      by_test : (t : Bool) → nat_lt (last_segment c).id (last_segment d).id ≡ t → GoesBy (state_of b) n d k
      by_test true t = goes_behind a b v k n c d (last_segment c) legal later g refl given (grind (arith, nat_tests))
      by_test false t =
          let ok = sound law b later.legal in
          let on = goes_later a b v k c later g in
          let same : (last_segment c).id ≡ (last_segment d).id = grind (arith, nat_tests) in
          let both : Some (last_segment c).start ≡ Some (last_segment d).start = sym (last_started (length law.shelf) (state_of b) v c ok on.given) ∙ (ap (state_of b).starts same ∙ last_started (length law.shelf) (state_of b) n d ok given) in
          let start_is : (last_segment c).start ≡ (last_segment d).start = cc in
          record { given = given; reached = omega (arith, on.reached, start_is, ap (λ i. ((state_of b).cells i).told.reach) same) }

  -- the chain that the register gives now may be gone by
  pub goes_now : (who v k n : ℕ) (c d : Chain) (a b : List Event) → IsLegal law a → Later law a b → GoesBy (state_of a) v c k → Looked who a n d b → GoesBy (state_of b) n d k
  goes_now who v k n c d a b legal later g l =
      let ok = sound law b later.legal in
      let on = goes_later a b v k c later g in
      goes_onto v k n c d a b legal later g (given_now law who n d a b later.legal l)
      (omega (arith, (ok.olds v c on.given).last, ap (λ (x : Chain). (last_of_segments x.segments).id) l.chain_is))

  -- the chain that the register gives now has the log's trim, which is small
  pub trim_now : (who n : ℕ) (d : Chain) (a b : List Event) → Later law a b → Looked who a n d b → (d.trim ≡ trim_of (state_of b)) × (d.trim ≤ 2 ^ 38)
  trim_now who n d a b later l =
      let is : d.trim ≡ trim_of (state_of b) = ap (λ (x : Chain). x.trim) (sym l.chain_is) in
      (is, omega (arith, is, (sound law b later.legal).trim))

  -- a chain that was given has no higher trim than the log
  pub trim_below : (es : List Event) (v k : ℕ) (c : Chain) → IsLegal law es → GoesBy (state_of es) v c k → (c.trim ≤ trim_of (state_of es)) × (c.trim ≤ 2 ^ 38)
  trim_below es v k c legal g =
      let ok = sound law es legal in
      let low = (ok.olds v c g.given).trim in
      (low, omega (arith, low, ok.trim))

  -- what is known is below the tail
  pub known_below : (es : List Event) (v k : ℕ) (c : Chain) → IsLegal law es → GoesBy (state_of es) v c k → k ≤ tail_of (state_of es)
  known_below es v k c legal g =
      let ok = sound law es legal in
      omega (arith, g.reached, reach_below (length law.shelf) (state_of es) (last_segment c).id (last_segment c).start ok (last_started (length law.shelf) (state_of es) v c ok g.given))

  -- every journal gave the first chain
  pub goes_first : (es : List Event) (c : Chain) → IsLegal law es → c ≡ first_chain → GoesBy (state_of es) 1 c 0
  goes_first es c legal is =
      let on = goes_on law [] es legal in
      record { given = on.given 1 first_chain (put_same (λ _. None) 1 (Some first_chain)) ∙ ap (λ x. Some x) (sym is); reached = omega arith }
