-- The moments of a course.
use Rattle.std.proofs.Common.{◌≡◌, refl, sym, ap, ◌∙◌, subst, ℕ, zero, suc, ◌+◌, ◌-◌, ◌<◌, ◌≤◌, List, [], ◌∷◌, ◌++◌, length, arith, append_assoc, append-nil}
use Rattle.std.specs.Prelude.{get_or}
use Rattle.legal_journal.specs.Law.{Law}
use Rattle.legal_journal.specs.declared.events.Event.{Event}
use Rattle.legal_journal.specs.Journal.{IsLegal, state_of}
use Rattle.legal_journal.specs.Laws.{Continues}
use Rattle.legal_journal.proofs.Legal.{goes_on, legal_front}
use Rattle.node_lines.specs.Workers.{Grows}
use Rattle.node_course.specs.Moments.{NodeCourse, moment, tails, next_phase}

-- Elements, and what stands for those that a list lacks

module _ {A : Type 0} where
  get_within : (xs : List A) (p : ℕ) (d e : A) → p < length xs → get_or xs p d ≡ get_or xs p e
  get_within [] p d e low = absurd (omega (arith, low))
  get_within (x ∷ xs) zero d e low = refl
  get_within (x ∷ xs) (suc p) d e low = get_within xs p d e (omega (arith, low))

  get_beyond : (xs : List A) (p : ℕ) (d : A) → length xs ≤ p → get_or xs p d ≡ d
  get_beyond [] p d high = refl
  get_beyond (x ∷ xs) zero d high = absurd (omega (arith, high))
  get_beyond (x ∷ xs) (suc p) d high = get_beyond xs p d (omega (arith, high))

  get_pushed : (xs : List A) (p : ℕ) (d : A) → get_or (xs ++ d ∷ []) p d ≡ get_or xs p d
  get_pushed [] zero d = refl
  get_pushed [] (suc p) d = refl
  get_pushed (x ∷ xs) zero d = refl
  get_pushed (x ∷ xs) (suc p) d = get_pushed xs p d

-- Journals that begin others

pub grows_not : (a : List Event) → Grows a a
grows_not a = ([], sym (append-nil a))

pub grows_both : (a b c : List Event) → Grows a b → Grows b c → Grows a c
grows_both a b c h k = (h.0 ++ k.0, k.1 ∙ ap (λ l. l ++ k.0) h.1 ∙ append_assoc a h.0 k.0)

module _ (law : Law) where
  pub grown_legal : (a b : List Event) → Grows a b → IsLegal law b → IsLegal law a
  grown_legal a b g legal = legal_front law a g.0 (subst (IsLegal law) g.1 legal)

  pub grown_on : (a b : List Event) → Grows a b → IsLegal law b → Continues (state_of a) (state_of b)
  grown_on a b g legal = subst (λ l. Continues (state_of a) (state_of l)) (sym g.1) (goes_on law a g.0 (subst (IsLegal law) g.1 legal))

-- Moments

-- the present phase and those before began then, whatever came since
pub moment_past : (c c' : NodeCourse) (p : ℕ) → c'.begins ≡ c.begins → p < length c.begins → moment c' p ≡ moment c p
moment_past c c' p same low = ap (λ (bs : List (List Event)). get_or bs p c'.seen) same ∙ get_within c.begins p c'.seen c.seen low

pub moment_now : (c : NodeCourse) (p : ℕ) → length c.begins ≤ p → moment c p ≡ c.seen
moment_now c p high = get_beyond c.begins p c.seen high

pub moment_next : (c : NodeCourse) (p : ℕ) → moment (next_phase c) p ≡ moment c p
moment_next c p = get_pushed c.begins p c.seen

module _ (c : NodeCourse) (rise : (p : ℕ) → Grows (moment c p) (moment c (p + 1))) where
  moment_after : (p k : ℕ) → Grows (moment c p) (moment c (p + k))
  moment_after p zero = let same : p ≡ p + 0 = omega arith in subst (λ q. Grows (moment c p) (moment c q)) same (grows_not (moment c p))
  moment_after p (suc k) =
      let same : (p + k) + 1 ≡ p + suc k = omega arith in
      subst (λ q. Grows (moment c p) (moment c q)) same (grows_both (moment c p) (moment c (p + k)) (moment c ((p + k) + 1)) (moment_after p k) (rise (p + k)))

  pub moment_upto : (p q : ℕ) → p ≤ q → Grows (moment c p) (moment c q)
  moment_upto p q low = let same : p + (q - p) ≡ q = omega (arith, low) in subst (λ r. Grows (moment c p) (moment c r)) same (moment_after p (q - p))

  pub moment_seen : (p : ℕ) → Grows (moment c p) c.seen
  moment_seen p =
      let last : length c.begins ≤ p + length c.begins = omega arith in
      subst (Grows (moment c p)) (moment_now c (p + length c.begins) last) (moment_after p (length c.begins))

  module _ (law : Law) (legal : IsLegal law c.seen) where
    pub moment_legal : (p : ℕ) → IsLegal law (moment c p)
    moment_legal p = grown_legal law (moment c p) c.seen (moment_seen p) legal

    pub moments_on : (p q : ℕ) → p ≤ q → Continues (state_of (moment c p)) (state_of (moment c q))
    moments_on p q low = grown_on law (moment c p) (moment c q) (moment_upto p q low) (moment_legal q)

    pub moment_on : (p : ℕ) → Continues (state_of (moment c p)) (state_of c.seen)
    moment_on p = grown_on law (moment c p) c.seen (moment_seen p) legal

    pub tails_rise : (p : ℕ) → tails c p ≤ tails c (p + 1)
    tails_rise p = (moments_on p (p + 1) (omega arith)).tail
