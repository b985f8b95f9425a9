-- Numbered parts with which one journal was seen.
use Rattle.std.proofs.Common.{◌≡◌, ℕ, zero, suc, ◌+◌, ◌<◌, ◌≤◌, List, [], ◌∷◌, ◌++◌, length, take, drop, refl, ap, ◌∙◌, subst, arith}
use mathlib.Core.Logic.{dite}
use native.Mathlib.Decide.{ℕ_discrete}
use Rattle.std.specs.List.{Contains}
use Rattle.std.proofs.lemmas.List.Elements.{All-head, All-tail}
use Rattle.legal_journal.specs.declared.events.Event.{Event}
use Rattle.pass_lock.specs.Journal.{Part, Follows, IsKnown, numbers}
use Rattle.pass_lock.specs.Pass.{numbered, brought, first_seen}
use Rattle.node_threads.specs.Passes.{signer, parts_from}

pub brought_first : (j : List Event) (k n : ℕ) → take 1 (brought j (numbered k (suc n))) ≡ (k, j) ∷ []
unfolding numbered
brought_first j k n = refl

pub brought_others : (j : List Event) (k n : ℕ) → drop 1 (brought j (numbered k (suc n))) ≡ brought j (numbered (suc k) n)
unfolding numbered
brought_others j k n = refl

pub brought_size : (j : List Event) (k n : ℕ) → length (brought j (numbered k n)) ≡ n
unfolding numbered
brought_size j k zero = refl
brought_size j k (suc n) = omega (arith, brought_size j (suc k) n)

pub first_brought : (j : List Event) (k n : ℕ) → 0 < n → first_seen (brought j (numbered k n)) ≡ j
unfolding numbered
first_brought j k zero l = absurd (omega arith)
first_brought j k (suc n) l = refl

pub brought_again : (j was : List Event) (k n : ℕ) → brought j (brought was (numbered k n)) ≡ brought j (numbered k n)
unfolding numbered
brought_again j was k zero = refl
brought_again j was k (suc n) = ap (λ (l : List (Part Event)). (k, j) ∷ l) (brought_again j was (suc k) n)

-- each of these parts is known: what the journal has behind what was seen isn't theirs
pub known_at : (journal was : List Event) (k n : ℕ) → IsKnown signer journal (brought was (numbered k n)) → (i : ℕ) → k ≤ i → i < k + n → Follows signer i was journal
unfolding numbered
known_at journal was k zero known i from below = absurd (omega arith)
known_at journal was k (suc n) known i from below = let P : Part Event → Type 0 = λ p. Follows signer p.0 p.1 journal in
    dite (ℕ_discrete k i)
    (λ is. subst (λ (m : ℕ). Follows signer m was journal) is (All-head P (k, was) (brought was (numbered (suc k) n)) known))
    (λ ne. known_at journal was (suc k) n (All-tail P (k, was) (brought was (numbered (suc k) n)) known) i (omega arith) (omega arith))

-- the numbers of these parts
pub number_below : (j : List Event) (k n who : ℕ) → Contains (numbers (brought j (numbered k n))) who → who < k + n
unfolding numbered
number_below j k zero who has = absurd (let a = has.1 in omega arith)
number_below j k (suc n) who (zero, l, e) = let a : k ≡ who = e in omega arith
number_below j k (suc n) who (suc i, l, e) = let a = number_below j (suc k) n who (i, omega arith, e) in omega arith

pub numbers_brought : (j : List Event) (ps : List (Part Event)) → numbers (brought j ps) ≡ numbers ps
numbers_brought j [] = refl
numbers_brought j (p ∷ ps) = ap (λ (l : List ℕ). p.0 ∷ l) (numbers_brought j ps)

-- brought to one journal, these parts and those from there on are all parts again
pub brought_parts : (j was : List Event) (k : ℕ) (ss : List (List Event)) (m n t : ℕ) → m ≡ k + length ss → t ≡ length ss + n → brought j (parts_from k ss ++ brought was (numbered m n)) ≡ brought j (numbered k t)
unfolding numbered
brought_parts j was k [] m n t em et = brought_again j was m n ∙ (λ i. brought j (numbered ((let e : m ≡ k = omega arith in e) i) ((let e : n ≡ t = omega arith in e) i)))
brought_parts j was k (s ∷ ss) m n t em et = ap (λ (l : List (Part Event)). (k, j) ∷ l) (brought_parts j was (suc k) ss m n (length ss + n) (omega arith) refl)
    ∙ ap (λ (x : ℕ). brought j (numbered k x)) (let e : suc (length ss + n) ≡ t = omega arith in e)

pub known_rest : (journal : List Event) (k : ℕ) (ss : List (List Event)) (qs : List (Part Event)) → IsKnown signer journal (parts_from k ss ++ qs) → IsKnown signer journal qs
known_rest journal k [] qs known = known
known_rest journal k (s ∷ ss) qs known = known_rest journal (suc k) ss qs (All-tail (λ (p : Part Event). Follows signer p.0 p.1 journal) (k, s) (parts_from (suc k) ss ++ qs) known)

-- the journal goes on behind what was seen with each part, by events of others
abbrev pub AllFollow : ℕ → List (List Event) → List Event → Type 0
AllFollow k [] journal = Unit {0}
AllFollow k (s ∷ ss) journal = Follows signer k s journal × AllFollow (suc k) ss journal

pub known_each : (journal : List Event) (k : ℕ) (ss : List (List Event)) (qs : List (Part Event)) → IsKnown signer journal (parts_from k ss ++ qs) → AllFollow k ss journal
known_each journal k [] qs known = tt
known_each journal k (s ∷ ss) qs known = let P : Part Event → Type 0 = λ p. Follows signer p.0 p.1 journal in
    (All-head P (k, s) (parts_from (suc k) ss ++ qs) known, known_each journal (suc k) ss qs (All-tail P (k, s) (parts_from (suc k) ss ++ qs) known))

pub parts_size : (k : ℕ) (ss : List (List Event)) → length (parts_from k ss) ≡ length ss
parts_size k [] = refl
parts_size k (s ∷ ss) = omega (arith, parts_size (suc k) ss)

pub brought_none : (k n : ℕ) → brought [] (numbered k n) ≡ numbered {E = Event} k n
unfolding numbered
brought_none k zero = refl
brought_none k (suc n) = ap (λ (l : List (Part Event)). (k, []) ∷ l) (brought_none (suc k) n)

pub first_none : (k n : ℕ) → first_seen (numbered {E = Event} k n) ≡ []
unfolding numbered
first_none k zero = refl
first_none k (suc n) = refl
