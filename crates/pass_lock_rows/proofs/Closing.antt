-- What the journal of all turns says of each clerk.
use Rattle.std.proofs.Common.{◌≡◌, ℕ, zero, suc, ◌+◌, ◌-◌, ◌<◌, ◌≤◌, List, [], ◌∷◌, ◌++◌, length, length-append, ap, ◌∙◌, subst, arith}
use mathlib.Core.Logic.{dite}
use native.Mathlib.Decide.{ℕ_discrete}
use Rattle.std.specs.List.{All, Contains}
use Rattle.std.proofs.lemmas.List.Elements.{All-head, All-tail, All-weaker}
use Rattle.pass_lock.specs.Journal.{Part, Follows, IsKnown, Signed, numbers}
use Rattle.pass_lock.specs.Pass.{LockId, Known, numbered, all_parts}
use Rattle.pass_lock.proofs.Numbered.{numbered-length, numbered-unseen}
use Rattle.pass_lock.proofs.Known.{signed_by_first}
use Rattle.pass_lock_rows.specs.declared.desk.Event.{Event}
use Rattle.pass_lock_rows.specs.Turns.{own, IsDone}
use Rattle.pass_lock_rows.specs.Office.{EndedFrom, Collected}
use Rattle.pass_lock_rows.proofs.Own.{own-others}

abbrev signer : Event → ℕ
signer e = e.who

-- with each part the events were seen that its clerk made, and later ones are others'
each_of : (turns j : ℕ) (ended rest : List (Part Event)) (journal : List Event) → EndedFrom turns j ended → IsKnown signer journal (ended ++ rest) → (who : ℕ) → j ≤ who → who < j + length ended → IsDone turns who journal
each_of turns j [] rest journal each known who from before = absurd (omega arith)
each_of turns j (p ∷ ps) rest journal each known who from before = let P : Part Event → Type 0 = λ p. Follows signer p.0 p.1 journal in
    dite (ℕ_discrete j who)
    (λ is. let f : Follows signer j p.1 journal = subst (λ k. Follows signer k p.1 journal) each.0 (All-head P p (ps ++ rest) known) in let d = each.1 in
    subst (λ k. IsDone turns k journal) is (d.0, d.1, ap (own j) f.1 ∙ (own-others j p.1 f.0 f.2 ∙ d.2)))
    (λ ne. each_of turns (suc j) ps rest journal each.2 (All-tail P p (ps ++ rest) known) who (omega arith) (omega arith))

number_of : (turns j : ℕ) (ended : List (Part Event)) (k : ℕ) → EndedFrom turns j ended → Contains (numbers ended) k → k < j + length ended
number_of turns j [] k each has = absurd (let a = has.1 in omega arith)
number_of turns j (p ∷ ps) k each (zero, l, e) = let a : p.0 ≡ j = each.0 in let b : p.0 ≡ k = e in omega arith
number_of turns j (p ∷ ps) k each (suc i, l, e) = let a = number_of turns (suc j) ps k each.2 (i, omega arith, e) in omega arith

module _ (lock : LockId) (count turns : ℕ) (pass : Known Event) (c : Collected lock count turns 0 pass) where
  abbrev rest : List (Part Event)
  rest = numbered count (all_parts - count)

  -- all parts are back
  pub all_back : count < 65536 → length pass.parts ≡ 65536
  all_back few = let a = ap (λ k. length k.parts) c.is in let b = length-append c.ended rest in let d = numbered-length Event count (all_parts - count) in let e = c.counted in omega arith

  module _ (journal : List Event) (known : IsKnown signer journal pass.parts) where
    abbrev known_all : IsKnown signer journal (c.ended ++ rest)
    known_all = subst (IsKnown signer journal) (ap (λ k. k.parts) c.is) known

    pub all_done : (who : ℕ) → who < count → IsDone turns who journal
    all_done who l = let e = c.counted in each_of turns 0 c.ended rest journal c.each known_all who (omega arith) (omega arith)

    -- nobody else signed
    pub only_clerks : Signed signer pass.parts journal → All (λ e. e.who < count) journal
    only_clerks signed = All-weaker (λ (e : Event). Contains (numbers c.ended) e.who) (λ (e : Event). e.who < count) (λ e has. let a = number_of turns 0 c.ended e.who c.each has in let b = c.counted in omega arith) journal
        (signed_by_first signer journal c.ended rest (numbered-unseen Event count (all_parts - count)) known_all (subst (λ (p : List (Part Event)). Signed signer p journal) (ap (λ k. k.parts) c.is) signed))
