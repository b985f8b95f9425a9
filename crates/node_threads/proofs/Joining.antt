-- The pass with all parts again, and what the joined journal has.
use Rattle.std.proofs.Common.{◌≡◌, ◌≢◌, ℕ, suc, ◌-◌, ◌<◌, ◌≤◌, List, [], ◌∷◌, ◌++◌, append-nil, length, get_or, take, drop, None, refl, sym, ap, ◌∙◌, subst, arith}
use mathlib.Core.Logic.{dite}
use native.Mathlib.Decide.{dec_lt}
use Rattle.std.specs.List.{All, Contains}
use Rattle.std.proofs.lemmas.List.Elements.{All-weaker, All-drop}
use Rattle.legal_journal.specs.declared.events.Event.{Event}
use Rattle.pass_lock.specs.Journal.{Part, Turn, IsKnown, Signed, numbers}
use Rattle.pass_lock.specs.Pass.{LockId, Known, numbered, all_parts, brought, first_seen, one_part, whole}
use Rattle.pass_lock.proofs.Known.{added-append}
use Rattle.node_threads.specs.Passes.{IsRested, journal_of, parts_from, signer}
use Rattle.node_threads.proofs.Numbers.{brought_first, brought_others, brought_size, first_brought, known_at, brought_parts, known_rest, number_below, numbers_brought, brought_none, first_none}

-- the first of the parts is cut off
pub cut_one : (journal : List Event) (k n n' : ℕ) (start p p' q : Known Event) → n ≡ suc n' → p ≡ record start { parts = brought journal (numbered k n) }
    → p' ≡ record p { parts = drop 1 p.parts } → q ≡ record p { parts = take 1 p.parts; made = [] }
    → (p' ≡ record start { parts = brought journal (numbered (suc k) n') }) × (q ≡ record start { parts = (k, journal) ∷ []; made = [] })
cut_one journal k n n' start p p' q size e rest first =
    let e' : p ≡ record start { parts = brought journal (numbered k (suc n')) } = e ∙ ap (λ (m : ℕ). record start { parts = brought journal (numbered k m) }) size in (
      rest ∙ (ap (λ (x : Known Event). record x { parts = drop 1 x.parts }) e' ∙ ap (λ (l : List (Part Event)). record start { parts = l }) (brought_others journal k n')),
      first ∙ (ap (λ (x : Known Event). record x { parts = take 1 x.parts; made = [] }) e' ∙ ap (λ (l : List (Part Event)). record start { parts = l; made = [] }) (brought_first journal k n')),
    )

pub one_part_is : (lock : LockId) (journal : List Event) (k : ℕ) (start q : Known Event) → start.lock ≡ lock → start.turn ≡ None → q ≡ record start { parts = (k, journal) ∷ []; made = [] } → q ≡ one_part lock k (first_seen q.parts) q.made
one_part_is lock journal k start q lock_is turn_is e =
    let is : q ≡ one_part lock k journal [] = e ∙ (λ i. record { lock = lock_is i; parts = (k, journal) ∷ []; made = []; turn = turn_is i }) in
    is ∙ sym (ap (λ (x : Known Event). one_part lock k (first_seen x.parts) x.made) is)

-- the part of the node before is joined
pub joined_more : (n next : ℕ) (seen : List Event) (seens : List (List Event)) (start p p' q : Known Event) (m : List (Turn Event)) → next ≡ suc n → p ≡ record start { parts = parts_from next seens ++ start.parts; made = p.made } → q.parts ≡ (n, seen) ∷ []
    → p' ≡ record p { parts = q.parts ++ p.parts; made = m } → p' ≡ record start { parts = parts_from n (seen ∷ seens) ++ start.parts; made = p'.made }
joined_more n next seen seens start p p' q m is_next is one join =
    let lock_is : p'.lock ≡ start.lock = ap (λ (x : Known Event). x.lock) join ∙ ap (λ (x : Known Event). x.lock) is in
    let turn_is : p'.turn ≡ start.turn = ap (λ (x : Known Event). x.turn) join ∙ ap (λ (x : Known Event). x.turn) is in
    let first : Part Event = (n, seen) in
    let parts_are : p'.parts ≡ parts_from n (seen ∷ seens) ++ start.parts = ap (λ (x : Known Event). x.parts) join
    ∙ (ap (λ (l : List (Part Event)). l ++ p.parts) one ∙ (ap (λ (x : Known Event). first ∷ x.parts) is ∙ ap (λ (k : ℕ). first ∷ (parts_from k seens ++ start.parts)) is_next)) in
    λ i. record { lock = lock_is i; parts = parts_are i; made = p'.made; turn = turn_is i }

module _ (lock : LockId) (begins : List Event) (seens : List (List Event)) (count : ℕ) (size : length seens ≡ count) (few : count < 65536) where
  abbrev rest : List (Part Event)
  rest = brought begins (numbered count (all_parts - count))

  pub rested_again : (journal : List Event) (p p' : Known Event) → p.lock ≡ lock → p.turn ≡ None → p.parts ≡ parts_from 0 seens ++ rest → p' ≡ record p { parts = brought journal p.parts; made = p'.made }
      → (first_seen p'.parts ≡ journal) × IsRested lock p'
  rested_again journal p p' lock_is turn_is parts looked =
      let back : brought journal (parts_from 0 seens ++ rest) ≡ brought journal (numbered 0 all_parts) = brought_parts journal begins 0 seens count (all_parts - count) all_parts (omega (arith, size)) (omega (arith, size, few)) in
      let parts' : p'.parts ≡ brought journal (numbered 0 all_parts) = ap (λ (x : Known Event). x.parts) looked ∙ (ap (brought journal) parts ∙ back) in
      let first : first_seen p'.parts ≡ journal = ap first_seen parts' ∙ first_brought journal 0 all_parts (omega arith) in
      let now : p'.parts ≡ brought (first_seen p'.parts) (numbered 0 all_parts) = parts' ∙ ap (λ (j : List Event). brought j (numbered 0 all_parts)) (sym first) in
      let lock' : p'.lock ≡ lock = ap (λ (x : Known Event). x.lock) looked ∙ lock_is in
      let turn' : p'.turn ≡ None = ap (λ (x : Known Event). x.turn) looked ∙ turn_is in
      (first, λ i. record { lock = lock' i; parts = now i; made = p'.made; turn = turn' i })

  -- each event is of one of the parts
  signed_below : (journal : List Event) → Signed signer (parts_from 0 seens ++ rest) journal → All (λ e. e.who < all_parts) journal
  signed_below journal signed = let qs : List (Part Event) = parts_from 0 seens ++ rest in
      let back : brought journal qs ≡ brought journal (numbered 0 all_parts) = brought_parts journal begins 0 seens count (all_parts - count) all_parts (omega (arith, size)) (omega (arith, size, few)) in
      All-weaker (λ (e : Event). Contains (numbers qs) e.who) (λ (e : Event). e.who < all_parts)
      (λ e has. number_below journal 0 all_parts e.who (subst (λ (l : List ℕ). Contains l e.who) (sym (numbers_brought journal qs) ∙ ap numbers back) has)) journal signed

  -- what the journal has behind what all had seen is of those whose parts went
  pub later_below : (journal : List Event) → IsKnown signer journal (parts_from 0 seens ++ rest) → Signed signer (parts_from 0 seens ++ rest) journal → (later : List Event) × (journal ≡ begins ++ later) × All (λ e. e.who < count) later
  later_below journal known signed =
      let others : IsKnown signer journal rest = known_rest journal 0 seens rest known in
      let f = known_at journal begins count (all_parts - count) others count (omega arith) (omega (arith, few)) in
      let idle : (k : ℕ) → count ≤ k → k < all_parts → All (λ e. e.who ≢ k) f.0 = λ k from below. let h = known_at journal begins count (all_parts - count) others k from (omega (arith, few)) in
      let same : h.0 ≡ f.0 = sym (added-append begins h.0 journal h.1) ∙ added-append begins f.0 journal f.1 in
      subst (λ (l : List Event). All (λ e. e.who ≢ k) l) same h.2 in
      let below : All (λ e. e.who < all_parts) f.0 = subst (λ (l : List Event). All (λ e. e.who < all_parts) l) (added-append begins f.0 journal f.1) (All-drop (λ (e : Event). e.who < all_parts) (length begins) journal (signed_below journal signed)) in
      (f.0, f.1, λ j d l. let who : ℕ = (get_or f.0 j d).who in dite (dec_lt who count) (λ yes. yes) (λ no. absurd (idle who (omega (arith, no)) (below j d l) j d l refl)))

-- the first pass of a lock is rested
pub whole_rested : (lock : LockId) (p : Known Event) → p ≡ whole lock → (journal_of p ≡ []) × IsRested lock p
whole_rested lock p is =
    let first : first_seen p.parts ≡ [] = ap (λ (x : Known Event). first_seen x.parts) is ∙ first_none 0 all_parts in
    let lock_is : p.lock ≡ lock = ap (λ (x : Known Event). x.lock) is in
    let turn_is : p.turn ≡ None = ap (λ (x : Known Event). x.turn) is in
    let parts_are : p.parts ≡ brought (first_seen p.parts) (numbered 0 all_parts) = ap (λ (x : Known Event). x.parts) is
    ∙ (sym (brought_none 0 all_parts) ∙ ap (λ (j : List Event). brought j (numbered 0 all_parts)) (sym first)) in
    (first, λ i. record { lock = lock_is i; parts = parts_are i; made = p.made; turn = turn_is i })

nobody : (later : List Event) → All (λ e. e.who < all_parts) later → ((k : ℕ) → k < all_parts → All (λ e. e.who ≢ k) later) → later ≡ []
nobody [] below none = refl
nobody (e ∷ es) below none = absurd (none e.who (below 0 e (omega arith)) 0 e (omega arith) refl)

-- behind what all parts have seen there is nothing
pub closed_same : (lock : LockId) (p : Known Event) (journal : List Event) → IsRested lock p → IsKnown signer journal p.parts → Signed signer p.parts journal → journal ≡ journal_of p
closed_same lock p journal rested known signed =
    let seen : List Event = journal_of p in let parts_are : p.parts ≡ brought seen (numbered 0 all_parts) = ap (λ (x : Known Event). x.parts) rested in
    let known' : IsKnown signer journal (brought seen (numbered 0 all_parts)) = subst (IsKnown signer journal) parts_are known in
    let below : All (λ e. e.who < all_parts) journal = All-weaker (λ (e : Event). Contains (numbers p.parts) e.who) (λ (e : Event). e.who < all_parts)
    (λ e has. number_below seen 0 all_parts e.who (subst (λ (l : List (Part Event)). Contains (numbers l) e.who) parts_are has)) journal signed in
    let f = known_at journal seen 0 all_parts known' 0 (omega arith) (omega arith) in
    let later : All (λ e. e.who < all_parts) f.0 = subst (λ (l : List Event). All (λ e. e.who < all_parts) l) (added-append seen f.0 journal f.1) (All-drop (λ (e : Event). e.who < all_parts) (length seen) journal below) in
    f.1 ∙ (ap (λ (l : List Event). seen ++ l) (nobody f.0 later (λ k few. let h = known_at journal seen 0 all_parts known' k (omega arith) (omega (arith, few)) in
    subst (λ (l : List Event). All (λ e. e.who ≢ k) l) (sym (added-append seen h.0 journal h.1) ∙ added-append seen f.0 journal f.1) h.2)) ∙ append-nil seen)

pub rested_size : (lock : LockId) (p : Known Event) → IsRested lock p → length p.parts ≡ all_parts
rested_size lock p rested = ap (λ (x : Known Event). length x.parts) rested ∙ brought_size (journal_of p) 0 all_parts
