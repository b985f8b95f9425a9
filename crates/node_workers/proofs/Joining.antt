-- The ranks of an entry that is packed of items are those of the items.
use Rattle.std.proofs.Common.{◌≡◌, ◌≢◌, ◌<◌, ◌^◌, map, refl, sym, ap, ◌∙◌, subst, ◌⊎◌, inl, inr, ⊎_elim, ℕ, zero, suc, ◌+◌, ◌≤◌, Bool, true, false, cond, List, [], ◌∷◌, ◌++◌, Option, Some, None, is_some, length, arith}
use Rattle.std.specs.Prelude.{◌==◌, ◌&&◌, filter_map, All}
use Rattle.std.specs.List.{AllByRecursion, cons_option}
use Rattle.std.proofs.lemmas.Bool.Decides.{nat_tests}
use Rattle.std.proofs.lemmas.List.Elements.{All-nil, All-cons, All-append, All-head, All-tail, All-push}
use Rattle.delos_types.specs.declared.entry.Entry.{Entry}
use Rattle.delos_types.specs.declared.item.Item.{Item}
use Rattle.table_core.specs.declared.command.Command.{Command}
use Rattle.table_core.specs.Spelling.{IsSpellable}
use Rattle.legal_journal.specs.declared.events.Event.{Event}
use Rattle.engine_api.specs.declared.content.Content.{Content}
use Rattle.engine_api.specs.declared.content.Content.TheVariants.{Session, Alive, Leave, Trim}
use Rattle.engine_api.specs.declared.content.Placed.{Placed}
use Rattle.engine_api.specs.Items.{content_of, placed_from}
use Rattle.engine_api.specs.Acted.{Asked, appearances}
use Rattle.engine_api.specs.Order.{first_of}
use Rattle.engine_api.specs.Packing.{packed, session_item, IsBatch, IsProposable}
use Rattle.engine_api.proofs.Packed.{content_of-session, unpack-packed}
use Rattle.node_lines.specs.UnderWay.{Among, HasRank, rank_under, ranks_in}
use Rattle.node_lines.proofs.Ranks.{rank-packed, ranks-append}
use Rattle.node_lines.specs.Moving.{CanPack}
use Rattle.node_lines.specs.Desks.{MayJoin}
use Rattle.node_lines.specs.Workers.{OwnWithin, Sends, IsCommand, IsOfSession, IsOfSessions, SaysAlone, sent_of}

same_number : (a b : ℕ) → (a == b) ≡ true → a ≡ b
same_number a b e = grind (arith, nat_tests, e)

-- what stands there is among what the items say
placed-rank : (s r pos sub : ℕ) (items : List Item) → is_some (first_of (appearances (placed_from pos sub (filter_map content_of items))) s r) ≡ true → Among r (ranks_in s items)
placed-rank s r pos sub [] h = absurd (cc)
placed-rank s r pos sub (i ∷ is) h = by_content (content_of i) (λ n k. placed-rank s r pos n is k) h
  where
    by_content : (o : Option Content) → ((n : ℕ) → is_some (first_of (appearances (placed_from pos n (filter_map content_of is))) s r) ≡ true → Among r (ranks_in s is)) → is_some (first_of (appearances (placed_from pos sub (cons_option o (filter_map content_of is)))) s r) ≡ true → Among r (cons_option (rank_under s o) (ranks_in s is))
    by_content None rest k = rest sub k
    by_content (Some (Alive n p)) rest k = rest (sub + 1) k
    by_content (Some (Leave n)) rest k = rest (sub + 1) k
    by_content (Some (Trim p)) rest k = rest (sub + 1) k
    by_content (Some (Session t q c)) rest k = by_session (t == s) (q == r) refl refl k
      where
        later : List Asked
        later = appearances (placed_from pos (sub + 1) (filter_map content_of is))

        here : Asked
        here = record { place = record { pos = pos; sub = sub }; session = t; rank = q; command = c }

        by_session : (a b : Bool) → (t == s) ≡ a → (q == r) ≡ b → is_some (cond ((t == s) && (q == r)) (Some here) (first_of later s r)) ≡ true → Among r (cons_option (cond (t == s) (Some q) None) (ranks_in s is))
        by_session true true e f k = rw e (inl (same_number q r f))
        by_session true false e f k = rw e (inr (rest (sub + 1) (sym (ap (λ (z : Bool × Bool). is_some (cond (z.0 && z.1) (Some here) (first_of later s r))) (ap (λ x. (x, q == r)) e ∙ ap (λ x. (true, x)) f)) ∙ k)))
        by_session false b e f k = rw e (rest (sub + 1) (sym (ap (λ (z : Bool). is_some (cond (z && (q == r)) (Some here) (first_of later s r))) e) ∙ k))

pub packed-rank : (origin s r : ℕ) (items : List Item) → IsBatch items → HasRank s r (packed origin items) → Among r (ranks_in s items)
packed-rank origin s r items b h = placed-rank s r 0 0 items (sym (ap (λ l. is_some (first_of (appearances l) s r)) (unpack-packed origin items 0 b)) ∙ h)

among-split : (r : ℕ) (xs ys : List ℕ) → Among r (xs ++ ys) → Among r xs ⊎ Among r ys
among-split r [] ys h = inr h
among-split r (x ∷ xs) ys (inl h) = inl (inl h)
among-split r (x ∷ xs) ys (inr h) = ⊎_elim (λ (k : Among r xs). inl (inr k)) (λ (k : Among r ys). inr k) (among-split r xs ys h)

length-snoc : (xs : List Item) (x : Item) → length (xs ++ x ∷ []) ≡ length xs + 1
length-snoc [] x = refl
length-snoc (y ∷ ys) x = ap suc (length-snoc ys x) ∙ (let e : suc (length ys + 1) ≡ length (y ∷ ys) + 1 = omega arith in e)

one : (item : Item) → IsProposable item → IsBatch (item ∷ [])
one item fine = record { some = omega arith; few = omega arith; each = All-cons IsProposable item [] fine (All-nil IsProposable) }

rank-joined : (origin s r : ℕ) (items : List Item) (item : Item) → (length items ≡ 0 → ⊥) → All IsProposable items → length items ≤ 15 → IsProposable item → HasRank s r (packed origin (items ++ item ∷ [])) → HasRank s r (packed origin items) ⊎ HasRank s r (packed origin (item ∷ []))
rank-joined origin s r items item some all few fine h =
    let whole : IsBatch (items ++ item ∷ []) = record { some = omega (arith, length-snoc items item); few = omega (arith, length-snoc items item, few); each = All-append IsProposable items (item ∷ []) all (All-cons IsProposable item [] fine (All-nil IsProposable)) } in
    let old : IsBatch items = record { some = least (length items) some; few = omega (arith, few); each = all } in
    ⊎_elim (λ (k : Among r (ranks_in s items)). inl (rank-packed origin s r items old k)) (λ (k : Among r (ranks_in s (item ∷ []))). inr (rank-packed origin s r (item ∷ []) (one item fine) k))
    (among-split r (ranks_in s items) (ranks_in s (item ∷ [])) (subst (Among r) (ranks-append s items (item ∷ [])) (packed-rank origin s r (items ++ item ∷ []) whole h)))
  where
    least : (n : ℕ) → (n ≡ 0 → ⊥) → 1 ≤ n
    least zero h = absurd (h refl)
    least (suc n) h = omega arith

-- items may be packed together within the counts, where they may be at all
pub within-join : (may : ℕ → Entry → Type 0) (counts : List ℕ) (who : ℕ) → MayJoin may who who → MayJoin (OwnWithin who may counts) who who
within-join may counts who join = λ items item some all few fine old new.
    (join items item some all few fine old.0 new.0, λ same s r h. ⊎_elim (old.1 same s r) (new.1 same s r) (rank-joined who s r items item some all few fine h))

-- a session's next command may be appended, once it is counted
pub within-one : (may : ℕ → Entry → Type 0) (counts : List ℕ) (who s r : ℕ) (item : Item) → IsProposable item → may who (packed who (item ∷ [])) → rank_under s (content_of item) ≡ Some r → ((t : ℕ) → (s == t) ≡ false → rank_under t (content_of item) ≡ None) → r ≤ sent_of counts s → OwnWithin who may counts who (packed who (item ∷ []))
within-one may counts who s r item fine allowed own other low = (allowed, λ same t q h. by_session t q (s == t) refl (packed-rank who t q (item ∷ []) (one item fine) h))
  where
    by_session : (t q : ℕ) (b : Bool) → (s == t) ≡ b → Among q (cons_option (rank_under t (content_of item)) []) → q ≤ sent_of counts t
    by_session t q true e h =
        let same = same_number s t e in
        let k : Among q (r ∷ []) = subst (λ o. Among q (cons_option o [])) (ap (λ x. rank_under x (content_of item)) (sym same) ∙ own) h in
        ⊎_elim (λ (x : r ≡ q). subst (λ x. q ≤ sent_of counts x) same (omega (arith, low, x))) (λ x. absurd x) k
    by_session t q false e h = absurd (subst (λ o. Among q (cons_option o [])) (other t e) h)

-- so may an item of no session
pub within-plain : (may : ℕ → Entry → Type 0) (counts : List ℕ) (who : ℕ) (item : Item) → IsProposable item → may who (packed who (item ∷ [])) → ((t : ℕ) → rank_under t (content_of item) ≡ None) → OwnWithin who may counts who (packed who (item ∷ []))
within-plain may counts who item fine allowed none = (allowed, λ same t q h. absurd (subst (λ o. Among q (cons_option o [])) (none t) (packed-rank who t q (item ∷ []) (one item fine) h)))

-- Entries of sessions

same_content : (c d : Content) → Some c ≡ Some d → c ≡ d
same_content c d h = cc

-- a session's command is one
pub session-command : (s r : ℕ) (c : Command) → s ≤ 63 → 1 ≤ r → r < 2 ^ 64 → IsSpellable c → IsOfSession (session_item s r c)
session-command s r c known some small fine = λ d h. subst IsCommand (same_content (Session s r (Some c)) d (sym (content_of-session s r c known some small fine) ∙ h)) tt

commands : (sub : ℕ) (items : List Item) → All IsOfSession items → AllByRecursion (λ (p : Placed). IsCommand p.content) (placed_from 0 sub (filter_map content_of items))
commands sub [] h = tt
commands sub (i ∷ is) h = by (content_of i) (All-head IsOfSession i is h) (λ n. commands n is (All-tail IsOfSession i is h))
  where
    by : (o : Option Content) → ((c : Content) → o ≡ Some c → IsCommand c) → ((n : ℕ) → AllByRecursion (λ (p : Placed). IsCommand p.content) (placed_from 0 n (filter_map content_of is)))
        → AllByRecursion (λ (p : Placed). IsCommand p.content) (placed_from 0 sub (cons_option o (filter_map content_of is)))
    by None own rest = rest sub
    by (Some c) own rest = (own c refl, rest (sub + 1))

-- an entry of such items says nothing else
pub of-sessions : (origin : ℕ) (items : List Item) → IsBatch items → All IsOfSession items → IsOfSessions (packed origin items)
of-sessions origin items b h = subst (AllByRecursion (λ (p : Placed). IsCommand p.content)) (sym (unpack-packed origin items 0 b)) (commands 0 items h)

-- one more item may go down
may_go_down : (may : ℕ → Entry → Type 0) (who origin : ℕ) (kept : List Item) (item : Item) → MayJoin may who origin → CanPack kept → IsProposable item → may who (packed origin (item ∷ []))
    → (kept ≢ [] → may who (packed origin kept)) → may who (packed origin (kept ++ item ∷ []))
may_go_down may who origin [] item join can fine own waits = own
may_go_down may who origin (k ∷ ks) item join can fine own waits =
    let some : length (k ∷ ks) ≡ 0 → ⊥ = λ e. absurd (omega (arith, e)) in
    join (k ∷ ks) item some can.each can.few fine (waits (λ e. absurd (cc))) own

-- what waits may be sent with a session's next command
pub sends-next : (may : ℕ → Entry → Type 0) (counts : List ℕ) (journal : List Event) (who : ℕ) (kept : List Item) (item : Item) → MayJoin may who who → CanPack kept → All IsOfSession kept → (kept ≢ [] → OwnWithin who may counts who (packed who kept))
    → IsProposable item → IsOfSession item → OwnWithin who may counts who (packed who (item ∷ [])) → Sends who may counts journal who (packed who (kept ++ item ∷ []))
sends-next may counts journal who kept item join can waits waiting fine says own = (
  may_go_down (OwnWithin who may counts) who who kept item (within-join may counts who join) can fine own waiting,
  λ same. inr (of-sessions who (kept ++ item ∷ [])
      (record { some = omega (arith, length-snoc kept item); few = omega (arith, length-snoc kept item, can.few); each = All-push IsProposable kept item can.each fine })
      (All-push IsOfSession kept item waits says)),
)

-- an item alone says what it says
pub says-one : (origin : ℕ) (item : Item) (c : Content) → IsProposable item → content_of item ≡ Some c → SaysAlone c (packed origin (item ∷ []))
says-one origin item c fine says = ap (map (λ (p : Placed). p.content)) (unpack-packed origin (item ∷ []) 0 (one item fine) ∙ ap (λ o. placed_from 0 0 (cons_option o [])) says)
