-- What an operation of a cell of one server comes to, by the replies that it heard.
use Rattle.std.proofs.Common.{◌≡◌, ℕ, zero, suc, ◌+◌, ◌-◌, ◌<◌, ◌≤◌, Bool, min, max, take, drop, true, false, refl, sym, ◌∙◌, ap, subst, arith, List, [], ◌∷◌, ◌++◌, length, Option, Some, None, inl, inr, length-append}
use Rattle.std.specs.Prelude.{◌⊎◌, ◌==◌, ◌&&◌, nat_lt, nat_le, if◌then◌else◌, slice_get, option_map}
use Rattle.std.specs.List.{list_any}
use Rattle.std.proofs.lemmas.Bool.{false≢true, and_parts, and_from, or_cases, or_left, or_right, eqb-true, eq-eqb, le-leb, lt-ltb, cases_lt, cases_Bool}
use Rattle.std.proofs.lemmas.Bool.Decides.{nat_tests}
use Rattle.std.proofs.lemmas.Option.{same_Some}
use Rattle.delos_types.specs.declared.entry.Entry.{Entry}
use Rattle.loglet_api.specs.declared.call.Answer.{Answer}
use Rattle.loglet_api.specs.declared.call.Answer.TheVariants.{Placed, Settled, OpenTail as TailOpen, SealedTail as TailSealed, SealDone, Got, Beyond as PastFirm, TrimDone as Trimmed, Sealed, NoQuorum as Lacking}
use Rattle.loglet_api.specs.View.{Operation as OpenOperation}
use Rattle.loglet_api.specs.Step.{task_of}
use Rattle.majority_rule.specs.Majority.{majority, is_majority, votes_below}
use Rattle.quorum_cell.specs.declared.message.Ask.{Ask}
use Rattle.quorum_cell.specs.declared.message.Ask.TheVariants.{Store, Seal, Tail, Read, Trim}
use Rattle.quorum_cell.specs.declared.message.Told.{Told}
use Rattle.quorum_cell.specs.declared.message.Told.TheVariants as says
use Rattle.quorum_cell.specs.declared.message.Reply.{Reply}
use Rattle.quorum_cell.specs.declared.operation.Aim.{Aim}
use Rattle.quorum_cell.specs.declared.operation.Aim.TheVariants as aims
use Rattle.quorum_cell.specs.declared.operation.Outcome.{Outcome}
use Rattle.quorum_cell.specs.declared.operation.Outcome.TheVariants.{Reached, OpenTail, SealedTail, Shut, Found, Gone, Beyond, TrimDone, NoQuorum}
use Rattle.quorum_cell.specs.Servers.{Server, length_of, is_sealed, wrote, written, told}
use Rattle.quorum_cell.specs.Cells.{Operation}
use Rattle.quorum_cell.specs.Tallies.{open_told, exactly, at_least, open_to, open_at, open_within, says_sealed, sealed_within, sealed_at, mended_to, trimmed_to, gives_entry, entry_heard, failed_reply, heard_from, lost_to, unreached, may_decide}
use Rattle.quorum_cell.specs.Steps.{given_outcome}
use Rattle.quorum_cell.proofs.Seals.{sealed_takes_none}
use Rattle.cell_views.specs.Views.{op_of, answer_of}
use Rattle.file_loglet.specs.Asking.{stores, asks, Follows}
use Rattle.file_loglet.specs.Celling.{task_for}
use Rattle.file_loglet.specs.Pending.{Answers, IsUnspoken, told_at}
use Rattle.file_loglet.specs.Steps.{asks_first}
use Rattle.file_loglet.proofs.Stepping.{from_it, told_of, tallies}

---- one server is a majority

pub one_majority : (f : ℕ → Bool) → is_majority 1 f ≡ f 0
one_majority f = by (f 0) refl
  where
    by : (b : Bool) → f 0 ≡ b → is_majority 1 f ≡ b
    by true e = rw e refl
    by false e = rw e refl

pub one_down : (b : Bool) (f : ℕ → Bool) → f 0 ≡ b → votes_below 1 f ≡ (if b then 1 else 0)
one_down true f e = rw e refl
one_down false f e = rw e refl

---- replies that were heard

any_end : (test : Reply → Bool) (xs ys : List Reply) → list_any test ys ≡ true → list_any test (xs ++ ys) ≡ true
any_end test [] ys h = h
any_end test (x ∷ xs) ys h = or_right (test x) (list_any test (xs ++ ys)) (any_end test xs ys h)

any_more : (f g : Reply → Bool) (xs : List Reply) → ((r : Reply) → f r ≡ true → g r ≡ true) → list_any f xs ≡ true → list_any g xs ≡ true
any_more f g [] more h = absurd (false≢true h)
any_more f g (x ∷ xs) more h = elim (or_cases (f x) (list_any f xs) h) [ inl here ↦ or_left (g x) (list_any g xs) (more x here) | inr there ↦ or_right (g x) (list_any g xs) (any_more f g xs more there) ]

-- a reply of the server that passes
abbrev of_server : (Reply → Bool) → Reply → Bool
of_server test r = (r.server == 0) && test r

-- the operation once it heard these too
abbrev pub heard_too : Operation → List Reply → Operation
heard_too o heard = record o { heard = o.heard ++ heard }

heard_server : (test : Reply → Bool) (o : Operation) (heard : List Reply) → list_any (of_server test) heard ≡ true → is_majority 1 (heard_from test (heard_too o heard)) ≡ true
heard_server test o heard h = one_majority (heard_from test (heard_too o heard)) ∙ any_end (of_server test) o.heard heard h

-- the first of these replies passes
first_heard : (test : Reply → Bool) (t : ℕ) (s : Server) (ask : Ask) (more heard : List Reply) → heard ≡ told_of t s ask ∷ more → test (told_of t s ask) ≡ true → list_any (of_server test) heard ≡ true
first_heard test t s ask more heard e h = ap (list_any (of_server test)) e ∙ or_left (of_server test (told_of t s ask)) (list_any (of_server test) more) h

first_any : (test : Reply → Bool) (t : ℕ) (s : Server) (ask : Ask) (more heard : List Reply) (o : Operation) → heard ≡ told_of t s ask ∷ more → test (told_of t s ask) ≡ true → list_any test (o.heard ++ heard) ≡ true
first_any test t s ask more heard o e h = any_end test o.heard heard (ap (list_any test) e ∙ or_left (test (told_of t s ask)) (list_any test more) h)

---- entries are stored

lt_self : (n : ℕ) → nat_lt n n ≡ false
lt_self n = by (nat_lt n n) refl
  where
    by : (b : Bool) → nat_lt n n ≡ b → b ≡ false
    by true h = let less : n < n = grind (arith, nat_tests) in absurd (omega (arith, less))
    by false h = refl

stores_next : (s : Server) (e : Entry) → is_sealed s ≡ false → written s (Store (length_of s) e) ≡ wrote s (Store (length_of s) e)
stores_next s e open_ = rw (open_, eq-eqb (length_of s) (length_of s) refl) refl

acks_next : (s : Server) (e : Entry) → s.up ≡ true → is_sealed s ≡ false → told s (Store (length_of s) e) ≡ says.Ack (length_of s + 1)
acks_next s e up open_ = rw (up, open_, lt_self (length_of s)) refl

stored_length : (s : Server) (p : ℕ) (e : Entry) → length_of (wrote s (Store p e)) ≡ length_of s + 1
stored_length s p e = omega (arith, length-append s.entries (e ∷ []))

-- a reply of a server that isn't sealed, which shows just this length
abbrev open_here : ℕ → Reply → Bool
open_here n r = of_server (open_at n) r

-- the last reply shows the length that it has then
stores_open : (t : ℕ) (es : List Entry) (p : ℕ) (s new : Server) (before : Reply) → s.up ≡ true → new.up ≡ true → is_sealed s ≡ false → p ≡ length_of s → Follows s (stores p es) new → open_here (length_of s) before ≡ true
    → (list_any (open_here (length_of new)) (before ∷ tallies t s (stores p es)) ≡ true) × (is_sealed new ≡ false)
stores_open t [] p s new before up new_up open_ here f shown = (
  or_left (open_here (length_of new) before) false (ap (λ (x : Server). open_here (length_of x) before) f ∙ shown),
  ap is_sealed f ∙ open_,
)
stores_open t (e ∷ es) p s new before up new_up open_ here f shown =
    elim f [
      | inl stop ↦ absurd (false≢true (sym (ap (λ (x : Server). x.up) stop.1) ∙ new_up))
      | inr more ↦ (let next : Server = wrote s (Store (length_of s) e) in
          let at : Store p e ≡ Store (length_of s) e = ap (λ n. Store n e) here in
          let is : written s (Store p e) ≡ next = ap (written s) at ∙ stores_next s e open_ in
          let far : suc p ≡ length_of next = omega (arith, here, stored_length s (length_of s) e) in
          let says_so : told s (Store p e) ≡ says.Ack (length_of s + 1) = ap (told s) at ∙ acks_next s e up open_ in
          let reply : open_here (length_of next) (told_of t s (Store p e)) ≡ true =
          ap (λ (z : Told). exactly (length_of next) (open_told (Store p e) z)) says_so ∙ eq-eqb (length_of next) (length_of s + 1) (stored_length s (length_of s) e) in
          let r = stores_open t es (suc p) next new (told_of t s (Store p e)) up new_up open_ far (subst (λ (x : Server). Follows x (stores (suc p) es) new) is more) reply in (
            or_right (open_here (length_of new) before) (list_any (open_here (length_of new)) (tallies t s (stores p (e ∷ es))))
                (subst (λ (x : Server). list_any (open_here (length_of new)) (told_of t s (Store p e) ∷ tallies t x (stores (suc p) es)) ≡ true) (sym is) r.0),
            r.1,
          ))
    ]

stores_sealed : (es : List Entry) (p : ℕ) (s new : Server) → is_sealed s ≡ true → Follows s (stores p es) new → is_sealed new ≡ true
stores_sealed [] p s new sealed f = ap is_sealed f ∙ sealed
stores_sealed (e ∷ es) p s new sealed f =
    elim f [
      | inl stop ↦ ap is_sealed stop.1 ∙ sealed
      | inr more ↦ stores_sealed es (suc p) s new sealed (subst (λ (x : Server). Follows x (stores (suc p) es) new) (sealed_takes_none s p e sealed) more)
    ]

---- what it comes to

-- an outcome that the replies allow, and what the client is told of it
pub record Decides (cut : ℕ) (o : Operation) (aim : Aim) (answer : Answer) : Type 0 where
  pub outcome : Outcome
  pub may : may_decide 1 cut o aim outcome ≡ true
  pub told : answer_of cut (record o { decided = Some outcome }) aim (given_outcome cut aim outcome) ≡ Some (told_at (task_of (op_of aim)) cut answer)

tail_open : (s : Server) → s.up ≡ true → is_sealed s ≡ false → told s Tail ≡ says.Unsealed (length_of s)
tail_open s up open_ = rw (up, open_) refl

tail_sealed : (s : Server) → s.up ≡ true → is_sealed s ≡ true → told s Tail ≡ says.Sealed (length_of s)
tail_sealed s up sealed = rw (up, sealed) refl

seal_told : (s : Server) → s.up ≡ true → told s Seal ≡ says.Sealed (length_of s)
seal_told s up = rw up refl

trim_told : (s : Server) (n : ℕ) → s.up ≡ true → told s (Trim n) ≡ says.Trimmed (max n s.base)
trim_told s n up = rw up refl

shows_to : (want n : ℕ) → want ≤ n → (r : Reply) → of_server (open_at n) r ≡ true → of_server (open_to want) r ≡ true
shows_to want n le r h =
    let parts : ((r.server == 0) ≡ true) × (open_at n r ≡ true) = and_parts (r.server == 0) (open_at n r) h in
    and_from (r.server == 0) (open_to want r) parts.0 (by (open_told r.ask r.told) parts.1)
  where
    by : (z : Option ℕ) → exactly n z ≡ true → at_least want z ≡ true
    by None k = absurd (false≢true k)
    by (Some m) k = (let same : n ≡ m = eqb-true n m k in le-leb want m (omega (arith, same, le)))

not_both : (b : Bool) → b ≡ true → b ≡ false → ⊥
not_both b h k = false≢true (sym k ∙ h)

-- how a server that stores up to a length answers
pub record Stores (s new : Server) (cut : ℕ) (o : Operation) (heard : List Reply) : Type 0 where
  pub opens : is_sealed new ≡ false → o.want ≤ length_of new → is_majority 1 (heard_from (open_to o.want) (heard_too o heard)) ≡ true
  pub shuts : is_sealed new ≡ true → is_majority 1 (heard_from says_sealed (heard_too o heard)) ≡ true

stores_tell : (t : ℕ) (s new : Server) (cut : ℕ) (o : Operation) (heard : List Reply) (es : List Entry) → s.up ≡ true → new.up ≡ true → Follows s (stores (length_of s) es) new → heard ≡ told_of t s Tail ∷ tallies t s (stores (length_of s) es) → Stores s new cut o heard
stores_tell t s new cut o heard es up new_up f is = record {
  opens = λ open_ far. elim (cases_Bool (is_sealed s)) [
    | inl sealed ↦ absurd (not_both (is_sealed new) (stores_sealed es (length_of s) s new sealed f) open_)
    | inr was ↦ (let reply : open_here (length_of s) (told_of t s Tail) ≡ true = ap (λ (z : Told). exactly (length_of s) (open_told Tail z)) (tail_open s up was) ∙ eq-eqb (length_of s) (length_of s) refl in
        let r = stores_open t es (length_of s) s new (told_of t s Tail) up new_up was refl f reply in
        heard_server (open_to o.want) o heard (any_more (open_here (length_of new)) (of_server (open_to o.want)) heard (shows_to o.want (length_of new) far) (ap (list_any (open_here (length_of new))) is ∙ r.0)))
  ];
  shuts = λ shut. elim (cases_Bool (is_sealed s)) [
    | inl sealed ↦ heard_server says_sealed o heard (first_heard says_sealed t s Tail (tallies t s (stores (length_of s) es)) heard is (ap (λ (z : Told). says_sealed (record { ticket = t; server = 0; ask = Tail; told = z })) (tail_sealed s up sealed)))
    | inr was ↦ (let reply : open_here (length_of s) (told_of t s Tail) ≡ true = ap (λ (z : Told). exactly (length_of s) (open_told Tail z)) (tail_open s up was) ∙ eq-eqb (length_of s) (length_of s) refl in
        absurd (not_both (is_sealed new) shut (stores_open t es (length_of s) s new (told_of t s Tail) up new_up was refl f reply).1))
  ];
}

---- an operation that a server answered

-- what is known of the operation, its server and the log
pub record Known (entries : List Entry) (cut : ℕ) (s : Server) (o : Operation) (heard : List Reply) : Type 0 where
  pub placed : (e : Entry) → o.aim ≡ aims.Append e → o.want ≡ o.size_before + 1
  pub settled : (n : ℕ) → o.aim ≡ aims.Settle n → o.want ≡ min n o.size_before
  pub trimmed : (n : ℕ) → o.aim ≡ aims.Trim n → o.want ≤ cut
  pub base : s.base ≤ cut
  pub firm : o.firm_before ≤ length_of s
  pub same : (k : ℕ) → k < length s.entries → slice_get s.entries k ≡ slice_get entries (s.base + k)
  pub found : (p : ℕ) → list_any (gives_entry p) (o.heard ++ heard) ≡ true → (e : Entry) × (entry_heard p (o.heard ++ heard) ≡ Some e) × (slice_get entries p ≡ Some e)

get_within : {X : Type 0} (xs : List X) (k : ℕ) → k < length xs → (x : X) × (slice_get xs k ≡ Some x)
get_within [] k l = absurd (omega (arith, l))
get_within (x ∷ xs) zero l = (x, refl)
get_within (x ∷ xs) (suc k) l = get_within xs k (omega (arith, l))

lt_false : (p n : ℕ) → n ≤ p → nat_lt p n ≡ false
lt_false p n le = by (nat_lt p n) refl
  where
    by : (b : Bool) → nat_lt p n ≡ b → b ≡ false
    by true h = let less : p < n = grind (arith, nat_tests) in absurd (omega (arith, less, le))
    by false h = refl

got_told : (s : Server) (p : ℕ) (e : Entry) → s.up ≡ true → s.base ≤ p → slice_get s.entries (p - s.base) ≡ Some e → told s (Read p) ≡ says.Got e
got_told s p e up le is = rw (up, lt_false p s.base le, is) refl

read_decides : (t : ℕ) (entries : List Entry) (cut : ℕ) (s new : Server) (o : Operation) (heard more : List Reply) (x : OpenOperation) (p : ℕ) (e : Entry) → Known entries cut s o heard → s.up ≡ true → heard ≡ told_of t s (Read p) ∷ more → p < o.firm_before
    → (cut ≤ p → slice_get (drop cut entries) (p - cut) ≡ Some e) → Decides cut (heard_too o heard) (aims.Read p) (Got e)
read_decides t entries cut s new o heard more x p e k up is firm log = by (cases_lt p cut)
  where
    by : (p < cut) ⊎ (cut ≤ p) → Decides cut (heard_too o heard) (aims.Read p) (Got e)
    by (inl below) = record { outcome = Gone; may = lt-ltb p cut below; told = rw (lt-ltb p cut below) refl }
    by (inr kept) =
        let place : s.base + (p - s.base) ≡ p = omega (arith, kept, k.base) in
        let within : p - s.base < length s.entries = omega (arith, kept, k.base, k.firm, firm) in
        let y = get_within s.entries (p - s.base) within in
        let here : slice_get entries p ≡ Some y.0 = ap (slice_get entries) (sym place) ∙ sym (k.same (p - s.base) within) ∙ y.1 in
        let gives : gives_entry p (told_of t s (Read p)) ≡ true = ap (λ (z : Told). gives_entry p (record { ticket = t; server = 0; ask = Read p; told = z })) (got_told s p y.0 up (omega (arith, kept, k.base)) y.1) ∙ gives_here p y.0 in
        let any : list_any (gives_entry p) (o.heard ++ heard) ≡ true = first_any (gives_entry p) t s (Read p) more heard o is gives in
        let f = k.found p any in
        let logged : slice_get entries p ≡ Some e = at_place kept ∙ log kept in
        let same : f.0 ≡ e = same_Some f.0 e (sym f.2 ∙ logged) in
        record {
          outcome = Found;
          may = and_from (nat_lt p o.firm_before) (list_any (gives_entry p) (o.heard ++ heard)) (lt-ltb p o.firm_before firm) any;
          told = rw (lt_false p cut kept) (ap (option_map (λ (z : Entry). Got z)) (f.1 ∙ ap (λ (z : Entry). Some z) same));
        }
      where
        gives_here : (q : ℕ) (z : Entry) → gives_entry q (record { ticket = t; server = 0; ask = Read q; told = says.Got z }) ≡ true
        gives_here q z = rw (eq-eqb q q refl) refl

        at_place : cut ≤ p → slice_get entries p ≡ slice_get (drop cut entries) (p - cut)
        at_place le = (let sum : cut + (p - cut) ≡ p = omega (arith, le) in ap (slice_get entries) (sym sum) ∙ sym (Rattle.quorum_cell.proofs.Lists.slice_get_drop cut entries (p - cut)))

-- An operation that asked all that it asks of a server that was up, and is: by the answer that the loglet gives.
pub up_decides : (t : ℕ) (entries : List Entry) (cut : ℕ) (s new : Server) (o : Operation) (heard : List Reply) (x : OpenOperation) (aim : Aim) (answer : Answer) → o.aim ≡ aim → x.size ≡ o.size_before → x.firm ≡ o.firm_before → Known entries cut s o heard → s.up ≡ true → new.up ≡ true
    → Follows s (asks (drop cut entries) cut s o.size_before (task_for aim)) new → heard ≡ tallies t s (asks_first aim ++ asks (drop cut entries) cut s o.size_before (task_for aim)) → (IsUnspoken (task_for aim) o.firm_before → ⊥)
    → Answers (drop cut entries) cut new x (task_for aim) answer → Decides cut (heard_too o heard) aim answer
up_decides t entries cut s new o heard x (aims.Append e) (Placed q) a size firm k up new_up f is spoken h =
    let want : o.want ≡ o.size_before + 1 = k.placed e a in
    let st = stores_tell t s new cut o heard (take (o.size_before + 1 - length_of s) (drop (length_of s - cut) (drop cut entries))) up new_up f is in
    record { outcome = Reached; may = st.opens h.0 (omega (arith, want, size, h.1, h.2)); told = ap (λ (n : ℕ). Some (Placed n)) (sym (h.1 ∙ size)) }
up_decides t entries cut s new o heard x (aims.Append e) Sealed a size firm k up new_up f is spoken shut =
    let st = stores_tell t s new cut o heard (take (o.size_before + 1 - length_of s) (drop (length_of s - cut) (drop cut entries))) up new_up f is in
    record { outcome = Shut; may = st.shuts shut; told = refl }
up_decides t entries cut s new o heard x (aims.Settle n) Settled a size firm k up new_up f is spoken h =
    let want : o.want ≡ min n o.size_before = k.settled n a in
    let st = stores_tell t s new cut o heard (take (min n o.size_before - length_of s) (drop (length_of s - cut) (drop cut entries))) up new_up f is in
    record { outcome = Reached; may = st.opens h.0 (omega (arith, want, size, h.1)); told = refl }
up_decides t entries cut s new o heard x (aims.Settle n) Sealed a size firm k up new_up f is spoken shut =
    let st = stores_tell t s new cut o heard (take (min n o.size_before - length_of s) (drop (length_of s - cut) (drop cut entries))) up new_up f is in
    record { outcome = Shut; may = st.shuts shut; told = refl }
up_decides t entries cut s new o heard x aims.Tail (TailOpen n) a size firm k up new_up f is spoken h =
    let same : new ≡ s = elim f [ inl stop ↦ absurd (false≢true stop.0) | inr more ↦ more ] in
    let was : is_sealed s ≡ false = sym (ap is_sealed same) ∙ h.0 in
    let long : n ≡ length_of s = h.1 ∙ ap length_of same in
    record {
      outcome = OpenTail n;
      may = and_from _ _ (and_from _ _
          (heard_server (open_within n) o heard (first_heard (open_within n) t s Tail [] heard is (passes (open_within n) (tail_open s up was) (le-leb (length_of s) n (omega (arith, long))))))
          (heard_server (open_to n) o heard (first_heard (open_to n) t s Tail [] heard is (passes (open_to n) (tail_open s up was) (le-leb n (length_of s) (omega (arith, long)))))))
          (first_any (open_at n) t s Tail [] heard o is (passes (open_at n) (tail_open s up was) (eq-eqb n (length_of s) long)));
      told = refl;
    }
  where
    passes : (test : Reply → Bool) {z : Told} → told s Tail ≡ z → test (record { ticket = t; server = 0; ask = Tail; told = z }) ≡ true → test (told_of t s Tail) ≡ true
    passes test {z} e r = ap (λ (y : Told). test (record { ticket = t; server = 0; ask = Tail; told = y })) e ∙ r
up_decides t entries cut s new o heard x aims.Tail (TailSealed n) a size firm k up new_up f is spoken h =
    let same : new ≡ s = elim f [ inl stop ↦ absurd (false≢true stop.0) | inr more ↦ more ] in
    let was : is_sealed s ≡ true = sym (ap is_sealed same) ∙ h.0 in
    let long : n ≡ length_of s = h.1 ∙ ap length_of same in
    record {
      outcome = SealedTail n;
      may = and_from _ _ (and_from _ _
          (heard_server (sealed_within n) o heard (first_heard (sealed_within n) t s Tail [] heard is (passes (sealed_within n) (tail_sealed s up was) (le-leb (length_of s) n (omega (arith, long))))))
          (heard_server (mended_to n) o heard (first_heard (mended_to n) t s Tail [] heard is (passes (mended_to n) (tail_sealed s up was) (le-leb n (length_of s) (omega (arith, long)))))))
          (first_any (sealed_at n) t s Tail [] heard o is (passes (sealed_at n) (tail_sealed s up was) (eq-eqb n (length_of s) long)));
      told = refl;
    }
  where
    passes : (test : Reply → Bool) {z : Told} → told s Tail ≡ z → test (record { ticket = t; server = 0; ask = Tail; told = z }) ≡ true → test (told_of t s Tail) ≡ true
    passes test {z} e r = ap (λ (y : Told). test (record { ticket = t; server = 0; ask = Tail; told = y })) e ∙ r
up_decides t entries cut s new o heard x aims.Seal SealDone a size firm k up new_up f is spoken shut =
    record {
      outcome = Shut;
      may = heard_server says_sealed o heard (first_heard says_sealed t s Seal [] heard is (ap (λ (y : Told). says_sealed (record { ticket = t; server = 0; ask = Seal; told = y })) (seal_told s up)));
      told = refl;
    }
up_decides t entries cut s new o heard x (aims.Read p) (Got e) a size firm k up new_up f is spoken log =
    let spoke : p < o.firm_before = elim (cases_lt p o.firm_before) [ inl below ↦ below | inr above ↦ absurd (spoken above) ] in
    read_decides t entries cut s new o heard [] x p e k up is spoke log
up_decides t entries cut s new o heard x (aims.Trim n) Trimmed a size firm k up new_up f is spoken gone =
    record {
      outcome = TrimDone;
      may = heard_server (trimmed_to o.want) o heard (first_heard (trimmed_to o.want) t s (Trim cut) [] heard is
          (ap (λ (y : Told). trimmed_to o.want (record { ticket = t; server = 0; ask = Trim cut; told = y })) (trim_told s cut up) ∙ le-leb o.want (max cut s.base) (let le : o.want ≤ cut = k.trimmed n a in omega (arith, le))));
      told = refl;
    }
up_decides t entries cut s new o heard x aim answer a size firm k up new_up f is spoken h = absurd h

-- a server that is down, or stopped, or failed
lacks_one : (o : Operation) (heard : List Reply) → list_any from_it heard ≡ true → (nat_le (majority 1) 1 && (1 == votes_below 1 (unreached (heard_too o heard)))) ≡ true
lacks_one o heard mine =
    let given : unreached (heard_too o heard) 0 ≡ true = or_left (heard_from failed_reply (heard_too o heard) 0) (lost_to (heard_too o heard) 0) (any_end from_it o.heard heard mine) in
    eq-eqb 1 (votes_below 1 (unreached (heard_too o heard))) (sym (one_down true (unreached (heard_too o heard)) given))

pub down_decides : (cut : ℕ) (o : Operation) (heard : List Reply) (aim : Aim) → list_any from_it heard ≡ true → (IsUnspoken (task_for aim) o.firm_before → ⊥) → Decides cut (heard_too o heard) aim (Lacking 1)
down_decides cut o heard (aims.Append e) mine spoken = record { outcome = NoQuorum 1; may = lacks_one o heard mine; told = refl }
down_decides cut o heard (aims.Settle n) mine spoken = record { outcome = NoQuorum 1; may = lacks_one o heard mine; told = refl }
down_decides cut o heard aims.Tail mine spoken = record { outcome = NoQuorum 1; may = lacks_one o heard mine; told = refl }
down_decides cut o heard aims.Seal mine spoken = record { outcome = NoQuorum 1; may = lacks_one o heard mine; told = refl }
down_decides cut o heard (aims.Trim n) mine spoken = record { outcome = NoQuorum 1; may = lacks_one o heard mine; told = refl }
down_decides cut o heard (aims.Read p) mine spoken =
    let spoke : p < o.firm_before = elim (cases_lt p o.firm_before) [ inl below ↦ below | inr above ↦ absurd (spoken above) ] in
    record {
      outcome = NoQuorum 1;
      may = and_from _ _ (lt-ltb p o.firm_before spoke) (lacks_one o heard mine);
      told = elim (cases_Bool (nat_lt p cut)) [ inl below ↦ rw below refl | inr kept ↦ rw kept refl ];
    }

-- a read of a position of which no answer had spoken
pub unspoken_decides : (cut : ℕ) (o : Operation) (heard : List Reply) (aim : Aim) → IsUnspoken (task_for aim) o.firm_before → Decides cut (heard_too o heard) aim (PastFirm o.firm_before)
unspoken_decides cut o heard (aims.Read p) past = record {
  outcome = Beyond;
  may = le-leb o.firm_before p past;
  told = elim (cases_Bool (nat_lt p cut)) [ inl below ↦ rw below refl | inr kept ↦ rw kept refl ];
}
unspoken_decides cut o heard aim past = absurd past

pub unspoken_or : (aim : Aim) (firm : ℕ) → IsUnspoken (task_for aim) firm ⊎ (IsUnspoken (task_for aim) firm → ⊥)
unspoken_or (aims.Read p) firm = elim (cases_lt p firm) [ inl below ↦ inr (λ past. omega (arith, below, past)) | inr past ↦ inl past ]
unspoken_or (aims.Append e) firm = inr (λ h. h)
unspoken_or (aims.Settle n) firm = inr (λ h. h)
unspoken_or aims.Tail firm = inr (λ h. h)
unspoken_or aims.Seal firm = inr (λ h. h)
unspoken_or (aims.Trim n) firm = inr (λ h. h)
