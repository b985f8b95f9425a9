-- What a maker's turns add to its own events.
use Rattle.std.proofs.Common.{◌≡◌, ◌≢◌, ℕ, suc, ◌+◌, List, [], ◌∷◌, ◌++◌, sym, refl, ap, ◌∙◌, subst, arith, append_assoc, eqb, eq-eqb, ne_eqb, cond, Result, Ok, Err, MatchResult, true, false}
use Rattle.std.proofs.lemmas.List.{append-nil}
use Rattle.std.proofs.lemmas.List.Elements.{filter-append, All-head, All-tail, All-cons, All-nil}
use mathlib.Core.Bool.{true≢false}
use Rattle.std.specs.Result.{is_err}
use Rattle.std.specs.List.{All, Contains}
use Rattle.pass_lock.specs.Journal.{Follows, numbers, Signed}
use Rattle.pass_lock_rows.specs.declared.desk.Event.{Event}
use Rattle.pass_lock_rows.specs.Turns.{Maker, event, Waits, Makes, own, counted, Made}

abbrev is_by : ℕ → Event → Type 0
is_by who e = e.who ≢ who

pub own-none : (who : ℕ) (xs : List Event) → All (λ e. e.who ≢ who) xs → own who xs ≡ []
own-none who [] h = refl
own-none who (x ∷ xs) h = ap (λ b. cond b (x ∷ own who xs) (own who xs)) (ne_eqb x.who who (All-head (is_by who) x xs h)) ∙ own-none who xs (All-tail (is_by who) x xs h)

pub own-one : (who n : ℕ) → own who (event who n ∷ []) ≡ event who n ∷ []
own-one who n = ap (λ b. cond b (event who n ∷ []) []) (eq-eqb who who refl)

-- others' events leave one's own as they are
pub own-others : (who : ℕ) (seen between : List Event) → All (λ e. e.who ≢ who) between → own who (seen ++ between) ≡ own who seen
own-others who seen between h = filter-append (λ e. eqb e.who who) seen between ∙ (ap (λ l. own who seen ++ l) (own-none who between h) ∙ append-nil (own who seen))

pub made-none : (m : Maker) → Made m 0 m
made-none m = ((refl, refl), sym (append-nil (own m.who m.seen)))

pub made-waits : (m m' m'' : Maker) (n : ℕ) → Made m n m' → Waits m' m'' → Made m n m''
made-waits m m' m'' n a w = let between : List Event = w.1 in let apart : All (λ e. e.who ≢ m.who) between = subst (λ (k : ℕ). All (λ e. e.who ≢ k) between) a.0.1 w.3 in
    ((w.0.0 ∙ a.0.0, w.0.1 ∙ a.0.1), ap (own m.who) w.2 ∙ (own-others m.who m'.seen between apart ∙ a.1))

pub made-makes : (m m' m'' : Maker) (n k : ℕ) → k ≡ n + 1 → Made m n m' → Makes m' n m'' → Made m k m''
made-makes m m' m'' n k next a w = let between : List Event = w.1 in let apart : All (λ e. e.who ≢ m.who) between = subst (λ (k : ℕ). All (λ e. e.who ≢ k) between) a.0.1 w.3 in let who : ℕ = m.who in
    let same : event m'.who n ≡ event who n = ap (λ (k : ℕ). event k n) a.0.1 in let suc' : suc n ≡ k = omega (arith, next) in
    let seen : m''.seen ≡ (m'.seen ++ between) ++ event who n ∷ [] = w.2 ∙ ap (λ (e : Event). (m'.seen ++ between) ++ e ∷ []) same in
    subst (λ (k : ℕ). Made m k m'') suc' (
      (w.0.0 ∙ a.0.0, w.0.1 ∙ a.0.1),
      ap (own who) seen ∙ (filter-append (λ e. eqb e.who who) (m'.seen ++ between) (event who n ∷ []) ∙ (ap (λ l. own who (m'.seen ++ between) ++ l) (own-one who n)
          ∙ (ap (λ l. l ++ event who n ∷ []) (own-others who m'.seen between apart ∙ a.1) ∙ append_assoc (own who m.seen) (counted who n) (event who n ∷ [])))),
    )

-- a turn at the lock, by what enter, apply and leave say
pub turned : {A B : Type 0} (n : ℕ) (m : Maker) (was now : List Event) (r : Result A B) → Follows (λ e. e.who) m.who m.seen was
    → MatchResult r (λ _. now ≡ was ++ event m.who n ∷ []) (λ _. now ≡ was) → MatchResult r (λ _. Makes m n (record m { seen = now })) (λ _. Waits m (record m { seen = now }))
turned n m was now (Ok x) f e = ((refl, refl), f.0, e ∙ ap (λ l. l ++ event m.who n ∷ []) f.1, f.2)
turned n m was now (Err x) f e = ((refl, refl), f.0, e ∙ f.1, f.2)

-- the desk grew by the own event, or by none
pub grew : {A B : Type 0} (who n : ℕ) (was now : List Event) (parts : List (ℕ × List Event)) (r : Result A B) → Contains (numbers parts) who → MatchResult r (λ _. now ≡ was ++ event who n ∷ []) (λ _. now ≡ was)
    → (piece : List Event) × (now ≡ was ++ piece) × Signed (λ e. e.who) parts piece
grew who n was now parts (Ok x) has e = let P : Event → Type 0 = λ e. Contains (numbers parts) e.who in (event who n ∷ [], e, All-cons P (event who n) [] has (All-nil P))
grew who n was now parts (Err x) has e = ([], e ∙ sym (append-nil was), All-nil (λ (e : Event). Contains (numbers parts) e.who))

pub kept_of : {A B : Type 0} (P Q : Type 0) (r : Result A B) → is_err r ≡ false → MatchResult r (λ _. P) (λ _. Q) → P
kept_of P Q (Ok x) e h = h
kept_of P Q (Err x) e h = absurd (true≢false e)

pub lost_of : {A B : Type 0} (P Q : Type 0) (r : Result A B) → is_err r ≡ true → MatchResult r (λ _. P) (λ _. Q) → Q
lost_of P Q (Ok x) e h = absurd (true≢false (sym e))
lost_of P Q (Err x) e h = h
