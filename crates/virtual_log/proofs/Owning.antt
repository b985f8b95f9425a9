-- Where all events since a moment are one user's.
use Rattle.std.proofs.Common.{◌≡◌, ℕ, List, [], ◌∷◌, ◌++◌, refl, sym, ap, ◌∙◌, subst, append_assoc}
use Rattle.legal_journal.specs.declared.events.Event.{Event}
use Rattle.legal_journal.specs.Journal.{State, state_of}
use Rattle.legal_journal.specs.Turns.{AreOthers}
use Rattle.virtual_log.specs.Turning.{AreOwn, OnlyOwn, Still}

-- what follows the same beginning is the same
cancel : (xs ys zs : List Event) → xs ++ ys ≡ xs ++ zs → ys ≡ zs
cancel [] ys zs e = e
cancel (x ∷ xs) ys zs e = cancel xs ys zs (cc)

own_parts : (who : ℕ) (xs ys : List Event) → AreOwn who (xs ++ ys) → AreOwn who xs × AreOwn who ys
own_parts who [] ys h = (tt, h)
own_parts who (x ∷ xs) ys h = let k = own_parts who xs ys h.1 in ((h.0, k.0), k.1)

-- both parts of a time at which only who's events came
pub own_split : (who : ℕ) (a b c m n : List Event) → b ≡ a ++ m → c ≡ b ++ n → OnlyOwn who a c → OnlyOwn who a b × OnlyOwn who b c
own_split who a b c m n first second h =
    let is : a ++ h.more ≡ a ++ (m ++ n) = sym h.seen ∙ (second ∙ (ap (λ es. es ++ n) first ∙ append_assoc a m n)) in
    let parts = own_parts who m n (subst (AreOwn who) (cancel a h.more (m ++ n) is) h.own) in
    (record { more = m; seen = first; own = parts.0 }, record { more = n; seen = second; own = parts.1 })

none_of : (who : ℕ) (es : List Event) → AreOthers who es → AreOwn who es → es ≡ []
none_of who [] h k = refl
none_of who (e ∷ es) h k = absurd (h.0 k.0)

-- then no event is another's
pub no_others : (who : ℕ) (a es : List Event) → AreOthers who es → OnlyOwn who a (a ++ es) → es ≡ []
no_others who a es apart h = none_of who es apart (subst (AreOwn who) (cancel a h.more es (sym h.seen)) h.own)

pub still_refl : (w : State) → Still w w
still_refl w = record { register = refl; told = λ i. refl }

pub still_trans : (a b c : State) → Still a b → Still b c → Still a c
still_trans a b c f g = record { register = g.register ∙ f.register; told = λ i. g.told i ∙ f.told i }

-- nothing is told where no event is who's and none is another's
pub still_others : (who : ℕ) (a es : List Event) → AreOthers who es → OnlyOwn who a (a ++ es) → Still (state_of a) (state_of (a ++ es))
still_others who a es apart h =
    let same : a ++ es ≡ a = ap (λ l. a ++ l) (no_others who a es apart h) ∙ sym (nil a) in
    subst (λ b. Still (state_of a) (state_of b)) (sym same) (still_refl (state_of a))
  where
    nil : (xs : List Event) → xs ≡ xs ++ []
    nil [] = refl
    nil (x ∷ xs) = ap (λ l. x ∷ l) (nil xs)
