-- What a list of events has, event by event.
use Rattle.std.proofs.Common.{◌≡◌, ◌⊎◌, inl, inr, refl, sym, ap, ◌∙◌, subst, ⊎_elim, ℕ, zero, suc, ◌<◌, List, [], ◌∷◌, length, get_or, Option, Some, None, arith}
use Rattle.std.specs.Prelude.{slice_get, filter_map, Contains}
use Rattle.std.specs.List.{cons_option}
use Rattle.std.proofs.lemmas.List.Elements.{Contains-append_cases, Contains-append_left, Contains-append_right, Contains-push, Contains-push_cases}
use Rattle.delos_types.specs.declared.entry.Entry.{Entry}
use Rattle.legal_journal.specs.declared.events.Event.{Event}
use Rattle.legal_journal.specs.Journal.{State, Shows}
use Rattle.legal_journal.specs.Laws.{Continues}

-- nothing is in the empty list
pub none_in : {X : Type 0} (x : X) → Contains [] x → ⊥
none_in x h = omega (arith, h.1)

one_in : {X : Type 0} (y x : X) → Contains (y ∷ []) x → y ≡ x
one_in y x h = ⊎_elim (λ (k : Contains [] x). absurd (none_in x k)) (λ (k : y ≡ x). k) (Contains-push_cases [] y x h)

split : {X : Type 0} (o : Option X) (xs : List X) (x : X) → Contains (cons_option o xs) x → (o ≡ Some x) ⊎ Contains xs x
split None xs x h = inr h
split (Some y) xs x h =
    ⊎_elim
    (λ (k : Contains (y ∷ []) x). let same = one_in y x k in inl (cc))
    (λ (k : Contains xs x). inr k)
    (Contains-append_cases (y ∷ []) xs x h)

joined : {X : Type 0} (o : Option X) (xs : List X) (x : X) → (o ≡ Some x) ⊎ Contains xs x → Contains (cons_option o xs) x
joined None xs x (inl is) = absurd (cc)
joined None xs x (inr h) = h
joined (Some y) xs x (inl is) = let same : y ≡ x = cc in subst (λ z. Contains (z ∷ xs) x) (sym same) (Contains-append_left (x ∷ []) xs x (Contains-push [] x))
joined (Some y) xs x (inr h) = Contains-append_right (y ∷ []) xs x h

module _ {X : Type 0} (f : Event → Option X) (e : Event) (es : List Event) (x : X) where
  -- what is in it is the first event's, or of one of the others
  pub first_or_later : Contains (filter_map f (e ∷ es)) x → (f e ≡ Some x) ⊎ Contains (filter_map f es) x
  first_or_later h = split (f e) (filter_map f es) x h

  -- what the first event has is in it
  pub at_first : f e ≡ Some x → Contains (filter_map f (e ∷ es)) x
  at_first h = joined (f e) (filter_map f es) x (inl h)

  -- what a later event has is in it
  pub at_later : Contains (filter_map f es) x → Contains (filter_map f (e ∷ es)) x
  at_later h = joined (f e) (filter_map f es) x (inr h)

-- Entries of a log

pub some_at : (log : List Entry) (n : ℕ) → n < length log → (e : Entry) × (slice_get log n ≡ Some e)
some_at [] n h = absurd (omega arith)
some_at (x ∷ xs) zero h = (x, refl)
some_at (x ∷ xs) (suc n) h = some_at xs n (omega arith)

-- what a log shows it shows later
pub shows_later : (a b : State) (log : List Entry) → Continues a b → Shows a.shown log → Shows b.shown log
shows_later a b log on h i low = let e = some_at log i low in on.shown i e.0 (h i low ∙ e.1) ∙ sym e.1

element_is : (log : List Entry) (k : ℕ) (x e : Entry) → slice_get log k ≡ Some x → get_or log k e ≡ x
element_is [] k x e h = absurd (cc)
element_is (y ∷ ys) zero x e h = cc
element_is (y ∷ ys) (suc k) x e h = element_is ys k x e h

-- where an entry of a log is
pub place_of : (log : List Entry) (e : Entry) → Contains log e → (k : ℕ) × (k < length log) × (slice_get log k ≡ Some e)
place_of log e h =
    let x = some_at log h.0 h.1 in
    let same : x.0 ≡ e = sym (element_is log h.0 x.0 e x.1) ∙ h.2 in
    (h.0, h.1, x.1 ∙ ap (λ y. Some y) same)
