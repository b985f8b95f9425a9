-- The ranks that appear in a log stand there in the order of their places, each in the entry at its position.
use Rattle.std.proofs.Common.{◌≡◌, refl, sym, ap, ◌∙◌, subst, inl, inr, ℕ, suc, ◌+◌, ◌<◌, ◌≤◌, List, [], ◌∷◌, Option, Some, None, length, arith}
use Rattle.std.specs.Prelude.{slice_get, Contains}
use Rattle.std.specs.List.{AllByRecursion, cons_option}
use Rattle.delos_types.specs.declared.entry.Entry.{Entry}
use Rattle.delos_types.specs.declared.place.Place.{Place}
use Rattle.engine_api.specs.declared.content.Content.{Content}
use Rattle.engine_api.specs.declared.content.Content.TheVariants.{Session, Alive, Leave, Trim}
use Rattle.engine_api.specs.declared.content.Placed.{Placed}
use Rattle.engine_api.specs.Items.{unpack, placed_at, placed_from}
use Rattle.engine_api.specs.Acted.{Asked, appearance_of, appearances, unpack_all, asked_in}
use Rattle.engine_api.proofs.Appends.{appearances-append}
use Rattle.log_laws.specs.Order.{Precedes, EachPair}
use Rattle.log_laws.specs.Appearing.{StandsIn}
use Rattle.log_laws.proofs.Pairs.{all-imply, all-append, pairs-append}

-- the places are in these positions
abbrev IsFrom : ℕ → ℕ → Asked → Type 0
IsFrom low high x = (low ≤ x.place.pos) × (x.place.pos < high)

abbrev Rises : Asked → Asked → Type 0
Rises x y = Precedes x.place y.place

-- one more, where the item is of a session
keep : (P : Place → Type 0) (place : Place) (c : Content) (xs : List Asked) → P place → AllByRecursion (λ x. P x.place) xs → AllByRecursion (λ x. P x.place) (cons_option (appearance_of place c) xs)
keep P place (Session s r c) xs h k = (h, k)
keep P place (Alive n p) xs h k = k
keep P place (Leave n) xs h k = k
keep P place (Trim p) xs h k = k

-- what holds of each placed item holds of each rank among them
appearances-all : (P : Place → Type 0) (ps : List Placed) → AllByRecursion (λ p. P p.place) ps → AllByRecursion (λ x. P x.place) (appearances ps)
appearances-all P [] h = tt
appearances-all P (p ∷ ps) h = keep P p.place p.content (appearances ps) h.0 (appearances-all P ps h.1)

keep_pairs : (place : Place) (c : Content) (xs : List Asked) → AllByRecursion (λ x. Precedes place x.place) xs → EachPair Rises xs → EachPair Rises (cons_option (appearance_of place c) xs)
keep_pairs place (Session s r c) xs h k = (h, k)
keep_pairs place (Alive n p) xs h k = k
keep_pairs place (Leave n) xs h k = k
keep_pairs place (Trim p) xs h k = k

appearances-pairs : (ps : List Placed) → EachPair (λ p q. Precedes p.place q.place) ps → EachPair Rises (appearances ps)
appearances-pairs [] h = tt
appearances-pairs (p ∷ ps) h = keep_pairs p.place p.content (appearances ps) (appearances-all (Precedes p.place) ps h.0) (appearances-pairs ps h.1)

-- The items of one entry

placed-from : (pos low sub : ℕ) (cs : List Content) → low ≤ sub → AllByRecursion (λ p. (p.place.pos ≡ pos) × (low ≤ p.place.sub)) (placed_from pos sub cs)
placed-from pos low sub [] h = tt
placed-from pos low sub (c ∷ cs) h = ((refl, h), placed-from pos low (sub + 1) cs (omega arith))

placed-pairs : (pos sub : ℕ) (cs : List Content) → EachPair (λ p q. Precedes p.place q.place) (placed_from pos sub cs)
placed-pairs pos sub [] = tt
placed-pairs pos sub (c ∷ cs) =
    (all-imply _ _ (placed_from pos (sub + 1) cs) (λ (q : Placed) h. inr (sym h.0, omega (arith, h.1))) (placed-from pos (sub + 1) (sub + 1) cs (omega arith)), placed-pairs pos (sub + 1) cs)

placed_at-from : (pos : ℕ) (o : Option (List Content)) → AllByRecursion (λ p. p.place.pos ≡ pos) (placed_at pos o)
placed_at-from pos None = tt
placed_at-from pos (Some cs) = all-imply _ _ (placed_from pos 0 cs) (λ (p : Placed) h. h.0) (placed-from pos 0 0 cs (omega arith))

placed_at-pairs : (pos : ℕ) (o : Option (List Content)) → EachPair (λ p q. Precedes p.place q.place) (placed_at pos o)
placed_at-pairs pos None = tt
placed_at-pairs pos (Some cs) = placed-pairs pos 0 cs

-- The ranks of all entries

pub asked-from : (pos : ℕ) (es : List Entry) → AllByRecursion (IsFrom pos (pos + length es)) (asked_in pos es)
asked-from pos [] = tt
asked-from pos (e ∷ es) =
    subst (AllByRecursion (IsFrom pos (pos + length (e ∷ es)))) (sym (appearances-append (unpack pos e) (unpack_all (pos + 1) es)))
    (all-append _ (appearances (unpack pos e)) (asked_in (pos + 1) es)
    (appearances-all (λ p. (pos ≤ p.pos) × (p.pos < pos + length (e ∷ es))) (unpack pos e) (all-imply _ _ (unpack pos e) (λ (p : Placed) h. (omega (arith, h), omega (arith, h))) (placed_at-from pos _)))
    (all-imply _ _ (asked_in (pos + 1) es) (λ (x : Asked) h. (omega (arith, h.0), omega (arith, h.1))) (asked-from (pos + 1) es)))

across : (low mid high : ℕ) (xs ys : List Asked) → AllByRecursion (IsFrom low mid) xs → AllByRecursion (IsFrom mid high) ys → AllByRecursion (λ x. AllByRecursion (Rises x) ys) xs
across low mid high [] ys h k = tt
across low mid high (x ∷ xs) ys h k = (all-imply _ _ ys (λ (y : Asked) l. inl (omega (arith, l.0, h.0.1))) k, across low mid high xs ys h.1 k)

pub asked-rises : (pos : ℕ) (es : List Entry) → EachPair Rises (asked_in pos es)
asked-rises pos [] = tt
asked-rises pos (e ∷ es) =
    subst (EachPair Rises) (sym (appearances-append (unpack pos e) (unpack_all (pos + 1) es)))
    (pairs-append Rises (appearances (unpack pos e)) (asked_in (pos + 1) es) (appearances-pairs (unpack pos e) (placed_at-pairs pos _)) (asked-rises (pos + 1) es)
    (across pos (pos + 1) (pos + 1 + length es) (appearances (unpack pos e)) (asked_in (pos + 1) es)
    (appearances-all (λ p. (pos ≤ p.pos) × (p.pos < pos + 1)) (unpack pos e) (all-imply _ _ (unpack pos e) (λ (p : Placed) h. (omega (arith, h), omega (arith, h))) (placed_at-from pos _)))
    (asked-from (pos + 1) es)))

-- Each rank is an item of the entry at its position.

-- from a position on
record Stands (pos : ℕ) (es : List Entry) (x : Asked) : Type 0 where
  pub index : ℕ
  pub entry : Entry
  pub place : x.place.pos ≡ pos + index
  pub at : slice_get es index ≡ Some entry
  pub item : Contains (unpack x.place.pos entry) (record { place = x.place; content = Session x.session x.rank x.command })

-- the item is among these
abbrev Among : List Placed → Asked → Type 0
Among ps x = Contains ps (record { place = x.place; content = Session x.session x.rank x.command })

among-more : (p : Placed) (ps : List Placed) (x : Asked) → Among ps x → Among (p ∷ ps) x
among-more p ps x h = (suc h.0, omega (arith, h.1), h.2)

keep_among : (place : Place) (c : Content) (ps : List Placed) (xs : List Asked) → AllByRecursion (Among ps) xs → AllByRecursion (Among (record { place = place; content = c } ∷ ps)) (cons_option (appearance_of place c) xs)
keep_among place (Session s r c) ps xs h = ((0, omega arith, refl), all-imply _ _ xs (λ x k. among-more _ ps x k) h)
keep_among place (Alive n p) ps xs h = all-imply _ _ xs (λ x k. among-more _ ps x k) h
keep_among place (Leave n) ps xs h = all-imply _ _ xs (λ x k. among-more _ ps x k) h
keep_among place (Trim p) ps xs h = all-imply _ _ xs (λ x k. among-more _ ps x k) h

appearances-among : (ps : List Placed) → AllByRecursion (Among ps) (appearances ps)
appearances-among [] = tt
appearances-among (p ∷ ps) = keep_among p.place p.content ps (appearances ps) (appearances-among ps)

both : {A : Type 0} (P Q : A → Type 0) (xs : List A) → AllByRecursion P xs → AllByRecursion Q xs → AllByRecursion (λ x. P x × Q x) xs
both P Q [] h k = tt
both P Q (x ∷ xs) h k = ((h.0, k.0), both P Q xs h.1 k.1)

asked-stands : (pos : ℕ) (es : List Entry) → AllByRecursion (Stands pos es) (asked_in pos es)
asked-stands pos [] = tt
asked-stands pos (e ∷ es) =
    subst (AllByRecursion (Stands pos (e ∷ es))) (sym (appearances-append (unpack pos e) (unpack_all (pos + 1) es)))
    (all-append _ (appearances (unpack pos e)) (asked_in (pos + 1) es)
    (all-imply _ _ (appearances (unpack pos e)) here
    (both _ _ (appearances (unpack pos e)) (appearances-all (λ p. p.pos ≡ pos) (unpack pos e) (placed_at-from pos _)) (appearances-among (unpack pos e))))
    (all-imply _ _ (asked_in (pos + 1) es) (λ (x : Asked) h. record { index = suc h.index; entry = h.entry; place = h.place ∙ (let n : pos + 1 + h.index ≡ pos + suc h.index = omega arith in n); at = h.at; item = h.item }) (asked-stands (pos + 1) es)))
  where
    here : (x : Asked) → (x.place.pos ≡ pos) × Among (unpack pos e) x → Stands pos (e ∷ es) x
    here x h = record {
      index = 0;
      entry = e;
      place = h.0 ∙ (let n : pos ≡ pos + 0 = omega arith in n);
      at = refl;
      item = subst (λ n. Contains (unpack n e) (record { place = x.place; content = Session x.session x.rank x.command })) (sym h.0) h.1;
    }

pub all-stand : (log : List Entry) → AllByRecursion (StandsIn log) (asked_in 0 log)
all-stand log = all-imply _ _ (asked_in 0 log) (λ (x : Asked) h. record { entry = h.entry; at = ap (slice_get log) (h.place ∙ (let n : 0 + h.index ≡ h.index = omega arith in n)) ∙ h.at; item = h.item }) (asked-stands 0 log)
