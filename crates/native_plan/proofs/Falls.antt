-- What is left to do falls with each message.
use Rattle.std.proofs.Common.{◌≡◌, ℕ, zero, suc, ◌+◌, ◌-◌, ◌*◌, ◌<◌, ◌≤◌, Bool, true, false, refl, sym, ◌∙◌, subst, arith, List, [], ◌∷◌, length, get_or, Some, inl, inr, max}
use Rattle.std.specs.Prelude.{◌⊎◌, ◌||◌, nat_le, nat_lt, if◌then◌else◌, sum_by}
use Rattle.std.proofs.lemmas.Bool.{false≢true, le-leb, or_right}
use Rattle.std.proofs.lemmas.List.Sums.{sum_by-cons}
use Rattle.quorum_cell.specs.declared.message.Told.{Told}
use Rattle.quorum_cell.specs.declared.message.Told.TheVariants.{Down, DiskFault, Sealed, Unsealed, Behind, Ack, Got, Short, Cut, Trimmed}
use Rattle.quorum_cell.specs.Servers.{Server}
use Rattle.native_plan.specs.declared.member.Member.{Member}
use Rattle.native_plan.specs.declared.message.Errand.{Errand}
use Rattle.native_plan.specs.declared.message.Errand.TheVariants.{Store, Seal, Tail, Repair, Read, Trim}
use Rattle.native_plan.specs.declared.message.Message.TheVariants.{Told as Answered}
use Rattle.native_plan.specs.declared.message.Phase.{Phase}
use Rattle.native_plan.specs.declared.message.Phase.TheVariants.{Filling, Asking, Opening, Shutting, Sealing, Mending, Reading, Trimming}
use Rattle.native_plan.specs.Members.{no_member, heard_by, left_to, more_after, due_of, is_opened_to, is_found_sealed}
use Rattle.native_plan.specs.Plans.{is_done, end_of, errand_of, fill_of, sent_on}
use Rattle.native_plan.specs.Course.{IsPlanned, FillsTo, MendsTo, ToldWell, LetsGo, EndsRead}

-- Once an answer came nothing more is wanted of the server, or it was brought nearer, or is sealed now and no seal follows, or a Read has its end.
abbrev Steps : Phase → ℕ → ℕ → ℕ → Member → Errand → Told → Member → Type 0
Steps ph want place i m e told now = (is_done ph want i now ≡ true) ⊎ ((((m.at < now.at) × (m.at < end_of ph want)) ⊎ ((more_after e ≡ 20) × ((cut : ℕ) → more_after (errand_of ph cut want place now) ≡ 0))) ⊎ EndsRead e told)

pub plain_fill : (goal cut at : ℕ) → more_after (fill_of goal cut at) ≡ 0
plain_fill goal cut at = by (nat_le goal at) (nat_lt at cut)
  where
    by : (a b : Bool) → more_after (if a then Tail else (if b then Trim else Store at)) ≡ 0
    by true b = refl
    by false true = refl
    by false false = refl

pub plain_mend : (cut at : ℕ) → more_after (due_of cut (Repair at)) ≡ 0
plain_mend cut at = by (nat_lt at cut)
  where
    by : (b : Bool) → more_after (if b then Trim else Repair at) ≡ 0
    by true = refl
    by false = refl

pub more_small : (e : Errand) → more_after e ≤ 20
more_small Seal = omega arith
more_small Tail = omega arith
more_small Trim = omega arith
more_small (Store p) = omega arith
more_small (Repair p) = omega arith
more_small (Read p) = omega arith

module _ (before : Server) (cut want place i : ℕ) (m : Member) where
  nearer : (a n : ℕ) → a < n → a < max a n
  nearer a n h = omega arith

  -- an open server was to be brought to this length
  filled : (goal : ℕ) (e : Errand) (told : Told) (ph : Phase) → FillsTo goal cut m e → ToldWell before cut ph want m e told → ((n : ℕ) → LetsGo ph want m.at n → m.at < n) →
      (((heard_by want e told m).unreached || (is_found_sealed (heard_by want e told m) || is_opened_to goal (heard_by want e told m))) ≡ true) ⊎ ((m.at < (heard_by want e told m).at) × (m.at < goal))
  filled goal Seal told ph q h g = absurd q
  filled goal (Repair p) told ph q h g = absurd q
  filled goal (Read p) told ph q h g = absurd q
  filled goal e Down ph p h g = inl refl
  filled goal e DiskFault ph p h g = inl refl
  filled goal (Store p) (Sealed n) ph q h g = inl (or_right _ _ refl)
  filled goal (Store p) (Ack n) ph q h g = inr (nearer m.at n h, q.1)
  filled goal Tail (Sealed n) ph q h g = inl (or_right _ _ refl)
  filled goal Tail (Unsealed n) ph q h g = inl (or_right _ _ (or_right _ _ (le-leb goal n (omega (arith, q, h)))))
  filled goal Trim (Trimmed n) ph q h g = inr (nearer m.at n (g n h), q.0)
  filled goal (Store p) told ph q h g = absurd h
  filled goal Tail told ph q h g = absurd h
  filled goal Trim told ph q h g = absurd h

  asked : (told : Told) → ToldWell before cut Asking want m Tail told → is_done Asking want i (heard_by want Tail told m) ≡ true
  asked Down h = refl
  asked DiskFault h = refl
  asked (Sealed n) h = or_right _ _ refl
  asked (Unsealed n) h = or_right _ _ (or_right _ _ refl)
  asked told h = absurd h

  sealed : (told : Told) (ph : Phase) → ToldWell before cut ph want m Seal told → ((heard_by want Seal told m).unreached || is_found_sealed (heard_by want Seal told m)) ≡ true
  sealed Down ph h = refl
  sealed DiskFault ph h = refl
  sealed (Sealed n) ph h = or_right _ _ refl
  sealed told ph h = absurd h

  mended : (t : ℕ) (e : Errand) (told : Told) → MendsTo t cut m e → ToldWell before cut (Mending t) want m e told → Steps (Mending t) want place i m e told (heard_by want e told m)
  mended t e Down q h = inl refl
  mended t e DiskFault q h = inl refl
  mended t Seal (Sealed n) q h = inr (inl (inr (refl, λ c. plain_mend c (max m.at n))))
  mended t (Repair p) (Ack n) q h = inr (inl (inl (nearer m.at n h, omega (arith, q.1))))
  mended t Trim (Trimmed n) q h = inr (inl (inl (nearer m.at n h, omega (arith, q.0))))
  mended t (Store p) told q h = absurd q
  mended t Tail told q h = absurd q
  mended t (Read p) told q h = absurd q
  mended t Trim told q h = absurd h
  mended t Seal told q h = absurd h
  mended t (Repair p) told q h = absurd h

  read : (j p : ℕ) (told : Told) → ToldWell before cut (Reading j) want m (Read p) told → Steps (Reading j) want place i m (Read p) told (heard_by want (Read p) told m)
  read j p Down h = inl refl
  read j p DiskFault h = inl refl
  read j p (Short n) h = inl (or_right _ _ (or_right _ _ refl))
  read j p (Got x) h = inr (inr tt)
  read j p (Cut b) h = inr (inr tt)
  read j p told h = absurd h

  trimmed : (told : Told) → ToldWell before cut Trimming want m Trim told → is_done Trimming want i (heard_by want Trim told m) ≡ true
  trimmed Down h = refl
  trimmed DiskFault h = refl
  trimmed (Trimmed n) h = or_right _ _ (le-leb want n h)
  trimmed told h = absurd h

  pub steps : (ph : Phase) (e : Errand) (told : Told) → IsPlanned ph cut want place m e → ToldWell before cut ph want m e told → Steps ph want place i m e told (heard_by want e told m)
  steps Filling e told p h = by (filled want e told Filling p h (λ n l. l))
    where
      by : (((heard_by want e told m).unreached || (is_found_sealed (heard_by want e told m) || is_opened_to want (heard_by want e told m))) ≡ true) ⊎ ((m.at < (heard_by want e told m).at) × (m.at < want)) → Steps Filling want place i m e told (heard_by want e told m)
      by (inl d) = inl d
      by (inr g) = inr (inl (inl (g.0, omega (arith, g.1))))
  steps (Opening t) e told p h = by (filled t e told (Opening t) p h (λ n l. l))
    where
      by : (((heard_by want e told m).unreached || (is_found_sealed (heard_by want e told m) || is_opened_to t (heard_by want e told m))) ≡ true) ⊎ ((m.at < (heard_by want e told m).at) × (m.at < t)) → Steps (Opening t) want place i m e told (heard_by want e told m)
      by (inl d) = inl d
      by (inr g) = inr (inl (inl (g.0, omega (arith, g.1))))
  steps Asking e told p h = subst (λ (x : Errand). ToldWell before cut Asking want m x told → Steps Asking want place i m x told (heard_by want x told m)) (sym p) (λ g. inl (asked told g)) h
  steps Shutting e told p h = subst (λ (x : Errand). ToldWell before cut Shutting want m x told → Steps Shutting want place i m x told (heard_by want x told m)) (sym p) (λ g. inl (sealed told Shutting g)) h
  steps Sealing e told p h = subst (λ (x : Errand). ToldWell before cut Sealing want m x told → Steps Sealing want place i m x told (heard_by want x told m)) (sym p) (λ g. inl (sealed told Sealing g)) h
  steps (Mending t) e told p h = mended t e told p h
  steps (Reading j) e told p h = subst (λ (x : Errand). ToldWell before cut (Reading j) want m x told → Steps (Reading j) want place i m x told (heard_by want x told m)) (sym p) (λ g. read j place told g) h
  steps Trimming e told p h = subst (λ (x : Errand). ToldWell before cut Trimming want m x told → Steps Trimming want place i m x told (heard_by want x told m)) (sym p.0) (λ g. inl (trimmed told g)) h

  ---- what is left

  still : (e : Errand) (told : Told) → m.at ≤ (heard_by want e told m).at
  still e Down = omega arith
  still e DiskFault = omega arith
  still e (Sealed n) = omega arith
  still e (Unsealed n) = omega arith
  still e (Trimmed n) = omega arith
  still e (Short n) = omega arith
  still e (Got x) = omega arith
  still e (Cut b) = omega arith
  still e (Behind n) = omega arith
  still (Store p) (Ack n) = omega arith
  still Seal (Ack n) = omega arith
  still Tail (Ack n) = omega arith
  still (Repair p) (Ack n) = omega arith
  still (Read p) (Ack n) = omega arith
  still Trim (Ack n) = omega arith

  -- once it is heard and the next message is sent less is left of this server, unless a Read has its end
  pub falls : (ph : Phase) (later : ℕ) (e : Errand) (told : Told) → m.message ≡ Some (Answered e told) → m.losses < 8 → IsPlanned ph cut want place m e → ToldWell before cut ph want m e told → (EndsRead e told → ⊥) →
      left_to (end_of ph want) (sent_on (is_done ph want i (heard_by want e told m)) (errand_of ph later want place (heard_by want e told m)) (heard_by want e told m)) < left_to (end_of ph want) m
  falls ph later e told out few p h no_end = rw out (by (is_done ph want i (heard_by want e told m)) refl (steps ph e told p h))
    where
      now : Member
      now = heard_by want e told m

      by : (b : Bool) → is_done ph want i (heard_by want e told m) ≡ b → Steps ph want place i m e told (heard_by want e told m) →
          left_to (end_of ph want) (sent_on b (errand_of ph later want place (heard_by want e told m)) (heard_by want e told m)) < 40 * (end_of ph want - m.at) + more_after e + 10 - m.losses
      by true d s = omega (arith, few)
      by false d (inl s) = absurd (false≢true (sym d ∙ s))
      by false d (inr (inr s)) = absurd (no_end s)
      by false d (inr (inl (inl near))) = let small = more_small (errand_of ph later want place (heard_by want e told m)) in omega (arith, near.0, near.1, small, few)
      by false d (inr (inl (inr seal))) = let none = seal.1 later in omega (arith, seal.0, none, few, still e told)

-- where less is left of one server and no more of any other, less is left of all
pub less_of_all : (f : Member → ℕ) (old new : List Member) (i : ℕ) → length new ≡ length old → ((j : ℕ) → j < length old → f (get_or new j no_member) ≤ f (get_or old j no_member)) → i < length old → f (get_or new i no_member) < f (get_or old i no_member) → sum_by f new < sum_by f old
less_of_all f [] new i all each here less = absurd (omega arith)
less_of_all f (m ∷ old) [] i all each here less = absurd (omega (arith, all))
less_of_all f (m ∷ old) (n ∷ new) zero all each here less = omega (arith, sum_by-cons f m old, sum_by-cons f n new, less, no_more f old new (omega (arith, all)) (λ j l. each (suc j) (omega arith)))
  where
    no_more : (f : Member → ℕ) (old new : List Member) → length new ≡ length old → ((j : ℕ) → j < length old → f (get_or new j no_member) ≤ f (get_or old j no_member)) → sum_by f new ≤ sum_by f old
    no_more f [] [] all each = omega arith
    no_more f [] (n ∷ new) all each = absurd (omega (arith, all))
    no_more f (m ∷ old) [] all each = absurd (omega (arith, all))
    no_more f (m ∷ old) (n ∷ new) all each = omega (arith, sum_by-cons f m old, sum_by-cons f n new, each 0 (omega arith), no_more f old new (omega (arith, all)) (λ j l. each (suc j) (omega arith)))
less_of_all f (m ∷ old) (n ∷ new) (suc i) all each here less = omega (arith, sum_by-cons f m old, sum_by-cons f n new, each 0 (omega arith), less_of_all f old new i (omega (arith, all)) (λ j l. each (suc j) (omega arith)) (omega arith) less)
