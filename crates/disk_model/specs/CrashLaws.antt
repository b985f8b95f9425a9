-- How claims on every crash go on from call to call.
use Rattle.std.specs.Prelude.{◌≡◌, ℕ, List, [], ◌∷◌, ◌++◌, refl}
use Rattle.std.proofs.Common.{inl, inr, sym, ap, ◌∙◌, subst, append_assoc}
use Rattle.disk_model.specs.Disk.{Moment, Timeline, followed, OneStep}
use Rattle.disk_model.specs.Crash.{Leaves, EachLeaves, AnyCrash}

each_both : (xs ys : List Moment) (P : List ℕ → Type 0) → EachLeaves xs P → EachLeaves ys P → EachLeaves (xs ++ ys) P
each_both [] ys P a b = b
each_both (x ∷ xs) ys P a b = (a.0, each_both xs ys P a.1 b)

each_weaker : (xs : List Moment) (P Q : List ℕ → Type 0) → ((c : List ℕ) → P c → Q c) → EachLeaves xs P → EachLeaves xs Q
each_weaker [] P Q weaker a = tt
each_weaker (x ∷ xs) P Q weaker a = (λ c image. weaker c (a.0 c image), each_weaker xs P Q weaker a.1)

-- nothing happened
pub stays : (old new : Timeline) (P : List ℕ → Type 0) → new ≡ old → Leaves old.now P → AnyCrash old new P
stays old new P same here =
    let start : AnyCrash old old P = record { since = []; goes_on = refl; first = here; later = tt; last = here } in
    subst (λ (l : Timeline). AnyCrash old l P) (sym same) start

-- one call, which may lead to this moment
pub one_step : (old : Timeline) (m : Moment) (new : Timeline) (P : List ℕ → Type 0) → OneStep old m new → Leaves old.now P → Leaves m P → AnyCrash old new P
one_step old m new P (inl same) here there = stays old new P same here
one_step old m new P (inr next) here there =
    let moved : AnyCrash old (followed old m) P = record {
      since = m ∷ [];
      goes_on = append_assoc old.past (old.now ∷ []) (m ∷ []);
      first = here;
      later = (there, tt);
      last = there;
    } in
    subst (λ (l : Timeline). AnyCrash old l P) (sym next) moved

-- one run after another
pub joined : (a b c : Timeline) (P : List ℕ → Type 0) → AnyCrash a b P → AnyCrash b c P → AnyCrash a c P
joined a b c P front back = record {
  since = front.since ++ back.since;
  goes_on = back.goes_on ∙ sym (append_assoc b.past (b.now ∷ []) back.since) ∙ ap (λ (l : List Moment). l ++ back.since) front.goes_on
      ∙ append_assoc a.past (a.now ∷ front.since) back.since;
  first = front.first;
  later = each_both front.since back.since P front.later back.later;
  last = back.last;
}

-- a weaker claim
pub weaker : (a b : Timeline) (P Q : List ℕ → Type 0) → ((c : List ℕ) → P c → Q c) → AnyCrash a b P → AnyCrash a b Q
weaker a b P Q implies run = record {
  since = run.since;
  goes_on = run.goes_on;
  first = λ c image. implies c (run.first c image);
  later = each_weaker run.since P Q implies run.later;
  last = λ c image. implies c (run.last c image);
}
