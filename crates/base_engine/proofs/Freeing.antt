-- What a node's log shows may be trimmed as far as its state says.
use Rattle.std.proofs.Common.{◌≡◌, ℕ, zero, suc, ◌<◌, ◌≤◌, List, [], ◌∷◌, length, Some, refl, sym, ap, ◌∙◌, subst, arith}
use Rattle.std.specs.Prelude.{min, slice_get}
use Rattle.delos_types.specs.declared.entry.Entry.{Entry}
use Rattle.engine_steps.specs.Layout.{trim_of}
use Rattle.legal_journal.specs.Law.{Law}
use Rattle.legal_journal.specs.declared.events.Event.{Event}
use Rattle.legal_journal.specs.Journal.{state_of, IsLegal, IsFree}
use Rattle.replica_api.specs.Replica.{Meaning, ReplicaView}
use Rattle.base_engine.specs.Reading.{IsFront}
use Rattle.base_engine.specs.Following.{Follows}
use Rattle.base_engine.specs.Trimming.{least_of, IsFloor, ShowsAll, trim_to}

pub there : (log : List Entry) (i : ℕ) → i < length log → (e : Entry) × (slice_get log i ≡ Some e)
there [] i low = absurd (omega (arith, low))
there (x ∷ xs) zero low = (x, refl)
there (x ∷ xs) (suc i) low = there xs i (omega (arith, low))

same_gets : (xs ys : List Entry) → length xs ≡ length ys → ((i : ℕ) (x y : Entry) → slice_get xs i ≡ Some x → slice_get ys i ≡ Some y → x ≡ y) → xs ≡ ys
same_gets [] [] size same = refl
same_gets [] (y ∷ ys) size same = absurd (omega (arith, size))
same_gets (x ∷ xs) [] size same = absurd (omega (arith, size))
same_gets (x ∷ xs) (y ∷ ys) size same = ap (λ e. e ∷ xs) (same 0 x y refl refl) ∙ ap (λ l. y ∷ l) (same_gets xs ys (omega (arith, size)) (λ i. same (suc i)))

module _ (law : Law) (holds : List Event → ℕ → Entry → Type 0) (seen : List Event) (legal : IsLegal law seen) (shows : ShowsAll law holds) where
  -- of so many entries a log that shows what it holds has one beginning
  pub fronts_agree : (a b : List Entry) → IsFront holds seen a → IsFront holds seen b → length a ≡ length b → a ≡ b
  fronts_agree a b f h size = same_gets a b size (λ i x y at is.
      let same : Some x ≡ Some y = sym (shows seen i x legal (f i x at)) ∙ shows seen i y legal (h i y is) in
      cc)

  module _ (meaning : Meaning) (nodes : ℕ) (v : ReplicaView) (f : Follows holds meaning seen v) where
    -- what was applied is shown, so it may be trimmed as far as the rules let its entries go
    pub free_to : ((log : List Entry) → IsFront holds seen log → length log ≡ v.cursor → law.floor log (trim_to nodes v)) → IsFree (state_of seen).shown law.floor (trim_to nodes v)
    free_to free = record {
      log = f.now.log;
      shows = λ i below. let e = there f.now.log i below in shows seen i e.0 legal (f.now.front i e.0 e.1) ∙ sym e.1;
      free = free f.now.log f.now.front f.now.size;
    }

    -- the rules go by the state that the entries led to, and those are these
    pub floor_applied : IsFloor meaning.state law.floor nodes → (log : List Entry) → IsFront holds seen log → length log ≡ v.cursor → law.floor log (trim_to nodes v)
    floor_applied low log front size =
        let same = fronts_agree f.now.log log f.now.front front (f.now.size ∙ sym size) in
        subst (λ l. law.floor l (trim_to nodes v)) same
        (subst (λ n. law.floor f.now.log (min n (min (trim_of v.contents) (least_of nodes v.contents)))) f.now.size (low f.now.log v.contents f.now.led))

pub within_cursor : (nodes : ℕ) (v : ReplicaView) → trim_to nodes v ≤ v.cursor
within_cursor nodes v = omega arith
