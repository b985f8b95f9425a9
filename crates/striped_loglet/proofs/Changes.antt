-- One stripe changes, or none.
use Rattle.std.proofs.Common.{◌≡◌, inl, inr, ℕ, ◌+◌, ◌-◌, ◌*◌, ◌^◌, ◌<◌, ◌≤◌, set, Option, Some, None, true, refl, sym, ap, ◌∙◌, subst, arith, min}
use Rattle.std.specs.Prelude.{slice_get}
use Rattle.loglet_api.specs.View.{LogletView, Operation, operation_at, size_of}
use Rattle.loglet_api.specs.Sound.{IsSound}
use Rattle.loglet_api.specs.Step.{RoseBy, Advances}
use Rattle.loglet_api.specs.Keeps.{Keeps}
use Rattle.loglet_api.proofs.Keeps.{keeps_same}
use Rattle.stripe_rule.specs.Stripes.{covered, share}
use Rattle.stripe_rule.proofs.Shares.{share_covers, share_least}
use Rattle.striped_loglet.specs.declared.marks.Marks.{Marks}
use Rattle.striped_loglet.specs.Views.{total, any_shut, joined}
use Rattle.striped_loglet.specs.State.{Plain, State, sum_below, count_of, faults_of, counted}
use Rattle.striped_loglet.specs.Going.{owed, IsStripe, IsStriped, IsShaped}
use Rattle.striped_loglet.proofs.Lists.{within, either, length_set, set_here, set_there, set_get, total_set, total_at, map_same, any_shut_at, shut_any}
use Rattle.striped_loglet.proofs.Joins.{joined_same, entry_there}
use Rattle.striped_loglet.proofs.Laters.{Goes, entry_later}

pub share_rises : (m j a b : ℕ) → j < m → a ≤ b → share m j a ≤ share m j b
share_rises m j a b l h = let c : b ≤ covered m j (share m j b) = share_covers m j b l in share_least m j a (share m j b) l (omega (arith, c, h))

pub advances_same : (o : Option Operation) → Advances o o
advances_same None = tt
advances_same (Some o) = (refl, inr (refl, omega arith))

-- the stripe j shows w now
abbrev pub after : State → ℕ → LogletView → Marks → (ℕ → Option Plain) → State
after s j w marks at = record { views = set s.views j w; shape = s.shape; marks = marks; at = at }

-- the numbers of the loglet never go back
pub record Forward (a b : Marks) : Type 0 where
  pub size : a.size ≤ b.size
  pub cut : a.cut ≤ b.cut
  pub reach : a.reach ≤ b.reach
  pub firm : a.firm ≤ b.firm
  pub begun : a.begun ≤ b.begun
  pub seals : a.seals ≤ b.seals
  pub refusals : min a.refusals (2 ^ 64 - 1) ≤ b.refusals

pub forward_same : (a : Marks) → Forward a a
forward_same a = record { size = omega arith; cut = omega arith; reach = omega arith; firm = omega arith; begun = omega arith; seals = omega arith; refusals = omega arith }

-- how a stripe went on
pub record StripeGoes (v w : LogletView) (ends : ℕ → Type 0) : Type 0 where
  pub keeps : Keeps v w
  pub down : RoseBy (w.down - v.down) v.faults w.faults
  pub small : w.faults < 2 ^ 64
  pub tickets : (t : ℕ) (o : Operation) → operation_at v.operations t ≡ Some o → ¬ (ends t) → Advances (Some o) (operation_at w.operations t)

-- the operations of one stripe that end
abbrev pub at_stripe : ℕ → (ℕ → Type 0) → ℕ → ℕ → Type 0
at_stripe j ends i t = (j ≡ i) × ends t

faults_rise : (S S' v w r q : ℕ) → S' + v ≡ S + w → v ≤ w → min r (2 ^ 64 - 1) ≤ q → RoseBy (w - v) (counted S r) (counted S' q)
faults_rise S S' v w r q e l k = omega (arith, e, l, k)

faults_up : (S S' v w r q : ℕ) → S' + v ≡ S + w → v ≤ w → min r (2 ^ 64 - 1) ≤ q → counted S r ≤ counted S' q
faults_up S S' v w r q e l k = omega (arith, e, l, k)

down_rise : (S S' v w r q D D' d f : ℕ) → w ≤ S' → S' + v ≡ S + w → D' + d ≡ D + f → v ≤ w → min r (2 ^ 64 - 1) ≤ q → w < 2 ^ 64 → RoseBy (f - d) v w → RoseBy (D' - D) (counted S r) (counted S' q)
down_rise S S' v w r q D D' d f part e g l k small rose =
    let less : D' - D ≤ f - d = omega (arith, g) in
    let more : RoseBy (w - v) (counted S r) (counted S' q) = faults_rise S S' v w r q e l k in
    up S S' v w r q (D' - D) (f - d) part e l k rose less
  where
    up : (S S' v w r q x y : ℕ) → w ≤ S' → S' + v ≡ S + w → v ≤ w → min r (2 ^ 64 - 1) ≤ q → RoseBy y v w → x ≤ y → RoseBy x (counted S r) (counted S' q)
    up S S' v w r q x y part e l k rose less = omega (arith, part, e, l, k, rose, less)

pub goes_set : (s : State) (j : ℕ) (v w : LogletView) (marks : Marks) (at : ℕ → Option Plain) (ends : ℕ → Type 0) → IsStriped s → slice_get s.views j ≡ Some v → StripeGoes v w ends → Forward s.marks marks → w.cut ≤ share (count_of s) j marks.cut
    → Goes s (after s j w marks at) (at_stripe j ends)
goes_set s j v w marks at ends h is g f cut =
    let xs = s.views in
    let n = after s j w marks at in
    let faults : total (λ x. x.faults) (set xs j w) + v.faults ≡ total (λ x. x.faults) xs + w.faults = total_set (λ x. x.faults) xs j v w is in
    let downs : total (λ x. x.down) (set xs j w) + v.down ≡ total (λ x. x.down) xs + w.down = total_set (λ x. x.down) xs j v w is in
    record {
      count = length_set xs j w;
      some = omega (arith, h.shaped.count.0);
      shape = refl;
      forth = λ i x e. elim (either j i) [
        | inl same ↦ (w, subst (λ (k : ℕ). slice_get (set xs j w) k ≡ Some w) same (set_here xs j v w is), (let o : v ≡ x = some_same v x (sym is ∙ ap (λ k. slice_get xs k) same ∙ e) in subst (λ (y : LogletView). Keeps y w) o g.keeps))
        | inr other ↦ (x, set_there xs j i w other ∙ e, keeps_same x)
      ];
      back = λ i y e. elim (set_get xs j i v w y is e) [
        | inl here ↦ (v, subst (λ (k : ℕ). slice_get xs k ≡ Some v) here.0 is, subst (λ (z : LogletView). Keeps v z) here.1 g.keeps)
        | inr there ↦ (y, there.1, keeps_same y)
      ];
      tickets = λ i x y t o e d has open'. elim (set_get xs j i v w y is d) [
        | inl here ↦ (let o' : v ≡ x = some_same v x (sym is ∙ ap (λ k. slice_get xs k) here.0 ∙ e) in
            subst (λ (z : LogletView). Advances (Some o) (operation_at z.operations t)) here.1 (g.tickets t o (subst (λ (z : LogletView). operation_at z.operations t ≡ Some o) (sym o') has) (λ k. open' (here.0, k))))
        | inr there ↦ (let o' : x ≡ y = some_same x y (sym e ∙ there.1) in
            subst (λ (z : LogletView). Advances (Some o) (operation_at z.operations t)) o' (rw has (advances_same (Some o))))
      ];
      cuts = λ i y d. elim (set_get xs j i v w y is d) [
        | inl here ↦ subst (λ (k : ℕ). y.cut ≤ share (count_of s) k marks.cut) here.0 (subst (λ (z : LogletView). z.cut ≤ share (count_of s) j marks.cut) here.1 cut)
        | inr there ↦ (let old = (h.stripes i y there.1).cut in let up = share_rises (count_of s) i s.marks.cut marks.cut (within xs i y there.1) f.cut in omega (arith, old, up))
      ];
      rises = λ i x y e d. elim (set_get xs j i v w y is d) [
        | inl here ↦ (let o' : v ≡ x = some_same v x (sym is ∙ ap (λ k. slice_get xs k) here.0 ∙ e) in
            subst (λ (z : LogletView). RoseBy (z.faults - x.faults) (faults_of s) (faults_of n)) here.1
            (subst (λ (z : LogletView). RoseBy (w.faults - z.faults) (faults_of s) (faults_of n)) o' (faults_rise _ _ v.faults w.faults s.marks.refusals marks.refusals faults g.keeps.faults f.refusals)))
        | inr there ↦ (let o' : x ≡ y = some_same x y (sym e ∙ there.1) in
            let up = faults_up (total (λ z. z.faults) xs) (total (λ z. z.faults) (set xs j w)) v.faults w.faults s.marks.refusals marks.refusals faults g.keeps.faults f.refusals in
            subst (λ (z : LogletView). RoseBy (z.faults - x.faults) (faults_of s) (faults_of n)) o' (none x.faults (faults_of s) (faults_of n) up))
      ];
      size = f.size;
      cut = f.cut;
      reach = f.reach;
      firm = f.firm;
      begun = f.begun;
      seals = f.seals;
      faults = faults_up _ _ v.faults w.faults s.marks.refusals marks.refusals faults g.keeps.faults f.refusals;
      down = down_rise _ _ v.faults w.faults s.marks.refusals marks.refusals _ _ v.down w.down (total_at (λ x. x.faults) (set xs j w) j w (set_here xs j v w is)) faults downs g.keeps.faults f.refusals g.small g.down;
      quorum = map_same (λ x. x.quorum) xs j v w is g.keeps.quorum;
    }
  where
    some_same : (a c : LogletView) → Some a ≡ Some c → a ≡ c
    some_same a c h = cc

    none : (x f g : ℕ) → f ≤ g → RoseBy (x - x) f g
    none x f g l = omega (arith, l)

-- no stripe changes
abbrev pub with_marks : State → Marks → (ℕ → Option Plain) → State
with_marks s marks at = record { views = s.views; shape = s.shape; marks = marks; at = at }

pub goes_marks : (s : State) (marks : Marks) (at : ℕ → Option Plain) → IsStriped s → Forward s.marks marks → Goes s (with_marks s marks at) (λ i t. ⊥)
goes_marks s marks at h f =
    record {
      count = refl;
      some = omega (arith, h.shaped.count.0);
      shape = refl;
      forth = λ i v e. (v, e, keeps_same v);
      back = λ i v e. (v, e, keeps_same v);
      tickets = λ i v w t o e d has stays. (let same : v ≡ w = some_same v w (sym e ∙ d) in subst (λ (z : LogletView). Advances (Some o) (operation_at z.operations t)) same (rw has (advances_same (Some o))));
      cuts = λ i w d. (let old = (h.stripes i w d).cut in let up = share_rises (count_of s) i s.marks.cut marks.cut (within s.views i w d) f.cut in omega (arith, old, up));
      rises = λ i v w e d. (let same : v ≡ w = some_same v w (sym e ∙ d) in subst (λ (z : LogletView). RoseBy (z.faults - v.faults) (faults_of s) (faults_of (with_marks s marks at))) same (none v.faults (total (λ x. x.faults) s.views) s.marks.refusals marks.refusals f.refusals));
      size = f.size;
      cut = f.cut;
      reach = f.reach;
      firm = f.firm;
      begun = f.begun;
      seals = f.seals;
      faults = (let r = f.refusals in omega (arith, r));
      down = (let r = f.refusals in omega (arith, r));
      quorum = refl;
    }
  where
    some_same : (a c : LogletView) → Some a ≡ Some c → a ≡ c
    some_same a c h = cc

    none : (x S r q : ℕ) → min r (2 ^ 64 - 1) ≤ q → RoseBy (x - x) (counted S r) (counted S q)
    none x S r q l = omega (arith, l)

-- the log stays where the stripes keep it
pub log_later : (s n : State) (ends : ℕ → ℕ → Type 0) → IsStriped s → Goes s n ends → n.marks.cut ≡ s.marks.cut → joined n.views s.marks.cut (s.marks.size - s.marks.cut) ≡ joined s.views s.marks.cut (s.marks.size - s.marks.cut)
log_later s n ends h g cut =
    joined_same s.views n.views s.marks.cut (s.marks.size - s.marks.cut) (λ q a b.
    let there = entry_there s h q a (omega (arith, h.cut, h.reach, h.firm, b, a)) in
    entry_later s n ends g q there.0 (omega (arith, cut, a)) there.1 ∙ sym there.1)

pub shut_rises : (s n : State) (ends : ℕ → ℕ → Type 0) → Goes s n ends → any_shut s.views ≡ true → any_shut n.views ≡ true
shut_rises s n ends g e = let a = any_shut_at s.views e in let f = g.forth a.0 a.1 a.2 in shut_any n.views a.0 f.0 f.1 (f.2.shut a.3)

pub shaped_set : (s : State) (j : ℕ) (v w : LogletView) (marks : Marks) (at : ℕ → Option Plain) → IsShaped s → slice_get s.views j ≡ Some v → w.servers ≡ v.servers → IsShaped (after s j w marks at)
shaped_set s j v w marks at h is e =
    let n = after s j w marks at in
    let same : count_of n ≡ count_of s = length_set s.views j w in
    let all : total (λ x. x.servers) (set s.views j w) + v.servers ≡ total (λ x. x.servers) s.views + w.servers = total_set (λ x. x.servers) s.views j v w is in
    record {
      count = rw same h.count;
      servers = omega (arith, all, e, h.servers);
      few = h.few;
      room = h.room;
      rounds = rw same h.rounds;
      turn = h.turn;
    }

-- a stripe that kept its constants and got further
pub stripe_now : (s n : State) (i : ℕ) (v w : LogletView) → count_of n ≡ count_of s → n.shape ≡ s.shape → IsStripe s i v → IsSound w → w.room ≡ v.room → w.rounds ≡ v.rounds → w.limit ≡ v.limit
    → size_of w ≡ share (count_of s) i n.marks.size → w.cut ≤ share (count_of s) i n.marks.cut → n.marks.reach ≤ covered (count_of s) i w.reach → n.marks.firm ≤ covered (count_of s) i w.firm
    → w.begun + sum_below (λ t. owed i (n.at t)) n.marks.begun ≤ 4 * n.marks.begun → (1 ≤ w.seals → 1 ≤ n.marks.seals) → IsStripe n i w
stripe_now s n i v w count shape old sound room rounds limit size cut reach firm begun seals =
    record {
      sound = sound;
      room = rw (count, room, shape) old.room;
      rounds = rw (rounds, shape) old.rounds;
      limit = rw (limit, shape) old.limit;
      size = rw count size;
      cut = rw count cut;
      reach = rw count reach;
      firm = rw count firm;
      begun = begun;
      seals = seals;
    }
