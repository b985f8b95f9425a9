-- A fabric of fresh parts.
use Rattle.std.proofs.Common.{◌≡◌, ◌≢◌, inl, ℕ, zero, suc, ◌<◌, ◌≤◌, List, [], ◌∷◌, length, map, Some, None, Bool, true, refl, sym, ap, ◌∙◌, subst, arith}
use Rattle.std.specs.Prelude.{slice_get, All}
use Rattle.std.proofs.lemmas.List.{length-map}
use Rattle.std.proofs.lemmas.List.Elements.{All-head, All-tail}
use Rattle.std.proofs.lemmas.Option.{slice_get_within}
use Rattle.loglet_api.specs.declared.call.Kind.{Kind}
use Rattle.loglet_api.specs.View.{LogletView, operation_at, IsFresh}
use Rattle.loglet_api.specs.Sound.{IsSound}
use Rattle.loglet_api.specs.Servers.{ServersView}
use Rattle.legal_journal.specs.Law.{Law}
use Rattle.legal_journal.specs.Journal.{fresh_cell}
use Rattle.register_api.specs.View.{RegisterView}
use Rattle.register_api.specs.View as register_view
use Rattle.fabric_core.specs.Fabric.{FabricOk, IsAsTold, MatchesOperation}
use Rattle.fabric_core.proofs.Ran.{no_drift}

at_all : {A : Type 0} (P : LogletView → Type 0) (view : A → LogletView) (xs : List A) (i : ℕ) (v : LogletView) → All (λ x. P (view x)) xs → slice_get (map view xs) i ≡ Some v → P v
at_all P view [] i v h e = absurd (cc)
at_all P view (x ∷ xs) zero v h e = let same : view x ≡ v = cc in subst P same (All-head (λ y. P (view y)) x xs h)
at_all P view (x ∷ xs) (suc i) v h e = at_all P view xs i v (All-tail (λ y. P (view y)) x xs h) e

all_none : {B : Type 0} (items : B → List Bool) (ms : List B) (i : ℕ) → i < length ms → All (λ m. items m ≡ []) ms → slice_get (map items ms) i ≡ Some []
all_none items [] i l h = absurd (omega arith)
all_none items (m ∷ ms) zero l h = ap (λ x. Some x) (All-head (λ y. items y ≡ []) m ms h)
all_none items (m ∷ ms) (suc i) l h = all_none items ms i (omega arith) (All-tail (λ y. items y ≡ []) m ms h)

fresh_as_told : (v : LogletView) → IsFresh v → IsSound v → IsAsTold fresh_cell v
fresh_as_told v f sound = record {
  cut = f.cut;
  log = f.log;
  reach = f.reach;
  cap = f.cap;
  firm = f.firm;
  begun = f.begun;
  seals = f.seals;
  lacks = f.lacks;
  sealed = λ e. absurd (cc);
  operations = λ t. subst (λ ops. MatchesOperation None (operation_at ops t)) (sym f.operations) tt;
  left = λ t o e. let no : None ≡ Some o = ap (λ ops. operation_at ops t) (sym f.operations) ∙ e in absurd (cc);
  sound = sound;
}

no_mark : (t : ℕ) → slice_get {X = Bool} [] t ≢ Some true
no_mark t e = absurd (cc)

pub opened : (law : Law) {kinds : List Kind} {A B : Type 0} (view : A → LogletView) (serving : A → ServersView) (items : B → List Bool) (cells : List A) (marks : List B) (register : RegisterView) → 0 < length cells → length cells ≤ 64 → map (λ v. v.servers) (map view cells) ≡ law.shelf → map (λ v. v.kind) (map view cells) ≡ kinds → All (λ l. IsFresh (view l)) cells → All (λ l. IsSound (view l)) cells → register_view.IsFresh register → length marks ≡ length cells → All (λ m. items m ≡ []) marks → FabricOk law kinds (record { cells = map view cells; serving = map serving cells; register = register; journal = [] }) (map items marks)
opened law view serving items cells marks register least most shelf_is kinds_are fresh sound r count none =
    let size : length law.shelf ≡ length cells = sym (ap length shelf_is) ∙ (length-map (map view cells) (λ (v : LogletView). v.servers) ∙ length-map cells view) in record {
      legal = record { least = omega arith; most = omega arith; steps = tt };
      shelf_is = shelf_is;
      kinds_are = kinds_are;
      cells = λ i v e.
          let f = at_all IsFresh view cells i v fresh e in record {
            told = fresh_as_told v f (at_all IsSound view cells i v sound e);
            here = [];
            is = all_none items marks i (omega (arith, slice_get_within (map view cells) i v e, length-map cells view)) none;
            marked = record { count = refl; each = no_mark };
            ran = record { opening = v; fresh = f; kind = refl; servers = refl; quorum = refl; room = refl; rounds = refl; limit = refl; run = refl };
          };
      register = record {
        down = r.down;
        given = r.given;
        given_chain = r.given_chain;
        current = inl (r.version, r.chain);
        torn = λ c e. let none = r.asked in absurd (cc);
      };
      register_ran = record { opening = register; fresh = r; run = no_drift register };
    }
