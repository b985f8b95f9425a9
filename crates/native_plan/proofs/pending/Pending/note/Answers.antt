use Rattle.std.proofs.Common.{◌≡◌, ◌∙◌, ap, Some, get_or, set, Option}
use Rattle.std.specs.Vec.{with_item}
use Rattle.delos_types.specs.declared.entry.Entry.{Entry}
use Rattle.native_plan.specs.declared.member.Member.{Member}
use Rattle.native_plan.specs.declared.message.Message.TheVariants.{Told as Answered}
use Rattle.native_plan.specs.Pendings.{newer_of}
use Rattle.native_plan.specs.Members.{got_of, heard_by, no_member}
use Rattle.native_plan.proofs.Counts.{same_default}
use Rattle.native_plan.proofs.pending.Pending.note.Goals as goal

pub returns-clause-notes : goal.returns-clause-notes
returns-clause-notes c = λ e told h.
    let here : c.index_mut.result.now ≡ get_or c.args.self.now.members.items c.args.index no_member = c.index_mut.ensures.value ∙ same_default _ _ _ _ c.requires in
    let is : c.index_mut.result.now.message ≡ Some (Answered e told) = ap (λ (x : Member). x.message) here ∙ h in
    let heard = c.hear-got.ensures.heard e told is in
    let got : c.newer.result ≡ newer_of (got_of told) c.args.self.now.got = cc in
    record {
      rest = ap (λ (g : Option Entry). record c.args.self.now { members = with_item c.args.self.now.members c.args.index c.hear-got.new.self; got = g }) got;
      members = ap (λ (m : Member). set c.args.self.now.members.items c.args.index m) (heard.0 ∙ ap (heard_by c.args.self.now.want e told) here);
    }
