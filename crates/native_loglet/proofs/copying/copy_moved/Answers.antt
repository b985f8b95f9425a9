use Rattle.std.proofs.Common.{◌≡◌, ◌∙◌, ap, sym, get_or, Some}
use Rattle.native_plan.specs.declared.member.Member.{Member}
use Rattle.native_plan.specs.Members.{no_member}
use Rattle.native_plan.proofs.Counts.{same_default}
use Rattle.native_loglet.proofs.copying.copy_moved.Goals as goal

pub picked-server-requires : goal.picked-server-requires
picked-server-requires c = c.requires.can.1.some

pub copy_message-requires : goal.copy_message-requires
copy_message-requires c =
    let member : c.index.result.now ≡ get_or c.args.p.now.members.items c.picked-server.result no_member = c.index.ensures ∙ same_default _ _ _ _ c.picked-server.ensures.here in
    record { there = λ e asked. c.requires.can.1.asks c.picked-server.result e (ap (λ (m : Member). m.message) (sym member) ∙ c.in-Some.is ∙ ap (λ x. Some x) asked) }
