-- A striped loglet may go to another thread where its stripes may, and so may the loglets of a shelf.
use denote.Builtin
use denote.RattleType.{RattleType}
use denote.Enum.Declared as EnumDeclared
use denote.Param.Send.{IsSend, sendable, view_send, recorded_send, struct_send, enum_send, plain_send}
use denote.Struct.Declared
use Rattle.std.below.core.specs.contracts.clone.Clone+copy.TheImpl as copies
use Rattle.std.below.core.proofs.snapshot.Sent.{snapshot_send}
use Rattle.std.below.std_heap.proofs.GlobalAllocator.TheSendSync as heap
use Rattle.std.proofs.Crossing.{crosses}
use Rattle.std.proofs.alloc.Global.TheSendSync as global
use Rattle.std.proofs.collections.HashMap.TheSendSync as maps
use Rattle.std.proofs.hash.BuildHasherDefault.TheSendSync as builds
use Rattle.std.proofs.hash.FoldHasher.TheSendSync as folds
use Rattle.std.proofs.vec.Vec.TheSendSync as vecs
use Rattle.std.specs.contracts.alloc.Global
use Rattle.std.specs.contracts.hash.BuildHasherDefault
use Rattle.std.specs.contracts.hash.FoldHasher
use Rattle.std.specs.contracts.impls.GlobalAllocator.TheImpl as allocs
use Rattle.std.specs.contracts.prelude.BuildHasherDefaultBuildHasher.TheImpl as building
use Rattle.std.specs.contracts.prelude.FoldHasherHasher.TheImpl as folding
use Rattle.std.specs.contracts.prelude.U64Hash.TheImpl as hashing
use Rattle.std.specs.contracts.prelude.U64PartialEq.TheImpl as equality
use Rattle.std.specs.contracts.vec.Vec
use Rattle.disk_model.proofs.memory.MemDisk.TheSendSync as disks
use Rattle.disk_model.specs.contracts.memory.MemDisk
use Rattle.disk_model.specs.contracts.memory.MemDiskDisk.TheImpl as disk
use Rattle.file_loglet.proofs.file.FileLoglet.TheSendSync as files
use Rattle.loglet_api.specs.declared.loglet.Loglet
use Rattle.loglet_api.proofs.call.Answer.TheSendSync as answers
use Rattle.native_loglet.proofs.loglet.NativeLoglet.TheSendSync as natives
use Rattle.native_loglet.specs.contracts.loglet.NativeLoglet
use Rattle.striped_loglet.proofs.given.Given.TheSendSync as givens
use Rattle.striped_loglet.proofs.marks.Marks.TheSendSync as marks
use Rattle.striped_loglet.proofs.plan.Asked.TheSendSync as asked
use Rattle.striped_loglet.proofs.plan.Plan.TheSendSync as plans
use Rattle.striped_loglet.proofs.shape.Shape.TheSendSync as shapes
use Rattle.striped_loglet.proofs.stripe.Inner.TheSendSync as inners
use Rattle.striped_loglet.specs.contracts.pending.Pending
use Rattle.striped_loglet.specs.contracts.striped.StripedLoglet
use Rattle.striped_loglet.specs.contracts.striped.StripedLoglet.TheInside
use Rattle.shelf_loglets.specs.contracts.shelf.ShelfLoglet

pub pending_send : (T : RattleType) → IsSend (Pending.the_row T)
pending_send T = recorded_send (Pending.the_field T).row _ _ (Pending.the_type T).to_one
    (struct_send (Declared.shape (Pending.the_type T)) (asked.the_field_send, (snapshot_send (Vec.the_row T Global.the_row allocs.ghosts), (plans.the_field_send, (search (inners.the_send, crosses, sendable), (search (answers.the_send, crosses, sendable), tt))))))

pub striped_send : (T : RattleType) (g : Loglet.Ghosts T.Denot) → IsSend T → IsSend (StripedLoglet.the_row T g)
striped_send T g s = view_send (TheInside.the_row T g) _ _ _ _ (recorded_send (TheInside.the_field T g).row _ _ (TheInside.the_type T g).to_one
    (struct_send (Declared.shape (TheInside.the_type T g)) (
      shapes.the_field_send,
      (
        vecs.the_send T Global.the_row allocs.ghosts s global.the_send heap.the_frees,
        (
          marks.the_field_send,
          (
            maps.the_send Builtin.u64 (Pending.the_row T) (BuildHasherDefault.the_row FoldHasher.the_row) Global.the_row FoldHasher.the_row equality.ghosts hashing.ghosts
                (building.ghosts FoldHasher.the_row folding.ghosts building.no_dict (copies.ghosts FoldHasher.the_row) building.no_dict) folding.ghosts allocs.ghosts
                (plain_send _ _ _ _ _) (pending_send T) (builds.the_send FoldHasher.the_row folds.the_send) global.the_send heap.the_frees,
            (givens.the_field_send, tt),
          ),
        ),
      ),
    )))

native_send : IsSend (NativeLoglet.the_row MemDisk.the_row disk.ghosts)
native_send = natives.the_send MemDisk.the_row disk.ghosts disks.the_send

field_send : IsSend (ShelfLoglet.the_field).row
field_send = enum_send (EnumDeclared.shape ShelfLoglet.the_type) (
  (files.the_send MemDisk.the_row disk.ghosts disks.the_send, tt),
  ((native_send, tt), ((striped_send _ _ native_send, tt), ((striped_send _ _ (striped_send _ _ native_send), tt), tt))),
)

pub shelf_send : IsSend ShelfLoglet.the_row
shelf_send = recorded_send (ShelfLoglet.the_field).row _ _ (ShelfLoglet.the_type).to_one field_send
